-- The lowest bit of what is left of the word is that of its low half.
use mathlib.Core.Path.{◌≡◌, ap}
use Prim.Native.Nat.{ℕ, ◌+◌, ◌*◌, ◌%◌, ◌^◌}
use native.Mathlib.Omega.{arith}
use Rattle.code.proofs.window.Window.inputs.Goals as goal

low_bit : (h l : ℕ) → l % 2 ≡ (h * 2 ^ 64 + l) % 2
low_bit h l = omega arith

pub returns : goal.returns
returns c = let w = c.args.self in ap (λ (x : ℕ). 2 * w.state + x) (low_bit w.rest.high w.rest.low)
