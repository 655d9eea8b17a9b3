-- The invariant: the window t steps on, and what these steps send at the front of a cleared output.
use mathlib.Core.Path.{◌≡◌}
use mathlib.Core.List.{List}
use Prim.Native.Nat.{ℕ}
use lib.ListN.{length}
use lib.Seq.{sets}
use Rattle.poly.specs.Word.{number}
use Rattle.code.specs.Model.Window.{Later}
use Rattle.code.specs.declared.window.Window.{Window}
use Rattle.code.proofs.Sent.{sent}
use Rattle.code.proofs.encoder.encode_steps.Given as goal

pub record Sending (output₀ gs : List ℕ) (steps : ℕ) (w₀ : Window) (output : List ℕ) (w : Window) (t : ℕ) : Type 0 where
  pub window : Later w₀ t w
  pub same_size : length output ≡ length output₀
  pub stored : output ≡ sets output₀ 0 (sent w₀.memory steps gs (number w₀.rest) t)

abbrev pub invariant-loop-t : goal.invariant-loop-t
invariant-loop-t l = Sending l.initial.output l.generators l.t-end l.initial.window l.output l.window l.t
