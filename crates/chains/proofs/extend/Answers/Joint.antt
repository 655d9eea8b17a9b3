-- One event joined to a chain begun: what joining the inputs asks, and what `extend` makes.
-- Assumes nothing.
use Prim.Native.Nat.{ℕ, ◌+◌, ◌-◌, ◌*◌, ◌/◌, ◌%◌, ◌^◌, ◌≤◌, ◌<◌}
use native.Mathlib.Nat.{lt_of_le_of_lt, mul-le-mul_left}
use native.Mathlib.Omega.{arith}
use mathlib.Core.Path.{◌≡◌, sym, ap, ap₂, ◌∙◌}
use mathlib.Core.List.{List}
use lib.Pow.{pow_mono, low, high}
use Rattle.poly.specs.declared.word.Word.{Word}
use Rattle.poly.specs.Word.{number}
use Rattle.events.specs.declared.Event.{Event}
use Rattle.paths.specs.Model.Joining.{first_or}
use Rattle.bounds.specs.declared.Chain.{Chain}
use Rattle.bounds.specs.Model.Tables.{bits_at}
use Rattle.chains.specs.Model.Chaining.{word_of, extended, ToExtend}

module _ {work : List ℕ} {begun : Chain} {e : Event} (ask : ToExtend work begun e) where
  abbrev N : ℕ
  N = bits_at work

  abbrev place : ℕ
  place = N - begun.steps

  -- the input, moved up, fits a word: no further up than where the event ends the chain
  pub input_up : word_of e * 2 ^ place < 2 ^ 128
  input_up =
      let short = ask.short in
      let up : 2 ^ place ≤ 2 ^ (N - e.length) = pow_mono {i = place} {j = N - e.length} (omega arith) in
      lt_of_le_of_lt (mul-le-mul_left (word_of e) up) ask.joinable.whole

abbrev word : ℕ → ℕ → Word
word l h = record { low = l; high = h }

-- a word is the halves of its number
word_is : (w : Word) → w.low < 2 ^ 64 → w ≡ word (number w % 2 ^ 64) (number w / 2 ^ 64)
word_is w small = ap₂ word (sym (low w.high 64 small)) (sym (high w.high 64 small))

-- a chain of which all but the first event's length and the inputs are known
abbrev pub joint : Chain → Event → ℕ → Word → Chain
joint begun e first w = record { first = first; steps = begun.steps - e.length; budget = begun.budget - e.weight; inputs = w }

pub joined_is : (N : ℕ) (begun : Chain) (e : Event) (first : ℕ) (w : Word) → first ≡ first_or begun.first e.length → w.low < 2 ^ 64
    → number w ≡ number begun.inputs + word_of e * 2 ^ (N - begun.steps) → joint begun e first w ≡ extended N begun e
unfolding extended
joined_is N begun e first w f small q = ap₂ (joint begun e) f (word_is w small ∙ ap (λ (c : ℕ). word (c % 2 ^ 64) (c / 2 ^ 64)) q)
