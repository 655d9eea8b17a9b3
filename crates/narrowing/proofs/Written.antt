-- A list of so many places that is written place by place: the places before k are written.
-- Assumes nothing.
use Prim.Native.Nat.{ℕ, ◌+◌, ◌<◌}
use native.Mathlib.Decide.{dec_lt}
use native.Mathlib.Omega.{arith}
use mathlib.Core.Path.{◌≡◌, sym, ap, ◌∙◌}
use mathlib.Core.List.{List}
use lib.ListN.{length, get_or, set, length-set}
use lib.Seq.{get_or-set_same, get_or-set_other}

module _ {A : Type 0} (z : A) (value : ℕ → A) (size : ℕ) where
  pub record Written (l : List A) (k : ℕ) : Type 0 where
    pub long : length l ≡ size
    pub done : (j : ℕ) → j < k → get_or l j z ≡ value j

  pub written_next : {l : List A} {k : ℕ} (x : A) → k < size → x ≡ value k → Written l k → Written (set l k x) (k + 1)
  written_next {l} {k} x inside e w = record {
    long = length-set l k x ∙ w.long;
    done = λ j h. elim (dec_lt j k) [
      | yes before ↦ get_or-set_other l k j x z (λ same. omega arith) ∙ w.done j before
      | no n ↦
          let same : j ≡ k = omega arith in
          ap (λ (i : ℕ). get_or (set l k x) i z) same ∙ get_or-set_same l k x z (omega (arith, w.long)) ∙ e ∙ ap value (sym same)
    ];
  }
