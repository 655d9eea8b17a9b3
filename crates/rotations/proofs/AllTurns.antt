-- The rotations of a word that are still to be appended: none of the zero word; of another word all, one after another.
-- Assumes nothing.
use Prim.Native.Nat.{ℕ, zero, suc, ◌+◌, ◌-◌, ◌%◌, ◌^◌, ◌≤◌, ◌<◌}
use native.Mathlib.Nat.{sub-zero}
use native.Mathlib.Numerals.{add-one}
use native.Mathlib.Decide.{dec_lt}
use native.Mathlib.Omega.{arith}
use mathlib.Core.Path.{◌≡◌, refl, sym, ap, ◌∙◌, subst}
use mathlib.Core.Bool.{Bool, true, false}
use mathlib.Core.List.{List, [], ◌∷◌, map}
use borrow.Author.Tests.{ltb-true, ltb-false}
use lib.Arith.{lt-one}
use lib.Dec.{ltb, lt→ltb}
use lib.ListN.{length}
use lib.Pow.{pow_pos}
use Rattle.lists.specs.Lists.{up_from, filter}
use Rattle.lists.proofs.Choices.{cond_true}
use Rattle.poly.specs.Poly.{bit}
use Rattle.poly.proofs.Bits.{bit_zero, from_bits_cong, from_bits_bits}
use Rattle.code.specs.Trellis.{place, rotate}
use Rattle.code.proofs.Rotation.{rotate_lt, rotate-rotate, rotate_zero, rotate-all}
use Rattle.paths.specs.Paths.{path_room}
use Rattle.paths.specs.Model.Joining.{turns}
use Rattle.rotations.specs.Model.Put.{put, puts}
use Rattle.rotations.proofs.Puts.{length-put, put-place}

-- ---- rotations of zero, and of other words

rotate_of_zero : (N r : ℕ) → rotate N r 0 ≡ 0
unfolding rotate place
rotate_of_zero N r =
    from_bits_cong N (λ t. place N 0 (t + r)) (λ t. bit t 0) (λ t _. bit_zero ((t + r) % N) ∙ sym (bit_zero t)) ∙ from_bits_bits N 0 (pow_pos N)

-- turned on, all the way round
one_zero : (N u : ℕ) → 0 < N → u < 2 ^ N → rotate N 1 u ≡ 0 → u ≡ 0
one_zero N u p h e =
    sym (rotate-all N u h) ∙ ap (λ (r : ℕ). rotate N r u) (before N p) ∙ sym (rotate-rotate N (N - 1) 1 u p) ∙ ap (rotate N (N - 1)) e ∙ rotate_of_zero N (N - 1)
  where
    before : (x : ℕ) → 0 < x → x ≡ x - 1 + 1
    before x q = omega arith

one_some : (N u : ℕ) → 0 < N → u < 2 ^ N → 0 < u → 0 < rotate N 1 u
one_some N u p h s =
    elim (dec_lt 0 (rotate N 1 u)) [
      | yes l ↦ l
      | no n ↦ absurd (never u s (one_zero N u p h (nothing (rotate N 1 u) n)))
    ]
  where
    nothing : (x : ℕ) → (0 < x → ⊥) → x ≡ 0
    nothing x n = omega arith

    never : (x : ℕ) → 0 < x → x ≡ 0 → ⊥
    never x p q = omega arith

pub rotate_more : (N r c : ℕ) → 0 < N → rotate N (r + 1) c ≡ rotate N 1 (rotate N r c)
rotate_more N r c p = ap (λ (q : ℕ). rotate N q c) (swap r) ∙ sym (rotate-rotate N 1 r c p)
  where
    swap : (x : ℕ) → x + 1 ≡ 1 + x
    swap x = omega arith

rotate_some : (N r c : ℕ) → 0 < N → c < 2 ^ N → 0 < c → 0 < rotate N r c
rotate_some N zero c p h s = subst (λ (x : ℕ). 0 < x) (sym (rotate_zero N c h)) s
rotate_some N (suc r) c p h s =
    subst (λ (x : ℕ). 0 < x) (sym (ap (λ (q : ℕ). rotate N q c) (sym (add-one r)) ∙ rotate_more N r c p))
    (one_some N (rotate N r c) p (rotate_lt N r c) (rotate_some N r c p h s))

-- ---- the rotations by r, r + 1, .., r + k - 1

unfoldable pub turns_from : ℕ → ℕ → ℕ → ℕ → List ℕ
turns_from N r k c = filter (λ u. ltb 0 u) (map (λ q. rotate N q c) (up_from r k))

none_of_zero : (N r k : ℕ) → turns_from N r k 0 ≡ []
unfolding turns_from up_from filter
none_of_zero N r zero = refl
none_of_zero N r (suc k) = rw (rotate_of_zero) (none_of_zero N (suc r) k)

from_more : (N r k c : ℕ) → 0 < rotate N r c → turns_from N r (suc k) c ≡ rotate N r c ∷ turns_from N (suc r) k c
unfolding turns_from up_from filter
from_more N r k c h =
    cond_true (ltb 0 (rotate N r c)) (rotate N r c ∷ turns_from N (suc r) k c) (turns_from N (suc r) k c) (lt→ltb 0 (rotate N r c) h)

-- ---- what the loop cites

pub is_zero : (n : ℕ) (b : Bool) → b ≡ ltb n (2 ^ 0) → b ≡ true → n ≡ 0
is_zero n b e t = lt-one (ltb-true n 1 (sym e ∙ t))

pub is_some : (n : ℕ) (b : Bool) → b ≡ ltb n (2 ^ 0) → b ≡ false → 0 < n
is_some n b e t = ltb-false n 1 (sym e ∙ t)

pub turns_zero : (N first c : ℕ) (s : List ℕ × ℕ) → c ≡ 0 → s ≡ puts (turns N first c) s
unfolding puts turns turns_from
turns_zero N first c s e = sym (ap (λ (x : ℕ). puts (turns_from N 0 first x) s) e ∙ ap (λ (l : List ℕ). puts l s) (none_of_zero N 0 first))

pub turns_begin : (N first c : ℕ) (s : List ℕ × ℕ) → puts (turns_from N 0 (first - 0) c) s ≡ puts (turns N first c) s
unfolding turns turns_from
turns_begin N first c s = ap (λ (k : ℕ). puts (turns_from N 0 k c) s) (sub-zero first)

pub turns_again : (N first r c u : ℕ) (s s' whole : List ℕ × ℕ) → 0 < N → c < 2 ^ N → 0 < c → r < first → u ≡ rotate N r c → s' ≡ put u s
    → puts (turns_from N r (first - r) c) s ≡ whole → puts (turns_from N (r + 1) (first - (r + 1)) c) s' ≡ whole
unfolding puts
turns_again N first r c u s s' whole p h some l e step inv =
    ap (puts (turns_from N (r + 1) (first - (r + 1)) c)) (step ∙ ap (λ (x : ℕ). put x s) e)
    ∙ ap (λ (q : ℕ). puts (turns_from N q (first - (r + 1)) c) (put (rotate N r c) s)) (add-one r)
    ∙ ap (λ (l : List ℕ). puts l s) (sym (from_more N r (first - (r + 1)) c (rotate_some N r c p h some)))
    ∙ ap (λ (k : ℕ). puts (turns_from N r k c) s) (left first r l)
    ∙ inv
  where
    left : (x y : ℕ) → y < x → suc (x - (y + 1)) ≡ x - y
    left x y q = omega arith

pub turns_end : (N first r c : ℕ) (s whole : List ℕ × ℕ) → first ≤ r → puts (turns_from N r (first - r) c) s ≡ whole → s ≡ whole
unfolding puts turns_from up_from filter
turns_end N first r c s whole h inv = ap (λ (k : ℕ). puts (turns_from N r k c) s) (none first r h) ∙ inv
  where
    none : (x y : ℕ) → x ≤ y → 0 ≡ x - y
    none x y q = omega arith

-- the word in the loop, turned once more
pub turned_again : (N r c u u' : ℕ) → 0 < N → u ≡ rotate N r c → u' ≡ rotate N 1 u → u' ≡ rotate N (r + 1) c
turned_again N r c u u' p e step = step ∙ ap (rotate N 1) e ∙ sym (rotate_more N r c p)

pub turned_lt : (N r c u : ℕ) → u ≡ rotate N r c → u < 2 ^ N
turned_lt N r c u e = subst (λ (x : ℕ). x < 2 ^ N) (sym e) (rotate_lt N r c)

-- the table and the place after one word more
pub length_after : (u : ℕ) (t t' : List ℕ) (at at' : ℕ) → (t', at') ≡ put u (t, at) → length t' ≡ length t
length_after u t t' at at' e = ap (λ (s : List ℕ × ℕ). length s.0) e ∙ length-put u (t, at)

pub place_after : (u : ℕ) (t t' : List ℕ) (at at' : ℕ) → (t', at') ≡ put u (t, at) → at' ≤ path_room (length t') + 1
place_after u t t' at at' e =
    subst (λ (n : ℕ). at' ≤ path_room n + 1) (sym (length_after u t t' at at' e))
    (subst (λ (s : List ℕ × ℕ). s.1 ≤ path_room (length t) + 1) (sym e) (put-place u (t, at)))
