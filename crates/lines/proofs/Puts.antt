-- Pieces of a text put one after another.
-- Assumes nothing.
use Prim.Native.Nat.{ℕ, ◌+◌, ◌/◌, ◌%◌, ◌≤◌, ◌<◌}
use native.Mathlib.Nat.{add-zero, le_refl}
use native.Mathlib.Omega.{arith}
use mathlib.Core.Path.{◌≡◌, refl, sym, ap, ap₂, ◌∙◌, subst}
use mathlib.Core.List.{List, [], ◌∷◌, ◌++◌}
use lib.ListN.{length, take, drop, set, length-append}
use lib.Seq.{sets, sets-eq, length-sets, take_all}
use borrow.Rule.Slice.PartMut.{put_mid}
use Rattle.std.proofs.lemmas.Slice.{put_mid-paste}
use Rattle.lists.proofs.Stores.{sets_append}
use Rattle.lines.specs.Lines.{digit, numeral}
use Rattle.lines.specs.Model.Steps.{Put}
use Rattle.lines.proofs.Numerals.{numeral_one, numeral_more}

pub put_none : (l : List ℕ) (at : ℕ) → Put 0 l at [] l at
put_none l at = record { stored = refl; next = sym (add-zero at); short = le_refl 0 }

pub put_byte : (l : List ℕ) (at b : ℕ) {x : ℕ} → x ≡ b → Put 1 l at (b ∷ []) (set l at x) (at + 1)
put_byte l at b e = record { stored = ap (set l at) e; next = refl; short = le_refl 1 }

-- bytes copied into a part of the buffer, of k
pub put_part : (l bytes : List ℕ) (at k : ℕ) {part : List ℕ} → at + length bytes ≤ length l → length bytes ≡ k → part ≡ bytes
    → Put (length bytes) l at bytes (put_mid at k l part) (at + length bytes)
put_part l bytes at k {part} h n e = record {
  stored =
      put_mid-paste at k l part bytes (length bytes) e n refl
      ∙ ap (λ (x : List ℕ). take at l ++ x ++ drop (at + length bytes) l) (take_all (length bytes) bytes (le_refl _)) ∙ sym (sets-eq bytes l at h);
  next = refl;
  short = le_refl _;
}

pub put_as : {m : ℕ} {l l' a b : List ℕ} {at end : ℕ} → a ≡ b → Put m l at a l' end → Put m l at b l' end
put_as {m} {l} {l'} {at = at} {end} e p = subst (λ (t : List ℕ). Put m l at t l' end) e p

pub put_to : {m : ℕ} {l l' a : List ℕ} {at end end' : ℕ} → end ≡ end' → Put m l at a l' end → Put m l at a l' end'
put_to {m} {l} {l'} {a} {at} e p = subst (λ (k : ℕ). Put m l at a l' k) e p

-- the bound: any that is not below the length
pub put_most : {m : ℕ} {l l' a : List ℕ} {at end : ℕ} (n : ℕ) → Put m l at a l' end → length a ≤ n → Put n l at a l' end
put_most n p h = record { stored = p.stored; next = p.next; short = h }

pub put_same_length : {m : ℕ} {l l' a : List ℕ} {at end : ℕ} → Put m l at a l' end → length l' ≡ length l
put_same_length {l = l} {a = a} {at = at} p = ap length p.stored ∙ length-sets l at a

-- a second piece, behind the first
pub joined : {m n : ℕ} {l l' l'' a b : List ℕ} {at middle end : ℕ} → Put m l at a l' middle → Put n l' middle b l'' end → Put (m + n) l at (a ++ b) l'' end
joined {l = l} {a = a} {b = b} {at = at} p q =
    record { stored = q.stored ∙ ap₂ (λ x k. sets x k b) p.stored p.next ∙ sym (sets_append l at a b); next = omega (arith, length-append a b, p.next, q.next); short = omega (arith, length-append a b, p.short, q.short) }

-- ---- digits

module _ {base x : ℕ} where
  pub one_digit : x < base → length (numeral base x) ≡ 1
  one_digit h = ap length (numeral_one base x h)

  pub put_one : (l : List ℕ) (at : ℕ) {r : ℕ} → x < base → r ≡ digit x → Put (length (numeral base x)) l at (numeral base x) (set l at r) (at + 1)
  put_one l at h e = put_most _ (put_as (sym (numeral_one base x h)) (put_byte l at _ e)) (le_refl _)

  module _ (g : 2 ≤ base) (h : base ≤ x) where
    pub one_digit_more : length (numeral base x) ≡ length (numeral base (x / base)) + 1
    one_digit_more = ap length (numeral_more base x g h) ∙ length-append (numeral base (x / base)) (digit (x % base) ∷ [])

    pub put_last : {m : ℕ} {l l' : List ℕ} {at last r : ℕ} → Put m l at (numeral base (x / base)) l' last → r ≡ digit (x % base)
        → Put (length (numeral base x)) l at (numeral base x) (set l' last r) (last + 1)
    put_last {l' = l'} {last = last} p e = put_most _ (put_as (sym (numeral_more base x g h)) (joined p (put_byte l' last _ e))) (le_refl _)
