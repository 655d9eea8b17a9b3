-- Laws of words appended to a path table: one run after another, the table's length, how far the place goes, and what is in a table that began
-- with zeros.
-- Assumes nothing.
use Prim.Native.Nat.{ℕ, ◌+◌, ◌*◌, ◌/◌, ◌%◌, ◌^◌, ◌≤◌, ◌<◌}
use native.Mathlib.Decide.{dec_lt}
use native.Mathlib.Omega.{arith}
use mathlib.Core.Path.{◌≡◌, refl, sym, ap, ap₂, ◌∙◌, subst}
use mathlib.Core.Bool.{Bool, true, false, cond}
use mathlib.Core.List.{List, [], ◌∷◌, ◌++◌, flat_map, append-nil, append_assoc}
use lib.Dec.{T, ltb, ltb→lt, lt→ltb, not_T}
use lib.ListN.{length, set, length-set, length-append}
use lib.Pow.{low, high}
use Rattle.lists.specs.Lists.{padded}
use Rattle.lists.proofs.Choices.{cond_true, cond_false}
use Rattle.lists.proofs.Lengths.{length-padded}
use Rattle.poly.specs.Word.{halves}
use Rattle.poly.proofs.Halves.{length-halves, stored-halves}
use Rattle.paths.specs.Paths.{path_room}
use Rattle.rotations.specs.Model.Put.{stored, put, puts}

-- ---- one word

pub put_inside : (u : ℕ) (t : List ℕ) (at : ℕ) → at < path_room (length t) → put u (t, at) ≡ (stored t at u, at + 1)
unfolding put
put_inside u t at h = cond_true (ltb at (path_room (length t))) (stored t at u, at + 1) (t, path_room (length t) + 1) (lt→ltb at (path_room (length t)) h)

pub put_outside : (u : ℕ) (t : List ℕ) (at : ℕ) → path_room (length t) ≤ at → put u (t, at) ≡ (t, path_room (length t) + 1)
unfolding put
put_outside u t at h =
    cond_false (ltb at (path_room (length t))) (stored t at u, at + 1) (t, path_room (length t) + 1)
    (not_T (ltb at (path_room (length t))) (λ l. past at (path_room (length t)) h (ltb→lt at (path_room (length t)) l)))
  where
    past : (x y : ℕ) → y ≤ x → x < y → ⊥
    past x y p q = omega arith

pub length-stored : (t : List ℕ) (at u : ℕ) → length (stored t at u) ≡ length t
unfolding stored
length-stored t at u =
    length-set (set t (2 * at) (u % 2 ^ 64)) (2 * at + 1) (u / 2 ^ 64) ∙ length-set t (2 * at) (u % 2 ^ 64)

-- what holds of both choices holds of the chosen
of_choice : {A : Type 0} (P : A → Type 0) (b : Bool) (x y : A) → (T b → P x) → P y → P (cond b x y)
of_choice P true x y p q = p tt
of_choice P false x y p q = q

pub length-put : (u : ℕ) (s : List ℕ × ℕ) → length (put u s).0 ≡ length s.0
unfolding put
length-put u s =
    of_choice (λ (r : List ℕ × ℕ). length r.0 ≡ length s.0) (ltb s.1 (path_room (length s.0))) (stored s.0 s.1 u, s.1 + 1)
    (s.0, path_room (length s.0) + 1) (λ _. length-stored s.0 s.1 u) refl

pub put-place : (u : ℕ) (s : List ℕ × ℕ) → (put u s).1 ≤ path_room (length s.0) + 1
unfolding put
put-place u s =
    of_choice (λ (r : List ℕ × ℕ). r.1 ≤ path_room (length s.0) + 1) (ltb s.1 (path_room (length s.0))) (stored s.0 s.1 u, s.1 + 1)
    (s.0, path_room (length s.0) + 1)
    (λ e. more s.1 (path_room (length s.0)) (ltb→lt s.1 (path_room (length s.0)) e)) (all (path_room (length s.0)))
  where
    more : (x y : ℕ) → x < y → x + 1 ≤ y + 1
    more x y h = omega arith

    all : (x : ℕ) → x + 1 ≤ x + 1
    all x = omega arith

-- ---- one word in two halves, as the code stores it

pub put-stored : (h l : ℕ) (t : List ℕ) (at : ℕ) → l < 2 ^ 64 → at < length t / 2
    → (set (set t (2 * at) l) (2 * at + 1) h, at + 1) ≡ put (h * 2 ^ 64 + l) (t, at)
unfolding stored path_room
put-stored h l t at small inside =
    ap₂ (λ (x y : ℕ). (set (set t (2 * at) x) (2 * at + 1) y, at + 1)) (sym (low h 64 small)) (sym (high h 64 small))
    ∙ sym (put_inside (h * 2 ^ 64 + l) t at inside)

pub put_refused : (u : ℕ) (t : List ℕ) (at : ℕ) → length t / 2 ≤ at → (t, length t / 2 + 1) ≡ put u (t, at)
unfolding path_room
put_refused u t at past = sym (put_outside u t at past)

-- ---- one after another

pub puts_none : (s : List ℕ × ℕ) → puts [] s ≡ s
unfolding puts
puts_none s = refl

pub puts-append : (us vs : List ℕ) (s : List ℕ × ℕ) → puts (us ++ vs) s ≡ puts vs (puts us s)
unfolding puts
puts-append [] vs s = refl
puts-append (u ∷ us) vs s = puts-append us vs (put u s)

pub length-puts : (us : List ℕ) (s : List ℕ × ℕ) → length (puts us s).0 ≡ length s.0
unfolding puts
length-puts [] s = refl
length-puts (u ∷ us) s = length-puts us (put u s) ∙ length-put u s

pub puts-place : (us : List ℕ) (s : List ℕ × ℕ) → s.1 ≤ path_room (length s.0) + 1 → (puts us s).1 ≤ path_room (length s.0) + 1
unfolding puts
puts-place [] s h = h
puts-place (u ∷ us) s h =
    let same : length (put u s).0 ≡ length s.0 = length-put u s in
    subst (λ (n : ℕ). (puts us (put u s)).1 ≤ path_room n + 1) same
    (puts-place us (put u s) (subst (λ (n : ℕ). (put u s).1 ≤ path_room n + 1) (sym same) (put-place u s)))

-- once the table is known to be too small, nothing changes
pub puts_past : (us : List ℕ) (t : List ℕ) → puts us (t, path_room (length t) + 1) ≡ (t, path_room (length t) + 1)
unfolding puts
puts_past [] t = refl
puts_past (u ∷ us) t =
    ap (puts us) (put_outside u t (path_room (length t) + 1) (further (path_room (length t)))) ∙ puts_past us t
  where
    further : (x : ℕ) → x ≤ x + 1
    further x = omega arith

-- ---- a table of zeros with some words in front

-- what so many words take is in the table
room_enough : (size n : ℕ) → n ≤ path_room size → 2 * n ≤ size
unfolding path_room
room_enough size n h = omega arith

words_fit : (size : ℕ) (ws : List ℕ) → length ws ≤ path_room size → length (flat_map halves ws) ≤ size
words_fit size ws h = subst (λ (n : ℕ). n ≤ size) (sym (length-halves ws)) (room_enough size (length ws) h)

pub length-listed : (size : ℕ) (ws : List ℕ) → length ws ≤ path_room size → length (padded size 0 (flat_map halves ws)) ≡ size
length-listed size ws h = length-padded size 0 (flat_map halves ws) (words_fit size ws h)

length_last : (ws : List ℕ) (u : ℕ) → length (ws ++ (u ∷ [])) ≡ length ws + 1
length_last ws u = length-append ws (u ∷ [])

pub stored-listed : (size : ℕ) (ws : List ℕ) (u : ℕ) → length ws < path_room size
    → stored (padded size 0 (flat_map halves ws)) (length ws) u ≡ padded size 0 (flat_map halves (ws ++ (u ∷ [])))
unfolding stored path_room
stored-listed size ws u h = stored-halves size ws u (omega arith)

-- the state of such a table
unfoldable pub listed : ℕ → List ℕ → List ℕ × ℕ
listed size ws = (padded size 0 (flat_map halves ws), length ws)

put-listed : (size : ℕ) (ws : List ℕ) (u : ℕ) → length ws < path_room size → put u (listed size ws) ≡ listed size (ws ++ (u ∷ []))
unfolding listed
put-listed size ws u h =
    let fit : length ws ≤ path_room size = omega arith in
    put_inside u (padded size 0 (flat_map halves ws)) (length ws) (subst (λ (n : ℕ). length ws < path_room n) (sym (length-listed size ws fit)) h)
    ∙ ap₂ (λ (t : List ℕ) (k : ℕ). (t, k)) (stored-listed size ws u h) (sym (length_last ws u))

puts-listed-all : (size : ℕ) (ws us : List ℕ) → length ws + length us ≤ path_room size → puts us (listed size ws) ≡ listed size (ws ++ us)
unfolding puts
puts-listed-all size ws [] h = ap (listed size) (sym (append-nil ws))
puts-listed-all size ws (u ∷ us) h =
    let more : length (ws ++ (u ∷ [])) ≡ length ws + 1 = length_last ws u in
    ap (puts us) (put-listed size ws u (omega arith))
    ∙ puts-listed-all size (ws ++ (u ∷ [])) us (omega arith)
    ∙ ap (listed size) (append_assoc ws (u ∷ []) us)

-- words that the table still takes are in it
pub puts-listed : (size : ℕ) (ws us : List ℕ) → length ws + length us ≤ path_room size
    → puts us (padded size 0 (flat_map halves ws), length ws) ≡ (padded size 0 (flat_map halves (ws ++ us)), length ws + length us)
unfolding listed
puts-listed size ws us h =
    puts-listed-all size ws us h ∙ ap (λ (k : ℕ). (padded size 0 (flat_map halves (ws ++ us)), k)) (length-append ws us)

full_table : (size : ℕ) (ws us : List ℕ) (u : ℕ) → length ws ≤ path_room size → path_room size ≤ length ws → (puts us (put u (listed size ws))).1 ≡ path_room size + 1
unfolding listed
full_table size ws us u fit h =
    let t : List ℕ = padded size 0 (flat_map halves ws) in
    let same : length t ≡ size = length-listed size ws fit in
    ap (λ (s : List ℕ × ℕ). (puts us s).1) (put_outside u t (length ws) (subst (λ (n : ℕ). path_room n ≤ length ws) (sym same) h))
    ∙ ap (λ (s : List ℕ × ℕ). s.1) (puts_past us t)
    ∙ ap (λ (n : ℕ). path_room n + 1) same

too_many_listed : (size : ℕ) (ws us : List ℕ) → length ws ≤ path_room size → path_room size < length ws + length us → (puts us (listed size ws)).1 ≡ path_room size + 1
unfolding puts
too_many_listed size ws [] fit h = absurd (omega arith)
too_many_listed size ws (u ∷ us) fit h =
    let more : length (ws ++ (u ∷ [])) ≡ length ws + 1 = length_last ws u in
    elim (dec_lt (length ws) (path_room size)) [
      | yes l ↦ ap (λ (s : List ℕ × ℕ). (puts us s).1) (put-listed size ws u l) ∙ too_many_listed size (ws ++ (u ∷ [])) us (omega arith) (omega arith)
      | no n ↦ full_table size ws us u fit (omega arith)
    ]

-- words that it does not take leave one more than it takes
pub puts_too_many : (size : ℕ) (ws us : List ℕ) → length ws ≤ path_room size → path_room size < length ws + length us
    → (puts us (padded size 0 (flat_map halves ws), length ws)).1 ≡ path_room size + 1
unfolding listed
puts_too_many size ws us fit h = too_many_listed size ws us fit h
