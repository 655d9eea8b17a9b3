-- Narrowing at one length changes nothing: whoever has fewer counts has no smaller first weight, so narrowing drops none of the best, nor anybody that betters
-- one who stays (`choice-narrowed`). A list of one length gives what the search for this length chooses (`one_length`).
-- Assumes nothing.
use Prim.Native.Nat.{ℕ, suc, ◌-◌, ◌≤◌, ◌<◌}
use native.Mathlib.Decide.{ℕ_discrete, dec_lt}
use native.Mathlib.Omega.{arith}
use mathlib.Core.Path.{◌≡◌, sym, ap, ◌∙◌}
use mathlib.Core.Bool.{Bool, not, ◌&&◌}
use mathlib.Core.Logic.{inl, inr, ⊎_elim}
use mathlib.Core.List.{List, [], ◌∷◌, Memᴰ}
use lib.Dec.{T, T_not, not_T, leb, ltb, eqb, ltb→lt, lt→ltb, eqb→eq}
use lib.ListN.{length}
use Rattle.lists.specs.Lists.{all, any}
use Rattle.lists.proofs.Tests.{T_and, T_or, same_test}
use Rattle.lists.proofs.Choices.{eqb_passes}
use Rattle.lists.proofs.Filters.{filter_cong_on, filter-filter}
use Rattle.lists.proofs.Member.{of_not_any, in_not_any}
use Rattle.order.specs.Order.{Order, with_length}
use Rattle.undetected.specs.Undetected.{undetected_counts}
use Rattle.undetected.specs.FirstUndetected.{first_above0, first_undetected}
use Rattle.undetected.proofs.Undetected.{length-undetected_counts}
use Rattle.undetected.proofs.FirstUndetected.{first_from, first_zero, first_some}
use Rattle.choice.specs.Choice.{candidates, fewer, unbettered, best, first_of, choice_among, choice}
use Rattle.narrowing.specs.Narrowed.{largest, narrowed, longest, set_choice}
use Rattle.narrowing.proofs.Narrowed.{of_top, in_top, of_largest, in_largest}

-- ---- first weights and fewer counts

-- whoever has fewer has no smaller first weight
fewer_later_first : (w : ℕ) (a b : List ℕ) → T (fewer a b) → first_above0 w b ≤ first_above0 w a
unfolding fewer
fewer_later_first w [] b t = absurd t
fewer_later_first w (x ∷ s) [] t = absurd t
fewer_later_first w (x ∷ s) (y ∷ t') t =
    ⊎_elim
    (λ less.
    let l = ltb→lt x y less in
    let e = first_some w y t' (λ z. omega arith) in
    omega (arith, first_from w (x ∷ s)))
    (λ later.
    let parts = (T_and (eqb x y) (fewer s t')).0 later in
    let same = eqb→eq x y parts.0 in
    elim (ℕ_discrete x 0) [
      | yes z ↦ omega (arith, fewer_later_first (suc w) s t' parts.1, first_zero w x s z, first_zero w y t' (sym same ∙ z))
      | no n ↦ omega (arith, first_some w x s n, first_some w y t' (λ z. n (same ∙ z)))
    ])
    ((T_or (ltb x y) (eqb x y && fewer s t')).0 t)

-- whoever has a larger first weight has fewer, where there are as many counts
later_first-fewer : (w : ℕ) (a b : List ℕ) → length a ≡ length b → first_above0 w b < first_above0 w a → T (fewer a b)
unfolding fewer
later_first-fewer w [] [] e h = absurd (omega arith)
later_first-fewer w [] (y ∷ t) e h = absurd (omega arith)
later_first-fewer w (x ∷ s) [] e h = absurd (omega arith)
later_first-fewer w (x ∷ s) (y ∷ t) e h = elim (ℕ_discrete x 0) [
  | yes z ↦
      let ex = first_zero w x s z in
      elim (ℕ_discrete y 0) [
        | yes z' ↦
            let ey = first_zero w y t z' in
            let rest = later_first-fewer (suc w) s t (omega arith) (omega arith) in
            (T_or (ltb x y) (eqb x y && fewer s t)).1 (inr ((T_and (eqb x y) (fewer s t)).1 (eqb_passes x y (z ∙ sym z'), rest)))
        | no n ↦ (T_or (ltb x y) (eqb x y && fewer s t)).1 (inl (lt→ltb x y (omega arith)))
      ]
  | no n ↦ absurd (omega (arith, first_some w x s n, first_from w (y ∷ t)))
]

-- ---- narrowing once, and then the best

module _ (counts : ℕ → List ℕ) (n : ℕ) (sized : (p : ℕ) → length (counts p) ≡ n) (ps : List ℕ) where
  abbrev value : ℕ → ℕ
  value p = first_above0 1 (counts p)

  -- p stays, and nobody who stays betters it, exactly where nobody at all betters it
  module _ (p : ℕ) where
    abbrev better : ℕ → Bool
    better q = fewer (counts q) (counts p)

    abbrev stays : Bool
    stays = all (λ q. leb (value q) (value p)) ps

    of_narrowed : T (stays && not (any better (largest value ps))) → T (not (any better ps))
    of_narrowed t =
        let h = (T_and stays (not (any better (largest value ps)))).0 t in
        let kept : (q : ℕ) → Memᴰ q ps → T (better q) → Memᴰ q (largest value ps) =
        λ q k f. in_largest value ps k (λ r j. omega (arith, of_top value ps p h.0 r j, fewer_later_first 1 (counts q) (counts p) f)) in
        in_not_any better ps (λ q k. not_T (better q) (λ f. T_not (better q) (of_not_any better (largest value ps) h.1 q (kept q k f)) f))

    in_narrowed : T (not (any better ps)) → T (stays && not (any better (largest value ps)))
    in_narrowed t =
        let none : (q : ℕ) → Memᴰ q ps → T (not (better q)) = of_not_any better ps t in
        let top : (q : ℕ) → Memᴰ q ps → value q ≤ value p =
        λ q k. elim (dec_lt (value p) (value q)) [
          | yes l ↦ absurd (T_not (better q) (none q k) (later_first-fewer 1 (counts q) (counts p) (sized q ∙ sym (sized p)) l))
          | no g ↦ omega arith
        ] in
        (T_and stays (not (any better (largest value ps)))).1
        (in_top value ps p top, in_not_any better (largest value ps) (λ q k. none q (of_largest value ps k).0))

  pub best-narrowed : best counts (largest value ps) ≡ best counts ps
  unfolding best largest unbettered
  best-narrowed =
      filter-filter (unbettered counts (largest value ps)) (λ p. all (λ q. leb (value q) (value p)) ps) ps
      ∙ filter_cong_on (λ p. stays p && unbettered counts (largest value ps) p) (unbettered counts ps) ps
      (λ p _. same_test _ _ (of_narrowed p) (in_narrowed p))

  pub choice-narrowed : choice_among counts (largest value ps) ≡ choice_among counts ps
  unfolding choice_among
  choice-narrowed = ap (λ (l : List ℕ). record { polynomial = first_of l; shared = length l; undetected = counts (first_of l) }) best-narrowed

pub one_length : (o : Order) (N : ℕ) → set_choice o (N ∷ []) ≡ choice (with_length N o)
unfolding set_choice narrowed longest first_of choice first_undetected with_length
one_length o N =
    choice-narrowed (undetected_counts (with_length N o)) (o.d - 1) (length-undetected_counts (with_length N o)) (candidates o.m)
