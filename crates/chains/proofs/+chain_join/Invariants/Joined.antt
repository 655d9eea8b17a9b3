-- What `join` asks of the functions that it calls, and that what they leave is what event e finds, by the decision on it.
-- Assumes nothing.
use Prim.Native.Nat.{ℕ, ◌+◌, ◌*◌, ◌≤◌, ◌<◌}
use native.Mathlib.Omega.{arith}
use mathlib.Core.Path.{◌≡◌, sym, ap, ◌∙◌}
use mathlib.Core.Logic.{◌≢◌}
use mathlib.Core.List.{List}
use Rattle.poly.specs.Word.{number}
use Rattle.events.specs.declared.Event.{Event}
use Rattle.paths.specs.Model.Joining.{turns}
use Rattle.rotations.specs.Model.Put.{puts}
use Rattle.rotations.proofs.Puts.{puts_none}
use Rattle.bounds.specs.declared.Chain.{Chain}
use Rattle.bounds.specs.declared.Joining.TheVariants.{Skipped, Complete, Continued}
use Rattle.bounds.specs.Model.Tables.{bits_at, decided}
use Rattle.bounds.proofs.Decided.{decided_fits, decided_shorter}
use Rattle.chains.specs.Model.Chaining.{extended, found, found_by, ToExtend, ToEmit, ToChain, ToJoin}
use Rattle.chains.proofs.Found.{found_none, found_last, found_more}
use Rattle.chains.proofs.Unfinished.{whole_word_lt, extended_short, extended_unfinished}

module _ {table : List Event} {work paths : List ℕ} {at : ℕ} {begun : Chain} {e : Event}
    (ask : ToJoin table work paths at begun e) where
  abbrev N : ℕ
  N = bits_at work

  pub none_found : Skipped ≡ decided work begun e → (paths, at) ≡ puts (found_by table work begun e) (paths, at)
  none_found none =
      sym (ap (λ (us : List ℕ). puts us (paths, at)) (found_none ask.joins begun e ask.unfinished ask.joinable (sym none))
      ∙ puts_none (paths, at))

  -- an event that is joined fits
  module _ (some : decided work begun e ≢ Skipped) where
    fit : (e.length ≤ begun.steps) × (e.weight ≤ begun.budget)
    fit = decided_fits work begun e some

    pub asks_extend : ToExtend work begun e
    asks_extend =
        record {
          small = ask.joins.ready.small;
          unfinished = ask.unfinished;
          joinable = ask.joinable;
          short = fit.0;
          light = fit.1;
        }

  module _ (last : Complete ≡ decided work begun e) where
    pub complete_joins : decided work begun e ≢ Skipped
    complete_joins none = cc

    module _ {whole : Chain} (is-whole : whole ≡ extended N begun e) where
      pub asks_emit : ToEmit work paths at whole
      asks_emit = let short = (fit complete_joins).0 in record {
        small = ask.joins.ready.small;
        some_bits = ask.joins.ready.some_bits;
        short_to_turn = rw is-whole (extended_short N begun e ask.unfinished ask.joinable short);
        word_small = rw is-whole (whole_word_lt N begun e ask.unfinished ask.joinable short);
        near = ask.near;
      }

      pub last_found : {s : List ℕ × ℕ} → s ≡ puts (turns N whole.first (number whole.inputs)) (paths, at)
          → s ≡ puts (found_by table work begun e) (paths, at)
      last_found is =
          is ∙ ap (λ (c : Chain). puts (turns N c.first (number c.inputs)) (paths, at)) is-whole
          ∙ sym (ap (λ (us : List ℕ). puts us (paths, at))
          (found_last ask.joins begun e ask.unfinished ask.joinable (sym last)))

  module _ (more : Continued ≡ decided work begun e) where
    pub continued_joins : decided work begun e ≢ Skipped
    continued_joins none = cc

    module _ {longer : Chain} (is-longer : longer ≡ extended N begun e) where
      pub asks_chain : ToChain table work paths at longer
      asks_chain = record {
        joins = ask.joins;
        unfinished =
            rw is-longer (extended_unfinished N begun e ask.unfinished ask.joinable
            (fit continued_joins).0 (decided_shorter work begun e (sym more)));
        near = ask.near;
      }

      pub more_found : {s : List ℕ × ℕ} → s ≡ puts (found table work longer) (paths, at)
          → s ≡ puts (found_by table work begun e) (paths, at)
      more_found is =
          is ∙ ap (λ (c : Chain). puts (found table work c) (paths, at)) is-longer
          ∙ sym (ap (λ (us : List ℕ). puts us (paths, at)) (found_more ask.joins begun e ask.unfinished
          ask.joinable (sym more)))

      -- the steps left fall
      pub fewer-steps : 2 * longer.steps + 1 < 2 * begun.steps
      unfolding extended
      fewer-steps = rw is-longer (let h = ask.joinable.some_step in let g = (fit continued_joins).0 in omega (arith, h, g))
