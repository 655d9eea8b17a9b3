-- The frame of a walk by hand, once for every function whose parameters are plain values, `&[T]` and `&mut [T]` with a lifetime each, in their order: the words of a walk, from the files that have them.
--     Types            what a parameter is.        Parameters   parameters in hand.        Entries  what a walk holds.        Over     what its calls and loops mean
--     Calls            a call as one step.        Passing      the `&mut` slices that it passes on.        Local    a local array that it lends.        Ends     how a walk begins and ends
-- A walk counts nothing by hand: `refs ks` is the number of its entries before its locals, `places ks` has the entry of each reference, and `locals ks` is its first local after the parameters. So one parameter more moves no number.
-- Assumes `Logic`.
pub use Prim.Native.Nat.{ℕ, ◌+◌, ◌*◌}
pub use lib.ListN.{length}
pub use mathlib.Core.Path.{◌≡◌, refl, sym, ◌∙◌, ap}
pub use mathlib.Core.Option.{none, some as just}
pub use mathlib.Core.List.{List, [], ◌∷◌}
pub use mir.Val.{vunit}
pub use seplogic.Ra.Ura.{Ura}
pub use prog.Model.{Model}
pub use prog.Wp.{Heap, Tables}
pub use contract.Running.{Running}
unfoldable pub use contract.Running.{tables_of}
pub use types.Kit.{◌$◌, ! }
pub use types.Run.{lit, of_opd, bin}
pub use denote.Builtin.{u64}
pub use Rattle.walks.proofs.Over.{over, tabled}
pub use Rattle.walks.proofs.Walk.{block_at, var, part_of, makes, remakes}
pub use Rattle.walks.proofs.Types.{Plain, struct, enum, value, Has, number, nothing, Slice, Value, Kind, refs, locals, places, entries, names, by_value, shared, lent}
pub use Rattle.walks.proofs.Parameters.{Par, the, all_of, at_loan, at_share, num, res, typed, pars, own_bound, bound, as_lent, as_long, val, shr, mut}
pub use Rattle.walks.proofs.Calls.{asks, relend, counts, calls_by, calls_into, recalls, calls, calls_asked, recalls_asked, shares_at, unshares_at}
pub use Rattle.walks.proofs.Passing.{relend_all}
pub use Rattle.walks.proofs.Local.{entry_of, slice_of, lends_made, lends_empty, takes_back}
pub use Rattle.walks.proofs.Ends.{if_returns, finish, is_zero, by_steps, by_steps_asked, by_steps_at}
