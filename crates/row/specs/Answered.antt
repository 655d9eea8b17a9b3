-- What a call over lent tables answers: the numbers of a row (the struct `Row`), or document 01's number of the refusal.
-- Assumes nothing.
use Rattle.std.specs.Prelude.{ℕ, Result, Ok, Err}
use Rattle.order.specs.declared.refusal.Refusal.{Refusal}
use Rattle.order.specs.Answer.{Answer, accepted, refused}
use Rattle.order.specs.Refusals.{number_of}
use Rattle.row.specs.declared.Row.{Row}

abbrev pub row : (events paths polynomial shared : ℕ) → Row
row e k p s = record { events = e; paths = k; polynomial = p; shared = s }

abbrev pub answered_as : Result Row Refusal → Answer Row
answered_as (Ok r) = accepted r
answered_as (Err e) = refused (number_of e)
