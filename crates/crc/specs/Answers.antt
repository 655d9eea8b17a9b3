-- What the values of the calls' answers say, in document 01's words.
-- Assumes nothing.
use Rattle.std.specs.Prelude.{Bool, true, false}
use Rattle.poly.specs.Word.{number}
use Rattle.crc.specs.Check.{Stripping, message, damaged, Divisibility, divisible, indivisible}
use Rattle.crc.specs.declared.Stripping.TheVariants as S
use Rattle.crc.specs.declared.Stripping as declared

abbrev pub stripping_as : declared.Stripping → Stripping
stripping_as (S.Message w) = message (number w)
stripping_as (S.Damaged r) = damaged r

abbrev pub divisibility : Bool → Divisibility
divisibility true = divisible
divisibility false = indivisible
