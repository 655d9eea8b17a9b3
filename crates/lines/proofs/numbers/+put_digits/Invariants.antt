-- The measure of put_digits, which calls itself: the number.
use Rattle.lines.proofs.numbers.+put_digits.Given as goal

abbrev pub decreases-put_digits : goal.decreases-put_digits
decreases-put_digits l = l.x
