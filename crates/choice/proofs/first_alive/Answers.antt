use mathlib.Core.Path.{◌≡◌}
use mathlib.Core.Bool.{true, false}
use borrow.Author.Tests.{tests}
use Rattle.std.proofs.Common.{rules}
use Rattle.std.proofs.lemmas.Iterator.{YieldsList-from_slice, IsFirst-from_position}
use Rattle.choice.proofs.Flags.{first_found}
use Rattle.choice.proofs.first_alive.Goals as goal

pub returns : goal.returns
returns c =
    first_found _ _
    (IsFirst-from_position _ _ _ (λ b. b ≡ true) (λ b. b ≡ false) c.position.ensures.ran (YieldsList-from_slice c.args.alive.now cc)
    (λ x q k. search (rules, tests)) (λ x q k. search (rules, tests)))
