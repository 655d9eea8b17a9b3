-- By the kind of link.
use mathlib.Core.Path.{◌≡◌, refl, ap, ◌∙◌}
use mathlib.Core.Bool.{Bool, true, false, cond}
use mir.Val.{bool_byte}
use Rattle.paths.specs.Model.Joining.{unbegun_first}
use Rattle.filling.proofs.unbegun_first.Goals as goal

byte : (b : Bool) → bool_byte b ≡ cond b 1 0
byte true = refl
byte false = refl

pub returns : goal.returns
unfolding unbegun_first
returns c = c.from.ensures ∙ ap bool_byte c.is_terminated.ensures ∙ byte _
