-- Each field at its place.
use mathlib.Core.List.{[], ◌∷◌}
use Rattle.order.specs.Model.Fields.{fields_of}
use Rattle.order.proofs.record.fields.Goals as goal

pub returns : goal.returns
unfolding fields_of
returns c =
    let gs = c in
    λ i. record {
      version = gs.byte_at.ensures.0 i;
      n = gs.byte_at-2.ensures.0 i;
      v = gs.byte_at-3.ensures.0 i;
      bits = gs.byte_at-4.ensures.0 i;
      m = gs.byte_at-5.ensures.0 i;
      d = gs.byte_at-6.ensures.0 i;
      generators = c.two_at.ensures i ∷ c.two_at-2.ensures i ∷ c.two_at-3.ensures i ∷ c.two_at-4.ensures i ∷ [];
    }
