-- The order's generators, of which there are at most four.
use Rattle.order.specs.Answers.{order_in}
use Rattle.needed.proofs.schedule.prepare_for.Goals as goal

pub prepare-requires : goal.prepare-requires
unfolding order_in
prepare-requires c =
    let code = c.args.link.accepted in
    record {
      few = rw c.generators.ensures code.few_generators;
      some_memory = code.some_memory;
      small_memory = code.small_memory;
      enough = c.requires;
    }
