use Rattle.std.proofs.Common.{◌+◌, arith, drop}
use Rattle.std.proofs.lemmas.Grind.{common_steps}
use Rattle.cose_answers.proofs.answers.keys.push_operations.Goals as goal

pub operations-preserved : goal.operations-preserved
operations-preserved c =
    grind (arith, common_steps, c.in_ok-is_first.ensures.words (drop (c.operations.operation-index + 1) c.args.operations.now), c.operations.invariant)
