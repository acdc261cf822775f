use Rattle.std.proofs.Common.{◌∙◌}
use Rattle.cose_msg.specs.FurtherView.{chosen_in, whole_in}
use Rattle.cose_msg.proofs.lemmas.FurtherAnswers.{asked_at_length}
use Rattle.cose_msg.proofs.further.ask_of.Goals as goal

pub returns-clause-asked : goal.returns-clause-asked
returns-clause-asked c = rw (c.front_of.ensures.structure, c.trailing_at.ensures)
    (asked_at_length c.args.count c.args.aad.now (whole_in c.args.parts.now) (chosen_in c.args.parts.now) (c.if-signature-signature_length.false ∙ c.signature_length.ensures))
