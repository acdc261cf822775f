use Rattle.std.proofs.Common.{map, string_bytes}
use Rattle.cose_answers.proofs.lemmas.Messages.HeaderLabels.{says_headed}
use Rattle.cose_answers.proofs.answers.message.parameters_reply.Goals as goal

pub returns-clause-says : goal.returns-clause-says
returns-clause-says g c = λ rest e.
    says_headed (map string_bytes c.args.labels.now) _ _ _ _ _ _ c.headed_reply.result c.protected.ensures c.unprotected.ensures (c.in_ok-verdict.ensures.whole rest e) c.headed_reply.ensures.says
