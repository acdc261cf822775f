use Rattle.std.proofs.Common.{None, refl}
use Rattle.cosecmd.proofs.lemmas.Arguments.AskedSequences.{sequence_asks}
use Rattle.cosecmd.proofs.arguments.sequence_request.Goals as goal

pub returns-clause-asks : goal.returns-clause-asks
returns-clause-asks g c = λ bytes said prints. (None, refl, sequence_asks _ c.in_ok-checks.checks bytes said c.in_ok-checks.ensures prints)
