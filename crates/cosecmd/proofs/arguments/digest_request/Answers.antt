use Rattle.cose_answers.specs.Printed.{digested_under}
use Rattle.cosecmd.proofs.lemmas.Arguments.CommandLines.{payload_asks}
use Rattle.cosecmd.proofs.arguments.digest_request.Goals as goal

pub returns-clause-asks : goal.returns-clause-asks
returns-clause-asks g c = λ bytes said.
    payload_asks digested_under _ _ c.in_ok-checks.checks _ bytes said c.in_ok-checks.ensures (c.in_ok-payload.ensures.value (g.F.NamedFiles.content c.args.files.now))

pub returns-clause-payload : goal.returns-clause-payload
returns-clause-payload g c = c.in_ok-payload.ensures.value (g.F.NamedFiles.content c.args.files.now)
