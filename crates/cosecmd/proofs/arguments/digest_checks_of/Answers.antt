use Rattle.cose_answers.specs.Allowed.{allowed_value}
use Rattle.cosecmd.specs.Options.{options_of}
use Rattle.cosecmd.proofs.lemmas.Arguments.ChecksAsked.{digest_checks_said}
use Rattle.cosecmd.proofs.arguments.digest_checks_of.Goals as goal

pub returns : goal.returns
returns g c = λ under e.
    digest_checks_said (g.F.NamedFiles.content c.args.files.now) (options_of c.args.matches.now) c.limits_of-limits.result (allowed_value c.in_ok-allowed.allowed) c.in_ok-keys.keys.items c.in_ok-aad.aad.items c.in_ok-keys.ensures.keys c.in_ok-allowed.ensures c.in_ok-aad.ensures.value c.limits_of-limits.ensures under e
