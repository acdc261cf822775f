use Rattle.std.proofs.Common.{codes}
use Rattle.std.specs.Str.Parse.{ExplainsUnsignedError, HasUnsignedDigitsIfOk, ParsesUnsigned}
use Rattle.cosecmd.proofs.lemmas.Arguments.Options.{number_found}
use Rattle.cosecmd.proofs.arguments.leeway_of.Goals as goal

pub returns-in-Some : goal.returns-in-Some
returns-in-Some c =
    number_found (λ t r. ParsesUnsigned 32 10 t r × ExplainsUnsignedError 10 t r × HasUnsignedDigitsIfOk t r) 32 c.args.matches.now (codes "leeway") c.get_one.result c.in-Some.leeway
    (λ t r parsed. parsed.0) c.get_one.ensures.none c.get_one.ensures.value c.in-Some.is
