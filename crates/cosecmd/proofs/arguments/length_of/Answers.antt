use Rattle.std.proofs.Common.{codes}
use Rattle.std.specs.Str.Parse.{ExplainsUnsignedError, HasUnsignedDigitsIfOk, ParsesUnsigned}
use Rattle.cosecmd.proofs.lemmas.Arguments.Options.{number_found}
use Rattle.cosecmd.proofs.arguments.length_of.Goals as goal

pub returns-in-Some : goal.returns-in-Some
returns-in-Some c =
    number_found (λ t r. ParsesUnsigned 64 10 t r × ExplainsUnsignedError 10 t r × HasUnsignedDigitsIfOk t r) 64 c.args.matches.now (codes "length") c.get_one.result c.in-Some.length
    (λ t r parsed. parsed.0) c.get_one.ensures.none c.get_one.ensures.value c.in-Some.is
