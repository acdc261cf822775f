use Rattle.std.specs.Str.Parse.{ExplainsUnsignedError, HasUnsignedDigitsIfOk, ParsesUnsigned}
use Rattle.cosecmd.proofs.lemmas.Arguments.RequiredOptions.{number_tried}
use Rattle.cosecmd.proofs.requirements.number_of.Goals as goal

pub returns-in-Ok : goal.returns-in-Ok
returns-in-Ok c =
    number_tried (λ t r. ParsesUnsigned 64 10 t r × ExplainsUnsignedError 10 t r × HasUnsignedDigitsIfOk t r) 64 c.args.matches.now c.args.option.now c.try_get_one.result c.in-Ok.number
    (λ t r parsed. parsed.0) c.try_get_one.ensures.none c.try_get_one.ensures.value c.in-Ok.is
