use Rattle.std.proofs.Common.{codes}
use Rattle.std.specs.Str.Parse.{ExplainsUnsignedError, HasUnsignedDigitsIfOk, ParsesUnsigned}
use Rattle.cosecmd.specs.Options.{options_of}
use Rattle.cosecmd.proofs.lemmas.Arguments.Options.{left_out, no_number, number_found}
use Rattle.cosecmd.proofs.arguments.stated_length_of.Goals as goal

pub returns-in-Some-get_one : goal.returns-in-Some-get_one
returns-in-Some-get_one c =
    number_found (λ t r. ParsesUnsigned 64 10 t r × ExplainsUnsignedError 10 t r × HasUnsignedDigitsIfOk t r) 64 c.args.matches.now (codes "payload-length") c.get_one.result c.in-Some-get_one.length
    (λ t r parsed. parsed.0) c.get_one.ensures.none c.get_one.ensures.value c.in-Some-get_one.is

pub returns-in-None : goal.returns-in-None
returns-in-None c =
    no_number (codes "payload-length") (options_of c.args.matches.now) (left_out (codes "payload-length") (options_of c.args.matches.now) c.text_of.result c.text_of.ensures c.in-None.is)
