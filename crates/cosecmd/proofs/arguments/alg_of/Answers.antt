use Rattle.std.proofs.Common.{◌≡◌, codes, rules}
use Rattle.std.specs.Prelude.{pos}
use Rattle.std.specs.Str.Parse.{ExplainsUnsignedError, HasUnsignedDigitsIfOk, ParsesUnsigned}
use Rattle.cose_head.specs.Algorithm.{algorithm_numbered}
use Rattle.cosecmd.specs.Options.{options_of}
use Rattle.cosecmd.proofs.lemmas.Arguments.Options.{algorithm_found, number_found}
use Rattle.cosecmd.proofs.arguments.alg_of.Goals as goal

pub returns-in-Some-from_number : goal.returns-in-Some-from_number
returns-in-Some-from_number c =
    let number = number_found (λ t r. ParsesUnsigned 8 10 t r × ExplainsUnsignedError 10 t r × HasUnsignedDigitsIfOk t r) 8 c.args.matches.now (codes "alg") c.get_one.result c.in-Some.number
    (λ t r parsed. parsed.0) c.get_one.ensures.none c.get_one.ensures.value c.in-Some.is in
    let is : c.from_number.result ≡ algorithm_numbered (pos c.in-Some.number) = search rules in
    algorithm_found (options_of c.args.matches.now) c.in-Some.number c.in-Some-from_number.alg c.from_number.result number is c.in-Some-from_number.is
