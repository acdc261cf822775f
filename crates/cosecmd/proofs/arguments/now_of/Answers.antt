use Rattle.std.proofs.Common.{◌∙◌, SFits, Some, ap, codes, rules, sym, w64}
use Rattle.std.proofs.lemmas.Int.{to_z-of_z}
use Rattle.std.specs.Str.Parse.{ExplainsSignedError, HasSignedDigitsIfOk, ParsesSigned}
use Rattle.cosecmd.proofs.lemmas.Arguments.Options.{integer_found}
use Rattle.cosecmd.proofs.arguments.now_of.Goals as goal

pub returns-in-Some : goal.returns-in-Some
returns-in-Some c =
    let in_range : SFits w64 c.in-Some.now = search rules in
    integer_found (λ t r. ParsesSigned w64 10 t r × ExplainsSignedError 10 t r × HasSignedDigitsIfOk t r) w64 c.args.matches.now (codes "now") c.get_one.result c.in-Some.now
    (λ t r parsed. parsed.0) c.get_one.ensures.none c.get_one.ensures.value c.in-Some.is
    ∙ ap Some (sym (to_z-of_z w64 c.in-Some.now in_range))
