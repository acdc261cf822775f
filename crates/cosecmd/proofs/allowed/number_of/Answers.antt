use Rattle.std.proofs.Common.{◌≡◌, ◌∙◌, SFits, ap, of_z, rules, sym, to_z}
use Rattle.std.specs.Int.{w128}
use Rattle.std.proofs.lemmas.Int.{to_z-of_z}
use Rattle.cosecmd.specs.Allowed.{number_known}
use Rattle.cosecmd.proofs.lemmas.Keys.AllowedKeys.{nothing_parsed, number_parsed}
use Rattle.cosecmd.proofs.allowed.number_of.Goals as goal

pub returns-in-Ok : goal.returns-in-Ok
returns-in-Ok c =
    let in_range : SFits w128 c.from.result = search rules in
    let same : c.from.result ≡ c.in-Ok.number = search rules in
    let passed : c.known.result ≡ number_known (to_z w128 (of_z w128 c.from.result)) = c.known.ensures in
    passed ∙ ap number_known (to_z-of_z w128 c.from.result in_range ∙ same) ∙ number_parsed c.args.word.now c.in-Ok.number c.in-Ok.ensures.value.0.0.0 c.in-Ok.ensures.value.0.1

pub returns-in-Err : goal.returns-in-Err
returns-in-Err c = sym (nothing_parsed c.args.word.now c.in-Err.field-0 c.in-Err.ensures.value.0)
