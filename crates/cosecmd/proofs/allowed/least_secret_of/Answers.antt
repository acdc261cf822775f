use Rattle.std.proofs.Common.{◌∙◌, Option, ap, codes, ℕ}
use Rattle.std.specs.Prelude.{unwrap_or}
use Rattle.std.specs.Str.Parse.{ExplainsUnsignedError, HasUnsignedDigitsIfOk, ParsesUnsigned}
use Rattle.cosecmd.proofs.lemmas.Arguments.RequiredOptions.{number_tried}
use Rattle.cosecmd.proofs.allowed.least_secret_of.Goals as goal

pub returns-in-Ok : goal.returns-in-Ok
returns-in-Ok c =
    c.unwrap_or.ensures ∙ ap (λ (number : Option ℕ). unwrap_or number 0)
    (number_tried (λ t r. ParsesUnsigned 64 10 t r × ExplainsUnsignedError 10 t r × HasUnsignedDigitsIfOk t r) 64 c.args.matches.now (codes "least-secret") c.try_get_one.result c.in-Ok.least
    (λ t r parsed. parsed.0) c.try_get_one.ensures.none c.try_get_one.ensures.value c.in-Ok.is)
