use Rattle.std.proofs.Common.{rules, tests, ◌∙◌}
use Rattle.std.proofs.lemmas.Iterator.{YieldsList-from_slice}
use Rattle.std.proofs.lemmas.Iterator.Search.{find_from_yields_List}
use Rattle.std.specs.Prelude.{bytes_eq}
use Rattle.cose_cwt.specs.Requirements.{name_of, registered}
use Rattle.cose_cwt.proofs.requirements.Claim.from_name.Goals as goal

pub returns : goal.returns
returns c =
    c.copied.ensures
    ∙ find_from_yields_List (λ claim. bytes_eq (name_of claim) c.args.name.now) _ _ _ c.find.ensures.ran
    (YieldsList-from_slice registered cc) (λ x b q k. search (rules, tests))
