use Rattle.std.proofs.Common.{◌≡◌, ◌∙◌, Some, Bor, ap, codes, map, sym}
use Rattle.clap.specs.Walk.{Text}
use Rattle.cosecmd.specs.Requirements.{claims_named}
use Rattle.cosecmd.proofs.lemmas.Arguments.RequiredOptions.{no_texts, texts_given}
use Rattle.cosecmd.proofs.requirements.claims_required.Goals as goal

pub returns-in-Some-2 : goal.returns-in-Some-2
returns-in-Some-2 c =
    let read : Some c.in-Some-2.claims.items ≡ claims_named (map (λ (text : Bor Text). text.now) c.in-Some.names.now) = rw c.in-Some-2.is at c.in_ok-claims-in-Some.ensures in
    ap claims_named (texts_given c.args.matches.now (codes "require") c.in-Some.names.now c.in-Some.ensures) ∙ sym read

pub returns-in-None : goal.returns-in-None
returns-in-None c = ap claims_named (no_texts c.args.matches.now (codes "require") c.in-None.ensures) ∙ ap Some (sym c.new.ensures.items)
