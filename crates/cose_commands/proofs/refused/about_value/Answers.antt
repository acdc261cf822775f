use Rattle.std.proofs.Common.{codes, sym, ◌∙◌, true≢false}
use Rattle.std.proofs.lemmas.Str.Pattern.{starts_text}
use Rattle.cose_commands.proofs.refused.about_value.Goals as goal

pub returns-in-Some-clause-missing : goal.returns-in-Some-clause-missing
returns-in-Some-clause-missing c = λ lacks.
    absurd (true≢false (sym lacks ∙ sym (starts_text _ (codes "error: a value is required for '") c.args.text.now c.starts_with.ensures.cases) ∙ c.if-starts_with.false))

pub returns-in-None-clause-missing : goal.returns-in-None-clause-missing
returns-in-None-clause-missing c = λ lacks.
    absurd (true≢false (sym lacks ∙ sym (starts_text _ (codes "error: a value is required for '") c.args.text.now c.starts_with.ensures.cases) ∙ c.if-starts_with.false))
