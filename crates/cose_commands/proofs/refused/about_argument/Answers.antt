use Rattle.std.proofs.Common.{codes, sym, ap, ◌∙◌, arith}
use Rattle.std.proofs.lemmas.Result.{IfOk-weaker}
use Rattle.cose_commands.specs.Refused.{argument_text}
use Rattle.cose_commands.proofs.Marks.{last_mark, no_mark}
use Rattle.cose_commands.proofs.refused.about_argument.Goals as goal

pub returns-in-Some : goal.returns-in-Some
returns-in-Some c =
    IfOk-weaker c.with_usage.result _ _
    (λ said is. is ∙ sym (ap (argument_text c.args.kind) (last_mark (codes "\n\nUsage: ") _ _ _ (omega arith) c.in-Some.ensures.cases)))
    c.with_usage.ensures

pub returns-in-None : goal.returns-in-None
returns-in-None c =
    IfOk-weaker c.kind_alone.result _ _
    (λ said is. is ∙ sym (ap (argument_text c.args.kind) (no_mark (codes "\n\nUsage: ") _ c.in-None.ensures.cases)))
    c.kind_alone.ensures
