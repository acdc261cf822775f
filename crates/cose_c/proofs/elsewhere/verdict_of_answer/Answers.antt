use Rattle.std.proofs.Common.{sym, ap, ◌∙◌}
use Rattle.cose_msg.specs.Task.{to_verify_elsewhere}
use Rattle.cose_c.specs.Numbers.{always_authentic, verdict_numbers}
use Rattle.cose_c.proofs.Streams.{read_in}
use Rattle.cose_c.proofs.elsewhere.verdict_of_answer.Goals as goal

pub returns-clause-verdict : goal.returns-clause-verdict
returns-clause-verdict g c = λ setting taken payload read wants.
    let h = (read_in (to_verify_elsewhere setting) taken payload _ c.in-Some.verifier c.in-Some.is read).0 in
    c.numbers_of.ensures ∙ sym (ap (verdict_numbers always_authentic 0) (c.verdict_of_answer.ensures.answer setting taken payload h))
