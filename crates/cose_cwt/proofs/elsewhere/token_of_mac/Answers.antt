use Rattle.cose_cwt.proofs.elsewhere.token_of_mac.Goals as goal

pub returns-clause-token : goal.returns-clause-token
returns-clause-token g c = λ setting taken so_far has. record {
  verdict = c.verdict_of_mac-verdict.result;
  judged = c.verdict_of_mac-verdict.ensures.answer setting taken so_far has;
  comes = c.token_after.ensures;
}

pub returns-clause-again : goal.returns-clause-again
returns-clause-again g c = λ verdict kept.
    let same = c.verdict_of_mac-verdict.ensures.again verdict kept in
    (rw same.0 at c.token_after.ensures, same.1)
