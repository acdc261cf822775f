use Rattle.std.proofs.Common.{sym, ◌∙◌}
use Rattle.cose_answers.proofs.lemmas.Messages.Trailing.{same_if_last, refused_if_followed}
use Rattle.cose_answers.proofs.answers.verdict.whole_verdict.Goals as goal

pub returns-in-Some-clause-whole : goal.returns-in-Some-clause-whole
returns-in-Some-clause-whole g c = λ rest e.
    refused_if_followed rest c.args.verdict c.in-Authentic.kind c.in-Authentic.alg c.in-Authentic.payload c.in-Authentic.taken c.in-Some.refusal c.in-Authentic.is (sym c.in-Some.is ∙ c.in_ok-refusal.ensures.whole rest e)

pub returns-in-None-clause-whole : goal.returns-in-None-clause-whole
returns-in-None-clause-whole g c = λ rest e.
    same_if_last rest c.args.verdict c.in-Authentic.kind c.in-Authentic.alg c.in-Authentic.payload c.in-Authentic.taken c.in-Authentic.is (sym c.in-None.is ∙ c.in_ok-refusal.ensures.whole rest e)
