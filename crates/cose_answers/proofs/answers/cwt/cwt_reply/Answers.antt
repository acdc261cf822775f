use Rattle.std.proofs.Common.{SFits, rules, w64, ◌∙◌}
use Rattle.std.proofs.lemmas.Int.{to_z-of_z}
use Rattle.cose_answers.specs.Printed.{admitted_under}
use Rattle.cose_answers.proofs.lemmas.Requests.Asked.{says_equal_words, token_words}
use Rattle.cose_answers.proofs.answers.cwt.cwt_reply.Goals as goal

pub returns-in-Small-clause-says : goal.returns-in-Small-clause-says
returns-in-Small-clause-says g c = λ bytes e.
    let words = c.args.words.now in
    let in_range : SFits w64 words.now = search rules in
    says_equal_words _ (token_words admitted_under words _ _ _ bytes c.policy_of.ensures c.requirements_of.ensures (to_z-of_z w64 words.now in_range))
    (c.admitted_reply.ensures.says bytes (c.new.ensures.known ∙ e))

pub returns-in-Large-clause-says : goal.returns-in-Large-clause-says
returns-in-Large-clause-says g c = λ bytes e.
    let words = c.args.words.now in
    let in_range : SFits w64 words.now = search rules in
    says_equal_words _ (token_words admitted_under words _ _ _ bytes c.policy_of.ensures c.requirements_of.ensures (to_z-of_z w64 words.now in_range))
    (c.admitted_reply-in-Large.ensures.says bytes (c.new.ensures.known ∙ e))
