use Rattle.std.proofs.Common.{◌∙◌, sym}
use Rattle.cose_cwt.proofs.laws.stated_token_is_token.Goals as goal

pub returns-clause-mac : goal.returns-clause-mac
returns-clause-mac c room nesting setting decides policy requirements bytes mac payload found whole outcome is_whole is_mac is_tag is_payload by = record {
  verdict = by.verdict;
  judged = sym (c.authentication_is_stated.ensures.mac room nesting setting decides bytes mac found whole is_whole is_mac is_tag) ∙ by.judged;
  comes = rw is_payload at by.comes;
}

pub returns-clause-answer : goal.returns-clause-answer
returns-clause-answer c room nesting setting decides policy requirements bytes payload holds found whole outcome is_whole signs is_right is_payload by = record {
  verdict = by.verdict;
  judged = sym (c.authentication_is_stated.ensures.answer room nesting setting decides bytes holds found whole is_whole signs is_right) ∙ by.judged;
  comes = rw is_payload at by.comes;
}
