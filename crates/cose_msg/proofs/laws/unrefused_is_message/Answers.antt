use Rattle.cose_msg.proofs.lemmas.Accepted.FoundMessages.{unrefused_is_message, one_message, whole_is_message, shaped_is_message}
use Rattle.cose_msg.proofs.lemmas.Spelling.Spelled.{SpellingLaws}
use Rattle.cose_msg.proofs.laws.unrefused_is_message.Goals as goal

pub returns : goal.returns
returns c =
    let laws : SpellingLaws = record { head = c.bare_head_is_spelling.ensures.spelled; item = c.read_is_spelling.ensures.spelled } in
    record { any = unrefused_is_message laws; one = one_message laws; whole = whole_is_message laws; shaped = shaped_is_message laws }
