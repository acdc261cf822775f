use Rattle.cose_msg.proofs.lemmas.Spelling.ArraysOfFour.{array_of_four_is_message}
use Rattle.cose_msg.proofs.lemmas.Spelling.OneSpelling.{one_array_of_four}
use Rattle.cose_msg.proofs.lemmas.Spelling.Spelled.{SpellingLaws}
use Rattle.cose_msg.proofs.lemmas.Spelling.SpelledMessages.{message_is_array_of_four, message_read}
use Rattle.cose_msg.proofs.laws.spelled_is_read.Goals as goal

pub returns : goal.returns
returns c =
    let laws : SpellingLaws = record { head = c.bare_head_is_spelling.ensures.spelled; item = c.read_is_spelling.ensures.spelled } in
    record { read = message_read laws; one_item = message_is_array_of_four; any_array = array_of_four_is_message; one_array = one_array_of_four c.read_is_spelling.ensures.one }
