use Rattle.cose_msg.proofs.lemmas.Spelling.Authentications.{authentic_is_message}
use Rattle.cose_msg.proofs.lemmas.Spelling.Spelled.{SpellingLaws}
use Rattle.cose_msg.proofs.laws.authentication_decides.Goals as goal

pub returns : goal.returns
returns c =
    let laws : SpellingLaws = record { head = c.bare_head_is_spelling.ensures.spelled; item = c.read_is_spelling.ensures.spelled } in
    record { authentic = authentic_is_message laws }
