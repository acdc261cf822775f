use Rattle.cose_msg.proofs.lemmas.Made.MadeMessages.{signed_is_authentic}
use Rattle.cose_msg.proofs.lemmas.Spelling.Spelled.{SpellingLaws}
use Rattle.cose_msg.proofs.lemmas.Made.SpelledItems.{ItemLaws}
use Rattle.cose_msg.proofs.lemmas.Made.SpelledBuckets.{ShortestLaws}
use Rattle.cose_msg.proofs.laws.signed_is_authentic.Goals as goal

pub returns : goal.returns
returns c =
    let spelling : SpellingLaws = record { head = c.bare_head_is_spelling.ensures.spelled; item = c.read_is_spelling.ensures.spelled } in
    let items : ItemLaws = record { read = c.read_is_spelling.ensures.spelled; whole = c.whole_is_one_item.ensures.accepted; look = c.look_is_of_tree.ensures.look } in
    let shortest : ShortestLaws = record { spelling = spelling; items = items; shortest = c.shortest_is_spelling.ensures.item } in
    record { authentic = signed_is_authentic shortest }
