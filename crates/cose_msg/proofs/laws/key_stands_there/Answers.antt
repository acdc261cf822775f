use Rattle.cose_msg.proofs.lemmas.Deciding.Places as lemma
use Rattle.cose_msg.proofs.laws.key_stands_there.Goals as goal

pub returns : goal.returns
returns c = lemma.key_stands_there c.chosen_key_stands_there.ensures.key
