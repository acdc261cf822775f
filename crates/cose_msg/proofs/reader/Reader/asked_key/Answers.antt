use Rattle.std.proofs.Common.{sym, ◌∙◌}
use Rattle.cose_msg.proofs.lemmas.Deciding.Frames.{key_is_asked}
use Rattle.cose_msg.proofs.reader.Reader.asked_key.Goals as goal

pub returns-in-Some-chosen-clause-key : goal.returns-in-Some-chosen-clause-key
returns-in-Some-chosen-clause-key g c = λ task B n reading h away. key_is_asked c.in-Some._frame (sym c.frame.ensures ∙ c.in-Some.is) h away c.in-Some-chosen.chosen c.in-Some-chosen.is
