use Rattle.cose_msg.proofs.reader.Reader.wanted.Goals as goal

pub returns : goal.returns
returns g c = record { value = c.wanted.ensures.value; some = c.wanted.ensures.some }
