use Rattle.cose_msg.proofs.reader.Reader.protected.Goals as goal

pub returns : goal.returns
returns g c = cc
