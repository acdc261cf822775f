use Rattle.cose_answers.proofs.lemmas.Files.FirstBytes.{first_read}
use Rattle.cosecmd.proofs.files.first_bytes.Goals as goal

pub returns : goal.returns
returns g c = λ bytes e.
    first_read 65536 _ _ _ _ bytes (rw c.take-front.ensures.inner (c.in_ok-open.ensures bytes e)) c.take-front.ensures.limit c.new-bytes.ensures.items c.in_ok-read_to_end.ensures.bytes
