use Rattle.std.proofs.lemmas.Result.{err_from_is_err_and}
use Rattle.cose_msg.proofs.lemmas.Made.Puts.{writes_one}
use Rattle.cose_msg.proofs.make.put_byte_string.Goals as goal

pub returns-in_err-bytes-clause-written : goal.returns-in_err-bytes-clause-written
returns-in_err-bytes-clause-written g c =
    let p = err_from_is_err_and c.from_residual-in_err-bytes.result c.from_residual-in_err-bytes.ensures.1 in
    rw (p.1, p.2) (writes_one c.in_ok-head.ensures.written c.in_err-bytes.ensures.written)
