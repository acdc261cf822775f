use Rattle.std.proofs.Common.{arith}
use Rattle.std.proofs.lemmas.Result.{err_from_is_err_and}
use Rattle.cose_msg.proofs.lemmas.Made.Making.{unprotected_none, unprotected_some}
use Rattle.cose_msg.proofs.lemmas.Made.Puts.{writes_both, writes_counted, writes_none, writes_one}
use Rattle.cose_msg.proofs.make.put_unprotected.Goals as goal

pub returns-in-None-clause-written : goal.returns-in-None-clause-written
returns-in-None-clause-written g c = rw (c.in-None.is, unprotected_none) c.put_head.ensures.written

pub returns-in_err-map-in-Some-clause-written : goal.returns-in_err-map-in-Some-clause-written
returns-in_err-map-in-Some-clause-written g c =
    let p = err_from_is_err_and c.from_residual.result c.from_residual.ensures.1 in
    rw (p.1, p.2, c.in-Some.is, unprotected_some) (writes_none _ c.in_err-map-in-Some.ensures.written)

pub returns-in_err-label-in-Some-clause-written : goal.returns-in_err-label-in-Some-clause-written
returns-in_err-label-in-Some-clause-written g c =
    let p = err_from_is_err_and c.from_residual-in_err-label-in-Some.result c.from_residual-in_err-label-in-Some.ensures.1 in
    rw (p.1, p.2, c.in-Some.is, unprotected_some) (writes_one c.in_ok-map-in-Some.ensures.written (writes_none _ c.in_err-label-in-Some.ensures.written))

pub returns-in_err-value-in-Some-clause-written : goal.returns-in_err-value-in-Some-clause-written
returns-in_err-value-in-Some-clause-written g c =
    let p = err_from_is_err_and c.from_residual-in_err-value-in-Some.result c.from_residual-in_err-value-in-Some.ensures.1 in
    rw (p.1, p.2, c.in-Some.is, unprotected_some) (writes_one c.in_ok-map-in-Some.ensures.written (writes_one c.in_ok-label-in-Some.ensures.written c.in_err-value-in-Some.ensures.written))

pub returns-in_ok-value-in-Some-clause-written : goal.returns-in_ok-value-in-Some-clause-written
returns-in_ok-value-in-Some-clause-written g c =
    rw (c.in-Some.is, unprotected_some) (writes_counted _ (omega arith)
    (writes_both c.in_ok-map-in-Some.ensures.written (writes_both c.in_ok-label-in-Some.ensures.written c.in_ok-value-in-Some.ensures.written)))
