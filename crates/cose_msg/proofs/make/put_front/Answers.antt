use Rattle.std.proofs.Common.{sym, arith}
use Rattle.std.proofs.lemmas.Result.{err_from_is_err_and}
use Rattle.cose_msg.proofs.lemmas.Made.Puts.{writes_both, writes_counted, writes_none, writes_one}
use Rattle.cose_msg.proofs.make.put_front.Goals as goal

pub returns-in_err-array-clause-written : goal.returns-in_err-array-clause-written
returns-in_err-array-clause-written g c =
    let p = err_from_is_err_and c.from_residual-in_err-array.result c.from_residual-in_err-array.ensures.1 in
    rw (p.1, p.2, sym c.tag_of.ensures) (writes_one c.in_ok-tag.ensures.written (writes_none _ c.in_err-array.ensures.written))

pub returns-in_err-protected-clause-written : goal.returns-in_err-protected-clause-written
returns-in_err-protected-clause-written g c =
    let p = err_from_is_err_and c.from_residual-in_err-protected.result c.from_residual-in_err-protected.ensures.1 in
    rw (p.1, p.2, sym c.tag_of.ensures) (writes_one c.in_ok-tag.ensures.written (writes_one c.in_ok-array.ensures.written (writes_none _ c.in_err-protected.ensures.written)))

pub returns-in_err-unprotected-clause-written : goal.returns-in_err-unprotected-clause-written
returns-in_err-unprotected-clause-written g c =
    let p = err_from_is_err_and c.from_residual-in_err-unprotected.result c.from_residual-in_err-unprotected.ensures.1 in
    rw (p.1, p.2, sym c.tag_of.ensures) (writes_one c.in_ok-tag.ensures.written (writes_one c.in_ok-array.ensures.written (
    writes_one c.in_ok-protected.ensures.written (writes_none _ c.in_err-unprotected.ensures.written))))

pub returns-in_err-payload-clause-written : goal.returns-in_err-payload-clause-written
returns-in_err-payload-clause-written g c =
    let p = err_from_is_err_and c.from_residual-in_err-payload.result c.from_residual-in_err-payload.ensures.1 in
    rw (p.1, p.2, sym c.tag_of.ensures) (writes_one c.in_ok-tag.ensures.written (writes_one c.in_ok-array.ensures.written (
    writes_one c.in_ok-protected.ensures.written (writes_one c.in_ok-unprotected.ensures.written c.in_err-payload.ensures.written))))

pub returns-in_err-tag-clause-written : goal.returns-in_err-tag-clause-written
returns-in_err-tag-clause-written g c =
    let p = err_from_is_err_and c.from_residual.result c.from_residual.ensures.1 in
    rw (p.1, p.2, sym c.tag_of.ensures) (writes_none _ c.in_err-tag.ensures.written)

pub returns-in_err-tag-clause-short : goal.returns-in_err-tag-clause-short
returns-in_err-tag-clause-short g c = rw (err_from_is_err_and c.from_residual.result c.from_residual.ensures.1).1 tt

pub returns-in_err-array-clause-short : goal.returns-in_err-array-clause-short
returns-in_err-array-clause-short g c = rw (err_from_is_err_and c.from_residual-in_err-array.result c.from_residual-in_err-array.ensures.1).1 tt

pub returns-in_err-protected-clause-short : goal.returns-in_err-protected-clause-short
returns-in_err-protected-clause-short g c = rw (err_from_is_err_and c.from_residual-in_err-protected.result c.from_residual-in_err-protected.ensures.1).1 tt

pub returns-in_err-unprotected-clause-short : goal.returns-in_err-unprotected-clause-short
returns-in_err-unprotected-clause-short g c = rw (err_from_is_err_and c.from_residual-in_err-unprotected.result c.from_residual-in_err-unprotected.ensures.1).1 tt

pub returns-in_err-payload-clause-short : goal.returns-in_err-payload-clause-short
returns-in_err-payload-clause-short g c = rw (err_from_is_err_and c.from_residual-in_err-payload.result c.from_residual-in_err-payload.ensures.1).1 tt

pub overflow_add-result : goal.overflow_add-result
overflow_add-result g c = omega (arith, c.in_ok-tag.ensures.short, c.in_ok-array.ensures.short)

pub overflow_add-result-2 : goal.overflow_add-result-2
overflow_add-result-2 g c = omega (arith, c.in_ok-tag.ensures.short, c.in_ok-array.ensures.short, c.in_ok-protected.ensures.short, c.requires.protected)

pub overflow_add-result-3 : goal.overflow_add-result-3
overflow_add-result-3 g c = omega (arith, c.in_ok-tag.ensures.short, c.in_ok-array.ensures.short, c.in_ok-protected.ensures.short, c.in_ok-unprotected.ensures.short, c.requires.protected)

pub overflow_add-result-4 : goal.overflow_add-result-4
overflow_add-result-4 g c = omega (arith, c.in_ok-tag.ensures.short, c.in_ok-array.ensures.short, c.in_ok-protected.ensures.short, c.in_ok-unprotected.ensures.short, c.in_ok-payload.ensures.short, c.requires.protected)

pub returns-clause-written : goal.returns-clause-written
returns-clause-written g c =
    rw (sym c.tag_of.ensures) (writes_counted _ (omega arith) (writes_both c.in_ok-tag.ensures.written (writes_both c.in_ok-array.ensures.written (
    writes_both c.in_ok-protected.ensures.written (writes_both c.in_ok-unprotected.ensures.written c.in_ok-payload.ensures.written)))))

pub returns-clause-short : goal.returns-clause-short
returns-clause-short g c = omega (arith, c.in_ok-tag.ensures.short, c.in_ok-array.ensures.short, c.in_ok-protected.ensures.short, c.in_ok-unprotected.ensures.short, c.in_ok-payload.ensures.short)
