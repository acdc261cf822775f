use Rattle.std.proofs.Common.{sym}
use Rattle.std.proofs.lemmas.Result.{err_from_is_err_and}
use Rattle.cose_head.specs.PlacedLaws.{StandsIn}
use Rattle.cose_head.proofs.lemmas.Placed.Whole.{whole_refused, whole_trails, whole_found, whole_is_one_item, refused_inside}
use Rattle.cose_head.proofs.lemmas.Placed.PlacedTrees.{at}
use Rattle.cose_head.proofs.item_ref.ItemRef.read.Goals as goal

pub returns-in_err-span-clause-exact : goal.returns-in_err-span-clause-exact
returns-in_err-span-clause-exact c =
    let p = err_from_is_err_and c.from_residual.result c.from_residual.ensures.1 in
    rw (p.1, p.2) (sym (whole_refused c.args.depth (at c.args.bytes.now c.args.at) c.in_err-span.field-0.0 c.in_err-span.ensures.exact))

pub returns-in_err-span-clause-from : goal.returns-in_err-span-clause-from
returns-in_err-span-clause-from c =
    let p = err_from_is_err_and c.from_residual.result c.from_residual.ensures.1 in
    let e = whole_refused c.args.depth (at c.args.bytes.now c.args.at) c.in_err-span.field-0.0 c.in_err-span.ensures.exact in
    let inside : StandsIn (at c.args.bytes.now c.args.at) c.in_err-span.field-0.0.place = rw e at (refused_inside c.args.depth (at c.args.bytes.now c.args.at)) in
    rw (p.1, p.2) inside.0

pub returns-in_err-span-clause-within : goal.returns-in_err-span-clause-within
returns-in_err-span-clause-within c =
    let p = err_from_is_err_and c.from_residual.result c.from_residual.ensures.1 in
    let e = whole_refused c.args.depth (at c.args.bytes.now c.args.at) c.in_err-span.field-0.0 c.in_err-span.ensures.exact in
    let inside : StandsIn (at c.args.bytes.now c.args.at) c.in_err-span.field-0.0.place = rw e at (refused_inside c.args.depth (at c.args.bytes.now c.args.at)) in
    rw (p.1, p.2) inside.1

pub returns-then-span-bytes-clause-exact : goal.returns-then-span-bytes-clause-exact
returns-then-span-bytes-clause-exact c =
    sym (whole_trails c.args.depth (at c.args.bytes.now c.args.at) c.in_ok-span.span c.in_ok-span.ensures.exact c.if-span-bytes.true)

pub invariant_of-result-clause-is_item : goal.invariant_of-result-clause-is_item
invariant_of-result-clause-is_item c =
    whole_is_one_item c.args.depth (at c.args.bytes.now c.args.at) (at c.args.bytes.now c.args.at) c.requires.shallow
    (whole_found c.args.depth (at c.args.bytes.now c.args.at) c.in_ok-span.span c.in_ok-span.ensures.exact c.if-span-bytes.false)

pub returns-clause-exact : goal.returns-clause-exact
returns-clause-exact c =
    sym (whole_found c.args.depth (at c.args.bytes.now c.args.at) c.in_ok-span.span c.in_ok-span.ensures.exact c.if-span-bytes.false)
