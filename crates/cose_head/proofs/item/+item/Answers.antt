use Rattle.std.proofs.Common.{◌≡◌, length, ap, ◌∙◌, max, arith}
use Rattle.std.proofs.lemmas.List.{length-drop}
use Rattle.std.proofs.lemmas.Result.{err_from_is_err_and}
use Rattle.cose_head.specs.Reading.{read, read_all}
use Rattle.cose_head.specs.Measured.{left_of, nesting_all}
use Rattle.cose_head.proofs.lemmas.Reading.Measured.{item_refused}
use Rattle.cose_head.proofs.lemmas.Reading.ItemSteps.{leaf_done, string_done, string_refused, parent_refused, parent_done, children_refused, slice_from, items_next, items_done, ord_max-nat_cmp}
use Rattle.cose_head.proofs.item.+item.Goals as goal

pub any_item_at-returns-in_err-found-clause-exact : goal.any_item_at-returns-in_err-found-clause-exact
any_item_at-returns-in_err-found-clause-exact t c =
    let p = err_from_is_err_and c.from_residual.result c.from_residual.ensures.1 in
    rw (p.1, p.2) (item_refused c.args.depth
    (left_of c.args.bytes.now c.args.room c.args.place) c.in_err-found.field-0.0 c.in_err-found.ensures.exact)

pub any_item_at-returns-in_err-string-clause-exact : goal.any_item_at-returns-in_err-string-clause-exact
any_item_at-returns-in_err-string-clause-exact t c =
    let p = err_from_is_err_and c.from_residual-in_err-string.result c.from_residual-in_err-string.ensures.1 in
    rw (p.1, p.2) (string_refused c.args.depth c.args.bytes.now c.args.room c.args.place c.in_ok-found.found c.from-width.result
    c.from-width.ensures c.in_ok-found.ensures.exact
    c.in_err-string.field-0.0 c.if-is_string.ensures c.in_err-string.ensures.exact)

pub any_item_at-returns-then-is_string-clause-exact : goal.any_item_at-returns-then-is_string-clause-exact
any_item_at-returns-then-is_string-clause-exact t c =
    string_done c.args.depth c.args.bytes.now c.args.room c.args.place c.in_ok-found.found c.from-width.result c.from-width.ensures
    c.in_ok-found.ensures.exact
    c.in_ok-string.string.length c.in_ok-string.string.depth c.if-is_string.ensures c.in_ok-string.ensures.exact c.in_ok-string.ensures.flat

pub any_item_at-returns-then-not-is_parent-clause-exact : goal.any_item_at-returns-then-not-is_parent-clause-exact
any_item_at-returns-then-not-is_parent-clause-exact t c =
    leaf_done c.args.depth c.args.bytes.now c.args.room c.args.place c.in_ok-found.found c.from-width.result c.from-width.ensures
    c.in_ok-found.ensures.exact
    c.if-is_string.ensures c.if-not-is_parent.ensures

pub any_item_at-returns-in_err-count-clause-exact : goal.any_item_at-returns-in_err-count-clause-exact
any_item_at-returns-in_err-count-clause-exact t c =
    let p = err_from_is_err_and c.from_residual-in_err-count.result c.from_residual-in_err-count.ensures.1 in
    rw (p.1, p.2) (parent_refused c.args.depth c.args.bytes.now c.args.room c.args.place c.in_ok-found.found c.from-width.result
    c.from-width.ensures c.in_ok-found.ensures.exact
    c.in_err-count.field-0.0 c.if-is_string.ensures c.if-not-is_parent.ensures c.in_err-count.ensures)

pub any_item_at-returns-in_err-items-clause-exact : goal.any_item_at-returns-in_err-items-clause-exact
any_item_at-returns-in_err-items-clause-exact t c =
    let p = err_from_is_err_and c.from_residual-in_err-items.result c.from_residual-in_err-items.ensures.1 in
    rw (p.1, p.2) (children_refused c.args.depth c.args.bytes.now c.args.room c.args.place c.in_ok-found.found c.from-width.result
    c.from-width.ensures c.in_ok-found.ensures.exact
    c.in_ok-count.count c.in_err-items.field-0.0 c.if-is_string.ensures c.if-not-is_parent.ensures c.in_ok-count.ensures c.in_err-items.ensures.exact)

pub any_item_at-returns-clause-exact : goal.any_item_at-returns-clause-exact
any_item_at-returns-clause-exact t c =
    parent_done c.args.depth c.args.bytes.now c.args.room c.args.place c.in_ok-found.found c.from-width.result c.from-width.ensures
    c.in_ok-found.ensures.exact
    c.in_ok-count.count c.in_ok-items.items.length c.in_ok-items.items.depth c.if-is_string.ensures c.if-not-is_parent.ensures
    c.in_ok-count.ensures c.in_ok-items.ensures.exact

pub items_at-items-preserved : goal.items_at-items-preserved
items_at-items-preserved t c =
    let cut = ap length (slice_from c.items.length c.args.bytes.now) in
    let gone = length-drop c.items.length c.args.bytes.now in
    let greater : c.max-deepest.result ≡ max c.items.deepest c.in_ok-one.one.depth = c.max-deepest.ensures
    ∙ ord_max-nat_cmp c.items.deepest c.in_ok-one.one.depth in
    record {
      there = omega (arith, c.in_ok-one.ensures.there);
      fits = omega (arith, c.in_ok-one.ensures.fits);
      shallow = omega (arith, c.in_ok-one.ensures.nested);
      same = items_next c.args.depth c.args.bytes.now c.args.room c.args.place c.items.deepest c.items._index c.args.count c.items.length
          c.in_ok-one.one.depth c.in_ok-one.one.length c.max-deepest.result
          (nesting_all (read_all (read c.args.depth) c.args.count (left_of c.args.bytes.now c.args.room c.args.place)))
          c.items-test.true greater c.in_ok-one.ensures.exact c.items.invariant.same;
    }

pub items_at-returns-clause-exact : goal.items_at-returns-clause-exact
items_at-returns-clause-exact t c =
    items_done (read c.args.depth) c.items.deepest c.items._index c.args.count c.items.length (left_of c.args.bytes.now c.args.room c.args.place)
    (nesting_all (read_all (read c.args.depth) c.args.count (left_of c.args.bytes.now c.args.room c.args.place))) c.items-test.false
    c.items.auto._index-end c.items.invariant.same
