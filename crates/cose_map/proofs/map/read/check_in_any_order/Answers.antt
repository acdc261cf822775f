use Rattle.std.proofs.Common.{◌∙◌, length, ap, arith, sym, refl, Ok}
use Rattle.std.proofs.lemmas.Result.{err_from_is_err_and}
use Rattle.cose_head.specs.ItemRef.{placed}
use Rattle.cose_head.specs.Items.{items_left}
use Rattle.cose_map.specs.Map.Earlier.{earlier_pairs}
use Rattle.cose_map.specs.Label.View.{label_value}
use Rattle.cose_map.proofs.lemmas.Map.Read.{pairs_on, pairs_off, pairs_done, no_label_after, pair_checked, named_first}
use Rattle.cose_map.proofs.map.read.check_in_any_order.Goals as goal

pub returns-in_err-name : goal.returns-in_err-name
returns-in_err-name g c =
    let p = err_from_is_err_and c.from_residual.result c.from_residual.ensures.1 in
    rw (p.1, p.2) (pairs_off _ _ _ _ _ _ _ _ _ c.in-Some.ensures c.pairs.invariant.onward (no_label_after (g.F.Form.table c.args.form.now) (earlier_pairs c.pairs.unordered.earlier) (placed c.in-Some.label) (placed c.in-Some.value) _ c.in_err-name.ensures))

pub push-is_new-requires-clause-here : goal.push-is_new-requires-clause-here
push-is_new-requires-clause-here g c = named_first (placed c.in-Some.label) (placed c.in-Some.value) _ (items_left c.pairs.here) (label_value c.in_ok-name.name) (c.pairs.invariant.here ∙ c.in-Some.ensures) c.in_ok-name.ensures

pub returns-in_err-_checked : goal.returns-in_err-_checked
returns-in_err-_checked g c =
    let p = err_from_is_err_and c.from_residual-in_err-_checked.result c.from_residual-in_err-_checked.ensures.1 in
    rw (p.1, p.2) (pairs_off _ _ _ _ _ _ _ _ _ c.in-Some.ensures c.pairs.invariant.onward
    (pair_checked (g.F.Form.table c.args.form.now) (earlier_pairs c.pairs.unordered.earlier) (placed c.in-Some.label) (placed c.in-Some.value) (label_value c.in_ok-name.name) c.push-is_new.result _ c.in_ok-name.ensures c.push-is_new.ensures.new c.in_err-_checked.ensures))

pub pairs-preserved : goal.pairs-preserved
pairs-preserved g c =
    let next = pairs_on _ _ _ _ _ _ _ _ _ c.in-Some.ensures c.pairs.invariant.to_come c.pairs.invariant.onward
    (pair_checked (g.F.Form.table c.args.form.now) (earlier_pairs c.pairs.unordered.earlier) (placed c.in-Some.label) (placed c.in-Some.value) (label_value c.in_ok-name.name) c.push-is_new.result _ c.in_ok-name.ensures c.push-is_new.ensures.new c.in_ok-_checked.ensures) in
    let added = c.push-is_new.ensures in
    let shorter = ap length c.in-Some.ensures in
    record {
      all = added.pairs ∙ c.pairs.invariant.all;
      onward = rw (added.count, added.pairs) next.1;
      to_come = rw (added.count, added.pairs) next.2;
      few = omega (arith, added.count, shorter, c.pairs.invariant.few);
      here = refl;
      settled = added.settled;
    }

pub returns : goal.returns
returns g c = ap Ok (sym c.pairs.invariant.all) ∙ pairs_done _ _ _ _ _ c.in_default.ensures c.pairs.invariant.to_come c.pairs.invariant.onward
