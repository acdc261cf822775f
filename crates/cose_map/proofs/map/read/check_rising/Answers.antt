use Rattle.std.proofs.Common.{◌∙◌, length, ap, arith, sym, not, true}
use Rattle.std.specs.Prelude.{option_map}
use Rattle.std.proofs.lemmas.Result.{err_from_is_err_and}
use Rattle.cose_head.specs.ItemRef.{placed}
use Rattle.cose_map.specs.Map.Earlier.{earlier_pairs}
use Rattle.cose_map.specs.Label.View.{label_value}
use Rattle.cose_map.specs.Map.View.{pair_value}
use Rattle.cose_map.proofs.lemmas.Map.Read.{pairs_on, pairs_off, pairs_done, no_label_after, pair_checked, checked_label}
use Rattle.cose_map.proofs.lemmas.Label.Order.{greatest_now, none_passed}
use Rattle.cose_map.proofs.map.read.check_rising.Goals as goal

pub returns-in_err-name-clause-refused : goal.returns-in_err-name-clause-refused
returns-in_err-name-clause-refused g c =
    let p = err_from_is_err_and c.from_residual.result c.from_residual.ensures.1 in
    rw (p.1, p.2) (pairs_off _ _ _ _ _ _ _ _ _ c.in-Some.ensures c.pairs.invariant.onward (no_label_after (g.F.Form.table c.args.form.now) (earlier_pairs c.pairs.earlier) (placed c.in-Some.label) (placed c.in-Some.value) _ c.in_err-name.ensures))

pub returns-in_err-checked-clause-refused : goal.returns-in_err-checked-clause-refused
returns-in_err-checked-clause-refused g c =
    let p = err_from_is_err_and c.from_residual-in_err-checked.result c.from_residual-in_err-checked.ensures.1 in
    let earlier = c.pairs.earlier in
    let new = sym (ap not (none_passed (option_map label_value earlier.greatest) (label_value c.in_ok-name.name) (earlier_pairs earlier) earlier.greatest_of_them (sym c.passes.ensures ∙ c.if-not-passes.false))) in
    rw (p.1, p.2) (pairs_off _ _ _ _ _ _ _ _ _ c.in-Some.ensures c.pairs.invariant.onward
    (pair_checked (g.F.Form.table c.args.form.now) (earlier_pairs earlier) (placed c.in-Some.label) (placed c.in-Some.value) (label_value c.in_ok-name.name) true _ c.in_ok-name.ensures new c.in_err-checked.ensures))

pub push_greatest-requires-clause-greatest : goal.push_greatest-requires-clause-greatest
push_greatest-requires-clause-greatest g c =
    let earlier = c.pairs.earlier in
    let table = g.F.Form.table c.args.form.now in
    let pair = pair_value (c.in_ok-checked.checked, c.in-Some.label, c.in-Some.value) in
    let passed = sym c.passes.ensures ∙ c.if-not-passes.false in
    let new = sym (ap not (none_passed (option_map label_value earlier.greatest) (label_value c.in_ok-name.name) (earlier_pairs earlier) earlier.greatest_of_them passed)) in
    let next = pairs_on _ _ _ _ _ _ _ _ _ c.in-Some.ensures c.pairs.invariant.to_come c.pairs.invariant.onward
    (pair_checked table (earlier_pairs earlier) (placed c.in-Some.label) (placed c.in-Some.value) (label_value c.in_ok-name.name) true _ c.in_ok-name.ensures new c.in_ok-checked.ensures) in
    let same = checked_label table (placed c.in-Some.label) (placed c.in-Some.value) (label_value c.in_ok-name.name) pair c.in_ok-checked.ensures in
    rw next.0 (greatest_now (option_map label_value earlier.greatest) pair (earlier_pairs earlier) earlier.greatest_of_them (rw same passed))

pub pairs-preserved : goal.pairs-preserved
pairs-preserved g c =
    let earlier = c.pairs.earlier in
    let new = sym (ap not (none_passed (option_map label_value earlier.greatest) (label_value c.in_ok-name.name) (earlier_pairs earlier) earlier.greatest_of_them (sym c.passes.ensures ∙ c.if-not-passes.false))) in
    let next = pairs_on _ _ _ _ _ _ _ _ _ c.in-Some.ensures c.pairs.invariant.to_come c.pairs.invariant.onward
    (pair_checked (g.F.Form.table c.args.form.now) (earlier_pairs earlier) (placed c.in-Some.label) (placed c.in-Some.value) (label_value c.in_ok-name.name) true _ c.in_ok-name.ensures new c.in_ok-checked.ensures) in
    let added = c.push_greatest.ensures in
    let shorter = ap length c.in-Some.ensures in
    record {
      all = added.pairs ∙ c.pairs.invariant.all;
      onward = rw (added.count, added.pairs) next.1;
      to_come = rw (added.count, added.pairs) next.2;
      few = omega (arith, added.count, shorter, c.pairs.invariant.few);
    }

pub returns-clause-found : goal.returns-clause-found
returns-clause-found g c = pairs_done _ _ _ _ _ c.in_default.ensures c.pairs.invariant.to_come c.pairs.invariant.onward
