use Rattle.std.proofs.Common.{rules, ◌≡◌, ◌∙◌, SFits, true, false, ap, of_z, refl, sym, to_z}
use Rattle.std.specs.Int.{w128}
use Rattle.std.specs.Option.{is_none}
use Rattle.std.proofs.lemmas.Int.{to_z-of_z}
use Rattle.cose_map.specs.Choice.{allows_kid, allows_operation}
use Rattle.cose_map.specs.Choice.Mismatch.{mismatch}
use Rattle.cose_map.specs.Choice.View.{question}
use Rattle.cose_map.specs.Key.View.{key_value}
use Rattle.cose_map.proofs.lemmas.Mismatch.{algorithm_where_unanswerable, none_where_fitting}
use Rattle.cose_map.proofs.choice.query.Query.mismatch.Goals as goal

pub returns-in_default-clause-first : goal.returns-in_default-clause-first
unfolding mismatch
returns-in_default-clause-first c = rw (← c.algorithm_with.ensures, c.in_default.is) refl

pub returns-in_default-clause-fits : goal.returns-in_default-clause-fits
returns-in_default-clause-fits c = ap is_none (returns-in_default-clause-first c) ∙ none_where_fitting (question c.args.self.now) (key_value c.args.key.now)

pub returns-in_default-clause-unanswerable : goal.returns-in_default-clause-unanswerable
returns-in_default-clause-unanswerable c = λ e. returns-in_default-clause-first c ∙ algorithm_where_unanswerable (question c.args.self.now) (key_value c.args.key.now) e

pub returns-then-not-is_of_type-clause-first : goal.returns-then-not-is_of_type-clause-first
unfolding mismatch
returns-then-not-is_of_type-clause-first c =
    rw (← c.algorithm_with.ensures, c.in-Some.is, ← c.key_type-wanted.ensures, ← c.is_of_type.ensures, c.if-not-is_of_type.true) refl

pub returns-then-not-is_of_type-clause-fits : goal.returns-then-not-is_of_type-clause-fits
returns-then-not-is_of_type-clause-fits c = ap is_none (returns-then-not-is_of_type-clause-first c) ∙ none_where_fitting (question c.args.self.now) (key_value c.args.key.now)

pub returns-then-not-is_of_type-clause-unanswerable : goal.returns-then-not-is_of_type-clause-unanswerable
returns-then-not-is_of_type-clause-unanswerable c = λ e. returns-then-not-is_of_type-clause-first c ∙ algorithm_where_unanswerable (question c.args.self.now) (key_value c.args.key.now) e

pub returns-then-not-is_on_curve-clause-first : goal.returns-then-not-is_on_curve-clause-first
unfolding mismatch
returns-then-not-is_on_curve-clause-first c =
    rw (← c.algorithm_with.ensures, c.in-Some.is, ← c.key_type-wanted.ensures, ← c.is_of_type.ensures, c.if-not-is_of_type.false, ← c.is_on_curve.ensures, c.if-not-is_on_curve.true) refl

pub returns-then-not-is_on_curve-clause-fits : goal.returns-then-not-is_on_curve-clause-fits
returns-then-not-is_on_curve-clause-fits c = ap is_none (returns-then-not-is_on_curve-clause-first c) ∙ none_where_fitting (question c.args.self.now) (key_value c.args.key.now)

pub returns-then-not-is_on_curve-clause-unanswerable : goal.returns-then-not-is_on_curve-clause-unanswerable
returns-then-not-is_on_curve-clause-unanswerable c = λ e. returns-then-not-is_on_curve-clause-first c ∙ algorithm_where_unanswerable (question c.args.self.now) (key_value c.args.key.now) e

pub returns-then-not-is_allowed_operation-clause-first : goal.returns-then-not-is_allowed_operation-clause-first
unfolding mismatch
returns-then-not-is_allowed_operation-clause-first c =
    let in_range : SFits w128 c.args.self.now.operation = search rules in
    let read : to_z w128 (of_z w128 c.args.self.now.operation) ≡ c.args.self.now.operation = to_z-of_z w128 c.args.self.now.operation in_range in
    let operation : allows_operation (key_value c.args.key.now).operations c.args.self.now.operation ≡ false = rw read at (sym c.is_allowed_operation.ensures ∙ c.if-not-is_allowed_operation.true) in
    rw (← c.algorithm_with.ensures, c.in-Some.is, ← c.key_type-wanted.ensures, ← c.is_of_type.ensures, c.if-not-is_of_type.false, ← c.is_on_curve.ensures, c.if-not-is_on_curve.false, operation) refl

pub returns-then-not-is_allowed_operation-clause-fits : goal.returns-then-not-is_allowed_operation-clause-fits
returns-then-not-is_allowed_operation-clause-fits c = ap is_none (returns-then-not-is_allowed_operation-clause-first c) ∙ none_where_fitting (question c.args.self.now) (key_value c.args.key.now)

pub returns-then-not-is_allowed_operation-clause-unanswerable : goal.returns-then-not-is_allowed_operation-clause-unanswerable
returns-then-not-is_allowed_operation-clause-unanswerable c = λ e. returns-then-not-is_allowed_operation-clause-first c ∙ algorithm_where_unanswerable (question c.args.self.now) (key_value c.args.key.now) e

pub returns-then-not-is_allowed_kid-clause-first : goal.returns-then-not-is_allowed_kid-clause-first
unfolding mismatch
returns-then-not-is_allowed_kid-clause-first c =
    let in_range : SFits w128 c.args.self.now.operation = search rules in
    let read : to_z w128 (of_z w128 c.args.self.now.operation) ≡ c.args.self.now.operation = to_z-of_z w128 c.args.self.now.operation in_range in
    let operation : allows_operation (key_value c.args.key.now).operations c.args.self.now.operation ≡ true = rw read at (sym c.is_allowed_operation.ensures ∙ c.if-not-is_allowed_operation.false) in
    let kid : allows_kid (key_value c.args.key.now).kid (question c.args.self.now).kid ≡ false = sym c.is_allowed_kid.ensures ∙ c.if-not-is_allowed_kid.true in
    rw (← c.algorithm_with.ensures, c.in-Some.is, ← c.key_type-wanted.ensures, ← c.is_of_type.ensures, c.if-not-is_of_type.false, ← c.is_on_curve.ensures, c.if-not-is_on_curve.false, operation, kid) refl

pub returns-then-not-is_allowed_kid-clause-fits : goal.returns-then-not-is_allowed_kid-clause-fits
returns-then-not-is_allowed_kid-clause-fits c = ap is_none (returns-then-not-is_allowed_kid-clause-first c) ∙ none_where_fitting (question c.args.self.now) (key_value c.args.key.now)

pub returns-then-not-is_allowed_kid-clause-unanswerable : goal.returns-then-not-is_allowed_kid-clause-unanswerable
returns-then-not-is_allowed_kid-clause-unanswerable c = λ e. returns-then-not-is_allowed_kid-clause-first c ∙ algorithm_where_unanswerable (question c.args.self.now) (key_value c.args.key.now) e

pub returns-clause-first : goal.returns-clause-first
unfolding mismatch
returns-clause-first c =
    let in_range : SFits w128 c.args.self.now.operation = search rules in
    let read : to_z w128 (of_z w128 c.args.self.now.operation) ≡ c.args.self.now.operation = to_z-of_z w128 c.args.self.now.operation in_range in
    let operation : allows_operation (key_value c.args.key.now).operations c.args.self.now.operation ≡ true = rw read at (sym c.is_allowed_operation.ensures ∙ c.if-not-is_allowed_operation.false) in
    let kid : allows_kid (key_value c.args.key.now).kid (question c.args.self.now).kid ≡ true = sym c.is_allowed_kid.ensures ∙ c.if-not-is_allowed_kid.false in
    rw (← c.algorithm_with.ensures, c.in-Some.is, ← c.key_type-wanted.ensures, ← c.is_of_type.ensures, c.if-not-is_of_type.false, ← c.is_on_curve.ensures, c.if-not-is_on_curve.false, operation, kid) refl

pub returns-clause-fits : goal.returns-clause-fits
returns-clause-fits c = ap is_none (returns-clause-first c) ∙ none_where_fitting (question c.args.self.now) (key_value c.args.key.now)

pub returns-clause-unanswerable : goal.returns-clause-unanswerable
returns-clause-unanswerable c = λ e. returns-clause-first c ∙ algorithm_where_unanswerable (question c.args.self.now) (key_value c.args.key.now) e
