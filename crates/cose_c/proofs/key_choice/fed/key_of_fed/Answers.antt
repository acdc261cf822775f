use Rattle.std.proofs.Common.{refl, rules, sym, ap, ◌≡◌, ◌∙◌, None, Some, option_map}
use Rattle.cose_head.specs.Whole.{whole}
use Rattle.cose_map.specs.Choice.View.{question}
use Rattle.cose_c.specs.Item.{item_numbers}
use Rattle.cose_c.specs.KeyChoice.{fitting_in, key_of_fed}
use Rattle.cose_c.specs.Permitted.{PermissionValue}
use Rattle.cose_c.proofs.KeysOfFed.{none_if_unknown, none_without_kind, none_without_message, what_is_asked_for}
use Rattle.cose_c.proofs.key_choice.fed.key_of_fed.Goals as goal
use Rattle.cose_c.proofs.key_choice.fed.key_of_fed.Goals.{in_default-via-in-Some+in_default, in_default-via-in_default}

pub query-requires : goal.query-requires
query-requires g c κs = (search rules, (refl, tt))

pub returns-in_default : goal.returns-in_default
returns-in_default g c =
    let none : key_of_fed c.args.terms.now c.args.content.now ≡ None = elim c.in_default.branch [
      | in_default-via-in-Some+in_default w ↦ none_without_kind c.args.terms.now c.args.content.now (sym c.kind_numbered.ensures ∙ w.in_default.is-1)
      | in_default-via-in_default w ↦ none_without_message c.args.terms.now c.args.content.now w.in_default.is-0
    ] in
    c.no_item.ensures ∙ ap item_numbers (sym none)

pub returns-then-not-is_known : goal.returns-then-not-is_known
returns-then-not-is_known g c = c.no_item-then-not-is_known.ensures ∙ ap item_numbers (sym (none_if_unknown c.args.terms.now c.args.content.now (sym c.is_known.ensures ∙ c.if-not-is_known.true)))

pub returns-in-Some : goal.returns-in-Some
returns-in-Some g c =
    let found = what_is_asked_for c.args.terms.now c.args.content.now c.in-Some-Some.verifier c.in-Some-Some.kind (Some (question c.in-Some.query)) (sym c.is_known.ensures ∙ c.if-not-is_known.false)
    c.in-Some-Some.is-0 (sym c.kind_numbered.ensures ∙ c.in-Some-Some.is-1) (sym (ap (option_map question) c.in-Some.is) ∙ c.query.ensures) in
    c.numbers_of.ensures
    ∙ ap item_numbers (c.first_in.ensures
    ∙ ap (λ (p : PermissionValue). fitting_in (question c.in-Some.query) p (whole 8 (record { bytes = c.args.terms.now.keys.now; place = 0 }))) c.permission.ensures
    ∙ sym found)

pub returns-in-None : goal.returns-in-None
returns-in-None g c =
    let found = what_is_asked_for c.args.terms.now c.args.content.now c.in-Some-Some.verifier c.in-Some-Some.kind None (sym c.is_known.ensures ∙ c.if-not-is_known.false)
    c.in-Some-Some.is-0 (sym c.kind_numbered.ensures ∙ c.in-Some-Some.is-1) (sym (ap (option_map question) c.in-None.is) ∙ c.query.ensures) in
    c.no_item-in-None.ensures ∙ ap item_numbers (sym found)
