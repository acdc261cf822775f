use Rattle.std.proofs.Common.{◌≡◌, Some, codes, sym, ap, ◌∙◌, rules, refl, option_and_then}
use Rattle.cose_commands.specs.Refused.{before_quote, option_of}
use Rattle.cose_commands.proofs.Marks.{after_for, no_mark}
use Rattle.cose_commands.proofs.refused.option_in.Goals as goal

pub returns-in_err-option : goal.returns-in_err-option
returns-in_err-option c =
    rw c.from_residual.ensures (sym (ap (option_and_then (option_of c.args.kind)) (no_mark (codes "' for '") c.args.text.now c.in_err-option.ensures.cases)))

pub returns-in-InvalidValue : goal.returns-in-InvalidValue
returns-in-InvalidValue c =
    let whole : option_of c.args.kind c.in_ok-option.option.now ≡ Some c.in_ok-option.option.now = rw c.in-InvalidValue.is refl in
    sym (after_for c.args.kind c.args.text.now _ _ c.in_ok-option.ensures.cases ∙ whole)

pub returns-in_default : goal.returns-in_default
returns-in_default c =
    let part : option_of c.args.kind c.in_ok-option.option.now ≡ before_quote c.in_ok-option.option.now = search rules in
    c.up_to_quote.ensures ∙ sym (after_for c.args.kind c.args.text.now _ _ c.in_ok-option.ensures.cases ∙ part)
