use Rattle.std.proofs.Common.{arith, ◌∙◌}
use Rattle.cose_text.proofs.Dates.{month_found, month_left, no_month}
use Rattle.cose_text.proofs.date.month_of.Goals as goal

pub returns-then-left-length : goal.returns-then-left-length
returns-then-left-length c =
    month_found c.args.year c.months.month c.months.left _ _ (c.from-length.ensures ∙ c.days_of_month.ensures) c.if-left-length.true c.months-test.true c.months.invariant

pub months-preserved : goal.months-preserved
months-preserved c =
    month_left c.args.year c.months.month c.months.left _ _ (c.from-length.ensures ∙ c.days_of_month.ensures) (omega (arith, c.if-left-length.false)) c.months-test.true
    c.months.invariant

pub returns : goal.returns
returns c = no_month c.args.year c.months.month c.months.left _ (omega (arith, c.months-test.false, c.months.auto.month-end)) c.months.invariant
