use Rattle.std.proofs.Common.{SFits, ap, rules, sym, ◌∙◌}
use Rattle.std.specs.Int.{w128}
use Rattle.std.proofs.lemmas.Int.{to_z-of_z}
use Rattle.cose_text.specs.Date.{seconds_from_zero}
use Rattle.cose_text.proofs.Calendar.{dated_is}
use Rattle.cose_text.proofs.date.Date.of.Goals as goal

pub returns-clause-calendar : goal.returns-clause-calendar
returns-clause-calendar c =
    let in_range : SFits w128 c.args.seconds = search rules in
    dated_is c.args.seconds c.in_ok-seconds.seconds (c.in_ok-year.year, c.in_ok-year.day) (c.in_ok-month.month, c.in_ok-month.day)
    (ap seconds_from_zero (sym (to_z-of_z w128 c.args.seconds in_range)) ∙ sym c.in_ok-seconds.ensures)
    (sym c.in_ok-year.ensures) (sym c.in_ok-month.ensures)
