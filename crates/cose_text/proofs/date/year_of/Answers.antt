use Rattle.std.proofs.Common.{arith}
use Rattle.cose_text.proofs.Dates.{no_year, year_found, year_left}
use Rattle.cose_text.proofs.date.year_of.Goals as goal

pub returns-then-left-length : goal.returns-then-left-length
returns-then-left-length c = year_found c.years.year c.years.left _ _ c.days_of_year-length.ensures c.if-left-length.true c.years-test.true c.years.invariant

pub years-preserved : goal.years-preserved
years-preserved c = year_left c.years.year c.years.left _ _ c.days_of_year-length.ensures (omega (arith, c.if-left-length.false)) c.years-test.true c.years.invariant

pub returns : goal.returns
returns c = no_year c.years.year c.years.left _ (omega (arith, c.years-test.false, c.years.auto.year-end)) c.years.invariant
