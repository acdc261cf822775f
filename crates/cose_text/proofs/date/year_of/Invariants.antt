use Rattle.std.proofs.Common.{◌≡◌, ◌-◌}
use Rattle.cose_text.specs.Date.{year_from}
use Rattle.cose_text.proofs.date.year_of.Given as goal

abbrev pub invariant-years : goal.invariant-years
invariant-years l = year_from (10000 - l.year) l.year l.left ≡ year_from 10000 0 l.day
