use Rattle.std.proofs.Common.{◌≡◌, ◌-◌}
use Rattle.cose_text.specs.Date.{month_from}
use Rattle.cose_text.proofs.date.month_of.Given as goal

abbrev pub invariant-months : goal.invariant-months
invariant-months l = month_from (13 - l.month) l.fn.year l.month l.left ≡ month_from 12 l.fn.year 1 l.fn.day
