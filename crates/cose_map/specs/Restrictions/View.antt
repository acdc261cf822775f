-- Restrictions of the code, without where they are in memory.
use Rattle.std.specs.Prelude.{ℤ, List, option_map}
use Rattle.std.specs.Borrow.{Bor}
use Rattle.cose_map.specs.declared.restrictions.Restrictions.{Restrictions}
use Rattle.cose_map.specs.Restrictions.{RestrictionsValue}

abbrev pub numbers : Bor (List ℤ) → List ℤ
numbers list = list.now

abbrev pub restrictions_value : Restrictions → RestrictionsValue
restrictions_value r = record { algorithms = option_map numbers r.algorithms; least_secret = r.least_secret }
