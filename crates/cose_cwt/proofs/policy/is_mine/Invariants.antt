-- It is among those that are left exactly where it is among all.
use Rattle.std.proofs.Common.{◌≡◌, map, drop}
use Rattle.cose_cwt.specs.Admission.{is_one_of}
use Rattle.cose_cwt.specs.Claims.Audience.{text_value}
use Rattle.cose_cwt.proofs.policy.is_mine.Given as goal

abbrev pub invariant-mine : goal.invariant-mine
invariant-mine l = is_one_of (map text_value (drop l.name-index l.mine)) l.text ≡ is_one_of (map text_value l.mine) l.text
