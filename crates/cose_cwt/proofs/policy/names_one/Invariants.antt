-- One is among those that are left exactly where one is among all.
use Rattle.std.proofs.Common.{◌≡◌, map}
use Rattle.cose_cwt.specs.Admission.{names_one}
use Rattle.cose_cwt.specs.Claims.Audience.{text_value, texts_left}
use Rattle.cose_cwt.proofs.policy.names_one.Given as goal

abbrev pub invariant-texts : goal.invariant-texts
invariant-texts l = names_one (map text_value l.mine) (texts_left l.text-iterator) ≡ names_one (map text_value l.mine) (texts_left l.initial.texts)
