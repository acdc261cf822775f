-- It is among those that are left exactly where it is among all.
use Rattle.std.proofs.Common.{◌≡◌, bytes_eq}
use Rattle.std.specs.List.{list_any}
use Rattle.cose_cwt.specs.Claims.{auds_of}
use Rattle.cose_cwt.specs.Claims.Audience.{texts_left}
use Rattle.cose_cwt.specs.Claims.View.{claims_value}
use Rattle.cose_cwt.proofs.claims.Claims.aud_has.Given as goal

abbrev pub invariant-texts : goal.invariant-texts
invariant-texts l = list_any (bytes_eq l.name) (texts_left l.text-iterator) ≡ list_any (bytes_eq l.name) (auds_of (claims_value l.self))
