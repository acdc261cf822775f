-- A policy of the code, without where its text strings are in memory.
use Rattle.std.specs.Prelude.{ℕ, List, Option, Some, None, map}
use Rattle.cose_cwt.specs.declared.policy.Audience.{Audience}
use Rattle.cose_cwt.specs.declared.policy.Audience.TheVariants.{Mine, LeftToCaller}
use Rattle.cose_cwt.specs.declared.policy.Policy.{Policy}
use Rattle.cose_cwt.specs.Admission.{PolicyValue}
use Rattle.cose_cwt.specs.Claims.Audience.{text_value}

abbrev pub audience_value : Audience → Option (List (List ℕ))
audience_value (Mine names) = Some (map text_value names.now)
audience_value LeftToCaller = None

abbrev pub policy_value : Policy → PolicyValue
policy_value policy = record { now = policy.now; leeway = policy.leeway; mine = audience_value policy.audience }
