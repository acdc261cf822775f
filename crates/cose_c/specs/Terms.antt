-- What the arguments of a call say of a message.
use Rattle.std.specs.Prelude.{ℕ, ◌-◌, ◌^◌, true, List, [], length, Option, Some, None, Result, Ok, Err, nat_lt, ◌==◌, if◌then◌else◌, false}
use Rattle.cose_map.specs.declared.key_set.KeySet.{KeySet}
use Rattle.cose_map.specs.Key.Value.{KeyValue}
use Rattle.cose_map.specs.KeySet.View.{keys as usable}
use Rattle.cose_map.specs.Map.Read.{Read}
use Rattle.cose_msg.specs.declared.context.Context.{Context}
use Rattle.cose_msg.specs.declared.context.Wanted.{Wanted}
use Rattle.cose_msg.specs.declared.context.Wanted.TheVariants.{Mac0, Sign1, Tagged}
use Rattle.cose_msg.specs.Message.{Setting}
use Rattle.cose_msg.specs.Source.{attached}
use Rattle.cose_msg.specs.Verifier.{setting_of}
use Rattle.cose_c.specs.declared.numbers.CoseStatus.{CoseStatus}
use Rattle.cose_c.specs.Numbers.{plain_status, refused_status}

-- The kinds that a number names: 0 either, by the message's tag; 17 and 18, the numbers of their tags, one kind, with its tag or without.
abbrev pub kinds_numbered : ℕ → Option Wanted
kinds_numbered n = if n == 0 then Some Tagged else if n == 17 then Some Mac0 else if n == 18 then Some Sign1 else None

-- No message is verified where the number names none (12), or where there is too much external data (5).
abbrev pub kinds_within : List ℕ → Option Wanted → Result Wanted CoseStatus
kinds_within aad None = Err (plain_status 12)
kinds_within aad (Some kinds) = if nat_lt 65535 (length aad) then Err (plain_status 5) else Ok kinds

abbrev pub kinds_given : List ℕ → ℕ → Result Wanted CoseStatus
kinds_given aad wanted = kinds_within aad (kinds_numbered wanted)

-- The CWT tag is known, no label is understood in addition to the standard's, a payload may be as long as any, and it is in the message.
abbrev pub setting_under : List KeyValue → List ℕ → Wanted → Setting
setting_under keys aad wanted = record {
  keys = keys;
  aad = aad;
  wanted = wanted;
  cwt = true;
  understood = [];
  payload_limit = 2 ^ 56 - 1;
  source = attached;
  elsewhere = false;
}

-- Nor is one under a key set that is refused (4).
abbrev pub setting_with : Read (List KeyValue) → List ℕ → Result Wanted CoseStatus → Result Setting CoseStatus
setting_with keys aad (Err status) = Err status
setting_with (Err refusal) aad (Ok kinds) = Err (refused_status 4 refusal)
setting_with (Ok keys) aad (Ok kinds) = Ok (setting_under keys aad kinds)

-- What a message is verified under, by the keys, the external data and the number of the kinds; or why none is.
abbrev pub setting_given : Read (List KeyValue) → List ℕ → ℕ → Result Setting CoseStatus
setting_given keys aad wanted = setting_with keys aad (kinds_given aad wanted)

-- The same, as the code has it, by what its keys mean.
abbrev pub settings_by : {S : Type 0} → (S → List KeyValue) → Result (Context S) CoseStatus → Result Setting CoseStatus
settings_by meaning (Ok context) = Ok (setting_of meaning context)
settings_by meaning (Err status) = Err status

-- Of a key set.
abbrev pub settings_in : Result (Context KeySet) CoseStatus → Result Setting CoseStatus
settings_in given = settings_by usable given
