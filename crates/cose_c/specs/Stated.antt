-- What a caller states of messages in one struct, and what a message is verified under then.
use Rattle.std.specs.Prelude.{ℕ, ℤ, pos, Bool, true, not, ◌-◌, ◌^◌, ◌||◌, List, take, map, Result, Ok, Err, nat_lt, ◌==◌, if◌then◌else◌, bit_and, false}
use Rattle.std.specs.List.{position_or_len}
use Rattle.std.specs.Ordering.{int_eq}
use Rattle.cose_map.specs.Key.Value.{KeyValue}
use Rattle.cose_map.specs.KeySet.{keys_of}
use Rattle.cose_map.specs.Label.{LabelValue, number}
use Rattle.cose_map.specs.Map.Read.{Read}
use Rattle.cose_msg.specs.declared.context.Context.{Context}
use Rattle.cose_msg.specs.declared.context.Wanted.{Wanted}
use Rattle.cose_msg.specs.Message.{Setting}
use Rattle.cose_msg.specs.Source.{attached}
use Rattle.cose_c.specs.declared.numbers.CoseStatus.{CoseStatus}
use Rattle.cose_c.specs.declared.permitted.PermittedKeys.{PermittedKeys}
use Rattle.cose_c.specs.declared.stated.CoseTerms.{CoseTerms}
use Rattle.cose_c.specs.Numbers.{plain_status, refused_status}
use Rattle.cose_c.specs.Permitted.{PermissionValue, permitted_in}
use Rattle.cose_c.specs.PermittedView.{keys_permitted}
use Rattle.cose_c.specs.Terms.{kinds_given, settings_by}

-- A flag, which is a power of two, among others.
abbrev pub has_flag : ℕ → ℕ → Bool
has_flag flags flag = not (bit_and flags flag == 0)

abbrev pub permission_stated : CoseTerms → PermissionValue
permission_stated terms = record {
  algorithms = terms.algorithms;
  least_secret = terms.least_secret;
  short_mac = has_flag terms.permitted 1;
  without_alg = has_flag terms.permitted 2;
}

-- Zero is no label (RFC 9052 section 11.1): it ends those that are stated.
abbrev pub count_before_zero : List ℤ → ℕ
count_before_zero numbers = position_or_len (λ n. int_eq n (pos 0)) numbers

abbrev pub labels_stated : List ℤ → List LabelValue
labels_stated numbers = take (count_before_zero numbers) (map number numbers)

-- The most bytes of a payload are those that any may have, where no other number is stated.
abbrev pub limit_stated : ℕ → ℕ
limit_stated stated = if stated == 0 then 2 ^ 56 - 1 else stated

-- A struct of another size is of another version; and there are two flags.
abbrev pub is_unknown : CoseTerms → Bool
is_unknown terms = not (terms.size == 248) || nat_lt 3 terms.permitted

abbrev pub setting_permitted : CoseTerms → List LabelValue → List KeyValue → Wanted → Setting
setting_permitted terms understood keys kinds = record {
  keys = keys;
  aad = terms.aad.now;
  wanted = kinds;
  cwt = true;
  understood = understood;
  payload_limit = limit_stated terms.payload_limit;
  source = attached;
  elsewhere = false;
}

abbrev pub setting_among : CoseTerms → List LabelValue → Read (List KeyValue) → Result Wanted CoseStatus → Result Setting CoseStatus
setting_among terms understood keys (Err status) = Err status
setting_among terms understood (Err refusal) (Ok kinds) = Err (refused_status 4 refusal)
setting_among terms understood (Ok keys) (Ok kinds) = Ok (setting_permitted terms understood keys kinds)

-- What a message is verified under, where these labels are understood; or why none is.
abbrev pub setting_under_terms : CoseTerms → List LabelValue → Result Setting CoseStatus
setting_under_terms terms understood =
    if is_unknown terms then Err (plain_status 12)
    else setting_among terms understood (permitted_in (permission_stated terms) (keys_of terms.keys.now)) (kinds_given terms.aad.now terms.kind)

-- And where those are that are stated.
abbrev pub setting_stated : CoseTerms → Result Setting CoseStatus
setting_stated terms = setting_under_terms terms (labels_stated terms.understood)

-- What the messages that a block is fed are verified under. A block keeps no labels: terms that state some are refused (12).
abbrev pub setting_fed : CoseTerms → Result Setting CoseStatus
setting_fed terms = if nat_lt 0 (count_before_zero terms.understood) then Err (plain_status 12) else setting_stated terms

-- The same, as the code has it.
abbrev pub settings_stated : Result (Context PermittedKeys) CoseStatus → Result Setting CoseStatus
settings_stated given = settings_by keys_permitted given
