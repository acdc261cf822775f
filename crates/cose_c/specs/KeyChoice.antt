-- Which key of a set a message is verified with, and why a key isn't (RFC 9052 section 7.1).
use Rattle.std.specs.Prelude.{ℕ, true, false, List, [], ◌∷◌, Option, Some, None, Result, Ok, Err, if◌then◌else◌, option_and_then, ◌==◌}
use Rattle.cose_head.specs.declared.kind.Kind.{Kind}
use Rattle.cose_head.specs.declared.kind.Kind.TheVariants as kinds
use Rattle.cose_head.specs.Placed.{Placed}
use Rattle.cose_head.specs.Whole.{whole}
use Rattle.cose_map.specs.Bucket.{alg_of, kid_of}
use Rattle.cose_map.specs.Choice.{Question}
use Rattle.cose_map.specs.Choice.Mismatch.{mismatch}
use Rattle.cose_map.specs.declared.choice.mismatch.Mismatch.{Mismatch}
use Rattle.cose_map.specs.declared.choice.mismatch.Mismatch.TheVariants as conditions
use Rattle.cose_map.specs.Key.{key_of}
use Rattle.cose_map.specs.Key.Value.{KeyValue}
use Rattle.cose_map.specs.KeySet.{items_in, usable}
use Rattle.cose_map.specs.Map.Pairs.{Pair}
use Rattle.cose_map.specs.Map.Read.{Read}
use Rattle.cose_msg.specs.declared.status.Status.{Status}
use Rattle.cose_msg.specs.declared.status.Status.TheVariants as statuses
use Rattle.cose_msg.specs.Message.{Setting, either, message, operation_of}
use Rattle.cose_msg.specs.Naming.{asked_by}
use Rattle.cose_msg.specs.Reading.{Findings, Reading}
use Rattle.cose_msg.specs.Status.{status_of_reading}
use Rattle.cose_msg.specs.Task.{rules_of, to_inspect}
use Rattle.cose_c.specs.declared.key_choice.CoseKeyFit.{CoseKeyFit}
use Rattle.cose_c.specs.declared.numbers.CoseStatus.{CoseStatus}
use Rattle.cose_c.specs.declared.stated.CoseTerms.{CoseTerms}
use Rattle.cose_c.specs.Numbers.{plain_status, refused_status}
use Rattle.cose_c.specs.Parameter.{bucket_by}
use Rattle.cose_c.specs.Permitted.{PermissionValue, is_fitting, permits}
use Rattle.cose_c.specs.Stated.{is_unknown, permission_stated}
use Rattle.cose_c.specs.Stream.{Content, status_numbers}

-- ---- what a message asks of its key

-- By its kind and the pairs of its buckets: the operation that verifies it, the algorithm that each bucket names, and the identifier of
-- the protected bucket, or without it that of the unprotected one.
abbrev pub question_in : Kind → Option (List Pair) → Option (List Pair) → Question
question_in kind protected unprotected = record {
  kind = kind;
  operation = operation_of kind;
  protected_alg = option_and_then alg_of protected;
  unprotected_alg = option_and_then alg_of unprotected;
  kid = either (option_and_then kid_of protected) (option_and_then kid_of unprotected);
}

-- The kind that a number names, the number of its tag (RFC 9052 section 2).
abbrev pub kind_numbered : ℕ → Option Kind
kind_numbered n = if n == 17 then Some kinds.Mac0 else if n == 18 then Some kinds.Sign1 else None

-- A message that isn't complete, or is refused, asks nothing: its status says why.
abbrev pub asked_in : Kind → Findings → Status → Result Question CoseStatus
asked_in kind found statuses.Complete = Ok (question_in kind found.protected found.unprotected)
asked_in kind found status = Err (status_numbers status)

abbrev pub asked_of : Kind → Reading → Result Question CoseStatus
asked_of kind reading = asked_in kind reading.so_far (status_of_reading reading)

-- Of a message that is only inspected in a setting.
abbrev pub asked_read : ℕ → ℕ → Setting → Kind → List ℕ → Result Question CoseStatus
asked_read room nesting setting kind bytes = asked_of kind (message (rules_of room nesting (to_inspect setting)) bytes)

-- And in the setting that the arguments say, of the kind that they say.
abbrev pub asked_given : ℕ → ℕ → Result Setting CoseStatus → Option Kind → List ℕ → Result Question CoseStatus
asked_given room nesting (Err status) kind bytes = Err status
asked_given room nesting (Ok setting) None bytes = Err (plain_status 12)
asked_given room nesting (Ok setting) (Some kind) bytes = asked_read room nesting setting kind bytes

-- ---- why a key isn't used

-- The numbers of the conditions, in the order in which they are checked.
abbrev pub condition_number : Option Mismatch → ℕ
condition_number None = 0
condition_number (Some conditions.Algorithm) = 1
condition_number (Some conditions.KeyType) = 2
condition_number (Some conditions.Curve) = 3
condition_number (Some conditions.Operation) = 4
condition_number (Some conditions.Identifier) = 5

-- A key that the caller doesn't permit fails that condition alone.
abbrev pub condition_of : Question → PermissionValue → KeyValue → ℕ
condition_of q p key = if permits p key then condition_number (mismatch q key) else 6

abbrev pub no_fit : CoseStatus → CoseKeyFit
no_fit s = record { status = s.status; reason = s.reason; condition = 0; place = s.place }

abbrev pub fit_with : Question → PermissionValue → Read KeyValue → CoseKeyFit
fit_with q p (Ok key) = record { status = 7; reason = 0; condition = condition_of q p key; place = 0 }
fit_with q p (Err refusal) = no_fit (refused_status 4 refusal)

-- Of the item at a place of the key set, where that has one.
abbrev pub fit_at : Question → PermissionValue → Option Placed → CoseKeyFit
fit_at q p (Some item) = fit_with q p (key_of item)
fit_at q p None = no_fit (plain_status 12)

abbrev pub fit_asked : Result Question CoseStatus → PermissionValue → Option Placed → CoseKeyFit
fit_asked (Ok q) p item = fit_at q p item
fit_asked (Err status) p item = no_fit status

-- ---- which key is used

-- The first of these items that is one.
abbrev pub first_fitting : Question → PermissionValue → List Placed → Option Placed
first_fitting q p [] = None
first_fitting q p (item ∷ items) = if is_fitting q p (usable item) then Some item else first_fitting q p items

abbrev pub fitting_in : Question → PermissionValue → Read Placed → Option Placed
fitting_in q p (Ok set) = first_fitting q p (items_in set)
fitting_in q p (Err refusal) = None

abbrev pub key_chosen : Result Question CoseStatus → PermissionValue → List ℕ → Option Placed
key_chosen (Ok q) p keys = fitting_in q p (whole 8 (record { bytes = keys; place = 0 }))
key_chosen (Err status) p keys = None

-- Of a message with these buckets, once both were found good.
abbrev pub item_fitting : PermissionValue → List ℕ → Option Question → Option Placed
item_fitting p keys (Some q) = key_chosen (Ok q) p keys
item_fitting p keys None = None

abbrev pub item_of_kind : CoseTerms → Option Kind → Option (List Pair) → Option (List Pair) → Option Placed
item_of_kind terms (Some kind) protected unprotected =
    item_fitting (permission_stated terms) terms.keys.now (asked_by kind protected unprotected)
item_of_kind terms None protected unprotected = None

-- Terms of another version have no keys.
abbrev pub item_under : CoseTerms → Option (List Pair) → Option (List Pair) → Option Placed
item_under terms protected unprotected =
    if is_unknown terms then None else item_of_kind terms (kind_numbered terms.kind) protected unprotected

-- And of the message that a verifier was fed so far.
abbrev pub key_of_fed : {H D : ℕ} {S : Type 0} {K : _} → CoseTerms → Content H D S K → Option Placed
key_of_fed terms content = item_under terms (bucket_by true content) (bucket_by false content)
