-- The phases of a message after its tags and the head of its array (RFC 9052 sections 2, 3, 4.2 and 6.2), the last
-- first.
use Rattle.std.specs.Prelude.{ℕ, ◌^◌, Bool, List, [], Option, Some, None, Result, Ok, Err, nat_lt, nat_le, ◌==◌, ◌&&◌, ◌||◌, ◌-◌, length, take, if◌then◌else◌}
use Rattle.cose_head.specs.declared.head.Head.{Head}
use Rattle.cose_head.specs.declared.kind.Kind.{Kind}
use Rattle.cose_head.specs.declared.reason.Reason.{Reason}
use Rattle.cose_head.specs.declared.reason.Reason.TheVariants.{PastRoom, WrongType, Detached, Attached, BadAuthLength, PayloadTooLong}
use Rattle.cose_head.specs.Placed.{Placed}
use Rattle.cose_map.specs.Bucket.{bucket_of}
use Rattle.cose_map.specs.Map.Pairs.{Pair}
use Rattle.cose_map.specs.Bucket.Both.{pair_fault}
use Rattle.cose_msg.specs.Answer.{Chosen, Headers}
use Rattle.cose_msg.specs.Reading.{Findings, Phase, Next, settled, awaits, stop, with_head, with_string, with_item, unless, unless_fault, with_value}
use Rattle.cose_msg.specs.Rules.{Rules}
use Rattle.cose_msg.specs.Source.{Source, attached, detached}

-- What is known before the protected bucket was found good; in the unprotected bucket, where this much of it is open;
-- after the protected bucket; and after both.
abbrev pub nothing_so_far : Findings
nothing_so_far = record { protected = None; unprotected = None; payload = []; open_items = 0 }

abbrev pub unprotected_so_far : List Pair → ℕ → Findings
unprotected_so_far pairs open_items = record { protected = Some pairs; unprotected = None; payload = []; open_items = open_items }

abbrev pub protected_so_far : List Pair → Findings
protected_so_far pairs = unprotected_so_far pairs 0

abbrev pub headers_so_far : Headers → List ℕ → Findings
headers_so_far headers payload = record {
  protected = Some headers.protected_pairs;
  unprotected = Some headers.unprotected_pairs;
  payload = payload;
  open_items = 0;
}

abbrev pub is_bytes_head : Head → Bool
is_bytes_head head = head.major == 2

-- The tag or signature, whose head is at auth_at. The message ends with it.
abbrev pub finish : Rules → Headers → Option Chosen → List ℕ → ℕ → Next (List ℕ)
finish rules headers chosen payload auth_at at auth place bytes = settled (headers_so_far headers payload) (rules.finish (record {
  headers = headers;
  chosen = chosen;
  payload = payload;
  auth = auth;
  auth_at = auth_at;
  taken = place;
}))

abbrev pub auth : Rules → Headers → Option Chosen → List ℕ → ℕ → ℕ → Phase
auth rules headers chosen payload auth_at n =
    with_string (λ bytes. headers_so_far headers payload) n (finish rules headers chosen payload auth_at)

-- Its head: a byte string of a length that the algorithm has.
abbrev pub auth_fault_where : (ℕ → Bool) → Head → Option Reason
auth_fault_where fits head = if is_bytes_head head then (if fits head.arg then None else Some BadAuthLength) else Some WrongType

abbrev pub auth_head_fault : Rules → Option Chosen → Head → Option Reason
auth_head_fault rules chosen = auth_fault_where (rules.auth_fits chosen)

abbrev pub past_auth_head : Rules → Headers → Option Chosen → List ℕ → Next Head
past_auth_head rules headers chosen payload at head =
    unless_fault (headers_so_far headers payload) at (auth_head_fault rules chosen head) (auth rules headers chosen payload at head.arg)

abbrev pub auth_head : Rules → Headers → Option Chosen → List ℕ → Phase
auth_head rules headers chosen payload = with_head (headers_so_far headers payload) (past_auth_head rules headers chosen payload)

-- The payload.
abbrev pub past_payload : Rules → Headers → Option Chosen → Next (List ℕ)
past_payload rules headers chosen at payload = auth_head rules headers chosen payload

abbrev pub payload : Rules → Headers → Option Chosen → ℕ → Phase
payload rules headers chosen n = with_string (headers_so_far headers) n (past_payload rules headers chosen)

-- Its head: a byte string, which is not too long. nil would be a detached payload.
abbrev pub is_nil : Head → Bool
is_nil head = head.major == 7 && (head.width == 1 && head.arg == 22)

abbrev pub is_too_long : ℕ → ℕ → Bool
is_too_long limit n = nat_le (2 ^ 56) n || nat_lt limit n

abbrev pub payload_fault_within : ℕ → Head → Option Reason
payload_fault_within limit head =
    if is_bytes_head head then (if is_too_long limit head.arg then Some PayloadTooLong else None) else
    if is_nil head then Some Detached else Some WrongType

abbrev pub payload_head_fault : Rules → Head → Option Reason
payload_head_fault rules = payload_fault_within rules.payload_limit

-- A detached payload: its first bytes, as many as are stated. The tag or signature is read once they have come.
abbrev pub detached_payload : Rules → Headers → Option Chosen → List ℕ → ℕ → ℕ → Phase
detached_payload rules headers chosen came detached_length at place bytes =
    if nat_lt (length came) detached_length then awaits (headers_so_far headers came) (detached_length - length came) at else
    auth_head rules headers chosen (take detached_length came) place bytes

-- The head in the place of one: nil. The number of bytes that is stated is not too large.
abbrev pub nil_fault_within : ℕ → ℕ → Head → Option Reason
nil_fault_within limit detached_length head =
    if is_nil head then (if is_too_long limit detached_length then Some PayloadTooLong else None) else
    if is_bytes_head head then Some Attached else Some WrongType

abbrev pub past_payload_head_from : Source → Rules → Headers → Option Chosen → Next Head
past_payload_head_from attached rules headers chosen at head =
    unless_fault (headers_so_far headers []) at (payload_head_fault rules head) (payload rules headers chosen head.arg)
past_payload_head_from (detached came detached_length) rules headers chosen at head =
    unless_fault (headers_so_far headers []) at (nil_fault_within rules.payload_limit detached_length head)
    (detached_payload rules headers chosen came detached_length at)

abbrev pub past_payload_head : Rules → Headers → Option Chosen → Next Head
past_payload_head rules = past_payload_head_from rules.source rules

abbrev pub payload_head : Rules → Headers → Option Chosen → Phase
payload_head rules headers chosen = with_head (headers_so_far headers []) (past_payload_head rules headers chosen)

-- The choice of the key. Its fault is at the payload's head, and needs no byte of it.
abbrev pub past_choice : Rules → Headers → Result (Option Chosen) Reason → Phase
past_choice rules headers (Ok chosen) place bytes = payload_head rules headers chosen place bytes
past_choice rules headers (Err reason) place bytes = stop (headers_so_far headers []) reason place

abbrev pub key_choice : Rules → Headers → Phase
key_choice rules headers = past_choice rules headers (rules.choice headers)

-- Both buckets together. The place after both is the payload's head.
abbrev pub both_buckets : Rules → Headers → Phase
both_buckets rules headers place = unless (headers_so_far headers [])
    (pair_fault headers.protected_pairs headers.unprotected_pairs rules.understood place) (key_choice rules headers) place

abbrev pub placed_at : ℕ → List ℕ → Placed
placed_at place bytes = record { bytes = bytes; place = place }

abbrev pub headers_of : Kind → List ℕ → List Pair → List Pair → Headers
headers_of kind protected protected_pairs unprotected_pairs =
    record { kind = kind; protected = protected; protected_pairs = protected_pairs; unprotected_pairs = unprotected_pairs }

-- The unprotected bucket: an item, and its pairs.
abbrev pub past_unprotected : Rules → Kind → List ℕ → List Pair → Next (List ℕ)
past_unprotected rules kind protected pairs at content =
    with_value (protected_so_far pairs) (bucket_of rules.nesting (placed_at at content))
    (λ unprotected_pairs. both_buckets rules (headers_of kind protected pairs unprotected_pairs))

abbrev pub unprotected : Rules → Kind → List ℕ → List Pair → Phase
unprotected rules kind protected pairs =
    with_item (unprotected_so_far pairs) rules.room rules.nesting (past_unprotected rules kind protected pairs)

-- The protected bucket: a byte string, and the pairs of its content.
abbrev pub past_protected : Rules → Kind → Next (List ℕ)
past_protected rules kind at content =
    with_value nothing_so_far (bucket_of rules.nesting (placed_at at content)) (unprotected rules kind content)

abbrev pub protected : Rules → Kind → ℕ → Phase
protected rules kind n = with_string (λ bytes. nothing_so_far) n (past_protected rules kind)

abbrev pub protected_fault_within : ℕ → Head → Option Reason
protected_fault_within room head =
    if is_bytes_head head then (if nat_lt room head.arg then Some PastRoom else None) else Some WrongType

abbrev pub protected_head_fault : Rules → Head → Option Reason
protected_head_fault rules = protected_fault_within rules.room

abbrev pub past_protected_head : Rules → Kind → Next Head
past_protected_head rules kind at head =
    unless_fault nothing_so_far at (protected_head_fault rules head) (protected rules kind head.arg)

abbrev pub protected_head : Rules → Kind → Phase
protected_head rules kind = with_head nothing_so_far (past_protected_head rules kind)
