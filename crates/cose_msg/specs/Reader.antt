-- The meaning of a reader: what is left of the reading of a message.
use Rattle.std.specs.Borrow.{Bor}
use Rattle.std.specs.Prelude.{◌≡◌, ℕ, ◌+◌, ◌≤◌, Bool, true, false, List, [], ◌++◌, length, Option, Some, None, Ok, ⊤, is_none, option_map, map, ◌==◌}
use Rattle.cose_head.specs.declared.kind.Kind.{Kind}
use Rattle.cose_head.specs.declared.reason.Reason.TheVariants.{Truncated}
use Rattle.cose_head.specs.Head.{IsMore, bare_head}
use Rattle.cose_head.specs.Walker.{HasPut, open_now}
use Rattle.cose_head.specs.Algorithm.{is_mac_of}
use Rattle.cose_map.specs.Bucket.{bucket_of}
use Rattle.cose_map.specs.Key.Value.{KeyValue}
use Rattle.cose_map.specs.Label.View.{label_value}
use Rattle.cose_map.specs.Map.Pairs.{Pair}
use Rattle.cose_msg.specs.declared.context.Terms.{Terms}
use Rattle.cose_msg.specs.declared.hashing.Hashing.{Hashing}
use Rattle.cose_msg.specs.declared.phase.Phase.{Phase}
use Rattle.cose_msg.specs.declared.phase.Phase.TheVariants as phases
use Rattle.cose_msg.specs.declared.phase.Signed.{Signed}
use Rattle.cose_msg.specs.declared.verdict.Verdict.{Verdict}
use Rattle.cose_msg.specs.declared.verdict.Verdict.TheVariants.{Authentic, Refused}
use Rattle.cose_msg.specs.declared.reader.Chosen as code
use Rattle.cose_msg.specs.declared.reader.Place.{Place}
use Rattle.cose_msg.specs.declared.reader.Reader.{Reader}
use Rattle.cose_msg.specs.Answer.{decided, complete, shaped, Chosen, Headers, Whole}
use Rattle.cose_msg.specs.Chosen.{chosen_value}
use Rattle.cose_msg.specs.Front.{first_head, second_head, array_head}
use Rattle.cose_msg.specs.Hashing.{Hashes, HashesFor, authenticator, is_elsewhere, result_of}
use Rattle.cose_msg.specs.Message.{Setting, has_auth_length, message, structure}
use Rattle.cose_msg.specs.Phase.{is_settled}
use Rattle.cose_msg.specs.Phases.{nothing_so_far, unprotected_so_far, headers_so_far, placed_at, protected_head, protected, unprotected, payload_head, payload, detached_payload, auth_head, auth}
use Rattle.cose_msg.specs.Reading.{Reading, Findings, open_items_after, wanted_after, settled}
use Rattle.cose_msg.specs.Rules.{Rules}
use Rattle.cose_msg.specs.Source.{Source, attached, detached}
use Rattle.cose_msg.specs.Task.{Task, asks, is_keyless, rules_of}

-- The setting by the terms of the code, these keys, and where the payload is.
abbrev pub setting_with : List KeyValue → Source → Bool → Terms → Setting
setting_with keys source elsewhere terms = record {
  keys = keys;
  aad = terms.aad.now;
  wanted = terms.wanted;
  cwt = terms.cwt;
  understood = map label_value terms.understood.now;
  payload_limit = terms.payload_limit;
  source = source;
  elsewhere = elsewhere;
}

-- A task under the terms of a reader, which knows neither the keys, nor where the payload is, nor what the task is for: they
-- are passed with the bytes.
abbrev pub task_in : {H D : ℕ} → Task → Reader H D → Task
task_in task v = record { setting = setting_with task.setting.keys task.setting.source task.setting.elsewhere v.terms; inspects = task.inspects }

-- The usable keys that are passed, if any.
abbrev pub keys_in : {S : Type 0} → (S → List KeyValue) → Option (Bor S) → Option (List KeyValue)
keys_in usable keys = option_map (λ given. usable given.now) keys

-- The store of a header bucket whose pairs are known: it was found good there.
abbrev pub HoldsBucket : ℕ → Option (List Pair) → Option Place → List ℕ → Type 0
HoldsBucket nesting None place content = place ≡ None
HoldsBucket nesting (Some pairs) None content = ⊥
HoldsBucket nesting (Some pairs) (Some place) content = bucket_of nesting (placed_at place.at content) ≡ Ok pairs

-- How many arrays, maps and tags of the unprotected bucket are open.
abbrev pub opened_by : {H D : ℕ} → Reader H D → ℕ
opened_by v = open_now v.walker

-- The bytes of the message in the stores. The running hash counts as 256.
abbrev pub held_by : {H D : ℕ} → Reader H D → ℕ
held_by v = length v.protected.items + length v.unprotected.items + length v.head.items + length v.auth.items + 256

-- The task's terms, the buckets that are known, and what is open.
abbrev pub HasFindings : {H D : ℕ} → Task → Findings → Reader H D → Type 0
HasFindings {H} {D} task so_far v = (task_in task v ≡ task)
    × HoldsBucket D so_far.protected v.protected_at v.protected.items × HoldsBucket D so_far.unprotected v.unprotected_at v.unprotected.items
    × (opened_by v ≡ so_far.open_items)

-- What is known to a reader in addition to what its reading gives as known: the headers, the key, and the bytes so far
-- of the payload, and of the tag or signature. No key is chosen where the message is only inspected.
pub record Known : Type 0 where
  pub headers : Headers
  pub chosen : Option Chosen
  pub payload : List ℕ
  pub auth : List ℕ

abbrev pub whole_of : Known → ℕ → ℕ → Whole
whole_of known auth_at taken = record {
  headers = known.headers;
  chosen = known.chosen;
  payload = known.payload;
  auth = known.auth;
  auth_at = auth_at;
  taken = taken;
}

-- What follows the nil of a detached payload.
abbrev pub past_nil : Source → Rules → Headers → Option Chosen → ℕ → ℕ → List ℕ → Reading
past_nil attached rules headers chosen at = auth_head rules headers chosen []
past_nil (detached came detached_length) rules headers chosen at = detached_payload rules headers chosen came detached_length at

-- What is left of the definition: the phase, at the bytes that are held of it and those to come.
abbrev pub left_in : {H D : ℕ} → Rules → Known → Findings → Reader H D → Phase → List ℕ → Reading
left_in rules known so_far v phases.FirstHead more = first_head rules 0 (v.head.items ++ more)
left_in rules known so_far v (phases.TagHead p) more = second_head rules p.at (v.head.items ++ more)
left_in rules known so_far v (phases.ArrayHead p) more = array_head rules p.kind p.at (v.head.items ++ more)
left_in rules known so_far v (phases.ProtectedHead p) more = protected_head rules p.kind p.at (v.head.items ++ more)
left_in rules known so_far v (phases.Protected p) more = protected rules p.kind p.length p.at (v.protected.items ++ more)
left_in rules known so_far v (phases.Unprotected p) more =
    unprotected rules p.kind v.protected.items known.headers.protected_pairs p.at (v.unprotected.items ++ more)
left_in rules known so_far v (phases.PayloadHead p) more = payload_head rules known.headers known.chosen p.at (v.head.items ++ more)
left_in rules known so_far v (phases.Payload p) more = payload rules known.headers known.chosen p.length p.at (known.payload ++ more)
left_in rules known so_far v (phases.Detached p) more = past_nil rules.source rules known.headers known.chosen p.at p.after more
left_in rules known so_far v (phases.AuthHead p) more = auth_head rules known.headers known.chosen known.payload p.at (v.head.items ++ more)
left_in rules known so_far v (phases.Auth p) more =
    auth rules known.headers known.chosen known.payload p.head_at p.length p.at (known.auth ++ more)
left_in rules known so_far v (phases.Signed p) more =
    settled (headers_so_far known.headers known.payload) (complete (whole_of known p.head_at p.taken))
left_in rules known so_far v (phases.Decided p) more = settled so_far (decided p.verdict)
left_in rules known so_far v (phases.Settled verdict) more = settled so_far (decided verdict)
left_in rules known so_far v (phases.Shaped p) more = settled so_far (shaped p.kind p.payload p.auth p.taken)

-- A head at this place, of which some bytes are held and not all; n bytes were taken in all.
abbrev pub HoldsHead : {H D : ℕ} → ℕ → ℕ → Reader H D → Type 0
HoldsHead at n v = IsMore (bare_head v.head.items) × (n ≡ at + length v.head.items)

-- The kind, and the key, if one is to be chosen.
abbrev pub HoldsKey : {H D : ℕ} → Task → Known → Reader H D → Kind → Type 0
HoldsKey task known v kind =
    (known.headers.kind ≡ kind) × (option_map chosen_value v.chosen ≡ known.chosen) × (is_none known.chosen ≡ is_keyless task) × (is_elsewhere v.hashing ≡ asks task)
    × (known.headers.protected ≡ v.protected.items)

-- The hash was fed a prefix of the structure that any payload of this length completes, and the payload so far.
pub record Opened (hashing : Hashing) (aad : List ℕ) (headers : Headers) (payload : List ℕ) (n : ℕ) (found : Chosen) : Type 0 where
  pub front : List ℕ
  pub fed : Hashes hashing found (front ++ payload)
  pub completes : (all : List ℕ) → length all ≡ n → front ++ all ≡ structure aad headers all

abbrev pub OpenedFor : Option Chosen → Hashing → List ℕ → Headers → List ℕ → ℕ → Type 0
OpenedFor (Some found) hashing aad headers payload n = Opened hashing aad headers payload n found
OpenedFor None hashing aad headers payload n = ⊤

abbrev pub IsOpened : Hashing → List ℕ → Known → ℕ → Type 0
IsOpened hashing aad known n = OpenedFor known.chosen hashing aad known.headers known.payload n

-- The payload is next, of this length, and the hash was fed all of the structure that precedes it.
pub record IsAtPayload {H D : ℕ} (task : Task) (known : Known) (v : Reader H D) (kind : Kind) (n : ℕ) : Type 0 where
  pub shows : HasFindings task (headers_so_far known.headers []) v
  pub none : known.payload ≡ []
  pub key : HoldsKey task known v kind
  pub opened : IsOpened v.hashing task.setting.aad known n

-- The hash was fed the whole structure.
abbrev pub IsFed : Hashing → List ℕ → Known → Type 0
IsFed hashing aad known = HashesFor hashing known.chosen (structure aad known.headers known.payload)

-- The tag or signature is held so far, where there is a key for it. Otherwise it is skipped.
abbrev pub HoldsAuth : Option Chosen → List ℕ → List ℕ → Type 0
HoldsAuth (Some found) held auth = held ≡ auth
HoldsAuth None held auth = ⊤

-- All bytes of a message with a signature are there: the key, the digest of what was signed, and the signature. Or those of
-- any message that is authenticated elsewhere: the key, and the tag or signature.
pub record IsSigned (task : Task) (known : Known) (chosen : Option code.Chosen) (hashing : Hashing) (auth : List ℕ) (p : Signed) : Type 0 where
  pub found : Chosen
  pub key_is : option_map chosen_value chosen ≡ Some found
  pub chosen_is : known.chosen ≡ Some found
  pub verifies : asks task ≡ false → task.inspects ≡ false
  pub elsewhere_is : is_elsewhere hashing ≡ asks task
  pub kind_is : known.headers.kind ≡ p.kind
  pub alg_is : found.alg ≡ p.alg
  pub no_tag : asks task ≡ false → is_mac_of p.alg ≡ false
  pub payload_is : length known.payload ≡ p.payload
  pub auth_is : auth ≡ known.auth
  pub digest_is : asks task ≡ false → result_of hashing ≡ authenticator found (structure task.setting.aad known.headers known.payload)

-- The number of bytes of a message, where the verdict gives it.
abbrev pub Counts : Verdict → ℕ → Type 0
Counts (Authentic kind alg payload taken) n = taken ≡ n
Counts (Refused refusal) n = ⊤

-- A message that is only inspected is not authentic.
abbrev pub is_authentic : Verdict → Bool
is_authentic (Authentic kind alg payload taken) = true
is_authentic (Refused refusal) = false

-- What holds of the stores in each phase, where n bytes were taken.
abbrev pub HoldsIn : {H D : ℕ} → Task → Known → Findings → ℕ → Reader H D → Phase → Type 0
HoldsIn task known so_far n v phases.FirstHead = (so_far ≡ nothing_so_far) × HoldsHead 0 n v
HoldsIn task known so_far n v (phases.TagHead p) = (so_far ≡ nothing_so_far) × HoldsHead p.at n v
HoldsIn task known so_far n v (phases.ArrayHead p) = (so_far ≡ nothing_so_far) × HoldsHead p.at n v
HoldsIn task known so_far n v (phases.ProtectedHead p) = (so_far ≡ nothing_so_far) × HoldsHead p.at n v
HoldsIn {H} task known so_far n v (phases.Protected p) =
    (so_far ≡ nothing_so_far) × (length v.protected.items + p.left ≡ p.length) × (p.length ≤ H) × (n ≡ p.at + length v.protected.items)
HoldsIn {H} {D} task known so_far n v (phases.Unprotected p) =
    (so_far ≡ unprotected_so_far known.headers.protected_pairs (open_items_after H D v.unprotected.items))
    × (bucket_of D (placed_at p.protected_at v.protected.items) ≡ Ok known.headers.protected_pairs)
    × HasPut H v.unprotected.items v.walker × (n ≡ p.at + length v.unprotected.items)
    × (p.wanted ≡ wanted_after H D v.unprotected.items)
HoldsIn task known so_far n v (phases.PayloadHead p) =
    (so_far ≡ headers_so_far known.headers []) × HoldsHead p.at n v × HoldsKey task known v p.kind
    × (known.headers.protected ≡ v.protected.items) × (p.is_bare ≡ (length known.headers.protected_pairs == 0))
    × HashesFor v.hashing known.chosen []
HoldsIn task known so_far n v (phases.Payload p) =
    (so_far ≡ headers_so_far known.headers known.payload) × (length known.payload + p.left ≡ p.length) × (n ≡ p.at + length known.payload)
    × HoldsKey task known v p.kind × IsOpened v.hashing task.setting.aad known p.length × (task.setting.source ≡ attached)
HoldsIn task known so_far n v (phases.Detached p) =
    (so_far ≡ headers_so_far known.headers known.payload) × (length known.payload + p.left ≡ p.length) × (n ≡ p.after)
    × HoldsKey task known v p.kind × IsOpened v.hashing task.setting.aad known p.length
    × ((more : List ℕ) × (task.setting.source ≡ detached (known.payload ++ more) p.length))
HoldsIn task known so_far n v (phases.AuthHead p) =
    (so_far ≡ headers_so_far known.headers known.payload) × HoldsHead p.at n v × HoldsKey task known v p.kind
    × (length known.payload ≡ p.payload) × IsFed v.hashing task.setting.aad known
HoldsIn task known so_far n v (phases.Auth p) =
    (so_far ≡ headers_so_far known.headers known.payload) × (length known.auth + p.left ≡ p.length) × (n ≡ p.at + length known.auth)
    × HoldsKey task known v p.kind × (length known.payload ≡ p.payload) × IsFed v.hashing task.setting.aad known
    × (has_auth_length known.chosen p.length ≡ true) × HoldsAuth known.chosen v.auth.items known.auth
HoldsIn task known so_far n v (phases.Signed p) =
    (so_far ≡ headers_so_far known.headers known.payload) × (n ≡ p.taken) × IsSigned task known v.chosen v.hashing v.auth.items p
    × (known.headers.protected ≡ v.protected.items)
HoldsIn task known so_far n v (phases.Decided verdict) = ⊥
HoldsIn task known so_far n v (phases.Settled verdict) = Counts verdict n × (is_authentic verdict ≡ true → task.inspects ≡ false)
HoldsIn task known so_far n v (phases.Shaped p) = (p.taken ≡ n) × (task.inspects ≡ true) × (task.setting.elsewhere ≡ false)

-- A reader for this task, which has taken n bytes, with this payload among them, means a reading of the bytes to come.
-- (Once it has decided on a signature it means none.)
pub record ReaderMeans {H D : ℕ} (task : Task) (payload : List ℕ) (n : ℕ) (v : Reader H D) (reading : List ℕ → Reading) : Type 0 where
  pub known : Known
  pub so_far : Findings
  pub shows : HasFindings task so_far v
  pub payload_known : known.payload ≡ payload
  pub payload_so_far : so_far.payload ≡ payload
  pub holds : HoldsIn task known so_far n v v.phase
  pub left : (more : List ℕ) → reading more ≡ left_in (rules_of H D task) known so_far v v.phase more

-- The reader has taken these bytes, with this payload among them.
abbrev pub SoFar : {H D : ℕ} → Task → List ℕ → List ℕ → Reader H D → Type 0
SoFar {H} {D} task taken payload v = ReaderMeans task payload (length taken) v (λ more. message (rules_of H D task) (taken ++ more))

-- The phase of a message of which nothing was taken: its first head, or, once its end was reported, that it is
-- Truncated at 0.
abbrev pub first_phase : Bool → Phase
first_phase false = phases.FirstHead
first_phase true = phases.Settled (Refused (record { reason = Truncated; place = 0 }))

-- The reader has taken nothing of a message.
abbrev pub IsUntouched : {H D : ℕ} → Reader H D → Type 0
IsUntouched v = (v.phase ≡ first_phase (is_settled v.phase)) × (v.head.items ≡ []) × (v.protected_at ≡ None) × (v.unprotected_at ≡ None)
    × (opened_by v ≡ 0)
