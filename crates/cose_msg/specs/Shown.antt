-- What a verifier gives of a message in addition to the result.
use Rattle.std.specs.Prelude.{◌≡◌, ℕ, Bool, true, false, List, Option, Some, None, Ok, Err, option_map}
use Rattle.std.specs.Borrow.{Bor}
use Rattle.std.specs.Option.{unwrap_or}
use Rattle.cose_head.specs.declared.kind.Kind.{Kind}
use Rattle.cose_head.specs.declared.kind.Kind.TheVariants as kinds
use Rattle.cose_map.specs.Bucket.{bucket_of}
use Rattle.cose_map.specs.declared.key.Key.{Key}
use Rattle.cose_map.specs.Key.Value.{KeyValue}
use Rattle.cose_map.specs.Key.View.{contents, key_value}
use Rattle.cose_map.specs.Map.Pairs.{Pair}
use Rattle.cose_map.specs.Map.Read.{Read}
use Rattle.cose_msg.specs.declared.phase.Phase.{Phase}
use Rattle.cose_msg.specs.declared.reader.Place.{Place}
use Rattle.cose_msg.specs.declared.reader.Reader.{Reader}
use Rattle.cose_msg.specs.declared.verifier.Verifier.{Verifier}
use Rattle.cose_msg.specs.Answer.{Answer, Chosen, Whole, decided, complete, shaped}
use Rattle.cose_msg.specs.Chosen.{chosen_value}
use Rattle.cose_msg.specs.Hashing.{is_elsewhere, result_of}
use Rattle.cose_msg.specs.Message.{Setting, digest_signed, message, comparing, uncompared}
use Rattle.cose_msg.specs.Phase.{auth_place_of}
use Rattle.cose_msg.specs.Phases.{placed_at}
use Rattle.cose_msg.specs.Reader.{held_by, opened_by}
use Rattle.cose_msg.specs.Reading.{Reading}
use Rattle.cose_msg.specs.Task.{Task, asks, rules_of}

-- What a signature is verified with (RFC 9052 section 4.4): the key, the digest of the structure that was signed, and the signature.
-- And the place of its head, where the message is refused as BadAuth if it isn't good.
pub record SignInput : Type 0 where
  pub key : KeyValue
  pub digest : List ℕ
  pub signature : List ℕ
  pub place : ℕ

-- The pairs of each header bucket, once it was found good; and of a message with a signature, once all its bytes are there, what the
-- signature is verified with. How many arrays, maps and tags of the unprotected bucket are open.
pub record Shown : Type 0 where
  pub protected : Option (List Pair)
  pub unprotected : Option (List Pair)
  pub sign_input : Option SignInput
  pub open_items : ℕ

-- ---- of a message

abbrev pub signed_with : List ℕ → Whole → Chosen → SignInput
signed_with aad whole found = record { key = found.key; digest = digest_signed aad found whole; signature = whole.auth; place = whole.auth_at }

-- It is given to no caller that has the digest itself.
abbrev pub unless_elsewhere : Bool → Option SignInput → Option SignInput
unless_elsewhere true input = None
unless_elsewhere false input = input

abbrev pub sign_input_for : Bool → List ℕ → Answer → Option SignInput
sign_input_for elsewhere aad (complete whole) = unless_elsewhere elsewhere (option_map (signed_with aad whole) whole.chosen)
sign_input_for elsewhere aad (decided verdict) = None
sign_input_for elsewhere aad (shaped kind payload auth taken) = None

-- Where tags are compared, a message that is complete and not decided is one with a signature.
abbrev pub sign_input_in : List ℕ → Answer → Option SignInput
sign_input_in aad answer = sign_input_for false aad answer

-- Of a message that is read without the comparison: it is one with a signature where its kind says so.
abbrev pub of_sign1 : Kind → Option SignInput → Option SignInput
of_sign1 kinds.Sign1 input = input
of_sign1 kinds.Mac0 input = None

abbrev pub signature_in : List ℕ → Answer → Option SignInput
signature_in aad (complete whole) = of_sign1 whole.headers.kind (option_map (signed_with aad whole) whole.chosen)
signature_in aad (decided verdict) = None
signature_in aad (shaped kind payload auth taken) = None

-- Both are the same.
abbrev pub SignaturesAreOfSign1 : Type 0
SignaturesAreOfSign1 = (room nesting : ℕ) (setting : Setting) (bytes : List ℕ) →
    sign_input_in setting.aad (message (comparing room nesting setting) bytes).answer ≡ signature_in setting.aad (message (uncompared room nesting setting) bytes).answer

abbrev pub shown_in : Task → Reading → Shown
shown_in task reading = record {
  protected = reading.so_far.protected;
  unprotected = reading.so_far.unprotected;
  sign_input = sign_input_for (asks task) task.setting.aad reading.answer;
  open_items = reading.so_far.open_items;
}

-- ---- of a reader

abbrev pub value_of : {A : Type 0} → Read A → Option A
value_of (Ok value) = Some value
value_of (Err refusal) = None

abbrev pub pairs_at : ℕ → Option Place → List ℕ → Option (List Pair)
pairs_at nesting None content = None
pairs_at nesting (Some place) content = value_of (bucket_of nesting (placed_at place.at content))

abbrev pub protected_by : {H D : ℕ} → Reader H D → Option (List Pair)
protected_by {H} {D} v = pairs_at D v.protected_at v.protected.items

abbrev pub unprotected_by : {H D : ℕ} → Reader H D → Option (List Pair)
unprotected_by {H} {D} v = pairs_at D v.unprotected_at v.unprotected.items

abbrev pub held_input : {H D : ℕ} → Reader H D → ℕ → Option SignInput
held_input v place = unless_elsewhere (is_elsewhere v.hashing)
    (option_map (λ found. record { key = found.key; digest = result_of v.hashing; signature = v.auth.items; place = place }) (option_map chosen_value v.chosen))

abbrev pub from_place : (ℕ → Option SignInput) → Option ℕ → Option SignInput
from_place held (Some place) = held place
from_place held None = None

abbrev pub input_in : Phase → (ℕ → Option SignInput) → Option SignInput
input_in phase held = from_place held (auth_place_of phase)

abbrev pub sign_input_by : {H D : ℕ} → Reader H D → Option SignInput
sign_input_by v = input_in v.phase (held_input v)

-- The place that it has, if there is one.
abbrev pub signed_at : {H D : ℕ} → Reader H D → ℕ
signed_at v = unwrap_or (auth_place_of v.phase) 0

abbrev pub shown_by : {H D : ℕ} → Reader H D → Shown
shown_by v = record {
  protected = protected_by v;
  unprotected = unprotected_by v;
  sign_input = sign_input_by v;
  open_items = opened_by v;
}

-- ---- of a verifier

abbrev pub protected_of : {H D : ℕ} {S : Type 0} {K : _} → Verifier H D S K → Option (List Pair)
protected_of v = protected_by v.reader

abbrev pub unprotected_of : {H D : ℕ} {S : Type 0} {K : _} → Verifier H D S K → Option (List Pair)
unprotected_of v = unprotected_by v.reader

abbrev pub sign_input_of : {H D : ℕ} {S : Type 0} {K : _} → Verifier H D S K → Option SignInput
sign_input_of v = sign_input_by v.reader

abbrev pub signed_place : {H D : ℕ} {S : Type 0} {K : _} → Verifier H D S K → ℕ
signed_place v = signed_at v.reader

abbrev pub shown_of : {H D : ℕ} {S : Type 0} {K : _} → Verifier H D S K → Shown
shown_of v = shown_by v.reader

-- The verifier gives what the reading of these bytes of a message gives.
abbrev pub ShowsReading : {H D : ℕ} {S : Type 0} {K : _} → Task → List ℕ → Verifier H D S K → Type 0
ShowsReading {H} {D} task taken v = shown_of v ≡ shown_in task (message (rules_of H D task) taken)

-- How many bytes of the message it holds.
abbrev pub held : {H D : ℕ} {S : Type 0} {K : _} → Verifier H D S K → ℕ
held v = held_by v.reader

-- What the code returns, without where it is in memory, with the place of the signature, which it returns apart.
abbrev pub input_value : ℕ → Key × Bor (List ℕ) × Bor (List ℕ) → SignInput
input_value place input = record { key = key_value input.0; digest = contents input.1; signature = contents input.2; place = place }

abbrev pub place_of : SignInput → ℕ
place_of signed = signed.place
