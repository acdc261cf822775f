-- Every phase of a message is definite: no refusal of a settled reading is Truncated, and no place of a reading is after the bytes.
use Rattle.std.proofs.Common.{◌≡◌, ℕ, ◌+◌, ◌<◌, ◌≤◌, ◌⊎◌, inl, inr, Bool, true, false, cond, List, [], ◌∷◌, length, take, Option, Some, None, Result, Ok, Err, refl, subst, arith}
use Rattle.std.specs.Prelude.{◌-◌, ◌≢◌, ◌==◌, ◌||◌, max, nat_lt, IfErr, IfSome}
use Rattle.std.proofs.lemmas.Bool.{cases_lt, le-ltb, lt-ltb}
use Rattle.cose_head.specs.declared.head.Head.{Head}
use Rattle.cose_head.specs.declared.kind.Kind.{Kind}
use Rattle.cose_head.specs.declared.kind.Kind.TheVariants as kinds
use Rattle.cose_head.specs.declared.reason.Reason.{Reason}
use Rattle.cose_head.specs.declared.reason.Reason.TheVariants.{Truncated, PastRoom, WrongTag, Encrypted, SeveralParties, NotFour, WrongType, Detached, Attached, BadAuthLength, PayloadTooLong, CwtTagAlone}
use Rattle.cose_head.specs.declared.refusal.Refusal.{Refusal}
use Rattle.cose_map.specs.Bucket.{bucket_of}
use Rattle.cose_map.specs.Laws.Inside.{PairsEndBy, BucketIsRefusedInside, BucketEndsInside, PairIsRefusedInside}
use Rattle.cose_map.specs.Map.Pairs.{Pair}
use Rattle.cose_map.specs.Bucket.Both.{pair_fault}
use Rattle.cose_map.specs.Laws.Reasons.{BucketIsNotTruncated, PairIsNotTruncated, ChoiceIsNotTruncated}
use Rattle.cose_msg.specs.declared.context.Wanted.{Wanted}
use Rattle.cose_msg.specs.declared.context.Wanted.TheVariants as wants
use Rattle.cose_msg.specs.Answer.{refused, Chosen, Headers, Whole}
use Rattle.cose_msg.specs.Front.{array_head_fault, past_array_head, array_head, wanted_kind, wants_kind, kind_of_tag, past_tag, tag_after_cwt, past_second_head, second_head, past_untagged, is_cwt_tag, is_tag, is_array, past_first_head, first_head}
use Rattle.cose_msg.specs.Laws.{AreFair, IsDefinite, PlacedBefore, MessageIsDefinite, OpenIsTruncated, MessageIsPlacedInside}
use Rattle.cose_msg.specs.Message.{message}
use Rattle.cose_msg.specs.Phases.{nothing_so_far, protected_so_far, unprotected_so_far, headers_so_far, is_bytes_head, is_nil, is_too_long, finish, auth, auth_head_fault, past_auth_head, auth_head, past_payload, payload, payload_head_fault, nil_fault_within, detached_payload, past_payload_head_from, past_payload_head, payload_head, past_choice, key_choice, both_buckets, placed_at, headers_of, past_unprotected, unprotected, past_protected, protected, protected_head_fault, past_protected_head, protected_head}
use Rattle.cose_msg.specs.Reading.{stop}
use Rattle.cose_msg.specs.Rules.{Rules}
use Rattle.cose_msg.specs.Source.{Source, attached, detached}
use Rattle.cose_msg.proofs.lemmas.Reading.Forms.{HeadLaws}
use Rattle.cose_msg.proofs.lemmas.Reading.StablePhases.{message_ends_truncated}
use Rattle.cose_msg.proofs.lemmas.Reading.DefiniteForms.{DefiniteFrom, reads_on_later, stop-definite, awaits-definite, after_head-definite, with_head-definite, with_string-definite, with_item-definite, unless_fault-definite, unless_at-definite, with_value-definite, choose-definite}

-- The laws of buckets and keys that these proofs cite.
pub record MapLaws : Type 0 where
  pub bucket_inside : BucketIsRefusedInside
  pub bucket_ends : BucketEndsInside
  pub pair_inside : PairIsRefusedInside
  pub bucket_definite : BucketIsNotTruncated
  pub pair_definite : PairIsNotTruncated
  pub choice_definite : ChoiceIsNotTruncated

pairs_later : (end later : ℕ) (pairs : List Pair) → end ≤ later → PairsEndBy end pairs → PairsEndBy later pairs
pairs_later end later [] le h = tt
pairs_later end later (pair ∷ pairs) le h = ((omega (arith, h.0.0), omega (arith, h.0.1)), pairs_later end later pairs le h.1)

most_of_one : (n : ℕ) → max n n ≡ n
most_of_one n = omega arith

-- ---- faults of heads are not Truncated

abbrev Definite : Option Reason → Type 0
Definite fault = IfSome fault (λ reason. reason ≢ Truncated)

either : (b : Bool) (x y : Option Reason) → Definite x → Definite y → Definite (cond b x y)
either true x y p q = p
either false x y p q = q

abbrev DefiniteKind : Result Kind Reason → Type 0
DefiniteKind kind = IfErr kind (λ reason. reason ≢ Truncated)

either_kind : (b : Bool) (x y : Result Kind Reason) → DefiniteKind x → DefiniteKind y → DefiniteKind (cond b x y)
either_kind true x y p q = p
either_kind false x y p q = q

auth_definite : (rules : Rules) (chosen : Option Chosen) (head : Head) → Definite (auth_head_fault rules chosen head)
auth_definite rules chosen head = either (is_bytes_head head) (cond (rules.auth_fits chosen head.arg) None (Some BadAuthLength)) (Some WrongType) (either (rules.auth_fits chosen head.arg) None (Some BadAuthLength) tt (λ e. absurd cc)) (λ e. absurd cc)

payload_definite : (rules : Rules) (head : Head) → Definite (payload_head_fault rules head)
payload_definite rules head =
    either (is_bytes_head head) (cond (is_too_long rules.payload_limit head.arg) (Some PayloadTooLong) None) (cond (is_nil head) (Some Detached) (Some WrongType)) (either (is_too_long rules.payload_limit head.arg) (Some PayloadTooLong) None (λ e. absurd cc) tt)
    (either (is_nil head) (Some Detached) (Some WrongType) (λ e. absurd cc) (λ e. absurd cc))

nil_definite : (limit detached_length : ℕ) (head : Head) → Definite (nil_fault_within limit detached_length head)
nil_definite limit detached_length head =
    either (is_nil head) (cond (is_too_long limit detached_length) (Some PayloadTooLong) None) (cond (is_bytes_head head) (Some Attached) (Some WrongType)) (either (is_too_long limit detached_length) (Some PayloadTooLong) None (λ e. absurd cc) tt)
    (either (is_bytes_head head) (Some Attached) (Some WrongType) (λ e. absurd cc) (λ e. absurd cc))

protected_definite : (rules : Rules) (head : Head) → Definite (protected_head_fault rules head)
protected_definite rules head = either (is_bytes_head head) (cond (nat_lt rules.room head.arg) (Some PastRoom) None) (Some WrongType) (either (nat_lt rules.room head.arg) (Some PastRoom) None (λ e. absurd cc) tt) (λ e. absurd cc)

array_definite : (head : Head) → Definite (array_head_fault head)
array_definite head = either (is_array head) (cond (head.arg == 4) None (Some NotFour)) (Some WrongType) (either (head.arg == 4) None (Some NotFour) tt (λ e. absurd cc)) (λ e. absurd cc)

wanted_definite : (wanted : Wanted) (kind : Kind) → DefiniteKind (wanted_kind wanted kind)
wanted_definite wanted kind = either_kind (wants_kind wanted kind) (Ok kind) (Err WrongTag) tt (λ e. absurd cc)

tag_definite : (wanted : Wanted) (number : ℕ) → DefiniteKind (kind_of_tag wanted number)
tag_definite wanted number =
    either_kind (number == 17) (wanted_kind wanted kinds.Mac0) _ (wanted_definite wanted kinds.Mac0)
    (either_kind (number == 18) (wanted_kind wanted kinds.Sign1) _ (wanted_definite wanted kinds.Sign1)
    (either_kind (number == 16 || number == 96) (Err Encrypted) _ (λ e. absurd cc)
    (either_kind (number == 97 || number == 98) (Err SeveralParties) (Err WrongTag) (λ e. absurd cc) (λ e. absurd cc))))

after_cwt_definite : (wanted : Wanted) (head : Head) → DefiniteKind (tag_after_cwt wanted head)
after_cwt_definite wanted head = either_kind (is_tag head) (kind_of_tag wanted head.arg) (Err CwtTagAlone) (tag_definite wanted head.arg) (λ e. absurd cc)

-- ---- the phases, the last first

module _ (laws : HeadLaws) (maps : MapLaws) (rules : Rules) (fair : AreFair rules) where
  finish-definite : (headers : Headers) (chosen : Option Chosen) (B : List ℕ) (auth_at at : ℕ) (tag : List ℕ) → auth_at ≤ at → DefiniteFrom (at + length tag) (finish rules headers chosen B auth_at at tag)
  finish-definite headers chosen B auth_at at tag before place bytes le =
      let whole : Whole = record { headers = headers; chosen = chosen; payload = B; auth = tag; auth_at = auth_at; taken = place } in
      record { inside = reads_on_later place (place + length bytes) (rules.finish whole) (omega arith) (fair.inside whole (omega arith)); definite = λ e none. fair.definite whole; before = λ some. absurd (omega (arith, some)) }

  auth-definite : (headers : Headers) (chosen : Option Chosen) (B : List ℕ) (auth_at n : ℕ) → DefiniteFrom auth_at (auth rules headers chosen B auth_at n)
  auth-definite headers chosen B auth_at n = with_string-definite (λ bytes. headers_so_far headers B) n (finish rules headers chosen B auth_at) auth_at (finish-definite headers chosen B auth_at)

  auth_head-definite : (headers : Headers) (chosen : Option Chosen) (B : List ℕ) (from : ℕ) → DefiniteFrom from (auth_head rules headers chosen B)
  auth_head-definite headers chosen B from = with_head-definite laws (headers_so_far headers B) (past_auth_head rules headers chosen B) from
      (λ at head. unless_fault-definite (headers_so_far headers B) at at (auth_head_fault rules chosen head) (auth rules headers chosen B at head.arg) (omega arith) (auth_definite rules chosen head) (auth-definite headers chosen B at head.arg))

  payload-definite : (headers : Headers) (chosen : Option Chosen) (n from : ℕ) → DefiniteFrom from (payload rules headers chosen n)
  payload-definite headers chosen n from = with_string-definite (headers_so_far headers) n (past_payload rules headers chosen) from (λ at B le. auth_head-definite headers chosen B (at + length B))

  detached_payload-definite : (headers : Headers) (chosen : Option Chosen) (came : List ℕ) (detached_length at : ℕ) → DefiniteFrom (at + 1) (detached_payload rules headers chosen came detached_length at)
  detached_payload-definite headers chosen came detached_length at place bytes le =
      elim (cases_lt (length came) detached_length) [
        | inl short ↦ rw (lt-ltb (length came) detached_length short) (awaits-definite (headers_so_far headers came) (detached_length - length came) at (place + length bytes) (omega (arith, short)) (omega (arith, le)))
        | inr there ↦ rw (le-ltb (length came) detached_length there) (auth_head-definite headers chosen (take detached_length came) (at + 1) place bytes le)
      ]

  past_payload_head-definite : (source : Source) (headers : Headers) (chosen : Option Chosen) (at : ℕ) (head : Head) → DefiniteFrom (at + 1) (past_payload_head_from source rules headers chosen at head)
  past_payload_head-definite attached headers chosen at head =
      unless_fault-definite (headers_so_far headers []) at (at + 1) (payload_head_fault rules head) (payload rules headers chosen head.arg) (omega arith) (payload_definite rules head) (payload-definite headers chosen head.arg (at + 1))
  past_payload_head-definite (detached came detached_length) headers chosen at head =
      unless_fault-definite (headers_so_far headers []) at (at + 1) (nil_fault_within rules.payload_limit detached_length head) (detached_payload rules headers chosen came detached_length at) (omega arith) (nil_definite rules.payload_limit detached_length head)
      (detached_payload-definite headers chosen came detached_length at)

  payload_head-definite : (headers : Headers) (chosen : Option Chosen) (from : ℕ) → DefiniteFrom from (payload_head rules headers chosen)
  payload_head-definite headers chosen from = after_head-definite laws (headers_so_far headers []) (past_payload_head rules headers chosen) from (λ at head. past_payload_head-definite rules.source headers chosen at head)

  past_choice-definite : (headers : Headers) (found : Result (Option Chosen) Reason) (from : ℕ) → IfErr found (λ reason. reason ≢ Truncated) → DefiniteFrom from (past_choice rules headers found)
  past_choice-definite headers (Ok chosen) from definite = payload_head-definite headers chosen from
  past_choice-definite headers (Err reason) from definite = λ place bytes le. stop-definite (headers_so_far headers []) reason place (place + length bytes) (omega arith) definite

  fault_by : (fault : Option Refusal) (n place : ℕ) → n ≤ place → IfSome fault (λ refusal. (refusal.place ≤ max n n) ⊎ (refusal.place ≡ place)) → IfSome fault (λ refusal. refusal.place ≤ place)
  fault_by None n place le h = tt
  fault_by (Some refusal) n place le h = elim h [ inl before ↦ omega (arith, before, most_of_one n) | inr here ↦ omega (arith, here) ]

  both_buckets-definite : (headers : Headers) (from : ℕ) → PairsEndBy from headers.protected_pairs → PairsEndBy from headers.unprotected_pairs → DefiniteFrom from (both_buckets rules headers)
  both_buckets-definite headers from p u = unless_at-definite (headers_so_far headers []) (pair_fault headers.protected_pairs headers.unprotected_pairs rules.understood) (key_choice rules headers) from
      (λ place le. fault_by (pair_fault headers.protected_pairs headers.unprotected_pairs rules.understood place) from place le (maps.pair_inside headers.protected_pairs headers.unprotected_pairs rules.understood from from place p u))
      (maps.pair_definite headers.protected_pairs headers.unprotected_pairs rules.understood)
      (past_choice-definite headers (rules.choice headers) from (fair.choice headers))

  unprotected-definite : (kind : Kind) (P : List ℕ) (pairs : List Pair) (from : ℕ) → PairsEndBy from pairs → DefiniteFrom from (unprotected rules kind P pairs)
  unprotected-definite kind P pairs from p = with_item-definite laws (unprotected_so_far pairs) rules.room rules.nesting (past_unprotected rules kind P pairs) from
      (λ at content le. with_value-definite (protected_so_far pairs) (bucket_of rules.nesting (placed_at at content)) (λ others. both_buckets rules (headers_of kind P pairs others)) (at + length content)
      (maps.bucket_inside rules.nesting (placed_at at content)) (maps.bucket_definite rules.nesting (placed_at at content))
      (λ others is. both_buckets-definite (headers_of kind P pairs others) (at + length content) (pairs_later from (at + length content) pairs (omega arith) p) (maps.bucket_ends rules.nesting (placed_at at content) others is)))

  protected-definite : (kind : Kind) (n from : ℕ) → DefiniteFrom from (protected rules kind n)
  protected-definite kind n from = with_string-definite (λ bytes. nothing_so_far) n (past_protected rules kind) from
      (λ at P le. with_value-definite nothing_so_far (bucket_of rules.nesting (placed_at at P)) (unprotected rules kind P) (at + length P)
      (maps.bucket_inside rules.nesting (placed_at at P)) (maps.bucket_definite rules.nesting (placed_at at P))
      (λ pairs is. unprotected-definite kind P pairs (at + length P) (maps.bucket_ends rules.nesting (placed_at at P) pairs is)))

  protected_head-definite : (kind : Kind) (from : ℕ) → DefiniteFrom from (protected_head rules kind)
  protected_head-definite kind from = with_head-definite laws nothing_so_far (past_protected_head rules kind) from
      (λ at head. unless_fault-definite nothing_so_far at at (protected_head_fault rules head) (protected rules kind head.arg) (omega arith) (protected_definite rules head) (protected-definite kind head.arg at))

  past_array_head-definite : (kind : Kind) (at : ℕ) (head : Head) → DefiniteFrom at (past_array_head rules kind at head)
  past_array_head-definite kind at head = unless_fault-definite nothing_so_far at at (array_head_fault head) (protected_head rules kind) (omega arith) (array_definite head) (protected_head-definite kind at)

  array_head-definite : (kind : Kind) (from : ℕ) → DefiniteFrom from (array_head rules kind)
  array_head-definite kind from = with_head-definite laws nothing_so_far (past_array_head rules kind) from (past_array_head-definite kind)

  stop_at-definite : (reason : Reason) (at : ℕ) → reason ≢ Truncated → DefiniteFrom at (λ place bytes. stop nothing_so_far reason at)
  stop_at-definite reason at definite place bytes le = stop-definite nothing_so_far reason at (place + length bytes) (omega arith) definite

  past_tag-definite : (at : ℕ) (kind : Result Kind Reason) → IfErr kind (λ reason. reason ≢ Truncated) → DefiniteFrom at (past_tag rules at kind)
  past_tag-definite at (Ok kind) definite = array_head-definite kind at
  past_tag-definite at (Err reason) definite = stop_at-definite reason at definite

  second_head-definite : (from : ℕ) → DefiniteFrom from (second_head rules)
  second_head-definite from = with_head-definite laws nothing_so_far (past_second_head rules) from (λ at head. past_tag-definite at (tag_after_cwt rules.wanted head) (after_cwt_definite rules.wanted head))

  past_untagged-definite : (wanted : Wanted) (at : ℕ) (head : Head) → DefiniteFrom at (past_untagged rules wanted at head)
  past_untagged-definite wants.Mac0 at head = past_array_head-definite kinds.Mac0 at head
  past_untagged-definite wants.Sign1 at head = past_array_head-definite kinds.Sign1 at head
  past_untagged-definite wants.Tagged at head = stop_at-definite WrongTag at (λ e. absurd cc)

  past_first_head-definite : (at : ℕ) (head : Head) → DefiniteFrom at (past_first_head rules at head)
  past_first_head-definite at head =
      choose-definite (is_cwt_tag rules.cwt head) (second_head rules) _ at (second_head-definite at)
      (choose-definite (is_tag head) (past_tag rules at (kind_of_tag rules.wanted head.arg)) _ at (past_tag-definite at (kind_of_tag rules.wanted head.arg) (tag_definite rules.wanted head.arg))
      (choose-definite (is_array head) (past_untagged rules rules.wanted at head) (λ place bytes. stop nothing_so_far WrongType at) at (past_untagged-definite rules.wanted at head)
      (stop_at-definite WrongType at (λ e. absurd cc))))

  first_head-definite : DefiniteFrom 0 (first_head rules)
  first_head-definite = with_head-definite laws nothing_so_far (past_first_head rules) 0 past_first_head-definite

-- ---- the message

pub message_is_definite : HeadLaws → MapLaws → MessageIsDefinite
unfolding message
message_is_definite laws maps rules fair bytes done none = (first_head-definite laws maps rules fair 0 bytes (omega arith)).definite done none

pub message_stands_inside : HeadLaws → MapLaws → MessageIsPlacedInside
unfolding message
message_stands_inside laws maps rules fair bytes = reads_on_later (0 + length bytes) (length bytes) (message rules bytes).answer (omega arith) (first_head-definite laws maps rules fair 0 bytes (omega arith)).inside

open_unless : (b : Bool) → (b ≡ true → ⊥) → b ≡ false
open_unless true h = absurd (h refl)
open_unless false h = refl

never_settled_there : HeadLaws → MapLaws → (rules : Rules) → AreFair rules → (bytes : List ℕ) → (message rules bytes).answer ≡ refused Truncated (length bytes) → (message rules bytes).settled ≡ true → ⊥
unfolding message
never_settled_there laws maps rules fair bytes is done =
    let definite = first_head-definite laws maps rules fair 0 bytes (omega arith) in
    elim (cases_lt 0 (message rules bytes).payload_wanted) [
      | inl some ↦ (let before : length bytes < 0 + length bytes = subst (PlacedBefore (0 + length bytes)) is (definite.before some) in omega (arith, before))
      | inr none ↦ subst IsDefinite is (definite.definite done (omega (arith, none))) refl
    ]

pub open_is_truncated : HeadLaws → MapLaws → OpenIsTruncated
open_is_truncated laws maps rules fair bytes = (
  message_ends_truncated laws rules bytes,
  λ is. open_unless (message rules bytes).settled (never_settled_there laws maps rules fair bytes is),
)
