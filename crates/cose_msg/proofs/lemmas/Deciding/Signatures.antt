-- The key of a whole message is the one that was chosen, so what has a signature is a COSE_Sign1.
use Rattle.std.proofs.Common.{◌≡◌, ℕ, ℤ, ◌+◌, Bool, true, false, cond, List, [], length, take, drop, Option, Some, None, Result, Ok, Err, refl, ap, subst, ◌∙◌}
use Rattle.std.specs.Prelude.{max, ◌-◌, nat_lt, option_map, IsSomeAnd}
use Rattle.std.specs.Str.{bytes_eq}
use Rattle.cose_head.specs.declared.algorithm.Alg.{Alg}
use Rattle.cose_head.specs.declared.head.Head.{Head}
use Rattle.cose_head.specs.declared.head.HeadStep.{HeadStep}
use Rattle.cose_head.specs.declared.head.HeadStep.TheVariants.{Got, More, Fault}
use Rattle.cose_head.specs.declared.kind.Kind.{Kind}
use Rattle.cose_head.specs.declared.kind.Kind.TheVariants as kinds
use Rattle.cose_head.specs.declared.reason.Reason.{Reason}
use Rattle.cose_head.specs.declared.reason.Reason.TheVariants.{WrongType}
use Rattle.cose_head.specs.declared.refusal.Refusal.{Refusal}
use Rattle.cose_head.specs.Algorithm.{algorithm_numbered, is_mac_of, kind_of}
use Rattle.cose_head.specs.Head.{bare_head}
use Rattle.cose_head.specs.Item.{Item}
use Rattle.cose_head.specs.Open.{Open}
use Rattle.cose_head.specs.Measured.{left_of}
use Rattle.cose_head.specs.Reading.{Outcome, read}
use Rattle.cose_map.specs.Bucket.{bucket_of}
use Rattle.cose_map.specs.Choice.{chosen}
use Rattle.cose_map.specs.Key.Value.{KeyValue}
use Rattle.cose_map.specs.Laws.Chosen.{ChosenIsOfKind}
use Rattle.cose_map.specs.Map.Pairs.{Pair}
use Rattle.cose_map.specs.Bucket.Both.{pair_fault}
use Rattle.cose_msg.specs.declared.context.Wanted.{Wanted}
use Rattle.cose_msg.specs.declared.context.Wanted.TheVariants as wants
use Rattle.cose_msg.specs.Answer.{Answer, complete, decided, shaped, Chosen, Headers, Whole}
use Rattle.cose_msg.specs.Front.{array_head_fault, past_array_head, array_head, kind_of_tag, past_tag, tag_after_cwt, past_second_head, second_head, past_untagged, is_cwt_tag, is_tag, is_array, past_first_head}
use Rattle.cose_msg.specs.Laws.{ComparingGoesLast, then_compared}
use Rattle.cose_msg.specs.Message.{Setting, message, as_choice, compared, judged, key_choice_of, past_chosen, question_of, tag_of, uncompared, with_algorithm}
use Rattle.cose_msg.specs.Phases.{nothing_so_far, protected_so_far, unprotected_so_far, headers_so_far, finish, auth, auth_head_fault, past_auth_head, auth_head, past_payload, payload, payload_head_fault, nil_fault_within, detached_payload, past_payload_head_from, past_payload_head, payload_head, past_choice, key_choice, both_buckets, placed_at, headers_of, past_unprotected, unprotected, past_protected, protected, protected_head_fault, past_protected_head, protected_head}
use Rattle.cose_msg.specs.Reading.{Findings, Reading, Phase, Next, awaits, stop, cut, is_truncated, past_head, with_head, with_string, past_item, with_item, unless, unless_fault, with_value, open_after}
use Rattle.cose_msg.specs.Rules.{Rules}
use Rattle.cose_msg.specs.Source.{Source, attached, detached}
use Rattle.cose_msg.specs.Shown.{SignInput, SignaturesAreOfSign1, of_sign1, sign_input_in, signature_in, signed_with}

module _ (rules : Rules) (ends : (w whole : Whole) → rules.finish w ≡ complete whole → w ≡ whole) where
  abbrev Chose : Whole → Type 0
  Chose whole = rules.choice whole.headers ≡ Ok whole.chosen

  abbrev Picked : Answer → Type 0
  Picked answer = (whole : Whole) → answer ≡ complete whole → Chose whole

  abbrev Picks : Phase → Type 0
  Picks phase = (place : ℕ) (bytes : List ℕ) → Picked (phase place bytes).answer

  past_head-picks : (so_far : Findings) (next : Next Head) → ((at : ℕ) (head : Head) → Picks (next at head)) → (place : ℕ) (bytes : List ℕ) (step : HeadStep) → Picked (past_head so_far next place bytes step).answer
  past_head-picks so_far next h place bytes (Got head used) = h place head (place + used) (drop used bytes)
  past_head-picks so_far next h place bytes (More wanted) = λ whole e. absurd cc
  past_head-picks so_far next h place bytes (Fault reason) = λ whole e. absurd cc

  with_head-picks : (so_far : Findings) (next : Next Head) → ((at : ℕ) (head : Head) → Picks (next at head)) → Picks (with_head so_far next)
  unfolding with_head
  with_head-picks so_far next h place bytes = past_head-picks so_far next h place bytes (bare_head bytes)

  choose-picks : (b : Bool) (x y : Reading) → Picked x.answer → Picked y.answer → Picked (cond b x y).answer
  choose-picks true x y p q = p
  choose-picks false x y p q = q

  with_string-picks : (so_far : List ℕ → Findings) (n : ℕ) (next : Next (List ℕ)) → ((at : ℕ) (string : List ℕ) → Picks (next at string)) → Picks (with_string so_far n next)
  unfolding with_string
  with_string-picks so_far n next h place bytes = choose-picks (nat_lt (length bytes) n) (cut (so_far bytes) (n - length bytes) (place + length bytes)) (next place (take n bytes) (place + n) (drop n bytes)) (λ whole e. absurd cc) (h place (take n bytes) (place + n) (drop n bytes))

  past_item-picks : (so_far : ℕ → Findings) (still : Open) (next : Next (List ℕ)) → ((at : ℕ) (content : List ℕ) → Picks (next at content)) → (place : ℕ) (bytes : List ℕ) (outcome : Outcome Item) → Picked (past_item so_far still next place bytes outcome).answer
  past_item-picks so_far still next h place bytes (Ok found) = h place (take found.1.place bytes) (place + found.1.place) (drop found.1.place bytes)
  past_item-picks so_far still next h place bytes (Err refusal) = choose-picks (is_truncated refusal.reason) (cut (so_far still.items) (max 1 still.content) (place + length bytes)) (stop (so_far 0) refusal.reason (place + refusal.place)) (λ whole e. absurd cc) (λ whole e. absurd cc)

  with_item-picks : (so_far : ℕ → Findings) (room nesting : ℕ) (next : Next (List ℕ)) → ((at : ℕ) (content : List ℕ) → Picks (next at content)) → Picks (with_item so_far room nesting next)
  unfolding with_item
  with_item-picks so_far room nesting next h place bytes = past_item-picks so_far (open_after room nesting bytes) next h place bytes (read nesting (left_of bytes room 0))

  unless_fault-picks : (so_far : Findings) (at : ℕ) (fault : Option Reason) (phase : Phase) → Picks phase → Picks (unless_fault so_far at fault phase)
  unless_fault-picks so_far at (Some reason) phase h place bytes = λ whole e. absurd cc
  unless_fault-picks so_far at None phase h place bytes = h place bytes

  unless-picks : (so_far : Findings) (fault : Option Refusal) (phase : Phase) → Picks phase → Picks (unless so_far fault phase)
  unless-picks so_far (Some refusal) phase h place bytes = λ whole e. absurd cc
  unless-picks so_far None phase h place bytes = h place bytes

  with_value-picks : {A : Type 0} (so_far : Findings) (value : Result A Refusal) (next : A → Phase) → ((x : A) → Picks (next x)) → Picks (with_value so_far value next)
  with_value-picks so_far (Err refusal) next h place bytes = λ whole e. absurd cc
  with_value-picks so_far (Ok x) next h place bytes = h x place bytes

  -- ---- the phases, the last first

  auth_head-picks : (headers : Headers) (chosen : Option Chosen) (B : List ℕ) → rules.choice headers ≡ Ok chosen → Picks (auth_head rules headers chosen B)
  auth_head-picks headers chosen B is = with_head-picks (headers_so_far headers B) (past_auth_head rules headers chosen B)
      (λ at head. unless_fault-picks (headers_so_far headers B) at (auth_head_fault rules chosen head) (auth rules headers chosen B at head.arg)
      (with_string-picks (λ bytes. headers_so_far headers B) head.arg (finish rules headers chosen B at) (λ from string place bytes whole e. subst Chose (ends _ whole e) is)))

  payload-picks : (headers : Headers) (chosen : Option Chosen) (n : ℕ) → rules.choice headers ≡ Ok chosen → Picks (payload rules headers chosen n)
  payload-picks headers chosen n is = with_string-picks (headers_so_far headers) n (past_payload rules headers chosen) (λ at B. auth_head-picks headers chosen B is)

  detached_payload-picks : (headers : Headers) (chosen : Option Chosen) (came : List ℕ) (detached_length at : ℕ) → rules.choice headers ≡ Ok chosen → Picks (detached_payload rules headers chosen came detached_length at)
  detached_payload-picks headers chosen came detached_length at is place bytes = choose-picks (nat_lt (length came) detached_length) (awaits (headers_so_far headers came) (detached_length - length came) at) (auth_head rules headers chosen (take detached_length came) place bytes) (λ whole e. absurd cc)
      (auth_head-picks headers chosen (take detached_length came) is place bytes)

  past_payload_head-picks : (source : Source) (headers : Headers) (chosen : Option Chosen) → rules.choice headers ≡ Ok chosen → (at : ℕ) (head : Head) → Picks (past_payload_head_from source rules headers chosen at head)
  past_payload_head-picks attached headers chosen is at head = unless_fault-picks (headers_so_far headers []) at (payload_head_fault rules head) (payload rules headers chosen head.arg) (payload-picks headers chosen head.arg is)
  past_payload_head-picks (detached came detached_length) headers chosen is at head = unless_fault-picks (headers_so_far headers []) at (nil_fault_within rules.payload_limit detached_length head) (detached_payload rules headers chosen came detached_length at) (detached_payload-picks headers chosen came detached_length at is)

  payload_head-picks : (headers : Headers) (chosen : Option Chosen) → rules.choice headers ≡ Ok chosen → Picks (payload_head rules headers chosen)
  payload_head-picks headers chosen is = with_head-picks (headers_so_far headers []) (past_payload_head rules headers chosen) (λ at head. past_payload_head-picks rules.source headers chosen is at head)

  past_choice-picks : (headers : Headers) (found : Result (Option Chosen) Reason) → rules.choice headers ≡ found → Picks (past_choice rules headers found)
  past_choice-picks headers (Ok chosen) is = payload_head-picks headers chosen is
  past_choice-picks headers (Err reason) is = λ place bytes whole e. absurd cc

  both_buckets-picks : (headers : Headers) → Picks (both_buckets rules headers)
  both_buckets-picks headers place bytes = unless-picks (headers_so_far headers []) (pair_fault headers.protected_pairs headers.unprotected_pairs rules.understood place) (key_choice rules headers) (past_choice-picks headers (rules.choice headers) refl) place bytes

  unprotected-picks : (kind : Kind) (P : List ℕ) (pairs : List Pair) → Picks (unprotected rules kind P pairs)
  unprotected-picks kind P pairs = with_item-picks (unprotected_so_far pairs) rules.room rules.nesting (past_unprotected rules kind P pairs)
      (λ at content. with_value-picks (protected_so_far pairs) (bucket_of rules.nesting (placed_at at content)) (λ others. both_buckets rules (headers_of kind P pairs others)) (λ others. both_buckets-picks (headers_of kind P pairs others)))

  protected_head-picks : (kind : Kind) → Picks (protected_head rules kind)
  protected_head-picks kind = with_head-picks nothing_so_far (past_protected_head rules kind)
      (λ at head. unless_fault-picks nothing_so_far at (protected_head_fault rules head) (protected rules kind head.arg)
      (with_string-picks (λ bytes. nothing_so_far) head.arg (past_protected rules kind)
      (λ from P. with_value-picks nothing_so_far (bucket_of rules.nesting (placed_at from P)) (unprotected rules kind P) (unprotected-picks kind P))))

  past_array_head-picks : (kind : Kind) (at : ℕ) (head : Head) → Picks (past_array_head rules kind at head)
  past_array_head-picks kind at head = unless_fault-picks nothing_so_far at (array_head_fault head) (protected_head rules kind) (protected_head-picks kind)

  array_head-picks : (kind : Kind) → Picks (array_head rules kind)
  array_head-picks kind = with_head-picks nothing_so_far (past_array_head rules kind) (past_array_head-picks kind)

  past_tag-picks : (at : ℕ) (kind : Result Kind Reason) → Picks (past_tag rules at kind)
  past_tag-picks at (Ok kind) = array_head-picks kind
  past_tag-picks at (Err reason) = λ place bytes whole e. absurd cc

  second_head-picks : Picks (second_head rules)
  second_head-picks = with_head-picks nothing_so_far (past_second_head rules) (λ at head. past_tag-picks at (tag_after_cwt rules.wanted head))

  past_untagged-picks : (wanted : Wanted) (at : ℕ) (head : Head) → Picks (past_untagged rules wanted at head)
  past_untagged-picks wants.Mac0 at head = past_array_head-picks kinds.Mac0 at head
  past_untagged-picks wants.Sign1 at head = past_array_head-picks kinds.Sign1 at head
  past_untagged-picks wants.Tagged at head = λ place bytes whole e. absurd cc

  past_first_head-picks : (at : ℕ) (head : Head) → Picks (past_first_head rules at head)
  past_first_head-picks at head place bytes =
      choose-picks (is_cwt_tag rules.cwt head) (second_head rules place bytes) _ (second_head-picks place bytes)
      (choose-picks (is_tag head) (past_tag rules at (kind_of_tag rules.wanted head.arg) place bytes) _ (past_tag-picks at (kind_of_tag rules.wanted head.arg) place bytes)
      (choose-picks (is_array head) (past_untagged rules rules.wanted at head place bytes) (stop nothing_so_far WrongType at) (past_untagged-picks rules.wanted at head place bytes) (λ whole e. absurd cc)))

  whole_chose : (bytes : List ℕ) (whole : Whole) → (message rules bytes).answer ≡ complete whole → rules.choice whole.headers ≡ Ok whole.chosen
  unfolding message
  whole_chose bytes whole e = with_head-picks nothing_so_far (past_first_head rules) past_first_head-picks 0 bytes whole e

-- ---- the kind of the algorithm

key_is_of_kind : (key : KeyValue) (found : Chosen) (kind : Kind) (alg : Option Alg) → IsSomeAnd alg (λ a. kind_of a ≡ kind) → as_choice (with_algorithm key alg) ≡ Ok (Some found) → kind_of found.alg ≡ kind
key_is_of_kind key found kind (Some alg) h e = let same : record { key = key; alg = alg } ≡ found = cc in subst (λ (x : Chosen). kind_of x.alg ≡ kind) same h
key_is_of_kind key found kind None h e = absurd h

found_is_of_kind : ChosenIsOfKind → (keys : List KeyValue) (headers : Headers) (found : Chosen) (result : Result (KeyValue × ℤ) Reason) → chosen (question_of headers) keys ≡ result → as_choice (past_chosen result) ≡ Ok (Some found) → kind_of found.alg ≡ headers.kind
found_is_of_kind law keys headers found (Ok pair) is e = key_is_of_kind pair.0 found headers.kind (algorithm_numbered pair.1) (law (question_of headers) keys pair.0 pair.1 is) e
found_is_of_kind law keys headers found (Err reason) is e = absurd cc

is_mac_kind : Kind → Bool
is_mac_kind kinds.Mac0 = true
is_mac_kind kinds.Sign1 = false

mac_of_kind : (kind : Kind) (alg : Alg) → kind_of alg ≡ kind → is_mac_of alg ≡ is_mac_kind kind
unfolding is_mac_kind
mac_of_kind kinds.Mac0 alg e = rw e refl
mac_of_kind kinds.Sign1 alg e = rw e refl

judged_shows_none : (aad : List ℕ) (holds : Bool) (found : Chosen) (whole : Whole) → sign_input_in aad (judged holds found whole) ≡ None
judged_shows_none aad true found whole = refl
judged_shows_none aad false found whole = refl

input_of_kind : (kind : Kind) (aad : List ℕ) (whole : Whole) (found : Chosen) → is_mac_of found.alg ≡ is_mac_kind kind → sign_input_in aad (compared aad (Some found) whole) ≡ of_sign1 kind (option_map (signed_with aad whole) whole.chosen)
unfolding is_mac_kind
input_of_kind kinds.Mac0 aad whole found e = rw e (judged_shows_none aad (bytes_eq whole.auth (tag_of aad found whole)) found whole)
input_of_kind kinds.Sign1 aad whole found e = rw e refl

none_of_kind : (kind : Kind) (input : Option SignInput) → input ≡ None → input ≡ of_sign1 kind input
none_of_kind kinds.Mac0 input e = e
none_of_kind kinds.Sign1 input e = refl

module _ (law : ChosenIsOfKind) (setting : Setting) where
  input_of_chosen : (whole : Whole) (key : Option Chosen) → whole.chosen ≡ key → key_choice_of setting.keys whole.headers ≡ Ok key → sign_input_in setting.aad (compared setting.aad whole.chosen whole) ≡ of_sign1 whole.headers.kind (option_map (signed_with setting.aad whole) whole.chosen)
  input_of_chosen whole (Some found) e is =
      ap (λ (c : Option Chosen). sign_input_in setting.aad (compared setting.aad c whole)) e
      ∙ input_of_kind whole.headers.kind setting.aad whole found (mac_of_kind whole.headers.kind found.alg (found_is_of_kind law setting.keys whole.headers found (chosen (question_of whole.headers) setting.keys) refl is))
  input_of_chosen whole None e is =
      ap (λ (c : Option Chosen). sign_input_in setting.aad (compared setting.aad c whole)) e
      ∙ none_of_kind whole.headers.kind (option_map (signed_with setting.aad whole) whole.chosen) (ap (option_map (signed_with setting.aad whole)) e)

  input_same : (answer : Answer) → ((whole : Whole) → answer ≡ complete whole → key_choice_of setting.keys whole.headers ≡ Ok whole.chosen) → sign_input_in setting.aad (then_compared setting.aad answer) ≡ signature_in setting.aad answer
  input_same (complete whole) h = input_of_chosen whole whole.chosen refl (h whole refl)
  input_same (decided verdict) h = refl
  input_same (shaped kind payload auth taken) h = refl

same_whole : (w whole : Whole) → complete w ≡ complete whole → w ≡ whole
same_whole w whole e = cc

pub signatures_of_sign1 : ChosenIsOfKind → ComparingGoesLast → SignaturesAreOfSign1
signatures_of_sign1 law goes_last room nesting setting bytes =
    ap (λ (r : Reading). sign_input_in setting.aad r.answer) (goes_last room nesting setting bytes)
    ∙ input_same law setting (message (uncompared room nesting setting) bytes).answer (whole_chose (uncompared room nesting setting) same_whole bytes)
