-- What is printed for a request is what it asks for.
use Rattle.std.proofs.Common.{◌≡◌, ℕ, ℤ, Bool, true, false, List, Option, Some, None, Bor, Result, length, option_map, refl, sym, ap, subst, ◌∙◌, arith}
use Rattle.std.specs.Prelude.{IfOk, nat_lt, option_and_then, take, unwrap_or}
use Rattle.std.proofs.Math.Seq.{take-length}
use Rattle.std.proofs.lemmas.Bool.{le-ltb}
use Rattle.cose_cwt.specs.Claims.Audience.{text_value}
use Rattle.cose_cwt.specs.Admission.{PolicyValue}
use Rattle.cose_cwt.specs.Requirements.{RequirementsValue}
use Rattle.cose_msg.specs.declared.context.Wanted.{Wanted}
use Rattle.cose_answers.specs.declared.request.Details.{Details}
use Rattle.cose_answers.specs.declared.request.Question.{Question}
use Rattle.cose_answers.specs.declared.fault.Fault.{Fault}
use Rattle.cose_answers.specs.declared.limits.Limits.{Limits}
use Rattle.cose_answers.specs.declared.reply.Reply.{Reply}
use Rattle.cose_answers.specs.declared.request.Cwt.{Cwt as CwtWords}
use Rattle.cose_answers.specs.declared.request.Keys.{Keys as KeysWords}
use Rattle.cose_answers.specs.declared.request.Make.{Make as MakeWords}
use Rattle.cose_answers.specs.declared.request.Request.{Request}
use Rattle.cose_answers.specs.declared.request.Request.TheVariants as asks
use Rattle.cose_answers.specs.declared.request.Checks.{Checks}
use Rattle.cose_answers.specs.declared.request.Payload.{Payload}
use Rattle.cose_answers.specs.declared.request.Payload.TheVariants.{File}
use Rattle.cose_map.specs.Key.{key_of}
use Rattle.cose_answers.specs.Admitted.{program_policy}
use Rattle.cose_answers.specs.Faults.{fault_of_making, making_fault}
use Rattle.cose_answers.specs.Printed.{Admits, EndsWith, Fails, Output, Says, answered_under, keys_said, made_under, shown}
use Rattle.cose_answers.specs.Payload.{part_of_file, stated_part, detached_in}
use Rattle.cose_answers.specs.Stated.{answered_from}
use Rattle.cose_answers.specs.Requirements.{requirements_for}
use Rattle.cose_answers.specs.Under.{Under, under_of}
use Rattle.cose_answers.specs.Requests.{admits_for_words, admitted_for, asked_for, made_for, payload_for}

-- A run that ends with one output ends with an equal one.
pub ends_with : {said asked : Output} (old new : Option (List ℕ)) (status : ℕ) → said ≡ asked → EndsWith said old new status → EndsWith asked old new status
ends_with old new status e ends = subst (λ (output : Output). EndsWith output old new status) e ends

-- What a run that ends with a fault leaves of one output it leaves of an equal one.
pub fails_with : {said asked : Output} (old new : Option (List ℕ)) → said ≡ asked → Fails said old new → Fails asked old new
fails_with old new e fails = subst (λ (output : Output). Fails output old new) e fails

-- What `cwt` prints of one token, or of each of a sequence, by this policy and with these requirements.
pub token_words : (admits : Admits) (words : CwtWords) (policy : PolicyValue) (now : ℤ) (requirements : RequirementsValue) (bytes : List ℕ) → policy ≡ program_policy now words.leeway (option_map text_value words.aud) →
    requirements ≡ requirements_for now words.leeway words.required → now ≡ words.now → admits (under_of words.checks) policy requirements words.printing bytes ≡ admits_for_words admits words bytes
token_words admits words policy now requirements bytes by required n =
    ap (λ (p : PolicyValue). admits (under_of words.checks) p requirements words.printing bytes) by
    ∙ ap (λ (r : RequirementsValue). admits (under_of words.checks) (program_policy now words.leeway (option_map text_value words.aud)) r words.printing bytes) required
    ∙ ap (λ (at : ℤ). admits (under_of words.checks) (program_policy at words.leeway (option_map text_value words.aud)) (requirements_for at words.leeway words.required) words.printing bytes) n

-- A message that is made of the bytes of the arguments.
pub making_words : (words : MakeWords) (key : List ℕ) (kid : Option (List ℕ)) (aad bytes : List ℕ) → key ≡ words.key.items → kid ≡ option_map (λ word. word.items) words.kid → aad ≡ words.aad.items →
    made_under (key_of (record { bytes = key; place = 0 })) words.alg words.length kid aad bytes ≡ made_for words bytes
making_words words key kid aad bytes k i a = rw (k, i, a) refl

pub making_fault_words : (words : MakeWords) (key : List ℕ) (kid : Option (List ℕ)) (aad : List ℕ) → key ≡ words.key.items → kid ≡ option_map (λ word. word.items) words.kid → aad ≡ words.aad.items →
    fault_of_making (key_of (record { bytes = key; place = 0 })) words.alg kid aad words.length ≡ making_fault words
making_fault_words words key kid aad k i a = rw (k, i, a) refl

-- A reply with one output is one with an equal output.
pub says_equal_words : {said asked : Output} (reply : Result Reply Fault) → said ≡ asked → IfOk reply (Says said) → IfOk reply (Says asked)
says_equal_words reply e says = subst (λ (output : Output). IfOk reply (Says output)) e says

pub show_words : (request : Request) (limits : Limits) (wanted : Wanted) (details : Details) (payload : Option (List ℕ)) (bytes : List ℕ) → request ≡ asks.Show limits wanted details →
    shown limits wanted details bytes ≡ asked_for request payload bytes
show_words request limits wanted details payload bytes is = rw is refl

pub cwt_words : (request : Request) (words : CwtWords) (payload : Option (List ℕ)) (bytes : List ℕ) → request ≡ asks.Cwt words → admitted_for words bytes ≡ asked_for request payload bytes
cwt_words request words payload bytes is = rw is refl

pub keys_words : (request : Request) (words : KeysWords) (payload : Option (List ℕ)) (bytes : List ℕ) → request ≡ asks.Keys words → keys_said words.message words.keys.items bytes ≡ asked_for request payload bytes
keys_words request words payload bytes is = rw is refl

pub make_words : (request : Request) (words : MakeWords) (payload : Option (List ℕ)) (bytes : List ℕ) → request ≡ asks.Make words → made_for words bytes ≡ asked_for request payload bytes
make_words request words payload bytes is = rw is refl

-- ---- a payload in a file

-- The content of a file has as many bytes as are stated, and the payload is as many of them.
pub record Part (detached_length : ℕ) (content payload : List ℕ) : Type 0 where
  pub enough : nat_lt (length content) detached_length ≡ false
  pub part : take detached_length content ≡ payload

pub stated_is_part : (detached_length : Option ℕ) (content payload : List ℕ) → stated_part detached_length content ≡ Some payload → Part (unwrap_or detached_length (length content)) content payload
stated_is_part None content payload is =
    let same : content ≡ payload = cc in
    record { enough = le-ltb (length content) (length content) (omega arith); part = take-length content ∙ same }
stated_is_part (Some count) content payload is = go (nat_lt (length content) count) refl
  where
    go : (short : Bool) → nat_lt (length content) count ≡ short → Part count content payload
    go true e =
        let none : None ≡ Some payload = rw e at is in
        cc
    go false e =
        let some : Some (take count content) ≡ Some payload = rw e at is in
        let same : take count content ≡ payload = cc in
        record { enough = e; part = same }

-- A file whose part is known has a content that is known.
pub record KnownPart (content : Option (List ℕ)) (detached_length : Option ℕ) (payload : List ℕ) : Type 0 where
  pub bytes : List ℕ
  pub known : content ≡ Some bytes
  pub part : Part (unwrap_or detached_length (length bytes)) bytes payload

pub known_part : (content : Option (List ℕ)) (detached_length : Option ℕ) (payload : List ℕ) → option_and_then (stated_part detached_length) content ≡ Some payload → KnownPart content detached_length payload
known_part None detached_length payload is = cc
known_part (Some bytes) detached_length payload is = record { bytes = bytes; known = refl; part = stated_is_part detached_length bytes payload is }

pub file_words : (question : Question) (under : Under) (payload_length : ℕ) (content payload bytes : List ℕ) → Part payload_length content payload →
    answered_from question under payload_length content bytes ≡ answered_under question under (Some payload) bytes
file_words question under payload_length content payload bytes is = rw (is.enough, is.part) refl

-- The request of a message asks for what is asked of it.
pub message_request_words : (request : Request) (question : Question) (checks : Checks) (from : Payload) (payload : Option (List ℕ)) (bytes : List ℕ) → request ≡ asks.Message question checks from →
    answered_under question (under_of checks) payload bytes ≡ asked_for request payload bytes
message_request_words request question checks from payload bytes is = rw is refl

-- Its payload, where it is in the message, in an argument or in a file.
pub payload_of_request : (content : List ℕ → Option (List ℕ)) (request : Request) (question : Question) (checks : Checks) (from : Payload) (payload : Option (List ℕ)) → request ≡ asks.Message question checks from →
    payload_for content request ≡ Some payload → detached_in content from ≡ Some payload
payload_of_request content request question checks from payload is known = sym (ap (payload_for content) is) ∙ known

pub same_detached : (one other : Option (List ℕ)) (detached : Option (Option (List ℕ))) → detached ≡ Some one → detached ≡ Some other → one ≡ other
same_detached one other detached is known =
    let both = sym is ∙ known in
    cc

pub file_detached : (content : List ℕ → Option (List ℕ)) (from : Payload) (payload : Option (List ℕ)) (name : Bor (List ℕ)) (detached_length : Option ℕ) → from ≡ File name detached_length → detached_in content from ≡ Some payload →
    (part : List ℕ) × (part_of_file content name.now detached_length ≡ Some part) × (Some part ≡ payload)
file_detached content from payload name detached_length is known = go (part_of_file content name.now detached_length) refl
  where
    told : option_map Some (part_of_file content name.now detached_length) ≡ Some payload
    told = rw is at known

    go : (part : Option (List ℕ)) → part_of_file content name.now detached_length ≡ part → (part : List ℕ) × (part_of_file content name.now detached_length ≡ Some part) × (Some part ≡ payload)
    go None e = let none : None ≡ Some payload = rw e at told in cc
    go (Some part) e = let some : Some (Some part) ≡ Some payload = rw e at told in let same : Some part ≡ payload = cc in (part, e, same)
