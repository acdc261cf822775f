-- What is printed for a request, and how it ends.
use Rattle.std.specs.Prelude.{ℕ, Bool, true, false, List, Option, Some, None, option_map}
use Rattle.cose_cwt.specs.Claims.Audience.{text_value}
use Rattle.cose_map.specs.Key.{key_of}
use Rattle.cose_answers.specs.Admitted.{program_policy}
use Rattle.cose_answers.specs.Payload.{detached_in}
use Rattle.cose_answers.specs.Printed.{Admits, Output, admitted_under, answered_under, keys_said, made_under, shown, verified_under}
use Rattle.cose_answers.specs.Requirements.{requirements_for}
use Rattle.cose_answers.specs.Sequence.{admitted_sequence, verified_sequence}
use Rattle.cose_answers.specs.Under.{under_of}
use Rattle.cose_answers.specs.declared.request.Cwt.{Cwt}
use Rattle.cose_answers.specs.declared.request.Make.{Make}
use Rattle.cose_answers.specs.declared.request.Request.{Request}
use Rattle.cose_answers.specs.declared.request.Request.TheVariants as asks

abbrev pub admits_for_words : Admits → Cwt → List ℕ → Output
admits_for_words admits words bytes =
    admits (under_of words.checks) (program_policy words.now words.leeway (option_map text_value words.aud)) (requirements_for words.now words.leeway words.required) words.printing bytes

abbrev pub admitted_for : Cwt → List ℕ → Output
admitted_for words bytes = admits_for_words admitted_under words bytes

abbrev pub admitted_each_for : Cwt → List ℕ → Output
admitted_each_for words bytes = admits_for_words admitted_sequence words bytes

abbrev pub made_for : Make → List ℕ → Output
made_for words bytes =
    made_under (key_of (record { bytes = words.key.items; place = 0 })) words.alg words.length (option_map (λ word. word.items) words.kid) words.aad.items bytes

-- The detached payload that a request to verify or to digest a message names, as far as it is known. No other request has one.
abbrev pub payload_for : (List ℕ → Option (List ℕ)) → Request → Option (Option (List ℕ))
payload_for content (asks.Message question checks payload) = detached_in content payload
payload_for content (asks.Keep checks name) = Some None
payload_for content (asks.MessageSequence checks) = Some None
payload_for content (asks.Show limits wanted details) = Some None
payload_for content (asks.Cwt words) = Some None
payload_for content (asks.TokenSequence words) = Some None
payload_for content (asks.Keys words) = Some None
payload_for content (asks.Make words) = Some None

-- With this detached payload, where there is one.
abbrev pub asked_for : Request → Option (List ℕ) → List ℕ → Output
asked_for (asks.Show limits wanted details) payload bytes = shown limits wanted details bytes
asked_for (asks.Message question checks from) payload bytes = answered_under question (under_of checks) payload bytes
asked_for (asks.Keep checks name) payload bytes = verified_under (under_of checks) payload bytes
asked_for (asks.MessageSequence checks) payload bytes = verified_sequence (under_of checks) bytes
asked_for (asks.Cwt words) payload bytes = admitted_for words bytes
asked_for (asks.TokenSequence words) payload bytes = admitted_each_for words bytes
asked_for (asks.Keys words) payload bytes = keys_said words.message words.keys.items bytes
asked_for (asks.Make words) payload bytes = made_for words bytes

-- Whether a message is to be made.
abbrev pub makes : Request → Bool
makes (asks.Make words) = true
makes (asks.Show limits wanted details) = false
makes (asks.Message question checks from) = false
makes (asks.Keep checks name) = false
makes (asks.MessageSequence checks) = false
makes (asks.Cwt words) = false
makes (asks.TokenSequence words) = false
makes (asks.Keys words) = false

-- Whether the messages or the tokens of a sequence are asked for.
abbrev pub is_sequence : Request → Bool
is_sequence (asks.MessageSequence checks) = true
is_sequence (asks.TokenSequence words) = true
is_sequence (asks.Show limits wanted details) = false
is_sequence (asks.Message question checks from) = false
is_sequence (asks.Keep checks name) = false
is_sequence (asks.Cwt words) = false
is_sequence (asks.Keys words) = false
is_sequence (asks.Make words) = false
