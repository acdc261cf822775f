-- What a verifier was made for, and the rules that it reads a message by.
use Rattle.std.specs.Prelude.{ℕ, Bool, true, false, ◌&&◌, not, List, Option, Some, None, Result, Ok, if◌then◌else◌}
use Rattle.cose_head.specs.declared.reason.Reason.{Reason}
use Rattle.cose_map.specs.Key.Value.{KeyValue}
use Rattle.cose_msg.specs.Answer.{Answer, Chosen, Headers, Whole, complete}
use Rattle.cose_msg.specs.Message.{Setting, given, rules_with, key_choice_of, compared, shape_of}
use Rattle.cose_msg.specs.Rules.{Rules}

-- What a message is verified under, and whether it is only inspected.
pub record Task : Type 0 where
  pub setting : Setting
  pub inspects : Bool

abbrev pub to_verify : Setting → Task
to_verify setting = record { setting = setting; inspects = false }

abbrev pub to_inspect : Setting → Task
to_inspect setting = record { setting = record setting { elsewhere = false }; inspects = true }

-- The message is authenticated elsewhere: it is inspected, and its key is chosen.
abbrev pub to_verify_elsewhere : Setting → Task
to_verify_elsewhere setting = record { setting = record setting { elsewhere = true }; inspects = true }

abbrev pub asks : Task → Bool
asks task = task.inspects && task.setting.elsewhere

-- Whether no key is chosen.
abbrev pub is_keyless : Task → Bool
is_keyless task = task.inspects && not task.setting.elsewhere

-- The same, where these bytes of a detached payload have come.
abbrev pub given_to : List ℕ → Task → Task
given_to came task = record { setting = given came task.setting; inspects = task.inspects }

-- No key is chosen where a message is only inspected.
abbrev pub choice_for : Bool → Setting → Headers → Result (Option Chosen) Reason
choice_for true setting = λ headers. Ok None
choice_for false setting = key_choice_of setting.keys

-- The keys of which one is chosen. There are none where a message is only inspected.
abbrev pub keys_for : Task → Option (List KeyValue)
keys_for task = if is_keyless task then None else Some task.setting.keys

-- What is chosen of the keys that are passed, if any are.
abbrev pub choice_among : Option (List KeyValue) → Headers → Result (Option Chosen) Reason
choice_among None headers = Ok None
choice_among (Some keys) headers = key_choice_of keys headers

-- Nothing is compared where a message is inspected.
abbrev pub finish_for : Bool → Bool → Setting → Whole → Answer
finish_for true true setting = complete
finish_for true false setting = shape_of
finish_for false elsewhere setting = λ whole. compared setting.aad whole.chosen whole

-- A verifier compares tags, and leaves signatures until it is passed an `EcVerifier`.
abbrev pub rules_of : ℕ → ℕ → Task → Rules
rules_of room nesting task =
    rules_with room nesting task.setting (choice_for (is_keyless task) task.setting) (finish_for task.inspects task.setting.elsewhere task.setting)
