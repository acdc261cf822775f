-- A message in memory that is authentic under the keys of a set (RFC 9052 section 6.3).
use Rattle.std.specs.Prelude.{◌≡◌, ℕ, false, List, length, Some, Ok}
use Rattle.cose_head.specs.declared.algorithm.Alg.{Alg}
use Rattle.cose_head.specs.declared.kind.Kind.{Kind}
use Rattle.cose_map.specs.Key.Value.{KeyValue}
use Rattle.cose_map.specs.KeySet.{keys_of}
use Rattle.cose_msg.specs.Message.{Decides, message as reading, verdict_of}
use Rattle.cose_msg.specs.Slice.{outcome_of}
use Rattle.cose_msg.specs.Task.{rules_of, to_verify}
use Rattle.cose_examples.specs.Context.{setting_under}

-- No signature is accepted.
abbrev pub never : Decides
never = λ key digest signature. false

-- The set holds these keys, and by definition the bytes are one message, authentic under one of them, and nothing follows it. The
-- payload is the message's.
pub record Carries (key_set message payload : List ℕ) : Type 0 where
  pub keys : List KeyValue
  pub kind : Kind
  pub alg : Alg
  pub of_set : keys_of key_set ≡ Ok keys
  pub authentic : outcome_of (length message) (verdict_of 1024 8 (setting_under keys) never message) ≡ Some (Ok (kind, alg))
  pub payload_is : payload ≡ (reading (rules_of 1024 8 (to_verify (setting_under keys))) message).so_far.payload
