-- The answer for the bytes of a message.
use Rattle.std.specs.Prelude.{ℕ, List, Option}
use Rattle.cose_head.specs.declared.kind.Kind.{Kind}
use Rattle.cose_head.specs.declared.reason.Reason.{Reason}
use Rattle.cose_head.specs.declared.algorithm.Alg.{Alg}
use Rattle.cose_map.specs.Key.Value.{KeyValue}
use Rattle.cose_map.specs.Map.Pairs.{Pair}
use Rattle.cose_msg.specs.declared.verdict.Verdict.{Verdict}
use Rattle.cose_msg.specs.declared.verdict.Verdict.TheVariants.{Refused}

-- The kind of a message and its header buckets (RFC 9052 section 3): the content of the protected one as it came, and
-- the pairs of both.
pub record Headers : Type 0 where
  pub kind : Kind
  pub protected : List ℕ
  pub protected_pairs : List Pair
  pub unprotected_pairs : List Pair

-- The key that fits a message, and the algorithm that it is used with.
pub record Chosen : Type 0 where
  pub key : KeyValue
  pub alg : Alg

-- A message all of whose bytes are there: its headers, the key, the payload, the authentication tag or signature, the
-- place of its head, and the number of bytes. No key is chosen where a message is only inspected.
pub record Whole : Type 0 where
  pub headers : Headers
  pub chosen : Option Chosen
  pub payload : List ℕ
  pub auth : List ℕ
  pub auth_at : ℕ
  pub taken : ℕ

-- A verdict; or all bytes are there, the tag was not compared and the signature not asked about; or the shape of a
-- message that is only inspected: its kind and the numbers of bytes of its payload, of its tag or signature, and of the
-- whole.
pub data Answer : Type 0 where
  decided : Verdict → Answer
  complete : Whole → Answer
  shaped : Kind → ℕ → ℕ → ℕ → Answer

abbrev pub refused : Reason → ℕ → Answer
refused reason place = decided (Refused (record { reason = reason; place = place }))
