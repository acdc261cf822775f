-- Messages whose signature the caller verifies, of the code: without where it is in memory.
use Rattle.std.specs.Prelude.{ℕ, ◌++◌, List, Option, None, Result, Ok, Err}
use Rattle.std.specs.Borrow.{Bor}
use Rattle.std.specs.List.{concat}
use Rattle.cose_head.specs.declared.further.FurtherAlg.{FurtherAlg}
use Rattle.cose_head.specs.declared.refusal.Refusal.{Refusal}
use Rattle.cose_map.specs.declared.key_set.KeySet.{KeySet}
use Rattle.cose_map.specs.Bucket.View.{bucket_pairs}
use Rattle.cose_map.specs.Key.Okp.{okp_value}
use Rattle.cose_map.specs.KeySet.Okp.{okp_keys}
use Rattle.cose_map.specs.KeySet.View.{keys as usable}
use Rattle.cose_msg.specs.declared.context.Context.{Context}
use Rattle.cose_msg.specs.declared.further.FurtherAsk.{FurtherAsk}
use Rattle.cose_msg.specs.declared.further.FurtherVerified.{FurtherVerified}
use Rattle.cose_msg.specs.declared.further.FurtherVerified.TheVariants as said
use Rattle.cose_msg.specs.declared.further.parts.Parts.{Parts}
use Rattle.cose_msg.specs.Answer.{Headers, Whole}
use Rattle.cose_msg.specs.Further.{Asked, OkpChosen, further_rules}
use Rattle.cose_msg.specs.FrontPieces.{pieces_of}
use Rattle.cose_msg.specs.InMemory.{source_in}
use Rattle.cose_msg.specs.Message.{Setting}
use Rattle.cose_msg.specs.Phases.{headers_of}
use Rattle.cose_msg.specs.Rules.{Rules}
use Rattle.cose_msg.specs.Verifier.{setting_of}

-- The setting of a context, of a message that has its payload, or of one whose payload these bytes are.
abbrev pub setting_for : Option (Bor (List ℕ)) → Context KeySet → Setting
setting_for detached context = record (setting_of usable context) { source = source_in detached }

abbrev pub rules_for : ℕ → ℕ → Option (Bor (List ℕ)) → Context KeySet → Rules
rules_for room nesting detached context = further_rules room nesting (setting_for detached context) (okp_keys context.keys)

-- The parts of a whole message.
abbrev pub headers_in : Parts → Headers
headers_in parts = headers_of parts.kind parts.protected.content.now (bucket_pairs parts.protected.bucket) (bucket_pairs parts.unprotected)

abbrev pub whole_in : Parts → Whole
whole_in parts = record {
  headers = headers_in parts;
  chosen = None;
  payload = parts.payload.now;
  auth = parts.signature.bytes.now;
  auth_at = parts.signature.at;
  taken = parts.taken;
}

abbrev pub chosen_in : Parts → OkpChosen
chosen_in parts = (okp_value parts.found.key, parts.found.alg)

-- What is asked: the structure is its pieces, and then the payload.
abbrev pub asked_value : FurtherAsk → Asked
asked_value ask = record {
  key = okp_value ask.key;
  alg = ask.alg;
  structure = concat (pieces_of ask.front) ++ ask.payload.now;
  signature = ask.signature.now;
  auth_at = ask.auth_at;
  payload = ask.payload.now;
  trailing = ask.trailing;
}

abbrev pub asked_result : Result FurtherAsk Refusal → Result Asked Refusal
asked_result (Ok ask) = Ok (asked_value ask)
asked_result (Err refusal) = Err refusal

-- The algorithm and the payload, or the refusal, as they are returned.
abbrev pub further_outcome : FurtherVerified → Result (FurtherAlg × List ℕ) Refusal
further_outcome (said.Authentic alg payload) = Ok (alg, payload.now)
further_outcome (said.Refused refusal) = Err refusal
