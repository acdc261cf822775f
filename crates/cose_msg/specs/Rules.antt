-- The rules that a message is read by. Verifying and inspecting differ in them alone.
use Rattle.std.specs.Prelude.{ℕ, Bool, List, Option, Result}
use Rattle.cose_head.specs.declared.reason.Reason.{Reason}
use Rattle.cose_map.specs.Label.{LabelValue}
use Rattle.cose_msg.specs.declared.context.Wanted.{Wanted}
use Rattle.cose_msg.specs.Answer.{Answer, Chosen, Headers, Whole}
use Rattle.cose_msg.specs.Source.{Source}

pub record Rules : Type 0 where
  -- the most bytes of a header bucket, and the nesting allowance of its items
  pub room : ℕ
  pub nesting : ℕ
  -- the kinds of messages, and whether the CWT tag may precede the message's own
  pub wanted : Wanted
  pub cwt : Bool
  -- the labels that the application understands, and the most bytes of a payload
  pub understood : List LabelValue
  pub payload_limit : ℕ
  -- where the payload is
  pub source : Source
  -- the key, if one is to be chosen, or the reason why none is
  pub choice : Headers → Result (Option Chosen) Reason
  -- whether a tag or signature under that key may have this length
  pub auth_fits : Option Chosen → ℕ → Bool
  -- the answer for a message when all its bytes are there
  pub finish : Whole → Answer
