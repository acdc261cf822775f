-- What a message asks of its key, by its headers alone, where a key set is listed for it (RFC 9052 section 7.1).
use Rattle.std.specs.Prelude.{ℕ, Bool, true, false, List, [], drop, Option, Some, None, Result, Ok, Err, ◌==◌, if◌then◌else◌, option_and_then}
use Rattle.std.specs.Borrow.{Bor}
use Rattle.cose_head.specs.declared.kind.Kind.{Kind}
use Rattle.cose_head.specs.declared.kind.Kind.TheVariants as kinds
use Rattle.cose_head.specs.declared.reason.Reason.{Reason}
use Rattle.cose_head.specs.declared.reason.Reason.TheVariants.{NoAlg, UnknownAlg, AlgUnprotected, NoKey}
use Rattle.cose_head.specs.declared.head.HeadStep.{HeadStep}
use Rattle.cose_head.specs.declared.head.HeadStep.TheVariants.{Got, More, Fault}
use Rattle.cose_head.specs.Head.{bare_head}
use Rattle.cose_map.specs.Bucket.{alg_of, kid_of}
use Rattle.cose_map.specs.Choice.{Question}
use Rattle.cose_map.specs.Choice.View.{question}
use Rattle.cose_map.specs.declared.choice.query.Query.{Query}
use Rattle.cose_map.specs.Map.Pairs.{Pair}
use Rattle.cose_msg.specs.declared.context.Wanted.{Wanted}
use Rattle.cose_msg.specs.declared.context.Wanted.TheVariants as wants
use Rattle.cose_msg.specs.declared.verdict.Verdict.TheVariants.{Authentic, Refused}
use Rattle.cose_msg.specs.Answer.{Answer, decided, complete, shaped}
use Rattle.cose_msg.specs.Front.{is_cwt_tag, is_tag}
use Rattle.cose_msg.specs.Message.{Setting, comparing, either, message, operation_of, verdict_of}
use Rattle.cose_msg.specs.Reading.{Findings}
use Rattle.cose_msg.specs.Source.{attached}

-- The headers are read as those of a message that is verified under no key: it is refused for their fault, or because no key can
-- be chosen. So nothing that follows the headers is read, and there is no room for it. Their limits are the large ones.
abbrev pub headers_setting : Wanted → Setting
headers_setting wanted = record {
  keys = [];
  aad = [];
  wanted = wanted;
  cwt = true;
  understood = [];
  payload_limit = 0;
  source = attached;
  elsewhere = false;
}

abbrev pub headers_verdict : Wanted → List ℕ → Answer
headers_verdict wanted bytes = verdict_of 65535 16 (headers_setting wanted) (λ key digest signature. false) bytes

abbrev pub headers_found : Wanted → List ℕ → Findings
headers_found wanted bytes = (message (comparing 65535 16 (headers_setting wanted)) bytes).so_far

-- The number of a tag (RFC 8949 section 3.4), where a head is one.
abbrev pub number_of_tag : HeadStep → Option ℕ
number_of_tag (Got head used) = if is_tag head then Some head.arg else None
number_of_tag (More missing) = None
number_of_tag (Fault reason) = None

-- The number of a message's COSE tag: that of the tag which it begins with, or of the next one after that of a CWT (RFC 8392
-- section 6).
abbrev pub number_after : List ℕ → HeadStep → Option ℕ
number_after bytes (Got head used) = if is_cwt_tag true head then number_of_tag (bare_head (drop used bytes)) else number_of_tag (Got head used)
number_after bytes (More missing) = None
number_after bytes (Fault reason) = None

abbrev pub cose_tag : List ℕ → Option ℕ
cose_tag bytes = number_after bytes (bare_head bytes)

-- The tag 18 is that of a COSE_Sign1 (RFC 9052 section 2, table 1). Of the other tags only 17, that of a COSE_Mac0, is one of a
-- message that asks for a key.
abbrev pub kind_tagged : Option ℕ → Kind
kind_tagged (Some number) = if number == 18 then kinds.Sign1 else kinds.Mac0
kind_tagged None = kinds.Mac0

-- The kind of a message: the one that is wanted, or where tagged messages are, that of its tag.
abbrev pub kind_asked : Wanted → List ℕ → Kind
kind_asked wants.Mac0 bytes = kinds.Mac0
kind_asked wants.Sign1 bytes = kinds.Sign1
kind_asked wants.Tagged bytes = kind_tagged (cose_tag bytes)

-- What a message of this kind asks, by the pairs of its buckets.
abbrev pub question_in : Kind → Option (List Pair) → Option (List Pair) → Question
question_in kind protected unprotected = record {
  kind = kind;
  operation = operation_of kind;
  protected_alg = option_and_then alg_of protected;
  unprotected_alg = option_and_then alg_of unprotected;
  kid = either (option_and_then kid_of protected) (option_and_then kid_of unprotected);
}

abbrev pub question_with : Kind → Findings → Question
question_with kind found = question_in kind found.protected found.unprotected

-- The reasons for which no key is chosen where there is none.
abbrev pub is_of_choice : Reason → Bool
is_of_choice NoAlg = true
is_of_choice UnknownAlg = true
is_of_choice AlgUnprotected = true
is_of_choice NoKey = true
is_of_choice _ = false

-- A message whose headers are refused asks nothing.
abbrev pub unless_refused : Question → Answer → Result Question Answer
unless_refused q (decided (Refused refusal)) = if is_of_choice refusal.reason then Ok q else Err (decided (Refused refusal))
unless_refused q (decided (Authentic kind alg payload taken)) = Err (decided (Authentic kind alg payload taken))
unless_refused q (complete whole) = Err (complete whole)
unless_refused q (shaped kind payload auth taken) = Err (shaped kind payload auth taken)

abbrev pub asked : Wanted → List ℕ → Result Question Answer
asked wanted bytes = unless_refused (question_with (kind_asked wanted bytes) (headers_found wanted bytes)) (headers_verdict wanted bytes)

-- What the code asks, without where it is in memory.
abbrev pub question_at : Bor Query → Question
question_at query = question query.now
