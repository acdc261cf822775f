-- What a call answers, or a run prints, for the bytes of an input, where these are known to the contract.
use Rattle.std.specs.Prelude.{◌≡◌, ℕ, List, Option, Some, Result, IfOk, option_map}
use Rattle.cose_map.specs.Key.View.{contents}
use Rattle.cose_msg.specs.declared.verdict.Verdict.{Verdict}
use Rattle.cose_msg.specs.Answer.{decided}
use Rattle.cose_msg.specs.Message.{Decides, Setting}
use Rattle.cose_answers.specs.Printed.{EndsWith, Fails, Output, Says, input_answer}
use Rattle.cose_answers.specs.Vouch.{vouching}
use Rattle.cose_answers.specs.declared.fault.Fault.{Fault}
use Rattle.cose_answers.specs.declared.reply.Reply.{Reply}
use Rattle.cose_answers.specs.declared.vouch.Vouch.{Vouch}

abbrev pub vouching_by : Vouch → Decides
vouching_by vouch = vouching (option_map contents vouch.word)

-- A verdict is that of the whole input, in buckets of at most `header` bytes that nest at most `nesting` deep.
abbrev pub IsVerdictOfInput : ℕ → ℕ → Setting → Decides → Option (List ℕ) → Result Verdict Fault → Type 0
IsVerdictOfInput header nesting setting decides come result =
    (bytes : List ℕ) → come ≡ Some bytes → IfOk result (λ verdict. input_answer header nesting setting decides bytes ≡ decided verdict)

-- A reply is the output for the input.
abbrev pub RepliesTo : Option (List ℕ) → (List ℕ → Output) → Result Reply Fault → Type 0
RepliesTo come said result = (bytes : List ℕ) → come ≡ Some bytes → IfOk result (Says (said bytes))

-- The same, where the content of a file is known too.
abbrev pub RepliesToBoth : Option (List ℕ) → Option (List ℕ) → (List ℕ → List ℕ → Output) → Result Reply Fault → Type 0
RepliesToBoth come file said result = (bytes content : List ℕ) → come ≡ Some bytes → file ≡ Some content → IfOk result (Says (said content bytes))

-- A run that ends with this exit status has printed the output for the input, unless there is a fault.
abbrev pub PrintsFor : Option (List ℕ) → (List ℕ → Output) → Option (List ℕ) → Option (List ℕ) → ℕ → Type 0
PrintsFor come said old new status = (bytes : List ℕ) → come ≡ Some bytes → EndsWith (said bytes) old new status

-- What it has written where it ends with a fault.
abbrev pub FailsFor : Option (List ℕ) → (List ℕ → Output) → Option (List ℕ) → Option (List ℕ) → ℕ → Type 0
FailsFor come said old new status = (bytes : List ℕ) → come ≡ Some bytes → status ≡ 2 → Fails (said bytes) old new
