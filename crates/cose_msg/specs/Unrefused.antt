-- Laws of bytes that aren't refused: they begin with a message by the grammar, and the result is that of its parts.
use Rattle.std.specs.Prelude.{◌≡◌, ◌↔◌, ℕ, ◌≤◌, List, length, take, ⊤}
use Rattle.cose_head.specs.declared.kind.Kind.{Kind}
use Rattle.cose_msg.specs.declared.verdict.Verdict.TheVariants.{Authentic, Refused}
use Rattle.cose_msg.specs.Answer.{Answer, decided, complete, shaped, Whole}
use Rattle.cose_msg.specs.Grammar.{IsMessage}
use Rattle.cose_msg.specs.Message.{Setting, message, inspecting}
use Rattle.cose_msg.specs.Rules.{Rules}

abbrev pub IsUnrefused : Answer → Type 0
IsUnrefused (decided (Refused refusal)) = ⊥
IsUnrefused (decided (Authentic kind alg payload taken)) = ⊤
IsUnrefused (complete whole) = ⊤
IsUnrefused (shaped kind payload auth taken) = ⊤

-- The first bytes, as many as it takes, are a message with these parts.
pub record BeginsWithMessage (rules : Rules) (bytes : List ℕ) (whole : Whole) : Type 0 where
  pub within : whole.taken ≤ length bytes
  pub message : IsMessage rules (take whole.taken bytes) whole

-- Then there is a message that they begin with, and the answer for them is what the rules make of it.
abbrev pub UnrefusedIsMessage : Type 0
UnrefusedIsMessage = (rules : Rules) (bytes : List ℕ) → IsUnrefused (message rules bytes).answer →
    (whole : Whole) × BeginsWithMessage rules bytes whole × ((message rules bytes).answer ≡ rules.finish whole)

-- It is the only one that they begin with.
abbrev pub OneMessage : Type 0
OneMessage = (rules : Rules) (bytes : List ℕ) (one other : Whole) → BeginsWithMessage rules bytes one → BeginsWithMessage rules bytes other → one ≡ other

-- So they are read as a whole message that is not decided, exactly where they begin with one that has these parts.
abbrev pub WholeIsMessage : Type 0
WholeIsMessage = (rules : Rules) → ((whole : Whole) → rules.finish whole ≡ complete whole) → (bytes : List ℕ) (whole : Whole) →
    ((message rules bytes).answer ≡ complete whole) ↔ BeginsWithMessage rules bytes whole

-- And they have a shape exactly where they begin with a message of that kind and of these lengths, whatever its key is.
pub record HasShape (room nesting : ℕ) (setting : Setting) (bytes : List ℕ) (kind : Kind) (payload auth taken : ℕ) : Type 0 where
  pub whole : Whole
  pub begins : BeginsWithMessage (inspecting room nesting setting) bytes whole
  pub kind_is : kind ≡ whole.headers.kind
  pub payload_is : payload ≡ length whole.payload
  pub auth_is : auth ≡ length whole.auth
  pub taken_is : taken ≡ whole.taken

abbrev pub ShapedIsMessage : Type 0
ShapedIsMessage = (room nesting : ℕ) (setting : Setting) (bytes : List ℕ) (kind : Kind) (payload auth taken : ℕ) →
    ((message (inspecting room nesting setting) bytes).answer ≡ shaped kind payload auth taken) ↔
    HasShape room nesting setting bytes kind payload auth taken
