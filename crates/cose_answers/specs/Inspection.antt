-- What inspecting finds of the message that a whole input is.
use Rattle.std.specs.Prelude.{◌≡◌, ℕ, List, length, Option}
use Rattle.std.specs.Io.KnownBytes.{Appends}
use Rattle.cose_msg.specs.declared.verdict.Inspected.{Inspected}
use Rattle.cose_msg.specs.declared.verifier.Verifier.{Verifier}
use Rattle.cose_msg.specs.Message.{Setting, inspecting, message}
use Rattle.cose_msg.specs.Run.{inspection}
use Rattle.cose_msg.specs.Shown.{protected_of, unprotected_of}
use Rattle.cose_answers.specs.Printed.{trailed}

-- It is the answer for all bytes of the input, where none may follow a shape. The verifier has the pairs of the message, and the
-- sink, which held `contents` before, has got its payload.
pub record IsInspection (header nesting : ℕ) (setting : Setting) (bytes : List ℕ) {H D : ℕ} {S : Type 0} {K : _} (verifier : Verifier H D S K) (contents contents_after : Option (List ℕ)) (inspected : Inspected) : Type 0 where
  pub answer : trailed (length bytes) (message (inspecting header nesting setting) bytes).answer ≡ inspection inspected
  pub protected_is : protected_of verifier ≡ (message (inspecting header nesting setting) bytes).so_far.protected
  pub unprotected_is : unprotected_of verifier ≡ (message (inspecting header nesting setting) bytes).so_far.unprotected
  pub payload : Appends contents contents_after (message (inspecting header nesting setting) bytes).so_far.payload
