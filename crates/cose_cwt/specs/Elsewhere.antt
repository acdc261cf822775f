-- The result for a token that is authenticated elsewhere: by what the caller states of its message.
use Rattle.std.specs.Prelude.{◌≡◌, ℕ, Bool, true, false, List, Ok}
use Rattle.cose_head.specs.Algorithm.{is_mac_of}
use Rattle.cose_msg.specs.declared.verdict.Verdict.{Verdict}
use Rattle.cose_msg.specs.Answer.{Chosen, Whole, decided}
use Rattle.cose_msg.specs.Elsewhere.{Authenticates, IsWhole, stated_answer, stated_mac, verdict_by}
use Rattle.cose_msg.specs.Message.{Decides, Setting, digest_signed, tag_of}
use Rattle.cose_cwt.specs.Admission.{PolicyValue}
use Rattle.cose_cwt.specs.Required.{IsRequiredToken, Required, required_of}
use Rattle.cose_cwt.specs.Requirements.{RequirementsValue}
use Rattle.cose_cwt.specs.Token.{read_as}

-- The outcome is the result for the token by the verdict on these bytes, where this says whether they are authentic, and by this payload.
pub record IsTokenBy (room nesting : ℕ) (setting : Setting) (holds : Authenticates) (policy : PolicyValue) (requirements : RequirementsValue) (bytes payload : List ℕ) (outcome : Required) : Type 0 where
  pub verdict : Verdict
  pub judged : verdict_by room nesting setting holds bytes ≡ decided verdict
  pub comes : outcome ≡ required_of nesting policy requirements (Ok verdict) payload

-- ---- laws

-- Where the payload is the one that these bytes have, and the caller states the MAC of the structure under the chosen key (RFC 9052
-- section 6.3), the outcome is the result for the token that the bytes are.
abbrev pub TokenOfMacIsToken : Type 0
TokenOfMacIsToken = (room nesting : ℕ) (setting : Setting) (decides : Decides) (policy : PolicyValue) (requirements : RequirementsValue) (bytes mac payload : List ℕ) (found : Chosen) (whole : Whole) (outcome : Required) →
    IsWhole room nesting setting bytes found whole → is_mac_of found.alg ≡ true → mac ≡ tag_of setting.aad found whole →
    payload ≡ (read_as room nesting setting decides bytes).so_far.payload →
    IsTokenBy room nesting setting (stated_mac mac) policy requirements bytes payload outcome →
    IsRequiredToken room nesting setting decides policy requirements bytes outcome

-- So it is where the caller's answer about the signature is right (section 4.4).
abbrev pub TokenOfAnswerIsToken : Type 0
TokenOfAnswerIsToken = (room nesting : ℕ) (setting : Setting) (decides : Decides) (policy : PolicyValue) (requirements : RequirementsValue) (bytes payload : List ℕ) (holds : Bool) (found : Chosen) (whole : Whole) (outcome : Required) →
    IsWhole room nesting setting bytes found whole → is_mac_of found.alg ≡ false → holds ≡ decides found.key (digest_signed setting.aad found whole) whole.auth →
    payload ≡ (read_as room nesting setting decides bytes).so_far.payload →
    IsTokenBy room nesting setting (stated_answer holds) policy requirements bytes payload outcome →
    IsRequiredToken room nesting setting decides policy requirements bytes outcome
