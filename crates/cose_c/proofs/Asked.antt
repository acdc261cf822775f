-- What the caller is asked is of the whole message.
use Rattle.std.proofs.Common.{◌≡◌, Bool, true, false, List, ℕ, [], ◌++◌, Some, sym, ap, ◌∙◌, append-nil}
use Rattle.std.specs.Prelude.{◌&&◌}
use Rattle.cose_msg.specs.Answer.{Chosen, Whole}
use Rattle.cose_msg.specs.Elsewhere.{AsksKey, HoweverItGoesOn, IsWhole}
use Rattle.cose_msg.specs.Message.{Setting, given, message, uncompared}
use Rattle.cose_msg.specs.Task.{Task, given_to, to_verify_elsewhere}

-- Nothing of a payload follows all of it.
all_given : (payload : List ℕ) (setting : Setting) → given_to payload (to_verify_elsewhere setting) ≡ to_verify_elsewhere setting → given (payload ++ []) setting ≡ setting
all_given payload setting came = ap (λ (l : List ℕ). given l setting) (append-nil payload) ∙ ap (λ (t : Task). record setting { source = t.setting.source }) came

-- The key that is asked about is the one that was chosen for the whole message.
pub asked_is_found : (room nesting : ℕ) (setting : Setting) (taken payload : List ℕ) (asked found : Chosen) (whole : Whole) →
    HoweverItGoesOn room nesting setting taken payload (λ reading. AsksKey reading asked) → given_to payload (to_verify_elsewhere setting) ≡ to_verify_elsewhere setting →
    IsWhole room nesting setting taken found whole → asked ≡ found
asked_is_found room nesting setting taken payload asked found whole however came is =
    let e = ap (λ (s : Setting). (message (uncompared room nesting s) (taken ++ [])).answer) (all_given payload setting came)
    ∙ ap (λ (l : List ℕ). (message (uncompared room nesting setting) l).answer) (append-nil taken) ∙ is.reads in
    let same : Some asked ≡ Some found = sym (however [] [] whole e) ∙ is.chosen in
    cc

-- What holds with something else holds.
pub right_of : (a b : Bool) → (a && b) ≡ true → b ≡ true
right_of true b e = e
right_of false b e = absurd cc
