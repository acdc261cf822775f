-- A message that is heard piece by piece.
use Rattle.std.proofs.Common.{◌≡◌, ℕ, List, [], ◌++◌, Option, Ok, refl, sym, ap, subst, ◌∙◌}
use Rattle.std.specs.Io.KnownBytes.{Appends}
use Rattle.std.proofs.KnownBytes.{Appends-nil, Appends-trans}
use Rattle.cose_head.specs.Head.{bare_head}
use Rattle.cose_msg.specs.declared.verdict.Verdict.{Verdict}
use Rattle.cose_msg.specs.declared.verdict.Verdict.TheVariants.{Authentic, Refused}
use Rattle.cose_msg.specs.declared.verifier.Verifier.{Verifier}
use Rattle.cose_msg.specs.Answer.{decided}
use Rattle.cose_msg.specs.Kept.{HasTaken}
use Rattle.cose_msg.specs.Message.{Decides, Setting, message, verdict_of}
use Rattle.cose_msg.specs.Reading.{Reading, with_head}
use Rattle.cose_msg.specs.Rules.{Rules}
use Rattle.cose_msg.specs.Task.{Task, rules_of, to_verify}
use Rattle.cose_examples.specs.Firmware.{WhereAuthentic}
use Rattle.cose_examples.specs.Line.{Hears, IsOfLine}

-- Of no bytes no payload is known.
nothing_known : (rules : Rules) → (message rules []).so_far.payload ≡ []
unfolding message with_head bare_head
nothing_known rules = refl

module _ {S : Type 0} {K : _} {task : Task} {v : Verifier 256 4 S K} where
  pub hears_nothing : (contents : Option (List ℕ)) → HasTaken task [] [] v → Hears task contents contents v
  hears_nothing contents h = record { taken = []; payload = []; has_taken = h; known = nothing_known (rules_of 256 4 task); handled = Appends-nil contents }

  pub hears_more : {next : Verifier 256 4 S K} (contents contents_now contents_after : Option (List ℕ)) (a : Hears task contents contents_now v) (piece part : List ℕ) → Appends contents_now contents_after part →
      HasTaken task (a.taken ++ piece) (a.payload ++ part) next → (message (rules_of 256 4 task) (a.taken ++ piece)).so_far.payload ≡ (message (rules_of 256 4 task) a.taken).so_far.payload ++ part →
      Hears task contents contents_after next
  hears_more {next} contents contents_now contents_after a piece part handled h known = record {
    taken = a.taken ++ piece;
    payload = a.payload ++ part;
    has_taken = h;
    known = known ∙ ap (λ (t : List ℕ). t ++ part) a.known;
    handled = Appends-trans contents contents_now contents_after a.payload part a.handled handled;
  }

-- The verdict on what was heard.
pub judges : {S : Type 0} {K : _} {v : Verifier 256 4 S K} (setting : Setting) (decides : Decides) (contents contents_after : Option (List ℕ)) (a : Hears (to_verify setting) contents contents_after v) (verdict : Verdict) →
    verdict_of 256 4 setting decides a.taken ≡ decided verdict → WhereAuthentic (Ok verdict) (IsOfLine setting decides contents contents_after)
judges setting decides contents contents_after a (Authentic kind alg payload taken) e =
    record { message = a.taken; judged = e; handled = subst (λ (t : List ℕ). Appends contents contents_after t) (sym a.known) a.handled }
judges setting decides contents contents_after a (Refused refusal) e = tt
