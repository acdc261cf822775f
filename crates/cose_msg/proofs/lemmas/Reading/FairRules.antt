-- The rules of verifying and of inspecting are fair: what they answer themselves is not Truncated, and its place is
-- within the message.
use Rattle.std.proofs.Common.{◌≡◌, ℕ, ℤ, ◌≤◌, Bool, true, false, cond, List, Option, Some, None, Result, Ok, Err, refl, arith}
use Rattle.std.specs.Prelude.{◌≢◌, IfErr}
use Rattle.std.specs.Str.{bytes_eq}
use Rattle.cose_head.specs.declared.reason.Reason.{Reason}
use Rattle.cose_head.specs.declared.reason.Reason.TheVariants.{Truncated}
use Rattle.cose_head.specs.declared.algorithm.Alg.{Alg}
use Rattle.cose_head.specs.Algorithm.{algorithm_numbered, is_mac_of}
use Rattle.cose_map.specs.Choice.{chosen}
use Rattle.cose_map.specs.Key.Value.{KeyValue}
use Rattle.cose_map.specs.Laws.Reasons.{ChoiceIsNotTruncated}
use Rattle.cose_msg.specs.Answer.{Answer, complete, Chosen, Headers, Whole}
use Rattle.cose_msg.specs.Laws.{IsDefinite, PlacedBy, AreFair, AllAreFair}
use Rattle.cose_msg.specs.Message.{Setting, Decides, rules_with, question_of, with_algorithm, past_chosen, found_key, as_choice, key_choice_of, tag_of, digest_signed, judged, compare_tag, compared, verified, shape_of}

-- The result for a whole message.
pub record IsFairOf (whole : Whole) (answer : Answer) : Type 0 where
  pub definite : IsDefinite answer
  pub inside : whole.auth_at ≤ whole.taken → PlacedBy whole.taken answer

complete-fair : (whole : Whole) → IsFairOf whole (complete whole)
complete-fair whole = record { definite = tt; inside = λ le. omega arith }

judged-fair : (holds : Bool) (found : Chosen) (whole : Whole) → IsFairOf whole (judged holds found whole)
judged-fair true found whole = record { definite = tt; inside = λ le. omega arith }
judged-fair false found whole = record { definite = λ e. absurd cc; inside = λ le. le }

either-fair : (b : Bool) (whole : Whole) (x y : Answer) → IsFairOf whole x → IsFairOf whole y → IsFairOf whole (cond b x y)
either-fair true whole x y p q = p
either-fair false whole x y p q = q

compared-fair : (aad : List ℕ) (chosen : Option Chosen) (whole : Whole) → IsFairOf whole (compared aad chosen whole)
compared-fair aad (Some found) whole = either-fair (is_mac_of found.alg) whole (compare_tag aad found whole) (complete whole) (judged-fair (bytes_eq whole.auth (tag_of aad found whole)) found whole) (complete-fair whole)
compared-fair aad None whole = complete-fair whole

-- A tag that was compared, or a signature that is decided on.
judged-kept : (holds : Bool) (aad : List ℕ) (decides : Decides) (chosen : Option Chosen) (found : Chosen) (whole : Whole) → verified aad decides chosen (judged holds found whole) ≡ judged holds found whole
judged-kept true aad decides (Some other) found whole = refl
judged-kept true aad decides None found whole = refl
judged-kept false aad decides (Some other) found whole = refl
judged-kept false aad decides None found whole = refl

either-verified : (b : Bool) (aad : List ℕ) (decides : Decides) (found : Chosen) (whole : Whole) → IsFairOf whole (verified aad decides (Some found) (cond b (compare_tag aad found whole) (complete whole)))
either-verified true aad decides found whole = rw (judged-kept (bytes_eq whole.auth (tag_of aad found whole)) aad decides (Some found) found whole) (judged-fair (bytes_eq whole.auth (tag_of aad found whole)) found whole)
either-verified false aad decides found whole = judged-fair (decides found.key (digest_signed aad found whole) whole.auth) found whole

verified-fair : (aad : List ℕ) (decides : Decides) (chosen : Option Chosen) (whole : Whole) → IsFairOf whole (verified aad decides chosen (compared aad chosen whole))
verified-fair aad decides (Some found) whole = either-verified (is_mac_of found.alg) aad decides found whole
verified-fair aad decides None whole = complete-fair whole

-- The choice of the key.
with_algorithm-fair : (key : KeyValue) (alg : Option Alg) → IfErr (with_algorithm key alg) (λ reason. reason ≢ Truncated)
with_algorithm-fair key (Some alg) = tt
with_algorithm-fair key None = λ e. absurd cc

past_chosen-fair : (found : Result (KeyValue × ℤ) Reason) → IfErr found (λ reason. reason ≢ Truncated) → IfErr (past_chosen found) (λ reason. reason ≢ Truncated)
past_chosen-fair (Ok found) h = with_algorithm-fair found.0 (algorithm_numbered found.1)
past_chosen-fair (Err reason) h = h

as_choice-fair : (found : Result Chosen Reason) → IfErr found (λ reason. reason ≢ Truncated) → IfErr (as_choice found) (λ reason. reason ≢ Truncated)
as_choice-fair (Ok found) h = tt
as_choice-fair (Err reason) h = h

choice-fair : ChoiceIsNotTruncated → (keys : List KeyValue) (headers : Headers) → IfErr (key_choice_of keys headers) (λ reason. reason ≢ Truncated)
choice-fair choice keys headers = as_choice-fair (found_key keys headers) (past_chosen-fair (chosen (question_of headers) keys) (choice (question_of headers) keys))

-- The rules.
rules-fair : (room nesting : ℕ) (setting : Setting) (choice : Headers → Result (Option Chosen) Reason) (finish : Whole → Answer) → ((headers : Headers) → IfErr (choice headers) (λ reason. reason ≢ Truncated)) → ((whole : Whole) → IsFairOf whole (finish whole)) → AreFair (rules_with room nesting setting choice finish)
rules-fair room nesting setting choice finish p q = record { choice = p; definite = λ whole. (q whole).definite; inside = λ whole. (q whole).inside }

pub all_are_fair : ChoiceIsNotTruncated → AllAreFair
all_are_fair choice = record {
  uncompared = λ room nesting setting. rules-fair room nesting setting (key_choice_of setting.keys) complete (choice-fair choice setting.keys) complete-fair;
  comparing = λ room nesting setting. rules-fair room nesting setting (key_choice_of setting.keys) (λ whole. compared setting.aad whole.chosen whole) (choice-fair choice setting.keys) (λ whole. compared-fair setting.aad whole.chosen whole);
  verifying = λ room nesting setting decides. rules-fair room nesting setting (key_choice_of setting.keys) (λ whole. verified setting.aad decides whole.chosen (compared setting.aad whole.chosen whole)) (choice-fair choice setting.keys) (λ whole. verified-fair setting.aad decides whole.chosen whole);
  inspecting = λ room nesting setting. rules-fair room nesting setting (λ headers. Ok None) shape_of (λ headers. tt) (λ whole. record { definite = tt; inside = λ le. omega arith });
}
