use Rattle.std.proofs.Common.{SFits, ℤ, ap, option_map, rules, sym, w64, ◌∙◌}
use Rattle.std.proofs.lemmas.Int.{to_z-of_z}
use Rattle.cose_cwt.specs.Admission.{PolicyValue}
use Rattle.cose_cwt.specs.Admission.View.{policy_value}
use Rattle.cose_cwt.specs.Claims.Audience.{text_value}
use Rattle.cose_cwt.specs.Requirements.{RequirementsValue}
use Rattle.cose_cwt.specs.Requirements.View.{requirements_value}
use Rattle.cose_msg.specs.Verifier.{setting_in}
use Rattle.cose_answers.specs.Admitted.{program_policy}
use Rattle.cose_answers.specs.Requests.{admitted_each_for}
use Rattle.cose_answers.specs.Requirements.{requirements_for}
use Rattle.cose_answers.specs.Under.{under_of}
use Rattle.cose_answers.proofs.lemmas.Requests.AskedSequences.{fails_as}
use Rattle.cose_answers.proofs.lemmas.Sequences.VerifiedSequences.{admitted_as, admitted_in, prints_as}
use Rattle.cose_answers.proofs.answers.sequence.tokens.print_prepared.Goals as goal

pub returns-clause-prints : goal.returns-clause-prints
returns-clause-prints g c = λ bytes e.
    let words = c.args.words.now in
    let in_range : SFits w64 words.now = search rules in
    let under = under_of words.checks in
    let policy = program_policy words.now words.leeway (option_map text_value words.aud) in
    let requirements = requirements_for words.now words.leeway words.required in
    let setting = setting_in c.new.result in
    prints_as (admitted_in setting under (policy_value c.policy_of-policy.result) (requirements_value c.requirements_of-requirements.result) words.printing) (admitted_each_for words) bytes _ _ _
    (λ input. ap (λ (p : PolicyValue). admitted_in setting under p (requirements_value c.requirements_of-requirements.result) words.printing input) (c.policy_of-policy.ensures ∙ ap (λ (at : ℤ). program_policy at words.leeway (option_map text_value words.aud)) (to_z-of_z w64 words.now in_range)) ∙ ap (λ (r : RequirementsValue). admitted_in setting under policy r words.printing input) (c.requirements_of-requirements.ensures ∙ ap (λ (at : ℤ). requirements_for at words.leeway words.required) (to_z-of_z w64 words.now in_range)) ∙ admitted_as under policy requirements words.printing _ setting input c.requires.keys_are (rw c.requires.claims (c.new.ensures.context ∙ c.token_context-context.ensures.setting)))
    (rw (c.requires.sizes.header_is, c.requires.sizes.nesting_is, sym c.vouch-vouch.ensures) (c.print_read.ensures.prints bytes e))

pub returns-clause-fails : goal.returns-clause-fails
returns-clause-fails g c = λ bytes e two.
    let words = c.args.words.now in
    let in_range : SFits w64 words.now = search rules in
    let under = under_of words.checks in
    let policy = program_policy words.now words.leeway (option_map text_value words.aud) in
    let requirements = requirements_for words.now words.leeway words.required in
    let setting = setting_in c.new.result in
    fails_as (admitted_in setting under (policy_value c.policy_of-policy.result) (requirements_value c.requirements_of-requirements.result) words.printing) (admitted_each_for words) bytes _ _
    (λ input. ap (λ (p : PolicyValue). admitted_in setting under p (requirements_value c.requirements_of-requirements.result) words.printing input) (c.policy_of-policy.ensures ∙ ap (λ (at : ℤ). program_policy at words.leeway (option_map text_value words.aud)) (to_z-of_z w64 words.now in_range)) ∙ ap (λ (r : RequirementsValue). admitted_in setting under policy r words.printing input) (c.requirements_of-requirements.ensures ∙ ap (λ (at : ℤ). requirements_for at words.leeway words.required) (to_z-of_z w64 words.now in_range)) ∙ admitted_as under policy requirements words.printing _ setting input c.requires.keys_are (rw c.requires.claims (c.new.ensures.context ∙ c.token_context-context.ensures.setting)))
    (rw (c.requires.sizes.header_is, c.requires.sizes.nesting_is, sym c.vouch-vouch.ensures) (c.print_read.ensures.fails bytes e two))
