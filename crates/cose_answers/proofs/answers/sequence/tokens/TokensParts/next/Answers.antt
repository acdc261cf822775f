use Rattle.std.proofs.Common.{ℕ, List, ap, arith, option_map, subst, sym, ◌<◌, ◌≤◌, ◌∙◌}
use Rattle.cose_cwt.specs.Admission.View.{policy_value}
use Rattle.cose_cwt.specs.Requirements.View.{requirements_value}
use Rattle.cose_map.specs.Key.View.{contents}
use Rattle.cose_cwt.specs.Token.{read_as}
use Rattle.cose_msg.specs.Message.{Setting, verifying}
use Rattle.cose_msg.specs.Source.{is_detached_from}
use Rattle.cose_msg.specs.Task.{Task}
use Rattle.cose_msg.specs.Verifier.{setting_in}
use Rattle.cose_answers.specs.Admitted.{Admission, input_token, stopped_in}
use Rattle.cose_answers.specs.Printed.{Says, outcome_said}
use Rattle.cose_answers.specs.Vouch.{vouching}
use Rattle.cose_answers.proofs.lemmas.Sequences.NextTokens.{took_token}
use Rattle.cose_answers.proofs.lemmas.Sequences.NextMessages.{anew, next_found, none_left}
use Rattle.cose_answers.proofs.answers.sequence.tokens.TokensParts.next.Goals as goal

pub returns-then-taken-eq0-clause-part : goal.returns-then-taken-eq0-clause-part
returns-then-taken-eq0-clause-part g c = λ bytes e.
    let tokens = c.args.self.now in
    let setting = setting_in tokens.verifier in
    let decides = vouching (option_map contents tokens.vouch.word) in
    let has = anew tokens.verifier c.reset.new.self tokens.verifies c.reset.ensures.none_taken in
    let token = took_token c.settled_stays.ensures.truncated g.row.H g.row.D setting decides (policy_value tokens.policy) (requirements_value tokens.requirements) _ _ _ _ _ c.taken-taken.result bytes e
    (c.verify_cwt-claims.ensures.run setting has) c.taken-taken.ensures.value (sym (ap stopped_in c.claims_required-token.ensures) ∙ c.in-Ok.ensures.unstopped) in
    none_left (verifying g.row.H g.row.D setting decides) bytes _ token.taken token.verdict c.taken-taken.result token.these token.counted c.if-taken-eq0.true

pub returns-clause-part : goal.returns-clause-part
returns-clause-part g c = λ bytes e.
    let tokens = c.args.self.now in
    let setting = setting_in tokens.verifier in
    let decides = vouching (option_map contents tokens.vouch.word) in
    let has = anew tokens.verifier c.reset.new.self tokens.verifies c.reset.ensures.none_taken in
    let token = took_token c.settled_stays.ensures.truncated g.row.H g.row.D setting decides (policy_value tokens.policy) (requirements_value tokens.requirements) _ _ _ _ _ c.taken-taken.result bytes e
    (c.verify_cwt-claims.ensures.run setting has) c.taken-taken.ensures.value (sym (ap stopped_in c.claims_required-token.ensures) ∙ c.in-Ok.ensures.unstopped) in
    let some : 0 < c.taken-taken.result = omega (arith, c.if-taken-eq0.false) in
    next_found (verifying g.row.H g.row.D setting decides) _ bytes _ token.taken token.verdict _ token.these token.counted some (c.is_token_whole-whole.ensures ∙ token.whole)
    (subst (λ (o : Admission). Says (outcome_said tokens.printing o) c.in-Ok.reply) (c.claims_required-token.ensures ∙ token.alone) c.in-Ok.ensures.says)

pub returns-in-Err-clause-same_reading : goal.returns-in-Err-clause-same_reading
returns-in-Err-clause-same_reading g c =
    let tokens = c.args.self.now in
    let has = anew tokens.verifier c.reset.new.self tokens.verifies c.reset.ensures.none_taken in
    ap (λ (s : Setting). read_as g.row.H g.row.D s (vouching (option_map contents tokens.vouch.word))) (c.verify_cwt-claims.ensures.purpose.context has ∙ ap (λ (t : Task). t.setting) c.reset.ensures.purpose)

pub returns-in-Err-clause-same_lines : goal.returns-in-Err-clause-same_lines
returns-in-Err-clause-same_lines g c =
    let tokens = c.args.self.now in
    let has = anew tokens.verifier c.reset.new.self tokens.verifies c.reset.ensures.none_taken in
    ap (λ (s : Setting). λ (message : List ℕ). outcome_said tokens.printing (input_token g.row.H g.row.D s (vouching (option_map contents tokens.vouch.word)) (policy_value tokens.policy) (requirements_value tokens.requirements) message)) (c.verify_cwt-claims.ensures.purpose.context has ∙ ap (λ (t : Task). t.setting) c.reset.ensures.purpose)

pub returns-then-taken-eq0-clause-same_reading : goal.returns-then-taken-eq0-clause-same_reading
returns-then-taken-eq0-clause-same_reading g c =
    let tokens = c.args.self.now in
    let has = anew tokens.verifier c.reset.new.self tokens.verifies c.reset.ensures.none_taken in
    ap (λ (s : Setting). read_as g.row.H g.row.D s (vouching (option_map contents tokens.vouch.word))) (c.verify_cwt-claims.ensures.purpose.context has ∙ ap (λ (t : Task). t.setting) c.reset.ensures.purpose)

pub returns-then-taken-eq0-clause-same_lines : goal.returns-then-taken-eq0-clause-same_lines
returns-then-taken-eq0-clause-same_lines g c =
    let tokens = c.args.self.now in
    let has = anew tokens.verifier c.reset.new.self tokens.verifies c.reset.ensures.none_taken in
    ap (λ (s : Setting). λ (message : List ℕ). outcome_said tokens.printing (input_token g.row.H g.row.D s (vouching (option_map contents tokens.vouch.word)) (policy_value tokens.policy) (requirements_value tokens.requirements) message)) (c.verify_cwt-claims.ensures.purpose.context has ∙ ap (λ (t : Task). t.setting) c.reset.ensures.purpose)

pub returns-clause-same_reading : goal.returns-clause-same_reading
returns-clause-same_reading g c =
    let tokens = c.args.self.now in
    let has = anew tokens.verifier c.reset.new.self tokens.verifies c.reset.ensures.none_taken in
    ap (λ (s : Setting). read_as g.row.H g.row.D s (vouching (option_map contents tokens.vouch.word))) (c.verify_cwt-claims.ensures.purpose.context has ∙ ap (λ (t : Task). t.setting) c.reset.ensures.purpose)

pub returns-clause-same_lines : goal.returns-clause-same_lines
returns-clause-same_lines g c =
    let tokens = c.args.self.now in
    let has = anew tokens.verifier c.reset.new.self tokens.verifies c.reset.ensures.none_taken in
    ap (λ (s : Setting). λ (message : List ℕ). outcome_said tokens.printing (input_token g.row.H g.row.D s (vouching (option_map contents tokens.vouch.word)) (policy_value tokens.policy) (requirements_value tokens.requirements) message)) (c.verify_cwt-claims.ensures.purpose.context has ∙ ap (λ (t : Task). t.setting) c.reset.ensures.purpose)

pub invariant_of-self : goal.invariant_of-self
invariant_of-self g c =
    let tokens = c.args.self.now in
    let has = anew tokens.verifier c.reset.new.self tokens.verifies c.reset.ensures.none_taken in
    let same = c.verify_cwt-claims.ensures.purpose.context has ∙ ap (λ (t : Task). t.setting) c.reset.ensures.purpose in
    record {
      nesting = tokens.nesting;
      some_store = tokens.some_store;
      store_limit = tokens.store_limit;
      verifies = c.verify_cwt-claims.ensures.purpose.inspects ∙ ap (λ (t : Task). t.inspects) c.reset.ensures.purpose ∙ tokens.verifies;
      attached = c.verify_cwt-claims.ensures.purpose.detached ∙ ap (λ (t : Task). is_detached_from t.setting.source) c.reset.ensures.purpose ∙ tokens.attached;
      cwt = ap (λ (s : Setting). s.cwt) same ∙ tokens.cwt;
      payload_limit = subst (λ (s : Setting). s.payload_limit ≤ g.row.L) (sym same) tokens.payload_limit;
    }
