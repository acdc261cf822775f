use Rattle.std.proofs.Common.{ℕ, List, [], ap, arith, option_map, subst, ◌<◌, ◌∙◌}
use Rattle.cose_map.specs.Key.View.{contents}
use Rattle.cose_cwt.specs.Token.{read_as}
use Rattle.cose_msg.specs.Message.{Setting, verifying}
use Rattle.cose_msg.specs.Source.{is_detached_from}
use Rattle.cose_msg.specs.Task.{Task}
use Rattle.cose_msg.specs.Verifier.{setting_in}
use Rattle.cose_answers.specs.Printed.{Output, Says, input_answer, output_of}
use Rattle.cose_answers.specs.Vouch.{vouching}
use Rattle.cose_answers.proofs.lemmas.Sequences.NextMessages.{anew, next_found, none_left, took, verdict_alone}
use Rattle.cose_answers.proofs.answers.sequence.messages.MessagesParts.next.Goals as goal

pub returns-then-taken-eq0-clause-part : goal.returns-then-taken-eq0-clause-part
returns-then-taken-eq0-clause-part g c = λ bytes e.
    let made = c.args.self.now.verifier in
    let rules = verifying g.row.H g.row.D (setting_in made) (vouching (option_map contents c.args.self.now.vouch.word)) in
    let has = anew made c.reset.new.self c.args.self.now.verifies c.reset.ensures.none_taken in
    let run = c.in-Ok.ensures.run (setting_in made) [] [] has in
    let these = took c.settled_stays.ensures.truncated rules _ _ _ _ c.in-Ok.verdict run.0 bytes e run.1 in
    none_left rules bytes _ run.0 c.in-Ok.verdict c.taken-taken.result these (c.taken-taken.ensures.value ∙ run.2.0) c.if-taken-eq0.true

pub returns-in-Ok-reply_of-clause-part : goal.returns-in-Ok-reply_of-clause-part
returns-in-Ok-reply_of-clause-part g c = λ bytes e.
    let made = c.args.self.now.verifier in
    let decides = vouching (option_map contents c.args.self.now.vouch.word) in
    let rules = verifying g.row.H g.row.D (setting_in made) decides in
    let has = anew made c.reset.new.self c.args.self.now.verifies c.reset.ensures.none_taken in
    let run = c.in-Ok.ensures.run (setting_in made) [] [] has in
    let these = took c.settled_stays.ensures.truncated rules _ _ _ _ c.in-Ok.verdict run.0 bytes e run.1 in
    let some : 0 < c.taken-taken.result = omega (arith, c.if-taken-eq0.false) in
    next_found rules _ bytes _ run.0 c.in-Ok.verdict _ these (c.taken-taken.ensures.value ∙ run.2.0) some c.is_read_whole-whole.ensures
    (subst (λ (o : Output). Says o c.in-Ok-reply_of.reply) (verdict_alone g.row.H g.row.D (setting_in made) decides run.0 c.in-Ok.verdict these.answer these.counted) c.in-Ok-reply_of.ensures.says)

pub returns-in-Err-clause-same_reading : goal.returns-in-Err-clause-same_reading
returns-in-Err-clause-same_reading g c =
    let made = c.args.self.now.verifier in
    let has = anew made c.reset.new.self c.args.self.now.verifies c.reset.ensures.none_taken in
    ap (λ (s : Setting). read_as g.row.H g.row.D s (vouching (option_map contents c.args.self.now.vouch.word))) (c.verify-verdict.ensures.purpose.context has ∙ ap (λ (t : Task). t.setting) c.reset.ensures.purpose)

pub returns-in-Err-clause-same_lines : goal.returns-in-Err-clause-same_lines
returns-in-Err-clause-same_lines g c =
    let made = c.args.self.now.verifier in
    let has = anew made c.reset.new.self c.args.self.now.verifies c.reset.ensures.none_taken in
    ap (λ (s : Setting). λ (message : List ℕ). output_of (input_answer g.row.H g.row.D s (vouching (option_map contents c.args.self.now.vouch.word)) message)) (c.verify-verdict.ensures.purpose.context has ∙ ap (λ (t : Task). t.setting) c.reset.ensures.purpose)

pub returns-then-taken-eq0-clause-same_reading : goal.returns-then-taken-eq0-clause-same_reading
returns-then-taken-eq0-clause-same_reading g c =
    let made = c.args.self.now.verifier in
    let has = anew made c.reset.new.self c.args.self.now.verifies c.reset.ensures.none_taken in
    ap (λ (s : Setting). read_as g.row.H g.row.D s (vouching (option_map contents c.args.self.now.vouch.word))) (c.verify-verdict.ensures.purpose.context has ∙ ap (λ (t : Task). t.setting) c.reset.ensures.purpose)

pub returns-then-taken-eq0-clause-same_lines : goal.returns-then-taken-eq0-clause-same_lines
returns-then-taken-eq0-clause-same_lines g c =
    let made = c.args.self.now.verifier in
    let has = anew made c.reset.new.self c.args.self.now.verifies c.reset.ensures.none_taken in
    ap (λ (s : Setting). λ (message : List ℕ). output_of (input_answer g.row.H g.row.D s (vouching (option_map contents c.args.self.now.vouch.word)) message)) (c.verify-verdict.ensures.purpose.context has ∙ ap (λ (t : Task). t.setting) c.reset.ensures.purpose)

pub returns-in-Ok-reply_of-clause-same_reading : goal.returns-in-Ok-reply_of-clause-same_reading
returns-in-Ok-reply_of-clause-same_reading g c =
    let made = c.args.self.now.verifier in
    let has = anew made c.reset.new.self c.args.self.now.verifies c.reset.ensures.none_taken in
    ap (λ (s : Setting). read_as g.row.H g.row.D s (vouching (option_map contents c.args.self.now.vouch.word))) (c.verify-verdict.ensures.purpose.context has ∙ ap (λ (t : Task). t.setting) c.reset.ensures.purpose)

pub returns-in-Ok-reply_of-clause-same_lines : goal.returns-in-Ok-reply_of-clause-same_lines
returns-in-Ok-reply_of-clause-same_lines g c =
    let made = c.args.self.now.verifier in
    let has = anew made c.reset.new.self c.args.self.now.verifies c.reset.ensures.none_taken in
    ap (λ (s : Setting). λ (message : List ℕ). output_of (input_answer g.row.H g.row.D s (vouching (option_map contents c.args.self.now.vouch.word)) message)) (c.verify-verdict.ensures.purpose.context has ∙ ap (λ (t : Task). t.setting) c.reset.ensures.purpose)

pub returns-in-Err-reply_of-clause-same_reading : goal.returns-in-Err-reply_of-clause-same_reading
returns-in-Err-reply_of-clause-same_reading g c =
    let made = c.args.self.now.verifier in
    let has = anew made c.reset.new.self c.args.self.now.verifies c.reset.ensures.none_taken in
    ap (λ (s : Setting). read_as g.row.H g.row.D s (vouching (option_map contents c.args.self.now.vouch.word))) (c.verify-verdict.ensures.purpose.context has ∙ ap (λ (t : Task). t.setting) c.reset.ensures.purpose)

pub returns-in-Err-reply_of-clause-same_lines : goal.returns-in-Err-reply_of-clause-same_lines
returns-in-Err-reply_of-clause-same_lines g c =
    let made = c.args.self.now.verifier in
    let has = anew made c.reset.new.self c.args.self.now.verifies c.reset.ensures.none_taken in
    ap (λ (s : Setting). λ (message : List ℕ). output_of (input_answer g.row.H g.row.D s (vouching (option_map contents c.args.self.now.vouch.word)) message)) (c.verify-verdict.ensures.purpose.context has ∙ ap (λ (t : Task). t.setting) c.reset.ensures.purpose)

pub invariant_of-self : goal.invariant_of-self
invariant_of-self g c =
    let purpose = c.reset.ensures.purpose in
    record {
      verifies = c.verify-verdict.ensures.purpose.inspects ∙ ap (λ (t : Task). t.inspects) purpose ∙ c.args.self.now.verifies;
      attached = c.verify-verdict.ensures.purpose.detached ∙ ap (λ (t : Task). is_detached_from t.setting.source) purpose ∙ c.args.self.now.attached;
    }

pub returns-in-Err-clause-part : goal.returns-in-Err-clause-part
returns-in-Err-clause-part g c = λ bytes e. tt

pub returns-in-Err-clause-some : goal.returns-in-Err-clause-some
returns-in-Err-clause-some g c = tt

pub returns-then-taken-eq0-clause-some : goal.returns-then-taken-eq0-clause-some
returns-then-taken-eq0-clause-some g c = tt

pub returns-in-Ok-reply_of-clause-some : goal.returns-in-Ok-reply_of-clause-some
returns-in-Ok-reply_of-clause-some g c = omega (arith, c.if-taken-eq0.false)

pub returns-in-Err-reply_of-clause-part : goal.returns-in-Err-reply_of-clause-part
returns-in-Err-reply_of-clause-part g c = λ bytes e. tt

pub returns-in-Err-reply_of-clause-some : goal.returns-in-Err-reply_of-clause-some
returns-in-Err-reply_of-clause-some g c = tt
