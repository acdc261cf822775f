use Rattle.std.proofs.Common.{◌≡◌, [], true, false, refl, sym, ap, ◌∙◌}
use Rattle.cose_msg.specs.declared.context.Wanted.{Wanted}
use Rattle.cose_msg.specs.Front.{is_array, is_cwt_tag, is_tag, kind_of_tag, past_untagged}
use Rattle.cose_msg.specs.Task.{Task, rules_of}
use Rattle.cose_msg.specs.Phases.{nothing_so_far}
use Rattle.cose_msg.proofs.lemmas.Reader.Meanings.{moved}
use Rattle.cose_msg.proofs.reader.Reader.past_first_head.Goals as goal

pub returns-then-is_cwt_tag : goal.returns-then-is_cwt_tag
returns-then-is_cwt_tag g c = record {
  reads_on = λ task e.
      let cwt : is_cwt_tag task.setting.cwt c.args.head ≡ true = ap (λ (t : Task). is_cwt_tag t.setting.cwt c.args.head) (sym e.0) ∙ (sym c.is_cwt_tag.ensures ∙ c.if-is_cwt_tag.true) in
      rw cwt (c.begin_tag_head.ensures.reads_on task e);
}

pub returns-then-is_tag : goal.returns-then-is_tag
returns-then-is_tag g c = record {
  reads_on = λ task e.
      let cwt : is_cwt_tag task.setting.cwt c.args.head ≡ false = ap (λ (t : Task). is_cwt_tag t.setting.cwt c.args.head) (sym e.0) ∙ (sym c.is_cwt_tag.ensures ∙ c.if-is_cwt_tag.false) in
      let tagged : is_tag c.args.head ≡ true = sym c.is_tag.ensures ∙ c.if-is_tag.true in
      let says : kind_of_tag task.setting.wanted c.args.head.arg ≡ c.kind_of_tag.result = ap (λ (t : Task). kind_of_tag t.setting.wanted c.args.head.arg) (sym e.0) ∙ sym c.kind_of_tag.ensures in
      rw (cwt, tagged, says) (c.past_tag.ensures.reads_on task e);
}

pub returns-then-is_array : goal.returns-then-is_array
returns-then-is_array g c = record {
  reads_on = λ task e.
      let cwt : is_cwt_tag task.setting.cwt c.args.head ≡ false = ap (λ (t : Task). is_cwt_tag t.setting.cwt c.args.head) (sym e.0) ∙ (sym c.is_cwt_tag.ensures ∙ c.if-is_cwt_tag.false) in
      let tagged : is_tag c.args.head ≡ false = sym c.is_tag.ensures ∙ c.if-is_tag.false in
      let listed : is_array c.args.head ≡ true = sym c.is_array.ensures ∙ c.if-is_array.true in
      let wanted : task.setting.wanted ≡ c.args.self.now.terms.wanted = ap (λ (t : Task). t.setting.wanted) (sym e.0) in
      moved c.past_untagged.new.self _ _ refl refl
      (λ z. rw (cwt, tagged, listed) (ap (λ (w : Wanted). past_untagged (rules_of g.row.H g.row.D task) w 0 c.args.head c.args.at z) wanted))
      (c.past_untagged.ensures.reads_on task e);
}

pub returns-else-is_array : goal.returns-else-is_array
returns-else-is_array g c = record {
  reads_on = λ task e.
      let cwt : is_cwt_tag task.setting.cwt c.args.head ≡ false = ap (λ (t : Task). is_cwt_tag t.setting.cwt c.args.head) (sym e.0) ∙ (sym c.is_cwt_tag.ensures ∙ c.if-is_cwt_tag.false) in
      let tagged : is_tag c.args.head ≡ false = sym c.is_tag.ensures ∙ c.if-is_tag.false in
      let listed : is_array c.args.head ≡ false = sym c.is_array.ensures ∙ c.if-is_array.false in
      rw (cwt, tagged, listed) (c.refuse.ensures task [] c.args.at nothing_so_far e refl);
}

pub is_cwt_tag-requires : goal.is_cwt_tag-requires
is_cwt_tag-requires g c = cc

pub is_tag-requires : goal.is_tag-requires
is_tag-requires g c = cc

pub kind_of_tag-requires : goal.kind_of_tag-requires
kind_of_tag-requires g c = cc

pub is_array-requires : goal.is_array-requires
is_array-requires g c = cc
