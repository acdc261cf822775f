use Rattle.std.proofs.Common.{◌≡◌, ℕ, ◌+◌, [], length, Ok, Err, refl, ap, ◌∙◌, arith}
use Rattle.std.proofs.lemmas.Grind.{common_steps}
use Rattle.std.specs.Prelude.{option_map}
use Rattle.cose_msg.specs.Chosen.{chosen_value}
use Rattle.cose_msg.specs.Choosing.{choice_of}
use Rattle.cose_msg.specs.Phases.{headers_of, headers_so_far}
use Rattle.cose_msg.specs.Reader.{Known}
use Rattle.cose_msg.specs.Task.{Task}
use Rattle.cose_msg.proofs.lemmas.Choosing.ChoiceReadings.{choice_finds, choice_is_found, choice_is_refused, choice_refuses, chooses_if_verified}
use Rattle.cose_msg.proofs.lemmas.Reader.Meanings.{moved}
use Rattle.cose_msg.proofs.reader.Reader.past_buckets.Goals as goal

pub returns-in-Ok : goal.returns-in-Ok
returns-in-Ok g c = record {
  reads_on = λ task pairs others among away e good found_good.
      let headers = headers_of c.args.kind c.args.self.now.protected.items pairs others in
      let place = c.args.at + length c.args.self.now.unprotected.items in
      let seen = c.choose.ensures task pairs others (ap (λ (t : Task). t.setting.understood) e.0) among in
      let is = choice_is_found pairs c.in-Ok.is_bare c.choose.new.into (choice_of task (headers_of c.args.kind c.args.self.now.protected.items pairs others) (c.args.at + length c.args.self.now.unprotected.items)) (rw c.in-Ok.is at (seen good found_good)) in
      let chooses : choice_of task (headers_of c.args.kind c.args.self.now.protected.items pairs others) (c.args.at + length c.args.self.now.unprotected.items) ≡ Ok (option_map chosen_value c.choose.new.into) = is.is in
      let known : Known = record { headers = headers_of c.args.kind c.args.self.now.protected.items pairs others; chosen = option_map chosen_value c.choose.new.into; payload = []; auth = [] } in
      moved c.begin_payload_head.new.self _ _ refl (ap (λ (n : ℕ). c.args.at + n) c.len.ensures.value)
      (λ z. choice_finds g.row.H g.row.D task headers place (option_map chosen_value c.choose.new.into) chooses z ∙ rw c.len.ensures.value refl)
      (c.begin_payload_head.ensures.reads_on task known e refl (refl, refl, chooses_if_verified task headers place (option_map chosen_value c.choose.new.into) chooses, c.begin_hashing.ensures.kind ∙ away, refl) refl is.bare_is c.begin_hashing.ensures.begun);
}

pub returns-in-Err : goal.returns-in-Err
returns-in-Err g c = record {
  reads_on = λ task pairs others among away e good found_good.
      let headers = headers_of c.args.kind c.args.self.now.protected.items pairs others in
      let place = c.args.at + length c.args.self.now.unprotected.items in
      let seen = c.choose.ensures task pairs others (ap (λ (t : Task). t.setting.understood) e.0) among in
      let is = choice_is_refused pairs c.in-Err.refusal c.choose.new.into (choice_of task (headers_of c.args.kind c.args.self.now.protected.items pairs others) (c.args.at + length c.args.self.now.unprotected.items)) (rw c.in-Err.is at (seen good found_good)) in
      let refuses : choice_of task (headers_of c.args.kind c.args.self.now.protected.items pairs others) (c.args.at + length c.args.self.now.unprotected.items) ≡ Err c.in-Err.refusal = is in
      moved c.refuse.new.self _ _ refl refl (choice_refuses g.row.H g.row.D task headers place c.in-Err.refusal refuses)
      (c.refuse.ensures task [] (c.args.at + length c.args.self.now.unprotected.items) (headers_so_far (headers_of c.args.kind c.args.self.now.protected.items pairs others) []) e refl);
}

pub overflow_add-after : goal.overflow_add-after
overflow_add-after g c = grind (arith, common_steps)

pub invariant_of-self : goal.invariant_of-self
invariant_of-self g c = grind (arith, common_steps)
