use Rattle.std.proofs.Common.{◌≡◌, ◌+◌, [], ◌∷◌, ◌++◌, refl, ◌∙◌, arith, length-append}
use Rattle.std.proofs.lemmas.Grind.{common_steps}
use Rattle.cose_head.specs.Head.{IsMore, bare_head}
use Rattle.cose_msg.specs.Task.{rules_of}
use Rattle.cose_msg.specs.Phases.{headers_so_far, past_auth_head}
use Rattle.cose_msg.proofs.lemmas.Reader.Meanings.{holds_more, moved, shows_as, so_far_payload}
use Rattle.cose_msg.proofs.lemmas.Reader.PhaseSteps.{head_refused, head_completed, regrouped}
use Rattle.cose_msg.proofs.reader.Reader.auth_head.Goals as goal

pub returns-in-More : goal.returns-in-More
returns-in-More g c = record {
  reads_on = λ task B n reading h.
      let inside = rw c.requires.phase at h.holds in
      let kept = rw c.in-More.is at c.take_bare_head_byte.ensures.kept in
      let half : IsMore (bare_head (c.args.self.now.head.items ++ c.args.byte ∷ [])) = rw (← c.take_bare_head_byte.ensures.answer, c.in-More.is) tt in
      record {
        known = h.known;
        so_far = h.so_far;
        shows = h.shows;
        payload_known = h.payload_known;
        payload_so_far = h.payload_so_far;
        holds = rw c.requires.phase (inside.0, (holds_more c.args.auth_head.at n c.args.byte c.args.self.now.head.items c.take_bare_head_byte.new.head.items inside.1.1 kept half), inside.2, inside.3, inside.4);
        left = λ z. rw (c.requires.phase, kept, regrouped) (rw c.requires.phase at (h.left (c.args.byte ∷ z)));
      };
}

pub returns-in-Fault : goal.returns-in-Fault
returns-in-Fault g c = record {
  reads_on = λ task B n reading h.
      let inside = rw c.requires.phase at h.holds in
      let so_far = so_far_payload h.so_far (headers_so_far h.known.headers h.known.payload) B inside.0 h.payload_so_far in
      moved c.refuse.new.self _ _ refl refl
      (λ z. (rw c.requires.phase at (h.left (c.args.byte ∷ z))) ∙ head_refused (headers_so_far h.known.headers h.known.payload) (past_auth_head (rules_of g.row.H g.row.D task) h.known.headers h.known.chosen h.known.payload) c.args.auth_head.at c.args.self.now.head.items c.args.byte c.in-Fault.reason (c.in-Fault.ensures.stays tt) z)
      (c.refuse.ensures task B (n + 1) (headers_so_far h.known.headers h.known.payload) (shows_as task c.args.self.now h.so_far (headers_so_far h.known.headers h.known.payload) inside.0 h.shows) so_far);
}

pub returns-in-Got : goal.returns-in-Got
returns-in-Got g c = record {
  reads_on = λ task B n reading h.
      let inside = rw c.requires.phase at h.holds in
      let last = c.in-Got.ensures.last inside.1.0 in
      let count : c.args.auth_head.at + c.in-Got.used ≡ n + 1 = omega (arith, inside.1.1, last, length-append c.args.self.now.head.items (c.args.byte ∷ [])) in
      moved c.past_auth_head.new.self _ _ h.payload_known count
      (λ z. (rw c.requires.phase at (h.left (c.args.byte ∷ z))) ∙ head_completed (headers_so_far h.known.headers h.known.payload) (past_auth_head (rules_of g.row.H g.row.D task) h.known.headers h.known.chosen h.known.payload) c.args.auth_head.at c.args.self.now.head.items c.args.byte c.in-Got.head c.in-Got.used (c.in-Got.ensures.stays tt) last z)
      (c.past_auth_head.ensures.reads_on task h.known (shows_as task c.args.self.now h.so_far (headers_so_far h.known.headers h.known.payload) inside.0 h.shows) inside.2 inside.3 inside.4);
}

pub invariant_of-self : goal.invariant_of-self
invariant_of-self g c = grind (arith, common_steps)

pub overflow_add-at : goal.overflow_add-at
overflow_add-at g c = grind (arith, common_steps)
