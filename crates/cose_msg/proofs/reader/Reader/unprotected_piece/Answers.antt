use Rattle.std.proofs.Common.{◌≡◌, ◌+◌, ◌<◌, ◌≤◌, ◌++◌, length, refl, ap, ◌∙◌, arith, length-append, append_assoc}
use Rattle.std.proofs.lemmas.Grind.{common_steps}
use Rattle.std.proofs.Math.Nat.{min-eq_left}
use Rattle.cose_head.specs.declared.walker.Step.{Step}
use Rattle.cose_head.specs.declared.walker.Step.TheVariants as steps
use Rattle.cose_head.specs.Walker.{open_now, open_while}
use Rattle.cose_msg.specs.Task.{rules_of}
use Rattle.cose_msg.specs.Phases.{past_unprotected, protected_so_far, unprotected_so_far}
use Rattle.cose_msg.specs.Reading.{open_items_after, wanted_after}
use Rattle.cose_msg.proofs.lemmas.Reader.Meanings.{moved, shows_as, so_far_payload}
use Rattle.cose_msg.proofs.lemmas.Reader.PhaseSteps.{item_completed, item_refused}
use Rattle.cose_msg.proofs.reader.Reader.unprotected_piece.Goals as goal

pub returns-in-Going : goal.returns-in-Going
returns-in-Going g c = record {
  reads_on = λ task B n reading handed away h.
      let inside = rw c.requires.phase at h.holds in
      let put = inside.2 in
      let fits : length c.args.piece.now ≤ wanted_after g.row.H g.row.D c.args.self.now.unprotected.items = omega (arith, c.requires.fits, inside.4) in
      let among = rw c.in-Going.is at (c.walk_on.ensures.among g.row.H c.args.self.now.unprotected.items put fits) in
      let grown : c.append.new.store.items ≡ c.args.self.now.unprotected.items ++ c.args.piece.now = c.append.ensures (omega (arith, among, length-append c.args.self.now.unprotected.items c.args.piece.now)) in
      let count : n + length c.args.piece.now ≡ c.args.unprotected.at + length (c.args.self.now.unprotected.items ++ c.args.piece.now) = omega (arith, inside.3, length-append c.args.self.now.unprotected.items (c.args.piece.now)) in
      let has = c.walk_on.ensures.put g.row.H c.args.self.now.unprotected.items put fits c.in-Going.is in
      let shows = shows_as task c.args.self.now h.so_far (unprotected_so_far h.known.headers.protected_pairs (open_items_after g.row.H g.row.D c.args.self.now.unprotected.items)) inside.0 h.shows in
      record {
        known = h.known;
        so_far = unprotected_so_far h.known.headers.protected_pairs (open_items_after g.row.H g.row.D (c.args.self.now.unprotected.items ++ c.args.piece.now));
        shows = (shows.0, shows.1, shows.2, c.walker_is_reading.ensures.open g.row.D g.row.H (c.args.self.now.unprotected.items ++ c.args.piece.now) c.walk_on.new.walker has);
        payload_known = h.payload_known;
        payload_so_far = so_far_payload h.so_far (unprotected_so_far h.known.headers.protected_pairs (open_items_after g.row.H g.row.D c.args.self.now.unprotected.items)) B inside.0 h.payload_so_far;
        holds = (rw grown refl, inside.1, rw grown has, rw grown count, rw grown (c.want.ensures.content g.row.H (c.args.self.now.unprotected.items ++ c.args.piece.now) has));
        left = λ z. rw (grown, append_assoc) (rw c.requires.phase at (h.left (c.args.piece.now ++ z)));
      };
}

pub returns-in-Done : goal.returns-in-Done
returns-in-Done g c = record {
  reads_on = λ task B n reading handed away h.
      let inside = rw c.requires.phase at h.holds in
      let put = inside.2 in
      let none = so_far_payload h.so_far (unprotected_so_far h.known.headers.protected_pairs (open_items_after g.row.H g.row.D c.args.self.now.unprotected.items)) B inside.0 h.payload_so_far in
      let fits : length c.args.piece.now ≤ wanted_after g.row.H g.row.D c.args.self.now.unprotected.items = omega (arith, c.requires.fits, inside.4) in
      let among = rw c.in-Done.is at (c.walk_on.ensures.among g.row.H c.args.self.now.unprotected.items put fits) in
      let grown : c.append.new.store.items ≡ c.args.self.now.unprotected.items ++ c.args.piece.now = c.append.ensures (omega (arith, among, length-append c.args.self.now.unprotected.items c.args.piece.now)) in
      let count : c.args.unprotected.at + length (c.args.self.now.unprotected.items ++ c.args.piece.now) ≡ n + length c.args.piece.now = omega (arith, inside.3, length-append c.args.self.now.unprotected.items (c.args.piece.now)) in
      let shows = shows_as task c.args.self.now h.so_far (unprotected_so_far h.known.headers.protected_pairs (open_items_after g.row.H g.row.D c.args.self.now.unprotected.items)) inside.0 h.shows in
      let none_open : c.walk_on.new.walker.step ≡ steps.Done → open_now c.walk_on.new.walker ≡ 0 = λ e. ap (λ (step : Step). open_while step (length c.walk_on.new.walker.counts.items)) e in
      moved c.past_unprotected.new.self _ _ none count
      (λ z. (rw c.requires.phase at (h.left (c.args.piece.now ++ z))) ∙ item_completed c.read_stays.ensures.stays (unprotected_so_far h.known.headers.protected_pairs) g.row.H g.row.D (past_unprotected (rules_of g.row.H g.row.D task) c.args.unprotected.kind c.args.self.now.protected.items h.known.headers.protected_pairs) c.args.unprotected.at c.args.self.now.unprotected.items c.args.piece.now (rw c.in-Done.is at (c.walk_on.ensures.answer g.row.H c.args.self.now.unprotected.items put fits)) z)
      (rw grown at (c.past_unprotected.ensures.reads_on task h.known.headers.protected_pairs handed away (shows.0, shows.1, shows.2, none_open (c.walk_on.ensures.step ∙ c.in-Done.is)) inside.1));
}

pub returns-in-Fault : goal.returns-in-Fault
returns-in-Fault g c = record {
  reads_on = λ task B n reading handed away h.
      let inside = rw c.requires.phase at h.holds in
      let put = inside.2 in
      let none = so_far_payload h.so_far (unprotected_so_far h.known.headers.protected_pairs (open_items_after g.row.H g.row.D c.args.self.now.unprotected.items)) B inside.0 h.payload_so_far in
      let fits : length c.args.piece.now ≤ wanted_after g.row.H g.row.D c.args.self.now.unprotected.items = omega (arith, c.requires.fits, inside.4) in
      let some : 0 < g.row.H = omega (arith, c.args.self.now.some_room) in
      let room = c.want-wanted.ensures.fits g.row.H c.args.self.now.unprotected.items put some in
      let wanted = c.want-wanted.ensures.content g.row.H c.args.self.now.unprotected.items put in
      let place : c.saturating_add.result ≡ c.args.unprotected.at + c.in-Fault.refusal.place = c.saturating_add.ensures ∙ min-eq_left (omega (arith, rw c.in-Fault.is at (c.walk_on.ensures.among g.row.H c.args.self.now.unprotected.items put fits), c.args.unprotected.early, c.args.self.now.limit, length-append c.args.self.now.unprotected.items c.args.piece.now, fits, room, wanted)) in
      let shows = shows_as task c.args.self.now h.so_far (unprotected_so_far h.known.headers.protected_pairs (open_items_after g.row.H g.row.D c.args.self.now.unprotected.items)) inside.0 h.shows in
      let none_open : c.walk_on.new.walker.step ≡ steps.Fault c.in-Fault.refusal → open_now c.walk_on.new.walker ≡ 0 = λ e. ap (λ (step : Step). open_while step (length c.walk_on.new.walker.counts.items)) e in
      moved c.refuse.new.self _ _ refl refl
      (λ z. (rw c.requires.phase at (h.left (c.args.piece.now ++ z))) ∙ item_refused c.read_stays.ensures.stays (unprotected_so_far h.known.headers.protected_pairs) g.row.H g.row.D (past_unprotected (rules_of g.row.H g.row.D task) c.args.unprotected.kind c.args.self.now.protected.items h.known.headers.protected_pairs) c.args.unprotected.at c.args.self.now.unprotected.items c.args.piece.now c.in-Fault.refusal (rw c.in-Fault.is at (c.walk_on.ensures.answer g.row.H c.args.self.now.unprotected.items put fits)) z)
      (rw place at (c.refuse.ensures task B (n + length c.args.piece.now) (protected_so_far h.known.headers.protected_pairs) (shows.0, shows.1, shows.2, none_open (c.walk_on.ensures.step ∙ c.in-Fault.is)) none));
}

pub invariant_of-self-clause-some_wanted : goal.invariant_of-self-clause-some_wanted
invariant_of-self-clause-some_wanted g c = c.want.ensures.some (c.walk_on.ensures.step ∙ c.in-Going.is)

pub invariant_of-self-in-Going : goal.invariant_of-self-in-Going
invariant_of-self-in-Going g c = grind (arith, common_steps)

pub invariant_of-self-in-Done : goal.invariant_of-self-in-Done
invariant_of-self-in-Done g c = grind (arith, common_steps)
