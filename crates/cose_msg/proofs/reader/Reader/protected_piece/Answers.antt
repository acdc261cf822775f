use Rattle.std.proofs.Common.{◌≡◌, ◌+◌, ◌-◌, ◌++◌, length, refl, ◌∙◌, arith, length-append, append_assoc}
use Rattle.std.proofs.lemmas.Grind.{common_steps}
use Rattle.cose_msg.specs.Task.{rules_of}
use Rattle.cose_msg.specs.Phases.{nothing_so_far, past_protected}
use Rattle.cose_msg.proofs.lemmas.Reader.Meanings.{moved, shows_as, so_far_payload}
use Rattle.cose_msg.proofs.lemmas.Reader.PhaseSteps.{string_whole}
use Rattle.cose_msg.proofs.reader.Reader.protected_piece.Goals as goal

pub returns-then-left-eq0 : goal.returns-then-left-eq0
returns-then-left-eq0 g c = record {
  reads_on = λ task B n reading h.
      let inside = rw c.requires.phase at h.holds in
      let none = so_far_payload h.so_far nothing_so_far B inside.0 h.payload_so_far in
      let grown : c.append.new.store.items ≡ c.args.self.now.protected.items ++ c.args.piece.now = c.append.ensures (omega (arith, inside.1, inside.2, c.requires.fits)) in
      let whole : length (c.args.self.now.protected.items ++ c.args.piece.now) ≡ c.args.protected.length = omega (arith, inside.1, c.requires.fits, c.if-left-eq0.true, length-append c.args.self.now.protected.items c.args.piece.now) in
      let count : c.args.protected.at + c.args.protected.length ≡ n + length c.args.piece.now = omega (arith, inside.3, whole, length-append c.args.self.now.protected.items c.args.piece.now) in
      moved c.past_protected.new.self _ _ none count
      (λ z. (rw c.requires.phase at (h.left (c.args.piece.now ++ z))) ∙ string_whole (λ w. nothing_so_far) c.args.protected.length (past_protected (rules_of g.row.H g.row.D task) c.args.protected.kind) c.args.protected.at c.args.self.now.protected.items c.args.piece.now whole z)
      (rw (grown, whole) at (c.past_protected.ensures.reads_on task (shows_as task c.args.self.now h.so_far nothing_so_far inside.0 h.shows)));
}

pub returns-else-left-eq0 : goal.returns-else-left-eq0
returns-else-left-eq0 g c = record {
  reads_on = λ task B n reading h.
      let inside = rw c.requires.phase at h.holds in
      let grown : c.append.new.store.items ≡ c.args.self.now.protected.items ++ c.args.piece.now = c.append.ensures (omega (arith, inside.1, inside.2, c.requires.fits)) in
      let left : length (c.args.self.now.protected.items ++ c.args.piece.now) + (c.args.protected.left - length c.args.piece.now) ≡ c.args.protected.length = omega (arith, inside.1, c.requires.fits, length-append c.args.self.now.protected.items c.args.piece.now) in
      let count : n + length c.args.piece.now ≡ c.args.protected.at + length (c.args.self.now.protected.items ++ c.args.piece.now) = omega (arith, inside.3, length-append c.args.self.now.protected.items c.args.piece.now) in
      record {
        known = h.known;
        so_far = nothing_so_far;
        shows = shows_as task c.args.self.now h.so_far nothing_so_far inside.0 h.shows;
        payload_known = h.payload_known;
        payload_so_far = so_far_payload h.so_far nothing_so_far B inside.0 h.payload_so_far;
        holds = rw grown (refl, left, inside.2, count);
        left = λ z. rw (grown, append_assoc) (rw c.requires.phase at (h.left (c.args.piece.now ++ z)));
      };
}

pub overflow_sub-left : goal.overflow_sub-left
overflow_sub-left g c = grind (arith, common_steps)

pub invariant_of-self : goal.invariant_of-self
invariant_of-self g c = grind (arith, common_steps)

pub invariant_of-self-else-left-eq0 : goal.invariant_of-self-else-left-eq0
invariant_of-self-else-left-eq0 g c = grind (arith, common_steps)

pub invariant_of-self-else-left-eq0-2 : goal.invariant_of-self-else-left-eq0-2
invariant_of-self-else-left-eq0-2 g c = grind (arith, common_steps)
