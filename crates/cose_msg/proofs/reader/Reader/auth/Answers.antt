use Rattle.std.proofs.Common.{◌≡◌, ◌+◌, ◌-◌, ◌++◌, length, ap, ◌∙◌, arith, length-append, append_assoc}
use Rattle.std.proofs.lemmas.Grind.{common_steps}
use Rattle.cose_msg.specs.Phases.{finish, headers_so_far}
use Rattle.cose_msg.specs.Task.{rules_of}
use Rattle.cose_msg.proofs.lemmas.Choosing.ChosenKeys.{auth_room, has_key, more_held}
use Rattle.cose_msg.proofs.lemmas.Reader.StructureHashes.{with_auth}
use Rattle.cose_msg.proofs.lemmas.Reader.Meanings.{moved, shows_as}
use Rattle.cose_msg.proofs.lemmas.Reader.PhaseSteps.{string_whole}
use Rattle.cose_msg.proofs.reader.Reader.auth.Goals as goal

pub returns-then-left-eq0 : goal.returns-then-left-eq0
returns-then-left-eq0 g c = record {
  reads_on = λ task B n reading h.
      let inside = rw c.requires.phase at h.holds in
      let held = more_held h.known.chosen c.args.self.now.auth.items h.known.auth c.args.piece.now c.hold.new.store.items
      (λ some same. c.hold.ensures.held (c.is_some-has_key.ensures ∙ has_key c.args.self.now.chosen h.known.chosen inside.3.1 some) (let fits = auth_room h.known.chosen c.args.auth.length some inside.6 in omega (arith, ap length same, inside.1, c.requires.fits, fits))) inside.7 in
      let whole : length (h.known.auth ++ c.args.piece.now) ≡ c.args.auth.length = omega (arith, inside.1, c.requires.fits, c.if-left-eq0.true, length-append h.known.auth c.args.piece.now) in
      let count : c.args.auth.at + c.args.auth.length ≡ n + length c.args.piece.now = omega (arith, inside.2, whole, length-append h.known.auth c.args.piece.now) in
      let shows = shows_as task c.args.self.now h.so_far (headers_so_far h.known.headers h.known.payload) inside.0 h.shows in
      moved c.finish.new.self _ _ h.payload_known count
      (λ z. (rw c.requires.phase at (h.left (c.args.piece.now ++ z))) ∙ string_whole (λ w. headers_so_far h.known.headers h.known.payload) c.args.auth.length (finish (rules_of g.row.H g.row.D task) h.known.headers h.known.chosen h.known.payload c.args.auth.head_at) c.args.auth.at h.known.auth c.args.piece.now whole z)
      (c.finish.ensures.reads_on task (with_auth h.known (h.known.auth ++ c.args.piece.now)) c.args.auth.at shows inside.3 inside.4 whole inside.5 held);
}

pub returns-else-left-eq0 : goal.returns-else-left-eq0
returns-else-left-eq0 g c = record {
  reads_on = λ task B n reading h.
      let inside = rw c.requires.phase at h.holds in
      let held = more_held h.known.chosen c.args.self.now.auth.items h.known.auth c.args.piece.now c.hold.new.store.items
      (λ some same. c.hold.ensures.held (c.is_some-has_key.ensures ∙ has_key c.args.self.now.chosen h.known.chosen inside.3.1 some) (let fits = auth_room h.known.chosen c.args.auth.length some inside.6 in omega (arith, ap length same, inside.1, c.requires.fits, fits))) inside.7 in
      let left : length (h.known.auth ++ c.args.piece.now) + (c.args.auth.left - length c.args.piece.now) ≡ c.args.auth.length = omega (arith, inside.1, c.requires.fits, length-append h.known.auth c.args.piece.now) in
      let count : n + length c.args.piece.now ≡ c.args.auth.at + length (h.known.auth ++ c.args.piece.now) = omega (arith, inside.2, length-append h.known.auth c.args.piece.now) in
      record {
        known = with_auth h.known (h.known.auth ++ c.args.piece.now);
        so_far = h.so_far;
        shows = h.shows;
        payload_known = h.payload_known;
        payload_so_far = h.payload_so_far;
        holds = (inside.0, left, count, inside.3, inside.4, inside.5, inside.6, held);
        left = λ z. rw append_assoc (rw c.requires.phase at (h.left (c.args.piece.now ++ z)));
      };
}

pub hold-requires : goal.hold-requires
hold-requires g c = cc

pub overflow_sub-left : goal.overflow_sub-left
overflow_sub-left g c = grind (arith, common_steps)

pub invariant_of-self : goal.invariant_of-self
invariant_of-self g c = grind (arith, common_steps)

pub overflow_add-auth : goal.overflow_add-auth
overflow_add-auth g c = grind (arith, common_steps)

pub invariant_of-self-else-left-eq0 : goal.invariant_of-self-else-left-eq0
invariant_of-self-else-left-eq0 g c = grind (arith, common_steps)

pub invariant_of-self-else-left-eq0-2 : goal.invariant_of-self-else-left-eq0-2
invariant_of-self-else-left-eq0-2 g c = grind (arith, common_steps)
