use Rattle.std.proofs.Common.{◌≡◌, ℕ, ◌+◌, ◌-◌, List, ◌++◌, length, refl, ap, ◌∙◌, arith, length-append, append_assoc}
use Rattle.std.proofs.lemmas.Grind.{common_steps}
use Rattle.cose_msg.specs.Phases.{headers_so_far, past_payload}
use Rattle.cose_msg.specs.Task.{rules_of}
use Rattle.cose_msg.proofs.lemmas.Reader.StructureHashes.{opened_more, opened_whole, with_payload}
use Rattle.cose_msg.proofs.lemmas.Reader.Meanings.{moved, shows_as}
use Rattle.cose_msg.proofs.lemmas.Reader.PhaseSteps.{string_whole}
use Rattle.cose_msg.proofs.reader.Reader.payload.Goals as goal

pub returns-then-left-eq0 : goal.returns-then-left-eq0
returns-then-left-eq0 g c = record {
  reads_on = λ task B n reading h.
      let inside = rw c.requires.phase at h.holds in
      let now = with_payload h.known (h.known.payload ++ c.args.piece.now) in
      let whole : length (h.known.payload ++ c.args.piece.now) ≡ c.args.payload.length = omega (arith, inside.1, c.requires.fits, c.if-left-eq0.true, length-append h.known.payload c.args.piece.now) in
      let opened = opened_more task.setting.aad h.known.headers h.known.payload c.args.payload.length h.known.chosen c.args.self.now.hashing c.update.new.self c.args.piece.now c.update.ensures.appended inside.4 in
      let fed = opened_whole task.setting.aad h.known.headers (h.known.payload ++ c.args.piece.now) c.args.payload.length h.known.chosen c.update.new.self opened whole in
      let count : c.args.payload.at + c.args.payload.length ≡ n + length c.args.piece.now = omega (arith, inside.2, whole, length-append h.known.payload c.args.piece.now) in
      let shows = shows_as task c.args.self.now h.so_far (headers_so_far h.known.headers h.known.payload) inside.0 h.shows in
      moved c.begin_auth_head.new.self _ _ (ap (λ (payload : List ℕ). payload ++ c.args.piece.now) h.payload_known) count
      (λ z. (rw c.requires.phase at (h.left (c.args.piece.now ++ z))) ∙ string_whole (headers_so_far h.known.headers) c.args.payload.length (past_payload (rules_of g.row.H g.row.D task) h.known.headers h.known.chosen) c.args.payload.at h.known.payload c.args.piece.now whole z)
      (c.begin_auth_head.ensures.reads_on task now shows (inside.3.0, inside.3.1, inside.3.2, c.update.ensures.kept ∙ inside.3.3, inside.3.4) whole fed);
}

pub returns-else-left-eq0 : goal.returns-else-left-eq0
returns-else-left-eq0 g c = record {
  reads_on = λ task B n reading h.
      let inside = rw c.requires.phase at h.holds in
      let opened = opened_more task.setting.aad h.known.headers h.known.payload c.args.payload.length h.known.chosen c.args.self.now.hashing c.update.new.self c.args.piece.now c.update.ensures.appended inside.4 in
      let left : length (h.known.payload ++ c.args.piece.now) + (c.args.payload.left - length c.args.piece.now) ≡ c.args.payload.length = omega (arith, inside.1, c.requires.fits, length-append h.known.payload c.args.piece.now) in
      let count : n + length c.args.piece.now ≡ c.args.payload.at + length (h.known.payload ++ c.args.piece.now) = omega (arith, inside.2, length-append h.known.payload c.args.piece.now) in
      record {
        known = with_payload h.known (h.known.payload ++ c.args.piece.now);
        so_far = headers_so_far h.known.headers (h.known.payload ++ c.args.piece.now);
        shows = shows_as task c.args.self.now h.so_far (headers_so_far h.known.headers h.known.payload) inside.0 h.shows;
        payload_known = ap (λ (payload : List ℕ). payload ++ c.args.piece.now) h.payload_known;
        payload_so_far = ap (λ (payload : List ℕ). payload ++ c.args.piece.now) h.payload_known;
        holds = (refl, left, count, (inside.3.0, inside.3.1, inside.3.2, c.update.ensures.kept ∙ inside.3.3, inside.3.4), opened, inside.5);
        left = λ z. rw append_assoc (rw c.requires.phase at (h.left (c.args.piece.now ++ z)));
      };
}

pub update-requires : goal.update-requires
update-requires g c = cc

pub overflow_sub-left : goal.overflow_sub-left
overflow_sub-left g c = grind (arith, common_steps)

pub invariant_of-self : goal.invariant_of-self
invariant_of-self g c = grind (arith, common_steps)

pub overflow_add-payload : goal.overflow_add-payload
overflow_add-payload g c = grind (arith, common_steps)

pub invariant_of-self-else-left-eq0 : goal.invariant_of-self-else-left-eq0
invariant_of-self-else-left-eq0 g c = grind (arith, common_steps)

pub invariant_of-self-else-left-eq0-2 : goal.invariant_of-self-else-left-eq0-2
invariant_of-self-else-left-eq0-2 g c = grind (arith, common_steps)
