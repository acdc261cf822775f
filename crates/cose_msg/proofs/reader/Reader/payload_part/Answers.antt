use Rattle.std.proofs.Common.{◌≡◌, ℕ, ◌+◌, ◌-◌, ◌<◌, List, ◌++◌, length, refl, ap, subst, ◌∙◌, arith, length-append, append_assoc}
use Rattle.cose_msg.specs.declared.phase.Phase.{Phase}
use Rattle.cose_msg.specs.Phase.{want_of}
use Rattle.cose_msg.specs.Phases.{headers_so_far}
use Rattle.cose_msg.proofs.lemmas.Deciding.PhaseCases.{not_in_payload}
use Rattle.cose_msg.proofs.lemmas.Reader.StructureHashes.{opened_more, with_payload}
use Rattle.cose_msg.proofs.lemmas.Reader.Meanings.{shows_as}
use Rattle.cose_msg.proofs.reader.Reader.payload_part.Goals.{in-Payload, in_default}
use Rattle.cose_msg.proofs.reader.Reader.payload_part.Goals as goal

pub returns-clause-reads_on : goal.returns-clause-reads_on
returns-clause-reads_on g c = λ task B n reading h.
    elim c.match-self.branch [
      | in-Payload w ↦ rw w.self-is (
          let before = w.in-Payload.payload in
          let piece = c.args.bytes.now in
          let inside = rw w.in-Payload.is at h.holds in
          let fewer : length piece < before.left = subst (λ (p : Phase). length piece < want_of p) w.in-Payload.is c.requires.fewer in
          let opened = opened_more task.setting.aad h.known.headers h.known.payload before.length h.known.chosen c.args.self.now.hashing c.update.new.self piece c.update.ensures.appended inside.4 in
          let left : length (h.known.payload ++ piece) + (before.left - length piece) ≡ before.length = omega (arith, inside.1, fewer, length-append h.known.payload piece) in
          let count : n + length piece ≡ before.at + length (h.known.payload ++ piece) = omega (arith, inside.2, length-append h.known.payload piece) in
          record {
            known = with_payload h.known (h.known.payload ++ piece);
            so_far = headers_so_far h.known.headers (h.known.payload ++ piece);
            shows = shows_as task c.args.self.now h.so_far (headers_so_far h.known.headers h.known.payload) inside.0 h.shows;
            payload_known = ap (λ (payload : List ℕ). payload ++ piece) h.payload_known;
            payload_so_far = ap (λ (payload : List ℕ). payload ++ piece) h.payload_known;
            holds = (refl, left, count, (inside.3.0, inside.3.1, inside.3.2, c.update.ensures.kept ∙ inside.3.3, inside.3.4), opened, inside.5);
            left = λ z. rw append_assoc (rw w.in-Payload.is at (h.left (piece ++ z)));
          })
      | in_default w ↦ absurd (not_in_payload c.args.self.now.phase w.in_default.not-Payload c.requires.inside)
    ]
