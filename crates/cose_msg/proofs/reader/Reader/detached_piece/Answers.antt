use Rattle.std.proofs.Common.{◌≡◌, ℕ, ◌+◌, ◌-◌, List, ◌++◌, length, refl, sym, ap, ◌∙◌, arith, length-append}
use Rattle.cose_msg.specs.Phases.{headers_so_far}
use Rattle.cose_msg.specs.Source.{detached}
use Rattle.cose_msg.specs.Task.{rules_of}
use Rattle.cose_msg.proofs.lemmas.Detached.AfterNil.{nil_whole, source_is}
use Rattle.cose_msg.proofs.lemmas.Reader.StructureHashes.{opened_more, opened_whole, with_payload}
use Rattle.cose_msg.proofs.lemmas.Reader.Meanings.{moved, shows_as}
use Rattle.cose_msg.proofs.reader.Reader.detached_piece.Goals as goal

pub returns-then-left-eq0-clause-reads_on : goal.returns-then-left-eq0-clause-reads_on
returns-then-left-eq0-clause-reads_on g c = λ task B more n reading comes h.
    let inside = rw c.requires.phase at h.holds in
    let p = c.args.detached in
    let piece = c.args.part.now in
    let now = with_payload h.known (h.known.payload ++ piece) in
    let grown : h.known.payload ++ piece ≡ B ++ piece = ap (λ (t : List ℕ). t ++ piece) h.payload_known in
    let whole : length (h.known.payload ++ piece) ≡ p.length = omega (arith, inside.1, c.requires.fits, c.if-left-eq0.true, length-append h.known.payload piece) in
    let opened = opened_more task.setting.aad h.known.headers h.known.payload p.length h.known.chosen c.args.self.now.hashing c.update.new.self piece c.update.ensures.appended inside.4 in
    let fed = opened_whole task.setting.aad h.known.headers (h.known.payload ++ piece) p.length h.known.chosen c.update.new.self opened whole in
    let source : task.setting.source ≡ detached ((h.known.payload ++ piece) ++ more) p.length = source_is task.setting.source _ ((h.known.payload ++ piece) ++ more) p.length inside.5.1 (comes ∙ ap (λ (t : List ℕ). t ++ more) (sym grown)) in
    let shows = shows_as task c.args.self.now h.so_far (headers_so_far h.known.headers h.known.payload) inside.0 h.shows in
    moved c.begin_auth_head.new.self _ _ grown (sym inside.2)
    (λ z. (rw c.requires.phase at (h.left z)) ∙ nil_whole task.setting.source (rules_of g.row.H g.row.D task) h.known.headers h.known.chosen (h.known.payload ++ piece) more p.length p.at p.after z source whole)
    (c.begin_auth_head.ensures.reads_on task now shows (inside.3.0, inside.3.1, inside.3.2, c.update.ensures.kept ∙ inside.3.3, inside.3.4) whole fed)

pub returns-else-left-eq0-clause-reads_on : goal.returns-else-left-eq0-clause-reads_on
returns-else-left-eq0-clause-reads_on g c = λ task B more n reading comes h.
    let inside = rw c.requires.phase at h.holds in
    let p = c.args.detached in
    let piece = c.args.part.now in
    let grown : h.known.payload ++ piece ≡ B ++ piece = ap (λ (t : List ℕ). t ++ piece) h.payload_known in
    let opened = opened_more task.setting.aad h.known.headers h.known.payload p.length h.known.chosen c.args.self.now.hashing c.update.new.self piece c.update.ensures.appended inside.4 in
    let left : length (h.known.payload ++ piece) + (p.left - length piece) ≡ p.length = omega (arith, inside.1, c.requires.fits, length-append h.known.payload piece) in
    let source : task.setting.source ≡ detached ((h.known.payload ++ piece) ++ more) p.length = source_is task.setting.source _ ((h.known.payload ++ piece) ++ more) p.length inside.5.1 (comes ∙ ap (λ (t : List ℕ). t ++ more) (sym grown)) in
    record {
      known = with_payload h.known (h.known.payload ++ piece);
      so_far = headers_so_far h.known.headers (h.known.payload ++ piece);
      shows = shows_as task c.args.self.now h.so_far (headers_so_far h.known.headers h.known.payload) inside.0 h.shows;
      payload_known = grown;
      payload_so_far = grown;
      holds = (refl, left, inside.2, (inside.3.0, inside.3.1, inside.3.2, c.update.ensures.kept ∙ inside.3.3, inside.3.4), opened, (more, source));
      left = λ z. rw c.requires.phase at (h.left z);
    }
