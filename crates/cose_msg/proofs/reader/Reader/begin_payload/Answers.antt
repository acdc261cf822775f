use Rattle.std.proofs.Common.{◌≡◌, length, refl, sym, ap, ◌∙◌, zero-add, add-zero}
use Rattle.cose_msg.specs.Phases.{headers_so_far, past_payload}
use Rattle.cose_msg.specs.Task.{rules_of}
use Rattle.cose_msg.proofs.lemmas.Reader.StructureHashes.{opened_whole}
use Rattle.cose_msg.proofs.lemmas.Reader.Meanings.{moved}
use Rattle.cose_msg.proofs.lemmas.Reader.PhaseSteps.{string_none}
use Rattle.cose_msg.proofs.reader.Reader.begin_payload.Goals as goal

pub returns-then-length-eq0 : goal.returns-then-length-eq0
returns-then-length-eq0 g c = record {
  reads_on = λ task known at_payload inside.
      let empty : length known.payload ≡ c.args.length = ap length at_payload.none ∙ sym c.if-length-eq0.true in
      let whole = opened_whole task.setting.aad known.headers known.payload c.args.length known.chosen c.args.self.now.hashing at_payload.opened empty in
      moved c.begin_auth_head.new.self _ _ at_payload.none refl
      (λ z. rw (c.if-length-eq0.true, at_payload.none) (string_none (headers_so_far known.headers) (past_payload (rules_of g.row.H g.row.D task) known.headers known.chosen) c.args.at z))
      (c.begin_auth_head.ensures.reads_on task known at_payload.shows at_payload.key (ap length at_payload.none) whole);
}

pub returns : goal.returns
returns g c = record {
  reads_on = λ task known at_payload inside. record {
    known = known;
    so_far = headers_so_far known.headers known.payload;
    shows = at_payload.shows;
    payload_known = at_payload.none;
    payload_so_far = at_payload.none;
    holds = (refl, rw at_payload.none (zero-add c.args.length), rw at_payload.none (sym (add-zero c.args.at)), at_payload.key, at_payload.opened, inside);
    left = λ z. rw at_payload.none refl;
  };
}
