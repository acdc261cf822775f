use Rattle.std.proofs.Common.{◌≡◌, length, refl, sym, ap, ◌∙◌, zero-add}
use Rattle.cose_msg.specs.Phases.{headers_so_far}
use Rattle.cose_msg.specs.Task.{rules_of}
use Rattle.cose_msg.proofs.lemmas.Detached.AfterNil.{nil_empty}
use Rattle.cose_msg.proofs.lemmas.Reader.StructureHashes.{opened_whole}
use Rattle.cose_msg.proofs.lemmas.Reader.Meanings.{moved}
use Rattle.cose_msg.proofs.reader.Reader.await_payload.Goals as goal

pub returns-then-detached_length-eq0 : goal.returns-then-detached_length-eq0
returns-then-detached_length-eq0 g c = record {
  reads_on = λ task known came at_payload source.
      let empty : length known.payload ≡ c.args.detached_length = ap length at_payload.none ∙ sym c.if-detached_length-eq0.true in
      let whole = opened_whole task.setting.aad known.headers known.payload c.args.detached_length known.chosen c.args.self.now.hashing at_payload.opened empty in
      moved c.begin_auth_head.new.self _ _ at_payload.none refl
      (λ z. rw (c.if-detached_length-eq0.true, at_payload.none) (nil_empty (rules_of g.row.H g.row.D task) known.headers known.chosen came c.args.nil c.args.at z))
      (c.begin_auth_head.ensures.reads_on task known at_payload.shows at_payload.key (ap length at_payload.none) whole);
}

pub returns : goal.returns
returns g c = record {
  reads_on = λ task known came at_payload source. record {
    known = known;
    so_far = headers_so_far known.headers known.payload;
    shows = at_payload.shows;
    payload_known = at_payload.none;
    payload_so_far = at_payload.none;
    holds = (refl, rw at_payload.none (zero-add c.args.detached_length), refl, at_payload.key, at_payload.opened, (came, rw at_payload.none source));
    left = λ z. rw source refl;
  };
}
