use Rattle.std.proofs.Common.{◌≡◌, ℕ, List, [], cond, sym, ap, subst, ◌∙◌}
use Rattle.cose_msg.specs.Message.{protected_content}
use Rattle.cose_msg.specs.Reader.{IsOpened}
use Rattle.cose_msg.specs.Task.{Task}
use Rattle.cose_msg.proofs.lemmas.Reader.StructureHashes.{opened_first}
use Rattle.cose_msg.proofs.reader.Reader.hash_front.Goals as goal

pub returns : goal.returns
returns g c = record {
  opened = λ task known e none key same bare fed.
      let content : protected_content known.headers ≡ c.empty_if-protected.result.now = rw (← bare, same) (sym (c.empty_if-protected.ensures ∙ ap (λ (bytes : List ℕ). cond c.args.head.is_bare [] bytes) c.as_slice.ensures.value)) in
      let first = opened_first c.args.self.now.terms.aad.now known.headers known.payload c.args.payload_length known.chosen c.args.self.now.hashing c.front.new.self c.empty_if-protected.result.now c.args.head.kind c.front.ensures.appended c.front.ensures.front none key.0 content fed in
      let opened : IsOpened c.front.new.self task.setting.aad known c.args.payload_length = subst (λ (t : Task). IsOpened c.front.new.self t.setting.aad known c.args.payload_length) e.0 first in
      record { shows = e; none = none; key = (key.0, key.1, key.2, c.front.ensures.kept ∙ key.3, key.4); opened = opened };
}
