use Rattle.std.proofs.Common.{refl, sym, ◌∙◌, arith}
use Rattle.std.proofs.lemmas.Grind.{common_steps}
use Rattle.std.specs.Prelude.{not}
use Rattle.cose_msg.specs.Phases.{headers_so_far}
use Rattle.cose_msg.specs.Task.{is_keyless}
use Rattle.cose_msg.proofs.lemmas.Choosing.Purposed.{both_true, is_not}
use Rattle.cose_msg.proofs.lemmas.Choosing.ChosenKeys.{holds_auth, is_inspected, key_of_alg, no_key_without_alg}
use Rattle.cose_msg.proofs.reader.Reader.finish.Goals as goal

pub returns-in-Some : goal.returns-in-Some
returns-in-Some g c = record {
  reads_on = λ task known at e key count length fed held.
      let is = key_of_alg c.args.self.now.chosen known.chosen c.in-Some.alg (sym c.in-Some.is ∙ c.alg.ensures) key.1 in
      c.compare.ensures.reads_on task known is.found at e key is.chosen_is is.alg_is count fed (holds_auth known.chosen is.found c.args.self.now.auth.items known.auth is.chosen_is held);
}

pub returns-in-None : goal.returns-in-None
returns-in-None g c = record {
  reads_on = λ task known at e key count length fed held.
      let none = no_key_without_alg c.args.self.now.chosen known.chosen (sym c.in-None.is ∙ c.alg.ensures) key.1 in
      let keyless = both_true task.inspects (not task.setting.elsewhere) (is_inspected known.chosen (is_keyless task) none key.2) in
      let inspects = keyless.0 in
      let here = is_not task.setting.elsewhere keyless.1 in
      record {
        known = known;
        so_far = headers_so_far known.headers known.payload;
        shows = e;
        payload_known = refl;
        payload_so_far = refl;
        holds = (refl, inspects, here);
        left = λ z. rw (inspects, here, key.0, count, length) refl;
      };
}

pub invariant_of-self : goal.invariant_of-self
invariant_of-self g c = grind (arith, common_steps)
