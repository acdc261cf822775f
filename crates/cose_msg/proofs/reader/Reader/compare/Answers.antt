use Rattle.std.proofs.Common.{◌≡◌, Option, true, false, refl, sym, ap, ◌∙◌, arith}
use Rattle.std.proofs.lemmas.Grind.{common_steps}
use Rattle.std.specs.Prelude.{◌&&◌, not}
use Rattle.std.specs.Str.{bytes_eq}
use Rattle.cose_head.specs.Algorithm.{is_mac_of}
use Rattle.cose_msg.specs.Answer.{Chosen}
use Rattle.cose_msg.specs.Message.{compared, structure}
use Rattle.cose_msg.specs.Phases.{headers_so_far}
use Rattle.cose_msg.specs.Reading.{settled}
use Rattle.cose_msg.specs.Hashing.{is_elsewhere}
use Rattle.cose_msg.specs.Reader.{whole_of}
use Rattle.cose_msg.specs.Task.{asks, is_keyless}
use Rattle.cose_msg.proofs.lemmas.Choosing.ChosenKeys.{is_verified}
use Rattle.cose_msg.proofs.lemmas.Choosing.Purposed.{both_true, finishes_complete, is_not, untagged, verifies_here}
use Rattle.cose_msg.proofs.lemmas.Reader.StructureHashes.{finished, tag_compared}
use Rattle.cose_msg.proofs.lemmas.Reader.Meanings.{moved}
use Rattle.cose_msg.proofs.reader.Reader.compare.Goals as goal

pub returns-then-same_bytes : goal.returns-then-same_bytes
returns-then-same_bytes g c = record {
  reads_on = λ task known found at e key chosen alg count fed auth.
      let both = both_true (not (is_elsewhere c.args.self.now.hashing)) (is_mac_of c.args.alg) (sym c.compares-is_compared.ensures ∙ c.if-is_compared.true) in
      let is_here : is_elsewhere c.args.self.now.hashing ≡ false = is_not (is_elsewhere c.args.self.now.hashing) both.0 in
      let here : asks task ≡ false = sym key.3 ∙ is_here in
      let mac : is_mac_of found.alg ≡ true = ap is_mac_of alg ∙ both.1 in
      let verifies = verifies_here task.inspects task.setting.elsewhere (is_verified found known.chosen (is_keyless task) chosen key.2) here in
      let computed = c.result-computed.ensures.value ∙ finished c.args.self.now.hashing (structure task.setting.aad known.headers known.payload) _ found (λ other message. c.finish.ensures.finished other message is_here) known.chosen chosen fed in
      let same : bytes_eq known.auth c.result-computed.result.now ≡ true = rw (← auth) (rw c.as_slice-received.ensures.value at (sym c.same_bytes.ensures ∙ c.if-same_bytes.true)) in
      record {
        known = known;
        so_far = headers_so_far known.headers known.payload;
        shows = e;
        payload_known = refl;
        payload_so_far = refl;
        holds = (refl, λ is. verifies);
        left = λ z. rw verifies (ap (λ (x : Option Chosen). settled (headers_so_far known.headers known.payload) (compared task.setting.aad x (whole_of known c.args.whole.head_at c.args.whole.taken))) chosen ∙ ap (settled (headers_so_far known.headers known.payload)) (tag_compared task.setting.aad known found c.result-computed.result.now c.args.whole.head_at c.args.whole.taken true mac computed same ∙ rw (key.0, alg, count) refl));
      };
}

pub returns-else-same_bytes : goal.returns-else-same_bytes
returns-else-same_bytes g c = record {
  reads_on = λ task known found at e key chosen alg count fed auth.
      let both = both_true (not (is_elsewhere c.args.self.now.hashing)) (is_mac_of c.args.alg) (sym c.compares-is_compared.ensures ∙ c.if-is_compared.true) in
      let is_here : is_elsewhere c.args.self.now.hashing ≡ false = is_not (is_elsewhere c.args.self.now.hashing) both.0 in
      let here : asks task ≡ false = sym key.3 ∙ is_here in
      let mac : is_mac_of found.alg ≡ true = ap is_mac_of alg ∙ both.1 in
      let verifies = verifies_here task.inspects task.setting.elsewhere (is_verified found known.chosen (is_keyless task) chosen key.2) here in
      let computed = c.result-computed.ensures.value ∙ finished c.args.self.now.hashing (structure task.setting.aad known.headers known.payload) _ found (λ other message. c.finish.ensures.finished other message is_here) known.chosen chosen fed in
      let same : bytes_eq known.auth c.result-computed.result.now ≡ false = rw (← auth) (rw c.as_slice-received.ensures.value at (sym c.same_bytes.ensures ∙ c.if-same_bytes.false)) in
      moved c.refuse.new.self _ _ refl refl
      (λ z. rw verifies (ap (λ (x : Option Chosen). settled (headers_so_far known.headers known.payload) (compared task.setting.aad x (whole_of known c.args.whole.head_at c.args.whole.taken))) chosen ∙ ap (settled (headers_so_far known.headers known.payload)) (tag_compared task.setting.aad known found c.result-computed.result.now c.args.whole.head_at c.args.whole.taken false mac computed same)))
      (c.refuse.ensures task known.payload c.args.whole.taken (headers_so_far known.headers known.payload) e refl);
}

pub returns-else-is_compared : goal.returns-else-is_compared
returns-else-is_compared g c = record {
  reads_on = λ task known found at e key chosen alg count fed auth.
      let uncompared : (not (is_elsewhere c.args.self.now.hashing) && is_mac_of c.args.alg) ≡ false = sym c.compares-is_compared.ensures ∙ c.if-is_compared.false in
      let is_here : asks task ≡ false → is_elsewhere c.args.self.now.hashing ≡ false = λ here. key.3 ∙ here in
      let none : asks task ≡ false → is_mac_of c.args.alg ≡ false = λ here. untagged (is_elsewhere c.args.self.now.hashing) (is_mac_of c.args.alg) uncompared (is_here here) in
      let keyless = is_verified found known.chosen (is_keyless task) chosen key.2 in
      record {
        known = known;
        so_far = headers_so_far known.headers known.payload;
        shows = e;
        payload_known = refl;
        payload_so_far = refl;
        holds = (
          refl,
          refl,
          record {
            found = found;
            key_is = key.1 ∙ chosen;
            chosen_is = chosen;
            verifies = verifies_here task.inspects task.setting.elsewhere keyless;
            elsewhere_is = c.finish.ensures.kept ∙ key.3;
            kind_is = key.0;
            alg_is = alg;
            no_tag = none;
            payload_is = count;
            auth_is = auth;
            digest_is = λ here. finished c.args.self.now.hashing (structure task.setting.aad known.headers known.payload) _ found (λ other message. c.finish.ensures.finished other message (is_here here)) known.chosen chosen fed;
          },
          key.4,
        );
        left = λ z. ap (settled (headers_so_far known.headers known.payload)) (finishes_complete task found (whole_of known c.args.whole.head_at c.args.whole.taken) chosen keyless (λ here. ap is_mac_of alg ∙ none here));
      };
}

pub invariant_of-self : goal.invariant_of-self
invariant_of-self g c = grind (arith, common_steps)

pub invariant_of-self-else-is_compared : goal.invariant_of-self-else-is_compared
invariant_of-self-else-is_compared g c = grind (arith, common_steps)

pub invariant_of-self-else-same_bytes : goal.invariant_of-self-else-same_bytes
invariant_of-self-else-same_bytes g c = grind (arith, common_steps)
