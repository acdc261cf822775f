use Rattle.std.proofs.Common.{◌≤◌, ◌∙◌, length, sym}
use Rattle.cose_text.proofs.TextInputs.{as_long, byte_in_place, put_within}
use Rattle.cose_text.proofs.text_input.TextInput.decode.Goals as goal

pub bytes-preserved : goal.bytes-preserved
bytes-preserved g c =
    let within : c.args.count ≤ length c.bytes.buffer = rw c.bytes.auto.buffer c.requires.within in
    rw (c.put-decoded.ensures.buffer, c.put-decoded.ensures.count, c.step-whole.ensures.next) (
      put_within c.bytes.at c.bytes.decoded c.step-whole.result c.bytes.invariant.0,
      as_long c.bytes.buffer c.bytes.decoded c.step-whole.result ∙ c.bytes.invariant.1,
      c.step-whole.ensures.reader ∙ c.bytes.invariant.2,
      byte_in_place _ c.bytes.self.next c.args.count c.bytes.at c.bytes.decoded c.bytes.buffer c.step-whole.result c.bytes-test.true within c.bytes.invariant.0 (sym c.step-whole.ensures.given) c.bytes.invariant.3,
    )
