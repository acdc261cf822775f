use Rattle.std.proofs.Common.{◌≡◌, ◌∙◌, sym, length, min, arith}
use Rattle.cose_map.proofs.lemmas.Label.Bytes.{ended_at}
use Rattle.cose_map.proofs.label.comes_before.Goals as goal

pub returns : goal.returns
returns c =
    let within = c.bytes.invariant.within in
    let end = c.bytes.invariant.end in
    let last : c.bytes.i ≡ min (length c.args.text.now) (length c.args.other.now) = omega (arith, within, end, c.bytes-test.false) in
    sym (ended_at c.args.text.now c.args.other.now c.bytes.i last) ∙ c.bytes.invariant.left
