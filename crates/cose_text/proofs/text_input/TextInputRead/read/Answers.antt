use Rattle.std.proofs.Common.{rules, ◌≡◌, ◌<◌, false, length, true}
use Rattle.cose_text.specs.TextForm.{may_end}
use Rattle.cose_text.proofs.TextInputs.{ends_short_there, ends_there, plain_read}
use Rattle.cose_text.proofs.text_input.TextInputRead.read.Goals as goal

pub returns-then-is_plain-clause-bytes : goal.returns-then-is_plain-clause-bytes
returns-then-is_plain-clause-bytes g c = plain_read c.args.self.now.next _ _ c.read.result c.read.new.buf (c.is_plain.ensures c.if-is_plain.true) c.read.ensures.bytes

pub returns-then-may_end-clause-bytes : goal.returns-then-may_end-clause-bytes
returns-then-may_end-clause-bytes g c =
    let room : 0 < length c.read-in-reads.new.buf = search rules in
    let may : may_end c.reads.self.next ≡ true = search rules in
    let end = ends_there c.reads.self.next _ _ _ c.in_ok-count.count c.read-in-reads.new.buf c.if-count-eq0.true room c.in_ok-count.ensures.bytes may c.reads.invariant.1 in
    (end.0, λ _ _. end.1)

pub returns-then-count-eq0-clause-bytes : goal.returns-then-count-eq0-clause-bytes
returns-then-count-eq0-clause-bytes g c =
    let room : 0 < length c.read-in-reads.new.buf = search rules in
    let may : may_end c.reads.self.next ≡ false = search rules in
    ends_short_there c.reads.self.next _ _ _ c.in_ok-count.count c.read-in-reads.new.buf c.if-count-eq0.true room c.in_ok-count.ensures.bytes may c.reads.invariant.1
