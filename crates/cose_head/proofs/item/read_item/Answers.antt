use Rattle.cose_head.proofs.lemmas.Reading.ItemSteps.{whole_span}
use Rattle.cose_head.proofs.lemmas.Reading.Spans.{spans_item, spans_spelled, spans_placed}
use Rattle.cose_head.specs.Measured.{left_of}
use Rattle.cose_head.specs.Reading.{read}
use Rattle.cose_head.proofs.item.read_item.Goals as goal

pub returns-clause-exact : goal.returns-clause-exact
returns-clause-exact c =
    whole_span c.args.bytes.now c.args.room c.item_at.result (read c.args.depth (left_of c.args.bytes.now c.args.room 0)) c.item_at.ensures.exact

pub returns-clause-spelled : goal.returns-clause-spelled
returns-clause-spelled c = spans_item c.args.depth c.args.bytes.now c.args.room c.item_at.result c.item_at.ensures.exact

pub returns-clause-complete : goal.returns-clause-complete
returns-clause-complete c = spans_spelled c.args.depth c.args.bytes.now c.args.room c.item_at.result c.item_at.ensures.exact

pub returns-clause-placed : goal.returns-clause-placed
returns-clause-placed c = spans_placed c.args.depth c.args.bytes.now c.args.room c.item_at.result c.item_at.ensures.exact
