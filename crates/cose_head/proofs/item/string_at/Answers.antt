use Rattle.cose_head.proofs.lemmas.Reading.Measured.{string_whole}
use Rattle.cose_head.specs.Measured.{left_of}
use Rattle.cose_head.proofs.item.string_at.Goals as goal

pub returns-clause-exact : goal.returns-clause-exact
returns-clause-exact c =
    string_whole c.args.start c.args.announced
    (left_of c.args.bytes.now c.args.room c.args.place) c.if-announced-room.false c.if-announced-bytes.false
