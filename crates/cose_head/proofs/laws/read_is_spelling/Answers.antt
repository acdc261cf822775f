use Rattle.cose_head.proofs.lemmas.Reading.ReadLaws.{sound, spelled_is_read, one_item, read_elsewhere}
use Rattle.cose_head.proofs.laws.read_is_spelling.Goals as goal

pub returns-clause-spelled : goal.returns-clause-spelled
returns-clause-spelled c = λ depth l content rest. (sound depth l content rest, spelled_is_read depth l content rest)

pub returns-clause-one : goal.returns-clause-one
returns-clause-one c = one_item

pub returns-clause-elsewhere : goal.returns-clause-elsewhere
returns-clause-elsewhere c = read_elsewhere
