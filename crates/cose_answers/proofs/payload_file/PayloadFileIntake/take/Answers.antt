use Rattle.std.proofs.Common.{rules, ◌<◌, ◌≤◌, length}
use Rattle.cose_answers.proofs.lemmas.Payloads.PayloadFiles.{read_into}
use Rattle.cose_answers.proofs.payload_file.PayloadFileIntake.take.Goals as goal

pub returns-in-Ok-clause-bytes : goal.returns-in-Ok-clause-bytes
returns-in-Ok-clause-bytes g c =
    let fits : c.in-Ok.count ≤ c.args.self.now.left = search rules in
    let within : c.in-Ok.count ≤ length c.read.new.buf = search rules in
    let some : 0 < c.in-Ok.count = search rules in
    read_into c.args.self.now.left c.in-Ok.count _ _ c.read.new.buf _ fits within some c.in-Ok.ensures.bytes.0
