use Rattle.cose_files.proofs.MadeFiles.{as_it_is, of_same_name, where_err}
use Rattle.cose_files.proofs.host_file.HostFilesNewFiles.keep.Goals as goal

pub returns-in_err-flush-clause-unkept : goal.returns-in_err-flush-clause-unkept
returns-in_err-flush-clause-unkept g c = where_err c.from_residual.result _ (as_it_is c.args.self.now.is_taken c.args.self.now.file)

pub returns-in-Some-clause-unkept : goal.returns-in-Some-clause-unkept
returns-in-Some-clause-unkept g c = where_err c.keep.result _ (of_same_name c.args.self.now.is_taken c.args.self.now.file c.in-Some.named c.keep.new.self c.in-Some.is c.keep.ensures.name)
