use Rattle.std.proofs.Common.{length}
use Rattle.cose_c.proofs.Copies.{all_given}
use Rattle.cose_c.proofs.input.copy_all.Goals as goal

pub returns : goal.returns
returns c = all_given c.args.from.now c.copy.new.into (length c.args.into.now) c.copy.result c.requires c.copy.ensures.gives
