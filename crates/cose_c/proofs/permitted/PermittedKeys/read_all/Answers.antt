use Rattle.std.proofs.Common.{◌∙◌}
use Rattle.cose_map.specs.KeySet.{keys_of}
use Rattle.cose_c.specs.PermittedView.{permission_value}
use Rattle.cose_c.proofs.Permitting.{all_permitted}
use Rattle.cose_c.proofs.permitted.PermittedKeys.read_all.Goals as goal

pub returns : goal.returns
returns c = c.read.ensures ∙ all_permitted (permission_value c.everything.result) c.everything.ensures (keys_of c.args.bytes.now)
