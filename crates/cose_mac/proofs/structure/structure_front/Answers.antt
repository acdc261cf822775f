use Rattle.cose_mac.specs.Structure as spec
use Rattle.cose_mac.proofs.RunningLemmas.{append_both}
use Rattle.cose_mac.proofs.structure.structure_front.Goals as goal

pub returns-clause-appended : goal.returns-clause-appended
unfolding spec.structure_front
returns-clause-appended c =
    let payload_head = c.update_head-2.ensures in
    let from_aad = append_both c.update_string-3.ensures payload_head in
    let from_protected = append_both c.update_string-2.ensures from_aad in
    let from_context = append_both c.update_string.ensures from_protected in
    rw c.context.ensures at (append_both c.update_head.ensures from_context)
