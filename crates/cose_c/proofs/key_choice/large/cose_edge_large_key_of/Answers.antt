use Rattle.cose_c.specs.KeyChoice.{asked_given, kind_numbered}
use Rattle.cose_c.specs.Stated.{permission_stated, setting_stated}
use Rattle.cose_c.proofs.KeysChosen.{chosen_of}
use Rattle.cose_c.proofs.key_choice.large.cose_edge_large_key_of.Goals as goal

pub returns-in-Some-clause-chosen : goal.returns-in-Some-clause-chosen
returns-in-Some-clause-chosen c = λ q keys found asks permitted is.
    chosen_of q (permission_stated c.args.terms.now) (asked_given 65535 16 (setting_stated c.args.terms.now) (kind_numbered c.args.terms.now.kind) c.args.message.now) c.args.terms.now.keys.now found keys asks permitted is
