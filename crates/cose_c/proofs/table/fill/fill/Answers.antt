use Rattle.std.proofs.Common.{sym, ◌∙◌}
use Rattle.cose_map.specs.KeySet.{keys_of}
use Rattle.cose_c.specs.Permitted.{permitted_in}
use Rattle.cose_c.specs.PermittedView.{permission_value}
use Rattle.cose_c.specs.Table.{keys_in}
use Rattle.cose_c.proofs.TablesFilled.{keys_few, numbers_few}
use Rattle.cose_c.proofs.table.fill.fill.Goals as goal

pub returns-in-Some-clause-numbers : goal.returns-in-Some-clause-numbers
returns-in-Some-clause-numbers c =
    c.counted.ensures
    ∙ numbers_few (permitted_in (permission_value c.args.permission.now) (keys_of c.args.keys.now)) c.in-Some.count (sym c.in-Some.is ∙ c.fill_few.ensures.count)

pub returns-in-Some-clause-keys : goal.returns-in-Some-clause-keys
returns-in-Some-clause-keys c =
    keys_few (permitted_in (permission_value c.args.permission.now) (keys_of c.args.keys.now)) c.in-Some.count (keys_in c.fill_few.new.content)
    (sym c.in-Some.is ∙ c.fill_few.ensures.count) c.fill_few.ensures.keys
