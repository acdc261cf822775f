use Rattle.std.proofs.Common.{◌∙◌, ap, sym}
use Rattle.cose_c.specs.Stated.{permission_stated}
use Rattle.cose_c.specs.Table.{permitted_table}
use Rattle.cose_c.specs.TableUnder.{setting_left, table_numbers}
use Rattle.cose_c.proofs.TablesUnder.{kept_good, numbers_good, refused}
use Rattle.cose_c.proofs.table.under.cose_edge_table_read_under.Goals as goal

pub returns-in-Ok-clause-numbers : goal.returns-in-Ok-clause-numbers
returns-in-Ok-clause-numbers c =
    let terms = c.args.terms.now in let read = permitted_table (permission_stated terms) terms.keys.now in
    rw c.permission.ensures at c.fill.ensures.numbers ∙ numbers_good terms c.stated_by.result c.in-Ok.stated read c.in-Ok.is c.stated_by.ensures

pub returns-in-Ok-clause-kept : goal.returns-in-Ok-clause-kept
returns-in-Ok-clause-kept c =
    let terms = c.args.terms.now in let read = permitted_table (permission_stated terms) terms.keys.now in
    kept_good terms c.stated_by.result c.in-Ok.stated read c.fill.new.content c.in-Ok.is c.stated_by.ensures (rw c.permission.ensures at c.fill.ensures.keys)

pub returns-in-Err-clause-numbers : goal.returns-in-Err-clause-numbers
returns-in-Err-clause-numbers c =
    let terms = c.args.terms.now in let read = permitted_table (permission_stated terms) terms.keys.now in
    c.no_key_set.ensures ∙ sym (ap table_numbers (refused terms c.stated_by.result c.in-Err.status read c.in-Err.is c.stated_by.ensures))

pub returns-in-Err-clause-kept : goal.returns-in-Err-clause-kept
returns-in-Err-clause-kept c =
    let terms = c.args.terms.now in let read = permitted_table (permission_stated terms) terms.keys.now in
    sym (ap setting_left (refused terms c.stated_by.result c.in-Err.status read c.in-Err.is c.stated_by.ensures))
