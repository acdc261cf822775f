use Rattle.std.proofs.Common.{subst}
use Rattle.cose_c.specs.declared.held.table.HeldTable.{HeldTable}
use Rattle.cose_c.specs.Required.{GivesRequired, required_stated}
use Rattle.cose_c.specs.TableUnder.{setting_kept}
use Rattle.cose_c.proofs.TokensForC.{of_kept, required_after}
use Rattle.cose_c.proofs.table.under.cose_edge_table_admit.Goals as goal

pub returns-clause-claims : goal.returns-clause-claims
returns-clause-claims c =
    subst (λ (held : HeldTable). GivesRequired 1024 8 (setting_kept held) (required_stated c.args.requirements.now) c.args.token.now c.claims_after.new.into) c.read.ensures.0
    (required_after 1024 8 c.args.token.now _ _ (setting_kept c.read.result.now) (required_stated c.args.requirements.now) c.verdict_kept-verdict.ensures.verdict c.verdict_kept-verdict.ensures.payload
    (of_kept c.read.result.now) c.claims_after.ensures)
