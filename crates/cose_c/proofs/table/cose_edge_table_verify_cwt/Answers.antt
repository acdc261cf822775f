use Rattle.std.proofs.Common.{subst}
use Rattle.cose_c.specs.declared.held.table.HeldTable.{HeldTable}
use Rattle.cose_c.specs.Claims.{GivesToken, policy_given}
use Rattle.cose_c.specs.Table.{keys_in, setting_under_table}
use Rattle.cose_c.proofs.TokensForC.{of_table, token_given}
use Rattle.cose_c.proofs.table.cose_edge_table_verify_cwt.Goals as goal

pub returns-clause-claims : goal.returns-clause-claims
returns-clause-claims c =
    let keys = keys_in c.read.result.now.content in
    subst (λ (held : HeldTable). GivesToken 1024 8 (setting_under_table (keys_in held.content) c.args.aad.now 0) (policy_given c.args.policy.now) c.args.token.now c.claims_after.result) c.read.ensures.0
    (token_given 1024 8 c.args.token.now _ _ (setting_under_table keys c.args.aad.now 0) (policy_given c.args.policy.now) c.verdict_on-verdict.ensures.verdict c.verdict_on-verdict.ensures.payload
    (of_table keys c.args.aad.now 0) c.claims_after.ensures.other c.claims_after.ensures.admitted c.claims_after.ensures.place c.claims_after.ensures.count)
