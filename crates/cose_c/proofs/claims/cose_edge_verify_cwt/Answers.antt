use Rattle.cose_map.specs.KeySet.{keys_of}
use Rattle.cose_c.specs.Claims.{policy_given}
use Rattle.cose_c.specs.Terms.{setting_given}
use Rattle.cose_c.proofs.TokensForC.{of_arguments, token_given}
use Rattle.cose_c.proofs.claims.cose_edge_verify_cwt.Goals as goal

pub returns : goal.returns
returns c =
    let keys = keys_of c.args.keys.now in
    token_given 1024 8 c.args.token.now _ _ (setting_given keys c.args.aad.now 0) (policy_given c.args.policy.now) c.verdict_on-verdict.ensures.verdict c.verdict_on-verdict.ensures.payload
    (of_arguments keys c.args.aad.now 0) c.claims_after.ensures.other c.claims_after.ensures.admitted c.claims_after.ensures.place c.claims_after.ensures.count
