use Rattle.std.proofs.Common.{ap, ◌∙◌, w64}
use Rattle.std.proofs.lemmas.Int.{to_z-of_z}
use Rattle.cose_map.specs.KeySet.View.{keys as usable}
use Rattle.cose_examples.specs.Token.{policy_at}
use Rattle.cose_examples.proofs.Tokens.{admits_in}
use Rattle.cose_examples.proofs.token.claims_of.Goals as goal

pub returns : goal.returns
returns c = record {
  admitted = admits_in (usable c.args.keys) (policy_at c.args.now) c.args.token.now _ _ _ _ _ _ c.token_context.ensures.setting (c.policy_at.ensures ∙ ap policy_at (to_z-of_z w64 c.args.now c.ranges.now)) c.new-intake.ensures.known
      (c.in_ok-claims.ensures.token _ c.args.token.now c.new-verifier.ensures.none_taken c.new-intake.ensures.known) (c.in_ok-claims.ensures.run _ c.new-verifier.ensures.none_taken) (c.is_at_end.ensures c.if-not-is_at_end.false);
}
