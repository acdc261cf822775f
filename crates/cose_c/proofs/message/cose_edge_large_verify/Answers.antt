use Rattle.std.proofs.Common.{sym, ◌∙◌}
use Rattle.cose_map.specs.KeySet.{keys_of}
use Rattle.cose_c.specs.Terms.{setting_given}
use Rattle.cose_c.proofs.Sizes.{input_within, payload_within, verdict_within}
use Rattle.cose_c.proofs.message.cose_edge_large_verify.Goals as goal

pub returns-else-is_past_limits-clause-verdict : goal.returns-else-is_past_limits-clause-verdict
returns-else-is_past_limits-clause-verdict c =
    verdict_within c.cose_edge_verify.new.verdict.payload_at c.args.message.now c.cose_edge_verify.new.verdict (setting_given (keys_of c.args.keys.now) c.args.aad.now c.args.wanted) c.cose_edge_verify.ensures.verdict (sym c.is_past_limits.ensures ∙ c.if-is_past_limits.false)

pub returns-else-is_past_limits-clause-payload : goal.returns-else-is_past_limits-clause-payload
returns-else-is_past_limits-clause-payload c = λ accepted.
    rw (payload_within c.cose_edge_verify.new.verdict.payload_at c.args.message.now c.cose_edge_verify.new.verdict c.deciding_goes_last.ensures.verifying (setting_given (keys_of c.args.keys.now) c.args.aad.now c.args.wanted) c.cose_edge_verify.ensures.verdict (sym c.is_past_limits.ensures ∙ c.if-is_past_limits.false))
    (c.cose_edge_verify.ensures.payload accepted)

pub returns-else-is_past_limits-clause-input : goal.returns-else-is_past_limits-clause-input
returns-else-is_past_limits-clause-input c = λ two.
    rw (input_within c.cose_edge_verify.new.verdict.payload_at c.args.message.now c.cose_edge_verify.new.verdict c.deciding_goes_last.ensures.verifying (setting_given (keys_of c.args.keys.now) c.args.aad.now c.args.wanted) c.cose_edge_verify.ensures.verdict (sym c.is_past_limits.ensures ∙ c.if-is_past_limits.false))
    (c.cose_edge_verify.ensures.input two)

pub returns-then-is_past_limits-clause-verdict : goal.returns-then-is_past_limits-clause-verdict
returns-then-is_past_limits-clause-verdict c = c.verify_large.ensures.verdict

pub returns-then-is_past_limits-clause-payload : goal.returns-then-is_past_limits-clause-payload
returns-then-is_past_limits-clause-payload c = c.verify_large.ensures.payload

pub returns-then-is_past_limits-clause-input : goal.returns-then-is_past_limits-clause-input
returns-then-is_past_limits-clause-input c = c.verify_large.ensures.input
