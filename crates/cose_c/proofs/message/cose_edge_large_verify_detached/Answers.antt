use Rattle.std.proofs.Common.{sym, ◌∙◌}
use Rattle.cose_map.specs.KeySet.{keys_of}
use Rattle.cose_c.specs.Message.{beside}
use Rattle.cose_c.specs.Terms.{setting_given}
use Rattle.cose_c.proofs.Sizes.{input_within, verdict_within}
use Rattle.cose_c.proofs.message.cose_edge_large_verify_detached.Goals as goal

pub returns-else-is_past_limits-clause-verdict : goal.returns-else-is_past_limits-clause-verdict
returns-else-is_past_limits-clause-verdict c =
    verdict_within 0 c.args.message.now c.cose_edge_verify_detached.new.verdict (beside c.args.payload.now (setting_given (keys_of c.args.keys.now) c.args.aad.now c.args.wanted)) c.cose_edge_verify_detached.ensures.verdict (sym c.is_past_limits.ensures ∙ c.if-is_past_limits.false)

pub returns-else-is_past_limits-clause-input : goal.returns-else-is_past_limits-clause-input
returns-else-is_past_limits-clause-input c = λ two.
    rw (input_within 0 c.args.message.now c.cose_edge_verify_detached.new.verdict c.deciding_goes_last.ensures.verifying (beside c.args.payload.now (setting_given (keys_of c.args.keys.now) c.args.aad.now c.args.wanted)) c.cose_edge_verify_detached.ensures.verdict (sym c.is_past_limits.ensures ∙ c.if-is_past_limits.false))
    (c.cose_edge_verify_detached.ensures.input two)

pub returns-then-is_past_limits-clause-verdict : goal.returns-then-is_past_limits-clause-verdict
returns-then-is_past_limits-clause-verdict c = c.verify_large_detached.ensures.verdict

pub returns-then-is_past_limits-clause-input : goal.returns-then-is_past_limits-clause-input
returns-then-is_past_limits-clause-input c = c.verify_large_detached.ensures.input
