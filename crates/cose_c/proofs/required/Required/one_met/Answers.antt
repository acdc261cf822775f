use Rattle.std.proofs.Common.{sym, ap, ◌∙◌}
use Rattle.cose_cwt.specs.Claims.View.{claims_value}
use Rattle.cose_cwt.specs.Requirements.{met}
use Rattle.cose_c.specs.Required.{is_required}
use Rattle.cose_c.proofs.Requiring.{met_presence, where_required}
use Rattle.cose_c.proofs.required.Required.one_met.Goals as goal

pub returns-then-is_required : goal.returns-then-is_required
returns-then-is_required c =
    c.meets.ensures ∙ ap (λ r. met r (claims_value c.args.claims.now)) c.presence.ensures ∙ met_presence c.args.claim.now (claims_value c.args.claims.now)
    ∙ where_required (is_required c.args.self.now.present c.args.self.now.permitted c.args.claim.now) c.args.claim.now (claims_value c.args.claims.now) (sym c.is_required.ensures ∙ c.if-is_required.true)
