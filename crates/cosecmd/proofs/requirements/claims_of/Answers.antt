use Rattle.std.proofs.Common.{◌≡◌, ◌∙◌, ◌++◌, ◌∷◌, [], ◌<◌, ◌+◌, Bor, List, Some, drop, get_or, length, map, option_map, rules, sym, ℕ}
use Rattle.std.proofs.lemmas.List.{at_drop_more}
use Rattle.cose_cwt.specs.Requirements.{claim_named}
use Rattle.cosecmd.specs.Requirements.{claims_named}
use Rattle.cosecmd.proofs.lemmas.Arguments.RequiredOptions.{one_more_claim}
use Rattle.cosecmd.proofs.requirements.claims_of.Goals as goal

pub names-preserved : goal.names-preserved
names-preserved c =
    let names = c.args.names.now in
    let at = c.names.name-index in
    let so_far = c.names.claims.items in
    let claim = c.in-Some.claim in
    let none : Bor (List ℕ) = record { ref_ptr = (0, 0); now = [] } in
    let name : List ℕ = (get_or names at none).now in
    let within : at < length names = search rules in
    let pushed : c.push.new.self.items ≡ so_far ++ (claim ∷ []) = c.in_ok-push-in-Some.ensures.items in
    let named : claim_named name ≡ Some claim = sym c.from_name.ensures ∙ c.in-Some.is in
    let opened = at_drop_more (λ (left : List (Bor (List ℕ))). option_map (λ others. so_far ++ others) (claims_named (map (λ it. it.now) left))) names at none within in
    rw pushed (one_more_claim so_far (claim_named name) claim (claims_named (map (λ it. it.now) (drop (at + 1) names))) named ∙ sym opened ∙ c.names.invariant)
