use Rattle.std.proofs.Common.{◌≡◌, ◌∙◌, ◌≤◌, ℕ, Bool, [], Some, length, refl, subst, sym, arith}
use Rattle.cose_msg.specs.declared.store.Store.{Store}
use Rattle.cose_msg.specs.Kept.{HasTaken, kept_answer}
use Rattle.cose_msg.specs.Store.{unless_dropped}
use Rattle.cose_msg.specs.Task.{to_verify}
use Rattle.cose_msg.specs.Verifier.{setting_in}
use Rattle.cose_cwt.proofs.RequiredTokens.{required_again, required_intake_failure, required_is_no_failure, required_of_run, required_placed, required_stopped, required_store_suffices}
use Rattle.cose_cwt.proofs.Tokens.{none_or_some, nothing_held, token_placed, with_contents}
use Rattle.cose_cwt.proofs.required.verify_token.Goals as goal

pub returns-clause-run : goal.returns-clause-run
returns-clause-run g c = λ setting h.
    let r = c.verify-verdict.ensures.run setting [] [] h in
    record {
      cwt = _;
      run = record {
        taken = r.0;
        payload = c.lend-lender.result.0.now;
        verdict = c.verify-verdict.result;
        run = with_contents _ _ _ _ _ _ _ c.clear.ensures.empty c.lend-lender.ensures.held r.1;
        counted = r.2.0;
        shows = r.2.1;
        current = r.2.2;
        kept = c.verify-verdict.ensures.kept;
        comes = refl;
        within = λ refusal e. token_placed _ _ _ _ _ refusal refl e (c.claims_refusals_stand_inside.ensures.admission _ _ _);
      };
      comes = c.token_or_cleared.ensures.token;
    }

pub returns-clause-token : goal.returns-clause-token
returns-clause-token g c = λ setting bytes h told.
    let r = returns-clause-run g c setting h in
    required_of_run c.settled_stays.ensures.message _ _ _ _ _ _ _ _ _ _ r.run.taken _ bytes _ r.run.run r.comes told

pub returns-clause-again : goal.returns-clause-again
returns-clause-again g c = λ answer kept.
    let before = c.verify-verdict.ensures.again answer kept in
    let none : c.lend-lender.result.0.now ≡ [] = nothing_held (λ (store : Store g.row.L). Some (unless_dropped store.dropped store.held.items)) _ _ _ c.clear.ensures.empty before.3 c.lend-lender.ensures.held in (
      required_again _ _ _ _ _ _ _ c.token_or_cleared.ensures.token before.0 none,
      before.1,
      before.2,
      (required_is_no_failure _ _ _ _ _ _ _ _ _ c.token_or_cleared.ensures.token kept before.0).0,
    )

pub returns-clause-purpose : goal.returns-clause-purpose
returns-clause-purpose g c = c.verify-verdict.ensures.purpose

-- Where an answer was kept, the call doesn't stop for the store. Else the payload is within its limit, and so within
-- the store.
pub returns-clause-store_suffices : goal.returns-clause-store_suffices
returns-clause-store_suffices g c =
    let before = c.args.verifier.now in
    let setting = setting_in before in
    none_or_some (kept_answer before) (λ none.
    (let anew : HasTaken (to_verify setting) [] [] before = subst (λ (inspects : Bool). HasTaken (record { setting = setting; inspects = inspects }) [] [] before) c.requires.verifies (c.taken-none.ensures.anew (c.taken-none.ensures.value ∙ c.requires.none_taken) none) in
    required_store_suffices _ _ _ _ _ _ c.token_or_cleared.ensures.token (c.verify-verdict.ensures.sure setting [] [] anew (subst (λ (n : ℕ). setting.payload_limit ≤ n) (sym c.clear.ensures.sure) c.requires.payload_limit))))
    (λ answer kept. (required_is_no_failure _ _ _ _ _ _ _ _ _ c.token_or_cleared.ensures.token kept (c.verify-verdict.ensures.again answer kept).0).1)

pub returns-clause-within : goal.returns-clause-within
returns-clause-within g c = λ refusal e.
    let placed : refusal.place ≤ length c.lend-lender.result.0.now = required_placed _ _ _ _ _ _ refusal c.token_or_cleared.ensures.token e (c.claims_refusals_stand_inside.ensures.admission _ _ _) in
    omega (arith, placed, c.lend-lender.ensures.limit)

pub returns-clause-stopped : goal.returns-clause-stopped
returns-clause-stopped g c = required_stopped _ _ _ _ _ _ c.token_or_cleared.ensures.token c.verify-verdict.ensures.stopped

pub returns-clause-intake_failure : goal.returns-clause-intake_failure
returns-clause-intake_failure g c =
    rw (required_intake_failure _ _ _ _ _ _ c.token_or_cleared.ensures.token) at c.verify-verdict.ensures.intake_failure
