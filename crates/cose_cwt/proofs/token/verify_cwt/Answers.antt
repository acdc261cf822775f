use Rattle.std.proofs.Common.{◌≡◌, ◌∙◌, ◌≤◌, ℕ, Bool, [], Some, length, subst, sym, arith}
use Rattle.cose_msg.specs.declared.store.Store.{Store}
use Rattle.cose_msg.specs.Kept.{HasTaken, kept_answer}
use Rattle.cose_msg.specs.Store.{unless_dropped}
use Rattle.cose_msg.specs.Task.{to_verify}
use Rattle.cose_msg.specs.Verifier.{setting_in}
use Rattle.cose_cwt.proofs.Tokens.{answers_again, kept_is_no_failure, none_or_some, nothing_held, stopped_before, store_suffices, token_of_run, token_placed, with_contents}
use Rattle.cose_cwt.proofs.token.verify_cwt.Goals as goal

pub returns-clause-run : goal.returns-clause-run
returns-clause-run g c = λ setting h.
    let r = c.verify-verdict.ensures.run setting [] [] h in
    record {
      taken = r.0;
      payload = c.lend-lender.result.0.now;
      verdict = c.verify-verdict.result;
      run = with_contents _ _ _ _ _ _ _ c.clear.ensures.empty c.lend-lender.ensures.held r.1;
      counted = r.2.0;
      shows = r.2.1;
      current = r.2.2;
      kept = c.verify-verdict.ensures.kept;
      comes = c.claims_or_cleared.ensures.claims;
      within = λ refusal e. token_placed _ _ _ _ _ refusal c.claims_or_cleared.ensures.claims e (c.claims_refusals_stand_inside.ensures.admission _ _ _);
    }

pub returns-clause-token : goal.returns-clause-token
returns-clause-token g c = λ setting bytes h told.
    let r = returns-clause-run g c setting h in
    token_of_run c.settled_stays.ensures.message _ _ _ _ _ _ _ _ _ r.taken _ bytes _ r.run r.comes told

-- Where an answer was kept, the call doesn't stop for the store. Else the payload is within its limit, and so within
-- the store.
pub returns-clause-store_suffices : goal.returns-clause-store_suffices
returns-clause-store_suffices g c =
    let before = c.args.verifier.now in
    let setting = setting_in before in
    none_or_some (kept_answer before) (λ none.
    (let anew : HasTaken (to_verify setting) [] [] before = subst (λ (inspects : Bool). HasTaken (record { setting = setting; inspects = inspects }) [] [] before) c.requires.verifies (c.taken-none.ensures.anew (c.taken-none.ensures.value ∙ c.requires.none_taken) none) in
    store_suffices _ _ _ _ _ c.claims_or_cleared.ensures.claims (c.verify-verdict.ensures.sure setting [] [] anew (subst (λ (n : ℕ). setting.payload_limit ≤ n) (sym c.clear.ensures.sure) c.requires.payload_limit))))
    (λ answer kept. (kept_is_no_failure _ _ _ _ _ _ _ _ c.claims_or_cleared.ensures.claims kept (c.verify-verdict.ensures.again answer kept).0).1)

pub returns-clause-within : goal.returns-clause-within
returns-clause-within g c = λ refusal e.
    let placed : refusal.place ≤ length c.lend-lender.result.0.now = token_placed _ _ _ _ _ refusal c.claims_or_cleared.ensures.claims e (c.claims_refusals_stand_inside.ensures.admission _ _ _) in
    omega (arith, placed, c.lend-lender.ensures.limit)

pub returns-clause-purpose : goal.returns-clause-purpose
returns-clause-purpose g c = c.verify-verdict.ensures.purpose

pub returns-clause-again : goal.returns-clause-again
returns-clause-again g c = λ answer kept.
    let before = c.verify-verdict.ensures.again answer kept in
    let none : c.lend-lender.result.0.now ≡ [] = nothing_held (λ (store : Store g.row.L). Some (unless_dropped store.dropped store.held.items)) _ _ _ c.clear.ensures.empty before.3 c.lend-lender.ensures.held in (
      answers_again _ _ _ _ _ _ c.claims_or_cleared.ensures.claims before.0 none,
      before.1,
      before.2,
      (kept_is_no_failure _ _ _ _ _ _ _ _ c.claims_or_cleared.ensures.claims kept before.0).0,
    )

pub returns-clause-stopped : goal.returns-clause-stopped
returns-clause-stopped g c = stopped_before _ _ _ _ _ c.claims_or_cleared.ensures.claims c.verify-verdict.ensures.stopped
