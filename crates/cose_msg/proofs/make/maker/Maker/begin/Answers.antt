use Rattle.std.proofs.Common.{◌≡◌, ◌∙◌, ◌^◌, ◌+◌, arith, ◌||◌, ◌&&◌, IsTrue, [], ◌++◌, subst, append-nil, Bool, true, false, nat_le, nat_lt, length, List, ℕ, None, Some, Err, is_some, if◌then◌else◌, refl, sym, ap}
use Rattle.std.proofs.lemmas.Bool.{false≢true}
use Rattle.std.proofs.lemmas.Option.{none-some}
use Rattle.cose_head.specs.declared.algorithm.Alg.{Alg}
use Rattle.cose_head.specs.declared.kind.Kind.TheVariants.{Mac0}
use Rattle.cose_head.specs.Algorithm.{is_mac_of}
use Rattle.cose_mac.specs.declared.running.Running.{Running}
use Rattle.cose_mac.specs.Running.{FedMac}
use Rattle.cose_mac.specs.Structure.{structure_front, structure_of}
use Rattle.cose_msg.specs.declared.make.MakeFault.{MakeFault}
use Rattle.cose_msg.specs.declared.make.MakeFault.TheVariants.{TooLong, WrongKey}
use Rattle.cose_msg.specs.Make.{is_too_long}
use Rattle.cose_msg.specs.Maker.{begun_fault, stops_for_sink}
use Rattle.cose_msg.proofs.lemmas.Deciding.KeptAnswers.{unfailed}
use Rattle.cose_msg.proofs.lemmas.Made.Makes.{no_fault, secret_is, too_long, wrong_key}
use Rattle.cose_msg.proofs.make.maker.Maker.begin.Goals as goal

pub returns-in_default-clause-fault : goal.returns-in_default-clause-fault
returns-in_default-clause-fault g c = wrong_key _ _ _ (rw c.in_default.is at c.secret_for.ensures)

pub returns-in_default-clause-untouched : goal.returns-in_default-clause-untouched
returns-in_default-clause-untouched g c = λ e. refl

pub returns-in_default-clause-failed : goal.returns-in_default-clause-failed
returns-in_default-clause-failed g c = λ e. absurd (none-some WrongKey (sym e))

pub returns-in_default-clause-failure : goal.returns-in_default-clause-failure
returns-in_default-clause-failure g c = unfailed _ false refl

pub returns-in_default-clause-sure : goal.returns-in_default-clause-sure
returns-in_default-clause-sure g c = λ enough e. absurd (none-some WrongKey (sym e))

pub returns-then-is_too_long-clause-fault : goal.returns-then-is_too_long-clause-fault
returns-then-is_too_long-clause-fault g c = too_long _ _ _ _ (rw c.in-Some.is at c.secret_for.ensures) (sym c.is_too_long.ensures ∙ c.if-is_too_long.true)

pub returns-then-is_too_long-clause-untouched : goal.returns-then-is_too_long-clause-untouched
returns-then-is_too_long-clause-untouched g c = λ e. refl

pub returns-then-is_too_long-clause-failed : goal.returns-then-is_too_long-clause-failed
returns-then-is_too_long-clause-failed g c = λ e. absurd (none-some TooLong (sym e))

pub returns-then-is_too_long-clause-failure : goal.returns-then-is_too_long-clause-failure
returns-then-is_too_long-clause-failure g c = unfailed _ false refl

pub returns-then-is_too_long-clause-sure : goal.returns-then-is_too_long-clause-sure
returns-then-is_too_long-clause-sure g c = λ enough e. absurd (none-some TooLong (sym e))

pub returns-in-Ok-clause-fault : goal.returns-in-Ok-clause-fault
returns-in-Ok-clause-fault g c = no_fault _ _ _ _ (rw c.in-Some.is at c.secret_for.ensures) (sym c.is_too_long.ensures ∙ c.if-is_too_long.false)

pub returns-in-Ok-clause-untouched : goal.returns-in-Ok-clause-untouched
returns-in-Ok-clause-untouched g c = λ e. absurd (false≢true e)

pub returns-in-Ok-clause-failed : goal.returns-in-Ok-clause-failed
returns-in-Ok-clause-failed g c = λ e. tt

pub returns-in-Ok-clause-sure : goal.returns-in-Ok-clause-sure
returns-in-Ok-clause-sure g c = λ enough e. refl

fails_now : (was now stops : Bool) → now ≡ true → stops ≡ true → now ≡ (was || stops)
fails_now true now stops e is = e
fails_now false now stops e is = e ∙ sym is

fits_kid : (a b long : Bool) → (a || (b || long)) ≡ false → long ≡ false
fits_kid true b long e = absurd cc
fits_kid false true long e = absurd cc
fits_kid false false long e = e

pub put_front-requires-clause-kid : goal.put_front-requires-clause-kid
put_front-requires-clause-kid g c = fits_kid (nat_le (2 ^ 56) c.args.length) (nat_lt 65535 (length c.args.aad.now)) _ (sym c.is_too_long.ensures ∙ c.if-is_too_long.false)

pub invariant_of-result : goal.invariant_of-result
invariant_of-result g c = record { makes = c.structure_front.ensures.appended.purpose ∙ c.hmac-running.ensures.is_mac }

pub returns-in-Ok-clause-front : goal.returns-in-Ok-clause-front
returns-in-Ok-clause-front g c = let front = rw c.protected_header-protected.ensures at c.in-Ok.ensures.written in front.put

pub returns-in-Ok-clause-failure : goal.returns-in-Ok-clause-failure
returns-in-Ok-clause-failure g c = c.in-Ok.ensures.written.failure ∙ unfailed _ false refl

pub returns-in-Err-clause-fault : goal.returns-in-Err-clause-fault
returns-in-Err-clause-fault g c =
    ap (λ (fault : MakeFault). begun_fault (Err fault)) c.in-Err.ensures.written.put.1
    ∙ no_fault _ _ _ _ (rw c.in-Some.is at c.secret_for.ensures) (sym c.is_too_long.ensures ∙ c.if-is_too_long.false)

pub returns-in-Err-clause-untouched : goal.returns-in-Err-clause-untouched
returns-in-Err-clause-untouched g c = λ e. absurd (false≢true (sym (ap (λ (fault : MakeFault). is_some (begun_fault (Err fault))) c.in-Err.ensures.written.put.1) ∙ e))

pub returns-in-Err-clause-failed : goal.returns-in-Err-clause-failed
returns-in-Err-clause-failed g c =
    let front = rw c.protected_header-protected.ensures at c.in-Err.ensures.written in
    λ none. (ap Err front.put.1, front.put.0)

pub returns-in-Err-clause-failure : goal.returns-in-Err-clause-failure
returns-in-Err-clause-failure g c = fails_now _ _ _ c.in-Err.ensures.written.failure (ap (λ (fault : MakeFault). stops_for_sink (Err fault)) c.in-Err.ensures.written.put.1)

pub returns-in-Err-clause-sure : goal.returns-in-Err-clause-sure
returns-in-Err-clause-sure g c =
    let front = rw c.protected_header-protected.ensures at c.in-Err.ensures.written in
    λ enough none. front.promised enough

fits_mac : (mac others : Bool) (secret got : List ℕ) → Some got ≡ (if mac && others then Some secret else None) → IsTrue mac
fits_mac true others secret got e = refl
fits_mac false others secret got e = absurd cc

none_yet : (n : ℕ) → 0 + n ≡ n
none_yet n = omega arith

fed_front : (running : Running) (alg : Alg) (secret other front : List ℕ) → secret ≡ other → FedMac running alg secret front → FedMac running alg other (front ++ [])
fed_front running alg secret other front e fed = subst (λ (s : List ℕ). FedMac running alg s (front ++ [])) e (subst (FedMac running alg secret) (sym (append-nil front)) fed)

pub protected_header-protected-requires : goal.protected_header-protected-requires
protected_header-protected-requires g c = fits_mac (is_mac_of c.args.alg) _ _ c.in-Some.secret.now (rw c.in-Some.is at c.secret_for.ensures)

pub hmac-running-requires : goal.hmac-running-requires
hmac-running-requires g c = fits_mac (is_mac_of c.args.alg) _ _ c.in-Some.secret.now (rw c.in-Some.is at c.secret_for.ensures)

pub returns-in-Ok-clause-begun : goal.returns-in-Ok-clause-begun
returns-in-Ok-clause-begun g c =
    let secret = secret_is _ c.in-Some.secret.now _ (rw c.in-Some.is at c.secret_for.ensures) in
    record {
      left = none_yet c.args.length;
      front = structure_front Mac0 c.protected_header-protected.result c.args.aad.now c.args.length;
      fed = fed_front c.structure_front.new.into c.args.alg _ _ _ secret (c.structure_front.ensures.appended.fed_mac c.args.alg c.in-Some.secret.now [] c.hmac-running.ensures);
      completes = λ payload count. c.structure_front.ensures.front payload count ∙ ap (λ (protected : List ℕ). structure_of Mac0 protected c.args.aad.now payload) c.protected_header-protected.ensures;
    }
