-- The spellings of a message's front and of its elements, one after another.
use Rattle.std.proofs.Common.{◌≡◌, ℕ, ◌+◌, List, ◌++◌, length, ap, ◌∙◌, append_assoc, arith, length-append}
use Rattle.cose_msg.specs.Grammar.{Spellings, spelling, auth_at}

pub all_apart : (s : Spellings) (more : List ℕ) → spelling s ++ more ≡ s.front ++ (s.protected ++ (s.unprotected ++ (s.payload ++ (s.auth ++ more))))
all_apart s more =
    append_assoc s.front (s.protected ++ (s.unprotected ++ (s.payload ++ s.auth))) more
    ∙ ap (λ (rest : List ℕ). s.front ++ rest) (append_assoc s.protected (s.unprotected ++ (s.payload ++ s.auth)) more
    ∙ ap (λ (rest : List ℕ). s.protected ++ rest) (append_assoc s.unprotected (s.payload ++ s.auth) more
    ∙ ap (λ (rest : List ℕ). s.unprotected ++ rest) (append_assoc s.payload s.auth more)))

-- A message ends where its last element does.
pub spelled_length : (s : Spellings) → length (spelling s) ≡ auth_at s + length s.auth
spelled_length s = omega (arith, length-append s.front (s.protected ++ (s.unprotected ++ (s.payload ++ s.auth))), length-append s.protected (s.unprotected ++ (s.payload ++ s.auth)), length-append s.unprotected (s.payload ++ s.auth), length-append s.payload s.auth)
