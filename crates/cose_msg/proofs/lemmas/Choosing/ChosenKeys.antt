-- What the key that was chosen determines of a tag or signature.
use Rattle.std.proofs.Common.{◌≡◌, ℕ, ◌≤◌, Bool, true, false, List, [], ◌++◌, Option, None, Some, refl, sym, ap, subst, ◌∙◌, arith}
use Rattle.std.specs.Prelude.{is_none, is_some, option_map}
use Rattle.std.proofs.lemmas.Bool.{eqb-true}
use Rattle.cose_head.specs.declared.algorithm.Alg.{Alg}
use Rattle.cose_head.specs.Algorithm.{auth_length_of}
use Rattle.cose_msg.specs.declared.reader.Chosen as code
use Rattle.cose_msg.specs.Answer.{Chosen}
use Rattle.cose_msg.specs.Chosen.{chosen_value, has_length_of}
use Rattle.cose_msg.specs.Message.{has_auth_length}
use Rattle.cose_msg.specs.Reader.{HoldsAuth}
use Rattle.cose_msg.proofs.lemmas.Reading.Bounds.{algorithms_are_short}

by_alg : (chosen : Option code.Chosen) (n : ℕ) → has_auth_length (option_map chosen_value chosen) n ≡ has_length_of (option_map (λ (c : code.Chosen). c.alg) chosen) n
by_alg (Some chosen) n = refl
by_alg None n = refl

-- Its length, by its algorithm alone.
pub length_by_alg : (chosen : Option code.Chosen) (known : Option Chosen) (alg : Option Alg) → alg ≡ option_map (λ (c : code.Chosen). c.alg) chosen → option_map chosen_value chosen ≡ known → (n : ℕ) → has_auth_length known n ≡ has_length_of alg n
length_by_alg chosen known alg is same n = rw (← same, is) (by_alg chosen n)

-- A key's tag or signature fits in its store.
pub key_fits : (found : Chosen) (n : ℕ) → has_auth_length (Some found) n ≡ true → n ≤ 132
key_fits found n e = omega (arith, eqb-true n (auth_length_of found.alg) e, algorithms_are_short found.alg)

pub auth_room : (chosen : Option Chosen) (n : ℕ) → is_none chosen ≡ false → has_auth_length chosen n ≡ true → n ≤ 132
auth_room (Some found) n e fits = key_fits found n fits
auth_room None n e fits = absurd cc

pub has_key : (chosen : Option code.Chosen) (known : Option Chosen) → option_map chosen_value chosen ≡ known → is_none known ≡ false → is_some chosen ≡ true
has_key (Some one) known same e = refl
has_key None known same e = let clash : true ≡ false = ap is_none same ∙ e in absurd cc

-- The key that was chosen, in the terms of the code.
pub record IsKey (chosen : Option code.Chosen) (known : Option Chosen) (alg : Alg) : Type 0 where
  pub found : Chosen
  pub chosen_is : known ≡ Some found
  pub alg_is : found.alg ≡ alg
  pub key_is : option_map chosen_value chosen ≡ Some found

pub key_of_alg : (chosen : Option code.Chosen) (known : Option Chosen) (alg : Alg) → Some alg ≡ option_map (λ (c : code.Chosen). c.alg) chosen → option_map chosen_value chosen ≡ known → IsKey chosen known alg
key_of_alg (Some one) known alg is same =
    let algorithm : one.alg ≡ alg = cc in
    record { found = chosen_value one; chosen_is = sym same; alg_is = algorithm; key_is = refl }
key_of_alg None known alg is same = absurd cc

abbrev pub no_alg : Option Alg
no_alg = None

pub no_key_without_alg : (chosen : Option code.Chosen) (known : Option Chosen) → no_alg ≡ option_map (λ (c : code.Chosen). c.alg) chosen → option_map chosen_value chosen ≡ known → known ≡ None
no_key_without_alg (Some one) known is same = absurd cc
no_key_without_alg None known is same = sym same

-- A tag or signature that is held where there is a key.
pub holds_auth : (chosen : Option Chosen) (found : Chosen) (held auth : List ℕ) → chosen ≡ Some found → HoldsAuth chosen held auth → held ≡ auth
holds_auth chosen found held auth is h = subst (λ (c : Option Chosen). HoldsAuth c held auth) is h

pub nothing_held : (chosen : Option Chosen) → HoldsAuth chosen [] []
nothing_held (Some found) = refl
nothing_held None = tt

-- A piece of it is held where there is a key.
pub more_held : (chosen : Option Chosen) (held auth piece now : List ℕ) → (is_none chosen ≡ false → held ≡ auth → now ≡ held ++ piece) → HoldsAuth chosen held auth → HoldsAuth chosen now (auth ++ piece)
more_held (Some found) held auth piece now grown h = grown refl h ∙ ap (λ (t : List ℕ). t ++ piece) h
more_held None held auth piece now grown h = tt

-- A key is chosen where the message isn't only inspected.
pub is_verified : (found : Chosen) (chosen : Option Chosen) (inspects : Bool) → chosen ≡ Some found → is_none chosen ≡ inspects → inspects ≡ false
is_verified found (Some other) inspects e is = sym is
is_verified found None inspects e is = absurd cc

pub is_inspected : (chosen : Option Chosen) (inspects : Bool) → chosen ≡ None → is_none chosen ≡ inspects → inspects ≡ true
is_inspected None inspects e is = sym is
is_inspected (Some found) inspects e is = absurd cc
