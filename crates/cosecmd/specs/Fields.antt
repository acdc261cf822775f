-- What the arguments of a command ask for: each field is the value of the option of its name.
use Rattle.std.specs.Prelude.{◌≡◌, ℕ, List, Option, Some, None, codes, option_map}
use Rattle.cose_map.specs.KeySet.{keys_of}
use Rattle.cose_msg.specs.declared.context.Wanted.TheVariants as wants
use Rattle.cose_cwt.specs.Claims.Audience.{text_value}
use Rattle.cosecmd.specs.Options.{Options, ◌>>=◌, algorithm_in, bytes_in, integer_in, key_in, key_set_in, kind_in, limits_in, message_in, number_in, optional_bytes_in, printing_in, text_in}
use Rattle.cosecmd.specs.Allowed.{restrictions_in}
use Rattle.cose_answers.specs.Limits.{room_of}
use Rattle.cose_answers.specs.Printed.{ItemsPrint, keys_print}
use Rattle.cosecmd.specs.Requirements.{RequiredFields}
use Rattle.cose_answers.specs.Under.{Under, under_of, program_keys}
use Rattle.cose_answers.specs.declared.request.Cwt.{Cwt}
use Rattle.cose_answers.specs.declared.request.Keys.{Keys}
use Rattle.cose_answers.specs.declared.request.Make.{Make}
use Rattle.cose_answers.specs.declared.request.Checks.{Checks}

-- The keys of these bytes are those of the argument, or of the file that is named, where its bytes are known.
abbrev pub HasKeysOf : (List ℕ → Option (List ℕ)) → Options → List ℕ → Type 0
HasKeysOf content options keys = (bytes : List ℕ) → key_set_in content options ≡ Some bytes → keys_of keys ≡ keys_of bytes

-- Whatever is printed for the items of a key set, of these bytes it is what is printed for the argument, or for the file that is
-- named, where its bytes are known.
abbrev pub IsListedAs : (List ℕ → Option (List ℕ)) → Options → List ℕ → Type 0
IsListedAs content options keys = (bytes : List ℕ) → key_set_in content options ≡ Some bytes → (said : ItemsPrint) → keys_print said keys ≡ keys_print said bytes

-- The bytes are those of the argument, or of the file that is named, where its bytes are known.
abbrev pub IsKeyOf : (List ℕ → Option (List ℕ)) → Options → List ℕ → Type 0
IsKeyOf content options key = (bytes : List ℕ) → key_in content options ≡ Some bytes → key ≡ bytes

-- What a message is verified under, where each argument is in order, and the bytes of a file that is named are known.
abbrev pub checks_in : (List ℕ → Option (List ℕ)) → Options → Option Under
checks_in content options = do
  keys ← key_set_in content options
  restrictions ← restrictions_in options
  aad ← bytes_in (codes "aad") options
  vouch ← optional_bytes_in (codes "vouch") options
  Some (record { room = room_of (limits_in options); keys = program_keys (room_of (limits_in options)) restrictions keys; aad = aad; wanted = kind_in options; vouch = vouch })

-- What `digest` reads a message under: a COSE_Sign1, for which nobody vouches.
abbrev pub digest_checks_in : (List ℕ → Option (List ℕ)) → Options → Option Under
digest_checks_in content options = do
  keys ← key_set_in content options
  restrictions ← restrictions_in options
  aad ← bytes_in (codes "aad") options
  Some (record { room = room_of (limits_in options); keys = program_keys (room_of (limits_in options)) restrictions keys; aad = aad; wanted = wants.Sign1; vouch = None })

-- The checks are what the options say.
abbrev pub AreChecks : Option Under → Checks → Type 0
AreChecks said checks = (under : Under) → said ≡ Some under → under_of checks ≡ under

pub record CwtFields (content : List ℕ → Option (List ℕ)) (options : Options) (words : Cwt) : Type 0 where
  pub checks : AreChecks (checks_in content options) words.checks
  pub now : integer_in (codes "now") options ≡ Some words.now
  pub leeway : number_in (codes "leeway") options ≡ Some words.leeway
  pub aud : option_map text_value words.aud ≡ text_in (codes "aud") options
  pub required : RequiredFields options words.required
  pub printing : words.printing ≡ printing_in options

pub record KeysFields (content : List ℕ → Option (List ℕ)) (options : Options) (words : Keys) : Type 0 where
  pub keys : IsListedAs content options words.keys.items
  pub message : words.message ≡ message_in options

pub record MakeFields (content : List ℕ → Option (List ℕ)) (options : Options) (words : Make) : Type 0 where
  pub alg : algorithm_in options ≡ Some words.alg
  pub key : IsKeyOf content options words.key.items
  pub payload_length : number_in (codes "length") options ≡ Some words.length
  pub kid : optional_bytes_in (codes "kid") options ≡ Some (option_map (λ bytes. bytes.items) words.kid)
  pub aad : bytes_in (codes "aad") options ≡ Some words.aad.items
