-- Messages whose signature the caller verifies, on examples, by computing.
use Rattle.std.specs.Prelude.{◌≡◌, ℕ, ◌&&◌, true, List, [], ◌∷◌, ◌++◌, Option, Some, None, Result, Ok, Err, replicate, refl}
use Rattle.std.specs.Str.{bytes_eq, is_utf8, chars}
use Rattle.cose_head.specs.declared.further.FurtherAlg.{FurtherAlg}
use Rattle.cose_head.specs.declared.further.FurtherAlg.TheVariants as algorithms
use Rattle.cose_head.specs.declared.further.OkpCurve.{OkpCurve}
use Rattle.cose_head.specs.declared.further.OkpCurve.TheVariants as curves
use Rattle.cose_head.specs.declared.reason.Reason.{Reason}
use Rattle.cose_head.specs.declared.reason.Reason.TheVariants.{AmbiguousKey, Attached, BadAuth, BadAuthLength, Detached, NoKey, Trailing, Truncated, UnknownAlg, WrongType}
use Rattle.cose_head.specs.declared.refusal.Refusal.{Refusal}
use Rattle.cose_head.specs.Head.{bare_head, shortest_head}
use Rattle.cose_head.specs.Item.{depth_of}
use Rattle.cose_head.specs.Open.{open_in}
use Rattle.cose_head.specs.Reading.{read, head}
use Rattle.cose_head.specs.Shortest.{shortest}
use Rattle.cose_head.specs.Placed.{look, children_of, items_from, head_of_item}
use Rattle.cose_mac.specs.Structure.{sig_structure, mac_structure}
use Rattle.cose_map.specs.Bucket.{bucket_of}
use Rattle.cose_map.specs.Bucket.Both.{pair_faults}
use Rattle.cose_map.specs.Bucket.Form.{bucket_table}
use Rattle.cose_map.specs.Choice.Further.{chosen}
use Rattle.cose_map.specs.Key.Okp.{OkpValue}
use Rattle.cose_map.specs.Map.Read.{check_pairs}
use Rattle.cose_msg.specs.Further.{FurtherDecides, detached_setting, further_of}
use Rattle.cose_msg.specs.Message.{Setting, message, structure}
use Rattle.cose_msg.specs.Reading.{with_head, with_string, with_item}
use Rattle.cose_msg.proofs.WorkedMessages.{hex, under}

-- With room for 1024 bytes in each header bucket, and a nesting of 4.
unfoldable further : Setting → List OkpValue → FurtherDecides → List ℕ → Option (Result (FurtherAlg × List ℕ) Refusal)
unfolding message structure sig_structure mac_structure shortest shortest_head with_head with_string with_item bucket_of bucket_table check_pairs pair_faults chosen children_of items_from look head_of_item bare_head read head open_in depth_of is_utf8 chars lib.Utf8.encode
further setting keys decides bytes = further_of 1024 4 setting keys decides bytes

abbrev key_on : OkpCurve → ℕ → OkpValue
key_on curve byte = record { kid = None; alg = None; operations = None; curve = curve; x = byte ∷ [] }

abbrev on_ed25519 : List OkpValue
on_ed25519 = key_on curves.Ed25519 7 ∷ []

-- A COSE_Sign1 of the payload 'hi', by the algorithm of this protected bucket, with a signature after its head.
abbrev sign1 : List ℕ → List ℕ → List ℕ
sign1 protected signature = hex "d284" ++ protected ++ hex "a0 426869" ++ signature

abbrev eddsa : List ℕ → List ℕ
eddsa signature = sign1 (hex "43a10127") signature

abbrev of_64 : List ℕ
of_64 = hex "5840" ++ replicate 64 0x5a

-- The Sig_structure: the context, the protected header {1: -8}, the external data 'x', and the payload.
abbrev signed : List ℕ
signed = hex "84 6a5369676e617475726531 43a10127 4178 426869"

-- What the verifier says of the one signature that it knows, under the key whose public key is 7, by EdDSA.
abbrev knows : FurtherDecides
knows key alg message signature = bytes_eq key.x (7 ∷ []) && (bytes_eq message signed && bytes_eq signature (replicate 64 0x5a))

abbrev with_x : Setting
with_x = record (under []) { aad = 0x78 ∷ [] }

abbrev authentic : FurtherAlg → Option (Result (FurtherAlg × List ℕ) Refusal)
authentic alg = Some (Ok (alg, hex "6869"))

abbrev refused : Reason → ℕ → Option (Result (FurtherAlg × List ℕ) Refusal)
refused reason place = Some (Err (record { reason = reason; place = place }))

-- It is authentic; with other external data, and under another key, it isn't; and a byte follows it.
of_this_structure : further with_x on_ed25519 knows (eddsa of_64)
    ∷ further (under []) on_ed25519 knows (eddsa of_64)
    ∷ further with_x (key_on curves.Ed25519 8 ∷ []) knows (eddsa of_64)
    ∷ further with_x on_ed25519 knows (eddsa of_64 ++ 0 ∷ [])
    ∷ further (under []) on_ed25519 knows (eddsa of_64 ++ 0 ∷ []) ∷ []
    ≡ authentic algorithms.EdDsa ∷ refused BadAuth 10 ∷ refused BadAuth 10 ∷ refused Trailing 76 ∷ refused BadAuth 10 ∷ []
unfolding further
of_this_structure = refl

-- A verifier that says yes to everything.
abbrev trusts : FurtherDecides
trusts key alg message signature = true

-- A signature of 63 bytes, of 65, and of the 114 of the other curve, which its key has.
of_a_length : further (under []) on_ed25519 trusts (eddsa (hex "583f" ++ replicate 63 0x5a))
    ∷ further (under []) on_ed25519 trusts (eddsa (hex "5841" ++ replicate 65 0x5a))
    ∷ further (under []) on_ed25519 trusts (eddsa (hex "5872" ++ replicate 114 0x5a))
    ∷ further (under []) (key_on curves.Ed448 7 ∷ []) trusts (eddsa (hex "5872" ++ replicate 114 0x5a))
    ∷ further (under []) (key_on curves.Ed448 7 ∷ []) trusts (eddsa of_64) ∷ []
    ≡ refused BadAuthLength 10 ∷ refused BadAuthLength 10 ∷ refused BadAuthLength 10 ∷ authentic algorithms.EdDsa ∷ refused BadAuthLength 10 ∷ []
unfolding further
of_a_length = refl

-- Ed25519 and Ed448 take the keys on their own curve alone.
of_a_curve : further (under []) on_ed25519 trusts (sign1 (hex "43a10132") of_64)
    ∷ further (under []) on_ed25519 trusts (sign1 (hex "44a1013834") of_64)
    ∷ further (under []) (key_on curves.Ed448 7 ∷ on_ed25519) trusts (sign1 (hex "43a10132") of_64) ∷ []
    ≡ authentic algorithms.Ed25519 ∷ refused NoKey 8 ∷ authentic algorithms.Ed25519 ∷ []
unfolding further
of_a_curve = refl

-- No key, two that fit, ES256, which isn't left to the caller, and a COSE_Mac0.
without_a_key : further (under []) [] trusts (eddsa of_64)
    ∷ further (under []) (key_on curves.Ed25519 8 ∷ on_ed25519) trusts (eddsa of_64)
    ∷ further (under []) on_ed25519 trusts (sign1 (hex "43a10126") of_64)
    ∷ further (under []) on_ed25519 trusts (hex "d18443a10127a0 426869" ++ of_64) ∷ []
    ≡ refused NoKey 7 ∷ refused AmbiguousKey 7 ∷ refused UnknownAlg 7 ∷ refused UnknownAlg 7 ∷ []
unfolding further
without_a_key = refl

-- That goes before what is wrong after the buckets, or missing.
goes_first : further (under []) on_ed25519 trusts (hex "d28443a10126a0 626869") ∷ further (under []) on_ed25519 trusts (hex "d28443a10126a0")
    ∷ further (under []) on_ed25519 trusts (hex "d28443a10127a0 626869") ∷ further (under []) on_ed25519 trusts (hex "d28443a10127a0")
    ∷ further (under []) on_ed25519 trusts (hex "d28443a10127a0 f6" ++ of_64) ∷ []
    ≡ refused UnknownAlg 7 ∷ refused UnknownAlg 7 ∷ refused WrongType 7 ∷ refused Truncated 7 ∷ refused Detached 7 ∷ []
unfolding further
goes_first = refl

-- A detached payload is signed where one in the message would be.
of_a_detached_payload : further (detached_setting (hex "6869") with_x) on_ed25519 knows (hex "d28443a10127a0 f6" ++ of_64)
    ∷ further (detached_setting (hex "6868") with_x) on_ed25519 knows (hex "d28443a10127a0 f6" ++ of_64)
    ∷ further (detached_setting (hex "6869") with_x) on_ed25519 knows (eddsa of_64) ∷ []
    ≡ authentic algorithms.EdDsa ∷ refused BadAuth 8 ∷ refused Attached 7 ∷ []
unfolding further
of_a_detached_payload = refl
