-- Claims on examples, by computing.
use Rattle.std.proofs.Common.{◌≡◌, ◌-◌, ◌^◌, ℕ, ℤ, pos, negsuc, List, [], ◌∷◌, ◌++◌, replicate, Option, Some, None, Ok, Err, map, refl}
use Rattle.std.specs.Str.{is_utf8, chars}
use Rattle.cose_head.specs.declared.reason.Reason.{Reason}
use Rattle.cose_head.specs.declared.reason.Reason.TheVariants as reasons
use Rattle.cose_head.specs.Head.{bare_head}
use Rattle.cose_head.specs.Item.{depth_of}
use Rattle.cose_head.specs.Reading.{read, head}
use Rattle.cose_head.specs.Placed.{look, children_of, items_from, head_of_item}
use Rattle.cose_map.specs.Map.Read.{Read, check_pairs}
use Rattle.cose_map.specs.Key.{key_of}
use Rattle.cose_map.specs.Key.Form.{key_table}
use Rattle.cose_map.specs.Key.Material.{material_of}
use Rattle.cose_map.specs.Key.Value.{elliptic, coordinate}
use Rattle.cose_cwt.specs.Claims.{ClaimsValue, claims_of, texts_from, iss_of, sub_of, auds_of, exp_of, nbf_of, iat_of, cti_of}
use Rattle.cose_cwt.specs.Claims.Form.{claims_table}
use Rattle.cose_cwt.specs.Confirmation.{CnfValue, confirmation_of, members_table}

-- The values of the claims.
pub record Said : Type 0 where
  pub iss : Option (List ℕ)
  pub sub : Option (List ℕ)
  pub auds : List (List ℕ)
  pub exp : Option ℤ
  pub nbf : Option ℤ
  pub iat : Option ℤ
  pub cti : Option (List ℕ)
  pub cnf : Option CnfValue

abbrev said_of : Read ClaimsValue → Read Said
said_of (Ok claims) = Ok (record {
  iss = iss_of claims;
  sub = sub_of claims;
  auds = auds_of claims;
  exp = exp_of claims;
  nbf = nbf_of claims;
  iat = iat_of claims;
  cti = cti_of claims;
  cnf = claims.confirmation;
})
said_of (Err refusal) = Err refusal

-- The claims of a payload, of a nesting of at most 4.
unfoldable pub said : List ℕ → Read Said
unfolding claims_of claims_table members_table confirmation_of texts_from key_of key_table material_of check_pairs children_of items_from look head_of_item bare_head read head depth_of is_utf8 chars lib.Utf8.encode
said bytes = said_of (claims_of 4 (record { bytes = bytes; place = 0 }))

abbrev pub refused : Reason → ℕ → Read Said
refused reason place = Err (record { reason = reason; place = place })

abbrev pub silent : Said
silent = record { iss = None; sub = None; auds = []; exp = None; nbf = None; iat = None; cti = None; cnf = None }

no_bytes : said [] ≡ refused reasons.PastRoom 0
unfolding said
no_bytes = refl

a_number : said (0 ∷ []) ≡ refused reasons.NotMap 0
unfolding said
a_number = refl

another_tag : said (0xc1 ∷ 0xa0 ∷ []) ≡ refused reasons.NotMap 0
unfolding said
another_tag = refl

-- A token in a token is refused as such, where no byte follows it.
nested : said (0xd8 ∷ 0x3d ∷ 0 ∷ []) ≡ refused reasons.NestedCwt 0
unfolding said
nested = refl

nested_and_more : said (0xd8 ∷ 0x3d ∷ 0 ∷ 0 ∷ []) ≡ refused reasons.Trailing 3
unfolding said
nested_and_more = refl

nested_mac : said (0xd1 ∷ 0 ∷ []) ≡ refused reasons.NestedCwt 0
unfolding said
nested_mac = refl

byte_after : said (0xa0 ∷ 0 ∷ []) ≡ refused reasons.Trailing 1
unfolding said
byte_after = refl

too_deep : said (0xa1 ∷ 0x18 ∷ 0x64 ∷ 0x81 ∷ 0x81 ∷ 0x81 ∷ 0x81 ∷ 0 ∷ []) ≡ refused reasons.TooDeep 6
unfolding said
too_deep = refl

many_pairs : said (0xbb ∷ 0xff ∷ 0xff ∷ 0xff ∷ 0xff ∷ 0xff ∷ 0xff ∷ 0xff ∷ 0xff ∷ []) ≡ refused reasons.PastRoom 0
unfolding said
many_pairs = refl

indefinite : said (0xbf ∷ []) ≡ refused reasons.Indefinite 0
unfolding said
indefinite = refl

no_claims : said (0xa0 ∷ []) ≡ Ok silent
unfolding said
no_claims = refl

-- Other claims have any value.
unknown_claim : said (0xa1 ∷ 0x18 ∷ 0x64 ∷ 0xf9 ∷ 0x3c ∷ 0 ∷ []) ≡ Ok silent
unfolding said
unknown_claim = refl

label_of_bytes : said (0xa1 ∷ 0x40 ∷ 0 ∷ []) ≡ refused reasons.BadLabel 1
unfolding said
label_of_bytes = refl

label_twice : said (0xa2 ∷ 4 ∷ 0 ∷ 0x18 ∷ 4 ∷ 0 ∷ []) ≡ refused reasons.DuplicateLabel 3
unfolding said
label_twice = refl

issuer_of_no_text : said (0xa1 ∷ 1 ∷ 0 ∷ []) ≡ refused reasons.BadValue 2
unfolding said
issuer_of_no_text = refl

issuer_of_bad_text : said (0xa1 ∷ 1 ∷ 0x61 ∷ 0xff ∷ []) ≡ refused reasons.BadValue 2
unfolding said
issuer_of_bad_text = refl

float_date : said (0xa1 ∷ 4 ∷ 0xf9 ∷ 0x3c ∷ 0 ∷ []) ≡ refused reasons.FloatDate 2
unfolding said
float_date = refl

tagged_date : said (0xa1 ∷ 4 ∷ 0xc1 ∷ 0x1a ∷ 0x56 ∷ 0x12 ∷ 0xae ∷ 0xb0 ∷ []) ≡ refused reasons.TaggedDate 2
unfolding said
tagged_date = refl

other_tag_on_a_date : said (0xa1 ∷ 4 ∷ 0xc0 ∷ 0 ∷ []) ≡ refused reasons.BadValue 2
unfolding said
other_tag_on_a_date = refl

empty_audience : said (0xa1 ∷ 3 ∷ 0x80 ∷ []) ≡ refused reasons.BadValue 2
unfolding said
empty_audience = refl

audience_with_a_number : said (0xa1 ∷ 3 ∷ 0x82 ∷ 0x61 ∷ 0x61 ∷ 0 ∷ []) ≡ refused reasons.BadValue 2
unfolding said
audience_with_a_number = refl

two_audiences : said (0xa1 ∷ 3 ∷ 0x82 ∷ 0x61 ∷ 0x61 ∷ 0x61 ∷ 0x62 ∷ []) ≡ Ok (record silent { auds = (0x61 ∷ []) ∷ (0x62 ∷ []) ∷ [] })
unfolding said
two_audiences = refl

latest_date : said (0xa1 ∷ 4 ∷ 0x1b ∷ 0xff ∷ 0xff ∷ 0xff ∷ 0xff ∷ 0xff ∷ 0xff ∷ 0xff ∷ 0xff ∷ []) ≡ Ok (record silent { exp = Some (pos (2 ^ 64 - 1)) })
unfolding said
latest_date = refl

earliest_date : said (0xa1 ∷ 5 ∷ 0x3b ∷ 0xff ∷ 0xff ∷ 0xff ∷ 0xff ∷ 0xff ∷ 0xff ∷ 0xff ∷ 0xff ∷ []) ≡ Ok (record silent { nbf = Some (negsuc (2 ^ 64 - 1)) })
unfolding said
earliest_date = refl

-- The claims of RFC 8392 appendix A.1.
examples : said (
    0xa7 ∷ 1 ∷ 0x75 ∷ 0x63 ∷ 0x6f ∷ 0x61 ∷ 0x70 ∷ 0x3a ∷ 0x2f ∷ 0x2f ∷ 0x61 ∷ 0x73 ∷ 0x2e ∷ 0x65 ∷ 0x78 ∷ 0x61 ∷ 0x6d ∷ 0x70 ∷ 0x6c ∷ 0x65 ∷ 0x2e ∷ 0x63 ∷ 0x6f ∷ 0x6d ∷ 2 ∷ 0x65 ∷ 0x65 ∷ 0x72 ∷ 0x69 ∷ 0x6b ∷ 0x77 ∷ 3 ∷ 0x78 ∷ 0x18 ∷ 0x63 ∷ 0x6f ∷ 0x61 ∷ 0x70 ∷ 0x3a ∷ 0x2f ∷
    0x2f ∷ 0x6c ∷ 0x69 ∷ 0x67 ∷ 0x68 ∷ 0x74 ∷ 0x2e ∷ 0x65 ∷ 0x78 ∷ 0x61 ∷ 0x6d ∷ 0x70 ∷ 0x6c ∷ 0x65 ∷ 0x2e ∷ 0x63 ∷ 0x6f ∷ 0x6d ∷ 4 ∷ 0x1a ∷ 0x56 ∷ 0x12 ∷ 0xae ∷ 0xb0 ∷ 5 ∷ 0x1a ∷ 0x56 ∷ 0x10 ∷ 0xd9 ∷ 0xf0 ∷ 6 ∷ 0x1a ∷ 0x56 ∷ 0x10 ∷ 0xd9 ∷ 0xf0 ∷ 7 ∷ 0x42 ∷ 0xb ∷ 0x71 ∷ []) ≡ Ok (record {
      iss = Some (0x63 ∷ 0x6f ∷ 0x61 ∷ 0x70 ∷ 0x3a ∷ 0x2f ∷ 0x2f ∷ 0x61 ∷ 0x73 ∷ 0x2e ∷ 0x65 ∷ 0x78 ∷ 0x61 ∷ 0x6d ∷ 0x70 ∷ 0x6c ∷ 0x65 ∷ 0x2e ∷ 0x63 ∷ 0x6f ∷ 0x6d ∷ []);
      sub = Some (0x65 ∷ 0x72 ∷ 0x69 ∷ 0x6b ∷ 0x77 ∷ []);
      auds = (0x63 ∷ 0x6f ∷ 0x61 ∷ 0x70 ∷ 0x3a ∷ 0x2f ∷ 0x2f ∷ 0x6c ∷ 0x69 ∷ 0x67 ∷ 0x68 ∷ 0x74 ∷ 0x2e ∷ 0x65 ∷ 0x78 ∷ 0x61 ∷ 0x6d ∷ 0x70 ∷ 0x6c ∷ 0x65 ∷ 0x2e ∷ 0x63 ∷ 0x6f ∷ 0x6d ∷ []) ∷ [];
      exp = Some (pos 1444064944);
      nbf = Some (pos 1443944944);
      iat = Some (pos 1443944944);
      cti = Some (0xb ∷ 0x71 ∷ []);
      cnf = None;
    })
unfolding said
examples = refl

-- Confirmations (RFC 8747 section 3).
no_map : said (0xa1 ∷ 8 ∷ 0 ∷ []) ≡ refused reasons.BadValue 2
unfolding said
no_map = refl

no_member : said (0xa1 ∷ 8 ∷ 0xa0 ∷ []) ≡ Ok (record silent { cnf = Some (record { key = None; kid = None }) })
unfolding said
no_member = refl

identifier : said (0xa1 ∷ 8 ∷ 0xa1 ∷ 3 ∷ 0x41 ∷ 0x31 ∷ []) ≡ Ok (record silent { cnf = Some (record { key = None; kid = Some (0x31 ∷ []) }) })
unfolding said
identifier = refl

identifier_of_no_bytes : said (0xa1 ∷ 8 ∷ 0xa1 ∷ 3 ∷ 0 ∷ []) ≡ refused reasons.BadValue 4
unfolding said
identifier_of_no_bytes = refl

encrypted_key : said (0xa1 ∷ 8 ∷ 0xa1 ∷ 2 ∷ 0x80 ∷ []) ≡ refused reasons.EncryptedKey 3
unfolding said
encrypted_key = refl

two_keys : said (0xa1 ∷ 8 ∷ 0xa2 ∷ 1 ∷ 0xa0 ∷ 2 ∷ 0x80 ∷ []) ≡ refused reasons.BadConfirmation 2
unfolding said
two_keys = refl

symmetric_key : said (0xa1 ∷ 8 ∷ 0xa1 ∷ 1 ∷ 0xa2 ∷ 1 ∷ 4 ∷ 0x20 ∷ 0x41 ∷ 0x61 ∷ []) ≡ refused reasons.PlainKey 4
unfolding said
symmetric_key = refl

key_of_another_type : said (0xa1 ∷ 8 ∷ 0xa1 ∷ 1 ∷ 0xa1 ∷ 1 ∷ 1 ∷ []) ≡ refused reasons.BadConfirmation 4
unfolding said
key_of_another_type = refl

-- All labels of the confirmation have precedence over the values.
member_twice : said (0xa1 ∷ 8 ∷ 0xa2 ∷ 3 ∷ 0 ∷ 3 ∷ 0 ∷ []) ≡ refused reasons.DuplicateLabel 5
unfolding said
member_twice = refl

member_of_no_label : said (0xa1 ∷ 8 ∷ 0xa2 ∷ 3 ∷ 0 ∷ 0x40 ∷ 0 ∷ []) ≡ refused reasons.BadLabel 5
unfolding said
member_of_no_label = refl

-- All claims have precedence over the confirmation, wherever it is in the map.
issuer_after_confirmation : said (0xa2 ∷ 8 ∷ 0xa1 ∷ 1 ∷ 0xa2 ∷ 1 ∷ 4 ∷ 0x20 ∷ 0x41 ∷ 0x61 ∷ 1 ∷ 0 ∷ []) ≡ refused reasons.BadValue 11
unfolding said
issuer_after_confirmation = refl

-- A key on P-256.
public_key : said (0xa1 ∷ 8 ∷ 0xa1 ∷ 1 ∷ 0xa4 ∷ 1 ∷ 2 ∷ 0x20 ∷ 1 ∷ 0x21 ∷ 0x58 ∷ 0x20 ∷ (replicate 32 7 ++ 0x22 ∷ 0x58 ∷ 0x20 ∷ replicate 32 9)) ≡
    Ok (record silent {
      cnf = Some (record {
        key = Some (record { kid = None; alg = None; operations = None; material = elliptic 1 (replicate 32 7) (coordinate (replicate 32 9)) });
        kid = None;
      });
    })
unfolding said
public_key = refl

-- A key on P-384, and one on P-521, with coordinates of these lengths.
abbrev confirming : ℕ → ℕ → List ℕ
confirming curve size = 0xa1 ∷ 8 ∷ 0xa1 ∷ 1 ∷ 0xa4 ∷ 1 ∷ 2 ∷ 0x20 ∷ curve ∷ 0x21 ∷ 0x58 ∷ size ∷ (replicate size 7 ++ 0x22 ∷ 0x58 ∷ size ∷ replicate size 9)

abbrev confirms : ℕ → ℕ → Said
confirms curve size = record silent {
  cnf = Some (record {
    key = Some (record { kid = None; alg = None; operations = None; material = elliptic curve (replicate size 7) (coordinate (replicate size 9)) });
    kid = None;
  });
}

public_keys : map said (confirming 2 48 ∷ confirming 3 66 ∷ []) ≡ Ok (confirms 2 48) ∷ Ok (confirms 3 66) ∷ []
unfolding said
public_keys = refl

-- Coordinates of other lengths, and X25519 (curve 4).
no_public_keys : map said (confirming 2 32 ∷ confirming 3 64 ∷ confirming 4 32 ∷ []) ≡ replicate 3 (refused reasons.BadConfirmation 4)
unfolding said
no_public_keys = refl
