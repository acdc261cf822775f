-- Worked examples: the bytes that texts stand for.
use Rattle.std.proofs.Common.{◌≡◌, ◌∷◌, [], ◌++◌, codes, refl}
use Rattle.cose_text.specs.TextInput.{bytes_from, bytes_in, never}
use Rattle.cose_text.specs.declared.text_input.InputForm.TheVariants.{Base64url, Either, Hexadecimal}

-- RFC 4648 section 10: base64, with its padding, and base16.
rfc4648_base64_0 : bytes_in Base64url (codes "") ≡ codes ""
unfolding bytes_from
rfc4648_base64_0 = refl

rfc4648_base64_1 : bytes_in Base64url (codes "Zg==") ≡ codes "f"
unfolding bytes_from
rfc4648_base64_1 = refl

rfc4648_base64_2 : bytes_in Base64url (codes "Zm8=") ≡ codes "fo"
unfolding bytes_from
rfc4648_base64_2 = refl

rfc4648_base64_3 : bytes_in Base64url (codes "Zm9v") ≡ codes "foo"
unfolding bytes_from
rfc4648_base64_3 = refl

rfc4648_base64_4 : bytes_in Base64url (codes "Zm9vYg==") ≡ codes "foob"
unfolding bytes_from
rfc4648_base64_4 = refl

rfc4648_base64_5 : bytes_in Base64url (codes "Zm9vYmE=") ≡ codes "fooba"
unfolding bytes_from
rfc4648_base64_5 = refl

rfc4648_base64_6 : bytes_in Base64url (codes "Zm9vYmFy") ≡ codes "foobar"
unfolding bytes_from
rfc4648_base64_6 = refl

rfc4648_base16_1 : bytes_in Hexadecimal (codes "66") ≡ codes "f"
unfolding bytes_from
rfc4648_base16_1 = refl

rfc4648_base16_6 : bytes_in Hexadecimal (codes "666F6F626172") ≡ codes "foobar"
unfolding bytes_from
rfc4648_base16_6 = refl

-- The padding may be left out, as tokens have it.
without_padding : bytes_in Base64url (codes "Zm9vYg") ≡ codes "foob"
unfolding bytes_from
without_padding = refl

-- Section 5: `-` and `_`, which section 4 has as `+` and `/`.
last_characters : bytes_in Base64url (codes "-_8=") ≡ 251 ∷ 255 ∷ []
unfolding bytes_from
last_characters = refl

-- The same in base64.
last_characters_of_base64 : bytes_in Base64url (codes "+/8=") ≡ 251 ∷ 255 ∷ []
unfolding bytes_from
last_characters_of_base64 = refl

-- Lower case.
lower_case : bytes_in Hexadecimal (codes "d18443") ≡ 209 ∷ 132 ∷ 67 ∷ []
unfolding bytes_from
lower_case = refl

-- Line breaks, spaces and tabs stand for nothing: a text of two lines that end with CR LF.
line_breaks : bytes_in Hexadecimal (100 ∷ 49 ∷ 32 ∷ 56 ∷ 13 ∷ 10 ∷ 52 ∷ 9 ∷ 52 ∷ 51 ∷ 13 ∷ 10 ∷ []) ≡ 209 ∷ 132 ∷ 67 ∷ []
unfolding bytes_from
line_breaks = refl

-- A message in hexadecimal begins with 8, 9 or a letter up to d.
message_in_hexadecimal : bytes_in Either (codes "d18443") ≡ 209 ∷ 132 ∷ 67 ∷ []
unfolding bytes_from
message_in_hexadecimal = refl

-- The same in base64url.
message_in_base64url : bytes_in Either (codes "0YRD") ≡ 209 ∷ 132 ∷ 67 ∷ []
unfolding bytes_from
message_in_base64url = refl

-- An untagged message, an array, in both.
array_in_hexadecimal : bytes_in Either (codes "8440") ≡ 132 ∷ 64 ∷ []
unfolding bytes_from
array_in_hexadecimal = refl

-- In base64url.
array_in_base64url : bytes_in Either (codes "hEA") ≡ 132 ∷ 64 ∷ []
unfolding bytes_from
array_in_base64url = refl

-- A byte that is no character of base64url says that the input is CBOR: of this message the last bytes are letters.
message_in_cbor : bytes_in Either (209 ∷ 132 ∷ 65 ∷ 66 ∷ 10 ∷ []) ≡ 209 ∷ 132 ∷ 65 ∷ 66 ∷ 10 ∷ []
unfolding bytes_from
message_in_cbor = refl

-- A character that is none of its form ends what comes, though what follows is.
wrong_character : bytes_in Hexadecimal (codes "d1g443") ≡ (209 ∷ []) ++ never
unfolding bytes_from
wrong_character = refl

-- A digit is missing.
missing_digit : bytes_in Hexadecimal (codes "d18") ≡ (209 ∷ []) ++ never
unfolding bytes_from
missing_digit = refl

-- One character of four stands for no byte.
missing_character : bytes_in Base64url (codes "0YRDo") ≡ (209 ∷ 132 ∷ 67 ∷ []) ++ never
unfolding bytes_from
missing_character = refl

-- Nothing follows the padding.
after_padding : bytes_in Base64url (codes "Zg==Zg") ≡ (102 ∷ []) ++ never
unfolding bytes_from
after_padding = refl

-- It fills up four characters.
short_padding : bytes_in Base64url (codes "Zg=") ≡ (102 ∷ []) ++ never
unfolding bytes_from
short_padding = refl

-- A blank, and then no text.
blank_and_no_text : bytes_in Either (32 ∷ 209 ∷ []) ≡ never
unfolding bytes_from
blank_and_no_text = refl
