use Rattle.std.proofs.Common.{refl, ap, subst, ◌∙◌}
use Rattle.std.specs.Prelude.{length, min, ◌-◌, ◌^◌}
use Rattle.cose_map.specs.Map.Pairs.{value_of}
use Rattle.cose_cwt.specs.Claims.{texts_at}
use Rattle.cose_cwt.specs.Claims.Known.{KnownValue}
use Rattle.cose_cwt.specs.Claims.Labels as names
use Rattle.cose_cwt.specs.Claims.View.{claims_value}
use Rattle.cose_c.specs.CoseClaims.{LiesIn, StartsInside, audience_item, bytes_range, date_numbers, date_value, text_range}
use Rattle.cose_c.proofs.Strings.{audience_range, bytes_claim_range, cnf_range, text_claim_range}
use Rattle.cose_c.proofs.claims.claims_for_c.Goals as goal

pub returns : goal.returns
returns c = λ depth shallow read.
    let value = claims_value c.args.claims.now in
    let tree = c.claims_are_of_a_tree.ensures in
    let ends = c.children_are_of_tree.ensures.inside in
    let payload = c.args.payload.now in
    let known = c.known-known.ensures in
    record {
      status = refl;
      no_reason = refl;
      no_place = refl;
      iss = text_claim_range tree ends depth payload value shallow read names.iss (value_of names.iss value.pairs) c.text_range-iss.result refl (c.text_range-iss.ensures.value ∙ ap (λ (k : KnownValue). text_range k.iss) known)
          (subst (λ (k : KnownValue). StartsInside k.iss c.text_range-iss.result) known c.text_range-iss.ensures.inside);
      sub = text_claim_range tree ends depth payload value shallow read names.sub (value_of names.sub value.pairs) c.text_range-sub.result refl (c.text_range-sub.ensures.value ∙ ap (λ (k : KnownValue). text_range k.sub) known)
          (subst (λ (k : KnownValue). StartsInside k.sub c.text_range-sub.result) known c.text_range-sub.ensures.inside);
      aud = audience_range tree ends depth payload value shallow read 0 (value_of names.aud value.pairs) c.texts_of-texts.result.first refl
          (c.texts_of-texts.ensures.first ∙ ap (λ (k : KnownValue). text_range (audience_item 0 k.aud)) known)
          (subst (λ (k : KnownValue). StartsInside (audience_item 0 k.aud) c.texts_of-texts.result.first) known c.texts_of-texts.ensures.inside);
      cti = bytes_claim_range tree ends depth payload value shallow read names.cti (value_of names.cti value.pairs) c.bytes_range-cti.result refl (c.bytes_range-cti.ensures.value ∙ ap (λ (k : KnownValue). bytes_range k.cti) known)
          (subst (λ (k : KnownValue). StartsInside k.cti c.bytes_range-cti.result) known c.bytes_range-cti.ensures.inside);
      aud_count = c.texts_of-texts.ensures.count ∙ ap (λ (k : KnownValue). min (length (texts_at k.aud)) (2 ^ 64 - 1)) known;
      exp = c.date_in-exp.ensures ∙ ap (λ (k : KnownValue). date_numbers (date_value k.exp)) known;
      nbf = c.date_in-nbf.ensures ∙ ap (λ (k : KnownValue). date_numbers (date_value k.nbf)) known;
      iat = c.date_in-iat.ensures ∙ ap (λ (k : KnownValue). date_numbers (date_value k.iat)) known;
      cnf_crv = c.point_confirmed-point.ensures.crv;
      cnf_y_sign = c.point_confirmed-point.ensures.y_sign;
      cnf_kid = cnf_range tree ends depth payload value shallow read (value_of names.cnf value.pairs) c.strings_of-strings.result.kid refl (subst (λ (k : KnownValue). LiesIn k.cnf c.strings_of-strings.result.kid) known c.strings_of-strings.ensures.kid);
      cnf_x = cnf_range tree ends depth payload value shallow read (value_of names.cnf value.pairs) c.strings_of-strings.result.key.x refl (subst (λ (k : KnownValue). LiesIn k.cnf c.strings_of-strings.result.key.x) known c.strings_of-strings.ensures.x);
      cnf_y = cnf_range tree ends depth payload value shallow read (value_of names.cnf value.pairs) c.strings_of-strings.result.key.y refl (subst (λ (k : KnownValue). LiesIn k.cnf c.strings_of-strings.result.key.y) known c.strings_of-strings.ensures.y);
    }
