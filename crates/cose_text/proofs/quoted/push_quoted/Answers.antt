use Rattle.std.proofs.Common.{◌≡◌, ap, sym, subst, ◌∙◌}
use Rattle.std.specs.Str.{IsUtf8}
use Rattle.std.specs.Str.Iter.{chars_rest}
use Rattle.std.proofs.lemmas.Str.{IsUtf8-past_char}
use Rattle.cose_text.proofs.Texts.{append_last, no_char_left, one_char_more, quote_before}
use Rattle.cose_text.proofs.quoted.push_quoted.Goals as goal

pub chars-init : goal.chars-init
chars-init c =
    let same : chars_rest c.into_iter-ch-iterator.result ≡ c.args.content.now = ap chars_rest c.into_iter-ch-iterator.ensures.into_iter_gives ∙ c.chars-ch-items.ensures.rest in
    record {
      utf8 = subst IsUtf8 (sym same) c.utf8.content;
      all = quote_before _ _ _ _ c.in_ok-push_str.ensures.bytes same;
    }

pub chars-preserved : goal.chars-preserved
chars-preserved c = record {
  utf8 = IsUtf8-past_char _ _ c.in-Some.ch c.chars.invariant.utf8 c.in-Some.ensures.steps.0;
  all = one_char_more _ _ _ _ _ c.in-Some.ch c.chars.invariant.utf8 c.in-Some.ensures.steps.0 c.in_ok-push_char.ensures c.chars.invariant.all;
}

pub returns : goal.returns
returns c = append_last _ _ _ _ (c.in_ok-push_str-2.ensures.bytes) (no_char_left _ _ _ c.in-None.ensures.steps.0.0 c.chars.invariant.all)
