-- The lines so far and those of the texts that are left are all lines.
use Rattle.std.proofs.Common.{◌≡◌, ◌++◌, map, codes, string_bytes}
use Rattle.std.specs.List.{concat}
use Rattle.cose_cwt.specs.Claims.Audience.{texts_left}
use Rattle.cose_answers.specs.Admitted.{text_line}
use Rattle.cose_answers.proofs.answers.cwt.push_audience.Given as goal

abbrev pub invariant-texts : goal.invariant-texts
invariant-texts l =
    string_bytes l.lines ++ concat (map (text_line l.readable (codes "aud")) (texts_left l.text-iterator)) ≡
    string_bytes l.fn.lines ++ concat (map (text_line l.readable (codes "aud")) (texts_left l.fn.texts))
