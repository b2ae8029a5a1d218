-- That a parser expects so many positions is what its calls come to.
use Rattle.std.proofs.Common.{◌≡◌, ◌∙◌, ℕ, zero, suc, ◌+◌, ◌≤◌, min, Option, Some, refl, ap, arith}
use Rattle.termwiz_timed.specs.Timed.{Timed}
use Rattle.hedrugal.specs.declared.parser_and_text.ParserAndText.{ParserAndText}
use Rattle.hedrugal.specs.QuestionCalls.{ExpectsMore, ForgetsAndExpects, expecting}

-- a parser beside the bytes of an event
abbrev pub beside : ParserAndText → Timed → ParserAndText
beside held parser = record held { parser = parser }

-- so many more calls lead from some positions to all
more_by_calls : (before : Timed) (after : ParserAndText) (n k total : ℕ) → n + k ≡ total → total ≤ 255
    → after.parser ≡ expecting before total → ExpectsMore n (Some (beside after (expecting before k))) (Some after)
more_by_calls before after zero k total count few is =
    let all : total ≡ k = omega (arith, count) in
    (is ∙ ap (expecting before) all, refl)
more_by_calls before after (suc n) k total count few is =
    let one : k + 1 ≡ min (k + 1) 255 = omega (arith, count, few) in
    let left : n + (k + 1) ≡ total = omega (arith, count) in
    (Some (beside after (expecting before (k + 1))), (ap (expecting before) one, refl), more_by_calls before after n (k + 1) total left few is)

-- what is expected now was forgotten and expected by calls
pub by_calls : (found : Option ParserAndText) (before after : ParserAndText) (count : ℕ) → found ≡ Some before → count ≤ 255
    → after.parser ≡ expecting before.parser count → after.text.items ≡ before.text.items → ForgetsAndExpects found count (Some after)
by_calls found before after count some few is text =
    let all : count + 0 ≡ count = omega arith in
    rw some (Some (beside after (expecting before.parser 0)), (refl, text), more_by_calls before.parser after count 0 count all few is)
