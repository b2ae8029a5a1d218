-- The longest beginning of a mouse report waits, alone and after one Escape.
use Rattle.std.proofs.Common.{◌≡◌, inl, ℕ, Bool, true, List, [], ◌∷◌, ◌++◌, refl, arith, ◌&&◌, nat_lt}
use Rattle.std.specs.Prelude.{codes}
use Rattle.std.specs.List.{AllByRecursion, list_all}
use Rattle.std.proofs.lemmas.Bool.{and_parts}
use Rattle.std.proofs.lemmas.Bool.Decides.{nat_tests}
use Rattle.termwiz_base.specs.Mouse.{largest_code}
use Rattle.termwiz_keys.specs.Introducers.{ESC}
use Rattle.termwiz_grammar.specs.MouseReports.{IsDigit, IsNumber, IsMouseReport, value_of, largest_place, mouse_event}
use Rattle.termwiz_grammar.specs.Sequences.{IsSequence}
use Rattle.termwiz_grammar.specs.Sequences.Meaning.{Report}
use Rattle.termwiz_grammar.specs.Grammar.{IsBeginning, IsOpen}
use Rattle.termwiz_grammar.specs.Laws.{longest_beginning, MostWait}
use Rattle.termwiz_grammar.proofs.lemmas.waiting.RestShape.{held_escape_rests}
use Rattle.termwiz_grammar.proofs.lemmas.read_back.WholeTexts.{escape_alone}

abbrev is_digit : ℕ → Bool
is_digit b = nat_lt 47 b && nat_lt b 58

digits_from_test : (t : List ℕ) → list_all is_digit t ≡ true → AllByRecursion IsDigit t
digits_from_test [] e = tt
digits_from_test (x ∷ t) e =
    let parts = and_parts (is_digit x) (list_all is_digit t) e in
    let first : nat_lt 47 x && nat_lt x 58 ≡ true = parts.0 in
    ((grind (arith, nat_tests), grind (arith, nat_tests)), digits_from_test t parts.1)

code_number : IsNumber (codes "00095") largest_code
code_number = record {
  some = omega arith;
  short = omega arith;
  each = digits_from_test (codes "00095") refl;
  within = (let e : value_of (codes "00095") ≡ 95 = refl in omega (arith, e));
}

place_number : IsNumber (codes "65535") largest_place
place_number = record {
  some = omega arith;
  short = omega arith;
  each = digits_from_test (codes "65535") refl;
  within = (let e : value_of (codes "65535") ≡ 65535 = refl in omega (arith, e));
}

longest_report : IsMouseReport (longest_beginning ++ codes "M") (mouse_event 95 65535 65535 77)
longest_report = record {
  code = codes "00095";
  x = codes "65535";
  y = codes "65535";
  last = 77;
  form = refl;
  code_is = code_number;
  x_is = place_number;
  y_is = place_number;
  last_is = inl refl;
  means = refl;
}

begins : IsBeginning longest_beginning
unfolding IsSequence
begins = inl (record {
  tail = codes "M";
  longer = λ h. cc (h);
  meaning = Report (mouse_event 95 65535 65535 77);
  is_sequence = longest_report;
})

open' : IsOpen longest_beginning true
open' = record { more_comes = refl; some = λ h. cc (h); beginning = begins }

pub most_wait : MostWait
most_wait = record {
  as_many = refl;
  begins = begins;
  alone = λ bytes event stands. stands.closed open';
  after_escape = held_escape_rests (ESC ++ longest_beginning) longest_beginning true
      (escape_alone 27 (codes "[<00095;65535;65535") (inl (omega arith))) refl (λ h. cc (h)) open';
}
