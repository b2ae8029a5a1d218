-- No row of the sequence table is like a written key report, so that it is read as one wherever more than the port's sequences is.
use Rattle.std.proofs.Common.{◌≡◌, ◌≢◌, ℕ, ◌+◌, ◌<◌, ◌≤◌, Bool, true, false, not, ◌&&◌, ◌||◌, List, [], ◌∷◌, ◌++◌, length, refl, sym, ap, ◌∙◌, arith, nat_lt, nat_le, Some, Contains}
use Rattle.std.specs.Prelude.{◌==◌, if◌then◌else◌}
use Rattle.std.specs.List.{AllByRecursion, list_all}
use Rattle.std.proofs.lemmas.Bool.{or_left, or_right, and_from}
use Rattle.std.proofs.lemmas.Bool.Decides.{nat_tests}
use Rattle.termwiz_keys.specs.declared.types.KeyEvent.{KeyEvent}
use Rattle.termwiz_grammar.specs.Sequences.{Meaning, IsSequence}
use Rattle.termwiz_grammar.specs.Sequences.Meaning.{Row, Report}
use Rattle.termwiz_grammar.specs.Table.{rows, written_out}
use Rattle.termwiz_grammar.proofs.lemmas.mouse.OneReport.{report_plain}
use Rattle.termwiz_extended_events.specs.declared.types.KeyReport.{KeyReport}
use Rattle.termwiz_extended_events.specs.declared.types.Event.TheVariants.{Key}
use Rattle.termwiz_extended_events.specs.declared.types.Reading.{Reading}
use Rattle.termwiz_extended_events.specs.KeyReports.{key_report}
use Rattle.termwiz_extended_grammar.specs.Forms.IsForm.{control}
use Rattle.termwiz_extended_grammar.specs.ExtendedGrammar.{Means}
use Rattle.termwiz_extended_grammar.specs.Readings.{ReadsMore, is_asking}
use Rattle.termwiz_extended_grammar.proofs.lemmas.forms.ExtraFacts.{free_from_none}
use Rattle.termwiz_kitty.proofs.lemmas.read_back.SequenceForms.{IsParameter, IsKeyEnd, written, is_control}
use Rattle.termwiz_kitty.proofs.lemmas.read_back.SequencesMean.{means_alone}
use Rattle.termwiz_kitty.proofs.lemmas.read_back.WrittenReports.{event_back}
use Rattle.termwiz_event_laws.proofs.lemmas.ReportRows.{row_passes}

-- a colon
abbrev pub has_colon : List ℕ → Bool
has_colon [] = false
has_colon (x ∷ t) = (x == 58) || has_colon t

abbrev pub semicolons : List ℕ → ℕ
semicolons [] = 0
semicolons (x ∷ t) = (if x == 59 then 1 else 0) + semicolons t

abbrev ends_in_u : List ℕ → Bool
ends_in_u [] = false
ends_in_u (x ∷ []) = x == 117
ends_in_u (x ∷ y ∷ t) = ends_in_u (y ∷ t)

-- what no row has after ESC [: a colon, three fields and the letter u, or so many bytes
abbrev pub is_odd : List ℕ → Bool
is_odd t = has_colon t || ((nat_le 2 (semicolons t) && ends_in_u t) || nat_lt 9 (length t))

abbrev is_like_this : List ℕ → Bool
is_like_this (escape ∷ bracket ∷ t) = (escape == 27) && (bracket == 91) && is_odd t
is_like_this _ = false

no_row_like_this : list_all (λ r. not (is_like_this r.0)) rows ≡ true
unfolding written_out
no_row_like_this = refl

no_row : (t : List ℕ) (k : KeyEvent) → is_odd t ≡ true → Contains rows (27 ∷ 91 ∷ t, k) → ⊥
no_row t k odd row =
    let passes : not (is_odd t) ≡ true = row_passes (λ t. not (is_like_this t)) (27 ∷ 91 ∷ t) k no_row_like_this row in
    let both : not true ≡ true = ap not (sym odd) ∙ passes in cc (both)

-- nor is a mouse report
no_sign : (body : List ℕ) (l : ℕ) (t : List ℕ) → AllByRecursion IsParameter body → IsKeyEnd l → body ++ l ∷ [] ≡ 60 ∷ t → ⊥
no_sign [] l t a end e = (let same : l ≡ 60 = cc (e) in omega (arith, end.0))
no_sign (y ∷ body) l t a end e = (let same : y ≡ 60 = cc (e) in let is : IsParameter y = a.0 in omega arith)

no_sequence : (body : List ℕ) (l : ℕ) → AllByRecursion IsParameter body → IsKeyEnd l → is_odd (body ++ l ∷ []) ≡ true
    → (m : Meaning) → IsSequence (written body l) m → ⊥
unfolding IsSequence
no_sequence body l a end odd (Row k) row = no_row (body ++ l ∷ []) k odd row
no_sequence body l a end odd (Report r) report =
    (let plain = report_plain (written body l) r report in no_sign body l plain.0 a end (cc (plain.1)))

-- so it means its report
pub odd_means : (reading : Reading) (body : List ℕ) (l : ℕ) (r : KeyReport) (more : Bool) → ReadsMore reading → AllByRecursion IsParameter body → IsKeyEnd l
    → l ≢ 73 → l ≢ 79 → length (written body l) ≤ 256 → is_odd (body ++ l ∷ []) ≡ true → key_report (body ++ l ∷ []) ≡ Some r
    → Means reading (written body l) more (Key r ∷ []) []
odd_means reading body l r more reads a end gained lost short odd e = means_alone reading (written body l) more (Key r) (record {
  reads = reads;
  is_form = control (is_control body l a end short);
  is_free = free_from_none reading (written body l) (no_sequence body l a end odd);
  means = sym (event_back (is_asking reading) body l r gained lost e);
})

-- what is odd

pub colon_within : (s t : List ℕ) → has_colon (s ++ 58 ∷ t) ≡ true
colon_within [] t = refl
colon_within (x ∷ s) t = or_right (x == 58) (has_colon (s ++ 58 ∷ t)) (colon_within s t)

pub colon_before : (s t : List ℕ) → has_colon s ≡ true → has_colon (s ++ t) ≡ true
colon_before [] t e = absurd (cc (e))
colon_before (x ∷ s) t e = go (x == 58) refl (colon_before s t)
  where
    go : (b : Bool) → (x == 58) ≡ b → (has_colon s ≡ true → has_colon (s ++ t) ≡ true) → ((x == 58) || has_colon (s ++ t)) ≡ true
    go true same later = or_left (x == 58) (has_colon (s ++ t)) same
    go false other later = or_right (x == 58) (has_colon (s ++ t)) (later (rw other at e))

pub colon_after : (s t : List ℕ) → has_colon t ≡ true → has_colon (s ++ t) ≡ true
colon_after [] t e = e
colon_after (x ∷ s) t e = or_right (x == 58) (has_colon (s ++ t)) (colon_after s t e)

pub colon_is_odd : (t : List ℕ) → has_colon t ≡ true → is_odd t ≡ true
colon_is_odd t e = or_left (has_colon t) ((nat_le 2 (semicolons t) && ends_in_u t) || nat_lt 9 (length t)) e

semicolons-append : (s t : List ℕ) → semicolons (s ++ t) ≡ semicolons s + semicolons t
semicolons-append [] t = omega arith
semicolons-append (x ∷ s) t = omega (arith, semicolons-append s t)

ends : (body : List ℕ) → ends_in_u (body ++ 117 ∷ []) ≡ true
ends [] = refl
ends (x ∷ []) = refl
ends (x ∷ y ∷ body) = ends (y ∷ body)

-- three fields and the letter u
pub fields_are_odd : (a b c : List ℕ) → is_odd ((a ++ 59 ∷ (b ++ 59 ∷ c)) ++ 117 ∷ []) ≡ true
fields_are_odd a b c =
    let two : 2 ≤ semicolons ((a ++ 59 ∷ (b ++ 59 ∷ c)) ++ 117 ∷ []) = omega (
      arith,
      semicolons-append (a ++ 59 ∷ (b ++ 59 ∷ c)) (117 ∷ []),
      semicolons-append a (59 ∷ (b ++ 59 ∷ c)),
      semicolons-append b (59 ∷ c),
    ) in
    let many : nat_le 2 (semicolons ((a ++ 59 ∷ (b ++ 59 ∷ c)) ++ 117 ∷ [])) ≡ true = grind (arith, nat_tests) in
    or_right (has_colon ((a ++ 59 ∷ (b ++ 59 ∷ c)) ++ 117 ∷ [])) _ (or_left _ _ (and_from _ _ many (ends (a ++ 59 ∷ (b ++ 59 ∷ c)))))

pub long_is_odd : (t : List ℕ) → 9 < length t → is_odd t ≡ true
long_is_odd t long =
    let many : nat_lt 9 (length t) ≡ true = grind (arith, nat_tests) in
    or_right (has_colon t) _ (or_right _ _ many)
