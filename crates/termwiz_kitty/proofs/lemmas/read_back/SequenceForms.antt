-- A written sequence has the form of a control sequence, and no row of the port that it may be keeps its key.
use Rattle.std.proofs.Common.{◌≡◌, ◌≢◌, ℕ, ◌<◌, ◌≤◌, Bool, List, [], ◌∷◌, ◌++◌, length, refl, sym, ◌∙◌, subst, arith, append_assoc}
use Rattle.std.specs.List.{AllByRecursion}
use Rattle.termwiz_keymap.proofs.lemmas.lists.CommonPrefixes.{append-some, true_from}
use Rattle.termwiz_grammar.specs.Sequences.{IsSequence}
use Rattle.termwiz_grammar.specs.Sequences.Meaning.{Row, Report}
use Rattle.termwiz_grammar.proofs.lemmas.mouse.OneReport.{report_plain}
use Rattle.termwiz_extended_events.specs.declared.types.Event.{Event}
use Rattle.termwiz_extended_events.specs.declared.types.Reading.{Reading}
use Rattle.termwiz_extended_events.specs.Meanings.{IsKeyOrPosition}
use Rattle.termwiz_extended_grammar.specs.Forms.{IsInner, IsControl}
use Rattle.termwiz_extended_grammar.specs.Forms.IsForm.{control}
use Rattle.termwiz_extended_grammar.specs.ExtraSequences.{IsFree, IsExtra}
use Rattle.termwiz_extended_grammar.specs.Readings.{ReadsMore, event_in}

-- a digit, a colon or a semicolon
abbrev pub IsParameter : ℕ → Type 0
IsParameter b = (48 ≤ b) × (b ≤ 59)

-- the last byte: no M or [, by which other sequences begin
abbrev pub IsKeyEnd : ℕ → Type 0
IsKeyEnd l = (64 ≤ l) × (l ≤ 126) × (l ≢ 77) × (l ≢ 91)

-- a written sequence: parameters and the last byte
abbrev pub written : List ℕ → ℕ → List ℕ
written body l = 27 ∷ 91 ∷ (body ++ l ∷ [])

inner : (b : ℕ) → IsParameter b → IsInner b
inner b p = (omega arith, omega arith)

-- what the text doesn't begin with
no_sign : (body : List ℕ) (l : ℕ) (t : List ℕ) → AllByRecursion IsParameter body → IsKeyEnd l → body ++ l ∷ [] ≡ 60 ∷ t → ⊥
no_sign [] l t a end e = let same : l ≡ 60 = cc (e) in omega (arith, end.0)
no_sign (y ∷ body) l t a end e = let same : y ≡ 60 = cc (e) in let is : IsParameter y = a.0 in omega arith

no_dollar : (body : List ℕ) (l x : ℕ) (t : List ℕ) → AllByRecursion IsParameter body → IsKeyEnd l
    → body ++ l ∷ [] ≡ x ∷ 36 ∷ t → ⊥
no_dollar [] l x t a end e = cc (e)
no_dollar (y ∷ []) l x t a end e = let same : l ≡ 36 = cc (e) in omega (arith, end.0)
no_dollar (y ∷ z ∷ body) l x t a end e = let same : z ≡ 36 = cc (e) in let is : IsParameter z = a.1.0 in omega arith

no_letter : (body : List ℕ) (l x : ℕ) (t : List ℕ) → AllByRecursion IsParameter body → 59 < x → l ≢ x
    → body ++ l ∷ [] ≡ x ∷ t → ⊥
no_letter [] l x t a high n e = n (cc (e))
no_letter (y ∷ body) l x t a high n e = let same : y ≡ x = cc (e) in let is : IsParameter y = a.0 in omega arith

-- nor a $ anywhere
no_shift : (number body : List ℕ) (l : ℕ) (t : List ℕ) → AllByRecursion IsParameter body → IsKeyEnd l
    → body ++ l ∷ [] ≡ number ++ 36 ∷ t → ⊥
no_shift [] [] l t a end e = let same : l ≡ 36 = cc (e) in omega (arith, end.0)
no_shift [] (y ∷ body) l t a end e = let same : y ≡ 36 = cc (e) in let is : IsParameter y = a.0 in omega arith
no_shift (x ∷ number) [] l t a end e = append-some number (36 ∷ t) (λ h. cc (h)) (cc (e))
no_shift (x ∷ number) (y ∷ body) l t a end e = no_shift number body l t a.1 end (cc (e))

pub is_control : {x10_mouse : Bool} (body : List ℕ) (l : ℕ) → AllByRecursion IsParameter body → IsKeyEnd l
    → length (written body l) ≤ 256 → IsControl x10_mouse (written body l)
is_control body l a end short = record {
  inner = body;
  last = l;
  form = refl;
  each = true_from IsParameter IsInner inner body a;
  last_is = (end.0, end.1);
  short = short;
  no_mouse = λ on. λ (t, e). no_letter body l 77 t a (omega arith) end.2 (cc (e));
  no_console = λ (t, e). no_letter body l 91 t a (omega arith) end.3 (cc (e));
  no_row = λ digit is. λ (t, e). no_dollar body l digit t a end (cc (e));
  no_shifted = λ number is. λ (t, e).
      (let same : body ++ l ∷ [] ≡ (number ++ 36 ∷ []) ++ t = cc (e) in
      no_shift number body l t a end (same ∙ append_assoc number (36 ∷ []) t));
}

-- where the sequence is read as a key or the cursor's position, a row is too
is_free : (reading : Reading) (body : List ℕ) (l : ℕ) (e : Event) → AllByRecursion IsParameter body
    → IsKeyEnd l → IsKeyOrPosition e → event_in reading (written body l) ≡ e → IsFree reading (written body l)
unfolding IsSequence
is_free reading body l e a end reports same (Row key) s =
    let told : IsKeyOrPosition (event_in reading (written body l)) = subst IsKeyOrPosition (sym same) reports in
    (key, refl, told)
is_free reading body l e a end reports same (Report report) s =
    let plain = report_plain (written body l) report s in
    absurd (no_sign body l plain.0 a end (cc (plain.1)))

pub is_extra : (reading : Reading) (body : List ℕ) (l : ℕ) (e : Event) → ReadsMore reading → AllByRecursion IsParameter body
    → IsKeyEnd l → length (written body l) ≤ 256 → IsKeyOrPosition e → event_in reading (written body l) ≡ e
    → IsExtra reading (written body l) e
is_extra reading body l e reads a end short reports same = record {
  reads = reads;
  is_form = control (is_control body l a end short);
  is_free = is_free reading body l e a end reports same;
  means = sym same;
}
