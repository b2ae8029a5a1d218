-- Each key report that a reading emits is written.
use Rattle.std.proofs.Common.{◌≡◌, ◌⊎◌, inl, inr, ℕ, ◌+◌, ◌<◌, ◌≤◌, Bool, true, false, not, nat_le, List, [], ◌∷◌, ◌++◌, length, refl, sym, ap, ◌∙◌, subst, arith, decimal, Some, None, length-append, bit_or}
use Rattle.std.specs.Prelude.{◌==◌, if◌then◌else◌}
use Rattle.std.proofs.lemmas.Nat.{or_of_8, and_or_apart}
use Rattle.std.proofs.lemmas.Bool.{and_parts}
use Rattle.std.proofs.lemmas.Bool.Decides.{nat_tests}
use Rattle.termwiz_grammar.specs.Sequences.{IsSequence}
use Rattle.termwiz_grammar.proofs.lemmas.table.RowShape.{row_shaped}
use Rattle.termwiz_extended_events.specs.declared.types.KeyReport.{KeyReport}
use Rattle.termwiz_extended_events.specs.declared.types.Event.{Event}
use Rattle.termwiz_extended_events.specs.declared.types.Event.TheVariants.{Key}
use Rattle.termwiz_extended_events.specs.declared.types.Reading.{Reading}
use Rattle.termwiz_extended_events.specs.ReportedKeys.{is_functional}
use Rattle.termwiz_extended_grammar.specs.Forms.{IsForm, IsRxvtNumber, IsKeypadKey}
use Rattle.termwiz_extended_grammar.specs.Forms.IsForm.{control, x10_report, console_key, keypad_key, modified_key, shifted_key, title}
use Rattle.termwiz_extended_grammar.specs.ExtraSequences.{IsRow, EndsAsRxvt, IsRxvtFunction, IsLetteredKey, IsBareKey, with_alt}
use Rattle.termwiz_extended_grammar.proofs.lemmas.forms.Unfinished.{one_last}
use Rattle.termwiz_kitty.specs.Telling.{is_shifted}
use Rattle.termwiz_senders.specs.ReportTexts.{says_no_more, private_character, private_report_text, is_shifted_as, says_as_xterm, report_text}
use Rattle.termwiz_event_laws.proofs.lemmas.Origins.{FromForm}
use Rattle.termwiz_event_laws.proofs.lemmas.KeyReportsNumbers.{at_most_seven}
use Rattle.termwiz_event_laws.proofs.lemmas.KeyReportsWritten.{IsFromCharacter, IsWritten, plain_written, from_character_written, with_modifiers_written}
use Rattle.termwiz_event_laws.proofs.lemmas.KeyReportsKeys.{is_plain_key, key_is}
use Rattle.termwiz_event_laws.proofs.lemmas.KeyReportsRules.{IsPlain, private_report, IsPrivate}
use Rattle.termwiz_event_laws.proofs.lemmas.KeyReportsEvents.{IsReportOf, event_told}
use Rattle.termwiz_event_laws.proofs.lemmas.KeyReportsEvents.Told.{plain, private, shifted, typed}
use Rattle.termwiz_event_laws.proofs.lemmas.KeyReportsEvents.IsReportOf.{bracketed, keypad}

-- a private character

-- the report of such a character says what is read from its text
shifted_so : (c bits : ℕ) (b : Bool) → is_shifted bits ≡ b → is_shifted_as c bits (if b then Some c else None) ≡ true
shifted_so c bits true held = let same : (c == c) ≡ true = grind (arith, nat_tests) in rw (held, same) refl
shifted_so c bits false none = rw none refl

says_so : (c bits : ℕ) → says_as_xterm (private_report c bits) c ≡ true
says_so c bits = rw (shifted_so c bits (is_shifted bits) refl) refl

private_text : (c bits : ℕ) → is_functional c ≡ true → report_text (private_report c bits) ≡ Some (private_report_text c bits)
unfolding report_text private_character
private_text c bits inside = rw (inside, says_so c bits) refl

private_long : (c bits : ℕ) → c < 2000000 → bits < 256 → length (private_report_text c bits) ≤ 256
unfolding private_report_text
private_long c bits small h = omega (
  arith,
  length-append (50 ∷ 55 ∷ 59 ∷ decimal (1 + bits) ++ 59 ∷ [] ++ decimal c) (126 ∷ []),
  length-append (50 ∷ 55 ∷ 59 ∷ decimal (1 + bits) ++ 59 ∷ []) (decimal c),
  length-append (50 ∷ 55 ∷ 59 ∷ decimal (1 + bits)) (59 ∷ []),
  at_most_seven (1 + bits) (omega arith),
  at_most_seven c small,
)

private_written : (r : KeyReport) → IsPrivate r → IsWritten r
private_written r p =
    let high : nat_le p.character 63743 ≡ true = (and_parts (nat_le 57344 p.character) (nat_le p.character 63743) p.functional).1 in
    let small : p.character < 2000000 = grind (arith, nat_tests) in
    subst IsWritten p.is
    (private_report_text p.character p.bits, private_text p.character p.bits p.functional, private_long p.character p.bits small p.fits)

-- sequences after ESC [ are short

number_few : (number : List ℕ) → IsRxvtNumber number → length number ≤ 2
number_few [] is = absurd is
number_few (d ∷ []) is = omega arith
number_few (d ∷ e ∷ []) is = omega arith
number_few (d ∷ e ∷ c ∷ digits) is = absurd is

form_short : {x10_mouse : Bool} (text t : List ℕ) → IsForm x10_mouse text → text ≡ 27 ∷ 91 ∷ t → length text ≤ 256
form_short text t (control f) e = f.short
form_short text t (x10_report on f) e = omega (arith, ap length f.form)
form_short text t (console_key f) e = omega (arith, ap length f.form)
form_short text t (keypad_key f) e = omega (arith, ap length f.form)
form_short text t (modified_key f) e = absurd (let no : ◌≡◌ {A = ℕ} 79 91 = cc (f.form, e) in omega arith)
form_short text t (shifted_key f) e =
    omega (arith, ap length f.form, length-append f.number (36 ∷ []), number_few f.number f.number_is)
form_short text t (title f) e = absurd (let no : ◌≡◌ {A = ℕ} 93 91 = cc (f.form, e) in omega arith)

typed_long : (text t body : List ℕ) → text ≡ 27 ∷ 91 ∷ t → t ≡ body ++ 117 ∷ [] → length text ≡ length body + 3
typed_long text t body e f = omega (arith, ap length e, ap length f, length-append body (117 ∷ []))

-- the event of an extra sequence
pub extra_written : {x10_mouse : Bool} (text : List ℕ) (r : KeyReport) → IsForm x10_mouse text → FromForm text (Key r) → IsWritten r
extra_written text r form told = go (event_told text r told)
  where
    go : IsReportOf text r → IsWritten r
    go (keypad p) = plain_written r p.key p.none p.fits
    go (bracketed t same (plain p)) = plain_written r p.key p.none p.fits
    go (bracketed t same (private p)) = private_written r p
    go (bracketed t same (shifted p)) = from_character_written 0 r (omega arith) p
    go (bracketed t same (typed body ends from)) =
        from_character_written (length body) r (omega (arith, typed_long text t body same ends, form_short text t form same)) from

-- rows are short
row_short : (text : List ℕ) → IsRow text → length text < 12
unfolding IsSequence
row_short text row = (row_shaped text row.0 row.1).short

-- a bare key by the letter u is short
bare_short : (reading : Reading) (text t body : List ℕ) → IsBareKey reading text → text ≡ 27 ∷ 91 ∷ t → t ≡ body ++ 117 ∷ [] → length text < 12
bare_short reading text t body bare e f = go bare.layout
  where
    whole : text ≡ (27 ∷ 91 ∷ body) ++ 117 ∷ []
    whole = e ∙ ap (λ z. 27 ∷ 91 ∷ z) f

    lettered : IsLetteredKey text → length text < 12
    lettered (inl (begins, (front, ends))) =
        absurd (let same : 90 ≡ 117 = (one_last front (27 ∷ 91 ∷ body) 90 117 (sym ends ∙ whole)).1 in omega arith)
    lettered (inr (inl (digit, letter, ends, digit_is, letter_is))) = omega (arith, ap length ends)
    lettered (inr (inr (inl ends))) = omega (arith, ap length ends)
    lettered (inr (inr (inr ends))) = omega (arith, ap length ends)

    go : IsRow text ⊎ (IsKeypadKey text ⊎ (EndsAsRxvt text ⊎ (IsRxvtFunction text ⊎ IsLetteredKey text))) → length text < 12
    go (inl row) = row_short text row
    go (inr (inl key)) = omega (arith, ap length key.form)
    go (inr (inr (inl (front, end, ends, its)))) =
        absurd (let same : end ≡ 117 = (one_last front (27 ∷ 91 ∷ body) end 117 (sym ends ∙ whole)).1 in omega (arith, its, same))
    go (inr (inr (inr (inl (digit, ends, its))))) = omega (arith, ap length ends)
    go (inr (inr (inr (inr key)))) = lettered key

-- the same report with ALT
abbrev pub alt_report : KeyReport → KeyReport
alt_report r = record r { modifiers = bit_or r.modifiers 2 }

alt_fits : (bits : ℕ) → bits < 256 → bit_or bits 2 < 256
alt_fits bits h = or_of_8 bits 2 h (omega arith)

-- ALT is another bit than SHIFT
alt_shifted : (bits : ℕ) → is_shifted (bit_or bits 2) ≡ is_shifted bits
alt_shifted bits = ap (λ n. not (n == 0)) (and_or_apart 1 bits 2 refl)

alt_private : (c bits : ℕ) → private_report c (bit_or bits 2) ≡ alt_report (private_report c bits)
alt_private c bits = rw (alt_shifted bits) refl

bare_written : (reading : Reading) (text : List ℕ) (r : KeyReport) → IsBareKey reading text → FromForm text (Key r) → IsWritten (alt_report r)
bare_written reading text r bare told = go (event_told text r told)
  where
    with_plain : IsPlain r → IsWritten (alt_report r)
    with_plain p = plain_written (alt_report r) p.key p.none (alt_fits r.modifiers p.fits)

    go : IsReportOf text r → IsWritten (alt_report r)
    go (keypad p) = with_plain p
    go (bracketed t same (plain p)) = with_plain p
    go (bracketed t same (private p)) = private_written (alt_report r) (record {
      character = p.character;
      bits = bit_or p.bits 2;
      is = alt_private p.character p.bits ∙ ap alt_report p.is;
      functional = p.functional;
      fits = alt_fits p.bits p.fits;
    })
    go (bracketed t same (shifted p)) =
        with_modifiers_written 0 r (bit_or r.modifiers 2) (omega arith) (alt_fits r.modifiers p.fits) p
    go (bracketed t same (typed body ends from)) = with_modifiers_written (length body) r (bit_or r.modifiers 2)
        (omega (arith, typed_long text t body same ends, bare_short reading text t body bare same ends)) (alt_fits r.modifiers from.fits) from

pub alt_written : (reading : Reading) (text : List ℕ) (event : Event) (r : KeyReport) → IsBareKey reading text → FromForm text event
    → with_alt event ≡ Key r → IsWritten r
alt_written reading text (Key report) r bare told e =
    let same : alt_report report ≡ r = cc (e) in subst IsWritten same (bare_written reading text report bare told)
alt_written reading text event r bare told e = absurd (cc (e))

-- the same of any key that an extra sequence tells no more of
pub plain_alt_written : (text : List ℕ) (r : KeyReport) → FromForm text (Key r) → says_no_more r ≡ true → IsWritten (alt_report r)
plain_alt_written text r told none = go (event_told text r told)
  where
    with_key : is_plain_key r.key ≡ true → r.modifiers < 256 → IsWritten (alt_report r)
    with_key own fits = plain_written (alt_report r) own none (alt_fits r.modifiers fits)

    from_character : {size : ℕ} → IsFromCharacter size r → IsWritten (alt_report r)
    from_character p = with_key (rw p.key (key_is p.own p.own_is).plain) p.fits

    go : IsReportOf text r → IsWritten (alt_report r)
    go (keypad p) = with_key p.key p.fits
    go (bracketed t same (plain p)) = with_key p.key p.fits
    go (bracketed t same (private p)) = private_written (alt_report r) (record {
      character = p.character;
      bits = bit_or p.bits 2;
      is = alt_private p.character p.bits ∙ ap alt_report p.is;
      functional = p.functional;
      fits = alt_fits p.bits p.fits;
    })
    go (bracketed t same (shifted p)) = from_character p
    go (bracketed t same (typed body ends p)) = from_character p
