-- What is written for a key report is that report, under every reading and whether or not more may come.
use Rattle.std.proofs.Common.{◌≡◌, ℕ, ◌≤◌, Bool, true, false, not, ◌&&◌, nat_lt, arith, List, [], ◌∷◌, ◌++◌, length, refl, sym, ap, ap₂, ◌∙◌, subst, Option, Some, None}
use Rattle.std.specs.Prelude.{◌==◌, if◌then◌else◌, option_map, encode_utf8_all}
use Rattle.std.specs.Str.{chars, all_scalars}
use Rattle.std.proofs.lemmas.Bool.{and_parts}
use Rattle.std.proofs.lemmas.Bool.Decides.{nat_tests}
use Rattle.std.proofs.lemmas.Option.{cond_some}
use Rattle.std.proofs.lemmas.Str.{encodes-chars, scalars-chars}
use Rattle.termwiz_keys.specs.declared.types.KeyCode.TheVariants.{Char}
use Rattle.termwiz_extended_events.specs.declared.types.KeyReport.{KeyReport}
use Rattle.termwiz_extended_events.specs.declared.types.KeyEventKind.{KeyEventKind}
use Rattle.termwiz_extended_events.specs.declared.types.KeyEventKind.TheVariants.{Press, Repeat, Release}
use Rattle.termwiz_extended_events.specs.declared.types.ReportedKey.{ReportedKey}
use Rattle.termwiz_extended_events.specs.declared.types.ReportedKey.TheVariants.{Named, Functional}
use Rattle.termwiz_extended_events.specs.declared.types.Event.TheVariants.{Key}
use Rattle.termwiz_extended_events.specs.declared.types.Reading.{Reading}
use Rattle.termwiz_extended_events.specs.ReportedKeys.{is_functional, key_of}
use Rattle.termwiz_extended_events.specs.Numbers.{is_scalar}
use Rattle.termwiz_extended_grammar.specs.ExtendedGrammar.{Means}
use Rattle.termwiz_kitty.specs.declared.key_forms.KeyForm.{KeyForm}
use Rattle.termwiz_kitty.specs.KeyForms.{form_of, normal_key}
use Rattle.termwiz_kitty.specs.Telling.{is_press, is_shifted}
use Rattle.termwiz_kitty.specs.KittyTexts.{codes_text, most_bytes}
use Rattle.termwiz_kitty.specs.KittyLaws.{IsKey, IsScalarOrMissing, IsReport}
use Rattle.termwiz_kitty.proofs.lemmas.read_back.WrittenFields.{IsCharacterOrMissing, AreCharacters}
use Rattle.termwiz_kitty.proofs.lemmas.read_back.WrittenReports.{built, bare}
use Rattle.termwiz_kitty.proofs.lemmas.read_back.KeysOfForms.{Reads, form_reads, scalar_is}
use Rattle.termwiz_kitty.proofs.lemmas.read_back.SequenceForms.{written}
use Rattle.termwiz_extended_grammar.specs.Readings.{ReadsMore}
use Rattle.termwiz_senders.specs.ReportTexts.{is_missing, is_empty, says_no_more, plain_report_text, further_fields, full_report_text, own_number, is_own_key, private_character, private_report_text, told_number, is_shifted_as, says_as_xterm, own_report_text, report_text_by, report_text}
use Rattle.termwiz_event_laws.proofs.lemmas.KeyReportsWritten.{missing}
use Rattle.termwiz_event_laws.proofs.lemmas.KeyReportsRules.{if_some, private_report}
use Rattle.termwiz_event_laws.proofs.lemmas.KeyReportsOwn.{own_is_normal, number_is_read}
use Rattle.termwiz_event_laws.proofs.lemmas.KeyReportsPlainBack.{plain_means}
use Rattle.termwiz_event_laws.proofs.lemmas.KeyReportsFullBack.{full_means, private_means}
use Rattle.termwiz_event_laws.proofs.lemmas.SomeOptions.{map_some}

-- a report by its parts

same_parts : (k l : ReportedKey) (bits : ℕ) (j kind : KeyEventKind) (s u b c : Option ℕ) (t v : List ℕ) → k ≡ l → j ≡ kind → s ≡ u
    → b ≡ c → t ≡ v → built k bits j s b t ≡ built l bits kind u c v
same_parts k l bits j kind s u b c t v same also shifted base text =
    ap₂ (λ x y. built x bits y s b t) same also ∙ ap₂ (λ x y. built l bits kind x y t) shifted base
    ∙ ap (λ x. built l bits kind u c x) text

empty : (t : List ℕ) → is_empty t ≡ true → [] ≡ t
empty [] e = refl
empty (b ∷ t) e = absurd (cc (e))

press : (kind : KeyEventKind) → is_press kind ≡ true → Press ≡ kind
press Press e = refl
press Repeat e = absurd (cc (e))
press Release e = absurd (cc (e))

bare_is : (r : KeyReport) (key : ReportedKey) (kind : KeyEventKind) → key ≡ r.key → kind ≡ r.kind → says_no_more r ≡ true
    → bare key r.modifiers kind ≡ r
bare_is r key kind same also none =
    let a = and_parts (is_missing r.shifted && is_missing r.base) (is_empty r.text) none in
    let b = and_parts (is_missing r.shifted) (is_missing r.base) a.0 in
    same_parts key r.key r.modifiers kind r.kind None r.shifted None r.base [] r.text same also (sym (missing r.shifted b.0))
    (sym (missing r.base b.1)) (empty r.text a.1)

scalar_or_missing : (c : Option ℕ) → IsScalarOrMissing c → IsCharacterOrMissing c
scalar_or_missing None is = tt
scalar_or_missing (Some c) is = scalar_is c is

characters_from : (cs : List ℕ) → all_scalars cs ≡ true → AreCharacters cs
characters_from [] e = tt
characters_from (c ∷ cs) e = let both = and_parts _ (all_scalars cs) e in (scalar_is c both.0, characters_from cs both.1)

-- the text says more, or other characters do
and_more : (a : Bool) (t : List ℕ) → (a && is_empty t) ≡ false → [] ≡ t → a ≡ false
and_more false t e none = refl
and_more true t e none = absurd (let no : is_empty t ≡ true = ap is_empty (sym none) in cc (no, e))

-- Backspace is read from either of its numbers
told_is_read : (r : KeyReport) (n : ℕ) → is_scalar n ≡ true → (key_of (told_number r n) ≡ key_of n) × (is_scalar (told_number r n) ≡ true)
unfolding key_of
told_is_read r n scalar = go ((n == 127) && nat_lt most_bytes (length (full_report_text n r))) refl
  where
    go : (b : Bool) → ((n == 127) && nat_lt most_bytes (length (full_report_text n r))) ≡ b
        → (key_of (told_number r n) ≡ key_of n) × (is_scalar (told_number r n) ≡ true)
    go true e =
        let backspace : (n == 127) ≡ true = (and_parts (n == 127) (nat_lt most_bytes (length (full_report_text n r))) e).0 in
        let same : n ≡ 127 = grind (arith, nat_tests) in
        let both : key_of 8 ≡ key_of n = subst (λ m. key_of 8 ≡ key_of m) (sym same) refl in
        rw e (both, refl)
    go false e = rw e (refl, scalar)

-- what a report that tells so of Shift tells
shifted_is : (c bits : ℕ) (o : Option ℕ) → is_shifted_as c bits o ≡ true → (if is_shifted bits then Some c else None) ≡ o
shifted_is c bits o e = go (is_shifted bits) refl o e
  where
    go : (b : Bool) → is_shifted bits ≡ b → (o : Option ℕ) → is_shifted_as c bits o ≡ true → (if is_shifted bits then Some c else None) ≡ o
    go true held (Some s) e =
        let both = and_parts (is_shifted bits) (s == c) e in
        let test : (s == c) ≡ true = both.1 in
        let same : c ≡ s = grind (arith, nat_tests) in rw held (ap (λ x. Some x) same)
    go true held None e = absurd (let no : not true ≡ true = ap not (sym held) ∙ e in cc (no))
    go false held (Some s) e =
        let first : is_shifted bits ≡ true = (and_parts (is_shifted bits) (s == c) e).0 in absurd (cc (first, held))
    go false held None e = rw held refl

as_xterm_is : (r : KeyReport) (c : ℕ) → r.key ≡ Named (Char c) → says_as_xterm r c ≡ true → private_report c r.modifiers ≡ r
as_xterm_is r c key says =
    let a = and_parts (is_shifted_as c r.modifiers r.shifted && is_missing r.base && is_empty r.text) (is_press r.kind) says in
    let b = and_parts (is_shifted_as c r.modifiers r.shifted && is_missing r.base) (is_empty r.text) a.0 in
    let d = and_parts (is_shifted_as c r.modifiers r.shifted) (is_missing r.base) b.0 in
    same_parts (Named (Char c)) r.key r.modifiers Press r.kind (if is_shifted r.modifiers then Some c else None) r.shifted None r.base [] r.text
    (sym key) (press r.kind a.1) (shifted_is c r.modifiers r.shifted d.0) (sym (missing r.base d.1)) (empty r.text b.1)

module _ (reading : Reading) (r : KeyReport) (more : Bool) (may : ReadsMore reading) (is : IsReport r) where
  -- no more than the key, the modifiers and what happened
  plain_back : (form : KeyForm) → is_own_key r.key ≡ true → says_no_more r ≡ true → form_of r.key ≡ Some form
      → length (plain_report_text form r.modifiers r.kind) ≤ most_bytes
      → Means reading (plain_report_text form r.modifiers r.kind) more (Key r ∷ []) []
  plain_back form own none e short =
      let back = subst (λ o. Reads o (normal_key r.key)) e (form_reads r.key is.key_is) in
      subst (λ q. Means reading (plain_report_text form r.modifiers r.kind) more (Key q ∷ []) [])
      (bare_is r (normal_key r.key) r.kind (own_is_normal r.key own) refl none)
      (plain_means reading form (normal_key r.key) r.modifiers r.kind more may is.fits back.read back.is_sound short)

  -- more than that
  full_back : (own : ℕ) → is_own_key r.key ≡ true → says_no_more r ≡ false → own_number r.key ≡ Some own
      → length (full_report_text (told_number r own) r) ≤ most_bytes → Means reading (full_report_text (told_number r own) r) more (Key r ∷ []) []
  unfolding full_report_text
  full_back own its says e short =
      let number = number_is_read r.key own is.key_is e in
      let told = told_is_read r own number.1 in
      let key : key_of (told_number r own) ≡ r.key = told.0 ∙ number.0 ∙ own_is_normal r.key its in
      let text = encodes-chars r.text is.text_is in
      subst (λ q. Means reading (written (codes_text (told_number r own) r.shifted r.base ++ further_fields r.modifiers r.kind (chars r.text)) 117)
      more (Key q ∷ []) [])
      (same_parts (key_of (told_number r own)) r.key r.modifiers r.kind r.kind r.shifted r.shifted r.base r.base
      (encode_utf8_all (chars r.text)) r.text key refl refl refl text)
      (full_means reading (told_number r own) r.shifted r.base r.modifiers r.kind (chars r.text) more may told.1
      (scalar_or_missing r.shifted is.shifted_is) (scalar_or_missing r.base is.base_is) is.fits
      (characters_from (chars r.text) (scalars-chars r.text is.text_is))
      (λ none. and_more (is_missing r.shifted && is_missing r.base) r.text says (ap encode_utf8_all (sym none) ∙ text)) short)

  -- a private character
  private_back : (c : ℕ) → r.key ≡ Named (Char c) → is_functional c ≡ true → says_as_xterm r c ≡ true
      → length (private_report_text c r.modifiers) ≤ most_bytes
      → Means reading (private_report_text c r.modifiers) more (Key r ∷ []) []
  private_back c key inside says short =
      let character : IsKey (Named (Char c)) = subst IsKey key is.key_is in
      subst (λ q. Means reading (private_report_text c r.modifiers) more (Key q ∷ []) [])
      (as_xterm_is r c key says)
      (private_means reading c r.modifiers more may (scalar_is c character) inside is.fits short)

private_is : (key : ReportedKey) (c : ℕ) → private_character key ≡ Some c → (key ≡ Named (Char c)) × (is_functional c ≡ true)
unfolding private_character
private_is (Named (Char d)) c e =
    let found = cond_some (is_functional d) d c e in
    (ap (λ x. Named (Char x)) found.1, subst (λ x. is_functional x ≡ true) found.1 found.0)
private_is (Named key) c e = absurd (cc (e))
private_is (Functional n) c e = absurd (cc (e))

text_by : (r : KeyReport) (o : Option ℕ) → private_character r.key ≡ o → report_text_by r o ≡ report_text r
unfolding report_text
text_by r o e = rw e refl

pub key_read_back : (reading : Reading) (r : KeyReport) (bytes : List ℕ) (more : Bool) → ReadsMore reading → IsReport r → report_text r ≡ Some bytes
    → length bytes ≤ most_bytes → Means reading bytes more (Key r ∷ []) []
key_read_back reading r bytes more may is writes short = by_private (private_character r.key) refl
  where
    -- what is written is these bytes
    these : (text : List ℕ) → text ≡ bytes → (length text ≤ most_bytes → Means reading text more (Key r ∷ []) [])
        → Means reading bytes more (Key r ∷ []) []
    these text same means =
        subst (λ t. length t ≤ most_bytes → Means reading t more (Key r ∷ []) []) same means short

    by_says : (b : Bool) → is_own_key r.key ≡ true → says_no_more r ≡ b → own_report_text r ≡ Some bytes
        → Means reading bytes more (Key r ∷ []) []
    by_says true own none e =
        let plain : option_map (λ form. plain_report_text form r.modifiers r.kind) (form_of r.key) ≡ Some bytes = rw none at e in
        let found = map_some (λ form. plain_report_text form r.modifiers r.kind) (form_of r.key) bytes plain in
        these (plain_report_text found.0 r.modifiers r.kind) found.2 (λ fits. plain_back reading r more may is found.0 own none found.1 fits)
    by_says false own says e =
        let full : option_map (λ n. full_report_text (told_number r n) r) (own_number r.key) ≡ Some bytes = rw says at e in
        let found = map_some (λ n. full_report_text (told_number r n) r) (own_number r.key) bytes full in
        these (full_report_text (told_number r found.0) r) found.2 (λ fits. full_back reading r more may is found.0 own says found.1 fits)

    by_private : (o : Option ℕ) → private_character r.key ≡ o → Means reading bytes more (Key r ∷ []) []
    by_private None e =
        let both = if_some (is_own_key r.key) (own_report_text r) bytes (text_by r None e ∙ writes) in
        by_says (says_no_more r) both.0 refl both.1
    by_private (Some c) e =
        let both = cond_some (says_as_xterm r c) (private_report_text c r.modifiers) bytes (text_by r (Some c) e ∙ writes) in
        let key = private_is r.key c e in
        these (private_report_text c r.modifiers) both.1 (λ fits. private_back reading r more may is c key.0 key.1 both.0 fits)
