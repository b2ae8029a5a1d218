-- A written sequence means its report.
use Rattle.std.proofs.Common.{◌≡◌, ◌≢◌, ℕ, ◌<◌, ◌≤◌, Bool, true, false, not, ◌&&◌, List, [], ◌∷◌, ◌++◌, length, refl, sym, ap, ap₂, ◌∙◌, subst, arith, nat_le, decimal, Option, Some, None, append-nil}
use Rattle.std.specs.Prelude.{◌==◌, option_map, unwrap_or, encode_utf8_all, if◌then◌else◌}
use Rattle.std.specs.Str.{chars, IsUtf8, all_scalars}
use Rattle.std.specs.List.{AllByRecursion}
use Rattle.std.proofs.lemmas.Nat.{and_le_l}
use Rattle.std.proofs.lemmas.Bool.{and_parts}
use Rattle.std.proofs.lemmas.Bool.Decides.{nat_tests}
use Rattle.std.proofs.lemmas.Str.{encodes-chars, scalars-chars, encode_ascii, IsUtf8-nil}
use Rattle.termwiz_keymap.proofs.lemmas.lists.CommonPrefixes.{true_from}
use Rattle.termwiz_keys.specs.KeyCodes.{holds}
use Rattle.termwiz_keys.specs.declared.types.KeyCode.{KeyCode}
use Rattle.termwiz_keys.specs.declared.types.KeyCode.TheVariants.{Char}
use Rattle.termwiz_extended_events.specs.declared.types.KeyReport.{KeyReport}
use Rattle.termwiz_extended_events.specs.declared.types.KeyEventKind.{KeyEventKind}
use Rattle.termwiz_extended_events.specs.declared.types.ReportedKey.{ReportedKey}
use Rattle.termwiz_extended_events.specs.declared.types.ReportedKey.TheVariants.{Named, Functional}
use Rattle.termwiz_extended_events.specs.declared.types.Event.{Event}
use Rattle.termwiz_extended_events.specs.declared.types.Event.TheVariants.{Key}
use Rattle.termwiz_extended_events.specs.declared.types.Reading.{Reading}
use Rattle.termwiz_extended_events.specs.Numbers.{is_scalar}
use Rattle.termwiz_extended_events.specs.ReportedKeys.{entry_at, lettered_keys, key_of, tilde_key}
use Rattle.termwiz_extended_events.specs.KeyReports.{key_report}
use Rattle.termwiz_extended_grammar.specs.ExtraSequences.{IsExtra}
use Rattle.termwiz_extended_grammar.specs.ExtendedGrammar.{Means}
use Rattle.termwiz_extended_grammar.specs.ExtendedGrammar.Stands.{extra}
use Rattle.termwiz_extended_grammar.specs.Readings.{ReadsMore, after_event, is_asking}
use Rattle.termwiz_extended_grammar.proofs.lemmas.items.ExtendedRests.{empty_is_rest}
use Rattle.termwiz_extended_grammar.proofs.lemmas.forms.FormBytes.{all_append}
use Rattle.termwiz_kitty.specs.declared.key_forms.KeyForm.{KeyForm}
use Rattle.termwiz_kitty.specs.declared.key_forms.KeyForm.TheVariants.{Letter, Number, Code}
use Rattle.termwiz_kitty.specs.KeyForms.{form_of, named_form, normal_key, is_character, main_keys, main_of, main_key}
use Rattle.termwiz_kitty.specs.Telling.{ALTERNATE_KEYS, ASSOCIATED_TEXT, tells_all_keys, tells_text, without_locks, is_shifted, has_text, is_legacy, told_key, hides_locks, tells_alternates, told_shifted, told_base, told_text, telling, reported}
use Rattle.termwiz_kitty.specs.declared.telling.Telling.TheVariants.{Reported}
use Rattle.termwiz_kitty.specs.KittyTexts.{manner_text, is_plain, manner_behind, codes_text, characters_text, fields_behind, lettered_text, numbered_text, coded_text, sequence_text, kitty_text}
use Rattle.termwiz_kitty.specs.KittyLaws.{IsKey, IsReport, IsScalarOrMissing, KittyReadBack}
use Rattle.termwiz_kitty.proofs.lemmas.read_back.FieldSplits.{IsFieldByte, digit_in_field}
use Rattle.termwiz_kitty.proofs.lemmas.read_back.WrittenFields.{decimal_small, manner_bytes, IsCharacterOrMissing, codes_bytes, AreCharacters, characters_bytes}
use Rattle.termwiz_kitty.proofs.lemmas.read_back.WrittenReports.{behind_none, behind_some, built, bare, carried, character_back, lettered_back, numbered_back, report_by_character, report_by_letter, report_by_tilde, event_back}
use Rattle.termwiz_kitty.proofs.lemmas.read_back.KeysOfForms.{key_read, is_sound, sound, Reads, form_reads, scalar_is}
use Rattle.termwiz_kitty.proofs.lemmas.read_back.SequenceForms.{IsParameter, IsKeyEnd, written, is_extra}

-- an extra sequence alone means its event
pub means_alone : (reading : Reading) (text : List ℕ) (more : Bool) (e : Event) → IsExtra reading text e
    → Means reading text more (e ∷ []) []
means_alone reading text more e is = record {
  steps = ([], extra text [] e is (sym (append-nil text)), refl);
  rest = empty_is_rest (after_event reading e) more;
}

-- parameters and a last byte that a rule reads as a key mean that key
written_means : (reading : Reading) (body : List ℕ) (l : ℕ) (r : KeyReport) (more : Bool) → ReadsMore reading
    → AllByRecursion IsParameter body → IsKeyEnd l → l ≢ 73 → l ≢ 79
    → length (written body l) ≤ 256 → key_report (body ++ l ∷ []) ≡ Some r
    → Means reading (written body l) more (Key r ∷ []) []
written_means reading body l r more reads a end gained lost short e =
    means_alone reading (written body l) more (Key r)
    (is_extra reading body l (Key r) reads a end short tt (event_back (is_asking reading) body l r gained lost e))

in_parameters : (b : ℕ) → IsFieldByte b → IsParameter b
in_parameters b f = (omega arith, omega arith)

field_parameters : (field : List ℕ) → AllByRecursion IsFieldByte field → AllByRecursion IsParameter field
field_parameters field a = true_from IsFieldByte IsParameter in_parameters field a

join : (s t : List ℕ) → AllByRecursion IsParameter s → AllByRecursion IsParameter t → AllByRecursion IsParameter (s ++ t)
join s t a b = all_append IsParameter s t a b

semicolon_parameter : AllByRecursion IsParameter (59 ∷ [])
semicolon_parameter = ((omega arith, omega arith), tt)

behind_parameters : (front : List ℕ) (bits : ℕ) (kind : KeyEventKind) → bits < 256 → AllByRecursion IsParameter front
    → AllByRecursion IsParameter (manner_behind front bits kind)
behind_parameters front bits kind h a = go (is_plain bits kind) refl
  where
    go : (v : Bool) → is_plain bits kind ≡ v → AllByRecursion IsParameter (manner_behind front bits kind)
    go true plain = subst (AllByRecursion IsParameter) (sym (behind_none front bits kind plain)) tt
    go false plain = subst (AllByRecursion IsParameter) (sym (behind_some front bits kind plain))
        (join front (manner_text bits kind) a (field_parameters (manner_text bits kind) (manner_bytes bits kind h)))

fields_parameters : (bits : ℕ) (kind : KeyEventKind) (cs : List ℕ) → bits < 256 → AreCharacters cs
    → AllByRecursion IsParameter (fields_behind bits kind cs)
unfolding fields_behind
fields_parameters bits kind [] h a = behind_parameters (59 ∷ []) bits kind h semicolon_parameter
fields_parameters bits kind (c ∷ cs) h a = (
  (omega arith, omega arith),
  join (manner_behind [] bits kind ++ 59 ∷ []) (characters_text (c ∷ cs))
      (join (manner_behind [] bits kind) (59 ∷ []) (behind_parameters [] bits kind h tt) semicolon_parameter)
      (field_parameters (characters_text (c ∷ cs)) (characters_bytes (c ∷ cs) a)),
)

-- the sequence of a letter
letter_means : (reading : Reading) (l bits : ℕ) (kind : KeyEventKind) (key : KeyCode) (more : Bool) → ReadsMore reading → bits < 256
    → is_sound (Letter l) ≡ true
    → entry_at lettered_keys l ≡ Some key → length (lettered_text l bits kind) ≤ 256
    → Means reading (lettered_text l bits kind) more (Key (bare (Named key) bits kind) ∷ []) []
unfolding lettered_text
letter_means reading l bits kind key more reads h sound e short =
    let ascii = encode_ascii l (omega (arith, facts.1)) in
    subst (λ t. length (27 ∷ 91 ∷ (manner_behind (49 ∷ 59 ∷ []) bits kind ++ t)) ≤ 256
    → Means reading (27 ∷ 91 ∷ (manner_behind (49 ∷ 59 ∷ []) bits kind ++ t)) more
    (Key (bare (Named key) bits kind) ∷ []) [])
    (sym ascii)
    (λ fits. written_means reading (manner_behind (49 ∷ 59 ∷ []) bits kind) l _ more reads
    (behind_parameters (49 ∷ 59 ∷ []) bits kind h ((omega arith, omega arith), semicolon_parameter))
    (omega (arith, facts.0), omega (arith, facts.1), facts.2, (λ same. omega (arith, facts.1, same)))
    facts.3 facts.4 fits
    (report_by_letter (manner_behind (49 ∷ 59 ∷ []) bits kind) l _ (λ same. omega (arith, facts.1, same))
    (lettered_back bits kind l key h e)))
    short
  where
    facts : (65 ≤ l) × (l ≤ 83) × (l ≢ 77) × (l ≢ 73) × (l ≢ 79)
    facts =
        let a = and_parts (nat_le 65 l && nat_le l 83 && not (l == 77) && not (l == 73)) (not (l == 79)) sound in
        let b = and_parts (nat_le 65 l && nat_le l 83 && not (l == 77)) (not (l == 73)) a.0 in
        let c = and_parts (nat_le 65 l && nat_le l 83) (not (l == 77)) b.0 in
        let d = and_parts (nat_le 65 l) (nat_le l 83) c.0 in
        let low : nat_le 65 l ≡ true = d.0 in
        let high : nat_le l 83 ≡ true = d.1 in
        let m : not (l == 77) ≡ true = c.1 in
        let i : not (l == 73) ≡ true = b.1 in
        let o : not (l == 79) ≡ true = a.1 in
        (grind (arith, nat_tests), grind (arith, nat_tests), grind (arith, nat_tests), grind (arith, nat_tests), grind (arith, nat_tests))

-- the sequence of a number and a tilde
number_means : (reading : Reading) (n bits : ℕ) (kind : KeyEventKind) (key : ReportedKey) (more : Bool) → ReadsMore reading
    → bits < 256 → is_sound (Number n) ≡ true
    → tilde_key n ≡ Some key → length (numbered_text n bits kind) ≤ 256
    → Means reading (numbered_text n bits kind) more (Key (bare key bits kind) ∷ []) []
unfolding numbered_text
number_means reading n bits kind key more reads h sound e short =
    written_means reading (decimal n ++ manner_behind (59 ∷ []) bits kind) 126 _ more reads
    (join (decimal n) (manner_behind (59 ∷ []) bits kind) (field_parameters (decimal n) digits)
    (behind_parameters (59 ∷ []) bits kind h semicolon_parameter))
    (omega arith, omega arith, (λ same. omega arith), (λ same. omega arith)) (λ same. omega arith) (λ same. omega arith) short
    (report_by_tilde (decimal n ++ manner_behind (59 ∷ []) bits kind) _ (numbered_back bits kind n key h small digits e))
  where
    small : n ≤ 99
    small = grind (arith, nat_tests, sound)

    digits : AllByRecursion IsFieldByte (decimal n)
    digits = true_from _ IsFieldByte digit_in_field (decimal n) (decimal_small n (omega (arith, small))).each

-- the sequence of a number and the letter u
code_means : (reading : Reading) (own : ℕ) (shifted base : Option ℕ) (bits : ℕ) (kind : KeyEventKind) (cs : List ℕ) (more : Bool)
    → ReadsMore reading → is_scalar own ≡ true
    → IsCharacterOrMissing shifted → IsCharacterOrMissing base → bits < 256 → AreCharacters cs
    → length (written (codes_text own shifted base ++ fields_behind bits kind cs) 117) ≤ 256
    → Means reading (written (codes_text own shifted base ++ fields_behind bits kind cs) 117) more
    (Key (carried own shifted base bits kind (encode_utf8_all cs)) ∷ []) []
code_means reading own shifted base bits kind cs more reads o s b h a short =
    written_means reading (codes_text own shifted base ++ fields_behind bits kind cs) 117 _ more reads
    (join (codes_text own shifted base) (fields_behind bits kind cs)
    (field_parameters (codes_text own shifted base) (codes_bytes own shifted base o s b)) (fields_parameters bits kind cs h a))
    (omega arith, omega arith, (λ same. omega arith), (λ same. omega arith)) (λ same. omega arith) (λ same. omega arith) short
    (report_by_character (codes_text own shifted base ++ fields_behind bits kind cs ++ 117 ∷ []) _
    (character_back own shifted base bits kind o s b h cs a))

-- a report that a sequence of this form can carry
pub record IsCarried (form : KeyForm) (q : KeyReport) : Type 0 where
  pub read : key_read form ≡ Some q.key
  pub sound : is_sound form ≡ true
  pub fits : q.modifiers < 256
  pub shifted_is : IsScalarOrMissing q.shifted
  pub base_is : IsScalarOrMissing q.base
  pub text_is : IsUtf8 q.text
  pub alone : has_text (Some form) ≡ false → (q.shifted ≡ None) × (q.base ≡ None) × (q.text ≡ [])

scalar_or_missing : (c : Option ℕ) → IsScalarOrMissing c → IsCharacterOrMissing c
scalar_or_missing None is = tt
scalar_or_missing (Some c) is = scalar_is c is

characters_from : (cs : List ℕ) → all_scalars cs ≡ true → AreCharacters cs
characters_from [] e = tt
characters_from (c ∷ cs) e = let both = and_parts _ (all_scalars cs) e in (scalar_is c both.0, characters_from cs both.1)

same_parts : (k l : ReportedKey) (bits : ℕ) (kind : KeyEventKind) (s u b c : Option ℕ) (t v : List ℕ) → k ≡ l → s ≡ u → b ≡ c
    → t ≡ v → built k bits kind s b t ≡ built l bits kind u c v
same_parts k l bits kind s u b c t v same shifted base text =
    ap₂ (λ x y. built x bits kind y b t) same shifted ∙ ap₂ (λ x y. built l bits kind u x y) base text

alone_is : (key : ReportedKey) (q : KeyReport) → key ≡ q.key → (q.shifted ≡ None) × (q.base ≡ None) × (q.text ≡ [])
    → bare key q.modifiers q.kind ≡ q
alone_is key q same none =
    same_parts key q.key q.modifiers q.kind None q.shifted None q.base [] q.text same (sym none.0) (sym none.1) (sym none.2)

letter_carries : (l : ℕ) (q : KeyReport) → IsCarried (Letter l) q → (key : KeyCode) × (entry_at lettered_keys l ≡ Some key)
    × (Named key ≡ q.key)
letter_carries l q is = go (entry_at lettered_keys l) refl
  where
    go : (o : Option KeyCode) → entry_at lettered_keys l ≡ o → (key : KeyCode) × (entry_at lettered_keys l ≡ Some key)
        × (Named key ≡ q.key)
    go None e = absurd (let none : None ≡ Some q.key = ap (option_map Named) (sym e) ∙ is.read in cc (none))
    go (Some key) e = (key, e, (let some : Some (Named key) ≡ Some q.key = ap (option_map Named) (sym e) ∙ is.read in cc (some)))

pub sequence_means : (reading : Reading) (form : KeyForm) (q : KeyReport) (more : Bool) → ReadsMore reading → IsCarried form q
    → length (sequence_text form q) ≤ 256
    → Means reading (sequence_text form q) more (Key q ∷ []) []
unfolding sequence_text coded_text
sequence_means reading (Letter l) q more reads is short =
    let found = letter_carries l q is in
    subst (λ x. Means reading (lettered_text l q.modifiers q.kind) more (Key x ∷ []) [])
    (alone_is (Named found.0) q found.2 (is.alone refl))
    (letter_means reading l q.modifiers q.kind found.0 more reads is.fits is.sound found.1 short)
sequence_means reading (Number n) q more reads is short =
    subst (λ x. Means reading (numbered_text n q.modifiers q.kind) more (Key x ∷ []) [])
    (alone_is q.key q refl (is.alone refl))
    (number_means reading n q.modifiers q.kind q.key more reads is.fits is.sound is.read short)
sequence_means reading (Code n) q more reads is short =
    let same : key_of n ≡ q.key = cc (is.read) in
    subst (λ x. Means reading (written (codes_text n q.shifted q.base ++ fields_behind q.modifiers q.kind (chars q.text)) 117) more
    (Key x ∷ []) [])
    (same_parts (key_of n) q.key q.modifiers q.kind q.shifted q.shifted q.base q.base (encode_utf8_all (chars q.text)) q.text
    same refl refl (encodes-chars q.text is.text_is))
    (code_means reading n q.shifted q.base q.modifiers q.kind (chars q.text) more reads is.sound (scalar_or_missing q.shifted is.shifted_is)
    (scalar_or_missing q.base is.base_is) is.fits (characters_from (chars q.text) (scalars-chars q.text is.text_is)) short)

-- what is told of a report can be carried

and_false : (a : Bool) → (a && false) ≡ false
and_false true = refl
and_false false = refl

character_has_text : (key : ReportedKey) → has_text (form_of key) ≡ false → is_character key ≡ false
unfolding named_form
character_has_text (Named (Char c)) e = absurd (cc (e))
character_has_text (Named key) e = refl
character_has_text (Functional n) e = refl

if_scalar : (b : Bool) (c : Option ℕ) → IsScalarOrMissing c → IsScalarOrMissing (if b then c else None)
if_scalar true c is = is
if_scalar false c is = tt

if_text : (b : Bool) (t : List ℕ) → IsUtf8 t → IsUtf8 (if b then t else [])
if_text true t is = is
if_text false t is = IsUtf8-nil

if_fits : (b : Bool) (m : ℕ) → m < 256 → (if b then without_locks m else m) < 256
if_fits true m h = omega (arith, and_le_l m 63)
if_fits false m h = h

-- the key that is told is one
main_keys_are : (table : List (ℕ × KeyCode)) (n : ℕ) (key : ReportedKey) → IsKey key
    → AllByRecursion (λ row. IsKey (Named row.1)) table → IsKey (unwrap_or (option_map Named (entry_at table n)) key)
main_keys_are [] n key is all = is
main_keys_are (row ∷ table) n key is all = go (row.0 == n) refl (main_keys_are table n key is all.1)
  where
    go : (b : Bool) → (row.0 == n) ≡ b → IsKey (unwrap_or (option_map Named (entry_at table n)) key)
        → IsKey (unwrap_or (option_map Named (entry_at (row ∷ table) n)) key)
    go true same later = rw same all.0
    go false other later = rw other later

main_of_is : (key : ReportedKey) (form : Option KeyForm) → IsKey key → IsKey (main_of key form)
main_of_is key (Some (Code n)) is = main_keys_are main_keys n key is (refl, (refl, (refl, (refl, (refl, (refl, (refl, (refl, (refl, (refl, (refl, (refl, (refl, (refl, (refl, (tt, (refl, (refl, (tt, (tt, (tt, (tt, (tt, (tt, (tt, (tt, (tt, (tt, (tt, tt)))))))))))))))))))))))))))))
main_of_is key (Some (Letter l)) is = is
main_of_is key (Some (Number n)) is = is
main_of_is key None is = is

main_is : (key : ReportedKey) → IsKey key → IsKey (main_key key)
unfolding main_key
main_is key is = go (is_character key)
  where
    go : (b : Bool) → IsKey (if b then key else main_of key (form_of key))
    go true = is
    go false = main_of_is key (form_of key) is

pub told_is_key : (r : KeyReport) (flags : ℕ) → IsKey r.key → IsKey (told_key r flags)
told_is_key r flags is = go (is_legacy flags)
  where
    go : (b : Bool) → IsKey (if b then main_key r.key else r.key)
    go true = main_is r.key is
    go false = is

told_alone : (r : KeyReport) (flags : ℕ) → has_text (form_of (told_key r flags)) ≡ false
    → (told_shifted r flags ≡ None) × (told_base r flags ≡ None) × (told_text r flags ≡ [])
told_alone r flags e =
    let none : tells_alternates r flags ≡ false = rw (character_has_text (told_key r flags) e) (and_false (holds flags ALTERNATE_KEYS)) in
    (rw none refl, rw none refl, rw (e, and_false (holds flags ASSOCIATED_TEXT && tells_all_keys flags)) refl)

told_carried : (r : KeyReport) (flags : ℕ) (form : KeyForm) → IsReport r → form_of (told_key r flags) ≡ Some form
    → IsCarried form (reported r flags)
unfolding reported
told_carried r flags form is e =
    let back = subst (λ o. Reads o (normal_key (told_key r flags))) e (form_reads (told_key r flags) (told_is_key r flags is.key_is)) in
    record {
      read = back.read;
      sound = back.is_sound;
      fits = if_fits (hides_locks r flags) r.modifiers is.fits;
      shifted_is = if_scalar (tells_alternates r flags && is_shifted r.modifiers) r.shifted is.shifted_is;
      base_is = if_scalar (tells_alternates r flags) r.base is.base_is;
      text_is = if_text (tells_text r flags) r.text is.text_is;
      alone = λ none. told_alone r flags (ap has_text e ∙ none);
    }

written_as : (r : KeyReport) (flags : ℕ) → telling r flags ≡ Reported
    → option_map (λ form. sequence_text form (reported r flags)) (form_of (told_key r flags)) ≡ kitty_text r flags
unfolding kitty_text
written_as r flags tells = rw tells refl

pub kitty_read_back : KittyReadBack
kitty_read_back reading r flags text more reads is tells writes short = go (form_of (told_key r flags)) refl
  where
    whole : option_map (λ form. sequence_text form (reported r flags)) (form_of (told_key r flags)) ≡ Some text
    whole = written_as r flags tells ∙ writes

    go : (o : Option KeyForm) → form_of (told_key r flags) ≡ o → Means reading text more (Key (reported r flags) ∷ []) []
    go None e = absurd (let none : None ≡ Some text = ap (option_map (λ form. sequence_text form (reported r flags))) (sym e) ∙ whole in cc (none))
    go (Some form) e =
        let some : Some (sequence_text form (reported r flags)) ≡ Some text =
        ap (option_map (λ form. sequence_text form (reported r flags))) (sym e) ∙ whole in
        let same : sequence_text form (reported r flags) ≡ text = cc (some) in
        subst (λ t. length t ≤ 256 → Means reading t more (Key (reported r flags) ∷ []) []) same
        (λ fits. sequence_means reading form (reported r flags) more reads (told_carried r flags form is e) fits) short
