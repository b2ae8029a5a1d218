-- What an emitted event comes from.
use Rattle.std.proofs.Common.{◌≡◌, ◌⊎◌, inl, inr, ℕ, ◌+◌, ◌-◌, ◌<◌, ◌≤◌, Bool, true, false, nat_le, List, [], ◌∷◌, ◌++◌, refl, sym, ap, ◌∙◌, subst, arith, Option, Some, None, Contains, bit_or}
use Rattle.std.specs.Prelude.{codes}
use Rattle.std.specs.List.{list_all}
use Rattle.std.proofs.lemmas.Bool.{and_from}
use Rattle.std.proofs.lemmas.Bool.Decides.{nat_tests}
use Rattle.std.proofs.lemmas.List.Elements.{All-contains}
use Rattle.std.proofs.lemmas.List.Sums.{AllPass-from_list_all}
use Rattle.termwiz_grammar.specs.Table.{numbers}
use Rattle.termwiz_grammar.proofs.lemmas.lists.ListMembers.{in_numbers}
use Rattle.termwiz_extended_events.specs.declared.types.Event.{Event}
use Rattle.termwiz_extended_events.specs.declared.types.Event.TheVariants.{Key, Csi, Osc}
use Rattle.termwiz_extended_events.specs.declared.types.KeyEventKind.TheVariants.{Press}
use Rattle.termwiz_extended_events.specs.declared.types.KeyReport.{KeyReport}
use Rattle.termwiz_extended_events.specs.declared.types.ReportedKey.{ReportedKey}
use Rattle.termwiz_extended_events.specs.declared.types.Reading.{Reading}
use Rattle.termwiz_extended_events.specs.declared.types.StringKind.{StringKind}
use Rattle.termwiz_extended_events.specs.KeyReports.{pressed, report_of, keypad_key, modified_report, is_function_letter, modified_keypad_key}
use Rattle.termwiz_extended_events.specs.Meanings.{keypad_reported, event_after, event_of, IsKey, whole_string}
use Rattle.termwiz_extended_events.specs.ReportedKeys.{entry_at, keypad_keys, modified_keypad_keys}
use Rattle.termwiz_extended_grammar.specs.ExtraSequences.{IsExtra, with_alt}
use Rattle.termwiz_extended_grammar.specs.Readings.{ReadsMore, is_asking, event_in}
use Rattle.termwiz_extended_grammar.specs.Forms.{IsKeypadLetter, IsModifierDigit, IsModifiedLetter, IsModifiedFront, IsLetterBehind, IsTitle, IsForm, most_string}
use Rattle.termwiz_extended_grammar.specs.Forms.IsForm.{control, x10_report, console_key, keypad_key as keypad_form, modified_key, shifted_key, title}
use Rattle.termwiz_extended_grammar.specs.Strings.{string_length, Ends, Comes}
use Rattle.termwiz_extended_grammar.specs.Strings.Ends.{ended, cut, cut_by_two, flushed}
use Rattle.termwiz_extended_grammar.specs.Strings.Comes.{part, last}
use Rattle.termwiz_extended_grammar.proofs.lemmas.forms.TitleEvents.{titles_are_commands}
use Rattle.termwiz_event_laws.specs.EventLaws.{IsPartOrCut}
use Rattle.termwiz_event_laws.proofs.lemmas.ToldEvents.{Told, bracketed_told}

-- letters behind ESC O

is_there : {K : Type 0} → Option K → Bool
is_there None = false
is_there (Some k) = true

there : {K : Type 0} (o : Option K) → is_there o ≡ true → (k : K) × (o ≡ Some k)
unfolding is_there
there None e = absurd (cc (e))
there (Some k) e = (k, refl)

-- a table has an entry at each number of a range
in_range : {K : Type 0} (table : List (ℕ × K)) (first count n : ℕ)
    → list_all (λ m. is_there (entry_at table m)) (numbers first count) ≡ true → first ≤ n → n < first + count
    → (k : K) × (entry_at table n ≡ Some k)
in_range table first count n all low high =
    let member : Contains (numbers first count) (first + (n - first)) = in_numbers first count (n - first) (omega arith) in
    let its : first + (n - first) ≡ n = omega arith in
    there (entry_at table n)
    (subst (λ m. is_there (entry_at table m) ≡ true) its
    (All-contains (λ m. is_there (entry_at table m) ≡ true) (numbers first count) (first + (n - first))
    (AllPass-from_list_all (λ m. is_there (entry_at table m)) (numbers first count) all) member))

entry_there : {K : Type 0} (table : List (ℕ × K)) (n m : ℕ) → n ≡ m → is_there (entry_at table m) ≡ true → (k : K) × (entry_at table n ≡ Some k)
entry_there table n m same e = there (entry_at table n) (subst (λ x. is_there (entry_at table x) ≡ true) (sym same) e)

keypad_entry : (letter : ℕ) → IsKeypadLetter letter → (k : ReportedKey) × (entry_at keypad_keys letter ≡ Some k)
unfolding is_there numbers
keypad_entry letter (inl m) = entry_there keypad_keys letter 77 m refl
keypad_entry letter (inr (inl x)) = entry_there keypad_keys letter 88 x refl
keypad_entry letter (inr (inr (inl e))) = entry_there keypad_keys letter 69 e refl
keypad_entry letter (inr (inr (inr (inl g)))) = entry_there keypad_keys letter 71 g refl
keypad_entry letter (inr (inr (inr (inr (low, high))))) = in_range keypad_keys 106 16 letter refl low (omega arith)

modified_entry : (letter : ℕ) → IsModifiedLetter letter → (k : ReportedKey) × (entry_at modified_keypad_keys letter ≡ Some k)
unfolding is_there numbers
modified_entry letter (inl (low, high)) = in_range modified_keypad_keys 80 4 letter refl low (omega arith)
modified_entry letter (inr (inl m)) = entry_there modified_keypad_keys letter 77 m refl
modified_entry letter (inr (inr (inl x))) = entry_there modified_keypad_keys letter 88 x refl
modified_entry letter (inr (inr (inr (low, high)))) = in_range modified_keypad_keys 106 16 letter refl low (omega arith)

-- the rule that gives a key after ESC O
abbrev pub KeypadRule : List ℕ → KeyReport → Type 0
KeypadRule s r = (keypad_key s ≡ Some r) ⊎ (modified_keypad_key s ≡ Some r)

-- what follows ESC O is such a key
record IsKeypad (s : List ℕ) : Type 0 where
  report : KeyReport
  rule : KeypadRule s report
  event : (asks : Bool) → event_of asks (27 ∷ 79 ∷ s) ≡ Key report

single_event : (s : List ℕ) (r : KeyReport) (asks : Bool) → keypad_key s ≡ Some r → event_of asks (27 ∷ 79 ∷ s) ≡ Key r
unfolding event_of event_after keypad_reported
single_event s r asks e = rw e refl

keypad_told : (letter : ℕ) → IsKeypadLetter letter → IsKeypad (letter ∷ [])
unfolding keypad_key
keypad_told letter is =
    let k = keypad_entry letter is in
    let r = report_of k.0 pressed in
    let e : keypad_key (letter ∷ []) ≡ Some r = rw k.1 refl in
    record { report = r; rule = inl e; event = λ asks. single_event (letter ∷ []) r asks e }

parted_event : (s : List ℕ) (r : KeyReport) (asks : Bool) → keypad_key s ≡ None → modified_keypad_key s ≡ Some r
    → event_of asks (27 ∷ 79 ∷ s) ≡ Key r
unfolding event_of event_after keypad_reported
parted_event s r asks none e = rw (none, e) refl

modified_told : (digit letter : ℕ) → IsModifierDigit digit → IsModifiedLetter letter → (r : KeyReport) × (modified_report digit letter ≡ Some r)
modified_told digit letter d is =
    let k = modified_entry letter is in
    let low : nat_le 50 digit ≡ true = grind (arith, nat_tests, d.0) in
    let high : nat_le digit 56 ≡ true = grind (arith, nat_tests, d.1) in
    (report_of k.0 (record { modifiers = digit - 49; kind = Press }), rw (low, high, k.1) refl)

modified_event : (front : List ℕ) (digit letter : ℕ) → IsModifiedFront front → IsModifierDigit digit → IsLetterBehind front letter
    → IsKeypad (front ++ digit ∷ letter ∷ [])
unfolding keypad_key modified_keypad_key
modified_event front digit letter front_is d is = go front_is
  where
    made : (s : List ℕ) → keypad_key s ≡ None → modified_keypad_key s ≡ modified_report digit letter → IsKeypad s
    made s none same =
        let m = modified_told digit letter d is.0 in
        record { report = m.0; rule = inr (same ∙ m.1); event = λ asks. parted_event s m.0 asks none (same ∙ m.1) }

    of_function : front ≡ codes "1;" → is_function_letter letter ≡ true
    of_function one =
        let range = is.1 one in
        let low : nat_le 80 letter ≡ true = grind (arith, nat_tests, range.0) in
        let high : nat_le letter 83 ≡ true = grind (arith, nat_tests, range.1) in
        and_from (nat_le 80 letter) (nat_le letter 83) low high

    go : IsModifiedFront front → IsKeypad (front ++ digit ∷ letter ∷ [])
    go (inl none) = subst (λ f. IsKeypad (f ++ digit ∷ letter ∷ [])) (sym none) (made (digit ∷ letter ∷ []) refl refl)
    go (inr (inl zero)) = subst (λ f. IsKeypad (f ++ digit ∷ letter ∷ [])) (sym zero) (made (48 ∷ 59 ∷ digit ∷ letter ∷ []) refl refl)
    go (inr (inr one)) =
        subst (λ f. IsKeypad (f ++ digit ∷ letter ∷ [])) (sym one)
        (made (49 ∷ 59 ∷ digit ∷ letter ∷ []) refl (rw (of_function one) refl))

-- the event of a text of a form: by a rule after ESC [, or the text itself; a key after ESC O; or a title
pub data FromForm (text : List ℕ) (e : Event) : Type 0 where
  bracketed : (s : List ℕ) → text ≡ 27 ∷ 91 ∷ s → Told s e ⊎ (e ≡ Csi s) → FromForm text e
  keypad : (s : List ℕ) (r : KeyReport) → KeypadRule s r → e ≡ Key r → FromForm text e
  titled : (t : IsTitle text) → e ≡ Osc (t.letter ∷ t.body) → FromForm text e

by_bracket : (reading : Reading) (text s : List ℕ) → text ≡ 27 ∷ 91 ∷ s → FromForm text (event_in reading text)
by_bracket reading text s form =
    bracketed s form (subst (λ t. Told s (event_in reading t) ⊎ (event_in reading t ≡ Csi s)) (sym form) (bracketed_told (is_asking reading) s))

by_keypad : (reading : Reading) (text s : List ℕ) → text ≡ 27 ∷ 79 ∷ s → IsKeypad s → FromForm text (event_in reading text)
by_keypad reading text s form is = keypad s is.report is.rule (ap (event_in reading) form ∙ is.event (is_asking reading))

form_event : (reading : Reading) (text : List ℕ) → ReadsMore reading → IsForm reading.x10_mouse text → FromForm text (event_in reading text)
form_event reading text reads (control f) = by_bracket reading text _ f.form
form_event reading text reads (x10_report on f) = by_bracket reading text _ f.form
form_event reading text reads (console_key f) = by_bracket reading text _ f.form
form_event reading text reads (keypad_form f) = by_keypad reading text _ f.form (keypad_told f.letter f.letter_is)
form_event reading text reads (modified_key f) =
    by_keypad reading text _ f.form (modified_event f.front f.digit f.letter f.front_is f.digit_is f.letter_is)
form_event reading text reads (shifted_key f) = by_bracket reading text _ f.form
form_event reading text reads (title t) = titled t (sym (titles_are_commands reading text t reads).means)

-- the event of an extra sequence
pub extra_event : (reading : Reading) (text : List ℕ) (e : Event) → IsExtra reading text e → FromForm text e
extra_event reading text e is = subst (FromForm text) (sym is.means) (form_event reading text is.reads is.is_form)

-- the event of a bare key after ESC is the report of a key
pub alt_report : (reading : Reading) (text : List ℕ) (e : Event) → e ≡ event_in reading text → IsKey (event_in reading text)
    → (r : KeyReport) × (with_alt e ≡ Key r)
alt_report reading text e same is = go e (subst IsKey (sym same) is)
  where
    go : (d : Event) → IsKey d → (r : KeyReport) × (with_alt d ≡ Key r)
    go (Key r) h = (record r { modifiers = bit_or r.modifiers 2 }, refl)
    go d h = absurd h

-- what comes of a string is its whole, or a part, or a cut
pub string_event : (kind : StringKind) (head bytes after left : List ℕ) (more : Bool) (e : Event) → Comes kind head bytes after more left e
    → IsPartOrCut e ⊎ ((e ≡ whole_string kind (head ++ bytes)) × (string_length kind head bytes < most_string))
string_event kind head bytes after left more e (part full) = inl tt
string_event kind head bytes after left more e (last rest event short ends) = go left e ends
  where
    go : (l : List ℕ) (d : Event) → Ends kind (head ++ bytes) after more l d
        → IsPartOrCut d ⊎ ((d ≡ whole_string kind (head ++ bytes)) × (string_length kind head bytes < most_string))
    go l d (ended end l2 is f) = inr (refl, short)
    go l d (cut b l2 f n o) = inl tt
    go l d (cut_by_two l2 f) = inl tt
    go l d (flushed held f) = inl tt
