-- A key report of any other rule says no more than a key, its modifiers and what happened; or it is xterm's of a private character.
use Rattle.std.proofs.Common.{◌≡◌, inl, inr, ℕ, ◌-◌, ◌<◌, ◌≤◌, Bool, true, false, ◌==◌, ◌&&◌, ◌||◌, List, [], ◌∷◌, ◌++◌, length, length-append, take, refl, subst, arith, nat_le, Option, Some, None, bit_or, decimal}
use Rattle.std.proofs.lemmas.Nat.{or_of_8}
use Rattle.std.specs.Prelude.{codes, slice_get, option_map, option_and_then, bytes_eq, if◌then◌else◌}
use Rattle.std.specs.List.{list_all}
use Rattle.std.proofs.lemmas.Bool.{and_parts}
use Rattle.std.proofs.lemmas.Bool.Decides.{nat_tests}
use Rattle.std.proofs.lemmas.Option.{option_and_then_some}
use Rattle.termwiz_keys.specs.declared.types.KeyCode.{KeyCode}
use Rattle.termwiz_keys.specs.declared.types.KeyCode.TheVariants.{Char, Function, KeyPadBegin, Tab}
use Rattle.termwiz_extended_events.specs.declared.types.KeyReport.{KeyReport}
use Rattle.termwiz_extended_events.specs.declared.types.KeyEventKind.TheVariants.{Press}
use Rattle.termwiz_extended_events.specs.declared.types.Manner.{Manner}
use Rattle.termwiz_extended_events.specs.declared.types.ReportedKey.{ReportedKey}
use Rattle.termwiz_extended_events.specs.declared.types.ReportedKey.TheVariants.{Named}
use Rattle.termwiz_extended_events.specs.Numbers.{before_end, fields, number, is_scalar, scalar}
use Rattle.termwiz_extended_events.specs.ReportedKeys.{entry_at, is_functional, last_functional, functional_key, key_of, lettered_keys, tilde_key, rxvt_key_at, console_keys, keypad_keys, modified_keypad_keys}
use Rattle.termwiz_extended_events.specs.KeyReports.{manner_of, pressed, report_of, report_behind, is_one_or_missing, lettered_of_fields, last_letter, lettered_key, numbered_of_fields, numbered_key, other_pair, other_of_fields, other_held, other_code, is_shifted_by, other_report, other_key, third_function_key, shifted_tab, back_tab_of_fields, back_tab, cursor_letter, short_key, middle_key, further_key, rxvt_number, rxvt_report, rxvt_key, console_key, keypad_key, modified_report, is_function_letter, modified_keypad_key}
use Rattle.termwiz_kitty.specs.KeyForms.{named_form}
use Rattle.termwiz_kitty.specs.KittyTexts.{codes_text}
use Rattle.termwiz_kitty.specs.Telling.{is_shifted}
use Rattle.termwiz_kitty.proofs.lemmas.read_back.Decimals.{scalar_small}
use Rattle.termwiz_senders.specs.ReportTexts.{is_own_key, private_character, says_no_more}
use Rattle.termwiz_event_laws.proofs.lemmas.KeyReportsNumbers.{at_most_seven, number_parts, scalar_parts}
use Rattle.termwiz_event_laws.proofs.lemmas.KeyReportsKeys.{is_plain_key, tilde_plain, rxvt_plain, IsPrivateKey, IsTypedKey, IsOther, other_key_is, functional_no_control}
use Rattle.termwiz_event_laws.proofs.lemmas.KeyReportsTexts.{no_characters}
use Rattle.termwiz_event_laws.proofs.lemmas.KeyReportsWritten.{IsFromCharacter}
use Rattle.termwiz_event_laws.proofs.lemmas.UnreadEnds.{and_false}
use Rattle.termwiz_event_laws.proofs.lemmas.KeyReportsParts.{manner_parts}
use Rattle.termwiz_event_laws.proofs.lemmas.SomeOptions.{map_some, IsAmong, among}
use Rattle.termwiz_senders.proofs.lemmas.TableEntries.{entry_passes}

-- a report that says no more than a key that is written by its form, the modifiers and what happened
pub record IsPlain (r : KeyReport) : Type 0 where
  pub key : is_plain_key r.key ≡ true
  pub none : says_no_more r ≡ true
  pub fits : r.modifiers < 256

-- the press of a character that has the number of a functional key, which tells with Shift what Shift made
abbrev pub private_report : ℕ → ℕ → KeyReport
private_report c bits = record {
  key = Named (Char c);
  modifiers = bits;
  kind = Press;
  shifted = if is_shifted bits then Some c else None;
  base = None;
  text = [];
}

pub record IsPrivate (r : KeyReport) : Type 0 where
  pub character : ℕ
  pub bits : ℕ
  pub is : private_report character bits ≡ r
  pub functional : is_functional character ≡ true
  pub fits : bits < 256

built : (key : ReportedKey) (manner : Manner) (r : KeyReport) → is_plain_key key ≡ true → manner.modifiers < 256
    → report_of key manner ≡ r → IsPlain r
built key manner r plain fits is = subst IsPlain is (record { key = plain; none = refl; fits = fits })

behind : (key : ReportedKey) (more : List (List ℕ)) (r : KeyReport) → is_plain_key key ≡ true → report_behind key more ≡ Some r → IsPlain r
behind key [] r plain e = built key pressed r plain (omega arith) (cc (e))
behind key (m ∷ []) r plain e =
    let found = map_some (report_of key) (manner_of m) r e in
    built key found.0 r plain (manner_parts m found.0 found.1).fits found.2
behind key (m ∷ n ∷ more) r plain e = absurd (cc (e))

-- a test of what is given
pub if_some : {A : Type 0} (b : Bool) (o : Option A) (a : A) → (if b then o else None) ≡ Some a → (b ≡ true) × (o ≡ Some a)
if_some true o a e = (refl, e)
if_some false o a e = absurd (cc (e))

-- by a letter

lettered_fields : (key : KeyCode) (fs : List (List ℕ)) (r : KeyReport) → is_plain_key (Named key) ≡ true
    → lettered_of_fields key fs ≡ Some r → IsPlain r
lettered_fields key [] r plain e = absurd (cc (e))
lettered_fields key (front ∷ more) r plain e =
    behind (Named key) more r plain (if_some (is_one_or_missing front) (report_behind (Named key) more) r e).1

letters_are_plain : list_all (λ row. is_plain_key (Named row.1)) lettered_keys ≡ true
unfolding private_character is_own_key named_form
letters_are_plain = refl

letter_plain : (t : List ℕ) (key : KeyCode) → last_letter t ≡ Some key → is_plain_key (Named key) ≡ true
letter_plain t key e = option_and_then_some (entry_at lettered_keys) (slice_get t (length t - 1)) key e
    (λ (l : ℕ) (last : slice_get t (length t - 1) ≡ Some l) (found : entry_at lettered_keys l ≡ Some key).
    entry_passes (λ n k. is_plain_key (Named k)) lettered_keys l key letters_are_plain found)

pub lettered_plain : (t : List ℕ) (r : KeyReport) → lettered_key t ≡ Some r → IsPlain r
unfolding lettered_key
lettered_plain t r e =
    option_and_then_some (λ key. lettered_of_fields key (fields (take (length t - 1) t))) (last_letter t) r e
    (λ (key : KeyCode) (found : last_letter t ≡ Some key) (read : lettered_of_fields key (fields (take (length t - 1) t)) ≡ Some r).
    lettered_fields key (fields (take (length t - 1) t)) r (letter_plain t key found) read)

third_is_plain : is_plain_key (Named (Function 3)) ≡ true
unfolding private_character is_own_key named_form
third_is_plain = refl

pub third_plain : (t : List ℕ) (r : KeyReport) → third_function_key t ≡ Some r → IsPlain r
unfolding third_function_key
third_plain t r e = option_and_then_some (λ body. lettered_of_fields (Function 3) (fields body)) (before_end (codes "R") t) r e
    (λ (body : List ℕ) (found : before_end (codes "R") t ≡ Some body) (read : lettered_of_fields (Function 3) (fields body) ≡ Some r).
    lettered_fields (Function 3) (fields body) r third_is_plain read)

-- by a number

numbered_fields : (fs : List (List ℕ)) (r : KeyReport) → numbered_of_fields fs ≡ Some r → IsPlain r
numbered_fields [] r e = absurd (cc (e))
numbered_fields (n ∷ more) r e =
    option_and_then_some (λ key. report_behind key more) (option_and_then tilde_key (number 0 last_functional n)) r e
    (λ (key : ReportedKey) (found : option_and_then tilde_key (number 0 last_functional n) ≡ Some key) (read : report_behind key more ≡ Some r).
    behind key more r (option_and_then_some tilde_key (number 0 last_functional n) key found
    (λ (m : ℕ) (its : number 0 last_functional n ≡ Some m) (told : tilde_key m ≡ Some key). tilde_plain m key told)) read)

pub numbered_plain : (t : List ℕ) (r : KeyReport) → numbered_key t ≡ Some r → IsPlain r
unfolding numbered_key
numbered_plain t r e = option_and_then_some (λ body. numbered_of_fields (fields body)) (before_end (codes "~") t) r e
    (λ (body : List ℕ) (found : before_end (codes "~") t ≡ Some body) (read : numbered_of_fields (fields body) ≡ Some r).
    numbered_fields (fields body) r read)

-- as xterm's modifyOtherKeys

-- what both numbers are
record IsHeld (held : ℕ × ℕ) : Type 0 where
  fits : held.0 < 256
  is : is_scalar held.1 ≡ true

pair_parts : (m c : List ℕ) (held : ℕ × ℕ) → other_pair (number 1 256 m) (scalar c) ≡ Some held → IsHeld held
pair_parts m c held e = go (number 1 256 m) (scalar c) refl refl e
  where
    go : (o p : Option ℕ) → number 1 256 m ≡ o → scalar c ≡ p → other_pair o p ≡ Some held → IsHeld held
    go (Some a) (Some b) f g h =
        let bits = number_parts 7 1 256 m a f in
        let same : (a - 1, b) ≡ held = cc (h) in
        subst IsHeld same (record { fits = omega (arith, bits.low, bits.high); is = (scalar_parts c b g).is })
    go None p f g h = absurd (cc (h))
    go (Some a) None f g h = absurd (cc (h))

other_fields : (fs : List (List ℕ)) (held : ℕ × ℕ) → other_of_fields fs ≡ Some held → IsHeld held
other_fields [] held e = absurd (cc (e))
other_fields (a ∷ []) held e = absurd (cc (e))
other_fields (a ∷ b ∷ []) held e = absurd (cc (e))
other_fields (front ∷ m ∷ c ∷ []) held e =
    pair_parts m c held (if_some (bytes_eq front (codes "27")) (other_pair (number 1 256 m) (scalar c)) held e).1
other_fields (a ∷ b ∷ c ∷ d ∷ fs) held e = absurd (cc (e))

held_parts : (t : List ℕ) (held : ℕ × ℕ) → other_held t ≡ Some held → IsHeld held
unfolding other_held
held_parts t held e = option_and_then_some (λ body. other_of_fields (fields body)) (before_end (codes "~") t) held e
    (λ (body : List ℕ) (found : before_end (codes "~") t ≡ Some body) (read : other_of_fields (fields body) ≡ Some held).
    other_fields (fields body) held read)

-- what such a report is: with Shift it tells a character that is no control character as what Shift made
pub data IsOtherReport (r : KeyReport) : Type 0 where
  told_plain : IsPlain r → IsOtherReport r
  told_private : IsPrivate r → IsOtherReport r
  told_shifted : IsFromCharacter 0 r → IsOtherReport r

and_true : (b : Bool) → (b && true) ≡ b
and_true true = refl
and_true false = refl

pub private_shifted : (c bits : ℕ) → is_functional c ≡ true → is_shifted_by bits c ≡ is_shifted bits
private_shifted c bits inside = rw (functional_no_control c inside) (and_true (is_shifted bits))

-- both codes of a character that Shift made
two_codes : (c : ℕ) → is_scalar c ≡ true → length (codes_text c (Some c) None) ≤ 23
unfolding codes_text
two_codes c scalar =
    let high : c ≤ 0x10ffff = scalar_small c scalar in
    let few = at_most_seven c (omega arith) in
    omega (arith, length-append (decimal c ++ 58 ∷ []) (decimal c), length-append (decimal c) (58 ∷ []), few)

module _ (held : ℕ × ℕ) (fits : held.0 < 256) (scalar : is_scalar held.1 ≡ true) where
  not_shifted : is_plain_key (other_code held.1) ≡ true → is_shifted_by held.0 held.1 ≡ false → IsPlain (other_report held)
  not_shifted plain e = record { key = plain; none = rw e refl; fits = fits }

  by_shift : IsTypedKey held.1 → (b : Bool) → is_shifted_by held.0 held.1 ≡ b → IsOtherReport (other_report held)
  by_shift typed false e = told_plain (not_shifted typed.plain e)
  by_shift typed true e = told_shifted (record {
    own = held.1;
    own_is = scalar;
    key = typed.key;
    fits = fits;
    few = rw e (two_codes held.1 scalar);
    short = inl no_characters;
  })

  private_is : IsPrivateKey held.1 → IsPrivate (other_report held)
  private_is p = record {
    character = held.1;
    bits = held.0;
    is = rw (p.key, private_shifted held.1 held.0 p.functional) refl;
    functional = p.functional;
    fits = fits;
  }

  other_is : IsOther held.1 → IsOtherReport (other_report held)
  other_is (inl control) = told_plain (not_shifted control.plain (rw control.control (and_false (is_shifted held.0))))
  other_is (inr (inl private_key)) = told_private (private_is private_key)
  other_is (inr (inr typed)) = by_shift typed (is_shifted_by held.0 held.1) refl

pub other_parts : (t : List ℕ) (r : KeyReport) → other_key t ≡ Some r → IsOtherReport r
unfolding other_key
other_parts t r e =
    let found = map_some other_report (other_held t) r e in
    let held = held_parts t found.0 found.1 in
    subst IsOtherReport found.2 (other_is found.0 held.fits held.is (other_key_is found.0.1 held.is))

-- as rxvt-unicode sends it

one_rxvt : (bits : ℕ) (digits : Option (List ℕ)) (r : KeyReport) → bits < 256 → rxvt_report bits digits ≡ Some r → IsPlain r
one_rxvt bits digits r fits e =
    let found = map_some (λ key. report_of (Named key) (record { modifiers = bits; kind = Press }))
    (option_and_then rxvt_key_at (option_and_then rxvt_number digits)) r e in
    built (Named found.0) (record { modifiers = bits; kind = Press }) r
    (option_and_then_some rxvt_key_at (option_and_then rxvt_number digits) found.0 found.1
    (λ (n : ℕ) (its : option_and_then rxvt_number digits ≡ Some n) (told : rxvt_key_at n ≡ Some found.0). rxvt_plain n found.0 told))
    fits found.2

pub rxvt_key_plain : (t : List ℕ) (r : KeyReport) → rxvt_key t ≡ Some r → IsPlain r
unfolding rxvt_key
rxvt_key_plain t r e = go (among (rxvt_report 4 (before_end (codes "^") t) ∷ rxvt_report 5 (before_end (codes "@") t)
    ∷ rxvt_report 1 (before_end (codes "$") t) ∷ []) r e)
  where
    go : IsAmong (rxvt_report 4 (before_end (codes "^") t) ∷ rxvt_report 5 (before_end (codes "@") t)
        ∷ rxvt_report 1 (before_end (codes "$") t) ∷ []) r → IsPlain r
    go (inl f) = one_rxvt 4 (before_end (codes "^") t) r (omega arith) f
    go (inr (inl f)) = one_rxvt 5 (before_end (codes "@") t) r (omega arith) f
    go (inr (inr (inl f))) = one_rxvt 1 (before_end (codes "$") t) r (omega arith) f
    go (inr (inr (inr f))) = absurd f

-- of the Linux console

consoles_are_plain : list_all (λ row. is_plain_key (Named row.1)) console_keys ≡ true
unfolding private_character is_own_key named_form
consoles_are_plain = refl

pub console_plain : (t : List ℕ) (r : KeyReport) → console_key t ≡ Some r → IsPlain r
unfolding console_key
console_plain [] r e = absurd (cc (e))
console_plain (a ∷ []) r e = absurd (cc (e))
console_plain (bracket ∷ letter ∷ []) r e =
    let read = (if_some (bracket == 91) (option_map (λ key. report_of (Named key) pressed) (entry_at console_keys letter)) r e).1 in
    let found = map_some (λ key. report_of (Named key) pressed) (entry_at console_keys letter) r read in
    built (Named found.0) pressed r
    (entry_passes (λ n k. is_plain_key (Named k)) console_keys letter found.0 consoles_are_plain found.1) (omega arith) found.2
console_plain (a ∷ b ∷ c ∷ t) r e = absurd (cc (e))

-- of a few terminals

further_are_plain : (is_plain_key (Named Tab) ≡ true) × (is_plain_key (Named KeyPadBegin) ≡ true)
unfolding private_character is_own_key named_form
further_are_plain = (refl, refl)

back_tab_fields : (fs : List (List ℕ)) (r : KeyReport) → back_tab_of_fields fs ≡ Some r → IsPlain r
back_tab_fields [] r e = absurd (cc (e))
back_tab_fields (a ∷ []) r e = absurd (cc (e))
back_tab_fields (front ∷ m ∷ []) r e =
    let read = (if_some (is_one_or_missing front) (option_map shifted_tab (manner_of m)) r e).1 in
    let found = map_some shifted_tab (manner_of m) r read in
    built (Named Tab) (record found.0 { modifiers = bit_or found.0.modifiers 1 }) r further_are_plain.0
    (or_of_8 found.0.modifiers 1 (manner_parts m found.0 found.1).fits (omega arith)) found.2
back_tab_fields (a ∷ b ∷ c ∷ fs) r e = absurd (cc (e))

back_tab_plain : (t : List ℕ) (r : KeyReport) → back_tab t ≡ Some r → IsPlain r
unfolding back_tab
back_tab_plain t r e = option_and_then_some (λ body. back_tab_of_fields (fields body)) (before_end (codes "Z") t) r e
    (λ (body : List ℕ) (found : before_end (codes "Z") t ≡ Some body) (read : back_tab_of_fields (fields body) ≡ Some r).
    back_tab_fields (fields body) r read)

cursor_plain : (letter : ℕ) (key : KeyCode) → cursor_letter letter ≡ Some key → is_plain_key (Named key) ≡ true
cursor_plain letter key e = go (letter == 82) refl
  where
    go : (b : Bool) → (letter == 82) ≡ b → is_plain_key (Named key) ≡ true
    go true third =
        let found : Some (Function 3) ≡ Some key = rw third at e in
        subst (λ k. is_plain_key (Named k) ≡ true) (let same : Function 3 ≡ key = cc (found) in same) third_is_plain
    go false other = entry_passes (λ n k. is_plain_key (Named k)) lettered_keys letter key letters_are_plain (rw other at e)

short_plain : (t : List ℕ) (r : KeyReport) → short_key t ≡ Some r → IsPlain r
unfolding short_key
short_plain [] r e = absurd (cc (e))
short_plain (a ∷ []) r e = absurd (cc (e))
short_plain (m ∷ letter ∷ []) r e =
    let both = if_some (nat_le 50 m && nat_le m 56)
    (option_map (λ key. report_of (Named key) (record { modifiers = m - 49; kind = Press })) (cursor_letter letter)) r e in
    let high : nat_le m 56 ≡ true = (and_parts (nat_le 50 m) (nat_le m 56) both.0).1 in
    let upto : m ≤ 56 = grind (arith, nat_tests) in
    let found = map_some (λ key. report_of (Named key) (record { modifiers = m - 49; kind = Press })) (cursor_letter letter) r both.1 in
    built (Named found.0) (record { modifiers = m - 49; kind = Press }) r (cursor_plain letter found.0 found.1) (omega arith) found.2
short_plain (a ∷ b ∷ c ∷ t) r e = absurd (cc (e))

middle_plain : (t : List ℕ) (r : KeyReport) → middle_key t ≡ Some r → IsPlain r
unfolding middle_key
middle_plain [] r e = absurd (cc (e))
middle_plain (letter ∷ []) r e =
    let read = (if_some (letter == 71) (Some (report_of (Named KeyPadBegin) pressed)) r e).1 in
    built (Named KeyPadBegin) pressed r further_are_plain.1 (omega arith) (cc (read))
middle_plain (a ∷ b ∷ t) r e = absurd (cc (e))

pub further_plain : (t : List ℕ) (r : KeyReport) → further_key t ≡ Some r → IsPlain r
unfolding further_key
further_plain t r e = go (among (back_tab t ∷ short_key t ∷ middle_key t ∷ []) r e)
  where
    go : IsAmong (back_tab t ∷ short_key t ∷ middle_key t ∷ []) r → IsPlain r
    go (inl f) = back_tab_plain t r f
    go (inr (inl f)) = short_plain t r f
    go (inr (inr (inl f))) = middle_plain t r f
    go (inr (inr (inr f))) = absurd f

-- of the keypad

keypad_is_plain : list_all (λ row. is_plain_key row.1) keypad_keys ≡ true
unfolding private_character is_own_key named_form functional_key key_of
keypad_is_plain = refl

modified_is_plain : list_all (λ row. is_plain_key row.1) modified_keypad_keys ≡ true
unfolding private_character is_own_key named_form functional_key key_of
modified_is_plain = refl

pub keypad_plain : (t : List ℕ) (r : KeyReport) → keypad_key t ≡ Some r → IsPlain r
unfolding keypad_key
keypad_plain [] r e = absurd (cc (e))
keypad_plain (letter ∷ []) r e =
    let found = map_some (λ key. report_of key pressed) (entry_at keypad_keys letter) r e in
    built found.0 pressed r (entry_passes (λ n k. is_plain_key k) keypad_keys letter found.0 keypad_is_plain found.1) (omega arith) found.2
keypad_plain (a ∷ b ∷ t) r e = absurd (cc (e))

by_digit : (m letter : ℕ) (r : KeyReport) → modified_report m letter ≡ Some r → IsPlain r
by_digit m letter r e =
    let both = if_some (nat_le 50 m && nat_le m 56)
    (option_map (λ key. report_of key (record { modifiers = m - 49; kind = Press })) (entry_at modified_keypad_keys letter)) r e in
    let high : nat_le m 56 ≡ true = (and_parts (nat_le 50 m) (nat_le m 56) both.0).1 in
    let upto : m ≤ 56 = grind (arith, nat_tests) in
    let found = map_some (λ key. report_of key (record { modifiers = m - 49; kind = Press })) (entry_at modified_keypad_keys letter) r both.1 in
    built found.0 (record { modifiers = m - 49; kind = Press }) r
    (entry_passes (λ n k. is_plain_key k) modified_keypad_keys letter found.0 modified_is_plain found.1) (omega arith) found.2

pub modified_plain : (t : List ℕ) (r : KeyReport) → modified_keypad_key t ≡ Some r → IsPlain r
unfolding modified_keypad_key
modified_plain [] r e = absurd (cc (e))
modified_plain (a ∷ []) r e = absurd (cc (e))
modified_plain (m ∷ letter ∷ []) r e = by_digit m letter r e
modified_plain (a ∷ b ∷ c ∷ []) r e = absurd (cc (e))
modified_plain (first ∷ separator ∷ m ∷ letter ∷ []) r e =
    by_digit m letter r
    (if_some ((separator == 59) && ((first == 48) || ((first == 49) && is_function_letter letter))) (modified_report m letter) r e).1
modified_plain (a ∷ b ∷ c ∷ d ∷ f ∷ t) r e = absurd (cc (e))
