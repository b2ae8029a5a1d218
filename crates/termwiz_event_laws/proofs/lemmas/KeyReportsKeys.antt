-- Each key that is read from a number is written by a form of its own, and has that number.
use Rattle.std.proofs.Common.{◌≡◌, ◌⊎◌, inl, inr, ⊎_elim, ℕ, ◌+◌, ◌-◌, ◌≤◌, Bool, true, false, ◌&&◌, ◌||◌, List, refl, sym, ap, ◌∙◌, subst, arith, nat_lt, nat_le, Option, Some, None}
use Rattle.std.specs.Prelude.{◌==◌, if◌then◌else◌}
use Rattle.std.specs.Char.{is_control}
use Rattle.std.specs.List.{list_all}
use Rattle.std.specs.Option.{option_or}
use Rattle.std.proofs.lemmas.Bool.{and_parts}
use Rattle.std.proofs.lemmas.Bool.Decides.{nat_tests}
use Rattle.termwiz_keys.specs.declared.types.KeyCode.{KeyCode}
use Rattle.termwiz_keys.specs.declared.types.KeyCode.TheVariants.{Char, Function, Backspace, Escape, Tab, Enter}
use Rattle.termwiz_keys.specs.FunctionCodes.{function_codes, high_function_codes}
use Rattle.termwiz_grammar.specs.Table.{digit_keys}
use Rattle.termwiz_extended_events.specs.declared.types.ReportedKey.{ReportedKey}
use Rattle.termwiz_extended_events.specs.declared.types.ReportedKey.TheVariants.{Named, Functional}
use Rattle.termwiz_extended_events.specs.Numbers.{is_scalar}
use Rattle.termwiz_extended_events.specs.ReportedKeys.{entry_at, is_functional, is_high_function, named_functional_keys, functional_key, control_keys, no_key, key_of, function_key, numbered_key, is_rxvt_function, key_with_number, tilde_key, rxvt_key_at}
use Rattle.termwiz_extended_events.specs.KeyReports.{other_code}
use Rattle.termwiz_kitty.specs.declared.key_forms.KeyForm.{KeyForm}
use Rattle.termwiz_kitty.specs.declared.key_forms.KeyForm.TheVariants.{Letter, Number, Code}
use Rattle.termwiz_kitty.specs.KeyForms.{named_form, form_of}
use Rattle.termwiz_kitty.proofs.lemmas.read_back.Decimals.{scalar_small}
use Rattle.termwiz_senders.specs.ReportTexts.{is_missing, own_number, is_own_key, private_character}
use Rattle.termwiz_event_laws.proofs.lemmas.SomeOptions.{map_some}
use Rattle.termwiz_senders.proofs.lemmas.TableEntries.{entry_passes}
use Rattle.termwiz_senders.proofs.lemmas.OwnKeys.{high_is, other_is, some_functional, functional_of, none_of, character_of}

-- the form is there, and its number is small
abbrev pub is_small : Option KeyForm → Bool
is_small None = false
is_small (Some (Letter l)) = true
is_small (Some (Number n)) = nat_lt n 2000000
is_small (Some (Code n)) = nat_lt n 2000000

-- a key that is written by its form
abbrev pub is_plain_key : ReportedKey → Bool
is_plain_key key = is_missing (private_character key) && is_own_key key && is_small (form_of key)

-- a key of this number
pub record IsOwn (n : ℕ) (key : ReportedKey) : Type 0 where
  pub plain : is_plain_key key ≡ true
  pub number : own_number key ≡ Some n

-- The number that a key is told by which is read from a number: Backspace and Enter have two.
abbrev pub main_number : ℕ → ℕ
main_number n = if n == 8 then 127 else (if n == 10 then 13 else n)

-- a key that is read from this number
pub record IsReadFrom (n : ℕ) (key : ReportedKey) : Type 0 where
  pub plain : is_plain_key key ≡ true
  pub number : own_number key ≡ Some (main_number n)

-- a key of this number, as a test

abbrev is_number : ℕ → Option ℕ → Bool
is_number n None = false
is_number n (Some m) = m == n

abbrev is_own_entry : ℕ → KeyCode → Bool
is_own_entry n key = is_plain_key (Named key) && is_number n (own_number (Named key))

number_told : (n : ℕ) (o : Option ℕ) → is_number n o ≡ true → o ≡ Some n
number_told n None e = absurd (cc (e))
number_told n (Some m) e = let same : m ≡ n = grind (arith, nat_tests) in cc (same)

own_entry : (table : List (ℕ × KeyCode)) (n : ℕ) (key : KeyCode) → list_all (λ row. is_own_entry row.0 row.1) table ≡ true
    → entry_at table n ≡ Some key → IsOwn n (Named key)
own_entry table n key all e =
    let both = and_parts (is_plain_key (Named key)) (is_number n (own_number (Named key))) (entry_passes is_own_entry table n key all e) in
    record { plain = both.0; number = number_told n (own_number (Named key)) both.1 }

named_are_own : list_all (λ row. is_own_entry row.0 row.1) named_functional_keys ≡ true
unfolding private_character is_own_key named_form own_number
named_are_own = refl

-- a key of the main number, as a test
abbrev is_read_entry : ℕ → KeyCode → Bool
is_read_entry n key = is_plain_key (Named key) && is_number (main_number n) (own_number (Named key))

controls_are_read : list_all (λ row. is_read_entry row.0 row.1) control_keys ≡ true
unfolding private_character is_own_key named_form own_number
controls_are_read = refl

control_is : (n : ℕ) (key : KeyCode) → entry_at control_keys n ≡ Some key → IsReadFrom n (Named key)
control_is n key e =
    let both = and_parts (is_plain_key (Named key)) (is_number (main_number n) (own_number (Named key)))
    (entry_passes is_read_entry control_keys n key controls_are_read e) in
    record { plain = both.0; number = number_told (main_number n) (own_number (Named key)) both.1 }

-- functional keys

high_function : (m : ℕ) → 13 ≤ m → m ≤ 35 → IsOwn (57363 + m) (Named (Function m))
unfolding private_character is_own_key named_form own_number
high_function m low high =
    let above : nat_le 13 m ≡ true = grind (arith, nat_tests) in
    let below : nat_le m 35 ≡ true = grind (arith, nat_tests) in
    let small : nat_lt (57363 + m) 2000000 ≡ true = grind (arith, nat_tests) in
    record { plain = rw (above, below, small) refl; number = rw (above, below) refl }

nameless : (n : ℕ) → is_functional n ≡ true → functional_key n ≡ Functional n → IsOwn n (Functional n)
unfolding private_character is_own_key own_number
nameless n inside same =
    let both = and_parts (nat_le 57344 n) (nat_le n 63743) inside in
    let high : nat_le n 63743 ≡ true = both.1 in
    let small : nat_lt n 2000000 ≡ true = grind (arith, nat_tests) in
    let some = some_functional n inside in
    let read : key_of n ≡ Functional n = functional_of n inside ∙ same in
    record { plain = rw (some, inside, read, small) refl; number = rw (some, inside) refl }

pub functional_is : (n : ℕ) → is_functional n ≡ true → IsOwn n (functional_key n)
functional_is n inside = go (is_high_function n) refl
  where
    by_name : (o : Option KeyCode) → is_high_function n ≡ false → entry_at named_functional_keys n ≡ o → IsOwn n (functional_key n)
    by_name None low e = let same = other_is n None low e in subst (IsOwn n) (sym same) (nameless n inside same)
    by_name (Some key) low e =
        subst (IsOwn n) (sym (other_is n (Some key) low e)) (own_entry named_functional_keys n key named_are_own e)

    go : (b : Bool) → is_high_function n ≡ b → IsOwn n (functional_key n)
    go true high =
        let both = and_parts (nat_le 57376 n) (nat_le n 57398) high in
        let above : nat_le 57376 n ≡ true = both.0 in
        let below : nat_le n 57398 ≡ true = both.1 in
        let from : 57376 ≤ n = grind (arith, nat_tests) in
        let upto : n ≤ 57398 = grind (arith, nat_tests) in
        let number : 57363 + (n - 57363) ≡ n = omega arith in
        subst (λ key. IsOwn n key) (sym (high_is n high))
        (subst (λ m. IsOwn m (Named (Function (n - 57363)))) number (high_function (n - 57363) (omega arith) (omega arith)))
    go false low = by_name (entry_at named_functional_keys n) low refl

-- the keys of characters

character_is : (n : ℕ) → is_scalar n ≡ true → is_functional n ≡ false → key_of n ≡ Named (Char n) → IsOwn n (Named (Char n))
unfolding private_character is_own_key named_form own_number
character_is n scalar outside same =
    let high : n ≤ 0x10ffff = scalar_small n scalar in
    let small : nat_lt n 2000000 ≡ true = grind (arith, nat_tests) in
    record { plain = rw (outside, same, small) refl; number = refl }

none_is : IsReadFrom no_key (Functional no_key)
unfolding private_character is_own_key own_number key_of
none_is = record { plain = refl; number = refl }

-- a number that is not in the table of the control keys is told as it is
no_other_number : (n : ℕ) → entry_at control_keys n ≡ None → main_number n ≡ n
no_other_number n none = go (n == 8) (n == 10) refl refl
  where
    go : (a b : Bool) → (n == 8) ≡ a → (n == 10) ≡ b → main_number n ≡ n
    go true b e f =
        let same : n ≡ 8 = grind (arith, nat_tests) in
        absurd (let no : Some Backspace ≡ None = subst (λ m. entry_at control_keys m ≡ None) same none in cc (no))
    go false true e f =
        let same : n ≡ 10 = grind (arith, nat_tests) in
        absurd (let no : Some Enter ≡ None = subst (λ m. entry_at control_keys m ≡ None) same none in cc (no))
    go false false e f = rw (e, f) refl

read_from : (n : ℕ) (key : ReportedKey) → main_number n ≡ n → IsOwn n key → IsReadFrom n key
read_from n key same own = record { plain = own.plain; number = own.number ∙ ap (λ m. Some m) (sym same) }

pub key_is : (n : ℕ) → is_scalar n ≡ true → IsReadFrom n (key_of n)
key_is n scalar = go (n == no_key) (is_functional n) refl refl
  where
    by_control : (o : Option KeyCode) → (n == no_key) ≡ false → is_functional n ≡ false → entry_at control_keys n ≡ o → IsReadFrom n (key_of n)
    by_control None some outside e =
        let same = character_of n None some outside e in
        subst (IsReadFrom n) (sym same) (read_from n (Named (Char n)) (no_other_number n e) (character_is n scalar outside same))
    by_control (Some key) some outside e = subst (IsReadFrom n) (sym (character_of n (Some key) some outside e)) (control_is n key e)

    functional : is_functional n ≡ true → main_number n ≡ n
    functional inside =
        let low : nat_le 57344 n ≡ true = (and_parts (nat_le 57344 n) (nat_le n 63743) inside).0 in
        let a : (n == 8) ≡ false = grind (arith, nat_tests) in
        let b : (n == 10) ≡ false = grind (arith, nat_tests) in
        rw (a, b) refl

    go : (a b : Bool) → (n == no_key) ≡ a → is_functional n ≡ b → IsReadFrom n (key_of n)
    go true b none e =
        let same : n ≡ no_key = grind (arith, nat_tests) in
        subst (IsReadFrom n) (sym (none_of n none)) (subst (λ m. IsReadFrom m (Functional no_key)) (sym same) none_is)
    go false true some inside =
        subst (IsReadFrom n) (sym (functional_of n inside)) (read_from n (functional_key n) (functional inside) (functional_is n inside))
    go false false some outside = by_control (entry_at control_keys n) some outside refl

-- the keys of xterm's modifyOtherKeys

-- a control character: its key is written by its form
pub record IsControlKey (c : ℕ) : Type 0 where
  pub control : is_control c ≡ true
  pub plain : is_plain_key (other_code c) ≡ true

-- a character with the number of a functional key
pub record IsPrivateKey (c : ℕ) : Type 0 where
  pub functional : is_functional c ≡ true
  pub key : other_code c ≡ Named (Char c)

-- any other character, which is its own key
pub record IsTypedKey (c : ℕ) : Type 0 where
  pub plain : is_plain_key (other_code c) ≡ true
  pub key : other_code c ≡ key_of c

abbrev pub IsOther : ℕ → Type 0
IsOther c = IsControlKey c ⊎ (IsPrivateKey c ⊎ IsTypedKey c)

typed_is : (c : ℕ) → is_scalar c ≡ true → (c == no_key) ≡ false → entry_at control_keys c ≡ None → other_code c ≡ Named (Char c) → IsOther c
typed_is c scalar some e code = go (is_functional c) refl
  where
    go : (b : Bool) → is_functional c ≡ b → IsOther c
    go true inside = inr (inl (record { functional = inside; key = code }))
    go false outside =
        let same = character_of c None some outside e in
        let its : is_plain_key (Named (Char c)) ≡ true = (character_is c scalar outside same).plain in
        inr (inr (record { plain = subst (λ k. is_plain_key k ≡ true) (sym code) its; key = code ∙ sym same }))

some_controls : (is_plain_key (Named Backspace) ≡ true) × (is_plain_key (Named Escape) ≡ true) × (is_plain_key (Named Tab) ≡ true)
    × (is_plain_key (Named Enter) ≡ true) × (is_plain_key (Functional no_key) ≡ true)
unfolding private_character is_own_key named_form key_of
some_controls = (refl, refl, refl, refl, refl)

control_at : (c n : ℕ) → c ≡ n → is_control n ≡ true → is_control c ≡ true
control_at c n same e = subst (λ m. is_control m ≡ true) (sym same) e

pub other_key_is : (c : ℕ) → is_scalar c ≡ true → IsOther c
other_key_is c scalar = go (c == no_key) ((c == 8) || (c == 127)) (c == 27) (c == 9) ((c == 10) || (c == 13)) refl refl refl refl refl
  where
    either : (m n : ℕ) → is_control m ≡ true → is_control n ≡ true → ((c == m) || (c == n)) ≡ true → is_control c ≡ true
    either m n first second e = pick (c == m) (c == n) refl refl e
      where
        pick : (v w : Bool) → (c == m) ≡ v → (c == n) ≡ w → (v || w) ≡ true → is_control c ≡ true
        pick true w f g h = control_at c m (grind (arith, nat_tests)) first
        pick false true f g h = control_at c n (grind (arith, nat_tests)) second
        pick false false f g h = absurd (cc (h))

    go : (z a b d f : Bool) → (c == no_key) ≡ z → ((c == 8) || (c == 127)) ≡ a → (c == 27) ≡ b → (c == 9) ≡ d → ((c == 10) || (c == 13)) ≡ f
        → IsOther c
    go true a b d f o p q s t =
        inl (record { control = control_at c no_key (grind (arith, nat_tests)) refl; plain = rw o some_controls.4 })
    go false true b d f o p q s t = inl (record { control = either 8 127 refl refl p; plain = rw (o, p) some_controls.0 })
    go false false true d f o p q s t =
        inl (record { control = control_at c 27 (grind (arith, nat_tests)) refl; plain = rw (o, p, q) some_controls.1 })
    go false false false true f o p q s t =
        inl (record { control = control_at c 9 (grind (arith, nat_tests)) refl; plain = rw (o, p, q, s) some_controls.2 })
    go false false false false true o p q s t = inl (record { control = either 10 13 refl refl t; plain = rw (o, p, q, s, t) some_controls.3 })
    go false false false false false o p q s t =
        let first : (8 == c) ≡ false = grind (arith, nat_tests) in
        let tab : (9 == c) ≡ false = grind (arith, nat_tests) in
        let feed : (10 == c) ≡ false = grind (arith, nat_tests) in
        let enter : (13 == c) ≡ false = grind (arith, nat_tests) in
        let escape : (27 == c) ≡ false = grind (arith, nat_tests) in
        let backspace : (127 == c) ≡ false = grind (arith, nat_tests) in
        typed_is c scalar o (rw (first, tab, feed, enter, escape, backspace) refl) (rw (o, p, q, s, t) refl)

-- a functional key's number is no control character's
pub functional_no_control : (c : ℕ) → is_functional c ≡ true → is_control c ≡ false
functional_no_control c inside =
    let low : nat_le 57344 c ≡ true = (and_parts (nat_le 57344 c) (nat_le c 63743) inside).0 in grind (arith, nat_tests)

-- the keys of numbers with a tilde, or with another end

digits_are_plain : list_all (λ row. is_plain_key (Named row.1)) digit_keys ≡ true
unfolding private_character is_own_key named_form
digits_are_plain = refl

functions_are_plain : list_all (λ row. is_plain_key (Named (Function row.1))) function_codes ≡ true
unfolding private_character is_own_key named_form
functions_are_plain = refl

high_functions_are_plain : list_all (λ row. is_plain_key (Named (Function row.1))) high_function_codes ≡ true
unfolding private_character is_own_key named_form
high_functions_are_plain = refl

option_or_some : (a b : Option KeyCode) (k : KeyCode) → option_or a b ≡ Some k → (a ≡ Some k) ⊎ (b ≡ Some k)
option_or_some None b k e = inr e
option_or_some (Some x) b k e = inl e

function_plain : (table : List (ℕ × ℕ)) (n : ℕ) (k : KeyCode) → list_all (λ row. is_plain_key (Named (Function row.1))) table ≡ true
    → function_key table n ≡ Some k → is_plain_key (Named k) ≡ true
function_plain table n k all e =
    let found = map_some Function (entry_at table n) k e in
    subst (λ key. is_plain_key (Named key) ≡ true) found.2
    (entry_passes (λ i m. is_plain_key (Named (Function m))) table n found.0 all found.1)

numbered_plain : (n : ℕ) (k : KeyCode) → numbered_key n ≡ Some k → is_plain_key (Named k) ≡ true
numbered_plain n k e = ⊎_elim
    (λ (first : option_or (entry_at digit_keys n) (function_key function_codes n) ≡ Some k). ⊎_elim
    (λ (digit : entry_at digit_keys n ≡ Some k). entry_passes (λ i key. is_plain_key (Named key)) digit_keys n k digits_are_plain digit)
    (λ (code : function_key function_codes n ≡ Some k). function_plain function_codes n k functions_are_plain code)
    (option_or_some (entry_at digit_keys n) (function_key function_codes n) k first))
    (λ (high : function_key high_function_codes n ≡ Some k). function_plain high_function_codes n k high_functions_are_plain high)
    (option_or_some (option_or (entry_at digit_keys n) (function_key function_codes n)) (function_key high_function_codes n) k e)

with_number_plain : (n : ℕ) (k : KeyCode) → key_with_number n ≡ Some k → is_plain_key (Named k) ≡ true
with_number_plain n k e = go (is_rxvt_function n) refl
  where
    go : (b : Bool) → is_rxvt_function n ≡ b → is_plain_key (Named k) ≡ true
    go true inside =
        let both = and_parts (nat_le 35 n) (nat_le n 38) inside in
        let above : nat_le 35 n ≡ true = both.0 in
        let below : nat_le n 38 ≡ true = both.1 in
        let from : 35 ≤ n = grind (arith, nat_tests) in
        let upto : n ≤ 38 = grind (arith, nat_tests) in
        let found : Some (Function (n - 14)) ≡ Some k = rw inside at e in
        let its : Function (n - 14) ≡ k = cc (found) in
        subst (λ key. is_plain_key (Named key) ≡ true) its (high_function (n - 14) (omega arith) (omega arith)).plain
    go false outside = numbered_plain n k (rw outside at e)

pub tilde_plain : (n : ℕ) (key : ReportedKey) → tilde_key n ≡ Some key → is_plain_key key ≡ true
unfolding tilde_key
tilde_plain n key e = go (is_functional n) refl
  where
    go : (b : Bool) → is_functional n ≡ b → is_plain_key key ≡ true
    go true inside =
        let found : Some (functional_key n) ≡ Some key = rw inside at e in
        let its : functional_key n ≡ key = cc (found) in
        subst (λ k. is_plain_key k ≡ true) its (functional_is n inside).plain
    go false outside =
        let found = map_some Named (key_with_number n) key (rw outside at e) in
        subst (λ k. is_plain_key k ≡ true) found.2 (with_number_plain n found.0 found.1)

pub rxvt_plain : (n : ℕ) (k : KeyCode) → rxvt_key_at n ≡ Some k → is_plain_key (Named k) ≡ true
unfolding rxvt_key_at
rxvt_plain n k e = go (n == 4) refl
  where
    go : (b : Bool) → (n == 4) ≡ b → is_plain_key (Named k) ≡ true
    go true four = absurd (let none : None ≡ Some k = rw four at e in cc (none))
    go false other = with_number_plain n k (rw other at e)
