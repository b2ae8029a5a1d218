-- Characters that are sent as they are, alone or after an ESC.
use Rattle.std.proofs.Common.{◌≡◌, ◌≢◌, ◌∙◌, ◌⊎◌, inl, inr, ⊎_elim, ℕ, ◌<◌, ◌≤◌, Bool, true, false, not, List, [], ◌∷◌, ◌++◌, refl, sym, ap, subst, arith, append-nil, Some, None, ◌&&◌, ◌||◌, ◌==◌, nat_lt, bytes_eq}
use Rattle.std.specs.Prelude.{if◌then◌else◌}
use Rattle.std.specs.List.{list_all}
use Rattle.std.specs.Char.{encode_utf8, IsScalar, is_ascii_lowercase, is_ascii_alphanumeric, is_ascii_punctuation}
use Rattle.std.proofs.Math.Utf8.{low_scalar}
use Rattle.std.proofs.lemmas.Bool.{and_right, cases_lt}
use Rattle.std.proofs.lemmas.Bool.Decides.{nat_tests}
use Rattle.std.proofs.lemmas.List.Sums.{AllPass-from_list_all}
use Rattle.std.proofs.lemmas.List.Elements.{All-contains}
use Rattle.std.proofs.lemmas.Slice.Eq.{bytes_eq-Decides}
use Rattle.std.proofs.lemmas.Str.{encode_same, encode_ascii}
use Rattle.termwiz_keymap.specs.Bytes.{Begins}
use Rattle.termwiz_keys.specs.declared.types.InputEvent.TheVariants.{Key}
use Rattle.termwiz_keys.specs.declared.types.KeyCode.TheVariants.{Char}
use Rattle.termwiz_keys.specs.declared.encode.KeyCodeEncodeModes.{KeyCodeEncodeModes}
use Rattle.termwiz_keys.specs.Introducers.{ESC}
use Rattle.termwiz_keys.specs.Keys.{NONE, ALT, plain, key_with}
use Rattle.termwiz_keys.specs.KeyCodes.{shifted}
use Rattle.termwiz_keys.specs.Encoding.{enc, key_text, normal_key, normal_held, shows_shift, named_key, char_text, plain_char_text, other_text, is_csi_u}
use Rattle.termwiz_grammar.specs.Table.{TableRow, rows, written_out}
use Rattle.termwiz_grammar.specs.Sequences.{Meaning, IsSequence}
use Rattle.termwiz_grammar.specs.Sequences.Meaning.{Row, Report}
use Rattle.termwiz_grammar.specs.Grammar.{IsHead, IsOpen, Item, Means}
use Rattle.termwiz_grammar.specs.Grammar.Head.{Character}
use Rattle.termwiz_grammar.specs.Grammar.Item.{char}
use Rattle.termwiz_grammar.specs.Listed.{ReadsBack}
use Rattle.termwiz_grammar.proofs.lemmas.mouse.OneReport.{report_plain}
use Rattle.termwiz_grammar.proofs.lemmas.items.ItemStable.{encode_some}
use Rattle.termwiz_grammar.proofs.lemmas.table.SequenceFacts.{sequence_some}
use Rattle.termwiz_grammar.proofs.lemmas.waiting.RestShape.{empty_is_rest}
use Rattle.termwiz_grammar.proofs.lemmas.read_back.WholeTexts.{alt_means, char_head, char_means}

-- no row is the byte 0
abbrev is_not_zero : TableRow → Bool
is_not_zero r = not (bytes_eq r.0 (0 ∷ []))

no_zero_row : list_all is_not_zero rows ≡ true
unfolding written_out
no_zero_row = refl

no_zero_sequence : (text : List ℕ) (m : Meaning) → IsSequence text m → Begins text (0 ∷ []) → ⊥
unfolding IsSequence
no_zero_sequence [] m is b = sequence_some [] m is refl
no_zero_sequence (x ∷ y ∷ t) m is b = cc (b.1)
no_zero_sequence (x ∷ []) (Row k) is b =
    let zero : x ≡ 0 = cc (b.1) in
    let test : is_not_zero (x ∷ [], k) ≡ true =
    All-contains (λ (r : TableRow). is_not_zero r ≡ true) rows (x ∷ [], k)
    (AllPass-from_list_all is_not_zero rows no_zero_row) is in
    let same : bytes_eq (x ∷ []) (0 ∷ []) ≡ true = (bytes_eq-Decides (x ∷ []) (0 ∷ [])).1 (ap (λ z. z ∷ []) zero) in
    cc (test)
no_zero_sequence (x ∷ []) (Report r) is b = let e = (report_plain (x ∷ []) r is).1 in cc (e)

pub zero_head : IsHead (0 ∷ []) (Character 0)
zero_head = record {
  no_sequence = λ text m is b. no_zero_sequence text m is b;
  scalar = low_scalar 0 (omega arith);
  begins = ([], sym (append-nil (encode_utf8 0) ∙ encode_ascii 0 (omega arith)));
}

never_open : (u : List ℕ) → IsOpen u false → ⊥
never_open u h = cc (h.more_comes)

pub zero_means : Means (0 ∷ []) false (Key (plain 0) ∷ []) []
zero_means = record {
  steps = (
    0 ∷ [],
    [],
    record {
      closed = never_open (0 ∷ []);
      item = subst (λ b. Item (0 ∷ []) false b (Key (plain 0))) (encode_ascii 0 (omega arith)) (char 0 zero_head);
    },
    refl,
    refl,
  );
  rest = empty_is_rest false;
}

either_way : (b : Bool) (n : ℕ) → (if b then n else n) ≡ n
either_way true n = refl
either_way false n = refl

-- a character is in its normal form without Shift
key_alone : (c : ℕ) → c ≢ 127 → c ≢ 8 → normal_key (Char c) NONE ≡ Char c
unfolding normal_key shifted named_key
key_alone c del bs =
    let none : (is_ascii_lowercase c && false) ≡ false = and_right (is_ascii_lowercase c) false refl in
    let not_del : (c == 0x7f) ≡ false = grind (arith, nat_tests) in
    let not_bs : (c == 8) ≡ false = grind (arith, nat_tests) in
    rw (none, not_del, not_bs)

pub key_with_alt : (c : ℕ) → c ≢ 127 → c ≢ 8 → normal_key (Char c) ALT ≡ Char c
unfolding normal_key shifted named_key
key_with_alt c del bs =
    let none : (is_ascii_lowercase c && false) ≡ false = and_right (is_ascii_lowercase c) false refl in
    let not_del : (c == 0x7f) ≡ false = grind (arith, nat_tests) in
    let not_bs : (c == 8) ≡ false = grind (arith, nat_tests) in
    rw (none, not_del, not_bs)

held_alone : (c : ℕ) → normal_held (Char c) NONE ≡ NONE
unfolding normal_held
held_alone c = either_way (shows_shift (shifted (Char c) NONE)) NONE

pub held_with_alt : (c : ℕ) → normal_held (Char c) ALT ≡ ALT
unfolding normal_held
held_with_alt c = either_way (shows_shift (shifted (Char c) ALT)) ALT

-- a character alone
char_alone : (c : ℕ) (modes : KeyCodeEncodeModes) → c ≢ 127 → c ≢ 8
    → enc (Char c) (record { 0 = NONE }) modes ≡ Some (encode_utf8 c)
unfolding enc key_text char_text plain_char_text
char_alone c modes del bs = rw (key_alone c del bs, held_alone c)

pub character_reads : (c : ℕ) (modes : KeyCodeEncodeModes) → IsScalar c → (c ≡ 0) ⊎ (28 ≤ c) → c ≢ 127
    → ReadsBack (Char c) (record { 0 = NONE }) modes
character_reads c modes scalar (inl zero) del =
    subst (λ d. ReadsBack (Char d) (record { 0 = NONE }) modes) (sym zero) (
      0 ∷ [],
      char_alone 0 modes (λ e. omega arith) (λ e. omega arith) ∙ ap (λ t. Some t) (encode_ascii 0 (omega arith)),
      zero_means,
    )
character_reads c modes scalar (inr low) del =
    (encode_utf8 c, char_alone c modes del (λ e. omega arith), char_means c scalar low del)

-- beyond ASCII, where modifyOtherKeys is off, after an ESC
alt_high : (c : ℕ) (modes : KeyCodeEncodeModes) → 128 ≤ c → modes.modify_other_keys ≡ None
    → enc (Char c) (record { 0 = ALT }) modes ≡ Some (ESC ++ encode_utf8 c)
unfolding enc key_text char_text plain_char_text other_text
alt_high c modes high off =
    let no_letter : is_ascii_alphanumeric c || is_ascii_punctuation c ≡ false = grind (arith, nat_tests) in
    let not_ascii : nat_lt c 0x80 ≡ false = grind (arith, nat_tests) in
    rw (
      key_with_alt c (λ e. omega arith) (λ e. omega arith),
      held_with_alt c,
      no_letter,
      not_ascii,
      and_right (is_csi_u modes.encoding) false refl,
      off,
    )

-- the first byte of such a character is high
pub first_high : (c x : ℕ) (t : List ℕ) → 128 ≤ c → encode_utf8 c ≡ x ∷ t → 128 ≤ x
first_high c x t high e = ⊎_elim
    (λ (small : x < 128).
    let same : c ≡ x =
    (encode_same c x [] t (append-nil (encode_utf8 c) ∙ e ∙ ap (λ z. z ++ t) (sym (encode_ascii x small)))).0 in
    absurd (omega arith))
    (λ (h : 128 ≤ x). h)
    (cases_lt x 128)

alt_high_means : (c : ℕ) → IsScalar c → 128 ≤ c → (u : List ℕ) → encode_utf8 c ≡ u
    → Means (ESC ++ u) false (Key (key_with (Char c) ALT) ∷ []) []
alt_high_means c scalar high [] e = absurd (encode_some c e)
alt_high_means c scalar high (x ∷ t) e =
    let first = first_high c x t high e in
    alt_means x t (Character c) (plain c) (inr (omega arith))
    (subst (λ u. IsHead u (Character c)) e (char_head c scalar (omega arith) (λ d. omega arith))) refl e

pub alt_beyond_ascii_reads : (c : ℕ) (modes : KeyCodeEncodeModes) → modes.modify_other_keys ≡ None → IsScalar c
    → 128 ≤ c → ReadsBack (Char c) (record { 0 = ALT }) modes
alt_beyond_ascii_reads c modes off scalar high =
    (ESC ++ encode_utf8 c, alt_high c modes high off, alt_high_means c scalar high (encode_utf8 c) refl)

-- the byte 0 after an ESC
alt_zero : (modes : KeyCodeEncodeModes) → is_csi_u modes.encoding ≡ false → modes.modify_other_keys ≡ None
    → enc (Char 0) (record { 0 = ALT }) modes ≡ Some (27 ∷ 0 ∷ [])
unfolding enc key_text normal_key normal_held shows_shift shifted named_key char_text plain_char_text other_text encode_utf8
alt_zero modes other off = rw (other, off)

pub alt_zero_reads : (modes : KeyCodeEncodeModes) → is_csi_u modes.encoding ≡ false → modes.modify_other_keys ≡ None
    → ReadsBack (Char 0) (record { 0 = ALT }) modes
alt_zero_reads modes other off = (
  27 ∷ 0 ∷ [],
  alt_zero modes other off,
  alt_means 0 [] (Character 0) (plain 0) (inl (omega arith)) zero_head refl (encode_ascii 0 (omega arith)),
)
