-- A text that means one key is a row, a character or a broken byte, alone or after an ESC.
use Rattle.std.proofs.Common.{◌≡◌, ◌∙◌, ⊎_elim, ℕ, zero, suc, Bool, true, false, List, [], ◌∷◌, ◌++◌, refl, sym, ap, subst, arith, append-nil, Contains, lit<, ◌&&◌, ◌==◌, nat_lt, bit_or}
use Rattle.std.specs.List.{list_all, list_any}
use Rattle.std.specs.Char.{encode_utf8, IsScalar}
use Rattle.std.proofs.Math.Utf8.{low_scalar}
use Rattle.std.proofs.lemmas.Bool.{and_parts, or_cases, ltb-true, eqb-true}
use Rattle.std.proofs.lemmas.List.Sums.{AllPass-from_list_all}
use Rattle.std.proofs.lemmas.List.Elements.{All-contains}
use Rattle.termwiz_keys.specs.declared.types.KeyCode.{KeyCode}
use Rattle.termwiz_keys.specs.declared.types.KeyCode.TheVariants.{Char, KeyPadHome, KeyPadEnd, KeyPadPageUp, KeyPadPageDown}
use Rattle.termwiz_keys.specs.declared.types.KeyEvent.{KeyEvent}
use Rattle.termwiz_keys.specs.declared.types.InputEvent.{InputEvent}
use Rattle.termwiz_keys.specs.declared.types.InputEvent.TheVariants.{Key}
use Rattle.termwiz_keys.specs.Introducers.{ESC}
use Rattle.termwiz_keys.specs.Keys.{NONE, ALT, plain, with_alt}
use Rattle.termwiz_keys.specs.Encoding.{keypad_text}
use Rattle.termwiz_grammar.specs.Table.{TableRow, rows, written_out}
use Rattle.termwiz_grammar.specs.Sequences.{IsSequence}
use Rattle.termwiz_grammar.specs.Sequences.Meaning.{Row, Report}
use Rattle.termwiz_grammar.specs.Grammar.{Head, IsHead, IsKey, replacement, bytes_of, Item, Steps, Means}
use Rattle.termwiz_grammar.specs.Grammar.Head.{Sequence, Character, Broken}
use Rattle.termwiz_grammar.specs.Grammar.Item.{key as by_key, char, broken, mouse, paste, lone_escape, alt}
use Rattle.termwiz_grammar.specs.Listed.{any_of_three}
use Rattle.termwiz_grammar.proofs.lemmas.items.OneItem.{not_alone}

-- what a key is read from, without an ESC before it
pub data Plainly (text : List ℕ) (k : KeyEvent) : Type 0 where
  by_row : Contains rows (text, k) → Plainly text k
  by_character : (c : ℕ) → IsScalar c → text ≡ encode_utf8 c → k ≡ plain c → Plainly text k
  by_broken_byte : (b : ℕ) → text ≡ b ∷ [] → k ≡ plain replacement → Plainly text k

pub data Single (text : List ℕ) (k : KeyEvent) : Type 0 where
  plainly : Plainly text k → Single text k
  after_escape : (t : List ℕ) (j : KeyEvent) → text ≡ ESC ++ t → Plainly t j → k ≡ with_alt j → Single text k

row_of : (s : List ℕ) (k : KeyEvent) → IsSequence s (Row k) → Contains rows (s, k)
unfolding IsSequence
row_of s k is = is

head_plainly : (v : List ℕ) (h : Head) (k : KeyEvent) → IsHead v h → IsKey h k → Plainly (bytes_of h) k
head_plainly v (Sequence s (Row j)) k is near =
    by_row (subst (λ i. Contains rows (s, i)) (sym near.1) (row_of s j is.is_sequence))
head_plainly v (Sequence s (Report r)) k is near = absurd near
head_plainly v (Character c) k is near = by_character c is.scalar refl near
head_plainly v (Broken b) k is near = by_broken_byte b refl near

item_single : (u bytes : List ℕ) (event : InputEvent) (k : KeyEvent) → Item u false bytes event → bytes ≡ u
    → event ≡ Key k → Single u k
item_single u b e k (by_key text j is usual alone) all gives =
    let same : j ≡ k = cc (gives) in
    plainly (by_row (subst (λ t. Contains rows (t, k)) all (subst (λ i. Contains rows (text, i)) same
    (row_of text j is.is_sequence))))
item_single u b e k (char c is) all gives =
    plainly (by_character c is.scalar (sym all) (let same : plain c ≡ k = cc (gives) in sym same))
item_single u b e k (broken byte is) all gives =
    plainly (by_broken_byte byte (sym all) (let same : plain replacement ≡ k = cc (gives) in sym same))
item_single u b e k (mouse text report is) all gives = absurd (cc (gives))
item_single u b e k (paste body begins first) all gives = absurd (cc (gives))
item_single u b e k (lone_escape v h after is far) all gives = absurd (not_alone u v after.splits after.some (sym all))
item_single u b e k (alt v h j after is near) all gives =
    after_escape (bytes_of h) j (sym all) (head_plainly v h j is near)
    (let same : with_alt j ≡ k = cc (gives) in sym same)

pub single : (text : List ℕ) (k : KeyEvent) → Means text false (Key k ∷ []) [] → Single text k
single text k means = go means.steps
  where
    go : Steps text false (Key k ∷ []) [] → Single text k
    go (bytes, rest, stands, splits, none) =
        item_single text bytes (Key k) k stands.item (sym (splits ∙ ap (λ r. bytes ++ r) none ∙ append-nil bytes)) refl

-- the text is empty
abbrev pub is_nothing : List ℕ → Bool
is_nothing [] = true
is_nothing (b ∷ text) = false

-- the keys that rows may have: of the characters those of ASCII, and no key of the keypad that has a text
abbrev pub is_table_key : KeyCode → Bool
is_table_key (Char c) = nat_lt c 128
is_table_key KeyPadHome = false
is_table_key KeyPadEnd = false
is_table_key KeyPadPageUp = false
is_table_key KeyPadPageDown = false
is_table_key key = is_nothing (keypad_text key NONE)

abbrev pub among : List ℕ → ℕ → Bool
among xs x = list_any (λ y. y == x) xs

pub among_contains : (xs : List ℕ) (x : ℕ) → among xs x ≡ true → Contains xs x
among_contains [] x e = absurd (cc (e))
among_contains (y ∷ xs) x e = ⊎_elim
    (λ (here : (y == x) ≡ true). (zero, omega arith, eqb-true y x here))
    (λ (later : among xs x ≡ true). let k = among_contains xs x later in (suc k.0, omega (arith, k.1), k.2))
    (or_cases (y == x) (among xs x) e)

abbrev row_test : TableRow → Bool
row_test r = is_table_key r.1.key && among any_of_three r.1.modifiers.0

rows_tested : list_all row_test rows ≡ true
unfolding written_out keypad_text
rows_tested = refl

-- what is true of each key that is read
abbrev pub KeyFact : KeyCode → Type 0
KeyFact (Char c) = IsScalar c
KeyFact other = is_table_key other ≡ true

pub record Readable (k : KeyEvent) : Type 0 where
  pub key : KeyFact k.key
  pub held : Contains any_of_three k.modifiers.0

key_fact : (key : KeyCode) → is_table_key key ≡ true → KeyFact key
key_fact (Char c) e = low_scalar c (omega (arith, ltb-true c 128 e))
key_fact other e = e

pub row_fact : (text : List ℕ) (k : KeyEvent) → Contains rows (text, k)
    → (is_table_key k.key ≡ true) × Contains any_of_three k.modifiers.0
row_fact text k row =
    let parts = and_parts (is_table_key k.key) (among any_of_three k.modifiers.0)
    (All-contains (λ (r : TableRow). row_test r ≡ true) rows (text, k) (AllPass-from_list_all row_test rows rows_tested) row) in
    (parts.0, among_contains any_of_three k.modifiers.0 parts.1)

plain_readable : (c : ℕ) (k : KeyEvent) → IsScalar c → k ≡ plain c → Readable k
plain_readable c k scalar same = subst Readable (sym same) (record { key = scalar; held = (0, lit< tt, refl) })

replacement_scalar : IsScalar replacement
replacement_scalar = refl

plainly_readable : (text : List ℕ) (k : KeyEvent) → Plainly text k → Readable k
plainly_readable text k (by_row row) =
    let f = row_fact text k row in record { key = key_fact k.key f.0; held = f.1 }
plainly_readable text k (by_character c scalar e same) = plain_readable c k scalar same
plainly_readable text k (by_broken_byte b e same) = plain_readable replacement k replacement_scalar same

-- ALT added to a set of the three is one of them
alt_among : (held : ℕ) → Contains any_of_three held → Contains any_of_three (bit_or held ALT)
alt_among held here =
    among_contains any_of_three (bit_or held ALT)
    (All-contains (λ (n : ℕ). among any_of_three (bit_or n ALT) ≡ true) any_of_three held
    (AllPass-from_list_all (λ n. among any_of_three (bit_or n ALT)) any_of_three refl) here)

pub single_readable : (text : List ℕ) (k : KeyEvent) → Single text k → Readable k
single_readable text k (plainly it) = plainly_readable text k it
single_readable text k (after_escape t j e it same) =
    let r = plainly_readable t j it in
    subst Readable (sym same) (record { key = r.key; held = alt_among j.modifiers.0 r.held })
