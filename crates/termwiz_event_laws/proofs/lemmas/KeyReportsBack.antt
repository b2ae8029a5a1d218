-- What the fields of a written key report say.
use Rattle.std.proofs.Common.{◌≡◌, ℕ, ◌+◌, ◌-◌, ◌<◌, Bool, true, false, List, [], ◌∷◌, ◌++◌, length, refl, sym, ap, ◌∙◌, subst, arith, decimal, Option, Some, append_assoc, append-nil}
use Rattle.std.specs.Prelude.{◌==◌, option_map, encode_utf8_all}
use Rattle.std.specs.List.{AllByRecursion}
use Rattle.std.proofs.lemmas.Bool.{and_parts}
use Rattle.std.proofs.lemmas.Bool.Decides.{nat_tests}
use Rattle.termwiz_keymap.proofs.lemmas.lists.CommonPrefixes.{true_from}
use Rattle.termwiz_grammar.specs.MouseReports.{IsDigit}
use Rattle.termwiz_extended_events.specs.declared.types.KeyEventKind.{KeyEventKind}
use Rattle.termwiz_extended_events.specs.declared.types.KeyEventKind.TheVariants.{Press, Repeat, Release}
use Rattle.termwiz_extended_events.specs.Numbers.{fields, number, number_within, is_scalar}
use Rattle.termwiz_extended_events.specs.KeyReports.{modifiers_of, kind_of, manner_with, manner_of, character_of_fields, character_key}
use Rattle.termwiz_extended_grammar.proofs.lemmas.forms.FormBytes.{all_append}
use Rattle.termwiz_kitty.specs.KittyTexts.{kind_text, manner_text, codes_text, characters_text}
use Rattle.termwiz_kitty.proofs.lemmas.read_back.Decimals.{number_decimal}
use Rattle.termwiz_kitty.proofs.lemmas.read_back.FieldSplits.{IsFieldByte, digit_in_field, one_part, more_parts, one_field, more_fields, before_end_here}
use Rattle.termwiz_kitty.proofs.lemmas.read_back.WrittenFields.{decimal_small, manner_back, manner_bytes, IsCharacterOrMissing, codes_back, codes_bytes, AreCharacters, text_back, characters_bytes}
use Rattle.termwiz_kitty.proofs.lemmas.read_back.WrittenReports.{carried}
use Rattle.termwiz_kitty.specs.Telling.{is_press}
use Rattle.termwiz_senders.specs.ReportTexts.{kind_number, told_manner, is_plain_press, short_manner, further_fields}
use Rattle.termwiz_event_laws.proofs.lemmas.KeyReportsNumbers.{kind_small}

pub digit_bytes : (n : ℕ) → n < 2000000 → AllByRecursion IsFieldByte (decimal n)
digit_bytes n small = true_from IsDigit IsFieldByte digit_in_field (decimal n) (decimal_small n small).each

-- the modifiers and what happened, both told

modifiers_some : (ds : List ℕ) → 0 < length ds → modifiers_of ds ≡ option_map (λ n. n - 1) (number 1 256 ds)
unfolding modifiers_of
modifiers_some [] h = absurd (omega arith)
modifiers_some (d ∷ ds) h = refl

pub modifiers_back : (bits : ℕ) → bits < 256 → modifiers_of (decimal (1 + bits)) ≡ Some bits
modifiers_back bits h =
    let same : (1 + bits) - 1 ≡ bits = omega arith in
    modifiers_some (decimal (1 + bits)) (decimal_small (1 + bits) (omega arith)).some
    ∙ ap (option_map (λ n. n - 1)) (number_decimal 1 256 (1 + bits) (omega arith) (omega arith) (omega arith))
    ∙ ap (λ n. Some n) same

kind_back : (kind : KeyEventKind) → kind_of (decimal (kind_number kind)) ≡ Some kind
unfolding kind_of
kind_back Press = rw (number_decimal 1 3 1 (omega arith) (omega arith) (omega arith)) refl
kind_back Repeat = rw (number_decimal 1 3 2 (omega arith) (omega arith) (omega arith)) refl
kind_back Release = rw (number_decimal 1 3 3 (omega arith) (omega arith) (omega arith)) refl

pub told_back : (bits : ℕ) (kind : KeyEventKind) → bits < 256
    → manner_of (told_manner bits kind) ≡ manner_with (Some bits) (Some kind)
unfolding manner_of told_manner
told_back bits kind h =
    let m = decimal_small (1 + bits) (omega arith) in
    let k = decimal_small (kind_number kind) (kind_small kind) in
    rw (
      append_assoc (decimal (1 + bits)) (58 ∷ []) (decimal (kind_number kind)),
      more_parts (decimal (1 + bits)) (decimal (kind_number kind)) m.each,
      one_part (decimal (kind_number kind)) k.each,
      modifiers_back bits h,
      kind_back kind,
    ) refl

colon_byte : AllByRecursion IsFieldByte (58 ∷ [])
colon_byte = ((omega arith, omega arith), tt)

pub told_bytes : (bits : ℕ) (kind : KeyEventKind) → bits < 256 → AllByRecursion IsFieldByte (told_manner bits kind)
unfolding told_manner
told_bytes bits kind h =
    all_append IsFieldByte (decimal (1 + bits) ++ 58 ∷ []) (decimal (kind_number kind))
    (all_append IsFieldByte (decimal (1 + bits)) (58 ∷ []) (digit_bytes (1 + bits) (omega arith)) colon_byte)
    (digit_bytes (kind_number kind) (kind_small kind))

-- the same, where nothing is told of no modifier, and of a press

none_held : (kind : KeyEventKind) → manner_of (kind_text kind) ≡ manner_with (Some 0) (Some kind)
unfolding manner_of modifiers_of kind_of number_within
none_held Press = refl
none_held Repeat = refl
none_held Release = refl

kind_bytes : (kind : KeyEventKind) → AllByRecursion IsFieldByte (kind_text kind)
kind_bytes Press = tt
kind_bytes Repeat = ((omega arith, omega arith), ((omega arith, omega arith), tt))
kind_bytes Release = ((omega arith, omega arith), ((omega arith, omega arith), tt))

short_none : (bits : ℕ) (kind : KeyEventKind) → (bits == 0) ≡ true → short_manner bits kind ≡ kind_text kind
unfolding short_manner
short_none bits kind e = rw e refl

short_some : (bits : ℕ) (kind : KeyEventKind) → (bits == 0) ≡ false → short_manner bits kind ≡ manner_text bits kind
unfolding short_manner manner_text
short_some bits kind e = rw e refl

pub short_back : (bits : ℕ) (kind : KeyEventKind) → bits < 256
    → manner_of (short_manner bits kind) ≡ manner_with (Some bits) (Some kind)
short_back bits kind h = go (bits == 0) refl
  where
    go : (b : Bool) → (bits == 0) ≡ b → manner_of (short_manner bits kind) ≡ manner_with (Some bits) (Some kind)
    go true e =
        let none : 0 ≡ bits = grind (arith, nat_tests) in
        ap manner_of (short_none bits kind e) ∙ none_held kind ∙ ap (λ n. manner_with (Some n) (Some kind)) none
    go false e = ap manner_of (short_some bits kind e) ∙ manner_back bits kind h

pub short_bytes : (bits : ℕ) (kind : KeyEventKind) → bits < 256 → AllByRecursion IsFieldByte (short_manner bits kind)
short_bytes bits kind h = go (bits == 0) refl
  where
    go : (b : Bool) → (bits == 0) ≡ b → AllByRecursion IsFieldByte (short_manner bits kind)
    go true e = subst (AllByRecursion IsFieldByte) (sym (short_none bits kind e)) (kind_bytes kind)
    go false e = subst (AllByRecursion IsFieldByte) (sym (short_some bits kind e)) (manner_bytes bits kind h)

-- a report with other characters or a text

press_is : (kind : KeyEventKind) → is_press kind ≡ true → kind ≡ Press
press_is Press e = refl
press_is Repeat e = absurd (cc (e))
press_is Release e = absurd (cc (e))

pub by_fields : (body : List ℕ) → character_key (body ++ 117 ∷ []) ≡ character_of_fields (fields body)
unfolding character_key
by_fields body = rw (before_end_here body 117) refl

-- at the end of a report nothing is written of a plain press
pub further_left_out : (bits : ℕ) (kind : KeyEventKind) → is_plain_press bits kind ≡ true → further_fields bits kind [] ≡ []
unfolding further_fields
further_left_out bits kind plain = rw plain refl

pub further_none : (bits : ℕ) (kind : KeyEventKind) → is_plain_press bits kind ≡ false
    → further_fields bits kind [] ≡ 59 ∷ short_manner bits kind
unfolding further_fields
further_none bits kind told = rw told refl

pub further_some : (bits : ℕ) (kind : KeyEventKind) (c : ℕ) (cs : List ℕ)
    → further_fields bits kind (c ∷ cs) ≡ 59 ∷ (short_manner bits kind ++ 59 ∷ characters_text (c ∷ cs))
unfolding further_fields
further_some bits kind c cs =
    ap (λ z. 59 ∷ z) (append_assoc (short_manner bits kind) (59 ∷ []) (characters_text (c ∷ cs)))

module _ (own : ℕ) (shifted base : Option ℕ) (bits : ℕ) (kind : KeyEventKind) (o : is_scalar own ≡ true)
    (s : IsCharacterOrMissing shifted) (b : IsCharacterOrMissing base) (h : bits < 256) where
  fields_of_two : fields (codes_text own shifted base ++ 59 ∷ short_manner bits kind)
      ≡ codes_text own shifted base ∷ short_manner bits kind ∷ []
  fields_of_two =
      more_fields (codes_text own shifted base) (short_manner bits kind) (codes_bytes own shifted base o s b)
      ∙ ap (λ z. codes_text own shifted base ∷ z) (one_field (short_manner bits kind) (short_bytes bits kind h))

  fields_of_three : (c : ℕ) (cs : List ℕ) → AreCharacters (c ∷ cs)
      → fields (codes_text own shifted base ++ 59 ∷ (short_manner bits kind ++ 59 ∷ characters_text (c ∷ cs)))
      ≡ codes_text own shifted base ∷ short_manner bits kind ∷ characters_text (c ∷ cs) ∷ []
  fields_of_three c cs a =
      more_fields (codes_text own shifted base) (short_manner bits kind ++ 59 ∷ characters_text (c ∷ cs)) (codes_bytes own shifted base o s b)
      ∙ ap (λ z. codes_text own shifted base ∷ z) (more_fields (short_manner bits kind) (characters_text (c ∷ cs)) (short_bytes bits kind h)
      ∙ ap (λ z. short_manner bits kind ∷ z) (one_field (characters_text (c ∷ cs)) (characters_bytes (c ∷ cs) a)))

  pub character_back : (cs : List ℕ) → AreCharacters cs
      → character_key (codes_text own shifted base ++ further_fields bits kind cs ++ 117 ∷ [])
      ≡ Some (carried own shifted base bits kind (encode_utf8_all cs))
  character_back [] a = go (is_plain_press bits kind) refl
    where
      go : (v : Bool) → is_plain_press bits kind ≡ v
          → character_key (codes_text own shifted base ++ further_fields bits kind [] ++ 117 ∷ [])
          ≡ Some (carried own shifted base bits kind (encode_utf8_all []))
      go true plain =
          let both = and_parts (bits == 0) (is_press kind) plain in
          let none : bits ≡ 0 = let first : (bits == 0) ≡ true = both.0 in grind (arith, nat_tests) in
          let pressed : kind ≡ Press = press_is kind both.1 in
          by_fields (codes_text own shifted base ++ further_fields bits kind [])
          ∙ ap (λ z. character_of_fields (fields (codes_text own shifted base ++ z))) (further_left_out bits kind plain)
          ∙ ap (λ z. character_of_fields (fields z)) (append-nil (codes_text own shifted base))
          ∙ ap character_of_fields (one_field (codes_text own shifted base) (codes_bytes own shifted base o s b))
          ∙ rw (codes_back own shifted base o s b, none, pressed) refl
      go false told =
          by_fields (codes_text own shifted base ++ further_fields bits kind [])
          ∙ ap (λ z. character_of_fields (fields (codes_text own shifted base ++ z))) (further_none bits kind told)
          ∙ ap character_of_fields fields_of_two
          ∙ rw (codes_back own shifted base o s b, short_back bits kind h) refl
  character_back (c ∷ cs) a =
      by_fields (codes_text own shifted base ++ further_fields bits kind (c ∷ cs))
      ∙ ap (λ z. character_of_fields (fields (codes_text own shifted base ++ z))) (further_some bits kind c cs)
      ∙ ap character_of_fields (fields_of_three c cs a)
      ∙ rw (codes_back own shifted base o s b, short_back bits kind h, text_back c cs a) refl
