-- What a written sequence reports.
use Rattle.std.proofs.Common.{◌≡◌, ◌≢◌, ℕ, ◌<◌, ◌≤◌, Bool, true, false, List, [], ◌∷◌, ◌++◌, refl, sym, ap, ap₂, ◌∙◌, subst, arith, decimal, Option, Some, None, append-nil, append_assoc}
use Rattle.std.specs.Prelude.{◌==◌, encode_utf8_all}
use Rattle.std.specs.List.{AllByRecursion}
use Rattle.std.proofs.Math.Seq.{take-append_seam}
use Rattle.std.proofs.lemmas.Bool.{and_parts}
use Rattle.std.proofs.lemmas.Bool.Decides.{nat_tests}
use Rattle.termwiz_keys.specs.declared.types.KeyCode.{KeyCode}
use Rattle.termwiz_extended_events.specs.declared.types.KeyReport.{KeyReport}
use Rattle.termwiz_extended_events.specs.declared.types.KeyEventKind.{KeyEventKind}
use Rattle.termwiz_extended_events.specs.declared.types.KeyEventKind.TheVariants.{Press, Repeat, Release}
use Rattle.termwiz_extended_events.specs.declared.types.ReportedKey.{ReportedKey}
use Rattle.termwiz_extended_events.specs.declared.types.ReportedKey.TheVariants.{Named}
use Rattle.termwiz_extended_events.specs.declared.types.Event.TheVariants.{Key}
use Rattle.termwiz_extended_events.specs.Numbers.{fields, number, is_scalar}
use Rattle.termwiz_extended_events.specs.ReportedKeys.{entry_at, lettered_keys, key_of, tilde_key, last_functional}
use Rattle.termwiz_extended_events.specs.KeyReports.{manner_with, manner_of, character_of_fields, character_key, lettered_of_fields, lettered_key, numbered_of_fields, numbered_key, key_report}
use Rattle.termwiz_extended_events.specs.Replies.{focus}
use Rattle.termwiz_extended_events.specs.Meanings.{reported, event_after, event_of}
use Rattle.termwiz_kitty.specs.KittyTexts.{manner_text, is_plain, manner_behind, codes_text, characters_text, fields_behind}
use Rattle.termwiz_kitty.proofs.lemmas.read_back.Decimals.{number_decimal}
use Rattle.termwiz_kitty.proofs.lemmas.read_back.FieldSplits.{IsFieldByte, one_field, more_fields, without_last, before_end_here, before_other_end, last_byte}
use Rattle.termwiz_kitty.proofs.lemmas.read_back.WrittenFields.{manner_back, empty_manner, manner_bytes, IsCharacterOrMissing, codes_back, codes_bytes, AreCharacters, text_back, characters_bytes}

-- a report by its parts
abbrev pub built : ReportedKey → ℕ → KeyEventKind → Option ℕ → Option ℕ → List ℕ → KeyReport
built key bits kind shifted base text = record {
  key = key;
  modifiers = bits;
  kind = kind;
  shifted = shifted;
  base = base;
  text = text;
}

-- a report of no more than a key and its manner
abbrev pub bare : ReportedKey → ℕ → KeyEventKind → KeyReport
bare key bits kind = built key bits kind None None []

pub plain_is : (bits : ℕ) (kind : KeyEventKind) → is_plain bits kind ≡ true → (bits ≡ 0) × (kind ≡ Press)
plain_is bits Press e =
    let none : (bits == 0) ≡ true = (and_parts (bits == 0) true e).0 in
    let same : bits ≡ 0 = grind (arith, nat_tests) in (same, refl)
plain_is bits Repeat e = absurd (let no : ◌≡◌ {A = Bool} false true = (and_parts (bits == 0) false e).1 in cc (no))
plain_is bits Release e = absurd (let no : ◌≡◌ {A = Bool} false true = (and_parts (bits == 0) false e).1 in cc (no))

pub behind_none : (front : List ℕ) (bits : ℕ) (kind : KeyEventKind) → is_plain bits kind ≡ true
    → manner_behind front bits kind ≡ []
behind_none front bits kind e = rw e refl

pub behind_some : (front : List ℕ) (bits : ℕ) (kind : KeyEventKind) → is_plain bits kind ≡ false
    → manner_behind front bits kind ≡ front ++ manner_text bits kind
behind_some front bits kind e = rw e refl

-- a field for the manner, which is empty for a press with no modifier
second_back : (bits : ℕ) (kind : KeyEventKind) → bits < 256
    → manner_of (manner_behind [] bits kind) ≡ manner_with (Some bits) (Some kind)
second_back bits kind h = go (is_plain bits kind) refl
  where
    go : (b : Bool) → is_plain bits kind ≡ b → manner_of (manner_behind [] bits kind) ≡ manner_with (Some bits) (Some kind)
    go true plain =
        let same = plain_is bits kind plain in
        ap manner_of (behind_none [] bits kind plain) ∙ empty_manner
        ∙ ap₂ (λ m k. manner_with (Some m) (Some k)) (sym same.0) (sym same.1)
    go false plain = ap manner_of (behind_some [] bits kind plain) ∙ manner_back bits kind h

pub second_bytes : (bits : ℕ) (kind : KeyEventKind) → bits < 256 → AllByRecursion IsFieldByte (manner_behind [] bits kind)
second_bytes bits kind h = go (is_plain bits kind) refl
  where
    go : (b : Bool) → is_plain bits kind ≡ b → AllByRecursion IsFieldByte (manner_behind [] bits kind)
    go true plain = subst (AllByRecursion IsFieldByte) (sym (behind_none [] bits kind plain)) tt
    go false plain = subst (AllByRecursion IsFieldByte) (sym (behind_some [] bits kind plain)) (manner_bytes bits kind h)

-- a report by a number and the letter u

abbrev pub carried : ℕ → Option ℕ → Option ℕ → ℕ → KeyEventKind → List ℕ → KeyReport
carried own shifted base bits kind text = built (key_of own) bits kind shifted base text

by_fields : (body : List ℕ) → character_key (body ++ 117 ∷ []) ≡ character_of_fields (fields body)
unfolding character_key
by_fields body = rw (before_end_here body 117) refl

module _ (own : ℕ) (shifted base : Option ℕ) (bits : ℕ) (kind : KeyEventKind) (o : is_scalar own ≡ true)
    (s : IsCharacterOrMissing shifted) (b : IsCharacterOrMissing base) (h : bits < 256) where
  fields_of_one : fields (codes_text own shifted base ++ []) ≡ codes_text own shifted base ∷ []
  fields_of_one = rw (append-nil (codes_text own shifted base)) (one_field (codes_text own shifted base) (codes_bytes own shifted base o s b))

  fields_of_two : fields (codes_text own shifted base ++ 59 ∷ manner_text bits kind)
      ≡ codes_text own shifted base ∷ manner_text bits kind ∷ []
  fields_of_two =
      more_fields (codes_text own shifted base) (manner_text bits kind) (codes_bytes own shifted base o s b)
      ∙ ap (λ z. codes_text own shifted base ∷ z) (one_field (manner_text bits kind) (manner_bytes bits kind h))

  fields_of_three : (c : ℕ) (cs : List ℕ) → AreCharacters (c ∷ cs)
      → fields (codes_text own shifted base ++ 59 ∷ (manner_behind [] bits kind ++ 59 ∷ characters_text (c ∷ cs)))
      ≡ codes_text own shifted base ∷ manner_behind [] bits kind ∷ characters_text (c ∷ cs) ∷ []
  fields_of_three c cs a =
      more_fields (codes_text own shifted base) (manner_behind [] bits kind ++ 59 ∷ characters_text (c ∷ cs)) (codes_bytes own shifted base o s b)
      ∙ ap (λ z. codes_text own shifted base ∷ z) (more_fields (manner_behind [] bits kind) (characters_text (c ∷ cs)) (second_bytes bits kind h)
      ∙ ap (λ z. manner_behind [] bits kind ∷ z) (one_field (characters_text (c ∷ cs)) (characters_bytes (c ∷ cs) a)))

  pub character_back : (cs : List ℕ) → AreCharacters cs
      → character_key (codes_text own shifted base ++ fields_behind bits kind cs ++ 117 ∷ [])
      ≡ Some (carried own shifted base bits kind (encode_utf8_all cs))
  unfolding fields_behind
  character_back [] a = go (is_plain bits kind) refl
    where
      go : (v : Bool) → is_plain bits kind ≡ v
          → character_key (codes_text own shifted base ++ manner_behind (59 ∷ []) bits kind ++ 117 ∷ [])
          ≡ Some (carried own shifted base bits kind [])
      go true plain =
          let same = plain_is bits kind plain in
          by_fields (codes_text own shifted base ++ manner_behind (59 ∷ []) bits kind)
          ∙ ap (λ z. character_of_fields (fields (codes_text own shifted base ++ z))) (behind_none (59 ∷ []) bits kind plain)
          ∙ ap character_of_fields fields_of_one
          ∙ rw (codes_back own shifted base o s b) refl
          ∙ ap₂ (λ m k. Some (carried own shifted base m k [])) (sym same.0) (sym same.1)
      go false plain =
          by_fields (codes_text own shifted base ++ manner_behind (59 ∷ []) bits kind)
          ∙ ap (λ z. character_of_fields (fields (codes_text own shifted base ++ z))) (behind_some (59 ∷ []) bits kind plain)
          ∙ ap character_of_fields fields_of_two
          ∙ rw (codes_back own shifted base o s b, manner_back bits kind h) refl
  character_back (c ∷ cs) a =
      by_fields (codes_text own shifted base ++ 59 ∷ (manner_behind [] bits kind ++ 59 ∷ [] ++ characters_text (c ∷ cs)))
      ∙ ap (λ z. character_of_fields (fields (codes_text own shifted base ++ 59 ∷ z)))
      (append_assoc (manner_behind [] bits kind) (59 ∷ []) (characters_text (c ∷ cs)))
      ∙ ap character_of_fields (fields_of_three c cs a)
      ∙ rw (codes_back own shifted base o s b, second_back bits kind h, text_back c cs a) refl

-- no report by u ends otherwise
character_none : (body : List ℕ) (l : ℕ) → l ≢ 117 → character_key (body ++ l ∷ []) ≡ None
unfolding character_key
character_none body l n = rw (before_other_end body l 117 n) refl

-- a report by a letter

by_letter : (body : List ℕ) (l : ℕ) (key : KeyCode) → entry_at lettered_keys l ≡ Some key
    → lettered_key (body ++ l ∷ []) ≡ lettered_of_fields key (fields body)
unfolding lettered_key
by_letter body l key e = rw (without_last body l, last_byte body l, e, take-append_seam body (l ∷ [])) refl

pub lettered_back : (bits : ℕ) (kind : KeyEventKind) (l : ℕ) (key : KeyCode) → bits < 256
    → entry_at lettered_keys l ≡ Some key
    → lettered_key (manner_behind (49 ∷ 59 ∷ []) bits kind ++ l ∷ [])
    ≡ Some (bare (Named key) bits kind)
lettered_back bits kind l key h e = go (is_plain bits kind) refl
  where
    go : (v : Bool) → is_plain bits kind ≡ v → lettered_key (manner_behind (49 ∷ 59 ∷ []) bits kind ++ l ∷ [])
        ≡ Some (bare (Named key) bits kind)
    go true plain =
        let same = plain_is bits kind plain in
        ap (λ z. lettered_key (z ++ l ∷ [])) (behind_none (49 ∷ 59 ∷ []) bits kind plain)
        ∙ by_letter [] l key e
        ∙ ap₂ (λ m k. Some (bare (Named key) m k)) (sym same.0) (sym same.1)
    go false plain =
        ap (λ z. lettered_key (z ++ l ∷ [])) (behind_some (49 ∷ 59 ∷ []) bits kind plain)
        ∙ by_letter (49 ∷ 59 ∷ manner_text bits kind) l key e
        ∙ rw (one_field (manner_text bits kind) (manner_bytes bits kind h), manner_back bits kind h) refl

-- a report by a number and a tilde

by_tilde : (body : List ℕ) → numbered_key (body ++ 126 ∷ []) ≡ numbered_of_fields (fields body)
unfolding numbered_key
by_tilde body = rw (before_end_here body 126) refl

lettered_none : (body : List ℕ) → lettered_key (body ++ 126 ∷ []) ≡ None
unfolding lettered_key
lettered_none body = rw (without_last body 126, last_byte body 126) refl

pub numbered_back : (bits : ℕ) (kind : KeyEventKind) (n : ℕ) (key : ReportedKey) → bits < 256 → n ≤ 99
    → AllByRecursion IsFieldByte (decimal n) → tilde_key n ≡ Some key
    → numbered_key (decimal n ++ manner_behind (59 ∷ []) bits kind ++ 126 ∷ [])
    ≡ Some (bare key bits kind)
numbered_back bits kind n key h small digits e = go (is_plain bits kind) refl
  where
    read : number 0 last_functional (decimal n) ≡ Some n
    read = number_decimal 0 last_functional n (omega arith) (omega arith) (omega arith)

    go : (v : Bool) → is_plain bits kind ≡ v → numbered_key (decimal n ++ manner_behind (59 ∷ []) bits kind ++ 126 ∷ [])
        ≡ Some (bare key bits kind)
    go true plain =
        let same = plain_is bits kind plain in
        by_tilde (decimal n ++ manner_behind (59 ∷ []) bits kind)
        ∙ ap (λ z. numbered_of_fields (fields (decimal n ++ z))) (behind_none (59 ∷ []) bits kind plain)
        ∙ ap (λ z. numbered_of_fields (fields z)) (append-nil (decimal n))
        ∙ ap numbered_of_fields (one_field (decimal n) digits)
        ∙ rw (read, e) refl
        ∙ ap₂ (λ m k. Some (bare key m k)) (sym same.0) (sym same.1)
    go false plain =
        by_tilde (decimal n ++ manner_behind (59 ∷ []) bits kind)
        ∙ ap (λ z. numbered_of_fields (fields (decimal n ++ z))) (behind_some (59 ∷ []) bits kind plain)
        ∙ ap numbered_of_fields (more_fields (decimal n) (manner_text bits kind) digits)
        ∙ rw (one_field (manner_text bits kind) (manner_bytes bits kind h), read, e, manner_back bits kind h) refl

-- which rule reads the sequence

pub report_by_character : (t : List ℕ) (r : KeyReport) → character_key t ≡ Some r → key_report t ≡ Some r
unfolding key_report
report_by_character t r e = rw e refl

pub report_by_letter : (body : List ℕ) (l : ℕ) (r : KeyReport) → l ≢ 117 → lettered_key (body ++ l ∷ []) ≡ Some r
    → key_report (body ++ l ∷ []) ≡ Some r
unfolding key_report
report_by_letter body l r n e = rw (character_none body l n, e) refl

pub report_by_tilde : (body : List ℕ) (r : KeyReport) → numbered_key (body ++ 126 ∷ []) ≡ Some r
    → key_report (body ++ 126 ∷ []) ≡ Some r
unfolding key_report
report_by_tilde body r e = rw (character_none body 126 (λ same. omega arith), lettered_none body, e) refl

-- the focus is told by one of two letters
no_focus : (body : List ℕ) (l : ℕ) → l ≢ 73 → l ≢ 79 → focus (body ++ l ∷ []) ≡ None
unfolding focus
no_focus [] l gained lost =
    let a : (l == 73) ≡ false = grind (arith, nat_tests) in
    let b : (l == 79) ≡ false = grind (arith, nat_tests) in
    rw (a, b) refl
no_focus (x ∷ []) l gained lost = refl
no_focus (x ∷ y ∷ body) l gained lost = refl

pub event_back : (asks : Bool) (body : List ℕ) (l : ℕ) (r : KeyReport) → l ≢ 73 → l ≢ 79 → key_report (body ++ l ∷ []) ≡ Some r
    → event_of asks (27 ∷ 91 ∷ (body ++ l ∷ [])) ≡ Key r
unfolding event_of event_after reported
event_back asks body l r gained lost e = rw (no_focus body l gained lost, e) refl
