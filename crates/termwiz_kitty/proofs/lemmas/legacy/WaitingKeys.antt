-- The keys whose texts, alone or after an ESC, properly begin a sequence or an opening.
use Rattle.std.proofs.Common.{◌≡◌, ◌≢◌, ◌⊎◌, inl, inr, ⊎_elim, ℕ, zero, false, List, [], ◌∷◌, ◌++◌, refl, sym, ap, ◌∙◌, subst, arith, Some, Contains, lit<, codes}
use Rattle.std.specs.Char.{IsScalar, encode_utf8}
use Rattle.termwiz_keys.specs.Encoding.{enc}
use Rattle.termwiz_keys.specs.Introducers.{ESC, CSI, SS3}
use Rattle.termwiz_keys.specs.Keys.{NONE, ALT, escape, with_alt, key_with}
use Rattle.termwiz_keys.specs.declared.types.KeyCode.{KeyCode}
use Rattle.termwiz_keys.specs.declared.types.KeyCode.TheVariants.{Char, Escape}
use Rattle.termwiz_keys.specs.declared.types.KeyEvent.{KeyEvent}
use Rattle.termwiz_keys.specs.declared.types.InputEvent.TheVariants as input
use Rattle.termwiz_grammar.specs.Grammar as port
use Rattle.termwiz_grammar.specs.Sequences.{IsSequence}
use Rattle.termwiz_grammar.specs.Sequences.Meaning.{Row}
use Rattle.termwiz_grammar.proofs.lemmas.table.RowShape.{Bytes}
use Rattle.termwiz_grammar.proofs.lemmas.table.RowShape.Bytes.{one, more}
use Rattle.termwiz_grammar.proofs.lemmas.table.SequenceFacts.{sequence_bytes}
use Rattle.termwiz_grammar.proofs.lemmas.read_back.WholeTexts.{row_means}
use Rattle.termwiz_laws.specs.FurtherKeys.{ReadsBackToo}
use Rattle.termwiz_laws.specs.FurtherKeys.ReadsBackToo.{alt_character, none_or_alt}
use Rattle.termwiz_laws.specs.KeyStreams.{Press, MayGoOn}
use Rattle.termwiz_laws.proofs.lemmas.further_keys.ComputedReadings.{enc_written_out}
use Rattle.termwiz_laws.proofs.lemmas.further_keys.FurtherReadings.{further_keys_read_back}
use Rattle.termwiz_laws.proofs.lemmas.further_keys.SingleKey.{Plainly, Single, single}
use Rattle.termwiz_laws.proofs.lemmas.further_keys.SingleKey.Plainly.{by_row, by_character, by_broken_byte}
use Rattle.termwiz_laws.proofs.lemmas.further_keys.SingleKey.Single.{plainly, after_escape}
use Rattle.termwiz_laws.proofs.lemmas.shared_texts.TwinKeys.{read_once, sent_means}
use Rattle.termwiz_extended_events.specs.declared.types.Reading.{Reading}
use Rattle.termwiz_extended_grammar.specs.ExtendedGrammar.{BeginsExtended, BeginsKnown}
use Rattle.termwiz_extended_grammar.proofs.lemmas.forms.FormBytes.{IsSecond, mark_shape}
use Rattle.termwiz_extended_grammar.proofs.lemmas.forms.ExtraFacts.{completed_mark, mark_from_unfinished, unfinished_reads}
use Rattle.termwiz_extended_grammar.proofs.lemmas.items.ExtraHeads.{four_beginnings}
use Rattle.termwiz_kitty.proofs.lemmas.PortKeys.{xterm_modes, held_that_wait}
use Rattle.termwiz_kitty.proofs.lemmas.legacy.ReadAsOne.{row_is, second_byte, no_escape_before}

-- what a text means to the port
abbrev IsKeyOf : List ℕ → KeyEvent → Type 0
IsKeyOf text k = port.Means text false (input.Key k ∷ []) []

abbrev Waits : KeyEvent → Type 0
Waits k = Contains held_that_wait (k.key, k.modifiers.0)

sent_as : (key : KeyCode) (held : ℕ) (text : List ℕ) → ReadsBackToo key held xterm_modes
    → enc key (record { 0 = held }) xterm_modes ≡ Some text → IsKeyOf text (key_with key held)
sent_as key held text too sends =
    let press : Press = record { key = key; modifiers = record { 0 = held }; modes = xterm_modes } in
    sent_means press text (further_keys_read_back key (record { 0 = held }) xterm_modes too) sends

escape_sent : IsKeyOf ESC escape
unfolding enc_written_out
escape_sent = sent_as Escape NONE ESC (none_or_alt Escape NONE xterm_modes (zero, lit< tt, refl) (zero, lit< tt, refl)) refl

escapes_sent : IsKeyOf (27 ∷ 27 ∷ []) (key_with Escape ALT)
unfolding enc_written_out
escapes_sent =
    sent_as Escape ALT (27 ∷ 27 ∷ []) (none_or_alt Escape ALT xterm_modes (zero, lit< tt, refl) (1, lit< tt, refl)) refl

-- the second byte of a mark, after ESC, is that character with ALT
second_sent : (b : ℕ) → IsSecond b → IsKeyOf (27 ∷ b ∷ []) (key_with (Char b) ALT)
unfolding enc_written_out
second_sent b (inl e) = subst (λ c. IsKeyOf (27 ∷ c ∷ []) (key_with (Char c) ALT)) (sym e)
    (sent_as (Char 91) ALT (27 ∷ 91 ∷ []) (alt_character 91 xterm_modes refl) refl)
second_sent b (inr (inl e)) = subst (λ c. IsKeyOf (27 ∷ c ∷ []) (key_with (Char c) ALT)) (sym e)
    (sent_as (Char 79) ALT (27 ∷ 79 ∷ []) (alt_character 79 xterm_modes refl) refl)
second_sent b (inr (inr (inl e))) = subst (λ c. IsKeyOf (27 ∷ c ∷ []) (key_with (Char c) ALT)) (sym e)
    (sent_as (Char 93) ALT (27 ∷ 93 ∷ []) (alt_character 93 xterm_modes refl) refl)
second_sent b (inr (inr (inr (inl e)))) = subst (λ c. IsKeyOf (27 ∷ c ∷ []) (key_with (Char c) ALT)) (sym e)
    (sent_as (Char 80) ALT (27 ∷ 80 ∷ []) (alt_character 80 xterm_modes refl) refl)
second_sent b (inr (inr (inr (inr e)))) = subst (λ c. IsKeyOf (27 ∷ c ∷ []) (key_with (Char c) ALT)) (sym e)
    (sent_as (Char 95) ALT (27 ∷ 95 ∷ []) (alt_character 95 xterm_modes refl) refl)

second_waits : (b : ℕ) → IsSecond b → Waits (key_with (Char b) ALT)
second_waits b (inl e) = subst (λ c. Waits (key_with (Char c) ALT)) (sym e) (2, lit< tt, refl)
second_waits b (inr (inl e)) = subst (λ c. Waits (key_with (Char c) ALT)) (sym e) (3, lit< tt, refl)
second_waits b (inr (inr (inl e))) = subst (λ c. Waits (key_with (Char c) ALT)) (sym e) (5, lit< tt, refl)
second_waits b (inr (inr (inr (inl e)))) = subst (λ c. Waits (key_with (Char c) ALT)) (sym e) (4, lit< tt, refl)
second_waits b (inr (inr (inr (inr e)))) = subst (λ c. Waits (key_with (Char c) ALT)) (sym e) (6, lit< tt, refl)

-- ESC, or ESC and the second byte of a mark
data IsFront (text : List ℕ) : Type 0 where
  escape_alone : text ≡ ESC → IsFront text
  with_second : (b : ℕ) → IsSecond b → text ≡ 27 ∷ b ∷ [] → IsFront text

front_waits : (text : List ℕ) (k : KeyEvent) → IsKeyOf text k → IsFront text → Waits k
front_waits text k means (escape_alone e) =
    subst Waits (read_once ESC escape k escape_sent (subst (λ t. IsKeyOf t k) e means)) (zero, lit< tt, refl)
front_waits text k means (with_second b second e) =
    subst Waits (read_once (27 ∷ b ∷ []) (key_with (Char b) ALT) k (second_sent b second) (subst (λ t. IsKeyOf t k) e means))
    (second_waits b second)

escapes_wait : (text : List ℕ) (k : KeyEvent) → IsKeyOf text k → text ≡ 27 ∷ 27 ∷ [] → Waits k
escapes_wait text k means e =
    subst Waits (read_once (27 ∷ 27 ∷ []) (key_with Escape ALT) k escapes_sent (subst (λ t. IsKeyOf t k) e means))
    (1, lit< tt, refl)

-- a row that properly begins an extra sequence or an opening
row_front : (reading : Reading) (text : List ℕ) (k : KeyEvent) → IsSequence text (Row k) → BeginsExtended reading text → IsFront text
row_front reading text k is x = ⊎_elim
    (λ (e : text ≡ ESC). escape_alone e)
    (λ (rest : (text ≡ CSI) ⊎ ((text ≡ SS3) ⊎ (text ≡ ESC ++ codes "P"))). ⊎_elim
    (λ (e : text ≡ CSI). with_second 91 (inl refl) e)
    (λ (last : (text ≡ SS3) ⊎ (text ≡ ESC ++ codes "P")). ⊎_elim
    (λ (e : text ≡ SS3). with_second 79 (inr (inl refl)) e)
    (λ (e : text ≡ ESC ++ codes "P"). with_second 80 (inr (inr (inr (inl refl)))) e)
    last)
    rest)
    ((four_beginnings reading text (Row k) (unfinished_reads reading text x) is).0 x)

-- a first byte of a character that is ESC is all of it
escape_character : (c : ℕ) (r : List ℕ) → IsScalar c → encode_utf8 c ≡ 27 ∷ r → r ≡ []
escape_character c [] scalar e = refl
escape_character c (b ∷ r) scalar e = absurd (no_escape_before c b r scalar e)

-- what properly begins one of them begins with ESC
record BeginsMark (x : ℕ) (u : List ℕ) : Type 0 where
  second : ℕ
  rest : List ℕ
  tail : List ℕ
  is_second : IsSecond second
  first : x ≡ 27
  after : u ++ tail ≡ second ∷ rest

begins_mark : (reading : Reading) (x : ℕ) (u : List ℕ) → BeginsExtended reading (x ∷ u) → BeginsMark x u
begins_mark reading x u h =
    let mark = completed_mark (x ∷ u) (mark_from_unfinished reading (x ∷ u) h) in
    let shape = mark_shape (x ∷ u ++ mark.0) mark.2 in
    record {
      second = shape.0;
      rest = shape.1;
      tail = mark.0;
      is_second = shape.4;
      first = cc (shape.2);
      after = cc (shape.2);
    }

-- a text of one key that properly begins one of them
text_front : (reading : Reading) (text : List ℕ) (k : KeyEvent) → text ≢ [] → Single text k → BeginsExtended reading text → IsFront text
text_front reading [] k some is x = absurd (some refl)
text_front reading (y ∷ u) k some (plainly (by_row r)) x = row_front reading (y ∷ u) k (row_is (y ∷ u) k r) x
text_front reading (y ∷ u) k some (plainly (by_character c scalar e g)) x =
    let mark = begins_mark reading y u x in
    let none : u ≡ [] = escape_character c u scalar (sym e ∙ ap (λ b. b ∷ u) mark.first) in
    escape_alone (cc (mark.first, none))
text_front reading (y ∷ u) k some (plainly (by_broken_byte b e g)) x =
    let mark = begins_mark reading y u x in escape_alone (cc (mark.first, e))
text_front reading (y ∷ []) k some (after_escape t j e p g) x = let mark = begins_mark reading y [] x in escape_alone (cc (mark.first))
text_front reading (y ∷ z ∷ []) k some (after_escape t j e p g) x =
    let mark = begins_mark reading y (z ∷ []) x in
    let same : mark.second ≡ z = cc (mark.after) in
    with_second z (subst IsSecond same mark.is_second) (cc (mark.first))
text_front reading (y ∷ z ∷ w ∷ u) k some (after_escape t j e p g) x =
    let mark = begins_mark reading y (z ∷ w ∷ u) x in
    let same : mark.second ≡ z = cc (mark.after) in
    absurd (second_byte z (w ∷ u) t j (subst IsSecond same mark.is_second) (λ n. cc (n)) (cc (e)) p)

-- A text of one key that properly begins a sequence, a character or an opening is that of a key that waits.
pub text_waits : (reading : Reading) (text : List ℕ) (k : KeyEvent) → IsKeyOf text k → text ≢ [] → BeginsKnown reading text → ¬ MayGoOn text
    → Waits k
text_waits reading text k means some (inl beginning) never =
    absurd (never (record { held = []; bytes = text; is_held = inl refl; some = some; splits = refl; beginning = beginning }))
text_waits reading text k means some (inr x) never = front_waits text k means (text_front reading text k some (single text k means) x)

no_second_escape : (r : List ℕ) → Bytes (27 ∷ 27 ∷ r) → ⊥
no_second_escape r (one y l e) = cc (e)
no_second_escape r (more [] n e p) = n refl
no_second_escape r (more (x ∷ t) n e p) = (let same : x ≡ 27 = cc (e) in omega (arith, p.0.0))

-- what is read after an ESC, and properly begins an extra sequence or an opening
data IsFrontKey (v : List ℕ) (j : KeyEvent) : Type 0 where
  escape_only : v ≡ ESC → IsFrontKey v j
  second_key : (b : ℕ) → IsSecond b → j ≡ key_with (Char b) ALT → IsFrontKey v j

front_key : (reading : Reading) (v : List ℕ) (j : KeyEvent) → v ≢ [] → Plainly v j → BeginsExtended reading v → IsFrontKey v j
front_key reading v j some (by_row r) x = go (row_front reading v j (row_is v j r) x)
  where
    go : IsFront v → IsFrontKey v j
    go (escape_alone e) = escape_only e
    go (with_second b second e) =
        second_key b second (read_once (27 ∷ b ∷ []) j (key_with (Char b) ALT)
        (subst (λ t. IsKeyOf t j) e (row_means v j r (λ start. cc (e, start)))) (second_sent b second))
front_key reading [] j some (by_character c scalar e g) x = absurd (some refl)
front_key reading (y ∷ u) j some (by_character c scalar e g) x =
    let mark = begins_mark reading y u x in
    let none : u ≡ [] = escape_character c u scalar (sym e ∙ ap (λ b. b ∷ u) mark.first) in
    escape_only (cc (mark.first, none))
front_key reading [] j some (by_broken_byte b e g) x = absurd (some refl)
front_key reading (y ∷ u) j some (by_broken_byte b e g) x = let mark = begins_mark reading y u x in escape_only (cc (mark.first, e))

-- The same of what follows its ESC.
pub rest_waits : (reading : Reading) (text v : List ℕ) (k : KeyEvent) → IsKeyOf text k → text ≡ ESC ++ v → v ≢ [] → BeginsKnown reading v
    → ¬ MayGoOn text → Waits k
rest_waits reading text v k means split some (inl beginning) never =
    absurd (never (record { held = ESC; bytes = v; is_held = inr refl; some = some; splits = split; beginning = beginning }))
rest_waits reading text [] k means split some (inr x) never = absurd (some refl)
rest_waits reading text (y ∷ u) k means split some (inr x) never = go (single text k means)
  where
    mark : BeginsMark y u
    mark = begins_mark reading y u x

    all : text ≡ 27 ∷ 27 ∷ u
    all = split ∙ ap (λ b. 27 ∷ b ∷ u) mark.first

    after : (j : KeyEvent) → k ≡ with_alt j → IsFrontKey (y ∷ u) j → Waits k
    after j g (escape_only e) = escapes_wait text k means (split ∙ ap (λ t. 27 ∷ t) e)
    after j g (second_key b second e) =
        subst Waits (sym (g ∙ ap with_alt e)) (second_waits b second)

    go : Single text k → Waits k
    go (plainly (by_row r)) = absurd (no_second_escape u (subst Bytes all (sequence_bytes text (Row k) (row_is text k r))))
    go (plainly (by_character c scalar e g)) = absurd (no_escape_before c 27 u scalar (sym e ∙ all))
    go (plainly (by_broken_byte b e g)) = absurd (cc (e, all))
    go (after_escape t j e p g) =
        let same : t ≡ y ∷ u = cc (e, split) in
        after j g (front_key reading (y ∷ u) j some (subst (λ s. Plainly s j) same p) x)
