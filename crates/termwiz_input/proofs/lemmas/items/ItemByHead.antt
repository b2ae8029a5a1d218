-- Which item stands at a text, by its head.
use Rattle.std.proofs.Common.{◌≡◌, ◌≢◌, inl, inr, ⊎_elim, ℕ, suc, ◌+◌, ◌-◌, ◌≤◌, Bool, List, [], ◌∷◌, ◌++◌, length, take, drop, refl, sym, ap, ◌∙◌, subst, arith, append_assoc, length-take-le, encode_utf8}
use Rattle.std.specs.Str.Lossy.{utf8_lossy}
use Rattle.std.proofs.lemmas.Grind.{common_steps}
use Rattle.termwiz_keys.specs.declared.types.KeyEvent.{KeyEvent}
use Rattle.termwiz_keys.specs.declared.types.MouseEvent.{MouseEvent}
use Rattle.termwiz_keys.specs.declared.types.InputEvent.{InputEvent}
use Rattle.termwiz_keys.specs.declared.types.InputEvent.TheVariants.{Key, Mouse, Paste}
use Rattle.termwiz_input.specs.declared.head.MatchedHead.TheVariants.{Report as mouse_report, Character as character, Broken as broken}
use Rattle.termwiz_keymap.specs.Bytes.{Begins, Occurs}
use Rattle.termwiz_keys.specs.Introducers.{ESC, START, END}
use Rattle.termwiz_keys.specs.Keys.{plain, escape, with_alt}
use Rattle.termwiz_grammar.specs.Sequences.{IsSequence}
use Rattle.termwiz_grammar.specs.Sequences.Meaning.{Row, Report}
use Rattle.termwiz_grammar.specs.Grammar.{IsLongest, IsUnfinishedSequence, IsUnfinishedCharacter, IsOpen, IsAfterEscape, replacement, Item, IsRest, Stands}
use Rattle.termwiz_grammar.specs.Grammar.Head.{Sequence, Character, Broken}
use Rattle.termwiz_grammar.specs.Grammar.Item.{key, char, broken as broken_byte, mouse, paste, lone_escape, alt}
use Rattle.termwiz_input.specs.Matches.{HasHead, HasRow, IsItemAt, HasNoHeadYet}
use Rattle.termwiz_keymap.proofs.lemmas.lists.CommonPrefixes.{append-some}
use Rattle.termwiz_grammar.proofs.lemmas.table.SequenceFacts.{sequence_once, escape_is_sequence, start, start_is_sequence, start_ends}
use Rattle.termwiz_grammar.proofs.lemmas.items.OneHead.{head_once}
use Rattle.termwiz_grammar.proofs.lemmas.waiting.RestShape.{empty_is_rest}
use Rattle.termwiz_grammar.proofs.lemmas.characters.CharacterPrefixes.{sequence_finished}
use Rattle.termwiz_grammar.proofs.lemmas.items.OneItem.{RowGives, Gives, reads, not_alone, start_head}
use Rattle.termwiz_grammar.proofs.lemmas.items.OneItem.RowGives.{its_key, its_paste, apart, joined}
use Rattle.termwiz_input.proofs.lemmas.pastes.EndSearch.{IsPasteTo}

-- no item stands where the text is open, or where it is empty
pub waits_rest : (u : List ℕ) (more : Bool) → HasNoHeadYet u more → IsRest u more
waits_rest u more (inl opens) bytes event stands = stands.closed opens
waits_rest u more (inr e) bytes event stands =
    empty_is_rest more bytes event (subst (λ x. Stands x more bytes event) e stands)

-- what isn't START at the front of a text
not_start : (u : List ℕ) (n : ℕ) → ¬ Begins START u → Begins (take n u) u → take n u ≢ START
not_start u n never b e = never (subst (λ t. Begins t u) e b)

-- the row at the start of a paste is that start
pub start_row : (u : List ℕ) (k : KeyEvent) (n : ℕ) → HasRow u k n → Begins START u → n ≡ 6
start_row u k n front b =
    let same : take n u ≡ START = cc (head_once u (Sequence (take n u) (Row k)) (Sequence START (Row start)) front.1
    (start_head u b)) in
    omega (arith, ap length same, length-take-le n u front.0)

pub row_stands : (u : List ℕ) (more : Bool) (k : KeyEvent) (n : ℕ) → ¬ IsOpen u more → HasRow u k n
    → ¬ Begins START u
    → (take n u ≡ ESC → u ≡ ESC) → IsItemAt u more (Key k) n
row_stands u more k n closed front never alone =
    (front.0, record { closed = closed; item = key (take n u) k front.1 (not_start u n never front.1.begins) alone })

pub report_stands : (u : List ℕ) (more : Bool) (event : MouseEvent) (n : ℕ) → ¬ IsOpen u more
    → HasHead u (mouse_report event n) → IsItemAt u more (Mouse event) n
report_stands u more event n closed front = (front.0, record { closed = closed; item = mouse (take n u) event front.1 })

-- the bytes of a character at the front
character_bytes : (u : List ℕ) (c n : ℕ) → HasHead u (character c n) → (n ≤ length u) × (encode_utf8 c ≡ take n u)
character_bytes u c n (long, is) = grind (arith, common_steps)

pub character_stands : (u : List ℕ) (more : Bool) (c n : ℕ) → ¬ IsOpen u more → HasHead u (character c n)
    → IsItemAt u more (Key (plain c)) n
character_stands u more c n closed front =
    let bytes = character_bytes u c n front in
    (bytes.0, record { closed = closed; item = subst (λ t. Item u more t (Key (plain c))) bytes.1 (char c front.1) })

-- the first byte of a text
first_byte : (u : List ℕ) (byte : ℕ) → Begins (byte ∷ []) u → (1 ≤ length u) × (byte ∷ [] ≡ take 1 u)
first_byte u byte b = (omega (arith, ap length b.1), ap (take 1) (sym b.1))

pub broken_stands : (u : List ℕ) (more : Bool) → ¬ IsOpen u more → HasHead u broken
    → IsItemAt u more (Key (plain replacement)) 1
broken_stands u more closed (byte, is) =
    let first = first_byte u byte is.begins in (
      first.0,
      record {
        closed = closed;
        item = subst (λ t. Item u more t (Key (plain replacement))) first.1 (broken_byte byte is);
      },
    )

-- after a lone Escape
after : (rest : List ℕ) (more : Bool) → IsLongest (ESC ++ rest) ESC (Row escape) → rest ≢ [] → ¬ IsOpen rest more
    → IsAfterEscape (ESC ++ rest) rest more
after rest more head some closed = record { escape_head = head; splits = refl; some = some; closed = closed }

take_after : (rest : List ℕ) (n : ℕ) → ESC ++ take n rest ≡ take (1 + n) (ESC ++ rest)
take_after rest n = let e : 1 + n ≡ suc n = omega arith in rw e refl

pub alt_row_stands : (rest : List ℕ) (more : Bool) (k : KeyEvent) (n : ℕ) → ¬ IsOpen (ESC ++ rest) more
    → IsLongest (ESC ++ rest) ESC (Row escape) → rest ≢ []
    → ¬ IsOpen rest more → HasRow rest k n → ¬ Begins START rest
    → IsItemAt (ESC ++ rest) more (Key (with_alt k)) (1 + n)
alt_row_stands rest more k n closed head some gap front never = (
  omega (arith, front.0),
  record {
    closed = closed;
    item = subst (λ t. Item (ESC ++ rest) more t (Key (with_alt k))) (take_after rest n)
        (alt rest (Sequence (take n rest) (Row k)) k (after rest more head some gap) front.1
        (not_start rest n never front.1.begins, refl));
  },
)

pub alt_character_stands : (rest : List ℕ) (more : Bool) (c n : ℕ) → ¬ IsOpen (ESC ++ rest) more
    → IsLongest (ESC ++ rest) ESC (Row escape) → rest ≢ []
    → ¬ IsOpen rest more → HasHead rest (character c n)
    → IsItemAt (ESC ++ rest) more (Key (with_alt (plain c))) (1 + n)
alt_character_stands rest more c n closed head some gap front =
    let bytes = character_bytes rest c n front in (
      omega (arith, bytes.0),
      record {
        closed = closed;
        item = subst (λ t. Item (ESC ++ rest) more t (Key (with_alt (plain c))))
            (ap (λ t. ESC ++ t) bytes.1 ∙ take_after rest n)
            (alt rest (Character c) (plain c) (after rest more head some gap) front.1 refl);
      },
    )

pub alt_broken_stands : (rest : List ℕ) (more : Bool) → ¬ IsOpen (ESC ++ rest) more
    → IsLongest (ESC ++ rest) ESC (Row escape) → rest ≢ []
    → ¬ IsOpen rest more → HasHead rest broken
    → IsItemAt (ESC ++ rest) more (Key (with_alt (plain replacement))) 2
alt_broken_stands rest more closed head some gap (byte, is) =
    let first = first_byte rest byte is.begins in (
      omega (arith, first.0),
      record {
        closed = closed;
        item = subst (λ t. Item (ESC ++ rest) more t (Key (with_alt (plain replacement))))
            (ap (λ t. ESC ++ t) first.1 ∙ take_after rest 1)
            (alt rest (Broken byte) (plain replacement) (after rest more head some gap) is refl);
      },
    )

pub escape_before_report : (rest : List ℕ) (more : Bool) (event : MouseEvent) (n : ℕ) → ¬ IsOpen (ESC ++ rest) more
    → IsLongest (ESC ++ rest) ESC (Row escape) → rest ≢ []
    → ¬ IsOpen rest more → HasHead rest (mouse_report event n) → IsItemAt (ESC ++ rest) more (Key escape) 1
escape_before_report rest more event n closed head some gap front = (
  omega arith,
  record {
    closed = closed;
    item = lone_escape rest (Sequence (take n rest) (Report event)) (after rest more head some gap) front.1 tt;
  },
)

-- START at the front is the head, and nothing that comes changes it
pub start_closed : (u : List ℕ) (more : Bool) → Begins START u → IsOpen u more → ⊥
start_closed u more (rest, e) opens = ⊎_elim
    (λ (h : IsUnfinishedSequence u).
    append-some rest h.tail h.longer
    (start_ends (rest ++ h.tail) h.meaning
    (subst (λ x. IsSequence x h.meaning) (ap (λ x. x ++ h.tail) e ∙ append_assoc START rest h.tail) h.is_sequence)))
    (λ (h : IsUnfinishedCharacter u). sequence_finished START u (Row start) start_is_sequence (rest, e) opens.some h)
    opens.beginning

pub escape_before_start : (rest : List ℕ) (more : Bool) → ¬ IsOpen (ESC ++ rest) more
    → IsLongest (ESC ++ rest) ESC (Row escape) → rest ≢ []
    → Begins START rest → IsItemAt (ESC ++ rest) more (Key escape) 1
escape_before_start rest more closed head some b = (
  omega arith,
  record {
    closed = closed;
    item = lone_escape rest (Sequence START (Row start)) (after rest more head some (start_closed rest more b))
        (start_head rest b) refl;
  },
)

-- no item stands at an Escape where none is decided for what follows it
pub joined_rest : (rest : List ℕ) (more : Bool) → IsLongest (ESC ++ rest) ESC (Row escape) → rest ≢ []
    → HasNoHeadYet rest more → IsRest (ESC ++ rest) more
joined_rest rest more head some waits bytes event stands =
    let r = reads (ESC ++ rest) bytes event more stands.item in
    unread bytes event (subst (λ h. Gives (ESC ++ rest) more h bytes event)
    (head_once (ESC ++ rest) r.0 (Sequence ESC (Row escape)) r.1 head) r.2)
  where
    decided : (v : List ℕ) → v ≡ rest → ¬ IsOpen v more → HasNoHeadYet rest more → ⊥
    decided v same gap (inl opens) = gap (subst (λ z. IsOpen z more) (sym same) opens)
    decided v same gap (inr e) = some e

    unread : (bytes : List ℕ) (event : InputEvent) → RowGives (ESC ++ rest) more ESC escape bytes event → ⊥
    unread bytes event (its_key p q r s) = not_alone (ESC ++ rest) rest refl some (q refl)
    unread bytes event (its_paste at body tail split first r s) = cc (at)
    unread bytes event (apart at v h split some2 gap second far r s) = decided v (cc (split)) gap waits
    unread bytes event (joined at v h j split some2 gap second near r s) = decided v (cc (split)) gap waits

-- a row at the front whose bytes are ESC is the key Escape
pub escape_row_is : (u : List ℕ) (k : KeyEvent) (n : ℕ) → HasRow u k n → take n u ≡ ESC
    → IsLongest u ESC (Row escape)
escape_row_is u k n front e =
    let here : IsLongest u ESC (Row k) = subst (λ t. IsLongest u t (Row k)) e front.1 in
    subst (λ m. IsLongest u ESC m) (sequence_once ESC (Row k) (Row escape) here.is_sequence escape_is_sequence) here

-- pastes
pub paste_stands : (u : List ℕ) (more : Bool) (k : ℕ) → Begins START u → IsPasteTo u k
    → IsItemAt u more (Paste (utf8_lossy (take (k - 6) (drop 6 u)))) (k + 6)
paste_stands u more k b is = (
  is.within,
  record {
    closed = start_closed u more b;
    item = subst (λ t. Item u more t (Paste (utf8_lossy (take (k - 6) (drop 6 u))))) is.bytes
        (paste (take (k - 6) (drop 6 u)) (is.rest, is.parts) is.first);
  },
)

pub paste_rest : (u : List ℕ) (more : Bool) → Begins START u → ((body : List ℕ) → u ≡ START ++ body → ¬ Occurs END body)
    → IsRest u more
paste_rest u more b never bytes event stands =
    let r = reads u bytes event more stands.item in
    unread bytes event
    (subst (λ h. Gives u more h bytes event) (head_once u r.0 (Sequence START (Row start)) r.1 (start_head u b)) r.2)
  where
    unread : (bytes : List ℕ) (event : InputEvent) → RowGives u more START start bytes event → ⊥
    unread bytes event (its_key p q r s) = p refl
    unread bytes event (its_paste at body rest split first r s) =
        never (body ++ END ++ rest) split (body, rest, refl)
    unread bytes event (apart at v h split some gap second far r s) = cc (at)
    unread bytes event (joined at v h j split some gap second near r s) = cc (at)
