-- No sequence begins with a byte from 0x20 to 0x7e or from 0x80 on, and none has another after its first.
use Rattle.std.proofs.Common.{◌≡◌, ◌≢◌, ◌⊎◌, inl, ℕ, ◌<◌, ◌≤◌, List, [], ◌∷◌, ◌++◌, refl, sym, ap, subst, arith, get_or, length, ⊎_elim, slice_index_or}
use Rattle.termwiz_keymap.specs.Bytes.{Begins}
use Rattle.termwiz_keys.specs.Introducers.{ESC}
use Rattle.termwiz_keys.specs.Keys.{escape}
use Rattle.termwiz_grammar.specs.Sequences.{Meaning, IsSequence}
use Rattle.termwiz_grammar.specs.Sequences.Meaning.{Row}
use Rattle.termwiz_grammar.specs.Grammar.{IsLongest, IsUnfinishedSequence, IsUnfinishedCharacter}
use Rattle.termwiz_input.specs.Matches.{HasRow, NoSequenceBegins, CannotStartSequence, HasLoneEscape}
use Rattle.termwiz_grammar.proofs.lemmas.table.SequenceFacts.{sequence_bytes, sequence_some, escape_is_sequence}
use Rattle.termwiz_grammar.proofs.lemmas.characters.CharacterPrefixes.{sequence_finished}
use Rattle.termwiz_grammar.proofs.lemmas.mouse.OneReport.{IsPlain}
use Rattle.termwiz_grammar.proofs.lemmas.table.RowShape.{Bytes}
use Rattle.termwiz_grammar.proofs.lemmas.table.RowShape.Bytes.{one, more}

-- the bytes with which sequences begin
first_byte : (b : ℕ) (t : List ℕ) → Bytes (b ∷ t) → (b < 28) ⊎ (b ≡ 127)
first_byte b t (one c low e) = let same : b ≡ c = ap (λ x. get_or x 0 0) e in grind arith
first_byte b t (more s n e plain) = let same : b ≡ 27 = ap (λ x. get_or x 0 0) e in inl (omega arith)

-- a sequence begins with no other byte
not_sequence : (b : ℕ) (t : List ℕ) (m : Meaning) → 32 ≤ b → b ≢ 127 → IsSequence (b ∷ t) m → ⊥
not_sequence b t m low other is_sequence =
    let first = first_byte b t (sequence_bytes (b ∷ t) m is_sequence) in
    grind arith

no_sequence : (b : ℕ) (u : List ℕ) → 32 ≤ b → b ≢ 127 → NoSequenceBegins (b ∷ u)
no_sequence b u low other [] m is_sequence begins = absurd (sequence_some [] m is_sequence refl)
no_sequence b u low other (x ∷ text) m is_sequence begins =
    let same : b ≡ x = ap (λ t. get_or t 0 0) begins.1 in
    not_sequence x text m (omega (arith, same)) (omega (arith, same)) is_sequence

pub apart_from_sequences : (u : List ℕ) → 0 < length u → 32 ≤ slice_index_or u 0 0 → slice_index_or u 0 0 ≢ 127
    → CannotStartSequence u
apart_from_sequences [] some low other = absurd (omega arith)
apart_from_sequences (b ∷ u) some low other = record {
  no_sequence = no_sequence b u low other;
  finished = λ (h : IsUnfinishedSequence (b ∷ u)). not_sequence b (u ++ h.tail) h.meaning low other h.is_sequence;
}

-- a sequence has no such byte after an ESC
second_plain : (b : ℕ) (t : List ℕ) → Bytes (27 ∷ b ∷ t) → IsPlain b
second_plain b t (one c low e) = absurd (cc (e))
second_plain b t (more s n e plain) = grind arith

not_after_escape : (b : ℕ) (t : List ℕ) (m : Meaning) → ¬ IsPlain b → IsSequence (27 ∷ b ∷ t) m → ⊥
not_after_escape b t m other is_sequence = other (second_plain b t (sequence_bytes (27 ∷ b ∷ t) m is_sequence))

-- of the texts that begin such a text only ESC is a sequence
at_most_escape : (b : ℕ) (u other : List ℕ) (m : Meaning) → ¬ IsPlain b → IsSequence other m → Begins other (27 ∷ b ∷ u)
    → length other ≤ 1
at_most_escape b u [] m not_plain is_sequence begins = omega arith
at_most_escape b u (x ∷ []) m not_plain is_sequence begins = omega arith
at_most_escape b u (x ∷ y ∷ text) m not_plain is_sequence begins =
    let first : 27 ≡ x = ap (λ t. get_or t 0 0) begins.1 in
    let second : b ≡ y = ap (λ t. get_or t 1 0) begins.1 in
    absurd (not_after_escape b text m not_plain (subst (λ z. IsSequence (z ∷ b ∷ text) m) (sym first)
    (subst (λ z. IsSequence (x ∷ z ∷ text) m) (sym second) is_sequence)))

pub lone_escape : (b : ℕ) (u : List ℕ) → ¬ IsPlain b → HasLoneEscape (27 ∷ b ∷ u)
lone_escape b u other = record {
  head = record {
    is_sequence = escape_is_sequence;
    begins = (b ∷ u, refl);
    longest = λ text m is_sequence begins. at_most_escape b u text m other is_sequence begins;
  };
  closed = λ more opens. ⊎_elim
      (λ (h : IsUnfinishedSequence (27 ∷ b ∷ u)). not_after_escape b (u ++ h.tail) h.meaning other h.is_sequence)
      (λ (h : IsUnfinishedCharacter (27 ∷ b ∷ u)).
      sequence_finished ESC (27 ∷ b ∷ u) (Row escape) escape_is_sequence (b ∷ u, refl) (λ e. cc (e)) h)
      opens.beginning;
}

pub lone_escape_at : (u : List ℕ) → 1 < length u → slice_index_or u 0 0 ≡ 27 → ¬ IsPlain (slice_index_or u 1 0)
    → HasLoneEscape u
lone_escape_at [] long first other = absurd (omega arith)
lone_escape_at (x ∷ []) long first other = absurd (omega arith)
lone_escape_at (x ∷ b ∷ u) long first other = subst (λ z. HasLoneEscape (z ∷ b ∷ u)) (sym first) (lone_escape b u other)

-- a lone Escape, as the head of one byte
pub escape_head : (u : List ℕ) → 0 < length u → slice_index_or u 0 0 ≡ 27 → HasLoneEscape u → HasRow u escape 1
escape_head [] long first is = absurd (omega arith)
escape_head (x ∷ u) long first is =
    (omega arith, subst (λ z. IsLongest (x ∷ u) (z ∷ []) (Row escape)) (sym first) is.head)
