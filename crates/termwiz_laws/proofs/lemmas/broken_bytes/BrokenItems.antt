-- A broken byte is an item, alone or after one ESC.
use Rattle.std.proofs.Common.{◌≡◌, inr, ⊎_elim, ℕ, ◌≤◌, Bool, List, [], ◌∷◌, ◌++◌, refl, arith}
use Rattle.termwiz_keys.specs.declared.types.InputEvent.{InputEvent}
use Rattle.termwiz_keys.specs.Introducers.{ESC}
use Rattle.termwiz_keys.specs.Keys.{plain, escape}
use Rattle.termwiz_grammar.specs.Sequences.{Meaning, IsSequence}
use Rattle.termwiz_grammar.specs.Sequences.Meaning.{Row}
use Rattle.termwiz_grammar.specs.Grammar.{replacement, IsUnfinishedSequence, IsUnfinishedCharacter, Stands, Means}
use Rattle.termwiz_grammar.specs.Grammar.Head.{Broken}
use Rattle.termwiz_grammar.specs.Grammar.Item.{broken, alt}
use Rattle.termwiz_grammar.proofs.lemmas.characters.CharacterPrefixes.{sequence_finished}
use Rattle.termwiz_grammar.proofs.lemmas.cuts.ChunkInvariance.{cut_independent}
use Rattle.termwiz_grammar.proofs.lemmas.read_back.WholeTexts.{escape_alone}
use Rattle.termwiz_grammar.proofs.lemmas.table.RowShape.{Bytes}
use Rattle.termwiz_grammar.proofs.lemmas.table.RowShape.Bytes.{one, more}
use Rattle.termwiz_grammar.proofs.lemmas.table.SequenceFacts.{sequence_bytes, escape_is_sequence}
use Rattle.termwiz_laws.specs.BrokenBytes.{IsBrokenBefore, broken_event, broken_event_with_alt, BrokenByteInStream, BrokenByteAfterEscape, AlwaysCostsOne}
use Rattle.termwiz_laws.proofs.lemmas.broken_bytes.FirstBytesOfNone.{broken_high, always_broken}

pub broken_stands : (byte : ℕ) (S : List ℕ) (f : Bool) → IsBrokenBefore byte S f
    → Stands (byte ∷ S) f (byte ∷ []) broken_event
broken_stands byte S f is = record { closed = is.1; item = broken byte is.0 }

pub broken_then : (byte : ℕ) (S W : List ℕ) (D : List InputEvent) (f : Bool) → IsBrokenBefore byte S f → Means S f D W
    → Means (byte ∷ S) f (broken_event ∷ D) W
broken_then byte S W D f is m = record {
  steps = (byte ∷ [], S, broken_stands byte S f is, refl, m.steps);
  rest = m.rest;
}

pub in_stream : BrokenByteInStream
in_stream T S W E D byte f is before after =
    cut_independent T (byte ∷ S) [] W E (broken_event ∷ D) f before (broken_then byte S W D f is after)

-- no sequence has such a byte after its ESC
not_after_escape : (byte : ℕ) (t : List ℕ) (m : Meaning) → 0x80 ≤ byte → IsSequence (27 ∷ byte ∷ t) m → ⊥
not_after_escape byte t m high is = go (sequence_bytes (27 ∷ byte ∷ t) m is)
  where
    go : Bytes (27 ∷ byte ∷ t) → ⊥
    go (one b l e) = cc (e)
    go (more [] n e p) = n refl
    go (more (x ∷ s) n e p) = let same : byte ≡ x = cc (e) in omega (arith, same, p.0.1)

pub with_escape_stands : (byte : ℕ) (S : List ℕ) (f : Bool) → IsBrokenBefore byte S f
    → Stands (27 ∷ byte ∷ S) f (27 ∷ byte ∷ []) broken_event_with_alt
with_escape_stands byte S f is =
    let high = broken_high byte S is.0 in
    record {
      closed = λ opens. ⊎_elim
          (λ (h : IsUnfinishedSequence (27 ∷ byte ∷ S)).
          not_after_escape byte (S ++ h.tail) h.meaning high h.is_sequence)
          (λ (h : IsUnfinishedCharacter (27 ∷ byte ∷ S)).
          sequence_finished ESC (27 ∷ byte ∷ S) (Row escape) escape_is_sequence (byte ∷ S, refl) (λ e. cc (e)) h)
          opens.beginning;
      item = alt (byte ∷ S) (Broken byte) (plain replacement) (record {
        escape_head = escape_alone byte S (inr (omega arith));
        splits = refl;
        some = λ e. cc (e);
        closed = is.1;
      }) is.0 refl;
    }

pub after_escape : BrokenByteAfterEscape
after_escape T S W E D byte f is before after =
    cut_independent T (byte ∷ S) ESC W E (broken_event_with_alt ∷ D) f before (record {
      steps = (27 ∷ byte ∷ [], S, with_escape_stands byte S f is, refl, after.steps);
      rest = after.rest;
    })

pub always_costs_one : AlwaysCostsOne
always_costs_one T S W E D byte f none before after =
    in_stream T S W E D byte f (always_broken byte S f none) before after
