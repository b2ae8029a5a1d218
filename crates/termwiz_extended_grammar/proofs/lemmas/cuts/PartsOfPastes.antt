-- What is decided of an open paste may be taken before more comes, to the extended parser too.
use Rattle.std.proofs.Common.{◌≡◌, inl, inr, ⊎_elim, ℕ, Bool, true, false, List, [], ◌∷◌, ◌++◌, length, refl, sym, ap, ◌∙◌, subst, arith}
use Rattle.std.specs.Prelude.{codes}
use Rattle.std.specs.List.{AllByRecursion}
use Rattle.std.specs.Str.Lossy.{utf8_lossy}
use Rattle.termwiz_keymap.specs.Bytes.{Begins, Occurs}
use Rattle.termwiz_keymap.proofs.lemmas.lists.CommonPrefixes.{append-some}
use Rattle.termwiz_keys.specs.Introducers.{ESC, START, END}
use Rattle.termwiz_keys.specs.declared.types.InputEvent.TheVariants.{Paste as PortsPaste}
use Rattle.termwiz_grammar.specs.Sequences.Meaning.{Row}
use Rattle.termwiz_grammar.specs.Grammar.{EndsFirst, IsUnfinishedSequence, IsUnfinishedCharacter}
use Rattle.termwiz_grammar.proofs.lemmas.table.RowShape.{Bytes}
use Rattle.termwiz_grammar.proofs.lemmas.table.RowShape.Bytes.{one, more}
use Rattle.termwiz_grammar.proofs.lemmas.table.SequenceFacts.{sequence_bytes, start, start_is_sequence}
use Rattle.termwiz_grammar.proofs.lemmas.characters.CharacterPrefixes.{IsHigh, unfinished_high}
use Rattle.termwiz_grammar.proofs.lemmas.items.OneItem.{start_head}
use Rattle.termwiz_grammar.proofs.lemmas.waiting.RestShape.{endless_rests}
use Rattle.termwiz_grammar.proofs.lemmas.pastes.HeldBytes.{ComesAfter, comes_after, no_end_left}
use Rattle.termwiz_grammar.proofs.lemmas.pastes.PartsJoin.{paste_stands, start_closed}
use Rattle.termwiz_extended_events.specs.declared.types.Event.{Event}
use Rattle.termwiz_extended_events.specs.declared.types.Event.TheVariants.{Csi, Paste}
use Rattle.termwiz_extended_events.specs.declared.types.Reading.{Reading}
use Rattle.termwiz_extended_events.specs.Meanings.{event_of, IsKeyOrPosition}
use Rattle.termwiz_extended_events.proofs.Examples.{written_out}
use Rattle.termwiz_extended_grammar.specs.ExtraSequences.{IsExtra}
use Rattle.termwiz_extended_grammar.specs.Readings.{after_event, after_events}
use Rattle.termwiz_extended_grammar.specs.Strings.{StartsWithOpening}
use Rattle.termwiz_extended_grammar.specs.ExtendedGrammar.{StartsExtended, BeginsExtended, IsRest, IsUsual, Means, Stands, Steps}
use Rattle.termwiz_extended_grammar.specs.ExtendedGrammar.Stands.{extra, alt_key, lone_escape, string, usual}
use Rattle.termwiz_extended_grammar.specs.ExtendedParts.{JoinsAtEnd, PartsJoin, StayOpen}
use Rattle.termwiz_extended_grammar.proofs.lemmas.forms.FormBytes.{IsMark, mark_shape}
use Rattle.termwiz_extended_grammar.proofs.lemmas.forms.FormEnds.{mark_ends}
use Rattle.termwiz_extended_grammar.proofs.lemmas.forms.ExtraFacts.{completed_mark, mark_from_unfinished, start_form}
use Rattle.termwiz_extended_grammar.proofs.lemmas.items.StringItems.{mark_once, string_opening}
use Rattle.termwiz_extended_grammar.proofs.lemmas.items.StringFronts.{no_opening_after}
use Rattle.termwiz_extended_grammar.proofs.lemmas.items.ExtendedItems.{apart_starts, stands_once, starts_shape, starts_with}
use Rattle.termwiz_extended_grammar.proofs.lemmas.items.ExtendedRests.{one_meaning}

-- the start of a paste reports no key and no position
start_means : (asks : Bool) → event_of asks START ≡ Csi (codes "200~")
unfolding written_out
start_means true = refl
start_means false = refl

pub start_not_extra : (reading : Reading) (event : Event) → IsExtra reading START event → ⊥
start_not_extra reading event is = subst IsKeyOrPosition (start_means _) (is.is_free (Row start) start_is_sequence).2

-- so no extra sequence and no opening begins a text that START begins
none_begins : (reading : Reading) (u : List ℕ) → Begins START u → StartsExtended reading u → ⊥
none_begins reading u b (inl h) =
    let same : h.text ≡ START = mark_once u h.text START (inl h.is_extra.is_form) (inl start_form) h.begins b in
    start_not_extra reading h.event (subst (λ x. IsExtra reading x h.event) same h.is_extra)
none_begins reading u b (inr (reads, o)) =
    no_opening_after 27 91 (codes "200~" ++ b.0) (λ escape is. omega arith) (subst StartsWithOpening b.1 o)

pub usual_start : (reading : Reading) (u : List ℕ) (f : Bool) → Begins START u → IsUsual reading u f
usual_start reading u f b = record {
  none = none_begins reading u b;
  closed = λ h. ⊎_elim
      (λ port. start_closed u f b (record { more_comes = h.more_comes; some = h.some; beginning = port }))
      (λ (begun : BeginsExtended reading u).
      let c = completed_mark u (mark_from_unfinished reading u begun) in
      append-some b.0 c.0 c.1 (mark_ends START (b.0 ++ c.0) (inl start_form) (subst (λ x. IsMark reading.x10_mouse (x ++ c.0)) b.1 c.2)))
      h.beginning;
}

-- nor what follows its ESC
module _ (reading : Reading) (u v : List ℕ) (b : Begins START u) (split : u ≡ ESC ++ v) where
  bracket : v ≡ 91 ∷ (codes "200~" ++ b.0)
  bracket = cc (split, b.1)

  no_sequence : IsUnfinishedSequence v → ⊥
  no_sequence h = go (sequence_bytes (v ++ h.tail) h.meaning h.is_sequence)
    where
      all : v ++ h.tail ≡ 91 ∷ (codes "200~" ++ b.0 ++ h.tail)
      all = ap (λ x. x ++ h.tail) bracket

      go : Bytes (v ++ h.tail) → ⊥
      go (one x l e) = omega (arith, ap length e, ap length all)
      go (more s n e p) = let first : ◌≡◌ {A = ℕ} 27 91 = cc (e, all) in omega arith

  no_character : IsUnfinishedCharacter v → ⊥
  no_character h =
      let high : IsHigh 91 = (subst (AllByRecursion IsHigh) bracket (unfinished_high v (λ e. cc (e, bracket)) h)).0 in
      omega (arith, high.0)

  no_mark : BeginsExtended reading v → ⊥
  no_mark h =
      let c = completed_mark v (mark_from_unfinished reading v h) in
      let shape = mark_shape (v ++ c.0) c.2 in
      let first : ◌≡◌ {A = ℕ} 27 91 = cc (shape.2, ap (λ x. x ++ c.0) bracket) in omega arith

  usual_after : (f : Bool) → IsUsual reading v f
  usual_after f = record {
    none = λ h. let first : ◌≡◌ {A = ℕ} 27 91 = cc ((starts_shape reading v h).2, bracket) in omega arith;
    closed = λ h. ⊎_elim (λ port. ⊎_elim no_sequence no_character port) no_mark h.beginning;
  }

-- a paste with its end stands, and leaves what follows
stands : (reading : Reading) (body rest : List ℕ) (f : Bool) → EndsFirst body
    → Stands reading (START ++ (body ++ END ++ rest)) f rest (Paste (utf8_lossy body))
stands reading body rest f first =
    let u : List ℕ = START ++ (body ++ END ++ rest) in
    let b : Begins START u = (body ++ END ++ rest, refl) in
    usual (START ++ body ++ END) rest (PortsPaste (utf8_lossy body)) (paste_stands body rest f first) refl (usual_start reading u f b)
    (λ v split. usual_after reading u v b split f)

pub paste_then : (reading : Reading) (body rest W : List ℕ) (E : List Event) (f : Bool) → EndsFirst body → Means reading rest f E W
    → Means reading (START ++ (body ++ END ++ rest)) f (Paste (utf8_lossy body) ∷ E) W
paste_then reading body rest W E f first means =
    record { steps = (rest, stands reading body rest f first, means.steps); rest = means.rest }

-- and is the first event
paste_first : (reading : Reading) (body rest W : List ℕ) (e : Event) (E : List Event) (f : Bool) → EndsFirst body
    → Means reading (START ++ (body ++ END ++ rest)) f (e ∷ E) W
    → (e ≡ Paste (utf8_lossy body)) × Means reading rest f E W
paste_first reading body rest W e E f first means = go means.steps
  where
    go : (left : List ℕ) × Stands reading (START ++ (body ++ END ++ rest)) f left e × Steps (after_event reading e) left f E W
        → (e ≡ Paste (utf8_lossy body)) × Means reading rest f E W
    go (left, here, steps) =
        let once = stands_once reading (START ++ (body ++ END ++ rest)) f left rest e (Paste (utf8_lossy body)) here
        (stands reading body rest f first) in
        let same : after_event reading e ≡ reading = ap (λ x. after_event reading x) once.1 in (
          once.1,
          record {
            steps = subst (λ x. Steps reading x f E W) once.0 (subst (λ r. Steps r left f E W) same steps);
            rest = subst (λ r. IsRest (after_events r E) W f) same means.rest;
          },
        )

-- nothing stands at an open paste
open_rests : (reading : Reading) (body : List ℕ) (f : Bool) → ¬ Occurs END body → IsRest reading (START ++ body) f
open_rests reading body f free left event (extra text left2 e is split) =
    none_begins reading (START ++ body) (body, refl) (inl (record { text = text; event = e; is_extra = is; begins = (left2, split) }))
open_rests reading body f free left event (alt_key text left2 e is bare split) =
    (usual_after reading (START ++ body) (text ++ left2) (body, refl) split f).none (starts_with reading text left2 e is)
open_rests reading body f free left event (lone_escape v split after) =
    (usual_after reading (START ++ body) v (body, refl) split f).none (apart_starts reading v after)
open_rests reading body f free left event (string kind head bytes after left2 e reads is comes) =
    none_begins reading (START ++ body) (body, refl) (inr (reads, string_opening (START ++ body) kind head bytes after is))
open_rests reading body f free left event (usual s left2 e here split is gap) =
    endless_rests (START ++ body) f start (start_head (START ++ body) (body, refl)) body refl free s e here

open_means : (reading : Reading) (body : List ℕ) (f : Bool) → ¬ Occurs END body → Means reading (START ++ body) f [] (START ++ body)
open_means reading body f free = record { steps = refl; rest = open_rests reading body f free }

pub parts_join : PartsJoin
parts_join reading u decided held c f parted =
    (λ there. at_end (comes_after decided held c parted.endless parted.is_held there), λ free. none free)
  where
    whole : u ++ c ≡ START ++ (decided ++ held ++ c)
    whole = ap (λ x. x ++ c) parted.splits

    none : ¬ Occurs END (decided ++ held ++ c) → StayOpen reading (u ++ c) (START ++ held ++ c) f
    none free = record {
      whole_waits = subst (λ x. Means reading x f [] x) (sym whole) (open_means reading (decided ++ held ++ c) f free);
      left_waits = open_means reading (held ++ c) f (no_end_left decided held c free);
      whole_open = record { body = decided ++ held ++ c; splits = whole; endless = free };
      left_open = record { body = held ++ c; splits = refl; endless = no_end_left decided held c free };
    }

    at_end : ComesAfter decided held c → JoinsAtEnd reading (u ++ c) (START ++ held ++ c) (utf8_lossy decided) f
    at_end at = (λ s E R. (forth s E R, back s E R), some)
      where
        here : u ++ c ≡ START ++ (decided ++ at.inner ++ END ++ at.rest)
        here = whole ∙ ap (λ x. START ++ x) at.whole_splits

        left : START ++ held ++ c ≡ START ++ (at.inner ++ END ++ at.rest)
        left = ap (λ x. START ++ x) at.left_splits

        then : (R : List ℕ) (E : List Event) → Means reading at.rest f E R
            → Means reading (START ++ held ++ c) f (Paste (utf8_lossy at.inner) ∷ E) R
        then R E means = subst (λ x. Means reading x f (Paste (utf8_lossy at.inner) ∷ E) R) (sym left)
            (paste_then reading at.inner at.rest R E f at.left_first means)

        forth : (s : List ℕ) (E : List Event) (R : List ℕ) → Means reading (u ++ c) f (Paste s ∷ E) R
            → (later : List ℕ) × (s ≡ utf8_lossy decided ++ later) × Means reading (START ++ held ++ c) f (Paste later ∷ E) R
        forth s E R means =
            let got = paste_first reading (decided ++ at.inner) at.rest R (Paste s) E f at.whole_first
            (subst (λ x. Means reading x f (Paste s ∷ E) R) here means) in
            let text : s ≡ utf8_lossy (decided ++ at.inner) = cc (got.0) in
            (utf8_lossy at.inner, text ∙ at.text, then R E got.1)

        back : (s : List ℕ) (E : List Event) (R : List ℕ)
            → ((later : List ℕ) × (s ≡ utf8_lossy decided ++ later) × Means reading (START ++ held ++ c) f (Paste later ∷ E) R)
            → Means reading (u ++ c) f (Paste s ∷ E) R
        back s E R (later, text, means) =
            let got = paste_first reading at.inner at.rest R (Paste later) E f at.left_first
            (subst (λ x. Means reading x f (Paste later ∷ E) R) left means) in
            let same : later ≡ utf8_lossy at.inner = cc (got.0) in
            let all : s ≡ utf8_lossy (decided ++ at.inner) = text ∙ ap (λ x. utf8_lossy decided ++ x) same ∙ sym at.text in
            subst (λ x. Means reading x f (Paste s ∷ E) R) (sym here)
            (subst (λ x. Means reading (START ++ (decided ++ at.inner ++ END ++ at.rest)) f (Paste x ∷ E) R) (sym all)
            (paste_then reading (decided ++ at.inner) at.rest R E f at.whole_first got.1))

        some : (later : List ℕ) × (E : List Event) × (R : List ℕ)
            × Means reading (START ++ held ++ c) f (Paste later ∷ E) R
        some = (let m = one_meaning reading at.rest f in (utf8_lossy at.inner, m.0, m.1, then m.1 m.0 m.2))
