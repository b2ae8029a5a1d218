-- Which texts are known, open or rests doesn't depend on the open questions, nor on what the bytes 8, 10 and 127 are.
use Rattle.std.proofs.Common.{◌≡◌, ◌≢◌, inl, inr, ⊎_elim, ℕ, Bool, List, [], ◌∷◌, ◌++◌, refl, sym, ap, ap₂, ◌∙◌, subst, append_assoc, arith}
use Rattle.std.specs.List.{AllByRecursion}
use Rattle.termwiz_keymap.proofs.lemmas.lists.CommonPrefixes.{append-some}
use Rattle.termwiz_keys.specs.Introducers.{ESC, START}
use Rattle.termwiz_grammar.specs.Sequences.{Meaning, IsSequence}
use Rattle.termwiz_grammar.specs.Grammar as port
use Rattle.termwiz_grammar.specs.Laws as portlaws
use Rattle.termwiz_grammar.specs.Laws.Waits.{nothing, open_paste, undecided}
use Rattle.termwiz_grammar.proofs.lemmas.characters.CharacterPrefixes.{IsHigh, unfinished_high}
use Rattle.termwiz_grammar.proofs.lemmas.table.SequenceFacts.{sequence_or_not}
use Rattle.termwiz_grammar.proofs.lemmas.items.ItemStable.{item_begins}
use Rattle.termwiz_grammar.proofs.lemmas.waiting.RestShape.{Settled, settle}
use Rattle.termwiz_grammar.proofs.lemmas.waiting.RestShape.Settled.{standing, resting}
use Rattle.termwiz_extended_events.specs.declared.types.Event.{Event}
use Rattle.termwiz_extended_events.specs.PortEvents.{told}
use Rattle.termwiz_extended_events.specs.declared.types.Reading.{Reading}
use Rattle.termwiz_extended_grammar.specs.ExtraSequences.{IsExtra}
use Rattle.termwiz_extended_grammar.specs.Readings.{event_in}
use Rattle.termwiz_extended_grammar.specs.ExtendedGrammar.{StartsExtended, BeginsKnown, IsOpen, IsUsual, HasItem, IsRest, Stands, escape_event}
use Rattle.termwiz_extended_grammar.specs.ExtendedGrammar.Stands.{extra, alt_key, lone_escape, string, usual}
use Rattle.termwiz_extended_grammar.specs.ExtendedLaws.{IsKnown, QuestionsMoveNothing}
use Rattle.termwiz_extended_grammar.proofs.lemmas.forms.FormBytes.{IsMark, mark_shape}
use Rattle.termwiz_extended_grammar.proofs.lemmas.forms.FormEnds.{mark_ends, sequence_after_mark}
use Rattle.termwiz_extended_grammar.proofs.lemmas.forms.ExtraFacts.{completed_mark, free_from_none, mark_from_unfinished, start_form, starts_extended_or_not, unfinished_from_form}
use Rattle.termwiz_extended_grammar.proofs.lemmas.items.StringItems.{mark_once}
use Rattle.termwiz_extended_grammar.proofs.lemmas.items.ExtendedItems.{extra_or_opening, second_not_escape, starts_shape}
use Rattle.termwiz_extended_grammar.proofs.lemmas.items.ExtendedRests.{before_extended}
use Rattle.termwiz_extended_grammar.proofs.lemmas.cuts.BeforeEscape.{escape_comes_first}
use Rattle.termwiz_extended_grammar.proofs.lemmas.cuts.PartsOfPastes.{start_not_extra}
use Rattle.termwiz_extended_grammar.proofs.lemmas.cuts.SameAsPort.{plain_after}

-- the other reading, if it has the same dialect and reads X10 mouse reports as this one does
abbrev alike : Reading → Reading → Reading
alike reading other = record other { dialect = reading.dialect; x10_mouse = reading.x10_mouse }

known_too : (reading other : Reading) (u : List ℕ) → IsKnown reading u → IsKnown (alike reading other) u
known_too reading other u (inl known) = inl known
known_too reading other u (inr (e, is)) = ⊎_elim
    (λ (known : (m : Meaning) × IsSequence u m). inl known)
    (λ (none : ((m : Meaning) × IsSequence u m) → ⊥). inr (
      event_in (alike reading other) u,
      record {
        reads = is.reads;
        is_form = is.is_form;
        is_free = free_from_none (alike reading other) u (λ m it. none (m, it));
        means = refl;
      },
    ))
    (sequence_or_not u)

begins_too : (reading other : Reading) (u : List ℕ) → BeginsKnown reading u → BeginsKnown (alike reading other) u
begins_too reading other u (inl h) = inl h
begins_too reading other u (inr (inl h)) = inr (inl (unfinished_from_form (alike reading other) u h.is_extra.reads (record {
  tail = h.tail;
  longer = h.longer;
  is_form = h.is_extra.is_form;
})))
begins_too reading other u (inr (inr o)) = inr (inr o)

open_too : (reading other : Reading) (u : List ℕ) (f : Bool) → IsOpen reading u f → IsOpen (alike reading other) u f
open_too reading other u f h =
    record { more_comes = h.more_comes; some = h.some; beginning = begins_too reading other u h.beginning }

-- what begins with ESC begins no character
escape_no_character : (u t : List ℕ) → u ≡ 27 ∷ t → port.IsUnfinishedCharacter u → ⊥
escape_no_character u t e h =
    let high : IsHigh 27 = (subst (AllByRecursion IsHigh) e (unfinished_high u (λ k. cc (e, k)) h)).0 in omega (arith, high.0)

-- what a mark begins properly begins nothing that is known
mark_begins_none : (reading : Reading) (u text left : List ℕ) → IsMark reading.x10_mouse text → u ≡ text ++ left → BeginsKnown reading u → ⊥
mark_begins_none reading u text left mark e (inl (inl h)) = append-some left h.tail h.longer
    (sequence_after_mark text (left ++ h.tail) h.meaning mark
    (subst (λ z. IsSequence z h.meaning) (ap (λ z. z ++ h.tail) e ∙ append_assoc text left h.tail) h.is_sequence))
mark_begins_none reading u text left mark e (inl (inr h)) =
    let s = mark_shape text mark in
    escape_no_character u (s.0 ∷ s.1 ++ left) (e ∙ ap (λ z. z ++ left) s.2) h
mark_begins_none reading u text left mark e (inr h) =
    let c = completed_mark u (mark_from_unfinished reading u h) in
    append-some left c.0 c.1 (mark_ends text (left ++ c.0) mark
    (subst (λ z. IsMark reading.x10_mouse z) (ap (λ z. z ++ c.0) e ∙ append_assoc text left c.0) c.2))

-- nor does what begins with two ESC
escapes_begin_none : (reading : Reading) (u t : List ℕ) → u ≡ 27 ∷ 27 ∷ t → BeginsKnown reading u → ⊥
escapes_begin_none reading u t e (inl (inl h)) = escape_comes_first ESC (t ++ h.tail) h.meaning (λ k. cc (k))
    (subst (λ z. IsSequence z h.meaning) (ap (λ z. z ++ h.tail) e) h.is_sequence)
escapes_begin_none reading u t e (inl (inr h)) = escape_no_character u (27 ∷ t) e h
escapes_begin_none reading u t e (inr h) =
    let c = completed_mark u (mark_from_unfinished reading u h) in
    let s = mark_shape (u ++ c.0) c.2 in
    second_not_escape s.0 s.4 (let same : s.0 ≡ 27 = cc (s.2, ap (λ z. z ++ c.0) e) in same)

-- an item of the port stands where neither a text nor what follows its ESC is open, and no paste starts
port_stands : (reading : Reading) (u : List ℕ) (f : Bool) → u ≢ [] → ((body : List ℕ) → u ≢ START ++ body) → IsUsual reading u f
    → ((v : List ℕ) → u ≡ ESC ++ v → IsUsual reading v f) → (left : List ℕ) × (event : Event) × Stands reading u f left event
port_stands reading u f some no_start is after = go (settle u f)
  where
    never : portlaws.Waits u f → ⊥
    never (nothing e) = some e
    never (open_paste body e free) = no_start body e
    never (undecided held bytes (inl none) e n b short m) = is.closed (record {
      more_comes = m;
      some = some;
      beginning = inl (subst port.IsBeginning (sym (e ∙ ap (λ z. z ++ bytes) none)) b);
    })
    never (undecided held bytes (inr single) e n b short m) =
        (after bytes (e ∙ ap (λ z. z ++ bytes) single)).closed (record { more_comes = m; some = n; beginning = inl b })

    go : Settled u f → (left : List ℕ) × (event : Event) × Stands reading u f left event
    go (standing bytes event stands) =
        let b = item_begins u bytes event f stands.item in
        (b.0, told reading bytes event, usual bytes b.0 event stands b.1 is after)
    go (resting rest w) = absurd (never w)

module _ (reading other : Reading) (u : List ℕ) (f : Bool) (rest : IsRest reading u f) where
  -- what is an extra sequence to the other reading alone is a row, at which the port's item stands
  row_stands : (text left : List ℕ) (event : Event) → IsExtra (alike reading other) text event → u ≡ text ++ left
      → ¬ StartsExtended reading u → (m : Meaning) → IsSequence text m → ⊥
  row_stands text left event is split none m row =
      let shape = mark_shape text (inl is.is_form) in
      let whole : u ≡ 27 ∷ shape.0 ∷ (shape.1 ++ left) = split ∙ ap (λ z. z ++ left) shape.2 in
      let item = port_stands reading u f (λ e. cc (whole, e)) no_start (record { none = none; closed = closed })
      (λ v e. plain_after reading u v text m f row (left, split) longer e) in
      rest item.0 item.1 item.2
    where
      closed : ¬ IsOpen reading u f
      closed h = mark_begins_none reading u text left (inl is.is_form) split h.beginning

      longer : text ≡ ESC → ⊥
      longer e = (let shape = mark_shape text (inl is.is_form) in cc (shape.2, e))

      no_start : (body : List ℕ) → u ≢ START ++ body
      no_start body e =
          let same : text ≡ START = mark_once u text START (inl is.is_form) (inl start_form) (left, split) (body, e) in
          start_not_extra (alike reading other) event (subst (λ z. IsExtra (alike reading other) z event) same is)

  -- after an ESC too
  row_stands_after : (v text left : List ℕ) (event : Event) → u ≡ ESC ++ v → IsExtra (alike reading other) text event
      → v ≡ text ++ left → ⊥
  row_stands_after v text left event before is split = ⊎_elim
      (λ (h : StartsExtended reading v). joined (before_extended reading v f h))
      (λ (none : ¬ StartsExtended reading v).
      let item = port_stands reading u f (λ e. cc (whole, e)) no_start (record { none = no_extended; closed = closed })
      (λ w e. subst (λ z. IsUsual reading z f) (let same : v ≡ w = cc (before, e) in same)
      (record { none = none; closed = λ h. mark_begins_none reading v text left (inl is.is_form) split h.beginning })) in
      rest item.0 item.1 item.2)
      (starts_extended_or_not reading v)
    where
      shape : (b : ℕ) × (r : List ℕ) × (text ≡ 27 ∷ b ∷ r)
      shape = (let s = mark_shape text (inl is.is_form) in (s.0, s.1, s.2))

      whole : u ≡ 27 ∷ 27 ∷ (shape.0 ∷ shape.1 ++ left)
      whole = before ∙ ap (λ z. 27 ∷ z) (split ∙ ap (λ z. z ++ left) shape.2)

      joined : HasItem reading (ESC ++ v) f → ⊥
      joined item = rest item.0 item.1 (subst (λ z. Stands reading z f item.0 item.1) (sym before) item.2)

      no_extended : StartsExtended reading u → ⊥
      no_extended h = (let s = starts_shape reading u h in second_not_escape s.0 s.3 (let same : s.0 ≡ 27 = cc (s.2, whole) in same))

      closed : ¬ IsOpen reading u f
      closed h = escapes_begin_none reading u (shape.0 ∷ shape.1 ++ left) whole h.beginning

      no_start : (body : List ℕ) → u ≢ START ++ body
      no_start body e = (let same : ◌≡◌ {A = ℕ} 27 91 = cc (whole, e) in omega arith)

  -- what begins with an extra sequence to the other reading alone
  starts_none : StartsExtended (alike reading other) u → ¬ StartsExtended reading u → ⊥
  starts_none (inl h) none = ⊎_elim
      (λ (known : (m : Meaning) × IsSequence h.text m). row_stands h.text h.begins.0 h.event h.is_extra h.begins.1 none known.0 known.1)
      (λ (free : ((m : Meaning) × IsSequence h.text m) → ⊥). none (inl (record {
        text = h.text;
        event = event_in reading h.text;
        is_extra = record {
          reads = h.is_extra.reads;
          is_form = h.is_extra.is_form;
          is_free = free_from_none reading h.text (λ m is. free (m, is));
          means = refl;
        };
        begins = h.begins;
      })))
      (sequence_or_not h.text)
  starts_none (inr o) none = none (inr o)

  -- what stands to the other reading alone
  nothing_stands : (left : List ℕ) (event : Event) → Stands (alike reading other) u f left event → ⊥
  nothing_stands left event (extra text left2 e is split) = ⊎_elim
      (λ (h : StartsExtended reading u). at_start h)
      (λ (none : ¬ StartsExtended reading u).
      starts_none (inl (record { text = text; event = e; is_extra = is; begins = (left2, split) })) none)
      (starts_extended_or_not reading u)
    where
      at_start : StartsExtended reading u → ⊥
      at_start (inl h) = rest h.begins.0 h.event (extra h.text h.begins.0 h.event h.is_extra h.begins.1)
      at_start (inr (reads, o)) = extra_or_opening (alike reading other) u
          (record { text = text; event = e; is_extra = is; begins = (left2, split) }) o
  nothing_stands left event (alt_key text left2 e is bare split) = row_stands_after (text ++ left2) text left2 e split is refl
  nothing_stands left event (lone_escape v split (inl h)) = row_stands_after v h.text h.begins.0 h.event split h.is_extra h.begins.1
  nothing_stands left event (lone_escape v split (inr o)) = rest v escape_event (lone_escape v split (inr o))
  nothing_stands left event (string kind head bytes after left2 e reads is comes) = rest left e (string kind head bytes after left e reads is comes)
  nothing_stands left event (usual bytes left2 e stands split is gap) = ⊎_elim
      (λ (h : StartsExtended reading u). at_start h)
      (λ (none : ¬ StartsExtended reading u). rest left (told reading bytes e) (usual bytes left e stands split
      (record { none = none; closed = λ h. is.closed (open_too reading other u f h) }) after))
      (starts_extended_or_not reading u)
    where
      at_start : StartsExtended reading u → ⊥
      at_start (inl h) = rest h.begins.0 h.event (extra h.text h.begins.0 h.event h.is_extra h.begins.1)
      at_start (inr o) = is.none (inr o)

      after : (v : List ℕ) → u ≡ ESC ++ v → IsUsual reading v f
      after v e = record {
        none = λ h. (let item = before_extended reading v f h in
            rest item.0 item.1 (subst (λ z. Stands reading z f item.0 item.1) (sym e) item.2));
        closed = λ h. (gap v e).closed (open_too reading other v f h);
      }

pub questions_move_nothing : QuestionsMoveNothing
questions_move_nothing reading other u f dialect x10_mouse = (
  λ known. subst (λ r. IsKnown r u) same (known_too reading other u known),
  λ is. subst (λ r. IsOpen r u f) same (open_too reading other u f is),
  λ rest. subst (λ r. IsRest r u f) same (nothing_stands reading other u f rest),
)
  where
    same : alike reading other ≡ other
    same = ap₂ (λ d x. record other { dialect = d; x10_mouse = x }) dialect x10_mouse
