-- What a refused call and the call that goes on came to.
use Rattle.std.proofs.Common.{◌≡◌, ◌≢◌, ◌∙◌, ◌≤◌, ◌-◌, ◌==◌, ◌++◌, ℕ, zero, suc, List, [], ◌∷◌, Some, true, false, length, take, drop, sym, ap, subst, arith, append-nil, append_assoc, take-append-drop, ⊎_elim}
use Rattle.std.proofs.lemmas.Bool.Decides.{eqb_tells}
use Rattle.std.proofs.lemmas.List.{take_all, drop_all, take_rest, drop-map, length-map}
use Rattle.std.proofs.lemmas.List.Concat.{flat_map-append}
use denote.Ref.{Bor}
use Rattle.termwiz_input.specs.InputEvent.{InputEvent}
use Rattle.termwiz_input.specs.Grammar.{Steps, Means}
use Rattle.termwiz_input.specs.Laws as port
use Rattle.termwiz_input.specs.Pieces.{AreNumbered, NumberedEvent, ReadsFirst, events_of, flag_at, join, pieces_or_one, taken_or_one, texts}
use Rattle.test_calls.specs.declared.parses.Stop.{Stop}
use Rattle.test_calls.specs.declared.parses.PiecesStop.{PiecesStop}
use Rattle.termwiz_extended_events.specs.declared.types.Event.{Event}
use Rattle.termwiz_extended_events.specs.declared.types.Reading.{Reading as ExtendedReading}
use Rattle.termwiz_extended_grammar.specs.ExtendedGrammar as extended
use Rattle.termwiz_extended_grammar.specs.ExtendedLaws as extended_laws
use Rattle.termwiz_extended_grammar.specs.Readings.{after_events}
use Rattle.test_calls.specs.GoingOn.{StopsAt, Describes, GoesOn, GoesOnWithPieces, Reading}

module _ {Event : Type 0} (Items Meaning : Reading Event) (before bytes left waiting : List ℕ) (stop : Stop)
    (tells : Describes left stop.left) where
  -- the same call again, if the bytes weren't buffered
  pub again : (given later : List Event) → stop.taken ≡ false → given ≡ [] → left ≡ before
      → Meaning (left ++ bytes) false later waiting
      → GoesOn Items Meaning before bytes (Some stop) given later waiting
  again given later not_taken none same means = record {
    means = rw none (subst (λ text. Meaning (text ++ bytes) false later waiting) same means);
    at_once = tt;
    stopped =
        (left, subst (λ taken. StopsAt Items before bytes taken given left) (sym not_taken) (none, same), tells);
  }

  -- a call without bytes, if they were
  pub gone_on : (given later : List Event) → stop.taken ≡ true → Items (before ++ bytes) false given left
      → Meaning (before ++ bytes) false (given ++ later) waiting → GoesOn Items Meaning before bytes (Some stop) given later waiting
  gone_on given later taken steps means = record {
    means = means;
    at_once = tt;
    stopped = (left, subst (λ taken. StopsAt Items before bytes taken given left) (sym taken) steps, tells);
  }

  -- the same, where reading that stops between two items may go on
  pub without_bytes
      : ((text middle rest : List ℕ) (E D : List Event) → Items text false E middle → Meaning middle false D rest
      → Meaning text false (E ++ D) rest)
      → (given later : List Event) → stop.taken ≡ true → Items (before ++ bytes) false given left
      → Meaning (left ++ []) false later waiting → GoesOn Items Meaning before bytes (Some stop) given later waiting
  without_bytes resumes given later taken steps means =
      gone_on given later taken steps (resumes (before ++ bytes) left waiting given later steps (rw append-nil at means))

-- the first half of a text's items, and what is left of it, by the laws on the resumption of reading
pub resumes_port : port.Resumes → (text middle rest : List ℕ) (E D : List InputEvent) → Steps text false E middle
    → Means middle false D rest → Means text false (E ++ D) rest
resumes_port resumes text middle rest E D = (resumes text [] middle rest E D false).1

pub resumes_extended : extended_laws.Resumes → (reading : ExtendedReading) (text middle rest : List ℕ) (E D : List Event)
    → extended.Steps reading text false E middle → extended.Means (after_events reading E) middle false D rest
    → extended.Means reading text false (E ++ D) rest
resumes_extended resumes reading text middle rest E D = (resumes reading text [] middle rest E D false).1

-- the first k pieces, which were read so far, and then the others
joined : port.Resumes → (before : List ℕ) (pieces : List (List ℕ)) (k : ℕ) (left waiting : List ℕ) (E D : List InputEvent)
    → k ≤ length pieces
    → Steps (before ++ join (take (taken_or_one pieces k) (pieces_or_one pieces)))
    (flag_at (pieces_or_one pieces) false (taken_or_one pieces k)) E left
    → Means (left ++ join (drop k pieces)) false D waiting → Means (before ++ join pieces) false (E ++ D) waiting
joined resumes before [] zero left waiting E D within steps means =
    (resumes (before ++ []) [] left waiting E D false).1 steps (rw append-nil at means)
joined resumes before [] (suc k) left waiting E D within steps means = absurd (omega (arith, within))
joined resumes before (piece ∷ pieces) k left waiting E D within steps means =
    ⊎_elim last earlier (eqb_tells k (length all))
  where
    all : List (List ℕ)
    all = piece ∷ pieces

    last : ((k == length all) ≡ true) × (k ≡ length all) → Means (before ++ join all) false (E ++ D) waiting
    last same =
        let taken : take k all ≡ all = take_all k all (omega (arith, same.1)) in
        let none : drop k all ≡ [] = drop_all k all (omega (arith, same.1)) in
        (resumes (before ++ join all) [] left waiting E D false).1 (rw (taken, same.0) at steps)
        (rw (none, append-nil left) at means)

    earlier : ((k == length all) ≡ false) × (k ≢ length all) → Means (before ++ join all) false (E ++ D) waiting
    earlier other =
        let whole : (before ++ join (take k all)) ++ join (drop k all) ≡ before ++ join all =
        append_assoc before (join (take k all)) (join (drop k all)) ∙ ap (λ l. before ++ l)
        (sym (flat_map-append (λ (p : List ℕ). p) (take k all) (drop k all)) ∙ ap join (take-append-drop k all)) in
        subst (λ text. Means text false (E ++ D) waiting) whole
        ((resumes (before ++ join (take k all)) (join (drop k all)) left waiting E D false).0
        (rw other.0 at steps) means)

-- the pieces from the first on that wasn't buffered
pub others_given : port.Resumes → (before : List ℕ) (pieces : List (Bor (List ℕ))) (stop : PiecesStop)
    (given later : List NumberedEvent) (left waiting : List ℕ)
    → stop.taken ≤ length pieces
    → ReadsFirst before (pieces_or_one (texts pieces)) false (taken_or_one (texts pieces) stop.taken) given left
    → Describes left stop.left
    → Means (left ++ join (texts (take (length pieces - stop.taken) (drop stop.taken pieces)))) false
    (events_of later) waiting
    → AreNumbered left (pieces_or_one (texts (take (length pieces - stop.taken) (drop stop.taken pieces)))) later
    → GoesOnWithPieces before (texts pieces) (Some stop) given later waiting
others_given resumes before pieces stop given later left waiting within reads tells means numbered = record {
  means = joined resumes before (texts pieces) stop.taken left waiting (events_of given) (events_of later)
      (rw length-map within) reads.steps (rw others at means);
  at_once = tt;
  stopped = (left, reads, rw others at numbered, tells);
}
  where
    others : texts (take (length pieces - stop.taken) (drop stop.taken pieces)) ≡ drop stop.taken (texts pieces)
    others = ap texts (take_rest pieces stop.taken) ∙ sym (drop-map (λ (p : Bor (List ℕ)). p.now) stop.taken pieces)
