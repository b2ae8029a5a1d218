-- No pause within the limits matters.
use Rattle.std.proofs.Common.{◌≡◌, ℕ, Bool, true, false, List, [], ◌∷◌, ◌++◌, append_assoc, append-nil, if◌then◌else◌, refl, sym, ap, ◌∙◌, subst}
use Rattle.std.specs.List.{AllByRecursion}
use Rattle.termwiz_extended_events.specs.declared.types.Dialect.{Dialect}
use Rattle.termwiz_extended_events.specs.declared.types.Event.{Event}
use Rattle.termwiz_extended_events.specs.declared.types.Reading.{Reading}
use Rattle.termwiz_extended_grammar.specs.ExtendedGrammar.{IsRest, Means}
use Rattle.termwiz_extended_grammar.specs.Readings.{after_events}
use Rattle.termwiz_extended_grammar.proofs.lemmas.cuts.ExtendedCuts.{cut_independent}
use Rattle.termwiz_timed.specs.Timed.{Timed, new_timed}
use Rattle.termwiz_timed.specs.Steps.{Call, Idles, Step}
use Rattle.termwiz_timed.specs.Steps.Call.{AllTold, End, ExpectPosition, Feed, Flush, ForgetPositions, Idle, Interrupted, Refused, Reset, SetParts, SetPolicy, SetReading, SkipPaste, Told}
use Rattle.termwiz_timed.specs.Runs.{IsRun, Moment, bytes_in, bytes_of, last_of, told_of}
use Rattle.termwiz_timed.specs.RunLaws.{AreInTime, IsInTime, NoPauseMatters, Waits}
use Rattle.termwiz_timed.specs.Segments.{IsAsGoodAs, IsSegment, Read, ReadsInTurn, SetsNothing, joined, parts_left, read_in, reads_of}
use Rattle.termwiz_timed.specs.Segments.Read.{Bytes, NoMore, Over}
use Rattle.termwiz_timed.proofs.lemmas.ExactSegments.{last_after, run_after, segment_outcome, unflushed_read}
use Rattle.termwiz_timed.proofs.lemmas.DueInTime.{passed_overdue}
use Rattle.termwiz_timed.proofs.lemmas.RunAges.{run_aged, run_open}
use Rattle.termwiz_timed.proofs.lemmas.RunRests.{new_rests, run_rests}

-- these reads are of these bytes, with more to come
abbrev AreBytes : List Read → List ℕ → Type 0
AreBytes [] bytes = bytes ≡ []
AreBytes (Bytes first ∷ reads) bytes = (rest : List ℕ) × (bytes ≡ first ++ rest) × AreBytes reads rest
AreBytes (NoMore ∷ reads) bytes = ⊥
AreBytes (Over ∷ reads) bytes = ⊥

bytes_then : (reads others : List Read) (bytes rest : List ℕ) → AreBytes reads bytes → AreBytes others rest → AreBytes (reads ++ others) (bytes ++ rest)
bytes_then [] others bytes rest none are = subst (λ b. AreBytes others (b ++ rest)) (sym none) are
bytes_then (Bytes first ∷ reads) others bytes rest (later, e, are) also =
    (later ++ rest, ap (λ b. b ++ rest) e ∙ append_assoc first later rest, bytes_then reads others later rest are also)
bytes_then (NoMore ∷ reads) others bytes rest never also = absurd never
bytes_then (Over ∷ reads) others bytes rest never also = absurd never

-- such reads are one text
bytes_are_one : (reading : Reading) (reads : List Read) (text bytes left : List ℕ) (E : List Event) → IsRest reading text true
    → AreBytes reads bytes → ReadsInTurn reading text reads E left → Means reading (text ++ bytes) true E left
bytes_are_one reading [] text bytes left E rest none (no_events, stays) =
    subst (λ b. Means reading (text ++ b) true E left) (sym none)
    (subst (λ (e : List Event). Means reading (text ++ []) true e left) (sym no_events)
    (record { steps = append-nil text ∙ stays; rest = subst (λ u. IsRest reading u true) stays rest }))
bytes_are_one reading (Bytes first ∷ reads) text bytes left E rest (more, e, are) (D, later, between, all, means, next) =
    let others = bytes_are_one (after_events reading D) reads between more left later means.rest are next in
    let whole = cut_independent reading (text ++ first) more between left D later true means others in
    subst (λ b. Means reading (text ++ b) true E left) (sym e)
    (subst (λ u. Means reading u true E left) (append_assoc text first more)
    (subst (λ (x : List Event). Means reading ((text ++ first) ++ more) true x left) (sym all) whole))
bytes_are_one reading (NoMore ∷ reads) text bytes left E rest never run = absurd never
bytes_are_one reading (Over ∷ reads) text bytes left E rest never run = absurd never

-- what was buffered is read first
first_bytes : (reading : Reading) (reads : List Read) (text bytes left : List ℕ) (E : List Event) → AreBytes reads bytes
    → ReadsInTurn reading text (Bytes [] ∷ reads) E left → Means reading (text ++ bytes) true E left
first_bytes reading reads text bytes left E are (D, later, between, all, means, next) =
    let others = bytes_are_one (after_events reading D) reads between bytes left later means.rest are next in
    let whole = cut_independent reading (text ++ []) bytes between left D later true means others in
    subst (λ u. Means reading (u ++ bytes) true E left) (append-nil text)
    (subst (λ (x : List Event). Means reading ((text ++ []) ++ bytes) true x left) (sym all) whole)

-- a call that waits sets nothing
waits_sets : (call : Call) → Waits call → SetsNothing call
waits_sets (Feed now bytes) waits = tt
waits_sets (Told event) waits = tt
waits_sets AllTold waits = tt
waits_sets (Idle now due) waits = tt
waits_sets Refused waits = tt
waits_sets Flush waits = absurd waits
waits_sets End waits = absurd waits
waits_sets (Interrupted now) waits = absurd waits
waits_sets (SetPolicy policy) waits = absurd waits
waits_sets (SetReading reading) waits = absurd waits
waits_sets ExpectPosition waits = absurd waits
waits_sets ForgetPositions waits = absurd waits
waits_sets (SetParts limit) waits = absurd waits
waits_sets SkipPaste waits = absurd waits
waits_sets Reset waits = absurd waits

all_set_nothing : (segment : List Moment) → AllByRecursion (λ (moment : Moment). Waits moment.call) segment → IsSegment segment
all_set_nothing [] all = tt
all_set_nothing (moment ∷ earlier) (waits, others) = (waits_sets moment.call waits, all_set_nothing earlier others)

-- an idle call in time isn't due
idle_bytes : (due : Bool) → ¬ (due ≡ true) → AreBytes (if due then Over ∷ [] else []) []
idle_bytes true not = absurd (not refl)
idle_bytes false not = refl

module _ (start : Timed) (dialect : Dialect) (is_new : start ≡ new_timed dialect) where
  not_due : (moments : List Moment) (now : ℕ) (due : Bool) (after : Timed) → IsRun start moments → IsInTime start moments (Idle now due)
      → Idles (last_of start moments) now due after → ¬ (due ≡ true)
  not_due moments now due after run in_time idles is =
      let aged = run_aged start moments (ap (λ (p : Timed). p.ages) is_new) run in
      let known = run_open start moments (ap (λ (p : Timed). p.interrupted) is_new) run in
      in_time idles.limit idles.limited (passed_overdue start moments now aged known idles.limit (idles.is_due.0 is).1)

  call_bytes : (moments : List Moment) (call : Call) (after : Timed) → IsRun start moments → Waits call → IsInTime start moments call
      → Step (last_of start moments) call after → AreBytes (read_in call) (bytes_in call)
  call_bytes moments (Feed now bytes) after run waits in_time step = ([], sym (append-nil bytes), refl)
  call_bytes moments (Told event) after run waits in_time step = refl
  call_bytes moments AllTold after run waits in_time step = refl
  call_bytes moments (Idle now due) after run waits in_time step = idle_bytes due (not_due moments now due after run in_time step)
  call_bytes moments Refused after run waits in_time step = refl
  call_bytes moments Flush after run waits in_time step = absurd waits
  call_bytes moments End after run waits in_time step = absurd waits
  call_bytes moments (Interrupted now) after run waits in_time step = absurd waits
  call_bytes moments (SetPolicy policy) after run waits in_time step = absurd waits
  call_bytes moments (SetReading reading) after run waits in_time step = absurd waits
  call_bytes moments ExpectPosition after run waits in_time step = absurd waits
  call_bytes moments ForgetPositions after run waits in_time step = absurd waits
  call_bytes moments (SetParts limit) after run waits in_time step = absurd waits
  call_bytes moments SkipPaste after run waits in_time step = absurd waits
  call_bytes moments Reset after run waits in_time step = absurd waits

  segment_bytes : (before segment : List Moment) → IsRun start (segment ++ before)
      → AllByRecursion (λ (moment : Moment). Waits moment.call) segment → AreInTime start before segment
      → AreBytes (reads_of segment) (bytes_of segment)
  segment_bytes before [] run all in_time = refl
  segment_bytes before (moment ∷ earlier) (run, step) (waits, others) (all_in_time, in_time) =
      bytes_then (reads_of earlier) (read_in moment.call) (bytes_of earlier) (bytes_in moment.call)
      (segment_bytes before earlier run others all_in_time)
      (call_bytes (earlier ++ before) moment.call moment.after run waits in_time step)

pub no_pause_matters : NoPauseMatters
no_pause_matters dialect before segment run all unflushed in_time at =
    let start = new_timed dialect in
    let first = last_of start before in
    let both = run_after start segment before run in
    let rests = run_rests start before (new_rests dialect) both.0 in
    let e = last_after start segment before in
    let out = segment_outcome first segment rests both.1 (all_set_nothing segment all) (ap (λ (p : Timed). p.stage) (sym e) ∙ at) in
    record {
      left = out.left;
      means = first_bytes first.reading (reads_of segment) first.text (bytes_of segment) out.left (joined [] (told_of segment))
          (segment_bytes start dialect refl before segment run all in_time)
          (subst (λ (f : Read). ReadsInTurn first.reading first.text (f ∷ reads_of segment) (joined [] (told_of segment)) out.left)
          (unflushed_read first.stage unflushed) out.in_turn);
      buffered = subst (λ (p : Timed). IsAsGoodAs p.reading (parts_left [] (told_of segment)) p.text out.left) (sym e) out.buffered;
    }
