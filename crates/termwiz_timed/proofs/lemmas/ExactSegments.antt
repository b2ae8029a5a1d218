-- What a segment tells is what its reads say.
use Rattle.std.proofs.Common.{◌≡◌, inl, inr, ℕ, Bool, true, false, List, [], ◌∷◌, ◌++◌, append_assoc, append-nil, if◌then◌else◌, refl, sym, ap, ◌∙◌, subst}
use Rattle.std.specs.Str.Lossy.{utf8_lossy}
use Rattle.termwiz_keys.specs.Introducers.{START, END}
use Rattle.termwiz_grammar.specs.PasteParts.{IsTaken}
use Rattle.termwiz_grammar.specs.WaitingKinds.{IsOpenPaste}
use Rattle.termwiz_extended_events.specs.declared.types.Event.{Event}
use Rattle.termwiz_extended_events.specs.declared.types.Event.TheVariants.{Paste}
use Rattle.termwiz_extended_events.specs.declared.types.Reading.{Reading}
use Rattle.termwiz_extended_grammar.specs.ExtendedGrammar.{IsRest, Means}
use Rattle.termwiz_extended_grammar.specs.Readings.{after_events}
use Rattle.termwiz_extended_grammar.proofs.lemmas.cuts.ExtendedCuts.{after_both}
use Rattle.termwiz_timed.specs.declared.parser.Stage.{Stage}
use Rattle.termwiz_timed.specs.declared.parser.Stage.TheVariants as stage
use Rattle.termwiz_timed.specs.declared.parser.TimedEvent.{TimedEvent}
use Rattle.termwiz_timed.specs.declared.parser.TimedEvent.TheVariants.{PastePart}
use Rattle.termwiz_timed.specs.Timed.{Timed, IsFlushing, flushed, more_comes, new_timed, while_buffered}
use Rattle.termwiz_timed.specs.Steps.{Call, Step, Tells, after_item, after_part}
use Rattle.termwiz_timed.specs.Steps.Call.{AllTold, End, ExpectPosition, Feed, Flush, ForgetPositions, Idle, Interrupted, Refused, Reset, SetParts, SetPolicy, SetReading, SkipPaste, Told}
use Rattle.termwiz_timed.specs.Steps.Tells.{item, part, paste_ended}
use Rattle.termwiz_timed.specs.Runs.{IsRun, Moment, last_of, told_in, told_of}
use Rattle.termwiz_timed.specs.RunLaws.{Exact}
use Rattle.termwiz_timed.specs.Segments.{Ends, IsAsGoodAs, IsSegment, Read, Reads, ReadsInTurn, SetsNothing, first_read, joined, parts_left, read_in, reads_of}
use Rattle.termwiz_timed.specs.Segments.Ends.{closed, in_paste}
use Rattle.termwiz_timed.specs.Segments.IsAsGoodAs.{same, in_parts}
use Rattle.termwiz_timed.specs.Segments.Read.{Bytes, NoMore, Over}
use Rattle.termwiz_timed.proofs.lemmas.ReadsCut.{means_once, nothing_added, rest_means, split_bytes, split_end, split_flush, two_reads}
use Rattle.termwiz_timed.proofs.lemmas.PartsTaken.{grown, joins_now, part_taken, paste_at_end, whole_stays}
use Rattle.termwiz_timed.proofs.lemmas.ExactSteps.{GoesOn, IsOutcome, end_told, item_told, left_out, put_in, rest_only, stage_kept}
use Rattle.termwiz_timed.proofs.lemmas.RunRests.{RestsIfTold, flush_rests, new_rests, run_rests}

-- where nothing stands at what is buffered, nothing stands at the whole
whole_rests : (reading : Reading) (parts text whole : List ℕ) (more : Bool) → IsRest reading text more → IsAsGoodAs reading parts text whole
    → IsRest reading whole more
whole_rests reading parts text whole more rest (same none e) = subst (λ u. IsRest reading u more) e rest
whole_rests reading parts text whole more rest (in_parts taken body at all joins) =
    (whole_stays reading parts whole text more (joins_now reading parts whole text more (joins [] more)) rest).whole_waits.rest

module _ (reading : Reading) (parts text whole : List ℕ) (good : IsAsGoodAs reading parts text whole) (reads : List Read)
    (E : List Event) (W : List ℕ) where
  -- nothing is told
  none_told : (at : Stage) → IsRest reading text (more_comes at) → (at ≡ stage.Ending → ¬ IsOpenPaste text)
      → ReadsInTurn reading whole (Bytes [] ∷ reads) E W → ReadsInTurn reading whole (first_read at ∷ reads) E W
  none_told stage.AllTold rest no_end run = run
  none_told stage.Untold rest no_end run = run
  none_told stage.Flushing rest no_end run =
      let of_whole = whole_rests reading parts text whole false rest good in
      put_in reading whole NoMore reads E W (rest_means reading whole false of_whole)
      (left_out reading whole (Bytes []) reads E W (rest_only reading whole (flush_rests reading whole of_whole)) run)
  none_told stage.Ending rest no_end run =
      let of_whole = whole_rests reading parts text whole false rest good in
      put_in reading whole Over reads E W (closed [] whole (rest_means reading whole false of_whole) (not_open good))
      (left_out reading whole (Bytes []) reads E W (rest_only reading whole (flush_rests reading whole of_whole)) run)
    where
      not_open : IsAsGoodAs reading parts text whole → ¬ IsOpenPaste whole
      not_open (same none e) is = no_end refl (subst IsOpenPaste (sym e) is)
      not_open (in_parts taken body at all joins) is =
          no_end refl (whole_stays reading parts whole text false (joins_now reading parts whole text false (joins [] false)) rest).left_open

  -- where nothing is buffered nothing is flushed
  buffered_kept : (at : Stage) → ReadsInTurn reading whole (first_read (while_buffered text at) ∷ reads) E W
      → ReadsInTurn reading whole (first_read at ∷ reads) E W
  buffered_kept at run = by_text text refl good
    where
      by_text : (u : List ℕ) → text ≡ u → IsAsGoodAs reading parts text whole → ReadsInTurn reading whole (first_read at ∷ reads) E W
      by_text [] none (same no_parts e) =
          let empty : whole ≡ [] = sym e ∙ none in
          let stays : ReadsInTurn reading [] (first_read (while_buffered [] at) ∷ reads) E W =
          subst (λ w. ReadsInTurn reading w (first_read (while_buffered [] at) ∷ reads) E W) empty
          (subst (λ u. ReadsInTurn reading whole (first_read (while_buffered u at) ∷ reads) E W) none run) in
          subst (λ w. ReadsInTurn reading w (first_read at ∷ reads) E W) (sym empty) (stage_kept reading [] at reads E W stays)
      by_text [] none (in_parts taken body begins all joins) = absurd (cc (none, begins))
      by_text (byte ∷ u) some is = subst (λ x. ReadsInTurn reading whole (first_read (while_buffered x at) ∷ reads) E W) some run

-- what a flush leaves is left by the next one
ends_rest : (reading : Reading) (text : List ℕ) (E : List Event) (W : List ℕ) → Ends reading text E W → IsRest (after_events reading E) W false
ends_rest reading text E W (closed events left means not_open) = means.rest
ends_rest reading text E W (in_paste events later between left means is_open end) =
    subst (λ r. IsRest r left false) (sym (after_both reading events later)) end.rest

-- and where all ended, no paste is open
ends_closed : (reading : Reading) (text : List ℕ) (E : List Event) (W : List ℕ) → Ends reading text E W → ¬ IsOpenPaste W
ends_closed reading text E W (closed events left means not_open) is = not_open is
ends_closed reading text E W (in_paste events later between left means is_open end) is =
    let at = paste_at_end (after_events reading events) is_open.body is_open.endless in
    let here = subst (λ t. Means (after_events reading events) (t ++ END) false later left) is_open.splits end in
    let none : left ≡ [] = (means_once (after_events reading events) ((START ++ is_open.body) ++ END) false later
    (Paste (utf8_lossy is_open.body) ∷ []) left [] here at).1 in
    let e = is.splits in cc (none, e)

module _ (reading : Reading) (whole : List ℕ) (reads : List Read) (E : List Event) (W : List ℕ) where
  -- a flush begins
  flush_begins : (at : Stage) → ReadsInTurn reading whole (first_read (flushed at) ∷ reads) E W
      → ReadsInTurn reading whole (first_read at ∷ NoMore ∷ reads) E W
  flush_begins stage.AllTold run = split_flush reading reads E W whole run
  flush_begins stage.Untold run = split_flush reading reads E W whole run
  flush_begins stage.Flushing (D, later, between, all, means, rest) = (
    D,
    later,
    between,
    all,
    means,
    put_in (after_events reading D) between NoMore reads later W (rest_means (after_events reading D) between false means.rest) rest,
  )
  flush_begins stage.Ending (D, later, between, all, ends, rest) = (
    D,
    later,
    between,
    all,
    ends,
    put_in (after_events reading D) between NoMore reads later W
        (rest_means (after_events reading D) between false (ends_rest reading whole D between ends)) rest,
  )

  -- all ends after a flush that began
  end_after_flush : (D later : List Event) (between : List ℕ) → E ≡ D ++ later → Ends reading whole D between
      → ReadsInTurn (after_events reading D) between reads later W → ReadsInTurn reading whole (NoMore ∷ Over ∷ reads) E W
  end_after_flush D later between all (closed events left means not_open) rest = (
    events,
    later,
    left,
    all,
    means,
    put_in (after_events reading events) left Over reads later W
        (closed [] left (rest_means (after_events reading events) left false means.rest) not_open) rest,
  )
  end_after_flush D later between all (in_paste events last at left means is_open end) rest =
      two_reads reading whole at left NoMore Over reads E (events ++ last) events last later W all refl means
      (in_paste [] last at left (rest_means (after_events reading events) at false means.rest) is_open end) rest

  -- all ends
  end_begins : (at : Stage) → ReadsInTurn reading whole (Over ∷ reads) E W → ReadsInTurn reading whole (first_read at ∷ Over ∷ reads) E W
  end_begins stage.AllTold run = split_end reading reads E W whole run
  end_begins stage.Untold run = split_end reading reads E W whole run
  end_begins stage.Flushing (D, later, between, all, ends, rest) = end_after_flush D later between all ends rest
  end_begins stage.Ending (D, later, between, all, ends, rest) = (
    D,
    later,
    between,
    all,
    ends,
    put_in (after_events reading D) between Over reads later W
        (closed [] between (rest_means (after_events reading D) between false (ends_rest reading whole D between ends))
        (ends_closed reading whole D between ends)) rest,
  )

-- where no flush is being told, more may come
pub unflushed_read : (at : Stage) → ¬ IsFlushing at → first_read at ≡ Bytes []
unflushed_read stage.AllTold ready = refl
unflushed_read stage.Untold ready = refl
unflushed_read stage.Flushing ready = absurd (ready (inl refl))
unflushed_read stage.Ending ready = absurd (ready (inr refl))

-- the parser is that
goes_on_same : (new that : Timed) (reads : List Read) (told : List TimedEvent) (last : Timed) → new ≡ that → GoesOn new reads told last
    → GoesOn that reads told last
goes_on_same new that reads told last e later = subst (λ (p : Timed). GoesOn p reads told last) e later

module _ (old new : Timed) (reads : List Read) (told : List TimedEvent) (last : Timed) (later : GoesOn new reads told last) where
  -- what doesn't change what is buffered and how it is read changes nothing
  same_goes_on : new.reading ≡ old.reading → new.text ≡ old.text → new.stage ≡ old.stage → GoesOn old reads told last
  same_goes_on reading text at parts whole good =
      let out = later parts whole (subst (λ t. IsAsGoodAs new.reading parts t whole) (sym text)
      (subst (λ r. IsAsGoodAs r parts old.text whole) (sym reading) good)) in
      record {
        left = out.left;
        in_turn = subst (λ s. ReadsInTurn old.reading whole (first_read s ∷ reads) (joined parts told) out.left) at
            (subst (λ r. ReadsInTurn r whole (first_read new.stage ∷ reads) (joined parts told) out.left) reading out.in_turn);
        buffered = out.buffered;
      }

module _ (old : Timed) (reads : List Read) (told : List TimedEvent) (last : Timed) where
  fed_goes_on : (new : Timed) (bytes : List ℕ) → ¬ IsFlushing old.stage → new.reading ≡ old.reading → new.text ≡ old.text ++ bytes
      → new.stage ≡ stage.Untold → GoesOn new reads told last → GoesOn old (Bytes bytes ∷ reads) told last
  fed_goes_on new bytes ready reading text at later parts whole good =
      let out = later parts (whole ++ bytes) (subst (λ t. IsAsGoodAs new.reading parts t (whole ++ bytes)) (sym text)
      (subst (λ r. IsAsGoodAs r parts (old.text ++ bytes) (whole ++ bytes)) (sym reading)
      (grown old.reading parts old.text whole bytes good))) in
      record {
        left = out.left;
        in_turn = subst (λ (f : Read). ReadsInTurn old.reading whole (f ∷ Bytes bytes ∷ reads) (joined parts told) out.left)
            (sym (unflushed_read old.stage ready))
            (split_bytes old.reading reads (joined parts told) out.left whole bytes
            (subst (λ s. ReadsInTurn old.reading (whole ++ bytes) (first_read s ∷ reads) (joined parts told) out.left) at
            (subst (λ r. ReadsInTurn r (whole ++ bytes) (first_read new.stage ∷ reads) (joined parts told) out.left) reading out.in_turn)));
        buffered = out.buffered;
      }

  all_told_goes_on : IsRest old.reading old.text (more_comes old.stage) → (old.stage ≡ stage.Ending → ¬ IsOpenPaste old.text)
      → GoesOn (record old { stage = stage.AllTold }) reads told last → GoesOn old reads told last
  all_told_goes_on rest no_end later parts whole good =
      let out = later parts whole good in
      record {
        left = out.left;
        in_turn = none_told old.reading parts old.text whole good reads (joined parts told) out.left old.stage rest no_end out.in_turn;
        buffered = out.buffered;
      }

  flush_goes_on : GoesOn (record old { stage = while_buffered old.text (flushed old.stage) }) reads told last
      → GoesOn old (NoMore ∷ reads) told last
  flush_goes_on later parts whole good =
      let out = later parts whole good in
      record {
        left = out.left;
        in_turn = flush_begins old.reading whole reads (joined parts told) out.left old.stage
            (buffered_kept old.reading parts old.text whole good reads (joined parts told) out.left (flushed old.stage) out.in_turn);
        buffered = out.buffered;
      }

  end_goes_on : GoesOn (record old { stage = while_buffered old.text stage.Ending }) reads told last → GoesOn old (Over ∷ reads) told last
  end_goes_on later parts whole good =
      let out = later parts whole good in
      record {
        left = out.left;
        in_turn = end_begins old.reading whole reads (joined parts told) out.left old.stage
            (buffered_kept old.reading parts old.text whole good reads (joined parts told) out.left stage.Ending out.in_turn);
        buffered = out.buffered;
      }

  due_goes_on : GoesOn (record old { stage = stage.Ending }) reads told last → GoesOn old (Over ∷ reads) told last
  due_goes_on later parts whole good =
      let out = later parts whole good in
      record {
        left = out.left;
        in_turn = end_begins old.reading whole reads (joined parts told) out.left old.stage out.in_turn;
        buffered = out.buffered;
      }

  idle_goes_on : (due : Bool) (new : Timed) → new.reading ≡ old.reading → new.text ≡ old.text
      → new.stage ≡ (if due then stage.Ending else old.stage) → GoesOn new reads told last
      → GoesOn old ((if due then Over ∷ [] else []) ++ reads) told last
  idle_goes_on true new reading text at later =
      due_goes_on (same_goes_on (record old { stage = stage.Ending }) new reads told last later reading text at)
  idle_goes_on false new reading text at later = same_goes_on old new reads told last later reading text at

  part_goes_on : (limit : ℕ) (text left : List ℕ) → IsTaken old.text limit text left → GoesOn (after_part old left) reads told last
      → GoesOn old reads (PastePart text ∷ told) last
  part_goes_on limit text left taken later parts whole good =
      let out = later (parts ++ text) whole (part_taken old.reading parts old.text whole limit text left taken good) in
      record { left = out.left; in_turn = out.in_turn; buffered = out.buffered }

tells_goes_on : (old new : Timed) (event : TimedEvent) (reads : List Read) (told : List TimedEvent) (last : Timed) → Tells old event new
    → GoesOn new reads told last → GoesOn old reads (event ∷ told) last
tells_goes_on old new event reads told last (item given left steps) later =
    item_told old (after_item old given left) reads told last given left refl refl refl later steps
tells_goes_on old new event reads told last (part limit text left on taken) later =
    part_goes_on old reads told last limit text left taken later
tells_goes_on old new event reads told last (paste_ended given ends none is) later =
    end_told old (after_item old given []) reads told last given ends is refl refl refl later

step_goes_on : (call : Call) (old new : Timed) (reads : List Read) (told : List TimedEvent) (last : Timed) → SetsNothing call → Step old call new
    → GoesOn new reads told last → GoesOn old (read_in call ++ reads) (told_in call ++ told) last
step_goes_on (Feed now bytes) old new reads told last sets (ready, e) later =
    fed_goes_on old reads told last new bytes ready (ap (λ (p : Timed). p.reading) e) (ap (λ (p : Timed). p.text) e)
    (ap (λ (p : Timed). p.stage) e) later
step_goes_on (Told event) old new reads told last sets tells later = tells_goes_on old new event reads told last tells later
step_goes_on AllTold old new reads told last sets none later =
    all_told_goes_on old reads told last none.rest none.no_end (goes_on_same new _ reads told last none.told later)
step_goes_on (Idle now due) old new reads told last sets idles later =
    idle_goes_on old reads told last due new (ap (λ (p : Timed). p.reading) idles.noted) (ap (λ (p : Timed). p.text) idles.noted)
    (ap (λ (p : Timed). p.stage) idles.noted) later
step_goes_on Flush old new reads told last sets e later = flush_goes_on old reads told last (goes_on_same new _ reads told last e later)
step_goes_on End old new reads told last sets e later = end_goes_on old reads told last (goes_on_same new _ reads told last e later)
step_goes_on Refused old new reads told last sets e later = goes_on_same new old reads told last e later
step_goes_on (Interrupted now) old new reads told last sets is later = absurd sets
step_goes_on (SetPolicy policy) old new reads told last sets e later = absurd sets
step_goes_on (SetReading reading) old new reads told last sets e later = absurd sets
step_goes_on ExpectPosition old new reads told last sets e later = absurd sets
step_goes_on ForgetPositions old new reads told last sets e later = absurd sets
step_goes_on (SetParts limit) old new reads told last sets e later = absurd sets
step_goes_on SkipPaste old new reads told last sets e later = absurd sets
step_goes_on Reset old new reads told last sets e later = absurd sets

segment_goes_on : (first : Timed) (segment : List Moment) (reads : List Read) (told : List TimedEvent) (last : Timed) → IsRun first segment
    → IsSegment segment → GoesOn (last_of first segment) reads told last
    → GoesOn first (reads_of segment ++ reads) (told_of segment ++ told) last
segment_goes_on first [] reads told last run is later = later
segment_goes_on first (moment ∷ earlier) reads told last (run, step) (sets, others) later =
    let before = step_goes_on moment.call (last_of first earlier) moment.after reads told last sets step later in
    let all = segment_goes_on first earlier (read_in moment.call ++ reads) (told_in moment.call ++ told) last run others before in
    subst (λ (rs : List Read). GoesOn first rs (told_of earlier ++ told_in moment.call ++ told) last)
    (sym (append_assoc (reads_of earlier) (read_in moment.call) reads))
    (subst (λ (ts : List TimedEvent). GoesOn first (reads_of earlier ++ (read_in moment.call ++ reads)) ts last)
    (sym (append_assoc (told_of earlier) (told_in moment.call) told)) all)

-- at the end, once all is told, nothing is left to tell
all_told_ends : (last : Timed) → RestsIfTold last → last.stage ≡ stage.AllTold → GoesOn last [] [] last
all_told_ends last rests at parts whole good = record {
  left = whole;
  in_turn = subst (λ s. ReadsInTurn last.reading whole (first_read s ∷ []) [] whole) (sym at) (
    [],
    [],
    whole,
    refl,
    nothing_added last.reading whole true [] whole
        (rest_means last.reading whole true (whole_rests last.reading parts last.text whole true (rests at) good)),
    (refl, refl),
  );
  buffered = good;
}

-- reads mean one thing
ends_once : (reading : Reading) (text : List ℕ) (E D : List Event) (W V : List ℕ) → Ends reading text E W → Ends reading text D V
    → (E ≡ D) × (W ≡ V)
ends_once reading text E D W V (closed events left means not_open) (closed others right also also_closed) =
    means_once reading text false events others left right means also
ends_once reading text E D W V (closed events left means not_open) (in_paste others later between right also is_open end) =
    absurd (not_open (subst IsOpenPaste (means_once reading text false others events between left also means).1 is_open))
ends_once reading text E D W V (in_paste events later between left means is_open end) (closed others right also also_closed) =
    absurd (also_closed (subst IsOpenPaste (means_once reading text false events others between right means also).1 is_open))
ends_once reading text E D W V (in_paste events later between left means is_open end)
    (in_paste others last at right also also_open also_end) =
    let first = means_once reading text false events others between at means also in
    let here = subst (λ (x : List Event). Means (after_events reading x) (between ++ END) false later left) first.0 end in
    let second = means_once (after_events reading others) (at ++ END) false later last left right
    (subst (λ t. Means (after_events reading others) (t ++ END) false later left) first.1 here) also_end in
    (ap (λ (x : List Event). x ++ later) first.0 ∙ ap (λ (x : List Event). others ++ x) second.0, second.1)

reads_once : (reading : Reading) (text : List ℕ) (read : Read) (E D : List Event) (W V : List ℕ) → Reads reading text read E W
    → Reads reading text read D V → (E ≡ D) × (W ≡ V)
reads_once reading text (Bytes bytes) E D W V one other = means_once reading (text ++ bytes) true E D W V one other
reads_once reading text NoMore E D W V one other = means_once reading text false E D W V one other
reads_once reading text Over E D W V one other = ends_once reading text E D W V one other

in_turn_once : (reads : List Read) (reading : Reading) (text : List ℕ) (E D : List Event) (W V : List ℕ)
    → ReadsInTurn reading text reads E W → ReadsInTurn reading text reads D V → (E ≡ D) × (W ≡ V)
in_turn_once [] reading text E D W V (none, stays) (also_none, also_stays) = (none ∙ sym also_none, sym stays ∙ also_stays)
in_turn_once (read ∷ reads) reading text E D W V (first, later, between, all, one, rest) (others, last, at, also_all, other, also_rest) =
    let here = reads_once reading text read first others between at one other in
    let next = in_turn_once reads (after_events reading others) at later last W V
    (subst (λ t. ReadsInTurn (after_events reading others) t reads later W) here.1
    (subst (λ (x : List Event). ReadsInTurn (after_events reading x) between reads later W) here.0 rest)) also_rest in
    (all ∙ ap (λ (x : List Event). x ++ later) here.0 ∙ ap (λ (x : List Event). others ++ x) next.0 ∙ sym also_all, next.1)

-- a run is one after another
pub last_after : (first : Timed) (segment before : List Moment) → last_of first (segment ++ before) ≡ last_of (last_of first before) segment
last_after first [] before = refl
last_after first (moment ∷ earlier) before = refl

pub run_after : (first : Timed) (segment before : List Moment) → IsRun first (segment ++ before)
    → IsRun first before × IsRun (last_of first before) segment
run_after first [] before run = (run, tt)
run_after first (moment ∷ earlier) before (run, step) =
    let both = run_after first earlier before run in
    (both.0, (both.1, subst (λ (p : Timed). Step p moment.call moment.after) (last_after first earlier before) step))

pub segment_outcome : (first : Timed) (segment : List Moment) → RestsIfTold first → IsRun first segment → IsSegment segment
    → (last_of first segment).stage ≡ stage.AllTold
    → IsOutcome first [] first.text (reads_of segment) (told_of segment) (last_of first segment)
segment_outcome first segment rests run is at =
    let last = last_of first segment in
    let ends = all_told_ends last (run_rests first segment rests run) at in
    let all = segment_goes_on first segment [] [] last run is ends in
    subst (λ (rs : List Read). IsOutcome first [] first.text rs (told_of segment) last) (append-nil (reads_of segment))
    (subst (λ (ts : List TimedEvent). IsOutcome first [] first.text (reads_of segment ++ []) ts last) (append-nil (told_of segment))
    (all [] first.text (same refl refl)))

pub exact : Exact
exact dialect before segment run is at =
    let start = new_timed dialect in
    let first = last_of start before in
    let both = run_after start segment before run in
    let rests = run_rests start before (new_rests dialect) both.0 in
    let e = last_after start segment before in
    let out = segment_outcome first segment rests both.1 is (ap (λ (p : Timed). p.stage) (sym e) ∙ at) in
    record {
      left = out.left;
      reads = out.in_turn;
      buffered = subst (λ (p : Timed). IsAsGoodAs p.reading (parts_left [] (told_of segment)) p.text out.left) (sym e) out.buffered;
      only = λ events other reads. in_turn_once (first_read first.stage ∷ reads_of segment) first.reading first.text events
          (joined [] (told_of segment)) other out.left reads out.in_turn;
    }
