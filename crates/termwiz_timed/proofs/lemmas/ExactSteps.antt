-- Each step of a segment is what its reads say, if what follows it is.
use Rattle.std.proofs.Common.{◌≡◌, ℕ, Bool, true, false, List, [], ◌∷◌, ◌++◌, None, refl, sym, ap, ◌∙◌, subst}
use Rattle.std.specs.Str.Lossy.{utf8_lossy}
use Rattle.termwiz_keymap.specs.Bytes.{Occurs}
use Rattle.termwiz_keys.specs.Introducers.{START, END}
use Rattle.termwiz_keys.specs.declared.types.InputEvent.{InputEvent}
use Rattle.termwiz_grammar.specs.WaitingKinds.{IsOpenPaste}
use Rattle.termwiz_extended_events.specs.declared.types.Event.{Event}
use Rattle.termwiz_extended_events.specs.declared.types.Event.TheVariants.{Paste}
use Rattle.termwiz_extended_events.specs.declared.types.Reading.{Reading}
use Rattle.termwiz_extended_grammar.specs.ExtendedGrammar.{IsRest, Means, Steps}
use Rattle.termwiz_extended_grammar.specs.Readings.{after_event, after_events}
use Rattle.termwiz_extended_grammar.proofs.lemmas.cuts.ExtendedCuts.{resumes}
use Rattle.termwiz_extended_grammar.proofs.lemmas.items.ExtendedRests.{empty_is_rest}
use Rattle.termwiz_input_extended.specs.NextItems.{IsPasteEvent, told_by}
use Rattle.termwiz_timed.specs.declared.parser.Stage.{Stage}
use Rattle.termwiz_timed.specs.declared.parser.Stage.TheVariants as stage
use Rattle.termwiz_timed.specs.declared.parser.TimedEvent.{TimedEvent}
use Rattle.termwiz_timed.specs.declared.parser.TimedEvent.TheVariants.{Whole}
use Rattle.termwiz_timed.specs.Timed.{Timed, more_comes, while_buffered}
use Rattle.termwiz_timed.specs.Segments.{Ends, IsAsGoodAs, Read, Reads, ReadsInTurn, first_read, joined, parts_left}
use Rattle.termwiz_timed.specs.Segments.Ends.{closed, in_paste}
use Rattle.termwiz_timed.specs.Segments.IsAsGoodAs.{same, in_parts}
use Rattle.termwiz_timed.specs.Segments.Read.{Bytes}
use Rattle.termwiz_timed.proofs.lemmas.ReadsCut.{added_nothing, means_once, nothing_added, rest_means}
use Rattle.termwiz_timed.proofs.lemmas.PartsTaken.{JoinsOrStays, joins_now, paste_at_end, paste_of_whole, whole_stays}
use Rattle.termwiz_timed.proofs.lemmas.RunRests.{open_rests}

nothing_open : ¬ IsOpenPaste []
nothing_open is = let e = is.splits in cc (e)

-- nothing is read of nothing
empty_means : (reading : Reading) (more : Bool) → Means reading [] more [] []
empty_means reading more = rest_means reading [] more (empty_is_rest reading more)

empty_reads : (reading : Reading) (at : Stage) → Reads reading [] (first_read at) [] []
empty_reads reading stage.AllTold = empty_means reading true
empty_reads reading stage.Untold = empty_means reading true
empty_reads reading stage.Flushing = empty_means reading false
empty_reads reading stage.Ending = closed [] [] (empty_means reading false) nothing_open

-- a read that has no event and leaves the text may be left out, or put in
pub left_out : (reading : Reading) (text : List ℕ) (read : Read) (reads : List Read) (E : List Event) (W : List ℕ)
    → ((D : List Event) (V : List ℕ) → Reads reading text read D V → (D ≡ []) × (V ≡ text))
    → ReadsInTurn reading text (read ∷ reads) E W → ReadsInTurn reading text reads E W
left_out reading text read reads E W only (D, later, between, all, first, rest) =
    let (none, stays) = only D between first in
    let e : later ≡ E = sym (all ∙ ap (λ (x : List Event). x ++ later) none) in
    subst (λ x. ReadsInTurn reading text reads x W) e
    (subst (λ t. ReadsInTurn reading t reads later W) stays
    (subst (λ r. ReadsInTurn r between reads later W) (ap (λ (x : List Event). after_events reading x) none) rest))

pub put_in : (reading : Reading) (text : List ℕ) (read : Read) (reads : List Read) (E : List Event) (W : List ℕ)
    → Reads reading text read [] text → ReadsInTurn reading text reads E W → ReadsInTurn reading text (read ∷ reads) E W
put_in reading text read reads E W first rest = ([], E, text, refl, first, rest)

-- bytes are read of a rest, but none came
pub rest_only : (reading : Reading) (text : List ℕ) → IsRest reading text true → (D : List Event) (V : List ℕ)
    → Reads reading text (Bytes []) D V → (D ≡ []) × (V ≡ text)
rest_only reading text rest D V means =
    means_once reading text true D [] V text (added_nothing reading text true D V means) (rest_means reading text true rest)

-- of nothing more came, or a flush begins, or all ends: nothing is read
pub stage_kept : (reading : Reading) (left : List ℕ) (at : Stage) (reads : List Read) (E : List Event) (W : List ℕ)
    → ReadsInTurn reading left (first_read (while_buffered left at) ∷ reads) E W → ReadsInTurn reading left (first_read at ∷ reads) E W
stage_kept reading [] at reads E W run = put_in reading [] (first_read at) reads E W (empty_reads reading at)
    (left_out reading [] (Bytes []) reads E W (rest_only reading [] (empty_is_rest reading true)) run)
stage_kept reading (byte ∷ left) at reads E W run = run

-- an item is read first
module _ (reading : Reading) (text left : List ℕ) (event : Event) where
  resumed : (more : Bool) (E : List Event) (W : List ℕ) → Steps reading text more (event ∷ []) left
      → Means (after_event reading event) left more E W → Means reading text more (event ∷ E) W
  resumed more E W steps means = (resumes reading text [] left W (event ∷ []) E more).1 steps means

  item_ends : (E : List Event) (W : List ℕ) → Steps reading text false (event ∷ []) left → Ends (after_event reading event) left E W
      → Ends reading text (event ∷ E) W
  item_ends E W steps (closed events last means not_open) = closed (event ∷ events) last (resumed false events last steps means) not_open
  item_ends E W steps (in_paste events later between last means is_open end) =
      in_paste (event ∷ events) later between last (resumed false events between steps means) is_open end

  item_reads : (at : Stage) (E : List Event) (W : List ℕ) → Steps reading text (more_comes at) (event ∷ []) left
      → Reads (after_event reading event) left (first_read at) E W → Reads reading text (first_read at) (event ∷ E) W
  item_reads stage.AllTold E W steps means = nothing_added reading text true (event ∷ E) W
      (resumed true E W steps (added_nothing (after_event reading event) left true E W means))
  item_reads stage.Untold E W steps means = nothing_added reading text true (event ∷ E) W
      (resumed true E W steps (added_nothing (after_event reading event) left true E W means))
  item_reads stage.Flushing E W steps means = resumed false E W steps means
  item_reads stage.Ending E W steps means = item_ends E W steps means

-- The same of the whole of which parts were taken: the item is the paste.
module _ (reading : Reading) (parts whole text left : List ℕ) (event : Event) where
  -- the whole is the paste with the parts before its text
  record IsPasteOfWhole (Whole : Event → Type 0) : Type 0 where
    later : List ℕ
    is : event ≡ Paste later
    reads : Whole (Paste (parts ++ later))

  whole_means : (more : Bool) (E : List Event) (W : List ℕ) → JoinsOrStays reading parts whole text more
      → Steps reading text more (event ∷ []) left → Means (after_event reading event) left more E W
      → IsPasteOfWhole (λ (e : Event). Means reading whole more (e ∷ E) W)
  whole_means more E W joins steps means =
      let (later, is, given) = paste_of_whole reading parts whole text more joins event E W (resumed reading text left event more E W steps means) in
      record { later = later; is = is; reads = given }

  whole_ends : (E : List Event) (W : List ℕ) → JoinsOrStays reading parts whole text false
      → Steps reading text false (event ∷ []) left → Ends (after_event reading event) left E W
      → IsPasteOfWhole (λ (e : Event). Ends reading whole (e ∷ E) W)
  whole_ends E W joins steps (closed events last means not_open) =
      let of = whole_means false events last joins steps means in
      record { later = of.later; is = of.is; reads = closed (Paste (parts ++ of.later) ∷ events) last of.reads not_open }
  whole_ends E W joins steps (in_paste events last between rest means is_open end) =
      let of = whole_means false events between joins steps means in
      record {
        later = of.later;
        is = of.is;
        reads = in_paste (Paste (parts ++ of.later) ∷ events) last between rest of.reads is_open
            (subst (λ r. Means (after_events r events) (between ++ END) false last rest)
            (ap (λ (e : Event). after_event reading e) of.is) end);
      }

  whole_reads : (at : Stage) (E : List Event) (W : List ℕ)
      → ((c : List ℕ) (more : Bool) → JoinsOrStays reading parts (whole ++ c) (text ++ c) more)
      → Steps reading text (more_comes at) (event ∷ []) left → Reads (after_event reading event) left (first_read at) E W
      → IsPasteOfWhole (λ (e : Event). Reads reading whole (first_read at) (e ∷ E) W)
  whole_reads stage.AllTold E W joins steps means =
      let of = whole_means true E W (joins_now reading parts whole text true (joins [] true)) steps
      (added_nothing (after_event reading event) left true E W means) in
      record { later = of.later; is = of.is; reads = nothing_added reading whole true (Paste (parts ++ of.later) ∷ E) W of.reads }
  whole_reads stage.Untold E W joins steps means =
      let of = whole_means true E W (joins_now reading parts whole text true (joins [] true)) steps
      (added_nothing (after_event reading event) left true E W means) in
      record { later = of.later; is = of.is; reads = nothing_added reading whole true (Paste (parts ++ of.later) ∷ E) W of.reads }
  whole_reads stage.Flushing E W joins steps means =
      whole_means false E W (joins_now reading parts whole text false (joins [] false)) steps means
  whole_reads stage.Ending E W joins steps means =
      whole_ends E W (joins_now reading parts whole text false (joins [] false)) steps means

-- without parts before it, an event is told as it is
joined_none : (event : Event) (told : List TimedEvent) → joined [] (Whole event ∷ told) ≡ event ∷ joined [] told
joined_none (Paste text) told = refl
joined_none _ told = refl

none_left : (event : Event) (told : List TimedEvent) → parts_left [] (Whole event ∷ told) ≡ parts_left [] told
none_left (Paste text) told = refl
none_left _ told = refl

-- What is told from a parser on, of a text that is as good as what is buffered, is what its reads say.
pub record IsOutcome (parser : Timed) (parts whole : List ℕ) (reads : List Read) (told : List TimedEvent) (last : Timed) : Type 0 where
  pub left : List ℕ
  pub in_turn : ReadsInTurn parser.reading whole (first_read parser.stage ∷ reads) (joined parts told) left
  pub buffered : IsAsGoodAs last.reading (parts_left parts told) last.text left

abbrev pub GoesOn : Timed → List Read → List TimedEvent → Timed → Type 0
GoesOn parser reads told last =
    (parts whole : List ℕ) → IsAsGoodAs parser.reading parts parser.text whole → IsOutcome parser parts whole reads told last

-- An item is told.
module _ (old : Timed) (new : Timed) (reads : List Read) (told : List TimedEvent) (last : Timed) (event : Event) (left : List ℕ)
    (reading_is : new.reading ≡ after_event old.reading event) (text_is : new.text ≡ left)
    (stage_is : new.stage ≡ while_buffered left old.stage) (later : GoesOn new reads told last) where
  -- what follows it, read as what is buffered was
  record IsThen : Type 0 where
    end : List ℕ
    in_turn : ReadsInTurn (after_event old.reading event) left (first_read old.stage ∷ reads) (joined [] told) end
    buffered : IsAsGoodAs last.reading (parts_left [] told) last.text end

  then : IsThen
  then =
      let out = later [] left (same refl text_is) in
      record {
        end = out.left;
        in_turn = stage_kept (after_event old.reading event) left old.stage reads (joined [] told) out.left
            (subst (λ at. ReadsInTurn (after_event old.reading event) left (first_read at ∷ reads) (joined [] told) out.left) stage_is
            (subst (λ r. ReadsInTurn r left (first_read new.stage ∷ reads) (joined [] told) out.left) reading_is out.in_turn));
        buffered = out.buffered;
      }

  pub item_told : Steps old.reading old.text (more_comes old.stage) (event ∷ []) left → GoesOn old reads (Whole event ∷ told) last
  item_told steps parts whole (same none e) = alone then.in_turn
    where
      alone : ReadsInTurn (after_event old.reading event) left (first_read old.stage ∷ reads) (joined [] told) then.end
          → IsOutcome old parts whole reads (Whole event ∷ told) last
      alone (D, rest_events, between, all, first, rest) = record {
        left = then.end;
        in_turn = subst (λ p. ReadsInTurn old.reading whole (first_read old.stage ∷ reads) (joined p (Whole event ∷ told)) then.end) (sym none)
            (subst (λ t. ReadsInTurn old.reading t (first_read old.stage ∷ reads) (joined [] (Whole event ∷ told)) then.end) e (
              event ∷ D,
              rest_events,
              between,
              joined_none event told ∙ ap (λ (x : List Event). event ∷ x) all,
              item_reads old.reading old.text left event old.stage D between steps first,
              rest,
            ));
        buffered = subst (λ p. IsAsGoodAs last.reading (parts_left p (Whole event ∷ told)) last.text then.end) (sym none)
            (subst (λ p. IsAsGoodAs last.reading p last.text then.end) (sym (none_left event told)) then.buffered);
      }
  item_told steps parts whole (in_parts taken body at all_of joins) = of_paste then.in_turn
    where
      of_paste : ReadsInTurn (after_event old.reading event) left (first_read old.stage ∷ reads) (joined [] told) then.end
          → IsOutcome old parts whole reads (Whole event ∷ told) last
      of_paste (D, rest_events, between, all, first, rest) =
          let of = whole_reads old.reading parts whole old.text left event old.stage D between joins steps first in
          record {
            left = then.end;
            in_turn = subst (λ (e : Event). ReadsInTurn old.reading whole (first_read old.stage ∷ reads) (joined parts (Whole e ∷ told)) then.end)
                (sym of.is) (
                  Paste (parts ++ of.later) ∷ D,
                  rest_events,
                  between,
                  ap (λ (x : List Event). Paste (parts ++ of.later) ∷ x) all,
                  of.reads,
                  subst (λ (e : Event). ReadsInTurn (after_events (after_event old.reading e) D) between reads rest_events then.end) of.is rest,
                );
            buffered = subst (λ (e : Event). IsAsGoodAs last.reading (parts_left parts (Whole e ∷ told)) last.text then.end) (sym of.is)
                then.buffered;
          }

-- an open paste of which parts may have been taken ends where it is
paste_so_far : (reading : Reading) (parts text whole body : List ℕ) → IsAsGoodAs reading parts text whole → text ≡ START ++ body
    → ¬ Occurs END body → Ends reading whole (Paste (parts ++ utf8_lossy body) ∷ []) []
paste_so_far reading parts text whole body (same none e) at free =
    subst (λ p. Ends reading whole (Paste (p ++ utf8_lossy body) ∷ []) []) (sym none)
    (subst (λ t. Ends reading t (Paste (utf8_lossy body) ∷ []) []) (sym at ∙ e)
    (in_paste [] (Paste (utf8_lossy body) ∷ []) (START ++ body) [] (rest_means reading (START ++ body) false (open_rests reading (START ++ body) false is))
    is (paste_at_end reading body free)))
  where
    is : IsOpenPaste (START ++ body)
    is = record { body = body; splits = refl; endless = free }
paste_so_far reading parts text whole body (in_parts taken rest_body at_body all joins) at free =
    let is : IsOpenPaste text = record { body = body; splits = at; endless = free } in
    let stays = whole_stays reading parts whole text false (joins_now reading parts whole text false (joins [] false)) (open_rests reading text false is) in
    let end = paste_of_whole reading parts (whole ++ END) (text ++ END) false (joins END false) (Paste (utf8_lossy body)) [] []
    (subst (λ t. Means reading (t ++ END) false (Paste (utf8_lossy body) ∷ []) []) (sym at) (paste_at_end reading body free)) in
    let later : utf8_lossy body ≡ end.0 = cc (end.1) in
    in_paste [] (Paste (parts ++ utf8_lossy body) ∷ []) whole [] stays.whole_waits stays.whole_open
    (subst (λ x. Means reading (whole ++ END) false (Paste (parts ++ x) ∷ []) []) (sym later) end.2)

-- and is told so
pub end_told : (old new : Timed) (reads : List Read) (told : List TimedEvent) (last : Timed) (event : Event) → old.stage ≡ stage.Ending
    → IsPasteEvent old.text event → new.reading ≡ after_event old.reading event → new.text ≡ [] → new.stage ≡ stage.Untold
    → GoesOn new reads told last → GoesOn old reads (Whole event ∷ told) last
end_told old new reads told last event ends (paste, so_far, is) reading_is text_is stage_is later parts whole good =
    let e : event ≡ Paste (utf8_lossy so_far.body) = is ∙ ap (λ (p : InputEvent). told_by None p) so_far.its_text in
    let out = later [] [] (same refl text_is) in
    let kept : new.reading ≡ old.reading = reading_is ∙ ap (λ (x : Event). after_event old.reading x) e in
    let rest : ReadsInTurn old.reading [] reads (joined [] told) out.left =
    left_out old.reading [] (Bytes []) reads (joined [] told) out.left (rest_only old.reading [] (empty_is_rest old.reading true))
    (subst (λ at. ReadsInTurn old.reading [] (first_read at ∷ reads) (joined [] told) out.left) stage_is
    (subst (λ r. ReadsInTurn r [] (first_read new.stage ∷ reads) (joined [] told) out.left) kept out.in_turn)) in
    record {
      left = out.left;
      in_turn = subst (λ (x : Event). ReadsInTurn old.reading whole (first_read old.stage ∷ reads) (joined parts (Whole x ∷ told)) out.left) (sym e)
          (subst (λ at. ReadsInTurn old.reading whole (first_read at ∷ reads) (joined parts (Whole (Paste (utf8_lossy so_far.body)) ∷ told)) out.left)
          (sym ends) (
            Paste (parts ++ utf8_lossy so_far.body) ∷ [],
            joined [] told,
            [],
            refl,
            paste_so_far old.reading parts old.text whole so_far.body good so_far.splits so_far.endless,
            rest,
          ));
      buffered = subst (λ (x : Event). IsAsGoodAs last.reading (parts_left parts (Whole x ∷ told)) last.text out.left) (sym e) out.buffered;
    }
