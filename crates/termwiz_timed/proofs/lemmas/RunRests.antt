-- Once all is told what is buffered is a rest.
use Rattle.std.proofs.Common.{◌≡◌, ◌≢◌, ℕ, Bool, true, false, List, [], ◌∷◌, ◌++◌, if◌then◌else◌, length, length-append, append-nil, refl, sym, ap, subst, arith}
use Rattle.termwiz_keymap.specs.Bytes.{Occurs}
use Rattle.termwiz_keys.specs.Introducers.{START, END}
use Rattle.termwiz_grammar.specs.PasteParts.{EndsWith, IsParted}
use Rattle.termwiz_grammar.specs.PasteParts.IsHeld.{nothing}
use Rattle.termwiz_grammar.specs.WaitingKinds.{IsOpenPaste}
use Rattle.termwiz_grammar.proofs.lemmas.pastes.HeldBytes.{no_end_left}
use Rattle.termwiz_extended_events.specs.declared.types.Dialect.{Dialect}
use Rattle.termwiz_extended_events.specs.declared.types.Reading.{Reading}
use Rattle.termwiz_extended_grammar.specs.ExtendedGrammar.{IsRest, Means, Stands}
use Rattle.termwiz_extended_grammar.specs.ExtendedLaws.{Waits}
use Rattle.termwiz_extended_grammar.specs.ExtendedLaws.Waits.{nothing as waits_for_nothing, open_paste, open_string, undecided}
use Rattle.termwiz_extended_grammar.specs.Readings.{asking, first_reading}
use Rattle.termwiz_extended_grammar.proofs.lemmas.cuts.PartsOfPastes.{parts_join}
use Rattle.termwiz_extended_grammar.proofs.lemmas.cuts.QuestionsMoveNothing.{questions_move_nothing}
use Rattle.termwiz_extended_grammar.proofs.lemmas.items.ExtendedRests.{empty_is_rest, waiting_shape}
use Rattle.termwiz_timed.specs.declared.parser.Stage.{Stage}
use Rattle.termwiz_timed.specs.declared.parser.Stage.TheVariants as stage
use Rattle.termwiz_timed.specs.declared.parser.TimedEvent.{TimedEvent}
use Rattle.termwiz_timed.specs.Timed.{Timed, flushed, more_comes, new_timed, read_again, while_buffered}
use Rattle.termwiz_timed.specs.Steps.{Call, Keeps, Skips, Step, Tells}
use Rattle.termwiz_timed.specs.Steps.Call.{AllTold, End, ExpectPosition, Feed, Flush, ForgetPositions, Idle, Interrupted, Refused, Reset, SetParts, SetPolicy, SetReading, SkipPaste, Told}
use Rattle.termwiz_timed.specs.Steps.Keeps.{stays, forgotten}
use Rattle.termwiz_timed.specs.Steps.Skips.{skipped, nothing as nothing_skipped}
use Rattle.termwiz_timed.specs.Steps.Tells.{item, part, paste_ended}
use Rattle.termwiz_timed.specs.Runs.{IsRun, Moment, last_of}

-- no text but the empty one ends no bytes
ends_nothing : (text : List ℕ) → EndsWith [] text → text ≡ []
ends_nothing [] ends = refl
ends_nothing (byte ∷ text) ([], e) = cc (e)
ends_nothing (byte ∷ text) (b ∷ before, e) = cc (e)

-- START alone is parted, with nothing decided and nothing held
pub start_parted : IsParted START [] []
start_parted = record {
  splits = refl;
  endless = λ o. omega (arith, length-append (o.0 ++ END) o.1, length-append o.0 END, ap length o.2);
  is_held = nothing (λ text begins ends. begins.some (ends_nothing text ends)) (λ text begins ends. begins.some (ends_nothing text ends)) refl;
}

-- an open paste is a rest
pub open_means : (reading : Reading) (body : List ℕ) (more : Bool) → ¬ Occurs END body → Means reading (START ++ body) more [] (START ++ body)
open_means reading body more endless = ((parts_join reading START [] [] body more start_parted).1 endless).whole_waits

pub open_rests : (reading : Reading) (text : List ℕ) (more : Bool) → IsOpenPaste text → IsRest reading text more
open_rests reading text more is = subst (λ u. IsRest reading u more) (sym is.splits) (open_means reading is.body more is.endless).rest

-- what is left after a part, or what is skipped, is an open paste
pub held_open : (text decided held : List ℕ) → IsParted text decided held → IsOpenPaste (START ++ held)
held_open text decided held is =
    let all : ¬ Occurs END (decided ++ held ++ []) = subst (λ x. ¬ Occurs END x) (sym (append-nil (decided ++ held))) is.endless in
    record { body = held; splits = refl; endless = subst (λ x. ¬ Occurs END x) (append-nil held) (no_end_left decided held [] all) }

-- a rest under a flush is one
pub flush_rests : (reading : Reading) (text : List ℕ) → IsRest reading text false → IsRest reading text true
flush_rests reading text rest = by_shape (waiting_shape reading text false rest)
  where
    by_shape : Waits reading text false → IsRest reading text true
    by_shape (waits_for_nothing e) = subst (λ u. IsRest reading u true) (sym e) (empty_is_rest reading true)
    by_shape (open_paste body e never) = open_rests reading text true (record { body = body; splits = e; endless = never })
    by_shape (undecided held bytes is e some beginning short m) = absurd (cc (m))
    by_shape (open_string is short m reads) = absurd (cc (m))

told_rests : (stage : Stage) (reading : Reading) (text : List ℕ) → IsRest reading text (more_comes stage) → IsRest reading text true
told_rests stage.AllTold reading text rest = rest
told_rests stage.Untold reading text rest = rest
told_rests stage.Flushing reading text rest = flush_rests reading text rest
told_rests stage.Ending reading text rest = flush_rests reading text rest

-- What is buffered is a rest, if all is told. It is read as the reading says, which its questions don't change.
abbrev pub RestsIfTold : Timed → Type 0
RestsIfTold parser = parser.stage ≡ stage.AllTold → IsRest parser.reading parser.text true

rests_same : (new same : Timed) → new ≡ same → RestsIfTold same → RestsIfTold new
rests_same new same e rests = subst RestsIfTold (sym e) rests

-- not all is told yet
pub buffered_untold : (text : List ℕ) (at : Stage) → at ≢ stage.AllTold → while_buffered text at ≢ stage.AllTold
buffered_untold [] at not e = cc (e)
buffered_untold (byte ∷ text) at not e = not e

pub flushed_untold : (at : Stage) → flushed at ≢ stage.AllTold
flushed_untold stage.AllTold e = cc (e)
flushed_untold stage.Untold e = cc (e)
flushed_untold stage.Flushing e = cc (e)
flushed_untold stage.Ending e = cc (e)

pub again_untold : (at : Stage) → read_again at ≢ stage.AllTold
again_untold stage.AllTold e = cc (e)
again_untold stage.Untold e = cc (e)
again_untold stage.Flushing e = cc (e)
again_untold stage.Ending e = cc (e)

pub due_untold : (due : Bool) (at : Stage) (P : Type 0) → (at ≡ stage.AllTold → P) → (if due then stage.Ending else at) ≡ stage.AllTold → P
due_untold true at P rests e = cc (e)
due_untold false at P rests e = rests e

-- an item leaves text of which all isn't told, unless all was
pub item_untold : (left : List ℕ) (at : Stage) → while_buffered left at ≡ stage.AllTold → at ≡ stage.AllTold
item_untold [] at e = cc (e)
item_untold (byte ∷ left) at e = e

-- more comes where all is told
pub told_more : (at : Stage) → at ≡ stage.AllTold → more_comes at ≡ true
told_more at e = rw e refl

questions_rest : (reading : Reading) (questions : ℕ) (text : List ℕ) → IsRest reading text true → IsRest (asking reading questions) text true
questions_rest reading questions text rest = (questions_move_nothing reading (asking reading questions) text true refl refl).2 rest

tells_rests : (old new : Timed) (event : TimedEvent) → RestsIfTold old → Tells old event new → RestsIfTold new
tells_rests old new event rests (item given left (after, stands, steps)) told =
    let before = item_untold left old.stage told in
    absurd (rests before after given (subst (λ more. Stands old.reading old.text more after given) (told_more old.stage before) stands))
tells_rests old new event rests (part limit text left on taken) told =
    open_rests old.reading left true (subst IsOpenPaste (sym taken.leaves) (held_open old.text taken.decided taken.held taken.parted))
tells_rests old new event rests (paste_ended given ends none is) told = cc (told)

skips_rests : (old new : Timed) → RestsIfTold old → Skips old new → RestsIfTold new
skips_rests old new rests (skipped count left is) told =
    open_rests old.reading left true (subst IsOpenPaste (sym is.leaves) (held_open old.text is.decided is.held is.parted))
skips_rests old new rests (nothing_skipped closed) told = rests told

keeps_rests : (old : Timed) (text : List ℕ) (kept : Bool) → IsRest old.reading old.text true → Keeps old text kept
    → IsRest (asking old.reading 0) text true
keeps_rests old text kept rest (stays is) = questions_rest old.reading 0 old.text rest
keeps_rests old text kept rest (forgotten not) = empty_is_rest (asking old.reading 0) true

step_rests : (call : Call) (old new : Timed) → RestsIfTold old → Step old call new → RestsIfTold new
step_rests (Feed now bytes) old new rests (ready, e) = rests_same new _ e (λ told. cc (told))
step_rests (Told event) old new rests tells = tells_rests old new event rests tells
step_rests AllTold old new rests none = rests_same new _ none.told (λ told. told_rests old.stage old.reading old.text none.rest)
step_rests (Idle now due) old new rests idles = rests_same new _ idles.noted (due_untold due old.stage _ rests)
step_rests Flush old new rests e =
    rests_same new _ e (λ told. absurd (buffered_untold old.text (flushed old.stage) (flushed_untold old.stage) told))
step_rests End old new rests e = rests_same new _ e (λ told. absurd (buffered_untold old.text stage.Ending (λ no. cc (no)) told))
step_rests (Interrupted now) old new rests is =
    rests_same new _ is.noted (λ told. keeps_rests old is.text is.stays (rests is.all_told) is.keeps)
step_rests (SetPolicy policy) old new rests e = rests_same new _ e rests
step_rests (SetReading reading) old new rests e = rests_same new _ e (λ told. absurd (again_untold old.stage told))
step_rests ExpectPosition old new rests e = rests_same new _ e (λ told. questions_rest old.reading _ old.text (rests told))
step_rests ForgetPositions old new rests e = rests_same new _ e (λ told. questions_rest old.reading 0 old.text (rests told))
step_rests (SetParts limit) old new rests e = rests_same new _ e (λ told. absurd (again_untold old.stage told))
step_rests SkipPaste old new rests skips = skips_rests old new rests skips
step_rests Reset old new rests e = rests_same new _ e (λ told. empty_is_rest (asking old.reading 0) true)
step_rests Refused old new rests e = rests_same new _ e rests

pub run_rests : (first : Timed) (moments : List Moment) → RestsIfTold first → IsRun first moments → RestsIfTold (last_of first moments)
run_rests first [] rests run = rests
run_rests first (moment ∷ earlier) rests (run, step) =
    step_rests moment.call (last_of first earlier) moment.after (run_rests first earlier rests run) step

-- of a new parser nothing is buffered
pub new_rests : (dialect : Dialect) → RestsIfTold (new_timed dialect)
new_rests dialect told = empty_is_rest (first_reading dialect) true
