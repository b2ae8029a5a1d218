-- What is buffered is bounded, and so are the events.
use Rattle.std.proofs.Common.{◌≡◌, ◌≢◌, inl, inr, ℕ, ◌+◌, ◌≤◌, max, Bool, true, List, [], ◌∷◌, ◌++◌, length, length-append, Option, Some, None, IfSome, refl, sym, ap, subst, arith}
use Rattle.termwiz_keys.specs.Introducers.{START}
use Rattle.termwiz_grammar.specs.Laws.{IsHeldEscape}
use Rattle.termwiz_grammar.specs.PasteParts.{IsParted}
use Rattle.termwiz_grammar.specs.WaitingKinds.{IsOpenPaste}
use Rattle.termwiz_extended_grammar.specs.ExtendedGrammar.{Stands}
use Rattle.termwiz_extended_grammar.specs.ExtendedLaws.{Waits}
use Rattle.termwiz_extended_grammar.specs.ExtendedLaws.Waits.{nothing as waits_for_nothing, open_paste as paste_waits, open_string as string_waits, undecided}
use Rattle.termwiz_extended_grammar.proofs.lemmas.cuts.ExtendedCuts.{few_events}
use Rattle.termwiz_extended_grammar.proofs.lemmas.items.ExtendedRests.{waiting_shape}
use Rattle.termwiz_timed.specs.declared.parser.Stage.TheVariants as stage
use Rattle.termwiz_timed.specs.declared.parser.TimedEvent.{TimedEvent}
use Rattle.termwiz_timed.specs.Timed.{Timed, flushed, more_comes, new_timed}
use Rattle.termwiz_timed.specs.Steps.{Call, HasFewBytes, Keeps, Skips, Step, Tells}
use Rattle.termwiz_timed.specs.Steps.Call.{AllTold, End, ExpectPosition, Feed, Flush, ForgetPositions, Idle, Interrupted, Refused, Reset, SetParts, SetPolicy, SetReading, SkipPaste, Told}
use Rattle.termwiz_timed.specs.Steps.Keeps.{stays, forgotten}
use Rattle.termwiz_timed.specs.Steps.Skips.{skipped, nothing}
use Rattle.termwiz_timed.specs.Steps.Tells.{item, part, paste_ended}
use Rattle.termwiz_timed.specs.Runs.{IsRun, Moment, bytes_in, bytes_of, last_of, told_in, told_of}
use Rattle.termwiz_timed.specs.RunLaws.{Bounded, IsBounded}
use Rattle.termwiz_timed.specs.RunLaws.IsBounded.{short, open_string, open_paste}
use Rattle.termwiz_timed.proofs.lemmas.RunRests.{RestsIfTold, again_untold, buffered_untold, due_untold, flushed_untold, item_untold, new_rests, run_rests, told_more}

-- what a part leaves, or what is skipped, is no longer than it was
parted_less : (text decided held : List ℕ) → IsParted text decided held → length (START ++ held) + length decided ≤ length text
parted_less text decided held is =
    omega (arith, ap length is.splits, length-append decided held)

-- an event takes a byte
told_less : (old new : Timed) (event : TimedEvent) → Tells old event new → 1 + length new.text ≤ length old.text
told_less old new event (item given left steps) = few_events old.reading old.text left (given ∷ []) (more_comes old.stage) steps
told_less old new event (part limit text left on taken) =
    let less = parted_less old.text taken.decided taken.held taken.parted in
    some_less taken.decided taken.some (ap length taken.leaves) less
  where
    some_less : (decided : List ℕ) → decided ≢ [] → length left ≡ length (START ++ taken.held)
        → length (START ++ taken.held) + length decided ≤ length old.text → 1 + length left ≤ length old.text
    some_less [] some same less = absurd (some refl)
    some_less (byte ∷ decided) some same less = omega arith
told_less old new event (paste_ended given ends none (paste, is, same)) = omega (arith, ap length is.splits)

skip_less : (old new : Timed) → Skips old new → length new.text ≤ length old.text
skip_less old new (skipped count left is) =
    omega (arith, parted_less old.text is.decided is.held is.parted, ap length is.leaves)
skip_less old new (nothing closed) = omega arith

keep_less : (old : Timed) (text : List ℕ) (kept : Bool) → Keeps old text kept → length text ≤ length old.text
keep_less old text kept (stays is) = omega arith
keep_less old text kept (forgotten not) = omega arith

-- each call tells no more events than bytes are gone
pub step_less : (call : Call) (old new : Timed) → Step old call new
    → length (told_in call) + length new.text ≤ length old.text + length (bytes_in call)
step_less (Feed now bytes) old new (ready, e) = omega (arith, ap (λ (t : Timed). length t.text) e, length-append old.text bytes)
step_less (Told event) old new tells = omega (arith, told_less old new event tells)
step_less AllTold old new none = omega (arith, ap (λ (t : Timed). length t.text) none.told)
step_less (Idle now due) old new idles = omega (arith, ap (λ (t : Timed). length t.text) idles.noted)
step_less Flush old new e = omega (arith, ap (λ (t : Timed). length t.text) e)
step_less End old new e = omega (arith, ap (λ (t : Timed). length t.text) e)
step_less (Interrupted now) old new is =
    omega (arith, ap (λ (t : Timed). length t.text) is.noted, keep_less old is.text is.stays is.keeps)
step_less (SetPolicy policy) old new e = omega (arith, ap (λ (t : Timed). length t.text) e)
step_less (SetReading reading) old new e = omega (arith, ap (λ (t : Timed). length t.text) e)
step_less ExpectPosition old new e = omega (arith, ap (λ (t : Timed). length t.text) e)
step_less ForgetPositions old new e = omega (arith, ap (λ (t : Timed). length t.text) e)
step_less (SetParts limit) old new e = omega (arith, ap (λ (t : Timed). length t.text) e)
step_less SkipPaste old new skips = omega (arith, skip_less old new skips)
step_less Reset old new e = omega (arith, ap (λ (t : Timed). length t.text) e)
step_less Refused old new e = omega (arith, ap (λ (t : Timed). length t.text) e)

run_few : (first : Timed) (moments : List Moment) → IsRun first moments
    → length (told_of moments) + length (last_of first moments).text ≤ length first.text + length (bytes_of moments)
run_few first [] run = omega arith
run_few first (moment ∷ earlier) (run, step) = omega (
  arith,
  run_few first earlier run,
  step_less moment.call (last_of first earlier) moment.after step,
  length-append (told_of earlier) (told_in moment.call),
  length-append (bytes_of earlier) (bytes_in moment.call),
)

-- once all is told few bytes of an open paste are buffered
abbrev FewIfTold : Timed → Type 0
FewIfTold parser = parser.stage ≡ stage.AllTold → HasFewBytes parser

few_same : (new same : Timed) → new ≡ same → FewIfTold same → FewIfTold new
few_same new same e few = subst FewIfTold (sym e) few

-- fewer are few
fewer : (parts : Option ℕ) (text left : List ℕ) → IsOpenPaste text → length left ≤ length text
    → IfSome parts (λ limit. IsOpenPaste text → length text ≤ 6 + max limit 5)
    → IfSome parts (λ limit. IsOpenPaste left → length left ≤ 6 + max limit 5)
fewer None text left is less few = tt
fewer (Some limit) text left is less few = λ still. let all = few is in omega arith

none_few : (parts : Option ℕ) → IfSome parts (λ limit. IsOpenPaste [] → 0 ≤ 6 + max limit 5)
none_few None = tt
none_few (Some limit) = λ is. omega arith

parted_open : (text decided held : List ℕ) → IsParted text decided held → IsOpenPaste text
parted_open text decided held is = record { body = decided ++ held; splits = is.splits; endless = is.endless }

tells_few : (old new : Timed) (event : TimedEvent) → RestsIfTold old → FewIfTold old → Tells old event new → FewIfTold new
tells_few old new event rests few (item given left (after, stands, steps)) told =
    let before = item_untold left old.stage told in
    absurd (rests before after given (subst (λ more. Stands old.reading old.text more after given) (told_more old.stage before) stands))
tells_few old new event rests few (part limit text left on taken) told =
    fewer old.parts old.text left (parted_open old.text taken.decided taken.held taken.parted)
    (omega (arith, parted_less old.text taken.decided taken.held taken.parted, ap length taken.leaves)) (few told)
tells_few old new event rests few (paste_ended given ends none is) told = cc (told)

skips_few : (old new : Timed) → FewIfTold old → Skips old new → FewIfTold new
skips_few old new few (skipped count left is) told =
    fewer old.parts old.text left (parted_open old.text is.decided is.held is.parted)
    (omega (arith, parted_less old.text is.decided is.held is.parted, ap length is.leaves)) (few told)
skips_few old new few (nothing closed) told = few told

keeps_few : (old : Timed) (text : List ℕ) (kept : Bool) → HasFewBytes old → Keeps old text kept
    → IfSome old.parts (λ limit. IsOpenPaste text → length text ≤ 6 + max limit 5)
keeps_few old text kept few (stays is) = few
keeps_few old text kept few (forgotten not) = none_few old.parts

step_few : (call : Call) (old new : Timed) → RestsIfTold old → FewIfTold old → Step old call new → FewIfTold new
step_few (Feed now bytes) old new rests few (ready, e) = few_same new _ e (λ told. cc (told))
step_few (Told event) old new rests few tells = tells_few old new event rests few tells
step_few AllTold old new rests few none = few_same new _ none.told (λ told. none.few)
step_few (Idle now due) old new rests few idles = few_same new _ idles.noted (due_untold due old.stage _ few)
step_few Flush old new rests few e =
    few_same new _ e (λ told. absurd (buffered_untold old.text (flushed old.stage) (flushed_untold old.stage) told))
step_few End old new rests few e = few_same new _ e (λ told. absurd (buffered_untold old.text stage.Ending (λ no. cc (no)) told))
step_few (Interrupted now) old new rests few is =
    few_same new _ is.noted (λ told. keeps_few old is.text is.stays (few is.all_told) is.keeps)
step_few (SetPolicy policy) old new rests few e = few_same new _ e few
step_few (SetReading reading) old new rests few e = few_same new _ e (λ told. absurd (again_untold old.stage told))
step_few ExpectPosition old new rests few e = few_same new _ e few
step_few ForgetPositions old new rests few e = few_same new _ e few
step_few (SetParts limit) old new rests few e = few_same new _ e (λ told. absurd (again_untold old.stage told))
step_few SkipPaste old new rests few skips = skips_few old new few skips
step_few Reset old new rests few e = few_same new _ e (λ told. none_few old.parts)
step_few Refused old new rests few e = few_same new _ e few

run_few_bytes : (first : Timed) (moments : List Moment) → RestsIfTold first → FewIfTold first → IsRun first moments
    → FewIfTold (last_of first moments)
run_few_bytes first [] rests few run = few
run_few_bytes first (moment ∷ earlier) rests few (run, step) =
    step_few moment.call (last_of first earlier) moment.after (run_rests first earlier rests run)
    (run_few_bytes first earlier rests few run) step

is_bounded : (parser : Timed) → HasFewBytes parser → Waits parser.reading parser.text true → IsBounded parser
is_bounded parser few (waits_for_nothing e) = short (omega (arith, ap length e))
is_bounded parser few (paste_waits body e never) =
    let is : IsOpenPaste parser.text = record { body = body; splits = e; endless = never } in
    open_paste is (at parser.parts is few)
  where
    at : (parts : Option ℕ) → IsOpenPaste parser.text → IfSome parts (λ limit. IsOpenPaste parser.text → length parser.text ≤ 6 + max limit 5)
        → IfSome parts (λ limit. length parser.text ≤ 6 + max limit 5)
    at None is few = tt
    at (Some limit) is few = few is
is_bounded parser few (undecided held bytes is e some beginning small m) =
    short (omega (arith, ap length e, length-append held bytes, held_length held is))
  where
    held_length : (escape : List ℕ) → IsHeldEscape escape → length escape ≤ 1
    held_length escape (inl e) = omega (arith, ap length e)
    held_length escape (inr e) = omega (arith, ap length e)
is_bounded parser few (string_waits is small m reads) = open_string is small

pub bounded : Bounded
bounded dialect moments run =
    let first = new_timed dialect in
    let rests = run_rests first moments (new_rests dialect) run in
    let few = run_few_bytes first moments (new_rests dialect) (λ told. tt) run in (
      (λ told. is_bounded (last_of first moments) (few told)
          (waiting_shape (last_of first moments).reading (last_of first moments).text true (rests told))),
      omega (arith, run_few first moments run),
    )
