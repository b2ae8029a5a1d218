-- While a flush isn't over something is buffered.
use Rattle.std.proofs.Common.{◌≡◌, ◌≢◌, inl, inr, ⊎_elim, ℕ, Bool, true, false, List, [], ◌∷◌, ◌++◌, None, if◌then◌else◌, refl, sym, ap, subst}
use Rattle.termwiz_keys.specs.Introducers.{START}
use Rattle.termwiz_extended_events.specs.declared.types.Reading.{Reading}
use Rattle.termwiz_input.specs.declared.time.Age.TheVariants.{Last}
use Rattle.termwiz_input.specs.declared.time.Limit.{Limit}
use Rattle.termwiz_extended_grammar.specs.ExtendedGrammar.{IsRest}
use Rattle.termwiz_extended_grammar.specs.declared.waiting.ExtendedWaiting.TheVariants as kind
use Rattle.termwiz_extended_grammar.proofs.lemmas.items.ExtendedItems.{starts_shape}
use Rattle.termwiz_extended_grammar.proofs.lemmas.items.ExtendedRests.{empty_is_rest}
use Rattle.termwiz_input_extended.specs.ExtendedExpiry.{IsLimitOf}
use Rattle.termwiz_timed.specs.declared.parser.Stage.{Stage}
use Rattle.termwiz_timed.specs.declared.parser.Stage.TheVariants as stage
use Rattle.termwiz_timed.specs.declared.parser.TimedEvent.{TimedEvent}
use Rattle.termwiz_timed.specs.Timed.{Timed, HasPassed, IsFlushing, IsPasteOrString, emptied, flushed, new_timed, read_again, while_buffered}
use Rattle.termwiz_timed.specs.Timed.HasPassed.{by_policy, by_interruption}
use Rattle.termwiz_timed.specs.Steps.{Call, Skips, Step, Tells}
use Rattle.termwiz_timed.specs.Steps.Call.{AllTold, End, ExpectPosition, Feed, Flush, ForgetPositions, Idle, Interrupted, Refused, Reset, SetParts, SetPolicy, SetReading, SkipPaste, Told}
use Rattle.termwiz_timed.specs.Steps.Skips.{skipped, nothing}
use Rattle.termwiz_timed.specs.Steps.Tells.{item, part, paste_ended}
use Rattle.termwiz_timed.specs.Runs.{IsRun, Moment, last_of}
use Rattle.termwiz_timed.specs.RunLaws.{FlushHasBytes}
use Rattle.termwiz_timed.proofs.lemmas.DueInTime.{limit_once}

-- what is being flushed isn't empty
abbrev HasBytes : Stage → List ℕ → Type 0
HasBytes at text = IsFlushing at → text ≢ []

has_bytes : (new same : Timed) → new ≡ same → HasBytes same.stage same.text → HasBytes new.stage new.text
has_bytes new same e has = subst (λ (p : Timed). HasBytes p.stage p.text) (sym e) has

told_has : (text : List ℕ) → HasBytes stage.AllTold text
told_has text h = absurd (⊎_elim (λ (e : stage.AllTold ≡ stage.Flushing). cc (e)) (λ (e : stage.AllTold ≡ stage.Ending). cc (e)) h)

untold_has : (text : List ℕ) → HasBytes stage.Untold text
untold_has text h = absurd (⊎_elim (λ (e : stage.Untold ≡ stage.Flushing). cc (e)) (λ (e : stage.Untold ≡ stage.Ending). cc (e)) h)

buffered_has : (text : List ℕ) (at : Stage) → HasBytes (while_buffered text at) text
buffered_has [] at = untold_has []
buffered_has (byte ∷ text) at = λ h none. cc (none)

again_has : (at : Stage) (text : List ℕ) → HasBytes at text → HasBytes (read_again at) text
again_has stage.AllTold text has h = untold_has text h
again_has stage.Untold text has h = has h
again_has stage.Flushing text has h = has h
again_has stage.Ending text has h = has h

emptied_has : (at : Stage) (text : List ℕ) → HasBytes (emptied at) text
emptied_has stage.AllTold text h = told_has text h
emptied_has stage.Untold text h = untold_has text h
emptied_has stage.Flushing text h = untold_has text h
emptied_has stage.Ending text h = untold_has text h

-- of no bytes nothing is due
no_limit : (parser : Timed) (limit : Limit) → parser.text ≡ [] → IsLimitOf parser.policy parser.reading parser.text limit → limit.millis ≡ None
no_limit parser limit none is =
    let rest : IsRest parser.reading parser.text true = subst (λ u. IsRest parser.reading u true) (sym none) (empty_is_rest parser.reading true) in
    let nothing_limit : IsLimitOf parser.policy parser.reading parser.text (record { millis = None; by = Last }) =
    record { kind = kind.Nothing; told = none; is_kind = λ more waits. none; is_limit = refl } in
    ap (λ (l : Limit). l.millis)
    (limit_once parser.policy parser.reading parser.text limit (record { millis = None; by = Last }) rest is nothing_limit)

not_paste : (reading : Reading) (text : List ℕ) → text ≡ [] → ¬ IsPasteOrString reading text
not_paste reading text none (inl begins) = let e = begins.1 in cc (none, e)
not_paste reading text none (inr opening) = let e = (starts_shape reading text (inr opening)).2 in cc (none, e)

due_has : (parser : Timed) (limit : Limit) (now : ℕ) → IsLimitOf parser.policy parser.reading parser.text limit → HasPassed parser limit now
    → parser.text ≢ []
due_has parser limit now is (by_policy passed) none =
    let limited = passed.limited in let forever = no_limit parser limit none is in cc (limited, forever)
due_has parser limit now is (by_interruption flag what passed) none = not_paste parser.reading parser.text none what

idle_has : (due : Bool) (parser : Timed) → ((due ≡ true) → parser.text ≢ []) → HasBytes parser.stage parser.text
    → HasBytes (if due then stage.Ending else parser.stage) parser.text
idle_has true parser some has h = some refl
idle_has false parser some has h = has h

starts_some : (text held : List ℕ) → text ≡ START ++ held → text ≢ []
starts_some text held e none = cc (e, none)

tells_has : (old new : Timed) (event : TimedEvent) → Tells old event new → HasBytes new.stage new.text
tells_has old new event (item given left steps) = buffered_has left old.stage
tells_has old new event (part limit text left on taken) = λ h. starts_some left taken.held taken.leaves
tells_has old new event (paste_ended given ends none is) = buffered_has [] old.stage

skips_has : (old new : Timed) → HasBytes old.stage old.text → Skips old new → HasBytes new.stage new.text
skips_has old new has (skipped count left is) = λ h. starts_some left is.held is.leaves
skips_has old new has (nothing closed) = has

step_has : (call : Call) (old new : Timed) → HasBytes old.stage old.text → Step old call new → HasBytes new.stage new.text
step_has (Feed now bytes) old new has (ready, e) = has_bytes new _ e (untold_has (old.text ++ bytes))
step_has (Told event) old new has tells = tells_has old new event tells
step_has AllTold old new has none = has_bytes new _ none.told (told_has old.text)
step_has (Idle now due) old new has idles = has_bytes new _ idles.noted
    (idle_has due old (λ is. due_has old idles.limit now idles.limited (idles.is_due.0 is).1) has)
step_has Flush old new has e = has_bytes new _ e (buffered_has old.text (flushed old.stage))
step_has End old new has e = has_bytes new _ e (buffered_has old.text stage.Ending)
step_has (Interrupted now) old new has is = has_bytes new _ is.noted (subst (λ at. HasBytes at is.text) (sym is.all_told) (told_has is.text))
step_has (SetPolicy policy) old new has e = has_bytes new _ e has
step_has (SetReading reading) old new has e = has_bytes new _ e (again_has old.stage old.text has)
step_has ExpectPosition old new has e = has_bytes new _ e has
step_has ForgetPositions old new has e = has_bytes new _ e has
step_has (SetParts limit) old new has e = has_bytes new _ e (again_has old.stage old.text has)
step_has SkipPaste old new has skips = skips_has old new has skips
step_has Reset old new has e = has_bytes new _ e (emptied_has old.stage [])
step_has Refused old new has e = has_bytes new _ e has

run_has : (first : Timed) (moments : List Moment) → HasBytes first.stage first.text → IsRun first moments
    → HasBytes (last_of first moments).stage (last_of first moments).text
run_has first [] has run = has
run_has first (moment ∷ earlier) has (run, step) =
    step_has moment.call (last_of first earlier) moment.after (run_has first earlier has run) step

pub flush_has_bytes : FlushHasBytes
flush_has_bytes dialect moments run = run_has (new_timed dialect) moments (told_has []) run
