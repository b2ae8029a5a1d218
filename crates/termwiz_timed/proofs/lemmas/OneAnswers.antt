-- Each call has one answer.
use Rattle.std.proofs.Common.{◌≡◌, ◌↔◌, ℕ, Bool, true, false, List, [], ◌∷◌, ◌++◌, Option, Some, None, IfSome, if◌then◌else◌, refl, sym, ap, ◌∙◌, subst}
use Rattle.std.specs.Str.Lossy.{utf8_lossy}
use Rattle.std.proofs.lemmas.List.{append_cancel_right}
use Rattle.termwiz_keys.specs.Introducers.{START}
use Rattle.termwiz_keys.specs.declared.types.InputEvent.{InputEvent}
use Rattle.termwiz_keys.specs.declared.types.InputEvent.TheVariants.{Paste as PortsPaste}
use Rattle.termwiz_grammar.specs.PasteParts.{HasPart, IsHeld, IsParted, IsTaken}
use Rattle.termwiz_grammar.specs.WaitingKinds.{IsOpenPaste}
use Rattle.termwiz_grammar.proofs.lemmas.pastes.HeldBytes.{held_once}
use Rattle.termwiz_input.specs.declared.time.Limit.{Limit}
use Rattle.termwiz_extended_events.specs.declared.types.Event.{Event}
use Rattle.termwiz_extended_events.specs.declared.types.Reading.{Reading}
use Rattle.termwiz_extended_grammar.specs.ExtendedGrammar.{Steps}
use Rattle.termwiz_extended_grammar.specs.Readings.{asking}
use Rattle.termwiz_extended_grammar.proofs.lemmas.items.ExtendedItems.{stands_once}
use Rattle.termwiz_input_extended.specs.NextItems.{IsPasteEvent, told_by}
use Rattle.termwiz_timed.specs.declared.parser.Stage.TheVariants as stage
use Rattle.termwiz_timed.specs.declared.parser.TimedEvent.{TimedEvent}
use Rattle.termwiz_timed.specs.declared.parser.TimedEvent.TheVariants.{Whole, PastePart}
use Rattle.termwiz_timed.specs.AgesInTime.{at_time}
use Rattle.termwiz_timed.specs.Timed.{Timed, HasPassed, more_comes, new_timed}
use Rattle.termwiz_timed.specs.Steps.{HasNoPart, Idles, IsInterrupted, Keeps, Skips, Tells, TellsNone, after_item, after_part}
use Rattle.termwiz_timed.specs.Steps.Keeps.{stays, forgotten}
use Rattle.termwiz_timed.specs.Steps.Skips.{skipped, nothing}
use Rattle.termwiz_timed.specs.Steps.Tells.{item, part, paste_ended}
use Rattle.termwiz_timed.specs.Runs.{last_of}
use Rattle.termwiz_timed.specs.RunLaws.{OneAnswer}
use Rattle.termwiz_timed.proofs.lemmas.DueInTime.{limit_once}
use Rattle.termwiz_timed.proofs.lemmas.RunRests.{RestsIfTold, new_rests, open_rests, run_rests}

-- what is decided and what is held back of a text are one
parted_once : (text decided held other_decided other_held : List ℕ) → IsParted text decided held → IsParted text other_decided other_held
    → (decided ≡ other_decided) × (held ≡ other_held)
parted_once text decided held other_decided other_held one other =
    let whole : decided ++ held ≡ other_decided ++ other_held =
    (let first = one.splits in let second = other.splits in cc (first, second)) in
    let same : held ≡ other_held = (held_once (other_decided ++ other_held) other_held held other.is_held
    (subst (λ b. IsHeld b held) whole one.is_held)).0 in
    (append_cancel_right decided other_decided held (whole ∙ ap (λ x. other_decided ++ x) (sym same)), same)

-- no item is at the front of an open paste
no_item : (reading : Reading) (text left : List ℕ) (more : Bool) (event : Event) → IsOpenPaste text → Steps reading text more (event ∷ []) left → ⊥
no_item reading text left more event is (after, stands, steps) = open_rests reading text more is after event stands

parted_open : (text decided held : List ℕ) → IsParted text decided held → IsOpenPaste text
parted_open text decided held is = record { body = decided ++ held; splits = is.splits; endless = is.endless }

event_open : (text : List ℕ) (event : Event) → IsPasteEvent text event → IsOpenPaste text
event_open text event (given, is, same) = record { body = is.body; splits = is.splits; endless = is.endless }

-- a paste so far is one
event_once : (text : List ℕ) (one other : Event) → IsPasteEvent text one → IsPasteEvent text other → one ≡ other
event_once text one other (first, is, same) (second, also, also_same) =
    let body : is.body ≡ also.body = (let a = is.splits in let b = also.splits in cc (a, b)) in
    let port : first ≡ second = is.its_text ∙ ap (λ x. PortsPaste (utf8_lossy x)) body ∙ sym also.its_text in
    same ∙ ap (λ (p : InputEvent). told_by None p) port ∙ sym also_same

-- an item is one
item_once : (reading : Reading) (text left right : List ℕ) (more : Bool) (one other : Event) → Steps reading text more (one ∷ []) left
    → Steps reading text more (other ∷ []) right → (one ≡ other) × (left ≡ right)
item_once reading text left right more one other (after, stands, e) (also_after, also, f) =
    let same = stands_once reading text more after also_after one other stands also in
    (same.1, sym e ∙ same.0 ∙ f)

no_part_of : (old : Timed) (limit : ℕ) (text left : List ℕ) → old.parts ≡ Some limit → IsTaken old.text limit text left → HasNoPart old → ⊥
no_part_of old limit text left on taken none =
    let here = subst (λ (parts : Option ℕ). IfSome parts (λ l. ¬ HasPart old.text l)) on none in here (text, left, taken)

told_once : (old one other : Timed) (first second : TimedEvent) → Tells old first one → Tells old second other → (first ≡ second) × (one ≡ other)
told_once old one other first second (item given left steps) (item also right other_steps) =
    let same = item_once old.reading old.text left right (more_comes old.stage) given also steps other_steps in (
      ap (λ (e : Event). Whole e) same.0,
      ap (λ (e : Event). after_item old e left) same.0 ∙ ap (λ x. after_item old also x) same.1,
    )
told_once old one other first second (item given left steps) (part limit text right on taken) =
    absurd (no_item old.reading old.text left (more_comes old.stage) given (parted_open old.text taken.decided taken.held taken.parted) steps)
told_once old one other first second (item given left steps) (paste_ended also ends none is) =
    absurd (no_item old.reading old.text left (more_comes old.stage) given (event_open old.text also is) steps)
told_once old one other first second (part limit text left on taken) (item also right steps) =
    absurd (no_item old.reading old.text right (more_comes old.stage) also (parted_open old.text taken.decided taken.held taken.parted) steps)
told_once old one other first second (part limit text left on taken) (part also more right too again) =
    let same = parted_once old.text taken.decided taken.held again.decided again.held taken.parted again.parted in
    let texts : text ≡ more = taken.its_text ∙ ap (λ x. utf8_lossy x) same.0 ∙ sym again.its_text in
    let leaves : left ≡ right = taken.leaves ∙ ap (λ x. START ++ x) same.1 ∙ sym again.leaves in
    (ap (λ x. PastePart x) texts, ap (λ x. after_part old x) leaves)
told_once old one other first second (part limit text left on taken) (paste_ended also ends none is) =
    absurd (no_part_of old limit text left on taken none)
told_once old one other first second (paste_ended given ends none is) (item also right steps) =
    absurd (no_item old.reading old.text right (more_comes old.stage) also (event_open old.text given is) steps)
told_once old one other first second (paste_ended given ends none is) (part limit text right on taken) =
    absurd (no_part_of old limit text right on taken none)
told_once old one other first second (paste_ended given ends none is) (paste_ended also too nor other_is) =
    let same = event_once old.text given also is other_is in
    (ap (λ (e : Event). Whole e) same, ap (λ (e : Event). after_item old e []) same)

told_or_all : (old one other : Timed) (event : TimedEvent) → Tells old event one → ¬ TellsNone old other
told_or_all old one other event (item given left (after, stands, steps)) none = none.rest after given stands
told_or_all old one other event (part limit text left on taken) none = no_part_of old limit text left on taken none.no_part
told_or_all old one other event (paste_ended given ends no_part is) none = none.no_end ends (event_open old.text given is)

same_bool : (a b : Bool) → (a ≡ true) ↔ (b ≡ true) → a ≡ b
same_bool true true both = refl
same_bool true false both = let no_no = both.0 refl in cc (no_no)
same_bool false true both = let no_no = both.1 refl in cc (no_no)
same_bool false false both = refl

idle_once : (old one other : Timed) (now : ℕ) (due also : Bool) → RestsIfTold old → Idles old now due one → Idles old now also other
    → (due ≡ also) × (one ≡ other)
idle_once old one other now due also rests is again = (same, is.noted ∙ ap (λ d. noted_at d) same ∙ sym again.noted)
  where
    noted_at : Bool → Timed
    noted_at d = record old { ages = at_time old.ages now; stage = (if d then stage.Ending else old.stage) }

    limits : old.stage ≡ stage.AllTold → is.limit ≡ again.limit
    limits told = limit_once old.policy old.reading old.text is.limit again.limit (rests told) is.limited again.limited

    same : due ≡ also
    same = same_bool due also (
      (λ e. let both = is.is_due.0 e in
          again.is_due.1 (both.0, subst (λ (l : Limit). HasPassed old l now) (limits both.0) both.1)),
      λ e. let both = again.is_due.0 e in
          is.is_due.1 (both.0, subst (λ (l : Limit). HasPassed old l now) (sym (limits both.0)) both.1),
    )

skip_once : (old one other : Timed) → Skips old one → Skips old other → one ≡ other
skip_once old one other (skipped count left is) (skipped also right again) =
    let same = parted_once old.text is.decided is.held again.decided again.held is.parted again.parted in
    ap (λ x. record old { text = x }) (is.leaves ∙ ap (λ x. START ++ x) same.1 ∙ sym again.leaves)
skip_once old one other (skipped count left is) (nothing closed) = absurd (closed (parted_open old.text is.decided is.held is.parted))
skip_once old one other (nothing closed) (skipped count left is) = absurd (closed (parted_open old.text is.decided is.held is.parted))
skip_once old one other (nothing closed) (nothing also) = refl

keeps_once : (old : Timed) (text other : List ℕ) (kept also : Bool) → Keeps old text kept → Keeps old other also → (text ≡ other) × (kept ≡ also)
keeps_once old text other kept also (stays is) (stays again) = (refl, refl)
keeps_once old text other kept also (stays is) (forgotten not) = absurd (not is)
keeps_once old text other kept also (forgotten not) (stays is) = absurd (not is)
keeps_once old text other kept also (forgotten not) (forgotten nor) = (refl, refl)

interrupted_once : (old one other : Timed) (now : ℕ) → IsInterrupted old now one → IsInterrupted old now other → one ≡ other
interrupted_once old one other now is again =
    let same = keeps_once old is.text again.text is.stays again.stays is.keeps again.keeps in
    is.noted ∙ ap (λ x. noted_at x is.stays) same.0 ∙ ap (λ b. noted_at again.text b) same.1 ∙ sym again.noted
  where
    noted_at : List ℕ → Bool → Timed
    noted_at text kept = record old {
      reading = asking old.reading 0;
      text = text;
      ages = record (at_time old.ages now) { last = 0 };
      interrupted = kept;
    }

pub one_answer : OneAnswer
one_answer dialect moments run =
    let old = last_of (new_timed dialect) moments in
    record {
      told_once = told_once old;
      told_or_all = told_or_all old;
      idle_once = λ one other now due also. idle_once old one other now due also (run_rests (new_timed dialect) moments (new_rests dialect) run);
      skip_once = skip_once old;
      interrupted_once = interrupted_once old;
    }
