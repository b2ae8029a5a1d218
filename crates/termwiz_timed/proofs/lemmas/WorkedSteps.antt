-- Steps of worked runs.
use Rattle.std.proofs.Common.{◌≡◌, ◌≢◌, inl, ⊎_elim, ℕ, ◌<◌, ◌≤◌, true, false, List, [], ◌∷◌, ◌++◌, length, length-append, append-nil, Option, Some, refl, sym, ap, ◌∙◌, subst, arith}
use Rattle.std.specs.List.{AllByRecursion}
use Rattle.std.specs.Str.Lossy.{utf8_lossy}
use Rattle.termwiz_keymap.specs.Bytes.{Occurs}
use Rattle.termwiz_keymap.proofs.lemmas.lists.CommonPrefixes.{true_at_end}
use Rattle.termwiz_keys.specs.Introducers.{ESC, START, END}
use Rattle.termwiz_keys.specs.Keys.{escape as escape_key}
use Rattle.termwiz_keys.specs.declared.types.InputEvent.TheVariants.{Key, Paste as PortsPaste}
use Rattle.termwiz_grammar.specs.Sequences.Meaning.{Row}
use Rattle.termwiz_grammar.specs.Grammar as port
use Rattle.termwiz_grammar.specs.PasteParts.{BeginsCharacter, EndsWith, HasPart, IsHeld, IsTaken}
use Rattle.termwiz_grammar.specs.PasteParts.IsHeld.{nothing as nothing_held}
use Rattle.termwiz_grammar.specs.WaitingKinds.{IsOpenPaste}
use Rattle.termwiz_grammar.specs.declared.waiting.Waiting.TheVariants as port_kind
use Rattle.termwiz_grammar.proofs.lemmas.characters.EndsWithinCharacter.{unfinished_lead}
use Rattle.termwiz_grammar.proofs.lemmas.table.SequenceFacts.{escape_is_sequence}
use Rattle.termwiz_grammar.proofs.lemmas.waiting.RestKinds.{flush_of_kinds}
use Rattle.termwiz_laws.proofs.lemmas.paste_events.NoBorder.{free_of_end}
use Rattle.termwiz_input.specs.declared.time.Age.TheVariants.{Last}
use Rattle.termwiz_input.specs.declared.time.Limit.{Limit}
use Rattle.termwiz_input.specs.declared.time.Policy.{Policy}
use Rattle.termwiz_extended_events.specs.declared.types.Event.{Event}
use Rattle.termwiz_extended_events.specs.declared.types.Event.TheVariants.{Paste}
use Rattle.termwiz_extended_events.specs.declared.types.Reading.{Reading}
use Rattle.termwiz_extended_grammar.specs.ExtendedGrammar.{IsRest, Means, Steps, escape_event}
use Rattle.termwiz_extended_grammar.specs.Readings.{ReadsMore, asking}
use Rattle.termwiz_extended_grammar.specs.declared.waiting.ExtendedWaiting.TheVariants as kind
use Rattle.termwiz_extended_grammar.proofs.lemmas.cuts.PartsOfPastes.{paste_then}
use Rattle.termwiz_extended_grammar.proofs.lemmas.items.ExtendedItems.{starts_shape}
use Rattle.termwiz_extended_grammar.proofs.lemmas.items.ExtendedRests.{empty_is_rest}
use Rattle.termwiz_extended_grammar.proofs.lemmas.items.ExtraHeads.{four_beginnings}
use Rattle.termwiz_input_extended.specs.ExtendedExpiry.{IsLimitOf}
use Rattle.termwiz_input_extended.proofs.lemmas.fronts.EscapesFlushed.{escapes_flushed}
use Rattle.termwiz_input_extended.proofs.lemmas.fronts.FrontItems.{waits_for_extra}
use Rattle.termwiz_input_extended.proofs.lemmas.fronts.KindsByBytes.{escape_kind, paste_kind}
use Rattle.termwiz_timed.specs.declared.parser.Stage.TheVariants as stage
use Rattle.termwiz_timed.specs.declared.parser.TimedEvent.TheVariants.{Whole, PastePart}
use Rattle.termwiz_timed.specs.AgesInTime.{age_at, at_time, came}
use Rattle.termwiz_timed.specs.Timed.{Timed, HasPassed, IsFlushing, IsPasteOrString, flushed, more_comes, read_again, while_buffered}
use Rattle.termwiz_timed.specs.Timed.HasPassed.{by_policy, by_interruption}
use Rattle.termwiz_timed.specs.Steps.{Call, HasFewBytes, HasNoPart, after_item, after_part}
use Rattle.termwiz_timed.specs.Steps.Call.{AllTold, End, Feed, Flush, Idle, Interrupted, Refused, SetParts, SetPolicy, Told}
use Rattle.termwiz_timed.specs.Steps.Keeps.{stays}
use Rattle.termwiz_timed.specs.Steps.Tells.{item, part, paste_ended}
use Rattle.termwiz_timed.specs.WorkedRuns.{Follow}
use Rattle.termwiz_timed.specs.WorkedRuns.Follow.{next}
use Rattle.termwiz_timed.proofs.lemmas.ReadsCut.{rest_means}

-- ESC waits, and is the Escape key in a flush
pub escape_rests : (reading : Reading) → ReadsMore reading → IsRest reading ESC true
escape_rests reading reads = waits_for_extra reading ESC true ([], refl) (λ two. cc (two.1))
    (λ starts. let s = starts_shape reading ESC starts in cc (s.2)) refl
    ((four_beginnings reading ESC (Row escape_key) reads escape_is_sequence).1 (inl refl))

pub escape_flushed : (reading : Reading) → Means reading ESC false (escape_event ∷ []) []
escape_flushed reading = escapes_flushed reading ESC [] (Key escape_key) (inl refl) (⊎_elim
    (λ (one : (ESC ≡ ESC) × port.Means ESC false (Key escape_key ∷ []) []). one.1)
    (λ two. absurd (cc (two.0)))
    (flush_of_kinds ESC port_kind.Escape (inl refl, refl)))

pub escape_limit : (policy : Policy) (reading : Reading) → IsLimitOf policy reading ESC (record { millis = policy.escape; by = Last })
escape_limit policy reading =
    record { kind = kind.Escape; told = inl refl; is_kind = λ more rest. escape_kind reading ESC more rest (inl refl); is_limit = refl }

pub paste_limit : (policy : Policy) (reading : Reading) (body : List ℕ)
    → IsLimitOf policy reading (START ++ body) (record { millis = policy.paste; by = Last })
paste_limit policy reading body = record {
  kind = kind.Paste;
  told = (body, refl);
  is_kind = λ more rest. paste_kind reading (START ++ body) more rest (body, refl);
  is_limit = refl;
}

-- END has six bytes
pub short_endless : (body : List ℕ) → length body < 6 → ¬ Occurs END body
short_endless body short (before, after, e) =
    omega (arith, ap length e, length-append (before ++ END) after, length-append before END)

-- and begins with ESC
pub plain_endless : (body : List ℕ) → AllByRecursion (λ (b : ℕ). b ≢ 27) body → ¬ Occurs END body
plain_endless [] plain ([], after, e) = cc (e)
plain_endless [] plain (y ∷ before, after, e) = cc (e)
plain_endless (x ∷ body) plain ([], after, e) = plain.0 (cc (e))
plain_endless (x ∷ body) plain (y ∷ before, after, e) = plain_endless body plain.1 (before, after, cc (e))

pub paste_means : (reading : Reading) (body : List ℕ) → ¬ Occurs END body
    → Means reading (START ++ (body ++ END ++ [])) true (Paste (utf8_lossy body) ∷ []) []
paste_means reading body free =
    paste_then reading body [] [] [] true ((free_of_end body).1 free) (rest_means reading [] true (empty_is_rest reading true))

-- of printable ASCII nothing is held back
plain_held : (body : List ℕ) → AllByRecursion (λ (b : ℕ). b ≢ 27) body → AllByRecursion (λ (b : ℕ). b < 128) body → IsHeld (body ++ []) []
plain_held body plain low = nothing_held
    (λ text begins at. no_end text begins.some begins.tail begins.splits at)
    (λ text begins at. no_character text begins at) refl
  where
    whole : body ++ [] ≡ body
    whole = append-nil body

    no_end : (text : List ℕ) → text ≢ [] → (tail : List ℕ) → END ≡ text ++ tail → EndsWith (body ++ []) text → ⊥
    no_end [] some tail splits at = some refl
    no_end (x ∷ text) some tail splits (before, e) =
        let first : x ≡ 27 = cc (splits) in
        (true_at_end (λ (b : ℕ). b ≢ 27) before (x ∷ text) (subst (AllByRecursion (λ (b : ℕ). b ≢ 27)) (sym whole ∙ e) plain)).0 first

    no_character : (text : List ℕ) → BeginsCharacter text → EndsWith (body ++ []) text → ⊥
    no_character [] begins at = begins.some refl
    no_character (x ∷ text) begins (before, e) =
        let high = unfinished_lead x text begins.unfinished in
        let small = (true_at_end (λ (b : ℕ). b < 128) before (x ∷ text) (subst (AllByRecursion (λ (b : ℕ). b < 128)) (sym whole ∙ e) low)).0 in
        omega (arith, high, small)

pub plain_taken : (body : List ℕ) (limit : ℕ) → AllByRecursion (λ (b : ℕ). b ≢ 27) body → AllByRecursion (λ (b : ℕ). b < 128) body
    → limit < length (body ++ []) → body ≢ [] → IsTaken (START ++ (body ++ [])) limit (utf8_lossy body) START
plain_taken body limit plain low many some = record {
  decided = body;
  held = [];
  parted = record {
    splits = refl;
    endless = subst (λ b. ¬ Occurs END b) (sym (append-nil body)) (plain_endless body plain);
    is_held = plain_held body plain low;
  };
  many = many;
  some = some;
  its_text = refl;
  leaves = refl;
}

-- so few bytes have no part
pub few_no_part : (body : List ℕ) (limit : ℕ) → length body ≤ limit → ¬ HasPart (START ++ body) limit
few_no_part body limit few (text, left, is) =
    let e : body ≡ is.decided ++ is.held = let splits = is.parted.splits in cc (splits) in
    omega (arith, is.many, ap length e)

pub never : (P : Type 0) → false ≡ true → P
never P e = cc (e)

module _ (first : Timed) (calls : List Call) where
  abbrev pub feed_then : (now : ℕ) (bytes : List ℕ) → ¬ IsFlushing first.stage
      → Follow (record first { text = first.text ++ bytes; stage = stage.Untold; ages = came first.text bytes (at_time first.ages now) }) calls
      → Follow first (Feed now bytes ∷ calls)
  feed_then now bytes ready later = next first _ (Feed now bytes) calls (ready, refl) later

  abbrev pub told_then : (event : Event) (left : List ℕ) → Steps first.reading first.text (more_comes first.stage) (event ∷ []) left
      → Follow (after_item first event left) calls → Follow first (Told (Whole event) ∷ calls)
  told_then event left steps later = next first _ (Told (Whole event)) calls (item event left steps) later

  abbrev pub part_then : (limit : ℕ) (text left : List ℕ) → first.parts ≡ Some limit → IsTaken first.text limit text left
      → Follow (after_part first left) calls → Follow first (Told (PastePart text) ∷ calls)
  part_then limit text left on taken later = next first _ (Told (PastePart text)) calls (part limit text left on taken) later

  abbrev pub end_then : (body : List ℕ) → first.stage ≡ stage.Ending → HasNoPart first → first.text ≡ START ++ body → ¬ Occurs END body
      → Follow (after_item first (Paste (utf8_lossy body)) []) calls → Follow first (Told (Whole (Paste (utf8_lossy body))) ∷ calls)
  end_then body ends none at free later = next first _ (Told (Whole (Paste (utf8_lossy body)))) calls
      (paste_ended (Paste (utf8_lossy body)) ends none
      (PortsPaste (utf8_lossy body), record { body = body; splits = at; endless = free; its_text = refl }, refl)) later

  abbrev pub all_told_then : IsRest first.reading first.text (more_comes first.stage) → HasNoPart first → HasFewBytes first
      → (first.stage ≡ stage.Ending → ¬ IsOpenPaste first.text) → Follow (record first { stage = stage.AllTold }) calls
      → Follow first (AllTold ∷ calls)
  all_told_then rest none few no_end later =
      next first _ AllTold calls (record { rest = rest; no_part = none; few = few; no_end = no_end; told = refl }) later

  abbrev pub waits_then : (now : ℕ) (limit : Limit) → IsLimitOf first.policy first.reading first.text limit
      → ¬ ((first.stage ≡ stage.AllTold) × HasPassed first limit now)
      → Follow (record first { ages = at_time first.ages now }) calls → Follow first (Idle now false ∷ calls)
  waits_then now limit limited not later = next first _ (Idle now false) calls
      (record { limit = limit; limited = limited; is_due = (never _, λ h. absurd (not h)); noted = refl }) later

  abbrev pub due_then : (now : ℕ) (limit : Limit) → IsLimitOf first.policy first.reading first.text limit → first.stage ≡ stage.AllTold
      → HasPassed first limit now → Follow (record first { ages = at_time first.ages now; stage = stage.Ending }) calls
      → Follow first (Idle now true ∷ calls)
  due_then now limit limited told passed later = next first _ (Idle now true) calls
      (record { limit = limit; limited = limited; is_due = ((λ e. (told, passed)), λ h. refl); noted = refl }) later

  abbrev pub flush_then : Follow (record first { stage = while_buffered first.text (flushed first.stage) }) calls → Follow first (Flush ∷ calls)
  flush_then later = next first _ Flush calls refl later

  abbrev pub ends_then : Follow (record first { stage = while_buffered first.text stage.Ending }) calls → Follow first (End ∷ calls)
  ends_then later = next first _ End calls refl later

  abbrev pub refused_then : Follow first calls → Follow first (Refused ∷ calls)
  refused_then later = next first first Refused calls refl later

  abbrev pub interrupted_then : (now : ℕ) → first.stage ≡ stage.AllTold → IsPasteOrString first.reading first.text
      → Follow (record first { reading = asking first.reading 0; ages = record (at_time first.ages now) { last = 0 }; interrupted = true }) calls
      → Follow first (Interrupted now ∷ calls)
  interrupted_then now told is later = next first _ (Interrupted now) calls
      (record { text = first.text; stays = true; keeps = stays is; all_told = told; noted = refl }) later

  abbrev pub policy_then : (policy : Policy) → Follow (record first { policy = policy }) calls → Follow first (SetPolicy policy ∷ calls)
  policy_then policy later = next first _ (SetPolicy policy) calls refl later

  abbrev pub parts_then : (limit : Option ℕ) → Follow (record first { parts = limit; stage = read_again first.stage }) calls
      → Follow first (SetParts limit ∷ calls)
  parts_then limit later = next first _ (SetParts limit) calls refl later

-- neither limit has passed
pub not_passed : (parser : Timed) (limit : Limit) (now : ℕ)
    → ((millis : ℕ) → limit.millis ≡ Some millis → age_at parser.ages limit.by now < millis)
    → (parser.interrupted ≡ true → age_at parser.ages Last now < 1000) → ¬ HasPassed parser limit now
not_passed parser limit now early within (by_policy is) = omega (arith, early is.millis is.limited, is.reached)
not_passed parser limit now early within (by_interruption flag what is) =
    let limited = is.limited in let same : 1000 ≡ is.millis = cc (limited) in omega (arith, within flag, same, is.reached)
