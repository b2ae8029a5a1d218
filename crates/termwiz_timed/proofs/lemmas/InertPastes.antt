-- A paste is inert.
use Rattle.std.proofs.Common.{◌≡◌, ◌≢◌, ◌⊎◌, inl, inr, ℕ, ◌+◌, ◌<◌, ◌≤◌, Bool, true, false, List, [], ◌∷◌, ◌++◌, length, length-append, append_assoc, append-nil, None, if◌then◌else◌, refl, sym, ap, ◌∙◌, subst, arith}
use Rattle.std.specs.Prelude.{codes}
use Rattle.std.specs.List.{AllByRecursion}
use Rattle.std.specs.Str.Lossy.{utf8_lossy}
use Rattle.std.proofs.lemmas.List.{append_cancel_left}
use Rattle.termwiz_keymap.specs.Bytes.{Begins, Occurs}
use Rattle.termwiz_keys.specs.Introducers.{ESC, START, END}
use Rattle.termwiz_keys.specs.declared.types.InputEvent.TheVariants.{Paste as PortsPaste}
use Rattle.termwiz_grammar.specs.Grammar.{EndsFirst}
use Rattle.termwiz_grammar.specs.PasteParts.{IsParted}
use Rattle.termwiz_grammar.specs.WaitingKinds.{IsOpenPaste}
use Rattle.termwiz_grammar.proofs.lemmas.pastes.FirstEnd.{Ends as EndsAt, ends_once, find_end}
use Rattle.termwiz_grammar.proofs.lemmas.pastes.FirstEnd.Ends.{ends, endless}
use Rattle.termwiz_grammar.proofs.lemmas.pastes.HeldBytes.{comes_after}
use Rattle.termwiz_grammar.proofs.lemmas.pastes.PartsJoin.{paste_stands}
use Rattle.termwiz_grammar.proofs.lemmas.items.OneItem.{item_once}
use Rattle.termwiz_input.specs.declared.time.Age.TheVariants.{Last}
use Rattle.termwiz_input.specs.declared.time.Limit.{Limit}
use Rattle.termwiz_input.specs.Time.{longest}
use Rattle.termwiz_extended_events.specs.declared.types.Dialect.{Dialect}
use Rattle.termwiz_extended_events.specs.declared.types.Event.{Event}
use Rattle.termwiz_extended_events.specs.declared.types.Event.TheVariants.{Paste}
use Rattle.termwiz_extended_events.specs.declared.types.Reading.{Reading}
use Rattle.termwiz_extended_grammar.specs.ExtendedGrammar.{IsRest, Means, Stands, StartsExtended, Steps}
use Rattle.termwiz_extended_grammar.specs.ExtendedGrammar.Stands.{extra, alt_key, lone_escape, string, usual}
use Rattle.termwiz_extended_grammar.specs.Readings.{after_event}
use Rattle.termwiz_extended_grammar.specs.declared.waiting.ExtendedWaiting.TheVariants as kind
use Rattle.termwiz_extended_grammar.proofs.lemmas.cuts.ExtendedCuts.{resumes}
use Rattle.termwiz_extended_grammar.proofs.lemmas.cuts.PartsOfPastes.{parts_join, usual_start}
use Rattle.termwiz_extended_grammar.proofs.lemmas.items.ExtendedItems.{apart_starts, starts_shape, starts_with}
use Rattle.termwiz_extended_grammar.proofs.lemmas.items.StringItems.{string_opening}
use Rattle.termwiz_extended_grammar.proofs.lemmas.items.ExtendedRests.{one_meaning}
use Rattle.termwiz_extended_grammar.proofs.lemmas.waiting.KindsOfRests.{waiting_kinds}
use Rattle.termwiz_input_extended.specs.ExtendedExpiry.{IsLimitOf, limit_of_waiting}
use Rattle.termwiz_timed.specs.declared.parser.Stage.{Stage}
use Rattle.termwiz_timed.specs.declared.parser.Stage.TheVariants as stage
use Rattle.termwiz_timed.specs.declared.parser.TimedEvent.{TimedEvent}
use Rattle.termwiz_timed.specs.declared.parser.TimedEvent.TheVariants.{Whole, PastePart}
use Rattle.termwiz_timed.specs.AgesInTime.{age_at}
use Rattle.termwiz_timed.specs.Timed.{Timed, HasPassed, flushed, more_comes, new_timed, read_again, while_buffered}
use Rattle.termwiz_timed.specs.Timed.HasPassed.{by_policy, by_interruption}
use Rattle.termwiz_timed.specs.Steps.{Call, Idles, Keeps, Skips, Step, Tells, after_item}
use Rattle.termwiz_timed.specs.Steps.Call.{AllTold, End, ExpectPosition, Feed, Flush, ForgetPositions, Idle, Interrupted, Refused, Reset, SetParts, SetPolicy, SetReading, SkipPaste, Told}
use Rattle.termwiz_timed.specs.Steps.Keeps.{stays, forgotten}
use Rattle.termwiz_timed.specs.Steps.Skips.{skipped, nothing as nothing_skipped}
use Rattle.termwiz_timed.specs.Steps.Tells.{item, part, paste_ended}
use Rattle.termwiz_timed.specs.Runs.{IsRun, Moment, WasOpen, bytes_in, bytes_of, last_of, since_bytes, told_in, told_of}
use Rattle.termwiz_timed.specs.RunLaws.{AreWithinASecond, IsInert, IsWithinASecond, LeavesPastes, OnlyParts, PasteAfterParts, PasteIsInert}
use Rattle.termwiz_timed.proofs.lemmas.ReadsCut.{means_once, rest_means}
use Rattle.termwiz_timed.proofs.lemmas.DueInTime.{reaches}
use Rattle.termwiz_timed.proofs.lemmas.RunAges.{run_aged, run_open}
use Rattle.termwiz_timed.proofs.lemmas.RunBounds.{step_less}
use Rattle.termwiz_timed.proofs.lemmas.RunRests.{new_rests, run_rests, start_parted}

-- END stands nowhere but at the end
abbrev pub EndsNowhereElse : List ℕ → Type 0
EndsNowhereElse bytes = (before after : List ℕ) → bytes ≡ before ++ END ++ after → after ≡ []

-- what stands at a paste with its end leaves what follows
leaves : (reading : Reading) (inner rest left : List ℕ) (more : Bool) (event : Event) → EndsFirst inner
    → Stands reading (START ++ (inner ++ END ++ rest)) more left event → left ≡ rest
leaves reading inner rest left more event first stands = go left event stands
  where
    begins : Begins START (START ++ (inner ++ END ++ rest))
    begins = (inner ++ END ++ rest, refl)

    no_escape : (v : List ℕ) → START ++ (inner ++ END ++ rest) ≡ ESC ++ v → StartsExtended reading v → ⊥
    no_escape v split starts =
        let bracket : v ≡ 91 ∷ (codes "200~" ++ (inner ++ END ++ rest)) = cc (split) in
        let first : ◌≡◌ {A = ℕ} 27 91 = cc ((starts_shape reading v starts).2, bracket) in omega arith

    go : (left : List ℕ) (event : Event) → Stands reading (START ++ (inner ++ END ++ rest)) more left event → left ≡ rest
    go left event (extra text left2 e is split) = absurd ((usual_start reading _ more begins).none
        (inl (record { text = text; event = e; is_extra = is; begins = (left2, split) })))
    go left event (alt_key text left2 e is bare split) = absurd (no_escape (text ++ left2) split (starts_with reading text left2 e is))
    go left event (lone_escape v split after) = absurd (no_escape v split (apart_starts reading v after))
    go left event (string kind head bytes after left2 e reads is comes) =
        absurd ((usual_start reading _ more begins).none (inr (reads, string_opening _ kind head bytes after is)))
    go left event (usual bytes left2 e here split is gap) =
        let one = item_once (START ++ (inner ++ END ++ rest)) more bytes (START ++ inner ++ END) e (PortsPaste (utf8_lossy inner)) here.item
        (paste_stands inner rest more first).item in
        append_cancel_left (START ++ inner ++ END) left2 rest (ap (λ x. x ++ left2) (sym one.0) ∙ sym split)

-- what stands at START is a paste, which leaves what follows END
record IsFirstPaste (body left : List ℕ) (event : Event) : Type 0 where
  text : List ℕ
  is_paste : event ≡ Paste text
  inner : List ℕ
  splits : body ≡ inner ++ END ++ left
  first : EndsFirst inner

paste_first : (reading : Reading) (body left : List ℕ) (more : Bool) (event : Event)
    → Steps reading (START ++ body) more (event ∷ []) left → IsFirstPaste body left event
paste_first reading body left more event steps = by_end (find_end body)
  where
    means : (E : List Event) × (W : List ℕ) × Means reading (START ++ body) more (event ∷ E) W
    means = let m = one_meaning (after_event reading event) left more in
        (m.0, m.1, (resumes reading (START ++ body) [] left m.1 (event ∷ []) m.0 more).1 steps m.2)

    by_end : EndsAt body → IsFirstPaste body left event
    by_end (ends inner rest e first) =
        let there : Occurs END body = (inner, rest, e) in
        let (s, D, R, given) = ((parts_join reading START [] [] body more start_parted).0 there).1 in
        let same = (means_once reading (START ++ body) more (event ∷ means.0) (Paste s ∷ D) means.1 R means.2 given).0 in
        let (between, stands, none) = steps in
        let its : between ≡ rest = leaves reading inner rest between more event first
        (subst (λ b. Stands reading (START ++ b) more between event) e stands) in
        record { text = s; is_paste = cc (same); inner = inner; splits = e ∙ ap (λ x. inner ++ END ++ x) (sym its ∙ none); first = first }
    by_end (endless none) =
        let waits = ((parts_join reading START [] [] body more start_parted).1 none).whole_waits in
        let same = (means_once reading (START ++ body) more (event ∷ means.0) [] means.1 (START ++ body) means.2 waits).0 in
        absurd (cc (same))

-- What is buffered of a paste ends its bytes. Whatever comes, END comes in it where it comes in all of them, and first where it first does there.
record IsLeft (bytes body : List ℕ) : Type 0 where
  taken : List ℕ
  splits : bytes ≡ taken ++ body
  comes : (c : List ℕ) → Occurs END (bytes ++ c) → Occurs END (body ++ c)
  first : (c inner rest : List ℕ) → body ++ c ≡ inner ++ END ++ rest → EndsFirst inner → EndsFirst (taken ++ inner)

left_all : (body : List ℕ) → IsLeft body body
left_all body = record { taken = []; splits = refl; comes = λ c there. there; first = λ c inner rest e first. first }

left_same : (bytes body : List ℕ) → IsLeft bytes body → IsLeft (bytes ++ []) body
left_same bytes body is = subst (λ b. IsLeft b body) (sym (append-nil bytes)) is

left_more : (bytes body more : List ℕ) → IsLeft bytes body → IsLeft (bytes ++ more) (body ++ more)
left_more bytes body more is = record {
  taken = is.taken;
  splits = ap (λ b. b ++ more) is.splits ∙ append_assoc is.taken body more;
  comes = λ c there. subst (Occurs END) (sym (append_assoc body more c)) (is.comes (more ++ c) (subst (Occurs END) (append_assoc bytes more c) there));
  first = λ c inner rest e first. is.first (more ++ c) inner rest (sym (append_assoc body more c) ∙ e) first;
}

-- what is held back ends where the whole does
left_held : (bytes body text decided held : List ℕ) → text ≡ START ++ body → IsParted text decided held → IsLeft bytes body → IsLeft bytes held
left_held bytes body text decided held at parted is = record {
  taken = is.taken ++ decided;
  splits = is.splits ∙ ap (λ b. is.taken ++ b) split ∙ sym (append_assoc is.taken decided held);
  comes = λ c there.
      let after = comes_after decided held c parted.endless parted.is_held (subst (λ b. Occurs END (b ++ c)) split (is.comes c there)) in
      (after.inner, after.rest, after.left_splits);
  first = λ c inner rest e first.
      let whole : body ++ c ≡ decided ++ inner ++ END ++ rest =
      ap (λ b. b ++ c) split ∙ append_assoc decided held c ∙ ap (λ b. decided ++ b) (e ∙ append_assoc inner END rest)
      ∙ sym (append_assoc decided inner (END ++ rest)) ∙ sym (append_assoc (decided ++ inner) END rest) in
      let there : Occurs END (decided ++ held ++ c) = (decided ++ inner, rest, ap (λ b. b ++ c) (sym split) ∙ whole) in
      let after = comes_after decided held c parted.endless parted.is_held there in
      let same = ends_once after.inner inner after.rest rest (sym after.left_splits ∙ e) after.left_first first in
      subst EndsFirst (sym (append_assoc is.taken decided inner))
      (is.first c (decided ++ inner) rest whole (subst (λ b. EndsFirst (decided ++ b)) same after.whole_first));
}
  where
    split : body ≡ decided ++ held
    split = cc (at, parted.splits)

-- all of them end where what is buffered does
ends_there : (bytes body : List ℕ) → IsLeft bytes body → Occurs END body → Occurs END bytes
ends_there bytes body is (before, after, e) = (
  is.taken ++ before,
  after,
  is.splits ∙ ap (λ b. is.taken ++ b) (e ∙ append_assoc before END after) ∙ sym (append_assoc is.taken before (END ++ after))
      ∙ sym (append_assoc (is.taken ++ before) END after),
)

nowhere_else : (bytes body : List ℕ) → IsLeft bytes body → EndsNowhereElse bytes → EndsNowhereElse body
unfolding ends_there
nowhere_else bytes body is last before after e = last (is.taken ++ before) after (ends_there bytes body is (before, after, e)).2

-- more parts, or the paste after them
parts_then : (told more : List TimedEvent) → OnlyParts told → OnlyParts more → OnlyParts (told ++ more)
parts_then [] more only also = also
parts_then (PastePart text ∷ told) more only also = parts_then told more only also
parts_then (Whole event ∷ told) more only also = absurd only

paste_then : (told : List TimedEvent) (text : List ℕ) → OnlyParts told → PasteAfterParts (told ++ Whole (Paste text) ∷ [])
paste_then [] text only = tt
paste_then (PastePart first ∷ told) text only = paste_then told text only
paste_then (Whole event ∷ told) text only = absurd only

-- and whatever comes later
paste_stays : (told more : List TimedEvent) → PasteAfterParts told → PasteAfterParts (told ++ more)
paste_stays [] more is = absurd is
paste_stays (PastePart first ∷ told) more is = paste_stays told more is
paste_stays (Whole (Paste text) ∷ told) more is = tt
paste_stays (Whole _ ∷ told) more is = absurd is

-- parts of a paste or none, then the paste's event, and nothing after it is told or left
pub record IsWholePaste (told : List TimedEvent) (parser : Timed) : Type 0 where
  pub parts : List TimedEvent
  pub text : List ℕ
  pub only : OnlyParts parts
  pub splits : told ≡ parts ++ Whole (Paste text) ∷ []
  pub nothing_left : parser.text ≡ []

-- The paste that began with these bytes is open, of which only parts were told; or its end came, and it was told. If nothing came after its end,
-- nothing else was told.
data IsPasting (parser : Timed) (bytes : List ℕ) (told : List TimedEvent) : Type 0 where
  goes_on : (body : List ℕ) → parser.text ≡ START ++ body → IsLeft bytes body
      → OnlyParts told → parser.stage ≢ stage.Ending → parser.policy.paste ≡ None → IsPasting parser bytes told
  ended : Occurs END bytes → PasteAfterParts told → (EndsNowhereElse bytes → IsWholePaste told parser) → IsPasting parser bytes told

-- a paste that goes on does so in a parser that has the same text, or less of it
module _ (old : Timed) (bytes : List ℕ) (told : List TimedEvent) where
  kept : (new : Timed) (body : List ℕ) → old.text ≡ START ++ body → IsLeft bytes body
      → OnlyParts told → new.text ≡ old.text → new.stage ≢ stage.Ending → new.policy.paste ≡ None → IsPasting new (bytes ++ []) (told ++ [])
  kept new body at is_left only text stage_is policy = goes_on body (text ∙ at) (left_same bytes body is_left)
      (subst OnlyParts (sym (append-nil told)) only) stage_is policy

  parted : (new : Timed) (body decided held : List ℕ) (more : List TimedEvent) → old.text ≡ START ++ body
      → IsLeft bytes body → OnlyParts told → IsParted old.text decided held
      → new.text ≡ START ++ held → OnlyParts more → new.stage ≢ stage.Ending → new.policy.paste ≡ None
      → IsPasting new (bytes ++ []) (told ++ more)
  parted new body decided held more at is_left only is text also stage_is policy =
      goes_on held text (left_same bytes held (left_held bytes body old.text decided held at is is_left))
      (parts_then told more only also) stage_is policy

  fed : (new : Timed) (body more : List ℕ) → old.text ≡ START ++ body → IsLeft bytes body
      → OnlyParts told → new.text ≡ old.text ++ more → new.stage ≢ stage.Ending → new.policy.paste ≡ None
      → IsPasting new (bytes ++ more) (told ++ [])
  fed new body more at is_left only text stage_is policy = goes_on (body ++ more) (text ∙ ap (λ x. x ++ more) at)
      (left_more bytes body more is_left) (subst OnlyParts (sym (append-nil told)) only) stage_is policy

not_ending_buffered : (text : List ℕ) (at : Stage) → at ≢ stage.Ending → while_buffered text at ≢ stage.Ending
not_ending_buffered [] at not e = cc (e)
not_ending_buffered (byte ∷ text) at not e = not e

not_ending_flushed : (at : Stage) → at ≢ stage.Ending → flushed at ≢ stage.Ending
not_ending_flushed stage.AllTold not e = cc (e)
not_ending_flushed stage.Untold not e = cc (e)
not_ending_flushed stage.Flushing not e = cc (e)
not_ending_flushed stage.Ending not e = not refl

not_ending_again : (at : Stage) → at ≢ stage.Ending → read_again at ≢ stage.Ending
not_ending_again stage.AllTold not e = cc (e)
not_ending_again stage.Untold not e = cc (e)
not_ending_again stage.Flushing not e = cc (e)
not_ending_again stage.Ending not e = not refl

not_ending_idle : (due : Bool) (at : Stage) → ¬ (due ≡ true) → at ≢ stage.Ending → (if due then stage.Ending else at) ≢ stage.Ending
not_ending_idle true at not not_ending e = not refl
not_ending_idle false at not not_ending e = not_ending e

-- a paste that waits is open
open_endless : (parser : Timed) (body : List ℕ) → IsRest parser.reading parser.text true → parser.text ≡ START ++ body → ¬ Occurs END body
open_endless parser body rest at there =
    let (s, D, R, given) = ((parts_join parser.reading START [] [] body true start_parted).0 there).1 in
    let here = subst (λ t. Means parser.reading t true (Paste s ∷ D) R) (sym at) given in
    let no_more = (means_once parser.reading parser.text true (Paste s ∷ D) [] R parser.text here
    (rest_means parser.reading parser.text true rest)).0 in cc (no_more)

-- the limit of an open paste is the policy's
paste_limit : (parser : Timed) (limit : Limit) (body : List ℕ) → IsRest parser.reading parser.text true → parser.text ≡ START ++ body
    → IsLimitOf parser.policy parser.reading parser.text limit → parser.policy.paste ≡ None → limit.millis ≡ None
paste_limit parser limit body rest at is none =
    let kinds = waiting_kinds parser.reading parser.text true rest in
    let open_paste : IsOpenPaste parser.text = record { body = body; splits = at; endless = open_endless parser body rest at } in
    let same : is.kind ≡ kind.Paste = kinds.2 is.kind (is.is_kind true rest) ∙ sym (kinds.2 kind.Paste open_paste) in
    ap (λ (l : Limit). l.millis) (is.is_limit ∙ ap (λ k. limit_of_waiting parser.policy k (length parser.text)) same) ∙ none

-- what came stays there
still_there : (bytes more : List ℕ) → Occurs END bytes → Occurs END (bytes ++ more)
still_there bytes more (before, after, e) = (before, after ++ more, ap (λ x. x ++ more) e ∙ append_assoc (before ++ END) after more)

-- what tells an event
module _ (old : Timed) (bytes : List ℕ) (told : List TimedEvent) (body : List ℕ) (at : old.text ≡ START ++ body)
    (is_left : IsLeft bytes body) (only : OnlyParts told) (stage_is : old.stage ≢ stage.Ending) (policy : old.policy.paste ≡ None) where
  tells_pasting : (new : Timed) (event : TimedEvent) → Tells old event new → IsPasting new (bytes ++ []) (told ++ event ∷ [])
  tells_pasting new event (item given left steps) =
      let first = paste_first old.reading body left (more_comes old.stage) given
      (subst (λ t. Steps old.reading t (more_comes old.stage) (given ∷ []) left) at steps) in
      let same = left_same bytes body is_left in
      let there : Occurs END body = (first.inner, left, first.splits) in
      ended (ends_there (bytes ++ []) body same there)
      (subst (λ (e : Event). PasteAfterParts (told ++ Whole e ∷ [])) (sym first.is_paste) (paste_then told first.text only))
      (λ last. record {
        parts = told;
        text = first.text;
        only = only;
        splits = ap (λ (e : Event). told ++ Whole e ∷ []) first.is_paste;
        nothing_left = nowhere_else (bytes ++ []) body same last first.inner left first.splits;
      })
  tells_pasting new event (part limit text left on taken) =
      parted old bytes told new body taken.decided taken.held (PastePart text ∷ []) at is_left only taken.parted taken.leaves tt stage_is policy
  tells_pasting new event (paste_ended given ends_here none is) = absurd (stage_is ends_here)

  skips_pasting : (new : Timed) → Skips old new → IsPasting new (bytes ++ []) (told ++ [])
  skips_pasting new (skipped count left is) =
      parted old bytes told new body is.decided is.held [] at is_left only is.parted is.leaves tt stage_is policy
  skips_pasting new (nothing_skipped closed) = kept old bytes told new body at is_left only refl stage_is policy

  -- a paste stays when the parser is interrupted
  keeps_pasting : (text : List ℕ) (stays_so : Bool) → Keeps old text stays_so → text ≡ old.text
  keeps_pasting text stays_so (stays is) = refl
  keeps_pasting text stays_so (forgotten not) = absurd (not (inl (body, at)))

  at_same : (new same : Timed) → new ≡ same → same.text ≡ old.text → same.stage ≢ stage.Ending → same.policy.paste ≡ None
      → IsPasting new (bytes ++ []) (told ++ [])
  at_same new same e text stage_then policy_then = subst (λ (p : Timed). IsPasting p (bytes ++ []) (told ++ [])) (sym e)
      (kept old bytes told same body at is_left only text stage_then policy_then)

  step_pasting : (call : Call) (new : Timed) → ((now : ℕ) (due : Bool) → call ≡ Idle now due → ¬ (due ≡ true)) → LeavesPastes call
      → Step old call new → IsPasting new (bytes ++ bytes_in call) (told ++ told_in call)
  step_pasting (Feed now more) new quiet leaves (ready, e) = subst (λ (p : Timed). IsPasting p (bytes ++ more) (told ++ [])) (sym e)
      (fed old bytes told _ body more at is_left only refl (λ no_end. cc (no_end)) policy)
  step_pasting (Told event) new quiet leaves tells = tells_pasting new event tells
  step_pasting AllTold new quiet leaves none = at_same new _ none.told refl (λ no_end. cc (no_end)) policy
  step_pasting (Idle now due) new quiet leaves idles =
      at_same new _ idles.noted refl (not_ending_idle due old.stage (quiet now due refl) stage_is) policy
  step_pasting Flush new quiet leaves e =
      at_same new _ e refl (not_ending_buffered old.text (flushed old.stage) (not_ending_flushed old.stage stage_is)) policy
  step_pasting End new quiet leaves e = absurd leaves
  step_pasting (Interrupted now) new quiet leaves is =
      at_same new _ is.noted (keeps_pasting is.text is.stays is.keeps) stage_is policy
  step_pasting (SetPolicy given) new quiet leaves e = at_same new _ e refl stage_is leaves
  step_pasting (SetReading reading) new quiet leaves e = at_same new _ e refl (not_ending_again old.stage stage_is) policy
  step_pasting ExpectPosition new quiet leaves e = at_same new _ e refl stage_is policy
  step_pasting ForgetPositions new quiet leaves e = at_same new _ e refl stage_is policy
  step_pasting (SetParts limit) new quiet leaves e = at_same new _ e refl (not_ending_again old.stage stage_is) policy
  step_pasting SkipPaste new quiet leaves skips = skips_pasting new skips
  step_pasting Reset new quiet leaves e = absurd leaves
  step_pasting Refused new quiet leaves e = at_same new _ e refl stage_is policy

-- after a paste with nothing left nothing is told, if nothing comes
no_more : {A : Type 0} (front back : List A) → length back ≤ 0 → front ++ back ≡ front
no_more front [] none = append-nil front
no_more front (x ∷ back) none = absurd (omega (arith, none))

empty : {A : Type 0} (xs : List A) → length xs ≤ 0 → xs ≡ []
empty [] none = refl
empty (x ∷ xs) none = absurd (omega (arith, none))

whole_stays : (call : Call) (old new : Timed) (bytes : List ℕ) (told : List TimedEvent) → Step old call new → Occurs END bytes
    → (EndsNowhereElse bytes → IsWholePaste told old) → EndsNowhereElse (bytes ++ bytes_in call) → IsWholePaste (told ++ told_in call) new
whole_stays call old new bytes told step (before, after, e) whole last = record {
  parts = is.parts;
  text = is.text;
  only = is.only;
  splits = no_more told (told_in call) (omega (arith, less, nothing_came, ap length is.nothing_left)) ∙ is.splits;
  nothing_left = empty new.text (omega (arith, less, nothing_came, ap length is.nothing_left));
}
  where
    nothing_came : length (bytes_in call) ≡ 0
    nothing_came = omega (
      arith,
      ap length (last before (after ++ bytes_in call) (ap (λ x. x ++ bytes_in call) e ∙ append_assoc (before ++ END) after (bytes_in call))),
      length-append after (bytes_in call),
    )

    none_after : bytes ++ bytes_in call ≡ bytes
    none_after = no_more bytes (bytes_in call) (omega (arith, nothing_came))

    is : IsWholePaste told old
    is = whole (subst EndsNowhereElse none_after last)

    less : length (told_in call) + length new.text ≤ length old.text + length (bytes_in call)
    less = step_less call old new step

-- once the paste was told anything may be
any_step : (call : Call) (old new : Timed) (bytes : List ℕ) (told : List TimedEvent)
    → ((now : ℕ) (due : Bool) → call ≡ Idle now due → (body : List ℕ) → old.text ≡ START ++ body → old.policy.paste ≡ None → ¬ (due ≡ true))
    → LeavesPastes call → Step old call new → IsPasting old bytes told → IsPasting new (bytes ++ bytes_in call) (told ++ told_in call)
any_step call old new bytes told quiet leaves step (goes_on body at is_left only stage_is policy) =
    step_pasting old bytes told body at is_left only stage_is policy call new (λ now due e. quiet now due e body at policy) leaves step
any_step call old new bytes told quiet leaves step (ended there after whole) =
    ended (still_there bytes (bytes_in call) there) (paste_stays told (told_in call) after)
    (λ last. whole_stays call old new bytes told step there whole last)

-- an open paste isn't due, if pastes wait forever and no second passed since the parser was interrupted
module _ (dialect : Dialect) (moments : List Moment) (run : IsRun (new_timed dialect) moments) where
  not_passed : (limit : Limit) (now : ℕ) → limit.millis ≡ None → (WasOpen (new_timed dialect) moments → since_bytes moments now < 1000)
      → ¬ HasPassed (last_of (new_timed dialect) moments) limit now
  not_passed limit now none within (by_policy is) = let limited = is.limited in cc (none, limited)
  not_passed limit now none within (by_interruption flag what is) =
      let aged = run_aged (new_timed dialect) moments refl run in
      let known = run_open (new_timed dialect) moments refl run in
      let early = within (known.0 flag) in
      let limited = is.limited in
      let same : 1000 ≡ is.millis = cc (limited) in
      let late = reaches is.millis (age_at (last_of (new_timed dialect) moments).ages Last now) (since_bytes moments now) longest
      (aged.last_is now) is.reached in
      absurd (omega (arith, same, early, late))

  quiet_idle : (call : Call) (after : Timed) → Step (last_of (new_timed dialect) moments) call after
      → IsWithinASecond (new_timed dialect) moments call → (now : ℕ) (due : Bool) → call ≡ Idle now due → (body : List ℕ)
      → (last_of (new_timed dialect) moments).text ≡ START ++ body → (last_of (new_timed dialect) moments).policy.paste ≡ None → ¬ (due ≡ true)
  quiet_idle call after step within now due e body at policy is =
      let parser = last_of (new_timed dialect) moments in
      let idles : Idles parser now due after = subst (λ (c : Call). Step parser c after) e step in
      let early : IsWithinASecond (new_timed dialect) moments (Idle now due) = subst (λ (c : Call). IsWithinASecond (new_timed dialect) moments c) e within in
      let both = idles.is_due.0 is in
      let rest = run_rests (new_timed dialect) moments (new_rests dialect) run both.0 in
      not_passed idles.limit now (paste_limit parser idles.limit body rest at idles.limited policy) early both.1

pasting : (dialect : Dialect) (before segment : List Moment) (body : List ℕ) → IsRun (new_timed dialect) (segment ++ before)
    → IsPasting (last_of (new_timed dialect) before) body []
    → AllByRecursion (λ (moment : Moment). LeavesPastes moment.call) segment → AreWithinASecond (new_timed dialect) before segment
    → IsPasting (last_of (new_timed dialect) (segment ++ before)) (body ++ bytes_of segment) (told_of segment)
pasting dialect before [] body run is all within =
    subst (λ b. IsPasting (last_of (new_timed dialect) before) b []) (sym (append-nil body)) is
pasting dialect before (moment ∷ earlier) body (run, step) is (leaves, others) (all_within, within) =
    let so_far = pasting dialect before earlier body run is others all_within in
    subst (λ b. IsPasting moment.after b (told_of earlier ++ told_in moment.call)) (append_assoc body (bytes_of earlier) (bytes_in moment.call))
    (any_step moment.call (last_of (new_timed dialect) (earlier ++ before)) moment.after (body ++ bytes_of earlier) (told_of earlier)
    (quiet_idle dialect (earlier ++ before) run moment.call moment.after step within) leaves step so_far)

is_inert : (parser : Timed) (body : List ℕ) (segment : List Moment) → IsPasting parser (body ++ bytes_of segment) (told_of segment)
    → IsInert body segment parser
is_inert parser body segment (goes_on left at is_left only stage_is policy) = record {
  told = inl only;
  endless = λ free. (
    only,
    record { body = left; splits = at; endless = λ there. free (ends_there (body ++ bytes_of segment) left is_left there) },
  );
}
is_inert parser body segment (ended there after whole) = record { told = inr after; endless = λ free. absurd (free there) }

pub paste_is_inert : PasteIsInert
paste_is_inert dialect before segment body run at stage_is policy all within =
    is_inert (last_of (new_timed dialect) (segment ++ before)) body segment
    (pasting dialect before segment body run (goes_on body at (left_all body) tt stage_is policy) all within)

-- Where END stands nowhere but at the end, nothing is told but parts of the paste, or these and then the paste, with nothing left. Once END came
-- and all is told, the paste is.
pub record IsInertWhole (bytes : List ℕ) (events : List TimedEvent) (last : Timed) : Type 0 where
  pub told : OnlyParts events ⊎ IsWholePaste events last
  pub whole : Occurs END bytes → last.stage ≡ stage.AllTold → IsWholePaste events last

pub whole_paste_is_inert : (dialect : Dialect) (before segment : List Moment) (body : List ℕ) → IsRun (new_timed dialect) (segment ++ before)
    → (last_of (new_timed dialect) before).text ≡ START ++ body → (last_of (new_timed dialect) before).stage ≢ stage.Ending
    → (last_of (new_timed dialect) before).policy.paste ≡ None
    → AllByRecursion (λ (moment : Moment). LeavesPastes moment.call) segment → AreWithinASecond (new_timed dialect) before segment
    → EndsNowhereElse (body ++ bytes_of segment)
    → IsInertWhole (body ++ bytes_of segment) (told_of segment) (last_of (new_timed dialect) (segment ++ before))
whole_paste_is_inert dialect before segment body run at stage_is policy all within last =
    by_pasting (pasting dialect before segment body run (goes_on body at (left_all body) tt stage_is policy) all within)
  where
    by_pasting : IsPasting (last_of (new_timed dialect) (segment ++ before)) (body ++ bytes_of segment) (told_of segment)
        → IsInertWhole (body ++ bytes_of segment) (told_of segment) (last_of (new_timed dialect) (segment ++ before))
    by_pasting (goes_on left here is_left only goes_stage goes_policy) = record {
      told = inl only;
      whole = λ there all_told. absurd (open_endless (last_of (new_timed dialect) (segment ++ before)) left
          (run_rests (new_timed dialect) (segment ++ before) (new_rests dialect) run all_told) here
          (subst (Occurs END) (append-nil left) (is_left.comes [] (still_there (body ++ bytes_of segment) [] there))));
    }
    by_pasting (ended there after whole) = record { told = inr (whole last); whole = λ came all_told. whole last }

-- At a moment of a segment the paste is told. Before it only parts are, and with it what came after its end stays buffered, and nothing else.
pub record IsToldAt (body : List ℕ) (segment : List Moment) : Type 0 where
  pub later : List Moment
  pub moment : Moment
  pub earlier : List Moment
  pub text : List ℕ
  pub splits : segment ≡ later ++ moment ∷ earlier
  pub only : OnlyParts (told_of earlier)
  pub tells : moment.call ≡ Told (Whole (Paste text))
  pub inner : List ℕ
  pub first : EndsFirst inner
  pub bytes : body ++ bytes_of earlier ≡ inner ++ END ++ moment.after.text

-- a paste that was told isn't parts alone
not_only_parts : (told : List TimedEvent) → OnlyParts told → PasteAfterParts told → ⊥
not_only_parts [] only is = is
not_only_parts (PastePart text ∷ told) only is = not_only_parts told only is
not_only_parts (Whole event ∷ told) only is = only

-- more parts are told, or the paste is
module _ (body : List ℕ) (old : Timed) (earlier : List Moment) (only : OnlyParts (told_of earlier)) (left : List ℕ) (at : old.text ≡ START ++ left)
    (is_left : IsLeft (body ++ bytes_of earlier) left) (stage_is : old.stage ≢ stage.Ending) where
  nothing_told : OnlyParts (told_of earlier ++ [])
  nothing_told = subst OnlyParts (sym (append-nil (told_of earlier))) only

  tells_now : (event : TimedEvent) (new : Timed) → Tells old event new
      → OnlyParts (told_of earlier ++ event ∷ []) ⊎ IsToldAt body (record { call = Told event; after = new } ∷ earlier)
  tells_now event new (item given after steps) =
      let first = paste_first old.reading left after (more_comes old.stage) given
      (subst (λ t. Steps old.reading t (more_comes old.stage) (given ∷ []) after) at steps) in
      inr (record {
        later = [];
        moment = record { call = Told (Whole given); after = after_item old given after };
        earlier = earlier;
        text = first.text;
        splits = refl;
        only = only;
        tells = ap (λ (e : Event). Told (Whole e)) first.is_paste;
        inner = is_left.taken ++ first.inner;
        first = is_left.first [] first.inner after (append-nil left ∙ first.splits) first.first;
        bytes = is_left.splits ∙ ap (λ b. is_left.taken ++ b) (first.splits ∙ append_assoc first.inner END after)
            ∙ sym (append_assoc is_left.taken first.inner (END ++ after)) ∙ sym (append_assoc (is_left.taken ++ first.inner) END after);
      })
  tells_now event new (part limit text after on taken) = inl (parts_then (told_of earlier) (PastePart text ∷ []) only tt)
  tells_now event new (paste_ended given ends_here none is) = absurd (stage_is ends_here)

  step_now : (call : Call) (new : Timed) → Step old call new
      → OnlyParts (told_of earlier ++ told_in call) ⊎ IsToldAt body (record { call = call; after = new } ∷ earlier)
  step_now (Told event) new tells = tells_now event new tells
  step_now (Feed now bytes) new step = inl nothing_told
  step_now AllTold new step = inl nothing_told
  step_now (Idle now due) new step = inl nothing_told
  step_now Flush new step = inl nothing_told
  step_now End new step = inl nothing_told
  step_now (Interrupted now) new step = inl nothing_told
  step_now (SetPolicy policy) new step = inl nothing_told
  step_now (SetReading reading) new step = inl nothing_told
  step_now ExpectPosition new step = inl nothing_told
  step_now ForgetPositions new step = inl nothing_told
  step_now (SetParts limit) new step = inl nothing_told
  step_now SkipPaste new step = inl nothing_told
  step_now Reset new step = inl nothing_told
  step_now Refused new step = inl nothing_told

pub told_at : (dialect : Dialect) (before segment : List Moment) (body : List ℕ) → IsRun (new_timed dialect) (segment ++ before)
    → (last_of (new_timed dialect) before).text ≡ START ++ body → (last_of (new_timed dialect) before).stage ≢ stage.Ending
    → (last_of (new_timed dialect) before).policy.paste ≡ None
    → AllByRecursion (λ (moment : Moment). LeavesPastes moment.call) segment → AreWithinASecond (new_timed dialect) before segment
    → OnlyParts (told_of segment) ⊎ IsToldAt body segment
told_at dialect before [] body run at stage_is policy all within = inl tt
told_at dialect before (moment ∷ earlier) body (run, step) at stage_is policy (leaves_pastes, others) (all_within, within) =
    so_far (told_at dialect before earlier body run at stage_is policy others all_within)
  where
    so_far : OnlyParts (told_of earlier) ⊎ IsToldAt body earlier
        → OnlyParts (told_of earlier ++ told_in moment.call) ⊎ IsToldAt body (moment ∷ earlier)
    so_far (inr is) = inr (record {
      later = moment ∷ is.later;
      moment = is.moment;
      earlier = is.earlier;
      text = is.text;
      splits = ap (λ (m : List Moment). moment ∷ m) is.splits;
      only = is.only;
      tells = is.tells;
      inner = is.inner;
      first = is.first;
      bytes = is.bytes;
    })
    so_far (inl only) = by_pasting (pasting dialect before earlier body run (goes_on body at (left_all body) tt stage_is policy) others all_within)
      where
        by_pasting : IsPasting (last_of (new_timed dialect) (earlier ++ before)) (body ++ bytes_of earlier) (told_of earlier)
            → OnlyParts (told_of earlier ++ told_in moment.call) ⊎ IsToldAt body (moment ∷ earlier)
        by_pasting (goes_on left here is_left still goes_stage goes_policy) =
            step_now body (last_of (new_timed dialect) (earlier ++ before)) earlier only left here is_left goes_stage moment.call moment.after step
        by_pasting (ended there after whole) = absurd (not_only_parts (told_of earlier) only after)
