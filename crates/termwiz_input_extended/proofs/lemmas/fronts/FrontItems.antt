-- What stands at a text by what is at its front.
use Rattle.std.proofs.Common.{◌≡◌, ◌≢◌, inl, inr, ⊎_elim, ℕ, Bool, true, List, [], ◌∷◌, ◌++◌, take, drop, refl, sym, ap, ◌∙◌, subst, take-append-drop}
use Rattle.termwiz_keymap.specs.Bytes.{Begins}
use Rattle.termwiz_keys.specs.Introducers.{ESC}
use Rattle.termwiz_keys.specs.declared.types.InputEvent.{InputEvent}
use Rattle.termwiz_keys.specs.declared.types.InputEvent.TheVariants.{Paste}
use Rattle.termwiz_grammar.specs.Grammar as port
use Rattle.termwiz_grammar.specs.Grammar.{IsBeginning}
use Rattle.termwiz_grammar.proofs.lemmas.items.ItemStable.{item_begins}
use Rattle.termwiz_extended_events.specs.declared.types.Event.{Event}
use Rattle.termwiz_extended_events.specs.declared.types.Dialect.TheVariants.{Termwiz}
use Rattle.termwiz_extended_events.specs.declared.types.Reading.{Reading}
use Rattle.termwiz_extended_events.specs.PortEvents.{told}
use Rattle.termwiz_extended_events.specs.Meanings.{NeedsMemory}
use Rattle.termwiz_extended_grammar.specs.ExtraSequences.{IsExtra}
use Rattle.termwiz_extended_grammar.specs.Strings.{StartsWithOpening}
use Rattle.termwiz_extended_grammar.specs.ExtendedGrammar.{BeginsExtended, BeginsKnown, HasItem, IsRest, Stands, StartsApart, StartsExtended, Steps, escape_event}
use Rattle.termwiz_extended_grammar.specs.ExtendedGrammar.Stands.{extra, alt_key, lone_escape, string, usual}
use Rattle.termwiz_extended_grammar.specs.ExtendedLaws.{HasNoExtra}
use Rattle.termwiz_extended_grammar.proofs.lemmas.forms.ExtraFacts.{completed_mark, mark_from_unfinished}
use Rattle.termwiz_extended_grammar.proofs.lemmas.forms.FormBytes.{mark_shape}
use Rattle.termwiz_extended_grammar.proofs.lemmas.items.StringItems.{string_opening}
use Rattle.termwiz_extended_grammar.proofs.lemmas.items.ExtendedItems.{apart_starts, starts_shape, starts_with, second_not_escape}
use Rattle.termwiz_extended_grammar.proofs.lemmas.cuts.SameAsPort.{nothing_more, usual_item, rest_of_port}
use Rattle.termwiz_extended_grammar.specs.Readings.{event_in}
use Rattle.termwiz_input_extended.specs.NextItems.{HasItemThatNeedsMemory, IsPortsOwn, IsUnfinishedFront}
use Rattle.termwiz_input_extended.specs.FormAnswers.{NoFormBegins}
use Rattle.termwiz_input_extended.proofs.lemmas.fronts.ExtraAnswers.{no_extra_without_form}

-- no extra sequence and no opening begins a text that doesn't begin with ESC, nor one that begins ESC ESC
pub not_escaped : (reading : Reading) (u : List ℕ) → (Begins ESC u → ⊥) → StartsExtended reading u → ⊥
not_escaped reading u never h = (let s = starts_shape reading u h in never (s.0 ∷ s.1, s.2))

pub not_two_escapes : (reading : Reading) (v : List ℕ) → Begins ESC v → StartsExtended reading (27 ∷ v) → ⊥
not_two_escapes reading v b h =
    let s = starts_shape reading (27 ∷ v) h in
    let same : s.0 ≡ 27 = cc (s.2, b.1) in second_not_escape s.0 s.3 same

-- where nothing properly begins an extra sequence or an opening, what is open is open to the port
pub none_open : (reading : Reading) (u : List ℕ) (f : Bool) → (StartsExtended reading u → ⊥) → (f ≡ true → u ≢ [] → BeginsExtended reading u → ⊥)
    → HasNoExtra reading u f
none_open reading u f none finished = record {
  none = none;
  open_to_port = λ h. ⊎_elim
      (λ (b : IsBeginning u). record { more_comes = h.more_comes; some = h.some; beginning = b })
      (λ (b : BeginsExtended reading u). absurd (finished h.more_comes h.some b))
      h.beginning;
}

-- where the port reads on by itself, its item stands
pub own_item : (reading : Reading) (u bytes left : List ℕ) (event : InputEvent) (f : Bool) → IsPortsOwn reading u f
    → port.Stands u f bytes event → u ≡ bytes ++ left → Stands reading u f left (told reading bytes event)
own_item reading u bytes left event f own stands split =
    usual_item reading u bytes left event f stands split own.here (λ v is after. own.after v after)

pub own_rest : (reading : Reading) (u : List ℕ) (f : Bool) → IsPortsOwn reading u f → port.IsRest u f → IsRest reading u f
own_rest reading u f own rest = rest_of_port reading u f rest own.here (λ v is split. own.after v split)

-- an item of the port is one here
pub own_has_item : (reading : Reading) (u : List ℕ) (f : Bool) → IsPortsOwn reading u f → port.HasItem u f → HasItem reading u f
own_has_item reading u f own (bytes, event, stands) =
    let b = item_begins u bytes event f stands.item in
    (b.0, told reading bytes event, own_item reading u bytes b.0 event f own stands b.1)

-- a paste of the port needs memory
pub own_refused : (reading : Reading) (u : List ℕ) (f : Bool) → IsPortsOwn reading u f → port.HasPaste u f → HasItemThatNeedsMemory reading u f
own_refused reading u f own (bytes, text, stands) =
    let b = item_begins u bytes (Paste text) f stands.item in
    record { left = b.0; event = told reading bytes (Paste text); stands = own_item reading u bytes b.0 (Paste text) f own stands b.1; needs = tt }

-- an extra sequence is one step, and needs memory if its event does
pub extra_step : (reading : Reading) (u : List ℕ) (len : ℕ) (event : Event) (f : Bool) → IsExtra reading (take len u) event
    → (made : Event) → made ≡ event_in reading (take len u) → Steps reading u f (made ∷ []) (drop len u)
extra_step reading u len event f is made means = (
  drop len u,
  extra (take len u) (drop len u) made (record { reads = is.reads; is_form = is.is_form; is_free = is.is_free; means = means }) (sym (take-append-drop len u)),
  refl,
)

pub extra_refused : (reading : Reading) (u : List ℕ) (len : ℕ) (event : Event) (f : Bool) → IsExtra reading (take len u) event
    → NeedsMemory event → HasItemThatNeedsMemory reading u f
extra_refused reading u len event f is needs = record {
  left = drop len u;
  event = event;
  stands = extra (take len u) (drop len u) event is (sym (take-append-drop len u));
  needs = needs;
}

-- the Escape before an extra sequence or an opening is one step
pub escape_step : (reading : Reading) (u v : List ℕ) (f : Bool) → u ≡ ESC ++ v → StartsApart reading v
    → Steps reading u f (escape_event ∷ []) (drop 1 u)
escape_step reading u v f split starts = (v, lone_escape v split starts, sym (ap (drop 1) split))

-- a text that begins with no ESC properly begins no extra sequence and no opening
pub unescaped_finished : (reading : Reading) (u : List ℕ) → (Begins ESC u → ⊥) → u ≢ [] → BeginsExtended reading u → ⊥
unescaped_finished reading [] never some h = some refl
unescaped_finished reading (x ∷ u) never some h =
    let m = completed_mark (x ∷ u) (mark_from_unfinished reading (x ∷ u) h) in
    let s = mark_shape (x ∷ u ++ m.0) m.2 in
    let first : x ≡ 27 = cc (s.2) in never (u, ap (λ z. z ∷ u) first)

-- nor does one that begins ESC ESC
pub two_escapes_finished : (reading : Reading) (v : List ℕ) → Begins ESC v → BeginsExtended reading (27 ∷ v) → ⊥
two_escapes_finished reading [] b h = absurd (cc (b.1))
two_escapes_finished reading (y ∷ v) b h =
    let m = completed_mark (27 ∷ y ∷ v) (mark_from_unfinished reading (27 ∷ y ∷ v) h) in
    let s = mark_shape (27 ∷ y ∷ v ++ m.0) m.2 in
    let same : s.0 ≡ 27 = cc (s.2, b.1) in second_not_escape s.0 s.4 same

-- a text that begins with no ESC is the port's own
pub own_without_escape : (reading : Reading) (u : List ℕ) (f : Bool) → (Begins ESC u → ⊥) → IsPortsOwn reading u f
own_without_escape reading u f never = record {
  here = none_open reading u f (not_escaped reading u never) (λ m some h. unescaped_finished reading u never some h);
  after = λ v split. absurd (never (v, split));
}

-- so is what begins with one ESC, if no extra sequence and no opening begins it, and it doesn't wait for one
pub own_after_escape : (reading : Reading) (u : List ℕ) (f : Bool) → Begins ESC u → (Begins (ESC ++ ESC) u → ⊥)
    → (StartsExtended reading u → ⊥) → (f ≡ true → BeginsExtended reading u → ⊥) → IsPortsOwn reading u f
own_after_escape reading u f b one none finished = record {
  here = none_open reading u f none (λ m some h. finished m h);
  after = λ v split. none_open reading v f (not_escaped reading v (unescaped v split))
      (λ m some h. unescaped_finished reading v (unescaped v split) some h);
}
  where
    unescaped : (v : List ℕ) → u ≡ ESC ++ v → Begins ESC v → ⊥
    unescaped v split c = one (c.0, split ∙ ap (λ x. 27 ∷ x) c.1)

-- in particular if no form and no opening begins it, and it doesn't wait for one
pub own_without_form : (reading : Reading) (u : List ℕ) (f : Bool) → Begins ESC u → (Begins (ESC ++ ESC) u → ⊥) → NoFormBegins reading.x10_mouse u
    → (StartsWithOpening u → ⊥) → (f ≡ true → IsUnfinishedFront reading.x10_mouse u → ⊥) → IsPortsOwn reading u f
own_without_form reading u f b one none never finished =
    own_after_escape reading u f b one (no_extra_without_form reading u none never)
    (λ m h. finished m (mark_from_unfinished reading u h))

-- and what begins ESC ESC, if the same is true of what follows the first one
pub own_after_two_escapes : (reading : Reading) (v : List ℕ) (f : Bool) → Begins ESC v → (StartsExtended reading v → ⊥)
    → (f ≡ true → BeginsExtended reading v → ⊥) → IsPortsOwn reading (27 ∷ v) f
own_after_two_escapes reading v f b none finished = record {
  here = none_open reading (27 ∷ v) f (not_two_escapes reading v b) (λ m some h. two_escapes_finished reading v b h);
  after = λ w split. subst (λ x. HasNoExtra reading x f) (let h : v ≡ w = cc (split) in h)
      (none_open reading v f none (λ m some h. finished m h));
}

-- nothing stands at an open text that begins with one ESC, if no extra sequence and no opening begins it
waits_for_known : (reading : Reading) (u : List ℕ) (f : Bool) → Begins ESC u → (Begins (ESC ++ ESC) u → ⊥)
    → (StartsExtended reading u → ⊥) → f ≡ true → BeginsKnown reading u → IsRest reading u f
waits_for_known reading u f b one none m h left event (extra text left2 e is split) =
    none (inl (record { text = text; event = e; is_extra = is; begins = (left2, split) }))
waits_for_known reading u f b one none m h left event (alt_key text left2 e is bare split) =
    let s = starts_shape reading (text ++ left2) (starts_with reading text left2 e is) in one (s.0 ∷ s.1, split ∙ ap (λ x. 27 ∷ x) s.2)
waits_for_known reading u f b one none m h left event (lone_escape v split after) =
    let s = starts_shape reading v (apart_starts reading v after) in one (s.0 ∷ s.1, split ∙ ap (λ x. 27 ∷ x) s.2)
waits_for_known reading u f b one none m h left event (string kind head bytes after left2 e reads is comes) =
    none (inr (reads, string_opening u kind head bytes after is))
waits_for_known reading u f b one none m h left event (usual s left2 e stands split is gap) =
    is.closed (record { more_comes = m; some = (λ e. cc (e, b.1)); beginning = h })

-- so nothing stands where it waits for an extra sequence or an opening
pub waits_for_extra : (reading : Reading) (u : List ℕ) (f : Bool) → Begins ESC u → (Begins (ESC ++ ESC) u → ⊥)
    → (StartsExtended reading u → ⊥) → f ≡ true → BeginsExtended reading u → IsRest reading u f
waits_for_extra reading u f b one none m h = waits_for_known reading u f b one none m (inr h)

pub waits_after_escape : (reading : Reading) (v : List ℕ) (f : Bool) → Begins ESC v
    → (StartsExtended reading v → ⊥) → f ≡ true → BeginsExtended reading v → IsRest reading (27 ∷ v) f
waits_after_escape reading v f b none m h left event (extra text left2 e is split) =
    not_two_escapes reading v b (inl (record { text = text; event = e; is_extra = is; begins = (left2, split) }))
waits_after_escape reading v f b none m h left event (alt_key text left2 e is bare split) =
    none (subst (λ x. StartsExtended reading x) (let k : text ++ left2 ≡ v = cc (split) in k) (starts_with reading text left2 e is))
waits_after_escape reading v f b none m h left event (lone_escape w split after) =
    none (subst (λ x. StartsExtended reading x) (let k : w ≡ v = cc (split) in k) (apart_starts reading w after))
waits_after_escape reading v f b none m h left event (string kind head bytes after left2 e reads is comes) =
    not_two_escapes reading v b (inr (reads, string_opening (27 ∷ v) kind head bytes after is))
waits_after_escape reading v f b none m h left event (usual s left2 e stands split is gap) =
    (gap v refl).closed (record { more_comes = m; some = (λ e. cc (e, b.1)); beginning = inr h })

-- where no more is read than the port's sequences, every text is the port's own
pub own_by_dialect : (reading : Reading) → reading.dialect ≡ Termwiz → (u : List ℕ) (f : Bool) → IsPortsOwn reading u f
own_by_dialect reading only u f =
    record { here = nothing_more reading only u f; after = λ v split. nothing_more reading only v f }
