-- What a call answers that consumes the item at the front.
use Rattle.std.proofs.Common.{◌≡◌, ◌+◌, ◌-◌, ℕ, suc, Bool, List, [], ◌∷◌, ◌++◌, take, drop, refl, sym, ap, ◌∙◌, take-append-drop, Option, Some, None, true, false, arith, Result, Ok, Err, IsErr}
use Rattle.std.specs.Prelude.{IfSome}
use Rattle.termwiz_keys.specs.Introducers.{ESC}
use Rattle.termwiz_keys.specs.declared.types.KeyCode.{KeyCode}
use Rattle.termwiz_keys.specs.declared.types.InputEvent.{InputEvent}
use Rattle.termwiz_keys.specs.declared.types.InputEvent.TheVariants as input
use Rattle.termwiz_extended_events.specs.declared.types.Event.{Event}
use Rattle.termwiz_extended_events.specs.declared.types.Event.TheVariants.{Mouse, Paste, Csi, Osc, Dcs, Apc, Key, FocusGained, FocusLost, CursorPosition, Resized, KeyboardFlags, StringPart, StringCut}
use Rattle.termwiz_extended_events.specs.declared.types.Reading.{Reading}
use Rattle.termwiz_extended_events.specs.Meanings.{IsKey, NeedsMemory}
use Rattle.termwiz_extended_grammar.specs.ExtraSequences.{with_alt}
use Rattle.termwiz_extended_grammar.specs.Readings.{after_event, event_in}
use Rattle.termwiz_extended_grammar.specs.ExtendedGrammar.{HasItem, IsRest, Steps}
use Rattle.termwiz_extended_grammar.specs.ExtendedGrammar.Stands.{alt_key}
use Rattle.termwiz_input_extended.specs.Buffered.{Buffered}
use Rattle.termwiz_input_extended.specs.NextItems.{Emits, HasItemThatNeedsMemory, IsBareKeyAt, told_by}

-- a parser by its parts
abbrev pub buffered : Reading → List ℕ → Buffered
buffered reading text = record { reading = reading; text = text }

-- the same text, after a call that changed nothing
pub still_buffered : (reading : Reading) (t u : List ℕ) (old : Buffered) → t ≡ u → buffered reading u ≡ old → buffered reading t ≡ old
still_buffered reading t u old same is = ap (λ x. buffered reading x) same ∙ is

module _ {S F : Type 0} (takes : S → Event → S → Type 0) (old new : Buffered) (before after : S) (more : Bool) where
  pub emits_event : (event : Event) → Steps old.reading old.text more (event ∷ []) new.text
      → new.reading ≡ after_event old.reading event → takes before event after → Emits {F = F} takes old before more new after (Ok true)
  emits_event event steps reading taken = record {
    emitted = λ is. record { event = event; steps = steps; reading = reading; taken = taken };
    none = λ is. absurd (cc (is));
    none_same = λ is. absurd (cc (is));
    none_sink = λ is. absurd (cc (is));
    refused = tt;
    refused_same = tt;
    refused_sink = tt;
  }

  pub emits_none : IsRest old.reading old.text more → new ≡ old → after ≡ before → Emits {F = F} takes old before more new after (Ok false)
  emits_none rest same sink = record {
    emitted = λ is. absurd (cc (is));
    none = λ is. rest;
    none_same = λ is. same;
    none_sink = λ is. sink;
    refused = tt;
    refused_same = tt;
    refused_sink = tt;
  }

  pub emits_refused : (result : Result Bool F) → IsErr result → HasItemThatNeedsMemory old.reading old.text more
      → new ≡ old → after ≡ before → Emits takes old before more new after result
  emits_refused (Ok found) is item same sink = absurd (cc (is))
  emits_refused (Err fault) is item same sink = record {
    emitted = λ is. absurd (cc (is));
    none = λ is. absurd (cc (is));
    none_same = λ is. absurd (cc (is));
    none_sink = λ is. absurd (cc (is));
    refused = item;
    refused_same = same;
    refused_sink = sink;
  }

pub if_some : {A : Type 0} {P Q : A → Type 0} (found : Option A) → ((x : A) → P x → Q x) → IfSome found P → IfSome found Q
if_some (Some value) then p = then value p
if_some None then p = tt

-- a bare key with ALT leaves the reading as it is, and needs memory if the key does
pub alt_reading : (reading : Reading) (event : Event) → IsKey event → after_event reading (with_alt event) ≡ reading
alt_reading reading (Key report) is = refl
alt_reading reading (Mouse report) is = absurd is
alt_reading reading (Paste text) is = absurd is
alt_reading reading FocusGained is = absurd is
alt_reading reading FocusLost is = absurd is
alt_reading reading (CursorPosition row column) is = absurd is
alt_reading reading (Resized r c h w) is = absurd is
alt_reading reading (KeyboardFlags flags) is = absurd is
alt_reading reading (Csi bytes) is = absurd is
alt_reading reading (Osc bytes) is = absurd is
alt_reading reading (Dcs bytes) is = absurd is
alt_reading reading (Apc bytes) is = absurd is
alt_reading reading (StringPart kind bytes) is = absurd is
alt_reading reading (StringCut kind bytes) is = absurd is

alt_needs : (event : Event) → IsKey event → NeedsMemory event → NeedsMemory (with_alt event)
alt_needs (Key report) is needs = needs
alt_needs (Mouse report) is needs = absurd is
alt_needs (Paste text) is needs = absurd is
alt_needs FocusGained is needs = absurd is
alt_needs FocusLost is needs = absurd is
alt_needs (CursorPosition row column) is needs = absurd is
alt_needs (Resized r c h w) is needs = absurd is
alt_needs (KeyboardFlags flags) is needs = absurd is
alt_needs (Csi bytes) is needs = absurd is
alt_needs (Osc bytes) is needs = absurd is
alt_needs (Dcs bytes) is needs = absurd is
alt_needs (Apc bytes) is needs = absurd is
alt_needs (StringPart kind bytes) is needs = absurd is
alt_needs (StringCut kind bytes) is needs = absurd is

-- the bytes after the ESC
pub after_escape_bytes : (t u v : List ℕ) (len : ℕ) → t ≡ u → u ≡ ESC ++ v → take (1 + len - 1) (drop 1 t) ≡ take len v
after_escape_bytes t u v len same split =
    ap (λ x. take (1 + len - 1) (drop 1 x)) (same ∙ split) ∙ ap (λ n. take n v) (let all : 1 + len - 1 ≡ len = omega arith in all)

-- ESC and a bare key are one step, and need memory if the key does
module _ (reading : Reading) (u v : List ℕ) (len : ℕ) (f : Bool) (split : u ≡ ESC ++ v) (is : IsBareKeyAt reading v len) where
  alt_split : u ≡ ESC ++ (take len v ++ drop len v)
  alt_split = split ∙ ap (λ x. ESC ++ x) (sym (take-append-drop len v))

  alt_left : drop len v ≡ drop (1 + len) u
  alt_left = sym (ap (λ x. drop (suc len) x) split) ∙ ap (λ n. drop n u) (let one : suc len ≡ 1 + len = omega arith in one)

  pub alt_step : (made : Event) → made ≡ with_alt (event_in reading (take len v)) → Steps reading u f (made ∷ []) (drop (1 + len) u)
  alt_step made means = (
    drop len v,
    rw means (alt_key (take len v) (drop len v) (event_in reading (take len v)) is.0.1 is.1 alt_split),
    alt_left,
  )

  pub alt_refused : NeedsMemory (event_in reading (take len v)) → HasItemThatNeedsMemory reading u f
  alt_refused needs = record {
    left = drop len v;
    event = with_alt (event_in reading (take len v));
    stands = alt_key (take len v) (drop len v) (event_in reading (take len v)) is.0.1 is.1 alt_split;
    needs = alt_needs (event_in reading (take len v)) is.1.is_key needs;
  }

  pub alt_has_item : HasItem reading u f
  alt_has_item = (
    drop len v,
    with_alt (event_in reading (take len v)),
    alt_key (take len v) (drop len v) (event_in reading (take len v)) is.0.1 is.1 alt_split,
  )

-- no event of the port is a position, so it leaves the reading as it is
pub told_keeps : (reading : Reading) (decided : Option KeyCode) (event : InputEvent) → after_event reading (told_by decided event) ≡ reading
told_keeps reading decided (input.Key k) = refl
told_keeps reading decided (input.Mouse event) = refl
told_keeps reading decided (input.PixelMouse event) = refl
told_keeps reading decided (input.Resized c r) = refl
told_keeps reading decided (input.Paste text) = refl
told_keeps reading decided input.Wake = refl
