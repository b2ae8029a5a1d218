-- A paste, a mouse report and a reply are told as what they are.
use Rattle.std.proofs.Common.{◌≡◌, ◌≢◌, inl, inr, ℕ, Bool, true, false, List, [], ◌∷◌, ◌++◌, ◌≤◌, drop, length, Some, refl, sym, ap, ◌∙◌, subst, Contains}
use Rattle.std.specs.Prelude.{if◌then◌else◌}
use Rattle.termwiz_base.specs.declared.mouse.MouseReport.{MouseReport}
use Rattle.termwiz_extended_events.specs.declared.types.Event.{Event}
use Rattle.termwiz_extended_events.specs.declared.types.Event.TheVariants.{FocusGained, FocusLost, CursorPosition, Resized, KeyboardFlags}
use Rattle.termwiz_extended_events.specs.declared.types.Reading.{Reading}
use Rattle.termwiz_extended_grammar.specs.ExtendedGrammar.{IsRest, Means}
use Rattle.termwiz_extended_grammar.specs.Forms.{most_control}
use Rattle.termwiz_extended_grammar.specs.Readings.{after_event}
use Rattle.termwiz_extended_grammar.proofs.lemmas.items.ExtendedRests.{empty_is_rest}
use Rattle.termwiz_senders.specs.declared.mouse.MouseEncoding.TheVariants.{Sgr}
use Rattle.termwiz_senders.specs.declared.mouse.MouseTracking.{MouseTracking}
use Rattle.termwiz_senders.specs.EventTexts.{IsReply, attributes_text, scheme_text}
use Rattle.termwiz_senders.specs.MouseLaws.{read_report}
use Rattle.termwiz_senders.specs.MouseTexts.{action_of, code_of, is_reported, mouse_text, text_with, told_by}
use Rattle.termwiz_senders.specs.PasteLaws.{extended_paste}
use Rattle.termwiz_senders.proofs.lemmas.SafePastes.{one_paste_extended}
use Rattle.termwiz_senders.proofs.lemmas.SgrReports.{sgr_read_back_extended}
use Rattle.termwiz_event_laws.specs.EventLaws.{waiting_texts}
use Rattle.termwiz_event_laws.proofs.lemmas.OtherReplies.{attributes_read_back, schemes_read_back}
use Rattle.termwiz_event_laws.proofs.lemmas.RepliesReadBack.{positions_read_back}
use Rattle.termwiz_event_laws.proofs.lemmas.WrittenEvents.{read_back}
use Rattle.termwiz_binding_laws.specs.EncodedPresses.{HasFirstSettings}
use Rattle.termwiz_press_laws.specs.Things.{IsReplySent, IsSent, IsToldAs, Reply, Thing, after_thing, reply_event, told_by_thing, told_of_event, told_of_thing}
use Rattle.termwiz_press_laws.specs.Things.Reply.{Attributes, OtherReply, Position, Scheme}
use Rattle.termwiz_press_laws.specs.Things.Thing.{SentMouse, SentPaste, SentReply}
use Rattle.termwiz_press_laws.specs.Things.Told.{Received}

-- what sends some bytes is told
pub some_told : (thing : Thing) (bytes : List ℕ) → bytes ≢ [] → told_of_thing thing bytes ≡ told_by_thing thing
some_told thing [] some = absurd (some refl)
some_told thing (b ∷ bytes) some = refl

-- no bytes are no events
pub nothing_told : (reading : Reading) (more : Bool) → IsToldAs reading [] more [] reading
nothing_told reading more = record {
  events = [];
  means = record { steps = refl; rest = empty_is_rest reading more };
  tells = refl;
  leaves = refl;
}

event_some : (reading : Reading) (bytes : List ℕ) (more : Bool) (event : Event) → Means reading bytes more (event ∷ []) [] → bytes ≢ []
event_some reading bytes more event means none =
    (subst (λ t. IsRest reading t more) (sym none) (empty_is_rest reading more)) means.steps.0 event means.steps.1

-- one event that is received
received : (reading : Reading) (thing : Thing) (bytes : List ℕ) (more : Bool) (event : Event) → Means reading bytes more (event ∷ []) []
    → told_of_event event ≡ Received event ∷ [] → told_by_thing thing ≡ Received event ∷ [] → after_event reading event ≡ after_thing reading thing
    → IsToldAs reading bytes more (told_of_thing thing bytes) (after_thing reading thing)
received reading thing bytes more event means is told after = record {
  events = event ∷ [];
  means = means;
  tells = ap (λ t. t ++ []) is ∙ sym (some_told thing bytes (event_some reading bytes more event means) ∙ told);
  leaves = after;
}

-- a reply is no key
reply_received : (event : Event) → IsReply event → told_of_event event ≡ Received event ∷ []
reply_received FocusGained is = refl
reply_received FocusLost is = refl
reply_received (CursorPosition row column) is = refl
reply_received (Resized a b c d) is = refl
reply_received (KeyboardFlags flags) is = refl
reply_received event is = absurd is

attributes_csi : (numbers : List ℕ) → attributes_text numbers ≡ 0x1b ∷ 0x5b ∷ drop 2 (attributes_text numbers)
unfolding attributes_text
attributes_csi numbers = refl

scheme_csi : (dark : Bool) → scheme_text dark ≡ 0x1b ∷ 0x5b ∷ drop 2 (scheme_text dark)
scheme_csi dark = refl

pub paste_told : (reading : Reading) (text bytes : List ℕ) (more : Bool) → IsSent reading (SentPaste text) bytes
    → IsToldAs reading bytes more (told_of_thing (SentPaste text) bytes) reading
paste_told reading text bytes more is =
    received reading (SentPaste text) bytes more (extended_paste text)
    (subst (λ t. Means reading t more (extended_paste text ∷ []) []) (sym is) (one_paste_extended reading text more)) refl refl refl

module _ (reading : Reading) (report : MouseReport) (tracking : MouseTracking) (bytes : List ℕ) (more : Bool)
    (is : IsSent reading (SentMouse report tracking) bytes) where
  abbrev IsToldMouse : List ℕ → Type 0
  IsToldMouse t = IsToldAs reading t more (told_of_thing (SentMouse report tracking) t) reading

  pub mouse_told : IsToldMouse bytes
  unfolding mouse_text
  mouse_told = go (is_reported tracking (action_of (told_by report).button)) refl is.1
    where
      go : (b : Bool) → is_reported tracking (action_of (told_by report).button) ≡ b
          → (if b then text_with Sgr (code_of tracking Sgr (told_by report)) (told_by report) else Some []) ≡ Some bytes → IsToldMouse bytes
      go true reports e =
          received reading (SentMouse report tracking) bytes more (read_report Sgr tracking report)
          (sgr_read_back_extended reading report tracking bytes more (record { place = is.0; reported = reports; bytes_are = is.1 })) refl refl refl
      go false none e = subst IsToldMouse (let same : [] ≡ bytes = cc (e) in same) (nothing_told reading more)

module _ (reading : Reading) (first : HasFirstSettings reading) (bytes : List ℕ) (more : Bool)
    (waits : more ≡ true → ¬ Contains waiting_texts bytes) where
  abbrev IsToldReply : Reply → Type 0
  IsToldReply what = IsToldAs reading bytes more (told_of_thing (SentReply what) bytes) (after_event reading (reply_event what))

  -- a reply that is read as its event
  of_reply : (what : Reply) → Means reading bytes more (reply_event what ∷ []) [] → told_of_event (reply_event what) ≡ Received (reply_event what) ∷ []
      → IsToldReply what
  of_reply what means is = received reading (SentReply what) bytes more (reply_event what) means is refl refl

  pub reply_told : (what : Reply) → IsReplySent reading what bytes → IsToldReply what
  reply_told (Attributes numbers) is =
      of_reply (Attributes numbers)
      (subst (λ t. Means reading t more (reply_event (Attributes numbers) ∷ []) []) (sym is.0)
      (attributes_read_back reading numbers (drop 2 (attributes_text numbers)) first.reads is.1 (attributes_csi numbers)
      (subst (λ t. length t ≤ most_control) is.0 is.2) more))
      refl
  reply_told (Scheme dark) is =
      of_reply (Scheme dark)
      (subst (λ t. Means reading t more (reply_event (Scheme dark) ∷ []) []) (sym is)
      (schemes_read_back reading dark (drop 2 (scheme_text dark)) first.reads (scheme_csi dark) more))
      refl
  reply_told (Position row column true) is =
      of_reply (Position row column true)
      (subst (λ t. Means reading t more (CursorPosition row column ∷ []) []) (sym is.0)
      ((positions_read_back reading row column first.reads is.1 is.2).0 more))
      refl
  reply_told (Position row column false) (same, above, beside, inl private) = absurd (cc (private))
  reply_told (Position row column false) (same, above, beside, inr told) =
      of_reply (Position row column false)
      (subst (λ t. Means reading t more (CursorPosition row column ∷ []) []) (sym same)
      ((positions_read_back reading row column first.reads above beside).1.0 told more))
      refl
  reply_told (OtherReply event) (is, typed, text) =
      of_reply (OtherReply event) (read_back reading event bytes more typed text waits) (reply_received event is)
