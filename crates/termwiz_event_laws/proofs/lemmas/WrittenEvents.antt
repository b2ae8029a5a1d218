-- The laws of written events, by the kind of event.
use Rattle.std.proofs.Common.{◌≡◌, ◌⊎◌, inl, inr, ⊎_elim, ℕ, Bool, true, false, List, [], ◌∷◌, ◌++◌, Some, Contains, refl, sym, subst}
use Rattle.std.specs.Prelude.{codes}
use Rattle.std.specs.Str.Lossy.{utf8_lossy}
use Rattle.termwiz_keys.specs.Introducers.{CSI}
use Rattle.termwiz_keys.specs.declared.types.InputEvent.{InputEvent}
use Rattle.termwiz_grammar.specs.Grammar as port
use Rattle.termwiz_grammar.specs.Grammar.{EndsFirst}
use Rattle.termwiz_grammar.specs.Grammar.Item.{key, char, broken, mouse, paste, lone_escape, alt}
use Rattle.termwiz_grammar.specs.Sequences.{IsSequence}
use Rattle.termwiz_laws.specs.PasteEvents.{pasted}
use Rattle.termwiz_extended_events.specs.declared.types.Event.{Event}
use Rattle.termwiz_extended_events.specs.declared.types.Event.TheVariants.{Key, Mouse, Paste, FocusGained, FocusLost, CursorPosition, Resized, KeyboardFlags, Csi, Osc, Dcs, Apc, StringPart, StringCut}
use Rattle.termwiz_extended_events.specs.declared.types.KeyReport.{KeyReport}
use Rattle.termwiz_extended_events.specs.declared.types.MouseReport.{MouseReport}
use Rattle.termwiz_extended_events.specs.declared.types.Reading.{Reading}
use Rattle.termwiz_extended_events.specs.declared.types.StringKind.{StringKind}
use Rattle.termwiz_extended_events.specs.declared.types.StringKind.TheVariants as kinds
use Rattle.termwiz_extended_events.specs.Meanings.{whole_string}
use Rattle.termwiz_extended_events.specs.PortEvents.{told}
use Rattle.termwiz_extended_grammar.specs.ExtendedGrammar.{Means, Stands}
use Rattle.termwiz_extended_grammar.specs.ExtendedGrammar.Stands.{extra, alt_key, lone_escape as lone, string, usual}
use Rattle.termwiz_extended_grammar.specs.ExtraSequences.{IsExtra}
use Rattle.termwiz_extended_grammar.specs.Readings.{ReadsMore}
use Rattle.termwiz_senders.specs.EventTexts.{IsMouseText, IsReadAtOnce, further_mouse_text, sgr_event_text, position_text, size_text, flags_text, string_sent, IsEventText, IsRefused}
use Rattle.termwiz_senders.specs.KeyTexts.{IsKeyText}
use Rattle.termwiz_senders.specs.KeyTexts.IsKeyText.{typed, reported}
use Rattle.termwiz_event_laws.specs.EventLaws.{ReadBack, Emits, IsPartOrCut, Whole, waiting_texts}
use Rattle.termwiz_kitty.specs.KittyLaws.{IsReport}
use Rattle.termwiz_event_laws.proofs.lemmas.TypedKeys.{typed_read_back, key_whole}
use Rattle.termwiz_event_laws.proofs.lemmas.KeyReportsReadBack.{key_read_back}
use Rattle.termwiz_event_laws.proofs.lemmas.KeysAtOnce.{typed_at_once}
use Rattle.termwiz_event_laws.proofs.lemmas.MouseEvents.{HasText, mouse_read_back, report_told, sgr_whole}
use Rattle.termwiz_event_laws.proofs.lemmas.Origins.{FromForm, alt_report, extra_event, string_event}
use Rattle.termwiz_event_laws.proofs.lemmas.Origins.FromForm.{bracketed, keypad, titled}
use Rattle.termwiz_event_laws.proofs.lemmas.PasteEvents.{paste_read_back, paste_whole}
use Rattle.termwiz_event_laws.proofs.lemmas.RepliesReadBack.{focus_gained, focus_lost, private_position, size_read_back, flags_read_back}
use Rattle.termwiz_event_laws.proofs.lemmas.SideButtons.{side_told, side_whole}
use Rattle.termwiz_event_laws.proofs.lemmas.StringEvents.{extra_at_once, title_at_once, string_at_once}
use Rattle.termwiz_event_laws.proofs.lemmas.ToldEvents.{IsReply, Told}
use Rattle.termwiz_event_laws.proofs.lemmas.ToldEvents.Told.{by_reply, by_key, by_mouse, by_side_button}

-- what is written of the event is there
abbrev IsWritten : Reading → Event → Type 0
IsWritten reading e = (bytes : List ℕ) × IsEventText reading e bytes

-- read back

at_same : (reading : Reading) (e : Event) (text bytes : List ℕ) (more : Bool) → bytes ≡ text → IsReadAtOnce reading e text
    → Means reading bytes more (e ∷ []) []
at_same reading e text bytes more same is = subst (λ t. Means reading t more (e ∷ []) []) (sym same) (is more)

key_back : (reading : Reading) (r : KeyReport) (bytes : List ℕ) (more : Bool) → IsReport r → IsKeyText reading r bytes
    → (more ≡ true → ¬ Contains waiting_texts bytes) → Means reading bytes more (Key r ∷ []) []
key_back reading r bytes true is (typed text) closed = typed_at_once reading r is bytes text (closed refl)
key_back reading r bytes false is (typed text) closed = typed_read_back reading r bytes text
key_back reading r bytes more is (reported none text) closed = key_read_back reading r bytes more text.reads is text.is_text text.short

pub read_back : ReadBack
unfolding IsEventText
read_back reading (Key r) bytes more values is closed = key_back reading r bytes more values is closed
read_back reading (Mouse e) bytes more values is closed = mouse_read_back reading e bytes values.0 values.1 is more
read_back reading (Paste text) bytes more values is closed =
    at_same reading (Paste text) (pasted text) bytes more is.0 (paste_read_back reading text values is.1)
read_back reading FocusGained bytes more values is closed = at_same reading FocusGained _ bytes more is.1 (focus_gained reading is.0)
read_back reading FocusLost bytes more values is closed = at_same reading FocusLost _ bytes more is.1 (focus_lost reading is.0)
read_back reading (CursorPosition row column) bytes more values is closed =
    at_same reading (CursorPosition row column) _ bytes more is.3 (private_position row column (is.1, values.0) (is.2, values.1) reading is.0)
read_back reading (Resized rows columns height width) bytes more values is closed =
    at_same reading (Resized rows columns height width) _ bytes more is.1
    (size_read_back rows columns height width values.0 values.1 values.2 values.3 reading is.0)
read_back reading (KeyboardFlags flags) bytes more values is closed =
    at_same reading (KeyboardFlags flags) _ bytes more is.1 (flags_read_back flags values reading is.0)
read_back reading (Csi t) bytes more values is closed = is.1 more
read_back reading (Osc t) bytes more values is closed = is.1 more
read_back reading (Dcs t) bytes more values is closed = is.1 more
read_back reading (Apc t) bytes more values is closed = is.1 more
read_back reading (StringPart kind t) bytes more values is closed = absurd is
read_back reading (StringCut kind t) bytes more values is closed = absurd is

-- whole

-- what is written isn't refused
not_refused : (reading : Reading) (e : Event) → IsWritten reading e → ¬ IsRefused reading e
not_refused reading e is = λ refused. refused is.0 is.1

-- whatever the event comes from, it isn't refused
module _ (reading : Reading) where
  key_not_refused : (r : KeyReport) (e : Event) → e ≡ Key r → Emits reading e → ¬ IsRefused reading e
  unfolding IsEventText
  key_not_refused r e is emits refused =
      key_whole reading r emits.0 emits.1 emits.2 (subst (Stands reading emits.0 emits.2 emits.1) is emits.3)
      (subst (IsRefused reading) is refused)

  mouse_written : (m : MouseReport) (e : Event) → e ≡ Mouse m → ReadsMore reading → HasText m → IsWritten reading e
  unfolding IsEventText
  mouse_written m e is reads text = subst (IsWritten reading) (sym is) (text.0, go text.1)
    where
      go : (sgr_event_text m ≡ Some text.0) ⊎ (further_mouse_text m ≡ Some text.0) → IsMouseText reading m text.0
      go (inl sgr) = inl sgr
      go (inr further) = inr (reads, further)

  sgr_written : (m : MouseReport) → (bytes : List ℕ) × (sgr_event_text m ≡ Some bytes) → IsWritten reading (Mouse m)
  unfolding IsEventText
  sgr_written m text = (text.0, inl text.1)

  reply_written : (e : Event) → ReadsMore reading → IsReply e → IsWritten reading e
  unfolding IsEventText
  reply_written FocusGained reads h = (CSI ++ codes "I", (reads, refl))
  reply_written FocusLost reads h = (CSI ++ codes "O", (reads, refl))
  reply_written (CursorPosition row column) reads h = (position_text row column true, (reads, h.0, h.1, refl))
  reply_written (KeyboardFlags flags) reads h = (flags_text flags, (reads, refl))
  reply_written (Resized rows columns height width) reads h = (size_text rows columns height width, (reads, refl))
  reply_written e reads h = absurd h

  told_not_refused : (s : List ℕ) (e : Event) → ReadsMore reading → Told s e → Emits reading e → ¬ IsRefused reading e
  told_not_refused s e reads (by_reply is) emits = not_refused reading e (reply_written e reads is)
  told_not_refused s e reads (by_key r rule is) emits = key_not_refused r e is emits
  told_not_refused s e reads (by_mouse m told is) emits = not_refused reading e (mouse_written m e is reads (report_told s m told))
  told_not_refused s e reads (by_side_button b told is) emits =
      let text = side_whole b (side_told s b told) in not_refused reading e (mouse_written b e is reads (text.0, inr text.1))

  paste_written : (body : List ℕ) → EndsFirst body → IsWritten reading (Paste (utf8_lossy body))
  unfolding IsEventText
  paste_written body first = (pasted (utf8_lossy body), (refl, paste_whole body first))

  string_written : (kind : StringKind) (t : List ℕ) → IsReadAtOnce reading (whole_string kind t) (string_sent kind t)
      → IsWritten reading (whole_string kind t)
  unfolding IsEventText
  string_written kinds.Osc t is = (string_sent kinds.Osc t, (refl, is))
  string_written kinds.Dcs t is = (string_sent kinds.Dcs t, (refl, is))
  string_written kinds.Apc t is = (string_sent kinds.Apc t, (refl, is))

  control_written : (text s : List ℕ) (e : Event) → text ≡ 27 ∷ 91 ∷ s → e ≡ Csi s → IsExtra reading text e → IsWritten reading e
  unfolding IsEventText
  control_written text s e form itself is =
      let its : IsExtra reading (27 ∷ 91 ∷ s) (Csi s) = subst (λ t. IsExtra reading t (Csi s)) form (subst (IsExtra reading text) itself is) in
      subst (IsWritten reading) (sym itself) (27 ∷ 91 ∷ s, (refl, extra_at_once reading (27 ∷ 91 ∷ s) (Csi s) its))

  form_not_refused : (text : List ℕ) (e : Event) → IsExtra reading text e → FromForm text e → Emits reading e → ¬ IsRefused reading e
  form_not_refused text e is (bracketed s form (inl told)) emits = told_not_refused s e is.reads told emits
  form_not_refused text e is (bracketed s form (inr itself)) emits = not_refused reading e (control_written text s e form itself is)
  form_not_refused text e is (keypad s r rule same) emits = key_not_refused r e same emits
  form_not_refused text e is (titled t same) emits = not_refused reading e
      (subst (IsWritten reading) (sym same) (string_written kinds.Osc (t.letter ∷ t.body) (title_at_once reading text t is.reads)))

  item_not_refused : (u bytes : List ℕ) (more : Bool) (i : InputEvent) → port.Item u more bytes i → Emits reading (told reading bytes i)
      → ¬ IsRefused reading (told reading bytes i)
  unfolding IsSequence
  item_not_refused u bytes more i (key text k is other single) emits = key_not_refused _ _ refl emits
  item_not_refused u bytes more i (char c is) emits = key_not_refused _ _ refl emits
  item_not_refused u bytes more i (broken b is) emits = key_not_refused _ _ refl emits
  item_not_refused u bytes more i (mouse text report is) emits =
      not_refused reading _ (sgr_written _ (sgr_whole text report is.is_sequence))
  item_not_refused u bytes more i (paste body begins first) emits = not_refused reading _ (paste_written body first)
  item_not_refused u bytes more i (lone_escape v h after is apart) emits = key_not_refused _ _ refl emits
  item_not_refused u bytes more i (alt v h j after is near) emits = key_not_refused _ _ refl emits

  stands_not_refused : (u left : List ℕ) (more : Bool) (e : Event) → Stands reading u more left e → Emits reading e → ¬ IsPartOrCut e
      → ¬ IsRefused reading e
  stands_not_refused u left more e (extra text l d is split) emits other = form_not_refused text e is (extra_event reading text e is) emits
  stands_not_refused u left more e (alt_key text l d is bare split) emits other =
      let r = alt_report reading text d is.means bare.is_key in key_not_refused r.0 e r.1 emits
  stands_not_refused u left more e (lone l split apart) emits other = key_not_refused _ e refl emits
  stands_not_refused u left more e (string kind head bytes after l d reads is comes) emits other = ⊎_elim
      (λ (part : IsPartOrCut e). absurd (other part))
      (λ whole. not_refused reading e (subst (IsWritten reading) (sym whole.0)
      (string_written kind (head ++ bytes) (string_at_once reading kind head bytes reads is.is_head is.each whole.1))))
      (string_event kind head bytes after l more e comes)
  stands_not_refused u left more e (usual bytes l i stands split here after) emits other = item_not_refused u bytes more i stands.item emits

pub whole : Whole
whole reading e emits other = stands_not_refused reading emits.0 emits.1 emits.2 e emits.3 emits other
