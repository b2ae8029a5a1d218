-- Which events follow ESC [, by the rule that gives each.
use Rattle.std.proofs.Common.{◌≡◌, ◌⊎◌, inl, inr, ℕ, ◌<◌, ◌==◌, Bool, true, false, List, [], ◌∷◌, refl, sym, ap, subst, Option, Some, None}
use Rattle.std.specs.Prelude.{⊤, option_map, unwrap_or, if◌then◌else◌, bytes_eq}
use Rattle.std.proofs.lemmas.Option.{option_and_then_some}
use Rattle.termwiz_extended_events.specs.declared.types.MouseReport.{MouseReport}
use Rattle.termwiz_extended_events.specs.declared.types.KeyReport.{KeyReport}
use Rattle.termwiz_extended_events.specs.declared.types.Event.{Event}
use Rattle.termwiz_extended_events.specs.declared.types.Event.TheVariants.{Key, Mouse, FocusGained, FocusLost, CursorPosition, Resized, KeyboardFlags, Csi}
use Rattle.termwiz_extended_events.specs.Numbers.{fields, before_end, after_start, place_number, short_number}
use Rattle.termwiz_extended_events.specs.KeyReports.{key_report, third_function_key, rxvt_key, console_key, further_key}
use Rattle.termwiz_extended_events.specs.Replies.{focus, position_at, position_on, position_of_fields, marked_position_of_fields, position_of, cursor_position, keyboard_flags, size_at, size_of_fields, numbered_size, resize, reply, mouse_report, side_button}
use Rattle.termwiz_extended_events.specs.Meanings.{unasked_key, reported, event_after, event_of}
use Rattle.termwiz_event_laws.proofs.lemmas.KeyReportsNumbers.{number_parts}
use Rattle.termwiz_event_laws.proofs.lemmas.SomeOptions.{map_some, IsAmong, among}

-- an event that tells the focus, a position, flags or a size
abbrev pub IsReply : Event → Type 0
IsReply FocusGained = ⊤
IsReply FocusLost = ⊤
IsReply (CursorPosition row column) = (0 < row) × (0 < column)
IsReply (KeyboardFlags flags) = ⊤
IsReply (Resized rows columns height width) = ⊤
IsReply event = ⊥

-- the rule that gives a key after ESC [
pub data KeyRule (s : List ℕ) (r : KeyReport) : Type 0 where
  by_report : key_report s ≡ Some r → KeyRule s r
  by_third : third_function_key s ≡ Some r → KeyRule s r
  by_rxvt : rxvt_key s ≡ Some r → KeyRule s r
  by_console : console_key s ≡ Some r → KeyRule s r
  by_further : further_key s ≡ Some r → KeyRule s r

-- what gives the event of what follows ESC [
pub data Told (s : List ℕ) (e : Event) : Type 0 where
  by_reply : IsReply e → Told s e
  by_key : (r : KeyReport) → KeyRule s r → e ≡ Key r → Told s e
  by_mouse : (m : MouseReport) → mouse_report s ≡ Some m → e ≡ Mouse m → Told s e
  by_side_button : (b : MouseReport) → side_button s ≡ Some b → e ≡ Mouse b → Told s e

-- the replies

focus_told : (s : List ℕ) (e : Event) → focus s ≡ Some e → IsReply e
unfolding focus
focus_told [] e is = absurd (cc (is))
focus_told (b ∷ []) e is = go (b == 73) (b == 79) is
  where
    go : (v w : Bool) → (if v then Some FocusGained else (if w then Some FocusLost else None)) ≡ Some e → IsReply e
    go true w h = subst IsReply (let same : FocusGained ≡ e = cc (h) in same) tt
    go false true h = subst IsReply (let same : FocusLost ≡ e = cc (h) in same) tt
    go false false h = absurd (cc (h))
focus_told (b ∷ c ∷ s) e is = absurd (cc (is))

-- a number that is there counts from 1
abbrev IsPlaceIfTold : Option ℕ → Type 0
IsPlaceIfTold place = (n : ℕ) → place ≡ Some n → 0 < n

place_told : (digits : List ℕ) → IsPlaceIfTold (place_number digits)
place_told digits n e = (number_parts 5 1 65535 digits n e).low

at_told : (row column : Option ℕ) (e : Event) → IsPlaceIfTold row → IsPlaceIfTold column → position_at row column ≡ Some e → IsReply e
at_told (Some row) (Some column) e first second is =
    subst IsReply (let same : CursorPosition row column ≡ e = cc (is) in same) (first row refl, second column refl)
at_told (Some row) None e first second is = absurd (cc (is))
at_told None column e first second is = absurd (cc (is))

on_told : (row column page : Option ℕ) (e : Event) → IsPlaceIfTold row → IsPlaceIfTold column → position_on row column page ≡ Some e
    → IsReply e
on_told row column (Some page) e first second is = at_told row column e first second is
on_told row column None e first second is = absurd (cc (is))

fields_told : (fs : List (List ℕ)) (e : Event) → position_of_fields fs ≡ Some e → IsReply e
fields_told [] e is = absurd (cc (is))
fields_told (row ∷ []) e is = absurd (cc (is))
fields_told (row ∷ column ∷ []) e is = at_told (place_number row) (place_number column) e (place_told row) (place_told column) is
fields_told (row ∷ column ∷ page ∷ fs) e is = absurd (cc (is))

marked_told : (fs : List (List ℕ)) (e : Event) → marked_position_of_fields fs ≡ Some e → IsReply e
marked_told [] e is = fields_told [] e is
marked_told (row ∷ []) e is = fields_told (row ∷ []) e is
marked_told (row ∷ column ∷ []) e is = fields_told (row ∷ column ∷ []) e is
marked_told (row ∷ column ∷ page ∷ []) e is =
    on_told (place_number row) (place_number column) (short_number page) e (place_told row) (place_told column) is
marked_told (row ∷ column ∷ page ∷ f ∷ fs) e is = fields_told (row ∷ column ∷ page ∷ f ∷ fs) e is

position_told : (body : List ℕ) (marked : Option (List ℕ)) (e : Event) → position_of body marked ≡ Some e → IsReply e
position_told body None e is = fields_told (fields body) e is
position_told body (Some marked) e is = marked_told (fields marked) e is

cursor_told : (s : List ℕ) (e : Event) → cursor_position s ≡ Some e → IsReply e
unfolding cursor_position
cursor_told s e is =
    option_and_then_some (λ body. position_of body (after_start (63 ∷ []) body)) (before_end (82 ∷ []) s) e is
    (λ body found position. position_told body (after_start (63 ∷ []) body) e position)

flags_told : (s : List ℕ) (e : Event) → keyboard_flags s ≡ Some e → IsReply e
unfolding keyboard_flags
flags_told s e is = (let h = map_some KeyboardFlags _ e is in subst IsReply h.2 tt)

size_told : (rows columns height width : Option ℕ) (e : Event) → size_at rows columns height width ≡ Some e → IsReply e
size_told (Some rows) (Some columns) (Some height) (Some width) e is =
    subst IsReply (let same : Resized rows columns height width ≡ e = cc (is) in same) tt
size_told None columns height width e is = absurd (cc (is))
size_told (Some rows) None height width e is = absurd (cc (is))
size_told (Some rows) (Some columns) None width e is = absurd (cc (is))
size_told (Some rows) (Some columns) (Some height) None e is = absurd (cc (is))

sizes_told : (fs : List (List ℕ)) (e : Event) → size_of_fields fs ≡ Some e → IsReply e
sizes_told [] e is = absurd (cc (is))
sizes_told (rows ∷ []) e is = absurd (cc (is))
sizes_told (rows ∷ columns ∷ []) e is = absurd (cc (is))
sizes_told (rows ∷ columns ∷ height ∷ []) e is = absurd (cc (is))
sizes_told (rows ∷ columns ∷ height ∷ width ∷ []) e is =
    size_told (short_number rows) (short_number columns) (short_number height) (short_number width) e is
sizes_told (rows ∷ columns ∷ height ∷ width ∷ f ∷ fs) e is = absurd (cc (is))

numbered_told : (fs : List (List ℕ)) (e : Event) → numbered_size fs ≡ Some e → IsReply e
numbered_told [] e is = absurd (cc (is))
numbered_told (front ∷ more) e is = go (bytes_eq front (52 ∷ 56 ∷ [])) is
  where
    go : (v : Bool) → (if v then size_of_fields more else None) ≡ Some e → IsReply e
    go true h = sizes_told more e h
    go false h = absurd (cc (h))

resize_told : (s : List ℕ) (e : Event) → resize s ≡ Some e → IsReply e
unfolding resize
resize_told s e is =
    option_and_then_some (λ body. numbered_size (fields body)) (before_end (116 ∷ []) s) e is (λ body found size. numbered_told (fields body) e size)

reply_told : (s : List ℕ) (e : Event) → reply s ≡ Some e → IsReply e
unfolding reply
reply_told s e is = go (among (cursor_position s ∷ keyboard_flags s ∷ resize s ∷ []) e is)
  where
    go : IsAmong (cursor_position s ∷ keyboard_flags s ∷ resize s ∷ []) e → IsReply e
    go (inl f) = cursor_told s e f
    go (inr (inl f)) = flags_told s e f
    go (inr (inr (inl f))) = resize_told s e f
    go (inr (inr (inr f))) = absurd f

-- a key
key_told : (s : List ℕ) (o : Option KeyReport) (e : Event) → ((r : KeyReport) → o ≡ Some r → KeyRule s r) → option_map Key o ≡ Some e
    → Told s e
key_told s o e rule is = (let h = map_some Key o e is in by_key h.0 (rule h.0 h.1) (sym h.2))

-- F3 where no question is open
unasked_told : (asks : Bool) (s : List ℕ) (e : Event) → option_map Key (unasked_key asks s) ≡ Some e → Told s e
unasked_told true s e is = absurd (cc (is))
unasked_told false s e is = key_told s (third_function_key s) e (λ r g. by_third g) is

-- the rules for what follows ESC [
abbrev pub rules : Bool → List ℕ → List (Option Event)
rules asks s =
    focus s ∷ option_map Key (key_report s) ∷ option_map Key (unasked_key asks s) ∷ reply s ∷ option_map Key (third_function_key s)
    ∷ option_map Key (rxvt_key s) ∷ option_map Mouse (mouse_report s) ∷ option_map Mouse (side_button s)
    ∷ option_map Key (console_key s) ∷ option_map Key (further_key s) ∷ []

-- the event, if a rule gives one
reported_told : (asks : Bool) (s : List ℕ) (e : Event) → reported asks s ≡ Some e → Told s e
unfolding reported
reported_told asks s e is = go (among (rules asks s) e is)
  where
    go : IsAmong (rules asks s) e → Told s e
    go (inl f) = by_reply (focus_told s e f)
    go (inr (inl f)) = key_told s (key_report s) e (λ r g. by_report g) f
    go (inr (inr (inl f))) = unasked_told asks s e f
    go (inr (inr (inr (inl f)))) = by_reply (reply_told s e f)
    go (inr (inr (inr (inr (inl f))))) = key_told s (third_function_key s) e (λ r g. by_third g) f
    go (inr (inr (inr (inr (inr (inl f)))))) = key_told s (rxvt_key s) e (λ r g. by_rxvt g) f
    go (inr (inr (inr (inr (inr (inr (inl f))))))) = (let m = map_some Mouse (mouse_report s) e f in by_mouse m.0 m.1 (sym m.2))
    go (inr (inr (inr (inr (inr (inr (inr (inl f)))))))) =
        (let b = map_some Mouse (side_button s) e f in by_side_button b.0 b.1 (sym b.2))
    go (inr (inr (inr (inr (inr (inr (inr (inr (inl f))))))))) = key_told s (console_key s) e (λ r g. by_console g) f
    go (inr (inr (inr (inr (inr (inr (inr (inr (inr (inl f)))))))))) = key_told s (further_key s) e (λ r g. by_further g) f
    go (inr (inr (inr (inr (inr (inr (inr (inr (inr (inr f)))))))))) = absurd f

-- the event of ESC [ and s is told by a rule, or is s itself
pub bracketed_told : (asks : Bool) (s : List ℕ) → Told s (event_of asks (27 ∷ 91 ∷ s)) ⊎ (event_of asks (27 ∷ 91 ∷ s) ≡ Csi s)
unfolding event_of event_after
bracketed_told asks s = go (reported asks s) refl
  where
    go : (o : Option Event) → reported asks s ≡ o
        → Told s (unwrap_or (reported asks s) (Csi s)) ⊎ (unwrap_or (reported asks s) (Csi s) ≡ Csi s)
    go None e = inr (ap (λ o. unwrap_or o (Csi s)) e)
    go (Some x) e = inl (subst (Told s) (sym (ap (λ o. unwrap_or o (Csi s)) e)) (reported_told asks s x e))
