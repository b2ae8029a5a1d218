-- A complete extra sequence is its event, whatever stands before it.
use Rattle.std.proofs.Common.{◌≡◌, ◌≢◌, ◌⊎◌, inl, inr, ⊎_elim, ℕ, Bool, false, List, [], ◌∷◌, ◌++◌, refl, sym, ap, ◌∙◌, subst, append_assoc, arith}
use Rattle.std.proofs.lemmas.List.{append_cancel_left}
use Rattle.termwiz_keymap.proofs.lemmas.lists.CommonPrefixes.{Overlaps, overlap}
use Rattle.termwiz_keymap.proofs.lemmas.lists.CommonPrefixes.Overlaps.{within, past}
use Rattle.termwiz_keys.specs.Introducers.{ESC}
use Rattle.termwiz_keys.specs.Keys.{escape}
use Rattle.termwiz_keys.specs.declared.types.InputEvent.TheVariants.{Key}
use Rattle.termwiz_grammar.specs.Grammar as port
use Rattle.termwiz_grammar.specs.Grammar.{IsBeginning}
use Rattle.termwiz_grammar.specs.Grammar.Item.{key}
use Rattle.termwiz_grammar.specs.Sequences.Meaning.{Row}
use Rattle.termwiz_grammar.proofs.lemmas.lists.Decidable.{same_or_not}
use Rattle.termwiz_grammar.proofs.lemmas.table.SequenceFacts.{escape_is_sequence}
use Rattle.termwiz_grammar.proofs.lemmas.items.OneHead.{longest_whole}
use Rattle.termwiz_grammar.proofs.lemmas.items.OneItem.{item_once}
use Rattle.termwiz_extended_events.specs.declared.types.Event.{Event}
use Rattle.termwiz_extended_events.specs.declared.types.Event.TheVariants.{Mouse, Paste, FocusGained, FocusLost, CursorPosition, Resized, KeyboardFlags, Csi, Osc, Dcs, Apc, StringPart, StringCut}
use Rattle.termwiz_extended_events.specs.declared.types.Event.TheVariants.{Key as KeyReported}
use Rattle.termwiz_extended_events.specs.Meanings.{IsKey as IsKeyEvent}
use Rattle.termwiz_extended_events.specs.declared.types.Reading.{Reading}
use Rattle.termwiz_extended_events.specs.PortEvents.{told}
use Rattle.termwiz_extended_grammar.specs.Forms.{introducer}
use Rattle.termwiz_extended_grammar.specs.ExtraSequences.{IsExtra, IsBareKey, with_alt}
use Rattle.termwiz_extended_grammar.specs.Readings.{after_event, after_events}
use Rattle.termwiz_extended_grammar.specs.ExtendedGrammar.{StartsExtended, StartsApart, BeginsExtended, IsOpen, IsUsual, IsRest, Stands, Steps, Means, escape_event}
use Rattle.termwiz_extended_grammar.specs.ExtendedGrammar.Stands.{extra, alt_key, lone_escape, string, usual}
use Rattle.termwiz_extended_grammar.specs.ExtendedLaws.{EndsWithEscape, SequenceStands, BareKeysAreJoined}
use Rattle.termwiz_extended_grammar.proofs.lemmas.forms.FormBytes.{IsSecond, IsStringIntroducer, IsMark, escape_within, opening_mark}
use Rattle.termwiz_extended_grammar.proofs.lemmas.forms.ExtraFacts.{mark_from_unfinished, completed_mark, none_at_end}
use Rattle.termwiz_extended_grammar.proofs.lemmas.items.StringItems.{string_append, comes_before}
use Rattle.termwiz_extended_grammar.proofs.lemmas.items.ExtendedItems.{apart_longer, longer_after, starts_shape, starts_with, second_not_escape, port_some}
use Rattle.termwiz_extended_grammar.proofs.lemmas.items.ExtendedRests.{empty_is_rest, read_of, steps_once}
use Rattle.termwiz_extended_grammar.proofs.lemmas.cuts.PortTold.{escape_told}
use Rattle.termwiz_extended_grammar.proofs.lemmas.cuts.BeforeEscape.{closed_before, stands_before}
use Rattle.termwiz_extended_grammar.proofs.lemmas.cuts.ExtendedCuts.{after_both, join_steps, steps_stay}

second_no_backslash : (b : ℕ) → IsSecond b → b ≡ 92 → ⊥
second_no_backslash b is e = ⊎_elim
    (λ (h : b ≡ 91). omega arith)
    (λ (h : (b ≡ 79) ⊎ IsStringIntroducer b). ⊎_elim
    (λ (k : b ≡ 79). omega arith)
    (λ (k : IsStringIntroducer b). ⊎_elim
    (λ (l : b ≡ 93). omega arith)
    (λ (l : (b ≡ 80) ⊎ (b ≡ 95)). ⊎_elim (λ (m : b ≡ 80). omega arith) (λ (m : b ≡ 95). omega arith) l)
    k)
    h)
    is

-- the Escape key is the port's item at ESC
escape_itself : port.Item ESC false ESC (Key escape)
escape_itself = key ESC escape (longest_whole ESC (Row escape) escape_is_sequence) (λ h. cc (h)) (λ h. refl)

-- no mark goes on from a text into an ESC and such a byte
no_mark_into : {x10_mouse : Bool} (u r : List ℕ) (b : ℕ) → u ≢ [] → IsSecond b → IsMark x10_mouse (u ++ 27 ∷ b ∷ r) → ⊥
no_mark_into u r b some second mark =
    let last : b ∷ r ≡ 92 ∷ [] = escape_within u (b ∷ r) some mark in
    second_no_backslash b second (cc (last))

-- nothing extra begins an ESC alone
usual_escape : (reading : Reading) → IsUsual reading ESC false
usual_escape reading = record { none = none; closed = λ h. cc (h.more_comes) }
  where
    none : StartsExtended reading ESC → ⊥
    none h = (let s = starts_shape reading ESC h in cc (s.2))

module _ (reading : Reading) (b : ℕ) (r : List ℕ) (second : IsSecond b) where
  -- a mark doesn't go on from a text into this one
  not_past : (u t s : List ℕ) → u ≢ [] → t ≢ [] → IsMark reading.x10_mouse (u ++ t) → 27 ∷ b ∷ r ≡ t ++ s → ⊥
  not_past u [] s some n mark f = n refl
  not_past u (x ∷ []) s some n mark f =
      let first : x ≡ 27 = cc (f) in
      let last : [] ≡ 92 ∷ [] = escape_within u [] some (subst (λ z. IsMark reading.x10_mouse (u ++ z ∷ [])) first mark) in cc (last)
  not_past u (x ∷ y ∷ t) s some n mark f =
      let first : x ≡ 27 = cc (f) in
      let next : y ≡ b = cc (f) in
      no_mark_into u t b some second (subst (λ z. IsMark reading.x10_mouse (u ++ 27 ∷ z ∷ t)) next
      (subst (λ z. IsMark reading.x10_mouse (u ++ z ∷ y ∷ t)) first mark))

  -- what begins the text with more behind begins it without
  starts_before : (u : List ℕ) → u ≢ [] → StartsExtended reading (u ++ 27 ∷ b ∷ r) → StartsExtended reading u
  starts_before u some (inl h) = go (overlap h.text h.begins.0 u (27 ∷ b ∷ r) h.begins.1)
    where
      go : Overlaps h.text h.begins.0 u (27 ∷ b ∷ r) → StartsExtended reading u
      go (within t e f) = inl (record { text = h.text; event = h.event; is_extra = h.is_extra; begins = (t, e) })
      go (past t n e f) =
          absurd (not_past u t h.begins.0 some n (subst (λ z. IsMark reading.x10_mouse z) e (inl h.is_extra.is_form)) f)
  starts_before u some (inr (reads, o)) = go (overlap (introducer o.kind ++ o.head) o.begins.0 u (27 ∷ b ∷ r) o.begins.1)
    where
      go : Overlaps (introducer o.kind ++ o.head) o.begins.0 u (27 ∷ b ∷ r) → StartsExtended reading u
      go (within t e f) = inr (reads, record { kind = o.kind; head = o.head; is_head = o.is_head; begins = (t, e) })
      go (past t n e f) = absurd (not_past u t o.begins.0 some n
          (subst (λ z. IsMark reading.x10_mouse z) e (inr (opening_mark (u ++ 27 ∷ b ∷ r) o))) f)

  open_before : (u : List ℕ) (f : Bool) → u ≢ [] → IsOpen reading (u ++ 27 ∷ b ∷ r) f → ⊥
  open_before u f some opens = ⊎_elim
      (λ (h : IsBeginning (u ++ 27 ∷ b ∷ r)).
      closed_before u (b ∷ r) f some (record { more_comes = opens.more_comes; some = opens.some; beginning = h }))
      (λ (h : BeginsExtended reading (u ++ 27 ∷ b ∷ r)).
      let c = completed_mark (u ++ 27 ∷ b ∷ r) (mark_from_unfinished reading (u ++ 27 ∷ b ∷ r) h) in
      no_mark_into u (r ++ c.0) b some second
      (subst (λ x. IsMark reading.x10_mouse x) (append_assoc u (27 ∷ b ∷ r) c.0) c.2))
      opens.beginning

  usual_before : (u : List ℕ) (f : Bool) → u ≢ [] → IsUsual reading u false → IsUsual reading (u ++ 27 ∷ b ∷ r) f
  usual_before u f some is = record { none = λ h. is.none (starts_before u some h); closed = open_before u f some }

  pub usual_escape_before : (f : Bool) → IsUsual reading (ESC ++ 27 ∷ b ∷ r) f
  usual_escape_before f = usual_before ESC f (λ e. cc (e)) (usual_escape reading)

  -- an item of a flush stands also before such a text, before which an ESC by itself is the Escape key
  item_before : (u left : List ℕ) (event : Event) (f : Bool)
      → (u ≡ ESC → Stands reading (ESC ++ 27 ∷ b ∷ r) f (27 ∷ b ∷ r) escape_event)
      → Stands reading u false left event → Stands reading (u ++ 27 ∷ b ∷ r) f (left ++ 27 ∷ b ∷ r) event
  item_before u left event f here (extra text left2 e is split) =
      extra text (left2 ++ 27 ∷ b ∷ r) e is (ap (λ x. x ++ 27 ∷ b ∷ r) split ∙ append_assoc text left2 (27 ∷ b ∷ r))
  item_before u left event f here (alt_key text left2 e is bare split) = alt_key text (left2 ++ 27 ∷ b ∷ r) e is bare
      (ap (λ x. x ++ 27 ∷ b ∷ r) split ∙ ap (λ x. 27 ∷ x) (append_assoc text left2 (27 ∷ b ∷ r)))
  item_before u left event f here (lone_escape v split apart) =
      lone_escape (v ++ 27 ∷ b ∷ r) (ap (λ x. x ++ 27 ∷ b ∷ r) split) (apart_longer reading v (27 ∷ b ∷ r) apart)
  item_before u left event f here (string kind head bytes after left2 e reads is comes) =
      string kind head bytes (after ++ 27 ∷ b ∷ r) (left2 ++ 27 ∷ b ∷ r) e reads (string_append u (27 ∷ b ∷ r) kind head bytes after is)
      (comes_before kind head bytes after left2 b r f e (second_not_escape b second) (second_no_backslash b second) comes)
  item_before u left event f here (usual bytes left2 e stands split is gap) = ⊎_elim
      (λ (alone : u ≡ ESC).
      let one = item_once ESC false bytes ESC e (Key escape)
      (subst (λ x. port.Item x false bytes e) alone stands.item) escape_itself in
      let none : left2 ≡ [] = append_cancel_left ESC left2 [] (ap (λ z. z ++ left2) (sym one.0) ∙ sym split ∙ alone) in
      let told_so : told reading bytes e ≡ escape_event =
      ap (λ x. told reading x e) one.0 ∙ ap (told reading ESC) one.1 ∙ escape_told reading in
      subst (λ x. Stands reading (u ++ 27 ∷ b ∷ r) f (x ++ 27 ∷ b ∷ r) (told reading bytes e)) (sym none)
      (subst (λ x. Stands reading (u ++ 27 ∷ b ∷ r) f (27 ∷ b ∷ r) x) (sym told_so)
      (subst (λ x. Stands reading (x ++ 27 ∷ b ∷ r) f (27 ∷ b ∷ r) escape_event) (sym alone) (here alone))))
      (λ (longer : u ≡ ESC → ⊥). usual bytes (left2 ++ 27 ∷ b ∷ r) e (stands_before u (b ∷ r) bytes e f longer stands)
      (ap (λ x. x ++ 27 ∷ b ∷ r) split ∙ append_assoc bytes left2 (27 ∷ b ∷ r))
      (usual_before u f some is)
      (λ w split2. let l = longer_after u (27 ∷ b ∷ r) w some longer split2 in
      subst (λ x. IsUsual reading x f) (sym l.2) (usual_before l.0 f l.3 (gap l.0 l.1))))
      (same_or_not u ESC)
    where
      some : u ≢ []
      some = port_some u bytes left2 false e stands split

-- an ESC that is left by a flush is the Escape key before z
abbrev pub EscapesStand : Reading → List ℕ → List ℕ → Bool → Type 0
EscapesStand reading T z f = (before : List Event) → Steps reading T false before ESC
    → Stands (after_events reading before) (ESC ++ z) f z escape_event

-- it isn't joined to z
abbrev pub EscapesApart : Reading → List ℕ → List ℕ → Type 0
EscapesApart reading T z = (before : List Event) → Steps reading T false before ESC → StartsApart (after_events reading before) z

pub steps_before : (b : ℕ) (r : List ℕ) → IsSecond b → (reading : Reading) (E : List Event) (T W : List ℕ) (f : Bool)
    → EscapesStand reading T (27 ∷ b ∷ r) f → Steps reading T false E W → Steps reading (T ++ 27 ∷ b ∷ r) f E (W ++ 27 ∷ b ∷ r)
steps_before b r second reading [] T W f escapes h = ap (λ x. x ++ 27 ∷ b ∷ r) h
steps_before b r second reading (e ∷ E) T W f escapes (left, stands, steps) = (
  left ++ 27 ∷ b ∷ r,
  item_before reading b r second T left e f (λ alone. escapes [] alone) stands,
  steps_before b r second (after_event reading e) E left W f (λ before more. escapes (e ∷ before) (left, stands, more)) steps,
)

-- a flush makes the Escape key of ESC alone
escape_alone : (reading : Reading) → Stands reading ESC false [] escape_event
escape_alone reading = subst (Stands reading ESC false []) (escape_told reading) (usual ESC [] (Key escape) (record { closed = λ h. cc (h.more_comes); item = escape_itself }) refl
    (usual_escape reading)
    (λ v split. subst (λ x. IsUsual reading x false) (let none : [] ≡ v = cc (split) in none)
    (record { none = none_at_end reading; closed = λ h. h.some refl })))

-- so what a flush leaves of the reading is what was left of it before that ESC
same_reading : (reading : Reading) (T : List ℕ) (E before : List Event) → Means reading T false E [] → Steps reading T false before ESC
    → after_events reading E ≡ after_events reading before
same_reading reading T E before means steps =
    let last = escape_event ∷ [] in
    let whole : Steps reading T false (before ++ last) [] =
    join_steps reading before last T ESC [] false steps ([], escape_alone (after_events reading before), refl) in
    let same : E ≡ before ++ last =
    (steps_once reading E (before ++ last) T [] [] false (read_of means) (whole, empty_is_rest (after_events reading (before ++ last)) false)).0 in
    ap (after_events reading) same ∙ after_both reading before last

-- what a flush reads whole is read so before an extra sequence or an opening, to which an ESC by itself isn't joined
pub flushed_before : (reading : Reading) (T z : List ℕ) (E : List Event) (f : Bool) → StartsExtended (after_events reading E) z
    → EscapesApart reading T z → Steps reading T false E [] → Steps reading (T ++ z) f E z
flushed_before reading T z E f at apart before =
    let s = starts_shape (after_events reading E) z at in
    let escapes : EscapesStand reading T z f = λ left steps. lone_escape z refl (apart left steps) in
    let first = steps_before s.0 s.1 s.3 reading E T [] f (subst (λ y. EscapesStand reading T y f) s.2 escapes) before in
    subst (λ y. Steps reading (T ++ y) f E y) (sym s.2) first

pub sequence_stands : SequenceStands
sequence_stands reading T x S W E D e f before premise is after = record {
  steps = join_steps reading E (e ∷ D) (T ++ (x ++ S)) (x ++ S) W f
      (flushed_before reading T (x ++ S) E f (starts_with (after_events reading E) x S e is) apart before.steps)
      (S, extra x S e is refl, after.steps);
  rest = subst (λ r. IsRest r W f) (sym (after_both reading E (e ∷ D))) after.rest;
}
  where
    apart : EscapesApart reading T (x ++ S)
    apart left steps = ⊎_elim
        (λ (other : ¬ IsBareKey (after_events reading E) x). inl (record {
          text = x;
          event = e;
          is_extra = subst (λ r. IsExtra r x e) (same_reading reading T E left before steps) is;
          not_bare = subst (λ r. ¬ IsBareKey r x) (same_reading reading T E left before steps) other;
          begins = (S, refl);
        }))
        (λ (never : ¬ EndsWithEscape reading T). absurd (never (left, steps)))
        premise

-- a key with ALT leaves the reading as it is
alt_leaves : (reading : Reading) (event : Event) → IsKeyEvent event → after_event reading (with_alt event) ≡ reading
alt_leaves reading (KeyReported report) is = refl
alt_leaves reading (Mouse report) is = absurd is
alt_leaves reading (Paste text) is = absurd is
alt_leaves reading FocusGained is = absurd is
alt_leaves reading FocusLost is = absurd is
alt_leaves reading (CursorPosition row column) is = absurd is
alt_leaves reading (Resized r c h w) is = absurd is
alt_leaves reading (KeyboardFlags flags) is = absurd is
alt_leaves reading (Csi bytes) is = absurd is
alt_leaves reading (Osc bytes) is = absurd is
alt_leaves reading (Dcs bytes) is = absurd is
alt_leaves reading (Apc bytes) is = absurd is
alt_leaves reading (StringPart kind bytes) is = absurd is
alt_leaves reading (StringCut kind bytes) is = absurd is

pub bare_keys_are_joined : BareKeysAreJoined
bare_keys_are_joined reading T x S W E D e f steps bare is after =
    let next = after_events reading E in
    let same : after_event next (with_alt e) ≡ next = alt_leaves next e (subst IsKeyEvent (sym is.means) bare.is_key) in
    record {
      steps = join_steps reading E (with_alt e ∷ D) (T ++ (x ++ S)) (ESC ++ (x ++ S)) W f (steps_stay reading E T (x ++ S) ESC f steps)
          (S, alt_key x S e is bare refl, subst (λ r. Steps r S f D W) (sym same) after.steps);
      rest = subst (λ r. IsRest r W f) (sym (after_both reading E (with_alt e ∷ D) ∙ ap (λ r. after_events r D) same)) after.rest;
    }
