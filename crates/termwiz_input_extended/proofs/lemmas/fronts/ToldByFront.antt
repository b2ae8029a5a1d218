-- What the port's item is told as, by the first bytes of its text.
use Rattle.std.proofs.Common.{◌≡◌, ◌≢◌, ◌⊎◌, inl, inr, ⊎_elim, ℕ, ◌==◌, Bool, false, List, [], ◌∷◌, ◌++◌, refl, sym, ap, ◌∙◌, subst, arith, take, drop, take-append-drop, get_or, ◌<◌, ◌≤◌, Option, None, true, Ok}
use Rattle.std.specs.Prelude.{option_and_then, unwrap_or}
use Rattle.std.specs.Char.{encode_utf8, IsScalar}
use Rattle.std.proofs.lemmas.Bool.Decides.{nat_tests}
use Rattle.termwiz_keymap.specs.Bytes.{Begins}
use Rattle.termwiz_keymap.proofs.lemmas.lists.CommonPrefixes.{append-some}
use Rattle.termwiz_keys.specs.Introducers.{ESC}
use Rattle.termwiz_keys.specs.Keys.{escape as escape_key, plain, with_alt}
use Rattle.termwiz_keys.specs.declared.types.KeyCode.{KeyCode}
use Rattle.termwiz_keys.specs.declared.types.KeyEvent.{KeyEvent}
use Rattle.termwiz_keys.specs.declared.types.MouseEvent.{MouseEvent}
use Rattle.termwiz_keys.specs.declared.types.InputEvent.{InputEvent}
use Rattle.termwiz_keys.specs.declared.types.InputEvent.TheVariants as input
use Rattle.termwiz_grammar.specs.MouseReports.{IsMouseReport}
use Rattle.termwiz_grammar.specs.Sequences.{Meaning, IsSequence}
use Rattle.termwiz_grammar.specs.Sequences.Meaning.{Row, Report}
use Rattle.termwiz_grammar.specs.Grammar.{Head, Item, IsHead, IsApart, bytes_of}
use Rattle.termwiz_grammar.specs.Grammar.Head.{Sequence, Character, Broken}
use Rattle.termwiz_grammar.specs.Grammar.Item.{key, char, broken, mouse, paste, lone_escape, alt}
use Rattle.termwiz_grammar.specs.Grammar as port
use Rattle.termwiz_input.specs.Matches.{IsItemAt}
use Rattle.termwiz_grammar.proofs.lemmas.characters.CharacterPrefixes.{parted_high}
use Rattle.termwiz_grammar.proofs.lemmas.items.ItemStable.{encode_some}
use Rattle.termwiz_grammar.proofs.lemmas.lists.Decidable.{same_or_not}
use Rattle.termwiz_grammar.proofs.lemmas.mouse.OneReport.{layout}
use Rattle.termwiz_grammar.proofs.lemmas.table.SequenceFacts.{escape_is_sequence}
use Rattle.termwiz_extended_events.specs.declared.types.Dialect.{Dialect}
use Rattle.termwiz_extended_events.specs.declared.types.Dialect.TheVariants.{Extended, Termwiz}
use Rattle.termwiz_extended_events.specs.declared.types.Event.{Event}
use Rattle.termwiz_extended_events.specs.declared.types.Event.TheVariants.{Key}
use Rattle.termwiz_extended_events.specs.declared.types.Reading.{Reading}
use Rattle.termwiz_extended_events.specs.Meanings.{NeedsMemory}
use Rattle.termwiz_extended_events.specs.PortEvents.{decided_key, pressed_key, told, typed_byte, typed_key, with_key}
use Rattle.termwiz_extended_grammar.specs.ExtendedGrammar.{Steps}
use Rattle.termwiz_extended_grammar.proofs.lemmas.cuts.PortTold.{decided_none}
use Rattle.termwiz_extended_grammar.proofs.lemmas.forms.PortLayouts.{Layout, Past, sequence_layout}
use Rattle.termwiz_extended_grammar.proofs.lemmas.forms.PortLayouts.Layout.{alone, paired, longer}
use Rattle.termwiz_input_extended.specs.NextItems.{Emits, IsEmittedWithoutMemory, IsPortsOwn, decided_at, front_key, told_by}
use Rattle.termwiz_input_extended.specs.Buffered.{Buffered}
use Rattle.termwiz_extended_grammar.specs.Readings.{after_event}
use Rattle.termwiz_input_extended.proofs.lemmas.fronts.EmittedItems.{emits_event}
use Rattle.termwiz_input_extended.proofs.lemmas.fronts.FrontItems.{own_item}

-- the key that the reading decides of these bytes is what it decides at the front of the text
abbrev IsDecidedAt : Reading → List ℕ → List ℕ → Type 0
IsDecidedAt reading bytes u = option_and_then (decided_key reading) (typed_byte bytes) ≡ decided_at reading u

-- so a key is told as it is by the front of the text
by_front : (reading : Reading) (bytes u : List ℕ) (k : KeyEvent) → IsDecidedAt reading bytes u
    → told reading bytes (input.Key k) ≡ told_by (front_key reading.dialect reading u) (input.Key k)
by_front reading bytes u k same = ap (λ key. Key (pressed_key (with_key k key))) (go reading.dialect)
  where
    go : (dialect : Dialect) → typed_key dialect reading bytes k.key ≡ unwrap_or (front_key dialect reading u) k.key
    go Extended = ap (λ found. unwrap_or found k.key) same
    go Termwiz = refl

-- a byte that isn't ESC decides by itself
first_decides : (reading : Reading) (x : ℕ) (rest : List ℕ) → x ≢ 27 → decided_at reading (x ∷ rest) ≡ decided_key reading x
first_decides reading x [] other = refl
first_decides reading x (y ∷ rest) other = (let never : (x == 27) ≡ false = grind (arith, nat_tests, other) in rw never refl)

-- of three bytes or more, or two of which the first isn't ESC, no reading decides
several_undecided : (reading : Reading) (x y : ℕ) (t : List ℕ) → (x ≢ 27) ⊎ (t ≢ [])
    → option_and_then (decided_key reading) (typed_byte (x ∷ y ∷ t)) ≡ None
several_undecided reading x y [] (inl other) = (let never : (x == 27) ≡ false = grind (arith, nat_tests, other) in rw never refl)
several_undecided reading x y [] (inr some) = absurd (some refl)
several_undecided reading x y (z ∷ t) either = refl

high_undecided : (reading : Reading) (x : ℕ) → 128 ≤ x → decided_key reading x ≡ None
high_undecided reading x high = decided_none reading x (λ e. omega (arith, e, high)) (λ e. omega (arith, e, high)) (λ e. omega (arith, e, high))

-- how a character is spelled: one byte, or several of which the first is high
data Spelled (bytes : List ℕ) : Type 0 where
  single : (x : ℕ) → bytes ≡ x ∷ [] → Spelled bytes
  several : (x y : ℕ) (t : List ℕ) → bytes ≡ x ∷ y ∷ t → 128 ≤ x → Spelled bytes

spelled : (c : ℕ) → IsScalar c → Spelled (encode_utf8 c)
spelled c scalar = go (encode_utf8 c) refl
  where
    go : (bytes : List ℕ) → encode_utf8 c ≡ bytes → Spelled (encode_utf8 c)
    go [] e = absurd (encode_some c e)
    go (x ∷ []) e = single x e
    go (x ∷ y ∷ t) e = several x y t e (parted_high c (x ∷ []) (y ∷ t) scalar (λ k. cc (k)) (λ k. cc (k)) e).0.0

-- what a sequence has after its second byte
past_some : {r : List ℕ} → Past r → r ≢ []
past_some (Past.lettered middle last e a l m n) none = append-some middle (last ∷ []) (λ k. cc (k)) (sym e ∙ none)
past_some (Past.with_dollar digit e d) none = cc (e, none)

module _ (reading : Reading) (u bytes rest : List ℕ) (split : u ≡ bytes ++ rest) where
  -- the same where the bytes are known
  at_front : (known : List ℕ) → bytes ≡ known → IsDecidedAt reading known (known ++ rest) → IsDecidedAt reading bytes u
  at_front known is same =
      subst (λ w. IsDecidedAt reading bytes w) (sym split) (subst (λ b. IsDecidedAt reading b (b ++ rest)) (sym is) same)

  -- the bytes of a row
  of_sequence : (m : Meaning) → IsSequence bytes m → (bytes ≡ ESC → u ≡ ESC) → IsDecidedAt reading bytes u
  of_sequence m is only = go (sequence_layout bytes m is)
    where
      go : Layout bytes → IsDecidedAt reading bytes u
      go (alone x e) = ⊎_elim
          (λ (escape : bytes ≡ ESC). subst (λ b. IsDecidedAt reading b u) (sym escape) (subst (λ w. IsDecidedAt reading ESC w) (sym (only escape)) refl))
          (λ (other : bytes ≢ ESC). at_front (x ∷ []) e (sym (first_decides reading x rest (λ k. other (e ∙ ap (λ z. z ∷ []) k)))))
          (same_or_not bytes ESC)
      go (paired x e l) = at_front (27 ∷ x ∷ []) e refl
      go (longer x r e second past) = at_front (27 ∷ x ∷ r) e (several_undecided reading 27 x r (inr (past_some past))
          ∙ sym (decided_none reading x (λ k. by_second (λ s. omega (arith, k, s)) (λ s. omega (arith, k, s)))
          (λ k. by_second (λ s. omega (arith, k, s)) (λ s. omega (arith, k, s)))
          (λ k. by_second (λ s. omega (arith, k, s)) (λ s. omega (arith, k, s)))))
        where
          by_second : (x ≡ 91 → ⊥) → (x ≡ 79 → ⊥) → ⊥
          by_second bracket letter = ⊎_elim bracket letter second

  -- the bytes of a character, or one that begins none
  of_character : Spelled bytes → (Begins ESC u → ⊥) → IsDecidedAt reading bytes u
  of_character (single x e) never = at_front (x ∷ []) e
      (sym (first_decides reading x rest (λ k. never (rest, split ∙ ap (λ b. b ++ rest) (e ∙ ap (λ z. z ∷ []) k)))))
  of_character (several x y t e high) never = at_front (x ∷ y ∷ t) e
      (several_undecided reading x y t (inl (λ k. omega (arith, k, high)))
      ∙ sym (first_decides reading x (y ∷ t ++ rest) (λ k. omega (arith, k, high)) ∙ high_undecided reading x high))

  -- ESC alone, before another ESC
  of_escape : bytes ≡ ESC → (w : List ℕ) → rest ≡ 27 ∷ w → IsDecidedAt reading bytes u
  of_escape e w behind = at_front ESC e (subst (λ r. IsDecidedAt reading ESC (27 ∷ r)) (sym behind) refl)

  -- ESC and the bytes of a head
  of_alt : (after : List ℕ) → bytes ≡ 27 ∷ after → Spelled after → IsDecidedAt reading bytes u
  of_alt after e (single x is) = at_front (27 ∷ x ∷ []) (e ∙ ap (λ t. 27 ∷ t) is) refl
  of_alt after e (several x y t is high) = at_front (27 ∷ x ∷ y ∷ t) (e ∙ ap (λ t. 27 ∷ t) is) (sym (high_undecided reading x high))

  of_alt_row : (after : List ℕ) → bytes ≡ 27 ∷ after → Layout after → IsDecidedAt reading bytes u
  of_alt_row after e (alone x is) = at_front (27 ∷ x ∷ []) (e ∙ ap (λ t. 27 ∷ t) is) refl
  of_alt_row after e (paired x is l) = at_front (27 ∷ 27 ∷ x ∷ []) (e ∙ ap (λ t. 27 ∷ t) is) refl
  of_alt_row after e (longer x r is second past) = at_front (27 ∷ 27 ∷ x ∷ r) (e ∙ ap (λ t. 27 ∷ t) is) refl

  of_head : (h : Head) (v : List ℕ) → IsHead v h → bytes ≡ ESC ++ bytes_of h → IsDecidedAt reading bytes u
  of_head (Sequence text m) v is e = of_alt_row text e (sequence_layout text m is.is_sequence)
  of_head (Character c) v is e = of_alt (encode_utf8 c) e (spelled c is.scalar)
  of_head (Broken byte) v is e = of_alt (byte ∷ []) e (single byte refl)

report_known : (text : List ℕ) (report : MouseEvent) → IsSequence text (Report report) → IsMouseReport text report
unfolding IsSequence
report_known text report is = is

-- what ESC isn't joined to begins with ESC
apart_escape : (v : List ℕ) (h : Head) → IsHead v h → IsApart h → (w : List ℕ) × (v ≡ 27 ∷ w)
apart_escape v (Sequence text (Row k)) is apart =
    let b = subst (λ t. Begins t v) apart is.begins in (91 ∷ 50 ∷ 48 ∷ 48 ∷ 126 ∷ b.0, b.1)
apart_escape v (Sequence text (Report report)) is apart =
    let r = report_known text report is.is_sequence in
    (_, is.begins.1 ∙ ap (λ t. t ++ is.begins.0) (layout text report r))
apart_escape v (Character c) is apart = absurd apart
apart_escape v (Broken byte) is apart = absurd apart

-- the port's item is told by the front of the text, unless it is a mouse report
pub front_told : (reading : Reading) (u bytes rest : List ℕ) (event : InputEvent) (f : Bool) → Item u f bytes event → u ≡ bytes ++ rest
    → ((word : List ℕ) (report : MouseEvent) → event ≡ input.Mouse report → IsMouseReport word report → Begins word u → ⊥)
    → told reading bytes event ≡ told_by (front_key reading.dialect reading u) event
front_told reading u bytes rest event f (key text k is ordinary only) split no_mouse =
    by_front reading text u k (of_sequence reading u text rest split (Row k) is.is_sequence only)
front_told reading u bytes rest event f (char c is) split no_mouse = by_front reading (encode_utf8 c) u (plain c)
    (of_character reading u (encode_utf8 c) rest split (spelled c is.scalar) (is.no_sequence ESC (Row escape_key) escape_is_sequence))
front_told reading u bytes rest event f (broken byte is) split no_mouse = by_front reading (byte ∷ []) u (plain port.replacement)
    (of_character reading u (byte ∷ []) rest split (single byte refl) (is.no_sequence ESC (Row escape_key) escape_is_sequence))
front_told reading u bytes rest event f (mouse text report is) split no_mouse =
    absurd (no_mouse text report refl (report_known text report is.is_sequence) is.begins)
front_told reading u bytes rest event f (paste body begins first) split no_mouse = refl
front_told reading u bytes rest event f (lone_escape v h after is apart) split no_mouse =
    let next = apart_escape v h is apart in
    let behind : rest ≡ 27 ∷ next.0 = cc (split, after.splits, next.1) in
    by_front reading ESC u escape_key (of_escape reading u ESC rest split refl next.0 behind)
front_told reading u bytes rest event f (alt v h k after is is_key) split no_mouse =
    by_front reading (ESC ++ bytes_of h) u (with_alt k) (of_head reading u (ESC ++ bytes_of h) rest split h v is refl)

-- one step of the port is one step, unless it is a mouse report
pub own_step : (reading : Reading) (u left : List ℕ) (event : InputEvent) (f : Bool) → IsPortsOwn reading u f
    → ((word : List ℕ) (report : MouseEvent) → event ≡ input.Mouse report → IsMouseReport word report → Begins word u → ⊥)
    → port.Steps u f (event ∷ []) left → Steps reading u f (told_by (front_key reading.dialect reading u) event ∷ []) left
own_step reading u left event f own no_mouse (bytes, rest, stands, splits, same) =
    subst (λ e. Steps reading u f (e ∷ []) left) (front_told reading u bytes rest event f stands.item splits no_mouse)
    (rest, own_item reading u bytes rest event f own stands splits, same)

-- a key of the port's is one step
pub key_step : (reading : Reading) (u : List ℕ) (k : KeyEvent) (len : ℕ) (f : Bool) → IsPortsOwn reading u f → IsItemAt u f (input.Key k) len
    → Steps reading u f (told_by (front_key reading.dialect reading u) (input.Key k) ∷ []) (drop len u)
key_step reading u k len f own is = own_step reading u (drop len u) (input.Key k) f own (λ word report e. cc (e))
    (take len u, drop len u, is.1, sym (take-append-drop len u), refl)

-- what a call answers that consumes such a key
pub key_lightly_emitted : {S : Type 0} (takes : S → Event → S → Type 0) (old new : Buffered) (before after : S) (more : Bool) (k : KeyEvent) (len : ℕ)
    (decided : Option KeyCode) (made : Event) → made ≡ told_by decided (input.Key k)
    → decided ≡ front_key old.reading.dialect old.reading old.text → IsPortsOwn old.reading old.text more
    → IsItemAt old.text more (input.Key k) len → new ≡ record old { text = drop len old.text } → takes before made after
    → IsEmittedWithoutMemory takes old before more new after
key_lightly_emitted takes old new before after more k len decided made made_is decided_is own is new_is taken = (
  record {
    event = made;
    steps = subst (λ e. Steps old.reading old.text more (e ∷ []) new.text) (sym (made_is ∙ ap (λ found. told_by found (input.Key k)) decided_is))
        (subst (λ t. Steps old.reading old.text more (told_by (front_key old.reading.dialect old.reading old.text) (input.Key k) ∷ []) t)
        (sym (ap (λ (b : Buffered). b.text) new_is)) (key_step old.reading old.text k len more own is));
    reading = ap (λ (b : Buffered). b.reading) new_is ∙ sym (ap (after_event old.reading) made_is);
    taken = taken;
  },
  λ needs. (subst NeedsMemory made_is needs) refl,
)

pub key_emitted : {S F : Type 0} (takes : S → Event → S → Type 0) (old new : Buffered) (before after : S) (more : Bool) (k : KeyEvent) (len : ℕ)
    (decided : Option KeyCode) (made : Event) → made ≡ told_by decided (input.Key k)
    → decided ≡ front_key old.reading.dialect old.reading old.text → IsPortsOwn old.reading old.text more
    → IsItemAt old.text more (input.Key k) len → new ≡ record old { text = drop len old.text } → takes before made after
    → Emits {F = F} takes old before more new after (Ok true)
key_emitted takes old new before after more k len decided made made_is decided_is own is new_is taken =
    let light = key_lightly_emitted takes old new before after more k len decided made made_is decided_is own is new_is taken in
    emits_event takes old new before after more light.0.event light.0.steps light.0.reading light.0.taken

-- where the first byte isn't ESC, it decides
pub first_key : (reading : Reading) (x : ℕ) (rest : List ℕ) → reading.dialect ≡ Extended → x ≢ 27
    → front_key reading.dialect reading (x ∷ rest) ≡ decided_key reading x
first_key reading x rest reads other =
    ap (λ dialect. front_key dialect reading (x ∷ rest)) reads ∙ first_decides reading x rest other

-- no reading decides another character
pub front_none : (reading : Reading) (u : List ℕ) → 27 < get_or u 0 0 → get_or u 0 0 ≢ 127 → front_key reading.dialect reading u ≡ None
front_none reading u above other = by_dialect reading.dialect
  where
    undecided : (u : List ℕ) → 27 < get_or u 0 0 → get_or u 0 0 ≢ 127 → decided_at reading u ≡ None
    undecided [] above other = refl
    undecided (x ∷ rest) above other = first_decides reading x rest (λ e. omega (arith, above, e))
        ∙ decided_none reading x (λ e. omega (arith, above, e)) (λ e. omega (arith, above, e)) other

    by_dialect : (dialect : Dialect) → front_key dialect reading u ≡ None
    by_dialect Extended = undecided u above other
    by_dialect Termwiz = refl

-- nor ESC alone, or before another
pub escapes_none : (reading : Reading) (u : List ℕ) → (u ≡ ESC) ⊎ Begins (ESC ++ ESC) u → front_key reading.dialect reading u ≡ None
escapes_none reading u escapes = by_dialect reading.dialect
  where
    undecided : (u ≡ ESC) ⊎ Begins (ESC ++ ESC) u → decided_at reading u ≡ None
    undecided (inl e) = ap (decided_at reading) e
    undecided (inr b) = ap (decided_at reading) b.1

    by_dialect : (dialect : Dialect) → front_key dialect reading u ≡ None
    by_dialect Extended = undecided escapes
    by_dialect Termwiz = refl
