-- A text that a flush reads as one key is that key also before bytes that don't go on with it.
use Rattle.std.proofs.Common.{◌≡◌, ◌≢◌, ◌⊎◌, inl, inr, ⊎_elim, ℕ, true, false, List, [], ◌∷◌, ◌++◌, refl, sym, ap, ap₂, ◌∙◌, subst, append_assoc, append-nil, arith, bit_or}
use Rattle.std.specs.Char.{IsScalar, encode_utf8}
use Rattle.termwiz_keymap.specs.Bytes.{Begins}
use Rattle.termwiz_keys.specs.Introducers.{ESC, START, END}
use Rattle.termwiz_keys.specs.Keys.{escape}
use Rattle.termwiz_keys.specs.declared.types.InputEvent.{InputEvent}
use Rattle.termwiz_keys.specs.declared.types.InputEvent.TheVariants as input
use Rattle.termwiz_grammar.specs.Grammar as port
use Rattle.termwiz_grammar.specs.Grammar.{Head, IsAfterEscape, IsBroken, IsCharacter, IsHead, IsLongest}
use Rattle.termwiz_grammar.specs.Grammar.Head.{Sequence, Character, Broken}
use Rattle.termwiz_grammar.specs.Grammar.Item.{key, char, broken, mouse, paste, lone_escape, alt}
use Rattle.termwiz_grammar.specs.Sequences.{Meaning, IsSequence}
use Rattle.termwiz_grammar.specs.Sequences.Meaning.{Report, Row}
use Rattle.termwiz_grammar.proofs.lemmas.items.ItemStable.{item_some}
use Rattle.termwiz_grammar.proofs.lemmas.items.OneItem.{start_head}
use Rattle.termwiz_grammar.proofs.lemmas.mouse.OneReport.{report_plain}
use Rattle.termwiz_grammar.proofs.lemmas.read_back.WholeTexts.{escape_alone}
use Rattle.termwiz_grammar.proofs.lemmas.table.SequenceFacts.{start}
use Rattle.termwiz_extended_events.specs.declared.types.Event.{Event}
use Rattle.termwiz_extended_events.specs.declared.types.Event.TheVariants.{Key}
use Rattle.termwiz_extended_events.specs.declared.types.KeyReport.{KeyReport}
use Rattle.termwiz_extended_events.specs.declared.types.Reading.{Reading}
use Rattle.termwiz_extended_events.specs.PortEvents.{pressed_key, told, with_key}
use Rattle.termwiz_extended_events.specs.Meanings.{IsKey}
use Rattle.termwiz_extended_grammar.specs.ExtendedGrammar.{BeginsKnown, IsOpen, IsUsual, Stands, StartsExtended, Steps, escape_event}
use Rattle.termwiz_extended_grammar.specs.ExtendedGrammar.Stands.{usual, extra, alt_key, lone_escape as lone, string}
use Rattle.termwiz_extended_grammar.specs.ExtraSequences.{IsBareKey, IsExtra, with_alt}
use Rattle.termwiz_extended_grammar.specs.Forms.{introducer}
use Rattle.termwiz_extended_grammar.specs.Readings.{event_in}
use Rattle.termwiz_extended_grammar.proofs.lemmas.cuts.ExtendedCuts.{steps_stay}
use Rattle.termwiz_extended_grammar.proofs.lemmas.forms.ExtraFacts.{bare_or_not}
use Rattle.termwiz_extended_grammar.proofs.lemmas.forms.FormBytes.{IsSecond}
use Rattle.termwiz_extended_grammar.proofs.lemmas.items.ExtendedItems.{starts_shape}
use Rattle.termwiz_extended_grammar.proofs.lemmas.items.StringItems.{string_opening}
use Rattle.termwiz_kitty.proofs.lemmas.legacy.ReadAsOne.{second_range}
use Rattle.termwiz_senders.proofs.lemmas.StringsAlone.{IsOfString, comes_of_string}
use Rattle.termwiz_event_laws.proofs.lemmas.KeysAfterEscape.{starts_from_apart}
use Rattle.termwiz_press_laws.specs.TextsApart.{ApartFromMore, EndsBefore, EscapeBeforeOthers, EscapeStandsApart, GoesOn, IsApart, KeysStandApart}
use Rattle.termwiz_press_laws.specs.TextsApart.IsKnown.{sequence as known_sequence, character as known_character, extra as known_extra, opening as known_opening}
use Rattle.termwiz_press_laws.proofs.lemmas.EscapeFlushes.{escape_means, escape_typed}
use Rattle.termwiz_press_laws.proofs.lemmas.OneKeyAtOnce.{second_known}

-- What begins a text and more begins the text, or is the text and more.
prefix_or_longer : (t w : List ℕ) (b : ℕ) (rest left : List ℕ) → w ++ b ∷ rest ≡ t ++ left
    → ((r : List ℕ) × (w ≡ t ++ r)) ⊎ ((tail : List ℕ) × (t ≡ w ++ b ∷ tail))
prefix_or_longer [] w b rest left e = inl (w, refl)
prefix_or_longer (x ∷ t) [] b rest left e = inr (t, ap (λ y. y ∷ t) (let same : x ≡ b = cc (e) in same))
prefix_or_longer (x ∷ t) (y ∷ w) b rest left e = ⊎_elim
    (λ (h : (r : List ℕ) × (w ≡ t ++ r)). inl (h.0, ap₂ (λ a u. a ∷ u) (let same : y ≡ x = cc (e) in same) h.1))
    (λ (h : (tail : List ℕ) × (t ≡ w ++ b ∷ tail)). inr (h.0, ap₂ (λ a u. a ∷ u) (let same : x ≡ y = cc (e) in same) h.1))
    (prefix_or_longer t w b rest left (cc (e)))

module _ (reading : Reading) (b : ℕ) (rest : List ℕ) where
  -- texts before the byte, with which it doesn't go on
  module _ (w : List ℕ) (never : ¬ GoesOn reading w b) where
    abbrev u : List ℕ
    u = w ++ b ∷ rest

    no_sequence : (t : List ℕ) (m : Meaning) → IsSequence t m → Begins t u → Begins t w
    no_sequence t m is (left, e) = ⊎_elim
        (λ (h : (r : List ℕ) × (w ≡ t ++ r)). h)
        (λ (h : (tail : List ℕ) × (t ≡ w ++ b ∷ tail)).
        absurd (never (record { tail = h.0; known = known_sequence m (subst (λ x. IsSequence x m) h.1 is) })))
        (prefix_or_longer t w b rest left e)

    no_character : (c : ℕ) → IsScalar c → Begins (encode_utf8 c) u → Begins (encode_utf8 c) w
    no_character c scalar (left, e) = ⊎_elim
        (λ (h : (r : List ℕ) × (w ≡ encode_utf8 c ++ r)). h)
        (λ (h : (tail : List ℕ) × (encode_utf8 c ≡ w ++ b ∷ tail)).
        absurd (never (record { tail = h.0; known = known_character c scalar h.1 })))
        (prefix_or_longer (encode_utf8 c) w b rest left e)

    begins_more : (t : List ℕ) → Begins t w → Begins t u
    begins_more t (r, e) = (r ++ b ∷ rest, ap (λ x. x ++ b ∷ rest) e ∙ append_assoc t r (b ∷ rest))

    longest : (t : List ℕ) (m : Meaning) → IsLongest w t m → IsLongest u t m
    longest t m is = record {
      is_sequence = is.is_sequence;
      begins = begins_more t is.begins;
      longest = λ other n s begins. is.longest other n s (no_sequence other n s begins);
    }

    a_character : (c : ℕ) → IsCharacter w c → IsCharacter u c
    a_character c is = record {
      no_sequence = λ t m s begins. is.no_sequence t m s (no_sequence t m s begins);
      scalar = is.scalar;
      begins = begins_more (encode_utf8 c) is.begins;
    }

    a_broken : (c : ℕ) → IsBroken w c → IsBroken u c
    a_broken c is = record {
      begins = begins_more (c ∷ []) is.begins;
      no_sequence = λ t m s begins. is.no_sequence t m s (no_sequence t m s begins);
      unspelled = λ d scalar begins. is.unspelled d scalar (no_character d scalar begins);
    }

    a_head : (h : Head) → IsHead w h → IsHead u h
    a_head (Sequence t m) is = longest t m is
    a_head (Character c) is = a_character c is
    a_head (Broken c) is = a_broken c is

    not_begun : ¬ BeginsKnown reading u
    not_begun (inl (inl h)) = never (record {
      tail = rest ++ h.tail;
      known = known_sequence h.meaning (subst (λ x. IsSequence x h.meaning) (append_assoc w (b ∷ rest) h.tail) h.is_sequence);
    })
    not_begun (inl (inr h)) = never (record {
      tail = rest ++ h.tail;
      known = known_character h.char h.scalar (h.spells ∙ append_assoc w (b ∷ rest) h.tail);
    })
    not_begun (inr (inl h)) = never (record {
      tail = rest ++ h.tail;
      known = known_extra h.event (subst (λ x. IsExtra reading x h.event)
          (append_assoc w (b ∷ rest) h.tail) h.is_extra);
    })
    not_begun (inr (inr h)) = never (record {
      tail = rest ++ h.1.tail;
      known = known_opening h.1.kind h.1.head h.0 h.1.is_head (h.1.spells ∙ append_assoc w (b ∷ rest) h.1.tail);
    })

    not_started : ¬ StartsExtended reading w → ¬ StartsExtended reading u
    not_started none (inl h) = ⊎_elim
        (λ (k : (r : List ℕ) × (w ≡ h.text ++ r)).
        none (inl (record { text = h.text; event = h.event; is_extra = h.is_extra; begins = k })))
        (λ (k : (tail : List ℕ) × (h.text ≡ w ++ b ∷ tail)).
        never (record { tail = k.0; known = known_extra h.event (subst (λ x. IsExtra reading x h.event) k.1 h.is_extra) }))
        (prefix_or_longer h.text w b rest h.begins.0 h.begins.1)
    not_started none (inr (reads, o)) = ⊎_elim
        (λ (k : (r : List ℕ) × (w ≡ (introducer o.kind ++ o.head) ++ r)).
        none (inr (reads, record { kind = o.kind; head = o.head; is_head = o.is_head; begins = k })))
        (λ (k : (tail : List ℕ) × (introducer o.kind ++ o.head ≡ w ++ b ∷ tail)).
        never (record { tail = k.0; known = known_opening o.kind o.head reads o.is_head k.1 }))
        (prefix_or_longer (introducer o.kind ++ o.head) w b rest o.begins.0 o.begins.1)

    a_usual : IsUsual reading w false → IsUsual reading u true
    a_usual is = record { none = not_started is.none; closed = λ h. not_begun h.beginning }

  module _ (text : List ℕ) (r : KeyReport) (other : text ≢ ESC) (ends : EndsBefore reading text b) where
    abbrev all : List ℕ
    all = text ++ b ∷ rest

    abbrev IsItem : Type 0
    IsItem = Stands reading all true (b ∷ rest) (Key r)

    -- what follows the ESC of the text
    behind : ((v : List ℕ) → text ≡ ESC ++ v → IsUsual reading v false) → text ≢ [] → (v : List ℕ) → all ≡ ESC ++ v → IsUsual reading v true
    behind after some v e = go text refl
      where
        go : (t : List ℕ) → text ≡ t → IsUsual reading v true
        go [] f = absurd (some f)
        go (x ∷ t) f =
            let first : x ≡ 27 = cc (sym (ap (λ z. z ++ b ∷ rest) f) ∙ e) in
            let left : t ++ b ∷ rest ≡ v = cc (sym (ap (λ z. z ++ b ∷ rest) f) ∙ e) in
            let split : text ≡ ESC ++ t = f ∙ ap (λ z. z ∷ t) first in
            subst (λ z. IsUsual reading z true) left (a_usual t (ends.behind t split) (after t split))

    whole_item : (bytes : List ℕ) (event : InputEvent) → port.Item all true bytes event → told reading bytes event ≡ Key r → text ≡ bytes
        → bytes ≢ [] → IsUsual reading text false → ((v : List ℕ) → text ≡ ESC ++ v → IsUsual reading v false) → IsItem
    whole_item bytes event item e same some here after =
        subst (Stands reading all true (b ∷ rest)) e
        (usual bytes (b ∷ rest) event (record { closed = λ h. not_begun text ends.whole (inl h.beginning); item = item })
        (ap (λ z. z ++ b ∷ rest) same) (a_usual text ends.whole here) (behind after (λ none. some (sym same ∙ none))))

    of_item : (bytes : List ℕ) (event : InputEvent) → port.Item text false bytes event → told reading bytes event ≡ Key r → text ≡ bytes
        → bytes ≢ [] → IsUsual reading text false → ((v : List ℕ) → text ≡ ESC ++ v → IsUsual reading v false) → IsItem
    of_item bytes event (key x k is start single) e same some here after =
        whole_item x event (key x k (longest text ends.whole x (Row k) is) start (λ esc. absurd (other (same ∙ esc)))) e same some here after
    of_item bytes event (char c is) e same some here after =
        whole_item (encode_utf8 c) event (char c (a_character text ends.whole c is)) e same some here after
    of_item bytes event (broken x is) e same some here after =
        whole_item (x ∷ []) event (broken x (a_broken text ends.whole x is)) e same some here after
    of_item bytes event (mouse x report is) e same some here after = absurd (cc (e))
    of_item bytes event (paste body begins first) e same some here after = absurd (cc (e))
    of_item bytes event (lone_escape v h after_it is apart) e same some here after = absurd (other same)
    of_item bytes event (alt v h j after_it is near) e same some here after =
        whole_item (ESC ++ port.bytes_of h) event (alt (v ++ b ∷ rest) h j (record {
          escape_head = longest text ends.whole ESC (Row escape) after_it.escape_head;
          splits = ap (λ z. z ++ b ∷ rest) after_it.splits;
          some = λ none. no_end v (b ∷ rest) (λ k. cc (k)) none;
          closed = λ h. not_begun v (ends.behind v after_it.splits) (inl h.beginning);
        }) (a_head v (ends.behind v after_it.splits) h is) near) e same some here after
      where
        no_end : (x y : List ℕ) → y ≢ [] → x ++ y ≡ [] → ⊥
        no_end [] y n k = n k
        no_end (z ∷ x) y n k = cc (k)

    by_stands : (left : List ℕ) (event : Event) → Stands reading text false left event → event ≡ Key r → left ≡ [] → IsItem
    by_stands left event (extra t l d is split) e none =
        subst (Stands reading all true (b ∷ rest)) e
        (extra t (b ∷ rest) d is (ap (λ z. z ++ b ∷ rest) (split ∙ ap (λ z. t ++ z) none ∙ append-nil t)))
    by_stands left event (alt_key t l d is bare split) e none =
        subst (Stands reading all true (b ∷ rest)) e
        (alt_key t (b ∷ rest) d is bare (ap (λ z. z ++ b ∷ rest) (split ∙ ap (λ z. ESC ++ (t ++ z)) none ∙ ap (λ z. ESC ++ z) (append-nil t))))
    by_stands left event (lone l split apart) e none =
        absurd (let s = starts_shape reading [] (subst (λ z. StartsExtended reading z) none (starts_from_apart reading left apart)) in cc (s.2))
    by_stands left event (string kind head own after l d reads is comes) e none =
        absurd (subst IsOfString e (comes_of_string kind head own after l false d comes))
    by_stands left event (usual bytes l d stands split here after) e none =
        of_item bytes d stands.item e (split ∙ ap (λ z. bytes ++ z) none ∙ append-nil bytes)
        (item_some text bytes d false stands.item) here after

pub keys_stand_apart : KeysStandApart
keys_stand_apart reading text next b r means other ends = record {
  events = Key r ∷ [];
  flushed = means;
  stands = (b ∷ next, by_stands reading b next text r other ends means.steps.0 (Key r) means.steps.1 refl means.steps.2, refl);
}

pub escape_stands_apart : EscapeStandsApart
escape_stands_apart reading next apart = record {
  events = escape_event ∷ [];
  flushed = escape_means reading;
  stands = (next, lone next refl apart, refl);
}

key_is : (event : Event) → IsKey event → (r : KeyReport) × (event ≡ Key r)
key_is (Key r) is = (r, refl)
key_is event is = absurd is

-- ESC before what is no key.
module _ (reading : Reading) (next : List ℕ) where
  -- a mouse report or a paste
  module _ (v : List ℕ) (split : next ≡ 27 ∷ v) (closed : ¬ port.IsOpen next true) (here : IsUsual reading next true) where
    no_second : (b : ℕ) → IsSecond b → (r : List ℕ) → next ≡ b ∷ r → ⊥
    no_second b second r e = (let same : b ≡ 27 = cc (e, split) in omega (arith, second_range b second, same))

    in_front : IsUsual reading (ESC ++ next) true
    in_front = record {
      none = λ h. (let s = starts_shape reading (ESC ++ next) h in no_second s.0 s.3 s.1 (cc (s.2)));
      closed = λ h. (let k = second_known reading next (λ n. cc (n, split)) h.beginning in no_second k.0 k.3 k.1 k.2);
    }

    before : (h : Head) → IsHead next h → port.IsApart h → IsApart reading ESC next
    before h is apart =
        let after : IsAfterEscape (ESC ++ next) next true = record {
          escape_head = subst (λ t. IsLongest (ESC ++ t) ESC (Row escape)) (sym split) (escape_alone 27 v (inl (omega arith)));
          splits = refl;
          some = λ n. cc (n, split);
          closed = closed;
        } in
        let stands : Stands reading (ESC ++ next) true next (told reading ESC (input.Key escape)) =
        usual ESC next (input.Key escape) (record { closed = λ h. in_front.closed (port_opens h); item = lone_escape next h after is apart }) refl in_front
        (λ w e. subst (λ z. IsUsual reading z true) (let same : next ≡ w = cc (e) in same) here) in
        record {
          events = escape_event ∷ [];
          flushed = escape_means reading;
          stands = (next, subst (λ k. Stands reading (ESC ++ next) true next (Key (pressed_key (with_key escape k)))) (escape_typed reading.dialect reading) stands, refl);
        }
      where
        port_opens : port.IsOpen (ESC ++ next) true → IsOpen reading (ESC ++ next) true
        port_opens h = record { more_comes = h.more_comes; some = h.some; beginning = inl h.beginning }

  module _ (event : Event) (none : (r : KeyReport) → event ≢ Key r) where
    of_others_item : (bytes : List ℕ) (d : InputEvent) → port.Item next true bytes d → told reading bytes d ≡ event → ¬ port.IsOpen next true
        → IsUsual reading next true → IsApart reading ESC next
    unfolding IsSequence
    of_others_item bytes d (key x k is other single) e closed here = absurd (none _ (sym e))
    of_others_item bytes d (char c is) e closed here = absurd (none _ (sym e))
    of_others_item bytes d (broken x is) e closed here = absurd (none _ (sym e))
    of_others_item bytes d (mouse x report is) e closed here =
        let plain = report_plain x report is.is_sequence in
        before (91 ∷ 60 ∷ (plain.0 ++ is.begins.0)) (is.begins.1 ∙ ap (λ z. z ++ is.begins.0) plain.1) closed here (Sequence x (Report report)) is tt
    of_others_item bytes d (paste body begins first) e closed here =
        before (91 ∷ 50 ∷ 48 ∷ 48 ∷ 126 ∷ ((body ++ END) ++ begins.0)) begins.1 closed here (Sequence START (Row start))
        (start_head next ((body ++ END) ++ begins.0, begins.1)) refl
    of_others_item bytes d (lone_escape w h after_it is apart) e closed here = absurd (none _ (sym e))
    of_others_item bytes d (alt w h j after_it is near) e closed here = absurd (none _ (sym e))

    by_others : (left : List ℕ) (d : Event) → Stands reading next true left d → d ≡ event → IsApart reading ESC next
    by_others left d (extra t l f is split) e = ⊎_elim
        (λ (bare : IsBareKey reading t). (let k = key_is (event_in reading t) bare.is_key in absurd (none k.0 (sym e ∙ is.means ∙ k.1))))
        (λ (other : ¬ IsBareKey reading t). escape_stands_apart reading next
        (inl (record { text = t; event = f; is_extra = is; not_bare = other; begins = (l, split) })))
        (bare_or_not reading t)
    by_others left d (alt_key t l f is bare split) e =
        let k = key_is (event_in reading t) bare.is_key in
        absurd (none (record k.0 { modifiers = bit_or k.0.modifiers 2 }) (sym e ∙ ap with_alt (is.means ∙ k.1)))
    by_others left d (lone l split apart) e = absurd (none _ (sym e))
    by_others left d (string kind head own after l f reads is comes) e =
        escape_stands_apart reading next (inr (reads, string_opening next kind head own after is))
    by_others left d (usual bytes l f stands split here after) e = of_others_item bytes f stands.item e stands.closed here

pub escape_before_others : EscapeBeforeOthers
escape_before_others reading next event means none = by_others reading next event none means.steps.0 event means.steps.1 refl

pub apart_from_more : ApartFromMore
apart_from_more reading text next more is = record {
  events = is.events;
  flushed = is.flushed;
  stands = subst (λ u. Steps reading u true is.events (next ++ more)) (append_assoc text next more)
      (steps_stay reading is.events (text ++ next) more next true is.stands);
}
