-- At each text an item stands or the text waits, and it can be told which.
use Rattle.std.proofs.Common.{◌≡◌, ◌⊎◌, inl, inr, ℕ, zero, suc, ◌<◌, ◌≤◌, Bool, true, false, List, [], ◌∷◌, ◌++◌, length, refl, sym, ap, ap₂, ◌∙◌, subst, ⊎_elim, arith, length-append}
use Rattle.std.specs.List.{AllByRecursion}
use Rattle.termwiz_keys.specs.Introducers.{ESC}
use Rattle.termwiz_keys.specs.declared.types.InputEvent.{InputEvent}
use Rattle.termwiz_grammar.specs.Grammar as port
use Rattle.termwiz_grammar.specs.Laws as portlaws
use Rattle.termwiz_grammar.specs.Laws.{IsHeldEscape}
use Rattle.termwiz_grammar.specs.Laws.Waits.{nothing as port_nothing, open_paste as port_paste, undecided as port_undecided}
use Rattle.termwiz_grammar.proofs.lemmas.lists.Decidable.{Decision, decide_either, decide_eq}
use Rattle.termwiz_grammar.proofs.lemmas.table.SequenceFacts.{unfinished_or_not}
use Rattle.termwiz_grammar.proofs.lemmas.characters.CharacterPrefixes.{unfinished_character_or_not, beginning_short}
use Rattle.termwiz_grammar.proofs.lemmas.items.ItemStable.{item_begins}
use Rattle.termwiz_grammar.proofs.lemmas.waiting.RestShape.{Settled, settle}
use Rattle.termwiz_grammar.proofs.lemmas.waiting.RestShape.Settled.{standing, resting}
use Rattle.termwiz_extended_events.specs.declared.types.Event.{Event}
use Rattle.termwiz_extended_events.specs.PortEvents.{told}
use Rattle.termwiz_extended_events.specs.declared.types.Reading.{Reading}
use Rattle.termwiz_extended_grammar.specs.Forms.{introducer, IsData, most_string}
use Rattle.termwiz_extended_grammar.specs.ExtraSequences.{IsBareKey, with_alt}
use Rattle.termwiz_extended_grammar.specs.Readings.{ReadsMore, after_event, after_events}
use Rattle.termwiz_extended_grammar.specs.Strings.{string_length, StartsWithOpening, IsOpenString}
use Rattle.termwiz_extended_grammar.specs.ExtendedGrammar.{StartsExtended, BeginsKnown, IsOpen, IsUsual, Stands, HasItem, IsRest, Steps, Means, escape_event}
use Rattle.termwiz_extended_grammar.specs.ExtendedGrammar.Stands.{extra, alt_key, lone_escape, string, usual}
use Rattle.termwiz_extended_grammar.specs.ExtendedLaws.{EmptyIsRest, OneMeaning, WaitingShape, Waits, most_beginning}
use Rattle.termwiz_extended_grammar.specs.ExtendedLaws.Waits.{nothing, open_paste, undecided, open_string}
use Rattle.termwiz_extended_grammar.proofs.lemmas.forms.ExtraFacts.{bare_or_not, starts_extended_or_not, unfinished_extended_or_not, mark_from_unfinished, unfinished_short}
use Rattle.termwiz_extended_grammar.proofs.lemmas.items.StringItems.{string_opening, string_once}
use Rattle.termwiz_extended_grammar.proofs.lemmas.items.StringRests.{SettledString, settle_string, nothing_comes}
use Rattle.termwiz_extended_grammar.proofs.lemmas.items.StringRests.SettledString.{given, stays_open}
use Rattle.termwiz_extended_grammar.proofs.lemmas.items.ExtendedItems.{apart_starts, extra_or_opening, one_starts, stands_once, stands_less, starts_with}

-- what properly begins a sequence, a character or an opening is short
pub known_short : (reading : Reading) (u : List ℕ) → BeginsKnown reading u → length u ≤ most_beginning
known_short reading u (inl h) = (let short : length u ≤ 20 = beginning_short u h in omega arith)
known_short reading u (inr h) = unfinished_short u (mark_from_unfinished reading u h)

known_or_not : (reading : Reading) (u : List ℕ) → Decision (BeginsKnown reading u)
known_or_not reading u =
    decide_either (decide_either (unfinished_or_not u) (unfinished_character_or_not u)) (unfinished_extended_or_not reading u)

pub open_or_not : (reading : Reading) (u : List ℕ) (f : Bool) → IsOpen reading u f ⊎ (IsOpen reading u f → ⊥)
open_or_not reading [] f = inr (λ h. h.some refl)
open_or_not reading (x ∷ u) false = inr (λ h. cc (h.more_comes))
open_or_not reading (x ∷ u) true = ⊎_elim
    (λ h. inl (record { more_comes = refl; some = λ e. cc; beginning = h }))
    (λ never. inr (λ h. never h.beginning))
    (known_or_not reading (x ∷ u))

-- an item stands at the text, or it waits
pub data SettledExtended (reading : Reading) (u : List ℕ) (f : Bool) : Type 0 where
  stays : (left : List ℕ) (event : Event) → Stands reading u f left event → SettledExtended reading u f
  waits : IsRest reading u f → Waits reading u f → SettledExtended reading u f

pub empty_is_rest : EmptyIsRest
empty_is_rest reading f left event stands = absurd (omega (arith, stands_less reading [] left event f stands))

-- nothing stands where no extra sequence and no opening does, and the port's item has no place
no_item : (reading : Reading) (u : List ℕ) (f : Bool) → ¬ StartsExtended reading u → ((v : List ℕ) → u ≡ ESC ++ v → ¬ StartsExtended reading v)
    → ((bytes : List ℕ) (event : InputEvent) → port.Stands u f bytes event → IsUsual reading u f
    → ((v : List ℕ) → u ≡ ESC ++ v → IsUsual reading v f) → ⊥)
    → IsRest reading u f
no_item reading u f none none_after never left event (extra text left2 e is split) =
    none (inl (record { text = text; event = e; is_extra = is; begins = (left2, split) }))
no_item reading u f none none_after never left event (alt_key text left2 e is bare split) =
    none_after (text ++ left2) split (starts_with reading text left2 e is)
no_item reading u f none none_after never left event (lone_escape v split after) = none_after v split (apart_starts reading v after)
no_item reading u f none none_after never left event (string kind head bytes after left2 e reads is comes) =
    none (inr (reads, string_opening u kind head bytes after is))
no_item reading u f none none_after never left event (usual s left2 e stands split is gap) = never s e stands is gap

-- nothing stands at an open string
pub string_rests : (reading : Reading) (u : List ℕ) (f : Bool) → ReadsMore reading → IsOpenString u → f ≡ true → IsRest reading u f
string_rests reading u f may o more left event stands = go left event stands
  where
    opening : StartsWithOpening u
    opening = string_opening u o.kind o.head o.bytes o.held o.is_string

    go : (left : List ℕ) (event : Event) → Stands reading u f left event → ⊥
    go left event (extra text left2 e is split) =
        extra_or_opening reading u (record { text = text; event = e; is_extra = is; begins = (left2, split) }) opening
    go left event (alt_key text left2 e is bare split) =
        one_starts reading u (text ++ left2) (inr (may, opening)) split (starts_with reading text left2 e is)
    go left event (lone_escape v split after) = one_starts reading u v (inr (may, opening)) split (apart_starts reading v after)
    go left event (string kind head bytes after left2 e reads is comes) =
        let one = string_once u o.kind kind o.head head o.bytes bytes o.held after o.is_string is in
        nothing_comes kind head bytes o.bytes after o.held left2 f e is.each
        (subst (λ z. AllByRecursion (IsData z) o.bytes) one.0 o.is_string.each) (sym one.2)
        (subst (λ z. string_length z head o.bytes < most_string) one.0
        (subst (λ z. string_length o.kind z o.bytes < most_string) one.1 o.short))
        o.is_held more comes
    go left event (usual s left2 e stands split is gap) = is.none (inr (may, opening))

-- what the port waits for
from_port : (reading : Reading) (u : List ℕ) (f : Bool) → portlaws.Waits u f → Waits reading u f
from_port reading u f (port_nothing e) = nothing e
from_port reading u f (port_paste body e never) = open_paste body e never
from_port reading u f (port_undecided held bytes is e n b short m) =
    undecided held bytes is e n (inl b) (known_short reading bytes (inl b)) m

-- where no extra sequence and no opening is, and nothing is open, the port decides
by_port : (reading : Reading) (u : List ℕ) (f : Bool) → IsUsual reading u f → ((v : List ℕ) → u ≡ ESC ++ v → IsUsual reading v f)
    → SettledExtended reading u f
by_port reading u f is after = go (settle u f)
  where
    go : Settled u f → SettledExtended reading u f
    go (standing bytes event stands) =
        let b = item_begins u bytes event f stands.item in
        stays b.0 (told reading bytes event) (usual bytes b.0 event stands b.1 is after)
    go (resting rest w) = waits
        (no_item reading u f is.none (λ v e. (after v e).none) (λ bytes event stands. absurd (rest bytes event stands)))
        (from_port reading u f w)

-- an open string has at most as many bytes as may be read before its event
pub open_short : (u : List ℕ) → IsOpenString u → length u ≤ most_string
open_short u o = omega (
  arith,
  o.short,
  ap length o.is_string.splits,
  length-append (introducer o.kind ++ o.head) (o.bytes ++ o.held),
  length-append o.bytes o.held,
  length-append (introducer o.kind ++ o.head) o.bytes,
  held_length o.held o.is_held,
)
  where
    held_length : (held : List ℕ) → IsHeldEscape held → length held ≤ 1
    held_length held (inl none) = omega (arith, ap length none)
    held_length held (inr one) = omega (arith, ap length one)

-- ESC before an extra sequence or an opening is joined to it, or is an item by itself
pub before_extended : (reading : Reading) (v : List ℕ) (f : Bool) → StartsExtended reading v → HasItem reading (ESC ++ v) f
before_extended reading v f (inl h) = ⊎_elim
    (λ (bare : IsBareKey reading h.text).
    (h.begins.0, with_alt h.event, alt_key h.text h.begins.0 h.event h.is_extra bare (ap (λ z. 27 ∷ z) h.begins.1)))
    (λ (other : ¬ IsBareKey reading h.text). (
      v,
      escape_event,
      lone_escape v refl (inl (record {
        text = h.text;
        event = h.event;
        is_extra = h.is_extra;
        not_bare = other;
        begins = h.begins;
      })),
    ))
    (bare_or_not reading h.text)
before_extended reading v f (inr o) = (v, escape_event, lone_escape v refl (inr o))

settled_before : (reading : Reading) (v : List ℕ) (f : Bool) → StartsExtended reading v → SettledExtended reading (ESC ++ v) f
settled_before reading v f h = let item = before_extended reading v f h in stays item.0 item.1 item.2

-- a text after an ESC
after_one_escape : (reading : Reading) (v : List ℕ) (f : Bool) → IsUsual reading (ESC ++ v) f → SettledExtended reading (ESC ++ v) f
after_one_escape reading v f is = ⊎_elim
    (λ (h : StartsExtended reading v). settled_before reading v f h)
    (λ (none : ¬ StartsExtended reading v). ⊎_elim
    (λ (o : IsOpen reading v f). waits
    (no_item reading (ESC ++ v) f is.none (λ w e. subst (λ x. ¬ StartsExtended reading x) (let h : v ≡ w = cc (e) in h) none)
    (λ bytes event stands it gap. (gap v refl).closed o))
    (undecided ESC v (inr refl) refl o.some o.beginning (known_short reading v o.beginning) o.more_comes))
    (λ (closed : ¬ IsOpen reading v f). by_port reading (ESC ++ v) f is
    (λ w e. subst (λ x. IsUsual reading x f) (let h : v ≡ w = cc (e) in h) (record { none = none; closed = closed })))
    (open_or_not reading v f))
    (starts_extended_or_not reading v)

at_byte : (reading : Reading) (x : ℕ) (u : List ℕ) (f : Bool) → IsUsual reading (x ∷ u) f → SettledExtended reading (x ∷ u) f
at_byte reading x u f is = ⊎_elim
    (λ (e : x ≡ 27). subst (λ z. SettledExtended reading (z ∷ u) f) (sym e)
    (after_one_escape reading u f (subst (λ z. IsUsual reading (z ∷ u) f) e is)))
    (λ (other : x ≡ 27 → ⊥). by_port reading (x ∷ u) f is (λ w e. absurd (other (cc (e)))))
    (decide_eq x 27)

-- a text that is open: nothing stands, but for what ESC and an extra sequence or an opening make
at_open : (reading : Reading) (x : ℕ) (u : List ℕ) (f : Bool) → ¬ StartsExtended reading (x ∷ u) → IsOpen reading (x ∷ u) f
    → SettledExtended reading (x ∷ u) f
at_open reading x u f none o = ⊎_elim
    (λ (h : (x ≡ 27) × StartsExtended reading u).
    subst (λ z. SettledExtended reading (z ∷ u) f) (sym h.0) (settled_before reading u f h.1))
    (λ (never : ((x ≡ 27) × StartsExtended reading u) → ⊥). waits
    (no_item reading (x ∷ u) f none (λ w e h. never (cc (e), subst (λ z. StartsExtended reading z) (let k : w ≡ u = cc (e) in k) h))
    (λ bytes event stands it gap. it.closed o))
    (undecided [] (x ∷ u) (inl refl) refl (λ h. cc (h)) o.beginning (known_short reading (x ∷ u) o.beginning) o.more_comes))
    (both_or_not (decide_eq x 27) (starts_extended_or_not reading u))
  where
    both_or_not : Decision (x ≡ 27) → Decision (StartsExtended reading u) → Decision ((x ≡ 27) × StartsExtended reading u)
    both_or_not (inl a) (inl b) = inl (a, b)
    both_or_not (inl a) (inr n) = inr (λ h. n h.1)
    both_or_not (inr n) b = inr (λ h. n h.0)

-- a text that an extra sequence or an opening begins
at_start : (reading : Reading) (u : List ℕ) (f : Bool) → StartsExtended reading u → SettledExtended reading u f
at_start reading u f (inl h) = stays h.begins.0 h.event (extra h.text h.begins.0 h.event h.is_extra h.begins.1)
at_start reading u f (inr (reads, o)) = go (settle_string u f o)
  where
    go : SettledString u f → SettledExtended reading u f
    go (given kind head bytes after left event is it) = stays left event (string kind head bytes after left event reads is it)
    go (stays_open is more) = waits (string_rests reading u f reads is more) (open_string is (open_short u is) more reads)

pub settle_extended : (reading : Reading) (u : List ℕ) (f : Bool) → SettledExtended reading u f
settle_extended reading [] f = waits (empty_is_rest reading f) (nothing refl)
settle_extended reading (x ∷ u) f = ⊎_elim
    (λ (h : StartsExtended reading (x ∷ u)). at_start reading (x ∷ u) f h)
    (λ (none : ¬ StartsExtended reading (x ∷ u)). ⊎_elim
    (λ (o : IsOpen reading (x ∷ u) f). at_open reading x u f none o)
    (λ (closed : ¬ IsOpen reading (x ∷ u) f). at_byte reading x u f (record { none = none; closed = closed }))
    (open_or_not reading (x ∷ u) f))
    (starts_extended_or_not reading (x ∷ u))

pub waiting_shape : WaitingShape
waiting_shape reading u f rest = go (settle_extended reading u f)
  where
    go : SettledExtended reading u f → Waits reading u f
    go (stays bytes event stands) = absurd (rest bytes event stands)
    go (waits r w) = w

-- `Means` as a pair, which a clause can take apart
abbrev pub Read : Reading → List ℕ → Bool → List Event → List ℕ → Type 0
Read reading text more events waiting =
    Steps reading text more events waiting × IsRest (after_events reading events) waiting more

pub read_of : {reading : Reading} {T W : List ℕ} {f : Bool} {E : List Event} → Means reading T f E W → Read reading T f E W
read_of m = (m.steps, m.rest)

pub steps_once : (reading : Reading) (E D : List Event) (T V W : List ℕ) (f : Bool) → Read reading T f E V → Read reading T f D W
    → (E ≡ D) × (V ≡ W)
steps_once reading [] [] T V W f (s, r) (t, q) = (refl, sym s ∙ t)
steps_once reading [] (d ∷ D) T V W f (s, r) ((left, stands, steps), q) =
    absurd (r left d (subst (λ x. Stands reading x f left d) s stands))
steps_once reading (e ∷ E) [] T V W f ((left, stands, steps), r) (t, q) =
    absurd (q left e (subst (λ x. Stands reading x f left e) t stands))
steps_once reading (e ∷ E) (d ∷ D) T V W f ((left, stands, steps), r) ((other, stands2, steps2), q) =
    let one = stands_once reading T f left other e d stands stands2 in
    let next = after_event reading d in
    let first = subst (λ x. Read (after_event reading x) left f E V) one.1 (steps, r) in
    let more = steps_once next E D other V W f (subst (λ x. Read next x f E V) one.0 first) (steps2, q) in
    (ap₂ (λ x y. x ∷ y) one.1 more.0, more.1)

meaning_within : (n : ℕ) (reading : Reading) (T : List ℕ) (f : Bool) → length T ≤ n
    → (E : List Event) × (W : List ℕ) × Read reading T f E W
meaning_within zero reading [] f l = ([], [], (refl, empty_is_rest reading f))
meaning_within zero reading (x ∷ T) f l = absurd (omega arith)
meaning_within (suc n) reading T f l = go (settle_extended reading T f) (λ next rest lt. meaning_within n next rest f lt)
  where
    go : SettledExtended reading T f
        → ((next : Reading) (rest : List ℕ) → length rest ≤ n → (E : List Event) × (W : List ℕ) × Read next rest f E W)
        → (E : List Event) × (W : List ℕ) × Read reading T f E W
    go (waits r w) below = ([], T, (refl, r))
    go (stays left event stands) below =
        let m = below (after_event reading event) left (omega (arith, stands_less reading T left event f stands)) in
        (event ∷ m.0, m.1, ((left, stands, m.2.0), m.2.1))

pub one_meaning : OneMeaning
one_meaning reading T f =
    let m = meaning_within (length T) reading T f (omega arith) in
    (m.0, m.1, record { steps = m.2.0; rest = m.2.1 }, λ D V h. steps_once reading D m.0 T V m.1 f (read_of h) m.2)
