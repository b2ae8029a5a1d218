-- Where no extra sequence and no opening is met, a text means what it means to the port.
use Rattle.std.proofs.Common.{◌≡◌, ◌≢◌, ◌⊎◌, ◌↔◌, inl, inr, ⊎_elim, ap₂, Some, ℕ, Bool, List, [], ◌∷◌, ◌++◌, length, map, refl, sym, ap, ◌∙◌, subst, arith, length-append}
use Rattle.std.proofs.lemmas.List.{map-append}
use Rattle.termwiz_keymap.specs.Bytes.{Begins}
use Rattle.termwiz_keys.specs.Introducers.{ESC, END}
use Rattle.termwiz_keys.specs.Keys.{escape}
use Rattle.termwiz_keys.specs.declared.types.InputEvent.{InputEvent}
use Rattle.termwiz_grammar.specs.Grammar as port
use Rattle.termwiz_grammar.specs.Grammar.{IsLongest, IsUnfinishedSequence, IsBeginning, Item}
use Rattle.termwiz_grammar.specs.Grammar.Item.{key, char, broken, mouse, paste, lone_escape, alt}
use Rattle.termwiz_grammar.specs.declared.waiting.Waiting.{Waiting}
use Rattle.termwiz_grammar.specs.declared.waiting.Waiting.TheVariants.{Nothing, Escape, Sequence, Character, Paste}
use Rattle.termwiz_grammar.specs.WaitingKinds as port_kinds
use Rattle.termwiz_grammar.specs.WaitingKinds.{IsHeldThen}
use Rattle.termwiz_grammar.specs.Sequences.{Meaning, IsSequence}
use Rattle.termwiz_grammar.specs.Sequences.Meaning.{Row, Report}
use Rattle.termwiz_grammar.proofs.lemmas.lists.Decidable.{same_or_not}
use Rattle.termwiz_grammar.proofs.lemmas.items.ItemStable.{item_begins}
use Rattle.termwiz_grammar.proofs.lemmas.table.SequenceFacts.{escape_is_sequence, sequence_bytes, sequence_once}
use Rattle.termwiz_grammar.proofs.lemmas.table.RowShape.{Bytes}
use Rattle.termwiz_grammar.proofs.lemmas.table.RowShape.Bytes.{one, more}
use Rattle.termwiz_grammar.proofs.lemmas.characters.CharacterPrefixes.{IsHigh, parted_high}
use Rattle.termwiz_grammar.proofs.lemmas.mouse.OneReport.{IsPlain}
use Rattle.termwiz_grammar.proofs.lemmas.read_back.WholeTexts.{escape_alone}
use Rattle.termwiz_grammar.proofs.lemmas.cuts.ChunkInvariance.{steps_push}
use Rattle.termwiz_extended_events.specs.declared.types.Dialect.{Dialect}
use Rattle.termwiz_extended_events.specs.declared.types.Dialect.TheVariants.{Extended, Termwiz}
use Rattle.termwiz_extended_events.specs.declared.types.Event.{Event}
use Rattle.termwiz_extended_events.specs.PortEvents.{told, port_of}
use Rattle.termwiz_extended_events.specs.declared.types.Reading.{Reading}
use Rattle.termwiz_extended_grammar.specs.Readings.{ReadsMore, after_event, after_events}
use Rattle.termwiz_extended_grammar.specs.ExtendedGrammar as grammar
use Rattle.termwiz_extended_grammar.specs.ExtendedGrammar.{StartsExtended, IsOpen, IsUsual, BeginsKnown}
use Rattle.termwiz_extended_grammar.specs.ExtendedGrammar.Stands.{extra, alt_key, string, usual}
use Rattle.termwiz_extended_grammar.specs.ExtendedGrammar.Stands.{lone_escape as escape_before_extra}
use Rattle.termwiz_extended_grammar.specs.ExtendedKinds.{IsKind, IsUnfinished, WaitsAsInPort, same_kind}
use Rattle.termwiz_extended_grammar.specs.ExtendedLaws.{ArePorts, BeginsDecided, Conservative, HasNoExtra, LooksAt, TermwizIsPort}
use Rattle.termwiz_extended_grammar.specs.ExtendedLaws.LooksAt.{at_item, after_escape}
use Rattle.termwiz_extended_grammar.proofs.lemmas.forms.FormBytes.{mark_shape}
use Rattle.termwiz_extended_grammar.proofs.lemmas.forms.ExtraFacts.{none_at_end, mark_from_unfinished, completed_mark, starts_reads, unfinished_reads}
use Rattle.termwiz_extended_grammar.proofs.lemmas.items.StringItems.{string_opening}
use Rattle.termwiz_extended_grammar.proofs.lemmas.items.ExtendedItems.{apart_starts, starts_shape, starts_with}
use Rattle.termwiz_extended_grammar.proofs.lemmas.cuts.PortTold.{told_leaves, told_port}

-- a text that begins with a plain byte is usual: no sequence begins so, and no character of several bytes
plain_usual : (reading : Reading) (c : ℕ) (t : List ℕ) (f : Bool) → IsPlain c → IsUsual reading (c ∷ t) f
plain_usual reading c t f plain = record { none = none; closed = λ h. closed h.beginning }
  where
    none : StartsExtended reading (c ∷ t) → ⊥
    none h = (let s = starts_shape reading (c ∷ t) h in let e : c ≡ 27 = cc (s.2) in omega (arith, plain.0))

    no_row : (tail : List ℕ) → tail ≢ [] → Bytes (c ∷ t ++ tail) → ⊥
    no_row [] longer b = longer refl
    no_row (x ∷ tail) longer (one y l e) = omega (arith, ap length e, length-append t (x ∷ tail))
    no_row (x ∷ tail) longer (more s n e p) = (let first : c ≡ 27 = cc (e) in omega (arith, plain.0))

    closed : BeginsKnown reading (c ∷ t) → ⊥
    closed (inl (inl h)) = no_row h.tail h.longer (sequence_bytes (c ∷ t ++ h.tail) h.meaning h.is_sequence)
    closed (inl (inr h)) =
        let high : IsHigh c = (parted_high h.char (c ∷ t) h.tail h.scalar (λ e. cc (e)) h.longer h.spells).0 in
        omega (arith, plain.1, high.0)
    closed (inr h) =
        let m = completed_mark (c ∷ t) (mark_from_unfinished reading (c ∷ t) h) in
        let s = mark_shape (c ∷ t ++ m.0) m.2 in
        let e : c ≡ 27 = cc (s.2) in omega (arith, plain.0)

-- after the ESC of a longer sequence comes a plain byte
pub plain_after : (reading : Reading) (u v text : List ℕ) (m : Meaning) (f : Bool) → IsSequence text m → Begins text u → (text ≡ ESC → ⊥)
    → u ≡ ESC ++ v → IsUsual reading v f
plain_after reading u v text m f is b longer split = go (sequence_bytes text m is)
  where
    go : Bytes text → IsUsual reading v f
    go (one y l e) =
        let first : y ≡ 27 = cc (b.1, split, e) in
        absurd (longer (e ∙ ap (λ z. z ∷ []) first))
    go (more [] n e p) = absurd (n refl)
    go (more (c ∷ s) n e p) =
        let after : v ≡ c ∷ (s ++ b.0) = cc (b.1, split, e) in
        subst (λ x. IsUsual reading x f) (sym after) (plain_usual reading c (s ++ b.0) f p.0)

empty_usual : (reading : Reading) (f : Bool) → IsUsual reading [] f
empty_usual reading f = record { none = none_at_end reading; closed = λ h. h.some refl }

-- nothing extra at a text that isn't open to the port
usual_from : (reading : Reading) (u : List ℕ) (f : Bool) → ¬ port.IsOpen u f → HasNoExtra reading u f → IsUsual reading u f
usual_from reading u f closed none = record { none = none.none; closed = λ h. closed (none.open_to_port h) }

-- what follows the ESC of an item is usual, where the port meets no extra sequence after an ESC that is the head
usual_after : (reading : Reading) (u bytes : List ℕ) (event : InputEvent) (f : Bool) → Item u f bytes event
    → ((v : List ℕ) → IsLongest u ESC (Row escape) → u ≡ ESC ++ v → HasNoExtra reading v f)
    → (v : List ℕ) → u ≡ ESC ++ v → IsUsual reading v f
usual_after reading u bytes event f (key text k is ordinary alone) none v split = ⊎_elim
    (λ (e : text ≡ ESC). let gone : v ≡ [] = cc (split, alone e) in subst (λ x. IsUsual reading x f) (sym gone) (empty_usual reading f))
    (λ (other : text ≡ ESC → ⊥). plain_after reading u v text (Row k) f is.is_sequence is.begins other split)
    (same_or_not text ESC)
usual_after reading u bytes event f (char c is) none v split =
    absurd (is.no_sequence ESC (Row escape) escape_is_sequence (v, split))
usual_after reading u bytes event f (broken byte is) none v split =
    absurd (is.no_sequence ESC (Row escape) escape_is_sequence (v, split))
usual_after reading u bytes event f (mouse text report is) none v split = ⊎_elim
    (λ (e : text ≡ ESC). absurd (cc (sequence_once ESC (Report report) (Row escape)
    (subst (λ x. IsSequence x (Report report)) e is.is_sequence) escape_is_sequence)))
    (λ (other : text ≡ ESC → ⊥). plain_after reading u v text (Report report) f is.is_sequence is.begins other split)
    (same_or_not text ESC)
usual_after reading u bytes event f (paste body b first) none v split =
    let after : v ≡ 91 ∷ (50 ∷ 48 ∷ 48 ∷ 126 ∷ body ++ END ++ b.0) = cc (split, b.1) in
    subst (λ x. IsUsual reading x f) (sym after)
    (plain_usual reading 91 (50 ∷ 48 ∷ 48 ∷ 126 ∷ body ++ END ++ b.0) f (omega arith, omega arith))
usual_after reading u bytes event f (lone_escape v h after is apart) none w split =
    let same : v ≡ w = cc (after.splits, split) in
    subst (λ x. IsUsual reading x f) same (usual_from reading v f after.closed (none v after.escape_head after.splits))
usual_after reading u bytes event f (alt v h k after is is_key) none w split =
    let same : v ≡ w = cc (after.splits, split) in
    subst (λ x. IsUsual reading x f) same (usual_from reading v f after.closed (none v after.escape_head after.splits))

-- the port's item stands where no extra sequence and no opening is met
pub usual_item : (reading : Reading) (u bytes left : List ℕ) (event : InputEvent) (f : Bool) → port.Stands u f bytes event → u ≡ bytes ++ left
    → HasNoExtra reading u f → ((v : List ℕ) → IsLongest u ESC (Row escape) → u ≡ ESC ++ v → HasNoExtra reading v f)
    → grammar.Stands reading u f left (told reading bytes event)
usual_item reading u bytes left event f stands split none after =
    usual bytes left event stands split (usual_from reading u f stands.closed none)
    (usual_after reading u bytes event f stands.item after)

-- no extra sequence and no opening is met after an ESC
escape_before : (reading : Reading) (W : List ℕ) (f : Bool) (v : List ℕ)
    → ((v : List ℕ) → IsLongest W ESC (Row escape) → W ≡ ESC ++ v → HasNoExtra reading v f) → W ≡ ESC ++ v → StartsExtended reading v → ⊥
escape_before reading W f v after split starts =
    let s = starts_shape reading v starts in
    let whole : W ≡ 27 ∷ 27 ∷ (s.0 ∷ s.1) = split ∙ ap (λ x. 27 ∷ x) s.2 in
    (after v (subst (λ x. IsLongest x ESC (Row escape)) (sym whole) (escape_alone 27 (s.0 ∷ s.1) (inl (omega arith)))) split).none
    starts

-- no item stands where none of the port's does, and no extra sequence and no opening is met
pub rest_of_port : (reading : Reading) (W : List ℕ) (f : Bool) → port.IsRest W f → HasNoExtra reading W f
    → ((v : List ℕ) → IsLongest W ESC (Row escape) → W ≡ ESC ++ v → HasNoExtra reading v f) → grammar.IsRest reading W f
rest_of_port reading W f rest none after left event (extra text left2 e is split) =
    none.none (inl (record { text = text; event = e; is_extra = is; begins = (left2, split) }))
rest_of_port reading W f rest none after left event (alt_key text left2 e is bare split) =
    escape_before reading W f (text ++ left2) after split (starts_with reading text left2 e is)
rest_of_port reading W f rest none after left event (escape_before_extra v split apart) =
    escape_before reading W f v after split (apart_starts reading v apart)
rest_of_port reading W f rest none after left event (string kind head bytes over left2 e reads is comes) =
    none.none (inr (reads, string_opening W kind head bytes over is))
rest_of_port reading W f rest none after left event (usual s left2 e stands split is gap) = rest s e stands

-- what the port's item of a text is told as, has the port's event
abbrev pub IsTold : Reading → List ℕ → Type 0
IsTold reading u = (reading.dialect ≡ Termwiz)
    ⊎ ((¬ BeginsDecided u) × ((v : List ℕ) → IsLongest u ESC (Row escape) → u ≡ ESC ++ v → ¬ BeginsDecided v))

-- the port's events in turn, as they are told: no reading decides a byte of them
record SameSteps (reading : Reading) (u : List ℕ) (f : Bool) (E : List InputEvent) (W : List ℕ) : Type 0 where
  events : List Event
  steps : grammar.Steps reading u f events W
  ports : ArePorts events E
  leaves : after_events reading events ≡ reading

module _ (reading : Reading) (T : List ℕ) (f : Bool) (none : (u : List ℕ) → LooksAt T f u → HasNoExtra reading u f)
    (are_told : (u : List ℕ) → ((v : List ℕ) → (v ≡ u) ⊎ (IsLongest u ESC (Row escape) × (u ≡ ESC ++ v)) → LooksAt T f v) → IsTold reading u) where
  -- the steps that are left, after those that were made
  steps_of_port : (E D : List InputEvent) (U W : List ℕ) → port.Steps T f D U → port.Steps U f E W → SameSteps reading U f E W
  steps_of_port [] D U W made h = record { events = []; steps = h; ports = refl; leaves = refl }
  steps_of_port (e ∷ E) D U W made (bytes, rest, stands, splits, steps) =
      let here = usual_item reading U bytes rest e f stands splits (none U (at_item D made)) (λ v is split. none v (after_escape D U made is split)) in
      let more = steps_of_port E (D ++ e ∷ []) rest W (steps_push D T U rest W f bytes e made stands splits) steps in
      let event = told reading bytes e in
      let same : after_event reading event ≡ reading = told_leaves reading bytes e in
      let told_so = told_port reading U bytes e f stands.item (rest, splits) (are_told U (looks U made)) in
      record {
        events = event ∷ more.events;
        steps = (rest, here, subst (λ r. grammar.Steps r rest f more.events W) (sym same) more.steps);
        ports = ap₂ (λ x y. x ∷ y) told_so more.ports;
        leaves = ap (λ r. after_events r more.events) same ∙ more.leaves;
      }
    where
      looks : (u : List ℕ) → port.Steps T f D u → (v : List ℕ) → (v ≡ u) ⊎ (IsLongest u ESC (Row escape) × (u ≡ ESC ++ v)) → LooksAt T f v
      looks u made v (inl same) = subst (LooksAt T f) (sym same) (at_item D made)
      looks u made v (inr (is, split)) = after_escape D u made is split

  same_meaning : (E : List InputEvent) (W : List ℕ) → port.Means T f E W → (D : List Event) × grammar.Means reading T f D W × ArePorts D E
  same_meaning E W means =
      let it = steps_of_port E [] T W refl means.steps in (
        it.events,
        record {
          steps = it.steps;
          rest = subst (λ r. grammar.IsRest r W f) (sym it.leaves) (rest_of_port reading W f means.rest (none W (at_item E means.steps))
              (λ v is split. none v (after_escape E W means.steps is split)));
        },
        it.ports,
      )

pub conservative : Conservative
conservative reading T W E f none means = same_meaning reading T f (λ u at. (none u at).0)
    (λ u looks. inr ((none u (looks u (inl refl))).1, λ v is split. (none v (looks v (inr (is, split)))).1)) E W means

-- by termwiz's grammar nothing extra is met
pub nothing_more : (reading : Reading) → reading.dialect ≡ Termwiz → (u : List ℕ) (f : Bool) → HasNoExtra reading u f
nothing_more reading only u f = record {
  none = λ h. never (starts_reads reading u h);
  open_to_port = λ h. record { more_comes = h.more_comes; some = h.some; beginning = port_beginning h.beginning };
}
  where
    never : ReadsMore reading → ⊥
    never reads = cc (only, reads)

    port_beginning : BeginsKnown reading u → IsBeginning u
    port_beginning (inl h) = h
    port_beginning (inr h) = absurd (never (unfinished_reads reading u h))

-- an item there is the port's
port_item : (reading : Reading) (u left : List ℕ) (f : Bool) (event : Event) → reading.dialect ≡ Termwiz
    → grammar.Stands reading u f left event
    → (bytes : List ℕ) × (e : InputEvent) × port.Stands u f bytes e × (u ≡ bytes ++ left) × (event ≡ told reading bytes e)
port_item reading u left f event only (extra text left2 e is split) = absurd (cc (only, is.reads))
port_item reading u left f event only (alt_key text left2 e is bare split) = absurd (cc (only, is.reads))
port_item reading u left f event only (escape_before_extra v split apart) =
    absurd (cc (only, starts_reads reading v (apart_starts reading v apart)))
port_item reading u left f event only (string kind head bytes over left2 e reads is comes) = absurd (cc (only, reads))
port_item reading u left f event only (usual s left2 e stands split is gap) = (s, e, stands, split, refl)

-- the steps of a text, as the port's
port_steps : (reading : Reading) (T W : List ℕ) (f : Bool) (D : List Event) → reading.dialect ≡ Termwiz
    → grammar.Steps reading T f D W → (E : List InputEvent) × port.Steps T f E W × ArePorts D E × (after_events reading D ≡ reading)
port_steps reading T W f [] only steps = ([], steps, refl, refl)
port_steps reading T W f (event ∷ D) only (left, stands, steps) =
    let item = port_item reading T left f event only stands in
    let same : after_event reading event ≡ reading = ap (after_event reading) item.4 ∙ told_leaves reading item.0 item.1 in
    let more = port_steps reading left W f D only (subst (λ r. grammar.Steps r left f D W) same steps) in
    let told_so : port_of event ≡ Some item.1 =
    ap port_of item.4 ∙ told_port reading T item.0 item.1 f item.2.item (left, item.3) (inl only) in (
      item.1 ∷ more.0,
      (item.0, left, item.2, item.3, more.1),
      ap₂ (λ x y. x ∷ y) told_so more.2,
      ap (λ r. after_events r D) same ∙ more.3,
    )

-- what is no item there is none of the port's
port_rest : (reading : Reading) (W : List ℕ) (f : Bool) → reading.dialect ≡ Termwiz → grammar.IsRest reading W f → port.IsRest W f
port_rest reading W f only rest bytes e stands =
    let b = item_begins W bytes e f stands.item in
    rest b.0 (told reading bytes e) (usual_item reading W bytes b.0 e f stands b.1 (nothing_more reading only W f)
    (λ v is split. nothing_more reading only v f))

-- what waits is of a kind to the port exactly if it is of the same kind here
same_kinds : (reading : Reading) (u : List ℕ) (f : Bool) → reading.dialect ≡ Termwiz → WaitsAsInPort reading u f
same_kinds reading u f only = (go, λ string. cc (only, string.2))
  where
    of_port : (v : List ℕ) → IsUnfinished reading v → IsUnfinishedSequence v
    of_port v (inl h) = h
    of_port v (inr h) = absurd (cc (only, unfinished_reads reading v h))

    held_then : {P Q : List ℕ → Type 0} → ((v : List ℕ) → P v → Q v) → IsHeldThen P u → IsHeldThen Q u
    held_then also is = record {
      held = is.held;
      bytes = is.bytes;
      is_held = is.is_held;
      splits = is.splits;
      some = is.some;
      unfinished = also is.bytes is.unfinished;
    }

    go : (kind : Waiting) → port_kinds.IsKind u f kind ↔ IsKind reading u f (same_kind kind)
    go Nothing = (λ h. h, λ h. h)
    go Escape = (λ h. h, λ h. h)
    go Sequence = (λ h. (held_then (λ v k. inl k) h.0, h.1, h.2), λ h. (held_then of_port h.0, h.1, h.2))
    go Character = (λ h. h, λ h. h)
    go Paste = (λ h. h, λ h. h)

pub termwiz_is_port : TermwizIsPort
termwiz_is_port reading T W f only = (forth, back, same_kinds reading W f only)
  where
    forth : (D : List Event) → grammar.Means reading T f D W → (E : List InputEvent) × port.Means T f E W × ArePorts D E
    forth D means =
        let it = port_steps reading T W f D only means.steps in (
          it.0,
          record { steps = it.1; rest = port_rest reading W f only (subst (λ r. grammar.IsRest r W f) it.3 means.rest) },
          it.2,
        )

    back : (E : List InputEvent) → port.Means T f E W → (D : List Event) × grammar.Means reading T f D W × ArePorts D E
    back E means = same_meaning reading T f (λ u at. nothing_more reading only u f) (λ u looks. inl only) E W means

-- a reading reads more than the port, or nothing else
pub reads_or_only : (reading : Reading) → ReadsMore reading ⊎ (reading.dialect ≡ Termwiz)
reads_or_only reading = go reading.dialect
  where
    go : (dialect : Dialect) → (dialect ≡ Extended) ⊎ (dialect ≡ Termwiz)
    go Extended = inl refl
    go Termwiz = inr refl

-- the port's events of events, one list behind the other
pub ports_join : (D B : List Event) (E F : List InputEvent) → ArePorts D E → ArePorts B F → ArePorts (D ++ B) (E ++ F)
ports_join D B E F p q = map-append port_of D B ∙ ap₂ (λ x y. x ++ y) p q ∙ sym (map-append (λ e. Some e) E F)

-- events have one list of the port's
pub ports_once : (E F : List InputEvent) (D : List Event) → ArePorts D E → ArePorts D F → E ≡ F
ports_once E F D p q = go E F (sym p ∙ q)
  where
    go : (E F : List InputEvent) → map (λ e. Some e) E ≡ map (λ e. Some e) F → E ≡ F
    go [] [] h = refl
    go [] (f ∷ F) h = cc (h)
    go (e ∷ E) [] h = cc (h)
    go (e ∷ E) (f ∷ F) h = ap₂ (λ x y. x ∷ y) (cc (h)) (go E F (cc (h)))
