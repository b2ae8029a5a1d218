-- What waits as the beginning of a sequence, of a character or of an opening may go on so that a flush before changes the events, and so may an
-- open string.
use Rattle.std.proofs.Common.{◌≡◌, ◌≢◌, ◌⊎◌, inl, inr, ⊎_elim, ℕ, ◌≤◌, false, List, [], ◌∷◌, ◌++◌, length, refl, sym, ap, ◌∙◌, subst, append_assoc, append-nil, arith, length-append, encode_utf8}
use Rattle.std.specs.List.{AllByRecursion}
use Rattle.std.specs.Char.{IsScalar}
use Rattle.std.proofs.lemmas.List.{append_cancel_left}
use Rattle.termwiz_keymap.specs.Bytes.{Begins}
use Rattle.termwiz_keymap.proofs.lemmas.lists.CommonPrefixes.{Overlaps, overlap, append-some, length-some, true_at_end, true_at_front}
use Rattle.termwiz_keymap.proofs.lemmas.lists.CommonPrefixes.Overlaps.{within, past}
use Rattle.termwiz_keys.specs.Introducers.{ESC, CSI, SS3, START}
use Rattle.termwiz_keys.specs.Keys.{escape, with_alt, plain}
use Rattle.termwiz_keys.specs.declared.types.KeyEvent.{KeyEvent}
use Rattle.termwiz_keys.specs.declared.types.MouseEvent.{MouseEvent}
use Rattle.termwiz_keys.specs.declared.types.InputEvent.{InputEvent}
use Rattle.termwiz_keys.specs.declared.types.InputEvent.TheVariants.{Key, Mouse}
use Rattle.termwiz_grammar.specs.Sequences.{Meaning, IsSequence}
use Rattle.termwiz_grammar.specs.Sequences.Meaning.{Row, Report}
use Rattle.termwiz_grammar.specs.Grammar as port
use Rattle.termwiz_grammar.specs.Grammar.{Head, IsHead, bytes_of, IsApart, Item}
use Rattle.termwiz_grammar.specs.Grammar.Head.{Sequence, Character, Broken}
use Rattle.termwiz_grammar.specs.Grammar.Item.{key, char, mouse}
use Rattle.termwiz_grammar.specs.Laws.{IsHeldEscape}
use Rattle.termwiz_grammar.proofs.lemmas.lists.Decidable.{Decision}
use Rattle.termwiz_grammar.proofs.lemmas.characters.CharacterPrefixes.{IsHigh, parted_high, sequence_low}
use Rattle.termwiz_grammar.proofs.lemmas.mouse.OneReport.{report_plain}
use Rattle.termwiz_grammar.proofs.lemmas.items.OneHead.{head_once, longest_whole}
use Rattle.termwiz_grammar.proofs.lemmas.items.OneItem.{RowGives, Gives, reads, item_once}
use Rattle.termwiz_grammar.proofs.lemmas.items.OneItem.RowGives.{its_key, its_paste, apart, joined}
use Rattle.termwiz_grammar.proofs.lemmas.read_back.WholeTexts.{escape_alone}
use Rattle.termwiz_grammar.proofs.lemmas.table.RowShape.{Bytes}
use Rattle.termwiz_grammar.proofs.lemmas.table.RowShape.Bytes.{one, more}
use Rattle.termwiz_grammar.proofs.lemmas.table.SequenceFacts.{sequence_bytes, start, start_is_sequence, start_ends, report_ends}
use Rattle.termwiz_extended_events.specs.declared.types.Event.{Event}
use Rattle.termwiz_extended_events.specs.declared.types.Event.TheVariants.{StringCut}
use Rattle.termwiz_extended_events.specs.declared.types.Dialect.TheVariants.{Extended, Termwiz}
use Rattle.termwiz_extended_events.specs.PortEvents.{told}
use Rattle.termwiz_extended_events.specs.declared.types.Reading.{Reading}
use Rattle.termwiz_extended_events.specs.declared.types.StringKind.{StringKind}
use Rattle.termwiz_extended_events.specs.declared.types.StringKind.TheVariants.{Osc, Dcs, Apc}
use Rattle.termwiz_extended_events.specs.Meanings.{whole_string}
use Rattle.termwiz_extended_grammar.specs.Forms.{ST, introducer, IsForm}
use Rattle.termwiz_extended_grammar.specs.Strings.{IsUnfinishedOpening, IsOpenString}
use Rattle.termwiz_extended_grammar.specs.Strings.Ends.{ended, flushed}
use Rattle.termwiz_extended_grammar.specs.Strings.Comes.{last}
use Rattle.termwiz_extended_grammar.specs.Readings.{ReadsMore, after_event, after_events, event_in}
use Rattle.termwiz_extended_grammar.specs.ExtraSequences.{IsExtra, IsBareKey}
use Rattle.termwiz_extended_grammar.specs.ExtendedGrammar.{StartsExtended, StartsApart, BeginsKnown, Stands, Steps, Means, escape_event}
use Rattle.termwiz_extended_grammar.specs.ExtendedGrammar.Stands.{extra, alt_key, lone_escape, string, usual}
use Rattle.termwiz_extended_grammar.specs.ExtendedLaws.{FlushMatters, Undecided, ArePorts}
use Rattle.termwiz_extended_grammar.proofs.lemmas.forms.FormBytes.{IsSecond, IsStringIntroducer, IsMark, mark_shape, escape_within}
use Rattle.termwiz_extended_grammar.proofs.lemmas.forms.FormEnds.{mark_ends, sequence_after_mark, mark_after_sequence}
use Rattle.termwiz_extended_grammar.proofs.lemmas.forms.FormOrNot.{IsUnfinishedMark, unfinished_mark_or_not, opening_length}
use Rattle.termwiz_extended_grammar.proofs.lemmas.forms.Unfinished.{free_completion}
use Rattle.termwiz_extended_grammar.proofs.lemmas.forms.ExtraFacts.{start_form, free_from_none, mark_from_unfinished, mark_unfinished, starts_mark, unfinished_reads}
use Rattle.termwiz_extended_grammar.proofs.lemmas.items.StringItems.{string_opening, string_append}
use Rattle.termwiz_extended_grammar.proofs.lemmas.items.StringRests.{st_ends}
use Rattle.termwiz_extended_grammar.proofs.lemmas.items.ExtendedItems.{apart_starts, starts_shape, starts_longer, starts_with, second_not_escape, stands_once}
use Rattle.termwiz_extended_grammar.proofs.lemmas.items.ExtendedRests.{Read, read_of, one_meaning, empty_is_rest}
use Rattle.termwiz_extended_grammar.proofs.lemmas.cuts.PortTold.{alt_not_escape, escape_told, told_leaves}
use Rattle.termwiz_extended_grammar.proofs.lemmas.cuts.SameAsPort.{ports_join, ports_once, reads_or_only, termwiz_is_port}
use Rattle.termwiz_extended_grammar.proofs.lemmas.cuts.StringsStand.{dialect_stays}
use Rattle.termwiz_grammar.specs.Laws as portlaws
use Rattle.termwiz_grammar.proofs.lemmas.waiting.UndecidedBytes.{undecided_law}
use Rattle.termwiz_extended_grammar.proofs.lemmas.cuts.BeforeEscape.{escape_comes_first}
use Rattle.termwiz_extended_grammar.proofs.lemmas.waiting.FlushesLeave.{HasNoStart, no_start_cons, flush_leaves, flush_gives, nothing_after, two_long}

-- x ∷ p goes on by c so that the whole is read at once
record GoesOn (reading : Reading) (x : ℕ) (p c : List ℕ) : Type 0 where
  longer : c ≢ []
  -- read whole it gives one event at most, and after an ESC one at most, or an Escape first
  whole_short : (E : List Event) (W : List ℕ) → Read reading (x ∷ p ++ c) false E W → length E ≤ 1
  whole_held : (e : Event) (E : List Event) (W : List ℕ) → Read reading (27 ∷ x ∷ p ++ c) false (e ∷ E) W
      → (e ≡ escape_event) ⊎ (E ≡ [])
  -- flushed, nothing of either part is left, and an Escape before x ∷ p is joined to its head
  no_start : HasNoStart (x ∷ p)
  no_start_after : HasNoStart c
  alone : (x ≤ 64) ⊎ (92 ≤ x)
  second : IsSecond x → ⊥
  no_extra : StartsExtended reading (x ∷ p) → ⊥
  no_report : (text : List ℕ) (r : MouseEvent) → IsSequence text (Report r) → Begins text (x ∷ p) → ⊥

-- an item of the port that takes a whole text leaves nothing
nothing_left : (u bytes left : List ℕ) → bytes ≡ u → u ≡ bytes ++ left → left ≡ []
nothing_left u bytes left all split = append_cancel_left u left [] (ap (λ z. z ++ left) (sym all) ∙ sym split ∙ sym (append-nil u))

-- before such a byte the head is ESC
escape_gives : (x : ℕ) (t bytes : List ℕ) (e : InputEvent) → (x ≤ 64) ⊎ (92 ≤ x) → Item (27 ∷ x ∷ t) false bytes e
    → RowGives (27 ∷ x ∷ t) false ESC escape bytes e
escape_gives x t bytes e alone item =
    let g = reads (27 ∷ x ∷ t) bytes e false item in
    let same : g.0 ≡ Sequence ESC (Row escape) =
    head_once (27 ∷ x ∷ t) g.0 (Sequence ESC (Row escape)) g.1 (escape_alone x t alone) in
    subst (λ h. Gives (27 ∷ x ∷ t) false h bytes e) same g.2

-- no extra sequence and no opening begins an ESC and such a byte
no_extra_with_escape : (reading : Reading) (x : ℕ) (t : List ℕ) → (IsSecond x → ⊥) → StartsExtended reading (27 ∷ x ∷ t) → ⊥
no_extra_with_escape reading x t never h =
    let s = starts_shape reading (27 ∷ x ∷ t) h in
    let same : s.0 ≡ x = cc (s.2) in never (subst IsSecond same s.3)

module _ (reading : Reading) (x : ℕ) (p c : List ℕ) (on : GoesOn reading x p c) where
  -- flushed after an Escape, it gives a key with ALT first
  flush_row : (bytes : List ℕ) (e : InputEvent) → RowGives (27 ∷ x ∷ p) false ESC escape bytes e
      → (j : KeyEvent) × (e ≡ Key (with_alt j))
  flush_row bytes e (its_key a b d f) = absurd (let h : 27 ∷ x ∷ p ≡ ESC = b refl in cc (h))
  flush_row bytes e (its_paste at body left first g d f) = absurd (cc (at))
  flush_row bytes e (apart at v h split some closed is far d f) =
      let after : v ≡ x ∷ p = cc (split) in absurd (near h (subst (λ z. IsHead z h) after is) far)
    where
      near : (h : Head) → IsHead (x ∷ p) h → IsApart h → ⊥
      near (Sequence text (Row k)) is far = on.no_start [] (x ∷ p) refl (subst (λ z. Begins z (x ∷ p)) far is.begins)
      near (Sequence text (Report r)) is far = on.no_report text r is.is_sequence is.begins
      near (Character d) is far = far
      near (Broken d) is far = far
  flush_row bytes e (joined at v h j split some closed is near d f) = (j, f)

  flush_stands : (left : List ℕ) (e : Event) → Stands reading (27 ∷ x ∷ p) false left e
      → (j : KeyEvent) × (s : List ℕ) × (e ≡ told reading s (Key (with_alt j)))
  flush_stands left e (extra text left2 d is split) = absurd (no_extra_with_escape reading x p on.second
      (inl (record { text = text; event = d; is_extra = is; begins = (left2, split) })))
  flush_stands left e (alt_key text left2 d is bare split) =
      let same : text ++ left2 ≡ x ∷ p = cc (split) in
      absurd (on.no_extra (subst (λ z. StartsExtended reading z) same (starts_with reading text left2 d is)))
  flush_stands left e (lone_escape v split after) =
      let same : v ≡ x ∷ p = cc (split) in
      absurd (on.no_extra (subst (λ z. StartsExtended reading z) same (apart_starts reading v after)))
  flush_stands left e (string kind head bytes after left2 d reads is comes) =
      absurd (no_extra_with_escape reading x p on.second (inr (reads, string_opening (27 ∷ x ∷ p) kind head bytes after is)))
  flush_stands left e (usual s left2 d stands split is gap) =
      let j = flush_row s d (escape_gives x p s d on.alone stands.item) in (j.0, s, ap (told reading s) j.1)

  apart_events : (E D : List Event) (V W : List ℕ) (F : List Event) → Read reading (27 ∷ x ∷ p ++ c) false E W
      → Read reading (27 ∷ x ∷ p) false D V
      → D ≢ [] → F ≢ [] → E ≡ D ++ F → ⊥
  apart_events [] D V W F mw md nd nf e = let two = two_long D F nd nf in omega (arith, ap length e)
  apart_events (y ∷ E) [] V W F mw md nd nf e = nd refl
  apart_events (y ∷ E) (z ∷ D) V W F mw (md, rest) nd nf e =
      let first : y ≡ z = cc (e) in
      let j = flush_stands md.0 z md.1 in
      ⊎_elim
      (λ (h : y ≡ escape_event). alt_not_escape reading j.1 j.0 (sym h ∙ first ∙ j.2))
      (λ (h : E ≡ []). let two = two_long (z ∷ D) F nd nf in omega (arith, ap length e, ap length h))
      (on.whole_held y E W mw)

  no_start_held : (held : List ℕ) → IsHeldEscape held → HasNoStart (held ++ x ∷ p)
  no_start_held held (inl h) = subst HasNoStart (ap (λ z. z ++ x ∷ p) (sym h)) on.no_start
  no_start_held held (inr h) =
      subst HasNoStart (ap (λ z. z ++ x ∷ p) (sym h)) (no_start_cons 27 (x ∷ p) not_here on.no_start)
    where
      not_here : Begins START (27 ∷ x ∷ p) → ⊥
      not_here b = omega (arith, (escape_alone x p on.alone).longest START (Row start) start_is_sequence b)

  differ : (held : List ℕ) → IsHeldEscape held → (E E1 E2 : List Event) (W W1 W2 : List ℕ)
      → Means reading (held ++ x ∷ p ++ c) false E W → Means reading (held ++ x ∷ p) false E1 W1
      → Means (after_events reading E1) (W1 ++ c) false E2 W2 → E ≢ E1 ++ E2
  differ held is E E1 E2 W W1 W2 mw m1 m2 e =
      let none = no_start_held held is in
      let gone : W1 ≡ [] = flush_leaves reading (held ++ x ∷ p) W1 E1 none (read_of m1) in
      let some : E1 ≢ [] =
      flush_gives reading (held ++ x ∷ p) W1 E1 (append-some held (x ∷ p) (λ z. cc (z))) none (read_of m1) in
      let last : E2 ≢ [] =
      flush_gives (after_events reading E1) c W2 E2 on.longer on.no_start_after
      (subst (λ z. Read (after_events reading E1) (z ++ c) false E2 W2) gone (read_of m2)) in
      ⊎_elim
      (λ (h : held ≡ []). let short = on.whole_short E W (subst (λ z. Read reading (z ++ x ∷ p ++ c) false E W) h (read_of mw)) in
      let two = two_long E1 E2 some last in omega (arith, ap length e))
      (λ (h : held ≡ ESC). apart_events E E1 W1 W E2 (subst (λ z. Read reading (z ++ x ∷ p ++ c) false E W) h (read_of mw))
      (subst (λ z. Read reading (z ++ x ∷ p) false E1 W1) h (read_of m1)) some last e)
      is

-- a text that goes on to a mark, of which a flush makes one event
module _ (reading : Reading) (x : ℕ) (p c : List ℕ) (longer : c ≢ []) (mark : IsMark reading.x10_mouse (x ∷ p ++ c))
    (starts : StartsApart reading (x ∷ p ++ c)) (event : Event) (whole : Stands reading (x ∷ p ++ c) false [] event) where
  first_is_escape : x ≡ 27
  first_is_escape = (let s = mark_shape (x ∷ p ++ c) mark in cc (s.2))

  mark_whole_short : (E : List Event) (W : List ℕ) → Read reading (x ∷ p ++ c) false E W → length E ≤ 1
  mark_whole_short [] W m = omega arith
  mark_whole_short (e ∷ E) W ((left, stands, steps), r) =
      let same = stands_once reading (x ∷ p ++ c) false left [] e event stands whole in
      omega (arith, ap length (nothing_after (after_event reading e) left W E same.0 steps))

  mark_whole_held : (e : Event) (E : List Event) (W : List ℕ) → Read reading (27 ∷ x ∷ p ++ c) false (e ∷ E) W
      → (e ≡ escape_event) ⊎ (E ≡ [])
  mark_whole_held e E W ((left, stands, steps), r) =
      inl (stands_once reading (27 ∷ x ∷ p ++ c) false left (x ∷ p ++ c) e escape_event stands
      (lone_escape (x ∷ p ++ c) refl starts)).1

  -- no mark has a START
  no_start_in : (front W : List ℕ) → x ∷ p ++ c ≡ front ++ W → Begins START W → front ≢ [] → ⊥
  no_start_in front W e b some =
      let last : 91 ∷ 50 ∷ 48 ∷ 48 ∷ 126 ∷ b.0 ≡ 92 ∷ [] =
      escape_within front (91 ∷ 50 ∷ 48 ∷ 48 ∷ 126 ∷ b.0) some
      (subst (λ z. IsMark reading.x10_mouse z) (e ∙ ap (λ z. front ++ z) b.1) mark) in
      omega (arith, ap length last)

  mark_no_start : HasNoStart (x ∷ p)
  mark_no_start [] W e b = append-some b.0 c longer
      (mark_ends START (b.0 ++ c) (inl start_form) (subst (λ z. IsMark reading.x10_mouse z) (ap (λ z. z ++ c) (e ∙ b.1)) mark))
  mark_no_start (y ∷ front) W e b = no_start_in (y ∷ front) (W ++ c)
      (ap (λ z. z ++ c) e ∙ append_assoc (y ∷ front) W c) (b.0 ++ c, ap (λ z. z ++ c) b.1) (λ h. cc (h))

  mark_no_start_after : HasNoStart c
  mark_no_start_after front W e b = no_start_in (x ∷ p ++ front) W
      (ap (λ z. x ∷ p ++ z) e ∙ sym (append_assoc (x ∷ p) front W)) b (λ h. cc (h))

  mark_no_report : (text : List ℕ) (r : MouseEvent) → IsSequence text (Report r) → Begins text (x ∷ p) → ⊥
  unfolding IsSequence
  mark_no_report text r is b =
      let e : x ∷ p ++ c ≡ text ++ (b.0 ++ c) = ap (λ z. z ++ c) b.1 ∙ append_assoc text b.0 c in
      let f = report_plain text r is in
      ⊎_elim
      (λ (h : text ≡ ESC). cc (h, f.1))
      (λ (h : (text ≡ CSI) ⊎ ((text ≡ SS3) ⊎ (text ≡ 27 ∷ 80 ∷ []))). ⊎_elim
      (λ (k : text ≡ CSI). cc (k, f.1))
      (λ (k : (text ≡ SS3) ⊎ (text ≡ 27 ∷ 80 ∷ [])). ⊎_elim (λ (l : text ≡ SS3). cc (l, f.1)) (λ (l : text ≡ 27 ∷ 80 ∷ []). cc (l, f.1)) k)
      h)
      (mark_after_sequence text (b.0 ++ c) (Report r) is (append-some b.0 c longer) (subst (λ z. IsMark reading.x10_mouse z) e mark))

  mark_goes_on : GoesOn reading x p c
  mark_goes_on = record {
    longer = longer;
    whole_short = mark_whole_short;
    whole_held = mark_whole_held;
    no_start = mark_no_start;
    no_start_after = mark_no_start_after;
    alone = inl (let e : x ≡ 27 = first_is_escape in omega arith);
    second = λ is. second_not_escape x is first_is_escape;
    no_extra = λ h. (let m = starts_mark reading (x ∷ p) h in append-some m.1 c longer (mark_ends m.0 (m.1 ++ c) m.2
        (subst (λ z. IsMark reading.x10_mouse z) (ap (λ z. z ++ c) m.3 ∙ append_assoc m.0 m.1 c) mark)));
    no_report = mark_no_report;
  }

-- a text that goes on to an extra sequence
extra_goes_on : (reading : Reading) (x : ℕ) (p c : List ℕ) → ReadsMore reading → c ≢ [] → IsForm reading.x10_mouse (x ∷ p ++ c)
    → ((m : Meaning) → ¬ IsSequence (x ∷ p ++ c) m) → ¬ IsBareKey reading (x ∷ p ++ c) → GoesOn reading x p c
extra_goes_on reading x p c reads longer form free other =
    let is : IsExtra reading (x ∷ p ++ c) (event_in reading (x ∷ p ++ c)) =
    record { reads = reads; is_form = form; is_free = free_from_none reading (x ∷ p ++ c) free; means = refl } in
    let whole : x ∷ p ++ c ≡ (x ∷ p ++ c) ++ [] = sym (append-nil (x ∷ p ++ c)) in
    mark_goes_on reading x p c longer (inl form)
    (inl (record { text = x ∷ p ++ c; event = event_in reading (x ∷ p ++ c); is_extra = is; not_bare = other; begins = ([], whole) }))
    (event_in reading (x ∷ p ++ c)) (extra (x ∷ p ++ c) [] (event_in reading (x ∷ p ++ c)) is whole)

-- a text that goes on to an opening
opening_goes_on : (reading : Reading) (x : ℕ) (p : List ℕ) (o : IsUnfinishedOpening (x ∷ p)) → ReadsMore reading → GoesOn reading x p o.tail
opening_goes_on reading x p o reads =
    let form : x ∷ p ++ o.tail ≡ introducer o.kind ++ o.head = sym o.spells in
    let short : length (introducer o.kind ++ o.head) ≤ 255 = opening_length o.kind o.head o.is_head in
    let whole : x ∷ p ++ o.tail ≡ introducer o.kind ++ o.head ++ [] = form ∙ sym (append-nil (introducer o.kind ++ o.head)) in
    mark_goes_on reading x p o.tail o.longer (inr (record { kind = o.kind; head = o.head; is_head = o.is_head; form = form }))
    (inr (reads, record { kind = o.kind; head = o.head; is_head = o.is_head; begins = ([], whole) }))
    (StringCut o.kind (o.head ++ []))
    (string o.kind o.head [] [] [] (StringCut o.kind (o.head ++ [])) reads (record { is_head = o.is_head; each = tt; splits = whole })
    (last [] (StringCut o.kind (o.head ++ [])) (omega (arith, length-append (introducer o.kind ++ o.head) [])) (flushed (inl refl) refl)))

-- what the port reads at once, and no extra sequence and no opening begins
record IsPortsOwn (reading : Reading) (x : ℕ) (p c : List ℕ) : Type 0 where
  longer : c ≢ []
  head : Head
  whole : IsHead (x ∷ p ++ c) head
  spells : bytes_of head ≡ x ∷ p ++ c
  event : InputEvent
  item : Item (x ∷ p ++ c) false (x ∷ p ++ c) event
  no_start : HasNoStart (x ∷ p)
  no_start_after : HasNoStart c
  alone : (x ≤ 64) ⊎ (92 ≤ x)
  second : IsSecond x → ⊥
  no_extra : StartsExtended reading (x ∷ p ++ c) → ⊥
  no_extra_after : (v : List ℕ) → x ∷ p ++ c ≡ ESC ++ v → StartsExtended reading v → ⊥
  no_report : (text : List ℕ) (r : MouseEvent) → IsSequence text (Report r) → Begins text (x ∷ p) → ⊥

module _ (reading : Reading) (x : ℕ) (p c : List ℕ) (own : IsPortsOwn reading x p c) where
  own_stands : (left W : List ℕ) (e : Event) (E : List Event) → Stands reading (x ∷ p ++ c) false left e
      → Steps (after_event reading e) left false E W → E ≡ []
  own_stands left W e E (extra text left2 d is split) steps =
      absurd (own.no_extra (inl (record { text = text; event = d; is_extra = is; begins = (left2, split) })))
  own_stands left W e E (alt_key text left2 d is bare split) steps =
      absurd (own.no_extra_after (text ++ left2) split (starts_with reading text left2 d is))
  own_stands left W e E (lone_escape v split after) steps = absurd (own.no_extra_after v split (apart_starts reading v after))
  own_stands left W e E (string kind head bytes after left2 d reads is comes) steps =
      absurd (own.no_extra (inr (reads, string_opening (x ∷ p ++ c) kind head bytes after is)))
  own_stands left W e E (usual s left2 d stands split is gap) steps =
      let same = item_once (x ∷ p ++ c) false s (x ∷ p ++ c) d own.event stands.item own.item in
      nothing_after (after_event reading (told reading s d)) left2 W E (nothing_left (x ∷ p ++ c) s left2 same.0 split) steps

  own_whole_short : (E : List Event) (W : List ℕ) → Read reading (x ∷ p ++ c) false E W → length E ≤ 1
  own_whole_short [] W m = omega arith
  own_whole_short (e ∷ E) W ((left, stands, steps), r) = omega (arith, ap length (own_stands left W e E stands steps))

  own_held_row : (bytes rest W : List ℕ) (e : InputEvent) (E : List Event)
      → RowGives (27 ∷ x ∷ p ++ c) false ESC escape bytes e
      → 27 ∷ x ∷ p ++ c ≡ bytes ++ rest → Steps reading rest false E W → ((bytes ≡ ESC) × (e ≡ Key escape)) ⊎ (E ≡ [])
  own_held_row bytes rest W e E (its_key a b d f) splits steps = absurd (let h : 27 ∷ x ∷ p ++ c ≡ ESC = b refl in cc (h))
  own_held_row bytes rest W e E (its_paste at body left first g d f) splits steps = absurd (cc (at))
  own_held_row bytes rest W e E (apart at v h split some closed is far d f) splits steps = inl (d, f)
  own_held_row bytes rest W e E (joined at v h j split some closed is near d f) splits steps =
      let after : v ≡ x ∷ p ++ c = cc (split) in
      let same : h ≡ own.head = head_once (x ∷ p ++ c) h own.head (subst (λ z. IsHead z h) after is) own.whole in
      let all : bytes ≡ 27 ∷ x ∷ p ++ c = d ∙ ap (λ k. ESC ++ bytes_of k) same ∙ ap (λ z. 27 ∷ z) own.spells in
      inr (nothing_after reading rest W E (nothing_left (27 ∷ x ∷ p ++ c) bytes rest all splits) steps)

  own_held_stands : (left W : List ℕ) (e : Event) (E : List Event) → Stands reading (27 ∷ x ∷ p ++ c) false left e
      → Steps (after_event reading e) left false E W → (e ≡ escape_event) ⊎ (E ≡ [])
  own_held_stands left W e E (extra text left2 d is split) steps = absurd (no_extra_with_escape reading x (p ++ c) own.second
      (inl (record { text = text; event = d; is_extra = is; begins = (left2, split) })))
  own_held_stands left W e E (alt_key text left2 d is bare split) steps =
      let same : text ++ left2 ≡ x ∷ p ++ c = cc (split) in
      absurd (own.no_extra (subst (λ z. StartsExtended reading z) same (starts_with reading text left2 d is)))
  own_held_stands left W e E (lone_escape v split after) steps = inl refl
  own_held_stands left W e E (string kind head bytes after left2 d reads is comes) steps = absurd (no_extra_with_escape reading x (p ++ c)
      own.second (inr (reads, string_opening (27 ∷ x ∷ p ++ c) kind head bytes after is)))
  own_held_stands left W e E (usual s left2 d stands split is gap) steps = ⊎_elim
      (λ (h : (s ≡ ESC) × (d ≡ Key escape)).
      inl (ap (λ z. told reading z d) h.0 ∙ ap (told reading ESC) h.1 ∙ escape_told reading))
      (λ (h : E ≡ []). inr h)
      (own_held_row s left2 W d E (escape_gives x (p ++ c) s d own.alone stands.item) split
      (subst (λ r. Steps r left2 false E W) (told_leaves reading s d) steps))

  own_whole_held : (e : Event) (E : List Event) (W : List ℕ) → Read reading (27 ∷ x ∷ p ++ c) false (e ∷ E) W
      → (e ≡ escape_event) ⊎ (E ≡ [])
  own_whole_held e E W ((left, stands, steps), r) = own_held_stands left W e E stands steps

  own_goes_on : GoesOn reading x p c
  own_goes_on = record {
    longer = own.longer;
    whole_short = own_whole_short;
    whole_held = own_whole_held;
    no_start = own.no_start;
    no_start_after = own.no_start_after;
    alone = own.alone;
    second = own.second;
    no_extra = λ h. own.no_extra (starts_longer reading (x ∷ p) c h);
    no_report = own.no_report;
  }

-- a text that goes on to a sequence of the port, and to no mark
module _ (reading : Reading) (x : ℕ) (p c : List ℕ) (longer : c ≢ []) (m : Meaning) (is : IsSequence (x ∷ p ++ c) m)
    (no_mark : IsUnfinishedMark reading.x10_mouse (x ∷ p) → ⊥) where
  sequence_first : x ≡ 27
  sequence_first = go (sequence_bytes (x ∷ p ++ c) m is)
    where
      go : Bytes (x ∷ p ++ c) → x ≡ 27
      go (one b l e) = absurd (omega (arith, ap length e, length-append p c, length-some c longer))
      go (more t n e a) = cc (e)

  sequence_no_start : HasNoStart (x ∷ p)
  sequence_no_start [] W e b =
      let whole : x ∷ p ++ c ≡ START ++ (b.0 ++ c) = ap (λ z. z ++ c) (e ∙ b.1) in
      append-some b.0 c longer (start_ends (b.0 ++ c) m (subst (λ z. IsSequence z m) whole is))
  sequence_no_start (y ∷ front) W e b =
      let whole : x ∷ p ++ c ≡ (y ∷ front) ++ (START ++ (b.0 ++ c)) =
      ap (λ z. z ++ c) (e ∙ ap (λ z. y ∷ front ++ z) b.1) ∙ append_assoc (y ∷ front) (START ++ b.0) c in
      escape_comes_first (y ∷ front) (91 ∷ 50 ∷ 48 ∷ 48 ∷ 126 ∷ b.0 ++ c) m (λ h. cc (h)) (subst (λ z. IsSequence z m) whole is)

  sequence_no_start_after : HasNoStart c
  sequence_no_start_after front W e b =
      let whole : x ∷ p ++ c ≡ (x ∷ p ++ front) ++ (START ++ b.0) =
      ap (λ z. x ∷ p ++ z) (e ∙ ap (λ z. front ++ z) b.1) ∙ sym (append_assoc (x ∷ p) front (START ++ b.0)) in
      escape_comes_first (x ∷ p ++ front) (91 ∷ 50 ∷ 48 ∷ 48 ∷ 126 ∷ b.0) m (λ h. cc (h)) (subst (λ z. IsSequence z m) whole is)

  sequence_no_extra : StartsExtended reading (x ∷ p ++ c) → ⊥
  sequence_no_extra h = go (starts_mark reading (x ∷ p ++ c) h)
    where
      go : (text rest : List ℕ) × IsMark reading.x10_mouse text × (x ∷ p ++ c ≡ text ++ rest) → ⊥
      go (text, rest, mark, e) = by_place (overlap text rest (x ∷ p) c e)
        where
          by_place : Overlaps text rest (x ∷ p) c → ⊥
          by_place (within t f g) = append-some t c longer (sequence_after_mark text (t ++ c) m mark
              (subst (λ z. IsSequence z m) (ap (λ z. z ++ c) f ∙ append_assoc text t c) is))
          by_place (past t n f g) = no_mark (mark_unfinished (x ∷ p) t n (subst (λ z. IsMark reading.x10_mouse z) f mark))

  sequence_no_extra_after : (v : List ℕ) → x ∷ p ++ c ≡ ESC ++ v → StartsExtended reading v → ⊥
  sequence_no_extra_after v split h =
      let s = starts_shape reading v h in
      escape_comes_first ESC (s.0 ∷ s.1) m (λ e. cc (e))
      (subst (λ z. IsSequence z m) (split ∙ ap (λ z. 27 ∷ z) s.2) is)

  sequence_item : (n : Meaning) → IsSequence (x ∷ p ++ c) n → (event : InputEvent) × Item (x ∷ p ++ c) false (x ∷ p ++ c) event
  sequence_item (Row k) it = (
    Key k,
    key (x ∷ p ++ c) k (longest_whole (x ∷ p ++ c) (Row k) it)
        (λ e. no_mark (inl (record { tail = c; longer = longer; is_form = subst (λ z. IsForm reading.x10_mouse z) (sym e) start_form }))) (λ e. e),
  )
  sequence_item (Report r) it = (Mouse r, mouse (x ∷ p ++ c) r (longest_whole (x ∷ p ++ c) (Report r) it))

  sequence_own : IsPortsOwn reading x p c
  sequence_own = record {
    longer = longer;
    head = Sequence (x ∷ p ++ c) m;
    whole = longest_whole (x ∷ p ++ c) m is;
    spells = refl;
    event = (sequence_item m is).0;
    item = (sequence_item m is).1;
    no_start = sequence_no_start;
    no_start_after = sequence_no_start_after;
    alone = inl (let e : x ≡ 27 = sequence_first in omega arith);
    second = λ h. second_not_escape x h sequence_first;
    no_extra = sequence_no_extra;
    no_extra_after = sequence_no_extra_after;
    no_report = λ text r it b. append-some b.0 c longer (report_ends text (b.0 ++ c) r m it
        (subst (λ z. IsSequence z m) (ap (λ z. z ++ c) b.1 ∙ append_assoc text b.0 c) is));
  }

-- no START begins among bytes from 0x80 on
no_start_high : (T : List ℕ) → AllByRecursion IsHigh T → HasNoStart T
no_start_high T high front W e b =
    let rest : AllByRecursion IsHigh (START ++ b.0) =
    subst (AllByRecursion IsHigh) b.1 (true_at_end IsHigh front W (subst (AllByRecursion IsHigh) e high)) in
    (let h : IsHigh 27 = rest.0 in omega (arith, h.0))

pub second_low : (x : ℕ) → IsSecond x → x ≤ 95
second_low x is = ⊎_elim
    (λ (h : x ≡ 91). omega arith)
    (λ (h : (x ≡ 79) ⊎ IsStringIntroducer x). ⊎_elim
    (λ (k : x ≡ 79). omega arith)
    (λ (k : IsStringIntroducer x). ⊎_elim
    (λ (l : x ≡ 93). omega arith)
    (λ (l : (x ≡ 80) ⊎ (x ≡ 95)). ⊎_elim (λ (m : x ≡ 80). omega arith) (λ (m : x ≡ 95). omega arith) l)
    k)
    h)
    is

-- a text that goes on to a character
module _ (reading : Reading) (x : ℕ) (p c : List ℕ) (longer : c ≢ []) (d : ℕ) (scalar : IsScalar d)
    (spells : encode_utf8 d ≡ x ∷ p ++ c) where
  high : AllByRecursion IsHigh (x ∷ p ++ c)
  high = parted_high d (x ∷ p) c scalar (λ e. cc (e)) longer spells

  first_high : 128 ≤ x
  first_high = (let h : IsHigh x = high.0 in h.0)

  no_escape_first : (t : List ℕ) → x ∷ p ++ c ≡ 27 ∷ t → ⊥
  no_escape_first t e = (let h : x ≡ 27 = cc (e) in omega (arith, first_high))

  character_item : Item (x ∷ p ++ c) false (x ∷ p ++ c) (Key (plain d))
  character_item = subst (λ z. Item (x ∷ p ++ c) false z (Key (plain d))) spells (char d character_whole)
    where
      character_whole : port.IsCharacter (x ∷ p ++ c) d
      character_whole = record {
        no_sequence = λ text m is b. sequence_low text (x ∷ p ++ c) m is high b;
        scalar = scalar;
        begins = ([], sym spells ∙ sym (append-nil (encode_utf8 d)));
      }

  character_own : IsPortsOwn reading x p c
  character_own = record {
    longer = longer;
    head = Character d;
    whole = record {
      no_sequence = λ text m is b. sequence_low text (x ∷ p ++ c) m is high b;
      scalar = scalar;
      begins = ([], sym spells ∙ sym (append-nil (encode_utf8 d)));
    };
    spells = spells;
    event = Key (plain d);
    item = character_item;
    no_start = no_start_high (x ∷ p) (true_at_front IsHigh (x ∷ p) c high);
    no_start_after = no_start_high c (true_at_end IsHigh (x ∷ p) c high);
    alone = inr (omega (arith, first_high));
    second = λ h. (let l : x ≤ 95 = second_low x h in omega (arith, first_high));
    no_extra = λ h. (let s = starts_shape reading (x ∷ p ++ c) h in no_escape_first (s.0 ∷ s.1) s.2);
    no_extra_after = λ v split h. no_escape_first v split;
    no_report = λ text r is b. sequence_low text (x ∷ p) (Report r) is (true_at_front IsHigh (x ∷ p) c high) b;
  }

goes_on : (reading : Reading) (x : ℕ) (p : List ℕ) → ReadsMore reading → BeginsKnown reading (x ∷ p)
    → Decision (IsUnfinishedMark reading.x10_mouse (x ∷ p)) → (c : List ℕ) × GoesOn reading x p c
goes_on reading x p reads beginning (inl (inl form)) =
    let c = free_completion (x ∷ p) form in
    (c.tail, extra_goes_on reading x p c.tail reads c.longer c.is_form c.free (c.not_bare reading))
goes_on reading x p reads beginning (inl (inr o)) = (o.tail, opening_goes_on reading x p o reads)
goes_on reading x p reads (inl (inl h)) (inr never) =
    (h.tail, own_goes_on reading x p h.tail (sequence_own reading x p h.tail h.longer h.meaning h.is_sequence never))
goes_on reading x p reads (inl (inr h)) (inr never) =
    (h.tail, own_goes_on reading x p h.tail (character_own reading x p h.tail h.longer h.char h.scalar h.spells))
goes_on reading x p reads (inr h) (inr never) = absurd (never (mark_from_unfinished reading (x ∷ p) h))

beginning_undecided : (reading : Reading) (held p : List ℕ) → ReadsMore reading → IsHeldEscape held → p ≢ [] → BeginsKnown reading p
    → (c : List ℕ) × FlushMatters reading (held ++ p) c
beginning_undecided reading held [] reads is some beginning = absurd (some refl)
beginning_undecided reading held (x ∷ p) reads is some beginning =
    let on = goes_on reading x p reads beginning (unfinished_mark_or_not reading.x10_mouse (x ∷ p)) in
    let w = one_meaning reading (held ++ x ∷ p ++ on.0) false in
    let a = one_meaning reading (held ++ x ∷ p) false in
    let b = one_meaning (after_events reading a.0) (a.1 ++ on.0) false in (
      on.0,
      (
        w.0,
        a.0,
        b.0,
        w.1,
        a.1,
        b.1,
        w.2,
        a.2,
        b.2,
        differ reading x p on.0 on.1 held is w.0 a.0 b.0 w.1 a.1 b.1 w.2 a.2 b.2,
      ),
    )

-- a string with its end isn't one that was cut
whole_not_cut : (kind : StringKind) (bytes : List ℕ) → whole_string kind bytes ≡ StringCut kind bytes → ⊥
whole_not_cut Osc bytes e = cc (e)
whole_not_cut Dcs bytes e = cc (e)
whole_not_cut Apc bytes e = cc (e)

-- what completes ST after nothing or ESC
end_of_held : (held : List ℕ) → IsHeldEscape held → (c : List ℕ) × (held ++ c ≡ ST)
end_of_held held (inl none) = (ST, ap (λ z. z ++ ST) none)
end_of_held held (inr single) = (92 ∷ [], ap (λ z. z ++ 92 ∷ []) single)

-- an item that leaves nothing, as a meaning
one_item : (reading : Reading) (u : List ℕ) (event : Event) → Stands reading u false [] event
    → Means reading u false (event ∷ []) []
one_item reading u event stands = record { steps = ([], stands, refl); rest = empty_is_rest (after_event reading event) false }

string_undecided : (reading : Reading) (u : List ℕ) → ReadsMore reading → IsOpenString u → (c : List ℕ) × FlushMatters reading u c
string_undecided reading u reads o =
    let c = end_of_held o.held o.is_held in
    let bytes = o.head ++ o.bytes in
    let b = one_meaning (after_event reading (StringCut o.kind bytes)) ([] ++ c.0) false in (
      c.0,
      (
        whole_string o.kind bytes ∷ [],
        StringCut o.kind bytes ∷ [],
        b.0,
        [],
        [],
        b.1,
        one_item reading (u ++ c.0) (whole_string o.kind bytes)
            (string o.kind o.head o.bytes (o.held ++ c.0) [] (whole_string o.kind bytes) reads
            (string_append u c.0 o.kind o.head o.bytes o.held o.is_string)
            (last [] (whole_string o.kind bytes) o.short (ended ST [] (st_ends o.kind) c.1))),
        one_item reading u (StringCut o.kind bytes) (string o.kind o.head o.bytes o.held [] (StringCut o.kind bytes) reads o.is_string
            (last [] (StringCut o.kind bytes) o.short (flushed o.is_held refl))),
        b.2,
        λ e. whole_not_cut o.kind bytes (cc (e)),
      ),
    )

-- where no more than the port's sequences is read, what is undecided to the port is
port_undecided : (reading : Reading) (text c : List ℕ) → reading.dialect ≡ Termwiz → portlaws.FlushMatters text c → FlushMatters reading text c
port_undecided reading text c only (E, E1, E2, W, W1, W2, whole, first, second, differ) =
    let a = (termwiz_is_port reading (text ++ c) W false only).1 E whole in
    let b = (termwiz_is_port reading text W1 false only).1 E1 first in
    let next = after_events reading b.0 in
    let d = (termwiz_is_port next (W1 ++ c) W2 false (dialect_stays reading b.0 ∙ only)).1 E2 second in (
      a.0,
      b.0,
      d.0,
      W,
      W1,
      W2,
      a.1,
      b.1,
      d.1,
      λ e. differ (ports_once E (E1 ++ E2) a.0
          a.2 (subst (λ D. ArePorts D (E1 ++ E2)) (sym e) (ports_join b.0 d.0 E1 E2 b.2 d.2))),
    )

pub undecided : Undecided
undecided reading = (λ held p is some beginning. go (reads_or_only reading) held p is some beginning, string_undecided reading)
  where
    go : ReadsMore reading ⊎ (reading.dialect ≡ Termwiz) → (held p : List ℕ) → IsHeldEscape held → p ≢ [] → BeginsKnown reading p
        → (c : List ℕ) × FlushMatters reading (held ++ p) c
    go (inl reads) held p is some beginning = beginning_undecided reading held p reads is some beginning
    go (inr only) held p is some (inl beginning) =
        let c = undecided_law held p is some beginning in (c.0, port_undecided reading (held ++ p) c.0 only c.1)
    go (inr only) held p is some (inr h) = absurd (cc (only, unfinished_reads reading p h))
