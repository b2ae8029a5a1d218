-- What waits as the beginning of a sequence or of a character may go on so that a flush before changes the events.
use Rattle.std.proofs.Common.{◌≡◌, ◌≢◌, ◌⊎◌, inl, inr, ⊎_elim, ℕ, ◌≤◌, Bool, false, List, [], ◌∷◌, ◌++◌, length, refl, sym, ap, ◌∙◌, subst, append_assoc, append-nil, arith, length-append, bit_or}
use Rattle.std.specs.List.{AllByRecursion}
use Rattle.std.specs.Char.{encode_utf8}
use Rattle.std.proofs.lemmas.Nat.{le_or_r}
use Rattle.std.proofs.lemmas.List.{append_cancel_left}
use Rattle.termwiz_keys.specs.declared.types.KeyEvent.{KeyEvent}
use Rattle.termwiz_keys.specs.declared.types.MouseEvent.{MouseEvent}
use Rattle.termwiz_keys.specs.declared.types.InputEvent.{InputEvent}
use Rattle.termwiz_keys.specs.declared.types.InputEvent.TheVariants.{Key}
use Rattle.termwiz_keymap.specs.Bytes.{Begins}
use Rattle.termwiz_keys.specs.Introducers.{ESC, START, END}
use Rattle.termwiz_keys.specs.Keys.{escape, with_alt}
use Rattle.termwiz_grammar.specs.Sequences.{Meaning, IsSequence}
use Rattle.termwiz_grammar.specs.Sequences.Meaning.{Row, Report}
use Rattle.termwiz_grammar.specs.Grammar.{Head, IsHead, IsLongest, IsUnfinishedCharacter, bytes_of, IsApart, Item, Steps, Means}
use Rattle.termwiz_grammar.specs.Grammar.Head.{Sequence, Character, Broken}
use Rattle.termwiz_grammar.specs.Laws.{FlushMatters, Undecided, IsHeldEscape}
use Rattle.termwiz_keymap.proofs.lemmas.lists.CommonPrefixes.{append-some, append-some_left, length-some, true_at_end, true_at_front}
use Rattle.termwiz_grammar.proofs.lemmas.mouse.OneReport.{IsPlain}
use Rattle.termwiz_grammar.proofs.lemmas.table.RowShape.{Bytes}
use Rattle.termwiz_grammar.proofs.lemmas.table.RowShape.Bytes.{one, more}
use Rattle.termwiz_grammar.proofs.lemmas.table.SequenceFacts.{sequence_bytes, start, start_is_sequence, start_ends, report_ends}
use Rattle.termwiz_grammar.proofs.lemmas.characters.CharacterPrefixes.{IsHigh, parted_high, sequence_low}
use Rattle.termwiz_grammar.proofs.lemmas.items.ItemStable.{item_some}
use Rattle.termwiz_grammar.proofs.lemmas.items.OneHead.{head_once, longest_whole}
use Rattle.termwiz_grammar.proofs.lemmas.items.OneItem.{RowGives, Gives, Read, read_of, reads}
use Rattle.termwiz_grammar.proofs.lemmas.items.OneItem.RowGives.{its_key, its_paste, apart, joined}
use Rattle.termwiz_grammar.proofs.lemmas.waiting.RestShape.{flushed, one_meaning}
use Rattle.termwiz_grammar.proofs.lemmas.read_back.WholeTexts.{escape_alone}

-- whatever the three meanings are, the events of the whole aren't those before and after the flush
abbrev EventsDiffer : List ℕ → List ℕ → Type 0
EventsDiffer text c = (E E1 E2 : List InputEvent) (W W1 W2 : List ℕ)
    → Means (text ++ c) false E W → Means text false E1 W1 → Means (W1 ++ c) false E2 W2 → E ≢ E1 ++ E2

-- what is left after steps ends the text
left_ends : (E : List InputEvent) (T W : List ℕ) (f : Bool) → Steps T f E W → (front : List ℕ) × (T ≡ front ++ W)
left_ends [] T W f h = ([], h)
left_ends (e ∷ E) T W f (bytes, rest, stands, splits, steps) =
    let p = left_ends E rest W f steps in
    (bytes ++ p.0, splits ∙ ap (λ x. bytes ++ x) p.1 ∙ sym (append_assoc bytes p.0 W))

-- START begins at no place in the text
abbrev HasNoStart : List ℕ → Type 0
HasNoStart T = (front W : List ℕ) → T ≡ front ++ W → Begins START W → ⊥

no_start_cons : (x : ℕ) (T : List ℕ) → (Begins START (x ∷ T) → ⊥) → HasNoStart T → HasNoStart (x ∷ T)
no_start_cons x T here after [] W e b = here (b.0, e ∙ b.1)
no_start_cons x T here after (y ∷ front) W e b = after front W (cc (e)) b

-- it begins nowhere among bytes of which none is ESC
no_start_among : (P : ℕ → Type 0) → (P 27 → ⊥) → (T : List ℕ) → AllByRecursion P T → HasNoStart T
no_start_among P no_escape T a front W e b =
    let rest : AllByRecursion P (START ++ b.0) =
    subst (AllByRecursion P) b.1 (true_at_end P front W (subst (AllByRecursion P) e a)) in
    no_escape rest.0

-- a flush leaves nothing of such a text, so it gives an event
flush_leaves : (T W : List ℕ) (E : List InputEvent) → HasNoStart T → Read T false E W → W ≡ []
flush_leaves T W E none (steps, rest) =
    let end = left_ends E T W false steps in
    ⊎_elim
    (λ (e : W ≡ []). e)
    (λ (b : Begins START W). absurd (none end.0 W end.1 b))
    (flushed W rest)

flush_gives : (T W : List ℕ) (E : List InputEvent) → T ≢ [] → HasNoStart T → Read T false E W → E ≢ []
flush_gives T W [] some none (h, rest) e = some (h ∙ flush_leaves T W [] none (h, rest))
flush_gives T W (x ∷ E) some none m e = cc (e)

nothing_steps : (E : List InputEvent) (W : List ℕ) (f : Bool) → Steps [] f E W → E ≡ []
nothing_steps [] W f h = refl
nothing_steps (e ∷ E) W f (bytes, rest, stands, splits, steps) =
    absurd (append-some_left bytes rest (item_some [] bytes e f stands.item) (sym splits))

-- an item that takes a whole text is its last
nothing_after : (q bytes rest W : List ℕ) (E : List InputEvent) → bytes ≡ q → q ≡ bytes ++ rest
    → Steps rest false E W → E ≡ []
nothing_after q bytes rest W E all splits steps =
    let none : rest ≡ [] =
    append_cancel_left q rest [] (sym (ap (λ x. x ++ rest) all) ∙ sym splits ∙ sym (append-nil q)) in
    nothing_steps E W false (subst (λ x. Steps x false E W) none steps)

-- a head that is a text of two bytes or more is one item's bytes
takes_all : (q bytes : List ℕ) (h : Head) (e : InputEvent) → 2 ≤ length q → bytes_of h ≡ q
    → Gives q false h bytes e → bytes ≡ q
takes_all q bytes (Sequence text (Report r)) e l same g = g.0 ∙ same
takes_all q bytes (Sequence text (Row k)) e l same (its_key a b c d) = c ∙ same
takes_all q bytes (Sequence text (Row k)) e l same (its_paste at body rest split first c d) =
    absurd (omega (
      arith,
      ap length same,
      ap length at,
      ap length split,
      length-append (START ++ body ++ END) rest,
      length-append (START ++ body) END,
      length-append START body,
    ))
takes_all q bytes (Sequence text (Row k)) e l same (apart at v h split some closed is far c d) =
    absurd (omega (arith, ap length same, ap length at))
takes_all q bytes (Sequence text (Row k)) e l same (joined at v h j split some closed is near c d) =
    absurd (omega (arith, ap length same, ap length at))
takes_all q bytes (Character c) e l same g = g.0 ∙ same
takes_all q bytes (Broken b) e l same g = g.0 ∙ same

alt_not_escape : (j : KeyEvent) → Key escape ≡ Key (with_alt j) → ⊥
alt_not_escape j e =
    let same : escape ≡ with_alt j = cc (e) in
    let none : 0 ≡ bit_or j.modifiers.0 4 = ap (λ (k : KeyEvent). k.modifiers.0) same in
    omega (arith, le_or_r j.modifiers.0 4)

two_long : (E D : List InputEvent) → E ≢ [] → D ≢ [] → 2 ≤ length (E ++ D)
two_long [] D a b = absurd (a refl)
two_long (x ∷ E) [] a b = absurd (b refl)
two_long (x ∷ E) (y ∷ D) a b = omega (arith, length-append E (y ∷ D))

-- x ∷ p goes on by c to the bytes of one head
record GoesOn (x : ℕ) (p c : List ℕ) : Type 0 where
  longer : c ≢ []
  head : Head
  whole : IsHead (x ∷ p ++ c) head
  spells : bytes_of head ≡ x ∷ p ++ c
  -- flushed, nothing of either part is left, and an Escape before x ∷ p is joined to its head
  no_start : HasNoStart (x ∷ p)
  no_start_after : HasNoStart c
  alone : (x ≤ 64) ⊎ (92 ≤ x)
  near : (h : Head) → IsHead (x ∷ p) h → IsApart h → ⊥

module _ (x : ℕ) (p c : List ℕ) (on : GoesOn x p c) where
  -- read whole, it gives one event or none
  whole_short : (E : List InputEvent) (W : List ℕ) → Read (x ∷ p ++ c) false E W → length E ≤ 1
  whole_short [] W m = omega arith
  whole_short (e ∷ E) W ((bytes, rest, stands, splits, steps), r) =
      let g = reads (x ∷ p ++ c) bytes e false stands.item in
      let same : g.0 ≡ on.head = head_once (x ∷ p ++ c) g.0 on.head g.1 on.whole in
      let gives : Gives (x ∷ p ++ c) false on.head bytes e = subst (λ h. Gives (x ∷ p ++ c) false h bytes e) same g.2 in
      let long : 2 ≤ length (x ∷ p ++ c) = omega (arith, length-append p c, length-some c on.longer) in
      let all : bytes ≡ x ∷ p ++ c = takes_all (x ∷ p ++ c) bytes on.head e long on.spells gives in
      omega (arith, ap length (nothing_after (x ∷ p ++ c) bytes rest W E all splits steps))

  -- before x the head is ESC
  escape_gives : (t bytes : List ℕ) (e : InputEvent) → Item (27 ∷ x ∷ t) false bytes e
      → RowGives (27 ∷ x ∷ t) false ESC escape bytes e
  escape_gives t bytes e item =
      let g = reads (27 ∷ x ∷ t) bytes e false item in
      let same : g.0 ≡ Sequence ESC (Row escape) =
      head_once (27 ∷ x ∷ t) g.0 (Sequence ESC (Row escape)) g.1 (escape_alone x t on.alone) in
      subst (λ h. Gives (27 ∷ x ∷ t) false h bytes e) same g.2

  -- after an Escape it gives an Escape first, or one event
  whole_row : (bytes rest : List ℕ) (e : InputEvent) (E : List InputEvent) (W : List ℕ)
      → RowGives (27 ∷ x ∷ p ++ c) false ESC escape bytes e
      → 27 ∷ x ∷ p ++ c ≡ bytes ++ rest → Steps rest false E W → (e ≡ Key escape) ⊎ (E ≡ [])
  whole_row bytes rest e E W (its_key a b d f) splits steps = absurd (let h : 27 ∷ x ∷ p ++ c ≡ ESC = b refl in cc (h))
  whole_row bytes rest e E W (its_paste at body left first g d f) splits steps = absurd (cc (at))
  whole_row bytes rest e E W (apart at v h split some closed is far d f) splits steps = inl f
  whole_row bytes rest e E W (joined at v h j split some closed is near d f) splits steps =
      let after : v ≡ x ∷ p ++ c = cc (split) in
      let same : h ≡ on.head = head_once (x ∷ p ++ c) h on.head (subst (λ z. IsHead z h) after is) on.whole in
      let all : bytes ≡ 27 ∷ x ∷ p ++ c = d ∙ ap (λ k. ESC ++ bytes_of k) same ∙ ap (λ z. 27 ∷ z) on.spells in
      inr (nothing_after (27 ∷ x ∷ p ++ c) bytes rest W E all splits steps)

  whole_second : (e : InputEvent) (E : List InputEvent) (W : List ℕ) → Read (27 ∷ x ∷ p ++ c) false (e ∷ E) W
      → (e ≡ Key escape) ⊎ (E ≡ [])
  whole_second e E W ((bytes, rest, stands, splits, steps), r) =
      whole_row bytes rest e E W (escape_gives (p ++ c) bytes e stands.item) splits steps

  -- flushed after an Escape, it gives a key with ALT first
  flush_row : (bytes : List ℕ) (e : InputEvent) → RowGives (27 ∷ x ∷ p) false ESC escape bytes e
      → (j : KeyEvent) × (e ≡ Key (with_alt j))
  flush_row bytes e (its_key a b d f) = absurd (let h : 27 ∷ x ∷ p ≡ ESC = b refl in cc (h))
  flush_row bytes e (its_paste at body left first g d f) = absurd (cc (at))
  flush_row bytes e (apart at v h split some closed is far d f) =
      let after : v ≡ x ∷ p = cc (split) in absurd (on.near h (subst (λ z. IsHead z h) after is) far)
  flush_row bytes e (joined at v h j split some closed is near d f) = (j, f)

  flush_first : (e : InputEvent) (E : List InputEvent) (W : List ℕ) → Read (27 ∷ x ∷ p) false (e ∷ E) W
      → (j : KeyEvent) × (e ≡ Key (with_alt j))
  flush_first e E W ((bytes, rest, stands, splits, steps), r) = flush_row bytes e (escape_gives p bytes e stands.item)

  apart_events : (E D : List InputEvent) (V W : List ℕ) (F : List InputEvent) → Read (27 ∷ x ∷ p ++ c) false E W
      → Read (27 ∷ x ∷ p) false D V
      → D ≢ [] → F ≢ [] → E ≡ D ++ F → ⊥
  apart_events [] D V W F mw md nd nf e = let two = two_long D F nd nf in omega (arith, ap length e)
  apart_events (y ∷ E) [] V W F mw md nd nf e = nd refl
  apart_events (y ∷ E) (z ∷ D) V W F mw md nd nf e =
      let first : y ≡ z = cc (e) in
      let j = flush_first z D V md in
      ⊎_elim
      (λ (h : y ≡ Key escape). alt_not_escape j.0 (sym h ∙ first ∙ j.1))
      (λ (h : E ≡ []). let two = two_long (z ∷ D) F nd nf in omega (arith, ap length e, ap length h))
      (whole_second y E W mw)

  no_start_held : (held : List ℕ) → IsHeldEscape held → HasNoStart (held ++ x ∷ p)
  no_start_held held (inl h) = subst HasNoStart (ap (λ z. z ++ x ∷ p) (sym h)) on.no_start
  no_start_held held (inr h) =
      subst HasNoStart (ap (λ z. z ++ x ∷ p) (sym h)) (no_start_cons 27 (x ∷ p) not_here on.no_start)
    where
      not_here : Begins START (27 ∷ x ∷ p) → ⊥
      not_here b = omega (arith, (escape_alone x p on.alone).longest START (Row start) start_is_sequence b)

  differ : (held : List ℕ) → IsHeldEscape held → EventsDiffer (held ++ x ∷ p) c
  differ held is E E1 E2 W W1 W2 mw m1 m2 e =
      let none = no_start_held held is in
      let gone : W1 ≡ [] = flush_leaves (held ++ x ∷ p) W1 E1 none (read_of m1) in
      let some : E1 ≢ [] =
      flush_gives (held ++ x ∷ p) W1 E1 (append-some held (x ∷ p) (λ z. cc (z))) none (read_of m1) in
      let last : E2 ≢ [] =
      flush_gives c W2 E2 on.longer on.no_start_after (subst (λ z. Read (z ++ c) false E2 W2) gone (read_of m2)) in
      ⊎_elim
      (λ (h : held ≡ []). let short = whole_short E W (subst (λ z. Read (z ++ x ∷ p ++ c) false E W) h (read_of mw)) in
      let two = two_long E1 E2 some last in omega (arith, ap length e))
      (λ (h : held ≡ ESC). apart_events E E1 W1 W E2 (subst (λ z. Read (z ++ x ∷ p ++ c) false E W) h (read_of mw))
      (subst (λ z. Read (z ++ x ∷ p) false E1 W1) h (read_of m1)) some last e)
      is

-- a sequence of several bytes: all but its ESC are plain
sequence_goes_on : (p c : List ℕ) (m : Meaning) → IsSequence (27 ∷ p ++ c) m → c ≢ [] → AllByRecursion IsPlain (p ++ c)
    → GoesOn 27 p c
sequence_goes_on p c m is_sequence longer plain = record {
  longer = longer;
  head = Sequence (27 ∷ p ++ c) m;
  whole = longest_whole (27 ∷ p ++ c) m is_sequence;
  spells = refl;
  no_start =
      no_start_cons 27 p not_start (no_start_among IsPlain (λ h. omega arith) p (true_at_front IsPlain p c plain));
  no_start_after = no_start_among IsPlain (λ h. omega arith) c (true_at_end IsPlain p c plain);
  alone = inl (omega arith);
  near = not_far;
}
  where
    not_start : Begins START (27 ∷ p) → ⊥
    not_start b =
        let e : 27 ∷ p ++ c ≡ START ++ (b.0 ++ c) = ap (λ x. x ++ c) b.1 in
        append-some b.0 c longer (start_ends (b.0 ++ c) m (subst (λ x. IsSequence x m) e is_sequence))

    not_report : (text : List ℕ) (r : MouseEvent) → IsLongest (27 ∷ p) text (Report r) → ⊥
    not_report text r is =
        let e : 27 ∷ p ++ c ≡ text ++ (is.begins.0 ++ c) =
        ap (λ x. x ++ c) is.begins.1 ∙ append_assoc text is.begins.0 c in
        append-some is.begins.0 c longer
        (report_ends text (is.begins.0 ++ c) r m is.is_sequence (subst (λ x. IsSequence x m) e is_sequence))

    not_far : (h : Head) → IsHead (27 ∷ p) h → IsApart h → ⊥
    not_far (Sequence text (Row k)) is far = not_start (subst (λ x. Begins x (27 ∷ p)) far is.begins)
    not_far (Sequence text (Report r)) is far = not_report text r is
    not_far (Character d) is far = far
    not_far (Broken d) is far = far

sequence_from : (x : ℕ) (p c : List ℕ) (m : Meaning) → c ≢ [] → IsSequence (x ∷ p ++ c) m → Bytes (x ∷ p ++ c)
    → GoesOn x p c
sequence_from x p c m longer is_sequence (one b l e) =
    absurd (omega (arith, ap length e, length-append p c, length-some c longer))
sequence_from x p c m longer is_sequence (more t n e a) =
    let first : x ≡ 27 = cc (e) in
    let rest : t ≡ p ++ c = cc (e) in
    subst (λ z. GoesOn z p c) (sym first)
    (sequence_goes_on p c m (subst (λ z. IsSequence (z ∷ p ++ c) m) first is_sequence) longer
    (subst (AllByRecursion IsPlain) rest a))

-- a character of several bytes: all are high
character_from : (x : ℕ) (p : List ℕ) (u : IsUnfinishedCharacter (x ∷ p)) → GoesOn x p u.tail
character_from x p u = record {
  longer = u.longer;
  head = Character u.char;
  whole = record {
    no_sequence = λ text m is_sequence b. sequence_low text (x ∷ p ++ u.tail) m is_sequence high b;
    scalar = u.scalar;
    begins = ([], sym u.spells ∙ sym (append-nil (encode_utf8 u.char)));
  };
  spells = u.spells;
  no_start = no_start_among IsHigh (λ h. omega arith) (x ∷ p) front;
  no_start_after = no_start_among IsHigh (λ h. omega arith) u.tail (true_at_end IsHigh (x ∷ p) u.tail high);
  alone = let h : IsHigh x = high.0 in inr (omega arith);
  near = not_far;
}
  where
    high : AllByRecursion IsHigh (x ∷ p ++ u.tail)
    high = parted_high u.char (x ∷ p) u.tail u.scalar (λ h. cc (h)) u.longer u.spells

    front : AllByRecursion IsHigh (x ∷ p)
    front = true_at_front IsHigh (x ∷ p) u.tail high

    not_far : (h : Head) → IsHead (x ∷ p) h → IsApart h → ⊥
    not_far (Sequence text m) is far = sequence_low text (x ∷ p) m is.is_sequence front is.begins
    not_far (Character d) is far = far
    not_far (Broken d) is far = far

-- the three meanings are there, since each text has one
flush_matters : (text c : List ℕ) → EventsDiffer text c → FlushMatters text c
flush_matters text c differ =
    let whole = one_meaning (text ++ c) false in
    let first = one_meaning text false in
    let after = one_meaning (first.1 ++ c) false in
    let differs = differ whole.0 first.0 after.0 whole.1 first.1 after.1 whole.2 first.2 after.2 in
    (whole.0, first.0, after.0, whole.1, first.1, after.1, whole.2, first.2, after.2, differs)

pub undecided_law : Undecided
undecided_law held [] is n u = absurd (n refl)
undecided_law held (x ∷ p) is n (inl u) =
    let on =
    sequence_from x p u.tail u.meaning u.longer u.is_sequence (sequence_bytes (x ∷ p ++ u.tail) u.meaning u.is_sequence) in
    (u.tail, flush_matters (held ++ x ∷ p) u.tail (differ x p u.tail on held is))
undecided_law held (x ∷ p) is n (inr u) =
    (u.tail, flush_matters (held ++ x ∷ p) u.tail (differ x p u.tail (character_from x p u) held is))
