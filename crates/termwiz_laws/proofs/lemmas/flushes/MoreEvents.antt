-- A flush before what completes a sequence or a character adds events.
use Rattle.std.proofs.Common.{◌≡◌, ◌≢◌, ◌∙◌, ◌⊎◌, inl, inr, ⊎_elim, ℕ, ◌+◌, ◌<◌, ◌≤◌, false, List, [], ◌∷◌, ◌++◌, length, refl, sym, ap, subst, arith, length-append, append-nil, append_assoc}
use Rattle.std.specs.List.{AllByRecursion, join_with_byte}
use Rattle.std.specs.Char.{IsScalar, encode_utf8}
use Rattle.std.proofs.lemmas.List.{append_cancel_left}
use Rattle.termwiz_keymap.specs.Bytes.{Begins}
use Rattle.termwiz_keymap.proofs.lemmas.lists.CommonPrefixes.{append-some, length-some, true_at_end, true_at_front}
use Rattle.termwiz_keys.specs.declared.types.MouseEvent.{MouseEvent}
use Rattle.termwiz_keys.specs.declared.types.InputEvent.{InputEvent}
use Rattle.termwiz_keys.specs.Introducers.{ESC, CSI, SS3, START, END}
use Rattle.termwiz_keys.specs.Keys.{escape}
use Rattle.termwiz_grammar.specs.MouseReports.{introducer, semicolon}
use Rattle.termwiz_grammar.specs.Sequences.{Meaning, IsSequence}
use Rattle.termwiz_grammar.specs.Sequences.Meaning.{Row, Report}
use Rattle.termwiz_grammar.specs.Grammar.{Head, IsHead, IsLongest, bytes_of, IsApart, Item, Steps, Means}
use Rattle.termwiz_grammar.specs.Grammar.Head.{Sequence, Character, Broken}
use Rattle.termwiz_grammar.specs.Laws.{IsHeldEscape}
use Rattle.termwiz_grammar.proofs.lemmas.mouse.OneReport.{IsPlain}
use Rattle.termwiz_grammar.proofs.lemmas.table.RowShape.{Bytes}
use Rattle.termwiz_grammar.proofs.lemmas.table.RowShape.Bytes.{one, more}
use Rattle.termwiz_grammar.proofs.lemmas.table.SequenceFacts.{sequence_bytes, sequence_some, escape_is_sequence, start, start_is_sequence, start_ends, report_ends}
use Rattle.termwiz_grammar.proofs.lemmas.characters.CharacterPrefixes.{IsHigh, parted_high, sequence_low}
use Rattle.termwiz_grammar.proofs.lemmas.items.OneHead.{head_once, longest_whole}
use Rattle.termwiz_grammar.proofs.lemmas.items.OneItem.{RowGives, Gives, Read, read_of, reads}
use Rattle.termwiz_grammar.proofs.lemmas.items.OneItem.RowGives.{its_key, its_paste, apart, joined}
use Rattle.termwiz_grammar.proofs.lemmas.read_back.WholeTexts.{escape_alone}
use Rattle.termwiz_laws.specs.Flushes.{IsKnown, FlushAddsEvents}
use Rattle.termwiz_laws.proofs.lemmas.flushes.NothingLeft.{HasNoStart, no_start_cons, no_start_among, flush_leaves, flush_gives, nothing_steps}
use Rattle.termwiz_laws.proofs.lemmas.flushes.PlainItems.{plain_count}
use Rattle.termwiz_laws.proofs.lemmas.key_streams.OneKeyTexts.{row_begins}

-- an item that takes a whole text is its last
nothing_after : (q bytes rest W : List ℕ) (E : List InputEvent) → bytes ≡ q → q ≡ bytes ++ rest
    → Steps rest false E W → E ≡ []
nothing_after q bytes rest W E all splits steps =
    let none : rest ≡ [] =
    append_cancel_left q rest [] (sym (ap (λ x. x ++ rest) all) ∙ sym splits ∙ sym (append-nil q)) in
    nothing_steps E W false (subst (λ x. Steps x false E W) none steps)

-- a head that is a text of two bytes or more is one item's bytes
takes_all : (q bytes : List ℕ) (h : Head) (e : InputEvent) → 2 ≤ length q → bytes_of h ≡ q
    → Gives q false h bytes e → bytes ≡ q
takes_all q bytes (Sequence text (Report r)) e l same g = g.0 ∙ same
takes_all q bytes (Sequence text (Row k)) e l same (its_key a b c d) = c ∙ same
takes_all q bytes (Sequence text (Row k)) e l same (its_paste at body rest split first c d) =
    absurd (omega (
      arith,
      ap length same,
      ap length at,
      ap length split,
      length-append (START ++ body ++ END) rest,
      length-append (START ++ body) END,
      length-append START body,
    ))
takes_all q bytes (Sequence text (Row k)) e l same (apart at v h split some closed is far c d) =
    absurd (omega (arith, ap length same, ap length at))
takes_all q bytes (Sequence text (Row k)) e l same (joined at v h j split some closed is near c d) =
    absurd (omega (arith, ap length same, ap length at))
takes_all q bytes (Character c) e l same g = g.0 ∙ same
takes_all q bytes (Broken b) e l same g = g.0 ∙ same

-- a sequence that properly begins another one has at most two bytes
pub begins_short : (s t : List ℕ) (m n : Meaning) → IsSequence s m → IsSequence (s ++ t) n → t ≢ [] → length s ≤ 2
begins_short s t (Report r) n a b longer = absurd (longer (report_ends s t r n a b))
begins_short s t (Row k) n a b longer = ⊎_elim
    (λ (e : s ≡ ESC). omega (arith, ap length e))
    (λ (other : (s ≡ CSI) ⊎ (s ≡ SS3)). ⊎_elim
    (λ (e : s ≡ CSI). omega (arith, ap length e))
    (λ (e : s ≡ SS3). omega (arith, ap length e)) other)
    (row_begins s t k n a b longer)

-- what ESC isn't joined to is long
long_start : length START ≡ 6
long_start = refl

long_report : (text : List ℕ) (r : MouseEvent) → IsSequence text (Report r) → 4 ≤ length text
unfolding IsSequence
long_report text r is =
    let body = join_with_byte semicolon (is.code ∷ is.x ∷ is.y ∷ []) in
    omega (arith, ap length is.form, length-append (introducer ++ body) (is.last ∷ []), length-append introducer body)

long_apart : (text : List ℕ) (m : Meaning) → IsSequence text m → IsApart (Sequence text m) → 4 ≤ length text
long_apart text (Row k) is far = omega (arith, ap length far, long_start)
long_apart text (Report r) is far = long_report text r is

-- what x ∷ p, flushed after an ESC, and c after it give at least, if an ESC before the whole stays apart
abbrev CountsApart : ℕ → List ℕ → List ℕ → Head → Type 0
CountsApart x p c head = IsApart head → (E1 E2 : List InputEvent) → Read (27 ∷ x ∷ p) false E1 [] → Read c false E2 []
    → 3 ≤ length E1 + length E2

-- x ∷ p goes on by c to the bytes of one head
record GoesOn (x : ℕ) (p c : List ℕ) : Type 0 where
  longer : c ≢ []
  head : Head
  whole : IsHead (x ∷ p ++ c) head
  spells : bytes_of head ≡ x ∷ p ++ c
  -- flushed, nothing of either part is left
  no_start : HasNoStart (x ∷ p)
  no_start_after : HasNoStart c
  alone : (x ≤ 64) ⊎ (92 ≤ x)
  counts : CountsApart x p c head

some_events : (E : List InputEvent) → E ≢ [] → 0 < length E
some_events [] some = absurd (some refl)
some_events (e ∷ E) some = omega arith

-- before x the head is ESC
escape_gives : (x : ℕ) (t bytes : List ℕ) (e : InputEvent) → (x ≤ 64) ⊎ (92 ≤ x) → Item (27 ∷ x ∷ t) false bytes e
    → RowGives (27 ∷ x ∷ t) false ESC escape bytes e
escape_gives x t bytes e alone item =
    let g = reads (27 ∷ x ∷ t) bytes e false item in
    let same : g.0 ≡ Sequence ESC (Row escape) =
    head_once (27 ∷ x ∷ t) g.0 (Sequence ESC (Row escape)) g.1 (escape_alone x t alone) in
    subst (λ h. Gives (27 ∷ x ∷ t) false h bytes e) same g.2

module _ (x : ℕ) (p c : List ℕ) (on : GoesOn x p c) where
  -- read whole, it gives one event or none
  whole_short : (E : List InputEvent) (W : List ℕ) → Steps (x ∷ p ++ c) false E W → length E ≤ 1
  whole_short [] W m = omega arith
  whole_short (e ∷ E) W (bytes, rest, stands, splits, steps) =
      let g = reads (x ∷ p ++ c) bytes e false stands.item in
      let same : g.0 ≡ on.head = head_once (x ∷ p ++ c) g.0 on.head g.1 on.whole in
      let gives : Gives (x ∷ p ++ c) false on.head bytes e = subst (λ h. Gives (x ∷ p ++ c) false h bytes e) same g.2 in
      let long : 2 ≤ length (x ∷ p ++ c) = omega (arith, length-append p c, length-some c on.longer) in
      let all : bytes ≡ x ∷ p ++ c = takes_all (x ∷ p ++ c) bytes on.head e long on.spells gives in
      omega (arith, ap length (nothing_after (x ∷ p ++ c) bytes rest W E all splits steps))

  -- after an ESC it gives one event, or an Escape that stays apart and then at most one more
  whole_row : (bytes rest : List ℕ) (e : InputEvent) (E : List InputEvent) (W : List ℕ)
      → RowGives (27 ∷ x ∷ p ++ c) false ESC escape bytes e
      → 27 ∷ x ∷ p ++ c ≡ bytes ++ rest → Steps rest false E W → (E ≡ []) ⊎ (IsApart on.head × (length E ≤ 1))
  whole_row bytes rest e E W (its_key a b d f) splits steps = absurd (let h : 27 ∷ x ∷ p ++ c ≡ ESC = b refl in cc (h))
  whole_row bytes rest e E W (its_paste at body left first g d f) splits steps = absurd (cc (at))
  whole_row bytes rest e E W (apart at v h split some closed is far d f) splits steps =
      let after : v ≡ x ∷ p ++ c = cc (split) in
      let same : h ≡ on.head = head_once (x ∷ p ++ c) h on.head (subst (λ z. IsHead z h) after is) on.whole in
      let left : rest ≡ x ∷ p ++ c =
      append_cancel_left ESC rest (x ∷ p ++ c) (sym (ap (λ b. b ++ rest) d) ∙ sym splits) in
      inr (subst IsApart same far, whole_short E W (subst (λ z. Steps z false E W) left steps))
  whole_row bytes rest e E W (joined at v h j split some closed is near d f) splits steps =
      let after : v ≡ x ∷ p ++ c = cc (split) in
      let same : h ≡ on.head = head_once (x ∷ p ++ c) h on.head (subst (λ z. IsHead z h) after is) on.whole in
      let all : bytes ≡ 27 ∷ x ∷ p ++ c = d ∙ ap (λ k. ESC ++ bytes_of k) same ∙ ap (λ z. 27 ∷ z) on.spells in
      inl (nothing_after (27 ∷ x ∷ p ++ c) bytes rest W E all splits steps)

  whole_after : (E : List InputEvent) (W : List ℕ) → Steps (27 ∷ x ∷ p ++ c) false E W
      → (length E ≤ 1) ⊎ (IsApart on.head × (length E ≤ 2))
  whole_after [] W m = inl (omega arith)
  whole_after (e ∷ E) W (bytes, rest, stands, splits, steps) = ⊎_elim
      (λ (h : E ≡ []). inl (omega (arith, ap length h)))
      (λ (h : IsApart on.head × (length E ≤ 1)). inr (h.0, omega (arith, h.1)))
      (whole_row bytes rest e E W (escape_gives x (p ++ c) bytes e on.alone stands.item) splits steps)

  no_start_held : (held : List ℕ) → IsHeldEscape held → HasNoStart (held ++ x ∷ p)
  no_start_held held (inl h) = subst HasNoStart (ap (λ z. z ++ x ∷ p) (sym h)) on.no_start
  no_start_held held (inr h) =
      subst HasNoStart (ap (λ z. z ++ x ∷ p) (sym h)) (no_start_cons 27 (x ∷ p) not_here on.no_start)
    where
      not_here : Begins START (27 ∷ x ∷ p) → ⊥
      not_here b = omega (arith, (escape_alone x p on.alone).longest START (Row start) start_is_sequence b)

  adds_events : (held : List ℕ) → IsHeldEscape held → (E E1 E2 : List InputEvent) (W W1 W2 : List ℕ)
      → Means (held ++ x ∷ p ++ c) false E W → Means (held ++ x ∷ p) false E1 W1 → Means (W1 ++ c) false E2 W2
      → length E < length E1 + length E2
  adds_events held is E E1 E2 W W1 W2 mw m1 m2 =
      let none = no_start_held held is in
      let gone : W1 ≡ [] = flush_leaves (held ++ x ∷ p) W1 E1 none (read_of m1) in
      let after : Read c false E2 W2 = subst (λ z. Read (z ++ c) false E2 W2) gone (read_of m2) in
      let gone_too : W2 ≡ [] = flush_leaves c W2 E2 on.no_start_after after in
      let some = flush_gives (held ++ x ∷ p) W1 E1 (append-some held (x ∷ p) (λ z. cc (z))) none (read_of m1) in
      let last = flush_gives c W2 E2 on.longer on.no_start_after after in
      let two : 2 ≤ length E1 + length E2 = omega (arith, some_events E1 some, some_events E2 last) in
      ⊎_elim
      (λ (h : held ≡ []).
      let short = whole_short E W (subst (λ z. Steps (z ++ x ∷ p ++ c) false E W) h mw.steps) in omega (arith, short, two))
      (λ (h : held ≡ ESC). ⊎_elim
      (λ (short : length E ≤ 1). omega (arith, two))
      (λ (far : IsApart on.head × (length E ≤ 2)).
      let three = on.counts far.0 E1 E2
      (subst (λ z. Read (27 ∷ x ∷ p) false E1 z) gone (subst (λ z. Read (z ++ x ∷ p) false E1 W1) h (read_of m1)))
      (subst (λ z. Read c false E2 z) gone_too after) in omega (arith, far.1, three))
      (whole_after E W (subst (λ z. Steps (z ++ x ∷ p ++ c) false E W) h mw.steps)))
      is

-- a sequence of several bytes: all but its ESC are plain
module _ (p c : List ℕ) (m : Meaning) (is_sequence : IsSequence (27 ∷ p ++ c) m) (longer : c ≢ [])
    (plain : AllByRecursion IsPlain (p ++ c)) where
  not_start : Begins START (27 ∷ p) → ⊥
  not_start b =
      let e : 27 ∷ p ++ c ≡ START ++ (b.0 ++ c) = ap (λ x. x ++ c) b.1 in
      append-some b.0 c longer (start_ends (b.0 ++ c) m (subst (λ x. IsSequence x m) e is_sequence))

  not_report : (text : List ℕ) (r : MouseEvent) → IsLongest (27 ∷ p) text (Report r) → ⊥
  not_report text r is =
      let e : 27 ∷ p ++ c ≡ text ++ (is.begins.0 ++ c) =
      ap (λ x. x ++ c) is.begins.1 ∙ append_assoc text is.begins.0 c in
      append-some is.begins.0 c longer
      (report_ends text (is.begins.0 ++ c) r m is.is_sequence (subst (λ x. IsSequence x m) e is_sequence))

  not_far : (h : Head) → IsHead (27 ∷ p) h → IsApart h → ⊥
  not_far (Sequence text (Row k)) is far = not_start (subst (λ x. Begins x (27 ∷ p)) far is.begins)
  not_far (Sequence text (Report r)) is far = not_report text r is
  not_far (Character d) is far = far
  not_far (Broken d) is far = far

  -- the head of its beginning takes at most one byte after its ESC
  left_plain : (text rest : List ℕ) → text ≢ [] → 27 ∷ p ≡ text ++ rest → AllByRecursion IsPlain rest
  left_plain [] rest some e = absurd (some refl)
  left_plain (y ∷ text) rest some e =
      let after : p ≡ text ++ rest = cc (e) in
      true_at_end IsPlain text rest (subst (AllByRecursion IsPlain) after (true_at_front IsPlain p c plain))

  after_head : (h : Head) (rest : List ℕ) → IsHead (27 ∷ p) h → 27 ∷ p ≡ bytes_of h ++ rest
      → AllByRecursion IsPlain rest × (length p ≤ length rest + 1)
  after_head (Sequence text n) rest is e =
      let whole : 27 ∷ p ++ c ≡ text ++ (rest ++ c) = ap (λ x. x ++ c) e ∙ append_assoc text rest c in
      let short = begins_short text (rest ++ c) n m is.is_sequence (subst (λ x. IsSequence x m) whole is_sequence)
      (append-some rest c longer) in
      (left_plain text rest (sequence_some text n is.is_sequence) e, omega (arith, short, ap length e, length-append text rest))
  after_head (Character d) rest is e = absurd (is.no_sequence ESC (Row escape) escape_is_sequence (p, refl))
  after_head (Broken d) rest is e = absurd (is.no_sequence ESC (Row escape) escape_is_sequence (p, refl))

  -- so each of its later bytes is an event of its own
  first_row : (bytes rest : List ℕ) (e : InputEvent) (E : List InputEvent)
      → RowGives (27 ∷ 27 ∷ p) false ESC escape bytes e
      → 27 ∷ 27 ∷ p ≡ bytes ++ rest → Steps rest false E [] → length p ≤ length E + 1
  first_row bytes rest e E (its_key a b d f) splits steps = absurd (let h : 27 ∷ 27 ∷ p ≡ ESC = b refl in cc (h))
  first_row bytes rest e E (its_paste at body left first g d f) splits steps = absurd (cc (at))
  first_row bytes rest e E (apart at v h split some closed is far d f) splits steps =
      absurd (not_far h (subst (λ z. IsHead z h) (let after : v ≡ 27 ∷ p = cc (split) in after) is) far)
  first_row bytes rest e E (joined at v h j split some closed is near d f) splits steps =
      let after : v ≡ 27 ∷ p = cc (split) in
      let left : 27 ∷ p ≡ bytes_of h ++ rest =
      append_cancel_left ESC (27 ∷ p) (bytes_of h ++ rest) (splits ∙ ap (λ b. b ++ rest) d) in
      let it = after_head h rest (subst (λ z. IsHead z h) after is) left in
      omega (arith, it.1, plain_count E rest [] false it.0 steps)

  counts_flushed : (E : List InputEvent) → Steps (27 ∷ 27 ∷ p) false E [] → (length p ≤ length E) × (1 ≤ length E)
  counts_flushed [] steps = absurd (cc (steps))
  counts_flushed (e ∷ E) (bytes, rest, stands, splits, steps) =
      let few = first_row bytes rest e E (escape_gives 27 p bytes e (inl (omega arith)) stands.item) splits steps in
      (omega (arith, few), omega arith)

  counts_apart : CountsApart 27 p c (Sequence (27 ∷ p ++ c) m)
  counts_apart far E1 E2 first after =
      let long = long_apart (27 ∷ p ++ c) m is_sequence far in
      let before = counts_flushed E1 first.0 in
      let rest = plain_count E2 c [] false (true_at_end IsPlain p c plain) after.0 in
      omega (arith, long, length-append p c, before.0, before.1, rest)

  sequence_goes_on : GoesOn 27 p c
  sequence_goes_on = record {
    longer = longer;
    head = Sequence (27 ∷ p ++ c) m;
    whole = longest_whole (27 ∷ p ++ c) m is_sequence;
    spells = refl;
    no_start =
        no_start_cons 27 p not_start (no_start_among IsPlain (λ h. omega arith) p (true_at_front IsPlain p c plain));
    no_start_after = no_start_among IsPlain (λ h. omega arith) c (true_at_end IsPlain p c plain);
    alone = inl (omega arith);
    counts = counts_apart;
  }

sequence_from : (x : ℕ) (p c : List ℕ) (m : Meaning) → c ≢ [] → IsSequence (x ∷ p ++ c) m → Bytes (x ∷ p ++ c)
    → GoesOn x p c
sequence_from x p c m longer is_sequence (one b l e) =
    absurd (omega (arith, ap length e, length-append p c, length-some c longer))
sequence_from x p c m longer is_sequence (more t n e a) =
    let first : x ≡ 27 = cc (e) in
    let rest : t ≡ p ++ c = cc (e) in
    subst (λ z. GoesOn z p c) (sym first)
    (sequence_goes_on p c m (subst (λ z. IsSequence (z ∷ p ++ c) m) first is_sequence) longer
    (subst (AllByRecursion IsPlain) rest a))

-- a character of several bytes: all are high
character_from : (x : ℕ) (p c : List ℕ) (d : ℕ) → c ≢ [] → IsScalar d → encode_utf8 d ≡ x ∷ p ++ c → GoesOn x p c
character_from x p c d longer scalar spells = record {
  longer = longer;
  head = Character d;
  whole = record {
    no_sequence = λ text m is_sequence b. sequence_low text (x ∷ p ++ c) m is_sequence high b;
    scalar = scalar;
    begins = ([], sym spells ∙ sym (append-nil (encode_utf8 d)));
  };
  spells = spells;
  no_start = no_start_among IsHigh (λ h. omega arith) (x ∷ p) (true_at_front IsHigh (x ∷ p) c high);
  no_start_after = no_start_among IsHigh (λ h. omega arith) c (true_at_end IsHigh (x ∷ p) c high);
  alone = let h : IsHigh x = high.0 in inr (omega arith);
  counts = λ far E1 E2 first after. absurd far;
}
  where
    high : AllByRecursion IsHigh (x ∷ p ++ c)
    high = parted_high d (x ∷ p) c scalar (λ h. cc (h)) longer spells

goes_on : (x : ℕ) (p c : List ℕ) → c ≢ [] → IsKnown (x ∷ p ++ c) → GoesOn x p c
goes_on x p c longer (inl (m, is)) = sequence_from x p c m longer is (sequence_bytes (x ∷ p ++ c) m is)
goes_on x p c longer (inr (d, scalar, spells)) = character_from x p c d longer scalar spells

pub flush_adds_events : FlushAddsEvents
flush_adds_events held [] c is completes E E1 E2 W W1 W2 mw m1 m2 = absurd (completes.some refl)
flush_adds_events held (x ∷ p) c is completes E E1 E2 W W1 W2 mw m1 m2 =
    adds_events x p c (goes_on x p c completes.longer completes.known) held is E E1 E2 W W1 W2 mw m1 m2
