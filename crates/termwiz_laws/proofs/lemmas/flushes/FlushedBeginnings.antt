-- What a flush makes of the beginning of a sequence or of a character, and what a byte does that cuts it short.
use Rattle.std.proofs.Common.{◌≡◌, ◌≢◌, ◌⊎◌, inl, inr, ⊎_elim, ℕ, ◌-◌, ◌≤◌, ◌<◌, Bool, true, false, List, [], ◌∷◌, ◌++◌, length, refl, sym, ap, ◌∙◌, subst, append_assoc, append-nil, arith, Contains, bytes_eq, ◌||◌, ◌==◌, get_or}
use Rattle.std.specs.Prelude.{replicate}
use Rattle.std.specs.List.{AllByRecursion}
use Rattle.std.proofs.lemmas.Bool.{and_parts}
use Rattle.std.proofs.lemmas.Bool.Decides.{nat_tests}
use Rattle.std.proofs.lemmas.Map.Views.{Contains-from_lookup}
use Rattle.std.proofs.lemmas.Slice.Eq.{bytes_eq-Decides}
use Rattle.std.proofs.lemmas.Str.{encode_ascii}
use Rattle.termwiz_keymap.proofs.lemmas.lists.CommonPrefixes.{Overlaps, overlap, append-some, true_at_end, true_at_front}
use Rattle.termwiz_keymap.proofs.lemmas.lists.CommonPrefixes.Overlaps.{within, past}
use Rattle.termwiz_keys.specs.declared.types.KeyCode.TheVariants.{Char}
use Rattle.termwiz_keys.specs.declared.types.KeyEvent.{KeyEvent}
use Rattle.termwiz_keys.specs.declared.types.InputEvent.{InputEvent}
use Rattle.termwiz_keys.specs.declared.types.InputEvent.TheVariants.{Key}
use Rattle.termwiz_keys.specs.Introducers.{ESC, CSI, SS3}
use Rattle.termwiz_keys.specs.Keys.{ALT, escape, key_with, plain, with_alt}
use Rattle.termwiz_grammar.specs.declared.waiting.Waiting.TheVariants.{Sequence as IsSequenceKind}
use Rattle.termwiz_grammar.specs.Table.{rows, written_out}
use Rattle.termwiz_grammar.specs.Sequences.{Meaning, IsSequence}
use Rattle.termwiz_grammar.specs.Sequences.Meaning.{Row, Report}
use Rattle.termwiz_grammar.specs.Grammar.{IsLongest, IsOpen, IsUnfinishedSequence, IsUnfinishedCharacter, Stands, Steps, Means}
use Rattle.termwiz_grammar.specs.Grammar.Head.{Sequence}
use Rattle.termwiz_grammar.specs.Grammar.Item.{key, alt}
use Rattle.termwiz_grammar.specs.Laws.{IsHeldEscape}
use Rattle.termwiz_grammar.specs.WaitingKinds.{IsHeldThen, IsOneOrTwoEscapes, IsKind}
use Rattle.termwiz_grammar.proofs.lemmas.mouse.OneReport.{IsPlain, report_plain}
use Rattle.termwiz_grammar.proofs.lemmas.table.ComputedTests.{ends_well}
use Rattle.termwiz_grammar.proofs.lemmas.table.RowShape.{Bytes, row_shaped}
use Rattle.termwiz_grammar.proofs.lemmas.table.RowShape.Bytes.{one, more}
use Rattle.termwiz_grammar.proofs.lemmas.table.SequenceFacts.{sequence_bytes, escape_is_sequence}
use Rattle.termwiz_grammar.proofs.lemmas.characters.CharacterPrefixes.{sequence_finished}
use Rattle.termwiz_grammar.proofs.lemmas.cuts.ChunkInvariance.{cut_independent, steps_join}
use Rattle.termwiz_grammar.proofs.lemmas.items.OneHead.{longest_whole}
use Rattle.termwiz_grammar.proofs.lemmas.items.OneItem.{read_of, steps_once}
use Rattle.termwiz_grammar.proofs.lemmas.read_back.WholeTexts.{escape_alone}
use Rattle.termwiz_grammar.proofs.lemmas.waiting.RestShape.{empty_is_rest}
use Rattle.termwiz_laws.specs.BrokenBytes.{broken_event, broken_event_with_alt, CutsShort, BrokenByteCutsSequence, BrokenByteCutsCharacter}
use Rattle.termwiz_laws.specs.Flushes.{IsIntroducer, FlushOfSequence, FlushOfCharacter}
use Rattle.termwiz_laws.specs.PlainTexts.{keys_of}
use Rattle.termwiz_laws.proofs.lemmas.broken_bytes.BrokenItems.{broken_then, with_escape_stands}
use Rattle.termwiz_laws.proofs.lemmas.broken_bytes.CutCharacters.{EndsBefore, first_broken, later_bytes, others_later, cut_steps}
use Rattle.termwiz_laws.proofs.lemmas.broken_bytes.FirstBytesOfNone.{broken_high}
use Rattle.termwiz_laws.proofs.lemmas.flushes.MoreEvents.{begins_short}
use Rattle.termwiz_laws.proofs.lemmas.plain_texts.CharactersInTurn.{text_character_stands}

-- no sequence goes on with R: it is empty and no more may come, or its first byte is from 0x80 on
abbrev IsCut : List ℕ → Bool → Type 0
IsCut [] f = f ≡ false
IsCut (byte ∷ S) f = 0x80 ≤ byte

-- no sequence has such a byte after its ESC
not_within : (t r : List ℕ) (x : ℕ) (m : Meaning) → 0x80 ≤ x → IsSequence (27 ∷ t ++ x ∷ r) m → ⊥
not_within t r x m high is = go (sequence_bytes (27 ∷ t ++ x ∷ r) m is)
  where
    go : Bytes (27 ∷ t ++ x ∷ r) → ⊥
    go (one b l e) = append-some t (x ∷ r) (λ h. cc (h)) (cc (e))
    go (more s n e a) =
        let low : AllByRecursion IsPlain (t ++ x ∷ r) = subst (AllByRecursion IsPlain) (cc (e)) a in
        let last : IsPlain x = (true_at_end IsPlain t (x ∷ r) low).0 in omega arith

cut_closed : (t R : List ℕ) (f : Bool) → IsCut R f → ¬ IsOpen (27 ∷ t ++ R) f
cut_closed t [] f cut opens = cc (cut, opens.more_comes)
cut_closed t (x ∷ R) f cut opens = ⊎_elim
    (λ (h : IsUnfinishedSequence (27 ∷ t ++ x ∷ R)).
    let same : 27 ∷ (t ++ x ∷ R) ++ h.tail ≡ 27 ∷ t ++ x ∷ (R ++ h.tail) = ap (λ z. 27 ∷ z) (append_assoc t (x ∷ R) h.tail) in
    not_within t (R ++ h.tail) x h.meaning cut (subst (λ z. IsSequence z h.meaning) same h.is_sequence))
    (λ (h : IsUnfinishedCharacter (27 ∷ t ++ x ∷ R)).
    sequence_finished ESC (27 ∷ t ++ x ∷ R) (Row escape) escape_is_sequence (t ++ x ∷ R, refl) (λ e. cc (e)) h)
    opens.beginning

-- the first two bytes of a longer sequence
second_of_three : (y z : ℕ) (t : List ℕ) (m : Meaning) → IsSequence (27 ∷ y ∷ z ∷ t) m → (y ≡ 91) ⊎ (y ≡ 79)
unfolding IsSequence
second_of_three y z t (Row k) is =
    let e : (y == 91) || (y == 79) ≡ true =
    (and_parts ((y == 91) || (y == 79)) (ends_well (z ∷ t)) (row_shaped (27 ∷ y ∷ z ∷ t) k is).shape).0 in
    grind (arith, nat_tests)
second_of_three y z t (Report r) is =
    let f = report_plain (27 ∷ y ∷ z ∷ t) r is in
    let same : y ≡ 91 = ap (λ l. get_or l 1 0) f.1 in inl same

bracket_row : Contains rows (CSI, key_with (Char 91) ALT)
unfolding written_out
bracket_row = Contains-from_lookup (λ (s t : List ℕ) (e : bytes_eq s t ≡ true). (bytes_eq-Decides s t).0 e) CSI
    (key_with (Char 91) ALT) rows refl

capital_o_row : Contains rows (SS3, key_with (Char 79) ALT)
unfolding written_out
capital_o_row = Contains-from_lookup (λ (s t : List ℕ) (e : bytes_eq s t ≡ true). (bytes_eq-Decides s t).0 e) SS3
    (key_with (Char 79) ALT) rows refl

introducer_is_sequence : (bytes : List ℕ) (k : KeyEvent) → IsIntroducer bytes k → IsSequence bytes (Row k)
unfolding IsSequence
introducer_is_sequence bytes k (inl is) =
    subst (λ z. IsSequence z (Row k)) (sym is.0) (subst (λ z. IsSequence CSI (Row z)) (sym is.1) bracket_row)
introducer_is_sequence bytes k (inr is) =
    subst (λ z. IsSequence z (Row k)) (sym is.0) (subst (λ z. IsSequence SS3 (Row z)) (sym is.1) capital_o_row)

-- the beginning of a sequence of three bytes or more
record Introduced (p : List ℕ) : Type 0 where
  second : ℕ
  its_key : KeyEvent
  is_introducer : IsIntroducer (27 ∷ second ∷ []) its_key
  later : List ℕ
  low : AllByRecursion IsPlain later
  splits : p ≡ 27 ∷ second ∷ later

introduced_by : (y : ℕ) (q : List ℕ) → AllByRecursion IsPlain q → (y ≡ 91) ⊎ (y ≡ 79) → Introduced (27 ∷ y ∷ q)
introduced_by y q low which = record {
  second = y;
  its_key = (key_of which).0;
  is_introducer = (key_of which).1;
  later = q;
  low = low;
  splits = refl;
}
  where
    key_of : (y ≡ 91) ⊎ (y ≡ 79) → (k : KeyEvent) × IsIntroducer (27 ∷ y ∷ []) k
    key_of (inl e) = (key_with (Char 91) ALT, inl (ap (λ z. 27 ∷ z ∷ []) e, refl))
    key_of (inr e) = (key_with (Char 79) ALT, inr (ap (λ z. 27 ∷ z ∷ []) e, refl))

third : (y : ℕ) (q c : List ℕ) (m : Meaning) → c ≢ [] → IsSequence (27 ∷ y ∷ q ++ c) m → (y ≡ 91) ⊎ (y ≡ 79)
third y [] [] m some is = absurd (some refl)
third y [] (z ∷ c) m some is = second_of_three y z c m is
third y (z ∷ q) c m some is = second_of_three y z (q ++ c) m is

introduced : (p : List ℕ) → p ≢ [] → p ≢ ESC → IsUnfinishedSequence p → Introduced p
introduced [] some other h = absurd (some refl)
introduced (x ∷ p) some other h = go p refl (sequence_bytes (x ∷ p ++ h.tail) h.meaning h.is_sequence)
  where
    go : (q : List ℕ) → p ≡ q → Bytes (x ∷ p ++ h.tail) → Introduced (x ∷ p)
    go q e (one b l same) = absurd (append-some p h.tail h.longer (cc (same)))
    go [] e (more t n same a) =
        let first : x ≡ 27 = cc (same) in absurd (other (ap (λ z. x ∷ z) e ∙ ap (λ z. z ∷ []) first))
    go (y ∷ q) e (more t n same a) =
        let first : x ≡ 27 = cc (same) in
        let whole : x ∷ p ≡ 27 ∷ y ∷ q = ap (λ z. x ∷ z) e ∙ ap (λ z. z ∷ y ∷ q) first in
        let rest : t ≡ (y ∷ q) ++ h.tail = let after : t ≡ p ++ h.tail = cc (same) in after ∙ ap (λ z. z ++ h.tail) e in
        let low : AllByRecursion IsPlain (y ∷ q ++ h.tail) = subst (AllByRecursion IsPlain) rest a in
        let is : IsSequence (27 ∷ y ∷ q ++ h.tail) h.meaning =
        subst (λ z. IsSequence (z ++ h.tail) h.meaning) whole h.is_sequence in
        subst Introduced (sym whole)
        (introduced_by y q (true_at_front IsPlain q h.tail low.1) (third y q h.tail h.meaning h.longer is))

-- each byte after the first two is a character
later_characters : (q R : List ℕ) (f : Bool) → AllByRecursion IsPlain q → Steps (q ++ R) f (keys_of q) R
later_characters [] R f low = refl
later_characters (x ∷ q) R f low =
    let here : IsPlain x = low.0 in
    let small : x < 128 = omega arith in
    let last : x ≢ 127 = λ e. omega (arith, e) in (
      x ∷ [],
      q ++ R,
      subst (λ z. Stands (z ++ (q ++ R)) f z (Key (plain x))) (encode_ascii x small)
          (text_character_stands x (q ++ R) f (search (arith), inr (omega arith), last)),
      refl,
      later_characters q R f low.1,
    )

module _ (p : List ℕ) (h : IsUnfinishedSequence p) (i : Introduced p) (R : List ℕ) (f : Bool) (cut : IsCut R f) where
  head_is : IsLongest (27 ∷ i.second ∷ i.later ++ R) (27 ∷ i.second ∷ []) (Row i.its_key)
  head_is = record {
    is_sequence = introducer_is_sequence (27 ∷ i.second ∷ []) i.its_key i.is_introducer;
    begins = (i.later ++ R, refl);
    longest = λ other n is b. at_most other n is b.0 (overlap other b.0 (27 ∷ i.second ∷ i.later) R b.1);
  }
    where
      at_most : (other : List ℕ) (n : Meaning) → IsSequence other n → (r : List ℕ)
          → Overlaps other r (27 ∷ i.second ∷ i.later) R → length other ≤ 2
      at_most other n is r (within t e g) =
          let whole : p ++ h.tail ≡ other ++ (t ++ h.tail) =
          ap (λ z. z ++ h.tail) (i.splits ∙ e) ∙ append_assoc other t h.tail in
          begins_short other (t ++ h.tail) n h.meaning is (subst (λ z. IsSequence z h.meaning) whole h.is_sequence)
          (append-some t h.tail h.longer)
      at_most other n is r (past [] some e g) = absurd (some refl)
      at_most other n is r (past (x ∷ t) some e g) =
          let high : 0x80 ≤ x = subst (λ z. IsCut z f) g cut in
          absurd (not_within (i.second ∷ i.later) t x n high (subst (λ z. IsSequence z n) e is))

  stands_alone : Stands (27 ∷ i.second ∷ i.later ++ R) f (27 ∷ i.second ∷ []) (Key i.its_key)
  stands_alone = record {
    closed = cut_closed (i.second ∷ i.later) R f cut;
    item = key (27 ∷ i.second ∷ []) i.its_key head_is (λ e. cc (e)) (λ e. absurd (cc (e)));
  }

  same_with_alt : with_alt i.its_key ≡ i.its_key
  same_with_alt = ⊎_elim
      (λ (a : (27 ∷ i.second ∷ [] ≡ CSI) × (i.its_key ≡ key_with (Char 91) ALT)). ap with_alt a.1 ∙ sym a.1)
      (λ (b : (27 ∷ i.second ∷ [] ≡ SS3) × (i.its_key ≡ key_with (Char 79) ALT)). ap with_alt b.1 ∙ sym b.1)
      i.is_introducer

  stands_after_escape : Stands (27 ∷ 27 ∷ i.second ∷ i.later ++ R) f (27 ∷ 27 ∷ i.second ∷ []) (Key i.its_key)
  stands_after_escape =
      subst (λ k. Stands (27 ∷ 27 ∷ i.second ∷ i.later ++ R) f (27 ∷ 27 ∷ i.second ∷ []) (Key k)) same_with_alt (record {
        closed = cut_closed (27 ∷ i.second ∷ i.later) R f cut;
        item = alt (27 ∷ i.second ∷ i.later ++ R) (Sequence (27 ∷ i.second ∷ []) (Row i.its_key)) i.its_key (record {
          escape_head = escape_alone 27 (i.second ∷ i.later ++ R) (inl (omega arith));
          splits = refl;
          some = λ e. cc (e);
          closed = cut_closed (i.second ∷ i.later) R f cut;
        }) head_is ((λ e. cc (e)), refl);
      })

  alone_steps : Steps (p ++ R) f (Key i.its_key ∷ keys_of i.later) R
  alone_steps = subst (λ z. Steps (z ++ R) f (Key i.its_key ∷ keys_of i.later) R) (sym i.splits)
      (27 ∷ i.second ∷ [], i.later ++ R, stands_alone, refl, later_characters i.later R f i.low)

  held_steps : Steps (27 ∷ p ++ R) f (Key i.its_key ∷ keys_of i.later) R
  held_steps = subst (λ z. Steps (27 ∷ z ++ R) f (Key i.its_key ∷ keys_of i.later) R) (sym i.splits)
      (27 ∷ 27 ∷ i.second ∷ [], i.later ++ R, stands_after_escape, refl, later_characters i.later R f i.low)

  sequence_steps : (held : List ℕ) → IsHeldEscape held → Steps (held ++ p ++ R) f (Key i.its_key ∷ keys_of i.later) R
  sequence_steps held (inl none) =
      subst (λ z. Steps (z ++ p ++ R) f (Key i.its_key ∷ keys_of i.later) R) (sym none) alone_steps
  sequence_steps held (inr is) =
      subst (λ z. Steps (z ++ p ++ R) f (Key i.its_key ∷ keys_of i.later) R) (sym is) held_steps

-- what stays buffered as the beginning of a sequence is introduced, since it is neither ESC nor ESC ESC
not_escape : (u : List ℕ) (is : IsHeldThen IsUnfinishedSequence u) → ¬ IsOneOrTwoEscapes u → is.bytes ≢ ESC
not_escape u is other e = ⊎_elim
    (λ (none : is.held ≡ []). other (inl (is.splits ∙ ap (λ z. z ++ is.bytes) none ∙ e)))
    (λ (held : is.held ≡ ESC). other (inr (is.splits ∙ ap (λ z. z ++ is.bytes) held ∙ ap (λ z. 27 ∷ z) e)))
    is.is_held

module _ (u : List ℕ) (kind : IsKind u true IsSequenceKind) where
  its : IsHeldThen IsUnfinishedSequence u
  its = kind.0

  its_introducer : Introduced its.bytes
  its_introducer = introduced its.bytes its.some (not_escape u its kind.1) its.unfinished

  kind_steps : (R : List ℕ) (f : Bool) → IsCut R f
      → Steps (u ++ R) f (Key its_introducer.its_key ∷ keys_of its_introducer.later) R
  kind_steps R f cut =
      let whole : its.held ++ its.bytes ++ R ≡ u ++ R = ap (λ z. z ++ R) (sym its.splits) in
      subst (λ z. Steps z f (Key its_introducer.its_key ∷ keys_of its_introducer.later) R) whole
      (sequence_steps its.bytes its.unfinished its_introducer R f cut its.held its.is_held)

  kind_flushed : Means u false (Key its_introducer.its_key ∷ keys_of its_introducer.later) []
  kind_flushed = record {
    steps = subst (λ z. Steps z false (Key its_introducer.its_key ∷ keys_of its_introducer.later) []) (append-nil u)
        (kind_steps [] false refl);
    rest = empty_is_rest false;
  }

pub flush_of_sequence : FlushOfSequence
flush_of_sequence u kind =
    let is = its u kind in
    let i = its_introducer u kind in
    record {
      held = is.held;
      is_held = is.is_held;
      bytes = 27 ∷ i.second ∷ [];
      key = i.its_key;
      is_introducer = i.is_introducer;
      later = i.later;
      splits = is.splits ∙ ap (λ z. is.held ++ z) i.splits ∙ sym (append_assoc is.held (27 ∷ i.second ∷ []) i.later);
      means = kind_flushed u kind;
    }

-- the first bytes of a character, alone and after an ESC, before what cuts them short
character_alone : (bytes R : List ℕ) (f : Bool) → bytes ≢ [] → IsUnfinishedCharacter bytes → EndsBefore bytes R f
    → Steps (bytes ++ R) f (replicate (length bytes) broken_event) R
character_alone [] R f some h ends = absurd (some refl)
character_alone (b ∷ v) R f some h ends = cut_steps b v R f h ends

character_held : (bytes R : List ℕ) (f : Bool) → bytes ≢ [] → IsUnfinishedCharacter bytes → EndsBefore bytes R f
    → Steps (27 ∷ bytes ++ R) f (broken_event_with_alt ∷ replicate (length bytes - 1) broken_event) R
character_held [] R f some h ends = absurd (some refl)
character_held (b ∷ v) R f some h ends =
    let count : length v ≡ length (b ∷ v) - 1 = omega arith in
    subst (λ n. Steps (27 ∷ b ∷ v ++ R) f (broken_event_with_alt ∷ replicate n broken_event) R) count (
      27 ∷ b ∷ [],
      v ++ R,
      with_escape_stands b (v ++ R) f (first_broken b v R f h ends),
      refl,
      later_bytes v R f (others_later b v h),
    )

flushed_means : (u : List ℕ) (E : List InputEvent) → Steps (u ++ []) false E [] → Means u false E []
flushed_means u E steps = record {
  steps = subst (λ z. Steps z false E []) (append-nil u) steps;
  rest = empty_is_rest false;
}

pub flush_of_character : FlushOfCharacter
flush_of_character u is = (
  λ none. flushed_means u (replicate (length is.bytes) broken_event)
      (subst (λ z. Steps (z ++ []) false (replicate (length is.bytes) broken_event) [])
      (sym (is.splits ∙ ap (λ z. z ++ is.bytes) none))
      (character_alone is.bytes [] false is.some is.unfinished refl)),
  λ held. flushed_means u (broken_event_with_alt ∷ replicate (length is.bytes - 1) broken_event)
      (subst (λ z. Steps (z ++ []) false (broken_event_with_alt ∷ replicate (length is.bytes - 1) broken_event) [])
      (sym (is.splits ∙ ap (λ z. z ++ is.bytes) held))
      (character_held is.bytes [] false is.some is.unfinished refl)),
)

-- what u is flushed as is also what it is before the byte
record IsCutBy (u : List ℕ) (byte : ℕ) : Type 0 where
  events : List InputEvent
  flushed : Means u false events []
  before : (S : List ℕ) (f : Bool) → 0x80 ≤ byte → Steps (u ++ byte ∷ S) f events (byte ∷ S)

cuts_short : (u : List ℕ) (byte : ℕ) → IsCutBy u byte → CutsShort u byte
cuts_short u byte is T S W E F D f broken first flushed after =
    let same : is.events ≡ F = (steps_once is.events F u [] [] false (read_of is.flushed) (read_of flushed)).0 in
    let steps : Steps (u ++ byte ∷ S) f F (byte ∷ S) =
    subst (λ z. Steps (u ++ byte ∷ S) f z (byte ∷ S)) same (is.before S f (broken_high byte S broken.0)) in
    let then = broken_then byte S W D f broken after in
    subst (λ z. Means (T ++ byte ∷ S) f z W) (sym (append_assoc E F (broken_event ∷ D)))
    (cut_independent T (byte ∷ S) u W E (F ++ broken_event ∷ D) f first (record {
      steps = steps_join F (broken_event ∷ D) (u ++ byte ∷ S) (byte ∷ S) W f steps then.steps;
      rest = then.rest;
    }))

two_escapes : (R : List ℕ) (f : Bool) → IsCut R f → IsLongest (27 ∷ R) ESC (Row escape)
    → Steps (27 ∷ 27 ∷ R) f (Key (with_alt escape) ∷ []) R
two_escapes R f cut head = (
  27 ∷ 27 ∷ [],
  R,
  record {
    closed = cut_closed (27 ∷ []) R f cut;
    item = alt (27 ∷ R) (Sequence ESC (Row escape)) escape (record {
      escape_head = escape_alone 27 R (inl (omega arith));
      splits = refl;
      some = λ e. cc (e);
      closed = cut_closed [] R f cut;
    }) head ((λ e. cc (e)), refl);
  },
  refl,
  refl,
)

pub cuts_sequence : BrokenByteCutsSequence
cuts_sequence u byte (inl escapes) = subst (λ z. CutsShort z byte) (sym escapes) (cuts_short (ESC ++ ESC) byte (record {
  events = Key (with_alt escape) ∷ [];
  flushed = record {
    steps = two_escapes [] false refl (longest_whole ESC (Row escape) escape_is_sequence);
    rest = empty_is_rest false;
  };
  before = λ S f high. two_escapes (byte ∷ S) f high (escape_alone byte S (inr (omega arith)));
}))
cuts_sequence u byte (inr kind) = cuts_short u byte (record {
  events = Key (its_introducer u kind).its_key ∷ keys_of (its_introducer u kind).later;
  flushed = kind_flushed u kind;
  before = λ S f high. kind_steps u kind (byte ∷ S) f high;
})

pub cuts_character : BrokenByteCutsCharacter
cuts_character u byte is ends = ⊎_elim
    (λ (none : is.held ≡ []).
    let same : is.bytes ≡ u = sym (is.splits ∙ ap (λ z. z ++ is.bytes) none) in
    cuts_short u byte (record {
      events = replicate (length is.bytes) broken_event;
      flushed = (flush_of_character u is).0 none;
      before = λ S f high. subst (λ z. Steps (z ++ byte ∷ S) f (replicate (length is.bytes) broken_event) (byte ∷ S)) same
          (character_alone is.bytes (byte ∷ S) f is.some is.unfinished ends);
    }))
    (λ (held : is.held ≡ ESC).
    let same : 27 ∷ is.bytes ≡ u = sym (is.splits ∙ ap (λ z. z ++ is.bytes) held) in
    let events : List InputEvent = broken_event_with_alt ∷ replicate (length is.bytes - 1) broken_event in
    cuts_short u byte (record {
      events = events;
      flushed = (flush_of_character u is).1 held;
      before = λ S f high. subst (λ z. Steps (z ++ byte ∷ S) f events (byte ∷ S)) same
          (character_held is.bytes (byte ∷ S) f is.some is.unfinished ends);
    }))
    is.is_held
