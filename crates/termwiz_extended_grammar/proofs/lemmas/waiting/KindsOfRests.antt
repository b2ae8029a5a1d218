-- Each rest is of exactly one kind.
use Rattle.std.proofs.Common.{◌≡◌, ◌≢◌, ◌⊎◌, inl, inr, ⊎_elim, ℕ, ◌<◌, ◌≤◌, Bool, true, List, [], ◌∷◌, ◌++◌, length, refl, sym, ap, ◌∙◌, subst, append_assoc, arith, length-append}
use Rattle.std.specs.List.{AllByRecursion}
use Rattle.termwiz_keymap.specs.Bytes.{Begins}
use Rattle.termwiz_keymap.proofs.lemmas.lists.CommonPrefixes.{append-some, append-some_left, length-some}
use Rattle.termwiz_keys.specs.Introducers.{ESC, START}
use Rattle.termwiz_grammar.specs.Grammar.{IsUnfinishedCharacter}
use Rattle.termwiz_grammar.specs.Laws.{IsHeldEscape}
use Rattle.termwiz_grammar.specs.Sequences.{IsSequence}
use Rattle.termwiz_grammar.specs.WaitingKinds.{IsHeldThen, IsOneOrTwoEscapes}
use Rattle.termwiz_grammar.proofs.lemmas.characters.CharacterPrefixes.{IsHigh, parted_high}
use Rattle.termwiz_grammar.proofs.lemmas.lists.Decidable.{same_or_not}
use Rattle.termwiz_grammar.proofs.lemmas.mouse.OneReport.{IsPlain}
use Rattle.termwiz_grammar.proofs.lemmas.table.RowShape.{Bytes}
use Rattle.termwiz_grammar.proofs.lemmas.table.RowShape.Bytes.{one, more}
use Rattle.termwiz_grammar.proofs.lemmas.table.SequenceFacts.{sequence_bytes, start_ends}
use Rattle.termwiz_grammar.proofs.lemmas.waiting.RestKinds.{CharacterBytes}
use Rattle.termwiz_extended_events.specs.declared.types.Reading.{Reading}
use Rattle.termwiz_extended_grammar.specs.declared.waiting.ExtendedWaiting.{ExtendedWaiting}
use Rattle.termwiz_extended_grammar.specs.declared.waiting.ExtendedWaiting.TheVariants.{Nothing, Escape, Sequence, Character, Paste, String}
use Rattle.termwiz_extended_grammar.specs.ExtendedGrammar.{IsRest}
use Rattle.termwiz_extended_grammar.specs.ExtendedKinds.{IsUnfinished, IsKind, WaitingKinds}
use Rattle.termwiz_extended_grammar.specs.ExtendedLaws.{Waits}
use Rattle.termwiz_extended_grammar.specs.ExtendedLaws.Waits.{nothing, open_paste, undecided, open_string}
use Rattle.termwiz_extended_grammar.specs.Forms.{introducer}
use Rattle.termwiz_extended_grammar.specs.Readings.{ReadsMore}
use Rattle.termwiz_extended_grammar.specs.Strings.{IsOpenString}
use Rattle.termwiz_extended_grammar.proofs.lemmas.forms.FormBytes.{IsMark, IsStringIntroducer, introducer_shape, head_some, mark_shape}
use Rattle.termwiz_extended_grammar.proofs.lemmas.forms.FormEnds.{mark_ends, sequence_after_mark}
use Rattle.termwiz_extended_grammar.proofs.lemmas.forms.ExtraFacts.{start_form, mark_from_unfinished, completed_mark}
use Rattle.termwiz_extended_grammar.proofs.lemmas.items.ExtendedRests.{waiting_shape}
use Rattle.termwiz_extended_grammar.proofs.lemmas.waiting.FlushesMatter.{second_low}

-- ESC, and a byte below 128 if any follows
pub record IsLow (u : List ℕ) : Type 0 where
  pub after : List ℕ
  pub splits : u ≡ 27 ∷ after
  pub low : (y : ℕ) (s : List ℕ) → after ≡ y ∷ s → y < 128

second_of : (x : ℕ) (t tail : List ℕ) (b : ℕ) (r : List ℕ) → x ∷ t ++ tail ≡ 27 ∷ b ∷ r → (y : ℕ) (s : List ℕ) → t ≡ y ∷ s → y ≡ b
second_of x t tail b r e y s k = (let all : x ∷ y ∷ (s ++ tail) ≡ 27 ∷ b ∷ r = ap (λ z. x ∷ z ++ tail) (sym k) ∙ e in cc (all))

-- what properly begins a sequence begins so
pub unfinished_low : (reading : Reading) (u : List ℕ) → u ≢ [] → IsUnfinished reading u → IsLow u
unfinished_low reading [] some h = absurd (some refl)
unfinished_low reading (x ∷ t) some (inl h) = go (sequence_bytes (x ∷ t ++ h.tail) h.meaning h.is_sequence)
  where
    plain_first : (y : ℕ) (s n : List ℕ) → AllByRecursion IsPlain n → n ≡ t ++ h.tail → t ≡ y ∷ s → y < 128
    plain_first y s n p e k =
        let first : AllByRecursion IsPlain (y ∷ s ++ h.tail) =
        subst (AllByRecursion IsPlain) (e ∙ ap (λ z. z ++ h.tail) k) p in
        (let it : IsPlain y = first.0 in omega (arith, it.1))

    go : Bytes (x ∷ t ++ h.tail) → IsLow (x ∷ t)
    go (one y l e) = absurd (omega (arith, ap length e, length-append t h.tail, length-some h.tail h.longer))
    go (more n m e p) = record {
      after = t;
      splits = (let first : x ≡ 27 = cc (e) in ap (λ z. z ∷ t) first);
      low = λ y s k. plain_first y s n p (let rest : n ≡ t ++ h.tail = cc (e) in rest) k;
    }
unfinished_low reading (x ∷ t) some (inr h) =
    let m = completed_mark (x ∷ t) (mark_from_unfinished reading (x ∷ t) h) in
    let s = mark_shape (x ∷ t ++ m.0) m.2 in
    record {
      after = t;
      splits = (let first : x ≡ 27 = cc (s.2) in ap (λ z. z ∷ t) first);
      low = λ y r k.
          let next : y ≡ s.0 = second_of x t m.0 s.0 s.1 s.2 y r k in
          let bound : s.0 ≤ 95 = second_low s.0 s.4 in omega arith;
    }

-- a high byte is first there nowhere
pub no_high : (u held bytes : List ℕ) → CharacterBytes u → IsHeldEscape held → u ≡ held ++ bytes → IsLow bytes → ⊥
no_high u held bytes c is e low = ⊎_elim (at_once bytes e low) (after_escape bytes e low) is
  where
    here : (w : List ℕ) → u ≡ w → IsLow w → ⊥
    here w same l = ⊎_elim
        (λ (k : u ≡ c.first ∷ c.after).
        let first : c.first ≡ 27 = cc (k, same, l.splits) in omega (arith, c.high))
        (λ (k : u ≡ 27 ∷ c.first ∷ c.after).
        let rest : l.after ≡ c.first ∷ c.after = cc (k, same, l.splits) in
        omega (arith, c.high, l.low c.first c.after rest))
        c.spells

    at_once : (w : List ℕ) → u ≡ held ++ w → IsLow w → held ≡ [] → ⊥
    at_once w same l none = here w (same ∙ ap (λ z. z ++ w) none) l

    after_escape : (w : List ℕ) → u ≡ held ++ w → IsLow w → held ≡ ESC → ⊥
    after_escape w same l single = ⊎_elim
        (λ (k : u ≡ c.first ∷ c.after).
        let first : c.first ≡ 27 = cc (k, same, ap (λ z. z ++ w) single) in omega (arith, c.high))
        (λ (k : u ≡ 27 ∷ c.first ∷ c.after).
        let rest : w ≡ c.first ∷ c.after = cc (k, same, ap (λ z. z ++ w) single) in
        let first : c.first ≡ 27 = cc (rest, l.splits) in omega (arith, c.high))
        c.spells

-- what properly begins a character is one byte from 128 on at least
character_first : (u : List ℕ) → u ≢ [] → IsUnfinishedCharacter u → (x : ℕ) × (t : List ℕ) × (u ≡ x ∷ t) × (128 ≤ x)
character_first [] some h = absurd (some refl)
character_first (x ∷ t) some h =
    let high : IsHigh x = (parted_high h.char (x ∷ t) h.tail h.scalar some h.longer h.spells).0 in (x, t, refl, high.0)

-- so it begins with a high byte, alone or after an ESC
character_bytes : (u held bytes : List ℕ) → IsHeldEscape held → u ≡ held ++ bytes → bytes ≢ [] → IsUnfinishedCharacter bytes
    → CharacterBytes u
character_bytes u held bytes is e some h =
    let c = character_first bytes some h in
    record {
      first = c.0;
      after = c.1;
      high = c.3;
      spells = ⊎_elim
          (λ (none : held ≡ []). inl (e ∙ ap (λ z. z ++ bytes) none ∙ c.2))
          (λ (single : held ≡ ESC). inr (e ∙ ap (λ z. z ++ bytes) single ∙ ap (λ z. 27 ∷ z) c.2))
          is;
    }

-- START properly begins no sequence
start_begins_none : (reading : Reading) (u : List ℕ) → Begins START u → IsUnfinished reading u → ⊥
start_begins_none reading u b (inl h) = append-some b.0 h.tail h.longer (start_ends (b.0 ++ h.tail) h.meaning
    (subst (λ z. IsSequence z h.meaning) (ap (λ z. z ++ h.tail) b.1) h.is_sequence))
start_begins_none reading u b (inr h) =
    let m = completed_mark u (mark_from_unfinished reading u h) in
    append-some b.0 m.0 m.1 (mark_ends START (b.0 ++ m.0) (inl start_form) (subst (λ z. IsMark reading.x10_mouse z) (ap (λ z. z ++ m.0) b.1) m.2))

pub start_not_held : (reading : Reading) (u held bytes : List ℕ) → Begins START u → IsHeldEscape held → u ≡ held ++ bytes → bytes ≢ []
    → IsUnfinished reading bytes → ⊥
start_not_held reading u held bytes b is e some h = ⊎_elim
    (λ (none : held ≡ []). start_begins_none reading bytes (b.0, sym (e ∙ ap (λ z. z ++ bytes) none) ∙ b.1) h)
    (λ (single : held ≡ ESC).
    let low = unfinished_low reading bytes some h in
    let first : ◌≡◌ {A = ℕ} 91 27 = cc (b.1, e, ap (λ z. z ++ bytes) single, low.splits) in omega arith)
    is

pub start_no_character : (u : List ℕ) → Begins START u → CharacterBytes u → ⊥
start_no_character u b c = ⊎_elim
    (λ (k : u ≡ c.first ∷ c.after). let first : c.first ≡ 27 = cc (k, b.1) in omega (arith, c.high))
    (λ (k : u ≡ 27 ∷ c.first ∷ c.after). let first : c.first ≡ 91 = cc (k, b.1) in omega (arith, c.high))
    c.spells

-- what waits is nothing, an open paste, an open string, or the beginning of a sequence or of a character
pub data Kinds (reading : Reading) (u : List ℕ) (f : Bool) : Type 0 where
  none : u ≡ [] → Kinds reading u f
  pasted : (body : List ℕ) → u ≡ START ++ body → IsKind reading u f Paste → Kinds reading u f
  sequence : (held bytes : List ℕ) → IsHeldEscape held → u ≡ held ++ bytes → bytes ≢ [] → IsUnfinished reading bytes
      → f ≡ true → Kinds reading u f
  open_now : IsOpenString u → f ≡ true → ReadsMore reading → Kinds reading u f
  character : CharacterBytes u → IsHeldThen IsUnfinishedCharacter u → f ≡ true → Kinds reading u f

pub kinds : (reading : Reading) (u : List ℕ) (f : Bool) → IsRest reading u f → Kinds reading u f
kinds reading u f rest = go (waiting_shape reading u f rest)
  where
    go : Waits reading u f → Kinds reading u f
    go (nothing e) = none e
    go (open_paste body e never) = pasted body e (record { body = body; splits = e; endless = never })
    go (undecided held bytes is e n (inl (inl h)) short m) = sequence held bytes is e n (inl h) m
    go (undecided held bytes is e n (inl (inr h)) short m) = character (character_bytes u held bytes is e n h)
        (record { held = held; bytes = bytes; is_held = is; splits = e; some = n; unfinished = h }) m
    go (undecided held bytes is e n (inr h) short m) = sequence held bytes is e n (inr h) m
    go (open_string is short m reads) = open_now is m reads

pub escapes_some : (u : List ℕ) → IsOneOrTwoEscapes u → u ≡ [] → ⊥
escapes_some u is e = ⊎_elim (λ (a : u ≡ ESC). cc (a, e)) (λ (b : u ≡ ESC ++ ESC). cc (b, e)) is

pub escapes_no_paste : (u body : List ℕ) → IsOneOrTwoEscapes u → u ≡ START ++ body → ⊥
escapes_no_paste u body is e = ⊎_elim
    (λ (a : u ≡ ESC). cc (a, e))
    (λ (b : u ≡ ESC ++ ESC). let same : ◌≡◌ {A = ℕ} 27 91 = cc (b, e) in omega arith)
    is

escapes_no_character : (u : List ℕ) → IsOneOrTwoEscapes u → CharacterBytes u → ⊥
escapes_no_character u is c = ⊎_elim
    (λ (a : u ≡ ESC). ⊎_elim
    (λ (k : u ≡ c.first ∷ c.after). let first : 27 ≡ c.first = cc (a, k) in omega (arith, c.high))
    (λ (k : u ≡ 27 ∷ c.first ∷ c.after). cc (a, k)) c.spells)
    (λ (b : u ≡ ESC ++ ESC). ⊎_elim
    (λ (k : u ≡ c.first ∷ c.after). let first : 27 ≡ c.first = cc (b, k) in omega (arith, c.high))
    (λ (k : u ≡ 27 ∷ c.first ∷ c.after). let second : 27 ≡ c.first = cc (b, k) in omega (arith, c.high)) c.spells)
    is

held_some : {P : List ℕ → Type 0} (u : List ℕ) → IsHeldThen P u → u ≡ [] → ⊥
held_some u is empty = append-some is.held is.bytes is.some (sym is.splits ∙ empty)

bytes_of_character : (u : List ℕ) → IsHeldThen IsUnfinishedCharacter u → CharacterBytes u
bytes_of_character u is = character_bytes u is.held is.bytes is.is_held is.splits is.some is.unfinished

sequence_no_character : (reading : Reading) (u : List ℕ) → IsHeldThen (IsUnfinished reading) u → CharacterBytes u → ⊥
sequence_no_character reading u is c =
    no_high u is.held is.bytes c is.is_held is.splits (unfinished_low reading is.bytes is.some is.unfinished)

sequence_no_paste : (reading : Reading) (u body : List ℕ) → IsHeldThen (IsUnfinished reading) u → u ≡ START ++ body → ⊥
sequence_no_paste reading u body is e =
    start_not_held reading u is.held is.bytes (body, e) is.is_held is.splits is.some is.unfinished

-- an open string is ESC, its introducer, and more
string_shape : (u : List ℕ) → IsOpenString u → (b : ℕ) × (r : List ℕ) × (u ≡ 27 ∷ b ∷ r) × (r ≢ []) × IsStringIntroducer b
string_shape u o =
    let i = introducer_shape o.kind in (
      i.0,
      o.head ++ (o.bytes ++ o.held),
      o.is_string.splits ∙ ap (λ z. z ++ o.head ++ (o.bytes ++ o.held)) i.1,
      append-some_left o.head (o.bytes ++ o.held) (head_some o.kind o.head o.is_string.is_head),
      i.2,
    )

string_some : (u : List ℕ) → IsOpenString u → u ≡ [] → ⊥
string_some u o e = (let s = string_shape u o in cc (s.2, e))

introducer_not_escape : (b : ℕ) → IsStringIntroducer b → b ≡ 27 → ⊥
introducer_not_escape b is e = omega arith

escapes_no_string : (u : List ℕ) → IsOpenString u → IsOneOrTwoEscapes u → ⊥
escapes_no_string u o is = (let s = string_shape u o in ⊎_elim
    (λ (a : u ≡ ESC). cc (s.2, a))
    (λ (b : u ≡ ESC ++ ESC). introducer_not_escape s.0 s.4 (cc (s.2, b)))
    is)

-- the opening of a string begins no longer sequence
string_begins_none : (reading : Reading) (u : List ℕ) → IsOpenString u → IsUnfinished reading u → ⊥
string_begins_none reading u o h = go h
  where
    opening : List ℕ
    opening = introducer o.kind ++ o.head

    rest : List ℕ
    rest = o.bytes ++ o.held

    mark : IsMark reading.x10_mouse opening
    mark = inr (record { kind = o.kind; head = o.head; is_head = o.is_string.is_head; form = refl })

    longer : (tail : List ℕ) → u ++ tail ≡ opening ++ (rest ++ tail)
    longer tail = ap (λ z. z ++ tail) o.is_string.splits ∙ append_assoc opening rest tail

    go : IsUnfinished reading u → ⊥
    go (inl k) = append-some rest k.tail k.longer
        (sequence_after_mark opening (rest ++ k.tail) k.meaning mark (subst (λ z. IsSequence z k.meaning) (longer k.tail) k.is_sequence))
    go (inr k) =
        let m = completed_mark u (mark_from_unfinished reading u k) in
        append-some rest m.0 m.1 (mark_ends opening (rest ++ m.0) mark (subst (λ z. IsMark reading.x10_mouse z) (longer m.0) m.2))

sequence_no_string : (reading : Reading) (u : List ℕ) → IsHeldThen (IsUnfinished reading) u → IsOpenString u → ⊥
sequence_no_string reading u is o = ⊎_elim
    (λ (none : is.held ≡ []). string_begins_none reading u o
    (subst (IsUnfinished reading) (sym (is.splits ∙ ap (λ z. z ++ is.bytes) none)) is.unfinished))
    (λ (single : is.held ≡ ESC).
    let s = string_shape u o in
    let low = unfinished_low reading is.bytes is.some is.unfinished in
    let whole : u ≡ 27 ∷ 27 ∷ low.after = is.splits ∙ ap (λ z. z ++ is.bytes) single ∙ ap (λ z. 27 ∷ z) low.splits in
    introducer_not_escape s.0 s.4 (cc (s.2, whole)))
    is.is_held

character_no_string : (u : List ℕ) → CharacterBytes u → IsOpenString u → ⊥
character_no_string u c o = (let s = string_shape u o in ⊎_elim
    (λ (k : u ≡ c.first ∷ c.after). let first : c.first ≡ 27 = cc (k, s.2) in omega (arith, c.high))
    (λ (k : u ≡ 27 ∷ c.first ∷ c.after). let second : c.first ≡ s.0 = cc (k, s.2) in omega (arith, c.high, s.4))
    c.spells)

paste_no_string : (u body : List ℕ) → u ≡ START ++ body → IsOpenString u → ⊥
paste_no_string u body e o = (let s = string_shape u o in let second : s.0 ≡ 91 = cc (e, s.2) in omega (arith, s.4))

-- what is of two kinds is of one
one_kind : (reading : Reading) (u : List ℕ) (f : Bool) (a b : ExtendedWaiting) → IsKind reading u f a → IsKind reading u f b → b ≡ a
one_kind reading u f Nothing Nothing p q = refl
one_kind reading u f Nothing Escape p q = absurd (escapes_some u q.0 p)
one_kind reading u f Nothing Sequence p q = absurd (held_some u q.0 p)
one_kind reading u f Nothing Character p q = absurd (held_some u q.0 p)
one_kind reading u f Nothing Paste p q = absurd (cc (p, q.splits))
one_kind reading u f Nothing String p q = absurd (string_some u q.0 p)
one_kind reading u f Escape Nothing p q = absurd (escapes_some u p.0 q)
one_kind reading u f Escape Escape p q = refl
one_kind reading u f Escape Sequence p q = absurd (q.1 p.0)
one_kind reading u f Escape Character p q = absurd (escapes_no_character u p.0 (bytes_of_character u q.0))
one_kind reading u f Escape Paste p q = absurd (escapes_no_paste u q.body p.0 q.splits)
one_kind reading u f Escape String p q = absurd (escapes_no_string u q.0 p.0)
one_kind reading u f Sequence Nothing p q = absurd (held_some u p.0 q)
one_kind reading u f Sequence Escape p q = absurd (p.1 q.0)
one_kind reading u f Sequence Sequence p q = refl
one_kind reading u f Sequence Character p q = absurd (sequence_no_character reading u p.0 (bytes_of_character u q.0))
one_kind reading u f Sequence Paste p q = absurd (sequence_no_paste reading u q.body p.0 q.splits)
one_kind reading u f Sequence String p q = absurd (sequence_no_string reading u p.0 q.0)
one_kind reading u f Character Nothing p q = absurd (held_some u p.0 q)
one_kind reading u f Character Escape p q = absurd (escapes_no_character u q.0 (bytes_of_character u p.0))
one_kind reading u f Character Sequence p q = absurd (sequence_no_character reading u q.0 (bytes_of_character u p.0))
one_kind reading u f Character Character p q = refl
one_kind reading u f Character Paste p q = absurd (start_no_character u (q.body, q.splits) (bytes_of_character u p.0))
one_kind reading u f Character String p q = absurd (character_no_string u (bytes_of_character u p.0) q.0)
one_kind reading u f Paste Nothing p q = absurd (cc (q, p.splits))
one_kind reading u f Paste Escape p q = absurd (escapes_no_paste u p.body q.0 p.splits)
one_kind reading u f Paste Sequence p q = absurd (sequence_no_paste reading u p.body q.0 p.splits)
one_kind reading u f Paste Character p q = absurd (start_no_character u (p.body, p.splits) (bytes_of_character u q.0))
one_kind reading u f Paste Paste p q = refl
one_kind reading u f Paste String p q = absurd (paste_no_string u p.body p.splits q.0)
one_kind reading u f String Nothing p q = absurd (string_some u p.0 q)
one_kind reading u f String Escape p q = absurd (escapes_no_string u p.0 q.0)
one_kind reading u f String Sequence p q = absurd (sequence_no_string reading u q.0 p.0)
one_kind reading u f String Character p q = absurd (character_no_string u (bytes_of_character u q.0) p.0)
one_kind reading u f String Paste p q = absurd (paste_no_string u q.body q.splits p.0)
one_kind reading u f String String p q = refl

one_or_two_or_not : (u : List ℕ) → IsOneOrTwoEscapes u ⊎ (IsOneOrTwoEscapes u → ⊥)
one_or_two_or_not u = ⊎_elim
    (λ (a : u ≡ ESC). inl (inl a))
    (λ (none : u ≡ ESC → ⊥). ⊎_elim
    (λ (b : u ≡ ESC ++ ESC). inl (inr b))
    (λ (never : u ≡ ESC ++ ESC → ⊥). inr (λ either. ⊎_elim none never either))
    (same_or_not u (ESC ++ ESC)))
    (same_or_not u ESC)

some_kind : (reading : Reading) (u : List ℕ) (f : Bool) → Kinds reading u f → (kind : ExtendedWaiting) × IsKind reading u f kind
some_kind reading u f (none e) = (Nothing, e)
some_kind reading u f (pasted body e is) = (Paste, is)
some_kind reading u f (sequence held bytes is e n h m) = ⊎_elim
    (λ (escapes : IsOneOrTwoEscapes u). (Escape, (escapes, m)))
    (λ other. (
      Sequence,
      (record { held = held; bytes = bytes; is_held = is; splits = e; some = n; unfinished = h }, other, m),
    ))
    (one_or_two_or_not u)
some_kind reading u f (open_now is m reads) = (String, (is, m, reads))
some_kind reading u f (character c is m) = (Character, (is, m))

pub waiting_kinds : WaitingKinds
waiting_kinds reading u f rest =
    let it = some_kind reading u f (kinds reading u f rest) in
    (it.0, it.1, λ other is. one_kind reading u f it.0 other it.1 is)
