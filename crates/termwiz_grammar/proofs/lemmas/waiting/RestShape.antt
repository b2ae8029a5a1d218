-- At each text an item stands or the text waits, and it can be told which.
use Rattle.std.proofs.Common.{◌≡◌, ◌≢◌, ◌⊎◌, inl, inr, ℕ, zero, suc, ◌<◌, ◌≤◌, Bool, false, List, [], ◌∷◌, ◌++◌, length, refl, sym, ap, ◌∙◌, subst, ⊎_elim, arith, encode_utf8, length-append}
use Rattle.std.specs.Str.Lossy.{utf8_lossy}
use Rattle.termwiz_keys.specs.declared.types.KeyEvent.{KeyEvent}
use Rattle.termwiz_keymap.specs.Bytes.{Begins, Occurs}
use Rattle.termwiz_keys.specs.Introducers.{ESC, START, END}
use Rattle.termwiz_keys.specs.declared.types.InputEvent.{InputEvent}
use Rattle.termwiz_keys.specs.Keys.{plain, escape, with_alt}
use Rattle.termwiz_keys.specs.declared.types.InputEvent.TheVariants.{Key, Mouse, Paste}
use Rattle.termwiz_grammar.specs.Sequences.{IsSequence}
use Rattle.termwiz_grammar.specs.Sequences.Meaning.{Row, Report}
use Rattle.termwiz_grammar.specs.Grammar.{Head, IsHead, IsLongest, IsOpen, IsAfterEscape, replacement, bytes_of, IsKey, IsApart, Item, Stands, IsRest}
use Rattle.termwiz_grammar.specs.Grammar.Head.{Sequence, Character, Broken}
use Rattle.termwiz_grammar.specs.Grammar.Item.{key, char, broken, mouse, paste, lone_escape, alt}
use Rattle.termwiz_grammar.specs.Laws.{EmptyIsRest, IsHeldEscape, OneMeaning, WaitingShape, Waits}
use Rattle.termwiz_grammar.specs.Laws.Waits.{nothing, open_paste, undecided}
use Rattle.termwiz_grammar.specs.WaitingKinds.{IsShortOrOpenPaste}
use Rattle.termwiz_keymap.proofs.lemmas.lists.CommonPrefixes.{append-some_left, length-some}
use Rattle.termwiz_grammar.proofs.lemmas.table.SequenceFacts.{sequence_once, escape_is_sequence}
use Rattle.termwiz_grammar.proofs.lemmas.characters.CharacterPrefixes.{beginning_short}
use Rattle.termwiz_grammar.proofs.lemmas.items.ItemStable.{item_some, item_begins}
use Rattle.termwiz_grammar.proofs.lemmas.items.OneHead.{head_once, head_of, open_or_not}
use Rattle.termwiz_grammar.proofs.lemmas.lists.Decidable.{same_or_not}
use Rattle.termwiz_grammar.proofs.lemmas.pastes.FirstEnd.{Ends, find_end}
use Rattle.termwiz_grammar.proofs.lemmas.pastes.FirstEnd.Ends.{ends, endless}
use Rattle.termwiz_grammar.proofs.lemmas.items.OneItem.{RowGives, Gives, reads, not_alone, Read, read_of, steps_once}
use Rattle.termwiz_grammar.proofs.lemmas.items.OneItem.RowGives.{its_key, its_paste, apart, joined}

pub data Settled (u : List ℕ) (f : Bool) : Type 0 where
  standing : (bytes : List ℕ) (event : InputEvent) → Stands u f bytes event → Settled u f
  resting : IsRest u f → Waits u f → Settled u f

-- the head's key, or the key that ESC joins to: each head has one, or stands apart
key_or_apart : (h : Head) → ((k : KeyEvent) × IsKey h k) ⊎ IsApart h
key_or_apart (Sequence text (Row k)) = ⊎_elim (λ e. inr e) (λ other. inl (k, (other, refl))) (same_or_not text START)
key_or_apart (Sequence text (Report report)) = inr tt
key_or_apart (Character c) = inl (plain c, refl)
key_or_apart (Broken byte) = inl (plain replacement, refl)

stand : (u bytes : List ℕ) (f : Bool) (event : InputEvent) → ¬ IsOpen u f → Item u f bytes event → Settled u f
stand u bytes f event closed item = standing bytes event (record { closed = closed; item = item })

-- nothing stands at a paste that has no end
pub endless_rests : (u : List ℕ) (f : Bool) (k : KeyEvent) → IsLongest u START (Row k) → (body : List ℕ)
    → u ≡ START ++ body → ¬ Occurs END body → IsRest u f
endless_rests u f k is body split none bytes event stands =
    let r = reads u bytes event f stands.item in
    unread (subst (λ h. Gives u f h bytes event) (head_once u r.0 (Sequence START (Row k)) r.1 is) r.2)
  where
    unread : RowGives u f START k bytes event → ⊥
    unread (its_key p q r s) = p refl
    unread (its_paste at inner rest splits first r s) = none (inner, rest, cc (splits, split))
    unread (apart at v h splits some closed is far r s) = cc (at)
    unread (joined at v h j splits some closed is near r s) = cc (at)

-- a text that isn't open, whose head is START
after_start : (u : List ℕ) (f : Bool) (k : KeyEvent) → ¬ IsOpen u f → IsLongest u START (Row k) → Settled u f
after_start u f k closed is = go (find_end is.begins.0)
  where
    go : Ends is.begins.0 → Settled u f
    go (ends body rest e first) = stand u (START ++ body ++ END) f (Paste (utf8_lossy body)) closed
        (paste body (rest, is.begins.1 ∙ ap (λ x. START ++ x) e) first)
    go (endless none) = resting (endless_rests u f k is is.begins.0 is.begins.1 none)
        (open_paste is.begins.0 is.begins.1 none)

-- where ESC is the head, nothing stands if what follows it is open
unread_row : (u v : List ℕ) (f : Bool) → u ≡ ESC ++ v → v ≢ [] → IsOpen v f → (bytes : List ℕ) (event : InputEvent)
    → RowGives u f ESC escape bytes event → ⊥
unread_row u v f e some o bytes event (its_key p q r s) = not_alone u v e some (q refl)
unread_row u v f e some o bytes event (its_paste at body rest split first r s) = cc (at)
unread_row u v f e some o bytes event (apart at w h split longer gap second far r s) =
    let same : v ≡ w = cc (split, e) in gap (subst (λ z. IsOpen z f) same o)
unread_row u v f e some o bytes event (joined at w h j split longer gap second near r s) =
    let same : v ≡ w = cc (split, e) in gap (subst (λ z. IsOpen z f) same o)

pub held_escape_rests : (u v : List ℕ) (f : Bool) → IsLongest u ESC (Row escape) → u ≡ ESC ++ v → v ≢ []
    → IsOpen v f → IsRest u f
held_escape_rests u v f is e some o bytes event stands =
    let r = reads u bytes event f stands.item in
    unread_row u v f e some o bytes event
    (subst (λ h. Gives u f h bytes event) (head_once u r.0 (Sequence ESC (Row escape)) r.1 is) r.2)

-- a text that isn't open, whose head is ESC
after_escape_head : (u : List ℕ) (f : Bool) → ¬ IsOpen u f → IsLongest u ESC (Row escape) → (v : List ℕ)
    → u ≡ ESC ++ v → Settled u f
after_escape_head u f closed is [] e = stand u ESC f (Key escape) closed (key ESC escape is (λ h. cc) (λ h. e))
after_escape_head u f closed is (x ∷ v) e = ⊎_elim
    (λ (o : IsOpen (x ∷ v) f). resting (held_escape_rests u (x ∷ v) f is e (λ h. cc) o)
    (undecided ESC (x ∷ v) (inr refl) e (λ h. cc) o.beginning (beginning_short (x ∷ v) o.beginning) o.more_comes))
    (λ gap.
    let second = head_of x v in
    let after : IsAfterEscape u (x ∷ v) f = record { escape_head = is; splits = e; some = λ h. cc; closed = gap } in
    ⊎_elim
    (λ (near : (k : KeyEvent) × IsKey second.0 k). stand u (ESC ++ bytes_of second.0) f (Key (with_alt near.0)) closed
    (alt (x ∷ v) second.0 near.0 after second.1 near.1))
    (λ (far : IsApart second.0). stand u ESC f (Key escape) closed (lone_escape (x ∷ v) second.0 after second.1 far))
    (key_or_apart second.0))
    (open_or_not (x ∷ v) f)

-- a text that isn't open, by its head
by_head : (u : List ℕ) (f : Bool) → ¬ IsOpen u f → (h : Head) → IsHead u h → Settled u f
by_head u f closed (Character c) is = stand u (encode_utf8 c) f (Key (plain c)) closed (char c is)
by_head u f closed (Broken byte) is = stand u (byte ∷ []) f (Key (plain replacement)) closed (broken byte is)
by_head u f closed (Sequence text (Report report)) is = stand u text f (Mouse report) closed (mouse text report is)
by_head u f closed (Sequence text (Row k)) is = ⊎_elim
    (λ (e : text ≡ START). after_start u f k closed (subst (λ x. IsLongest u x (Row k)) e is))
    (λ (usual : text ≡ START → ⊥). ⊎_elim
    (λ (e : text ≡ ESC).
    let same : Row k ≡ Row escape =
    sequence_once ESC (Row k) (Row escape) (subst (λ x. IsSequence x (Row k)) e is.is_sequence) escape_is_sequence in
    let here : IsLongest u ESC (Row escape) =
    subst (λ m. IsLongest u ESC m) same (subst (λ x. IsLongest u x (Row k)) e is) in
    after_escape_head u f closed here here.begins.0 here.begins.1)
    (λ (other : text ≡ ESC → ⊥). stand u text f (Key k) closed (key text k is usual (λ h. absurd (other h))))
    (same_or_not text ESC))
    (same_or_not text START)

pub empty_is_rest : EmptyIsRest
empty_is_rest f bytes event stands =
    let b = item_begins [] bytes event f stands.item in
    append-some_left bytes b.0 (item_some [] bytes event f stands.item) (sym b.1)

pub settle : (u : List ℕ) (f : Bool) → Settled u f
settle [] f = resting (empty_is_rest f) (nothing refl)
settle (x ∷ u) f = ⊎_elim
    (λ (o : IsOpen (x ∷ u) f). resting (λ bytes event stands. stands.closed o)
    (undecided [] (x ∷ u) (inl refl) refl (λ h. cc) o.beginning (beginning_short (x ∷ u) o.beginning) o.more_comes))
    (λ closed. let first = head_of x u in by_head (x ∷ u) f closed first.0 first.1)
    (open_or_not (x ∷ u) f)

pub waiting_shape : WaitingShape
waiting_shape u f rest = go (settle u f)
  where
    go : Settled u f → Waits u f
    go (standing bytes event stands) = absurd (rest bytes event stands)
    go (resting r waits) = waits

-- nothing waits under a flush but an open paste
pub flushed : (W : List ℕ) → IsRest W false → (W ≡ []) ⊎ Begins START W
flushed W rest = go (waiting_shape W false rest)
  where
    go : Waits W false → (W ≡ []) ⊎ Begins START W
    go (nothing e) = inl e
    go (open_paste body e never) = inr (body, e)
    go (undecided held bytes is e n u short m) = absurd (cc (m))

pub rest_flushed : (W : List ℕ) (more : Bool) → IsRest W more → more ≡ false → (W ≡ []) ⊎ Begins START W
rest_flushed W more rest last = flushed W (subst (IsRest W) last rest)

held_one : (held : List ℕ) → IsHeldEscape held → length held ≤ 1
held_one held is = ⊎_elim
    (λ (none : held ≡ []). omega (arith, ap length none))
    (λ (one : held ≡ ESC). omega (arith, ap length one))
    is

-- what waits is short, or an open paste
pub rest_short : (W : List ℕ) (more : Bool) → IsRest W more → IsShortOrOpenPaste W
rest_short W more rest = go (waiting_shape W more rest)
  where
    go : Waits W more → IsShortOrOpenPaste W
    go (nothing e) = inl (omega (arith, ap length e))
    go (open_paste body e never) = inr (record { body = body; splits = e; endless = never })
    go (undecided held bytes is e n u short m) =
        inl (omega (arith, ap length e, length-append held bytes, held_one held is, short))

meaning_within : (n : ℕ) (T : List ℕ) (f : Bool) → length T ≤ n → (E : List InputEvent) × (W : List ℕ) × Read T f E W
meaning_within zero [] f l = go (settle [] f)
  where
    go : Settled [] f → (E : List InputEvent) × (W : List ℕ) × Read [] f E W
    go (standing bytes event stands) = absurd (empty_is_rest f bytes event stands)
    go (resting r waits) = ([], [], (refl, r))
meaning_within zero (x ∷ T) f l = absurd (omega arith)
meaning_within (suc n) T f l = go (settle T f) (λ rest lt. meaning_within n rest f lt)
  where
    go : Settled T f → ((rest : List ℕ) → length rest ≤ n → (E : List InputEvent) × (W : List ℕ) × Read rest f E W)
        → (E : List InputEvent) × (W : List ℕ) × Read T f E W
    go (resting r waits) below = ([], T, (refl, r))
    go (standing bytes event stands) below =
        let b = item_begins T bytes event f stands.item in
        let some : 0 < length bytes = length-some bytes (item_some T bytes event f stands.item) in
        let m = below b.0 (omega (arith, length-append bytes b.0, ap length b.1)) in
        (event ∷ m.0, m.1, ((bytes, b.0, stands, b.1, m.2.0), m.2.1))

pub one_meaning : OneMeaning
one_meaning T f =
    let m = meaning_within (length T) T f (omega arith) in
    (m.0, m.1, record { steps = m.2.0; rest = m.2.1 }, λ D V h. steps_once D m.0 T V m.1 f (read_of h) m.2)
