-- At most one item stands at a text, and it can be told which, or how the text waits.
use Rattle.std.proofs.Common.{◌≡◌, ◌≢◌, ℕ, ◌≤◌, Bool, List, [], ◌∷◌, ◌++◌, length, refl, sym, ap, ap₂, ◌∙◌, subst, arith, encode_utf8, length-append}
use Rattle.std.specs.Str.Lossy.{utf8_lossy}
use Rattle.std.proofs.lemmas.List.{append_cancel_left}
use Rattle.termwiz_keys.specs.declared.types.KeyEvent.{KeyEvent}
use Rattle.termwiz_keymap.specs.Bytes.{Begins}
use Rattle.termwiz_keys.specs.Introducers.{ESC, START, END}
use Rattle.termwiz_keys.specs.declared.types.InputEvent.{InputEvent}
use Rattle.termwiz_keys.specs.Keys.{plain, escape, with_alt}
use Rattle.termwiz_keys.specs.declared.types.InputEvent.TheVariants.{Key, Mouse, Paste}
use Rattle.termwiz_grammar.specs.Sequences.{Meaning, IsSequence}
use Rattle.termwiz_grammar.specs.Sequences.Meaning.{Row, Report}
use Rattle.termwiz_grammar.specs.Grammar.{Head, IsHead, IsLongest, IsOpen, replacement, bytes_of, IsKey, IsApart, EndsFirst, Item, Stands, Steps, Means, IsRest}
use Rattle.termwiz_grammar.specs.Grammar.Head.{Sequence, Character, Broken}
use Rattle.termwiz_grammar.specs.Grammar.Item.{key, char, broken, mouse, paste, lone_escape, alt}
use Rattle.termwiz_keymap.proofs.lemmas.lists.CommonPrefixes.{Overlaps, overlap}
use Rattle.termwiz_keymap.proofs.lemmas.lists.CommonPrefixes.Overlaps.{within, past}
use Rattle.termwiz_grammar.proofs.lemmas.table.SequenceFacts.{start, start_is_sequence, start_ends}
use Rattle.termwiz_grammar.proofs.lemmas.items.OneHead.{head_once}
use Rattle.termwiz_grammar.proofs.lemmas.pastes.FirstEnd.{ends_once}

-- what a row that is the head gives: its key, a paste, or what its Escape gives with what follows
pub data RowGives (u : List ℕ) (f : Bool) (text : List ℕ) (k : KeyEvent) (bytes : List ℕ)
    (event : InputEvent) : Type 0 where
  its_key : text ≢ START → (text ≡ ESC → u ≡ ESC) → bytes ≡ text → event ≡ Key k → RowGives u f text k bytes event
  its_paste : text ≡ START → (body rest : List ℕ) → u ≡ START ++ body ++ END ++ rest → EndsFirst body
      → bytes ≡ START ++ body ++ END → event ≡ Paste (utf8_lossy body) → RowGives u f text k bytes event
  apart : text ≡ ESC → (v : List ℕ) (h : Head) → u ≡ ESC ++ v → v ≢ [] → (IsOpen v f → ⊥) → IsHead v h → IsApart h
      → bytes ≡ ESC → event ≡ Key escape → RowGives u f text k bytes event
  joined : text ≡ ESC → (v : List ℕ) (h : Head) (j : KeyEvent) → u ≡ ESC ++ v → v ≢ [] → (IsOpen v f → ⊥)
      → IsHead v h → IsKey h j
      → bytes ≡ ESC ++ bytes_of h → event ≡ Key (with_alt j) → RowGives u f text k bytes event

abbrev pub Gives : List ℕ → Bool → Head → List ℕ → InputEvent → Type 0
Gives u f (Sequence text (Row k)) bytes event = RowGives u f text k bytes event
Gives u f (Sequence text (Report report)) bytes event = (bytes ≡ text) × (event ≡ Mouse report)
Gives u f (Character c) bytes event = (bytes ≡ encode_utf8 c) × (event ≡ Key (plain c))
Gives u f (Broken byte) bytes event = (bytes ≡ byte ∷ []) × (event ≡ Key (plain replacement))

-- START is the head of what it begins
pub start_head : (u : List ℕ) → Begins START u → IsLongest u START (Row start)
start_head u b = record {
  is_sequence = start_is_sequence;
  begins = b;
  longest = λ other m is_sequence c. no_longer other m is_sequence (overlap other c.0 START b.0 (sym b.1 ∙ c.1));
}
  where
    no_longer : {r s : List ℕ} (other : List ℕ) (m : Meaning) → IsSequence other m → Overlaps other r START s
        → length other ≤ length START
    no_longer other m is_sequence (within t e f) = omega (arith, length-append other t, ap length e)
    no_longer other m is_sequence (past t longer e f) =
        absurd (longer (start_ends t m (subst (λ x. IsSequence x m) e is_sequence)))

-- what stands is what the head gives
pub reads : (u bytes : List ℕ) (event : InputEvent) (f : Bool) → Item u f bytes event
    → (h : Head) × IsHead u h × Gives u f h bytes event
reads u bytes event f (key text k is usual alone) = (Sequence text (Row k), is, its_key usual alone refl refl)
reads u bytes event f (char c is) = (Character c, is, (refl, refl))
reads u bytes event f (broken byte is) = (Broken byte, is, (refl, refl))
reads u bytes event f (mouse text report is) = (Sequence text (Report report), is, (refl, refl))
reads u bytes event f (paste body b first) =
    (Sequence START (Row start), start_head u (body ++ END ++ b.0, b.1), its_paste refl body b.0 b.1 first refl refl)
reads u bytes event f (lone_escape v h after is far) =
    (Sequence ESC (Row escape), after.escape_head, apart refl v h after.splits after.some after.closed is far refl refl)
reads u bytes event f (alt v h k after is near) = (
  Sequence ESC (Row escape),
  after.escape_head,
  joined refl v h k after.splits after.some after.closed is near refl refl,
)

not_apart : (h : Head) (k : KeyEvent) → IsKey h k → IsApart h → ⊥
not_apart (Sequence text (Row j)) k near far = near.0 far
not_apart (Sequence text (Report report)) k near far = near
not_apart (Character c) k near far = far
not_apart (Broken byte) k near far = far

key_once : (h : Head) (j k : KeyEvent) → IsKey h j → IsKey h k → j ≡ k
key_once (Sequence text (Row i)) j k a b = a.1 ∙ sym b.1
key_once (Sequence text (Report report)) j k a b = absurd a
key_once (Character c) j k a b = a ∙ sym b
key_once (Broken byte) j k a b = a ∙ sym b

-- the text after one Escape
after_escape : (u v w : List ℕ) → u ≡ ESC ++ v → u ≡ ESC ++ w → v ≡ w
after_escape u v w d e = cc (d, e)

pub not_alone : (u v : List ℕ) → u ≡ ESC ++ v → v ≢ [] → u ≡ ESC → ⊥
not_alone u v d some e = some (cc (d, e))

second_head : (u v w : List ℕ) (h k : Head) → u ≡ ESC ++ v → u ≡ ESC ++ w → IsHead v h → IsHead w k → h ≡ k
second_head u v w h k d e a b = head_once w h k (subst (λ x. IsHead x h) (after_escape u v w d e) a) b

row_once : (u : List ℕ) (f : Bool) (text : List ℕ) (k : KeyEvent) (b c : List ℕ) (d e : InputEvent)
    → RowGives u f text k b d → RowGives u f text k c e → (b ≡ c) × (d ≡ e)
row_once u f text k b c d e (its_key p q r s) (its_key p2 q2 r2 s2) = (cc (r, r2), cc (s, s2))
row_once u f text k b c d e (its_key p q r s) (its_paste at body rest split first r2 s2) = absurd (p at)
row_once u f text k b c d e (its_key p q r s) (apart at v h split some closed is far r2 s2) =
    absurd (not_alone u v split some (q at))
row_once u f text k b c d e (its_key p q r s) (joined at v h j split some closed is near r2 s2) =
    absurd (not_alone u v split some (q at))
row_once u f text k b c d e (its_paste at body rest split first r s) (its_key p q r2 s2) = absurd (p at)
row_once u f text k b c d e (its_paste at body rest split first r s) (its_paste at2 body2 rest2 split2 first2 r2 s2) =
    let same : body ≡ body2 = ends_once body body2 rest rest2
    (append_cancel_left START (body ++ END ++ rest) (body2 ++ END ++ rest2) (sym split ∙ split2)) first first2 in
    (r ∙ ap (λ x. START ++ x ++ END) same ∙ sym r2, s ∙ ap (λ x. Paste (utf8_lossy x)) same ∙ sym s2)
row_once u f text k b c d e (its_paste at body rest split first r s) (apart at2 v h split2 some closed is far r2 s2) =
    absurd (cc (at, at2))
row_once u f text k b c d e (its_paste at body rest split first r s)
    (joined at2 v h j split2 some closed is near r2 s2) = absurd (cc (at, at2))
row_once u f text k b c d e (apart at v h split some closed is far r s) (its_key p q r2 s2) =
    absurd (not_alone u v split some (q at))
row_once u f text k b c d e (apart at v h split some closed is far r s) (its_paste at2 body rest split2 first r2 s2) =
    absurd (cc (at, at2))
row_once u f text k b c d e (apart at v h split some closed is far r s)
    (apart at2 v2 h2 split2 some2 closed2 is2 far2 r2 s2) = (cc (r, r2), cc (s, s2))
row_once u f text k b c d e (apart at v h split some closed is far r s)
    (joined at2 v2 h2 j split2 some2 closed2 is2 near r2 s2) =
    absurd (not_apart h2 j near (subst IsApart (second_head u v v2 h h2 split split2 is is2) far))
row_once u f text k b c d e (joined at v h j split some closed is near r s) (its_key p q r2 s2) =
    absurd (not_alone u v split some (q at))
row_once u f text k b c d e (joined at v h j split some closed is near r s)
    (its_paste at2 body rest split2 first r2 s2) = absurd (cc (at, at2))
row_once u f text k b c d e (joined at v h j split some closed is near r s)
    (apart at2 v2 h2 split2 some2 closed2 is2 far r2 s2) =
    absurd (not_apart h j near (subst IsApart (second_head u v2 v h2 h split2 split is2 is) far))
row_once u f text k b c d e (joined at v h j split some closed is near r s)
    (joined at2 v2 h2 j2 split2 some2 closed2 is2 near2 r2 s2) =
    let same : h ≡ h2 = second_head u v v2 h h2 split split2 is is2 in
    let same_key : j ≡ j2 = key_once h2 j j2 (subst (λ x. IsKey x j) same near) near2 in
    (r ∙ ap (λ x. ESC ++ bytes_of x) same ∙ sym r2, s ∙ ap (λ x. Key (with_alt x)) same_key ∙ sym s2)

gives_once : (u : List ℕ) (f : Bool) (h : Head) (b c : List ℕ) (d e : InputEvent) → Gives u f h b d → Gives u f h c e
    → (b ≡ c) × (d ≡ e)
gives_once u f (Sequence text (Row k)) b c d e x y = row_once u f text k b c d e x y
gives_once u f (Sequence text (Report report)) b c d e x y = (x.0 ∙ sym y.0, x.1 ∙ sym y.1)
gives_once u f (Character o) b c d e x y = (x.0 ∙ sym y.0, x.1 ∙ sym y.1)
gives_once u f (Broken byte) b c d e x y = (x.0 ∙ sym y.0, x.1 ∙ sym y.1)

pub item_once : (u : List ℕ) (f : Bool) (b c : List ℕ) (d e : InputEvent) → Item u f b d → Item u f c e
    → (b ≡ c) × (d ≡ e)
item_once u f b c d e x y =
    let r = reads u b d f x in
    let s = reads u c e f y in
    gives_once u f s.0 b c d e (subst (λ h. Gives u f h b d) (head_once u r.0 s.0 r.1 s.1) r.2) s.2

-- `Means` as a pair, which a clause can take apart
abbrev pub Read : List ℕ → Bool → List InputEvent → List ℕ → Type 0
Read text more events waiting = Steps text more events waiting × IsRest waiting more

pub read_of : {T W : List ℕ} {f : Bool} {E : List InputEvent} → Means T f E W → Read T f E W
read_of m = (m.steps, m.rest)

-- what is left after an item's bytes
pub steps_once : (E D : List InputEvent) (T V W : List ℕ) (f : Bool) → Read T f E V → Read T f D W → (E ≡ D) × (V ≡ W)
steps_once [] [] T V W f (s, r) (t, q) = (refl, sym s ∙ t)
steps_once [] (d ∷ D) T V W f (s, r) ((bytes, rest, stands, splits, steps), q) =
    absurd (r bytes d (subst (λ x. Stands x f bytes d) s stands))
steps_once (e ∷ E) [] T V W f ((bytes, rest, stands, splits, steps), r) (t, q) =
    absurd (q bytes e (subst (λ x. Stands x f bytes e) t stands))
steps_once (e ∷ E) (d ∷ D) T V W f ((b, rest, stands, splits, steps), r) ((c, rest2, stands2, splits2, steps2), q) =
    let one = item_once T f b c e d stands.item stands2.item in
    let left : rest ≡ rest2 =
    append_cancel_left c rest rest2 (sym (ap (λ x. x ++ rest) one.0) ∙ sym splits ∙ splits2) in
    let more = steps_once E D rest2 V W f (subst (λ x. Steps x f E V) left steps, r) (steps2, q) in
    (ap₂ (λ x y. x ∷ y) one.1 more.0, more.1)
