-- What the laws use of the sequences, and nothing else.
use Rattle.std.proofs.Common.{◌≡◌, ◌≢◌, ◌⊎◌, inl, inr, ⊎_elim, ℕ, ◌<◌, ◌≤◌, true, List, [], ◌∷◌, ◌++◌, length, refl, sym, ap, subst, arith, Contains, get_or, length-append}
use Rattle.std.specs.List.{AllByRecursion}
use Rattle.termwiz_keys.specs.declared.types.KeyEvent.{KeyEvent}
use Rattle.termwiz_keys.specs.declared.types.MouseEvent.{MouseEvent}
use Rattle.termwiz_keys.specs.declared.types.KeyCode.TheVariants.{InternalPasteStart}
use Rattle.termwiz_keys.specs.Introducers.{ESC, START}
use Rattle.termwiz_keys.specs.Keys.{escape, key_with, NONE}
use Rattle.termwiz_keys.specs.Introducers.{CSI, SS3}
use Rattle.termwiz_grammar.specs.Table.{rows}
use Rattle.termwiz_grammar.specs.MouseReports.{IsMouseReport}
use Rattle.termwiz_grammar.specs.Sequences.{Meaning, IsSequence}
use Rattle.termwiz_grammar.specs.Sequences.Meaning.{Row, Report}
use Rattle.termwiz_grammar.specs.Grammar.{IsUnfinishedSequence}
use Rattle.termwiz_keymap.proofs.lemmas.lists.CommonPrefixes.{length-some, true_at_end, true_from}
use Rattle.termwiz_grammar.proofs.lemmas.lists.Decidable.{Decision, decide_both, decide_by, decide_lists, decide_some}
use Rattle.termwiz_grammar.proofs.lemmas.table.ComputedTests.{has_shape}
use Rattle.termwiz_grammar.proofs.lemmas.mouse.OneReport.{IsPlain, report_once, report_alone, report_or_not, report_short, report_plain}
use Rattle.termwiz_grammar.proofs.lemmas.table.RowShape.{Bytes, row_shaped, row_once, row_or_not, escape_row, start_row, bytes_from_test, begins_another, no_report_shape}
use Rattle.termwiz_grammar.proofs.lemmas.table.RowShape.Bytes.{one, more}

-- a row is no mouse report
not_both : (text : List ℕ) (k : KeyEvent) (r : MouseEvent) → Contains rows (text, k) → IsMouseReport text r → ⊥
not_both text k r a b =
    let f = report_plain text r b in
    no_report_shape f.0 (subst (λ t. has_shape t ≡ true) f.1 (row_shaped text k a).shape)

-- a sequence has one meaning
pub sequence_once : (text : List ℕ) (m n : Meaning) → IsSequence text m → IsSequence text n → m ≡ n
unfolding IsSequence
sequence_once text (Row j) (Row k) a b = ap (λ x. Row x) (row_once text j k a b)
sequence_once text (Row j) (Report s) a b = absurd (not_both text j s a b)
sequence_once text (Report r) (Row k) a b = absurd (not_both text k r b a)
sequence_once text (Report r) (Report s) a b = ap (λ x. Report x) (report_once text r s a b)

-- a sequence is one byte, or ESC and plain bytes
pub sequence_bytes : (text : List ℕ) (m : Meaning) → IsSequence text m → Bytes text
unfolding IsSequence
sequence_bytes text (Row k) a = bytes_from_test text (row_shaped text k a).sequence
sequence_bytes text (Report r) a =
    let f = report_plain text r a in
    more (91 ∷ 60 ∷ f.0) (λ h. cc (h)) f.1 ((omega arith, omega arith), ((omega arith, omega arith), f.2))

pub sequence_short : (text : List ℕ) (m : Meaning) → IsSequence text m → length text < 22
unfolding IsSequence
sequence_short text (Row k) a = omega (arith, (row_shaped text k a).short)
sequence_short text (Report r) a = report_short text r a

-- a sequence isn't empty
pub sequence_some : (text : List ℕ) (m : Meaning) → IsSequence text m → text ≢ []
sequence_some text m a = go (sequence_bytes text m a)
  where
    go : Bytes text → text ≢ []
    go (one b l e) = λ h. cc (e, h)
    go (more t n e p) = λ h. cc (e, h)

pub escape_is_sequence : IsSequence ESC (Row escape)
unfolding IsSequence
escape_is_sequence = escape_row

abbrev pub start : KeyEvent
start = key_with InternalPasteStart NONE

pub start_is_sequence : IsSequence START (Row start)
unfolding IsSequence
start_is_sequence = start_row

start_shape : (tail : List ℕ) (k : KeyEvent) → Contains rows (START ++ tail, k) → tail ≢ [] → ⊥
start_shape tail k a n =
    let s = row_shaped (START ++ tail) k a in
    ⊎_elim (λ (e : START ≡ ESC). cc (e))
    (λ (e : (START ≡ CSI) ⊎ (START ≡ SS3)). ⊎_elim (λ (d : START ≡ CSI). cc (d)) (λ (d : START ≡ SS3). cc (d)) e)
    (begins_another START tail refl s.shape s.sequence n)

-- no longer sequence begins with START
pub start_ends : (tail : List ℕ) (m : Meaning) → IsSequence (START ++ tail) m → tail ≡ []
unfolding IsSequence
start_ends [] m a = refl
start_ends (x ∷ tail) (Row k) a = absurd (start_shape (x ∷ tail) k a (λ h. cc (h)))
start_ends (x ∷ tail) (Report r) a =
    absurd (let e : 50 ≡ 60 = ap (λ t. get_or t 2 0) (report_plain (START ++ x ∷ tail) r a).1 in omega arith)

-- what properly begins a sequence has at most 20 bytes
pub beginnings_short : (u tail : List ℕ) (m : Meaning) → tail ≢ [] → IsSequence (u ++ tail) m → length u ≤ 20
beginnings_short u tail m n a = omega (arith, length-append u tail, length-some tail n, sequence_short (u ++ tail) m a)

-- it can be told whether a text is a sequence
pub sequence_or_not : (text : List ℕ) → Decision ((m : Meaning) × IsSequence text m)
unfolding IsSequence
sequence_or_not text = ⊎_elim
    (λ (a : (k : KeyEvent) × Contains rows (text, k)). inl (Row a.0, a.1))
    (λ (none : (k : KeyEvent) → Contains rows (text, k) → ⊥). ⊎_elim
    (λ (a : (r : MouseEvent) × IsMouseReport text r). inl (Report a.0, a.1))
    (λ (never : (r : MouseEvent) → IsMouseReport text r → ⊥). inr (λ a. nothing none never a.0 a.1))
    (report_or_not text))
    (row_or_not rows text)
  where
    nothing : ((k : KeyEvent) → Contains rows (text, k) → ⊥) → ((r : MouseEvent) → IsMouseReport text r → ⊥)
        → (m : Meaning) → IsSequence text m → ⊥
    nothing none never (Row k) a = none k a
    nothing none never (Report r) a = never r a

-- the bytes of a sequence are below 128
bytes_small : (text : List ℕ) → Bytes text → AllByRecursion (λ b. b < 128) text
bytes_small text (one b l e) =
    subst (AllByRecursion (λ c. c < 128)) (sym e) ((let h : b < 128 = omega (arith, l) in h), tt)
bytes_small text (more t n e p) = subst (AllByRecursion (λ c. c < 128)) (sym e)
    (omega arith, true_from IsPlain (λ c. c < 128) (λ c (h : IsPlain c). omega arith) t p)

-- it can be told whether a text properly begins a sequence: few texts can complete it
pub unfinished_or_not : (u : List ℕ) → IsUnfinishedSequence u ⊎ (IsUnfinishedSequence u → ⊥)
unfinished_or_not u = decide_by
    (λ (a : (t : List ℕ) × (length t ≤ 21) × AllByRecursion (λ b. b < 128) t × ((t ≢ []) × ((m : Meaning) × IsSequence (u ++ t) m))).
    record { tail = a.0; longer = a.3.0; meaning = a.3.1.0; is_sequence = a.3.1.1 })
    (λ (a : IsUnfinishedSequence u). (
      a.tail,
      omega (arith, length-append u a.tail, sequence_short (u ++ a.tail) a.meaning a.is_sequence),
      true_at_end (λ b. b < 128) u a.tail
          (bytes_small (u ++ a.tail) (sequence_bytes (u ++ a.tail) a.meaning a.is_sequence)),
      (a.longer, (a.meaning, a.is_sequence)),
    ))
    (decide_lists 128 21 (λ t. (t ≢ []) × ((m : Meaning) × IsSequence (u ++ t) m))
    (λ t. decide_both (decide_some t) (sequence_or_not (u ++ t))))

-- no sequence goes on after a mouse report
pub report_ends : (text tail : List ℕ) (r : MouseEvent) (m : Meaning) → IsSequence text (Report r)
    → IsSequence (text ++ tail) m → tail ≡ []
unfolding IsSequence
report_ends text tail r (Report s) f k = report_alone text tail r s f k
report_ends text tail r (Row key) f k =
    let p = report_plain text r f in
    absurd (no_report_shape (p.0 ++ tail)
    (subst (λ t. has_shape t ≡ true) (ap (λ t. t ++ tail) p.1) (row_shaped (text ++ tail) key k).shape))
