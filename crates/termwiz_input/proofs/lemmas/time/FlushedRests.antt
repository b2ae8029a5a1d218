-- A flush of a rest that is no open paste leaves nothing.
use Rattle.std.proofs.Common.{◌≡◌, ◌≢◌, ◌⊎◌, inl, inr, ⊎_elim, ℕ, Bool, true, false, List, [], ◌∷◌, ◌++◌, refl, sym, ap, ◌∙◌, subst, append_assoc, arith}
use Rattle.std.specs.List.{AllByRecursion}
use Rattle.termwiz_keymap.specs.Bytes.{Begins}
use Rattle.termwiz_keymap.proofs.lemmas.lists.CommonPrefixes.{append-some, append-some_left, true_at_end, true_at_front}
use Rattle.termwiz_keys.specs.Introducers.{ESC, START}
use Rattle.termwiz_keys.specs.declared.types.InputEvent.{InputEvent}
use Rattle.termwiz_grammar.specs.Sequences.{IsSequence}
use Rattle.termwiz_grammar.specs.Grammar.{IsRest, IsUnfinishedSequence, Means, Steps}
use Rattle.termwiz_grammar.specs.Laws.{IsHeldEscape, Waits}
use Rattle.termwiz_grammar.specs.Laws.Waits.{nothing, open_paste, undecided}
use Rattle.termwiz_grammar.specs.WaitingKinds.{IsKind, IsOpenPaste}
use Rattle.termwiz_grammar.specs.declared.waiting.Waiting.{Waiting}
use Rattle.termwiz_grammar.specs.declared.waiting.Waiting.TheVariants.{Nothing, Escape, Sequence, Character, Paste}
use Rattle.termwiz_grammar.proofs.lemmas.waiting.RestKinds.{waiting_kinds}
use Rattle.termwiz_input.specs.Expiry.{Flushes, FlushStep}
use Rattle.termwiz_input.specs.Expiry.Flushes.{ends_paste, reads_all}
use Rattle.termwiz_input.specs.Expiry.FlushStep.{paste_ended, item_read}
use Rattle.termwiz_input.specs.ExpiryLaws.{FlushOneByOne, FlushedOneByOne}
use Rattle.termwiz_grammar.proofs.lemmas.characters.CharacterPrefixes.{IsHigh, unfinished_high}
use Rattle.termwiz_grammar.proofs.lemmas.mouse.OneReport.{IsPlain}
use Rattle.termwiz_grammar.proofs.lemmas.table.RowShape.{Bytes}
use Rattle.termwiz_grammar.proofs.lemmas.table.RowShape.Bytes.{one, more}
use Rattle.termwiz_grammar.proofs.lemmas.table.SequenceFacts.{sequence_bytes, start_ends}
use Rattle.termwiz_grammar.proofs.lemmas.waiting.RestShape.{empty_is_rest, flushed, waiting_shape}
use Rattle.termwiz_grammar.proofs.lemmas.cuts.ChunkInvariance.{steps_join}
use Rattle.termwiz_grammar.proofs.lemmas.items.ItemStable.{item_some}

-- what is left after steps ends the text
left_ends : (E : List InputEvent) (T W : List ℕ) (f : Bool) → Steps T f E W → (front : List ℕ) × (T ≡ front ++ W)
left_ends [] T W f h = ([], h)
left_ends (e ∷ E) T W f (bytes, rest, stands, splits, steps) =
    let p = left_ends E rest W f steps in
    (bytes ++ p.0, splits ∙ ap (λ x. bytes ++ x) p.1 ∙ sym (append_assoc bytes p.0 W))

-- START begins at no place in the text
abbrev HasNoStart : List ℕ → Type 0
HasNoStart T = (front W : List ℕ) → T ≡ front ++ W → Begins START W → ⊥

no_start_cons : (x : ℕ) (T : List ℕ) → (Begins START (x ∷ T) → ⊥) → HasNoStart T → HasNoStart (x ∷ T)
no_start_cons x T here after [] W e b = here (b.0, e ∙ b.1)
no_start_cons x T here after (y ∷ front) W e b = after front W (cc (e)) b

-- it begins nowhere among bytes of which none is ESC
no_start_among : (P : ℕ → Type 0) → (P 27 → ⊥) → (T : List ℕ) → AllByRecursion P T → HasNoStart T
no_start_among P no_escape T a front W e b =
    let rest : AllByRecursion P (START ++ b.0) =
    subst (AllByRecursion P) b.1 (true_at_end P front W (subst (AllByRecursion P) e a)) in
    no_escape rest.0

-- what properly begins a sequence is ESC and bytes that are printable
sequence_start : (u tail : List ℕ) → u ≢ [] → tail ≢ [] → Bytes (u ++ tail)
    → (t : List ℕ) × (u ≡ 27 ∷ t) × AllByRecursion IsPlain t
sequence_start [] tail some longer b = absurd (some refl)
sequence_start (x ∷ u) tail some longer (one b l e) = absurd (append-some u tail longer (cc (e)))
sequence_start (x ∷ u) tail some longer (more t n e p) =
    (u, cc (e), true_at_front IsPlain u tail (subst (AllByRecursion IsPlain) (cc (e)) p))

-- START begins nowhere in what properly begins a sequence, with an ESC before it or not
no_start_in_sequence : (held u : List ℕ) → IsHeldEscape held → u ≢ [] → IsUnfinishedSequence u → HasNoStart (held ++ u)
no_start_in_sequence held u is some h =
    let (t, starts, plain) = sequence_start u h.tail some h.longer (sequence_bytes (u ++ h.tail) h.meaning h.is_sequence) in
    let here : Begins START u → ⊥ = λ b.
    let all : u ++ h.tail ≡ START ++ (b.0 ++ h.tail) = ap (λ x. x ++ h.tail) b.1 ∙ append_assoc START b.0 h.tail in
    append-some b.0 h.tail h.longer (start_ends (b.0 ++ h.tail) h.meaning (subst (λ x. IsSequence x h.meaning) all h.is_sequence)) in
    let alone : HasNoStart (27 ∷ t) = no_start_cons 27 t (λ b. here (b.0, starts ∙ b.1))
    (no_start_among IsPlain (λ p. omega arith) t plain) in
    let after : HasNoStart u = subst HasNoStart (sym starts) alone in
    ⊎_elim
    (λ (none : held ≡ []). subst (λ x. HasNoStart (x ++ u)) (sym none) after)
    (λ (one : held ≡ ESC). subst (λ x. HasNoStart (x ++ u)) (sym one)
    (no_start_cons 27 u (λ b. cc (starts, b.1)) after))
    is

-- nor in what properly begins a character
no_start_in_character : (held u : List ℕ) → IsHeldEscape held → AllByRecursion IsHigh u → HasNoStart (held ++ u)
no_start_in_character held u is high =
    let alone : HasNoStart u = no_start_among IsHigh (λ h. omega arith) u high in
    ⊎_elim
    (λ (none : held ≡ []). subst (λ x. HasNoStart (x ++ u)) (sym none) alone)
    (λ (one : held ≡ ESC). subst (λ x. HasNoStart (x ++ u)) (sym one)
    (no_start_cons 27 u (λ b. let all = subst (AllByRecursion IsHigh) {x = u} {y = 91 ∷ 50 ∷ 48 ∷ 48 ∷ 126 ∷ b.0} (cc (b.1)) high in omega (arith, all.0)) alone))
    is

no_start_in_nothing : HasNoStart []
no_start_in_nothing [] W e b = cc (e, b.1)
no_start_in_nothing (x ∷ front) W e b = cc (e)

no_start_in_rest : (u : List ℕ) (f : Bool) → Waits u f → ¬ IsOpenPaste u → HasNoStart u
no_start_in_rest u f (nothing e) closed = subst HasNoStart (sym e) no_start_in_nothing
no_start_in_rest u f (open_paste body e never) closed = absurd (closed (record { body = body; splits = e; endless = never }))
no_start_in_rest u f (undecided held bytes is e n (inl unfinished) short m) closed =
    subst HasNoStart (sym e) (no_start_in_sequence held bytes is n unfinished)
no_start_in_rest u f (undecided held bytes is e n (inr unfinished) short m) closed =
    subst HasNoStart (sym e) (no_start_in_character held bytes is (unfinished_high bytes n unfinished))

pub flush_leaves_nothing : (text left : List ℕ) (events : List InputEvent) → IsRest text true → ¬ IsOpenPaste text
    → Means text false events left → left ≡ []
flush_leaves_nothing text left events rest closed means =
    let (front, ends) = left_ends events text left false means.steps in
    ⊎_elim
    (λ (e : left ≡ []). e)
    (λ (b : Begins START left). absurd (no_start_in_rest text true (waiting_shape text true rest) closed front left ends b))
    (flushed left means.rest)

-- without more to come nothing waits but an open paste
pub closed_is_nothing : (text : List ℕ) → IsRest text false → ¬ IsOpenPaste text → text ≡ []
closed_is_nothing text rest closed = by_shape (waiting_shape text false rest)
  where
    by_shape : Waits text false → text ≡ []
    by_shape (nothing e) = e
    by_shape (open_paste body e never) = absurd (closed (record { body = body; splits = e; endless = never }))
    by_shape (undecided held bytes is e n beginning short m) = cc (m)

-- what ends a text has no START if the text has none
no_start_after : (front u : List ℕ) → HasNoStart (front ++ u) → HasNoStart u
no_start_after front u none before W e b =
    none (front ++ before) W (ap (λ x. front ++ x) e ∙ sym (append_assoc front before W)) b

-- one event of a flush, where no paste begins
item_of_step : (text left : List ℕ) (event : InputEvent) → HasNoStart text → FlushStep text event left
    → Steps text false (event ∷ []) left
item_of_step text left event none (paste_ended given so_far) = absurd (none [] text refl (so_far.body, so_far.splits))
item_of_step text left event none (item_read given end closed steps) = steps

flushed_steps : (events : List InputEvent) (text : List ℕ) → HasNoStart text → FlushedOneByOne text events [] → Steps text false events []
flushed_steps [] text none same = same
flushed_steps (event ∷ events) text none (between, step, later) =
    let first = item_of_step text between event none step in
    let (front, ends) = left_ends (event ∷ []) text between false first in
    let after : HasNoStart between = no_start_after front between (subst HasNoStart ends none) in
    steps_join (event ∷ []) events text between [] false first (flushed_steps events between after later)

-- nothing more comes of no bytes
no_step_of_nothing : (left : List ℕ) (event : InputEvent) → FlushStep [] event left → ⊥
no_step_of_nothing left event step =
    let (bytes, rest, stands, splits, done) = item_of_step [] left event no_start_in_nothing step in
    append-some_left bytes rest (item_some [] bytes event false stands.item) (sym splits)

after_paste : (events : List InputEvent) (event : InputEvent) (text between : List ℕ) → IsOpenPaste text → FlushStep text event between
    → FlushedOneByOne between events [] → Flushes text (event ∷ events) []
after_paste [] event text between is_open (paste_ended given so_far) later = ends_paste given so_far
after_paste (next ∷ events) event text between is_open (paste_ended given so_far) later = absurd (no_step_of_nothing later.0 next later.1)
after_paste events event text between is_open (item_read given end closed steps) later = absurd (closed is_open)

-- a rest is an open paste, or it is none
paste_or_not : (text : List ℕ) → IsRest text true → IsOpenPaste text ⊎ (IsOpenPaste text → ⊥)
paste_or_not text rest = (let one_kind = waiting_kinds text true rest in by_kind one_kind.0 one_kind.1 (one_kind.2 Paste))
  where
    by_kind : (kind : Waiting) → IsKind text true kind → (IsOpenPaste text → Paste ≡ kind) → IsOpenPaste text ⊎ (IsOpenPaste text → ⊥)
    by_kind Nothing is same = inr (λ is_open. let e = same is_open in cc (e))
    by_kind Escape is same = inr (λ is_open. let e = same is_open in cc (e))
    by_kind Sequence is same = inr (λ is_open. let e = same is_open in cc (e))
    by_kind Character is same = inr (λ is_open. let e = same is_open in cc (e))
    by_kind Paste is same = inl is

paste_one_by_one : (text : List ℕ) (events : List InputEvent) → IsOpenPaste text → FlushedOneByOne text events [] → Flushes text events []
paste_one_by_one text [] is_open same = let splits = is_open.splits in absurd (cc (splits, same))
paste_one_by_one text (event ∷ events) is_open (between, step, later) = after_paste events event text between is_open step later

pub flush_one_by_one : FlushOneByOne
flush_one_by_one text events rest one_by_one = ⊎_elim
    (λ (is_open : IsOpenPaste text). paste_one_by_one text events is_open one_by_one)
    (λ closed. reads_all events [] closed (record {
      steps = flushed_steps events text (no_start_in_rest text true (waiting_shape text true rest) closed) one_by_one;
      rest = empty_is_rest false;
    }))
    (paste_or_not text rest)
