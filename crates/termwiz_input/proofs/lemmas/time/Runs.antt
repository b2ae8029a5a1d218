-- Runs of a program that lets what is buffered expire are reads in turn, as long as no paste is due.
use Rattle.std.proofs.Common.{◌≡◌, ◌⊎◌, inl, inr, ℕ, Bool, true, false, None, List, [], ◌∷◌, ◌++◌, All, refl, sym, ap, ◌∙◌, subst, append_assoc, append-nil, length}
use Rattle.std.proofs.lemmas.List.Elements.{All-head, All-tail}
use Rattle.termwiz_keys.specs.declared.types.InputEvent.{InputEvent}
use Rattle.termwiz_grammar.specs.declared.waiting.Waiting.{Waiting}
use Rattle.termwiz_grammar.specs.declared.waiting.Waiting.TheVariants.{Nothing, Paste}
use Rattle.termwiz_grammar.specs.Grammar.{IsRest, Means}
use Rattle.termwiz_grammar.specs.Streams.{OneRead, ReadInTurn, bytes_of_reads}
use Rattle.termwiz_grammar.specs.WaitingKinds.{IsKind, IsOpenPaste}
use Rattle.termwiz_input.specs.declared.time.Limit.{Limit}
use Rattle.termwiz_input.specs.declared.time.Policy.{Policy}
use Rattle.termwiz_input.specs.declared.time.Seen.{Seen}
use Rattle.termwiz_input.specs.declared.time.Timer.{Timer}
use Rattle.termwiz_input.specs.Expiry.{Expires, Flushes, IsSeen}
use Rattle.termwiz_input.specs.Expiry.Expires.{stays, flushed}
use Rattle.termwiz_input.specs.Expiry.Flushes.{ends_paste, reads_all}
use Rattle.termwiz_input.specs.ExpiryLaws.{FlushEnds, NoPauses, TakesTurn, TakesTurns, Turn, bytes_of_turn, bytes_of_turns}
use Rattle.termwiz_input.specs.ExpiryLaws.TakesTurn.{by_question, by_read, by_expiry}
use Rattle.termwiz_input.specs.ExpiryLaws.Turn.{Expire}
use Rattle.termwiz_input.specs.Time.{IsDue, limit_of_kind, noted}
use Rattle.termwiz_grammar.proofs.lemmas.cuts.ChunkInvariance.{cut_independent}
use Rattle.termwiz_grammar.proofs.lemmas.waiting.RestKinds.{waiting_kinds}
use Rattle.termwiz_grammar.proofs.lemmas.waiting.RestShape.{empty_is_rest}
use Rattle.termwiz_input.proofs.lemmas.time.FlushedRests.{flush_leaves_nothing}

-- the limit of a rest is that of its kind
limit_is : (policy : Policy) (text : List ℕ) (fed taken : Bool) (seen : Seen) (kind : Waiting) → IsSeen policy text fed taken seen
    → IsRest text true → IsKind text true kind → seen.limit ≡ limit_of_kind policy kind (length text)
limit_is policy text fed taken seen kind is rest of_kind =
    let one = waiting_kinds text true rest in
    let told = one.2 is.limit.kind (is.limit.is_kind true rest) in
    let same : is.limit.kind ≡ kind = told ∙ sym (one.2 kind of_kind) in
    is.limit.is_limit ∙ ap (λ k. limit_of_kind policy k (length text)) same

-- what has no limit isn't due
not_due : (timer : Timer) (now : ℕ) → timer.limit.millis ≡ None → ¬ IsDue timer now
not_due timer now none due = let limited = due.limited in cc

-- nor is an open paste, if pastes wait forever
paste_not_due : (policy : Policy) (text : List ℕ) (timer : Timer) (now : ℕ) (seen : Seen) → policy.paste ≡ None → IsRest text true
    → IsOpenPaste text → IsSeen policy text false false seen → ¬ IsDue (noted timer now seen) now
paste_not_due policy text timer now seen forever rest is_open is =
    let limit = limit_is policy text false false seen Paste is rest is_open in
    not_due (noted timer now seen) now (ap (λ (l : Limit). l.millis) limit ∙ forever)

-- a flush of a rest leaves nothing
nothing_left : (text left : List ℕ) (events : List InputEvent) → IsRest text true → Flushes text events left → left ≡ []
nothing_left text left events rest (ends_paste event is) = refl
nothing_left text left events rest (reads_all given last closed means) = flush_leaves_nothing text left events rest closed means

-- and then nothing is due
nothing_due : (policy : Policy) (left : List ℕ) (timer : Timer) (now time : ℕ) (seen : Seen) → left ≡ []
    → IsSeen policy left false true seen → ¬ IsDue (noted timer now seen) time
nothing_due policy left timer now time seen none is =
    let rest : IsRest left true = subst (λ u. IsRest u true) (sym none) (empty_is_rest true) in
    let limit = limit_is policy left false true seen Nothing is rest none in
    not_due (noted timer now seen) time (ap (λ (l : Limit). l.millis) limit)

flushed_ends : (policy : Policy) (text : List ℕ) (timer : Timer) (now : ℕ) (more : Bool) (events : List InputEvent) (left : List ℕ)
    (after : Timer) → more ≡ false → IsRest text true → Expires policy text timer now more events left after
    → (left ≡ []) × ((time : ℕ) → ¬ IsDue after time)
flushed_ends policy text timer now more events left after last rest (stays seen is waits) = absurd (cc (last))
flushed_ends policy text timer now more events left after last rest (flushed seen then_seen given end is due flush is_then) =
    let none = nothing_left text end given rest flush in
    (none, λ time. nothing_due policy end (noted timer now seen) now time then_seen none is_then)

pub flush_ends : FlushEnds
flush_ends policy text timer now events left after rest expired = flushed_ends policy text timer now false events left after refl rest expired

-- No paste is due in a read: pastes wait forever, or more may come.
abbrev NoPasteDue : Policy → OneRead → Type 0
NoPasteDue policy read = (policy.paste ≡ None) ⊎ (read.1 ≡ true)

-- nor in any read
abbrev NoPastesDue : Policy → List OneRead → Type 0
NoPastesDue policy reads = (policy.paste ≡ None) ⊎ All (λ read. read.1 ≡ true) reads

first_not_due : (policy : Policy) (read : OneRead) (others : List OneRead) → NoPastesDue policy (read ∷ others) → NoPasteDue policy read
first_not_due policy read others (inl forever) = inl forever
first_not_due policy read others (inr open_reads) = inr (All-head (λ (r : OneRead). r.1 ≡ true) read others open_reads)

others_not_due : (policy : Policy) (read : OneRead) (others : List OneRead) → NoPastesDue policy (read ∷ others) → NoPastesDue policy others
others_not_due policy read others (inl forever) = inl forever
others_not_due policy read others (inr open_reads) = inr (All-tail (λ (r : OneRead). r.1 ≡ true) read others open_reads)

-- A turn that is a read: it has that read's bytes, and leaves a rest. It has that read's events, if no paste is due.
record IsRead (policy : Policy) (text : List ℕ) (turn : Turn) (read : OneRead) (events : List InputEvent) (left : List ℕ) : Type 0 where
  means : NoPasteDue policy read → Means (text ++ read.0) read.1 events left
  rests : IsRest left true
  bytes : read.0 ≡ bytes_of_turn turn

flush_means : (policy : Policy) (text : List ℕ) (timer : Timer) (now : ℕ) (seen : Seen) (events : List InputEvent) (left : List ℕ)
    → policy.paste ≡ None → IsRest text true → IsSeen policy text false false seen → IsDue (noted timer now seen) now
    → Flushes text events left → Means text false events left
flush_means policy text timer now seen events left forever rest is due (ends_paste event so_far) =
    let is_open : IsOpenPaste text = record { body = so_far.body; splits = so_far.splits; endless = so_far.endless } in
    absurd (paste_not_due policy text timer now seen forever rest is_open is due)
flush_means policy text timer now seen events left forever rest is due (reads_all given last closed means) = means

due_means : (policy : Policy) (text : List ℕ) (timer : Timer) (now : ℕ) (seen : Seen) (events : List InputEvent) (left : List ℕ)
    → IsRest text true → IsSeen policy text false false seen → IsDue (noted timer now seen) now → Flushes text events left
    → NoPasteDue policy ([], false) → Means (text ++ []) false events left
due_means policy text timer now seen events left rest is due flush (inl forever) =
    subst (λ u. Means u false events left) (sym (append-nil text))
    (flush_means policy text timer now seen events left forever rest is due flush)
due_means policy text timer now seen events left rest is due flush (inr more) = absurd (cc (more))

no_events : (policy : Policy) (text : List ℕ) (turn : Turn) → [] ≡ bytes_of_turn turn → IsRest text true
    → IsRead policy text turn ([], true) [] text
no_events policy text turn none rest =
    record { means = λ none_due. record { steps = append-nil text; rest = rest }; rests = rest; bytes = none }

expiry_is_read : (policy : Policy) (text : List ℕ) (timer : Timer) (now : ℕ) (more : Bool) (events : List InputEvent) (left : List ℕ)
    (after : Timer) → IsRest text true → Expires policy text timer now more events left after
    → IsRead policy text (Expire now) ([], more) events left
expiry_is_read policy text timer now more events left after rest (stays seen is waits) = no_events policy text (Expire now) refl rest
expiry_is_read policy text timer now more events left after rest (flushed seen then_seen given end is due flush is_then) = record {
  means = due_means policy text timer now seen given end rest is due flush;
  rests = subst (λ u. IsRest u true) (sym (nothing_left text end given rest flush)) (empty_is_rest true);
  bytes = refl;
}

turn_is_read : (policy : Policy) (text : List ℕ) (timer : Timer) (turn : Turn) (read : OneRead) (events : List InputEvent) (left : List ℕ)
    (after : Timer) → IsRest text true → TakesTurn policy text timer turn read events left after
    → IsRead policy text turn read events left
turn_is_read policy text timer turn read events left after rest (by_question now seen is) = no_events policy text turn refl rest
turn_is_read policy text timer turn read events left after rest (by_read now bytes given end taken seen means is) =
    record { means = λ none_due. means; rests = means.rest; bytes = refl }
turn_is_read policy text timer turn read events left after rest (by_expiry now more given end last expired) =
    expiry_is_read policy text timer now more given end last rest expired

turns_are_reads : (turns : List Turn) (policy : Policy) (text : List ℕ) (timer : Timer) (reads : List OneRead) (events : List InputEvent)
    (left : List ℕ) → IsRest text true → TakesTurns policy text timer turns reads events left
    → (NoPastesDue policy reads → ReadInTurn Means text reads events left) × (bytes_of_reads reads ≡ bytes_of_turns turns)
turns_are_reads [] policy text timer reads events left rest (no_reads, none, same) = (
  λ none_due. subst (λ all. ReadInTurn Means text all events left) (sym no_reads) (none, same),
  ap bytes_of_reads no_reads,
)
turns_are_reads (turn ∷ turns) policy text timer reads events left rest
    (read, others, first, later, between, after, reads_are, events_are, takes, run) =
    let this = turn_is_read policy text timer turn read first between after rest takes in
    let next = turns_are_reads turns policy between after others later left this.rests run in
    let in_turn : NoPastesDue policy (read ∷ others) → ReadInTurn Means text (read ∷ others) events left =
    λ none_due. (
      first,
      later,
      between,
      events_are,
      this.means (first_not_due policy read others none_due),
      next.0 (others_not_due policy read others none_due),
    ) in (
      subst (λ all. NoPastesDue policy all → ReadInTurn Means text all events left) (sym reads_are) in_turn,
      ap bytes_of_reads reads_are ∙ ap (λ (bytes : List ℕ). bytes ++ bytes_of_reads others) this.bytes
          ∙ ap (λ (bytes : List ℕ). bytes_of_turn turn ++ bytes) next.1,
    )

-- reads that all have more to come are one text
reads_are_one : (reads : List OneRead) (text left : List ℕ) (events : List InputEvent) → IsRest text true
    → ReadInTurn Means text reads events left → All (λ read. read.1 ≡ true) reads
    → Means (text ++ bytes_of_reads reads) true events left
reads_are_one [] text left events rest (none, same) open_reads =
    subst (λ given. Means (text ++ []) true given left) (sym none)
    (record { steps = append-nil text ∙ same; rest = subst (λ u. IsRest u true) same rest })
reads_are_one (read ∷ reads) text left events rest (first, later, between, events_are, means, next) open_reads =
    let more : read.1 ≡ true = All-head (λ (r : OneRead). r.1 ≡ true) read reads open_reads in
    let this : Means (text ++ read.0) true first between = subst (λ flag. Means (text ++ read.0) flag first between) more means in
    let others = reads_are_one reads between left later this.rest next (All-tail (λ (r : OneRead). r.1 ≡ true) read reads open_reads) in
    let whole = cut_independent (text ++ read.0) (bytes_of_reads reads) between left first later true this others in
    subst (λ u. Means u true events left) (append_assoc text read.0 (bytes_of_reads reads))
    (subst (λ given. Means ((text ++ read.0) ++ bytes_of_reads reads) true given left) (sym events_are) whole)

pub no_pauses : NoPauses
no_pauses policy text timer turns reads events left rest run =
    let (in_turn, bytes) = turns_are_reads turns policy text timer reads events left rest run in
    record {
      in_turn = λ forever. in_turn (inl forever);
      all_bytes = bytes;
      no_pauses = λ open_reads. subst (λ all. Means (text ++ all) true events left) bytes
          (reads_are_one reads text left events rest (in_turn (inr open_reads)) open_reads);
    }
