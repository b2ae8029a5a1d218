-- What stays buffered is short, or an open paste.
use Rattle.std.proofs.Common.{◌≡◌, ◌≢◌, ◌⊎◌, inl, inr, ⊎_elim, ℕ, ◌<◌, ◌≤◌, true, false, List, [], ◌∷◌, ◌++◌, length, refl, sym, ap, subst, arith}
use Rattle.termwiz_keys.specs.declared.types.InputEvent.{InputEvent}
use Rattle.termwiz_keys.specs.Introducers.{ESC}
use Rattle.termwiz_grammar.specs.Grammar.{Means}
use Rattle.termwiz_grammar.specs.Laws.{Waits, longest_beginning}
use Rattle.termwiz_grammar.specs.Laws.Waits.{nothing, open_paste, undecided}
use Rattle.termwiz_grammar.specs.Streams.{OneRead, ReadInTurn}
use Rattle.termwiz_grammar.specs.WaitingKinds.{IsOpenPaste, IsShortOrOpenPaste}
use Rattle.termwiz_grammar.proofs.lemmas.items.OneItem.{Read, read_of}
use Rattle.termwiz_grammar.proofs.lemmas.waiting.LongestBeginning.{most_wait}
use Rattle.termwiz_grammar.proofs.lemmas.waiting.RestShape.{rest_short, waiting_shape}
use Rattle.termwiz_laws.specs.WaitingBounds.{RestsAreBounded, MoreGiveAnEvent, FlushesAreBounded, StreamsAreBounded, BoundIsReached}

pub rests_are_bounded : RestsAreBounded
rests_are_bounded T W E m = rest_short W true m.rest

-- where no event comes, all waits
all_waits : (E : List InputEvent) (T W : List ℕ) → Read T true E W → 21 < length T → (E ≢ []) ⊎ IsOpenPaste T
all_waits [] T W (same, rest) long = ⊎_elim
    (λ (short : length W ≤ 21). absurd (omega (arith, ap length same)))
    (λ (pasting : IsOpenPaste W). inr (subst IsOpenPaste (sym same) pasting))
    (rest_short W true rest)
all_waits (e ∷ E) T W m long = inl (λ none. cc (none))

pub more_give_an_event : MoreGiveAnEvent
more_give_an_event T W E m long = all_waits E T W (read_of m) long

flush_bounded : (W : List ℕ) → Waits W false → (W ≡ []) ⊎ IsOpenPaste W
flush_bounded W (nothing e) = inl e
flush_bounded W (open_paste body e never) = inr (record { body = body; splits = e; endless = never })
flush_bounded W (undecided held bytes is e n u short m) = absurd (cc (m))

pub flushes_are_bounded : FlushesAreBounded
flushes_are_bounded T W E m = flush_bounded W (waiting_shape W false m.rest)

bounded_after : (reads : List OneRead) (before W : List ℕ) (E : List InputEvent) → IsShortOrOpenPaste before
    → ReadInTurn Means before reads E W → IsShortOrOpenPaste W
bounded_after [] before W E short (none, same) = subst IsShortOrOpenPaste same short
bounded_after (read ∷ reads) before W E short (first, later, between, is, means, rest) =
    bounded_after reads between W later (rest_short between read.1 means.rest) rest

pub streams_are_bounded : StreamsAreBounded
streams_are_bounded reads W E h = bounded_after reads [] W E (inl (omega arith)) h

pub bound_is_reached : BoundIsReached
bound_is_reached = (ESC ++ longest_beginning, refl, record { steps = refl; rest = most_wait.after_escape })
