-- Which texts of listed keys mean their keys with more to come.
use Rattle.std.proofs.Common.{◌≡◌, ◌≢◌, ◌⊎◌, inl, inr, ⊎_elim, ℕ, ◌≤◌, Bool, true, false, List, [], ◌∷◌, ◌++◌, map, refl, sym, subst, arith, append-nil}
use Rattle.std.specs.List.{AllByRecursion}
use Rattle.termwiz_keymap.proofs.lemmas.lists.CommonPrefixes.{append-some}
use Rattle.termwiz_keys.specs.declared.types.InputEvent.{InputEvent}
use Rattle.termwiz_grammar.specs.Grammar.{IsBeginning, IsOpen, Stands, Steps, IsRest, Means}
use Rattle.termwiz_grammar.specs.Laws.{IsHeldEscape, Waits}
use Rattle.termwiz_grammar.specs.Laws.Waits.{nothing, open_paste, undecided}
use Rattle.termwiz_grammar.specs.Pauses.{joined}
use Rattle.termwiz_grammar.proofs.lemmas.table.RowShape.{Bytes}
use Rattle.termwiz_grammar.proofs.lemmas.table.RowShape.Bytes.{one, more}
use Rattle.termwiz_grammar.proofs.lemmas.table.SequenceFacts.{sequence_bytes, start}
use Rattle.termwiz_grammar.proofs.lemmas.characters.CharacterPrefixes.{unfinished_high}
use Rattle.termwiz_grammar.proofs.lemmas.items.ItemStable.{stands_stays}
use Rattle.termwiz_grammar.proofs.lemmas.items.OneItem.{start_head, item_once}
use Rattle.termwiz_grammar.proofs.lemmas.waiting.RestShape.{Settled, settle, empty_is_rest, endless_rests, held_escape_rests}
use Rattle.termwiz_grammar.proofs.lemmas.waiting.RestShape.Settled.{standing, resting}
use Rattle.termwiz_grammar.proofs.lemmas.cuts.ChunkInvariance.{cut_independent}
use Rattle.termwiz_grammar.proofs.lemmas.read_back.WholeTexts.{escape_alone}
use Rattle.termwiz_laws.specs.KeyStreams.{DoesReadBack, Press, Sends, SendInTurn, event_of, MayGoOn, WaitsWhole, IsReadAtOnce}

-- what begins a sequence or a character begins with ESC or with a high byte
pub first_byte : (x : ℕ) (p : List ℕ) → IsBeginning (x ∷ p) → (x ≡ 27) ⊎ (128 ≤ x)
first_byte x p (inl u) = inl (go (sequence_bytes (x ∷ p ++ u.tail) u.meaning u.is_sequence))
  where
    go : Bytes (x ∷ p ++ u.tail) → x ≡ 27
    go (one b l e) = absurd (append-some p u.tail u.longer (cc (e)))
    go (more t n e a) = cc (e)
first_byte x p (inr u) = inr (unfinished_high (x ∷ p) (λ h. cc (h)) u).0.0

-- so an ESC before it is the head
pub escape_before : (x : ℕ) (p : List ℕ) → IsBeginning (x ∷ p) → (x ≤ 64) ⊎ (92 ≤ x)
escape_before x p b = ⊎_elim (λ (e : x ≡ 27). inl (omega arith)) (λ (h : 128 ≤ x). inr (omega arith)) (first_byte x p b)

open_beginning : (u : List ℕ) → u ≢ [] → IsBeginning u → IsOpen u true
open_beginning u some b = record { more_comes = refl; some = some; beginning = b }

-- a beginning waits, also after one ESC
beginning_rests : (held bytes : List ℕ) → IsHeldEscape held → bytes ≢ [] → IsBeginning bytes → IsRest (held ++ bytes) true
beginning_rests held [] is some b = absurd (some refl)
beginning_rests held (x ∷ p) (inl none) some b =
    subst (λ h. IsRest (h ++ x ∷ p) true) (sym none) (λ bytes event stands. stands.closed (open_beginning (x ∷ p) some b))
beginning_rests held (x ∷ p) (inr escape_held) some b =
    subst (λ h. IsRest (h ++ x ∷ p) true) (sym escape_held)
    (held_escape_rests (27 ∷ x ∷ p) (x ∷ p) true (escape_alone x p (escape_before x p b)) refl some
    (open_beginning (x ∷ p) some b))

pub going_on_waits : (text : List ℕ) → MayGoOn text → WaitsWhole text
going_on_waits text on = record {
  steps = refl;
  rest = subst (λ t. IsRest t true) (sym on.splits) (beginning_rests on.held on.bytes on.is_held on.some on.beginning);
}

-- a text that is flushed as one event, and that can't go on, means this event at once
pub means_at_once : (text : List ℕ) (event : InputEvent) → Means text false (event ∷ []) [] → ¬ MayGoOn text
    → Means text true (event ∷ []) []
means_at_once text event means closed = from_steps means.steps
  where
    from_steps : Steps text false (event ∷ []) [] → Means text true (event ∷ []) []
    from_steps (bytes, rest, stands, splits, none) = go (settle text true)
      where
        waiting : Waits text true → ⊥
        waiting (nothing e) = empty_is_rest false bytes event (subst (λ t. Stands t false bytes event) e stands)
        waiting (open_paste body e never) =
            endless_rests text false start (start_head text (body, e)) body e never bytes event stands
        waiting (undecided held front is e n b short m) =
            closed (record { held = held; bytes = front; is_held = is; some = n; splits = e; beginning = b })

        go : Settled text true → Means text true (event ∷ []) []
        go (resting r waits) = absurd (waiting waits)
        go (standing b e s) =
            let later : Stands text false b e =
            subst (λ t. Stands t false b e) (append-nil text) (stands_stays text [] b e false s) in
            let same = item_once text false b bytes e event later.item stands.item in
            record {
              steps = (
                bytes,
                rest,
                subst (λ z. Stands text true z event) same.0 (subst (λ z. Stands text true b z) same.1 s),
                splits,
                none,
              );
              rest = empty_is_rest true;
            }

-- joined texts, by the first of them
pub joined_at_once : (presses : List Press) (texts : List (List ℕ))
    → ((press : Press) (text : List ℕ) → IsReadAtOnce DoesReadBack press → Sends press text
    → Means text true (event_of press ∷ []) [])
    → AllByRecursion (IsReadAtOnce DoesReadBack) presses → SendInTurn presses texts
    → (f : Bool) → Means (joined texts) f (map event_of presses) []
joined_at_once [] texts each are send f =
    subst (λ t. Means (joined t) f [] []) (sym send) (record { steps = refl; rest = empty_is_rest f })
joined_at_once (press ∷ presses) [] each are send f = absurd send
joined_at_once (press ∷ presses) (text ∷ texts) each are send f =
    cut_independent text (joined texts) [] [] (event_of press ∷ []) (map event_of presses) f
    (each press text are.0 send.0) (joined_at_once presses texts each are.1 send.1 f)
