-- Rows that are the whole text are read as their keys.
use Rattle.std.proofs.Common.{◌≡◌, ◌≢◌, ℕ, false, List, [], ◌∷◌, ◌++◌, refl, sym, subst, arith, append-nil, Contains}
use Rattle.std.specs.List.{AllByRecursion}
use Rattle.termwiz_keys.specs.Introducers.{ESC, START}
use Rattle.termwiz_keys.specs.declared.types.KeyEvent.{KeyEvent}
use Rattle.termwiz_keys.specs.declared.types.InputEvent.TheVariants.{Key}
use Rattle.termwiz_grammar.specs.Grammar as port
use Rattle.termwiz_grammar.specs.Grammar.Item.{key}
use Rattle.termwiz_grammar.specs.Sequences.{IsSequence}
use Rattle.termwiz_grammar.specs.Sequences.Meaning.{Row}
use Rattle.termwiz_grammar.specs.Table.{rows}
use Rattle.termwiz_grammar.proofs.lemmas.items.OneHead.{longest_whole}
use Rattle.termwiz_grammar.proofs.lemmas.mouse.OneReport.{IsPlain}
use Rattle.termwiz_grammar.proofs.lemmas.table.RowShape.{Bytes}
use Rattle.termwiz_grammar.proofs.lemmas.table.RowShape.Bytes.{one, more}
use Rattle.termwiz_grammar.proofs.lemmas.table.SequenceFacts.{sequence_bytes}
use Rattle.termwiz_extended_events.specs.declared.types.KeyReport.{KeyReport}
use Rattle.termwiz_extended_events.specs.declared.types.Reading.{Reading}
use Rattle.termwiz_extended_events.specs.PortEvents.{pressed_key, typed_key, with_key}
use Rattle.termwiz_extended_grammar.specs.ExtendedGrammar.{StartsExtended, IsUsual}
use Rattle.termwiz_extended_grammar.specs.ExtendedGrammar.Stands.{usual}
use Rattle.termwiz_extended_grammar.proofs.lemmas.items.ExtendedItems.{starts_shape}
use Rattle.termwiz_extended_grammar.proofs.lemmas.items.ExtendedRests.{empty_is_rest}
use Rattle.termwiz_senders.specs.KeyTexts.{IsReadAsKey}

-- a key of the port as it is told of its bytes
abbrev pub told_key : Reading → List ℕ → KeyEvent → KeyReport
told_key reading bytes k = pressed_key (with_key k (typed_key reading.dialect reading bytes k.key))

pub never_open : {u : List ℕ} → port.IsOpen u false → ⊥
never_open h = cc (h.more_comes)

-- a text that no extra sequence and no opening begins
pub usual_from : (reading : Reading) (u : List ℕ) → ¬ StartsExtended reading u → IsUsual reading u false
usual_from reading u none = record { none = none; closed = λ h. cc (h.more_comes) }

-- with another first byte than ESC none begins it
usual_other : (reading : Reading) (b : ℕ) (u : List ℕ) → b ≢ 27 → IsUsual reading (b ∷ u) false
usual_other reading b u other =
    usual_from reading (b ∷ u) (λ h. let s = starts_shape reading (b ∷ u) h in other (cc (s.2)))

pub empty_usual : (reading : Reading) → IsUsual reading [] false
empty_usual reading = usual_from reading [] (λ h. let s = starts_shape reading [] h in cc (s.2))

-- an item of the port that is the whole text
pub whole_read : (reading : Reading) (text : List ℕ) (k : KeyEvent) → port.Item text false text (Key k) → IsUsual reading text false
    → ((v : List ℕ) → text ≡ ESC ++ v → IsUsual reading v false) → IsReadAsKey reading (told_key reading text k) text
whole_read reading text k item here after = record {
  steps = (
    [],
    usual text [] (Key k) (record { closed = never_open; item = item }) (sym (append-nil text)) here after,
    refl,
  );
  rest = empty_is_rest reading false;
}

pub row_of : (text : List ℕ) (k : KeyEvent) → IsSequence text (Row k) → Contains rows (text, k)
unfolding IsSequence
row_of text k is = is

-- what follows the ESC of a row begins with no ESC
pub behind_row : (reading : Reading) (text v : List ℕ) (k : KeyEvent) → IsSequence text (Row k) → text ≡ ESC ++ v → IsUsual reading v false
behind_row reading text [] k is e = empty_usual reading
behind_row reading text (b ∷ v) k is e = usual_other reading b v (λ same. go same (sequence_bytes text (Row k) is))
  where
    go : b ≡ 27 → Bytes text → ⊥
    go same (one c l f) = cc (e, f)
    go same (more t some f all) = let second : t ≡ b ∷ v = cc (e, f) in
        let first = (subst (λ s. AllByRecursion IsPlain s) second all).0 in
        omega (arith, same, first)

pub row_read : (reading : Reading) (text : List ℕ) (k : KeyEvent) → IsSequence text (Row k) → text ≢ START → IsUsual reading text false
    → IsReadAsKey reading (told_key reading text k) text
row_read reading text k is other here =
    whole_read reading text k (key text k (longest_whole text (Row k) is) other (λ e. e)) here (λ v e. behind_row reading text v k is e)
