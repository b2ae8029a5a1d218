-- Characters from SPACE to ~: each is an item, whatever follows it.
use Rattle.std.proofs.Common.{◌≡◌, ⊎_elim, ℕ, zero, suc, ◌<◌, ◌≤◌, Bool, List, [], ◌∷◌, ◌++◌, length, take, drop, refl, sym, ap, subst, arith, take-append-drop, length-take-le, encode_utf8, slice_index_or}
use Rattle.std.proofs.lemmas.Str.{encode_ascii}
use Rattle.std.specs.List.{AllByRecursion}
use Rattle.termwiz_keys.specs.declared.types.InputEvent.TheVariants.{Key}
use Rattle.termwiz_keys.specs.Keys.{plain}
use Rattle.termwiz_grammar.specs.Grammar.{IsUnfinishedCharacter, Item, Stands, Steps}
use Rattle.termwiz_grammar.specs.Grammar.Item.{char}
use Rattle.termwiz_input.specs.Matches.{IsItemAt}
use Rattle.termwiz_input.specs.Fronts.{IsRun}
use Rattle.termwiz_input.specs.PrintableAscii.{IsPrintableAscii, printable_events}
use Rattle.termwiz_input.proofs.lemmas.heads.StartsNoSequence.{apart_from_sequences}
use Rattle.termwiz_grammar.proofs.lemmas.characters.CharacterPrefixes.{unfinished_high}

printable_stands : (b : ℕ) (u : List ℕ) (more : Bool) → IsPrintableAscii b
    → Stands (b ∷ u) more (b ∷ []) (Key (plain b))
printable_stands b u more is =
    let apart = apart_from_sequences (b ∷ u) (omega arith) (omega (arith, is.0)) (λ e. omega (arith, is.1, e)) in
    let spelled : encode_utf8 b ≡ b ∷ [] = encode_ascii b (omega (arith, is.1)) in
    record {
      closed = λ opens. ⊎_elim apart.finished
          (λ (h : IsUnfinishedCharacter (b ∷ u)).
          let high = unfinished_high (b ∷ u) (λ e. cc (e)) h in omega (arith, high.0.0, is.1)) opens.beginning;
      item = subst (λ t. Item (b ∷ u) more t (Key (plain b))) spelled
          (char b (record {
            no_sequence = apart.no_sequence;
            scalar = search (arith);
            begins = (u, ap (λ t. t ++ u) (sym spelled));
          }));
    }

printable_steps : (characters u : List ℕ) (more : Bool) → AllByRecursion IsPrintableAscii characters
    → Steps (characters ++ u) more (printable_events characters) u
printable_steps [] u more a = refl
printable_steps (b ∷ characters) u more a = (
  b ∷ [],
  characters ++ u,
  printable_stands b (characters ++ u) more a.0,
  refl,
  printable_steps characters u more a.1,
)

-- such characters at the front of a text, and one more
printable_first : (text : List ℕ) (n : ℕ) (more : Bool) → n ≤ length text
    → AllByRecursion IsPrintableAscii (take n text)
    → Steps text more (printable_events (take n text)) (drop (length (take n text)) text)
printable_first text n more inside a =
    let left : drop (length (take n text)) text ≡ drop n text = ap (λ k. drop k text) (length-take-le n text inside) in
    rw left (subst (λ t. Steps t more (printable_events (take n text)) (drop n text)) (take-append-drop n text)
    (printable_steps (take n text) (drop n text) more a))

printable_one : (text : List ℕ) (n : ℕ) (more : Bool) → n ≤ length text → 0 < length (take n text)
    → AllByRecursion IsPrintableAscii (take n text) → IsItemAt text more (Key (plain (slice_index_or (take n text) 0 0))) 1
printable_one text zero more inside some a = absurd (omega (arith, some))
printable_one [] (suc n) more inside some a = absurd (omega (arith, inside))
printable_one (b ∷ text) (suc n) more inside some a = (omega arith, printable_stands b text more a.0)

pub printable_run : (text : List ℕ) (n : ℕ) → n ≤ length text → AllByRecursion IsPrintableAscii (take n text)
    → 0 < n → IsRun text (take n text)
printable_run text n inside a some = record {
  some = omega (arith, length-take-le n text inside);
  within = omega (arith, length-take-le n text inside);
  first = λ more. printable_one text n more inside (omega (arith, length-take-le n text inside)) a;
  steps = λ more. printable_first text n more inside a;
}
