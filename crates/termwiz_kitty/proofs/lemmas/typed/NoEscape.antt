-- A text without ESC means what it means to the port, where the reading decides none of its bytes.
use Rattle.std.proofs.Common.{◌≢◌, inl, inr, ⊎_elim, ℕ, Bool, List, [], ◌∷◌, ◌++◌, refl, subst}
use Rattle.std.specs.List.{AllByRecursion}
use Rattle.termwiz_keys.specs.Introducers.{ESC}
use Rattle.termwiz_keys.specs.declared.types.InputEvent.{InputEvent}
use Rattle.termwiz_grammar.specs.Grammar as port
use Rattle.termwiz_grammar.specs.Grammar.{IsBeginning}
use Rattle.termwiz_extended_events.specs.declared.types.Event.{Event}
use Rattle.termwiz_extended_events.specs.declared.types.Reading.{Reading}
use Rattle.termwiz_extended_grammar.specs.ExtendedGrammar.{BeginsKnown, Means}
use Rattle.termwiz_extended_grammar.specs.ExtendedLaws.{HasNoExtra, LooksAt, BeginsDecided, ArePorts}
use Rattle.termwiz_extended_grammar.specs.ExtendedLaws.LooksAt.{at_item, after_escape}
use Rattle.termwiz_extended_grammar.proofs.lemmas.forms.FormBytes.{mark_shape}
use Rattle.termwiz_extended_grammar.proofs.lemmas.forms.ExtraFacts.{completed_mark, mark_from_unfinished, none_at_end}
use Rattle.termwiz_extended_grammar.proofs.lemmas.items.ExtendedItems.{starts_shape}
use Rattle.termwiz_extended_grammar.proofs.lemmas.cuts.SameAsPort.{conservative}

-- no byte is ESC
abbrev pub HasNoEscape : List ℕ → Type 0
HasNoEscape text = AllByRecursion (λ b. b ≢ 27) text

-- no reading decides a byte
abbrev pub IsUndecided : ℕ → Type 0
IsUndecided b = (b ≢ 8) × (b ≢ 10) × (b ≢ 127)

-- no byte is ESC, and no reading decides one
abbrev pub IsOrdinary : List ℕ → Type 0
IsOrdinary text = AllByRecursion (λ b. (b ≢ 27) × IsUndecided b) text

pub ordinary_no_escape : (text : List ℕ) → IsOrdinary text → HasNoEscape text
ordinary_no_escape [] a = tt
ordinary_no_escape (b ∷ text) a = (a.0.0, ordinary_no_escape text a.1)

not_decided : (u : List ℕ) → IsOrdinary u → ¬ BeginsDecided u
not_decided [] a h = h
not_decided (b ∷ u) a h = ⊎_elim a.0.1.0 (λ more. ⊎_elim a.0.1.1 a.0.1.2 more) h

after_front : (s t : List ℕ) → IsOrdinary (s ++ t) → IsOrdinary t
after_front [] t a = a
after_front (x ∷ s) t a = after_front s t a.1

-- what is left after items
left_over : (E : List InputEvent) (T u : List ℕ) (f : Bool) → port.Steps T f E u → IsOrdinary T → IsOrdinary u
left_over [] T u f e a = subst IsOrdinary e a
left_over (event ∷ E) T u f (bytes, rest, stands, splits, steps) a =
    left_over E rest u f steps (after_front bytes rest (subst IsOrdinary splits a))

looked_at : (T u : List ℕ) (f : Bool) → IsOrdinary T → LooksAt T f u → IsOrdinary u
looked_at T u f a (at_item E steps) = left_over E T u f steps a
looked_at T u f a (after_escape E before steps is splits) =
    after_front ESC u (subst IsOrdinary splits (left_over E T before f steps a))

-- no extra sequence and no opening begins without ESC
pub has_no_extra : (reading : Reading) (u : List ℕ) (f : Bool) → HasNoEscape u → HasNoExtra reading u f
has_no_extra reading [] f a = record { none = none_at_end reading; open_to_port = λ h. absurd (h.some refl) }
has_no_extra reading (c ∷ t) f a = record {
  none = λ h. (let s = starts_shape reading (c ∷ t) h in a.0 (cc (s.2)));
  open_to_port = λ h. record { more_comes = h.more_comes; some = h.some; beginning = to_port h.beginning };
}
  where
    to_port : BeginsKnown reading (c ∷ t) → IsBeginning (c ∷ t)
    to_port (inl b) = b
    to_port (inr x) =
        let m = completed_mark (c ∷ t) (mark_from_unfinished reading (c ∷ t) x) in
        let s = mark_shape (c ∷ t ++ m.0) m.2 in
        absurd (a.0 (cc (s.2)))

pub same_without_escape : (reading : Reading) (T W : List ℕ) (E : List InputEvent) (f : Bool) → IsOrdinary T → port.Means T f E W
    → (D : List Event) × Means reading T f D W × ArePorts D E
same_without_escape reading T W E f a means = conservative reading T W E f (λ u looks.
    (let is = looked_at T u f a looks in (has_no_extra reading u f (ordinary_no_escape u is), not_decided u is))) means
