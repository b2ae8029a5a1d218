-- The fields behind the first one, as they are written one after another.
use Rattle.std.proofs.Common.{◌≡◌, ℕ, List, [], ◌∷◌, ◌++◌, map, refl, sym, ap, ◌∙◌, append_assoc, flat_map, decimal, Ok, Err}
use Rattle.std.specs.Prelude.{OnOk, Result}
use Rattle.termwiz_extended_events.specs.declared.types.KeyEventKind.{KeyEventKind}
use Rattle.termwiz_kitty.specs.KittyTexts.{manner_behind, further_character, characters_text, first_text, fields_behind}

pub map_same : (cs : List ℕ) → map (λ c. c) cs ≡ cs
map_same [] = refl
map_same (c ∷ cs) = ap (λ t. c ∷ t) (map_same cs)

pub on_ok : {A E P Q : Type 0} (r : Result A E) → (P → Q) → OnOk r P → OnOk r Q
on_ok (Ok x) f h = f h
on_ok (Err e) f h = h

-- the fields of a text: the first character, and those after it
pub fields_of_text : (bits : ℕ) (kind : KeyEventKind) (c : ℕ) (all cs before first last : List ℕ) → all ≡ c ∷ cs
    → first ≡ before ++ first_text bits kind c → last ≡ first ++ flat_map further_character cs
    → last ≡ before ++ fields_behind bits kind all
unfolding fields_behind characters_text
fields_of_text bits kind c all cs before first last is one more =
    more ∙ ap (λ t. t ++ flat_map further_character cs) one
    ∙ append_assoc before (first_text bits kind c) (flat_map further_character cs)
    ∙ ap (λ t. before ++ t)
    (append_assoc (59 ∷ (manner_behind [] bits kind ++ 59 ∷ [])) (decimal c) (flat_map further_character cs))
    ∙ ap (λ t. before ++ fields_behind bits kind t) (sym is)
