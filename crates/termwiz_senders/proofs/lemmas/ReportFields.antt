-- The fields of a report behind the first one, as they are written one after another.
use Rattle.std.proofs.Common.{◌≡◌, ℕ, List, [], ◌∷◌, ◌++◌, sym, ap, ◌∙◌, append_assoc, flat_map, decimal}
use Rattle.termwiz_extended_events.specs.declared.types.KeyEventKind.{KeyEventKind}
use Rattle.termwiz_kitty.specs.KittyTexts.{further_character, characters_text}
use Rattle.termwiz_senders.specs.ReportTexts.{first_fields, further_fields, short_manner}

-- the fields of a text that has characters
fields_are : (bits : ℕ) (kind : KeyEventKind) (c : ℕ) (cs : List ℕ)
    → first_fields bits kind c ++ flat_map further_character cs ≡ further_fields bits kind (c ∷ cs)
unfolding further_fields characters_text
fields_are bits kind c cs =
    append_assoc (59 ∷ (short_manner bits kind ++ 59 ∷ [])) (decimal c) (flat_map further_character cs)

pub further_of_text : (bits : ℕ) (kind : KeyEventKind) (c : ℕ) (all cs before first last : List ℕ) → all ≡ c ∷ cs
    → first ≡ before ++ first_fields bits kind c → last ≡ first ++ flat_map further_character cs
    → last ≡ before ++ further_fields bits kind all
further_of_text bits kind c all cs before first last is one more =
    more ∙ ap (λ t. t ++ flat_map further_character cs) one
    ∙ append_assoc before (first_fields bits kind c) (flat_map further_character cs)
    ∙ ap (λ t. before ++ t) (fields_are bits kind c cs ∙ ap (further_fields bits kind) (sym is))
