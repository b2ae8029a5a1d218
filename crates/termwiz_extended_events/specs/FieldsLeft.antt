-- What an iterator over fields has left.
use Rattle.std.specs.Prelude.{ℕ, ◌==◌, List, [], Option, Some, None}
use Rattle.std.specs.List.{slice_split}
use denote.Ref.{Bor}
use Rattle.termwiz_extended_events.specs.declared.fields.Fields.{Fields}

-- the fields of a text that may be missing
abbrev pub fields_in : ℕ → Option (Bor (List ℕ)) → List (List ℕ)
fields_in separator None = []
fields_in separator (Some text) = slice_split (λ b. b == separator) text.now

-- the fields that are still to come
abbrev pub fields_left : Fields → List (List ℕ)
fields_left f = fields_in f.separator f.rest
