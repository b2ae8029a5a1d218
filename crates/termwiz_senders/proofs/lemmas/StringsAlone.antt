-- What comes of a string is no key.
use Rattle.std.proofs.Common.{ℕ, Bool, List, ◌++◌}
use Rattle.std.specs.Prelude.{⊤}
use Rattle.termwiz_extended_events.specs.declared.types.Event.{Event}
use Rattle.termwiz_extended_events.specs.declared.types.Event.TheVariants.{Osc, Dcs, Apc, StringPart, StringCut}
use Rattle.termwiz_extended_events.specs.declared.types.StringKind.{StringKind}
use Rattle.termwiz_extended_events.specs.declared.types.StringKind.TheVariants as kinds
use Rattle.termwiz_extended_events.specs.Meanings.{whole_string}
use Rattle.termwiz_extended_grammar.specs.Strings.{Ends, Comes}
use Rattle.termwiz_extended_grammar.specs.Strings.Ends.{ended, cut, cut_by_two, flushed}
use Rattle.termwiz_extended_grammar.specs.Strings.Comes.{part, last}

-- an event that only a string has
abbrev pub IsOfString : Event → Type 0
IsOfString (Osc t) = ⊤
IsOfString (Dcs t) = ⊤
IsOfString (Apc t) = ⊤
IsOfString (StringPart kind t) = ⊤
IsOfString (StringCut kind t) = ⊤
IsOfString e = ⊥

pub whole_of_string : (kind : StringKind) (t : List ℕ) → IsOfString (whole_string kind t)
whole_of_string kinds.Osc t = tt
whole_of_string kinds.Dcs t = tt
whole_of_string kinds.Apc t = tt

ends_of_string : (kind : StringKind) (bytes after left : List ℕ) (more : Bool) (e : Event) → Ends kind bytes after more left e
    → IsOfString e
ends_of_string kind bytes after left more e (ended end l is f) = whole_of_string kind bytes
ends_of_string kind bytes after left more e (cut b l f n o) = tt
ends_of_string kind bytes after left more e (cut_by_two l f) = tt
ends_of_string kind bytes after left more e (flushed held f) = tt

pub comes_of_string : (kind : StringKind) (head bytes after left : List ℕ) (more : Bool) (e : Event)
    → Comes kind head bytes after more left e → IsOfString e
comes_of_string kind head bytes after left more e (part full) = tt
comes_of_string kind head bytes after left more e (last l event short ends) = ends_of_string kind (head ++ bytes) after l more event ends
