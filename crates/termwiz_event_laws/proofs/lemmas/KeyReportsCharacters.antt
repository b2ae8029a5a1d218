-- A key report by the letter u: its characters and its text take no more bytes than they were read from.
use Rattle.std.proofs.Common.{◌≡◌, ◌⊎◌, inl, inr, ℕ, ◌+◌, ◌<◌, ◌≤◌, List, [], ◌∷◌, ◌++◌, length, refl, sym, ap, ◌∙◌, subst, arith, Option, Some, None}
use Rattle.std.specs.List.{join_with_byte}
use Rattle.std.specs.Str.{chars}
use Rattle.std.proofs.lemmas.Option.{option_and_then_some}
use Rattle.termwiz_extended_events.specs.declared.types.KeyReport.{KeyReport}
use Rattle.termwiz_extended_events.specs.declared.types.Manner.{Manner}
use Rattle.termwiz_extended_events.specs.Numbers.{before_end, fields}
use Rattle.termwiz_extended_events.specs.KeyReports.{manner_of, pressed, codes_with, codes_of, text_of, character_report, character_of_fields, character_key}
use Rattle.termwiz_kitty.specs.KittyTexts.{codes_text, characters_text}
use Rattle.termwiz_kitty.proofs.lemmas.read_back.WrittenReports.{carried}
use Rattle.termwiz_senders.specs.ReportTexts.{short_manner}
use Rattle.termwiz_event_laws.proofs.lemmas.KeyReportsFields.{fields_joined, ends_so, three_long}
use Rattle.termwiz_event_laws.proofs.lemmas.KeyReportsParts.{manner_parts, AreCodes, codes_cases}
use Rattle.termwiz_event_laws.proofs.lemmas.KeyReportsTexts.{no_characters, text_parts}
use Rattle.termwiz_event_laws.proofs.lemmas.KeyReportsWritten.{IsFromCharacter}

-- what a report is put together from
record IsBuilt (field : List ℕ) (manner : Option Manner) (text : Option (List ℕ)) (r : KeyReport) : Type 0 where
  own : ℕ
  shifted : Option ℕ
  base : Option ℕ
  are : AreCodes own shifted base field
  told : Manner
  manner_is : manner ≡ Some told
  typed : List ℕ
  text_is : text ≡ Some typed
  is : carried own shifted base told.modifiers told.kind typed ≡ r

built_from : (field : List ℕ) (manner : Option Manner) (text : Option (List ℕ)) (r : KeyReport)
    → character_report (codes_of field) manner text ≡ Some r → IsBuilt field manner text r
built_from field manner text r e = go (codes_cases field) manner text e
  where
    whole : (own : ℕ) (shifted base : Option ℕ) → AreCodes own shifted base field → (manner : Option Manner) (text : Option (List ℕ))
        → character_report (codes_with (Some own) (Some shifted) (Some base)) manner text ≡ Some r → IsBuilt field manner text r
    whole own shifted base are (Some told) (Some typed) e = record {
      own = own;
      shifted = shifted;
      base = base;
      are = are;
      told = told;
      manner_is = refl;
      typed = typed;
      text_is = refl;
      is = cc (e);
    }
    whole own shifted base are None text e = absurd (cc (e))
    whole own shifted base are (Some told) None e = absurd (cc (e))

    go : (codes_of field ≡ codes_with None None None)
        ⊎ ((own : ℕ) × (shifted base : Option ℕ) × (codes_of field ≡ codes_with (Some own) (Some shifted) (Some base))
        × AreCodes own shifted base field)
        → (manner : Option Manner) (text : Option (List ℕ)) → character_report (codes_of field) manner text ≡ Some r → IsBuilt field manner text r
    go (inl none) manner text e =
        absurd (let no : None ≡ Some r = sym (ap (λ c. character_report c manner text) none) ∙ e in cc (no))
    go (inr (own, shifted, base, same, are)) manner text e =
        whole own shifted base are manner text (sym (ap (λ c. character_report c manner text) same) ∙ e)

-- the same of the report
abbrev IsShort : ℕ → ℕ → ℕ → ℕ → Type 0
IsShort size codes manner characters = (characters ≡ 0) ⊎ (codes + manner + characters + 2 ≤ size)

from_built : (size : ℕ) (field : List ℕ) (manner : Option Manner) (text : Option (List ℕ)) (r : KeyReport) (b : IsBuilt field manner text r)
    → b.told.modifiers < 256
    → IsShort size (length (codes_text b.own b.shifted b.base)) (length (short_manner b.told.modifiers b.told.kind))
    (length (characters_text (chars b.typed)))
    → IsFromCharacter size r
from_built size field manner text r b fits short = subst (IsFromCharacter size) b.is
    (record { own = b.own; own_is = b.are.own_is; key = refl; fits = fits; few = b.are.few; short = short })

none_typed : (typed : List ℕ) → Some [] ≡ Some typed → length (characters_text (chars typed)) ≡ 0
none_typed typed e = let none : [] ≡ typed = cc (e) in subst (λ z. length (characters_text (chars z)) ≡ 0) none no_characters

none_held : (told : Manner) → Some pressed ≡ Some told → told.modifiers < 256
none_held told e = let same : pressed ≡ told = cc (e) in subst (λ m. m.modifiers < 256) same (omega arith)

by_fields : (body : List ℕ) (fs : List (List ℕ)) (r : KeyReport) → body ≡ join_with_byte 59 fs → character_of_fields fs ≡ Some r
    → IsFromCharacter (length body) r
by_fields body [] r joined e = absurd (cc (e))
by_fields body (f ∷ []) r joined e =
    let b = built_from f (Some pressed) (Some []) r e in
    from_built (length body) f (Some pressed) (Some []) r b (none_held b.told b.manner_is) (inl (none_typed b.typed b.text_is))
by_fields body (f ∷ m ∷ []) r joined e =
    let b = built_from f (manner_of m) (Some []) r e in
    from_built (length body) f (manner_of m) (Some []) r b (manner_parts m b.told b.manner_is).fits (inl (none_typed b.typed b.text_is))
by_fields body (f ∷ m ∷ t ∷ []) r joined e =
    let b = built_from f (manner_of m) (text_of t) r e in
    let manner = manner_parts m b.told b.manner_is in
    from_built (length body) f (manner_of m) (text_of t) r b manner.fits
    (inr (omega (arith, b.are.short, manner.short, text_parts t b.typed b.text_is, three_long 59 body f m t joined)))
by_fields body (f ∷ m ∷ t ∷ g ∷ fs) r joined e = absurd (cc (e))

pub character_parts : (t : List ℕ) (r : KeyReport) → character_key t ≡ Some r
    → (body : List ℕ) × (t ≡ body ++ 117 ∷ []) × IsFromCharacter (length body) r
unfolding character_key
character_parts t r e = option_and_then_some (λ body. character_of_fields (fields body)) (before_end (117 ∷ []) t) r e
    (λ (body : List ℕ) (found : before_end (117 ∷ []) t ≡ Some body) (read : character_of_fields (fields body) ≡ Some r).
    (body, ends_so 117 t body found, by_fields body (fields body) r (fields_joined body (fields body) refl) read))
