-- What comes of a string is one step.
use Rattle.std.proofs.Common.{◌≡◌, ℕ, ◌+◌, ◌-◌, ◌≤◌, Bool, List, ◌∷◌, [], ◌++◌, length, take, drop, refl, sym, ap, ◌∙◌, subst, arith}
use Rattle.std.proofs.lemmas.List.{drop-take}
use Rattle.termwiz_keymap.specs.Bytes.{Begins}
use Rattle.termwiz_keys.specs.Introducers.{ESC}
use Rattle.termwiz_extended_events.specs.declared.types.Event.{Event}
use Rattle.termwiz_extended_events.specs.declared.types.Reading.{Reading}
use Rattle.termwiz_extended_events.specs.declared.types.StringKind.{StringKind}
use Rattle.termwiz_extended_events.specs.declared.types.StringKind.TheVariants as kinds
use Rattle.termwiz_extended_events.specs.Meanings.{NeedsMemory}
use Rattle.termwiz_extended_grammar.specs.Readings.{ReadsMore, after_event}
use Rattle.termwiz_extended_grammar.specs.ExtendedGrammar.{Steps}
use Rattle.termwiz_extended_grammar.specs.ExtendedGrammar.Stands.{string}
use Rattle.termwiz_extended_grammar.proofs.lemmas.forms.FormBytes.{introducer_shape}
use Rattle.termwiz_input_extended.specs.declared.string.StringItem.{StringItem}
use Rattle.termwiz_input_extended.specs.declared.string.StringManner.{StringManner}
use Rattle.termwiz_input_extended.specs.declared.string.StringManner.TheVariants.{Whole, Part, Cut}
use Rattle.termwiz_input_extended.specs.FormAnswers.{IsScanned}
use Rattle.termwiz_input_extended.specs.NextItems.{HasItemThatNeedsMemory, IsScannedTo}
use Rattle.termwiz_input_extended.specs.StringAnswers.{IsOpeningOf, IsStringItem, string_event}
use Rattle.termwiz_input_extended.proofs.lemmas.fronts.ScannedPlaces.{scanned_once}

-- the bytes between two places
between : (u : List ℕ) (end : ℕ) → 2 ≤ end → take (end - 2) (drop 2 u) ≡ drop 2 (take end u)
between u end l =
    let whole : 2 + (end - 2) ≡ end = omega (arith, l) in
    sym (subst (λ n. drop 2 (take n u) ≡ take (end - 2) (drop 2 u)) whole (drop-take 2 (end - 2) u))

pub bytes_within : (t u : List ℕ) (more : Bool) (item : StringItem) → t ≡ u → (is : IsStringItem u more item)
    → take (item.end - 2) (drop 2 t) ≡ is.head ++ is.bytes
bytes_within t u more item same is =
    ap (λ x. take (item.end - 2) (drop 2 x)) same ∙ between u item.end is.introduced ∙ is.bytes_are

-- what comes of a string leaves the reading as it is
pub string_reading : (reading : Reading) (manner : StringManner) (kind : StringKind) (bytes : List ℕ)
    → after_event reading (string_event manner kind bytes) ≡ reading
string_reading reading Whole kinds.Osc bytes = refl
string_reading reading Whole kinds.Dcs bytes = refl
string_reading reading Whole kinds.Apc bytes = refl
string_reading reading Part kind bytes = refl
string_reading reading Cut kind bytes = refl

module _ (reading : Reading) (u : List ℕ) (more : Bool) (item : StringItem) (is : IsStringItem u more item) where
  abbrev pub left_of : List ℕ
  left_of = take item.kept u ++ drop item.taken u

  pub string_step : ReadsMore reading → (event : Event) → event ≡ string_event item.manner item.kind (is.head ++ is.bytes)
      → Steps reading u more (event ∷ []) left_of
  string_step reads event made =
      (left_of, rw made (string item.kind is.head is.bytes is.after left_of _ reads is.is_string is.comes), refl)

  -- it needs memory
  pub string_refused : ReadsMore reading → NeedsMemory (string_event item.manner item.kind (is.head ++ is.bytes)) → HasItemThatNeedsMemory reading u more
  string_refused reads needs = record {
    left = left_of;
    event = string_event item.manner item.kind (is.head ++ is.bytes);
    stands = string item.kind is.head is.bytes is.after left_of _ reads is.is_string is.comes;
    needs = needs;
  }

-- an opening begins with one ESC alone, so what was looked at is of the text itself
opening_one : (u : List ℕ) (kind : StringKind) (len : ℕ) → IsOpeningOf u kind len → Begins (ESC ++ ESC) u → ⊥
opening_one u kind len o b =
    let i = introducer_shape kind in
    let all : u ≡ 27 ∷ i.0 ∷ (o.head ++ o.begins.0) = o.begins.1 ∙ ap (λ z. z ++ o.head ++ o.begins.0) i.1 in
    let second : i.0 ≡ 27 = cc (all, b.1) in omega (arith, i.2)

pub opening_scanned : (t u p : List ℕ) (kind : StringKind) (len place : ℕ) → t ≡ u → p ≡ u → IsOpeningOf u kind len → IsScannedTo p place
    → IsScanned t place
opening_scanned t u p kind len place t_is p_is o is = subst (λ x. IsScanned x place) (sym t_is)
    ((subst (λ x. IsScannedTo x place) p_is is).here (opening_one u kind len o))

pub scanned_open : (t u p : List ℕ) (kind : StringKind) (len place : ℕ) → t ≡ u → p ≡ u → IsOpeningOf u kind len → IsScanned t place
    → place ≤ length t → IsScannedTo p place
scanned_open t u p kind len place t_is p_is o is within = subst (λ x. IsScannedTo x place) (sym p_is)
    (scanned_once u place (opening_one u kind len o) (subst (λ x. place ≤ length x) t_is within) (subst (λ x. IsScanned x place) t_is is))
