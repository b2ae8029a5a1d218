-- What Applications sends before Kitty's protocol, with SUPER, HYPER or META, is a report of F16.
use Rattle.std.proofs.Common.{◌≡◌, ℕ, ◌+◌, ◌≤◌, ◌<◌, Bool, true, false, List, [], ◌∷◌, map, length, refl, sym, subst, arith, nat_le, decimal}
use Rattle.std.specs.List.{AllByRecursion, list_all}
use Rattle.std.specs.Fmt.{digits}
use Rattle.std.proofs.lemmas.Bool.Decides.{nat_tests}
use Rattle.std.proofs.lemmas.List.Sums.{AllPass-from_list_all}
use Rattle.std.proofs.lemmas.List.Elements.{All-contains}
use Rattle.termwiz_keymap.proofs.lemmas.lists.CommonPrefixes.{true_from}
use Rattle.termwiz_keys.specs.declared.types.KeyCode.TheVariants.{Function}
use Rattle.termwiz_grammar.specs.MouseReports.{IsDigit}
use Rattle.termwiz_grammar.specs.Table.{numbers}
use Rattle.termwiz_grammar.proofs.lemmas.lists.ListMembers.{same_on}
use Rattle.termwiz_extended_events.specs.declared.types.Event.TheVariants.{Key}
use Rattle.termwiz_extended_events.specs.declared.types.KeyEventKind.TheVariants.{Press}
use Rattle.termwiz_extended_events.specs.declared.types.Reading.{Reading}
use Rattle.termwiz_extended_events.specs.Meanings.{event_of}
use Rattle.termwiz_extended_events.proofs.Examples.{written_out as events_written_out}
use Rattle.termwiz_extended_grammar.specs.ExtendedGrammar.{Means}
use Rattle.termwiz_extended_grammar.specs.Readings.{ReadsMore, event_in, is_asking}
use Rattle.termwiz_kitty.specs.KittyTexts.{numbered_text, manner_text}
use Rattle.termwiz_kitty.specs.KittyLaws.{press_of}
use Rattle.termwiz_kitty.proofs.lemmas.PortKeys.{at_number}
use Rattle.termwiz_kitty.proofs.lemmas.read_back.FieldSplits.{digit_in_field}
use Rattle.termwiz_kitty.proofs.lemmas.read_back.SequenceForms.{IsParameter, written, is_extra}
use Rattle.termwiz_kitty.proofs.lemmas.read_back.SequencesMean.{means_alone}
use Rattle.termwiz_kitty.proofs.lemmas.read_back.WrittenFields.{decimal_small}

-- What Applications sends with further modifiers is a report: 29, the number of the modifiers, and ~.
abbrev menu_body : ℕ → List ℕ
menu_body held = 50 ∷ 57 ∷ 59 ∷ decimal (1 + held)

menus_written : map (λ held. numbered_text 29 held Press) (numbers 8 56) ≡ map (λ held. written (menu_body held) 126) (numbers 8 56)
unfolding numbered_text manner_text numbers digits
menus_written = refl

menus_read : (asks : Bool) → map (λ held. event_of asks (written (menu_body held) 126)) (numbers 8 56)
    ≡ map (λ held. Key (press_of (Function 16) held)) (numbers 8 56)
unfolding events_written_out numbers digits
menus_read true = refl
menus_read false = refl

menus_short : list_all (λ held. nat_le (length (written (menu_body held) 126)) 256) (numbers 8 56) ≡ true
unfolding numbers digits
menus_short = refl

in_parameters : (b : ℕ) → IsDigit b → IsParameter b
in_parameters b is = let field = digit_in_field b is in (omega arith, omega arith)

menu_parameters : (held : ℕ) → held < 64 → AllByRecursion IsParameter (menu_body held)
menu_parameters held small = (
  (omega arith, omega arith),
  (
    (omega arith, omega arith),
    (
      (omega arith, omega arith),
      true_from IsDigit IsParameter in_parameters (decimal (1 + held)) (decimal_small (1 + held) (omega arith)).each,
    ),
  ),
)

pub menu_means : (reading : Reading) (held : ℕ) (more : Bool) → 8 ≤ held → held < 64 → ReadsMore reading
    → Means reading (numbered_text 29 held Press) more (Key (press_of (Function 16) held) ∷ []) []
menu_means reading held more past small reads =
    let here = at_number 8 56 held past small in
    let short : nat_le (length (written (menu_body held) 126)) 256 ≡ true =
    All-contains (λ h. nat_le (length (written (menu_body h) 126)) 256 ≡ true) (numbers 8 56) held
    (AllPass-from_list_all (λ h. nat_le (length (written (menu_body h) 126)) 256) (numbers 8 56) menus_short) here in
    let event = same_on (λ h. event_in reading (written (menu_body h) 126)) (λ h. Key (press_of (Function 16) h)) (numbers 8 56) held
    (menus_read (is_asking reading)) here in
    let extra = is_extra reading (menu_body held) 126 (Key (press_of (Function 16) held)) reads (menu_parameters held small)
    (omega arith, omega arith, (λ same. omega arith), (λ same. omega arith)) (grind (arith, nat_tests)) tt event in
    subst (λ t. Means reading t more (Key (press_of (Function 16) held) ∷ []) [])
    (sym (same_on (λ h. numbered_text 29 h Press) (λ h. written (menu_body h) 126) (numbers 8 56) held menus_written here))
    (means_alone reading (written (menu_body held) 126) more (Key (press_of (Function 16) held)) extra)
