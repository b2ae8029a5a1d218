-- A cased letter has the same press where its capital is told and where it isn't.
use Rattle.std.proofs.Common.{◌≡◌, ◌∙◌, ℕ, Bool, true, false, ◌==◌, refl, sym, ap, arith, Some, None}
use Rattle.std.specs.Prelude.{if◌then◌else◌}
use Rattle.std.specs.Str.{chars}
use Rattle.std.proofs.lemmas.Bool.Decides.{nat_tests}
use Rattle.termwiz_keys.specs.declared.types.KeyCode.TheVariants.{Char}
use Rattle.termwiz_extended_events.specs.declared.types.ReportedKey.{ReportedKey}
use Rattle.termwiz_extended_events.specs.declared.types.ReportedKey.TheVariants.{Named}
use Rattle.termwiz_bindings.specs.declared.press.KeyPress.{KeyPress}
use Rattle.termwiz_bindings.specs.Letters.{has_near_capital, has_far_capital, capital_of}
use Rattle.termwiz_bindings.specs.MainKeys.{makes_no_press, main_of_named, main_code}
use Rattle.termwiz_bindings.specs.Presses.{canonical, settled, is_release, types_text, typed_press, is_told, has_shift, without_shift, character_press, all_but_locks, plain_press, main_press, told_press, cased_press, lowered_press}
use Rattle.termwiz_bindings.specs.PressLaws.{CapitalsTellNothing}
use Rattle.termwiz_bindings.proofs.lemmas.CasedLetters.{capital_is, letter_is}
use Rattle.termwiz_bindings.proofs.lemmas.CharacterRules.{plain_character, plain_stays, shown_is, unshifted_stays}
use Rattle.termwiz_bindings.proofs.lemmas.HeldBits.{no_shift}
use Rattle.std.proofs.Common.{bit_and}

no_space : (c capital : ℕ) → capital_of c ≡ Some capital → (c == 32) ≡ false
unfolding capital_of has_near_capital has_far_capital
no_space c capital is = go (c == 32) refl
  where
    go : (b : Bool) → (c == 32) ≡ b → (c == 32) ≡ false
    go false other = other
    go true same =
        let space : c ≡ 32 = grind (arith, nat_tests) in
        cc (space, is)

-- by the rules on SHIFT
same_cased : (c capital held : ℕ) → capital_of c ≡ Some capital
    → cased_press (told_press (Some capital) (character_press c held)) ≡ cased_press (told_press None (character_press c held))
unfolding told_press cased_press
same_cased c capital held is = go (has_shift held) refl
  where
    go : (b : Bool) → has_shift held ≡ b
        → cased_press (if is_told c held then character_press capital (without_shift held) else character_press c held)
        ≡ cased_press (character_press c held)
    go false none = rw none refl
    go true shift =
        rw (shift, no_space c capital is) (
        ap lowered_press (unshifted_stays capital (without_shift held) (no_shift held))
        ∙ sym (ap lowered_press (shown_is c held capital shift (letter_is capital c (capital_is c capital is).back).back)))

-- and by all of them
same_settled : (c capital bits : ℕ) → capital_of c ≡ Some capital
    → settled (Some capital) (record { key = Named (Char c); held = bits }) ≡ settled None (record { key = Named (Char c); held = bits })
unfolding settled plain_press main_press main_of_named main_code
same_settled c capital bits is =
    let letter = capital_is c capital is in
    rw (
      letter.counts,
      plain_stays (character_press c (bit_and bits all_but_locks))
          (plain_character c (letter_is capital c letter.back).plain),
    ) (same_cased c capital (bit_and bits all_but_locks) is)

pub capitals_tell_nothing : CapitalsTellNothing
unfolding canonical
capitals_tell_nothing r c capital key is =
    ap (λ (p : KeyPress). if is_release r.kind then None else (if types_text r then typed_press (chars r.text) r.modifiers
    else (if makes_no_press r.key then None else Some p)))
    (ap (λ (k : ReportedKey). settled (Some capital) (record { key = k; held = r.modifiers })) key
    ∙ same_settled c capital r.modifiers is
    ∙ sym (ap (λ (k : ReportedKey). settled None (record { key = k; held = r.modifiers })) key))
