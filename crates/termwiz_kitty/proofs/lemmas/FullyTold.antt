-- Under all five flags a report that a terminal can write is told whole.
use Rattle.std.proofs.Common.{◌≡◌, ◌⊎◌, inl, inr, ⊎_elim, ℕ, Bool, true, false, not, ◌&&◌, ◌||◌, List, [], refl, sym, ap, ap₂, ◌∙◌, Option, None}
use Rattle.std.specs.Prelude.{if◌then◌else◌}
use Rattle.termwiz_extended_events.specs.declared.types.KeyReport.{KeyReport}
use Rattle.termwiz_extended_events.specs.declared.types.KeyEventKind.{KeyEventKind}
use Rattle.termwiz_extended_events.specs.declared.types.ReportedKey.{ReportedKey}
use Rattle.termwiz_kitty.specs.KeyForms.{form_of, is_character}
use Rattle.termwiz_kitty.specs.Telling.{is_release, is_shifted, is_modifier_form, has_text, has_control, without_locks, telling, reported}
use Rattle.termwiz_kitty.specs.KittyLaws.{IsWritable, FullyTold}

and_false : (a : Bool) → (a && false) ≡ false
and_false true = refl
and_false false = refl

and_true : (a : Bool) → (a && true) ≡ a
and_true true = refl
and_true false = refl

one_false : (a b : Bool) → (a && b) ≡ false → (a ≡ false) ⊎ (b ≡ false)
one_false true b e = inr e
one_false false b e = inl refl

-- what is missing anyway may be left out
left_out : {A : Type 0} → (b : Bool) (x none : A) → (b ≡ false → x ≡ none) → (if b then x else none) ≡ x
left_out true x none e = refl
left_out false x none e = sym (e refl)

abbrev built : ReportedKey → ℕ → KeyEventKind → Option ℕ → Option ℕ → List ℕ → KeyReport
built key bits kind shifted base text = record {
  key = key;
  modifiers = bits;
  kind = kind;
  shifted = shifted;
  base = base;
  text = text;
}

told_whole : (r : KeyReport) → IsWritable r → reported r 31 ≡ r
unfolding reported
told_whole r is =
    ap₂ (λ k m. built k m r.kind (if is_character r.key && is_shifted r.modifiers then r.shifted else None)
    (if is_character r.key then r.base else None) (if has_text (form_of r.key) && not (has_control r.text) then r.text else [])) is.normal same_modifiers
    ∙ ap₂ (λ s b. built r.key r.modifiers r.kind s b (if has_text (form_of r.key) && not (has_control r.text) then r.text else [])) same_shifted same_base
    ∙ ap (λ t. built r.key r.modifiers r.kind r.shifted r.base t) same_text
  where
    same_modifiers : (if (is_character r.key && false) || false then without_locks r.modifiers else r.modifiers) ≡ r.modifiers
    same_modifiers = rw (and_false (is_character r.key)) refl

    same_shifted : (if is_character r.key && is_shifted r.modifiers then r.shifted else None) ≡ r.shifted
    same_shifted = left_out (is_character r.key && is_shifted r.modifiers) r.shifted None
        (λ e. ⊎_elim (λ a. (is.alternates a).0) (λ b. is.shifted b) (one_false (is_character r.key) (is_shifted r.modifiers) e))

    same_text : (if has_text (form_of r.key) && not (has_control r.text) then r.text else []) ≡ r.text
    same_text = rw (is.no_control, and_true (has_text (form_of r.key))) (left_out (has_text (form_of r.key)) r.text [] is.text)

    same_base : (if is_character r.key then r.base else None) ≡ r.base
    same_base = left_out (is_character r.key) r.base None (λ e. (is.alternates e).1)

pub fully_told : FullyTold
unfolding telling
fully_told r is = (
  rw (and_false (is_release r.kind), and_false (not (is_character r.key) && is_modifier_form (form_of r.key))) refl,
  told_whole r is,
)
