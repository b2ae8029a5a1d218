-- The locks of a report, and the modifiers of an event that aren't told, change no press.
use Rattle.std.proofs.Common.{◌≡◌, ◌∙◌, ℕ, not, ◌==◌, bit_and, List, [], ◌∷◌, refl, sym, ap, Option, Some}
use Rattle.std.specs.Prelude.{if◌then◌else◌}
use Rattle.std.specs.Str.{chars}
use Rattle.std.proofs.lemmas.Nat.{and_assoc}
use Rattle.termwiz_extended_events.specs.declared.types.KeyReport.{KeyReport}
use Rattle.termwiz_extended_events.specs.declared.types.KeyEventKind.TheVariants.{Press}
use Rattle.termwiz_extended_events.specs.declared.types.ReportedKey.{ReportedKey}
use Rattle.termwiz_extended_events.specs.declared.types.ReportedKey.TheVariants.{Named}
use Rattle.termwiz_extended_events.specs.KeyReports.{report_of}
use Rattle.termwiz_bindings.specs.Presses.{canonical, settled, is_shortcut, typed_press, typed_character, character_press, counted, main_press, plain_press, control_press, told_press, cased_press, all_but_locks}
use Rattle.termwiz_extended_events.specs.PortEvents.{kitty_bits}
use Rattle.termwiz_bindings.specs.PressLaws.{LocksChangeNothing, NoPressOfRelease, SidesChangeNothing, told_of_event}

-- a release has no press
pub no_press_of_release : NoPressOfRelease
unfolding canonical
no_press_of_release r released = rw released refl

-- the bits of some modifiers are among those of more
among : (bits more some : ℕ) → bit_and more some ≡ some → bit_and (bit_and bits more) some ≡ bit_and bits some
among bits more some inside = and_assoc some bits more ∙ ap (λ n. bit_and bits n) inside

-- each rule looks at the modifiers without the locks
shortcut_of_told : (bits : ℕ) → is_shortcut bits ≡ is_shortcut (bit_and bits all_but_locks)
shortcut_of_told bits = ap (λ n. not (n == 0)) (sym (among bits 63 62 refl))

character_of_told : (c bits : ℕ) → typed_character c bits ≡ typed_character c (bit_and bits all_but_locks)
character_of_told c bits =
    ap (λ held. character_press c (if c == 32 then held else 0)) (sym (among bits 63 1 refl))

typed_of_told : (cs : List ℕ) (bits : ℕ) → typed_press cs bits ≡ typed_press cs (bit_and bits all_but_locks)
unfolding typed_press
typed_of_told (c ∷ []) bits = ap (λ p. Some p) (character_of_told c bits)
typed_of_told [] bits = refl
typed_of_told (c ∷ d ∷ cs) bits = refl

main_of_told : (key : ReportedKey) (bits : ℕ)
    → main_press (record { key = key; held = bits }) ≡ main_press (record { key = key; held = bit_and bits all_but_locks })
unfolding main_press
main_of_told key bits = rw (among bits 63 63 refl) refl

settled_of_told : (shifted : Option ℕ) (key : ReportedKey) (bits : ℕ)
    → settled shifted (record { key = key; held = bits })
    ≡ settled shifted (record { key = key; held = bit_and bits all_but_locks })
unfolding settled plain_press
settled_of_told shifted key bits =
    ap (λ p. cased_press (told_press (counted shifted) (control_press p))) (main_of_told key bits)

told_alone : (r : KeyReport) (bits : ℕ)
    → canonical (record r { modifiers = bits }) ≡ canonical (record r { modifiers = bit_and bits all_but_locks })
unfolding canonical
told_alone r bits =
    rw (shortcut_of_told bits, typed_of_told (chars r.text) bits, settled_of_told r.shifted r.key bits) refl

pub locks_change_nothing : LocksChangeNothing
locks_change_nothing r bits same =
    told_alone r bits ∙ ap (λ told. canonical (record r { modifiers = told })) same ∙ sym (told_alone r r.modifiers)

-- each of the bits that are told is among those of an event
told_bits : (held : ℕ) → kitty_bits held ≡ kitty_bits (bit_and held told_of_event)
told_bits held = rw (among held 30 2 refl, among held 30 4 refl, among held 30 8 refl, among held 30 16 refl) refl

pub sides_change_nothing : SidesChangeNothing
sides_change_nothing k held same =
    let told : kitty_bits held.0 ≡ kitty_bits k.modifiers.0 =
    told_bits held.0 ∙ ap kitty_bits same ∙ sym (told_bits k.modifiers.0) in
    ap (λ bits. canonical (report_of (Named k.key) (record { modifiers = bits; kind = Press }))) told
