-- The printed name of a chord is read as that chord.
use Rattle.std.proofs.Common.{◌≡◌, ◌∙◌, ℕ, ◌+◌, ◌<◌, ◌≤◌, suc, Bool, true, false, not, List, [], ◌∷◌, ◌++◌, length, map, nat_lt, refl, sym, ap, arith, append-nil, append_assoc, length-append, None, Ok}
use lib.Utf8.{encode}
use Rattle.std.specs.List.{list_all, join_with_byte}
use Rattle.std.specs.Char.{len_utf8}
use Rattle.std.specs.Str.{chars}
use Rattle.std.proofs.lemmas.Bool.{and_parts}
use Rattle.std.proofs.lemmas.Bool.Decides.{nat_tests}
use Rattle.std.proofs.lemmas.Str.{chars-encodes}
use Rattle.termwiz_bindings.specs.declared.press.KeyPress.{KeyPress}
use Rattle.termwiz_bindings.specs.Names.{between_brackets, last_press, worded_press, read_key, printed}
use Rattle.termwiz_bindings.specs.ChordNames.{is_blank, is_refused, control_at, with_key, read_keys, read, printed_chord}
use Rattle.termwiz_bindings.specs.PressLaws.{report_of_press}
use Rattle.termwiz_bindings.proofs.lemmas.SettledPresses.{canonical_is_press}
use Rattle.termwiz_bindings.proofs.lemmas.NamesRead.{IsSolid}
use Rattle.termwiz_bindings.proofs.lemmas.ShownTexts.{IsFine, IsFineText, IsShown, fine_append, press_shown}
use Rattle.termwiz_bindings.proofs.lemmas.PressesRead.{IsKeyPress, press_read}

-- ## The keys of a text

solid_stands : (b : ℕ) → IsSolid b ≡ true → is_blank b ≡ false
solid_stands b solid = grind (arith, nat_tests)

-- a key goes on where no blank stands
goes_on : (presses : List KeyPress) (at : ℕ) (key word rest : List ℕ) → list_all IsSolid word ≡ true
    → read_keys presses at key (word ++ rest) ≡ read_keys presses at (key ++ word) rest
unfolding read_keys
goes_on presses at key [] rest all = ap (λ k. read_keys presses at k rest) (sym (append-nil key))
goes_on presses at key (b ∷ word) rest all =
    let parts = and_parts (IsSolid b) (list_all IsSolid word) all in
    rw (solid_stands b parts.0) (
    goes_on presses at (key ++ b ∷ []) word rest parts.1
    ∙ ap (λ k. read_keys presses at k rest) (append_assoc key (b ∷ []) word))

-- one press more
no_empty_key : (at : ℕ) (p : KeyPress) → read_key at [] ≡ Ok p → ⊥
unfolding read_key between_brackets worded_press last_press
no_empty_key at p reads = cc

one_more : (presses : List KeyPress) (at : ℕ) (key : List ℕ) (p : KeyPress) → length presses < 32 → read_key at key ≡ Ok p
    → with_key presses at key ≡ Ok (presses ++ p ∷ [])
one_more presses at [] p few reads = absurd (no_empty_key at p reads)
one_more presses at (b ∷ key) p few reads =
    let room : nat_lt (length presses) 32 ≡ true = grind (arith, nat_tests) in
    rw (room, reads) refl

last_key : (presses : List KeyPress) (at : ℕ) (key : List ℕ) → read_keys presses at key [] ≡ with_key presses at key
unfolding read_keys
last_key presses at key = refl

next_key : (presses more : List KeyPress) (at : ℕ) (key rest : List ℕ) → with_key presses at key ≡ Ok more
    → read_keys presses at key (32 ∷ rest) ≡ read_keys more (at + length key + 1) [] rest
unfolding read_keys
next_key presses more at key rest is = rw is refl

-- ## The printed keys

-- each of them is a press
abbrev pub AllKeyPresses : List KeyPress → Type 0
AllKeyPresses [] = Unit {0}
AllKeyPresses (p ∷ ps) = IsKeyPress p × AllKeyPresses ps

shown : (p : KeyPress) → IsKeyPress p → IsShown (printed p)
shown p is = press_shown p (canonical_is_press (report_of_press p) p is.own).main.makes is.scalar is.byte

presses_read : (done : List KeyPress) (at : ℕ) (p : KeyPress) (ps : List KeyPress) → length done + suc (length ps) ≤ 32
    → IsKeyPress p → AllKeyPresses ps → read_keys done at [] (join_with_byte 32 (map printed (p ∷ ps))) ≡ Ok (done ++ p ∷ ps)
presses_read done at p [] few first rest =
    ap (read_keys done at []) (sym (append-nil (printed p)))
    ∙ goes_on done at [] (printed p) [] (shown p first).solid ∙ last_key done at (printed p)
    ∙ one_more done at (printed p) p (omega arith) (press_read at p first)
presses_read done at p (q ∷ ps) few first rest =
    goes_on done at [] (printed p) (32 ∷ join_with_byte 32 (map printed (q ∷ ps))) (shown p first).solid
    ∙ next_key done (done ++ p ∷ []) at (printed p) (join_with_byte 32 (map printed (q ∷ ps)))
    (one_more done at (printed p) p (omega arith) (press_read at p first))
    ∙ presses_read (done ++ p ∷ []) (at + length (printed p) + 1) q ps (omega (arith, length-append done (p ∷ []))) rest.0 rest.1
    ∙ ap Ok (append_assoc done (p ∷ []) (q ∷ ps))

-- ## Control characters

blank_fine : IsFineText (32 ∷ [])
unfolding encode
blank_fine = record { characters = 32 ∷ []; scalars = refl; spelled = refl; fine = refl }

chord_fine : (p : KeyPress) (ps : List KeyPress) → IsKeyPress p → AllKeyPresses ps → IsFineText (join_with_byte 32 (map printed (p ∷ ps)))
chord_fine p [] first rest = (shown p first).text
chord_fine p (q ∷ ps) first rest =
    fine_append (printed p) (32 ∷ join_with_byte 32 (map printed (q ∷ ps))) (shown p first).text
    (fine_append (32 ∷ []) (join_with_byte 32 (map printed (q ∷ ps))) blank_fine (chord_fine q ps rest.0 rest.1))

fine_stands : (c : ℕ) → IsFine c ≡ true → is_refused c ≡ false
fine_stands c fine = go (is_refused c) fine
  where
    go : (b : Bool) → not b ≡ true → b ≡ false
    go false is = refl
    go true is = cc

none_refused : (at : ℕ) (cs : List ℕ) → list_all IsFine cs ≡ true → control_at at cs ≡ None
unfolding control_at
none_refused at [] all = refl
none_refused at (c ∷ cs) all =
    let parts = and_parts (IsFine c) (list_all IsFine cs) all in
    rw (fine_stands c parts.0) (none_refused (at + len_utf8 c) cs parts.1)

no_control : (text : List ℕ) → IsFineText text → control_at 0 (chars text) ≡ None
no_control text is =
    let spelled : chars text ≡ is.characters = ap chars (sym is.spelled) ∙ chars-encodes is.characters is.scalars in
    ap (control_at 0) spelled ∙ none_refused 0 is.characters is.fine

-- ## The chord

pub chord_read : (p : KeyPress) (ps : List KeyPress) → suc (length ps) ≤ 32 → IsKeyPress p → AllKeyPresses ps
    → read (printed_chord (p ∷ ps)) ≡ Ok (p ∷ ps)
unfolding read printed_chord
chord_read p ps few first rest =
    rw (no_control (join_with_byte 32 (map printed (p ∷ ps))) (chord_fine p ps first rest), presses_read [] 0 p ps (omega arith) first rest) refl
