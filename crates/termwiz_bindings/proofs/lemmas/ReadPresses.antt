-- What is read is a press.
use Rattle.std.proofs.Common.{◌≡◌, ℕ, ◌+◌, Bool, true, false, not, ◌&&◌, List, [], ◌∷◌, ◌++◌, length, refl, sym, subst, lit<, Option, Some, None, Result, Ok, Err}
use Rattle.std.specs.Prelude.{if◌then◌else◌, is_some, IfOk}
use Rattle.std.specs.Option.{ok_or}
use Rattle.termwiz_extended_events.specs.declared.types.ReportedKey.{ReportedKey}
use Rattle.termwiz_bindings.specs.declared.press.KeyPress.{KeyPress}
use Rattle.termwiz_bindings.specs.declared.names.ReadError.{ReadError}
use Rattle.termwiz_bindings.specs.declared.names.ReadErrorKind.{ReadErrorKind}
use Rattle.termwiz_bindings.specs.declared.names.ReadErrorKind.TheVariants.{NotAKey, ShiftedCharacter}
use Rattle.termwiz_bindings.specs.declared.names.keys.Style.{Style}
use Rattle.termwiz_bindings.specs.declared.names.keys.Style.TheVariants.{Vim, Emacs}
use Rattle.termwiz_bindings.specs.Presses.{canonical, has_any}
use Rattle.termwiz_bindings.specs.PressLaws.{report_of_press}
use Rattle.termwiz_bindings.specs.Words.{modifier_of_word}
use Rattle.termwiz_bindings.specs.Names.{is_separator, is_empty, one_character, named_press, press_at, press_of, is_shifted_character, named_report, named_key, spelled_key, last_press, worded_press, with_modifier, modifier_before, lettered_press, lettered_name, emacs_key, between_brackets, begins_as_emacs, key_between, read_key}
use Rattle.termwiz_bindings.proofs.lemmas.SettledPresses.{presses_settle}
use Rattle.termwiz_bindings.proofs.lemmas.WordSteps as words
use Rattle.termwiz_bindings.proofs.lemmas.LetterSteps as letters

-- it is its own press
abbrev pub IsOwn : KeyPress → Type 0
IsOwn p = canonical (report_of_press p) ≡ Some p

abbrev pub ReadsOwn : Result KeyPress ReadError → Type 0
ReadsOwn result = IfOk result IsOwn

named_own : (held at : ℕ) (name : Result ReportedKey ReadErrorKind) → ReadsOwn (named_press held at name)
unfolding named_press press_of
named_own held at (Err kind) = tt
named_own held at (Ok key) = go (is_shifted_character key held)
  where
    found : (o : Option KeyPress) → canonical (named_report key held) ≡ o → ReadsOwn (press_at at (ok_or o NotAKey))
    found None is = tt
    found (Some p) is = presses_settle (named_report key held) p is

    go : (b : Bool) → ReadsOwn (press_at at (if b then Err ShiftedCharacter else ok_or (canonical (named_report key held)) NotAKey))
    go true = tt
    go false = found (canonical (named_report key held)) refl

last_own : (held at : ℕ) (name : List ℕ) → ReadsOwn (last_press held at name)
unfolding last_press
last_own held at [] = tt
last_own held at (b ∷ name) = named_own held at (named_key (b ∷ name))

worded_own : (held at : ℕ) (word rest : List ℕ) → ReadsOwn (worded_press held at word rest)
worded_own held at word [] = subst ReadsOwn (sym (words.at_end held at word)) (last_own held at word)
worded_own held at word (b ∷ rest) =
    go (not (is_empty word) && is_separator b) refl (worded_own held at (word ++ b ∷ []) rest)
    (λ modifier. worded_own (with_modifier held modifier) (at + length word + 1) [] rest)
  where
    unknown : (not (is_empty word) && is_separator b) ≡ true → modifier_of_word word ≡ None → (t : Bool)
        → is_some (one_character word) ≡ t → ReadsOwn (worded_press held at word (b ∷ rest))
    unknown is none true one = subst ReadsOwn (sym (words.behind_character held at b word rest is none one)) (last_own held at (word ++ b ∷ rest))
    unknown is none false one = subst ReadsOwn (sym (words.behind_unknown held at b word rest is none one)) tt

    known : (not (is_empty word) && is_separator b) ≡ true → (modifier : ℕ) → modifier_of_word word ≡ Some modifier → (t : Bool)
        → has_any held modifier ≡ t → ReadsOwn (worded_press (with_modifier held modifier) (at + length word + 1) [] rest)
        → ReadsOwn (worded_press held at word (b ∷ rest))
    known is modifier named true twice later = subst ReadsOwn (sym (words.behind_held held at b word rest is modifier named twice)) tt
    known is modifier named false new later = subst ReadsOwn (sym (words.behind_new held at b word rest is modifier named new)) later

    separated : (not (is_empty word) && is_separator b) ≡ true → (o : Option ℕ) → modifier_of_word word ≡ o
        → ((modifier : ℕ) → ReadsOwn (worded_press (with_modifier held modifier) (at + length word + 1) [] rest))
        → ReadsOwn (worded_press held at word (b ∷ rest))
    separated is None none later = unknown is none (is_some (one_character word)) refl
    separated is (Some modifier) named later = known is modifier named (has_any held modifier) refl (later modifier)

    go : (t : Bool) → (not (is_empty word) && is_separator b) ≡ t → ReadsOwn (worded_press held at (word ++ b ∷ []) rest)
        → ((modifier : ℕ) → ReadsOwn (worded_press (with_modifier held modifier) (at + length word + 1) [] rest))
        → ReadsOwn (worded_press held at word (b ∷ rest))
    go true is same later = separated is (modifier_of_word word) refl later
    go false is same later = subst ReadsOwn (sym (words.same_word held at b word rest is)) same

lettered_name_own : (style : Style) (held at : ℕ) (name : List ℕ) → ReadsOwn (lettered_name style held at name)
unfolding lettered_name
lettered_name_own style held at [] = tt
lettered_name_own Vim held at (b ∷ name) = named_own held at _
lettered_name_own Emacs held at (b ∷ name) = go (between_brackets (b ∷ name))
  where
    go : (o : Option (List ℕ)) → ReadsOwn (emacs_key held at (b ∷ name) o)
    go (Some word) = named_own held (at + 1) (spelled_key word)
    go None = named_own held at (named_key (b ∷ name))

lettered_own : (style : Style) (held at : ℕ) (name : List ℕ) → ReadsOwn (lettered_press style held at name)
lettered_own style held at [] = subst ReadsOwn (sym (letters.short_name style held at [] (lit< tt))) (lettered_name_own style held at [])
lettered_own style held at (b ∷ []) =
    subst ReadsOwn (sym (letters.short_name style held at (b ∷ []) (lit< tt))) (lettered_name_own style held at (b ∷ []))
lettered_own style held at (letter ∷ dash ∷ rest) =
    go (modifier_before style letter dash) refl (λ modifier. lettered_own style (with_modifier held modifier) (at + 2) rest)
  where
    known : (modifier : ℕ) → modifier_before style letter dash ≡ Some modifier → (last : Bool) → is_empty rest ≡ last
        → (t : Bool) → has_any held modifier ≡ t → ReadsOwn (lettered_press style (with_modifier held modifier) (at + 2) rest)
        → ReadsOwn (lettered_press style held at (letter ∷ dash ∷ rest))
    known modifier named true last t told later = subst ReadsOwn (sym (letters.last_letter style held at letter dash rest modifier named last)) tt
    known modifier named false more true twice later =
        subst ReadsOwn (sym (letters.held_letter style held at letter dash rest modifier named more twice)) tt
    known modifier named false more false new later =
        subst ReadsOwn (sym (letters.new_letter style held at letter dash rest modifier named more new)) later

    go : (o : Option ℕ) → modifier_before style letter dash ≡ o
        → ((modifier : ℕ) → ReadsOwn (lettered_press style (with_modifier held modifier) (at + 2) rest))
        → ReadsOwn (lettered_press style held at (letter ∷ dash ∷ rest))
    go None none later =
        subst ReadsOwn (sym (letters.no_letter style held at letter dash rest none)) (lettered_name_own style held at (letter ∷ dash ∷ rest))
    go (Some modifier) named later = known modifier named (is_empty rest) refl (has_any held modifier) refl (later modifier)

key_own : (at : ℕ) (text : List ℕ) → ReadsOwn (read_key at text)
unfolding read_key
key_own at text = go (between_brackets text)
  where
    plain : (b : Bool) → ReadsOwn (if b then lettered_press Emacs 0 at text else worded_press 0 at [] text)
    plain true = lettered_own Emacs 0 at text
    plain false = worded_own 0 at [] text

    go : (o : Option (List ℕ)) → ReadsOwn (key_between at text o)
    go (Some name) = lettered_own Vim 0 (at + 1) name
    go None = plain (begins_as_emacs text)

-- the press of a key's text
pub read_own : (at : ℕ) (text : List ℕ) (p : KeyPress) → read_key at text ≡ Ok p → IsOwn p
read_own at text p is = subst ReadsOwn is (key_own at text)
