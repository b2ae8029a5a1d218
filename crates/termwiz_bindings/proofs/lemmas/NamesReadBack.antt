-- The laws of names.
use Rattle.std.proofs.Common.{◌≡◌, ℕ, ◌+◌, ◌<◌, ◌≤◌, Bool, true, false, List, [], ◌∷◌, ◌++◌, length, nat_lt, refl, sym, subst, arith, length-append, Option, Some, None, Result, Ok, Err}
use Rattle.std.specs.Prelude.{if◌then◌else◌, IfOk}
use Rattle.std.specs.List.{All}
use Rattle.std.specs.Str.{chars}
use Rattle.std.proofs.lemmas.Bool.Decides.{nat_tests}
use Rattle.std.proofs.lemmas.List.Elements.{All-append, All-cons, All-head, All-nil, All-tail}
use Rattle.termwiz_keys.specs.declared.types.KeyCode.TheVariants.{Char, Function}
use Rattle.termwiz_extended_events.specs.declared.types.ReportedKey.{ReportedKey}
use Rattle.termwiz_extended_events.specs.declared.types.ReportedKey.TheVariants.{Named, Functional}
use Rattle.termwiz_bindings.specs.declared.press.KeyPress.{KeyPress}
use Rattle.termwiz_bindings.specs.declared.names.ReadError.{ReadError}
use Rattle.termwiz_bindings.specs.Codes.{IsKeyInRange, IsPress}
use Rattle.termwiz_bindings.specs.declared.names.ReadErrorKind.TheVariants.{TooLong}
use Rattle.termwiz_bindings.specs.Names.{error_at, read_key}
use Rattle.termwiz_bindings.specs.ChordNames.{is_blank, control_at, pushed, with_key, read_keys, some_presses, unless_refused, read}
use Rattle.termwiz_bindings.specs.NameLaws.{NamesReadBack, ReadsPresses, AreRead}
use Rattle.termwiz_bindings.proofs.lemmas.NamesRead.{HasScalar, HasByte}
use Rattle.termwiz_bindings.proofs.lemmas.PressesRead.{IsKeyPress}
use Rattle.termwiz_bindings.proofs.lemmas.ChordsRead.{AllKeyPresses, chord_read}
use Rattle.termwiz_bindings.proofs.lemmas.ChordSteps as steps
use Rattle.termwiz_bindings.proofs.lemmas.ReadPresses.{IsOwn, read_own}

-- ## What is printed is read back

has_scalar : (key : ReportedKey) → IsKeyInRange key → HasScalar key
has_scalar (Named (Char c)) inside = inside
has_scalar (Functional n) inside = tt
has_scalar (Named key) inside = tt

has_byte : (key : ReportedKey) → IsKeyInRange key → HasByte key
has_byte (Named (Function n)) inside = omega arith
has_byte (Functional n) inside = tt
has_byte (Named key) inside = tt

key_press : (p : KeyPress) → IsPress p → IsKeyPress p
key_press p is = record { own = is.own; scalar = has_scalar p.key is.in_range; byte = has_byte p.key is.in_range }

key_presses : (ps : List KeyPress) → All IsPress ps → AllKeyPresses ps
key_presses [] are = tt
key_presses (p ∷ ps) are = (key_press p (All-head IsPress p ps are), key_presses ps (All-tail IsPress p ps are))

pub names_read_back : NamesReadBack
names_read_back [] some is = absurd (omega arith)
names_read_back (p ∷ ps) some is =
    chord_read p ps is.few (key_press p (All-head IsPress p ps is.presses)) (key_presses ps (All-tail IsPress p ps is.presses))

-- ## What is read are presses

-- some presses, not too many, each its own
record AreOwn (ps : List KeyPress) : Type 0 where
  few : length ps ≤ 32
  own : All IsOwn ps

abbrev ReadsOwn : Result (List KeyPress) ReadError → Type 0
ReadsOwn result = IfOk result AreOwn

key_own : (ps : List KeyPress) (at : ℕ) (key : List ℕ) → AreOwn ps → ReadsOwn (with_key ps at key)
key_own ps at [] are = are
key_own ps at (b ∷ key) are = go (nat_lt (length ps) 32) refl (read_key at (b ∷ key)) refl
  where
    go : (t : Bool) → nat_lt (length ps) 32 ≡ t → (r : Result KeyPress ReadError) → read_key at (b ∷ key) ≡ r
        → ReadsOwn (if t then pushed ps r else Err (error_at TooLong at))
    go false full r is = tt
    go true room (Err error) is = tt
    go true room (Ok p) is =
        let less : length ps < 32 = grind (arith, nat_tests) in
        record {
          few = omega (arith, length-append ps (p ∷ []));
          own = All-append IsOwn ps (p ∷ []) are.own (All-cons IsOwn p [] (read_own at (b ∷ key) p is) (All-nil IsOwn));
        }

keys_own : (ps : List KeyPress) (at : ℕ) (key rest : List ℕ) → AreOwn ps → ReadsOwn (read_keys ps at key rest)
keys_own ps at key [] are = subst ReadsOwn (sym (steps.at_end ps at key)) (key_own ps at key are)
keys_own ps at key (b ∷ rest) are =
    go (is_blank b) refl (keys_own ps at (key ++ b ∷ []) rest are)
    (λ more are_more. keys_own more (at + length key + 1) [] rest are_more)
  where
    found : is_blank b ≡ true → (r : Result (List KeyPress) ReadError) → with_key ps at key ≡ r → ReadsOwn r
        → ((more : List KeyPress) → AreOwn more → ReadsOwn (read_keys more (at + length key + 1) [] rest))
        → ReadsOwn (read_keys ps at key (b ∷ rest))
    found is (Err error) wrong own later = subst ReadsOwn (sym (steps.behind_wrong ps error at b key rest is wrong)) tt
    found is (Ok more) keyed own later = subst ReadsOwn (sym (steps.behind_key ps more at b key rest is keyed)) (later more own)

    go : (t : Bool) → is_blank b ≡ t → ReadsOwn (read_keys ps at (key ++ b ∷ []) rest)
        → ((more : List KeyPress) → AreOwn more → ReadsOwn (read_keys more (at + length key + 1) [] rest))
        → ReadsOwn (read_keys ps at key (b ∷ rest))
    go true is same later = found is (with_key ps at key) refl (key_own ps at key are) later
    go false is same later = subst ReadsOwn (sym (steps.same_key ps at b key rest is)) same

none_own : AreOwn []
none_own = record { few = omega arith; own = All-nil IsOwn }

abbrev Reads : Result (List KeyPress) ReadError → Type 0
Reads result = IfOk result AreRead

some_own : (r : Result (List KeyPress) ReadError) → ReadsOwn r → Reads (some_presses r)
some_own (Err error) own = tt
some_own (Ok []) own = tt
some_own (Ok (p ∷ ps)) own = record { some = omega arith; few = own.few; own = own.own }

read_presses : (text : List ℕ) → Reads (read text)
unfolding read
read_presses text = go (control_at 0 (chars text))
  where
    go : (o : Option ℕ) → Reads (unless_refused o (some_presses (read_keys [] 0 [] text)))
    go (Some at) = tt
    go None = some_own (read_keys [] 0 [] text) (keys_own [] 0 [] text none_own)

pub reads_presses : ReadsPresses
reads_presses text chord is = subst Reads is (read_presses text)
