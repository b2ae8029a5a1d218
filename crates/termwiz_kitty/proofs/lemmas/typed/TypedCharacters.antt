-- A text without control characters means its characters.
use Rattle.std.proofs.Common.{◌≡◌, ◌≢◌, ◌⊎◌, inr, ⊎_elim, ℕ, ◌*◌, ◌<◌, ◌≤◌, Bool, true, false, ◌||◌, nat_le, List, [], ◌∷◌, map, refl, sym, ap, ap₂, ◌∙◌, subst, arith, append-nil, Option, Some, None}
use Rattle.std.specs.Prelude.{All, encode_utf8_all, if◌then◌else◌}
use Rattle.std.specs.List.{list_any}
use Rattle.std.specs.Char.{IsScalar, encode_utf8, is_control}
use Rattle.std.specs.Str.{chars, IsUtf8, all_scalars}
use Rattle.std.proofs.lemmas.Bool.{and_parts}
use Rattle.std.proofs.lemmas.Bool.Decides.{nat_tests}
use Rattle.std.proofs.lemmas.List.Elements.{All-nil, All-cons, All-head, All-tail}
use Rattle.std.proofs.lemmas.Str.{chars-encodes, encodes-chars, scalars-chars, IsUtf8-encode}
use Rattle.termwiz_keymap.proofs.lemmas.lists.CommonPrefixes.{true_from}
use Rattle.termwiz_keys.specs.Keys.{plain}
use Rattle.termwiz_keys.specs.declared.types.KeyCode.TheVariants.{Char}
use Rattle.termwiz_keys.specs.declared.types.KeyEvent.{KeyEvent}
use Rattle.termwiz_keys.specs.declared.types.InputEvent.TheVariants as input
use Rattle.termwiz_extended_events.specs.declared.types.Event.{Event}
use Rattle.termwiz_extended_events.specs.declared.types.Event.TheVariants.{Key, Mouse, Paste, FocusGained, FocusLost, CursorPosition, Resized, KeyboardFlags, Csi, Osc, Dcs, Apc, StringPart, StringCut}
use Rattle.termwiz_extended_events.specs.declared.types.KeyEventKind.{KeyEventKind}
use Rattle.termwiz_extended_events.specs.declared.types.KeyEventKind.TheVariants.{Press, Repeat, Release}
use Rattle.termwiz_extended_events.specs.declared.types.ReportedKey.{ReportedKey}
use Rattle.termwiz_extended_events.specs.declared.types.ReportedKey.TheVariants.{Named, Functional}
use Rattle.termwiz_extended_events.specs.PortEvents.{pressed_key, port_of, port_key_of, is_side_button, port_mouse}
use Rattle.termwiz_extended_grammar.specs.ExtendedLaws.{ArePorts}
use Rattle.termwiz_extended_events.specs.declared.types.Reading.{Reading}
use Rattle.termwiz_extended_grammar.specs.ExtendedGrammar.{Means}
use Rattle.termwiz_extended_grammar.proofs.lemmas.forms.FormBytes.{all_append}
use Rattle.termwiz_laws.specs.BrokenBytes.{GoesOn}
use Rattle.termwiz_laws.specs.PlainTexts.{IsTextCharacter, keys_of}
use Rattle.termwiz_laws.proofs.lemmas.first_bytes.EncodedBytes.{IsSeveral, encode_forms}
use Rattle.termwiz_laws.proofs.lemmas.plain_texts.CharactersInTurn.{plain_text_alone}
use Rattle.termwiz_kitty.specs.Telling.{has_control}
use Rattle.termwiz_kitty.specs.KittyLaws.{pressed}
use Rattle.termwiz_kitty.proofs.lemmas.typed.NoEscape.{IsUndecided, IsOrdinary, same_without_escape}

neither : (a b : Bool) → (a || b) ≡ false → (a ≡ false) × (b ≡ false)
neither false b e = (refl, e)
neither true b e = absurd (cc (e))

below_or_not : (a b : ℕ) → (a < b) ⊎ (b ≤ a)
below_or_not a b = grind arith

-- a character that is no control character begins no sequence
pub low_is_control : (c : ℕ) → c < 32 → is_control c ≡ true
low_is_control c h =
    let above : nat_le 0 c ≡ true = grind (arith, nat_tests) in
    let below : nat_le c 31 ≡ true = grind (arith, nat_tests) in
    rw (above, below) refl

pub text_character : (c : ℕ) → IsScalar c → is_control c ≡ false → IsTextCharacter c
text_character c scalar none = (
  scalar,
  ⊎_elim (λ (low : c < 32). absurd (let is : is_control c ≡ true = low_is_control c low in cc (is, none)))
      (λ (high : 32 ≤ c). inr (omega arith)) (below_or_not c 32),
  λ same. (let no : is_control 127 ≡ false = subst (λ x. is_control x ≡ false) same none in cc (no)),
)

text_characters : (cs : List ℕ) → all_scalars cs ≡ true → list_any is_control cs ≡ false → All IsTextCharacter cs
text_characters [] scalars none = All-nil IsTextCharacter
text_characters (c ∷ cs) scalars none =
    let are = and_parts _ (all_scalars cs) scalars in
    let no = neither (is_control c) (list_any is_control cs) none in
    All-cons IsTextCharacter c cs (text_character c are.0 no.0) (text_characters cs are.1 no.1)

-- a character that is sent as text
abbrev IsTyped : ℕ → Type 0
IsTyped c = IsScalar c × ((32 ≤ c) × (c ≢ 127))

is_typed : (c : ℕ) → IsScalar c → is_control c ≡ false → IsTyped c
is_typed c scalar none = (
  scalar,
  (
    ⊎_elim (λ (low : c < 32). absurd (let is : is_control c ≡ true = low_is_control c low in cc (is, none)))
        (λ (high : 32 ≤ c). high) (below_or_not c 32),
    λ same. (let no : is_control 127 ≡ false = subst (λ x. is_control x ≡ false) same none in cc (no)),
  ),
)

typed_characters : (cs : List ℕ) → all_scalars cs ≡ true → list_any is_control cs ≡ false → All IsTyped cs
typed_characters [] scalars none = All-nil IsTyped
typed_characters (c ∷ cs) scalars none =
    let are = and_parts _ (all_scalars cs) scalars in
    let no = neither (is_control c) (list_any is_control cs) none in
    All-cons IsTyped c cs (is_typed c are.0 no.0) (typed_characters cs are.1 no.1)

-- their bytes
abbrev IsOrdinaryByte : ℕ → Type 0
IsOrdinaryByte b = (b ≢ 27) × IsUndecided b

goes_on_ordinary : (b : ℕ) → GoesOn b → IsOrdinaryByte b
goes_on_ordinary b on =
    ((λ same. omega (arith, on.0)), ((λ same. omega (arith, on.0)), (λ same. omega (arith, on.0)), (λ same. omega (arith, on.0))))

several_ordinary : (u : List ℕ) → IsSeveral u → IsOrdinary u
several_ordinary [] s = tt
several_ordinary (x ∷ t) s = (
  ((λ same. omega (arith, s.0)), ((λ same. omega (arith, s.0)), (λ same. omega (arith, s.0)), (λ same. omega (arith, s.0)))),
  true_from GoesOn IsOrdinaryByte goes_on_ordinary t s.3,
)

character_ordinary : (c : ℕ) → IsTyped c → IsOrdinary (encode_utf8 c)
character_ordinary c is = ⊎_elim
    (λ (one : (c < 128) × (encode_utf8 c ≡ c ∷ [])). subst IsOrdinary (sym one.1)
    (((λ same. omega (arith, is.1.0)), ((λ same. omega (arith, is.1.0)), (λ same. omega (arith, is.1.0)), is.1.1)), tt))
    (λ (several : IsSeveral (encode_utf8 c)). several_ordinary (encode_utf8 c) several)
    (encode_forms c is.0)

characters_ordinary : (cs : List ℕ) → All IsTyped cs → IsOrdinary (encode_utf8_all cs)
characters_ordinary [] are = tt
characters_ordinary (c ∷ cs) are =
    all_append IsOrdinaryByte (encode_utf8 c) (encode_utf8_all cs)
    (character_ordinary c (All-head IsTyped c cs are))
    (characters_ordinary cs (All-tail IsTyped c cs are))

-- an event whose event of the port is a key without modifiers is the press of that key
report_of_plain : (kind : KeyEventKind) (shifted base : Option ℕ) (text : List ℕ) (key : ReportedKey) (held : ℕ) (k : KeyEvent)
    → k.modifiers.0 ≡ 0 → port_key_of kind shifted base text key held ≡ Some (input.Key k)
    → record { key = key; modifiers = held; kind = kind; shifted = shifted; base = base; text = text } ≡ pressed_key k
report_of_plain Press None None [] (Named key) held k bare e = go (nat_le held 15) e
  where
    go : (v : Bool) → (if v then Some (input.Key (record { key = key; modifiers = record { 0 = 2 * held } })) else None) ≡ Some (input.Key k)
        → record { key = Named key; modifiers = held; kind = Press; shifted = None; base = None; text = [] } ≡ pressed_key k
    go true h =
        let same : record { key = key; modifiers = record { 0 = 2 * held } } ≡ k = cc (h) in
        let none : 2 * held ≡ 0 = ap (λ (j : KeyEvent). j.modifiers.0) same ∙ bare in
        let zero : held ≡ 0 = omega arith in
        subst (λ j. record { key = Named key; modifiers = held; kind = Press; shifted = None; base = None; text = [] } ≡ pressed_key j) same
        (subst (λ n. record { key = Named key; modifiers = n; kind = Press; shifted = None; base = None; text = [] }
        ≡ pressed_key (record { key = key; modifiers = record { 0 = 2 * n } })) (sym zero) refl)
    go false h = cc (h)
report_of_plain Press None None [] (Functional n) held k bare e = cc (e)
report_of_plain Press None None (b ∷ text) key held k bare e = cc (e)
report_of_plain Press None (Some c) text key held k bare e = cc (e)
report_of_plain Press (Some c) base text key held k bare e = cc (e)
report_of_plain Repeat shifted base text key held k bare e = cc (e)
report_of_plain Release shifted base text key held k bare e = cc (e)

event_of_plain : (event : Event) (k : KeyEvent) → k.modifiers.0 ≡ 0 → port_of event ≡ Some (input.Key k)
    → event ≡ Key (pressed_key k)
event_of_plain (Key r) k bare e =
    ap Key (report_of_plain r.kind r.shifted r.base r.text r.key r.modifiers k bare e)
event_of_plain (Mouse r) k bare e = go (is_side_button r.button) e
  where
    go : (v : Bool) → (if v then None else Some (input.Mouse (port_mouse r))) ≡ Some (input.Key k) → Mouse r ≡ Key (pressed_key k)
    go true h = cc (h)
    go false h = cc (h)
event_of_plain (Paste text) k bare e = cc (e)
event_of_plain FocusGained k bare e = cc (e)
event_of_plain FocusLost k bare e = cc (e)
event_of_plain (CursorPosition row column) k bare e = cc (e)
event_of_plain (Resized r c h w) k bare e = cc (e)
event_of_plain (KeyboardFlags flags) k bare e = cc (e)
event_of_plain (Csi bytes) k bare e = cc (e)
event_of_plain (Osc bytes) k bare e = cc (e)
event_of_plain (Dcs bytes) k bare e = cc (e)
event_of_plain (Apc bytes) k bare e = cc (e)
event_of_plain (StringPart kind bytes) k bare e = cc (e)
event_of_plain (StringCut kind bytes) k bare e = cc (e)

keys_are_pressed : (cs : List ℕ) (D : List Event) → ArePorts D (keys_of cs) → D ≡ map (λ c. pressed (Char c)) cs
keys_are_pressed [] [] e = refl
keys_are_pressed [] (event ∷ D) e = cc (e)
keys_are_pressed (c ∷ cs) [] e = cc (e)
keys_are_pressed (c ∷ cs) (event ∷ D) e =
    ap₂ (λ d t. d ∷ t) (event_of_plain event (plain c) refl (cc (e))) (keys_are_pressed cs D (cc (e)))

pub characters_mean : (reading : Reading) (text : List ℕ) (more : Bool) → IsUtf8 text → has_control text ≡ false
    → Means reading text more (map (λ c. pressed (Char c)) (chars text)) []
characters_mean reading text more utf8 none =
    let are = text_characters (chars text) (scalars-chars text utf8) none in
    let same = same_without_escape reading (encode_utf8_all (chars text)) [] (keys_of (chars text)) more
    (characters_ordinary (chars text) (typed_characters (chars text) (scalars-chars text utf8) none)) (plain_text_alone (chars text) more are) in
    subst (λ t. Means reading t more (map (λ c. pressed (Char c)) (chars text)) []) (encodes-chars text utf8)
    (subst (λ E. Means reading (encode_utf8_all (chars text)) more E []) (keys_are_pressed (chars text) same.0 same.2) same.1)

-- one character
pub chars_of_one : (c : ℕ) → IsScalar c → chars (encode_utf8 c) ≡ c ∷ []
chars_of_one c scalar =
    ap chars (sym (append-nil (encode_utf8 c))) ∙ chars-encodes (c ∷ []) (let is : IsScalar c = scalar in rw is refl)

pub character_means : (reading : Reading) (c : ℕ) (more : Bool) → IsScalar c → is_control c ≡ false
    → Means reading (encode_utf8 c) more (map (λ d. pressed (Char d)) (chars (encode_utf8 c))) []
character_means reading c more scalar none = characters_mean reading (encode_utf8 c) more (IsUtf8-encode c scalar) no_control
  where
    no_control : has_control (encode_utf8 c) ≡ false
    no_control = rw (chars_of_one c scalar, none) refl
