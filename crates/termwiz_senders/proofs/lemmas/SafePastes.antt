-- A text made safe has no ESC, so it can't end its paste.
use Rattle.std.proofs.Common.{◌≡◌, ◌≢◌, inl, inr, ⊎_elim, ℕ, ◌<◌, ◌≤◌, Bool, true, false, List, [], ◌∷◌, ◌++◌, refl, sym, ap, ◌∙◌, subst, arith, append_assoc, append-nil}
use Rattle.std.specs.Prelude.{All, encode_utf8_all, IsUtf8}
use Rattle.std.specs.Char.{IsScalar, encode_utf8}
use Rattle.std.specs.Str.{chars, all_scalars}
use Rattle.std.specs.Str.Lossy.{utf8_lossy}
use Rattle.std.proofs.lemmas.Bool.{and_parts}
use Rattle.std.proofs.lemmas.List.Elements.{All-head, All-tail}
use Rattle.std.proofs.lemmas.Str.{chars-encodes, utf8_lossy-IsUtf8}
use Rattle.termwiz_keymap.specs.Bytes.{Occurs}
use Rattle.termwiz_keymap.proofs.lemmas.lists.CommonPrefixes.{true_at_end, true_from}
use Rattle.termwiz_keys.specs.Introducers.{START, END}
use Rattle.termwiz_keys.specs.declared.types.InputEvent.TheVariants.{Paste as PortsPaste}
use Rattle.termwiz_grammar.specs.Grammar as port
use Rattle.termwiz_grammar.specs.Grammar.{EndsFirst}
use Rattle.termwiz_laws.specs.PasteEvents.{pasted}
use Rattle.termwiz_laws.proofs.lemmas.paste_events.NoBorder.{free_of_end}
use Rattle.termwiz_laws.proofs.lemmas.paste_events.OnePaste as laws
use Rattle.termwiz_extended_events.specs.declared.types.Event.TheVariants.{Paste}
use Rattle.termwiz_extended_events.specs.declared.types.Reading.{Reading}
use Rattle.termwiz_extended_grammar.specs.ExtendedGrammar as extended
use Rattle.termwiz_extended_grammar.proofs.lemmas.items.ExtendedRests.{empty_is_rest}
use Rattle.termwiz_extended_grammar.proofs.lemmas.cuts.PastesStand.{paste_in_stream}
use Rattle.termwiz_extended_grammar.proofs.lemmas.forms.FormBytes.{all_append}
use Rattle.termwiz_kitty.proofs.lemmas.typed.NoEscape.{HasNoEscape, IsOrdinary, IsUndecided, ordinary_no_escape}
use Rattle.termwiz_kitty.proofs.lemmas.typed.TypedCharacters.{text_character}
use Rattle.termwiz_laws.specs.BrokenBytes.{GoesOn}
use Rattle.termwiz_laws.specs.PlainTexts.{IsTextCharacter}
use Rattle.termwiz_laws.proofs.lemmas.first_bytes.EncodedBytes.{IsSeveral, encode_forms}
use Rattle.termwiz_senders.specs.Pastes.{characters, safe, safe_text}
use Rattle.termwiz_senders.specs.PasteLaws.{IsSafe, OnePaste, OnePasteExtended, PasteStands, PasteStandsExtended, SafeOnce}
use Rattle.termwiz_senders.proofs.lemmas.SafeFronts.{characters_are_scalars}
use Rattle.termwiz_senders.proofs.lemmas.SafeCharacters.{all_safe, all_kept, safe_scalars}

-- no byte of it is ESC, and no reading decides one
goes_on : (b : ℕ) → GoesOn b → (b ≢ 27) × IsUndecided b
goes_on b on =
    ((λ same. omega (arith, on.0)), ((λ same. omega (arith, on.0)), (λ same. omega (arith, on.0)), (λ same. omega (arith, on.0))))

several_ordinary : (u : List ℕ) → IsSeveral u → IsOrdinary u
several_ordinary [] s = tt
several_ordinary (x ∷ t) s = (
  ((λ same. omega (arith, s.0)), ((λ same. omega (arith, s.0)), (λ same. omega (arith, s.0)), (λ same. omega (arith, s.0)))),
  true_from GoesOn (λ b. (b ≢ 27) × IsUndecided b) goes_on t s.3,
)

text_character_ordinary : (c : ℕ) → IsTextCharacter c → IsOrdinary (encode_utf8 c)
text_character_ordinary c is = ⊎_elim
    (λ (one : (c < 128) × (encode_utf8 c ≡ c ∷ [])). subst IsOrdinary (sym one.1) (
      (
        other 27 (omega arith) (omega arith),
        (other 8 (omega arith) (omega arith), other 10 (omega arith) (omega arith), is.2),
      ),
      tt,
    ))
    (λ (several : IsSeveral (encode_utf8 c)). several_ordinary (encode_utf8 c) several)
    (encode_forms c is.0)
  where
    other : (b : ℕ) → 0 < b → b < 28 → c ≢ b
    other b some low same = ⊎_elim (λ (zero : c ≡ 0). omega (arith, some, same)) (λ (high : 28 ≤ c). omega (arith, low, same)) is.1

pub safe_ordinary : (c : ℕ) → IsScalar c → IsSafe c → IsOrdinary (encode_utf8 c)
unfolding encode_utf8
safe_ordinary c scalar (inl tab) = rw tab (((λ e. omega arith), ((λ e. omega arith), (λ e. omega arith), (λ e. omega arith))), tt)
safe_ordinary c scalar (inr (inl line_end)) = rw line_end (((λ e. omega arith), ((λ e. omega arith), (λ e. omega arith), (λ e. omega arith))), tt)
safe_ordinary c scalar (inr (inr none)) = text_character_ordinary c (text_character c scalar none)

pub all_ordinary : (cs : List ℕ) → all_scalars cs ≡ true → All IsSafe cs → IsOrdinary (encode_utf8_all cs)
all_ordinary [] scalars are = tt
all_ordinary (c ∷ cs) scalars are =
    let both = and_parts _ (all_scalars cs) scalars in
    all_append (λ b. (b ≢ 27) × IsUndecided b) (encode_utf8 c) (encode_utf8_all cs) (safe_ordinary c both.0 (All-head IsSafe c cs are))
    (all_ordinary cs both.1 (All-tail IsSafe c cs are))

pub safe_characters : (text : List ℕ) → all_scalars (safe (characters text)) ≡ true
safe_characters text = safe_scalars (characters text) (characters_are_scalars text)

text_no_escape : (text : List ℕ) → HasNoEscape (safe_text text)
unfolding safe_text
text_no_escape text = ordinary_no_escape (safe_text text) (all_ordinary (safe (characters text)) (safe_characters text) (all_safe (characters text)))

no_end : (body : List ℕ) → HasNoEscape body → Occurs END body → ⊥
no_end body none (before, after, e) = (true_at_end (λ b. b ≢ 27) before (END ++ after) (subst HasNoEscape (e ∙ append_assoc before END after) none)).0 refl

ends_first : (text : List ℕ) → EndsFirst (safe_text text)
ends_first text = (free_of_end (safe_text text)).1 (no_end (safe_text text) (text_no_escape text))

-- it is UTF-8, so it is read as it is
is_utf8 : (text : List ℕ) → IsUtf8 (safe_text text)
unfolding safe_text
is_utf8 text = (safe (characters text), (safe_characters text, refl))

read_whole : (text : List ℕ) → utf8_lossy (safe_text text) ≡ safe_text text
read_whole text = utf8_lossy-IsUtf8 (safe_text text) (is_utf8 text)

pub one_paste : OnePaste
one_paste text more = subst (λ s. port.Means (pasted (safe_text text)) more (PortsPaste s ∷ []) []) (read_whole text)
    (laws.paste_alone (safe_text text) more (ends_first text))

pub paste_stands : PasteStands
paste_stands T text S W E D more before after =
    subst (λ s. port.Means (T ++ pasted (safe_text text) ++ S) more (E ++ PortsPaste s ∷ D) W) (read_whole text)
    (laws.paste_in_stream T (safe_text text) S W E D more (ends_first text) before after)

pub paste_stands_extended : PasteStandsExtended
paste_stands_extended reading T text S W E D more before after =
    let body = safe_text text in
    let whole : T ++ pasted body ++ S ≡ T ++ (START ++ (body ++ END ++ S)) = simp append_assoc in
    subst (λ t. extended.Means reading t more (E ++ Paste body ∷ D) W) (sym whole)
    (subst (λ s. extended.Means reading (T ++ (START ++ (body ++ END ++ S))) more (E ++ Paste s ∷ D) W) (read_whole text)
    (paste_in_stream reading T body S W E D more (ends_first text) before after))

nothing_means : (reading : Reading) (more : Bool) → extended.Means reading [] more [] []
nothing_means reading more = record { steps = refl; rest = empty_is_rest reading more }

pub one_paste_extended : OnePasteExtended
one_paste_extended reading text more =
    subst (λ t. extended.Means reading t more (Paste (safe_text text) ∷ []) []) (append-nil (pasted (safe_text text)))
    (paste_stands_extended reading [] text [] [] [] [] more (nothing_means reading false) (nothing_means reading more))

characters_of_safe : (text : List ℕ) → characters (safe_text text) ≡ safe (characters text)
unfolding safe_text
characters_of_safe text = ap chars (read_whole text) ∙ chars-encodes (safe (characters text)) (safe_characters text)

pub safe_once : SafeOnce
unfolding safe_text
safe_once text =
    ap (λ cs. encode_utf8_all (safe cs)) (characters_of_safe text)
    ∙ ap encode_utf8_all (all_kept (safe (characters text)) (all_safe (characters text)))
