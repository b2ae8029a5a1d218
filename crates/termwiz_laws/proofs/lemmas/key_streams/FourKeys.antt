-- The keys that read back and whose texts may go on are Escape, Escape with ALT, the bracket with ALT and the letter O with ALT.
use Rattle.std.proofs.Common.{◌≡◌, ◌≢◌, ◌∙◌, ◌⊎◌, inl, inr, ℕ, zero, suc, Bool, true, false, List, [], ◌∷◌, ◌++◌, length, map, refl, sym, ap, subst, arith, Some, None, Contains, lit<}
use Rattle.std.proofs.lemmas.Bool.{and_right}
use Rattle.std.specs.Prelude.{if◌then◌else◌}
use Rattle.std.specs.Char.{encode_utf8}
use Rattle.termwiz_keys.specs.declared.types.KeyCode.{KeyCode}
use Rattle.termwiz_keys.specs.declared.types.KeyCode.TheVariants.{Char, Escape}
use Rattle.termwiz_keys.specs.declared.types.KeyEvent.{KeyEvent}
use Rattle.termwiz_keys.specs.declared.types.InputEvent.TheVariants.{Key}
use Rattle.termwiz_keys.specs.declared.encode.KeyboardEncoding.TheVariants.{Xterm}
use Rattle.termwiz_keys.specs.declared.encode.KeyCodeEncodeModes.{KeyCodeEncodeModes}
use Rattle.termwiz_keys.specs.Encoding.{enc, is_csi_u, key_text, normal_key, normal_held, shows_shift, named_key, char_text, plain_char_text, other_text, other_keys_form, escape_text, sends_code}
use Rattle.termwiz_keys.specs.KeyCodes.{shifted}
use Rattle.termwiz_keys.specs.Introducers.{ESC, CSI, SS3}
use Rattle.termwiz_keys.specs.Keys.{NONE, ALT, escape, plain, with_alt, key_with}
use Rattle.termwiz_grammar.specs.Sequences.{IsSequence}
use Rattle.termwiz_grammar.specs.Sequences.Meaning.{Row}
use Rattle.termwiz_grammar.specs.Grammar.{IsBeginning, Means, replacement}
use Rattle.termwiz_grammar.specs.Laws.{BeginsRow, IsHeldEscape}
use Rattle.termwiz_grammar.specs.Listed.IsListedAt.{alt_character}
use Rattle.termwiz_grammar.specs.Pauses.{joined}
use Rattle.termwiz_grammar.proofs.lemmas.table.RowShape.{three_beginnings}
use Rattle.termwiz_grammar.proofs.lemmas.table.SequenceFacts.{sequence_once, escape_is_sequence}
use Rattle.termwiz_grammar.proofs.lemmas.waiting.RestKinds.{alone}
use Rattle.termwiz_grammar.proofs.lemmas.read_back.WholeTexts.{row_means}
use Rattle.termwiz_grammar.proofs.lemmas.cuts.ChunkInvariance.{cut_independent}
use Rattle.termwiz_laws.specs.KeyStreams.{DoesReadBack, Press, IsListedPress, Sends, event_of, MayGoOn, NeedsFlush, keys_that_need_a_flush, FewNeedFlush, IsReadAtOnce, JoinedTextsReadBack}
use Rattle.termwiz_laws.proofs.lemmas.shared_texts.TwinKeys.{sent_means, read_once}
use Rattle.termwiz_laws.proofs.lemmas.key_streams.EachFlushed.{listed_reads_back, true_of_each}
use Rattle.termwiz_laws.proofs.lemmas.key_streams.NoFlush.{going_on_waits, means_at_once, joined_at_once}
use Rattle.termwiz_laws.proofs.lemmas.key_streams.OneKeyTexts.{OneKey, one_key}
use Rattle.termwiz_laws.proofs.lemmas.key_streams.OneKeyTexts.OneKey.{itself, after_escape, broken_byte, broken_after_escape}

-- a character with ALT, in modes in which nothing is on
abbrev with_alt_held : ℕ → Press
with_alt_held c = record {
  key = Char c;
  modifiers = record { 0 = ALT };
  modes = record { encoding = Xterm; application_cursor_keys = false; newline_mode = false; modify_other_keys = None };
}

-- what the four keys send, in all modes
escape_sends : (modes : KeyCodeEncodeModes) → enc Escape (record { 0 = NONE }) modes ≡ Some ESC
unfolding enc key_text normal_key normal_held shows_shift named_key shifted escape_text
escape_sends modes = refl

alt_escape_sends : (modes : KeyCodeEncodeModes) → enc Escape (record { 0 = ALT }) modes ≡ Some (ESC ++ ESC)
unfolding enc key_text normal_key normal_held shows_shift named_key shifted escape_text
alt_escape_sends modes = refl

alt_bracket_sends : (modes : KeyCodeEncodeModes) → enc (Char 91) (record { 0 = ALT }) modes ≡ Some CSI
unfolding enc key_text normal_key normal_held shows_shift named_key shifted char_text plain_char_text encode_utf8
alt_bracket_sends modes = refl

alt_letter_sends : (modes : KeyCodeEncodeModes) → enc (Char 79) (record { 0 = ALT }) modes ≡ Some SS3
unfolding enc key_text normal_key normal_held shows_shift named_key shifted char_text plain_char_text encode_utf8
alt_letter_sends modes = refl

bracket_means : Means CSI false (Key (key_with (Char 91) ALT) ∷ []) []
bracket_means =
    sent_means (with_alt_held 91) CSI
    (listed_reads_back (with_alt_held 91) (record { xterm = refl; newline = refl; line = alt_character 91 None refl }))
    (alt_bracket_sends _)

letter_means : Means SS3 false (Key (key_with (Char 79) ALT) ∷ []) []
letter_means =
    sent_means (with_alt_held 79) SS3
    (listed_reads_back (with_alt_held 79) (record { xterm = refl; newline = refl; line = alt_character 79 None refl }))
    (alt_letter_sends _)

-- a key of the four
abbrev IsOneOfFour : KeyEvent → Type 0
IsOneOfFour k = Contains keys_that_need_a_flush (k.key, k.modifiers.0)

as_pair : (j k : KeyEvent) → j ≡ k → IsOneOfFour j → IsOneOfFour k
as_pair j k same four = subst IsOneOfFour same four

-- a row of the three that begin others, with its key
key_of_row : (s : List ℕ) (j : KeyEvent) → IsSequence s (Row j) → (s ≡ ESC) ⊎ (s ≡ CSI) ⊎ (s ≡ SS3)
    → (j ≡ escape) ⊎ (j ≡ key_with (Char 91) ALT) ⊎ (j ≡ key_with (Char 79) ALT)
unfolding IsSequence
key_of_row s j row (inl e) =
    inl (let same : Row j ≡ Row escape =
    sequence_once ESC (Row j) (Row escape) (subst (λ t. IsSequence t (Row j)) e row) escape_is_sequence in cc (same))
key_of_row s j row (inr (inl e)) =
    inr (inl (read_once CSI j (key_with (Char 91) ALT)
    (row_means CSI j (subst (λ t. IsSequence t (Row j)) e row) (λ h. cc (h))) bracket_means))
key_of_row s j row (inr (inr e)) =
    inr (inr (read_once SS3 j (key_with (Char 79) ALT)
    (row_means SS3 j (subst (λ t. IsSequence t (Row j)) e row) (λ h. cc (h))) letter_means))

-- what each of the three texts means
key_of_text : (text : List ℕ) (k : KeyEvent) → Means text false (Key k ∷ []) [] → (text ≡ ESC) ⊎ (text ≡ CSI) ⊎ (text ≡ SS3)
    → IsOneOfFour k
key_of_text text k means (inl e) =
    as_pair escape k (read_once ESC escape k alone (subst (λ t. Means t false (Key k ∷ []) []) e means)) (0, lit< tt, refl)
key_of_text text k means (inr (inl e)) =
    as_pair (key_with (Char 91) ALT) k
    (read_once CSI (key_with (Char 91) ALT) k bracket_means (subst (λ t. Means t false (Key k ∷ []) []) e means))
    (2, lit< tt, refl)
key_of_text text k means (inr (inr e)) =
    as_pair (key_with (Char 79) ALT) k
    (read_once SS3 (key_with (Char 79) ALT) k letter_means (subst (λ t. Means t false (Key k ∷ []) []) e means))
    (3, lit< tt, refl)

key_after_escape : (j k : KeyEvent) → k ≡ with_alt j
    → (j ≡ escape) ⊎ (j ≡ key_with (Char 91) ALT) ⊎ (j ≡ key_with (Char 79) ALT)
    → IsOneOfFour k
key_after_escape j k e (inl h) = as_pair (key_with Escape ALT) k (sym (e ∙ ap with_alt h)) (1, lit< tt, refl)
key_after_escape j k e (inr (inl h)) = as_pair (key_with (Char 91) ALT) k (sym (e ∙ ap with_alt h)) (2, lit< tt, refl)
key_after_escape j k e (inr (inr h)) = as_pair (key_with (Char 79) ALT) k (sym (e ∙ ap with_alt h)) (3, lit< tt, refl)

-- U+FFFD sends its three bytes, alone, and with ALT those after an ESC or more
replacement_sends : (modes : KeyCodeEncodeModes)
    → enc (Char replacement) (record { 0 = NONE }) modes ≡ Some (encode_utf8 replacement)
unfolding enc key_text normal_key normal_held shows_shift named_key shifted char_text plain_char_text encode_utf8
replacement_sends modes = refl

alt_replacement_sends : (modes : KeyCodeEncodeModes)
    → enc (Char replacement) (record { 0 = ALT }) modes ≡ Some (other_text replacement ALT modes)
unfolding enc key_text normal_key normal_held shows_shift named_key shifted char_text plain_char_text
alt_replacement_sends modes = refl

long_replacement : length (encode_utf8 replacement) ≡ 3
unfolding encode_utf8
long_replacement = refl

long_with_alt : (modes : KeyCodeEncodeModes) → length (other_text replacement ALT modes) ≢ 2
unfolding other_text encode_utf8
long_with_alt modes = rw (and_right (is_csi_u modes.encoding) false refl) (go (sends_code modes.modify_other_keys replacement))
  where
    go : (b : Bool)
        → length (if b then other_keys_form replacement ALT else ESC ++ encode_utf8 replacement) ≢ 2
    go true e = cc (e)
    go false e = cc (e)

-- the text is sent for the key
sent_length : (press : Press) (text : List ℕ) (k : KeyEvent) → Sends press text
    → k ≡ record { key = press.key; modifiers = press.modifiers }
    → enc k.key k.modifiers press.modes ≡ Some text
sent_length press text k sends same = subst (λ (j : KeyEvent). enc j.key j.modifiers press.modes ≡ Some text) (sym same) sends

-- the text of a key that reads back, if it may go on, is that of one of the four
pub four_go_on : (press : Press) (text : List ℕ) → DoesReadBack press → Sends press text → MayGoOn text → NeedsFlush press
four_go_on press text is sends on =
    go (record { key = press.key; modifiers = press.modifiers }) refl
    (one_key text (record { key = press.key; modifiers = press.modifiers }) (sent_means press text is sends) on)
  where
    go : (k : KeyEvent) → k ≡ record { key = press.key; modifiers = press.modifiers } → OneKey text k → NeedsFlush press
    go k same (itself three) =
        key_of_text text (record { key = press.key; modifiers = press.modifiers }) (sent_means press text is sends) three
    go k same (after_escape s j row three e) =
        subst IsOneOfFour same (key_after_escape j k e (key_of_row s j row three))
    go k same (broken_byte e l) =
        let here : enc (Char replacement) (record { 0 = NONE }) press.modes ≡ Some text =
        sent_length press text (plain replacement) sends (sym e ∙ same) in
        let bytes : encode_utf8 replacement ≡ text =
        (let s : Some (encode_utf8 replacement) ≡ Some text = sym (replacement_sends press.modes) ∙ here in cc (s)) in
        absurd (omega (arith, ap length bytes, long_replacement, l))
    go k same (broken_after_escape e l) =
        let here : enc (Char replacement) (record { 0 = ALT }) press.modes ≡ Some text =
        sent_length press text (with_alt (plain replacement)) sends (sym e ∙ same) in
        let bytes : other_text replacement ALT press.modes ≡ text =
        (let s : Some (other_text replacement ALT press.modes) ≡ Some text = sym (alt_replacement_sends press.modes) ∙ here
        in cc (s)) in
        absurd (long_with_alt press.modes (ap length bytes ∙ l))

-- the three rows begin others
row_beginning : (text : List ℕ) → BeginsRow text → IsBeginning text
unfolding IsSequence
row_beginning text b = inl (record { tail = b.2; longer = b.4; meaning = Row b.1; is_sequence = b.5 })

escape_beginning : IsBeginning ESC
escape_beginning = row_beginning ESC ((three_beginnings ESC).1 (inl refl))

goes_on : (held bytes : List ℕ) → IsHeldEscape held → bytes ≢ [] → IsBeginning bytes → MayGoOn (held ++ bytes)
goes_on held bytes is some b =
    record { held = held; bytes = bytes; is_held = is; some = some; splits = refl; beginning = b }

escape_goes_on : MayGoOn ESC
escape_goes_on = goes_on [] ESC (inl refl) (λ h. cc (h)) escape_beginning

alt_escape_goes_on : MayGoOn (ESC ++ ESC)
alt_escape_goes_on = goes_on ESC ESC (inr refl) (λ h. cc (h)) escape_beginning

bracket_goes_on : MayGoOn CSI
bracket_goes_on = goes_on [] CSI (inl refl) (λ h. cc (h)) (row_beginning CSI ((three_beginnings CSI).1 (inr (inl refl))))

letter_goes_on : MayGoOn SS3
letter_goes_on = goes_on [] SS3 (inl refl) (λ h. cc (h)) (row_beginning SS3 ((three_beginnings SS3).1 (inr (inr refl))))

-- the text of one of the four, as it was computed
text_goes_on : (press : Press) (key : KeyCode) (held : ℕ) (text sent : List ℕ)
    → ◌≡◌ {A = KeyCode × ℕ} (key, held) (press.key, press.modifiers.0)
    → Sends press text → enc key (record { 0 = held }) press.modes ≡ Some sent → MayGoOn sent → MayGoOn text
text_goes_on press key held text sent same sends computed on =
    let pair : enc key (record { 0 = held }) press.modes ≡ Some text =
    subst (λ (p : KeyCode × ℕ). enc p.0 (record { 0 = p.1 }) press.modes ≡ Some text) (sym same) sends in
    let bytes : sent ≡ text = (let e : Some sent ≡ Some text = sym computed ∙ pair in cc (e)) in
    subst MayGoOn bytes on

pub needs_flush_goes_on : (press : Press) (text : List ℕ) → Sends press text → NeedsFlush press → MayGoOn text
needs_flush_goes_on press text sends (zero, l, e) =
    text_goes_on press Escape NONE text ESC e sends (escape_sends press.modes) escape_goes_on
needs_flush_goes_on press text sends (suc zero, l, e) =
    text_goes_on press Escape ALT text (ESC ++ ESC) e sends (alt_escape_sends press.modes) alt_escape_goes_on
needs_flush_goes_on press text sends (suc (suc zero), l, e) =
    text_goes_on press (Char 91) ALT text CSI e sends (alt_bracket_sends press.modes) bracket_goes_on
needs_flush_goes_on press text sends (suc (suc (suc zero)), l, e) =
    text_goes_on press (Char 79) ALT text SS3 e sends (alt_letter_sends press.modes) letter_goes_on
needs_flush_goes_on press text sends (suc (suc (suc (suc i))), l, e) = absurd (omega arith)

-- the text of any other one means it at once
pub others_at_once : (press : Press) (text : List ℕ) → IsReadAtOnce DoesReadBack press → Sends press text
    → Means text true (event_of press ∷ []) []
others_at_once press text is sends =
    means_at_once text (event_of press) (sent_means press text is.0 sends)
    (λ on. is.1 (four_go_on press text is.0 sends on))

pub few_need_flush : FewNeedFlush DoesReadBack
few_need_flush press text is sends = (
  (four_go_on press text is sends, needs_flush_goes_on press text sends),
  λ four. going_on_waits text (needs_flush_goes_on press text sends four),
  λ other. others_at_once press text (is, other) sends,
)

pub few_listed_need_flush : FewNeedFlush IsListedPress
few_listed_need_flush press text is sends = few_need_flush press text (listed_reads_back press is) sends

pub joined_texts_read_back : JoinedTextsReadBack DoesReadBack
joined_texts_read_back presses texts are send = (
  joined_at_once presses texts others_at_once are send,
  λ last text is sends. cut_independent (joined texts) text [] [] (map event_of presses) (event_of last ∷ []) false
      (joined_at_once presses texts others_at_once are send true) (sent_means last text is sends),
)

pub joined_listed_read_back : JoinedTextsReadBack IsListedPress
joined_listed_read_back presses texts are send =
    let it = joined_texts_read_back presses texts (true_of_each (IsReadAtOnce IsListedPress) (IsReadAtOnce DoesReadBack)
    (λ press h. (listed_reads_back press h.0, h.1)) presses are) send in
    (it.0, λ last text is sends. it.1 last text (listed_reads_back last is) sends)
