-- The worked examples of press to press are cases of the law.
use Rattle.std.proofs.Common.{◌≡◌, inl, inr, ℕ, Bool, true, false, not, ◌==◌, List, [], ◌∷◌, ◌++◌, map, Some, refl, ap, ◌∙◌, Contains, lit<}
use Rattle.std.specs.Prelude.{codes}
use Rattle.std.specs.Fmt.{digits}
use Rattle.termwiz_keys.specs.Introducers.{ESC, START, END}
use Rattle.termwiz_keys.specs.Keys.{NONE}
use Rattle.termwiz_keys.specs.Encoding.{enc}
use Rattle.termwiz_keys.specs.declared.types.KeyCode.TheVariants.{Char, Escape}
use Rattle.termwiz_grammar.proofs.lemmas.lists.ListMembers.{same_on}
use Rattle.termwiz_laws.proofs.lemmas.further_keys.ComputedReadings.{enc_written_out}
use Rattle.termwiz_extended_events.specs.declared.types.Reading.{Reading}
use Rattle.termwiz_extended_events.specs.declared.types.Event.TheVariants.{CursorPosition, Paste}
use Rattle.termwiz_senders.specs.EventTexts.{position_text}
use Rattle.termwiz_senders.specs.Pastes.{paste_text, safe_text}
use Rattle.termwiz_senders.proofs.PasteExamples.{sent as paste_written_out}
use Rattle.termwiz_event_laws.specs.EventLaws.{waiting_texts}
use Rattle.termwiz_binding_laws.specs.EncodedPresses.{HasFirstSettings}
use Rattle.termwiz_binding_laws.specs.Twins.{twin_in}
use Rattle.termwiz_binding_laws.proofs.lemmas.ComputedPresses.{canonical_written_out}
use Rattle.termwiz_bindings.specs.Presses.{typed_text}
use Rattle.termwiz_press_laws.specs.PressRuns.{AreSent, ReadsTellWhatWasSent, Sending, told_of_all}
use Rattle.termwiz_press_laws.specs.PressRuns.IsFollowed.{at_once, by_pause}
use Rattle.termwiz_press_laws.specs.Things.{Told}
use Rattle.termwiz_press_laws.specs.Things.Told.{Received}
use Rattle.termwiz_press_laws.specs.WorkedPresses.{AreToldAs, AskedPosition, EscapeApart, PasteWithEnd, TwoInOrder, asked, cut_off, pasted_end, plain_modes, position, press, text_made_safe, text_with_end, two_keys, two_presses, with_question}

first : (questions : ℕ) → HasFirstSettings (asked questions)
first questions = record { reads = refl; erase = refl; newline = refl }

-- what the keys send, and what is told of them
a_sent : enc (Char 97) (record { 0 = NONE }) plain_modes ≡ Some (codes "a")
unfolding enc_written_out
a_sent = refl

b_sent : enc (Char 98) (record { 0 = NONE }) plain_modes ≡ Some (codes "b")
unfolding enc_written_out
b_sent = refl

escape_sent : enc Escape (record { 0 = NONE }) plain_modes ≡ Some ESC
unfolding enc_written_out
escape_sent = refl

bracket_sent : enc (Char 91) (record { 0 = NONE }) plain_modes ≡ Some (codes "[")
unfolding enc_written_out
bracket_sent = refl

capital_sent : enc (Char 65) (record { 0 = NONE }) plain_modes ≡ Some (codes "A")
unfolding enc_written_out
capital_sent = refl

two_told : told_of_all two_keys ≡ two_presses
unfolding canonical_written_out typed_text twin_in digits
two_told = refl

three_told : told_of_all cut_off ≡ press Escape ∷ press (Char 91) ∷ press (Char 65) ∷ []
unfolding canonical_written_out typed_text twin_in digits
three_told = refl

-- none of these texts waits
abbrev is_of_these : List ℕ → Bool
is_of_these [] = false
is_of_these (b ∷ []) = not (b == 27)
is_of_these (b ∷ c ∷ []) = false
is_of_these (b ∷ c ∷ d ∷ text) = true

none_waits : map is_of_these waiting_texts ≡ map (λ text. false) waiting_texts
none_waits = refl

never : (text : List ℕ) → is_of_these text ≡ true → ¬ Contains waiting_texts text
never text is waits = (let none : is_of_these text ≡ false = same_on is_of_these (λ t. false) waiting_texts text none_waits waits in cc (is, none))

-- the paste and the position
safe_is : safe_text text_with_end ≡ text_made_safe
unfolding paste_written_out
safe_is = refl

paste_is : START ++ text_made_safe ++ END ≡ paste_text text_with_end true
unfolding paste_written_out
paste_is = refl

position_is : ESC ++ codes "[1;2R" ≡ position_text 1 2 false
unfolding position_text digits
position_is = refl

module _ (reads_tell : ReadsTellWhatWasSent) where
  told_as : (reading : Reading) (sendings : List Sending) (told : List Told) → HasFirstSettings reading → AreSent reading sendings
      → told_of_all sendings ≡ told → AreToldAs reading sendings told
  told_as reading sendings told first are is = record {
    sent = are;
    tells = λ reads bring. let r = reads_tell reading reads sendings first are bring in (r.0, r.1, r.2 ∙ is);
  }

  pub two_in_order : TwoInOrder
  two_in_order =
      told_as (asked 0) two_keys two_presses (first 0) (
        (a_sent, ((refl, λ e. cc (e)), (0, lit< tt, refl), refl)),
        at_once (never (codes "a") refl),
        ((b_sent, ((refl, λ e. cc (e)), (0, lit< tt, refl), refl)), at_once (never (codes "b") refl), tt),
      ) two_told

  pub escape_apart : EscapeApart
  escape_apart =
      told_as (asked 0) cut_off (press Escape ∷ press (Char 91) ∷ press (Char 65) ∷ []) (first 0) (
        (escape_sent, (tt, (0, lit< tt, refl), refl)),
        by_pause refl,
        (
          (bracket_sent, ((refl, λ e. cc (e)), (0, lit< tt, refl), refl)),
          at_once (never (codes "[") refl),
          ((capital_sent, ((refl, λ e. cc (e)), (0, lit< tt, refl), refl)), at_once (never (codes "A") refl), tt),
        ),
      ) three_told

  pub paste_with_end : PasteWithEnd
  paste_with_end =
      told_as (asked 0) pasted_end (Received (Paste text_made_safe) ∷ []) (first 0)
      (paste_is, at_once (never (START ++ text_made_safe ++ END) refl), tt) (ap (λ t. Received (Paste t) ∷ []) safe_is)

  pub asked_position : AskedPosition
  asked_position =
      told_as with_question position (Received (CursorPosition 1 2) ∷ []) (record { reads = refl; erase = refl; newline = refl })
      ((position_is, (lit< tt, lit< tt), (lit< tt, lit< tt), inr (inl (lit< tt))), at_once (never (ESC ++ codes "[1;2R") refl), tt) refl
