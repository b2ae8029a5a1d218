-- A written paste is inert.
use Rattle.std.proofs.Common.{◌≡◌, ◌≢◌, inl, inr, ⊎_elim, ℕ, true, List, [], ◌∷◌, ◌++◌, refl, sym, ap, ◌∙◌, subst, append_assoc, append-nil}
use Rattle.std.specs.Prelude.{codes}
use Rattle.termwiz_keymap.specs.Bytes.{Occurs}
use Rattle.termwiz_keymap.proofs.lemmas.lists.CommonPrefixes.{true_at_end}
use Rattle.termwiz_keys.specs.Introducers.{START, END}
use Rattle.termwiz_grammar.specs.Grammar.{EndsFirst}
use Rattle.termwiz_grammar.proofs.lemmas.pastes.FirstEnd.{ends_once}
use Rattle.termwiz_laws.proofs.lemmas.paste_events.NoBorder.{free_of_end}
use Rattle.termwiz_kitty.proofs.lemmas.typed.NoEscape.{HasNoEscape, ordinary_no_escape}
use Rattle.termwiz_senders.specs.Pastes.{characters, paste_text, safe, safe_text}
use Rattle.termwiz_senders.proofs.PasteExamples.{sent}
use Rattle.termwiz_senders.proofs.lemmas.SafeCharacters.{all_safe}
use Rattle.termwiz_senders.proofs.lemmas.SafePastes.{all_ordinary, safe_characters}
use Rattle.termwiz_timed.specs.declared.parser.TimedEvent.{TimedEvent}
use Rattle.termwiz_timed.specs.Timed.{Timed, new_timed}
use Rattle.termwiz_timed.specs.Steps.Call.{Feed}
use Rattle.termwiz_timed.specs.Runs.{Moment, bytes_in, bytes_of, last_of, told_of}
use Rattle.termwiz_timed.proofs.lemmas.InertPastes.{EndsNowhereElse, IsToldAt, IsWholePaste, paste_is_inert, told_at, whole_paste_is_inert}
use Rattle.termwiz_timed.proofs.lemmas.Witnesses.{inert_speaks, pasted}
use Rattle.termwiz_timed.proofs.lemmas.WorkedOut.{pasting}
use Rattle.termwiz_event_laws.specs.PasteRuns.{FollowedPasteIsInert, IsOnePaste, IsToldWhole, SomePasteComes, WrittenPasteIsInert}

-- no byte of a text made safe is ESC, so END first occurs after it
no_escape : (text : List ℕ) → HasNoEscape (safe_text text)
unfolding safe_text
no_escape text = ordinary_no_escape (safe_text text) (all_ordinary (safe (characters text)) (safe_characters text) (all_safe (characters text)))

ends_first : (text : List ℕ) → EndsFirst (safe_text text)
ends_first text = (free_of_end (safe_text text)).1 none
  where
    none : Occurs END (safe_text text) → ⊥
    none (before, after, e) = (true_at_end (λ b. b ≢ 27) before (END ++ after)
        (subst HasNoEscape (e ∙ append_assoc before END after) (no_escape text))).0 refl

one_paste : (told : List TimedEvent) (last : Timed) → IsWholePaste told last → IsOnePaste told
one_paste told last is = record { parts = is.parts; text = is.text; only = is.only; splits = is.splits }

-- nothing comes after nothing
no_front : (front back : List ℕ) → front ++ back ≡ [] → (front ≡ []) × (back ≡ [])
no_front [] back none = (refl, none)
no_front (byte ∷ front) back none = cc (none)

-- of what is written for a text END is the end
module _ (text came rest : List ℕ) (written : safe_text text ++ END ≡ came ++ rest) where
  end_is_last : (before after : List ℕ) → came ≡ before ++ END ++ after → (after ≡ []) × (rest ≡ [])
  end_is_last before after e = no_front after rest
      (ends_first text before (after ++ rest) (written ∙ ap (λ b. b ++ rest) e ∙ append_assoc (before ++ END) after rest))

  ends_nowhere_else : EndsNowhereElse came
  ends_nowhere_else before after e = (end_is_last before after e).0

  end_to_come : rest ≢ [] → ¬ Occurs END came
  end_to_come some (before, after, e) = some (end_is_last before after e).1

  end_came : rest ≡ [] → Occurs END came
  end_came none = (safe_text text, [], sym (append-nil came) ∙ ap (λ b. came ++ b) (sym none) ∙ sym written ∙ sym (append-nil (safe_text text ++ END)))

pub written_paste_is_inert : WrittenPasteIsInert
written_paste_is_inert dialect before segment text body rest is =
    let last : Timed = last_of (new_timed dialect) (segment ++ before) in
    let came : List ℕ = body ++ bytes_of segment in
    let all = is.written in
    let written : safe_text text ++ END ≡ body ++ bytes_of segment ++ rest = sym (append-nil (safe_text text ++ END)) ∙ cc (all) in
    let until = paste_is_inert dialect before segment body is.run is.at_front is.not_ending is.no_limit is.leaves is.in_time in
    let to_end = whole_paste_is_inert dialect before segment body is.run is.at_front is.not_ending is.no_limit is.leaves is.in_time
    (ends_nowhere_else text came rest written) in
    record {
      told = ⊎_elim (λ only. inl only) (λ whole. inr (one_paste (told_of segment) last whole, whole.nothing_left)) to_end.told;
      endless = λ some. until.endless (end_to_come text came rest written some);
      whole = λ none all_told. one_paste (told_of segment) last (to_end.whole (end_came text came rest written none) all_told);
    }

-- a segment begins with the bytes of its earlier moments
begins_with : (later earlier : List Moment) → (more : List ℕ) × (bytes_of (later ++ earlier) ≡ bytes_of earlier ++ more)
begins_with [] earlier = ([], sym (append-nil (bytes_of earlier)))
begins_with (moment ∷ later) earlier =
    let (more, e) = begins_with later earlier in
    (more ++ bytes_in moment.call, ap (λ b. b ++ bytes_in moment.call) e ∙ append_assoc (bytes_of earlier) more (bytes_in moment.call))

pub followed_paste_is_inert : FollowedPasteIsInert
followed_paste_is_inert dialect before segment text body rest follows is =
    ⊎_elim (λ only. inl only) (λ at. inr (whole at))
    (told_at dialect before segment body is.run is.at_front is.not_ending is.no_limit is.leaves is.in_time)
  where
    whole : IsToldAt body segment → IsToldWhole text body segment
    whole at =
        let all = is.written in
        let written : safe_text text ++ END ++ follows ≡ body ++ bytes_of segment ++ rest = cc (all) in
        let (more, split) = begins_with at.later (at.moment ∷ at.earlier) in
        let end = at.inner ++ END in
        let then = at.moment.after.text ++ bytes_in at.moment.call ++ more in
        let bytes : bytes_of segment ≡ bytes_of at.earlier ++ bytes_in at.moment.call ++ more = ap bytes_of at.splits ∙ split in
        let came : body ++ bytes_of segment ≡ end ++ then =
        ap (λ b. body ++ b) bytes ∙ sym (append_assoc body (bytes_of at.earlier ++ bytes_in at.moment.call) more)
        ∙ ap (λ b. b ++ more) (sym (append_assoc body (bytes_of at.earlier) (bytes_in at.moment.call)) ∙ ap (λ b. b ++ bytes_in at.moment.call) at.bytes
        ∙ append_assoc end at.moment.after.text (bytes_in at.moment.call)) ∙ append_assoc end (at.moment.after.text ++ bytes_in at.moment.call) more in
        let same : safe_text text ≡ at.inner = ends_once (safe_text text) at.inner follows (then ++ rest)
        (written ∙ ap (λ b. b ++ rest) came ∙ append_assoc end then rest) (ends_first text) at.first in
        record {
          later = at.later;
          moment = at.moment;
          earlier = at.earlier;
          pasted = at.text;
          splits = at.splits;
          only = at.only;
          tells = at.tells;
          left = ap (λ b. START ++ b) (at.bytes ∙ ap (λ b. b ++ END ++ at.moment.after.text) (sym same));
        }

-- a paste of x comes
x_is_sent : sent (codes "x") true ++ [] ≡ START ++ (codes "x" ++ bytes_of pasted ++ [])
unfolding sent
x_is_sent = refl

x_is_written : paste_text (codes "x") true ++ [] ≡ START ++ (codes "x" ++ bytes_of pasted ++ [])
unfolding sent
x_is_written = x_is_sent

pub some_paste_comes : SomePasteComes
some_paste_comes =
    let (run, at, not_ending, no_limit, leaves, in_time) = inert_speaks in
    record {
      before = record { call = Feed 0 (START ++ codes "x"); after = pasting } ∷ [];
      segment = pasted;
      text = codes "x";
      body = codes "x";
      comes = record {
        run = run;
        at_front = at;
        not_ending = not_ending;
        no_limit = no_limit;
        leaves = leaves;
        in_time = in_time;
        written = x_is_written;
      };
      all_told = refl;
    }
