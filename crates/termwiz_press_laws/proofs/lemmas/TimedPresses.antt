-- In a run of a timed parser what was sent is told.
use Rattle.std.proofs.Common.{◌≡◌, ℕ, List, [], ◌∷◌, ◌++◌, sym, ap, ◌∙◌, subst}
use Rattle.termwiz_extended_events.specs.declared.types.Reading.{Reading}
use Rattle.termwiz_timed.specs.Runs.{last_of, told_of}
use Rattle.termwiz_timed.specs.Segments.{IsAsGoodAs, ReadsInTurn, first_read, parts_left, reads_of}
use Rattle.termwiz_timed.specs.Segments.IsAsGoodAs.{same, in_parts}
use Rattle.termwiz_timed.specs.Segments.Read.{Bytes}
use Rattle.termwiz_timed.specs.Timed.{Timed, new_timed}
use Rattle.termwiz_timed.proofs.lemmas.ExactSegments.{exact}
use Rattle.termwiz_press_laws.specs.PressRuns.{PressToPress, ReadsTellWhatWasSent}
use Rattle.termwiz_press_laws.specs.Things.{told_of_events}

-- what is as good as nothing is nothing
good_as_nothing : (reading : Reading) (parts text whole : List ℕ) → IsAsGoodAs reading parts text whole → whole ≡ [] → text ≡ []
good_as_nothing reading parts text whole (same none is) empty = is ∙ empty
good_as_nothing reading parts text whole (in_parts taken body is all either) empty = absurd (cc (all, empty))

pub press_to_press : ReadsTellWhatWasSent → PressToPress
press_to_press reads_tell dialect before segment sendings run is_segment ready are bring all_told =
    let start : Timed = last_of (new_timed dialect) before in
    let is = exact dialect before segment run is_segment all_told in
    let m = reads_tell start.reading (Bytes [] ∷ reads_of segment) sendings ready.first are bring in
    let from_text : ReadsInTurn start.reading start.text (Bytes [] ∷ reads_of segment) m.0 [] =
    subst (λ t. ReadsInTurn start.reading t (Bytes [] ∷ reads_of segment) m.0 []) (sym ready.empty) m.1 in
    let in_turn : ReadsInTurn start.reading start.text (first_read start.stage ∷ reads_of segment) m.0 [] =
    subst (λ s. ReadsInTurn start.reading start.text (first_read s ∷ reads_of segment) m.0 []) (sym ready.all_told) from_text in
    let only = is.only m.0 [] in_turn in (
      ap told_of_events (sym only.0) ∙ m.2,
      good_as_nothing (last_of (new_timed dialect) (segment ++ before)).reading (parts_left [] (told_of segment))
          (last_of (new_timed dialect) (segment ++ before)).text is.left is.buffered (sym only.1),
    )
