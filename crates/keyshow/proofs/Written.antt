-- Bytes that were written, and the lines of more events.
use Rattle.std.proofs.Common.{◌≡◌, ◌∙◌, ◌-◌, ℕ, List, ◌++◌, length, take, drop, sym, ap, append_assoc, take-append-drop}
use Rattle.std.proofs.lemmas.List.{take_rest}
use Rattle.std.proofs.lemmas.List.Concat.{flat_map-append}
use Rattle.termwiz_input.specs.InputEvent.{InputEvent}
use Rattle.keyshow.specs.Lines.{line, lines}

-- n more bytes are written
pub written_further : (all done rest : List ℕ) (n : ℕ) → all ≡ done ++ rest
    → all ≡ (done ++ take n rest) ++ take (length rest - n) (drop n rest)
written_further all done rest n e =
    e ∙ ap (λ l. done ++ l) (sym (take-append-drop n rest)) ∙ sym (append_assoc done (take n rest) (drop n rest))
    ∙ ap (λ l. (done ++ take n rest) ++ l) (sym (take_rest rest n))

pub lines-append : (events more : List InputEvent) → lines (events ++ more) ≡ lines events ++ lines more
lines-append events more = flat_map-append line events more
