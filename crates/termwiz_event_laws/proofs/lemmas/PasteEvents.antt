-- Pastes: what is written is read back, and each one that is emitted is written.
use Rattle.std.proofs.Common.{Bool, false, List, [], ◌∷◌, ◌++◌, ℕ, refl, subst, append-nil}
use Rattle.std.specs.Prelude.{IsUtf8}
use Rattle.std.specs.Str.Lossy.{utf8_lossy}
use Rattle.std.proofs.lemmas.Str.{utf8_lossy-IsUtf8}
use Rattle.termwiz_keymap.specs.Bytes.{Occurs}
use Rattle.termwiz_keys.specs.Introducers.{START, END}
use Rattle.termwiz_grammar.specs.Grammar.{EndsFirst}
use Rattle.termwiz_laws.specs.PasteEvents.{pasted}
use Rattle.termwiz_laws.proofs.lemmas.paste_events.NoBorder.{free_of_end}
use Rattle.termwiz_extended_events.specs.declared.types.Event.TheVariants.{Paste}
use Rattle.termwiz_extended_events.specs.declared.types.Reading.{Reading}
use Rattle.termwiz_extended_grammar.specs.ExtendedGrammar.{Means}
use Rattle.termwiz_extended_grammar.proofs.lemmas.cuts.PastesStand.{paste_in_stream}
use Rattle.termwiz_extended_grammar.proofs.lemmas.items.ExtendedRests.{empty_is_rest}
use Rattle.termwiz_senders.specs.EventTexts.{IsReadAtOnce}
use Rattle.termwiz_event_laws.proofs.lemmas.ReadPastes.{end_within}

nothing_means : (reading : Reading) (more : Bool) → Means reading [] more [] []
nothing_means reading more = record { steps = refl; rest = empty_is_rest reading more }

pub paste_read_back : (reading : Reading) (text : List ℕ) → IsUtf8 text → ¬ Occurs END text
    → IsReadAtOnce reading (Paste text) (pasted text)
paste_read_back reading text is free more =
    subst (λ t. Means reading (pasted text) more (Paste t ∷ []) []) (utf8_lossy-IsUtf8 text is)
    (subst (λ u. Means reading (START ++ u) more (Paste (utf8_lossy text) ∷ []) []) (append-nil (text ++ END))
    (paste_in_stream reading [] text [] [] [] [] more ((free_of_end text).1 free) (nothing_means reading false) (nothing_means reading more)))

pub paste_whole : (body : List ℕ) → EndsFirst body → ¬ Occurs END (utf8_lossy body)
paste_whole body first = λ o. (free_of_end body).0 first (end_within body o)
