-- Control sequences and strings that are emitted are read back as they are written.
use Rattle.std.proofs.Common.{◌≡◌, inl, ℕ, ◌<◌, List, [], ◌∷◌, ◌++◌, refl, append_assoc}
use Rattle.std.specs.List.{AllByRecursion}
use Rattle.termwiz_extended_events.specs.declared.types.Event.{Event}
use Rattle.termwiz_extended_events.specs.declared.types.Event.TheVariants.{Osc}
use Rattle.termwiz_extended_events.specs.declared.types.Reading.{Reading}
use Rattle.termwiz_extended_events.specs.declared.types.StringKind.{StringKind}
use Rattle.termwiz_extended_events.specs.declared.types.StringKind.TheVariants as kinds
use Rattle.termwiz_extended_events.specs.Meanings.{whole_string}
use Rattle.termwiz_extended_grammar.specs.ExtendedGrammar.Stands.{string}
use Rattle.termwiz_extended_grammar.specs.ExtraSequences.{IsExtra}
use Rattle.termwiz_extended_grammar.specs.Forms.{introducer, ST, IsData, IsTitle, most_string}
use Rattle.termwiz_extended_grammar.specs.Readings.{ReadsMore, after_event}
use Rattle.termwiz_extended_grammar.specs.Strings.{IsHead, IsString, string_length}
use Rattle.termwiz_extended_grammar.specs.Strings.Ends.{ended}
use Rattle.termwiz_extended_grammar.specs.Strings.Comes.{last}
use Rattle.termwiz_extended_grammar.proofs.lemmas.forms.TitleEvents.{titles_are_commands}
use Rattle.termwiz_extended_grammar.proofs.lemmas.items.ExtendedRests.{empty_is_rest}
use Rattle.termwiz_extended_grammar.proofs.lemmas.items.StringRests.{st_ends}
use Rattle.termwiz_kitty.proofs.lemmas.read_back.SequencesMean.{means_alone}
use Rattle.termwiz_senders.specs.EventTexts.{IsReadAtOnce, string_sent}

-- an extra sequence is its event at once
pub extra_at_once : (reading : Reading) (text : List ℕ) (e : Event) → IsExtra reading text e → IsReadAtOnce reading e text
extra_at_once reading text e is more = means_alone reading text more e is

-- a title with ESC \
pub title_at_once : (reading : Reading) (text : List ℕ) (t : IsTitle text) → ReadsMore reading
    → IsReadAtOnce reading (Osc (t.letter ∷ t.body)) (string_sent kinds.Osc (t.letter ∷ t.body))
unfolding string_sent
title_at_once reading text t reads =
    extra_at_once reading (string_sent kinds.Osc (t.letter ∷ t.body)) (Osc (t.letter ∷ t.body))
    (titles_are_commands reading (string_sent kinds.Osc (t.letter ∷ t.body))
    (record { letter = t.letter; body = t.body; end = ST; form = refl; letter_is = t.letter_is; each = t.each; short = t.short; end_is = inl refl }) reads)

-- a string that isn't parted
pub string_at_once : (reading : Reading) (kind : StringKind) (head bytes : List ℕ) → ReadsMore reading → IsHead kind head → AllByRecursion (IsData kind) bytes
    → string_length kind head bytes < most_string → IsReadAtOnce reading (whole_string kind (head ++ bytes)) (string_sent kind (head ++ bytes))
unfolding string_sent
string_at_once reading kind head bytes reads is each short more =
    let e = whole_string kind (head ++ bytes) in
    let text = string_sent kind (head ++ bytes) in
    let splits : text ≡ introducer kind ++ head ++ (bytes ++ ST) = simp append_assoc in
    let it : IsString text kind head bytes ST = record { is_head = is; each = each; splits = splits } in
    record {
      steps = ([], string kind head bytes ST [] e reads it (last [] e short (ended ST [] (st_ends kind) refl)), refl);
      rest = empty_is_rest (after_event reading e) more;
    }
