-- A paste is one event, whatever stands before it, if a flush leaves nothing of that.
use Rattle.std.proofs.Common.{◌≡◌, inl, ℕ, Bool, false, List, [], ◌∷◌, ◌++◌, refl, sym, subst, arith}
use Rattle.std.specs.Prelude.{codes}
use Rattle.std.specs.Str.Lossy.{utf8_lossy}
use Rattle.termwiz_keys.specs.Introducers.{ESC, START, END}
use Rattle.termwiz_keys.specs.Keys.{escape}
use Rattle.termwiz_keys.specs.declared.types.InputEvent.TheVariants.{Key}
use Rattle.termwiz_grammar.specs.Sequences.Meaning.{Row}
use Rattle.termwiz_grammar.specs.Grammar as port
use Rattle.termwiz_grammar.specs.Grammar.{EndsFirst}
use Rattle.termwiz_grammar.specs.Grammar.Head.{Sequence}
use Rattle.termwiz_grammar.specs.Grammar.Item.{lone_escape}
use Rattle.termwiz_grammar.proofs.lemmas.table.SequenceFacts.{start}
use Rattle.termwiz_grammar.proofs.lemmas.items.OneItem.{start_head}
use Rattle.termwiz_grammar.proofs.lemmas.pastes.PartsJoin.{start_closed}
use Rattle.termwiz_grammar.proofs.lemmas.read_back.WholeTexts.{escape_alone}
use Rattle.termwiz_extended_events.specs.declared.types.Event.{Event}
use Rattle.termwiz_extended_events.specs.declared.types.Event.TheVariants.{Paste}
use Rattle.termwiz_extended_events.specs.declared.types.Reading.{Reading}
use Rattle.termwiz_extended_grammar.specs.Readings.{after_events}
use Rattle.termwiz_extended_grammar.specs.ExtendedGrammar.{IsRest, IsUsual, Means, Stands, escape_event}
use Rattle.termwiz_extended_grammar.specs.ExtendedGrammar.Stands.{usual}
use Rattle.termwiz_extended_grammar.proofs.lemmas.cuts.BeforeEscape.{closed_before}
use Rattle.termwiz_extended_grammar.proofs.lemmas.cuts.ExtendedCuts.{after_both, join_steps}
use Rattle.termwiz_extended_grammar.proofs.lemmas.cuts.PartsOfPastes.{paste_then, usual_start}
use Rattle.termwiz_extended_grammar.proofs.lemmas.cuts.PortTold.{escape_told}
use Rattle.termwiz_extended_grammar.proofs.lemmas.cuts.SequencesStand.{steps_before, usual_escape_before}

-- ESC before START is the Escape key, to the port
port_escape : (r : List ℕ) (f : Bool) → port.Stands (ESC ++ START ++ r) f ESC (Key escape)
port_escape r f = record {
  closed = closed_before ESC (codes "[200~" ++ r) f (λ e. cc (e));
  item = lone_escape (START ++ r) (Sequence START (Row start)) (record {
    escape_head = escape_alone 27 (codes "[200~" ++ r) (inl (omega arith));
    splits = refl;
    some = λ e. cc (e);
    closed = start_closed (START ++ r) f (r, refl);
  }) (start_head (START ++ r) (r, refl)) refl;
}

-- and to the extended parser
escape_stands : (reading : Reading) (r : List ℕ) (f : Bool) → Stands reading (ESC ++ START ++ r) f (START ++ r) escape_event
escape_stands reading r f = subst (Stands reading (ESC ++ START ++ r) f (START ++ r)) (escape_told reading)
    (usual ESC (START ++ r) (Key escape) (port_escape r f) refl (usual_escape_before reading 91 (codes "200~" ++ r) (inl refl) f)
    (λ v split. let same : START ++ r ≡ v = cc (split) in subst (λ x. IsUsual reading x f) same (usual_start reading (START ++ r) f (r, refl))))

pub paste_in_stream : (reading : Reading) (T body S W : List ℕ) (E D : List Event) (f : Bool) → EndsFirst body
    → Means reading T false E [] → Means (after_events reading E) S f D W
    → Means reading (T ++ (START ++ (body ++ END ++ S))) f (E ++ Paste (utf8_lossy body) ∷ D) W
paste_in_stream reading T body S W E D f first before after =
    let z = START ++ (body ++ END ++ S) in
    let event = Paste (utf8_lossy body) in
    let paste = paste_then (after_events reading E) body S W D f first after in
    record {
      steps = join_steps reading E (event ∷ D) (T ++ z) z W f
          (steps_before 91 (codes "200~" ++ (body ++ END ++ S)) (inl refl) reading E T [] f
          (λ left steps. escape_stands (after_events reading left) (body ++ END ++ S) f) before.steps)
          paste.steps;
      rest = subst (λ r. IsRest r W f) (sym (after_both reading E (event ∷ D))) paste.rest;
    }
