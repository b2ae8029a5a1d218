-- Where a sequence of the port is at the front of a text, or a character, the text is the port's own.
use Rattle.std.proofs.Common.{◌≡◌, ◌≢◌, ◌⊎◌, inl, inr, ⊎_elim, ℕ, ◌<◌, ◌≤◌, Bool, List, [], ◌∷◌, ◌++◌, length, take, drop, refl, sym, ap, ◌∙◌, subst, arith, append_assoc, append-nil, take-append-drop, get_or}
use Rattle.std.specs.Prelude.{codes, slice_index_or, Option, Some, None, IfSome}
use Rattle.termwiz_keymap.specs.Bytes.{Begins}
use Rattle.termwiz_keymap.proofs.lemmas.lists.CommonPrefixes.{Overlaps, overlap, append-some}
use Rattle.termwiz_keymap.proofs.lemmas.lists.CommonPrefixes.Overlaps.{within, past}
use Rattle.termwiz_keys.specs.Introducers.{ESC, START}
use Rattle.termwiz_keys.specs.Keys.{escape as escape_key, plain, with_alt}
use Rattle.termwiz_keys.specs.declared.types.MouseEvent.{MouseEvent}
use Rattle.termwiz_keys.specs.declared.types.InputEvent.TheVariants.{Key, Mouse}
use Rattle.termwiz_grammar.specs.MouseReports.{IsMouseReport}
use Rattle.termwiz_grammar.specs.Sequences.{Meaning, IsSequence}
use Rattle.termwiz_grammar.specs.Sequences.Meaning.{Row}
use Rattle.termwiz_grammar.proofs.lemmas.table.SequenceFacts.{start, start_is_sequence}
use Rattle.termwiz_input.specs.Matches.{IsItemAt, character_of}
use Rattle.termwiz_input.specs.PrintableAscii.{IsPrintableAscii}
use Rattle.termwiz_input.proofs.lemmas.heads.HeadLookup.{character_closed, character_front}
use Rattle.termwiz_input.proofs.lemmas.heads.StartsNoSequence.{apart_from_sequences, lone_escape}
use Rattle.termwiz_input.proofs.lemmas.items.ItemByHead.{alt_row_stands, character_stands}
use Rattle.termwiz_input.proofs.lemmas.items.PrintableAscii.{printable_run}
use Rattle.termwiz_extended_events.specs.declared.types.Event.{Event}
use Rattle.termwiz_extended_events.specs.declared.types.Event.TheVariants as event
use Rattle.termwiz_extended_events.specs.declared.types.Reading.{Reading}
use Rattle.termwiz_extended_events.specs.MouseReports.{sgr_report}
use Rattle.termwiz_extended_grammar.specs.Forms.{IsForm}
use Rattle.termwiz_extended_grammar.specs.ExtraSequences.{IsExtra}
use Rattle.termwiz_extended_grammar.specs.Strings.{StartsWithOpening}
use Rattle.termwiz_extended_grammar.specs.ExtendedGrammar.{BeginsExtended, StartsExtended, Steps}
use Rattle.termwiz_extended_grammar.proofs.lemmas.cuts.PartsOfPastes.{start_not_extra}
use Rattle.termwiz_extended_grammar.proofs.lemmas.forms.ExtraFacts.{completed_mark, mark_from_unfinished}
use Rattle.termwiz_extended_grammar.proofs.lemmas.forms.FormBytes.{IsMark}
use Rattle.termwiz_extended_grammar.proofs.lemmas.forms.FormEnds.{sequence_after_mark, mark_after_sequence}
use Rattle.termwiz_extended_grammar.proofs.lemmas.items.StringFronts.{no_opening_after}
use Rattle.termwiz_input_extended.specs.NextItems.{IsPlainCharacter, IsPortsOwn}
use Rattle.termwiz_input_extended.proofs.lemmas.fronts.FrontItems.{not_two_escapes, own_after_escape, own_after_two_escapes, own_item, own_without_escape, two_escapes_finished}
use Rattle.termwiz_input_extended.proofs.lemmas.fronts.ToldByFront.{front_none}
use Rattle.termwiz_input_extended.proofs.lemmas.fronts.MouseForms.{report_escape, report_item, report_no_extra, report_not_unfinished, report_one}

-- a sequence of more than two bytes properly begins no form and no opening
long_ends : {x10_mouse : Bool} (y tail : List ℕ) (m : Meaning) → 2 < length y → IsSequence y m → tail ≢ [] → IsMark x10_mouse (y ++ tail) → ⊥
long_ends y tail m long is some mark = ⊎_elim
    (λ (e : y ≡ ESC). omega (arith, ap length e))
    (λ (more : (y ≡ 27 ∷ 91 ∷ []) ⊎ ((y ≡ 27 ∷ 79 ∷ []) ⊎ (y ≡ 27 ∷ 80 ∷ []))). ⊎_elim
    (λ (e : y ≡ 27 ∷ 91 ∷ []). omega (arith, ap length e))
    (λ (last : (y ≡ 27 ∷ 79 ∷ []) ⊎ (y ≡ 27 ∷ 80 ∷ [])). ⊎_elim
    (λ (e : y ≡ 27 ∷ 79 ∷ []). omega (arith, ap length e))
    (λ (e : y ≡ 27 ∷ 80 ∷ []). omega (arith, ap length e))
    last)
    more)
    (mark_after_sequence y tail m is some mark)

module _ (reading : Reading) (u y : List ℕ) (m : Meaning) (long : 2 < length y) (is : IsSequence y m) (b : Begins y u) where
  -- the form at the front of a text that begins with such a sequence is the sequence
  form_is : (text : List ℕ) → IsForm reading.x10_mouse text → Begins text u → text ≡ y
  form_is text form c = go (overlap y b.0 text c.0 (sym c.1 ∙ b.1))
    where
      go : Overlaps y b.0 text c.0 → text ≡ y
      go (within [] e f) = e ∙ append-nil y
      go (within (x ∷ t) e f) =
          absurd (long_ends y (x ∷ t) m long is (λ h. cc (h)) (inl (subst (λ z. IsForm reading.x10_mouse z) e form)))
      go (past t n e f) = absurd (n (sequence_after_mark text t m (inl form) (subst (λ z. IsSequence z m) e is)))

  -- so the text is the port's own, unless the sequence is extra or an opening begins it
  pub own_by_sequence : (f : Bool) → Begins ESC u → (Begins (ESC ++ ESC) u → ⊥) → (StartsWithOpening u → ⊥)
      → (((event : Event) × IsExtra reading y event) → ⊥) → IsPortsOwn reading u f
  own_by_sequence f escape one no_opening never = own_after_escape reading u f escape one none (λ comes. finished)
    where
      none : StartsExtended reading u → ⊥
      none (inl h) = never
          (h.event, subst (λ z. IsExtra reading z h.event) (form_is h.text h.is_extra.is_form h.begins) h.is_extra)
      none (inr o) = no_opening o.1

      finished : BeginsExtended reading u → ⊥
      finished h =
          let c = completed_mark u (mark_from_unfinished reading u h) in
          long_ends y (b.0 ++ c.0) m long is (append-some b.0 c.0 c.1)
          (subst (IsMark reading.x10_mouse) (ap (λ z. z ++ c.0) b.1 ∙ append_assoc y b.0 c.0) c.2)

-- no opening begins with ESC [
no_opening_bracket : (u t : List ℕ) → u ≡ 27 ∷ 91 ∷ t → StartsWithOpening u → ⊥
no_opening_bracket u t e o = no_opening_after 27 91 t (λ first second. omega arith) (subst StartsWithOpening e o)

-- what begins with ESC [ begins with one ESC alone
pub one_before_bracket : (u : List ℕ) → slice_index_or u 1 0 ≡ 91 → Begins (ESC ++ ESC) u → ⊥
one_before_bracket u second b =
    let other : slice_index_or u 1 0 ≡ 27 = ap (λ z. slice_index_or z 1 0) b.1 in omega (arith, second, other)

pub own_start : (reading : Reading) (u : List ℕ) (f : Bool) → Begins START u → IsPortsOwn reading u f
own_start reading u f b = own_by_sequence reading u START (Row start) (omega arith) start_is_sequence b f
    (codes "[200~" ++ b.0, b.1) (λ two. let second : ◌≡◌ {A = ℕ} 91 27 = cc (b.1, two.1) in omega arith)
    (no_opening_bracket u (codes "200~" ++ b.0) b.1) (λ h. start_not_extra reading h.0 h.1)

-- a character from SPACE to ~ at the front
pub printable_item : (u : List ℕ) (f : Bool) → 0 < length u → IsPrintableAscii (get_or u 0 0)
    → IsItemAt u f (Key (plain (get_or u 0 0))) 1
printable_item [] f some is = absurd (omega arith)
printable_item (b ∷ u) f some is = (printable_run (b ∷ u) 1 (omega arith) (is, tt) (omega arith)).first f

pub own_printable : (reading : Reading) (u : List ℕ) (f : Bool) → IsPrintableAscii (get_or u 0 0) → IsPortsOwn reading u f
own_printable reading u f is = own_without_escape reading u f
    (λ b. let first : get_or u 0 0 ≡ 27 = ap (λ z. get_or z 0 0) b.1 in omega (arith, is.0))

-- a character whose first byte is from 0x80 on, at the front
pub character_item : (u : List ℕ) (f : Bool) (c n : ℕ) → 0 < length u → 0x80 ≤ slice_index_or u 0 0 → character_of u ≡ Some (c, n)
    → IsItemAt u f (Key (plain c)) n
character_item u f c n some high is =
    let apart = apart_from_sequences u some (omega arith) (λ e. omega arith) in
    character_stands u f c n (character_closed u f c n (λ m. apart.finished) is) (character_front u c n apart.no_sequence is)

pub own_high : (reading : Reading) (u : List ℕ) (f : Bool) → 0x80 ≤ slice_index_or u 0 0 → IsPortsOwn reading u f
own_high reading u f high = own_without_escape reading u f
    (λ b. let first : slice_index_or u 0 0 ≡ 27 = ap (λ z. slice_index_or z 0 0) b.1 in omega (arith, high))

-- where the first byte is from 0x80 on, a character is an item
pub high_character : (u : List ℕ) → 0 < length u → 0x80 ≤ slice_index_or u 0 0
    → IfSome (character_of u) (λ found. (reading : Reading) (more : Bool) → IsPlainCharacter reading u more found.0 found.1)
high_character u some high = go (character_of u) refl
  where
    go : (found : Option (ℕ × ℕ)) → character_of u ≡ found
        → IfSome found (λ found. (reading : Reading) (more : Bool) → IsPlainCharacter reading u more found.0 found.1)
    go None e = tt
    go (Some (c, n)) e = λ reading more. record {
      own = own_high reading u more high;
      item = character_item u more c n some high e;
      undecided = front_none reading u (omega (arith, high)) (λ e. omega (arith, high, e));
    }

-- a mouse report is one step
pub report_step : (reading : Reading) (u : List ℕ) (report : MouseEvent) (len : ℕ) (f : Bool) → IsPortsOwn reading u f → len ≤ length u
    → IsMouseReport (take len u) report → Steps reading u f (event.Mouse (sgr_report (take len u) report) ∷ []) (drop len u)
report_step reading u report len f own inside is = (
  drop len u,
  own_item reading u (take len u) (drop len u) (Mouse report) f own (report_item reading u len report is f inside).1
      (sym (take-append-drop len u)),
  refl,
)

pub mouse_report_step : (reading : Reading) (u : List ℕ) (report : MouseEvent) (len : ℕ) (f : Bool) → len ≤ length u
    → IsMouseReport (take len u) report → Steps reading u f (event.Mouse (sgr_report (take len u) report) ∷ []) (drop len u)
mouse_report_step reading u report len f inside is =
    let own = own_after_escape reading u f (report_escape reading u len report is) (report_one reading u len report is)
    (report_no_extra reading u len report is) (λ m. report_not_unfinished reading u len report is) in
    report_step reading u report len f own inside is

-- ESC ESC before a third ESC is the Escape key with ALT
three_escapes : (reading : Reading) (u : List ℕ) (f : Bool)
    → IsPortsOwn reading (27 ∷ 27 ∷ 27 ∷ u) f × IsItemAt (27 ∷ 27 ∷ 27 ∷ u) f (Key (with_alt escape_key)) 2
three_escapes reading u f =
    let here = lone_escape 27 (27 ∷ u) (λ h. omega (arith, h.0)) in
    let after = lone_escape 27 u (λ h. omega (arith, h.0)) in (
      own_after_two_escapes reading (27 ∷ 27 ∷ u) f (27 ∷ u, refl) (not_two_escapes reading (27 ∷ u) (u, refl))
          (λ m h. two_escapes_finished reading (27 ∷ u) (u, refl) h),
      alt_row_stands (27 ∷ 27 ∷ u) f escape_key 1 (here.closed f) here.head (λ e. cc (e)) (after.closed f) (omega arith, after.head)
          (λ b. let second : ◌≡◌ {A = ℕ} 27 91 = cc (b.1) in omega arith),
    )

pub escapes_front : (reading : Reading) (u : List ℕ) (f : Bool) → 3 ≤ length u → slice_index_or u 0 0 ≡ 27 → slice_index_or u 1 0 ≡ 27
    → slice_index_or u 2 0 ≡ 27 → IsPortsOwn reading u f × IsItemAt u f (Key (with_alt escape_key)) 2 × Begins (ESC ++ ESC) u
escapes_front reading [] f long first second third = absurd (omega arith)
escapes_front reading (x ∷ []) f long first second third = absurd (omega arith)
escapes_front reading (x ∷ y ∷ []) f long first second third = absurd (omega arith)
escapes_front reading (x ∷ y ∷ z ∷ u) f long first second third =
    rw (first, second, third) (let it = three_escapes reading u f in (it.0, it.1, (27 ∷ u, refl)))
