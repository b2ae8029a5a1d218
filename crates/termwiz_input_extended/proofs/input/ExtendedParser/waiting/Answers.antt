use Rattle.std.proofs.Common.{sym, ap, ◌∙◌, subst}
use Rattle.termwiz_keymap.specs.Bytes.{Begins}
use Rattle.termwiz_keys.specs.Introducers.{START}
use Rattle.termwiz_grammar.specs.WaitingKinds.{IsOneOrTwoEscapes}
use Rattle.termwiz_input.specs.Matches.{BeginsWithHighByte}
use Rattle.termwiz_input.specs.WaitingBytes.{IsNoOtherKind}
use Rattle.termwiz_extended_grammar.specs.Strings.{StartsWithOpening}
use Rattle.termwiz_input_extended.specs.Buffered.{Buffered}
use Rattle.termwiz_input_extended.proofs.lemmas.fronts.KindsByBytes.{character_kind, escape_kind, paste_kind, sequence_kind, string_kind}
use Rattle.std.proofs.Common.{◌≡◌, ℕ, List, refl}
use Rattle.termwiz_extended_events.specs.declared.types.StringKind.{StringKind}
use Rattle.termwiz_input_extended.specs.declared.string.OpeningAt.{OpeningAt}
use Rattle.termwiz_input_extended.specs.declared.string.OpeningAt.TheVariants.{Opening, Unfinished, Absent}
use Rattle.termwiz_extended_events.specs.declared.types.Dialect.TheVariants.{Extended, Termwiz}
use Rattle.termwiz_input_extended.specs.StringAnswers.{HasOpening}
use Rattle.termwiz_input_extended.proofs.input.ExtendedParser.waiting.Goals as goal

-- no opening begins a text where none was found
none_starts : (u : List ℕ) (found : OpeningAt) → HasOpening u found → ((kind : StringKind) (len : ℕ) → found ≡ Opening kind len → ⊥)
    → ¬ StartsWithOpening u
none_starts u (Opening kind len) is never = absurd (never kind len refl)
none_starts u Unfinished is never = is.0
none_starts u Absent is never = is.0

pub returns-in-Escape-clause-kind : goal.returns-in-Escape-clause-kind
returns-in-Escape-clause-kind c = λ more rest.
    escape_kind c.args.self.now.reading c.args.self.now.text more rest
    (subst IsOneOrTwoEscapes (ap (λ (b : Buffered). b.text) c.self.view_is) c.in-Escape.ensures.bytes)

pub returns-in-Character-clause-kind : goal.returns-in-Character-clause-kind
returns-in-Character-clause-kind c = λ more rest.
    character_kind c.args.self.now.reading c.args.self.now.text more rest
    (subst BeginsWithHighByte (ap (λ (b : Buffered). b.text) c.self.view_is) c.in-Character.ensures.bytes)

pub returns-in-Paste-clause-kind : goal.returns-in-Paste-clause-kind
returns-in-Paste-clause-kind c = λ more rest.
    paste_kind c.args.self.now.reading c.args.self.now.text more rest
    (subst (Begins START) (ap (λ (b : Buffered). b.text) c.self.view_is) c.in-Paste.ensures.bytes)

pub returns-in-Extended-Opening-clause-kind : goal.returns-in-Extended-Opening-clause-kind
returns-in-Extended-Opening-clause-kind c = λ more rest.
    let o = c.in-Extended-Opening.ensures in
    string_kind c.args.self.now.reading c.args.self.now.text more rest (
      ap (λ (b : Buffered). b.reading.dialect) (sym c.self.view_is) ∙ c.in-Extended-Opening.is-0,
      subst StartsWithOpening c.waiting_text.ensures
          (record { kind = c.in-Extended-Opening.field-0-1; head = o.head; is_head = o.is_head; begins = o.begins }),
    )

pub returns-in_default : goal.returns-in_default
returns-in_default c =
    let text = subst IsNoOtherKind (ap (λ (b : Buffered). b.text) c.self.view_is) c.in-Sequence.ensures.bytes in
    let none = subst (λ t. ¬ StartsWithOpening t) c.waiting_text.ensures
    (none_starts c.waiting_text.result.now c.opening_at.result c.opening_at.ensures c.in_default.not-Opening-1) in record {
      kind = λ more rest. sequence_kind c.args.self.now.reading c.args.self.now.text more rest text (λ o. none o.1);
      bytes = (text, λ o. none o.1);
    }

pub returns-in_default-2-clause-kind : goal.returns-in_default-2-clause-kind
returns-in_default-2-clause-kind c = λ more rest.
    sequence_kind c.args.self.now.reading c.args.self.now.text more rest
    (subst IsNoOtherKind (ap (λ (b : Buffered). b.text) c.self.view_is) c.in-Sequence.ensures.bytes)
    (λ o. let same : Extended ≡ Termwiz = sym o.0 ∙ ap (λ (b : Buffered). b.reading.dialect) (sym c.self.view_is) ∙ c.in_default.is-0 in cc (same))
