use Rattle.std.proofs.Common.{◌≡◌, refl, sym, ap, subst, ◌∙◌}
use Rattle.termwiz_keymap.specs.Bytes.{Begins}
use Rattle.termwiz_keys.specs.Introducers.{START}
use Rattle.termwiz_grammar.specs.WaitingKinds.{IsOpenPaste}
use Rattle.termwiz_input.proofs.lemmas.pastes.SearchResumes.{open_waits}
use Rattle.termwiz_input_extended.specs.Buffered.{Buffered}
use Rattle.termwiz_input_extended.proofs.lemmas.fronts.EmittedItems.{emits_none, still_buffered}
use Rattle.termwiz_input_extended.proofs.lemmas.fronts.FrontItems.{own_rest}
use Rattle.termwiz_input_extended.proofs.lemmas.fronts.KnownFronts.{own_start}
use Rattle.termwiz_input_extended.proofs.input.ExtendedParser.emit_paste.Goals as goal

pub returns-then-awaits_paste_end : goal.returns-then-awaits_paste_end
returns-then-awaits_paste_end g c =
    let text : c.self.inside.parser ≡ c.args.self.now.text = ap (λ (b : Buffered). b.text) c.self.view_is in
    emits_none g.S.EventSink.takes c.args.self.now _ c.args.sink.now _ c.args.maybe_more
    (own_rest c.args.self.now.reading c.args.self.now.text c.args.maybe_more
    (own_start c.args.self.now.reading c.args.self.now.text c.args.maybe_more c.requires)
    (open_waits c.args.self.now.text c.args.maybe_more
    (subst IsOpenPaste text (c.awaits_paste_end.ensures.open.0 c.if-awaits_paste_end.true))))
    (still_buffered _ _ _ _ c.awaits_paste_end.ensures.same c.self.view_is) refl

pub emit_of_port-requires : goal.emit_of_port-requires
emit_of_port-requires g c =
    let text : c.self.inside.parser ≡ c.args.self.now.text = ap (λ (b : Buffered). b.text) c.self.view_is in
    own_start c.self.inside.reading c.awaits_paste_end.new.self c.args.maybe_more
    (subst (λ t. Begins START t) (sym text ∙ sym c.awaits_paste_end.ensures.same) c.requires)
