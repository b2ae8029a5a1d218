use Rattle.std.proofs.Common.{◌≡◌, ◌++◌, ◌∙◌, ap, append-nil}
use Rattle.termwiz_keys.specs.Introducers.{START, END}
use Rattle.termwiz_senders.proofs.lemmas.ReadAlone.{occurs_found, none_occurs}
use Rattle.termwiz_senders.proofs.event.paste_text.Goals as goal

pub returns-in-Some-clause-none : goal.returns-in-Some-clause-none
returns-in-Some-clause-none c =
    let whole : c.deref.result.now ≡ START ++ c.args.text.now =
    c.deref.ensures.value ∙ c.in_ok-sent.ensures ∙ ap (λ t. START ++ t) (append-nil c.as_bytes.result.now ∙ c.as_bytes.ensures.value) in
    occurs_found c.deref.result.now c.args.text.now c.in-Some.field-0 whole c.in-Some.ensures.first

pub returns-in_ok-extend_from_slice-in-None-clause-some : goal.returns-in_ok-extend_from_slice-in-None-clause-some
returns-in_ok-extend_from_slice-in-None-clause-some c =
    let front : c.in_ok-sent.sent.items ≡ START ++ c.args.text.now =
    c.in_ok-sent.ensures ∙ ap (λ t. START ++ t) (append-nil c.as_bytes.result.now ∙ c.as_bytes.ensures.value) in (
      c.in_ok-extend_from_slice-in-None.ensures.items ∙ ap (λ t. t ++ END) front,
      none_occurs c.deref.result.now c.args.text.now (c.deref.ensures.value ∙ front) c.in-None.ensures.first,
    )
