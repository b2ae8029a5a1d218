use Rattle.std.proofs.Common.{◌≡◌, ◌∙◌, ap, refl, string_bytes, subst, sym, Some, Err}
use Rattle.std.specs.Str.{IsUtf8}
use Rattle.std.proofs.lemmas.Str.{IsUtf8-string_bytes}
use Rattle.termwiz_keys.specs.Encoding.{enc}
use Rattle.termwiz_senders.specs.KeyTexts.{IsReadAsKey, no_modes}
use Rattle.termwiz_senders.proofs.lemmas.ReadAlone.{one_key, unsent}
use Rattle.termwiz_senders.proofs.key.sent_text.Goals as goal

pub returns-in-Err-UnhandledFunctionKey-clause-none : goal.returns-in-Err-UnhandledFunctionKey-clause-none
returns-in-Err-UnhandledFunctionKey-clause-none c bytes is =
    let none = (c.encode.ensures.refused c.in-Err-UnhandledFunctionKey.field-0-0).0
    (c.in-Err-UnhandledFunctionKey.is ∙ ap (λ e. Err e) c.in-Err-UnhandledFunctionKey.field-0-is) in
    let own = one_key c.args.report.now c.port_key.result c.in-Some.key is.key c.port_key.ensures c.in-Some.is is.key_is in
    unsent c.in-Some.key.key c.in-Err-UnhandledFunctionKey.field-0-0 c.in-Some.key.modifiers no_modes bytes none.1
    (subst (λ k. enc k.key k.modifiers no_modes ≡ Some bytes) own is.sent)

pub returns-then-branch-clause-some : goal.returns-then-branch-clause-some
returns-then-branch-clause-some c =
    let same : c.into_bytes-text.result.items ≡ string_bytes c.in-Ok.text = ap (λ v. v.items) c.into_bytes-text.ensures.value in
    record {
      key = c.in-Some.key;
      key_is = sym c.port_key.ensures ∙ c.in-Some.is;
      sent = c.in-Ok.ensures.text refl ∙ ap (λ b. Some b) (sym same);
      is_text = subst IsUtf8 (sym same) (IsUtf8-string_bytes c.in-Ok.text);
      read = subst (IsReadAsKey c.args.reading c.args.report.now) c.deref.ensures.value (c.in_ok-reads_key.ensures.0 c.if-branch.true);
    }
