use Rattle.std.proofs.Common.{◌∙◌, rules, Err, ap, length, refl, string_bytes}
use Rattle.hedrugal.specs.Calls.{copied}
use Rattle.hedrugal.proofs.Pressed.{has_no_text, has_text, may_have_text, sent_is}
use Rattle.hedrugal.proofs.hed_encode.Goals as goal

-- the text
pub returns-in-Ok-clause-text : goal.returns-in-Ok-clause-text
returns-in-Ok-clause-text c = λ is.
    let press = c.in-Some.press in (
      press,
      string_bytes c.in-Ok.text,
      (c.in-Some.ensures press).0 refl,
      sent_is press c.args.is_down (string_bytes c.in-Ok.text) c.in-Ok.ensures.text c.in-Ok.ensures.up,
      c.write_out.ensures.len ∙ ap length c.as_bytes.ensures.value,
      c.write_out.ensures.bytes ∙ ap (λ text. copied text c.args.out.now) c.as_bytes.ensures.value,
    )

pub returns-in-Ok-clause-refused_key : goal.returns-in-Ok-clause-refused_key
returns-in-Ok-clause-refused_key c =
    let some = has_text _ _ _ _ _ c.in-Some.press c.in-Some.ensures c.encode.result c.encode.ensures.refused
    c.in-Ok.text c.in-Ok.is in
    search rules

-- the refused key
pub returns-in-Err-UnhandledFunctionKey-clause-refused_key : goal.returns-in-Err-UnhandledFunctionKey-clause-refused_key
returns-in-Err-UnhandledFunctionKey-clause-refused_key c = (
  λ is. has_no_text _ _ _ _ _ c.in-Some.press c.in-Some.ensures c.encode.result c.encode.ensures.refused
      c.in-Err-UnhandledFunctionKey.field-0-0
      (c.in-Err-UnhandledFunctionKey.is ∙ ap Err c.in-Err-UnhandledFunctionKey.field-0-is),
  λ none. refl,
)

-- want of memory
pub returns-in-Err-Memory-clause-refused_key : goal.returns-in-Err-Memory-clause-refused_key
returns-in-Err-Memory-clause-refused_key c =
    let some = may_have_text _ _ _ _ _ c.in-Some.press c.in-Some.ensures c.encode.result c.encode.ensures.refused
    (c.in-Err-Memory.is ∙ ap Err c.in-Err-Memory.field-0-is) in
    search rules
