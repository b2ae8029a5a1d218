use Rattle.std.proofs.Common.{◌∙◌, ◌≤◌, refl, ap, subst, length, string_bytes, rules, arith}
use Rattle.hedrugal.specs.declared.sent_names.NotSent.{NotSent}
use Rattle.hedrugal.specs.Calls.{copied}
use Rattle.hedrugal.specs.SentNames.{IsNotSent}
use Rattle.hedrugal.proofs.SentPresses.{no_bad_modes}
use Rattle.hedrugal.proofs.sent_names.hed_send_names.Goals as goal

pub returns-in-Err-clause-bad_number : goal.returns-in-Err-clause-bad_number
returns-in-Err-clause-bad_number c =
    let least : 9 ≤ c.in-Err.bad.status = c.in-Err.ensures.not_ok in
    no_bad_modes _ c.args.modes.now c.in-Some.modes (λ is. omega (arith, is, least)) ((c.in-Some.ensures c.in-Some.modes).0 refl)

pub returns-in-Ok-chord_text-clause-sent : goal.returns-in-Ok-chord_text-clause-sent
returns-in-Ok-chord_text-clause-sent c = λ is. (
  c.in-Ok.chord,
  c.in-Some.modes,
  string_bytes c.in-Ok-chord_text.sent,
  c.in-Ok.ensures.ok,
  (c.in-Some.ensures c.in-Some.modes).0 refl,
  c.in-Ok-chord_text.ensures.sent,
  c.write_out.ensures.len ∙ ap length c.as_bytes.ensures.value,
  c.write_out.ensures.bytes ∙ ap (λ text. copied text c.args.out.now) c.as_bytes.ensures.value,
)

pub returns-in-Ok-chord_text-clause-bad_number : goal.returns-in-Ok-chord_text-clause-bad_number
returns-in-Ok-chord_text-clause-bad_number c =
    no_bad_modes _ c.args.modes.now c.in-Some.modes (search rules) ((c.in-Some.ensures c.in-Some.modes).0 refl)

pub returns-in-Err-Place-clause-refused_key : goal.returns-in-Err-Place-clause-refused_key
returns-in-Err-Place-clause-refused_key c = λ is.
    let (press, there, unsent) =
    subst (λ (why : NotSent). IsNotSent c.in-Some.modes c.in-Ok.chord why) c.in-Err-Place.field-0-is c.in-Err-Place.ensures.not_sent in (
      c.in-Ok.chord,
      c.in-Some.modes,
      c.in-Err-Place.place,
      press,
      c.in-Ok.ensures.ok,
      (c.in-Some.ensures c.in-Some.modes).0 refl,
      there,
      unsent,
      c.name_start.ensures,
    )

pub returns-in-Err-Place-clause-bad_number : goal.returns-in-Err-Place-clause-bad_number
returns-in-Err-Place-clause-bad_number c =
    no_bad_modes _ c.args.modes.now c.in-Some.modes (search rules) ((c.in-Some.ensures c.in-Some.modes).0 refl)

pub returns-in-Err-Memory-clause-bad_number : goal.returns-in-Err-Memory-clause-bad_number
returns-in-Err-Memory-clause-bad_number c =
    no_bad_modes _ c.args.modes.now c.in-Some.modes (search rules) ((c.in-Some.ensures c.in-Some.modes).0 refl)
