use Rattle.std.proofs.Common.{◌∙◌, ◌+◌, encode_utf8, length, length-append, refl, sym, ap, arith}
use Rattle.std.specs.Str.{chars}
use Rattle.std.proofs.lemmas.Str.{IsUtf8-past_char}
use Rattle.termwiz_bindings.specs.ChordNames.{control_at}
use Rattle.termwiz_bindings.proofs.lemmas.ChordSteps.{no_more_refused, refused_here, refused_later}
use Rattle.termwiz_bindings.proofs.names.chords.control_at.Goals as goal

pub loop-c-init : goal.loop-c-init
loop-c-init c = record { utf8 = c.utf8.text; place = omega arith; same = refl }

pub split_first-requires-text-text : goal.split_first-requires-text-text
split_first-requires-text-text c = λ _. c.loop-c.invariant.utf8

pub returns-then-is_refused : goal.returns-then-is_refused
returns-then-is_refused c =
    let l = c.loop-c in
    sym (refused_here l.at c.in-Some.c (chars l.rest.now) (chars c.in-Some.behind.now) c.in-Some.ensures.chars
    (sym c.is_refused.ensures ∙ c.if-is_refused.true))
    ∙ l.invariant.same

pub loop-c-preserved : goal.loop-c-preserved
loop-c-preserved c =
    let l = c.loop-c in
    let bytes = c.in-Some.ensures.bytes in
    record {
      utf8 = IsUtf8-past_char l.rest.now c.in-Some.behind.now c.in-Some.c l.invariant.utf8 bytes;
      place = omega (arith, ap length bytes, length-append (encode_utf8 c.in-Some.c) c.in-Some.behind.now, c.len_utf8-at.ensures.len);
      same = ap (λ n. control_at (l.at + n) (chars c.in-Some.behind.now)) c.len_utf8-at.ensures.value
          ∙ sym (refused_later l.at c.in-Some.c (chars l.rest.now) (chars c.in-Some.behind.now) c.in-Some.ensures.chars
          (sym c.is_refused.ensures ∙ c.if-is_refused.false))
          ∙ l.invariant.same;
    }

pub loop-c-smaller : goal.loop-c-smaller
loop-c-smaller c =
    omega (
      arith,
      ap length c.in-Some.ensures.bytes,
      length-append (encode_utf8 c.in-Some.c) c.in-Some.behind.now,
      c.len_utf8-at.ensures.len,
      c.len_utf8-at.ensures.lower_bound,
    )

pub overflow_add-at : goal.overflow_add-at
overflow_add-at c =
    let l = c.loop-c in
    omega (
      arith,
      l.invariant.place,
      ap length c.in-Some.ensures.bytes,
      length-append (encode_utf8 c.in-Some.c) c.in-Some.behind.now,
      c.len_utf8-at.ensures.len,
    )

pub returns : goal.returns
returns c =
    let l = c.loop-c in
    sym (no_more_refused l.at (chars l.rest.now) c.in_default.ensures.chars) ∙ l.invariant.same
