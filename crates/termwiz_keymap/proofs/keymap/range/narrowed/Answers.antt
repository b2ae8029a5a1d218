use Rattle.std.proofs.Common.{◌∙◌, ◌+◌, ap, sym, length, get_or, arith}
use Rattle.termwiz_keymap.proofs.lemmas.rows.ByteSearch.{first_after, none_left, none_with}
use Rattle.termwiz_keymap.proofs.lemmas.rows.Narrowing.{rising_at, rising_from, met, unmet_row, unmet_none}
use Rattle.termwiz_keymap.proofs.keymap.range.narrowed.Goals as goal
use Rattle.termwiz_keymap.proofs.keymap.range.narrowed.Goals.{then-low-range-via-then-low-range, then-low-range-via-else-low-range+then-byte}

pub first_of-low-requires-clause-rising : goal.first_of-low-requires-clause-rising
first_of-low-requires-clause-rising g c =
    rising_at c.args.rows.now c.args.text.now c.args.depth c.args.range c.requires.first c.requires.ascending (omega arith)

pub byte-requires : goal.byte-requires
byte-requires g c =
    let rises = rising_at c.args.rows.now c.args.text.now c.args.depth c.args.range c.requires.first c.requires.ascending
    (omega arith) in
    let long = rises.longer c.first_of-low.result c.index-rows-low.result c.first_of-low.ensures.past_low
    (omega (arith, c.if-low-range.false, c.first_of-low.ensures.up_to_high)) in
    rw c.index-rows-low.is long

pub returns-then-low-range-clause-range : goal.returns-then-low-range-clause-range
returns-then-low-range-clause-range g c =
    let rises = rising_at c.args.rows.now c.args.text.now c.args.depth c.args.range c.requires.first c.requires.ascending
    (omega arith) in
    elim c.then-low-range.branch [
      | then-low-range-via-then-low-range w ↦
          unmet_none c.args.rows.now c.args.text.now c.args.depth c.args.range c.requires.first c.requires.ascending
          c.requires.inside c.first_of-low.result c.first_of-low.result c.first_of-low.ensures
          (none_left c.args.rows.now c.args.depth (get_or c.args.text.now c.args.depth 0) c.args.range.low
          c.first_of-low.result c.args.range.high rises c.first_of-low.ensures w.if-low-range.true) (omega arith)
      | then-low-range-via-else-low-range+then-byte w ↦
          unmet_none c.args.rows.now c.args.text.now c.args.depth c.args.range c.requires.first c.requires.ascending
          c.requires.inside c.first_of-low.result c.first_of-low.result c.first_of-low.ensures
          (none_with c.args.rows.now c.args.depth (get_or c.args.text.now c.args.depth 0) c.args.range.low
          c.first_of-low.result c.args.range.high rises c.first_of-low.ensures w.index-rows-low.result
          (omega (arith, w.if-low-range.false, c.first_of-low.ensures.up_to_high, rises.inside)) w.index-rows-low.is
          (λ same. w.if-byte.true (w.byte.ensures ∙ same))) (omega arith)
    ]

pub first_from-high-requires-clause-rising : goal.first_from-high-requires-clause-rising
first_from-high-requires-clause-rising g c =
    rising_from c.args.rows.now c.args.depth c.args.range.low c.args.range.high (c.first_of-low.result + 1)
    (omega (arith, c.first_of-low.ensures.past_low))
    (rising_at c.args.rows.now c.args.text.now c.args.depth c.args.range c.requires.first c.requires.ascending
    (omega arith))

pub returns-then-key-depth-clause-range : goal.returns-then-key-depth-clause-range
returns-then-key-depth-clause-range g c =
    let ends = first_after c.args.rows.now c.args.depth (get_or c.args.text.now c.args.depth 0 + 1)
    c.first_of-low.result c.args.range.high c.first_from-high.result c.index-rows-low.result
    (omega (arith, c.if-low-range.false, c.first_of-low.ensures.up_to_high, c.requires.first.going_on.inside))
    c.index-rows-low.is (omega (arith, c.if-byte.false, c.byte.ensures)) c.first_from-high.ensures in
    met c.args.rows.now c.args.text.now c.args.depth c.args.range c.requires.first c.requires.ascending c.requires.inside
    c.first_of-low.result c.first_from-high.result c.first_of-low.ensures ends
    (omega (arith, c.first_from-high.ensures.past_low)) c.index-rows-low-2.result c.index-rows-low-2.is
    (ap length (sym c.key.ensures) ∙ c.if-key-depth.true)

pub returns-else-key-depth-clause-range : goal.returns-else-key-depth-clause-range
returns-else-key-depth-clause-range g c =
    let ends = first_after c.args.rows.now c.args.depth (get_or c.args.text.now c.args.depth 0 + 1)
    c.first_of-low.result c.args.range.high c.first_from-high.result c.index-rows-low.result
    (omega (arith, c.if-low-range.false, c.first_of-low.ensures.up_to_high, c.requires.first.going_on.inside))
    c.index-rows-low.is (omega (arith, c.if-byte.false, c.byte.ensures)) c.first_from-high.ensures in
    unmet_row c.args.rows.now c.args.text.now c.args.depth c.args.range c.requires.first c.requires.ascending
    c.requires.inside c.first_of-low.result c.first_from-high.result c.first_of-low.ensures ends
    c.index-rows-low-2.result (omega (arith, c.first_from-high.ensures.past_low)) c.index-rows-low-2.is
    (λ same. c.if-key-depth.false (ap length c.key.ensures ∙ same))
