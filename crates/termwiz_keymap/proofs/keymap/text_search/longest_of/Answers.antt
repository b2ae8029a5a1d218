use Rattle.std.proofs.Common.{◌∙◌, sym, ap, length, arith}
use Rattle.termwiz_keymap.proofs.lemmas.rows.TextSearch.{shortened_none, longest_none, longest_there, shorter, shortened}
use Rattle.termwiz_keymap.proofs.keymap.text_search.longest_of.Goals as goal

pub loop-count-init : goal.loop-count-init
loop-count-init g c = shortened_none c.args.rows.now c.requires.ascending c.args.text.now c.args.count c.requires.counted

pub returns-then-shared-key : goal.returns-then-shared-key
returns-then-shared-key g c =
    let agree = rw c.key-key.ensures at c.shared_len-shared.ensures in
    longest_there c.args.rows.now c.requires.ascending c.args.text.now c.loop-count.len c.loop-count.count
    c.loop-count.invariant (omega arith) c.index.result.now c.index.ensures c.shared_len-shared.result agree
    (c.if-shared-key.true ∙ ap length c.key-key.ensures)

pub loop-count-preserved : goal.loop-count-preserved
loop-count-preserved g c =
    let agree = rw c.key-key.ensures at c.shared_len-shared.ensures in
    shortened c.args.rows.now c.requires.ascending c.args.text.now c.loop-count.len c.loop-count.count
    c.loop-count.invariant (omega arith) c.index.result.now c.index.ensures c.shared_len-shared.result agree
    (λ same. c.if-shared-key.false (same ∙ sym (ap length c.key-key.ensures))) c.count_up_to-count.result
    c.count_up_to-count.ensures

pub loop-count-smaller : goal.loop-count-smaller
loop-count-smaller g c =
    let agree = rw c.key-key.ensures at c.shared_len-shared.ensures in
    shorter c.args.rows.now c.requires.ascending c.args.text.now c.loop-count.len c.loop-count.count
    c.loop-count.invariant (omega arith) c.index.result.now c.index.ensures c.shared_len-shared.result agree
    (λ same. c.if-shared-key.false (same ∙ sym (ap length c.key-key.ensures)))

pub returns : goal.returns
returns g c = rw c.len.ensures (longest_none c.args.rows.now c.requires.ascending c.args.text.now c.loop-count.len c.loop-count.count
    c.loop-count.invariant (omega arith))
