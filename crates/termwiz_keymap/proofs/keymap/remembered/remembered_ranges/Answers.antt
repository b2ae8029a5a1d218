use Rattle.std.proofs.Common.{List, length, take, drop, ◌++◌, subst, arith}
use Rattle.std.proofs.lemmas.List.Elements.{All-append, All-drop, All-replicate, All-take}
use Rattle.std.specs.List.{All}
use Rattle.termwiz_keymap.specs.declared.keymap.remembered.Remembered.{Remembered}
use Rattle.termwiz_keymap.specs.declared.keymap.row.Row.{Row}
use Rattle.termwiz_keymap.specs.Remembering.{IsRight}
use Rattle.termwiz_keymap.proofs.keymap.remembered.remembered_ranges.Goals as goal

pub returns-in_default : goal.returns-in_default
returns-in_default g c =
    let nothing : Remembered = record { number = 0; depth = 0; low = 0; high = 0; longest = 0 } in
    rw (c.in_ok-places.ensures.items_if_clones_equal (λ y e. e))
    (All-replicate (IsRight c.args.rows.now) 8192 nothing (λ front bytes some. absurd (omega arith)))

pub returns-then-rows-ge-ROWS : goal.returns-then-rows-ge-ROWS
returns-then-rows-ge-ROWS g c =
    let nothing : Remembered = record { number = 0; depth = 0; low = 0; high = 0; longest = 0 } in
    rw (c.in_ok-places.ensures.items_if_clones_equal (λ y e. e))
    (All-replicate (IsRight c.args.rows.now) 8192 nothing (λ front bytes some. absurd (omega arith)))

pub returns : goal.returns
returns g c =
    let rows = c.in-Some.rows.now in
    let old = c.in_ok-places.places.items in
    let new = c.remember_within.new.places in
    let nothing : Remembered = record { number = 0; depth = 0; low = 0; high = 0; longest = 0 } in
    let none : All (IsRight rows) old =
    rw (c.in_ok-places.ensures.items_if_clones_equal (λ y e. e))
    (All-replicate (IsRight rows) 8192 nothing (λ front bytes some. absurd (omega arith))) in
    let all : List Remembered = take c.in_ok-places.places.len (new ++ drop (length new) old) in
    subst (λ (r : List (Row _)). All (IsRight r) all) c.in-Some.ensures
    (All-take (IsRight rows) c.in_ok-places.places.len (new ++ drop (length new) old)
    (All-append (IsRight rows) new (drop (length new) old) c.remember_within.ensures
    (All-drop (IsRight rows) (length new) old none)))
