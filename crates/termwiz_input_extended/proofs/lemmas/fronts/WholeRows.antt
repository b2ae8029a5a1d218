-- Whether a text is a row of the table as a whole, by a lookup.
use Rattle.std.proofs.Common.{◌≡◌, ⊎_elim, ℕ, ◌<◌, ◌≤◌, List, length, subst, arith, Contains, Some, None}
use Rattle.std.specs.FinMap.{get}
use Rattle.std.proofs.Math.Seq.{take-length}
use Rattle.std.proofs.lemmas.List.{take_all}
use Rattle.std.proofs.lemmas.Bool.{cases_lt}
use Rattle.termwiz_keymap.specs.Lookup.{IsLongestKey, NoKeyBegins}
use Rattle.termwiz_keys.specs.declared.types.KeyEvent.{KeyEvent}
use Rattle.termwiz_grammar.specs.Table.{rows, table}
use Rattle.termwiz_grammar.proofs.lemmas.table.TableAsMap.{row_from_table, table_from_row}

-- the longest row that begins a text, where it is as long as the text
pub row_whole : (u : List ℕ) (len : ℕ) (key : KeyEvent) → IsLongestKey table u len key → len ≡ length u
    → Contains rows (u, key)
row_whole u len key is all =
    row_from_table u key (subst (λ t. get table t ≡ Some key) (take_all len u (omega arith)) is.stored)

-- no row begins a text that is none as a whole
pub no_row_whole : (u : List ℕ) (key : KeyEvent) → NoKeyBegins table u → Contains rows (u, key) → ⊥
no_row_whole u key none row =
    let gone : get table u ≡ None = subst (λ t. get table t ≡ None) (take-length u) (none (length u) (omega arith)) in
    cc (gone, table_from_row u key row)

-- a row that is the whole text is the longest that begins it
pub row_len : (u : List ℕ) (len : ℕ) (key other : KeyEvent) → IsLongestKey table u len key → Contains rows (u, other)
    → len ≡ length u
row_len u len key other is row = ⊎_elim
    (λ (shorter : len < length u).
    let gone : get table u ≡ None =
    subst (λ t. get table t ≡ None) (take-length u) (is.longest (length u) shorter (omega arith)) in
    absurd (cc (gone, table_from_row u other row)))
    (λ (all : length u ≤ len). (let within : len ≤ length u = is.within in omega arith))
    (cases_lt len (length u))
