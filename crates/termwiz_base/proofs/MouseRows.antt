-- Each code of a report has its row in the table of buttons, by trying all of them.
use Rattle.std.proofs.Common.{◌≡◌, ◌==◌, ◌≤◌, ◌&&◌, ℕ, zero, suc, Bool, true, refl, arith}
use Rattle.std.proofs.lemmas.Bool.Decides.{Decides-below_and}
use Rattle.std.specs.List.{list_any}
use Rattle.termwiz_base.specs.Mouse.{HasRow, base_of, table}

abbrev is_listed : ℕ → Bool
is_listed code = list_any (λ row. row.0 == base_of code) table

abbrev all_listed : ℕ → Bool
all_listed zero = true
all_listed (suc n) = is_listed n && all_listed n

pub has_row : (code : ℕ) → code ≤ 95 → HasRow code
unfolding HasRow
has_row code h =
    let all =
    Decides-below_and is_listed (λ n. is_listed n ≡ true) all_listed (λ n. (λ e. e, λ e. e)) refl (λ _. refl) 96 in
    all.0 refl code (omega arith)
