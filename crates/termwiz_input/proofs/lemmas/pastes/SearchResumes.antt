-- Where a search for the end of a paste may go on.
use Rattle.std.proofs.Common.{◌≡◌, ℕ, ◌+◌, ◌-◌, ◌≤◌, Bool, List, [], ◌∷◌, ◌++◌, length, take, drop, max, get_or, sym, ap, ◌∙◌, subst, arith, append_assoc, append-nil, length-append, length-take-le, take-append-drop, Option, Some, None}
use Rattle.std.specs.Str.Lossy.{utf8_lossy}
use Rattle.memchr.specs.Find.{OccursAt, FindsNeedle}
use Rattle.memchr.proofs.lemmas.MatchLemmas.{OccursAt-split}
use Rattle.termwiz_keys.specs.declared.types.InputEvent.TheVariants.{Paste}
use Rattle.termwiz_keymap.specs.Bytes.{Begins, Occurs}
use Rattle.termwiz_keys.specs.Introducers.{START, END}
use Rattle.termwiz_grammar.specs.Grammar.{IsRest}
use Rattle.termwiz_grammar.specs.Grammar.Item.{paste}
use Rattle.termwiz_grammar.specs.WaitingKinds.{IsOpenPaste}
use Rattle.termwiz_input.specs.PasteSearch.{NoEndBefore}
use Rattle.termwiz_keymap.proofs.lemmas.lists.CommonPrefixes.{Overlaps, overlap, length-some}
use Rattle.termwiz_keymap.proofs.lemmas.lists.CommonPrefixes.Overlaps.{within, past}
use Rattle.termwiz_grammar.proofs.lemmas.pastes.FirstEnd.{Ends, find_end}
use Rattle.termwiz_grammar.proofs.lemmas.pastes.FirstEnd.Ends.{ends, endless}
use Rattle.termwiz_input.proofs.lemmas.items.ItemByHead.{paste_rest, start_closed}

-- a search of an open paste, from the place on but after START, begins in the text
pub search_within : (u : List ℕ) (place from : ℕ) → Begins START u → NoEndBefore u place → from ≡ max place 6
    → from ≤ length u
search_within u place from begins is e =
    omega (arith, is END u [] (sym (append-nil (u ++ END))), ap length begins.1, length-append START begins.0)

too_soon : (u : List ℕ) (place k : ℕ) → NoEndBefore u place → OccursAt u END k → place ≤ k
too_soon u place k is here =
    let long : length (take k u) ≡ k = length-take-le k u (omega (arith, here.fits)) in
    let parts = sym (take-append-drop k u) ∙ ap (λ t. take k u ++ t) (OccursAt-split u END k here)
    ∙ sym (append_assoc (take k u) END (drop (k + 6) u)) in
    let least : place ≤ length (take k u) = is [] (take k u) (drop (k + 6) u) (append-nil u ∙ parts) in
    omega arith

-- it finds what a search from the end of START on does
pub from_place : (u : List ℕ) (place from : ℕ) (r : Option ℕ) → NoEndBefore u place → from ≡ max place 6
    → FindsNeedle u END from r → FindsNeedle u END 6 r
from_place u place from None is e never = λ k low high here.
    (let least = too_soon u place k is here in never k (omega arith) high here)
from_place u place from (Some j) is e found = (
  record {
    low = omega (arith, found.0.low);
    high = found.0.high;
    before = λ k low high here. (let least = too_soon u place k is here in found.0.before k (omega arith) high here);
  },
  found.1,
)

-- END doesn't begin in START
past_start : (before after rest : List ℕ) → START ++ rest ≡ before ++ END ++ after → Occurs END rest
past_start [] after rest e = absurd (let h : 48 ≡ 49 = ap (λ z. get_or z 4 0) e in omega arith)
past_start (a ∷ []) after rest e = absurd (let h : 91 ≡ 27 = ap (λ z. get_or z 1 0) e in omega arith)
past_start (a ∷ b ∷ []) after rest e = absurd (let h : 50 ≡ 27 = ap (λ z. get_or z 2 0) e in omega arith)
past_start (a ∷ b ∷ c ∷ []) after rest e = absurd (let h : 48 ≡ 27 = ap (λ z. get_or z 3 0) e in omega arith)
past_start (a ∷ b ∷ c ∷ d ∷ []) after rest e = absurd (let h : 48 ≡ 27 = ap (λ z. get_or z 4 0) e in omega arith)
past_start (a ∷ b ∷ c ∷ d ∷ f ∷ []) after rest e = absurd (let h : 126 ≡ 27 = ap (λ z. get_or z 5 0) e in omega arith)
past_start (a ∷ b ∷ c ∷ d ∷ f ∷ g ∷ before) after rest e = (before, after, ap (drop 6) e)

-- where END stands in an open paste, an item does
paste_ends : (u rest : List ℕ) (more : Bool) → IsRest u more → u ≡ START ++ rest → Occurs END rest → ⊥
paste_ends u rest more waits begins there = go (find_end rest)
  where
    go : Ends rest → ⊥
    go (ends body after e first) =
        waits (START ++ body ++ END) (Paste (utf8_lossy body))
        (record {
          closed = start_closed u more (rest, begins);
          item = paste body (after, begins ∙ ap (λ t. START ++ t) e) first;
        })
    go (endless none) = none there

-- an open paste is the rest
pub open_waits : (u : List ℕ) (more : Bool) → IsOpenPaste u → IsRest u more
open_waits u more is = paste_rest u more (is.body, is.splits) (λ body split.
    let same : is.body ≡ body = cc (is.splits, split) in subst (λ b. ¬ Occurs END b) same is.endless)

-- where an open paste waits, END begins in none but its last five bytes
pub waits_place : (u : List ℕ) (more : Bool) (place : ℕ) → IsRest u more → Begins START u → place ≤ length u - 5
    → NoEndBefore u place
waits_place u more place waits (rest, begins) low s before after e = go (overlap (before ++ END) after u s e)
  where
    go : Overlaps (before ++ END) after u s → place ≤ length before
    go (within t f g) = absurd (paste_ends u rest more waits begins (past_start before t rest (sym begins ∙ f)))
    go (past t longer f g) =
        omega (arith, low, ap length f, length-append u t, length-append before END, length-some t longer)
