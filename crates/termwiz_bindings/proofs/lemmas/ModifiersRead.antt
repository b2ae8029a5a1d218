-- The modifiers that are printed are read back.
use Rattle.std.proofs.Common.{◌≡◌, ◌∙◌, ℕ, ◌+◌, ◌<◌, zero, suc, Bool, true, false, not, ◌==◌, ◌&&◌, List, [], ◌++◌, bit_or, codes, refl, sym, ap, subst, arith, append_assoc}
use Rattle.std.specs.Prelude.{if◌then◌else◌}
use Rattle.std.proofs.lemmas.Bool.{and_parts}
use Rattle.std.proofs.lemmas.Bool.Decides.{nat_tests}
use Rattle.termwiz_bindings.specs.Presses.{SHIFT, ALT, CTRL, SUPER, HYPER, META, has_any}
use Rattle.termwiz_bindings.specs.Words.{modifier_of_word, modifier_words}
use Rattle.termwiz_bindings.specs.Names.{worded_press, printed_modifier, printed_modifiers}

-- what passes a test below a number
abbrev pub all_below : (ℕ → Bool) → ℕ → Bool
all_below p zero = true
all_below p (suc n) = p n && all_below p n

here_or_below : (p : ℕ → Bool) (n k : ℕ) (same : Bool) → (k == n) ≡ same → k < suc n → p n ≡ true → (k < n → p k ≡ true) → p k ≡ true
here_or_below p n k true same below here lower =
    let equal : k ≡ n = grind (arith, nat_tests) in
    subst (λ m. p m ≡ true) (sym equal) here
here_or_below p n k false other below here lower = lower (grind (arith, nat_tests))

pub below_passes : (p : ℕ → Bool) (n k : ℕ) → all_below p n ≡ true → k < n → p k ≡ true
below_passes p zero k all below = absurd (omega arith)
below_passes p (suc n) k all below =
    let both = and_parts (p n) (all_below p n) all in
    here_or_below p n k (k == n) refl below both.0 (below_passes p n k both.1)

-- the modifiers that were read, once one more was printed
abbrev read_so_far : ℕ → ℕ → ℕ → ℕ
read_so_far held modifier before = if has_any held modifier then bit_or before modifier else before

abbrev after_super : ℕ → ℕ
after_super held = read_so_far held SUPER 0

abbrev after_hyper : ℕ → ℕ
after_hyper held = read_so_far held HYPER (after_super held)

abbrev after_meta : ℕ → ℕ
after_meta held = read_so_far held META (after_hyper held)

abbrev after_ctrl : ℕ → ℕ
after_ctrl held = read_so_far held CTRL (after_meta held)

abbrev after_alt : ℕ → ℕ
after_alt held = read_so_far held ALT (after_ctrl held)

abbrev after_shift : ℕ → ℕ
after_shift held = read_so_far held SHIFT (after_alt held)

-- each modifier is new, and in the end all are held
abbrev lacks : ℕ → ℕ → Bool
lacks held modifier = not (has_any held modifier)

abbrev is_collected : ℕ → Bool
is_collected held =
    lacks (after_super held) HYPER && (lacks (after_hyper held) META && (lacks (after_meta held) CTRL
    && (lacks (after_ctrl held) ALT && (lacks (after_alt held) SHIFT && (after_shift held == held)))))

collected : (held : ℕ) → held < 64 → is_collected held ≡ true
collected held below = below_passes is_collected 64 held refl below

lacking : (held modifier : ℕ) → lacks held modifier ≡ true → has_any held modifier ≡ false
lacking held modifier is = go (has_any held modifier) is
  where
    go : (b : Bool) → not b ≡ true → b ≡ false
    go false none = refl
    go true none = cc

-- the answer is that of the rest, with other modifiers, wherever it stands
abbrev ReadsOn : ℕ → ℕ → List ℕ → ℕ → List ℕ → Type 0
ReadsOn held at text after rest = (place : ℕ) × (worded_press held at [] text ≡ worded_press after place [] rest)

abbrev ReadsWord : ℕ → List ℕ → Type 0
ReadsWord modifier word = (held at : ℕ) (rest : List ℕ) → has_any held modifier ≡ false
    → ReadsOn held at (word ++ rest) (bit_or held modifier) rest

super_read : ReadsWord SUPER (codes "super+")
unfolding worded_press modifier_of_word modifier_words
super_read held at rest new = (at + 5 + 1, rw new refl)

hyper_read : ReadsWord HYPER (codes "hyper+")
unfolding worded_press modifier_of_word modifier_words
hyper_read held at rest new = (at + 5 + 1, rw new refl)

meta_read : ReadsWord META (codes "meta+")
unfolding worded_press modifier_of_word modifier_words
meta_read held at rest new = (at + 4 + 1, rw new refl)

ctrl_read : ReadsWord CTRL (codes "ctrl+")
unfolding worded_press modifier_of_word modifier_words
ctrl_read held at rest new = (at + 4 + 1, rw new refl)

alt_read : ReadsWord ALT (codes "alt+")
unfolding worded_press modifier_of_word modifier_words
alt_read held at rest new = (at + 3 + 1, rw new refl)

shift_read : ReadsWord SHIFT (codes "shift+")
unfolding worded_press modifier_of_word modifier_words
shift_read held at rest new = (at + 5 + 1, rw new refl)

-- a modifier that may be printed
modifier_read : (modifier : ℕ) (word : List ℕ) → ReadsWord modifier word → (all held at : ℕ) (rest : List ℕ)
    → has_any held modifier ≡ false
    → ReadsOn held at (printed_modifier all modifier word ++ rest) (read_so_far all modifier held) rest
modifier_read modifier word reads all held at rest new = go (has_any all modifier)
  where
    go : (b : Bool) → ReadsOn held at ((if b then word else []) ++ rest) (if b then bit_or held modifier else held) rest
    go true = reads held at rest new
    go false = (at, refl)

-- all modifiers
pub modifiers_read : (held at : ℕ) (name : List ℕ) → held < 64 → ReadsOn 0 at (printed_modifiers held ++ name) held name
unfolding printed_modifiers
modifiers_read held at name below =
    let facts = collected held below in
    let new1 = and_parts (lacks (after_super held) HYPER) _ facts in
    let new2 = and_parts (lacks (after_hyper held) META) _ new1.1 in
    let new3 = and_parts (lacks (after_meta held) CTRL) _ new2.1 in
    let new4 = and_parts (lacks (after_ctrl held) ALT) _ new3.1 in
    let new5 = and_parts (lacks (after_alt held) SHIFT) (after_shift held == held) new4.1 in
    let whole : after_shift held ≡ held = grind (arith, nat_tests, new5.1) in
    let p1 : List ℕ = printed_modifier held SUPER (codes "super+") in
    let p2 : List ℕ = printed_modifier held HYPER (codes "hyper+") in
    let p3 : List ℕ = printed_modifier held META (codes "meta+") in
    let p4 : List ℕ = printed_modifier held CTRL (codes "ctrl+") in
    let p5 : List ℕ = printed_modifier held ALT (codes "alt+") in
    let p6 : List ℕ = printed_modifier held SHIFT (codes "shift+") in
    let grouped : (p1 ++ p2 ++ p3 ++ p4 ++ p5 ++ p6) ++ name ≡ p1 ++ (p2 ++ (p3 ++ (p4 ++ (p5 ++ (p6 ++ name))))) = simp append_assoc in
    let r1 = modifier_read SUPER (codes "super+") super_read held 0 at (p2 ++ (p3 ++ (p4 ++ (p5 ++ (p6 ++ name))))) refl in
    let r2 = modifier_read HYPER (codes "hyper+") hyper_read held (after_super held) r1.0 (p3 ++ (p4 ++ (p5 ++ (p6 ++ name)))) (lacking (after_super held) HYPER new1.0) in
    let r3 = modifier_read META (codes "meta+") meta_read held (after_hyper held) r2.0 (p4 ++ (p5 ++ (p6 ++ name))) (lacking (after_hyper held) META new2.0) in
    let r4 = modifier_read CTRL (codes "ctrl+") ctrl_read held (after_meta held) r3.0 (p5 ++ (p6 ++ name)) (lacking (after_meta held) CTRL new3.0) in
    let r5 = modifier_read ALT (codes "alt+") alt_read held (after_ctrl held) r4.0 (p6 ++ name) (lacking (after_ctrl held) ALT new4.0) in
    let r6 = modifier_read SHIFT (codes "shift+") shift_read held (after_alt held) r5.0 name (lacking (after_alt held) SHIFT new5.0) in
    (r6.0, ap (worded_press 0 at []) grouped ∙ r1.1 ∙ r2.1 ∙ r3.1 ∙ r4.1 ∙ r5.1 ∙ r6.1 ∙ ap (λ h. worded_press h r6.0 [] name) whole)
