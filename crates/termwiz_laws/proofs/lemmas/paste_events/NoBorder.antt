-- END overlaps neither END nor START, so where it occurs in texts that are joined before an ESC, it occurs in one of them.
use Rattle.std.proofs.Common.{◌≡◌, ℕ, List, [], ◌∷◌, ◌++◌, length, refl, sym, ap, ◌∙◌, subst, append_assoc, arith, length-append, get_or}
use Rattle.std.specs.List.{AllByRecursion}
use Rattle.termwiz_keymap.specs.Bytes.{Occurs}
use Rattle.termwiz_keys.specs.Introducers.{START, END}
use Rattle.termwiz_keymap.proofs.lemmas.lists.CommonPrefixes.{Overlaps, overlap, append-some, true_at_end}
use Rattle.termwiz_keymap.proofs.lemmas.lists.CommonPrefixes.Overlaps.{within, past}
use Rattle.termwiz_grammar.proofs.lemmas.mouse.OneReport.{IsPlain}
use Rattle.termwiz_laws.specs.PasteEvents.{FreeOfEnd}

-- END and START have an ESC only as their first byte
escape_at_front : (p s t : List ℕ) → AllByRecursion IsPlain p → 27 ∷ p ≡ s ++ 27 ∷ t → s ≡ []
escape_at_front p [] t low e = refl
escape_at_front p (x ∷ s) t low e =
    let rest : p ≡ s ++ 27 ∷ t = cc (e) in
    let plain : IsPlain 27 = (true_at_end IsPlain s (27 ∷ t) (subst (AllByRecursion IsPlain) rest low)).0 in
    absurd (omega (arith, plain.0))

plain_digits : (x : ℕ) → IsPlain x → AllByRecursion IsPlain (91 ∷ 50 ∷ 48 ∷ x ∷ 126 ∷ [])
plain_digits x plain =
    ((omega arith, omega arith), ((omega arith, omega arith), ((omega arith, omega arith), (plain, ((omega arith, omega arith), tt)))))

end_at_front : (s t : List ℕ) → END ≡ s ++ 27 ∷ t → s ≡ []
end_at_front s t e = escape_at_front (91 ∷ 50 ∷ 48 ∷ 49 ∷ 126 ∷ []) s t (plain_digits 49 (omega arith, omega arith)) e

start_at_front : (s t : List ℕ) → START ≡ s ++ 27 ∷ t → s ≡ []
start_at_front s t e = escape_at_front (91 ∷ 50 ∷ 48 ∷ 48 ∷ 126 ∷ []) s t (plain_digits 48 (omega arith, omega arith)) e

-- where END begins in c and goes past it, what follows c begins with ESC only if END begins there
not_across : (c before t : List ℕ) → before ++ END ≡ c ++ 27 ∷ t → (s : List ℕ) × (before ≡ c ++ s) × (27 ∷ t ≡ s ++ END)
not_across c before t e = go (overlap c (27 ∷ t) before END e)
  where
    go : Overlaps c (27 ∷ t) before END → (s : List ℕ) × (before ≡ c ++ s) × (27 ∷ t ≡ s ++ END)
    go (within s f g) = (s, f, g)
    go (past s n f g) = absurd (n (end_at_front s t g))

-- END in a text that is joined from c and one that begins with ESC
pub end_in_one : (c x : List ℕ) → (Occurs END c → ⊥) → (Occurs END (27 ∷ x) → ⊥) → Occurs END (c ++ 27 ∷ x) → ⊥
end_in_one c x first second o = go (overlap (o.0 ++ END) o.1 c (27 ∷ x) o.2)
  where
    go : Overlaps (o.0 ++ END) o.1 c (27 ∷ x) → ⊥
    go (within t e f) = first (o.0, t, e)
    go (past [] n e f) = n refl
    go (past (y ∷ t) n e f) =
        let same : y ≡ 27 = cc (f) in
        let at = not_across c o.0 t (e ∙ ap (λ z. c ++ z ∷ t) same) in
        second (at.0, o.1, f ∙ ap (λ z. (z ∷ t) ++ o.1) same ∙ ap (λ z. z ++ o.1) at.2)

-- END occurs in START and what follows only if it occurs in what follows
pub end_after_start : (body : List ℕ) → (Occurs END body → ⊥) → Occurs END (START ++ body) → ⊥
end_after_start body free o =
    go (overlap o.0 (END ++ o.1) START body (o.2 ∙ append_assoc o.0 END o.1))
  where
    begins : (before t : List ℕ) → before ≡ [] → START ≡ before ++ 27 ∷ t → END ++ o.1 ≡ (27 ∷ t) ++ body → ⊥
    begins before t none e f =
        let whole : START ≡ 27 ∷ t = e ∙ ap (λ z. z ++ 27 ∷ t) none in
        let same : END ++ o.1 ≡ START ++ body = f ∙ ap (λ z. z ++ body) (sym whole) in
        let digit : ◌≡◌ {A = ℕ} 49 48 = ap (λ z. get_or z 4 0) same in omega arith

    go : Overlaps o.0 (END ++ o.1) START body → ⊥
    go (within [] e f) = free ([], o.1, sym f)
    go (within (y ∷ t) e f) =
        let same : y ≡ 27 = cc (f) in
        let front : START ≡ o.0 ++ 27 ∷ t = e ∙ ap (λ z. o.0 ++ z ∷ t) same in
        begins o.0 t (start_at_front o.0 t front) front (f ∙ ap (λ z. (z ∷ t) ++ body) same)
    go (past t n e f) = free (t, o.1, f ∙ sym (append_assoc t END o.1))

at_the_end : (body before after : List ℕ) → (Occurs END body → ⊥) → body ++ END ≡ before ++ END ++ after → after ≡ []
at_the_end body before after free e = go (overlap (before ++ END) after body END e)
  where
    short : (s : List ℕ) → length s ≡ 0 → s ≡ []
    short [] l = refl
    short (x ∷ s) l = absurd (omega arith)

    go : Overlaps (before ++ END) after body END → after ≡ []
    go (within t f g) = absurd (free (before, t, f))
    go (past [] n f g) = absurd (n refl)
    go (past (y ∷ t) n f g) =
        let same : y ≡ 27 = cc (g) in
        let at = not_across body before t (f ∙ ap (λ z. body ++ z ∷ t) same) in
        short after (omega (arith, ap length g, length-append (y ∷ t) after, ap length at.2, length-append at.0 END))

pub free_of_end : FreeOfEnd
free_of_end body = (
  λ first o. append-some o.1 END (λ e. cc (e))
      (first o.0 (o.1 ++ END) (ap (λ x. x ++ END) o.2 ∙ append_assoc (o.0 ++ END) o.1 END)),
  λ free before after e. at_the_end body before after free e,
)
