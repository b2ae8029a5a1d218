-- ESC alone properly begins an opening, and none begins it.
use Rattle.std.proofs.Common.{◌≡◌, inl, ℕ, ◌<◌, List, [], ◌∷◌, ◌++◌, length, refl, ap, ◌∙◌, subst, arith}
use Rattle.std.specs.Prelude.{codes}
use Rattle.termwiz_keymap.specs.Bytes.{Begins}
use Rattle.termwiz_keys.specs.Introducers.{ESC}
use Rattle.termwiz_extended_events.specs.declared.types.StringKind.TheVariants.{Dcs}
use Rattle.termwiz_extended_grammar.specs.Strings.{IsUnfinishedOpening, StartsWithOpening}
use Rattle.termwiz_extended_grammar.proofs.lemmas.forms.FormBytes.{introducer_shape}

none_alone : StartsWithOpening (27 ∷ []) → ⊥
none_alone o =
    let i = introducer_shape o.kind in
    let all : 27 ∷ [] ≡ 27 ∷ i.0 ∷ (o.head ++ o.begins.0) = o.begins.1 ∙ ap (λ z. z ++ o.head ++ o.begins.0) i.1 in cc (all)

begun_alone : IsUnfinishedOpening (27 ∷ [])
begun_alone = record {
  tail = codes "P>|";
  longer = λ n. cc (n);
  kind = Dcs;
  head = codes ">|";
  is_head = inl refl;
  spells = refl;
}

pub opening_alone : (u : List ℕ) → Begins ESC u → length u < 2 → (¬ StartsWithOpening u) × IsUnfinishedOpening u
opening_alone [] b short = absurd (cc (b.1))
opening_alone (x ∷ []) b short =
    let first : 27 ≡ x = cc (b.1) in
    subst (λ z. (¬ StartsWithOpening (z ∷ [])) × IsUnfinishedOpening (z ∷ [])) first (none_alone, begun_alone)
opening_alone (x ∷ y ∷ u) b short = absurd (omega arith)
