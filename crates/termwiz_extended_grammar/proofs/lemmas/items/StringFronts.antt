-- Openings behind an introducer, for a parser that has read it: a head begins what follows, or what follows properly begins a head.
use Rattle.std.proofs.Common.{◌≡◌, ◌≢◌, ℕ, List, [], ◌∷◌, ◌++◌, sym, ap, ◌∙◌, subst, append_assoc}
use Rattle.termwiz_keymap.specs.Bytes.{Begins}
use Rattle.termwiz_extended_events.specs.declared.types.StringKind.{StringKind}
use Rattle.termwiz_extended_grammar.specs.Forms.{introducer}
use Rattle.termwiz_extended_grammar.specs.Strings.{IsHead, StartsWithOpening, IsUnfinishedOpening}
use Rattle.termwiz_extended_grammar.proofs.lemmas.forms.FormBytes.{IsStringIntroducer, introducer_shape}
use Rattle.termwiz_extended_grammar.proofs.lemmas.forms.FormEnds.{opening_once}

pub head_inside : (kind : StringKind) (t : List ℕ) → StartsWithOpening (introducer kind ++ t) → (head : List ℕ) × IsHead kind head × Begins head t
head_inside kind t o =
    let one = opening_once o.kind kind (o.head ++ o.begins.0) t
    (sym (append_assoc (introducer o.kind) o.head o.begins.0) ∙ sym o.begins.1) in
    (o.head, subst (λ z. IsHead z o.head) one.0 o.is_head, (o.begins.0, sym one.1))

pub unfinished_inside : (kind : StringKind) (t : List ℕ) → IsUnfinishedOpening (introducer kind ++ t)
    → (tail : List ℕ) × (tail ≢ []) × IsHead kind (t ++ tail)
unfinished_inside kind t h =
    let one = opening_once h.kind kind h.head (t ++ h.tail) (h.spells ∙ append_assoc (introducer kind) t h.tail) in
    (h.tail, h.longer, subst (λ z. IsHead z (t ++ h.tail)) one.0 (subst (λ z. IsHead h.kind z) one.1 h.is_head))

pub unfinished_outside : (kind : StringKind) (t tail : List ℕ) → tail ≢ [] → IsHead kind (t ++ tail) → IsUnfinishedOpening (introducer kind ++ t)
unfinished_outside kind t tail longer is = record {
  tail = tail;
  longer = longer;
  kind = kind;
  head = t ++ tail;
  is_head = is;
  spells = sym (append_assoc (introducer kind) t tail);
}

-- after other bytes there is neither
pub no_opening_after : (x y : ℕ) (t : List ℕ) → (x ≡ 27 → IsStringIntroducer y → ⊥) → StartsWithOpening (x ∷ y ∷ t) → ⊥
no_opening_after x y t never o =
    let i = introducer_shape o.kind in
    let all : x ∷ y ∷ t ≡ 27 ∷ i.0 ∷ (o.head ++ o.begins.0) = o.begins.1 ∙ ap (λ z. z ++ o.head ++ o.begins.0) i.1 in
    let second : i.0 ≡ y = cc (all) in
    never (cc (all)) (subst IsStringIntroducer second i.2)
