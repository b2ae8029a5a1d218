-- An extra sequence or an opening is the longest known text that begins a text, and few sequences of the port begin one.
use Rattle.std.proofs.Common.{◌≡◌, ◌≢◌, ◌⊎◌, inl, inr, ⊎_elim, ℕ, ◌≤◌, Bool, false, List, [], ◌∷◌, ◌++◌, length, refl, sym, ap, ◌∙◌, subst, arith, length-append}
use Rattle.std.specs.Prelude.{codes}
use Rattle.termwiz_keymap.specs.Bytes.{Begins}
use Rattle.termwiz_keymap.proofs.lemmas.lists.CommonPrefixes.{Overlaps, overlap}
use Rattle.termwiz_keymap.proofs.lemmas.lists.CommonPrefixes.Overlaps.{within, past}
use Rattle.termwiz_keys.specs.Introducers.{ESC, CSI, SS3}
use Rattle.termwiz_grammar.specs.Sequences.{Meaning, IsSequence}
use Rattle.termwiz_extended_events.specs.declared.types.Reading.{Reading}
use Rattle.termwiz_extended_events.specs.declared.types.StringKind.TheVariants.{Dcs}
use Rattle.termwiz_extended_grammar.specs.Forms.{introducer, IsForm}
use Rattle.termwiz_extended_grammar.specs.Forms.IsForm.{keypad_key}
use Rattle.termwiz_extended_grammar.specs.Readings.{ReadsMore}
use Rattle.termwiz_extended_grammar.specs.ExtendedGrammar.{BeginsExtended}
use Rattle.termwiz_extended_grammar.specs.ExtendedLaws.{ExtraIsLongest, OpeningIsLongest, FourBeginnings}
use Rattle.termwiz_extended_grammar.proofs.lemmas.forms.FormBytes.{IsMark}
use Rattle.termwiz_extended_grammar.proofs.lemmas.forms.FormEnds.{opening_once, sequence_after_mark, mark_after_sequence}
use Rattle.termwiz_extended_grammar.proofs.lemmas.forms.ExtraFacts.{start_form, unfinished_from_form, mark_from_unfinished, completed_mark}
use Rattle.termwiz_extended_grammar.proofs.lemmas.items.StringItems.{mark_once}
use Rattle.termwiz_extended_grammar.proofs.lemmas.items.ExtendedItems.{starts_once, extra_or_opening}

-- no sequence that begins a text is longer than a mark that begins it
shorter : {x10_mouse : Bool} (u x : List ℕ) → IsMark x10_mouse x → Begins x u → (y : List ℕ) (m : Meaning) → IsSequence y m → Begins y u → length y ≤ length x
shorter u x is b y m it c = go (overlap y c.0 x b.0 (sym b.1 ∙ c.1))
  where
    go : Overlaps y c.0 x b.0 → length y ≤ length x
    go (within t f g) = omega (arith, ap length f, length-append y t)
    go (past t longer f g) = absurd (longer (sequence_after_mark x t m is (subst (λ z. IsSequence z m) f it)))

pub extra_is_longest : ExtraIsLongest
extra_is_longest reading u x e is b = (
  shorter u x (inl is.is_form) b,
  λ y d it c. starts_once reading u y x d e it is c b,
  λ o. extra_or_opening reading u (record { text = x; event = e; is_extra = is; begins = b }) o,
)

pub opening_is_longest : OpeningIsLongest
opening_is_longest u head kind is b = (
  shorter {x10_mouse = false} u (introducer kind ++ head) (inr (record { kind = kind; head = head; is_head = is; form = refl })) b,
  λ k h it c. opening_once k kind h head (mark_once {x10_mouse = false} u (introducer k ++ h) (introducer kind ++ head)
      (inr (record { kind = k; head = h; is_head = it; form = refl }))
      (inr (record { kind = kind; head = head; is_head = is; form = refl })) c b),
)

-- ESC O M is a form
keypad_form : {x10_mouse : Bool} → IsForm x10_mouse (SS3 ++ 77 ∷ [])
keypad_form = keypad_key (record { letter = 77; form = refl; letter_is = inl refl })

begins : (reading : Reading) (text tail : List ℕ) → ReadsMore reading → tail ≢ [] → IsForm reading.x10_mouse (text ++ tail) → BeginsExtended reading text
begins reading text tail reads longer form =
    inl (unfinished_from_form reading text reads (record { tail = tail; longer = longer; is_form = form }))

pub four_beginnings : FourBeginnings
four_beginnings reading text m reads is = (
  λ h. (let c = completed_mark text (mark_from_unfinished reading text h) in mark_after_sequence text c.0 m is c.1 c.2),
  λ four. ⊎_elim
      (λ (e : text ≡ ESC). subst (λ z. BeginsExtended reading z) (sym e)
      (begins reading ESC (79 ∷ 77 ∷ []) reads (λ n. cc (n)) keypad_form))
      (λ (rest : (text ≡ CSI) ⊎ ((text ≡ SS3) ⊎ (text ≡ ESC ++ codes "P"))). ⊎_elim
      (λ (e : text ≡ CSI). subst (λ z. BeginsExtended reading z) (sym e)
      (begins reading CSI (codes "200~") reads (λ n. cc (n)) start_form))
      (λ (last : (text ≡ SS3) ⊎ (text ≡ ESC ++ codes "P")). ⊎_elim
      (λ (e : text ≡ SS3). subst (λ z. BeginsExtended reading z) (sym e)
      (begins reading SS3 (77 ∷ []) reads (λ n. cc (n)) keypad_form))
      (λ (e : text ≡ ESC ++ codes "P"). subst (λ z. BeginsExtended reading z) (sym e) (inr (
        reads,
        record {
          tail = codes ">|";
          longer = λ n. cc (n);
          kind = Dcs;
          head = codes ">|";
          is_head = inl refl;
          spells = refl;
        },
      )))
      last)
      rest)
      four,
)
