-- The first bytes tell what kind of bytes stays buffered.
use Rattle.std.proofs.Common.{◌≡◌, inr, ⊎_elim, ℕ, Bool, List, ◌∷◌, ◌++◌, subst, arith}
use Rattle.std.specs.Prelude.{codes}
use Rattle.termwiz_keymap.specs.Bytes.{Begins}
use Rattle.termwiz_keys.specs.Introducers.{START}
use Rattle.termwiz_grammar.specs.WaitingKinds.{IsOneOrTwoEscapes}
use Rattle.termwiz_grammar.proofs.lemmas.waiting.RestKinds.{CharacterBytes}
use Rattle.termwiz_input.specs.Matches.{BeginsWithHighByte}
use Rattle.termwiz_input.specs.WaitingBytes.{IsNoOtherKind}
use Rattle.termwiz_input.proofs.lemmas.heads.FirstHighByte.{high_bytes, begins_high}
use Rattle.termwiz_extended_events.specs.declared.types.Reading.{Reading}
use Rattle.termwiz_extended_grammar.specs.declared.waiting.ExtendedWaiting.TheVariants.{Escape, Sequence, Character, Paste, String}
use Rattle.termwiz_extended_grammar.specs.Strings.{IsOpenString, StartsWithOpening}
use Rattle.termwiz_extended_grammar.specs.ExtendedGrammar.{IsRest, ReadsOpening}
use Rattle.termwiz_extended_grammar.specs.ExtendedKinds.{IsKind}
use Rattle.termwiz_extended_grammar.specs.ExtendedGrammar.Stands.{string}
use Rattle.termwiz_extended_grammar.proofs.lemmas.items.ExtendedItems.{starts_shape}
use Rattle.termwiz_extended_grammar.proofs.lemmas.items.StringFronts.{no_opening_after}
use Rattle.termwiz_extended_grammar.proofs.lemmas.items.StringItems.{string_opening}
use Rattle.termwiz_extended_grammar.proofs.lemmas.items.StringRests.{SettledString, settle_string}
use Rattle.termwiz_extended_grammar.proofs.lemmas.items.StringRests.SettledString.{given, stays_open}
use Rattle.termwiz_extended_grammar.proofs.lemmas.waiting.KindsOfRests.{Kinds, escapes_no_paste, escapes_some, kinds, no_high, start_no_character, start_not_held, unfinished_low}
use Rattle.termwiz_extended_grammar.proofs.lemmas.waiting.KindsOfRests.Kinds.{none, pasted, sequence, open_now, character}

-- an opening has no high byte at its front, and begins no paste
high_no_opening : (reading : Reading) (u : List ℕ) → CharacterBytes u → ReadsOpening reading u → ⊥
high_no_opening reading u c o = (let s = starts_shape reading u (inr o) in ⊎_elim
    (λ (k : u ≡ c.first ∷ c.after). let first : c.first ≡ 27 = cc (k, s.2) in omega (arith, c.high))
    (λ (k : u ≡ 27 ∷ c.first ∷ c.after). let second : c.first ≡ s.0 = cc (k, s.2) in omega (arith, c.high, s.3))
    c.spells)

paste_no_opening : (u : List ℕ) → Begins START u → StartsWithOpening u → ⊥
paste_no_opening u b o =
    no_opening_after 27 91 (codes "200~" ++ b.0) (λ first second. omega arith) (subst StartsWithOpening b.1 o)

opening_of : (u : List ℕ) (o : IsOpenString u) → StartsWithOpening u
opening_of u o = string_opening u o.kind o.head o.bytes o.held o.is_string

module _ (reading : Reading) (u : List ℕ) (f : Bool) (rest : IsRest reading u f) where
  pub escape_kind : IsOneOrTwoEscapes u → IsKind reading u f Escape
  escape_kind told = go (kinds reading u f rest)
    where
      go : Kinds reading u f → IsKind reading u f Escape
      go (none e) = absurd (escapes_some u told e)
      go (pasted body e is) = absurd (escapes_no_paste u body told e)
      go (sequence held bytes is e n h m) = (told, m)
      go (open_now o m reads) = (told, m)
      go (character c is m) = (told, m)

  pub character_kind : BeginsWithHighByte u → IsKind reading u f Character
  character_kind told = go (kinds reading u f rest)
    where
      go : Kinds reading u f → IsKind reading u f Character
      go (none e) = absurd (⊎_elim
          (λ (k : u ≡ (high_bytes u told).first ∷ (high_bytes u told).after). cc (k, e))
          (λ (k : u ≡ 27 ∷ (high_bytes u told).first ∷ (high_bytes u told).after). cc (k, e))
          (high_bytes u told).spells)
      go (pasted body e is) = absurd (start_no_character u (body, e) (high_bytes u told))
      go (sequence held bytes is e n h m) = absurd (no_high u held bytes (high_bytes u told) is e (unfinished_low reading bytes n h))
      go (open_now o m reads) = absurd (high_no_opening reading u (high_bytes u told) (reads, opening_of u o))
      go (character c is m) = (is, m)

  pub paste_kind : Begins START u → IsKind reading u f Paste
  paste_kind told = go (kinds reading u f rest)
    where
      go : Kinds reading u f → IsKind reading u f Paste
      go (none e) = absurd (cc (e, told.1))
      go (pasted body e is) = is
      go (sequence held bytes is e n h m) = absurd (start_not_held reading u held bytes told is e n h)
      go (open_now o m reads) = absurd (paste_no_opening u told (opening_of u o))
      go (character c is m) = absurd (start_no_character u told c)

  -- what is told by none of these is an open string or the beginning of a sequence, by its opening
  pub sequence_kind : IsNoOtherKind u → (ReadsOpening reading u → ⊥) → IsKind reading u f Sequence
  sequence_kind told no_opening = go (kinds reading u f rest)
    where
      go : Kinds reading u f → IsKind reading u f Sequence
      go (none e) = absurd (told.some e)
      go (pasted body e is) = absurd (told.no_paste (body, e))
      go (sequence held bytes is e n h m) =
          (record { held = held; bytes = bytes; is_held = is; splits = e; some = n; unfinished = h }, told.no_escape, m)
      go (open_now o m reads) = absurd (no_opening (reads, opening_of u o))
      go (character c is m) = absurd (told.no_character (begins_high u c))

  pub string_kind : ReadsOpening reading u → IsKind reading u f String
  string_kind (reads, opening) = go (settle_string u f opening)
    where
      go : SettledString u f → IsKind reading u f String
      go (given kind head bytes after left event is comes) =
          absurd (rest left event (string kind head bytes after left event reads is comes))
      go (stays_open is m) = (is, m, reads)
