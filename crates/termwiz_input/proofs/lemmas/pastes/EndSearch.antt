-- Where the end marker of a paste first occurs in a text.
use Rattle.std.proofs.Common.{◌≡◌, ◌↔◌, ℕ, ◌+◌, ◌-◌, ◌<◌, ◌≤◌, Bool, true, false, not, IsTrue, Option, is_some, refl, List, [], ◌++◌, length, take, drop, sym, ap, ◌∙◌, arith, append_assoc, length-append, length-drop, length-take-le, take-append-drop, drop-drop, ⊎_elim, Some, None}
use Rattle.std.proofs.lemmas.Bool.{cases_lt}
use Rattle.std.proofs.lemmas.Grind.{common_steps}
use Rattle.std.proofs.lemmas.List.{nil_from_length}
use Rattle.std.proofs.Math.Seq.{take-append_seam}
use Rattle.memchr.specs.Find.{OccursAt, FindsNeedle}
use Rattle.memchr.proofs.lemmas.MatchLemmas.{OccursAt-split}
use Rattle.termwiz_keymap.specs.Bytes.{Begins, Occurs}
use Rattle.termwiz_keys.specs.Introducers.{START, END}
use Rattle.std.specs.Str.Lossy.{utf8_lossy}
use Rattle.termwiz_keys.specs.declared.types.InputEvent.{InputEvent}
use Rattle.termwiz_keys.specs.declared.types.InputEvent.TheVariants.{Paste}
use Rattle.termwiz_grammar.specs.Grammar.{EndsFirst}
use Rattle.termwiz_grammar.specs.WaitingKinds.{IsOpenPaste}
use Rattle.termwiz_input.specs.PasteSearch.{IsPasteSoFar}

-- an occurrence that is written out
occurs_between : (u before needle after : List ℕ) → u ≡ before ++ needle ++ after → OccursAt u needle (length before)
occurs_between u before needle after e = grind (arith, common_steps)

-- what a search for the end marker says of a paste
pub endless : (u : List ℕ) → Begins START u → FindsNeedle u END 6 None → (body : List ℕ) → u ≡ START ++ body
    → ¬ Occurs END body
endless u begins never body e (before, after, o) =
    let here = occurs_between u (START ++ before) END after (e ∙ ap (λ x. START ++ x) o) in
    never (length (START ++ before)) (omega arith) (omega (arith, here.fits)) here

pub record IsPasteTo (u : List ℕ) (k : ℕ) : Type 0 where
  pub rest : List ℕ
  pub parts : u ≡ START ++ take (k - 6) (drop 6 u) ++ END ++ rest
  pub first : EndsFirst (take (k - 6) (drop 6 u))
  pub within : k + 6 ≤ length u
  pub bytes : START ++ take (k - 6) (drop 6 u) ++ END ≡ take (k + 6) u

pub paste_to : (u : List ℕ) (k : ℕ) → Begins START u → FindsNeedle u END 6 (Some k) → IsPasteTo u k
paste_to u k begins found = record {
  rest = rest;
  parts = parts;
  first = λ before after e. only_once before after e;
  within = inside;
  bytes = sym (take-append_seam (START ++ body ++ END) rest) ∙ ap (take (length (START ++ body ++ END))) (sym parts)
      ∙ ap (λ n. take n u) long;
}
  where
    body : List ℕ
    body = take (k - 6) (drop 6 u)

    rest : List ℕ
    rest = drop (k + 6) u

    inside : k + 6 ≤ length u
    inside = found.1.fits

    low : 6 ≤ k
    low = found.0.low

    from_start : u ≡ START ++ drop 6 u
    from_start = begins.1 ∙ ap (λ t. START ++ t) (sym (ap (drop 6) begins.1))

    from_end : drop (k - 6) (drop 6 u) ≡ END ++ rest
    from_end = drop-drop (k - 6) 6 u ∙ (let e : 6 + (k - 6) ≡ k = omega (arith, low) in ap (λ n. drop n u) e)
        ∙ OccursAt-split u END k found.1

    parts : u ≡ START ++ body ++ END ++ rest
    parts = from_start ∙ ap (λ t. START ++ t) (sym (take-append-drop (k - 6) (drop 6 u)) ∙ ap (λ t. body ++ t) from_end)
        ∙ ap (λ t. START ++ t) (sym (append_assoc body END rest))

    long_body : length body ≡ k - 6
    long_body = length-take-le (k - 6) (drop 6 u) (omega (arith, length-drop 6 u, inside, low))

    long : length (START ++ body ++ END) ≡ k + 6
    long = omega (arith, length-append (START ++ body) END, length-append START body, long_body, low)

    only_once : (before after : List ℕ) → body ++ END ≡ before ++ END ++ after → after ≡ []
    only_once before after e =
        let here = occurs_between u (START ++ before) END (after ++ rest)
        (parts ∙ ap (λ t. START ++ t ++ rest) e ∙ ap (λ t. START ++ t) (append_assoc (before ++ END) after rest)) in
        let least : k ≤ length (START ++ before) = not_before (length (START ++ before)) (omega arith) here in
        nil_from_length after (omega (
          arith,
          ap length e,
          length-append body END,
          length-append (before ++ END) after,
          length-append before END,
          long_body,
          low,
          least,
        ))
      where
        not_before : (j : ℕ) → 6 ≤ j → OccursAt u END j → k ≤ j
        not_before j l o = ⊎_elim (λ (h : j < k). absurd (found.0.before j l h o)) (λ (h : k ≤ j). h) (cases_lt j k)

-- a paste whose end is found isn't open
pub ended : (u : List ℕ) (k : ℕ) → Begins START u → FindsNeedle u END 6 (Some k) → ¬ IsOpenPaste u
ended u k begins found p =
    let to = paste_to u k begins found in
    let same : p.body ≡ take (k - 6) (drop 6 u) ++ END ++ to.rest = cc (p.splits, to.parts) in
    p.endless (take (k - 6) (drop 6 u), to.rest, same)

-- a paste whose end isn't found is open
pub still_open : (u : List ℕ) → Begins START u → FindsNeedle u END 6 None → IsOpenPaste u
still_open u begins never =
    let split : u ≡ START ++ drop 6 u = begins.1 ∙ ap (λ t. START ++ t) (sym (ap (drop 6) begins.1)) in
    record { body = drop 6 u; splits = split; endless = endless u begins never (drop 6 u) split }

-- a search tells whether a paste is open
pub open_by_search : (u : List ℕ) (found : Option ℕ) (none : Bool) → Begins START u → FindsNeedle u END 6 found → is_some found ≡ not none
    → IsTrue none ↔ IsOpenPaste u
open_by_search u None true begins never e = (λ is. still_open u begins never, λ paste. refl)
open_by_search u None false begins never e = absurd (cc (e))
open_by_search u (Some k) true begins found e = absurd (cc (e))
open_by_search u (Some k) false begins found e = (λ is. absurd (cc (is)), λ paste. absurd (ended u k begins found paste))

-- the text of a paste whose end isn't found
pub so_far : (u : List ℕ) (event : InputEvent) → Begins START u → FindsNeedle u END 6 None
    → event ≡ Paste (utf8_lossy (drop 6 u)) → IsPasteSoFar u event
unfolding still_open
so_far u event begins never is =
    let paste = still_open u begins never in
    record { body = drop 6 u; splits = paste.splits; endless = paste.endless; its_text = is }
