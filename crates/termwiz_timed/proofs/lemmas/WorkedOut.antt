-- The worked runs.
use Rattle.std.proofs.Common.{◌≡◌, ◌≢◌, inl, ⊎_elim, ℕ, ◌<◌, Bool, true, false, List, [], ◌∷◌, ◌++◌, Option, Some, None, refl, arith}
use Rattle.std.specs.Prelude.{codes}
use Rattle.std.specs.List.{AllByRecursion}
use Rattle.std.specs.Str.Lossy.{utf8_lossy}
use Rattle.termwiz_keymap.specs.Bytes.{Occurs}
use Rattle.termwiz_keys.specs.Introducers.{ESC, START, END}
use Rattle.termwiz_grammar.specs.PasteParts.{HasPart}
use Rattle.termwiz_grammar.specs.WaitingKinds.{IsOpenPaste}
use Rattle.termwiz_extended_events.specs.declared.types.Reading.{Reading}
use Rattle.termwiz_extended_events.specs.declared.types.Event.TheVariants.{Paste}
use Rattle.termwiz_extended_grammar.specs.ExtendedGrammar.{IsRest, escape_event}
use Rattle.termwiz_extended_grammar.proofs.lemmas.items.ExtendedRests.{empty_is_rest}
use Rattle.termwiz_timed.specs.declared.parser.Stage.TheVariants as stage
use Rattle.termwiz_timed.specs.Timed.{Timed, IsFlushing}
use Rattle.termwiz_timed.specs.Timed.HasPassed.{by_policy, by_interruption}
use Rattle.termwiz_timed.specs.Steps.Call.{AllTold, End, Feed, Flush, Idle, Interrupted, Refused, SetParts, SetPolicy}
use Rattle.termwiz_timed.specs.WorkedRuns.{Follow, WorkedRuns, escape, parser, paste, paste_300, paste_part}
use Rattle.termwiz_timed.specs.WorkedRuns.Follow.{nothing}
use Rattle.termwiz_timed.proofs.lemmas.RunRests.{open_rests}
use Rattle.termwiz_timed.proofs.lemmas.WorkedSteps.{all_told_then, due_then, end_then, ends_then, escape_flushed, escape_limit, escape_rests, feed_then, few_no_part, flush_then, interrupted_then, not_passed, part_then, parts_then, paste_limit, paste_means, plain_endless, plain_taken, policy_then, refused_then, short_endless, told_then, waits_then}

-- bytes may come where no flush is being told
pub told_ready : ¬ IsFlushing stage.AllTold
told_ready h = ⊎_elim (λ (e : stage.AllTold ≡ stage.Flushing). cc (e)) (λ (e : stage.AllTold ≡ stage.Ending). cc (e)) h

pub untold_ready : ¬ IsFlushing stage.Untold
untold_ready h = ⊎_elim (λ (e : stage.Untold ≡ stage.Flushing). cc (e)) (λ (e : stage.Untold ≡ stage.Ending). cc (e)) h

-- a limit is later than an age
pub early : (age limit : ℕ) → age < limit → (millis : ℕ) → ◌≡◌ {A = Option ℕ} (Some limit) (Some millis) → age < millis
early age limit is millis e = let same : limit ≡ millis = cc (e) in omega (arith, same)

-- none is later than any age
pub forever : (age millis : ℕ) → ◌≡◌ {A = Option ℕ} None (Some millis) → age < millis
forever age millis e = cc (e)

-- nothing was interrupted
pub usual_course : (age : ℕ) → false ≡ true → age < 1000
usual_course age e = cc (e)

-- a paste may be open where not all ends
pub untold_goes : (text : List ℕ) → stage.Untold ≡ stage.Ending → ¬ IsOpenPaste text
untold_goes text e = cc (e)

pub flushing_goes : (text : List ℕ) → stage.Flushing ≡ stage.Ending → ¬ IsOpenPaste text
flushing_goes text e = cc (e)

-- bytes after 27 aren't 27
beyond_escape : (body : List ℕ) → AllByRecursion (λ (b : ℕ). 27 < b) body → AllByRecursion (λ (b : ℕ). b ≢ 27) body
beyond_escape [] all = tt
beyond_escape (b ∷ body) (first, others) = ((λ e. omega (arith, first, e)), beyond_escape body others)

-- nothing has no part
nothing_no_part : (limit : ℕ) → ¬ HasPart [] limit
nothing_no_part limit (text, left, is) = let splits = is.parted.splits in cc (splits)

-- an open paste is a rest
pub open_at : (reading : Reading) (body : List ℕ) (more : Bool) → ¬ Occurs END body → IsRest reading (START ++ body) more
open_at reading body more free = open_rests reading (START ++ body) more (record { body = body; splits = refl; endless = free })

-- nothing is left
pub over : (reading : Reading) (more : Bool) → IsRest reading [] more
over reading more = empty_is_rest reading more

-- ESC came, and waits
abbrev pub escape_waits : Follow parser (Feed 0 ESC ∷ AllTold ∷ [])
escape_waits = feed_then _ _ 0 ESC told_ready (all_told_then _ _ (escape_rests _ refl) tt tt (untold_goes _) (nothing _))

abbrev pub escape_at_50 : Follow parser (Feed 0 ESC ∷ AllTold ∷ Idle 49 false ∷ Idle 50 true ∷ escape ∷ AllTold ∷ [])
escape_at_50 =
    feed_then _ _ 0 ESC told_ready
    (all_told_then _ _ (escape_rests _ refl) tt tt (untold_goes _)
    (waits_then _ _ 49 _ (escape_limit _ _) (λ h. not_passed _ _ 49 (early 49 50 (omega arith)) (usual_course _) h.1)
    (due_then _ _ 50 _ (escape_limit _ _) refl (by_policy (record { millis = 50; limited = refl; reached = omega arith }))
    (told_then _ _ escape_event [] (escape_flushed _).steps
    (all_told_then _ _ (over _ _) tt tt (untold_goes _) (nothing _))))))

clock_back : Follow parser (Feed 0 ESC ∷ AllTold ∷ Idle 20 false ∷ Idle 10 false ∷ Idle 39 false ∷ Idle 40 true ∷ escape ∷ AllTold ∷ [])
clock_back =
    feed_then _ _ 0 ESC told_ready
    (all_told_then _ _ (escape_rests _ refl) tt tt (untold_goes _)
    (waits_then _ _ 20 _ (escape_limit _ _) (λ h. not_passed _ _ 20 (early 20 50 (omega arith)) (usual_course _) h.1)
    (waits_then _ _ 10 _ (escape_limit _ _) (λ h. not_passed _ _ 10 (early 20 50 (omega arith)) (usual_course _) h.1)
    (waits_then _ _ 39 _ (escape_limit _ _) (λ h. not_passed _ _ 39 (early 49 50 (omega arith)) (usual_course _) h.1)
    (due_then _ _ 40 _ (escape_limit _ _) refl (by_policy (record { millis = 50; limited = refl; reached = omega arith }))
    (told_then _ _ escape_event [] (escape_flushed _).steps
    (all_told_then _ _ (over _ _) tt tt (untold_goes _) (nothing _))))))))

idle_before_next : Follow parser (Feed 0 ESC ∷ Idle 50 false ∷ AllTold ∷ Idle 50 true ∷ escape ∷ AllTold ∷ [])
idle_before_next =
    feed_then _ _ 0 ESC told_ready
    (waits_then _ _ 50 _ (escape_limit _ _) (λ h. let no_no = h.0 in cc (no_no))
    (all_told_then _ _ (escape_rests _ refl) tt tt (untold_goes _)
    (due_then _ _ 50 _ (escape_limit _ _) refl (by_policy (record { millis = 50; limited = refl; reached = omega arith }))
    (told_then _ _ escape_event [] (escape_flushed _).steps
    (all_told_then _ _ (over _ _) tt tt (untold_goes _) (nothing _))))))

feed_in_a_flush : Follow parser (Feed 0 ESC ∷ End ∷ Refused ∷ escape ∷ Feed 1 (codes "[A") ∷ [])
feed_in_a_flush =
    feed_then _ _ 0 ESC told_ready
    (ends_then _ _ (refused_then _ _ (told_then _ _ escape_event [] (escape_flushed _).steps
    (feed_then _ _ 1 (codes "[A") untold_ready (nothing _)))))

-- bytes of a paste came
abbrev pub pasting : Timed
pasting = record parser { text = START ++ codes "x"; stage = stage.Untold; ages = record { last = 0; front = 0; noted = Some 0 } }

abbrev pub paste_goes_on : Follow pasting (AllTold ∷ Idle 100000 false ∷ Feed 100001 ESC ∷ AllTold ∷ Idle 200000 false
    ∷ Feed 200001 (codes "[201~") ∷ paste (codes "x") ∷ AllTold ∷ [])
paste_goes_on =
    all_told_then _ _ (open_at _ (codes "x") _ (short_endless (codes "x") (omega arith))) tt tt (untold_goes _)
    (waits_then _ _ 100000 _ (paste_limit _ _ (codes "x")) (λ h. not_passed _ _ 100000 (forever _) (usual_course _) h.1)
    (feed_then _ _ 100001 ESC told_ready
    (all_told_then _ _ (open_at _ (codes "x" ++ ESC) _ (short_endless (codes "x" ++ ESC) (omega arith))) tt tt (untold_goes _)
    (waits_then _ _ 200000 _ (paste_limit _ _ (codes "x" ++ ESC)) (λ h. not_passed _ _ 200000 (forever _) (usual_course _) h.1)
    (feed_then _ _ 200001 (codes "[201~") told_ready
    (told_then _ _ (Paste (utf8_lossy (codes "x"))) [] (paste_means _ (codes "x") (short_endless (codes "x") (omega arith))).steps
    (all_told_then _ _ (over _ _) tt tt (untold_goes _) (nothing _))))))))

paste_waits : Follow parser (Feed 0 (START ++ codes "x") ∷ AllTold ∷ Idle 100000 false ∷ Feed 100001 ESC ∷ AllTold ∷ Idle 200000 false
    ∷ Feed 200001 (codes "[201~") ∷ paste (codes "x") ∷ AllTold ∷ [])
paste_waits = feed_then _ _ 0 (START ++ codes "x") told_ready paste_goes_on

paste_flushed : Follow parser (Feed 0 (START ++ codes "1234") ∷ AllTold ∷ Flush ∷ AllTold ∷ Feed 1 (codes "5678" ++ END)
    ∷ paste (codes "12345678") ∷ AllTold ∷ [])
paste_flushed =
    feed_then _ _ 0 (START ++ codes "1234") told_ready
    (all_told_then _ _ (open_at _ (codes "1234") _ (short_endless (codes "1234") (omega arith))) tt tt (untold_goes _)
    (flush_then _ _
    (all_told_then _ _ (open_at _ (codes "1234") _ (short_endless (codes "1234") (omega arith))) tt tt (flushing_goes _)
    (feed_then _ _ 1 (codes "5678" ++ END) told_ready
    (told_then _ _ (Paste (utf8_lossy (codes "12345678"))) []
    (paste_means _ (codes "12345678") (plain_endless (codes "12345678") (beyond_escape (codes "12345678")
    (omega arith, (omega arith, (omega arith, (omega arith, (omega arith, (omega arith, (omega arith, (omega arith, tt))))))))))).steps
    (all_told_then _ _ (over _ _) tt tt (untold_goes _) (nothing _)))))))

paste_ended : Follow parser (Feed 0 (START ++ codes "a") ∷ AllTold ∷ End ∷ paste (codes "a") ∷ AllTold ∷ [])
paste_ended =
    feed_then _ _ 0 (START ++ codes "a") told_ready
    (all_told_then _ _ (open_at _ (codes "a") _ (short_endless (codes "a") (omega arith))) tt tt (untold_goes _)
    (ends_then _ _
    (end_then _ _ (codes "a") refl tt refl (short_endless (codes "a") (omega arith))
    (all_told_then _ _ (over _ _) tt tt (untold_goes _) (nothing _)))))

paste_in_parts : Follow parser (SetParts (Some 4) ∷ AllTold ∷ Feed 0 (START ++ codes "abcdef") ∷ paste_part (codes "abcdef") ∷ AllTold
    ∷ Feed 1 (ESC ++ codes "[20") ∷ AllTold ∷ Feed 2 (codes "1~") ∷ paste [] ∷ AllTold ∷ [])
paste_in_parts =
    parts_then _ _ (Some 4)
    (all_told_then _ _ (over _ _) (nothing_no_part 4) (λ is. omega arith) (untold_goes _)
    (feed_then _ _ 0 (START ++ codes "abcdef") told_ready
    (part_then _ _ 4 (utf8_lossy (codes "abcdef")) START refl
    (plain_taken (codes "abcdef") 4
    (beyond_escape (codes "abcdef") (omega arith, (omega arith, (omega arith, (omega arith, (omega arith, (omega arith, tt)))))))
    (omega arith, (omega arith, (omega arith, (omega arith, (omega arith, (omega arith, tt)))))) (omega arith) (λ e. cc (e)))
    (all_told_then _ _ (open_at _ [] _ (short_endless [] (omega arith))) (few_no_part [] 4 (omega arith)) (λ is. omega arith) (untold_goes _)
    (feed_then _ _ 1 (ESC ++ codes "[20") told_ready
    (all_told_then _ _ (open_at _ (ESC ++ codes "[20") _ (short_endless (ESC ++ codes "[20") (omega arith)))
    (few_no_part (ESC ++ codes "[20") 4 (omega arith)) (λ is. omega arith) (untold_goes _)
    (feed_then _ _ 2 (codes "1~") told_ready
    (told_then _ _ (Paste (utf8_lossy [])) [] (paste_means _ [] (short_endless [] (omega arith))).steps
    (all_told_then _ _ (over _ _) (nothing_no_part 4) (λ is. omega arith) (untold_goes _) (nothing _))))))))))

interrupted_paste : Follow parser (Feed 0 (START ++ codes "a") ∷ AllTold ∷ Interrupted 5 ∷ Feed 900 (13 ∷ []) ∷ AllTold ∷ Feed 1800 END
    ∷ paste (97 ∷ 13 ∷ []) ∷ AllTold ∷ [])
interrupted_paste =
    feed_then _ _ 0 (START ++ codes "a") told_ready
    (all_told_then _ _ (open_at _ (codes "a") _ (short_endless (codes "a") (omega arith))) tt tt (untold_goes _)
    (interrupted_then _ _ 5 refl (inl (codes "a", refl))
    (feed_then _ _ 900 (13 ∷ []) told_ready
    (all_told_then _ _ (open_at _ (97 ∷ 13 ∷ []) _ (short_endless (97 ∷ 13 ∷ []) (omega arith))) tt tt (untold_goes _)
    (feed_then _ _ 1800 END told_ready
    (told_then _ _ (Paste (utf8_lossy (97 ∷ 13 ∷ []))) []
    (paste_means _ (97 ∷ 13 ∷ []) (short_endless (97 ∷ 13 ∷ []) (omega arith))).steps
    (all_told_then _ _ (over _ _) tt tt (untold_goes _) (nothing _))))))))

interrupted_a_second : Follow parser (Feed 0 (START ++ codes "a") ∷ AllTold ∷ Interrupted 5 ∷ Idle 1004 false ∷ Idle 1005 true
    ∷ paste (codes "a") ∷ AllTold ∷ [])
interrupted_a_second =
    feed_then _ _ 0 (START ++ codes "a") told_ready
    (all_told_then _ _ (open_at _ (codes "a") _ (short_endless (codes "a") (omega arith))) tt tt (untold_goes _)
    (interrupted_then _ _ 5 refl (inl (codes "a", refl))
    (waits_then _ _ 1004 _ (paste_limit _ _ (codes "a")) (λ h. not_passed _ _ 1004 (forever _) (λ f. omega arith) h.1)
    (due_then _ _ 1005 _ (paste_limit _ _ (codes "a")) refl
    (by_interruption refl (inl (codes "a", refl)) (record { millis = 1000; limited = refl; reached = omega arith }))
    (end_then _ _ (codes "a") refl tt refl (short_endless (codes "a") (omega arith))
    (all_told_then _ _ (over _ _) tt tt (untold_goes _) (nothing _)))))))

interrupted_by_policy : Follow parser (SetPolicy paste_300 ∷ Feed 0 (START ++ codes "a") ∷ AllTold ∷ Interrupted 5 ∷ Idle 304 false
    ∷ Idle 305 true ∷ paste (codes "a") ∷ AllTold ∷ [])
interrupted_by_policy =
    policy_then _ _ paste_300
    (feed_then _ _ 0 (START ++ codes "a") told_ready
    (all_told_then _ _ (open_at _ (codes "a") _ (short_endless (codes "a") (omega arith))) tt tt (untold_goes _)
    (interrupted_then _ _ 5 refl (inl (codes "a", refl))
    (waits_then _ _ 304 _ (paste_limit _ _ (codes "a")) (λ h. not_passed _ _ 304 (early 299 300 (omega arith)) (λ f. omega arith) h.1)
    (due_then _ _ 305 _ (paste_limit _ _ (codes "a")) refl (by_policy (record { millis = 300; limited = refl; reached = omega arith }))
    (end_then _ _ (codes "a") refl tt refl (short_endless (codes "a") (omega arith))
    (all_told_then _ _ (over _ _) tt tt (untold_goes _) (nothing _))))))))

pub worked_runs : WorkedRuns
worked_runs = record {
  escape_at_50 = escape_at_50;
  clock_back = clock_back;
  idle_before_next = idle_before_next;
  feed_in_a_flush = feed_in_a_flush;
  paste_waits = paste_waits;
  paste_flushed = paste_flushed;
  paste_ended = paste_ended;
  paste_in_parts = paste_in_parts;
  interrupted_paste = interrupted_paste;
  interrupted_a_second = interrupted_a_second;
  interrupted_by_policy = interrupted_by_policy;
}
