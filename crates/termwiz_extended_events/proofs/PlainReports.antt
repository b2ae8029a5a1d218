-- Reports of a key that say no more than its manner.
use Rattle.std.proofs.Common.{◌≡◌, ℕ, ◌==◌, ◌≤◌, Bool, true, false, List, [], ◌∷◌, ◌++◌, ◌-◌, length, take, drop, get_or, refl, sym, ap, ◌∙◌, arith, codes, Option, Some, None}
use Rattle.std.specs.Prelude.{option_map, option_and_then, IfSome, if◌then◌else◌, bytes_eq}
use Rattle.std.specs.List.{join_with_byte}
use Rattle.std.proofs.lemmas.Bool.Decides.{nat_tests}
use Rattle.std.proofs.lemmas.List.{take_all}
use Rattle.std.proofs.lemmas.List.Splits.{join_with_byte-slice_split}
use Rattle.std.proofs.lemmas.Slice.Eq.{bytes_eq-Decides}
use Rattle.termwiz_extended_events.specs.declared.types.KeyReport.{KeyReport}
use Rattle.termwiz_extended_events.specs.declared.types.Manner.{Manner}
use Rattle.termwiz_extended_events.specs.declared.types.PlainReport.{PlainReport}
use Rattle.termwiz_extended_events.specs.Numbers.{before_end, fields, first_some, is_scalar, number, number_within, parts, scalar}
use Rattle.termwiz_extended_events.specs.KeyReports.{character_of_fields, character_report, codes_of, key_report, plain_report, report_behind, report_of, character_key, lettered_key, numbered_key, numbered_of_fields, other_key, other_held, other_of_fields, other_report}
use Rattle.termwiz_extended_events.specs.ReportedKeys.{key_of, tilde_key}
use Rattle.termwiz_extended_events.proofs.OneFields.{none_of, number_unparted}
use Rattle.termwiz_extended_events.specs.Replies.{focus}
use Rattle.termwiz_extended_events.specs.Meanings.{reported}
use Rattle.termwiz_extended_events.specs.declared.types.Event.TheVariants.{Key}

number_one_part : (field : List ℕ) (n : ℕ) → number 0 0x10ffff field ≡ Some n → parts field ≡ field ∷ []
number_one_part field n e = number_unparted 58 (omega arith) 7 0 0x10ffff field n e

was_some : (test : ℕ → Option ℕ) (number : Option ℕ) (c : ℕ) → option_and_then test number ≡ Some c → (n : ℕ) × (number ≡ Some n)
was_some test None c e = cc (e)
was_some test (Some n) c e = (n, refl)

-- the number of a character is one part
scalar_one_part : (field : List ℕ) (c : ℕ) → scalar field ≡ Some c → parts field ≡ field ∷ []
unfolding scalar
scalar_one_part field c e = let read = was_some _ (number 0 0x10ffff field) c e in number_one_part field read.0 read.1

-- a field of one character's number
one_code : (field : List ℕ) (c : ℕ) → scalar field ≡ Some c → codes_of field ≡ Some (record { own = c; shifted = None; base = None })
unfolding codes_of
one_code field c e = rw (scalar_one_part field c e, e) refl

-- a number of a character that is there writes that character
pub scalar_read : (field : List ℕ) (n c : ℕ) → number 0 0x10ffff field ≡ Some n → (if is_scalar n then Some n else None) ≡ Some c
    → scalar field ≡ Some c
unfolding scalar
scalar_read field n c is e = rw (is) e

by_manner : (c : ℕ) (manner : Option Manner)
    → character_report (Some (record { own = c; shifted = None; base = None })) manner (Some [])
    ≡ option_map (report_of (key_of c)) manner
by_manner c None = refl
by_manner c (Some manner) = refl

-- a character's number, and no more than the manner behind it
pub plain_character : (field : List ℕ) (more : List (List ℕ)) (c : ℕ) (report : KeyReport) → scalar field ≡ Some c
    → report_behind (key_of c) more ≡ Some report → character_of_fields (field ∷ more) ≡ Some report
plain_character field [] c report own e = rw (one_code field c own) e
plain_character field (manner ∷ []) c report own e = rw (one_code field c own) (by_manner c _ ∙ e)
plain_character field (manner ∷ other ∷ more) c report own e = cc (e)

no_i : key_report (73 ∷ []) ≡ None
unfolding key_report character_key lettered_key numbered_key other_key other_held before_end
no_i = refl

no_o : key_report (79 ∷ []) ≡ None
unfolding key_report character_key lettered_key numbered_key other_key other_held before_end
no_o = refl

pub none_otherwise : (b : ℕ) → (b == 73) ≡ false → (b == 79) ≡ false → focus (b ∷ []) ≡ None
unfolding focus
none_otherwise b i o = rw (i, o) refl

pub none_of_none : focus [] ≡ None
unfolding focus
none_of_none = refl

pub none_of_more : (b d : ℕ) (t : List ℕ) → focus (b ∷ d ∷ t) ≡ None
unfolding focus
none_of_more b d t = refl

by_test : (b : ℕ) (report : KeyReport) (i o : Bool) → (b == 73) ≡ i → (b == 79) ≡ o → key_report (b ∷ []) ≡ Some report
    → focus (b ∷ []) ≡ None
by_test b report true o i p e = let is : b ≡ 73 = grind (arith, nat_tests) in cc (ap (λ n. key_report (n ∷ [])) is, no_i, e)
by_test b report false true i p e = let is : b ≡ 79 = grind (arith, nat_tests) in cc (ap (λ n. key_report (n ∷ [])) is, no_o, e)
by_test b report false false i p e = none_otherwise b i p

-- a report of a key is none of the focus
pub key_no_focus : (t : List ℕ) (report : KeyReport) → key_report t ≡ Some report → focus t ≡ None
key_no_focus [] report e = none_of_none
key_no_focus (b ∷ []) report e = by_test b report _ _ refl refl e
key_no_focus (b ∷ d ∷ t) report e = none_of_more b d t

-- a report that one rule reads
pub read_by : (found : Option PlainReport) (rule report : Option KeyReport) → option_map plain_report found ≡ rule → report ≡ rule
    → IfSome found (λ plain. report ≡ Some (plain_report plain))
read_by None rule report e is = tt
read_by (Some plain) rule report e is = is ∙ sym e

-- what the rule for a character's key reads
pub read_as_character : (found : Option PlainReport) (report character : Option KeyReport) → report ≡ character
    → IfSome found (λ plain. character ≡ Some (plain_report plain)) → IfSome found (λ plain. report ≡ Some (plain_report plain))
read_as_character None report character e is = tt
read_as_character (Some plain) report character e is = e ∙ is

-- a report that one of the rules reads, alone
first_alone : (found : Option KeyReport) → first_some (None ∷ found ∷ []) ≡ found
first_alone None = refl
first_alone (Some report) = refl

first_alone_of_two : (found : Option KeyReport) → first_some (found ∷ None ∷ []) ≡ found
first_alone_of_two None = refl
first_alone_of_two (Some report) = refl

-- what has a value passed the test
if_some : {A : Type 0} (test : Bool) (found : Option A) (it : A) → (if test then found else None) ≡ Some it → test ≡ true
if_some true found it e = refl
if_some false found it e = cc (e)

no_key_of_27 : (more : List (List ℕ)) → numbered_of_fields (codes "27" ∷ more) ≡ None
unfolding number_within tilde_key
no_key_of_27 more = refl

-- the fields of a text that begins with 27 and a semicolon
pub fields_of_27 : (body : List ℕ) → get_or body 0 0 ≡ 50 → get_or body 1 0 ≡ 55 → get_or body 2 0 ≡ 59
    → fields body ≡ codes "27" ∷ fields (take (length body - 3) (drop 3 body))
fields_of_27 [] first second third = absurd (omega (arith, first))
fields_of_27 (x ∷ []) first second third = absurd (omega (arith, second))
fields_of_27 (x ∷ y ∷ []) first second third = absurd (omega (arith, third))
fields_of_27 (x ∷ y ∷ z ∷ held) first second third =
    let rest : take (length (x ∷ y ∷ z ∷ held) - 3) (drop 3 (x ∷ y ∷ z ∷ held)) ≡ held =
    take_all (length (x ∷ y ∷ z ∷ held) - 3) held (omega arith) in
    rw (first, second, third, rest) refl

-- behind 27 a tilde ends a report of xterm's modifyOtherKeys, or none
pub of_27 : (t body held : List ℕ) → before_end (codes "~") t ≡ Some body → fields body ≡ codes "27" ∷ fields held
    → first_some (numbered_key t ∷ other_key t ∷ []) ≡ option_map other_report (other_of_fields (codes "27" ∷ fields held))
unfolding numbered_key other_key other_held
of_27 t body held end split = rw (end, split, no_key_of_27 (fields held)) (first_alone (option_map other_report (other_of_fields (codes "27" ∷ fields held))))

-- where another text stands before it, it is none of these
begins_27 : (body : List ℕ) (fs : List (List ℕ)) (held : ℕ × ℕ) → join_with_byte 59 fs ≡ body → other_of_fields fs ≡ Some held
    → (3 ≤ length body) × (get_or body 0 0 ≡ 50) × (get_or body 1 0 ≡ 55) × (get_or body 2 0 ≡ 59)
begins_27 body [] held is e = cc (e)
begins_27 body (front ∷ []) held is e = cc (e)
begins_27 body (front ∷ m ∷ []) held is e = cc (e)
begins_27 body (front ∷ m ∷ c ∷ []) held is e =
    let same : front ≡ codes "27" = (bytes_eq-Decides front (codes "27")).0 (if_some (bytes_eq front (codes "27")) _ held e) in
    let text : codes "27" ++ 59 ∷ join_with_byte 59 (m ∷ c ∷ []) ≡ body =
    ap (λ f. f ++ 59 ∷ join_with_byte 59 (m ∷ c ∷ [])) (sym same) ∙ is in
    (omega (arith, ap length text), ap (λ b. get_or b 0 0) (sym text), ap (λ b. get_or b 1 0) (sym text), ap (λ b. get_or b 2 0) (sym text))
begins_27 body (front ∷ m ∷ c ∷ d ∷ more) held is e = cc (e)

pub numbered_alone : (t body : List ℕ) → before_end (codes "~") t ≡ Some body
    → (3 ≤ length body → get_or body 0 0 ≡ 50 → get_or body 1 0 ≡ 55 → get_or body 2 0 ≡ 59 → ⊥)
    → numbered_of_fields (fields body) ≡ first_some (numbered_key t ∷ other_key t ∷ [])
unfolding numbered_key other_key other_held
numbered_alone t body end never =
    let none : other_of_fields (fields body) ≡ None = none_of (other_of_fields (fields body)) (λ held e.
    let begins = begins_27 body (fields body) held (join_with_byte-slice_split 59 body) e in
    never begins.0 begins.1 begins.2 begins.3) in
    rw (end, none) (sym (first_alone_of_two (numbered_of_fields (fields body))))

-- the event of what follows ESC [ is that of its key
pub plain_event : (t : List ℕ) (found : Option PlainReport) → IfSome found (λ report. key_report t ≡ Some (plain_report report))
    → (asks : Bool) → IfSome found (λ report. reported asks t ≡ Some (Key (plain_report report)))
unfolding reported
plain_event t None is asks = tt
plain_event t (Some report) is asks = rw (key_no_focus t (plain_report report) is, is) refl
