-- What is read of a text that is one event alone.
use Rattle.std.proofs.Common.{◌≡◌, ◌↔◌, ℕ, suc, ◌-◌, ◌<◌, ◌≤◌, Bool, true, false, List, [], ◌∷◌, ◌++◌, length, take, drop, refl, sym, ap, ◌∙◌, subst, IsTrue, append-nil, Option, Some, None, Ok, Err, IfOk, IfSome, IfNone, ◌+◌, ◌⊎◌, ⊎_elim, arith, nat_lt, encode_utf8}
use Rattle.std.specs.Prelude.{Result, ◌==◌}
use Rattle.std.proofs.lemmas.Bool.Decides.{nat_tests}
use Rattle.std.proofs.lemmas.List.{append_cancel_left}
use Rattle.memchr.specs.Find.{FindsNeedle}
use Rattle.termwiz_keymap.specs.Bytes.{Occurs}
use Rattle.termwiz_keys.specs.Introducers.{ESC, CSI, START, END}
use Rattle.termwiz_input.specs.KeyPlaces.{IsNextPlaceOf}
use Rattle.termwiz_input.proofs.lemmas.pastes.EndSearch.{endless, paste_to}
use Rattle.termwiz_extended_events.specs.declared.types.Event.{Event}
use Rattle.termwiz_extended_events.specs.declared.types.Event.TheVariants.{Key, Mouse, Paste, FocusGained, FocusLost, CursorPosition, Resized, KeyboardFlags, Csi, Osc, Dcs, Apc, StringPart, StringCut}
use Rattle.termwiz_extended_events.specs.declared.types.KeyReport.{KeyReport}
use Rattle.termwiz_extended_events.specs.declared.types.MouseReport.{MouseReport}
use Rattle.termwiz_extended_events.specs.declared.types.StringKind.{StringKind}
use Rattle.termwiz_extended_events.specs.declared.types.StringKind.TheVariants as kinds
use Rattle.termwiz_extended_events.specs.Meanings.{whole_string}
use Rattle.termwiz_extended_grammar.specs.Forms.{introducer, ST}
use Rattle.termwiz_kitty.specs.KittyTexts.{most_bytes}
use Rattle.termwiz_extended_events.specs.declared.types.Reading.{Reading}
use Rattle.termwiz_extended_grammar.specs.ExtendedGrammar.{Steps, Means}
use Rattle.termwiz_extended_grammar.specs.Readings.{after_event}
use Rattle.termwiz_extended_grammar.proofs.lemmas.cuts.ExtendedCuts.{cut_independent}
use Rattle.termwiz_extended_grammar.proofs.lemmas.items.ExtendedItems.{stands_once}
use Rattle.termwiz_extended_grammar.proofs.lemmas.items.ExtendedRests.{empty_is_rest}
use Rattle.termwiz_base.specs.declared.modifiers.Modifiers.{Modifiers}
use Rattle.termwiz_keys.specs.Encoding.{enc, unhandled}
use Rattle.termwiz_keys.specs.declared.types.KeyCode.{KeyCode}
use Rattle.termwiz_keys.specs.declared.types.KeyCode.TheVariants.{Char}
use Rattle.termwiz_keys.specs.declared.types.KeyEvent.{KeyEvent}
use Rattle.termwiz_keys.specs.declared.encode.KeyCodeEncodeModes.{KeyCodeEncodeModes}
use Rattle.termwiz_input_extended.specs.Buffered.{Buffered}
use Rattle.termwiz_grammar.specs.RowsInOrder.{IsRowAt}
use Rattle.termwiz_extended_events.specs.declared.types.ReportedKey.TheVariants.{Named}
use Rattle.termwiz_extended_grammar.specs.Readings.{ReadsMore}
use Rattle.termwiz_senders.specs.KeyTexts.{IsReadAsKey, IsFirstRow, IsSentText, IsCharacterText, IsPlainKeyText, IsEscapedText, IsTypedText, IsReportText, IsKeyText, no_modes, port_key, without_alt}
use Rattle.termwiz_senders.specs.KeyTexts.IsPlainKeyText.{by_sending, by_row, by_character}
use Rattle.termwiz_senders.specs.KeyTexts.IsTypedText.{alone, after_escape}
use Rattle.termwiz_senders.specs.KeyTexts.IsKeyText.{typed, reported}
use Rattle.termwiz_senders.specs.ReportTexts.{report_text}
use Rattle.termwiz_senders.specs.EventTexts.{IsEventText, IsMouseText, IsItself, IsReadAtOnce, IsRefused, IsTooLong, string_sent}

pub not_true : (b : Bool) → b ≡ false → ¬ IsTrue b
not_true false f is = cc (is)
not_true true f is = cc (f)

-- the event that was found first, and what it left
read_or_not : (reading : Reading) (text : List ℕ) (more : Bool) (event found : Event) (left : List ℕ) (b : Bool)
    → Steps reading text more (found ∷ []) left → IsTrue b ↔ ((found ≡ event) × (left ≡ [])) → IsTrue b ↔ Means reading text more (event ∷ []) []
read_or_not reading text more event found left b steps tells = (
  λ yes. let both = tells.0 yes in record {
    steps = subst (λ e. Steps reading text more (e ∷ []) []) both.0 (subst (Steps reading text more (found ∷ [])) both.1 steps);
    rest = empty_is_rest (after_event reading event) more;
  },
  λ means. let one = stands_once reading text more steps.0 means.steps.0 found event steps.1 means.steps.1 in
      tells.1 (one.1, sym steps.2 ∙ one.0 ∙ means.steps.2),
)

-- the same of a parser that has the bytes alone
read_after : (reading : Reading) (fresh set fed after : Buffered) (bytes : List ℕ) (more : Bool) (event found : Event)
    (o : Option Event) (left : List ℕ) (b : Bool) → fresh.text ≡ [] → set ≡ record fresh { reading = reading }
    → fed ≡ record set { text = set.text ++ bytes } → o ≡ Some found
    → IfSome o (λ e. Steps fed.reading fed.text more (e ∷ []) after.text) → left ≡ after.text
    → IsTrue b ↔ ((found ≡ event) × (left ≡ [])) → IsTrue b ↔ Means reading bytes more (event ∷ []) []
read_after reading fresh set fed after bytes more event found o left b empty set_is fed_is is steps left_is tells =
    let text : fed.text ≡ bytes =
    ap (λ p. p.text) fed_is ∙ ap (λ p. p.text ++ bytes) set_is ∙ ap (λ t. t ++ bytes) empty in
    let its : fed.reading ≡ reading = ap (λ p. p.reading) fed_is ∙ ap (λ p. p.reading) set_is in
    let here : Steps fed.reading fed.text more (found ∷ []) after.text = rw is at steps in
    let there : Steps reading fed.text more (found ∷ []) after.text =
    subst (λ r. Steps r fed.text more (found ∷ []) after.text) its here in
    let alone : Steps reading bytes more (found ∷ []) after.text =
    subst (λ t. Steps reading t more (found ∷ []) after.text) text there in
    read_or_not reading bytes more event found left b (subst (Steps reading bytes more (found ∷ [])) (sym left_is) alone) tells

-- The event of a parser that has the bytes alone, where nothing is left; and where something is, no event is all of them.
pub only_found : (reading : Reading) (fresh set fed after : Buffered) (bytes : List ℕ) (more : Bool) (found : Event)
    (o : Option Event) (left : List ℕ) → fresh.text ≡ [] → set ≡ record fresh { reading = reading }
    → fed ≡ record set { text = set.text ++ bytes } → o ≡ Some found
    → IfSome o (λ e. Steps fed.reading fed.text more (e ∷ []) after.text) → left ≡ after.text → left ≡ []
    → Means reading bytes more (found ∷ []) []
only_found reading fresh set fed after bytes more found o left empty set_is fed_is is steps left_is none =
    (read_after reading fresh set fed after bytes more found found o left true empty set_is fed_is is steps left_is
    ((λ yes. (refl, none)), (λ both. refl))).0 refl

pub not_only : (reading : Reading) (fresh set fed after : Buffered) (bytes : List ℕ) (more : Bool) (found : Event)
    (o : Option Event) (left : List ℕ) → fresh.text ≡ [] → set ≡ record fresh { reading = reading }
    → fed ≡ record set { text = set.text ++ bytes } → o ≡ Some found
    → IfSome o (λ e. Steps fed.reading fed.text more (e ∷ []) after.text) → left ≡ after.text → ¬ (left ≡ [])
    → (event : Event) → ¬ Means reading bytes more (event ∷ []) []
not_only reading fresh set fed after bytes more found o left empty set_is fed_is is steps left_is some event means =
    not_true false refl
    ((read_after reading fresh set fed after bytes more event found o left false empty set_is fed_is is steps left_is
    ((λ yes. absurd (not_true false refl yes)), (λ both. absurd (some both.1)))).1 means)

-- Bytes are one event alone.
pub means_once : (reading : Reading) (bytes : List ℕ) (more : Bool) (a b : Event) → Means reading bytes more (a ∷ []) []
    → Means reading bytes more (b ∷ []) [] → a ≡ b
means_once reading bytes more a b x y =
    (stands_once reading bytes more x.steps.0 y.steps.0 a b x.steps.1 y.steps.1).1

pub read_as : (reading : Reading) (bytes : List ℕ) (more : Bool) (event found : Event) (b : Bool)
    → Means reading bytes more (found ∷ []) [] → IsTrue b ↔ (found ≡ event) → IsTrue b ↔ Means reading bytes more (event ∷ []) []
read_as reading bytes more event found b means tells = (
  λ yes. subst (λ e. Means reading bytes more (e ∷ []) []) (tells.0 yes) means,
  λ other. tells.1 (means_once reading bytes more found event means other),
)

-- an event that is there with more to come is there without
pub at_once : (reading : Reading) (text : List ℕ) (event : Event) → Means reading text true (event ∷ []) [] → IsReadAtOnce reading event text
at_once reading text event means true = means
at_once reading text event means false =
    subst (λ t. Means reading t false (event ∷ []) []) (append-nil text)
    (cut_independent reading text [] [] [] (event ∷ []) [] false means
    (record { steps = refl; rest = empty_is_rest (after_event reading event) false }))

pub itself : (reading : Reading) (event : Event) (text bytes : List ℕ) → bytes ≡ text → Means reading bytes true (event ∷ []) []
    → IsItself reading event text bytes
itself reading event text bytes same means = (same, at_once reading bytes event means)

pub not_itself : (reading : Reading) (event : Event) (text sent bytes : List ℕ) → sent ≡ text → ¬ Means reading sent true (event ∷ []) []
    → ¬ IsItself reading event text bytes
not_itself reading event text sent bytes same none is =
    none (subst (λ t. Means reading t true (event ∷ []) []) (is.0 ∙ sym same) (is.1 true))

-- A search for the end of a paste in its text.
pub occurs_found : (u text : List ℕ) (k : ℕ) → u ≡ START ++ text → FindsNeedle u END 6 (Some k) → Occurs END text
occurs_found u text k whole found =
    let to = paste_to u k (text, whole) found in
    (take (k - 6) (drop 6 u), to.rest, append_cancel_left START text _ (sym whole ∙ to.parts))

pub none_occurs : (u text : List ℕ) → u ≡ START ++ text → FindsNeedle u END 6 None → ¬ Occurs END text
none_occurs u text whole never = endless u (text, whole) never text whole

-- The sequences and strings, with what comes before and after their bytes.
abbrev pub own : Event → Option (List ℕ)
own (Csi t) = Some (CSI ++ t)
own (Osc t) = Some (string_sent kinds.Osc t)
own (Dcs t) = Some (string_sent kinds.Dcs t)
own (Apc t) = Some (string_sent kinds.Apc t)
own event = None

pub own_text : (reading : Reading) (event : Event) (text bytes : List ℕ) → own event ≡ Some text
    → IsItself reading event text bytes ↔ IsEventText reading event bytes
unfolding IsEventText
own_text reading (Csi t) text bytes e = let same : CSI ++ t ≡ text = cc (e) in
    (λ is. subst (λ s. IsItself reading (Csi t) s bytes) (sym same) is, λ is. subst (λ s. IsItself reading (Csi t) s bytes) same is)
own_text reading (Osc t) text bytes e = let same : string_sent kinds.Osc t ≡ text = cc (e) in
    (λ is. subst (λ s. IsItself reading (Osc t) s bytes) (sym same) is, λ is. subst (λ s. IsItself reading (Osc t) s bytes) same is)
own_text reading (Dcs t) text bytes e = let same : string_sent kinds.Dcs t ≡ text = cc (e) in
    (λ is. subst (λ s. IsItself reading (Dcs t) s bytes) (sym same) is, λ is. subst (λ s. IsItself reading (Dcs t) s bytes) same is)
own_text reading (Apc t) text bytes e = let same : string_sent kinds.Apc t ≡ text = cc (e) in
    (λ is. subst (λ s. IsItself reading (Apc t) s bytes) (sym same) is, λ is. subst (λ s. IsItself reading (Apc t) s bytes) same is)
own_text reading (Mouse event) text bytes e = cc (e)
own_text reading (Paste t) text bytes e = cc (e)
own_text reading (Key r) text bytes e = cc (e)
own_text reading FocusGained text bytes e = cc (e)
own_text reading FocusLost text bytes e = cc (e)
own_text reading (CursorPosition row column) text bytes e = cc (e)
own_text reading (Resized r c h w) text bytes e = cc (e)
own_text reading (KeyboardFlags flags) text bytes e = cc (e)
own_text reading (StringPart kind t) text bytes e = cc (e)
own_text reading (StringCut kind t) text bytes e = cc (e)

-- A place of the table has one row.
pub row_once_at : (place : ℕ) (bytes other : List ℕ) (key own : KeyEvent) → IsRowAt place bytes key → IsRowAt place other own
    → (bytes ≡ other) × (key ≡ own)
row_once_at place bytes other key own a b =
    let same : (bytes, key) ≡ (other, own) = sym (a.there (bytes, key)) ∙ b.there (bytes, key) in (ap (λ r. r.0) same, ap (λ r. r.1) same)

-- A search over the rows of a key, place by place, for one that is read as a report.
abbrev pub NoneBefore : Reading → KeyReport → KeyEvent → ℕ → Type 0
NoneBefore reading r key place = (before : ℕ) (other : List ℕ) → before < place → IsRowAt before other key → ¬ IsReadAsKey reading r other

-- between a row of the key and the next one there is none
pub none_between : (reading : Reading) (r : KeyReport) (key : KeyEvent) (from place : ℕ) → NoneBefore reading r key from
    → IsNextPlaceOf key from place → NoneBefore reading r key place
none_between reading r key from place none next before other below at = ⊎_elim
    (λ (earlier : before < from). none before other earlier at)
    (λ (later : from ≤ before). absurd (next.none before other later below at))
    (before_or_from from before)
  where
    before_or_from : (a b : ℕ) → (b < a) ⊎ (a ≤ b)
    before_or_from a b = grind arith

pub none_first : (reading : Reading) (r : KeyReport) (key : KeyEvent) (place : ℕ) → IsNextPlaceOf key 0 place
    → NoneBefore reading r key place
none_first reading r key place next =
    none_between reading r key 0 place (λ before other below at. absurd (omega (arith, below))) next

pub none_further : (reading : Reading) (r : KeyReport) (key : KeyEvent) (place : ℕ) (bytes : List ℕ) → NoneBefore reading r key place
    → IsRowAt place bytes key → ¬ IsReadAsKey reading r bytes → NoneBefore reading r key (place + 1)
none_further reading r key place bytes none here not before other below at = ⊎_elim
    (λ (earlier : before < place). none before other earlier at)
    (λ (same : before ≡ place) read.
    let one = row_once_at place bytes other key key here (subst (λ p. IsRowAt p other key) same at) in
    not (subst (IsReadAsKey reading r) (sym one.0) read))
    (below_or_same before place below)
  where
    below_or_same : (a b : ℕ) → a < b + 1 → (a < b) ⊎ (a ≡ b)
    below_or_same a b h = grind (arith, h)

-- the row at a place of the key
pub row_of_key : (key own : KeyEvent) (place : ℕ) (bytes : List ℕ) → ((bytes : List ℕ) (other : KeyEvent) → IsRowAt place bytes other → other ≡ key)
    → IsRowAt place bytes own → IsRowAt place bytes key
row_of_key key own place bytes only here = subst (IsRowAt place bytes) (only bytes own here) here

-- a report has one key of the port
pub one_key : (r : KeyReport) (o : Option KeyEvent) (key own : KeyEvent) → o ≡ port_key r → o ≡ Some key → port_key r ≡ Some own → own ≡ key
one_key r o key own is some other = let same : Some own ≡ Some key = sym other ∙ sym is ∙ some in cc (same)

-- What a key without an ESC before it is written as, by the three ways.
pub no_plain_text : (reading : Reading) (r : KeyReport) → ((bytes : List ℕ) → ¬ IsSentText reading r bytes)
    → ((bytes : List ℕ) → ¬ IsFirstRow reading r bytes) → ((bytes : List ℕ) → ¬ IsCharacterText reading r bytes) → (bytes : List ℕ)
    → ¬ IsPlainKeyText reading r bytes
no_plain_text reading r sent row character bytes (by_sending is) = sent bytes is
no_plain_text reading r sent row character bytes (by_character none is) = character bytes is
no_plain_text reading r sent row character bytes (by_row none never is) = row bytes is

pub no_typed_text : (reading : Reading) (r : KeyReport) → ((bytes : List ℕ) → ¬ IsPlainKeyText reading r bytes)
    → ((bytes : List ℕ) → ¬ IsEscapedText reading r bytes) → (bytes : List ℕ) → ¬ IsTypedText reading r bytes
no_typed_text reading r plain escaped bytes (alone is) = plain bytes is
no_typed_text reading r plain escaped bytes (after_escape none is) = escaped bytes is

pub no_key_text : (reading : Reading) (r : KeyReport) → ((bytes : List ℕ) → ¬ IsTypedText reading r bytes)
    → ((bytes : List ℕ) → ¬ IsReportText reading r bytes) → (bytes : List ℕ) → ¬ IsKeyText reading r bytes
no_key_text reading r typed_none report_none bytes (typed is) = typed_none bytes is
no_key_text reading r typed_none report_none bytes (reported none is) = report_none bytes is

-- what a call returned
pub if_ok : {A E : Type 0} {P Q : A → Type 0} (r : Result A E) → ((x : A) → P x → Q x) → IfOk r P → IfOk r Q
if_ok (Ok x) f h = f x h
if_ok (Err e) f h = h

pub if_none : {A E P Q : Type 0} (r : Result (Option A) E) → (P → Q) → IfOk r (λ o. IfNone o P) → IfOk r (λ o. IfNone o Q)
if_none (Ok (Some x)) f h = h
if_none (Ok None) f h = f h
if_none (Err e) f h = h

-- A key without an ESC before it has one text.
first_once : (reading : Reading) (r : KeyReport) (a b : List ℕ) → IsFirstRow reading r a → IsFirstRow reading r b → a ≡ b
first_once reading r a b x y = by_order (x.place == y.place) (nat_lt x.place y.place) refl refl
  where
    by_order : (same less : Bool) → (x.place == y.place) ≡ same → nat_lt x.place y.place ≡ less → a ≡ b
    by_order true less e f =
        let at : y.place ≡ x.place = grind (arith, nat_tests) in
        (row_once_at x.place a b x.key y.key x.here (subst (λ p. IsRowAt p b y.key) at y.here)).0
    by_order false true e f =
        let below : x.place < y.place = grind (arith, nat_tests) in absurd (y.first x.place a x.key below x.here x.read)
    by_order false false e f =
        let below : y.place < x.place = grind (arith, nat_tests) in absurd (x.first y.place b y.key below y.here y.read)

sent_once : (reading : Reading) (r : KeyReport) (a b : List ℕ) → IsSentText reading r a → IsSentText reading r b → a ≡ b
sent_once reading r a b x y =
    let own : y.key ≡ x.key = one_key r (port_key r) x.key y.key refl x.key_is y.key_is in
    let both : Some b ≡ Some a = sym y.sent ∙ ap (λ k. enc k.key k.modifiers no_modes) own ∙ x.sent in cc (both)

character_once : (reading : Reading) (r : KeyReport) (a b : List ℕ) → IsCharacterText reading r a → IsCharacterText reading r b → a ≡ b
character_once reading r a b x y =
    let both : Named (Char x.character) ≡ Named (Char y.character) = sym x.key_is ∙ y.key_is in
    let same : x.character ≡ y.character = cc (both) in x.bytes_are ∙ ap encode_utf8 same ∙ sym y.bytes_are

pub plain_once : (reading : Reading) (r : KeyReport) (a b : List ℕ) → IsPlainKeyText reading r a → IsPlainKeyText reading r b → a ≡ b
plain_once reading r a b (by_sending x) (by_sending y) = sent_once reading r a b x y
plain_once reading r a b (by_sending x) (by_character none y) = absurd (none a x)
plain_once reading r a b (by_sending x) (by_row none never y) = absurd (none a x)
plain_once reading r a b (by_character none x) (by_sending y) = absurd (none b y)
plain_once reading r a b (by_character none x) (by_character other y) = character_once reading r a b x y
plain_once reading r a b (by_character none x) (by_row other never y) = absurd (never a x)
plain_once reading r a b (by_row none never x) (by_sending y) = absurd (none b y)
plain_once reading r a b (by_row none never x) (by_character other y) = absurd (never b y)
plain_once reading r a b (by_row none never x) (by_row other either y) = first_once reading r a b x y

pub escaped_not : (reading : Reading) (r : KeyReport) (text bytes : List ℕ) → IsPlainKeyText reading (without_alt r) text
    → bytes ≡ ESC ++ text → ¬ IsReadAsKey reading r bytes → (other : List ℕ) → ¬ IsEscapedText reading r other
escaped_not reading r text bytes plain are not other is =
    let same : is.text ≡ text = plain_once reading (without_alt r) is.text text is.is_text plain in
    not (subst (IsReadAsKey reading r) (is.bytes_are ∙ ap (λ t. ESC ++ t) same ∙ sym are) is.read)

pub no_escaped : (reading : Reading) (r : KeyReport) → ((bytes : List ℕ) → ¬ IsPlainKeyText reading (without_alt r) bytes)
    → (other : List ℕ) → ¬ IsEscapedText reading r other
no_escaped reading r none other is = none is.text is.is_text

-- what an option that was told has
pub some_of : {A : Type 0} (P : A → Type 0) (o : Option A) (x : A) → o ≡ Some x → IfSome o P → P x
some_of P o x e h = rw e at h

pub none_of : {A P : Type 0} (o : Option A) → o ≡ None → IfNone o P → P
none_of o e h = rw e at h

-- a function key that sends nothing
pub unsent : (key : KeyCode) (n : ℕ) (held : Modifiers) (modes : KeyCodeEncodeModes) (bytes : List ℕ) → unhandled key ≡ Some n
    → ¬ (enc key held modes ≡ Some bytes)
unfolding enc
unsent key n held modes bytes e sent = (let none : None ≡ Some bytes = rw e at sent in cc (none))

-- A control sequence or a string that was tried.
own_is : (reading : Reading) (event : Event) (all sent : List ℕ) → own event ≡ Some all → IsItself reading event all sent
    → IsEventText reading event sent
own_is reading event all sent e is = (own_text reading event all sent e).0 is

own_none : (reading : Reading) (event : Event) (all : List ℕ) → own event ≡ Some all
    → ((other : List ℕ) → ¬ IsItself reading event all other) → IsRefused reading event
own_none reading event all e none bytes is = none bytes ((own_text reading event all bytes e).1 is)

csi_own : (event : Event) (t all : List ℕ) → event ≡ Csi t → all ≡ CSI ++ t ++ [] → own event ≡ Some all
csi_own event t all e are = ap own e ∙ ap (λ u. Some (CSI ++ u)) (sym (append-nil t)) ∙ ap (λ u. Some u) (sym are)

pub csi_is : (reading : Reading) (event : Event) (t all sent : List ℕ) → event ≡ Csi t → all ≡ CSI ++ t ++ []
    → IsItself reading event all sent → IsEventText reading event sent
csi_is reading event t all sent e are is = own_is reading event all sent (csi_own event t all e are) is

pub csi_none : (reading : Reading) (event : Event) (t all : List ℕ) → event ≡ Csi t → all ≡ CSI ++ t ++ []
    → ((other : List ℕ) → ¬ IsItself reading event all other) → IsRefused reading event
csi_none reading event t all e are none = own_none reading event all (csi_own event t all e are) none

pub csi_too_long : (event : Event) (t all : List ℕ) → event ≡ Csi t → all ≡ CSI ++ t ++ [] → 256 < length all → IsTooLong event
unfolding IsTooLong
csi_too_long event t all e are long =
    let same : all ≡ CSI ++ t = are ∙ ap (λ u. CSI ++ u) (append-nil t) in
    let more : 256 < length (CSI ++ t) = subst (λ u. 256 < length u) same long in
    subst (λ v. IsTooLong v) (sym e) more

string_own : (event : Event) (kind : StringKind) (front t all : List ℕ) → event ≡ whole_string kind t → front ≡ introducer kind
    → all ≡ front ++ t ++ ST → own event ≡ Some all
unfolding string_sent
string_own event kinds.Osc front t all e f are = ap own e ∙ ap (λ u. Some (u ++ t ++ ST)) (sym f) ∙ ap (λ u. Some u) (sym are)
string_own event kinds.Dcs front t all e f are = ap own e ∙ ap (λ u. Some (u ++ t ++ ST)) (sym f) ∙ ap (λ u. Some u) (sym are)
string_own event kinds.Apc front t all e f are = ap own e ∙ ap (λ u. Some (u ++ t ++ ST)) (sym f) ∙ ap (λ u. Some u) (sym are)

pub string_is : (reading : Reading) (event : Event) (kind : StringKind) (front t all sent : List ℕ) → event ≡ whole_string kind t
    → front ≡ introducer kind → all ≡ front ++ t ++ ST → IsItself reading event all sent → IsEventText reading event sent
string_is reading event kind front t all sent e f are is = own_is reading event all sent (string_own event kind front t all e f are) is

pub string_none : (reading : Reading) (event : Event) (kind : StringKind) (front t all : List ℕ) → event ≡ whole_string kind t
    → front ≡ introducer kind → all ≡ front ++ t ++ ST → ((other : List ℕ) → ¬ IsItself reading event all other) → IsRefused reading event
string_none reading event kind front t all e f are none = own_none reading event all (string_own event kind front t all e f are) none

pub string_too_long : (event : Event) (kind : StringKind) (t : List ℕ) → event ≡ whole_string kind t → 65534 < 2 + length t
    → IsTooLong event
unfolding IsTooLong
string_too_long event kinds.Osc t e long = let more : 65535 ≤ suc (suc (length t)) = omega (arith, long) in subst (λ v. IsTooLong v) (sym e) more
string_too_long event kinds.Dcs t e long = let more : 65535 ≤ suc (suc (length t)) = omega (arith, long) in subst (λ v. IsTooLong v) (sym e) more
string_too_long event kinds.Apc t e long = let more : 65535 ≤ suc (suc (length t)) = omega (arith, long) in subst (λ v. IsTooLong v) (sym e) more

-- Where a report has no text, or is too long, or isn't read, it isn't written.
pub report_unwritten : (reading : Reading) (r : KeyReport) → ((bytes : List ℕ) → ¬ (report_text r ≡ Some bytes)) → (bytes : List ℕ)
    → ¬ IsReportText reading r bytes
report_unwritten reading r none bytes is = none bytes is.is_text

pub report_refused : (reading : Reading) (r : KeyReport) → IsTooLong (Key r) → (bytes : List ℕ) → ¬ IsReportText reading r bytes
unfolding IsTooLong
report_refused reading r (text, is, long) bytes own =
    let both : Some text ≡ Some bytes = sym is ∙ own.is_text in
    let same : text ≡ bytes = cc (both) in
    let less : most_bytes < length bytes = subst (λ t. most_bytes < length t) same long in omega (arith, less, own.short)

pub report_unread : (reading : Reading) (r : KeyReport) → ¬ ReadsMore reading → (bytes : List ℕ) → ¬ IsReportText reading r bytes
report_unread reading r never bytes is = never is.reads

-- an event whose key or mouse report isn't written
pub key_refused : (reading : Reading) (event : Event) (r : KeyReport) → event ≡ Key r → ((bytes : List ℕ) → ¬ IsKeyText reading r bytes)
    → IsRefused reading event
unfolding IsEventText
key_refused reading event r e none bytes is = none bytes (subst (λ v. IsEventText reading v bytes) e is)

pub key_too_long : (reading : Reading) (event : Event) (r : KeyReport) → event ≡ Key r
    → IsTooLong (Key r) × ((bytes : List ℕ) → ¬ IsKeyText reading r bytes) → IsTooLong event × IsRefused reading event
key_too_long reading event r e long =
    (subst (λ v. IsTooLong v) (sym e) long.0, key_refused reading event r e long.1)

pub mouse_refused : (reading own : Reading) (event : Event) (m : MouseReport) → own ≡ reading → event ≡ Mouse m
    → ((bytes : List ℕ) → ¬ IsMouseText own m bytes) → IsRefused reading event
unfolding IsEventText
mouse_refused reading own event m same e none bytes is =
    none bytes (subst (λ r. IsMouseText r m bytes) (sym same) (subst (λ v. IsEventText reading v bytes) e is))
