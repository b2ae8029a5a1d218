-- Strings. A string is known by how it begins: by its opening, which is typed by nobody.
use Rattle.std.specs.Prelude.{◌≡◌, ◌≢◌, ℕ, ◌≤◌, ◌<◌, ◌⊎◌, Bool, false, List, [], ◌∷◌, ◌++◌, length, codes}
use Rattle.std.specs.List.{AllByRecursion}
use Rattle.termwiz_keymap.specs.Bytes.{Begins}
use Rattle.termwiz_keys.specs.Introducers.{ESC}
use Rattle.termwiz_grammar.specs.MouseReports.{IsDigit}
use Rattle.termwiz_grammar.specs.Laws.{IsHeldEscape}
use Rattle.termwiz_extended_events.specs.Meanings.{whole_string}
use Rattle.termwiz_extended_events.specs.declared.types.Event.{Event}
use Rattle.termwiz_extended_events.specs.declared.types.Event.TheVariants.{StringPart, StringCut}
use Rattle.termwiz_extended_events.specs.declared.types.StringKind.{StringKind}
use Rattle.termwiz_extended_events.specs.declared.types.StringKind.TheVariants.{Osc, Dcs, Apc}
use Rattle.termwiz_extended_grammar.specs.Forms.{introducer, IsData, IsStringEnd, IsFinal, IsTitleLetter, typed_title, most_string}

-- one to five decimal digits
pub record IsShortNumber (digits : List ℕ) : Type 0 where
  pub each : AllByRecursion IsDigit digits
  pub some : digits ≢ []
  pub short : length digits ≤ 5

-- the number of an operating system command, and a semicolon
pub record IsNumbered (head : List ℕ) : Type 0 where
  pub digits : List ℕ
  pub form : head ≡ digits ++ codes ";"
  pub number : IsShortNumber digits

-- as much of a title as nobody types
pub record IsLongTitle (head : List ℕ) : Type 0 where
  pub letter : ℕ
  pub body : List ℕ
  pub form : head ≡ letter ∷ body
  pub letter_is : IsTitleLetter letter
  pub each : AllByRecursion (IsData Osc) body
  pub long : length body ≡ typed_title

-- $, + or !
abbrev pub IsReplySign : ℕ → Type 0
IsReplySign b = (b ≡ 36) ⊎ ((b ≡ 43) ⊎ (b ≡ 33))

-- a number, a sign and a final byte, with which the reply to a question of DCS begins
pub record IsNumberedReply (head : List ℕ) : Type 0 where
  pub digits : List ℕ
  pub sign : ℕ
  pub last : ℕ
  pub form : head ≡ digits ++ sign ∷ last ∷ []
  pub number : IsShortNumber digits
  pub sign_is : IsReplySign sign
  pub last_is : IsFinal last

-- an ASCII letter
abbrev pub IsLetter : ℕ → Type 0
IsLetter b = ((65 ≤ b) × (b ≤ 90)) ⊎ ((97 ≤ b) × (b ≤ 122))

-- G, a letter and =, with which Kitty's graphics begin
pub record IsGraphics (head : List ℕ) : Type 0 where
  pub letter : ℕ
  pub form : head ≡ codes "G" ++ letter ∷ codes "="
  pub letter_is : IsLetter letter

-- The opening of a string is the introducer of its kind and such a head.
abbrev pub IsHead : StringKind → List ℕ → Type 0
IsHead Osc head = IsNumbered head ⊎ IsLongTitle head
IsHead Dcs head =
    (head ≡ codes ">|") ⊎ ((head ≡ codes "!|") ⊎ ((head ≡ codes "@kitty-") ⊎ IsNumberedReply head))
IsHead Apc head = IsGraphics head

-- an opening begins u
pub record StartsWithOpening (u : List ℕ) : Type 0 where
  pub kind : StringKind
  pub head : List ℕ
  pub is_head : IsHead kind head
  pub begins : Begins (introducer kind ++ head) u

-- some opening is longer than u and begins with u
pub record IsUnfinishedOpening (u : List ℕ) : Type 0 where
  pub tail : List ℕ
  pub longer : tail ≢ []
  pub kind : StringKind
  pub head : List ℕ
  pub is_head : IsHead kind head
  pub spells : introducer kind ++ head ≡ u ++ tail

-- u is an opening with this head, these data bytes, and then `after`
pub record IsString (u : List ℕ) (kind : StringKind) (head bytes after : List ℕ) : Type 0 where
  pub is_head : IsHead kind head
  pub each : AllByRecursion (IsData kind) bytes
  pub splits : u ≡ introducer kind ++ head ++ (bytes ++ after)

-- how many bytes an opening and these data bytes have
abbrev pub string_length : StringKind → List ℕ → List ℕ → ℕ
string_length kind head bytes = length (introducer kind ++ head ++ bytes)

-- What ends a string with these bytes, by what follows: what it leaves, and its event. A string ends with its end. It is cut by ESC and
-- another byte, which it leaves; by ESC ESC, of which it takes one; and by a flush.
pub data Ends (kind : StringKind) (bytes after : List ℕ) (more : Bool) : List ℕ → Event → Type 0 where
  ended : (end left : List ℕ) → IsStringEnd kind end → after ≡ end ++ left
      → Ends kind bytes after more left (whole_string kind bytes)
  cut : (b : ℕ) (left : List ℕ) → after ≡ ESC ++ b ∷ left → b ≢ 0x1b → b ≢ 0x5c
      → Ends kind bytes after more (ESC ++ b ∷ left) (StringCut kind bytes)
  cut_by_two : (left : List ℕ) → after ≡ ESC ++ ESC ++ left
      → Ends kind bytes after more (ESC ++ left) (StringCut kind bytes)
  flushed : IsHeldEscape after → more ≡ false → Ends kind bytes after more [] (StringCut kind bytes)

-- What comes of a string. Of a long one a part is read, and its opening is put back before what follows.
pub data Comes (kind : StringKind) (head bytes after : List ℕ) (more : Bool) : List ℕ → Event → Type 0 where
  part : string_length kind head bytes ≡ most_string
      → Comes kind head bytes after more (introducer kind ++ head ++ after) (StringPart kind (head ++ bytes))
  last : (left : List ℕ) (event : Event) → string_length kind head bytes < most_string
      → Ends kind (head ++ bytes) after more left event → Comes kind head bytes after more left event

-- an open string: an opening and data, and perhaps the ESC that may begin its end
pub record IsOpenString (u : List ℕ) : Type 0 where
  pub kind : StringKind
  pub head : List ℕ
  pub bytes : List ℕ
  pub held : List ℕ
  pub is_string : IsString u kind head bytes held
  pub short : string_length kind head bytes < most_string
  pub is_held : IsHeldEscape held
