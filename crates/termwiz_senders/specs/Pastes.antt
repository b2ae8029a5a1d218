-- What a terminal sends for a pasted text.
use Rattle.std.specs.Prelude.{◌≡◌, ℕ, ◌+◌, ◌<◌, ◌≤◌, ◌⊎◌, Bool, false, ◌==◌, ◌&&◌, ◌||◌, nat_lt, nat_le, List, [], ◌∷◌, ◌++◌, length, drop, if◌then◌else◌, encode_utf8_all}
use Rattle.std.specs.Str.{chars}
use Rattle.std.specs.Str.Lossy.{utf8_lossy}
use Rattle.termwiz_grammar.specs.Grammar.{replacement}
use Rattle.termwiz_laws.specs.PasteEvents.{pasted}

-- horizontal tab, line feed and carriage return
abbrev pub HT : ℕ
HT = 9

abbrev pub LF : ℕ
LF = 10

abbrev pub CR : ℕ
CR = 13

-- the picture of a control character below U+0020
abbrev pub picture : ℕ → ℕ
picture c = 0x2400 + c

-- the picture of U+007F
abbrev pub picture_of_delete : ℕ
picture_of_delete = 0x2421

-- What a character becomes. HT stays, and an end of a line is CR, as Enter sends it. Any other control character becomes one that does nothing.
unfoldable pub safe_character : ℕ → ℕ
safe_character c =
    if c == HT then HT
    else (if (c == LF) || (c == CR) then CR
    else (if nat_lt c 0x20 then picture c
    else (if c == 0x7F then picture_of_delete
    else (if nat_le 0x80 c && nat_le c 0x9F then replacement
    else c))))

-- LF begins the text
abbrev pub begins_with_line_feed : List ℕ → Bool
begins_with_line_feed [] = false
begins_with_line_feed (c ∷ cs) = c == LF

-- Made safe, each character of a text becomes another one. But CR before LF is left out, since the two end one line.
unfoldable pub safe : List ℕ → List ℕ
safe [] = []
safe (c ∷ cs) = if (c == CR) && begins_with_line_feed cs then safe cs else safe_character c ∷ safe cs

-- the characters of a text, where U+FFFD stands for what is no UTF-8
abbrev pub characters : List ℕ → List ℕ
characters text = chars (utf8_lossy text)

-- the bytes of a text made safe
unfoldable pub safe_text : List ℕ → List ℕ
safe_text text = encode_utf8_all (safe (characters text))

-- what is sent for a text
abbrev pub paste_text : List ℕ → Bool → List ℕ
paste_text text bracketed = if bracketed then pasted (safe_text text) else safe_text text

-- A character that stays as it is, and that no other one is joined to: printable ASCII or HT.
abbrev pub IsPlain : ℕ → Type 0
IsPlain c = (c ≡ HT) ⊎ ((0x20 ≤ c) × (c ≤ 0x7E))

-- Made safe, the first bytes of a text, so many, become these, and what follows them is made safe by itself.
pub record IsMadeSafe (text : List ℕ) (len : ℕ) (front : List ℕ) : Type 0 where
  pub some : 0 < len
  pub inside : len ≤ length text
  pub splits : safe_text text ≡ front ++ safe_text (drop len text)

-- such bytes were appended
abbrev pub Appends : List ℕ → List ℕ → List ℕ → ℕ → Type 0
Appends before after text len = (front : List ℕ) × (after ≡ before ++ front) × IsMadeSafe text len front
