-- Texts and what is sent for them, computed from the definitions.
use Rattle.std.specs.Prelude.{◌≡◌, ℕ, Bool, true, false, List, [], ◌∷◌, ◌++◌, codes, refl}
use Rattle.std.specs.Char.{encode_utf8}
use Rattle.std.specs.Str.{chars, is_utf8}
use Rattle.std.specs.Str.Lossy.{utf8_error_len, utf8_lossy, utf8_valid_len}
use Rattle.termwiz_keys.specs.Introducers.{ESC, START, END}
use Rattle.termwiz_senders.specs.Pastes.{HT, LF, CR, paste_text, safe, safe_character, safe_text}

-- what is sent: to unfold this is to unfold every rule
unfoldable pub sent : List ℕ → Bool → List ℕ
unfolding safe_text safe safe_character chars is_utf8 utf8_lossy utf8_valid_len utf8_error_len encode_utf8
sent text bracketed = paste_text text bracketed

-- the pictures of ESC, NUL, ETX and DEL, and U+FFFD
abbrev escape_picture : List ℕ
escape_picture = 0xe2 ∷ 0x90 ∷ 0x9b ∷ []

abbrev null_picture : List ℕ
null_picture = 0xe2 ∷ 0x90 ∷ 0x80 ∷ []

abbrev end_of_text_picture : List ℕ
end_of_text_picture = 0xe2 ∷ 0x90 ∷ 0x83 ∷ []

abbrev delete_picture : List ℕ
delete_picture = 0xe2 ∷ 0x90 ∷ 0xa1 ∷ []

abbrev replacement : List ℕ
replacement = 0xef ∷ 0xbf ∷ 0xbd ∷ []

-- a text is sent as this one, in brackets and without them
abbrev IsSentAs : List ℕ → List ℕ → Type 0
IsSentAs text safe = (sent text true ≡ START ++ safe ++ END) × (sent text false ≡ safe)

lines : IsSentAs (codes "two" ++ LF ∷ codes "lines" ++ CR ∷ LF ∷ []) (codes "two" ++ CR ∷ codes "lines" ++ CR ∷ [])
unfolding sent
lines = (refl, refl)

end_of_paste : IsSentAs (codes "a" ++ ESC ++ codes "[201~b") (codes "a" ++ escape_picture ++ codes "[201~b")
unfolding sent
end_of_paste = (refl, refl)

end_within_end : IsSentAs (ESC ++ codes "[20" ++ ESC ++ codes "[201~1~") (escape_picture ++ codes "[20" ++ escape_picture ++ codes "[201~1~")
unfolding sent
end_within_end = (refl, refl)

controls : IsSentAs (0x00 ∷ 0x03 ∷ HT ∷ 0x7f ∷ []) (null_picture ++ end_of_text_picture ++ HT ∷ delete_picture)
unfolding sent
controls = (refl, refl)

broken_and_high_control : IsSentAs (0xc2 ∷ 0x9b ∷ codes "201~" ++ 0x9b ∷ []) (replacement ++ codes "201~" ++ replacement)
unfolding sent
broken_and_high_control = (refl, refl)

line_ends : IsSentAs (CR ∷ CR ∷ LF ∷ LF ∷ []) (CR ∷ CR ∷ CR ∷ [])
unfolding sent
line_ends = (refl, refl)

nothing : IsSentAs [] []
unfolding sent
nothing = (refl, refl)
