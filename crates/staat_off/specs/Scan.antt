-- The next word of what is left of a file, and what follows a line, found in one pass over the bytes.
use Rattle.std.specs.Prelude.{◌==◌, ◌+◌, ℕ, Bool, true, false, not, List, [], ◌∷◌, take, drop, Option}
use Rattle.std.specs.Prelude.{Some, None}
use Rattle.std.specs.Prelude.{if◌then◌else◌}
use Rattle.std.specs.List.{prefix_len}
use Rattle.staat_off.specs.declared.rest.TheConstants.{HASH, LINE_FEED}
use Rattle.staat_off.specs.Words.{Word, is_plain}

-- what is left of a file, and the offset of its first byte
pub record Rest : Type 0 where
  pub bytes : List ℕ
  pub at : ℕ

-- what is left of a file from a place on
abbrev pub rest_at : List ℕ → ℕ → Rest
rest_at file p = record { bytes = drop p file; at = p }

-- whether a comment goes on behind this byte
abbrev pub goes_on : Bool → ℕ → Bool
goes_on true b = not (b == LINE_FEED)
goes_on false b = b == HASH

-- whether a word begins with this byte
abbrev pub begins : Bool → ℕ → Bool
begins true b = false
begins false b = is_plain b

-- how many bytes stand before the next word
unfoldable pub gap : Bool → List ℕ → ℕ
gap in_comment [] = 0
gap in_comment (b ∷ bs) = if begins in_comment b then 0 else gap (goes_on in_comment b) bs + 1

-- what is left behind so many bytes
abbrev pub behind : ℕ → Rest → Rest
behind n rest = record { bytes = drop n rest.bytes; at = rest.at + n }

-- the word in front, and what is left behind it
abbrev pub word_in_front : Rest → Option Word × Rest
word_in_front rest = let n = prefix_len is_plain rest.bytes in
    if n == 0 then (None, rest) else (Some (record { text = take n rest.bytes; at = rest.at }), behind n rest)

-- the next word, and what is left behind it
unfoldable pub next_word : Rest → Option Word × Rest
next_word rest = word_in_front (behind (gap false rest.bytes) rest)

-- how long the line is, with its LF
unfoldable pub line_len : List ℕ → ℕ
line_len [] = 0
line_len (b ∷ bs) = if b == LINE_FEED then 1 else line_len bs + 1

-- what is left behind the line
unfoldable pub after_line : Rest → Rest
after_line rest = behind (line_len rest.bytes) rest
