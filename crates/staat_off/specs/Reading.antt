-- What an OFF file holds, or the first refusal in reading order.
use Rattle.std.specs.Prelude.{◌&&◌, ℕ, ℤ, Bool, false, nat_lt, nat_le, List, length, Option, Some, None}
use Rattle.std.specs.Prelude.{Result, Ok}
use Rattle.std.specs.Prelude.{Err, if◌then◌else◌, codes}
use Rattle.std.specs.Char.{is_ascii_digit}
use Rattle.std.specs.List.{list_all}
use Rattle.std.specs.Str.{bytes_eq}
use Rattle.std.specs.Str.Parse.{digits_value}
use Rattle.staat_vec.specs.declared.vector.V3.{V3}
use Rattle.staat_vec.specs.Vectors.{vector}
use Rattle.staat_off.specs.declared.raw.Raw.{Raw}
use Rattle.staat_limits.specs.declared.limits.TheConstants.{MOST_COUNT}
use Rattle.staat_off.specs.declared.refusal.OffRefusal.{OffRefusal}
use Rattle.staat_off.specs.declared.refusal.OffRefusal.TheVariants.{NoHeader, BadCount, BadIndex, ShortFile, Trailing}
use Rattle.staat_off.specs.Coordinates.{coordinate_of}
use Rattle.staat_off.specs.Scan.{after_line, next_word, rest_at}
use Rattle.staat_off.specs.Words.{Word}
use Rattle.staat_off.specs.Readers.{Reader, ◌>>=◌, decided, many, refuse, return, value_in}

-- the word that was found, or that the file is too short
abbrev pub word_or_short : Option Word → Reader Word
word_or_short None = refuse ShortFile
word_or_short (Some w) = return w

-- a word, where one is wanted
unfoldable pub word : Reader Word
word rest = let found = next_word rest in word_or_short found.0 found.1

-- 1 to 7 decimal digits
abbrev pub is_short_number : List ℕ → Bool
is_short_number text = nat_lt 0 (length text) && (nat_le (length text) 7 && list_all is_ascii_digit text)

-- the number that they write
unfoldable pub short_number : List ℕ → Option ℕ
short_number text = if is_short_number text then Some (digits_value 10 text) else None

-- the number, where there is one and it passes the test
abbrev pub accepted : (ℕ → Bool) → Option ℕ → OffRefusal → Reader ℕ
accepted test None refusal = refuse refusal
accepted test (Some n) refusal = if test n then return n else refuse refusal

-- a count
unfoldable pub count : Reader ℕ
count = do
  w ← word
  accepted (λ n. nat_le n MOST_COUNT) (short_number w.text) (BadCount w.at)

-- how many corners a face has: at least one
unfoldable pub corner_count : Reader ℕ
corner_count = do
  w ← word
  accepted (λ n. nat_le 1 n && nat_le n MOST_COUNT) (short_number w.text) (BadCount w.at)

-- the number of a vertex
unfoldable pub index : ℕ → Reader ℕ
index vertices = do
  w ← word
  accepted (λ n. nat_lt n vertices) (short_number w.text) (BadIndex w.at)

-- a coordinate, times 10 ^ digits
unfoldable pub coordinate : ℕ → Reader ℤ
coordinate digits = do
  w ← word
  decided (coordinate_of digits w)

-- a vertex
unfoldable pub point : ℕ → Reader V3
point digits = do
  x ← coordinate digits
  y ← coordinate digits
  z ← coordinate digits
  return (vector x y z)

-- nothing, but the line is passed over
abbrev pub line_passed : Reader (Unit {0})
line_passed rest = Ok (tt, after_line rest)

-- a face: how many corners it has, and those; what follows them on their line is passed over
unfoldable pub face : ℕ → Reader (List ℕ)
face vertices = do
  corners ← corner_count
  indices ← many corners (index vertices)
  passed ← line_passed
  return indices

-- whether the word is `OFF`
abbrev pub is_header : Option Word → Bool
is_header None = false
is_header (Some w) = bytes_eq w.text (codes "OFF")

-- the header
unfoldable pub header : Reader (Unit {0})
header rest = let found = next_word rest in if is_header found.0 then Ok (tt, found.1) else Err NoHeader

-- that no word was found, or the refusal of it
abbrev pub end_or_trailing : Option Word → Reader (Unit {0})
end_or_trailing None = return tt
end_or_trailing (Some w) = refuse (Trailing w.at)

-- the end of the file
unfoldable pub end : Reader (Unit {0})
end rest = let found = next_word rest in end_or_trailing found.0 found.1

-- the header; the numbers of vertices, faces and edges, of which the last is compared with nothing; the vertices; the
-- faces; and nothing more
unfoldable pub file : ℕ → Reader Raw
file digits = do
  first ← header
  vertices ← count
  faces ← count
  edges ← count
  points ← many vertices (point digits)
  lists ← many faces (face vertices)
  last ← end
  return (record { points = points; faces = lists })

-- what the bytes of a file hold
unfoldable pub reading : ℕ → List ℕ → Result Raw OffRefusal
reading digits bytes = value_in (file digits (rest_at bytes 0))
