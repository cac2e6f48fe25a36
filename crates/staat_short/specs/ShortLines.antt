-- The lines of a short certificate's text: the words and the numbers of each, and their bounds.
use Rattle.std.specs.Prelude.{ℕ, ◌<◌, ◌≤◌, List, [], ◌∷◌, ◌++◌, ℤ, pos, codes}
use Rattle.staat_vec.specs.declared.vector.TheConstants.{DIRECTION}
use Rattle.staat_vec.specs.Vectors.{IsWithin}
use Rattle.staat_limits.specs.declared.limits.TheConstants.{MOST_PRODUCT_PARTS, MOST_PRODUCT_PIECES}
use Rattle.staat_model.specs.declared.certificate.Arc.{Arc}
use Rattle.staat_model.specs.Lines.{arc_numbers, spaced, vector_numbers}
use Rattle.staat_short.specs.declared.line.ShortLine.{ShortLine}
use Rattle.staat_short.specs.declared.line.ShortLine.TheVariants as line

-- what stands before the numbers of a line. The title's own number is always 1
abbrev pub short_word : ShortLine → List ℕ
short_word line.Title = codes "STAAT SHORT 1"
short_word (line.Parts n) = codes "parts"
short_word line.Plan = codes "plan"
short_word line.Stuck = codes "stuck"
short_word line.Rest = codes "rest"
short_word (line.Split d) = codes "split"
short_word (line.Leaf p) = codes "leaf"
short_word line.Group = codes "group"
short_word line.Hold = codes "hold"
short_word (line.Part p) = codes "part"
short_word (line.Pair pair) = codes "pair"
short_word line.End = codes "end"

-- the numbers that follow
abbrev pub short_numbers : ShortLine → List ℤ
short_numbers (line.Parts n) = pos n ∷ []
short_numbers (line.Split d) = vector_numbers d
short_numbers (line.Leaf p) = pos p ∷ []
short_numbers (line.Part p) = pos p ∷ []
short_numbers (line.Pair pair) = arc_numbers pair
short_numbers l = []

-- the bytes of a line
abbrev pub short_line_text : ShortLine → List ℕ
short_line_text l = short_word l ++ spaced (short_numbers l)

-- part numbers, the lower one first, and piece numbers
pub record IsOrderedPair (pair : Arc) : Type 0 where
  pub i : pair.i < MOST_PRODUCT_PIECES
  pub b : pair.b < MOST_PRODUCT_PARTS
  pub j : pair.j < MOST_PRODUCT_PIECES
  pub below : pair.a < pair.b

-- the bounds of a line's numbers
abbrev pub IsShortLine : ShortLine → Type 0
IsShortLine (line.Parts n) = (1 ≤ n) × (n ≤ MOST_PRODUCT_PARTS)
IsShortLine (line.Split d) = IsWithin DIRECTION d
IsShortLine (line.Leaf p) = p < MOST_PRODUCT_PARTS
IsShortLine (line.Part p) = p < MOST_PRODUCT_PARTS
IsShortLine (line.Pair pair) = IsOrderedPair pair
IsShortLine l = Unit {0}
