-- The lines of a certificate's text: the word and the numbers of each, and their bounds.
use Rattle.std.specs.Prelude.{ℕ, zero, suc, ◌<◌, ◌≤◌, List, [], ◌∷◌, ◌++◌, map, ℤ, pos, codes}
use Rattle.std.specs.Prelude.{if◌then◌else◌, All}
use Rattle.std.specs.FinSet as set
use Rattle.std.specs.Fmt.{signed_decimal}
use Rattle.staat_vec.specs.declared.vector.V3.{V3}
use Rattle.staat_vec.specs.declared.vector.TheConstants.{NORMAL, DIRECTION}
use Rattle.staat_vec.specs.Vectors.{IsWithin}
use Rattle.staat_model.specs.declared.set.PartSet.{PartSet}
use Rattle.staat_model.specs.declared.certificate.Arc.{Arc}
use Rattle.staat_model.specs.declared.line.Line.{Line}
use Rattle.staat_model.specs.declared.line.Line.TheVariants as line
use Rattle.staat_limits.specs.Versions.{IsVersion}
use Rattle.staat_limits.specs.declared.limits.TheConstants.{MOST_PARTS, MOST_PIECES, LIST_LIMIT}
use Rattle.staat_model.specs.Sets.{IsNonempty, IsSubset, below}

-- the members among the n numbers from p on, ascending
abbrev pub members_from : ℕ → ℕ → PartSet → List ℕ
members_from p zero w = []
members_from p (suc n) w = if set.contains w p then p ∷ members_from (suc p) n w else members_from (suc p) n w

-- the members of a set of part numbers, ascending
unfoldable pub members : PartSet → List ℕ
members w = members_from 0 MOST_PARTS w

abbrev pub vector_numbers : V3 → List ℤ
vector_numbers v = v.x ∷ v.y ∷ v.z ∷ []

abbrev pub arc_numbers : Arc → List ℤ
arc_numbers arc = pos arc.a ∷ pos arc.i ∷ pos arc.b ∷ pos arc.j ∷ []

-- the word with which a line begins
abbrev pub word_of : Line → List ℕ
word_of (line.Head version) = codes "STAAT"
word_of (line.Parts n) = codes "parts"
word_of line.Plan = codes "plan"
word_of (line.Stuck w) = codes "stuck"
word_of (line.Leaf p) = codes "leaf"
word_of (line.Split d) = codes "split"
word_of (line.Sep sep) = codes "sep"
word_of (line.Witness k) = codes "witness"
word_of (line.Out arc) = codes "out"
word_of (line.In arc) = codes "in"
word_of (line.Dir dir) = codes "dir"
word_of line.End = codes "end"

-- the numbers that follow
abbrev pub numbers_in : Line → List ℤ
numbers_in (line.Head version) = pos version ∷ []
numbers_in (line.Parts n) = pos n ∷ []
numbers_in line.Plan = []
numbers_in (line.Stuck w) = map pos (members w)
numbers_in (line.Leaf p) = pos p ∷ []
numbers_in (line.Split d) = vector_numbers d
numbers_in (line.Sep sep) = arc_numbers sep.arc ++ vector_numbers sep.n
numbers_in (line.Witness k) = pos k ∷ []
numbers_in (line.Out arc) = arc_numbers arc
numbers_in (line.In arc) = arc_numbers arc
numbers_in (line.Dir dir) = vector_numbers dir.d ++ pos dir.witness ∷ []
numbers_in line.End = []

-- each number after a space, and a line feed
abbrev pub spaced : List ℤ → List ℕ
spaced [] = 10 ∷ []
spaced (z ∷ zs) = 32 ∷ (signed_decimal z ++ spaced zs)

-- the bytes of a line
abbrev pub line_text : Line → List ℕ
line_text l = word_of l ++ spaced (numbers_in l)

-- each byte is above a blank
abbrev pub ArePlain : List ℕ → Type 0
ArePlain bytes = All (λ b. 32 < b) bytes

-- nothing, or a blank or a lower byte in front
abbrev pub IsParted : List ℕ → Type 0
IsParted [] = Unit {0}
IsParted (b ∷ bytes) = b ≤ 32

-- part numbers and piece numbers
pub record IsArcInBounds (arc : Arc) : Type 0 where
  pub a : arc.a < MOST_PARTS
  pub i : arc.i < MOST_PIECES
  pub b : arc.b < MOST_PARTS
  pub j : arc.j < MOST_PIECES

-- the bounds of a line's numbers
abbrev pub IsInBounds : Line → Type 0
IsInBounds (line.Head version) = IsVersion version
IsInBounds (line.Parts n) = (1 ≤ n) × (n ≤ MOST_PARTS)
IsInBounds line.Plan = Unit {0}
IsInBounds (line.Stuck w) = IsNonempty w × IsSubset w (below MOST_PARTS)
IsInBounds (line.Leaf p) = p < MOST_PARTS
IsInBounds (line.Split d) = IsWithin DIRECTION d
IsInBounds (line.Sep sep) = IsArcInBounds sep.arc × IsWithin NORMAL sep.n
IsInBounds (line.Witness k) = k < LIST_LIMIT
IsInBounds (line.Out arc) = IsArcInBounds arc
IsInBounds (line.In arc) = IsArcInBounds arc
IsInBounds (line.Dir dir) = IsWithin DIRECTION dir.d × (dir.witness < LIST_LIMIT)
IsInBounds line.End = Unit {0}
