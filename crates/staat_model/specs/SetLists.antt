-- The set of the part numbers in a list, and lists of such sets.
use Rattle.std.specs.Prelude.{ℕ, List, [], ◌∷◌, Contains}
use Rattle.std.specs.FinSet as set
use Rattle.staat_model.specs.declared.set.PartSet.{PartSet}
use Rattle.staat_model.specs.Sets.{AreApart}

-- the set of the members of a list
abbrev pub set_of : List ℕ → PartSet
set_of [] = set.empty
set_of (p ∷ rest) = set.insert (set_of rest) p

-- the members of all the sets
abbrev pub union_of : List PartSet → PartSet
union_of [] = set.empty
union_of (s ∷ rest) = set.union s (union_of rest)

-- no two of the sets have a member in common
abbrev pub AreAllApart : List PartSet → Type 0
AreAllApart [] = Unit {0}
AreAllApart (s ∷ rest) = ((t : PartSet) → Contains rest t → AreApart s t) × AreAllApart rest
