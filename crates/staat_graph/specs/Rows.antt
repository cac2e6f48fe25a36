-- Graphs in rows of marks, on any number of parts: row a has a mark at the place b where an arc leads from a to b.
use Rattle.std.specs.Prelude.{◌≡◌, ◌⊎◌, ℕ, ◌+◌, ◌*◌, ◌<◌, List, [], ◌∷◌, Bool, true}
use Rattle.std.specs.Prelude.{false, ◌&&◌, ◌||◌, All, IsTrue}
use Rattle.std.specs.Prelude.{get_or, length, map}
use Rattle.std.specs.List.Sorted.{IsStrictlySortedBy}
use Rattle.std.specs.Ordering.{nat_cmp}
use Rattle.staat_model.specs.Sets.{below}
use Rattle.staat_graph.specs.Graphs.{HasArc, Walks}

-- the number in which the bits of the marked places are set
unfoldable pub row_word : List Bool → ℕ
row_word [] = 0
row_word (true ∷ marks) = 1 + 2 * row_word marks
row_word (false ∷ marks) = 2 * row_word marks

-- row i has a mark at the place j
abbrev pub HasMark : List (List Bool) → ℕ → ℕ → Type 0
HasMark rows i j = IsTrue (get_or (get_or rows i []) j false)

-- as many places in each row as there are rows
abbrev pub IsSquare : List (List Bool) → Type 0
IsSquare rows = All (λ row. length row ≡ length rows) rows

-- the new row has the marks of the old one, and where the old one leads to k also those of the row of k
pub record LeadsOn (k : ℕ) (through old new : List Bool) : Type 0 where
  pub count : length new ≡ length old
  pub marks : (j : ℕ)
      → get_or new j false ≡ (get_or old j false || (get_or old k false && get_or through j false))

-- each row that leads to k leads on to where k leads
pub record AllLeadOn (k : ℕ) (old new : List (List Bool)) : Type 0 where
  pub count : length new ≡ length old
  pub rows : (i : ℕ) → i < length old → LeadsOn k (get_or old k []) (get_or old i []) (get_or new i [])

-- a mark stands exactly where a walk along at least one arc leads from the one part to the other
pub record AreWalkRows (rows table : List (List Bool)) : Type 0 where
  pub count : length table ≡ length rows
  pub square : IsSquare table
  pub walks : (i j : ℕ) → HasMark table i j → Walks (HasArc (map row_word rows)) (below (length rows)) i j
  pub all : (i j : ℕ) → Walks (HasArc (map row_word rows)) (below (length rows)) i j
      → (i ≡ j) ⊎ HasMark table i j

-- q is p, or each leads to the other
abbrev pub IsMutualMark : List (List Bool) → ℕ → ℕ → Type 0
IsMutualMark table p q = (q ≡ p) ⊎ (HasMark table p q × HasMark table q p)

-- ascending numbers below n
pub record AreAscendingBelow (n : ℕ) (numbers : List ℕ) : Type 0 where
  pub ascending : IsStrictlySortedBy nat_cmp numbers
  pub small : All (λ p. p < n) numbers
