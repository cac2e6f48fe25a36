-- Sets of part numbers. A `PartSet` is the finite set of its members.
use Rattle.std.specs.Prelude.{◌≢◌, ℕ, zero, suc, ◌≤◌, Bool, ◌&&◌, IsTrue}
use Rattle.std.specs.FinSet as set
use Rattle.staat_model.specs.declared.set.PartSet.{PartSet}

-- p is in the set
abbrev pub Has : PartSet → ℕ → Type 0
Has s p = IsTrue (set.contains s p)

-- the set that has p alone
abbrev pub single : ℕ → PartSet
single p = set.insert set.empty p

-- the numbers below n
abbrev pub below : ℕ → PartSet
below zero = set.empty
below (suc n) = set.insert (below n) n

-- each member of s is in w
abbrev pub IsSubset : PartSet → PartSet → Type 0
IsSubset s w = (p : ℕ) → Has s p → Has w p

-- some number is a member
abbrev pub IsNonempty : PartSet → Type 0
IsNonempty s = (p : ℕ) × Has s p

-- no number is in both
abbrev pub AreApart : PartSet → PartSet → Type 0
AreApart s r = (p : ℕ) → Has s p → Has r p → ⊥

-- s is a nonempty subset of w other than w
pub record IsSide (w s : PartSet) : Type 0 where
  pub nonempty : IsNonempty s
  pub within : IsSubset s w
  pub proper : s ≢ w

-- p is the least member
pub record IsLeastOf (s : PartSet) (p : ℕ) : Type 0 where
  pub has : Has s p
  pub least : (q : ℕ) → Has s q → p ≤ q

-- whether the sets have the same members
unfoldable pub equal_sets : PartSet → PartSet → Bool
equal_sets s t = set.is_subset s t && set.is_subset t s
