-- Labels of the parts of a list, and the sets of those with the same label.
use Rattle.std.specs.Prelude.{◌≡◌, ℕ, ◌<◌, ◌≤◌, ◌↔◌, List, [], ◌∷◌, Bool, false, All}
use Rattle.std.specs.Prelude.{Contains, IsTrue}
use Rattle.std.specs.Prelude.{get_or, length, map}
use Rattle.std.specs.List.Sorted.{IsStrictlySortedBy}
use Rattle.std.specs.Ordering.{nat_cmp}
use Rattle.staat_vec.specs.Lists.{Lists}
use Rattle.staat_model.specs.declared.set.PartSet.{PartSet}
use Rattle.staat_model.specs.SetLists.{set_of, union_of}
use Rattle.staat_model.specs.Sets.{Has}

-- what is marked in the row has no label above this one
abbrev pub LeadsBack : List Bool → List ℕ → ℕ → Type 0
LeadsBack row labels own = (j : ℕ) → j < length labels → IsTrue (get_or row j false) → get_or labels j 0 ≤ own

-- what is marked in a row has no label above that of the row
abbrev pub KeepsOrder : List (List Bool) → List ℕ → Type 0
KeepsOrder rows labels = (i : ℕ) → i < length labels → LeadsBack (get_or rows i []) labels (get_or labels i 0)

-- p is one of the first n parts of w, at a place that has the label k
pub record HasLabel (w labels : List ℕ) (n k p : ℕ) : Type 0 where
  pub i : ℕ
  pub before : i < n
  pub part : get_or w i 0 ≡ p
  pub label : get_or labels i 0 ≡ k

-- p is a part of w at a place that has a label below n
pub record HasLabelBelow (w labels : List ℕ) (n p : ℕ) : Type 0 where
  pub k : ℕ
  pub below : k < n
  pub has : HasLabel w labels (length w) k p

-- p and q are parts of w at places of which the first has the lesser label
pub record Precedes (w labels : List ℕ) (p q : ℕ) : Type 0 where
  pub k : ℕ
  pub l : ℕ
  pub less : k < l
  pub first : HasLabel w labels (length w) k p
  pub second : HasLabel w labels (length w) l q

-- the relation holds of each set and each later one
abbrev pub HoldsOfLater : (PartSet → PartSet → Type 0) → List PartSet → Type 0
HoldsOfLater R [] = Unit {0}
HoldsOfLater R (s ∷ rest) = ((t : PartSet) → Contains rest t → R s t) × HoldsOfLater R rest

-- each member of s precedes each of t
abbrev pub AllPrecede : List ℕ → List ℕ → PartSet → PartSet → Type 0
AllPrecede w labels s t = (p q : ℕ) → Has s p → Has t q → Precedes w labels p q

-- at least one number, ascending
pub record IsPartList (s : List ℕ) : Type 0 where
  pub nonempty : 1 ≤ length s
  pub ascending : IsStrictlySortedBy nat_cmp s

-- s has exactly the parts of w with some label below n, and there are such
pub record IsClass (w labels : List ℕ) (n : ℕ) (s : List ℕ) : Type 0 where
  pub k : ℕ
  pub below : k < n
  pub nonempty : 1 ≤ length s
  pub lists : Lists nat_cmp (HasLabel w labels (length w) k) s

-- the parts of w that have a label below n, those with the same label together, in order of the labels
pub record AreClasses (w labels : List ℕ) (n : ℕ) (sets : List (List ℕ)) : Type 0 where
  pub each : All (IsClass w labels n) sets
  pub members : (p : ℕ) → Has (union_of (map set_of sets)) p ↔ HasLabelBelow w labels n p
  pub order : HoldsOfLater (AllPrecede w labels) (map set_of sets)
