-- What a search over directions finds: the first that serves.
use Rattle.std.specs.Prelude.{◌≡◌, ◌≢◌, ℕ, ◌*◌, ◌<◌, ◌≤◌}
use Rattle.std.specs.Prelude.{List, ◌++◌, All, Option, MatchOption, length, ⊤}
use Rattle.staat_vec.specs.declared.vector.V3.{V3}
use Rattle.staat_vec.specs.declared.vector.TheConstants.{DIRECTION}
use Rattle.staat_vec.specs.Lists.{IsFirst}
use Rattle.staat_vec.specs.Vectors.{IsWithin, negative, origin}
use Rattle.staat_model.specs.Planes.{vertices}
use Rattle.staat_core.specs.declared.search.TheConstants.{ALL_PAIRS}
use Rattle.staat_core.specs.declared.search.Search.{Search}
use Rattle.staat_core.specs.declared.search.Search.TheVariants.{First, Nothing, Undecided}
use Rattle.staat_core.specs.declared.search.Served.{Served}
use Rattle.staat_core.specs.declared.search.Tried.{Tried}
use Rattle.staat_core.specs.declared.search.Tried.TheVariants.{Neither, Ahead, Opposite}

-- ---- the first that serves

-- none of the directions serves
abbrev pub NoDirectionServes : (V3 → Type 0) → List V3 → Type 0
NoDirectionServes serves vs = All (λ v. serves v → ⊥) vs

-- the first of the directions that serves, with what is found there
pub record IsFirstServed {F : Type 0} (serves : V3 → Type 0) (finds : V3 → F → Type 0) (vs : List V3)
    (s : Served F) : Type 0 where
  pub first : IsFirst serves vs s.d
  pub found_is : finds s.d s.found

-- the same, or none where none of the directions serves
abbrev pub IsFirstIfAny : {F : Type 0} → (V3 → Type 0) → (V3 → F → Type 0) → List V3
    → Option (Served F) → Type 0
IsFirstIfAny serves finds vs result = MatchOption result (NoDirectionServes serves vs) (IsFirstServed serves finds vs)

-- the same of a search that may end undecided, and what is so then
abbrev pub IsFirstUnless : {F : Type 0} → (undecided : Type 0) → (V3 → Type 0) → (V3 → F → Type 0)
    → List V3 → Search F → Type 0
IsFirstUnless undecided serves finds vs (First s) = IsFirstServed serves finds vs s
IsFirstUnless undecided serves finds vs Nothing = NoDirectionServes serves vs
IsFirstUnless undecided serves finds vs Undecided = undecided

-- the same of a direction and its opposite
abbrev pub IsFirstOfTwo : {F : Type 0} → (V3 → Type 0) → (V3 → F → Type 0) → V3 → Tried F → Type 0
IsFirstOfTwo serves finds d Neither = (serves d → ⊥) × (serves (negative d) → ⊥)
IsFirstOfTwo serves finds d (Ahead f) = serves d × finds d f
IsFirstOfTwo serves finds d (Opposite f) = (serves d → ⊥) × serves (negative d) × finds (negative d) f

-- ---- what is left where a search gives up

-- these directions are left, and none of those before them serves
pub record ArePassed (serves : V3 → Type 0) (vs left : List V3) : Type 0 where
  pub before : List V3
  pub is : vs ≡ before ++ left
  pub none : NoDirectionServes serves before

-- and those before them are at least two for each of so many pairs of planes
pub record AreManyPassed (serves : V3 → Type 0) (vs left : List V3) (pairs : ℕ) : Type 0 where
  pub passed : ArePassed serves vs left
  pub many : 2 * pairs ≤ length passed.before

-- the planes have two vertices for each of so many pairs, which are fewer than a table may have
abbrev pub HasManyVertices : (pairs : ℕ) → List V3 → Type 0
HasManyVertices pairs planes = (2 * pairs ≤ length (vertices planes)) × (pairs < ALL_PAIRS)

-- ---- what is known of what is found, whatever serves

-- what is found has P, if anything is
abbrev pub IfFound : {F : Type 0} → Tried F → (F → Type 0) → Type 0
IfFound Neither P = ⊤
IfFound (Ahead f) P = P f
IfFound (Opposite f) P = P f

-- the first that serves has P, if there is one
abbrev pub IfFirst : {F : Type 0} → Search F → (Served F → Type 0) → Type 0
IfFirst (First s) P = P s
IfFirst Nothing P = ⊤
IfFirst Undecided P = ⊤

-- the direction is within the bound and not zero, and what is found there has P
pub record IsDirectionWith {F : Type 0} (P : F → Type 0) (s : Served F) : Type 0 where
  pub size : IsWithin DIRECTION s.d
  pub some : s.d ≢ origin
  pub among : P s.found
