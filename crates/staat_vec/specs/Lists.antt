-- Words on lists and on orders: the first, the least, and the ascending list of what has a property.
use Rattle.std.specs.Prelude.{◌≡◌, ◌⊎◌, ℕ, ◌<◌, List, [], ◌∷◌, Contains, Some, slice_get}
use Rattle.std.specs.List.Sorted.{IsStrictlySortedBy}
use Rattle.std.specs.declared.cmp.Ordering.{Ordering}
use Rattle.std.specs.declared.cmp.Ordering.TheVariants.{Less}

-- x is the first element that has P
abbrev pub IsFirst : {X : Type 0} → (X → Type 0) → List X → X → Type 0
IsFirst P [] x = ⊥
IsFirst P (y ∷ ys) x = ((x ≡ y) × P y) ⊎ ((P y → ⊥) × IsFirst P ys x)

-- the element at place k breaks the rule P, and each one before it keeps it
pub record FailsFirst {X : Type 0} (P : X → Type 0) (xs : List X) (k : ℕ) : Type 0 where
  pub x : X
  pub at : slice_get xs k ≡ Some x
  pub fails : P x → ⊥
  pub before : (m : ℕ) (y : X) → m < k → slice_get xs m ≡ Some y → P y

-- x has P, and whatever else has P comes after x
pub record IsLeast {X : Type 0} (cmp : X → X → Ordering) (P : X → Type 0) (x : X) : Type 0 where
  pub has : P x
  pub least : (y : X) → P y → (y ≡ x) ⊎ (cmp x y ≡ Less)

-- xs lists exactly what has P, ascending
pub record Lists {X : Type 0} (cmp : X → X → Ordering) (P : X → Type 0) (xs : List X) : Type 0 where
  pub ascending : IsStrictlySortedBy cmp xs
  pub each : (x : X) → Contains xs x → P x
  pub all : (x : X) → P x → Contains xs x

-- xs lists exactly what has P, each once
pub record ListsOnce {X : Type 0} (P : X → Type 0) (xs : List X) : Type 0 where
  pub each : (x : X) → Contains xs x → P x
  pub all : (x : X) → P x → Contains xs x
  pub once : (k m : ℕ) (x : X) → slice_get xs k ≡ Some x → slice_get xs m ≡ Some x → k ≡ m
