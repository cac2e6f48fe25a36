-- What the arrays stand for: for each circle the list of its vertices, for each vertex the list of its entries.
use Rattle.std.specs.Prelude.{◌≡◌, ℕ, ◌<◌, List, [], ◌∷◌, length, slice_index, Bool, true, false, Contains, All}
use Rattle.staat_ring.specs.Links.{Apart, Links, IsLinkedRing, Distinct, Arrays, InRange}

abbrev pub is_empty : List ℕ → Bool
is_empty [] = true
is_empty (x ∷ xs) = false

-- The vertex of each entry and the circle of each vertex never change. A node of a ring and its head have the ring's
-- tag.
abbrev pub Tagged : (ℕ → ℕ) → ℕ → List ℕ → Type 0
Tagged tag t [] = Unit {0}
Tagged tag t (x ∷ xs) = (tag x ≡ t) × Tagged tag t xs

-- one ring of a family: its nodes are distinct, have its tag, and have links within the arrays
pub record IsRing (s : Links) (tag : ℕ → ℕ) (h : ℕ) (xs : List ℕ) : Type 0 where
  pub ring : IsLinkedRing s h xs
  pub distinct : Distinct (h ∷ xs)
  pub tagged : Tagged tag (tag h) (h ∷ xs)

-- the head of each circle, the circle of each node of the circles' rings, and how many circles there are
pub record Shape : Type 0 where
  pub head : ℕ → ℕ
  pub circle : ℕ → ℕ
  pub count : ℕ

-- the ring of the head h within the links: its nodes are not the head, and fewer than there are words
pub record IsShortRing (s : Links) (h : ℕ) (xs : List ℕ) : Type 0 where
  pub ring : IsLinkedRing s h xs
  pub apart : Apart h xs
  pub short : length xs < length s.next
  pub within : All (λ x. x < length s.next) (h ∷ xs)

-- what the arrays stand for
pub record RingLists : Type 0 where
  pub vertices : ℕ → List ℕ
  pub entries : ℕ → List ℕ

abbrev pub home_of : Arrays → ℕ → ℕ
home_of a e = slice_index a.home e

-- P holds of each vertex on each of the circles below n
abbrev pub EachVertex : ℕ → RingLists → (ℕ → ℕ → Type 0) → Type 0
EachVertex n l P = (c v : ℕ) → c < n → Contains (l.vertices c) v → P c v

-- P holds of each entry at each vertex on each of the circles below n
abbrev pub EachEntry : ℕ → RingLists → (ℕ → ℕ → ℕ → Type 0) → Type 0
EachEntry n l P = (c v e : ℕ) → c < n → Contains (l.vertices c) v → Contains (l.entries v) e → P c v e

-- the circles of the shape, and the vertices on them, are linked in the order of the lists
pub record StandFor (g : Shape) (l : RingLists) (a : Arrays) : Type 0 where
  pub circles_in_range : InRange a.circles
  pub vertices_in_range : InRange a.vertices
  pub heads : (c : ℕ) → c < g.count → g.circle (g.head c) ≡ c
  pub circles : (c : ℕ) → c < g.count → IsRing a.circles g.circle (g.head c) (l.vertices c)
  -- the ring of each vertex on a circle is headed by the vertex itself
  pub owns : EachVertex g.count l (λ c v. home_of a v ≡ v)
  pub vertices : EachVertex g.count l (λ c v. IsRing a.vertices (home_of a) v (l.entries v))
  pub within : EachVertex g.count l (λ c v. v < length a.circles.next)
  pub entries_within : EachEntry g.count l (λ c v e. e < length a.vertices.next)

-- the entry stands at its vertex, and the vertex on a circle
pub record IsPresent (g : Shape) (l : RingLists) (a : Arrays) (e : ℕ) : Type 0 where
  pub circle : g.circle (home_of a e) < g.count
  pub vertex : Contains (l.vertices (g.circle (home_of a e))) (home_of a e)
  pub entry : Contains (l.entries (home_of a e)) e

abbrev pub AllPresent : Shape → RingLists → Arrays → List ℕ → Type 0
AllPresent g l a [] = Unit {0}
AllPresent g l a (e ∷ es) = IsPresent g l a e × AllPresent g l a es
