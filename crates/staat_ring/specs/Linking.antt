-- The circles while they are linked, one after another.
use Rattle.std.specs.Prelude.{◌≡◌, ℕ, ◌<◌, ◌≤◌, List, [], length, map, All, Contains, slice_index}
use Rattle.staat_vec.specs.declared.vector.V3.{V3}
use Rattle.staat_ring.specs.declared.entry.Entry.{Entry}
use Rattle.staat_ring.specs.Builds.{ring_by, slot_at}
use Rattle.staat_ring.specs.Links.{Apart, Arrays, Distinct, Links, IsLinkedRing}
use Rattle.staat_ring.specs.Numbered.{HasEntry, circle_of_node, entry_count, entry_number, entry_numbers, head_number}
use Rattle.staat_ring.specs.Numbered.{ring_node_count, node_number, vertex_row, Row, all_of, row_at}
use Rattle.staat_ring.specs.Rings.{IsRingOf}
use Rattle.staat_ring.specs.RingViews.{numbers_below}

-- the words of y are the same
pub record IsSameAt (s t : Links) (y : ℕ) : Type 0 where
  pub next : slice_index t.next y ≡ slice_index s.next y
  pub prev : slice_index t.prev y ≡ slice_index s.prev y

-- the rows below m are linked, and the heads of the others stand alone
pub record AreLinked (s : Links) (rows : List Row) (m : ℕ) : Type 0 where
  pub linked : (k : ℕ) → k < m → k < length rows → IsLinkedRing s (row_at rows k).head (row_at rows k).nodes
  pub alone : (k : ℕ) → (k < m → ⊥) → k < length rows → IsLinkedRing s (row_at rows k).head []

-- the vertex v is the home of these entries now, and the words of others are the same
pub record AreHomedAt (old new : List ℕ) (v : ℕ) (entries : List ℕ) : Type 0 where
  pub size : length new ≡ length old
  pub here : All (λ x. slice_index new x ≡ v) entries
  pub others : (y : ℕ) → Apart y entries → slice_index new y ≡ slice_index old y

-- ---- one circle

-- P holds of each stop
abbrev pub EachStop : List (List Entry) → (List Entry → Type 0) → Type 0
EachStop stops P = (k : ℕ) → k < length stops → P (slot_at stops k)

-- the node of the stop is the home of its entries
abbrev pub IsHome : ℕ → ℕ → List ℕ → List Entry → Type 0
IsHome n c home stop = All (λ e. slice_index home (entry_number n c e) ≡ node_number n c stop) stop

-- each stop has an entry, the entries are of planes below n, and no entry stands twice
pub record CanBeLinked (n c : ℕ) (stops : List (List Entry)) : Type 0 where
  pub some : All HasEntry stops
  pub small : All (All (λ e. e.plane < n)) stops
  pub distinct : EachStop stops (λ stop. Distinct (entry_numbers n c stop))
  pub apart : (k m : ℕ) (e : Entry) → k < length stops → m < length stops → Contains (slot_at stops k) e
      → Contains (slot_at stops m) e → k ≡ m

-- the rings of the stops, one for each
abbrev pub rows_of : ℕ → ℕ → List (List Entry) → List Row
rows_of n c stops = map (vertex_row n c) stops

-- the stops below m are linked, and are the homes of their entries; no other words were written
pub record AreStopsLinked (n c : ℕ) (stops : List (List Entry)) (m : ℕ) (first s : Links) (old home : List ℕ)
    : Type 0 where
  pub linked : AreLinked s (rows_of n c stops) m
  pub size : length s.next ≡ length first.next
  pub others : (y : ℕ) → EachStop stops (λ stop. Apart y (all_of (vertex_row n c stop))) → IsSameAt first s y
  pub homed : (k : ℕ) → k < m → k < length stops → IsHome n c home (slot_at stops k)
  pub home_size : length home ≡ length old
  pub home_others : (y : ℕ) → EachStop stops (λ stop. Apart y (entry_numbers n c stop))
      → slice_index home y ≡ slice_index old y
  pub home_within : All (λ x. x < length old) home

-- the circle c stands in the arrays with these stops
pub record HoldsCircle (n : ℕ) (a : Arrays) (c : ℕ) (stops : List (List Entry)) : Type 0 where
  pub circle : IsLinkedRing a.circles (head_number n c) (map (node_number n c) stops)
  pub vertices : EachStop stops (λ stop. IsLinkedRing a.vertices (node_number n c stop) (entry_numbers n c stop))
  pub homes : EachStop stops (IsHome n c a.home)

-- x is a ring of its own, on both levels
pub record IsAlone (a : Arrays) (x : ℕ) : Type 0 where
  pub circles : IsLinkedRing a.circles x []
  pub vertices : IsLinkedRing a.vertices x []

-- the words of x are the same
pub record IsKeptAt (a b : Arrays) (x : ℕ) : Type 0 where
  pub circles : IsSameAt a.circles b.circles x
  pub vertices : IsSameAt a.vertices b.vertices x
  pub home : slice_index b.home x ≡ slice_index a.home x

-- ---- all circles

-- the circle c of these n planes stands in the arrays
pub record HasCircle (planes : List V3) (n : ℕ) (a : Arrays) (c : ℕ) : Type 0 where
  pub stops : List (List Entry)
  pub ring : IsRingOf planes (numbers_below n) (ring_by c stops)
  pub holds : HoldsCircle n a c stops

-- arrays for n planes
pub record AreSized (n : ℕ) (a : Arrays) : Type 0 where
  pub home : length a.home ≡ ring_node_count n
  pub circles : length a.circles.next ≡ ring_node_count n
  pub vertices : length a.vertices.next ≡ ring_node_count n

-- the circles below d stand in the arrays, and the nodes of the others stand alone
pub record AreLinkedBelow (planes : List V3) (n d : ℕ) (a : Arrays) : Type 0 where
  pub sizes : AreSized n a
  pub circles : (c : ℕ) → c < d → HasCircle planes n a c
  pub alone : (x : ℕ) → x < ring_node_count n → (circle_of_node n x < d → ⊥) → IsAlone a x
  pub own : (x : ℕ) → entry_count n ≤ x → x < ring_node_count n → slice_index a.home x ≡ x
