-- The arrangement that the arrays show, when they stand for one, and the invariant of the rings.
use Rattle.std.specs.Prelude.{ℕ, zero, suc, ◌+◌, List, [], ◌∷◌, ◌++◌, ◌==◌, if◌then◌else◌, length, slice_index}
use Rattle.std.specs.Prelude.{◌≡◌, ◌<◌, ◌≤◌, map, take, drop, Bool, false, not, ◌||◌, Contains, slice_index_or}
use Rattle.staat_ring.specs.Numbered.{entry_of_plane, circle_of_node, entry_number, entry_numbered, head_number}
use Rattle.staat_ring.specs.Numbered.{plane_of, ring_node_count}
use Rattle.staat_ring.specs.Links.{Links, Arrays, give_all}
use Rattle.staat_ring.specs.Rings.{UnlinkedPlane, Arrangement, Ring}
use Rattle.staat_ring.specs.Stands.{Shape, RingLists, AllPresent, EachEntry, EachVertex, StandFor, is_empty}
use Rattle.std.specs.List.{filter, range_with_len}
use Rattle.staat_limits.specs.declared.limits.TheConstants.{MOST_PLANES}

-- the two entries of plane p on circle c, of n circles
abbrev pub entries_on : ℕ → ℕ → ℕ → List ℕ
entries_on n p c = if c == p then [] else entry_of_plane n c p ∷ (entry_of_plane n c p + 1) ∷ []

-- those on the circles below c
abbrev pub entries_of : ℕ → ℕ → ℕ → List ℕ
entries_of n p zero = []
entries_of n p (suc c) = entries_of n p c ++ entries_on n p c

-- ---- the lists as the arrays give them, and the planes that are unlinked, each with what stood before

-- the nodes from x on until the head comes, at most so many
abbrev pub nodes_from : ℕ → List ℕ → ℕ → ℕ → List ℕ
nodes_from zero next head x = []
nodes_from (suc n) next head x = if x == head then [] else x ∷ nodes_from n next head (slice_index next x)

-- the ring of a head
abbrev pub ring_nodes : Links → ℕ → List ℕ
ring_nodes s head = nodes_from (length s.next) s.next head (slice_index s.next head)

-- what the arrays give
abbrev pub lists_of : Shape → Arrays → RingLists
lists_of g a = record { vertices = λ c. ring_nodes a.circles (g.head c); entries = ring_nodes a.vertices }

-- undoing the planes, the last first
abbrev pub undo_all : {A : Type 0} → (ℕ → A → A) → List ℕ → A → A
undo_all undo [] a = a
undo_all undo (p ∷ ps) a = undo p (undo_all undo ps a)

-- the unlinked planes in the order of their unlinking; done are those before
abbrev pub unlinked_planes : {A R : Type 0} → (ℕ → A → A) → (List ℕ → A → R) → List ℕ → List ℕ
    → A → List (UnlinkedPlane R)
unlinked_planes undo rings done [] a = []
unlinked_planes undo rings done (p ∷ ps) a =
    (record { plane = p; before = rings done (undo p (undo_all undo ps a)) })
    ∷ unlinked_planes undo rings (done ++ p ∷ []) ps a

-- ---- the arrangement that the arrays show, and when they stand for one

-- the heads and the circles of the numbers for n planes
abbrev pub shape : ℕ → Shape
shape n = record { head = head_number n; circle = circle_of_node n; count = n }

abbrev pub is_out : List ℕ → ℕ → Bool
is_out [] p = false
is_out (q ∷ qs) p = (q == p) || is_out qs p

abbrev pub numbers_below : ℕ → List ℕ
numbers_below n = range_with_len 0 n

-- the planes that are not out
abbrev pub still_linked : ℕ → List ℕ → List ℕ
still_linked n out = filter (λ c. not (is_out out c)) (numbers_below n)

abbrev pub ring_of : ℕ → RingLists → ℕ → Ring
ring_of n l c = record {
  plane = c;
  stops = map (λ v. record { node = v; entries = map (entry_numbered n) (l.entries v) }) (l.vertices c);
}

abbrev pub rings_of : ℕ → List ℕ → RingLists → List Ring
rings_of n out l = map (ring_of n l) (still_linked n out)

-- the arrays before the plane p was taken out
abbrev pub undo : ℕ → ℕ → Arrays → Arrays
undo n p a = give_all (entries_of n p n) a

abbrev pub rings_at : ℕ → List ℕ → Arrays → List Ring
rings_at n out a = rings_of n out (lists_of (shape n) a)

-- what the arrays show, where these planes are out, in the order of their unlinking
abbrev pub arrangement_of : ℕ → List ℕ → Arrays → Arrangement
arrangement_of n out a = record {
  rings = rings_at n out a;
  unlinked = unlinked_planes (undo n) (rings_at n) [] out a;
}

-- arrays that stand for these lists, where these planes are out
pub record StandForLists (n : ℕ) (out : List ℕ) (l : RingLists) (a : Arrays) : Type 0 where
  pub stands : StandFor (shape n) l a
  pub full : EachVertex n l (λ c v. is_empty (l.entries v) ≡ false)
  pub short_circles : (c : ℕ) → c < n → length (l.vertices c) < length a.circles.next
  pub short_vertices : EachVertex n l (λ c v. length (l.entries v) < length a.vertices.next)
  pub present : (p : ℕ) → p < n → is_out out p ≡ false → AllPresent (shape n) l a (entries_of n p n)
  pub known : EachEntry n l (λ c v e. Contains (entries_of n (plane_of n e) n) e)
  -- an entry has the number of its plane and its sense on the circle on which it stands
  pub numbered : EachEntry n l (λ c v e. entry_number n c (entry_numbered n e) ≡ e)

-- they stand for the lists that they give
abbrev pub StandForCircles : ℕ → List ℕ → Arrays → Type 0
StandForCircles n out a = StandForLists n out (lists_of (shape n) a) a

-- undoing the unlinked planes in reverse order gives arrays that stand for lists, at each of them
abbrev pub CanBeUndone : ℕ → List ℕ → Arrays → Type 0
CanBeUndone n out a =
    (k : ℕ) → k ≤ length out → StandForCircles n (take k out) (undo_all (undo n) (drop k out) a)

-- ---- the invariant of the rings

-- arrays of n planes, of which the first ones of the order were taken out
pub record HaveTakenOut (n count : ℕ) (order : List ℕ) (a : Arrays) : Type 0 where
  pub few : n ≤ MOST_PLANES
  pub room : length a.home ≡ ring_node_count n
  pub size : length order ≡ n
  pub most : count ≤ n
  -- each plane that was taken out was linked until then
  pub all : (k : ℕ) → k ≤ count → k + length (still_linked n (take k order)) ≡ n
  pub planes : (k : ℕ) → k < count → slice_index order k < n
  pub sound : CanBeUndone n (take count order) a

-- a flag for each of n planes: whether it is linked
pub record AreFlags (n : ℕ) (out : List ℕ) (flags : List Bool) : Type 0 where
  pub size : length flags ≡ n
  pub each : (p : ℕ) → p < n → slice_index_or flags p false ≡ not (is_out out p)

-- what rings keep
pub record AreFlagged (n count : ℕ) (order : List ℕ) (linked : List Bool) (a : Arrays) : Type 0 where
  pub arrays : HaveTakenOut n count order a
  pub flags : AreFlags n (take count order) linked
