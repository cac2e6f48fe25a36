-- Rings as rows of numbers, and the numbers of nodes, for n planes. First come the entries, two for each plane on each
-- circle. A stop is numbered by its first entry, beyond all entries.
use Rattle.std.specs.Prelude.{ℕ, List, [], ◌∷◌, slice_index_or, ◌+◌, ◌*◌, ◌/◌, ◌%◌, ◌<◌, ◌==◌, length, map}
use Rattle.std.specs.Prelude.{if◌then◌else◌}
use Rattle.staat_ring.specs.declared.entry.Entry.{Entry}

-- a ring by its head and its nodes
pub record Row : Type 0 where
  pub head : ℕ
  pub nodes : List ℕ

abbrev pub no_row : Row
no_row = record { head = 0; nodes = [] }

abbrev pub row_at : List Row → ℕ → Row
row_at rows k = slice_index_or rows k no_row

abbrev pub all_of : Row → List ℕ
all_of r = r.head ∷ r.nodes

-- ---- the numbers

-- the first of the two entries of the plane p on the circle c; the other one, which is turned, follows it
abbrev pub entry_of_plane : ℕ → ℕ → ℕ → ℕ
entry_of_plane n c p = 2 * (c * n + p)

abbrev pub entry_number : ℕ → ℕ → Entry → ℕ
entry_number n c e = entry_of_plane n c e.plane + (if e.turned then 1 else 0)

-- the head of the circle c: the number that an entry of c itself would have
abbrev pub head_number : ℕ → ℕ → ℕ
head_number n c = entry_of_plane n c c

-- how many numbers are for entries
abbrev pub entry_count : ℕ → ℕ
entry_count n = 2 * (n * n)

-- the numbers of the entries of a stop, and its own
abbrev pub entry_numbers : ℕ → ℕ → List Entry → List ℕ
entry_numbers n c es = map (entry_number n c) es

abbrev pub node_number : ℕ → ℕ → List Entry → ℕ
node_number n c [] = 0
node_number n c (e ∷ es) = entry_count n + entry_number n c e

-- how many numbers there are: as many again for stops
abbrev pub ring_node_count : ℕ → ℕ
ring_node_count n = 4 * (n * n)

-- ---- what a number stands for

-- the circle of a head, of an entry and of a stop
abbrev pub circle_of_node : ℕ → ℕ → ℕ
circle_of_node n x = x % entry_count n / 2 / n

abbrev pub plane_of : ℕ → ℕ → ℕ
plane_of n e = e / 2 % n

-- the entry of a number, whichever circle it is on
abbrev pub entry_numbered : ℕ → ℕ → Entry
entry_numbered n e = record { plane = plane_of n e; turned = e % 2 == 1 }

-- ---- the nodes of a circle

abbrev pub HasEntry : List Entry → Type 0
HasEntry es = 0 < length es

-- the ring of a stop
abbrev pub vertex_row : ℕ → ℕ → List Entry → Row
vertex_row n c es = record { head = node_number n c es; nodes = entry_numbers n c es }
