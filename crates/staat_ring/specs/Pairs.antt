-- Ordered pairs of pieces, while their positive facets are counted.
use Rattle.std.specs.Prelude.{◌≡◌, ℕ, ◌+◌, ◌<◌, ◌≤◌, List, length, Bool, not, nat_lt}
use Rattle.std.specs.Prelude.{◌==◌, ◌&&◌, slice_index, slice_index_or}
use Rattle.std.specs.List.{count_by}
use Rattle.staat_pairs.specs.declared.table.TheConstants.{SLOTS}
use Rattle.staat_ring.specs.BlockCounts.{part_pairs, parts_at}
use Rattle.staat_ring.specs.declared.pairs.PairCount.{PairCount}

-- a pair that does not block
abbrev pub no_pair : PairCount
no_pair = record { positive = 0; wanted = 1; parts = 0 }

abbrev pub pair_at : List PairCount → ℕ → PairCount
pair_at pairs q = slice_index_or pairs q no_pair

-- whether all facets of the pair are positive
abbrev pub is_full : PairCount → Bool
is_full p = not (nat_lt p.positive p.wanted)

-- whether it blocks, and is a pair of these parts
abbrev pub is_block : ℕ → PairCount → Bool
is_block x p = (p.parts == x) && is_full p

-- how many pairs of these parts block
abbrev pub blocks : ℕ → List PairCount → ℕ
blocks x pairs = count_by (is_block x) pairs

-- some pair of pieces of these parts blocks
abbrev pub HasFullPair : List PairCount → ℕ → ℕ → Type 0
HasFullPair pairs a b = 0 < blocks (parts_at a b) pairs

-- so many more of its facets are positive
abbrev pub gained : ℕ → PairCount → PairCount
gained n p = record { positive = p.positive + n; wanted = p.wanted; parts = p.parts }

-- the same pairs have positive facets alone
abbrev pub AreFullAlike : List PairCount → List PairCount → Type 0
AreFullAlike old new = (q : ℕ) → is_full (pair_at old q) ≡ is_full (pair_at new q)

-- how often the number stands in the list
abbrev pub occurs : ℕ → List ℕ → ℕ
occurs q qs = count_by (λ x. x == q) qs

-- the counts of blocking pairs are right
pub record CountBlocks (pairs : List PairCount) (counts : List ℕ) : Type 0 where
  pub few : length pairs ≤ SLOTS
  pub homes : (q : ℕ) → (pair_at pairs q).parts < part_pairs
  pub size : length counts ≡ part_pairs
  pub each : (x : ℕ) → x < part_pairs → slice_index counts x ≡ blocks x pairs

-- a pair of these parts with so many facets, none of them positive
abbrev pub fresh : ℕ → ℕ → PairCount
fresh wanted parts = record { positive = 0; wanted = wanted; parts = parts }
