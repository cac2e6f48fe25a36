-- The signs of planes, and how many facets of a pair of pieces are positive with them.
use Rattle.std.specs.Prelude.{◌≡◌, ℕ, ◌<◌, ◌≤◌, List, [], length, slice_index_or}
use Rattle.std.specs.List.{sum_by}
use Rattle.staat_vec.specs.declared.vector.Sign.{Sign}
use Rattle.staat_vec.specs.declared.vector.Sign.TheVariants.{Neg, Zero, Pos}
use Rattle.staat_ring.specs.BlockCounts.{parts_at}
use Rattle.staat_ring.specs.declared.pairs.PairCount.{PairCount}
use Rattle.staat_ring.specs.Pairs.{occurs, pair_at}

-- A plane: its sign, the pairs of which its normal is a facet, and those of which the negative is.
pub record PlaneState : Type 0 where
  pub sign : Sign
  pub along : List ℕ
  pub against : List ℕ

abbrev pub no_state : PlaneState
no_state = record { sign = Zero; along = []; against = [] }

abbrev pub state_at : List PlaneState → ℕ → PlaneState
state_at states k = slice_index_or states k no_state

-- the planes with their signs, and the pairs
pub record Signed : Type 0 where
  pub states : List PlaneState
  pub pairs : List PairCount

-- ---- the count of a pair

-- how often pair q stands at the plane k: by the normal, and by the negative
abbrev pub along_at : List PlaneState → ℕ → ℕ → ℕ
along_at states k q = occurs q (state_at states k).along

abbrev pub against_at : List PlaneState → ℕ → ℕ → ℕ
against_at states k q = occurs q (state_at states k).against

-- the pairs whose facet on the plane is positive at this sign
abbrev pub pairs_by : Sign → List ℕ → List ℕ → List ℕ
pairs_by Neg along against = against
pairs_by Zero along against = []
pairs_by Pos along against = along

abbrev pub positive_pairs : PlaneState → List ℕ
positive_pairs s = pairs_by s.sign s.along s.against

-- the count of pair q: how many of its facets are positive
abbrev pub positives : ℕ → List PlaneState → ℕ
positives q states = sum_by (λ s. occurs q (positive_pairs s)) states

-- pair q is one of these parts, and blocks: its count has come to the number of its facets
pub record IsBlockingPair (s : Signed) (x q : ℕ) : Type 0 where
  pub within : q < length s.pairs
  pub parts : (pair_at s.pairs q).parts ≡ x
  pub full : (pair_at s.pairs q).wanted ≤ positives q s.states

-- some pair of pieces of these parts blocks
abbrev pub HasBlockingPair : Signed → ℕ → ℕ → Type 0
HasBlockingPair s a b = (q : ℕ) × IsBlockingPair s (parts_at a b) q
