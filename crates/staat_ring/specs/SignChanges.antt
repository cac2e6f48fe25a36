-- What changes of signs, and how the counts are kept.
use Rattle.std.specs.Prelude.{◌≡◌, ℕ, ◌+◌, ◌<◌, List, [], ◌∷◌, ◌++◌, Bool, true, false, length, All, slice_set}
use Rattle.std.specs.List.{sum_by}
use Rattle.staat_vec.specs.declared.vector.Sign.{Sign}
use Rattle.staat_ring.specs.declared.pairs.PairCount.{PairCount}
use Rattle.staat_ring.specs.Pairs.{occurs, pair_at}
use Rattle.staat_ring.specs.CountedSigns.{PlaneState, Signed, positives, state_at}
use Rattle.staat_vec.specs.declared.vector.Sign.TheVariants.{Neg, Zero, Pos}
use Rattle.staat_ring.specs.declared.entry.Entry.{Entry}

-- the plane with another sign
abbrev pub with_sign : Sign → PlaneState → PlaneState
with_sign sign s = record { sign = sign; along = s.along; against = s.against }

-- the plane k is this one
abbrev pub with_state : ℕ → PlaneState → Signed → Signed
with_state k state s = record { states = slice_set s.states k state; pairs = s.pairs }

-- the plane k gets the sign
abbrev pub with_plane_sign : ℕ → Sign → Signed → Signed
with_plane_sign k sign s = with_state k (with_sign sign (state_at s.states k)) s

-- one more pair has the normal as a facet, or its negative
abbrev pub with_pair : Bool → ℕ → PlaneState → PlaneState
with_pair false q s = record { sign = s.sign; along = s.along ++ q ∷ []; against = s.against }
with_pair true q s = record { sign = s.sign; along = s.along; against = s.against ++ q ∷ [] }

-- one more facet of pair q lies on the plane k
abbrev pub with_plane_pair : ℕ → Bool → ℕ → Signed → Signed
with_plane_pair k turned q s = with_state k (with_pair turned q (state_at s.states k)) s

-- a pair of which no facet is positive
abbrev pub emptied : PairCount → PairCount
emptied p = record { positive = 0; wanted = p.wanted; parts = p.parts }

-- how many facets pair q has
abbrev pub uses : ℕ → List PlaneState → ℕ
uses q states = sum_by (λ s. occurs q s.along + occurs q s.against) states

-- the counts are those of the signs, and none can grow too great for its word
pub record AreSigned (states : List PlaneState) (pairs : List PairCount) : Type 0 where
  pub each : (q : ℕ) → (pair_at pairs q).positive ≡ positives q states
  pub few : (q : ℕ) → uses q states < 65536
  pub along : All (λ s. All (λ q. q < length pairs) s.along) states
  pub against : All (λ s. All (λ q. q < length pairs) s.against) states

-- ---- what a walk changes at a stop: the signs of the planes through it

-- The sign of a plane just after the stop, if the walk leaves it, and at it, if not. The walk leaves a plane's
-- crossing to the plane's negative side, and the opposite one to its positive side.
abbrev pub stop_sign : Bool → Bool → Sign
stop_sign false turned = Zero
stop_sign true false = Neg
stop_sign true true = Pos

-- all planes through the stop get their signs
abbrev pub with_stop_signs : Bool → List Entry → Signed → Signed
with_stop_signs leaves [] s = s
with_stop_signs leaves (e ∷ es) s = with_stop_signs leaves es (with_plane_sign e.plane (stop_sign leaves e.turned) s)
