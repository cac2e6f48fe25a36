-- Pieces that meet on the way of a straight motion: collision of interiors during a translation (Wilson and Latombe,
-- 1994).
use Rattle.std.specs.Prelude.{◌≡◌, ℕ, ◌≤◌, List, [], ◌∷◌, length, sum, All}
use Rattle.staat_vec.specs.declared.vector.V3.{V3}
use Rattle.staat_vec.specs.Vectors.{origin, plus, times}

-- one number of at least 1 for each point
pub record AreWeights (weights : List ℕ) (points : List V3) : Type 0 where
  pub one_each : length weights ≡ length points
  pub positive : All (λ w. 1 ≤ w) weights

-- The sum of each weight times its point. Over the sum of the weights it is a point strictly inside the hull of
-- the points, and each such point with fractional coordinates is one of these.
abbrev pub mix : List ℕ → List V3 → V3
mix [] points = origin
mix (w ∷ weights) [] = origin
mix (w ∷ weights) (p ∷ points) = plus (times w p) (mix weights points)

-- at the time t over the sum of the weights, a point strictly inside p, moved along d, has come to one strictly inside
-- q
pub record MeetsAt (p q : List V3) (d : V3) (t : ℕ) : Type 0 where
  pub a : List ℕ
  pub b : List ℕ
  pub a_weights : AreWeights a p
  pub b_weights : AreWeights b q
  pub same_sum : sum a ≡ sum b
  pub same_place : plus (mix a p) (times t d) ≡ mix b q

-- p, moved along d while q rests, comes to share an inner point with q at some time from 0 on
pub record Meets (p q : List V3) (d : V3) : Type 0 where
  pub t : ℕ
  pub meeting : MeetsAt p q d t

-- p and q share an inner point where they are
abbrev pub Overlap : List V3 → List V3 → Type 0
Overlap p q = MeetsAt p q origin 0
