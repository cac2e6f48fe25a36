-- Pieces that touch, and pieces of which one collides with the other as soon as it moves.
use Rattle.std.specs.Prelude.{◌≡◌, ℕ, ◌*◌, ◌≤◌, List, [], ◌∷◌, length, sum}
use Rattle.staat_vec.specs.declared.vector.V3.{V3}
use Rattle.staat_vec.specs.Vectors.{origin, plus}
use Rattle.staat_model.specs.Meeting.{MeetsAt, mix}

-- p and q have a point in common, be it inside or on the border: a weighted mean of the points of p, with weights of
-- at least 0, is one of those of q
pub record Contact (p q : List V3) : Type 0 where
  pub a : List ℕ
  pub b : List ℕ
  pub a_each : length a ≡ length p
  pub b_each : length b ≡ length q
  pub some : 1 ≤ sum a
  pub same_sum : sum a ≡ sum b
  pub same_place : mix a p ≡ mix b q

-- p, moved along d while q rests, shares an inner point with q at some time of at most 1/k
pub record MeetsWithin (p q : List V3) (d : V3) (k : ℕ) : Type 0 where
  pub t : ℕ
  pub meeting : MeetsAt p q d t
  pub soon : k * t ≤ sum meeting.a

-- it does so at arbitrarily small times: as soon as p begins to move
abbrev pub Starts : List V3 → List V3 → V3 → Type 0
Starts p q d = (k : ℕ) → 1 ≤ k → MeetsWithin p q d k

-- the sum of vectors
abbrev pub total : List V3 → V3
total [] = origin
total (v ∷ vs) = plus v (total vs)
