-- How far the points of a piece reach along a normal.
use Rattle.std.specs.Prelude.{◌≡◌, ℤ, ◌≤ℤ◌, List, ◌++◌, All, Contains}
use Rattle.staat_vec.specs.declared.vector.V3.{V3}
use Rattle.staat_vec.specs.Vectors.{dot}
use Rattle.staat_motion.specs.declared.spans.Span.{Span}

-- one of the points lies so far along n
pub record IsReachOf (n : V3) (points : List V3) (place : ℤ) : Type 0 where
  pub point : V3
  pub member : Contains points point
  pub is : place ≡ dot n point

-- the least and the greatest place of the points along n
pub record IsSpan (n : V3) (points : List V3) (span : Span) : Type 0 where
  pub low_in : IsReachOf n points span.low
  pub high_in : IsReachOf n points span.high
  pub least : All (λ p. span.low ≤ℤ dot n p) points
  pub greatest : All (λ p. dot n p ≤ℤ span.high) points

-- of the spans of any two lists of points along a normal the result is that of both together
abbrev pub IsJoinedSpan : Span → Span → Span → Type 0
IsJoinedSpan s t result =
    (n : V3) (ps qs : List V3) → IsSpan n ps s → IsSpan n qs t → IsSpan n (ps ++ qs) result
