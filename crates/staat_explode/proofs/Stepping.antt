-- The least number of steps that takes the moved parts past the resting ones.
use Rattle.std.proofs.Common.{◌≡◌, ◌≢◌, ℕ, zero, suc, ◌+◌, ◌*◌, ◌<◌, ◌≤◌, ℤ, pos}
use Rattle.std.proofs.Common.{negsuc, neg_ℤ, ◌+ℤ◌, ◌-ℤ◌, ◌*ℤ◌, ◌<ℤ◌, ◌≤ℤ◌, unsigned_abs, Bool}
use Rattle.std.proofs.Common.{true, false, List, ap, refl, arith, inl, inr}
use Rattle.std.specs.Prelude.{int_lt, if◌then◌else◌}
use Rattle.std.specs.Int.{div_ceil}
use Rattle.std.proofs.lemmas.Int.{ints}
use Rattle.std.proofs.lemmas.Grind.{div_ceil_times}
use Rattle.std.proofs.Math.Nat.{mul-le-mul_right}
use Rattle.staat_vec.specs.declared.vector.V3.{V3}
use Rattle.staat_vec.specs.Vectors.{origin, vector}
use Rattle.staat_explode.specs.declared.axis.Axis.{Axis}
use Rattle.staat_explode.specs.declared.axis.Axis.TheVariants.{X, Y, Z}
use Rattle.staat_explode.specs.declared.boxes.Bounds.{Bounds}
use Rattle.staat_explode.specs.declared.shifted.Shifted.{Shifted}
use Rattle.staat_explode.specs.Boxes.{component}
use Rattle.staat_explode.specs.Shifts.{ArePast, axis_of, axis_or_next, highest, lowest, rounds, steps_apart}

times_up : (m : ℕ) (z : ℤ) → pos 0 <ℤ z → pos m *ℤ z ≡ pos (m * unsigned_abs z)
times_up m (pos n) h = refl
times_up m (negsuc n) h = absurd (omega (arith, ints))

times_down : (m : ℕ) (z : ℤ) → z ≤ℤ pos 0 → pos m *ℤ z ≡ neg_ℤ (pos (m * unsigned_abs z))
times_down m (pos zero) h = omega (arith, ints)
times_down m (pos (suc n)) h = absurd (omega (arith, ints))
times_down m (negsuc n) h = omega (arith, ints)

size_some : (z : ℤ) → z ≢ pos 0 → 0 < unsigned_abs z
size_some (pos zero) h = absurd (h refl)
size_some (pos (suc n)) h = omega arith
size_some (negsuc n) h = omega arith

enough : (gap : ℤ) (step : ℕ) → 0 < step → gap ≤ℤ pos (rounds gap step * step)
enough (pos g) step some = let h = div_ceil_times g step some in omega (arith, ints, h.0)
enough (negsuc g) step some = omega (arith, ints)

fewest : (gap : ℤ) (step k : ℕ) → 0 < step → gap ≤ℤ pos (k * step) → rounds gap step ≤ k
fewest (negsuc g) step k some h = omega arith
fewest (pos g) step k some h = by_order (div_ceil g step) (div_ceil_times g step some).1
  where
    by_order : (r : ℕ) → r * step < g + step → r ≤ k
    by_order r lt =
        by_lt r k (λ more. let big : (k + 1) * step ≤ r * step =
        mul-le-mul_right step more in absurd (omega (arith, ints)))
      where
        by_lt : (a b : ℕ) → (b + 1 ≤ a → a ≤ b) → a ≤ b
        by_lt a b f = grind arith

pub axis_some : (d : V3) → d ≢ origin → component (axis_of d) d ≢ pos 0
axis_some d = go d.x d.y d.z
  where
    go : (x y z : ℤ) → vector x y z ≢ origin
        → component (axis_or_next x X (axis_or_next y Y Z)) (vector x y z) ≢ pos 0
    go (pos zero) (pos zero) z h e = h (ap (λ t. vector (pos 0) (pos 0) t) e)
    go (pos zero) (pos (suc n)) z h e = cc
    go (pos zero) (negsuc n) z h e = cc
    go (pos (suc n)) y z h e = cc
    go (negsuc n) y z h e = cc

module _ (boxes : List Bounds) (d : V3) (moved rest : List Shifted) (some : d ≢ origin) where
  abbrev axis : Axis
  axis = axis_of d

  abbrev step : ℤ
  step = component axis d

  abbrev size : ℕ
  size = unsigned_abs step

  abbrev gap : Bool → ℤ
  gap up =
      if up then (highest boxes axis rest +ℤ pos 1) -ℤ lowest boxes axis moved else (highest boxes axis moved +ℤ pos 1) -ℤ lowest boxes axis rest

  -- the steps are enough
  pub past : ArePast boxes d moved rest (steps_apart boxes d moved rest)
  unfolding steps_apart
  past = go (int_lt (pos 0) step) refl (size_some step (axis_some d some))
    where
      go : (b : Bool) → int_lt (pos 0) step ≡ b → 0 < size → ArePast boxes d moved rest (rounds (gap b) size)
      go true e far =
          let up : pos 0 <ℤ step = grind (arith, ints) in
          let most = enough (gap true) size far in
          inl (up, rw (times_up (rounds (gap true) size) step up) (omega (arith, ints)))
      go false e far =
          let low : step ≤ℤ pos 0 = grind (arith, ints) in
          let down : step <ℤ pos 0 = omega (arith, ints) in
          let most = enough (gap false) size far in
          inr (down, rw (times_down (rounds (gap false) size) step low) (omega (arith, ints)))

  -- and no fewer are
  pub least_past : (k : ℕ) → ArePast boxes d moved rest k → steps_apart boxes d moved rest ≤ k
  unfolding steps_apart
  least_past k h = go (int_lt (pos 0) step) refl (size_some step (axis_some d some)) h
    where
      go : (b : Bool) → int_lt (pos 0) step ≡ b → 0 < size → ArePast boxes d moved rest k → rounds (gap b) size ≤ k
      go true e far (inl a) =
          let product = times_up k step a.0 in
          let past_all = a.1 in
          fewest (gap true) size k far (omega (arith, ints))
      go true e far (inr a) = let wrong = a.0 in absurd (grind (arith, ints))
      go false e far (inl a) = let wrong = a.0 in absurd (grind (arith, ints))
      go false e far (inr a) =
          let down = a.0 in
          let product = times_down k step (omega (arith, ints)) in
          let past_all = a.1 in
          fewest (gap false) size k far (omega (arith, ints))

pub ruleset stepping = (past, least_past)
