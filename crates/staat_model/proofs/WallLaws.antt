-- A wall keeps two pieces apart.
use Rattle.std.proofs.Common.{◌≡◌, ◌≤◌, ◌-ℤ◌, List, [], ◌∷◌, ap, sum, arith}
use Rattle.std.proofs.lemmas.List.{nil_from_length}
use Rattle.staat_vec.specs.declared.vector.V3.{V3}
use Rattle.staat_vec.specs.Vectors.{minus, dot}
use Rattle.staat_model.specs.Cones.{differences}
use Rattle.staat_model.specs.Pieces.{IsSolid}
use Rattle.staat_model.specs.Meeting.{Meets}
use Rattle.staat_model.specs.Walls.{IsShown}
use Rattle.staat_vec.proofs.Ring.{◌⊖◌, ring}
use Rattle.staat_vec.proofs.VecRing.{values, dotE, minusE, v0, v1, v2}
use Rattle.staat_vec.proofs.Unique.{Contains-front}
use Rattle.staat_model.proofs.Differences.{differences_span_lemma}
use Rattle.staat_model.proofs.FarkasLemmas.{reached_is_ahead}
use Rattle.staat_model.proofs.PieceFacets.{beyond_is_above, differences_are}
use Rattle.staat_model.proofs.WeightLemmas.{reached_from_meets, some_sum}

pub dot-minus : (n q p : V3) → dot n (minus q p) ≡ dot n q -ℤ dot n p
dot-minus n q p = ring (values (n ∷ q ∷ p ∷ []) []) (dotE v0 (minusE v1 v2)) (dotE v0 v1 ⊖ dotE v0 v2) tt

-- what meets something has points to meet
none_met : (p : List V3) (d : V3) → IsSolid p → Meets p [] d → ⊥
none_met p d solid meets =
    let r = meets.meeting in
    let some : 1 ≤ sum r.a = some_sum r.a (omega (arith, solid.a_in.1, r.a_weights.one_each)) r.a_weights.positive in
    let none : sum r.b ≡ 0 = ap sum (nil_from_length r.b r.b_weights.one_each) in
    omega (arith, some, r.same_sum, none)

-- A wall keeps two pieces apart, whatever the time.
pub wall_keeps_apart : (p q : List V3) (d n : V3) → IsSolid p → IsShown p q d n → Meets p q d → ⊥
wall_keeps_apart p [] d n solid shown meets = none_met p d solid meets
wall_keeps_apart p (y ∷ q) d n solid shown meets =
    reached_is_ahead (differences p (y ∷ q)) d n (differences_span_lemma p (y ∷ q) y solid (Contains-front y q)) shown.wall
    (beyond_is_above p (y ∷ q) (differences p (y ∷ q)) n (differences_are p (y ∷ q)) shown.beyond) (reached_from_meets p (y ∷ q) d meets) shown.away
