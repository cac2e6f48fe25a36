-- A plane between two pieces that a direction does not lead through, and pieces whose shadows lie apart.
use Rattle.std.proofs.Common.{◌≡◌, ◌≢◌, ap, sym, ◌∙◌, arith, ℤ, pos, ◌-ℤ◌, ◌≤ℤ◌, inl, inr, List, All, Contains}
use Rattle.std.proofs.lemmas.Int.{ints}
use Rattle.std.proofs.lemmas.List.Elements.{All-contains}
use Rattle.staat_vec.specs.declared.vector.V3.{V3}
use Rattle.staat_vec.specs.Vectors.{dot, minus, negative, origin}
use Rattle.staat_vec.proofs.VecRing.{negative_dot}
use Rattle.staat_vec.proofs.Canons.{negative-negative}
use Rattle.staat_model.specs.Meeting.{Meets}
use Rattle.staat_model.specs.Pieces.{IsSolid}
use Rattle.staat_model.specs.Planes.{axes}
use Rattle.staat_model.specs.Shadows.{HaveShadowsApart, IsBefore, IsParted}
use Rattle.staat_model.specs.Walls.{IsBeyond}
use Rattle.staat_model.proofs.Members.{All-from_members}
use Rattle.staat_model.proofs.Reversed.{beyond_turned}
use Rattle.staat_model.proofs.PlaneLemmas.{axis_normal}
use Rattle.staat_vec.proofs.Primitives.{IsPrimitive-some}
use Rattle.staat_model.proofs.WallLaws.{dot-minus, wall_keeps_apart}
use Rattle.staat_vec.proofs.Integers.{zero_nonpositive, zero_nonneg, opposite_nonpositive}

-- what comes before along n has the other beyond it
before_beyond : (n : V3) (p q : List V3) → IsBefore n p q → IsBeyond p q n
before_beyond n p q before =
    All-from_members (λ a. All (λ b. pos 0 ≤ℤ dot n (minus b a)) q) p (λ a a_in.
    let row = All-contains (λ a. All (λ b. dot n a ≤ℤ dot n b) q) p a before a_in in
    All-from_members (λ b. pos 0 ≤ℤ dot n (minus b a)) q (λ b b_in.
    let no_less = All-contains (λ b. dot n a ≤ℤ dot n b) q b row b_in in
    ahead (dot n a) (dot n b) (dot n (minus b a)) (dot-minus n b a) no_less))
  where
    ahead : (x y z : ℤ) → z ≡ y -ℤ x → x ≤ℤ y → pos 0 ≤ℤ z
    ahead x y z e h = omega (arith, ints)

pub wall_parts_lemma : (p q : List V3) (d n : V3) → IsSolid p → n ≢ origin → IsParted n p q d → Meets p q d → ⊥
wall_parts_lemma p q d n solid some (inl (before, away)) meets =
    wall_keeps_apart p q d n solid
    (record { wall = some; beyond = before_beyond n p q before; away = away })
    meets
wall_parts_lemma p q d n solid some (inr (after, towards)) meets =
    wall_keeps_apart p q d (negative n) solid
    (record {
      wall = λ e. some (sym (negative-negative n) ∙ ap negative e);
      beyond = beyond_turned q p n (before_beyond n q p after);
      away = opposite_nonpositive (dot (negative n) d) (dot n d) (negative_dot n d) towards;
    })
    meets

pub shadows_part_lemma : (p q : List V3) (d n : V3) → IsSolid p → n ≢ origin → HaveShadowsApart n p q d
    → Meets p q d → ⊥
shadows_part_lemma p q d n solid some are = wall_parts_lemma p q d n solid some (elim are.apart [
  | inl before ↦ inl (before, zero_nonpositive (dot n d) are.across)
  | inr after ↦ inr (after, zero_nonneg (dot n d) are.across)
])

pub boxes_part_lemma : (p q : List V3) (d axis : V3) → IsSolid p → Contains axes axis → IsParted axis p q d
    → Meets p q d → ⊥
boxes_part_lemma p q d axis solid is parted = wall_parts_lemma p q d axis solid (let n = axis_normal axis is in IsPrimitive-some axis n.primitive) parted
