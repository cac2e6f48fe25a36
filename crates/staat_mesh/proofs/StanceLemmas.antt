-- A face's stance, by the plane that three of its corners give.
use Rattle.std.proofs.Common.{◌≡◌, ◌≢◌, List, All, Any, ◌⊎◌, inl, inr, refl, ap, sym, subst, ◌∙◌}
use Rattle.std.proofs.lemmas.List.Elements.{All-weaker}
use Rattle.staat_vec.specs.declared.vector.V3.{V3}
use Rattle.staat_vec.specs.declared.vector.Sign.{Sign}
use Rattle.staat_vec.specs.declared.vector.Sign.TheVariants.{Neg, Zero, Pos}
use Rattle.staat_vec.specs.Vectors.{minus, dot, cross, sign}
use Rattle.staat_model.proofs.Flat.{off_plane as four_apart}
use Rattle.staat_mesh.specs.declared.plane.Plane.{Plane}
use Rattle.staat_mesh.specs.Planes.{IsSpanned, side_of}
use Rattle.staat_mesh.specs.Sides.{IsBadFace, IsSupporting, IsCut, LiesInPlane, side, off_plane}
use Rattle.staat_vec.proofs.VectorLaws.{det_dot}

side-side_of : (plane : Plane) (b c p : V3) → plane.normal ≡ cross (minus b plane.through) (minus c plane.through) → side plane.through b c p ≡ side_of plane p
side-side_of plane b c p e =
    ap sign (det_dot (minus b plane.through) (minus c plane.through) (minus p plane.through) ∙ ap (λ n. dot n (minus p plane.through)) (sym e))

on_sides : (P : Sign → Type 0) (ps : List V3) (plane : Plane) (polygon : List V3) (s : IsSpanned polygon plane) → All (λ p. P (side_of plane p)) ps → All (λ p. P (side plane.through s.b s.c p)) ps
on_sides P ps plane polygon s all =
    All-weaker (λ p. P (side_of plane p)) (λ p. P (side plane.through s.b s.c p)) (λ p h. subst P (sym (side-side_of plane s.b s.c p s.normal)) h) ps all

-- a corner off the plane
pub bad : (polygon : List V3) (plane : Plane) → IsSpanned polygon plane → Any (λ p. side_of plane p ≢ Zero) polygon → IsBadFace polygon
bad polygon plane s off =
    off_plane (four_apart plane.through s.b s.c off.1 (minus s.b plane.through) plane.normal polygon s.a_in s.b_in s.c_in (off.0, off.2, off.3) refl s.normal (λ e. off.4 (ap sign e)))

plane_of : (polygon : List V3) (plane : Plane) (s : IsSpanned polygon plane) → All (λ p. side_of plane p ≡ Zero) polygon → LiesInPlane polygon plane.through s.b s.c
plane_of polygon plane s all = record {
  a_in = s.a_in;
  b_in = s.b_in;
  c_in = s.c_in;
  apart = λ e. s.apart (s.normal ∙ e);
  flat = on_sides (λ z. z ≡ Zero) polygon plane polygon s all;
}

-- points on both sides
pub cut : (points polygon : List V3) (plane : Plane) → IsSpanned polygon plane → All (λ p. side_of plane p ≡ Zero) polygon → Any (λ p. side_of plane p ≡ Pos) points → Any (λ p. side_of plane p ≡ Neg) points → IsCut points polygon
cut points polygon plane s all above below = record {
  a = plane.through;
  b = s.b;
  c = s.c;
  plane = plane_of polygon plane s all;
  ahead = above.1;
  behind = below.1;
  ahead_in = (above.0, above.2, above.3);
  behind_in = (below.0, below.2, below.3);
  ahead_side = side-side_of plane s.b s.c above.1 s.normal ∙ above.4;
  behind_side = side-side_of plane s.b s.c below.1 s.normal ∙ below.4;
}

-- no points on one side
pub border : (points polygon : List V3) (plane : Plane) → IsSpanned polygon plane → All (λ p. side_of plane p ≡ Zero) polygon → (All (λ p. side_of plane p ≢ Pos) points) ⊎ (All (λ p. side_of plane p ≢ Neg) points) → IsSupporting points polygon
border points polygon plane s all free = record {
  a = plane.through;
  b = s.b;
  c = s.c;
  plane = plane_of polygon plane s all;
  one_side = elim free [
    | inl none ↦ inl (on_sides (λ z. z ≢ Pos) points plane polygon s none)
    | inr none ↦ inr (on_sides (λ z. z ≢ Neg) points plane polygon s none)
  ];
}
