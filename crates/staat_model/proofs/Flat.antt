-- Points on one plane, on one line or at one place are not solid.
use Rattle.std.proofs.Common.{◌≡◌, ◌≢◌, ◌↔◌, Bool, IsTrue, Option, None, Some, MatchOption, is_some, pos, neg_ℤ, List, [], ◌∷◌, All, Contains, ap, sym, ◌∙◌, arith}
use Rattle.std.proofs.lemmas.Int.{ints}
use Rattle.std.proofs.lemmas.List.Elements.{All-contains, All-weaker}
use Rattle.staat_vec.specs.declared.vector.V3.{V3}
use Rattle.staat_vec.specs.Vectors.{vector, origin, minus, dot, cross}
use Rattle.staat_model.specs.Pieces.{IsSolid}
use Rattle.staat_vec.proofs.Ring.{at, num, opp, ring, from_zero}
use Rattle.staat_vec.proofs.VecRing.{same_vector, values, vectorE, dotE, crossE, v0, v1}
use Rattle.staat_model.proofs.Differences.{level_solid}
use Rattle.staat_model.proofs.WallLaws.{dot-minus}
use Rattle.staat_vec.proofs.VectorLaws.{det_dot}

-- a normal of a plane that solid points share is zero
shared_plane : (n a : V3) (ps : List V3) → All (λ p. dot n (minus p a) ≡ pos 0) ps → IsSolid ps → n ≡ origin
shared_plane n a ps all solid =
    level_solid n (dot n a) ps solid (λ p k. omega (arith, ints, dot-minus n p a, All-contains (λ q. dot n (minus q a) ≡ pos 0) ps p all k))

pub on_plane : (n a : V3) (ps : List V3) → n ≢ origin → All (λ p. dot n (minus p a) ≡ pos 0) ps → IsSolid ps → ⊥
on_plane n a ps ne all solid = ne (shared_plane n a ps all solid)

dot-across : (u w : V3) → cross u w ≡ origin → dot (vector (pos 0) u.z (neg_ℤ u.y)) w ≡ pos 0
dot-across u w e = ring (values (u ∷ w ∷ []) []) (dotE (vectorE (num (pos 0)) (at 2) (opp (at 1))) v1) (opp (crossE v0 v1).x) tt ∙ ap (λ (v : V3). neg_ℤ v.x) e

dot-along : (u w : V3) → cross u w ≡ origin → dot (vector u.z (pos 0) (neg_ℤ u.x)) w ≡ pos 0
dot-along u w e = ring (values (u ∷ w ∷ []) []) (dotE (vectorE (at 2) (num (pos 0)) (opp (at 0))) v1) (crossE v0 v1).y tt ∙ ap (λ (v : V3). v.y) e

pub on_line : (u a : V3) (ps : List V3) → u ≢ origin → All (λ p. cross u (minus p a) ≡ origin) ps → IsSolid ps → ⊥
on_line u a ps ne all solid =
    let n = vector (pos 0) u.z (neg_ℤ u.y) in
    let m = vector u.z (pos 0) (neg_ℤ u.x) in
    let en = shared_plane n a ps (All-weaker (λ p. cross u (minus p a) ≡ origin) (λ p. dot n (minus p a) ≡ pos 0) (λ p. dot-across u (minus p a)) ps all) solid in
    let em = shared_plane m a ps (All-weaker (λ p. cross u (minus p a) ≡ origin) (λ p. dot m (minus p a) ≡ pos 0) (λ p. dot-along u (minus p a)) ps all) solid in
    let x : u.x ≡ pos 0 = omega (arith, ints, ap (λ (v : V3). v.z) em) in
    let y : u.y ≡ pos 0 = omega (arith, ints, ap (λ (v : V3). v.z) en) in
    let z : u.z ≡ pos 0 = ap (λ (v : V3). v.x) em in
    ne (same_vector u origin x y z)

pub at_place : (a : V3) (ps : List V3) → All (λ p. p ≡ a) ps → IsSolid ps → ⊥
at_place a ps all solid =
    let u = vector (pos 1) (pos 0) (pos 0) in
    on_line u a ps (λ e. absurd (omega (arith, ints, ap (λ (v : V3). v.x) e)))
    (All-weaker (λ p. p ≡ a) (λ p. cross u (minus p a) ≡ origin) (λ p e. ap (λ q. cross u (minus q a)) e ∙ still a) ps all) solid
  where
    still : (a : V3) → cross (vector (pos 1) (pos 0) (pos 0)) (minus a a) ≡ origin
    still a = same_vector (cross (vector (pos 1) (pos 0) (pos 0)) (minus a a)) origin (omega (arith, ints)) (omega (arith, ints)) (omega (arith, ints))

-- four points, the last off the plane of the others
pub off_plane : (a b c e u n : V3) (ps : List V3) → Contains ps a → Contains ps b → Contains ps c → Contains ps e → u ≡ minus b a → n ≡ cross u (minus c a) → dot n (minus e a) ≢ pos 0 → IsSolid ps
off_plane a b c e u n ps ka kb kc ke eu en ne = record {
  a = a;
  b = b;
  c = c;
  e = e;
  a_in = ka;
  b_in = kb;
  c_in = kc;
  e_in = ke;
  apart = λ h. ne (ap (λ m. dot m (minus e a)) (en ∙ ap (λ v. cross v (minus c a)) eu) ∙ sym (det_dot (minus b a) (minus c a) (minus e a)) ∙ h);
}

-- a search for a last point decides whether the points are solid
pub decided : (r : Option V3) (b : Bool) (A S : Type 0) (B : V3 → Type 0) → b ≡ is_some r → MatchOption r A B → (A → S → ⊥) → ((e : V3) → B e → S) → IsTrue b ↔ S
decided None b A S B e found none some = (λ h. absurd (cc (e, h)), λ s. absurd (none found s))
decided (Some x) b A S B e found none some = (λ h. some x found, λ s. e)

pub apart : (a b u : V3) → u ≡ minus b a → b ≢ a → u ≢ origin
apart a b u e ne h =
    let o : minus b a ≡ origin = sym e ∙ h in
    ne (same_vector b a (from_zero b.x a.x (ap (λ (v : V3). v.x) o)) (from_zero b.y a.y (ap (λ (v : V3). v.y) o)) (from_zero b.z a.z (ap (λ (v : V3). v.z) o)))
