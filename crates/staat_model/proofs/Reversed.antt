-- Two pieces in the other order, and the opposite direction.
use Rattle.std.proofs.Common.{◌≡◌, ◌↔◌, sym, ap, subst, ◌∙◌, pos, ◌≤ℤ◌, List, [], ◌∷◌, All}
use Rattle.std.proofs.lemmas.List.Elements.{All-contains}
use Rattle.staat_vec.specs.declared.vector.V3.{V3}
use Rattle.staat_vec.specs.Vectors.{dot, plus, minus, times, negative}
use Rattle.staat_vec.proofs.Ring.{at, ring}
use Rattle.staat_vec.proofs.VecRing.{dotE, crossE, plusE, minusE, negativeE, timesE, values, v0, v1, v2, ring3}
use Rattle.staat_vec.proofs.Primitives.{IsPrimitive-negative}
use Rattle.staat_vec.proofs.Canons.{negative-negative}
use Rattle.staat_model.specs.Meeting.{Meets, mix}
use Rattle.staat_model.specs.Walls.{IsBeyond}
use Rattle.staat_model.specs.Facets.{IsFacet, IsDifference}
use Rattle.staat_model.proofs.Members.{All-from_members}

-- seen from q, p comes from the other side
meets_turned : (p q : List V3) (d : V3) → Meets p q (negative d) → Meets q p d
meets_turned p q d m =
    let r = m.meeting in
    record {
      t = m.t;
      meeting = record {
        a = r.b;
        b = r.a;
        a_weights = r.b_weights;
        b_weights = r.a_weights;
        same_sum = sym r.same_sum;
        same_place = ap (λ z. plus z (times m.t d)) (sym r.same_place)
            ∙ ring3 (values (mix r.a p ∷ d ∷ []) (pos m.t ∷ [])) (plusE (plusE v0 (timesE (at 6) (negativeE v1))) (timesE (at 6) v1)) v0 (tt, tt, tt);
      };
    }

pub meets_opposite_lemma : (p q : List V3) (d : V3) → Meets p q (negative d) ↔ Meets q p d
meets_opposite_lemma p q d = (meets_turned p q d, λ m. meets_turned q p (negative d) (subst (Meets q p) (sym (negative-negative d)) m))

-- ---- facets

difference_turned : (p q : List V3) (v : V3) → IsDifference p q v → IsDifference q p (negative v)
difference_turned p q v d = record { a = d.b; b = d.a; a_in = d.b_in; b_in = d.a_in; is = ap negative d.is ∙ ring3 (values (d.a ∷ d.b ∷ []) []) (negativeE (minusE v1 v0)) (minusE v0 v1) (tt, tt, tt) }

dot_both : (n v : V3) → dot (negative n) (negative v) ≡ dot n v
dot_both n v = ring (values (n ∷ v ∷ []) []) (dotE (negativeE v0) (negativeE v1)) (dotE v0 v1) tt

pub beyond_turned : (p q : List V3) (n : V3) → IsBeyond p q n → IsBeyond q p (negative n)
beyond_turned p q n up =
    All-from_members (λ b. All (λ a. pos 0 ≤ℤ dot (negative n) (minus a b)) p) q
    (λ b b_in. All-from_members (λ a. pos 0 ≤ℤ dot (negative n) (minus a b)) p
    (λ a a_in. subst (λ z. pos 0 ≤ℤ z) (ring (values (n ∷ a ∷ b ∷ []) []) (dotE v0 (minusE v2 v1)) (dotE (negativeE v0) (minusE v1 v2)) tt)
    (All-contains (λ b. pos 0 ≤ℤ dot n (minus b a)) q b (All-contains (λ a. All (λ b. pos 0 ≤ℤ dot n (minus b a)) q) p a up a_in) b_in)))

facet_turned : (p q : List V3) (n : V3) → IsFacet p q n → IsFacet q p (negative n)
facet_turned p q n f =
    let t = f.touches in record {
      primitive = IsPrimitive-negative n f.primitive;
      beyond = beyond_turned p q n f.beyond;
      touches = record {
        u = negative t.u;
        v = negative t.v;
        u_is = difference_turned p q t.u t.u_is;
        v_is = difference_turned p q t.v t.v_is;
        u_on = dot_both n t.u ∙ t.u_on;
        v_on = dot_both n t.v ∙ t.v_on;
        independent = λ e. t.independent (ring3 (values (t.u ∷ t.v ∷ []) []) (crossE v0 v1) (crossE (negativeE v0) (negativeE v1)) (tt, tt, tt) ∙ e);
      };
    }

pub opposite_facets_lemma : (p q : List V3) (n : V3) → IsFacet p q n ↔ IsFacet q p (negative n)
opposite_facets_lemma p q n = (facet_turned p q n, λ f. subst (λ z. IsFacet p q z) (negative-negative n) (facet_turned q p (negative n) f))
