use Rattle.std.proofs.Common.{◌≡◌, ◌∙◌, ◌↔◌, ◌<ℤ◌, false, true, FitsSigned, arith, neg_ℤ, of_z, pos, subst, sym, to_z, ℤ}
use Rattle.std.specs.Prelude.{IsTrue}
use Rattle.std.specs.Int.{w128}
use Rattle.std.specs.Int.Signed.{lt_z}
use Rattle.std.proofs.lemmas.Int.{ints, to_z-of_z}
use Rattle.staat_vec.specs.declared.vector.V3.{V3}
use Rattle.staat_vec.specs.Primitives.{IsCanon, IsPrimitiveOf, first_nonzero, primitive}
use Rattle.staat_vec.specs.Vectors.{cross, sign}
use Rattle.staat_vec.proofs.Canons.{first_nonzero-negative, first_nonzero-sign}
use Rattle.staat_vec.proofs.Integers.{is_less}
use Rattle.staat_vec.proofs.Primitives.{primitive-is}
use Rattle.staat_vec.proofs.Signs.{negative_sign, positive_sign, sign_negative, sign_positive}
use Rattle.staat_ring.specs.Rings.{facet_by}
use Rattle.staat_ring.proofs.vertex.Vertex.is_canon.Goals as goal

up : (a b : ℤ) → sign a ≡ sign b → (pos 0 <ℤ a) ↔ (pos 0 <ℤ b)
up a b e = (λ h. sign_positive b (sym e ∙ positive_sign a h), λ h. sign_positive a (e ∙ positive_sign b h))

down : (a b : ℤ) → sign a ≡ sign b → (a <ℤ pos 0) ↔ (pos 0 <ℤ neg_ℤ b)
down a b e = (
  λ h. let under : b <ℤ pos 0 = sign_negative b (sym e ∙ negative_sign a h) in omega (arith, ints, under),
  λ h. let under : b <ℤ pos 0 = omega (arith, ints, h) in sign_negative a (e ∙ negative_sign b under),
)

module _ (own other now : V3) (r : ℤ) (fits : FitsSigned w128 r) (is : r ≡ first_nonzero (cross own other))
    (of : IsPrimitiveOf (cross own other) (primitive (cross own other))) where
  read : to_z w128 (of_z w128 r) ≡ first_nonzero (cross own other)
  read = to_z-of_z w128 r fits ∙ is

  straight : facet_by false (primitive (cross own other)) ≡ now → IsTrue (lt_z (pos 0) (to_z w128 (of_z w128 r))) ↔ IsCanon now
  straight e = subst (λ (u : V3). IsTrue (lt_z (pos 0) (to_z w128 (of_z w128 r))) ↔ IsCanon u) e (
      let (to, from) = up (first_nonzero (cross own other)) (first_nonzero (primitive (cross own other))) (first_nonzero-sign (cross own other) (primitive (cross own other)) of) in
      let (read_to, read_from) = subst (λ z. IsTrue (lt_z (pos 0) z) ↔ (pos 0 <ℤ first_nonzero (cross own other))) (sym read) (is_less (pos 0) (first_nonzero (cross own other))) in
      (λ h. to (read_to h), λ h. read_from (from h)))

  turned : facet_by true (primitive (cross own other)) ≡ now → IsTrue (lt_z (to_z w128 (of_z w128 r)) (pos 0)) ↔ IsCanon now
  turned e = subst (λ (u : V3). IsTrue (lt_z (to_z w128 (of_z w128 r)) (pos 0)) ↔ IsCanon u) e (
      let (to, from) = down (first_nonzero (cross own other)) (first_nonzero (primitive (cross own other))) (first_nonzero-sign (cross own other) (primitive (cross own other)) of) in
      let (read_to, read_from) = subst (λ z. IsTrue (lt_z z (pos 0)) ↔ (first_nonzero (cross own other) <ℤ pos 0)) (sym read) (is_less (first_nonzero (cross own other)) (pos 0)) in
      let flip = first_nonzero-negative (primitive (cross own other)) in
      (λ h. subst (λ z. pos 0 <ℤ z) (sym flip) (to (read_to h)), λ h. read_from (from (subst (λ z. pos 0 <ℤ z) flip h))))

pub returns-then-self : goal.returns-then-self
returns-then-self c =
    turned c.self.inside.own c.self.inside.other c.args.self.now c.first_of_cross-first.result (record { sfits = c.first_of_cross-first.type_inv })
    c.first_of_cross-first.ensures (primitive-is (cross c.self.inside.own c.self.inside.other) c.self.invariant.apart)
    ((λ i. facet_by (sym c.if-self.true i) (primitive (cross c.self.inside.own c.self.inside.other))) ∙ c.self.view_is)

pub returns-else-self : goal.returns-else-self
returns-else-self c =
    straight c.self.inside.own c.self.inside.other c.args.self.now c.first_of_cross-first.result (record { sfits = c.first_of_cross-first.type_inv })
    c.first_of_cross-first.ensures (primitive-is (cross c.self.inside.own c.self.inside.other) c.self.invariant.apart)
    ((λ i. facet_by (sym c.if-self.false i) (primitive (cross c.self.inside.own c.self.inside.other))) ∙ c.self.view_is)
