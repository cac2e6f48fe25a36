use Rattle.std.proofs.Common.{◌<ℤ◌, ◌≤ℤ◌, ◌≡◌, ◌≢◌, Bool, ap, arith, false, inl, not, of_z, pos, refl, subst, sym, to_z, true, ◌∙◌, ℤ}
use Rattle.std.specs.Int.{w128}
use Rattle.std.specs.Int.Signed.{lt_z, lt_z_no, lt_z_yes}
use Rattle.std.proofs.lemmas.Float.{T_from_true}
use Rattle.std.proofs.lemmas.Int.{ints, to_z-of_z}
use Rattle.staat_vec.specs.declared.vector.V3.{V3}
use Rattle.staat_vec.specs.Primitives.{primitive}
use Rattle.staat_vec.specs.Vectors.{det}
use Rattle.staat_ring.specs.Builds.{IsUpper}
use Rattle.staat_ring.specs.Rings.{facet_by}
use Rattle.staat_ring.proofs.HalfTurn.{negative_ahead, upper_flat}
use Rattle.staat_ring.proofs.half_circle.is_opposite.Goals as goal

by_sign : (g axis h : V3) (z : ℤ) (b : Bool) → z ≡ det g axis h → z ≢ pos 0 → lt_z z (pos 0) ≡ b → IsUpper g axis (facet_by b h)
by_sign g axis h z true is some e = inl (negative_ahead g axis h (subst (λ z. z <ℤ pos 0) is (lt_z_yes (T_from_true (lt_z z (pos 0)) e))))
by_sign g axis h z false is some e =
    let least : pos 0 ≤ℤ z = lt_z_no (T_from_true (not (lt_z z (pos 0))) (ap not e)) in
    inl (subst (λ z. pos 0 <ℤ z) is (omega (arith, ints, least, some)))

pub returns-then-across-eq0 : goal.returns-then-across-eq0
returns-then-across-eq0 c =
    let flat = sym c.requires.across ∙ sym (to_z-of_z w128 c.args.across c.ranges.across) ∙ ap (to_z w128) c.if-across-eq0.true in
    let h_is = c.primitive.ensures.value ∙ ap primitive c.cross_normal.ensures.value in
    let axis_is = c.primitive-then-across-eq0.ensures.value ∙ ap primitive c.cross_normal-then-across-eq0.ensures.value in
    upper_flat c.args.g c.args.axis c.args.h c.is_same.result c.requires.start c.requires.apart flat (
      λ t. sym h_is ∙ (c.is_same.ensures.0 t ∙ axis_is),
      λ e. c.is_same.ensures.1 (h_is ∙ (e ∙ sym axis_is)),
    )

pub returns-else-across-eq0 : goal.returns-else-across-eq0
returns-else-across-eq0 c =
    let same = to_z-of_z w128 c.args.across c.ranges.across in
    by_sign c.args.g c.args.axis c.args.h (to_z w128 (of_z w128 c.args.across)) (lt_z (to_z w128 (of_z w128 c.args.across)) (pos 0)) (same ∙ c.requires.across)
    (λ e. c.if-across-eq0.false (ap (of_z w128) (sym same ∙ e))) refl
