use Rattle.std.proofs.Common.{◌≡◌, ◌+◌, ◌<◌, ◌≤◌, inl, inr, arith, subst, All, pos, ◌<ℤ◌}
use Rattle.staat_vec.specs.Vectors.{dot}
use Rattle.staat_vec.proofs.Naturals.{lt_or_le}
use Rattle.staat_model.specs.declared.certificate.Arc.{Arc}
use Rattle.staat_pairs.specs.Searches.{arc_of}
use Rattle.staat_pairs.specs.Tables.{facets_of, pieces_of, slot}
use Rattle.staat_planes.proofs.NotFound.{no_more, not_found}
use Rattle.staat_local.specs.Beginnings.{HoldsBetween}
use Rattle.staat_local.specs.Touching.{IsPairMarked}
use Rattle.staat_local.proofs.graph.holds_between.Goals as goal

pub loop-j-preserved : goal.loop-j-preserved
loop-j-preserved c h e = elim (lt_or_le c.loop-j.j h.j) [
  | inl lt ↦ (let past : c.loop-j.j + 1 ≤ h.j = omega (arith, lt) in past)
  | inr le ↦ (let same : h.j ≡ c.loop-j.j = omega (arith, le, c.loop-j.invariant h e) in
      absurd (no_more _ c.if-holds.ensures (subst (λ (arc : Arc). IsPairMarked c.args.marks.now (slot c.args.table.now.pieces arc) × All (λ n. pos 0 <ℤ dot n c.args.d) (facets_of c.args.table.now arc))
      (λ z. arc_of c.args.a (e z) c.args.b (same z)) (h.marked, h.ahead))))
]

pub loop-i-preserved : goal.loop-i-preserved
loop-i-preserved c = λ h. elim (lt_or_le c.loop-i.i h.i) [
  | inl lt ↦ (let past : c.loop-i.i + 1 ≤ h.i = omega (arith, lt) in past)
  | inr le ↦
      (let same : h.i ≡ c.loop-i.i = omega (arith, le, c.loop-i.invariant h) in
      let within : h.j < pieces_of c.args.table.now c.args.b = h.across.j_is in
      absurd (omega (arith, within, c.loop-j.invariant h same, c.loop-j-test.false, c.pieces-j-end.ensures.is)))
]

pub returns : goal.returns
returns c = not_found (HoldsBetween c.args.table.now c.args.marks.now c.args.d c.args.a c.args.b)
    (λ h. let within : h.i < pieces_of c.args.table.now c.args.a = h.across.i_is in omega (arith, within, c.loop-i.invariant h, c.loop-i-test.false, c.pieces-i-end.ensures.is))
