use Rattle.std.proofs.Common.{inl, inr, ◌≤◌, ◌+◌, ◌∙◌, ap, arith, length, subst, sym, true≢false}
use Rattle.std.proofs.lemmas.Option.{slice_get_within}
use Rattle.staat_ring.specs.{Rings.{Arrangement, linked_of}, Without.IsRelinked}
use Rattle.staat_ring.proofs.Made.{relinked_back}
use Rattle.staat_plan.proofs.RingSetLemmas.{marked_past, unlinked_past}
use Rattle.staat_plan.proofs.walker.+step_past.Goals as goal

pub part_step_rings-requires-clause-linked : goal.part_step_rings-requires-clause-linked
part_step_rings-requires-clause-linked g t c parts made k n at =
    let lt = slice_get_within c.args.table.now.planes k n at in
    let marked = c.requires.marks.each parts k n made at in
    let is = c.requires.linked k lt in (
      λ h. marked.0 (elim (is.0 h) [
        | inl past ↦ absurd (omega (arith, past, lt, c.if-k-len.true, c.len.ensures.is))
        | inr m ↦ m
      ]),
      λ p. is.1 (inr (marked.1 p)),
    )

pub step_past-requires : goal.step_past-requires
step_past-requires g t c κs within =
    let n = length c.args.table.now.planes in
    let q = c.requires in
    let axes = q.axes in
    let high : 3 ≤ c.args.k + 1 = omega (arith, axes) in
    let lt : c.args.k + 1 ≤ n = omega (arith, c.if-k-len.false, c.len.ensures.is) in
    let ks = linked_of c.args.rings.now.rings in
    let links = marked_past n c.args.marks.now ks c.args.k c.if-marks-k.true q.linked in
    (omega (arith, lt, c.decreases), (within, (q.made, (q.rings, (q.within, (q.marks, (q.two, (high, (lt, links)))))))))

pub step_past-step-requires : goal.step_past-step-requires
step_past-step-requires g t c κs within =
    let n = length c.args.table.now.planes in
    let q = c.requires in
    let axes = q.axes in
    let high : 3 ≤ c.args.k + 1 = omega (arith, axes) in
    let lt : c.args.k + 1 ≤ n = omega (arith, c.if-k-len.false, c.len.ensures.is) in
    let rings = c.unlink.ensures.made c.args.table.now.planes c.len.ensures.rules.planes q.rings in
    let links = unlinked_past n c.args.marks.now c.args.k c.args.rings.now c.unlink.new.self c.unlink.ensures.is
    (λ m. true≢false (sym m ∙ c.if-marks-k.false)) q.linked in
    (omega (arith, lt, c.decreases), (within, (q.made, (rings, (q.within, (q.marks, (q.two, (high, (lt, links)))))))))

pub relink-requires : goal.relink-requires
relink-requires g t c = record {
  others = c.args.rings.now.unlinked;
  before = c.args.rings.now.rings;
  is = ap (λ (rings : Arrangement). rings.unlinked) c.step_past-step.ensures.rings ∙ c.unlink.ensures.is.unlinked;
}

pub returns-clause-rings : goal.returns-clause-rings
returns-clause-rings g t c =
    relinked_back c.args.k c.args.rings.now c.unlink.new.self c.relink.new.self c.unlink.ensures.is
    (subst (λ (m : Arrangement). IsRelinked c.args.k m c.relink.new.self) c.step_past-step.ensures.rings c.relink.ensures.is)
