use Rattle.std.proofs.Common.{◌≡◌, ◌∙◌, ap, arith, length}
use Rattle.std.proofs.lemmas.List.Elements.{Contains-get_or}
use Rattle.staat_cells.specs.ZeroSigns.{zero_places}
use Rattle.staat_planes.proofs.Gaining.{adds_nothing}
use Rattle.staat_cells.proofs.Growing.{grown_more, grown_same, none_below}
use Rattle.staat_cells.proofs.ZeroPlaces.{IsPassed, all_passed}
use Rattle.staat_cells.proofs.edge_incidences.push_all.Goals as goal

pub loop-i-init : goal.loop-i-init
loop-i-init c = λ x. adds_nothing (none_below (IsPassed c.args.planes.now c.args.point.now.d c.args.m c.args.base.of c.args.zeros.now x))

pub push_at-requires-clause-listed : goal.push_at-requires-clause-listed
push_at-requires-clause-listed c = Contains-get_or c.args.zeros.now c.loop-i.i 0 c.loop-i-test.true

pub loop-i-preserved : goal.loop-i-preserved
loop-i-preserved c =
    let planes = c.args.planes.now in
    let v = c.args.point.now.d in
    let k = c.args.base.of in
    let zeros = c.args.zeros.now in
    λ x. grown_more (IsPassed planes v c.args.m k zeros x) c.loop-i.i (c.loop-i.invariant x) (c.in_ok-push_at.ensures x)

pub returns : goal.returns
returns c =
    let end : c.loop-i.i ≡ length c.args.zeros.now = omega (arith, c.loop-i-test.false, c.loop-i.auto.i-end) in
    λ x. grown_same (c.loop-i.invariant x)
    (all_passed c.args.planes.now c.args.point.now.d c.args.m c.args.base.of c.args.zeros.now c.loop-i.i x end
    (c.requires.zeros ∙ ap (zero_places 0) c.requires.signs))
