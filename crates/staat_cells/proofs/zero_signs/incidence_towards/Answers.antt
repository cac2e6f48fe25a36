use Rattle.std.proofs.Common.{◌∙◌, ap, arith}
use Rattle.staat_vec.specs.Vectors.{dot, sign}
use Rattle.staat_cells.proofs.ZeroPlaces.{towards_all, zero_changed, zero_within}
use Rattle.staat_cells.proofs.zero_signs.incidence_towards.Goals as goal

pub offset_bounds-planes-j : goal.offset_bounds-planes-j
offset_bounds-planes-j c =
    let within = zero_within c.args.planes.now c.args.signs.now c.args.w c.requires.signs c.loop-i.incidence
    c.args.base.of
    c.args.zeros.now c.loop-i.i c.loop-i-test.true c.loop-i.invariant in
    let long = c.requires.signs in
    let few = c.requires.few in
    omega (arith, within, long, few)

pub bounds-planes-j : goal.bounds-planes-j
bounds-planes-j c =
    let within = zero_within c.args.planes.now c.args.signs.now c.args.w c.requires.signs c.loop-i.incidence
    c.args.base.of
    c.args.zeros.now c.loop-i.i c.loop-i-test.true c.loop-i.invariant in
    let long = c.requires.signs in
    omega (arith, within, long)

pub changed-incidence-requires : goal.changed-incidence-requires
changed-incidence-requires c =
    zero_within c.args.planes.now c.args.signs.now c.args.w c.requires.signs c.loop-i.incidence c.args.base.of
    c.args.zeros.now c.loop-i.i c.loop-i-test.true c.loop-i.invariant

pub loop-i-preserved : goal.loop-i-preserved
loop-i-preserved c =
    zero_changed c.args.planes.now c.args.signs.now c.args.w c.requires.signs c.loop-i.incidence c.args.base.of
    c.args.zeros.now c.loop-i.i c.loop-i-test.true c.loop-i.invariant c.changed-incidence.result c.sign_dot.result
    c.index-planes-j.result (c.sign_dot.ensures ∙ ap (λ n. sign (dot n c.args.w)) (c.vector.ensures.is ∙ c.index-planes-j.is))
    c.changed-incidence.ensures

pub returns : goal.returns
returns c =
    towards_all c.args.planes.now c.args.signs.now c.args.w c.requires.signs c.loop-i.incidence c.args.base.of
    c.args.zeros.now c.loop-i.i c.loop-i-test.false c.loop-i.invariant
