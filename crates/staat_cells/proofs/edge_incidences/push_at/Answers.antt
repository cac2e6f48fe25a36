use Rattle.std.proofs.Common.{◌∙◌, ◌++◌, ◌∷◌, [], ap, arith, get_or, length}
use Rattle.std.proofs.lemmas.List.{length-map}
use Rattle.staat_vec.specs.Vectors.{cross, dot, negative, origin, sign}
use Rattle.staat_vec.proofs.ListLaws.{other_default}
use Rattle.staat_cells.specs.ZeroSigns.{zero_places}
use Rattle.staat_cells.proofs.ListedIncidences.{incidences_on, towards}
use Rattle.staat_cells.proofs.ZeroPlaces.{zero_place, zero_sign_there}
use Rattle.staat_cells.proofs.edge_incidences.push_at.Goals as goal

pub bounds-planes-j : goal.bounds-planes-j
bounds-planes-j c = zero_place c.args.planes.now c.args.point.now.d c.args.zeros.now c.args.j (c.requires.zeros ∙ ap (zero_places 0) c.requires.signs) c.requires.listed

pub offset_bounds-planes-j : goal.offset_bounds-planes-j
offset_bounds-planes-j c =
    let small = zero_place c.args.planes.now c.args.point.now.d c.args.zeros.now c.args.j (c.requires.zeros ∙ ap (zero_places 0) c.requires.signs) c.requires.listed in
    let few = c.requires.few in
    omega (arith, small, few)

pub incidence_towards-requires-clause-signs : goal.incidence_towards-requires-clause-signs
incidence_towards-requires-clause-signs c =
    ap length (c.as_slice-signs.ensures ∙ c.requires.signs)
    ∙ length-map c.args.planes.now (λ n. sign (dot n c.args.point.now.d))

pub incidence_towards-requires-2-clause-signs : goal.incidence_towards-requires-2-clause-signs
incidence_towards-requires-2-clause-signs c =
    ap length (c.as_slice-signs.ensures ∙ c.requires.signs)
    ∙ length-map c.args.planes.now (λ n. sign (dot n c.args.point.now.d))

pub returns : goal.returns
returns c =
    let planes = c.args.planes.now in
    let v = c.args.point.now.d in
    let k = c.args.base.of in
    let zeros = c.requires.zeros ∙ ap (zero_places 0) c.requires.signs in
    let small = zero_place planes v c.args.zeros.now c.args.j zeros c.requires.listed in
    let read = c.vector.ensures.is ∙ other_default planes c.args.j c.index-planes-j.result origin small c.index-planes-j.is in
    let is = c.as_slice-signs.ensures ∙ c.requires.signs in
    incidences_on planes v c.args.m (get_or planes c.args.j origin) k c.args.incidences.now.items
    c.push-2.new.self.items c.incidence_towards.result c.incidence_towards-2.result
    (zero_sign_there planes v c.args.zeros.now c.args.j zeros c.requires.listed)
    (towards planes v c.as_slice-signs.result.now c.cross_normal-w.result (cross (get_or planes c.args.j origin) c.args.m) k
    c.incidence_towards.result is (c.cross_normal-w.ensures.value ∙ ap (λ n. cross n c.args.m) read) c.incidence_towards.ensures)
    (towards planes v c.as_slice-signs.result.now c.neg.result (negative (cross (get_or planes c.args.j origin) c.args.m)) k
    c.incidence_towards-2.result is (c.neg.ensures.value ∙ ap negative (c.cross_normal-w.ensures.value ∙ ap (λ n. cross n c.args.m) read))
    c.incidence_towards-2.ensures)
    (c.in_ok-push-2.ensures.items ∙ ap (λ l. l ++ c.incidence_towards-2.result ∷ []) c.in_ok-push.ensures.items)
