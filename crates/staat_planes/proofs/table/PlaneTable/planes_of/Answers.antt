use Rattle.std.proofs.Common.{◌∙◌, ◌∷◌, [], ◌++◌, ap, subst, sym, get_or, take, Contains}
use Rattle.std.proofs.lemmas.List.{map-append, take_more}
use Rattle.std.proofs.lemmas.List.Elements.{Contains-get_or}
use Rattle.std.proofs.lemmas.Option.{get_or_from_slice_get}
use Rattle.staat_vec.specs.Vectors.{origin}
use Rattle.staat_planes.specs.PairOrder.{plane_at, planes_at}
use Rattle.staat_planes.proofs.table.PlaneTable.planes_of.Goals as goal

pub plane-requires : goal.plane-requires
plane-requires c =
    let ks = c.numbers-k-items.result.now in
    let k = get_or ks c.loop-k.k-index 0 in
    c.of-pairs.ensures.place.numbers.small k (subst (λ xs. Contains xs k) c.numbers-k-items.ensures (Contains-get_or ks c.loop-k.k-index 0 c.loop-k-test.true))

pub loop-k-preserved : goal.loop-k-preserved
loop-k-preserved c =
    let planes = c.args.self.now.planes in
    let ks = c.numbers-k-items.result.now in
    let k = get_or ks c.loop-k.k-index 0 in
    c.in_ok-push.ensures.items
    ∙ (λ i. c.loop-k.invariant i ++ (c.of.ensures ∙ sym (get_or_from_slice_get planes k c.plane.result origin c.plane.ensures.is)) i ∷ [])
    ∙ sym (ap (planes_at planes) (take_more ks c.loop-k.k-index 0 c.loop-k-test.true) ∙ map-append (plane_at planes) (take c.loop-k.k-index ks) (k ∷ []))
