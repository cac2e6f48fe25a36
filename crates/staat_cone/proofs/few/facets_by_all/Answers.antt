use Rattle.std.proofs.Common.{◌≡◌, List, subst}
use Rattle.staat_vec.specs.declared.vector.V3.{V3}
use Rattle.staat_model.specs.Cones.{differences}
use Rattle.staat_model.proofs.PieceFacets.{differences_are, pieces_span}
use Rattle.staat_cone.specs.Few.{HasDifferences}
use Rattle.staat_cone.proofs.FewLemmas.{spanning_grown}
use Rattle.staat_cone.proofs.few.facets_by_all.Goals as goal

pub insert_all-requires-clause-grown : goal.insert_all-requires-clause-grown
insert_all-requires-clause-grown c = c.in_ok-few.ensures.grown c.points_of.result.now c.points_of-2.result.now

has_all : (p q ps qs few : List V3) → ps ≡ p → qs ≡ q → HasDifferences ps qs few → HasDifferences p q few
has_all p q ps qs few e f h = subst (λ z. HasDifferences z q few) e (subst (λ z. HasDifferences ps z few) f h)

pub grow-requires-clause-spanning : goal.grow-requires-clause-spanning
grow-requires-clause-spanning c =
    let p = c.args.p.now in
    let q = c.args.q.now in
    let few = c.insert_all.new.few.members.items in
    let all = has_all p q c.points_of.result.now c.points_of-2.result.now few c.points_of.ensures.points c.points_of-2.ensures.points c.in_ok-insert_all.ensures.all in
    spanning_grown (differences p q) few (λ v h. all v ((differences_are p q).each v h)) (pieces_span p q c.points_of.ensures.piece c.points_of-2.ensures.piece)

pub unreachable-requires : goal.unreachable-requires
unreachable-requires c =
    let all = has_all c.args.p.now c.args.q.now c.points_of.result.now c.points_of-2.result.now c.insert_all.new.few.members.items c.points_of.ensures.points c.points_of-2.ensures.points c.in_ok-insert_all.ensures.all in
    let some = rw c.in-None.is at (c.in_ok-list.ensures.whole all) in cc
