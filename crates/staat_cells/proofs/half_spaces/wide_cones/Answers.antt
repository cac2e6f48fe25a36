use Rattle.std.proofs.Common.{◌∙◌, ◌-◌, ◌⊎◌, ◌↔◌, [], List, Any, arith, get_or, length, subst, sym}
use Rattle.staat_cells.specs.declared.half_spaces.HalfSpace.{HalfSpace}
use Rattle.staat_cells.specs.CellGraphs.{AddsCones}
use Rattle.staat_cells.specs.HalfSpaces.{AreInside}
use Rattle.staat_cells.proofs.Growing.{Below, from_last, grown_first, grown_more, grown_same, none_below}
use Rattle.staat_planes.proofs.Gaining.{adds_nothing}
use Rattle.staat_cells.proofs.half_spaces.wide_cones.Goals as goal
use Rattle.staat_vec.proofs.ListLaws.{any_default}

pub loop-k-init : goal.loop-k-init
loop-k-init c =
    let cones = c.args.cones.now in
    subst (λ (l : List (List HalfSpace)). AddsCones (λ signs. Below (λ j. AreInside signs (get_or cones (length cones - 1 - j) [])) 0) [] l)
    (sym c.new-wide.ensures.items)
    (λ signs. adds_nothing (none_below (λ j. AreInside signs (get_or cones (length cones - 1 - j) []))))

pub loop-k-preserved : goal.loop-k-preserved
loop-k-preserved c =
    let cones = c.args.cones.now in
    let cone = c.as_slice-cone.ensures ∙ c.index-cones-cones.is
    ∙ any_default cones (length cones - 1 - c.loop-k.k) c.index-cones-cones.result [] (omega arith) in
    λ signs. grown_more (λ j. AreInside signs (get_or cones (length cones - 1 - j) [])) c.loop-k.k (c.loop-k.invariant signs)
    (subst (λ x. Any (AreInside signs) c.push_cone.new.cones.items ↔ (Any (AreInside signs) c.loop-k.wide.items ⊎ AreInside signs x))
    cone (c.in_ok-push_cone.ensures signs))

pub returns : goal.returns
returns c = λ signs. grown_first
    (grown_same (c.loop-k.invariant signs) (from_last (AreInside signs) c.args.cones.now c.loop-k.k (omega arith)))
    (λ none. let lt = none.2 in omega (arith, lt))
