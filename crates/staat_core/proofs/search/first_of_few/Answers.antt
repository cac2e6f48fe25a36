use Rattle.std.proofs.Common.{subst}
use Rattle.staat_model.specs.Planes.{vertices}
use Rattle.staat_planes.specs.PairOrder.{vertices_left}
use Rattle.staat_core.specs.VertexSearch.{AreManyPassed}
use Rattle.staat_core.specs.declared.search.Search.TheVariants.{First, Nothing, Undecided}
use Rattle.staat_core.proofs.SearchSteps.{found_then, none_passed, none_tried}
use Rattle.staat_core.proofs.search.first_of_few.Goals as goal

pub loop-k-init : goal.loop-k-init
loop-k-init g c = record {
  place = c.of-pairs.ensures.place;
  tried = λ parts planes made are knows.
      let serves = g.T.Trial.serves parts c.args.w in
      let left = vertices_left c.args.table.now.planes c.of-pairs.result in
      subst (λ vs. AreManyPassed serves vs left 0) (c.of-pairs.ensures.vertices parts planes made are) (none_tried serves left);
}

pub loop-k-preserved : goal.loop-k-preserved
loop-k-preserved g c = record {
  place = c.served_next.ensures.place;
  tried = λ parts planes made are knows.
      let left = vertices_left c.args.table.now.planes c.loop-k.pairs in
      found_then (g.T.Trial.serves parts c.args.w) (g.T.Trial.finds parts c.args.w) (vertices planes) left left (vertices_left c.args.table.now.planes c.served_next.new.pairs) c.loop-k._k Undecided
      (c.loop-k.invariant.tried parts planes made are knows) (none_passed (g.T.Trial.serves parts c.args.w) left) (c.in-Undecided.ensures.first parts made knows);
}

pub returns-in-First-clause-first : goal.returns-in-First-clause-first
returns-in-First-clause-first g c parts planes made knows are =
    let left = vertices_left c.args.table.now.planes c.loop-k.pairs in
    found_then (g.T.Trial.serves parts c.args.w) (g.T.Trial.finds parts c.args.w) (vertices planes) left left (vertices_left c.args.table.now.planes c.served_next.new.pairs) c.loop-k._k (First c.in-First.served)
    (c.loop-k.invariant.tried parts planes made are knows) (none_passed (g.T.Trial.serves parts c.args.w) left) (c.in-First.ensures.first parts made knows)

pub returns-in-Nothing-clause-first : goal.returns-in-Nothing-clause-first
returns-in-Nothing-clause-first g c parts planes made knows are =
    let left = vertices_left c.args.table.now.planes c.loop-k.pairs in
    found_then (g.T.Trial.serves parts c.args.w) (g.T.Trial.finds parts c.args.w) (vertices planes) left left (vertices_left c.args.table.now.planes c.served_next.new.pairs) c.loop-k._k Nothing
    (c.loop-k.invariant.tried parts planes made are knows) (none_passed (g.T.Trial.serves parts c.args.w) left) (c.in-Nothing.ensures.first parts made knows)
