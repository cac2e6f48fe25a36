use Rattle.std.proofs.Common.{◌≡◌, arith, ap, subst, length}
use Rattle.staat_model.proofs.Members.{All-from_members}
use Rattle.staat_model.specs.Planes.{vertices}
use Rattle.staat_planes.specs.PairOrder.{vertices_left}
use Rattle.staat_planes.proofs.PairSteps.{few_left}
use Rattle.staat_core.specs.TableCores.{CoreHolds}
use Rattle.staat_core.specs.VertexSearch.{AreManyPassed}
use Rattle.staat_core.specs.declared.search.Search.TheVariants.{First, Nothing, Undecided}
use Rattle.staat_core.proofs.SearchSteps.{found_then, none_tried, passed_weaker, so_many}
use Rattle.staat_core.proofs.TableHolding.{alike_hold}
use Rattle.staat_core.proofs.search.first_by_core.Goals as goal

pub returns-then-holds-clause-first : goal.returns-then-holds-clause-first
returns-then-holds-clause-first g c parts planes made knows are =
    All-from_members (λ v. g.T.Trial.serves parts c.args.w v → ⊥) (vertices planes) (λ v listed. c.core-core.ensures.held parts v made knows (c.holds.ensures.held c.if-holds.true parts v made))

pub loop-k-init : goal.loop-k-init
loop-k-init g c = record {
  place = c.of-pairs.ensures.place;
  core = c.holds.ensures.core;
  held = λ parts d made knows holds.
      c.core-core.ensures.held parts d made knows (alike_hold parts c.holds.new.self c.core-core.result c.args.w d c.holds.ensures.list c.holds.ensures.moving holds);
  tried = λ parts planes made are knows.
      let serves = g.T.Trial.serves parts c.args.w in
      let left = vertices_left c.args.table.now.planes c.of-pairs.result in
      subst (λ vs. AreManyPassed serves vs left 0) (c.of-pairs.ensures.vertices parts planes made are) (none_tried serves left);
}

pub loop-k-preserved : goal.loop-k-preserved
loop-k-preserved g c = record {
  place = c.served_next.ensures.place;
  core = c.pass_rows.ensures.core;
  held = λ parts d made knows holds. c.loop-k.invariant.held parts d made knows (c.pass_rows.ensures.kept parts d holds);
  tried = λ parts planes made are knows.
      let left = vertices_left c.args.table.now.planes in
      let serves = g.T.Trial.serves parts c.args.w in
      let passed = passed_weaker (λ d. CoreHolds parts c.loop-k.core c.args.w d → ⊥) serves (left c.loop-k.pairs) (left c.pass_rows.new.pairs) (λ d s holds. c.loop-k.invariant.held parts d made knows holds s)
      (c.pass_rows.ensures.passed parts made) in
      found_then serves (g.T.Trial.finds parts c.args.w) (vertices planes) (left c.loop-k.pairs) (left c.pass_rows.new.pairs) (left c.served_next.new.pairs) c.loop-k._k Undecided
      (c.loop-k.invariant.tried parts planes made are knows) passed (c.in-Undecided.ensures.first parts made knows);
}

pub returns-in-First-clause-first : goal.returns-in-First-clause-first
returns-in-First-clause-first g c parts planes made knows are =
    let left = vertices_left c.args.table.now.planes in
    let serves = g.T.Trial.serves parts c.args.w in
    let passed = passed_weaker (λ d. CoreHolds parts c.loop-k.core c.args.w d → ⊥) serves (left c.loop-k.pairs) (left c.pass_rows.new.pairs) (λ d s holds. c.loop-k.invariant.held parts d made knows holds s)
    (c.pass_rows.ensures.passed parts made) in
    found_then serves (g.T.Trial.finds parts c.args.w) (vertices planes) (left c.loop-k.pairs) (left c.pass_rows.new.pairs) (left c.served_next.new.pairs) c.loop-k._k (First c.in-First.served)
    (c.loop-k.invariant.tried parts planes made are knows) passed (c.in-First.ensures.first parts made knows)

pub returns-in-Nothing-clause-first : goal.returns-in-Nothing-clause-first
returns-in-Nothing-clause-first g c parts planes made knows are =
    let left = vertices_left c.args.table.now.planes in
    let serves = g.T.Trial.serves parts c.args.w in
    let passed = passed_weaker (λ d. CoreHolds parts c.loop-k.core c.args.w d → ⊥) serves (left c.loop-k.pairs) (left c.pass_rows.new.pairs) (λ d s holds. c.loop-k.invariant.held parts d made knows holds s)
    (c.pass_rows.ensures.passed parts made) in
    found_then serves (g.T.Trial.finds parts c.args.w) (vertices planes) (left c.loop-k.pairs) (left c.pass_rows.new.pairs) (left c.served_next.new.pairs) c.loop-k._k Nothing
    (c.loop-k.invariant.tried parts planes made are knows) passed (c.in-Nothing.ensures.first parts made knows)

pub returns-clause-first : goal.returns-clause-first
returns-clause-first g c parts planes made knows are =
    let end : c.loop-k._k ≡ c.args.limit = (let a = c.loop-k-test.false in let b = c.loop-k.auto._k-end in omega (arith, a, b)) in
    let many = so_many (g.T.Trial.serves parts c.args.w) (vertices planes) (vertices_left c.args.table.now.planes c.loop-k.pairs) c.loop-k._k (c.loop-k.invariant.tried parts planes made are knows) in
    let few = few_left c.args.table.now.planes c.of-pairs.result c.of-pairs.ensures.place in
    let long = ap length (c.of-pairs.ensures.vertices parts planes made are) in
    (omega (arith, many, end), omega (arith, many, end, few, long))
