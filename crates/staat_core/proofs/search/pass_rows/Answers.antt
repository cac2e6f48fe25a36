use Rattle.std.proofs.Common.{◌∙◌, sym, subst, drop, All}
use Rattle.std.proofs.lemmas.List.Elements.{All-weaker}
use Rattle.staat_vec.specs.declared.vector.V3.{V3}
use Rattle.staat_model.specs.Planes.{crossings}
use Rattle.staat_planes.specs.PairOrder.{numbers_of, planes_at, rest_of_row, vertices_left}
use Rattle.staat_planes.proofs.PairSteps.{IsOn}
use Rattle.staat_core.specs.TableCores.{CoreHolds}
use Rattle.staat_core.proofs.SearchSteps.{none_passed, row_passed}
use Rattle.staat_core.proofs.TableHolding.{alike_hold}
use Rattle.staat_core.proofs.search.pass_rows.Goals as goal

pub loop-k-init : goal.loop-k-init
loop-k-init c = record {
  place = c.requires.place;
  core = c.requires.core;
  kept = λ parts d holds. holds;
  passed = λ parts made. none_passed (λ d. CoreHolds parts c.args.core.now c.args.w d → ⊥) (vertices_left c.args.table.now.planes c.args.pairs.now);
}

pub loop-k-preserved : goal.loop-k-preserved
loop-k-preserved c =
    let planes = c.args.table.now.planes in
    let p = c.row_begun.new.self in
    let plane = c.in-Some.g in
    let row = c.in-Some.ensures.row in
    let ns = planes_at planes (drop p.second (numbers_of p)) in
    record {
      place = c.end_row.ensures.place;
      core = c.holds_on.ensures.core;
      kept = λ parts d holds. c.loop-k.invariant.kept parts d (alike_hold parts c.holds_on.new.self c.loop-k.core c.args.w d c.holds_on.ensures.list c.holds_on.ensures.moving holds);
      passed = λ parts made.
          let may : V3 → Type 0 = λ d. CoreHolds parts c.args.core.now c.args.w d → ⊥ in
          let none : (d : V3) → IsOn plane d → may d → ⊥ = λ d on free. free (c.loop-k.invariant.kept parts d (c.holds_on.ensures.held c.if-not-holds_on.false parts d made on)) in
          row_passed may (vertices_left planes c.args.pairs.now) (vertices_left planes c.loop-k.pairs) (vertices_left planes c.end_row.new.self) (rest_of_row planes p)
          (c.loop-k.invariant.passed parts made) (sym c.in-Some.ensures.left ∙ c.end_row.ensures.left)
          (subst (λ h. All (λ v. may v → ⊥) (crossings h ns)) (sym row.is) (All-weaker (IsOn plane) (λ v. may v → ⊥) none (crossings plane ns) row.on));
    }

pub returns-then-not-holds_on-clause-kept : goal.returns-then-not-holds_on-clause-kept
returns-then-not-holds_on-clause-kept c parts d holds =
    c.loop-k.invariant.kept parts d (alike_hold parts c.holds_on.new.self c.loop-k.core c.args.w d c.holds_on.ensures.list c.holds_on.ensures.moving holds)
