use Rattle.std.proofs.Common.{List, arith, subst}
use Rattle.std.proofs.lemmas.List.{take_all}
use Rattle.staat_cells.specs.declared.half_spaces.HalfSpace.{HalfSpace}
use Rattle.staat_cells.specs.CellGraphs.{AddsCone, AddsConesOf, IsArcInside}
use Rattle.staat_planes.proofs.Gaining.{adds_nothing}
use Rattle.staat_cells.proofs.Growing.{grown_take}
use Rattle.staat_cells.proofs.part_arcs.add_cones.Goals as goal

pub loop-k-init : goal.loop-k-init
loop-k-init c = record {
  arcs = λ signs x y. adds_nothing (λ none. let lt = none.2 in omega (arith, lt));
  batches = c.requires.batches;
}

pub loop-k-preserved : goal.loop-k-preserved
loop-k-preserved c =
    let added = subst (λ (l : List HalfSpace). AddsCone l c.args.a c.args.b c.loop-k.batches.items c.add_cone.new.batches.items)
    c.as_slice.ensures c.in_ok-add_cone.ensures in record {
      arcs = λ signs x y. grown_take (IsArcInside c.args.a c.args.b signs x y) c.args.cones.now c.loop-k.k c.index-cones-k.result
          c.loop-k-test.true c.index-cones-k.is (c.loop-k.invariant.arcs signs x y) (added.arcs signs x y);
      batches = added.batches;
    }

pub returns : goal.returns
returns c = subst (λ l. AddsConesOf l c.args.a c.args.b c.args.batches.now.items c.loop-k.batches.items)
    (take_all c.loop-k.k c.args.cones.now c.loop-k-test.false) c.loop-k.invariant
