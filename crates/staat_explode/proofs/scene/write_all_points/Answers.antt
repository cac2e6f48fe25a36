use Rattle.std.proofs.Common.{◌≡◌, ◌<◌, List, [], drop, flat_map, get_or, length, ap, sym, subst, arith, rules}
use Rattle.std.proofs.lemmas.List.{drop_all}
use Rattle.staat_vec.specs.declared.vector.V3.{V3}
use Rattle.staat_vec.specs.Vectors.{origin, plus}
use Rattle.staat_explode.specs.declared.scene.Solid.{Solid}
use Rattle.staat_explode.specs.Scenes.{point_line, points_of_scene}
use Rattle.staat_explode.specs.Sheets.{AddsText}
use Rattle.staat_explode.proofs.Lines.{adds_none, adds_then, points_left, points_then}
use Rattle.staat_explode.proofs.scene.write_all_points.Goals as goal

pub loop-solid-preserved : goal.loop-solid-preserved
loop-solid-preserved c =
    let solids = c.args.solids.now in
    let shifts = c.args.shifts.now in
    let i = c.loop-solid.solid-index in
    let s = c.solid-item.result in
    let part : s.part < length shifts = search rules in
    let written = subst (λ (ps : List V3). AddsText c.loop-solid.sheet c.write_points.new.sheet (flat_map (λ p. point_line (plus (plus p s.at) (get_or shifts s.part origin))) ps)) c.as_slice.ensures c.in_ok-write_points.ensures.text in record {
      text = λ after rest. c.loop-solid.invariant.text after (adds_then c.loop-solid.sheet c.write_points.new.sheet after _ _ _ (points_then shifts solids i s s origin c.loop-solid-test.true c.solid-item.is part) written rest);
      room = omega (arith, c.in_ok-write_points.ensures.room, ap length c.as_slice.ensures, points_left solids i s s c.loop-solid-test.true c.solid-item.is, c.loop-solid.invariant.room);
    }

pub returns-clause-text : goal.returns-clause-text
returns-clause-text c =
    let none : drop c.loop-solid.solid-index c.args.solids.now ≡ [] = drop_all c.loop-solid.solid-index c.args.solids.now (omega (arith, c.loop-solid-test.false)) in
    c.loop-solid.invariant.text c.loop-solid.sheet (subst (λ (ss : List Solid). AddsText c.loop-solid.sheet c.loop-solid.sheet (flat_map point_line (points_of_scene ss c.args.shifts.now))) (sym none) (adds_none c.loop-solid.sheet))
