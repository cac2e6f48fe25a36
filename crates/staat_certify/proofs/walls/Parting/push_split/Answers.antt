use Rattle.std.proofs.Common.{◌<◌, arith, subst, sym}
use Rattle.staat_model.specs.Certify.{AreLeastWalls}
use Rattle.staat_pairs.specs.Searches.{arc_of}
use Rattle.staat_certify.proofs.WallLemmas.{all_walls, next_a, next_b, next_i, walls_more, walls_none}
use Rattle.staat_certify.proofs.walls.Parting.push_split.Goals as goal

pub loop-a-init : goal.loop-a-init
loop-a-init g c = let self = c.args.self.now in walls_none self.assembly.now self.side self.rest self.d c.new-seps.result.items c.new-seps.ensures.items

pub wall-requires-clause-pieces : goal.wall-requires-clause-pieces
wall-requires-clause-pieces g c = record {
  a = omega (arith, c.loop-a-test.true, c.parts-a-end.ensures.count);
  i = ((c.pieces_in-i-end.ensures c.loop-i.i).0 c.loop-i-test.true).1;
  b = omega (arith, c.loop-b-test.true, c.parts-b-end.ensures.count);
  j = ((c.pieces_in-j-end.ensures c.loop-j.j).0 c.loop-j-test.true).1;
}

pub wall-requires-clause-apart : goal.wall-requires-clause-apart
wall-requires-clause-apart g c = c.requires.free.clear (arc_of c.loop-a.a c.loop-i.i c.loop-b.b c.loop-j.j)
    ((c.pieces_in-i-end.ensures c.loop-i.i).0 c.loop-i-test.true).0 ((c.pieces_in-j-end.ensures c.loop-j.j).0 c.loop-j-test.true).0

pub loop-j-preserved : goal.loop-j-preserved
loop-j-preserved g c =
    let self = c.args.self.now in
    let first = (c.pieces_in-i-end.ensures c.loop-i.i).0 c.loop-i-test.true in
    let second = (c.pieces_in-j-end.ensures c.loop-j.j).0 c.loop-j-test.true in
    walls_more self.assembly.now self.side self.rest self.d (arc_of c.loop-a.a c.loop-i.i c.loop-b.b c.loop-j.j) c.in_ok-n.n c.loop-j.seps.items c.push.new.self.items c.loop-j.invariant
    (record { a_in = first.0; b_in = second.0; i_in = first.1; j_in = second.1 }) c.in_ok-n.ensures c.in_ok-push.ensures.items

pub loop-b-preserved : goal.loop-b-preserved
loop-b-preserved g c =
    let self = c.args.self.now in
    next_b self.assembly.now self.side self.rest self.d c.loop-a.a c.loop-i.i c.loop-b.b c.loop-j.j c.loop-j.seps.items
    (λ k h. let lt : k < c.pieces_in-j-end.result = (c.pieces_in-j-end.ensures k).1 h in omega (arith, lt, c.loop-j-test.false)) c.loop-j.invariant

pub loop-i-preserved : goal.loop-i-preserved
loop-i-preserved g c =
    let self = c.args.self.now in
    next_i self.assembly.now self.side self.rest self.d c.loop-a.a c.loop-i.i c.loop-b.b c.loop-b.seps.items (omega (arith, c.loop-b-test.false, c.parts-b-end.ensures.count)) c.loop-b.invariant

pub loop-a-preserved : goal.loop-a-preserved
loop-a-preserved g c =
    let self = c.args.self.now in
    next_a self.assembly.now self.side self.rest self.d c.loop-a.a c.loop-i.i c.loop-i.seps.items
    (λ k h. let lt : k < c.pieces_in-i-end.result = (c.pieces_in-i-end.ensures k).1 h in omega (arith, lt, c.loop-i-test.false)) c.loop-i.invariant

pub returns : goal.returns
returns g c =
    let self = c.args.self.now in
    record {
      seps = c.from_vec.result;
      walls = subst (AreLeastWalls self.assembly.now self.side self.rest self.d) (sym c.from_vec.ensures)
          (all_walls self.assembly.now self.side self.rest self.d c.loop-a.a c.loop-a.seps.items (omega (arith, c.loop-a-test.false, c.parts-a-end.ensures.count)) c.loop-a.invariant);
      is = c.in_ok-push-2.ensures.items;
    }
