use Rattle.std.proofs.Common.{arith, subst, ◌<◌}
use Rattle.staat_core.specs.Listed.{IsTablePair, pairs_in_use}
use Rattle.staat_core.proofs.Listing.{all_put}
use Rattle.staat_core.proofs.listed.PairList.put_between.Goals as goal

pub loop-j-preserved : goal.loop-j-preserved
loop-j-preserved c = record {
  room = c.put.ensures.room;
  pairs = all_put (IsTablePair c.args.table.now) (pairs_in_use c.loop-j.self) (pairs_in_use c.put.new.self) (record { a = c.args.a; i = c.loop-i.i; b = c.args.b; j = c.loop-j.j }) c.loop-j.invariant.pairs
      (record {
        across = record {
          a_in = c.requires.a_in;
          b_in = c.requires.b_in;
          different = λ e. omega (arith, c.requires.order, e);
          i_is = subst (λ n. c.loop-i.i < n) c.pieces-i-end.ensures.is c.loop-i-test.true;
          j_is = subst (λ n. c.loop-j.j < n) c.pieces-j-end.ensures.is c.loop-j-test.true;
        };
        order = c.requires.order;
      })
      c.put.ensures.pairs;
}
