use Rattle.std.proofs.Common.{length, refl, subst}
use Rattle.std.proofs.lemmas.Option.{slice_get_read}
use Rattle.staat_holds.proofs.FirstFailing.{keep_all, keep_more}
use Rattle.staat_confirm.specs.Splits.{KeepsHolds}
use Rattle.staat_confirm.proofs.groups.broken_group.Goals as goal

pub returns-in-Some : goal.returns-in-Some
returns-in-Some g c = record {
  node = c.index-nodes-k.result;
  at = slice_get_read c.args.nodes.now (length c.args.nodes.now) c.loop-k.k c.index-nodes-k.result refl c.loop-k-test.true c.index-nodes-k.is;
  breaks = rw c.in-Some.is at c.in_ok-broken.ensures;
  before = c.loop-k.invariant;
}

pub loop-k-preserved : goal.loop-k-preserved
loop-k-preserved g c =
    let keeps = rw c.in-None.is at c.in_ok-broken.ensures in
    keep_more (KeepsHolds c.args.parts.now) c.args.nodes.now c.loop-k.k c.index-nodes-k.result c.loop-k-test.true c.loop-k.invariant
    (subst (KeepsHolds c.args.parts.now) c.index-nodes-k.is keeps)

pub returns : goal.returns
returns g c = keep_all (KeepsHolds c.args.parts.now) c.args.nodes.now c.loop-k.k c.loop-k-test.false c.loop-k.invariant
