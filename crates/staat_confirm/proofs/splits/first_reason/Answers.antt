use Rattle.staat_confirm.proofs.Clearing.{clear_all, clear_more, told_none, told_some}
use Rattle.staat_confirm.proofs.splits.first_reason.Goals as goal

pub returns-in-Some : goal.returns-in-Some
returns-in-Some g c = record {
  node = c.loop-k.k;
  before = c.loop-k.invariant.clear;
  unclear = told_some c.args.judged.now.product.now c.args.judged.now.nodes.now c.loop-k.k c.in_ok-reason.field-0 c.in-Some.reason c.in-Some.is c.in_ok-reason.ensures.reason;
}

pub loop-k-preserved : goal.loop-k-preserved
loop-k-preserved g c = record {
  made = c.in_ok-reason.ensures.made;
  clear = clear_more c.args.judged.now.product.now c.args.judged.now.nodes.now c.loop-k.k c.loop-k.invariant.clear
      (told_none c.args.judged.now.product.now c.args.judged.now.nodes.now c.loop-k.k c.in_ok-reason.field-0 c.in-None.is c.in_ok-reason.ensures.reason);
}

pub returns : goal.returns
returns g c = clear_all c.args.judged.now.product.now c.args.judged.now.nodes.now c.loop-k.k c.loop-k-test.false c.loop-k.invariant.clear
