use Rattle.std.proofs.Common.{sym, subst, All}
use Rattle.std.proofs.lemmas.List.Elements.{All-nil}
use Rattle.staat_core.specs.Listed.{IsTablePair}
use Rattle.staat_core.proofs.listed.PairList.of.Goals as goal

pub loop-b-init : goal.loop-b-init
loop-b-init c = record {
  room = c.none-list.ensures.room;
  pairs = subst (All (IsTablePair c.args.table.now)) (sym c.none-list.ensures.none) (All-nil (IsTablePair c.args.table.now));
}
