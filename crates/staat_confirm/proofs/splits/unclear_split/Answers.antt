use Rattle.std.proofs.Common.{sym, subst}
use Rattle.staat_confirm.specs.Owners.{AreEndsFrom}
use Rattle.staat_confirm.proofs.splits.unclear_split.Goals as goal

pub first_reason-requires-clause-read : goal.first_reason-requires-clause-read
first_reason-requires-clause-read g c = record {
  fit = c.requires.fit;
  once = c.requires.once;
  owned = c.requires.owners;
  ended = subst (AreEndsFrom c.args.nodes.now 0) (sym c.as_slice.ensures.value) c.in_ok-ends.ensures.ends;
}
