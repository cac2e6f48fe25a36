use Rattle.std.specs.Prelude.{IfSome}
use Rattle.staat_decide.specs.Decided.{IsLeaving}
use Rattle.staat_decide.proofs.likely.likely_leaving.Given as goal

abbrev pub invariant-loop-k : goal.invariant-loop-k
invariant-loop-k l = IfSome l.best (IsLeaving l.parts l.w)
