use Rattle.std.proofs.Common.{subst, sym, ⊎_elim}
use Rattle.std.specs.Prelude.{IfSome, Option}
use Rattle.staat_decide.specs.declared.decision.Leaving.{Leaving}
use Rattle.staat_decide.specs.Decided.{IsLeaving}
use Rattle.staat_decide.proofs.likely.likely_leaving.Goals as goal
use Rattle.staat_decide.proofs.likely.likely_leaving.Goals.{in-None, in-Some+in_ok-best-in-Some}

pub loop-k-init : goal.loop-k-init
loop-k-init c =
    let Serves : Option Leaving → Type 0 = λ answer. IfSome answer (IsLeaving c.args.parts.now c.args.w.now) in
    elim c.match-place_of.branch [
      | in-None w ↦ subst Serves (sym w.best-is) tt
      | in-Some+in_ok-best-in-Some w ↦ subst Serves (sym w.best-is) w.in_ok-best-in-Some.ensures
    ]

pub returns-then-is_fine : goal.returns-then-is_fine
returns-then-is_fine c = c.loop-k.invariant

pub loop-k-preserved : goal.loop-k-preserved
loop-k-preserved c =
    let Serves : Option Leaving → Type 0 = λ answer. IfSome answer (IsLeaving c.args.parts.now c.args.w.now) in
    ⊎_elim {C = Serves c.finer-best.result}
    (λ first. subst Serves (sym first) c.loop-k.invariant)
    (λ second. subst Serves (sym second) c.in_ok-next.ensures) c.finer-best.ensures

pub returns : goal.returns
returns c = c.loop-k.invariant
