use Rattle.std.proofs.Common.{◌≡◌, ◌↔◌, refl}
use Rattle.std.specs.Prelude.{Bool, IsTrue, MatchOption, None, Option, Some, false, not, true}
use Rattle.std.specs.Option.{is_some}
use Rattle.staat_vec.specs.declared.vector.V3.{V3}
use Rattle.staat_holds.specs.Holds.{JoinsNodes}
use Rattle.staat_holds.proofs.GapLemmas.{told_by_test}
use Rattle.staat_holds.proofs.HoldLaw.{held_stick}
use Rattle.staat_holds.proofs.judge.judge_hold.Goals as goal

pub returns-clause-stuck : goal.returns-clause-stuck
returns-clause-stuck g c = λ yes sets are nodes_are.
    let parts = c.args.parts.now in
    let nodes = c.args.nodes.now in
    let core = c.args.core.now in
    let held : JoinsNodes parts nodes c.args.count core =
    told_by_test (JoinsNodes parts nodes c.args.count core) (λ v. JoinsNodes parts nodes c.args.count core → ⊥) c.in_ok-gap.gap c.is_none.result c.is_none.ensures yes c.in_ok-gap.ensures.held in
    held_stick parts nodes c.args.count core sets c.requires.core are c.requires.parts held nodes_are

decided : (H : Type 0) (gap : Option V3) (is_none : Bool) → is_some gap ≡ not is_none → MatchOption gap H (λ v. H → ⊥) → IsTrue is_none ↔ H
decided H None true e tells = (λ t. tells, λ h. refl)
decided H None false e tells = absurd cc
decided H (Some v) true e tells = absurd cc
decided H (Some v) false e tells = (λ t. absurd cc, λ h. absurd (tells h))

pub returns-clause-held : goal.returns-clause-held
returns-clause-held g c =
    decided (JoinsNodes c.args.parts.now c.args.nodes.now c.args.count c.args.core.now) c.in_ok-gap.gap c.is_none.result c.is_none.ensures c.in_ok-gap.ensures.held
