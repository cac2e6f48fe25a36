use Rattle.std.proofs.Common.{◌≢◌, subst, sym}
use Rattle.staat_vec.specs.declared.vector.V3.{V3}
use Rattle.staat_vec.specs.Vectors.{origin}
use Rattle.staat_model.specs.SetLists.{set_of}
use Rattle.staat_decide.specs.Peelings.{IsHeldAlong}
use Rattle.staat_decide.proofs.Held.{none_is}
use Rattle.staat_decide.proofs.settling.leaving_at.Goals as goal

pub peel-requires-clause-moves : goal.peel-requires-clause-moves
peel-requires-clause-moves g c = subst (λ (v : V3). v ≢ origin) (sym c.in_ok-along.ensures.direction) c.requires.moves

pub returns-in-None-clause-none : goal.returns-in-None-clause-none
returns-in-None-clause-none g c =
    subst (λ (v : V3). IsHeldAlong c.args.scene.now.parts.now v (set_of c.args.w.now)) c.in_ok-along.ensures.direction
    (none_is c.in_ok-peel.field-0 c.in-None.is c.in_ok-peel.ensures.none)
