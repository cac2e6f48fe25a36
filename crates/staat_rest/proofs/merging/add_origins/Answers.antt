use Rattle.std.proofs.Common.{◌≡◌, ◌⊎◌, ◌↔◌, ◌<◌, ℕ, arith, subst, Contains}
use Rattle.staat_rest.specs.declared.merging.Origin.{Origin}
use Rattle.staat_rest.proofs.OriginSteps.{origin_more}
use Rattle.staat_rest.proofs.merging.add_origins.Goals as goal

pub loop-piece-preserved : goal.loop-piece-preserved
loop-piece-preserved c =
    origin_more c.args.origins.now.items c.loop-piece.origins.items c.push.new.self.items c.args.part c.loop-piece.piece c.in_ok-push.ensures.items c.loop-piece.invariant

pub returns : goal.returns
returns c =
    let e : c.loop-piece.piece ≡ c.args.count = omega (arith, c.loop-piece.auto.piece-end, c.loop-piece-test.false) in
    subst (λ (n : ℕ). (o : Origin) → Contains c.loop-piece.origins.items o ↔ (Contains c.args.origins.now.items o ⊎ ((o.part ≡ c.args.part) × (o.piece < n)))) e c.loop-piece.invariant
