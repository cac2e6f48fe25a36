use Rattle.std.proofs.Common.{◌≡◌, List, arith, subst, take}
use Rattle.std.proofs.lemmas.List.{take_all}
use Rattle.staat_motion.specs.declared.shadow.Shadow.{Shadow}
use Rattle.staat_motion.specs.Shadows.{IsWholeOf}
use Rattle.staat_motion.proofs.Wholes.{first_whole, whole_more}
use Rattle.staat_motion.proofs.shadow.whole_of.Goals as goal

pub loop-k-init : goal.loop-k-init
loop-k-init c = first_whole c.args.shadows.now _ c.requires

pub loop-k-preserved : goal.loop-k-preserved
loop-k-preserved c = whole_more c.args.shadows.now c.loop-k.k _ c.loop-k.whole c.joined_shadow-whole.result c.loop-k-test.true c.loop-k.invariant c.joined_shadow-whole.ensures

pub returns : goal.returns
returns c =
    let all : take c.loop-k.k c.args.shadows.now ≡ c.args.shadows.now = take_all c.loop-k.k c.args.shadows.now (omega arith) in
    subst (λ (ss : List Shadow). IsWholeOf ss c.loop-k.whole) all c.loop-k.invariant
