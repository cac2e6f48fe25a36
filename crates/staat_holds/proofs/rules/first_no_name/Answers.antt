use Rattle.std.proofs.Common.{◌∙◌, sym}
use Rattle.std.proofs.lemmas.Bool.{false≢true}
use Rattle.staat_holds.specs.Chains.{IsName}
use Rattle.staat_holds.proofs.FirstFailing.{fails_at, keep_all, keep_more}
use Rattle.staat_holds.proofs.rules.first_no_name.Goals as goal

pub returns-then-not-is_name : goal.returns-then-not-is_name
returns-then-not-is_name c = fails_at (IsName c.args.names.now) c.args.nodes.now c.loop-k.k 0 c.loop-k-test.true c.loop-k.invariant
    (λ h. false≢true (sym c.if-not-is_name.true ∙ c.is_name.ensures.1 h))

pub loop-k-preserved : goal.loop-k-preserved
loop-k-preserved c = keep_more (IsName c.args.names.now) c.args.nodes.now c.loop-k.k 0 c.loop-k-test.true c.loop-k.invariant (c.is_name.ensures.0 c.if-not-is_name.false)

pub returns : goal.returns
returns c = keep_all (IsName c.args.names.now) c.args.nodes.now c.loop-k.k c.loop-k-test.false c.loop-k.invariant
