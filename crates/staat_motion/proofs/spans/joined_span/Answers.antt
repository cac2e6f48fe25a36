use Rattle.staat_motion.proofs.Wholes.{span_joined}
use Rattle.staat_motion.proofs.spans.joined_span.Goals as goal

pub returns : goal.returns
returns c =
    let h = c.joined.ensures in
    span_joined c.args.a c.args.b c.joined.result h.low h.high h.low_a h.low_b h.high_a h.high_b
