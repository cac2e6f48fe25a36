use Rattle.staat_cone.proofs.ScanLemmas.{apart_turned, are_furthest}
use Rattle.staat_cone.proofs.around.furthest_from.Goals as goal

pub leftmost-right-requires-clause-apart : goal.leftmost-right-requires-clause-apart
leftmost-right-requires-clause-apart c = apart_turned c.args.v c.neg.result c.args.first c.neg.ensures.value c.requires.apart

pub returns : goal.returns
returns c =
    let left = c.leftmost-left in
    let right = c.leftmost-right in
    are_furthest c.args.vs.now c.args.v c.neg.result c.args.first left.result right.result c.neg.ensures.value c.requires.member left.ensures.member left.ensures.apart left.ensures.furthest right.ensures.member right.ensures.apart right.ensures.furthest
