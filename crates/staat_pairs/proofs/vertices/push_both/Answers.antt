use Rattle.std.proofs.Common.{◌++◌, ◌∷◌, [], ap, ◌∙◌}
use Rattle.staat_pairs.proofs.DirectionLemmas.{one_taken, two_taken}
use Rattle.staat_pairs.proofs.vertices.push_both.Goals as goal

pub returns-in_ok-push : goal.returns-in_ok-push
returns-in_ok-push c = one_taken c.args.version c.args.v c.args.taken.now.items c.push.new.self.items c.if-version-eq2.true c.requires.some (c.in_ok-push.ensures.items ∙ ap (λ w. c.args.taken.now.items ++ w ∷ []) c.canon.ensures.value)

pub returns-in_ok-push-3 : goal.returns-in_ok-push-3
returns-in_ok-push-3 c = two_taken c.args.version c.args.v c.neg.result c.args.taken.now.items c.push-else-version-eq2.new.self.items c.push-else-version-eq2-2.new.self.items c.if-version-eq2.false c.neg.ensures.value c.in_ok-push-2.ensures.items c.in_ok-push-3.ensures.items
