use Rattle.staat_model.proofs.Differences.{span_from_three}
use Rattle.staat_cone.proofs.FewLemmas.{ready}
use Rattle.staat_cone.proofs.few.start.Goals as goal

pub returns-clause-grown : goal.returns-clause-grown
returns-clause-grown c =
    let p = c.args.p.now in
    let q = c.args.q.now in
    let steps = c.in-Some.ensures.steps in
    let one = c.in_ok-insert.ensures.grown p q (ready (c.in_ok-few.ensures.grown p q) steps.0) in
    let two = c.in_ok-insert-2.ensures.grown p q (ready one steps.1) in
    c.in_ok-insert-3.ensures.grown p q (ready two steps.2)

pub returns-clause-spanning : goal.returns-clause-spanning
returns-clause-spanning c =
    let u = c.in-Some.u in
    let v = c.in-Some.v in
    let one = c.in_ok-insert.ensures in
    let two = c.in_ok-insert-2.ensures in
    let three = c.in_ok-insert-3.ensures in
    span_from_three c.insert-3.new.self.members.items c.in-Some.w u v three.member (three.kept u (two.kept u one.member)) (three.kept v two.member) c.in-Some.ensures.spanning
