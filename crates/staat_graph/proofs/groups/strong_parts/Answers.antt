use Rattle.std.proofs.Common.{◌≡◌, ◌+◌, List, arith, sym, ◌∙◌, subst, take, true≢false}
use Rattle.staat_model.specs.declared.set.PartSet.{PartSet}
use Rattle.staat_graph.specs.Graphs.{HasArc, AreGroups}
use Rattle.staat_graph.proofs.Classes.{AreFirst, Below, all_groups, below_more, below_next, below_none}
use Rattle.staat_graph.proofs.groups.strong_parts.Goals as goal

pub loop-p-init : goal.loop-p-init
loop-p-init c = record { room = omega arith; below = below_none (HasArc c.new-g.result.ahead.rows) c.args.w }

pub loop-p-preserved-then-not-has : goal.loop-p-preserved-then-not-has
loop-p-preserved-then-not-has c = record {
  room = let a = c.loop-p.invariant.room in omega (arith, a);
  below = below_next (HasArc c.new-g.result.ahead.rows) c.args.w c.loop-p.p (take c.loop-p.count c.loop-p.of) c.loop-p.rest c.loop-p.invariant.below (λ h. true≢false (sym h ∙ sym c.if-not-has.ensures));
}

pub loop-p-preserved : goal.loop-p-preserved
loop-p-preserved c = record {
  room = let a = c.loop-p.invariant.room in omega (arith, a);
  below = subst (λ groups. Below (HasArc c.new-g.result.ahead.rows) c.args.w (c.loop-p.p + 1) groups c.without-rest.result) (sym c.push_group.ensures)
      (below_more (HasArc c.new-g.result.ahead.rows) c.args.w c.loop-p.p (take c.loop-p.count c.loop-p.of) c.loop-p.rest c.without-rest.result c.group_of-group.result c.loop-p.invariant.below (sym c.if-not-has.ensures) c.group_of-group.ensures.group c.group_of-group.ensures.own c.without-rest.ensures.members);
}

pub returns-clause-groups : goal.returns-clause-groups
returns-clause-groups c =
    let e : c.loop-p.p ≡ 32 = let a = c.loop-p.auto.p-end in let b = c.loop-p-test.false in omega (arith, a, b) in
    let groups : List PartSet = take c.loop-p.count c.loop-p.of in
    subst (λ g. AreGroups (HasArc g.rows) c.args.w groups) c.new-g.ensures
    (all_groups (HasArc c.new-g.result.ahead.rows) c.args.w 32 groups (subst (λ n. AreFirst (HasArc c.new-g.result.ahead.rows) c.args.w n groups) e c.loop-p.invariant.below.first) c.bits-bits.ensures.small)
