use Rattle.std.proofs.Common.{arith, inl, inr}
use Rattle.staat_planes.proofs.BothWays.{all_looked_at, none_looked_at, pair_looked_at, row_looked_at}
use Rattle.staat_planes.proofs.table.PlaneTable.leads_between.Goals as goal

pub loop-i-init : goal.loop-i-init
loop-i-init c = none_looked_at c.args.self.now c.args.heading.now.d c.args.a c.args.b c.neither-leads.result c.neither-leads.ensures.ahead c.neither-leads.ensures.behind

pub loop-j-preserved : goal.loop-j-preserved
loop-j-preserved c =
    let one = c.leads_both_ways in
    pair_looked_at c.args.self.now c.args.heading.now.d c.args.a c.args.b c.loop-i.i c.loop-j.j c.loop-j.leads one.result c.or-leads.result c.loop-j.invariant c.requires.a_in c.requires.b_in c.requires.order
    (omega (arith, c.loop-i-test.true, c.pieces-i-end.ensures.is)) (omega (arith, c.loop-j-test.true, c.pieces-j-end.ensures.is)) one.ensures.ahead one.ensures.behind c.or-leads.ensures.ahead c.or-leads.ensures.behind

pub loop-i-preserved : goal.loop-i-preserved
loop-i-preserved c = row_looked_at c.args.self.now c.args.heading.now.d c.args.a c.args.b c.loop-i.i c.loop-j.j c.loop-j.leads c.loop-j.invariant (omega (arith, c.loop-j-test.false, c.pieces-j-end.ensures.is))

pub returns-then-leads-2 : goal.returns-then-leads-2
returns-then-leads-2 c =
    let one = c.leads_both_ways in
    let found = pair_looked_at c.args.self.now c.args.heading.now.d c.args.a c.args.b c.loop-i.i c.loop-j.j c.loop-j.leads one.result c.or-leads.result c.loop-j.invariant c.requires.a_in c.requires.b_in c.requires.order
    (omega (arith, c.loop-i-test.true, c.pieces-i-end.ensures.is)) (omega (arith, c.loop-j-test.true, c.pieces-j-end.ensures.is)) one.ensures.ahead one.ensures.behind c.or-leads.ensures.ahead c.or-leads.ensures.behind in
    let told = all_looked_at c.args.self.now c.args.heading.now.d c.args.a c.args.b c.loop-i.i _ c.or-leads.result found (inl (c.if-leads.true, c.if-leads-2.true)) in
    record { ahead = told.0; behind = told.1 }

pub returns : goal.returns
returns c =
    let told = all_looked_at c.args.self.now c.args.heading.now.d c.args.a c.args.b c.loop-i.i 0 c.loop-i.leads c.loop-i.invariant (inr (omega (arith, c.loop-i-test.false, c.pieces-i-end.ensures.is))) in
    record { ahead = told.0; behind = told.1 }
