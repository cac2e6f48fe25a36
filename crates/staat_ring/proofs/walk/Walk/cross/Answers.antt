use Rattle.std.proofs.Common.{◌≤◌, length, subst, sym}
use Rattle.staat_ring.specs.Rings.{unlinked_of}
use Rattle.staat_ring.proofs.StopLemmas.{circle_is, entered_end, entry_is_other, entry_is_small, first_few, made_end, next_node, place_is, second_few, some_for}
use Rattle.staat_ring.proofs.walk.Walk.cross.Goals as goal

pub sign_stop-requires-clause-few : goal.sign_stop-requires-clause-few
sign_stop-requires-clause-few c m q at is =
    let f = first_few c.args.table.now c.len-most.ensures.rules c.args.rings.now.rings (unlinked_of c.args.rings.now.unlinked) c.requires.rings.now c.args.self.now (record { signs = c.self.inside.signs; crossed = c.self.inside.crossed; circle = c.self.inside.circle; place = c.self.inside.place; node = c.self.inside.node; vertex = c.self.inside.vertex }) c.self.view_is c.requires.made c.requires.entered m q at is in
    (subst (λ k. length q.entries ≤ k) (sym c.len-most.ensures.is) f.0, f.1)

pub sign_stop-requires-2-clause-at : goal.sign_stop-requires-2-clause-at
sign_stop-requires-2-clause-at c = next_node c.args.table.now c.len-most.ensures.rules c.args.rings.now.rings (unlinked_of c.args.rings.now.unlinked) c.requires.rings.now c.args.self.now (record { signs = c.self.inside.signs; crossed = c.self.inside.crossed; circle = c.self.inside.circle; place = c.self.inside.place; node = c.self.inside.node; vertex = c.self.inside.vertex }) c.self.view_is c.requires.made c.requires.entered c.sign_stop.new.signs c.sign_stop.ensures c.next-node.result.0 c.next-node.result.1 c.next-node.ensures

pub sign_stop-requires-2-clause-few : goal.sign_stop-requires-2-clause-few
sign_stop-requires-2-clause-few c m q at is =
    let f = second_few c.args.table.now c.len-most.ensures.rules c.args.rings.now.rings (unlinked_of c.args.rings.now.unlinked) c.requires.rings.now c.args.self.now (record { signs = c.self.inside.signs; crossed = c.self.inside.crossed; circle = c.self.inside.circle; place = c.self.inside.place; node = c.self.inside.node; vertex = c.self.inside.vertex }) c.self.view_is c.requires.made c.requires.entered c.sign_stop.new.signs c.sign_stop.ensures c.next-node.result.0 c.next-node.result.1 c.next-node.ensures m q at is in
    (subst (λ k. length q.entries ≤ k) (sym c.len-most.ensures.is) f.0, f.1)

pub entry_of-requires-clause-at : goal.entry_of-requires-clause-at
entry_of-requires-clause-at c = next_node c.args.table.now c.len-most.ensures.rules c.args.rings.now.rings (unlinked_of c.args.rings.now.unlinked) c.requires.rings.now c.args.self.now (record { signs = c.self.inside.signs; crossed = c.self.inside.crossed; circle = c.self.inside.circle; place = c.self.inside.place; node = c.self.inside.node; vertex = c.self.inside.vertex }) c.self.view_is c.requires.made c.requires.entered c.sign_stop.new.signs c.sign_stop.ensures c.next-node.result.0 c.next-node.result.1 c.next-node.ensures

pub entry_of-requires-clause-some : goal.entry_of-requires-clause-some
entry_of-requires-clause-some c = some_for c.args.table.now c.len-most.ensures.rules c.args.rings.now.rings (unlinked_of c.args.rings.now.unlinked) c.requires.rings.now c.args.self.now (record { signs = c.self.inside.signs; crossed = c.self.inside.crossed; circle = c.self.inside.circle; place = c.self.inside.place; node = c.self.inside.node; vertex = c.self.inside.vertex }) c.self.view_is c.requires.made c.requires.entered c.next-node.result.0

pub of-self-inside-requires-clause-c : goal.of-self-inside-requires-clause-c
of-self-inside-requires-clause-c c = circle_is c.args.table.now c.len-most.ensures.rules c.args.rings.now.rings (unlinked_of c.args.rings.now.unlinked) c.requires.rings.now c.args.self.now (record { signs = c.self.inside.signs; crossed = c.self.inside.crossed; circle = c.self.inside.circle; place = c.self.inside.place; node = c.self.inside.node; vertex = c.self.inside.vertex }) c.self.view_is c.requires.made c.requires.entered

pub of-self-inside-requires-clause-plane : goal.of-self-inside-requires-clause-plane
of-self-inside-requires-clause-plane c = entry_is_small c.args.table.now c.len-most.ensures.rules c.args.rings.now.rings (unlinked_of c.args.rings.now.unlinked) c.requires.rings.now c.args.self.now (record { signs = c.self.inside.signs; crossed = c.self.inside.crossed; circle = c.self.inside.circle; place = c.self.inside.place; node = c.self.inside.node; vertex = c.self.inside.vertex }) c.self.view_is c.requires.made c.requires.entered c.sign_stop.new.signs c.sign_stop.ensures c.next-node.result.0 c.next-node.result.1 c.next-node.ensures c.entry_of.result c.entry_of.ensures

pub of-self-inside-requires-clause-different : goal.of-self-inside-requires-clause-different
of-self-inside-requires-clause-different c = entry_is_other c.args.table.now c.len-most.ensures.rules c.args.rings.now.rings (unlinked_of c.args.rings.now.unlinked) c.requires.rings.now c.args.self.now (record { signs = c.self.inside.signs; crossed = c.self.inside.crossed; circle = c.self.inside.circle; place = c.self.inside.place; node = c.self.inside.node; vertex = c.self.inside.vertex }) c.self.view_is c.requires.made c.requires.entered c.sign_stop.new.signs c.sign_stop.ensures c.next-node.result.0 c.next-node.result.1 c.next-node.ensures c.entry_of.result c.entry_of.ensures

pub returns-clause-made : goal.returns-clause-made
returns-clause-made c = made_end c.args.table.now c.len-most.ensures.rules c.args.rings.now.rings (unlinked_of c.args.rings.now.unlinked) c.requires.rings.now c.args.self.now (record { signs = c.self.inside.signs; crossed = c.self.inside.crossed; circle = c.self.inside.circle; place = c.self.inside.place; node = c.self.inside.node; vertex = c.self.inside.vertex }) c.self.view_is c.requires.made c.requires.entered c.sign_stop.new.signs c.sign_stop.ensures c.next-node.result.0 c.next-node.result.1 c.next-node.ensures c.entry_of.result c.entry_of.ensures c.sign_stop-2.new.signs c.sign_stop-2.ensures c.of-self-inside.result c.of-self-inside.ensures c.saturating_add-self-inside.result

pub returns-clause-entered : goal.returns-clause-entered
returns-clause-entered c = entered_end c.args.table.now c.len-most.ensures.rules c.args.rings.now.rings (unlinked_of c.args.rings.now.unlinked) c.requires.rings.now c.args.self.now (record { signs = c.self.inside.signs; crossed = c.self.inside.crossed; circle = c.self.inside.circle; place = c.self.inside.place; node = c.self.inside.node; vertex = c.self.inside.vertex }) c.self.view_is c.requires.made c.requires.entered c.sign_stop.new.signs c.sign_stop.ensures c.next-node.result.0 c.next-node.result.1 c.next-node.ensures c.entry_of.result c.entry_of.ensures c.sign_stop-2.new.signs c.sign_stop-2.ensures c.of-self-inside.result c.of-self-inside.ensures c.saturating_add-self-inside.result

pub returns-clause-place : goal.returns-clause-place
returns-clause-place c = place_is c.args.table.now c.len-most.ensures.rules c.args.rings.now.rings (unlinked_of c.args.rings.now.unlinked) c.requires.rings.now c.args.self.now (record { signs = c.self.inside.signs; crossed = c.self.inside.crossed; circle = c.self.inside.circle; place = c.self.inside.place; node = c.self.inside.node; vertex = c.self.inside.vertex }) c.self.view_is c.requires.made c.requires.entered c.sign_stop.new.signs c.sign_stop.ensures c.next-node.result.0 c.next-node.result.1 c.next-node.ensures
