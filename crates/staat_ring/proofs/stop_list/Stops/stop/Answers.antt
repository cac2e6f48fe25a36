use Rattle.std.proofs.Common.{ap, arith, length}
use Rattle.staat_ring.proofs.Divided.{in_entries, in_order, length-stops, part_is}
use Rattle.staat_ring.proofs.stop_list.Stops.stop.Goals as goal

pub start_of-start-requires : goal.start_of-start-requires
start_of-start-requires c =
    let long = ap length c.self.view_is in
    let count = length-stops 0 c.self.inside.ends.items c.self.inside.entries.items in
    let same = ap length c.as_slice.ensures.value in
    omega (arith, c.requires, long, count, same)

pub index-end-requires : goal.index-end-requires
index-end-requires c =
    let long = ap length c.self.view_is in
    let count = length-stops 0 c.self.inside.ends.items c.self.inside.entries.items in
    omega (arith, c.requires, long, count, c.self.inside.ends.ok.0)

pub slice_bounds-result-count : goal.slice_bounds-result-count
slice_bounds-result-count c = in_order c.self.inside.ends.items c.as_slice.result.now c.self.inside.entries.items c.args.self.now c.self.view_is c.self.invariant c.args.k c.start_of-start.result c.index-end.result.now c.as_slice.ensures.value c.start_of-start.ensures c.index-end.ensures c.requires

pub slice_bounds-result-start : goal.slice_bounds-result-start
slice_bounds-result-start c = slice_bounds-result-count c

pub slice_bounds-result-end : goal.slice_bounds-result-end
slice_bounds-result-end c =
    let low = in_order c.self.inside.ends.items c.as_slice.result.now c.self.inside.entries.items c.args.self.now c.self.view_is c.self.invariant c.args.k c.start_of-start.result c.index-end.result.now c.as_slice.ensures.value c.start_of-start.ensures c.index-end.ensures c.requires in
    let high = in_entries c.self.inside.ends.items c.as_slice.result.now c.self.inside.entries.items c.args.self.now c.self.view_is c.self.invariant c.args.k c.start_of-start.result c.index-end.result.now c.as_slice.ensures.value c.start_of-start.ensures c.index-end.ensures c.requires in
    omega (arith, low, high, ap length c.deref.ensures.value)

pub offset_bounds-deref-start : goal.offset_bounds-deref-start
offset_bounds-deref-start c =
    let low = in_order c.self.inside.ends.items c.as_slice.result.now c.self.inside.entries.items c.args.self.now c.self.view_is c.self.invariant c.args.k c.start_of-start.result c.index-end.result.now c.as_slice.ensures.value c.start_of-start.ensures c.index-end.ensures c.requires in
    let high = in_entries c.self.inside.ends.items c.as_slice.result.now c.self.inside.entries.items c.args.self.now c.self.view_is c.self.invariant c.args.k c.start_of-start.result c.index-end.result.now c.as_slice.ensures.value c.start_of-start.ensures c.index-end.ensures c.requires in
    omega (arith, low, high, ap length c.deref.ensures.value, c.deref.type_inv.1)

pub returns : goal.returns
returns c = part_is c.self.inside.ends.items c.as_slice.result.now c.self.inside.entries.items c.args.self.now c.self.view_is c.self.invariant c.args.k c.start_of-start.result c.index-end.result.now c.as_slice.ensures.value c.start_of-start.ensures c.index-end.ensures c.requires c.deref.result.now c.deref.ensures.value
