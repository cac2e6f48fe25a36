use Rattle.std.proofs.Common.{◌≡◌, ◌<◌, Contains, List, Some, length, map, subst, sym, ℕ, ◌∙◌, ap}
use Rattle.std.specs.Prelude.{slice_get}
use Rattle.std.proofs.lemmas.Result.{IfOk-weaker}
use Rattle.staat_vec.specs.declared.vector.V3.{V3}
use Rattle.staat_ring.specs.declared.entry.Entry.{Entry}
use Rattle.staat_ring.specs.declared.keys.Key.{Key}
use Rattle.staat_ring.specs.Builds.{AreUpper, key_entry, ring_by}
use Rattle.staat_ring.specs.Rings.{IsRingOf}
use Rattle.staat_ring.proofs.CircleFromEntries.{are_stops, circle_is}
use Rattle.staat_ring.proofs.HalfTurn.{uppers_within}
use Rattle.staat_ring.proofs.circle.circle_of.Goals as goal

entries_upper : (planes : List V3) (c : ℕ) (g axis : V3) (keys slice : List Key) (es : List Entry) → slice ≡ keys → es ≡ map key_entry slice
    → AreUpper planes c g axis (length planes) (map key_entry keys) → AreUpper planes c g axis (length planes) es
entries_upper planes c g axis keys slice es same is = subst (AreUpper planes c g axis (length planes)) (sym (is ∙ ap (map key_entry) same))

pub divided-requires : goal.divided-requires
divided-requires c =
    let planes = c.args.table.now.planes in
    let ai = subst (λ k. slice_get planes k ≡ Some c.plane-axis.result) c.axis_beside.ensures c.plane-axis.ensures.is in
    let upper = entries_upper planes c.args.c c.plane-g.result c.plane-axis.result c.in_ok-keys.keys.items c.as_slice.result.now c.in_ok-entries.entries.items
    c.as_slice.ensures.value c.in_ok-entries.ensures
    (c.in_ok-keys.ensures c.plane-g.result c.plane-axis.result c.plane-g.ensures.is ai) in
    record { es = rw c.around-turn.ensures.table (uppers_within planes c.args.c c.plane-g.result c.plane-axis.result (length planes) c.in_ok-entries.entries.items upper) }

pub around-requires-clause-stops : goal.around-requires-clause-stops
around-requires-clause-stops c =
    let planes = c.args.table.now.planes in
    let ai = subst (λ k. slice_get planes k ≡ Some c.plane-axis.result) c.axis_beside.ensures c.plane-axis.ensures.is in
    let upper = entries_upper planes c.args.c c.plane-g.result c.plane-axis.result c.in_ok-keys.keys.items c.as_slice.result.now c.in_ok-entries.entries.items
    c.as_slice.ensures.value c.in_ok-entries.ensures
    (c.in_ok-keys.ensures c.plane-g.result c.plane-axis.result c.plane-g.ensures.is ai) in
    let half = rw (c.around-turn.ensures.table, c.around-turn.ensures.g) at c.in_ok-half.ensures in
    are_stops planes c.set-set.ensures.rules.planes c.args.c c.plane-g.result c.plane-axis.result c.plane-g.ensures.is ai
    c.in_ok-entries.entries.items c.in_ok-half.half.entries.items upper half.order c.in_ok-half.half.ends.items half.ends

pub returns : goal.returns
returns c =
    let planes = c.args.table.now.planes in
    let ai = subst (λ k. slice_get planes k ≡ Some c.plane-axis.result) c.axis_beside.ensures c.plane-axis.ensures.is in
    let upper = entries_upper planes c.args.c c.plane-g.result c.plane-axis.result c.in_ok-keys.keys.items c.as_slice.result.now c.in_ok-entries.entries.items
    c.as_slice.ensures.value c.in_ok-entries.ensures
    (c.in_ok-keys.ensures c.plane-g.result c.plane-axis.result c.plane-g.ensures.is ai) in
    let half = rw (c.around-turn.ensures.table, c.around-turn.ensures.g) at c.in_ok-half.ensures in
    IfOk-weaker c.around.result _ (λ v. (linked : List ℕ) → ((j : ℕ) → j < length planes → Contains linked j) → IsRingOf planes linked (ring_by c.args.c v))
    (λ v is linked whole. subst (λ xs. IsRingOf planes linked (ring_by c.args.c xs)) (sym is)
    (circle_is planes c.set-set.ensures.rules.planes c.args.c c.plane-g.result c.plane-axis.result c.plane-g.ensures.is ai
    c.in_ok-entries.entries.items c.in_ok-half.half.entries.items upper half.order c.in_ok-half.half.ends.items half.ends linked whole))
    c.around.ensures
