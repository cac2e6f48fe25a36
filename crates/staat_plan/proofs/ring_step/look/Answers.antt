use Rattle.std.proofs.{Common.{◌↔◌, ◌≤◌, arith, length, refl, subst}, lemmas.List.Elements.All-contains}
use Rattle.std.proofs.lemmas.Option.{same_Some}
use Rattle.std.specs.Prelude.{IsTrue, Some}
use Rattle.staat_vec.proofs.{Truth.false_test_clash, Unique.from_place}
use Rattle.staat_model.specs.Removal.{Blocks}
use Rattle.staat_graph.specs.{Blocking.ShowsBlocking, Graphs.IsStrong}
use Rattle.staat_ring.specs.declared.entry.Entry.{Entry}
use Rattle.staat_plan.specs.{RingSearches.{IsLater, IsServing}, declared.ring_step.Serving.Serving}
use Rattle.staat_plan.proofs.RingLooking.{entry_placed, first_least, kept, one_more, right_is, stands_at, strong_serves_not}
use Rattle.staat_plan.proofs.ring_step.look.Goals as goal

pub returns-in_default-clause-best : goal.returns-in_default-clause-best
returns-in_default-clause-best c parts made s at is before =
    let a = c.args in
    let on = stands_at c.len-len.ensures.rules.planes c.requires.rings.now c.requires.circle c.requires.entered s at in
    kept before at.is
    (λ serves e ce later.
    let le = All-contains (λ (e : Entry). e.plane ≤ a.i) s.entries e (c.in_default.ensures s on.at is) ce in
    absurd (omega (arith, le, later)))

pub returns-then-is_before-clause-best : goal.returns-then-is_before-clause-best
returns-then-is_before-clause-best c parts made s at is before =
    let a = c.args in
    let on = stands_at c.len-len.ensures.rules.planes c.requires.rings.now c.requires.circle c.requires.entered s at in
    kept before at.is
    (λ serves e ce later.
    let (h, is_h, le) = c.is_before.ensures.yes c.if-is_before.true in
    let less = first_least a.i s.entries c.in-Some.entry e on.ascend (c.in-Some.ensures s on.at is) ce later in
    (h, is_h, omega (arith, le, less)))

pub returns-then-is_strong-clause-best : goal.returns-then-is_strong-clause-best
returns-then-is_strong-clause-best c parts made s at is before =
    let a = c.args in
    let rings = a.rings.now.rings in
    let on = stands_at c.len-len.ensures.rules.planes c.requires.rings.now c.requires.circle c.requires.entered s at in
    let shows = subst (λ d. ShowsBlocking parts d a.w c.graph-graph.result.rows) on.vertex
    (c.graph-graph.ensures parts a.table.now rings a.w made c.len-len.ensures.rules c.requires.made c.requires.entered
    c.requires.set (c.requires.linked parts made)) in
    let told = subst (λ d. IsTrue c.is_strong.result ↔ IsStrong (Blocks parts d) a.w) on.vertex
    (c.is_strong.ensures parts a.table.now rings made c.len-len.ensures.rules c.requires.made c.requires.entered
    c.requires.set (c.requires.linked parts made)) in
    kept before at.is
    (λ serves e ce later. absurd (strong_serves_not parts a.table.now.planes a.w a.i s c.graph-graph.result.rows
    on.moves shows (told.0 c.if-is_strong.true) serves))

pub returns-clause-placed : goal.returns-clause-placed
returns-clause-placed c h e =
    let a = c.args in
    subst (IsLater a.i (length a.table.now.planes)) (same_Some _ h e)
    (entry_placed c.len-len.ensures.rules.planes c.requires.rings.now c.requires.circle c.requires.entered
    (record { entry = c.in-Some.entry; moved = c.sink_of-moved.result })
    (c.in-Some.ensures c.requires.entered.stop c.requires.entered.at c.requires.entered.node))

pub returns-clause-best : goal.returns-clause-best
returns-clause-best c parts made s at is before =
    let a = c.args in
    let rings = a.rings.now.rings in
    let on = stands_at c.len-len.ensures.rules.planes c.requires.rings.now c.requires.circle c.requires.entered s at in
    let shows = subst (λ d. ShowsBlocking parts d a.w c.graph-graph.result.rows) on.vertex
    (c.graph-graph.ensures parts a.table.now rings a.w made c.len-len.ensures.rules c.requires.made c.requires.entered
    c.requires.set (c.requires.linked parts made)) in
    let told = subst (λ d. IsTrue c.is_strong.result ↔ IsStrong (Blocks parts d) a.w) on.vertex
    (c.is_strong.ensures parts a.table.now rings made c.len-len.ensures.rules c.requires.made c.requires.entered
    c.requires.set (c.requires.linked parts made)) in
    let first = c.in-Some.ensures s on.at is in
    let f : Serving = record { entry = c.in-Some.entry; moved = c.sink_of-moved.result } in
    let right = right_is parts a.table.now.planes a.w a.i s c.graph-graph.result.rows on.moves shows f
    (λ strong. false_test_clash c.is_strong.result c.if-is_strong.false (told.1 strong)) first c.sink_of-moved.ensures in
    one_more before at.is (Some f)
    (λ g e. (
      s,
      from_place at.ring.stops a.walk.now.place s at.is,
      subst (IsServing parts a.table.now.planes a.w a.i s) (same_Some f g e) right,
    ))
    (λ h e. (f, refl, c.is_before.ensures.no c.if-is_before.false h e))
    (λ serves e ce later. (f, refl, first_least a.i s.entries c.in-Some.entry e on.ascend first ce later))
