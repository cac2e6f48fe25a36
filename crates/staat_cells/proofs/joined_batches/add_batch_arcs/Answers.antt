use Rattle.std.proofs.Common.{◌≡◌, ◌↔◌, ℕ, List, All, arith, get_or, length, subst, sym}
use Rattle.std.proofs.lemmas.List.{get_or_default}
use Rattle.std.proofs.lemmas.List.Elements.{All-get_or}
use Rattle.staat_cells.specs.declared.batches.ArcCones.{ArcCones}
use Rattle.staat_cells.specs.declared.joined_batches.JoinedTest.{JoinedTest}
use Rattle.staat_cells.specs.Batches.{HasParts, IsLeft, IsLeftByAll, joined_outside}
use Rattle.staat_cells.proofs.GraphRows.{batch_arcs, left_more, none_left}
use Rattle.staat_cells.proofs.joined_batches.add_batch_arcs.Goals as goal

pub loop-arc-init : goal.loop-arc-init
loop-arc-init c = none_left c.ruled_out-outside.result c.args.rows.now

pub loop-arc-preserved : goal.loop-arc-preserved
loop-arc-preserved c =
    let arcs = c.deref-arc-items.result.now in
    let k = c.loop-arc.arc-index in
    let none : ArcCones = record { a = 0; b = 0; cones = 0 } in
    let x : ArcCones = get_or arcs k none in
    let parts : All HasParts arcs = subst (All HasParts) (sym c.deref-arc-items.ensures.value) c.requires.parts in
    let long : length c.args.rows.now ≡ 32 = omega arith in
    left_more c.ruled_out-outside.result c.row_after.result k arcs x c.args.rows.now c.loop-arc.rows long
    c.loop-arc-test.true (get_or_default arcs k none x c.loop-arc-test.true)
    (All-get_or HasParts arcs k none c.loop-arc-test.true parts).a_is c.row_after.ensures c.loop-arc.invariant

pub returns : goal.returns
returns c =
    batch_arcs c.args.batch.now c.args.signs.now c.ruled_out-outside.result c.loop-arc.arc-index
    c.deref-arc-items.result.now c.args.rows.now c.loop-arc.rows c.deref-arc-items.ensures.value c.loop-arc-test.false
    (subst (λ (l : List JoinedTest). (j : ℕ) → IsLeft c.ruled_out-outside.result j
    ↔ IsLeftByAll (joined_outside c.args.signs.now) l j) c.deref.ensures.value c.ruled_out-outside.ensures) c.loop-arc.invariant
