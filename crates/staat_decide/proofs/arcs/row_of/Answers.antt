use Rattle.std.proofs.Common.{◌∙◌, ◌↔◌, IsTrue, List, subst, sym, ℕ}
use Rattle.std.proofs.lemmas.List.{take_all}
use Rattle.staat_model.specs.Removal.{Blocks}
use Rattle.staat_motion.proofs.Zips.{zip_more}
use Rattle.staat_decide.specs.Arcs.{IsRow}
use Rattle.staat_decide.proofs.arcs.row_of.Goals as goal

pub loop-b-preserved : goal.loop-b-preserved
loop-b-preserved g c =
    let parts = c.args.view.now.parts.now in
    let d = c.args.view.now.along.now.d in
    let w = c.args.w.now in
    let i = c.loop-b.b-index in
    rw c.in_ok-push.ensures.items (record {
      row = zip_more (λ b answer. IsTrue answer ↔ Blocks parts d c.args.a b) w c.loop-b.row.items i 0 c.in_ok-blocks_with.field-0 c.loop-b-test.true c.loop-b.invariant.row c.in_ok-blocks_with.ensures.answer;
      some = c.in_ok-blocks_with.ensures.some ∙ c.loop-b.invariant.some;
      kept = c.in_ok-blocks_with.ensures.kept;
    })

pub returns : goal.returns
returns g c =
    let row = subst (λ (ws : List ℕ). IsRow c.args.view.now.parts.now c.args.view.now.along.now.d ws c.args.a c.loop-b.row.items)
    (take_all c.loop-b.b-index c.args.w.now c.loop-b-test.false) c.loop-b.invariant.row in
    record {
      some = c.loop-b.invariant.some;
      kept = c.loop-b.invariant.kept;
      row = subst (IsRow c.args.view.now.parts.now c.args.view.now.along.now.d c.args.w.now c.args.a) (sym c.from_vec.ensures) row;
    }
