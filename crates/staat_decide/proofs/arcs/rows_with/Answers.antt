use Rattle.std.proofs.Common.{◌∙◌, ◌≤◌, List, subst, sym, ℕ}
use Rattle.std.specs.List.{AllZip}
use Rattle.std.proofs.lemmas.List.{take_all}
use Rattle.staat_motion.proofs.Zips.{zip_more}
use Rattle.staat_decide.specs.Arcs.{IsRow}
use Rattle.staat_decide.proofs.arcs.rows_with.Goals as goal

pub row_of-requires : goal.row_of-requires
row_of-requires g c = record {
  made = c.requires.made;
  members = c.requires.members;
  a_in = c.requires.members c.loop-a.a-index 0 c.loop-a-test.true;
  some = subst (λ n. 1 ≤ n) (sym c.loop-a.invariant.some) c.requires.some;
  kept = c.loop-a.invariant.kept;
}

pub loop-a-preserved : goal.loop-a-preserved
loop-a-preserved g c =
    let parts = c.args.view.now.parts.now in
    let d = c.args.view.now.along.now.d in
    let w = c.args.w.now in
    let i = c.loop-a.a-index in
    rw c.in_ok-push.ensures.items (record {
      rows = zip_more (IsRow parts d w) w c.loop-a.rows.items i 0 c.in_ok-row_of.field-0 c.loop-a-test.true c.loop-a.invariant.rows c.in_ok-row_of.ensures.row;
      some = c.in_ok-row_of.ensures.some ∙ c.loop-a.invariant.some;
      kept = c.in_ok-row_of.ensures.kept;
    })

pub returns : goal.returns
returns g c =
    let w = c.args.w.now in
    record {
      some = c.loop-a.invariant.some;
      kept = c.loop-a.invariant.kept;
      rows = subst (λ (ws : List ℕ). AllZip (IsRow c.args.view.now.parts.now c.args.view.now.along.now.d w) ws c.loop-a.rows.items)
          (take_all c.loop-a.a-index w c.loop-a-test.false) c.loop-a.invariant.rows;
    }
