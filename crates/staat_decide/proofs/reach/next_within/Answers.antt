use Rattle.std.proofs.Common.{◌∙◌, ◌≤◌, arith, sym, ℕ}
use Rattle.std.proofs.lemmas.Bool.{false≢true}
use Rattle.staat_decide.specs.Reaching.{IsMarkedPlace, LeadsToMarked}
use Rattle.staat_decide.proofs.reach.next_within.Goals.{then-marks-i+in_default, else-marks-i}
use Rattle.staat_decide.proofs.reach.next_within.Goals as goal
use borrow.Author.Count.{below_more}

pub returns-in-Some : goal.returns-in-Some
returns-in-Some c =
    let found = c.in-Some.ensures in
    record {
      some = record {
        before = found.before;
        fresh = found.fresh;
        i = c.loop-i.i;
        from_before = omega (arith, c.loop-i-test.true, c.requires.high, c.requires.count);
        from = c.if-marks-i.true;
        leads = found.leads;
      };
      none = tt;
    }

pub loop-i-preserved : goal.loop-i-preserved
loop-i-preserved c =
    let marks = c.args.marks.now in
    let Leaves : ℕ → Type 0 = λ k. c.args.low ≤ k → IsMarkedPlace marks k → LeadsToMarked c.args.way c.args.rows.now marks k in
    let here : Leaves c.loop-i.i = λ low marked. elim c.if-marks-i.branch [
      | then-marks-i+in_default w ↦ w.in_default.ensures.none
      | else-marks-i w ↦ absurd (false≢true (sym w.if-marks-i.false ∙ marked))
    ] in
    λ k low lt marked. below_more Leaves c.loop-i.i (λ n l h m. c.loop-i.invariant n h l m) here k lt low marked

pub returns : goal.returns
returns c = record {
  some = tt;
  none = λ i low lt marked. c.loop-i.invariant i low (omega (arith, lt, c.loop-i-test.false)) marked;
}
