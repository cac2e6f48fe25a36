use Rattle.std.proofs.Common.{◌≡◌, ◌∙◌, ◌+◌, ◌-◌, Global, Vec, ap, arith, false, refl, subst, sym, true, ℕ}
use Rattle.staat_ring.specs.Order.{entry_at, order_det}
use Rattle.staat_ring.proofs.HalfTurn.{AreBreaksBelow, breaks_all, breaks_more, breaks_none, breaks_same, rises_more}
use Rattle.staat_ring.proofs.order.run_of.Goals as goal
use Rattle.staat_ring.proofs.order.run_of.Goals.{then-not-is_zero+in_ok-push, else-not-is_zero, then-not-is_before, else-not-is_before}

pub loop-i-init : goal.loop-i-init
loop-i-init c = record {
  all = refl;
  later = omega arith;
  breaks = subst (AreBreaksBelow c.args.turn.now.table.now.planes c.args.turn.now.g c.args.es.now 1) (sym c.in_ok-ends.ensures.items) (breaks_none c.args.turn.now.table.now.planes c.args.turn.now.g c.args.es.now);
  rises = λ t k lt. absurd (omega (arith, lt));
}

off : false ≡ true → ⊥
off e = cc

pub loop-i-preserved : goal.loop-i-preserved
loop-i-preserved c =
    let planes = c.args.turn.now.table.now.planes in
    let es = c.args.es.now in
    let i = c.loop-i.i in
    let zero = c.is_zero.ensures (order_det planes c.args.turn.now.g (entry_at es (i - 1)) (entry_at es i)) c.order_of-order.ensures in
    let before = c.is_before.ensures planes c.args.turn.now.g c.order_of-order.ensures in
    record {
      all = refl;
      later = omega arith;
      breaks = elim c.if-not-is_zero.branch [
        | then-not-is_zero+in_ok-push w ↦
            breaks_more planes c.args.turn.now.g es i c.loop-i.ends.items c.if-not-is_zero.ends.items
            (record { later = c.loop-i.auto.i; within = c.loop-i-test.true; differ = λ z. off (sym w.if-not-is_zero.true ∙ zero.1 z) })
            (ap (λ (v : Vec ℕ Global). v.items) w.ends-is ∙ w.in_ok-push.ensures.items) c.loop-i.invariant.breaks
        | else-not-is_zero w ↦
            subst (λ (v : Vec ℕ Global). AreBreaksBelow planes c.args.turn.now.g es (i + 1) v.items) (sym w.ends-is) (breaks_same planes c.args.turn.now.g es i c.loop-i.ends.items (zero.0 w.if-not-is_zero.false) c.loop-i.invariant.breaks)
      ];
      rises = elim c.if-not-is_before.branch [
        | then-not-is_before w ↦ (λ t. absurd (off (sym w.rises-is ∙ t)))
        | else-not-is_before w ↦ (λ t. rises_more planes c.args.turn.now.g es i (c.loop-i.invariant.rises (sym w.rises-is ∙ t)) (before.0 w.if-not-is_before.false))
      ];
    }

pub returns : goal.returns
returns c =
    let es = c.args.es.now in
    record {
      ends = record {
        breaks = c.loop-i.ends.items;
        are = breaks_all c.args.turn.now.table.now.planes c.args.turn.now.g es c.loop-i.i c.loop-i.ends.items (omega (arith, c.loop-i.invariant.all, c.loop-i-test.false)) c.loop-i.invariant.breaks;
        is = c.in_ok-push-2.ensures.items;
      };
      rises = λ t k lt. c.loop-i.invariant.rises t k (omega (arith, c.loop-i.invariant.all, c.loop-i-test.false, lt));
    }
