use Rattle.std.proofs.Common.{◌≡◌, ⊎_elim, ◌+◌, ◌-◌, arith, false, sym, subst, true, ℕ, ◌∙◌}
use Rattle.staat_vec.proofs.Naturals.{same_or}
use Rattle.staat_ring.specs.Order.{CrossesBefore, entry_at}
use Rattle.staat_ring.proofs.order.place_in.Goals as goal

pub back-preserved : goal.back-preserved
back-preserved c =
    let planes = c.args.turn.now.table.now.planes in
    let es = c.args.es.now in
    record {
      within = omega (arith, c.back.invariant.within);
      after = λ k le lt. ⊎_elim {C = CrossesBefore planes c.args.turn.now.g c.args.e (entry_at es k)}
          (λ q. subst (λ j. CrossesBefore planes c.args.turn.now.g c.args.e (entry_at es j)) (sym q) ((c.is_before.ensures planes c.args.turn.now.g c.order_of.ensures).0 c.if-not-is_before.false))
          (λ ne. c.back.invariant.after k (omega (arith, le, ne)) lt)
          (same_or k (c.back.i - 1));
    }

off : false ≡ true → ⊥
off e = cc

place : (k i : ℕ) → k + 1 ≡ i → k ≡ i - 1
place k i e = omega (arith, e)

pub returns-then-not-is_before : goal.returns-then-not-is_before
returns-then-not-is_before c = record {
  within = c.back.invariant.within;
  after = c.back.invariant.after;
  before = λ k e p. off (sym c.if-not-is_before.true ∙ (c.is_before.ensures c.args.turn.now.table.now.planes c.args.turn.now.g c.order_of.ensures).1
      (subst (λ j. CrossesBefore c.args.turn.now.table.now.planes c.args.turn.now.g c.args.e (entry_at c.args.es.now j)) (place k c.back.i e) p));
}
