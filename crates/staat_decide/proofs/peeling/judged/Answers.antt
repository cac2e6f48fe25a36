use Rattle.std.proofs.Common.{arith, List, ℕ, subst, sym}
use Rattle.staat_decide.specs.Peelings.{IsPeeling}
use Rattle.staat_decide.proofs.Rows.{peeling_from}
use Rattle.staat_decide.proofs.peeling.judged.Goals as goal

pub returns : goal.returns
returns c parts d moves is =
    let w = c.args.w.now in
    let keeps = c.keeps_order.ensures.0 c.if-not-keeps_order.false in
    subst (λ (sets : List (List ℕ)). IsPeeling parts d w sets) (sym c.from_vec.ensures)
    (peeling_from parts d w c.as_slice-of.result.now c.args.rows.now c.args.labels.now.count c.in_ok-sets.sets.items moves is c.requires.ascending (omega (arith, c.if-of-w.false)) keeps.0 keeps.1 c.in_ok-sets.ensures (omega (arith, c.if-len-lt2.false, c.len.ensures)))
