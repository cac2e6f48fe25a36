use Rattle.std.proofs.Common.{⊎_elim, arith, subst}
use Rattle.staat_model.specs.Sets.{Has}
use Rattle.staat_graph.specs.Graphs.{HasArc}
use Rattle.staat_core.specs.Moves.{MovesPart}
use Rattle.staat_core.proofs.joins.Joins.shut_part.Goals as goal
use Rattle.staat_core.proofs.joins.Joins.shut_part.Goals.{then-has+in_default, else-has}
use Rattle.staat_vec.proofs.Naturals.{lt_one_more_cases}

pub loop-p-preserved : goal.loop-p-preserved
loop-p-preserved c p has lt moves =
    let R = HasArc c.args.self.now.ahead.rows in
    ⊎_elim {C = ⊥} (λ before. c.loop-p.invariant p has before moves)
    (λ same. elim c.if-has.branch [
      | then-has+in_default w ↦ w.in_default.ensures (subst (MovesPart R c.args.w) same moves)
      | else-has w ↦ (let h : Has c.args.w c.loop-p.p = subst (Has c.args.w) same has in let none = w.if-has.false in absurd cc)
    ])
    (lt_one_more_cases p c.loop-p.p lt)

pub returns : goal.returns
returns c p has moves = c.loop-p.invariant p has (let small = c.bits-bits.ensures.small p has in let past = c.loop-p-test.false in omega (arith, small, past)) moves
