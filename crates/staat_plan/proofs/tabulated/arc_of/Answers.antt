use Rattle.std.proofs.Common.{◌<◌, subst, sym}
use Rattle.staat_model.proofs.PlanLemmas.{piece_within}
use Rattle.staat_plan.proofs.tabulated.arc_of.Goals as goal

pub returns : goal.returns
returns c =
    let parts = c.args.sound.now in
    let p = c.in_ok-a in
    let q = c.in_ok-b in
    let first = p.ensures in
    let second = q.ensures in (
      record {
        a_in = first.0;
        b_in = second.0;
        different = c.if-a-b.false;
        i_is = subst (λ n. p.i < n) (sym (c.requires.pieces p.a first.0)) (piece_within parts p.a p.i c.args.first.now first.1);
        j_is = subst (λ n. q.j < n) (sym (c.requires.pieces q.b second.0)) (piece_within parts q.b q.j c.args.second.now second.1);
      },
      first.1,
      second.1,
    )
