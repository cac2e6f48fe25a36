use Rattle.std.proofs.Common.{Contains, subst, sym}
use Rattle.staat_motion.proofs.meeting.meets_by_facets.Goals as goal

pub returns : goal.returns
returns g c =
    let are = c.in_ok-facets.ensures.facets in
    let same = c.as_slice.ensures.value in
    c.blocks-2.ensures.meets c.args.p.now c.args.q.now c.points-p.ensures.piece c.points-q.ensures.piece
    (λ n. ((λ h. are.each n (subst (λ l. Contains l n) same h)), (λ f. subst (λ l. Contains l n) (sym same) (are.all n f))))
