use Rattle.std.proofs.Common.{⊎_elim, inl, inr, sym, subst}
use Rattle.staat_model.specs.Sets.{Has}
use Rattle.staat_core.specs.Bonds.{AreTogether}
use Rattle.staat_core.specs.Sources.{both_ways}
use Rattle.staat_core.proofs.Bonding.{together_from, together_on, together_same}
use Rattle.staat_core.proofs.bonds.stays_together.Goals as goal

pub loop-k-init : goal.loop-k-init
loop-k-init g c = record {
  within = λ x h. subst (Has c.args.w) (sym ((c.single-joined.ensures.members x).0 h)) c.least-root.ensures.least.has;
  left = λ x h. h;
  together = λ parts d x speaks some h. together_same parts (both_ways (g.S.PairSource.pairs c.args.source.now)) c.args.w d c.least-root.result x ((c.single-joined.ensures.members x).0 h);
}

pub returns-then-not-meets : goal.returns-then-not-meets
returns-then-not-meets g c told parts d p q speaks some p_in q_in =
    let all = c.within.ensures.0 told in
    together_from parts (both_ways (g.S.PairSource.pairs c.args.source.now)) c.args.w d c.least-root.result p q (c.loop-k.invariant.together parts d p speaks some (all p p_in)) (c.loop-k.invariant.together parts d q speaks some (all q q_in))

pub returns : goal.returns
returns g c told parts d p q speaks some p_in q_in =
    let all = c.within-2.ensures.0 told in
    together_from parts (both_ways (g.S.PairSource.pairs c.args.source.now)) c.args.w d c.least-root.result p q (c.loop-k.invariant.together parts d p speaks some (all p p_in)) (c.loop-k.invariant.together parts d q speaks some (all q q_in))

pub loop-k-preserved : goal.loop-k-preserved
loop-k-preserved g c =
    let arcs = both_ways (g.S.PairSource.pairs c.args.source.now) in
    let p = c.least-p.result in
    let p_in = c.loop-k.invariant.left p c.least-p.ensures.least.has in record {
      within = λ x h. ⊎_elim {C = Has c.args.w x} (c.loop-k.invariant.within x) (λ m. ((c.without-rest.ensures.members x).0 (c.bound_to-bound.ensures.within x m)).0) ((c.union-joined.ensures.members x).0 h);
      left = λ x h.
          (c.union-joined.ensures.members x).1 (⊎_elim (λ m. inl (c.loop-k.invariant.left x m)) (λ m. inr m) ((c.union-more.ensures.members x).0 ((c.without-left.ensures.members x).0 h).0));
      together = λ parts d x speaks some h.
          ⊎_elim {C = AreTogether parts arcs c.args.w d c.least-root.result x} (c.loop-k.invariant.together parts d x speaks some)
          (λ m.
          let x_in = ((c.without-rest.ensures.members x).0 (c.bound_to-bound.ensures.within x m)).0 in
          together_on parts arcs c.args.w d c.least-root.result p x (c.loop-k.invariant.together parts d p speaks some p_in)
          (c.bound_to-bound.ensures.bound parts c.args.w d x speaks some (c.loop-k.invariant.within p p_in) x_in m))
          ((c.union-joined.ensures.members x).0 h);
    }
