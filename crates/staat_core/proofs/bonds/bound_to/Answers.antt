use Rattle.std.proofs.Common.{◌∙◌, ⊎_elim, sym, subst}
use Rattle.staat_model.specs.Sets.{Has}
use Rattle.staat_core.specs.Bonds.{AreTogether}
use Rattle.staat_core.specs.Sources.{both_ways}
use Rattle.staat_core.proofs.bonds.bound_to.Goals.{then-has+then-is_bond, else-has}
use Rattle.staat_core.proofs.bonds.bound_to.Goals as goal

pub loop-q-preserved : goal.loop-q-preserved
loop-q-preserved g c =
    let arcs = both_ways (g.S.PairSource.pairs c.args.source.now) in
    elim c.if-has.branch [
      | then-has+then-is_bond w ↦ (record {
        within = λ x h. ⊎_elim {C = Has c.args.among x} (c.loop-q.invariant.within x) (λ here. subst (Has c.args.among) (sym ((w.single.ensures.members x).0 here)) (sym c.has.ensures ∙ w.if-has.true))
            ((w.union-bound.ensures.members x).0 (subst (λ s. Has s x) w.bound-is h));
        bound = λ parts s d x speaks some p_in x_in h. ⊎_elim {C = AreTogether parts arcs s d c.args.p x} (c.loop-q.invariant.bound parts s d x speaks some p_in x_in)
            (λ here. let e = (w.single.ensures.members x).0 here in subst (AreTogether parts arcs s d c.args.p) (sym e) (w.is_bond.ensures w.if-is_bond.true parts s d speaks some p_in (subst (Has s) e x_in)))
            ((w.union-bound.ensures.members x).0 (subst (λ s. Has s x) w.bound-is h));
      })
      | else-has w ↦ (record {
        within = λ x h. c.loop-q.invariant.within x (subst (λ s. Has s x) w.bound-is h);
        bound = λ parts s d x speaks some p_in x_in h. c.loop-q.invariant.bound parts s d x speaks some p_in x_in (subst (λ s. Has s x) w.bound-is h);
      })
    ]
