use Rattle.std.proofs.Common.{◌∙◌, subst, sym, ⊎_elim}
use Rattle.std.specs.Prelude.{IsTrue}
use Rattle.std.proofs.lemmas.Bool.{false≢true}
use Rattle.staat_model.specs.declared.certificate.Arc.{Arc}
use Rattle.staat_motion.specs.Motions.{HasFacets, turned}
use Rattle.staat_motion.proofs.Kept.{has_shadows}
use Rattle.staat_decide.proofs.table.meets_by.Goals as goal

pub meets_with-requires-clause-shadows : goal.meets_with-requires-clause-shadows
meets_with-requires-clause-shadows c =
    has_shadows c.args.parts.now c.args.along.now c.args.pair c.requires.made c.requires.pieces

pub meets_with_turned-requires-clause-shadows : goal.meets_with_turned-requires-clause-shadows
meets_with_turned-requires-clause-shadows c =
    has_shadows c.args.parts.now c.args.along.now c.args.pair c.requires.made c.requires.pieces

pub returns-then-is_pair : goal.returns-then-is_pair
returns-then-is_pair c =
    let parts = c.args.parts.now in
    let facets = subst (λ (arc : Arc). HasFacets parts arc c.args.kept.now.facets) (c.is_pair.ensures.0 c.if-is_pair.true) c.requires.kept.facets in
    c.meets_with.ensures parts c.requires.made (subst (HasFacets parts c.args.pair) (sym c.as_slice.ensures) facets)

pub returns-else-is_pair : goal.returns-else-is_pair
returns-else-is_pair c =
    let parts = c.args.parts.now in
    let back = turned c.args.pair in
    let facets = ⊎_elim {C = HasFacets parts back c.args.kept.now.facets}
    (λ same. let told : IsTrue c.is_pair.result = c.is_pair.ensures.1 same in absurd (false≢true (sym c.if-is_pair.false ∙ told)))
    (λ other. subst (λ (arc : Arc). HasFacets parts arc c.args.kept.now.facets) other c.requires.kept.facets) c.requires.order in
    c.meets_with_turned.ensures parts c.requires.made (subst (HasFacets parts back) (sym c.as_slice-else-is_pair.ensures) facets)
