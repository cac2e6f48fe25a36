use Rattle.std.proofs.Common.{◌≡◌, ◌↔◌, ◌∙◌, ◌<◌, ◌≤◌, ◌≤ℤ◌, IsTrue, List, ap, length, subst, sym, All, Any}
use Rattle.std.specs.Prelude.{Some}
use Rattle.std.specs.Int.{w128}
use Rattle.std.proofs.lemmas.Int.{to_z-of_z}
use Rattle.staat_vec.specs.declared.vector.V3.{V3}
use Rattle.staat_vec.specs.declared.vector.TheConstants.{POINT}
use Rattle.staat_vec.specs.Vectors.{IsWithin, dot}
use Rattle.staat_model.specs.declared.assembly.Part.{Part}
use Rattle.staat_model.specs.Assemblies.{piece_at}
use Rattle.staat_model.proofs.PlanLemmas.{part_within}
use Rattle.staat_model.proofs.PieceFacets.{piece_some}
use Rattle.staat_pairs.specs.Tables.{facets_of}
use Rattle.staat_local.proofs.ByFacets.{touching_is}
use Rattle.staat_local.proofs.pieces.touch.Goals as goal

pub piece-requires-2-clause-part : goal.piece-requires-2-clause-part
piece-requires-2-clause-part c =
    let h = c.requires.made.facets c.args.arc c.requires.across in
    subst (λ (ps : List Part). c.args.arc.b < length ps) (sym c.assembly-assembly.ensures.assembly) (part_within c.args.sound.now c.args.arc.b c.args.arc.j h.q h.q_is)

pub reach-far-requires-clause-some : goal.reach-far-requires-clause-some
reach-far-requires-clause-some c =
    subst (λ (ps : List V3). 1 ≤ length ps) (sym c.points-first.ensures.points) (piece_some c.piece.result.now c.points-first.ensures.piece)

pub reach-far-requires-clause-points : goal.reach-far-requires-clause-points
reach-far-requires-clause-points c = subst (All (IsWithin POINT)) (sym c.points-first.ensures.points) c.points-first.ensures.piece.within

pub has_within-requires-clause-points : goal.has_within-requires-clause-points
has_within-requires-clause-points c = subst (All (IsWithin POINT)) (sym c.points-second.ensures.points) c.points-second.ensures.piece.within

pub returns : goal.returns
returns c =
    let parts = c.args.sound.now in
    let arc = c.args.arc in
    touching_is parts (facets_of c.args.table.now arc) c.points-first.result.now c.points-second.result.now arc c.facet_sum-n.result c.reach-far.result c.has_within.result
    c.requires.made.assembly (c.requires.made.facets arc c.requires.across)
    (subst (λ ps. piece_at ps arc.a arc.i ≡ Some c.points-first.result.now) c.assembly-assembly.ensures.assembly (c.piece.ensures ∙ ap Some (sym c.points-first.ensures.points)))
    (subst (λ ps. piece_at ps arc.b arc.j ≡ Some c.points-second.result.now) c.assembly-assembly.ensures.assembly (c.piece-2.ensures ∙ ap Some (sym c.points-second.ensures.points)))
    c.facet_sum-n.ensures.is c.reach-far.ensures
    (subst (λ z. IsTrue c.has_within.result ↔ Any (λ v. dot v c.facet_sum-n.result ≤ℤ z) c.points-second.result.now) (to_z-of_z w128 c.reach-far.result (record { sfits = c.reach-far.type_inv })) c.has_within.ensures)
