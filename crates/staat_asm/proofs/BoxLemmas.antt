-- What boxes say of overlaps: pieces that overlap meet along no direction at all.
use Rattle.std.proofs.Common.{◌≡◌, ◌∙◌, ◌↔◌, ℕ, List, Bool, Some, subst, sym}
use Rattle.std.specs.Prelude.{IsTrue}
use Rattle.staat_vec.specs.declared.vector.V3.{V3}
use Rattle.staat_model.specs.declared.assembly.Part.{Part}
use Rattle.staat_model.specs.declared.certificate.Arc.{Arc}
use Rattle.staat_model.specs.Assemblies.{HoldsAt, piece_at}
use Rattle.staat_model.specs.Meeting.{Meets, Overlap}
use Rattle.staat_model.specs.Removal.{MeetsAlong}
use Rattle.staat_motion.specs.Motions.{Motion}
use Rattle.staat_asm.specs.Overlaps.{IsAtRest, IsOverlapWithPart}
use Rattle.staat_vec.proofs.Options.{some_injective}

pub overlap_meets : (parts : List Part) (boxes : Motion) (arc : Arc) → IsAtRest parts boxes → HoldsAt parts arc Overlap → MeetsAlong parts boxes.d arc
overlap_meets parts boxes arc rest at = record {
  p = at.p;
  q = at.q;
  p_is = at.p_is;
  q_is = at.q_is;
  holds = subst (Meets at.p at.q) (sym rest.still) (record { t = 0; meeting = at.holds });
}

-- a piece that meets none of a part's overlaps none of them
pub none_with_part : (parts : List Part) (boxes : Motion) (a i b : ℕ) → IsAtRest parts boxes → ((j : ℕ) → MeetsAlong parts boxes.d (record { a = a; i = i; b = b; j = j }) → ⊥) → (arc : Arc) → IsOverlapWithPart parts a i b arc → ⊥
none_with_part parts boxes a i b rest never arc is =
    never arc.j (overlap_meets parts boxes (record { a = a; i = i; b = b; j = arc.j }) rest
    (subst (λ x. HoldsAt parts x Overlap) (λ t. record { a = is.0.0.1 t; i = is.0.1 t; b = is.1 t; j = arc.j }) is.0.0.0.1))

-- what is known of two pieces is known of the arc
pub overlap_at : (parts : List Part) (arc : Arc) (p q : List V3) (r : Bool) → piece_at parts arc.a arc.i ≡ Some p → piece_at parts arc.b arc.j ≡ Some q → IsTrue r ↔ Overlap p q → IsTrue r ↔ HoldsAt parts arc Overlap
overlap_at parts arc p q r p_is q_is told = (
  (λ h. record { p = p; q = q; p_is = p_is; q_is = q_is; holds = told.0 h }),
  (λ at.
      let p_same = some_injective at.p p (sym at.p_is ∙ p_is) in
      let q_same = some_injective at.q q (sym at.q_is ∙ q_is) in
      told.1 (subst (λ u. Overlap u q) p_same (subst (λ u. Overlap at.p u) q_same at.holds))),
)
