-- Sets of parts from which no arc leads to the rest.
use Rattle.std.proofs.Common.{◌≡◌, ◌⊎◌, ⊎_elim, inl, inr, ℕ, ap, subst, ◌∙◌, refl, List}
use Rattle.std.specs.FinSet as set
use Rattle.staat_model.specs.declared.set.PartSet.{PartSet}
use Rattle.staat_model.specs.Sets.{Has, IsSide, IsSubset, single}
use Rattle.staat_model.proofs.FreeSides.{member_or}
use Rattle.staat_model.proofs.SetMembers.{has-difference, has-single}
use Rattle.staat_model.proofs.SetWords.{same_members}
use Rattle.staat_graph.specs.Graphs.{AreReversed, HasArc, IsReach, IsShut}
use Rattle.staat_graph.proofs.Walking.{stays}
use Rattle.staat_core.specs.Moves.{MovesPart}

-- ---- where all parts reach each other

-- where each part is reached from p and reaches p, an arc leads from each side to the rest
pub no_shut_side : (rows back : List ℕ) (w out from : PartSet) (p : ℕ) → AreReversed rows back → Has w p → IsReach (HasArc rows) w p out → IsSubset w out → IsReach (HasArc back) w p from → IsSubset w from
    → (s : PartSet) → IsSide w s → IsShut (HasArc rows) w s → ⊥
no_shut_side rows back w out from p reversed p_in reached all_out reaching all_from s side shut = go (member_or s p)
  where
    rest : PartSet
    rest = set.difference w s

    -- no arc of the reversed graph leads from the rest to the side
    rest_shut : IsShut (HasArc back) w rest
    rest_shut a b ha hb arc =
        (has-difference w s b).1 (hb, λ b_in. ((has-difference w s a).0 ha).1 (shut b a b_in (((has-difference w s a).0 ha).0) ((reversed a b).0 arc)))

    go : Has s p ⊎ (Has s p → ⊥) → ⊥
    go (inl p_side) = side.proper (same_members s w side.within (λ q h. stays s shut p_side (reached.walks q (all_out q h))))
    go (inr p_out) =
        let q = side.nonempty in
        let h : Has rest q.0 = stays rest rest_shut ((has-difference w s p).1 (p_in, p_out)) (reaching.walks q.0 (all_from q.0 (side.within q.0 q.1))) in
        ((has-difference w s q.0).0 h).1 q.1

-- ---- one part

-- an arc leads from p to the rest, and one from the rest to p
pub part_stays : (rows back : List ℕ) (w alone rest : PartSet) (p : ℕ) → AreReversed rows back → alone ≡ single p → rest ≡ set.difference w alone
    → Has w p → (q : ℕ) → HasArc rows p q → Has rest q → (r : ℕ) → HasArc back p r → Has rest r → MovesPart (HasArc rows) w p → ⊥
part_stays rows back w alone rest p reversed is_alone is_rest p_in q q_arc q_in r r_arc r_in = ⊎_elim {C = ⊥}
    (λ shut. let h = out q q_in in h.1 (shut p q ((has-single p p).1 refl) h.0 q_arc))
    (λ shut.
    let h = out r r_in in
    ((has-difference w (single p) p).0 (shut r p ((has-difference w (single p) r).1 h) p_in ((reversed p r).0 r_arc))).1 ((has-single p p).1 refl))
  where
    out : (x : ℕ) → Has rest x → Has w x × (Has (single p) x → ⊥)
    out x h = (has-difference w (single p) x).0 (subst (λ (s : PartSet). Has s x) (is_rest ∙ ap (set.difference w) is_alone) h)
