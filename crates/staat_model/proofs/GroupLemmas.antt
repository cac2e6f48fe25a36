-- Nodes that stay whole are held together along each direction, where a core does so at each vertex of its planes.
use Rattle.std.proofs.Common.{◌≡◌, ℕ, zero, suc, ◌≤◌, ◌<◌, refl, sym, subst, ◌∙◌, arith, inl, inr, List, [], ◌∷◌, All, Contains}
use Rattle.std.specs.FinSet as set
use Rattle.staat_vec.specs.declared.vector.V3.{V3}
use Rattle.staat_model.specs.declared.assembly.Part.{Part}
use Rattle.staat_model.specs.declared.set.PartSet.{PartSet}
use Rattle.staat_model.specs.declared.certificate.Arc.{Arc}
use Rattle.staat_model.specs.Assemblies.{IsPart}
use Rattle.staat_model.specs.Cores.{HasCorePlanes}
use Rattle.staat_model.specs.Groups.{AreNodes, HoldsNodesAtVertices, IsNode, KeepsWhole}
use Rattle.staat_model.specs.Plans.{IsStuck}
use Rattle.staat_model.specs.Removal.{IsFree}
use Rattle.staat_model.specs.SetLists.{union_of}
use Rattle.staat_model.specs.Sets.{Has, IsNonempty, IsSubset, single}
use Rattle.staat_model.proofs.CoreLemmas.{free_at_vertex_lemma}
use Rattle.staat_model.proofs.WholeLemmas.{left_within, moves_whole_lemma, right_within}
use Rattle.staat_model.proofs.RestrictLemmas.{nonempty_or}
use Rattle.staat_model.proofs.SetMembers.{has-single}
use Rattle.staat_model.proofs.SetSizes.{len_below, many}
use Rattle.staat_vec.proofs.Unique.{Contains-front}
use Rattle.staat_vec.proofs.ListLaws.{Contains-there}

-- ---- all nodes together

-- a set of the list lies within the union
pub within_union : (sets : List PartSet) (t : PartSet) → Contains sets t → IsSubset t (union_of sets)
within_union [] t (k, lt, e) = absurd (omega arith)
within_union (s ∷ rest) t (zero, lt, e) =
    subst (λ (u : PartSet). IsSubset u (union_of (s ∷ rest))) e (left_within s (union_of rest))
within_union (s ∷ rest) t (suc k, lt, e) = λ p h.
    right_within s (union_of rest) p (within_union rest t (k, omega arith, e) p h)

-- a side that is free along some direction keeps each node whole
pub free_keeps_whole : (parts : List Part) (nodes : List PartSet) (s : PartSet) (d : V3)
    → ((t : PartSet) → Contains nodes t → IsNode parts t)
    → IsFree parts s (set.difference (union_of nodes) s) d → KeepsWhole nodes s
free_keeps_whole parts nodes s d each free t t_in p q p_in q_in moved = go (each t t_in)
  where
    go : IsNode parts t → Has s q
    go (inl (one, e)) =
        let only : (r : ℕ) → Has t r → r ≡ one =
        λ r h. (has-single one r).0 (subst (λ (u : PartSet). Has u r) e h) in
        subst (Has s) (only p p_in ∙ sym (only q q_in)) moved
    go (inr stuck) =
        moves_whole_lemma parts t (union_of nodes) s d p q stuck (within_union nodes t t_in) free p_in q_in moved

node_nonempty : (parts : List Part) (t : PartSet) → IsNode parts t → IsNonempty t
node_nonempty parts t (inl (p, e)) = (p, subst (λ (u : PartSet). Has u p) (sym e) ((has-single p p).1 refl))
node_nonempty parts t (inr stuck) = elim (nonempty_or t) [
  | inl one ↦ one
  | inr none ↦
      let few = len_below 0 t (λ q h. absurd (none q h)) in
      let two : 2 ≤ set.len t = stuck.two in
      absurd (omega (arith, few, two))
]

-- two nodes that are apart have two parts
two_parts : (parts : List Part) (nodes : List PartSet) → AreNodes parts nodes → 2 ≤ set.len (union_of nodes)
two_parts parts (s ∷ t ∷ rest) are =
    let nodes : List PartSet = s ∷ t ∷ rest in
    let s_in : Contains nodes s = Contains-front s (t ∷ rest) in
    let t_in : Contains nodes t = Contains-there s t (t ∷ rest) (Contains-front t rest) in
    let (p, p_in) = node_nonempty parts s (are.each s s_in) in
    let (q, q_in) = node_nonempty parts t (are.each t t_in) in
    let other : IsSubset (union_of nodes) (single p) → ⊥ = λ one.
    let same : q ≡ p = (has-single p q).0 (one q (within_union nodes t t_in q q_in)) in
    are.apart.0 t (Contains-front t rest) p p_in (subst (Has t) same q_in) in
    let more : 1 < set.len (union_of nodes) = many (union_of nodes) p (within_union nodes s s_in p p_in) other in
    omega (arith, more)
two_parts parts nodes are = let two = are.two in absurd (omega (arith, two))

pub nodes_stuck_lemma : (parts : List Part) (core : List Arc) (nodes : List PartSet) (planes : List V3)
    → All IsPart parts → AreNodes parts nodes → HasCorePlanes parts core planes
    → HoldsNodesAtVertices parts core nodes planes → IsStuck parts (union_of nodes)
nodes_stuck_lemma parts core nodes planes sound are has at_vertices = record {
  two = two_parts parts nodes are;
  held = λ s d side free.
      let at = free_at_vertex_lemma parts core planes s (set.difference (union_of nodes) s) d sound has free.moves (λ arc listed. free.clear arc) in
      at_vertices at.v at.vertex s side (free_keeps_whole parts nodes s d are.each free) at.free;
}
