-- There is one plane table, one list of cells, and one list of directions to try.
use Rattle.std.proofs.Common.{◌≡◌, ◌≢◌, Bool, true, false, List, [], ◌∷◌, ◌++◌, map, Contains, ap, sym, ◌∙◌, subst}
use Rattle.staat_vec.specs.declared.vector.V3.{V3}
use Rattle.staat_vec.specs.declared.vector.Sign.{Sign}
use Rattle.staat_vec.specs.Vectors.{plus, vector_cmp}
use Rattle.staat_model.specs.declared.assembly.Part.{Part}
use Rattle.staat_model.specs.declared.set.PartSet.{PartSet}
use Rattle.staat_model.specs.declared.tree.Kind.{Kind}
use Rattle.staat_model.specs.declared.tree.Kind.TheVariants.{Point, Edge, Open}
use Rattle.staat_vec.specs.Lists.{IsLeast}
use Rattle.staat_model.specs.Planes.{ArePlanes, IsFacetPlane, axes, vertices}
use Rattle.staat_model.specs.Cells.{signs_of, signs_cmp, kind_of, IsCell, IsEnd, IsEdgeSum, IsBorderEdge, IsOpenSum, IsRepresentative, CellEntry, IsEntry, AreCellsOf}
use Rattle.staat_model.specs.Outcomes.{Try, try_vertex, try_cell, AreTries}
use Rattle.staat_vec.proofs.VectorOrder.{vector_total, vector_exact}
use Rattle.staat_model.proofs.Members.{known_by}
use Rattle.staat_model.proofs.Orders.{signs_total, signs_exact}
use Rattle.staat_vec.proofs.Unique.{IsFirst-unique, IsLeast-unique, Lists-unique}

pub ArePlanes-unique : (parts : List Part) (w : PartSet) (ps qs : List V3) → ArePlanes parts w ps → ArePlanes parts w qs → ps ≡ qs
ArePlanes-unique parts w ps qs a b =
    a.is ∙ ap (λ os. axes ++ os) (Lists-unique vector_cmp vector_total vector_exact (λ n. IsFacetPlane parts w n × (Contains axes n → ⊥)) a.others b.others a.others_are b.others_are) ∙ sym b.is

edge_unique : (planes : List V3) (s : List Sign) (d e : V3) → IsEdgeSum planes s d → IsEdgeSum planes s e → d ≡ e
edge_unique planes s d e a b =
    let ends : a.u ∷ a.v ∷ [] ≡ b.u ∷ b.v ∷ [] = Lists-unique vector_cmp vector_total vector_exact (IsEnd planes s) (a.u ∷ a.v ∷ []) (b.u ∷ b.v ∷ []) a.ends b.ends in
    let first : a.u ≡ b.u = cc in
    let second : a.v ≡ b.v = cc in
    a.is ∙ (λ i. plus (first i) (second i)) ∙ sym b.is

open_unique : (planes : List V3) (s : List Sign) (d e : V3) → IsOpenSum planes s d → IsOpenSum planes s e → d ≡ e
open_unique planes s d e a b =
    let first : a.e ≡ b.e = IsLeast-unique signs_cmp signs_total signs_exact (IsBorderEdge planes s) a.e b.e a.first b.first in
    let second : a.f ≡ b.f = IsLeast-unique signs_cmp signs_total signs_exact (λ g. IsBorderEdge planes s g × (g ≢ b.e)) a.f b.f (subst (λ h. IsLeast signs_cmp (λ g. IsBorderEdge planes s g × (g ≢ h)) a.f) first a.second) b.second in
    a.is ∙ (λ i. plus (edge_unique planes b.e a.u b.u (subst (λ h. IsEdgeSum planes h a.u) first a.u_is) b.u_is i) (edge_unique planes b.f a.v b.v (subst (λ h. IsEdgeSum planes h a.v) second a.v_is) b.v_is i)) ∙ sym b.is

representative_unique : (kind : Kind) (planes : List V3) (s : List Sign) (d e : V3) → IsRepresentative kind planes s d → IsRepresentative kind planes s e → d ≡ e
representative_unique Point planes s d e a b = IsFirst-unique (λ v. signs_of planes v ≡ s) (vertices planes) d e a b
representative_unique Edge planes s d e a b = edge_unique planes s d e a b
representative_unique Open planes s d e a b = open_unique planes s d e a b

entry_unique : (planes : List V3) (kind : Kind) (c e : CellEntry) → c.signs ≡ e.signs → IsEntry planes kind c → IsEntry planes kind e → c ≡ e
entry_unique planes kind c e same a b =
    let kinds : c.kind ≡ e.kind = a.kind_is ∙ sym b.kind_is in
    let ds : c.d ≡ e.d = representative_unique kind planes e.signs c.d e.d (subst (λ s. IsRepresentative kind planes s c.d) same a.representative) b.representative in
    λ i. record { kind = kinds i; d = ds i; signs = same i }

pub AreCellsOf-unique : (planes : List V3) (kind : Kind) (xs ys : List CellEntry) → AreCellsOf planes kind xs → AreCellsOf planes kind ys → xs ≡ ys
AreCellsOf-unique planes kind xs ys a b =
    known_by (λ c. c.signs) (IsEntry planes kind) (entry_unique planes kind) xs ys
    (Lists-unique signs_cmp signs_total signs_exact (λ s. IsCell planes s × (kind_of s ≡ kind)) (map (λ c. c.signs) xs) (map (λ c. c.signs) ys) a.signs b.signs) a.each b.each

pub tries_unique : (robust : Bool) (parts : List Part) (w : PartSet) (xs ys : List Try) → AreTries robust parts w xs → AreTries robust parts w ys → xs ≡ ys
tries_unique false parts w xs ys a b = a.is ∙ ap (λ ps. map try_vertex (vertices ps)) (ArePlanes-unique parts w a.planes b.planes a.planes_are b.planes_are) ∙ sym b.is
tries_unique true parts w xs ys a b =
    let same : a.planes ≡ b.planes = ArePlanes-unique parts w a.planes b.planes a.planes_are b.planes_are in
    let opens : a.opens ≡ b.opens = AreCellsOf-unique b.planes Open a.opens b.opens (subst (λ ps. AreCellsOf ps Open a.opens) same a.opens_are) b.opens_are in
    let edges : a.edges ≡ b.edges = AreCellsOf-unique b.planes Edge a.edges b.edges (subst (λ ps. AreCellsOf ps Edge a.edges) same a.edges_are) b.edges_are in
    let points : a.points ≡ b.points = AreCellsOf-unique b.planes Point a.points b.points (subst (λ ps. AreCellsOf ps Point a.points) same a.points_are) b.points_are in
    a.is ∙ (λ i. map try_cell (opens i ++ edges i ++ points i)) ∙ sym b.is
