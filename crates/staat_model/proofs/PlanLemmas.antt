-- A plan that keeps its rules is right: it takes all parts apart, and no interiors ever meet.
use Rattle.std.proofs.Common.{◌≡◌, ℕ, zero, suc, ◌+◌, ◌<◌, refl, sym, ap, subst, ◌∙◌, arith, inl, inr, ⊎_elim, List, ◌++◌, length}
use Rattle.std.specs.Prelude.{Some, slice_get, option_map, unwrap_or}
use Rattle.std.proofs.lemmas.Option.{option_and_then_some, same_Some, slice_get_within}
use Rattle.std.proofs.lemmas.List.Elements.{All-contains}
use Rattle.staat_vec.specs.declared.vector.V3.{V3}
use Rattle.staat_model.specs.declared.assembly.Part.{Part}
use Rattle.staat_model.specs.declared.set.PartSet.{PartSet}
use Rattle.staat_model.specs.declared.certificate.Sep.{Sep}
use Rattle.staat_model.specs.declared.certificate.Node.{Node}
use Rattle.staat_model.specs.declared.certificate.Node.TheVariants.{Leaf, Split}
use Rattle.staat_model.specs.Sets.{Has, below}
use Rattle.staat_model.specs.Walls.{IsShown}
use Rattle.staat_model.specs.declared.certificate.Arc.{Arc}
use Rattle.staat_model.specs.Assemblies.{HoldsAt, IsAssembly, piece_at, piece_count}
use Rattle.staat_model.specs.Removal.{IsFree}
use Rattle.staat_model.specs.Plans.{IsGood}
use Rattle.staat_model.specs.Certificates.{WalledPlan, walled_leaf, walled_split, nodes_of, unwalled, walled_parts, IsWall, IsAcross, SplitHolds, SplitsHold, IsLeafAt, PlanHolds}
use Rattle.staat_model.proofs.Differences.{from_map}
use Rattle.staat_model.proofs.Places.{get_behind, place_cases}
use Rattle.staat_model.proofs.SetBits.{has-below}
use Rattle.staat_model.proofs.SetMembers.{has-single, has-union}
use Rattle.staat_model.proofs.SetWords.{same_members}
use Rattle.staat_model.proofs.GraphLemmas.{piece_is}
use Rattle.staat_model.proofs.WallLaws.{wall_keeps_apart}
use Rattle.staat_vec.proofs.Naturals.{suc_same}
use Rattle.staat_vec.proofs.ListLaws.{get_front}

-- ---- the leaves of a plan

-- each part stands at one leaf at most
abbrev Once : List Node → Type 0
Once nodes = (k m p : ℕ) → IsLeafAt nodes k p → IsLeafAt nodes m p → k ≡ m

pub no_leaf : (d : V3) (seps : List Sep) (p : ℕ) → Some (Split d seps) ≡ Some (Leaf p) → ⊥
no_leaf d seps p e = let same : Split d seps ≡ Leaf p = same_Some (Split d seps) (Leaf p) e in cc

pub same_leaf : (p q : ℕ) → Some (Leaf p) ≡ Some (Leaf q) → p ≡ q
same_leaf p q e = let same : Leaf p ≡ Leaf q = same_Some (Leaf p) (Leaf q) e in cc

-- what stands at a leaf is one of the plan's parts, and each of them stands at one
pub leaf_has : (t : WalledPlan) (k p : ℕ) → IsLeafAt (nodes_of t) k p → Has (walled_parts t) p
leaf_has (walled_leaf q) zero p e = (has-single q p).1 (sym (same_leaf q p e))
leaf_has (walled_leaf q) (suc k) p e = cc
leaf_has (walled_split d seps moved rest) zero p e = absurd (no_leaf d seps p e)
leaf_has (walled_split d seps moved rest) (suc k) p e =
    (has-union (walled_parts moved) (walled_parts rest) p).1
    (⊎_elim (λ q. inl (leaf_has moved k p q)) (λ (i, n, q). inr (leaf_has rest i p q)) (place_cases (nodes_of moved) (nodes_of rest) k (Leaf p) e))

pub has_leaf : (t : WalledPlan) (p : ℕ) → Has (walled_parts t) p → (k : ℕ) × IsLeafAt (nodes_of t) k p
has_leaf (walled_leaf q) p h = (0, ap (λ n. Some (Leaf n)) (sym ((has-single q p).0 h)))
has_leaf (walled_split d seps moved rest) p h =
    ⊎_elim
    (λ m. let (k, e) = has_leaf moved p m in (suc k, get_front (nodes_of moved) (nodes_of rest) k (Leaf p) e))
    (λ r. let (k, e) = has_leaf rest p r in (suc (length (nodes_of moved) + k), get_behind (nodes_of moved) (nodes_of rest) k _ (Leaf p) refl e))
    ((has-union (walled_parts moved) (walled_parts rest) p).0 h)

-- ---- a split

pub piece_within : (parts : List Part) (a i : ℕ) (p : List V3) → piece_at parts a i ≡ Some p → i < piece_count parts a
piece_within parts a i p e =
    option_and_then_some {P = i < piece_count parts a} (λ part. slice_get part.pieces i) (slice_get parts a) p e
    (λ part at inside. subst (λ o. i < unwrap_or (option_map (λ part. length part.pieces) o) 0) (sym at) (slice_get_within part.pieces i p inside))

-- an arc whose pieces exist joins them
pub held_across : {R : List V3 → List V3 → Type 0} (parts : List Part) (s r : PartSet) (arc : Arc) → Has s arc.a → Has r arc.b → HoldsAt parts arc R → IsAcross parts s r arc
held_across parts s r arc a_in b_in h = record { a_in = a_in; b_in = b_in; i_in = piece_within parts arc.a arc.i h.p h.p_is; j_in = piece_within parts arc.b arc.j h.q h.q_is }

split_free : (parts : List Part) (s r : PartSet) (d : V3) (seps : List Sep) → IsAssembly parts → SplitHolds parts s r d seps → IsFree parts s r d
split_free parts s r d seps is split = record {
  moves = split.moves;
  clear = λ arc a_in b_in m.
      let (sep, in_seps, same) = from_map (λ sep. sep.arc) seps arc (split.arcs.all arc (held_across parts s r arc a_in b_in m)) in
      let wall = All-contains (IsWall parts s r d) seps sep split.walls in_seps in
      let shown = wall.shown in
      let same_p : shown.p ≡ m.p = same_Some shown.p m.p (sym shown.p_is ∙ ap (λ arc. piece_at parts arc.a arc.i) (sym same) ∙ m.p_is) in
      let same_q : shown.q ≡ m.q = same_Some shown.q m.q (sym shown.q_is ∙ ap (λ arc. piece_at parts arc.b arc.j) (sym same) ∙ m.q_is) in
      let at : IsShown m.p m.q d sep.n = subst (λ p. IsShown p m.q d sep.n) same_p (subst (λ q. IsShown shown.p q d sep.n) same_q shown.holds) in
      let piece = piece_is parts arc.a arc.i m.p is m.p_is in
      wall_keeps_apart m.p m.q d sep.n piece.solid at m.holds;
}

plan_good : (parts : List Part) (t : WalledPlan) → IsAssembly parts → SplitsHold parts t → Once (nodes_of t) → IsGood parts (walled_parts t) (unwalled t)
plan_good parts (walled_leaf p) is splits once = refl
plan_good parts (walled_split d seps moved rest) is (here, splits_moved, splits_rest) once =
    let ms = nodes_of moved in
    let rs = nodes_of rest in
    let at_front : (k p : ℕ) → IsLeafAt ms k p → IsLeafAt (ms ++ rs) k p = λ k p e. get_front ms rs k (Leaf p) e in
    let behind : (k p : ℕ) → IsLeafAt rs k p → IsLeafAt (ms ++ rs) (length ms + k) p = λ k p e. get_behind ms rs k _ (Leaf p) refl e in (
      refl,
      (λ p in_moved in_rest.
          let (k, e) = has_leaf moved p in_moved in
          let (m, f) = has_leaf rest p in_rest in
          let same = once (suc k) (suc (length ms + m)) p (at_front k p e) (behind m p f) in
          let low = slice_get_within ms k (Leaf p) e in
          omega (arith, same, low)),
      split_free parts (walled_parts moved) (walled_parts rest) d seps is here,
      plan_good parts moved is splits_moved (λ k m p e f. suc_same k m (once (suc k) (suc m) p (at_front k p e) (at_front m p f))),
      plan_good parts rest is splits_rest (λ k m p e f. omega (arith, once (suc (length ms + k)) (suc (length ms + m)) p (behind k p e) (behind m p f))),
    )

pub plan_is_right_lemma : (parts : List Part) (stated : ℕ) (nodes : List Node) → IsAssembly parts → PlanHolds parts stated nodes
    → (tree : WalledPlan) × (nodes ≡ nodes_of tree) × IsGood parts (below (length parts)) (unwalled tree)
plan_is_right_lemma parts stated nodes is holds =
    let t = holds.tree in
    let leaves = holds.leaves in
    let at : (k p : ℕ) → IsLeafAt (nodes_of t) k p → IsLeafAt nodes k p = λ k p e. subst (λ ns. IsLeafAt ns k p) (sym holds.tree_is) e in
    let good = plan_good parts t is holds.splits (λ k m p e f. leaves.once k m p (at k p e) (at m p f)) in
    let whole : walled_parts t ≡ below (length parts) =
    same_members (walled_parts t) (below (length parts))
    (λ p h. let (k, e) = has_leaf t p h in (has-below (length parts) p).1 (leaves.each k p (at k p e)))
    (λ p h. let (k, e) = leaves.all p ((has-below (length parts) p).0 h) in leaf_has t k p (subst (λ ns. IsLeafAt ns k p) holds.tree_is e)) in
    (t, holds.tree_is, subst (λ w. IsGood parts w (unwalled t)) whole good)

pub part_at : (parts : List Part) (a i : ℕ) (p : List V3) → piece_at parts a i ≡ Some p → (part : Part) × (slice_get parts a ≡ Some part) × (slice_get part.pieces i ≡ Some p)
part_at parts a i p e = option_and_then_some (λ part. slice_get part.pieces i) (slice_get parts a) p e (λ part at inside. (part, at, inside))

pub part_within : (parts : List Part) (a i : ℕ) (p : List V3) → piece_at parts a i ≡ Some p → a < length parts
part_within parts a i p e = let t = part_at parts a i p e in slice_get_within parts a t.0 t.1
