-- A plan for a product has few nodes, since each of its ends has a part of its own.
use Rattle.std.proofs.Common.{◌≡◌, ◌⊎◌, ℕ, ◌+◌, ◌*◌, ◌≤◌, inl, inr, ⊎_elim, refl, sym, subst, arith, List, [], ◌∷◌, length, length-append}
use Rattle.std.specs.FinSet as set
use Rattle.std.specs.Ordering.{nat_cmp}
use Rattle.staat_model.specs.declared.assembly.Part.{Part}
use Rattle.staat_model.specs.declared.set.PartSet.{PartSet}
use Rattle.staat_model.specs.Plans.{IsGood, Plan, leaf, parts_of, split}
use Rattle.staat_model.specs.SetLists.{set_of}
use Rattle.staat_model.specs.Sets.{AreApart, Has, IsNonempty, IsSubset, below}
use Rattle.staat_model.proofs.SetBits.{has-below}
use Rattle.staat_model.proofs.SetMembers.{has-empty, has-insert, has-single}
use Rattle.staat_model.proofs.SetSizes.{len_below, len_more}
use Rattle.staat_holds.specs.declared.grouped.GroupedTree.{GroupedTree}
use Rattle.staat_holds.specs.declared.grouped.GroupedTree as tree
use Rattle.staat_holds.specs.Partials.{IsGoodPartial, partial_of, parts_in}
use Rattle.staat_short.specs.PlanNodes.{grouped_plan_of, without_groups}
use Rattle.staat_short.specs.ShortTexts.{GroupedPlan, grouped, part_alone, short_nodes_of, taken_apart}
use Rattle.staat_model.proofs.WholeLemmas.{left_within, right_within}

-- each end of the plan has a part of its own in the set
abbrev pub HasOwn : GroupedPlan → PartSet → Type 0
HasOwn (part_alone p) s = Has s p
HasOwn (grouped holds) s = IsNonempty s
HasOwn (taken_apart d m r) s = (a : PartSet) × ((b : PartSet) × (AreApart a b × IsSubset a s × IsSubset b s × HasOwn m a × HasOwn r b))

abbrev end_count : GroupedPlan → ℕ
end_count (part_alone p) = 1
end_count (grouped holds) = 1
end_count (taken_apart d m r) = end_count m + end_count r

node_count : (t : GroupedPlan) → length (short_nodes_of t) + 1 ≡ 2 * end_count t
node_count (part_alone p) = refl
node_count (grouped holds) = refl
node_count (taken_apart d m r) = let a = node_count m in let b = node_count r in omega (arith, a, b, length-append (short_nodes_of m) (short_nodes_of r))

-- the set with a part more for each end
record IsGrown (old s : PartSet) (ends : ℕ) : Type 0 where
  pub new : PartSet
  pub size : set.len new ≡ set.len old + ends
  pub members : (q : ℕ) → Has new q → Has old q ⊎ Has s q

one_grown : (old s : PartSet) (p : ℕ) → AreApart old s → Has s p → IsGrown old s 1
one_grown old s p apart own = record {
  new = set.insert old p;
  size = len_more old p (λ h. apart p h own);
  members = λ q h. ⊎_elim {C = Has old q ⊎ Has s q} (λ e. inr (subst (Has s) (sym e) own)) (λ h. inl h) ((has-insert old p q).0 h);
}

grown : (t : GroupedPlan) (old s : PartSet) → AreApart old s → HasOwn t s → IsGrown old s (end_count t)
grown (part_alone p) old s apart own = one_grown old s p apart own
grown (grouped holds) old s apart (p, own) = one_grown old s p apart own
grown (taken_apart d m r) old s apart (a, (b, (sides, a_in, b_in, first, second))) =
    let x = grown m old a (λ q h k. apart q h (a_in q k)) first in
    let y = grown r x.new b (λ q h k. ⊎_elim {C = ⊥} (λ o. apart q o (b_in q k)) (λ l. sides q l k) (x.members q h)) second in record {
      new = y.new;
      size = let e = x.size in let f = y.size in omega (arith, e, f);
      members = λ q h. ⊎_elim {C = Has old q ⊎ Has s q}
          (λ h. ⊎_elim {C = Has old q ⊎ Has s q} (λ o. inl o) (λ l. inr (a_in q l)) (x.members q h))
          (λ l. inr (b_in q l)) (y.members q h);
    }

pub few_nodes : (n : ℕ) (t : GroupedPlan) → HasOwn t (below n) → length (short_nodes_of t) + 1 ≤ 2 * n
few_nodes n t own =
    let x = grown t set.empty (below n) (λ q none k. has-empty q none) own in
    let size = x.size in
    let none : set.len (set.empty {R = nat_cmp}) ≡ 0 = set.len-empty nat_cmp in
    let most = len_below n x.new (λ q h. ⊎_elim {C = Rattle.std.proofs.Common.◌<◌ q n} (λ no. absurd (has-empty q no)) (λ l. (has-below n q).0 l) (x.members q h)) in
    let nodes = node_count t in
    omega (arith, size, none, most, nodes)

-- ---- good plans

pub own_parts : (parts : List Part) (w : PartSet) (plan : Plan) → IsGood parts w plan → HasOwn (without_groups plan) w
own_parts parts w (leaf p) good = subst (λ (s : PartSet). Has s p) (sym good) ((has-single p p).1 refl)
own_parts parts w (split d m r) good = subst (HasOwn (taken_apart d (without_groups m) (without_groups r))) (sym good.0) (
  parts_of m,
  (
    parts_of r,
    (good.1, left_within (parts_of m) (parts_of r), right_within (parts_of m) (parts_of r), own_parts parts (parts_of m) m good.3, own_parts parts (parts_of r) r good.4),
  ),
)

-- a set of two members or more that is made of a list has a first one
some_member : (ps : List ℕ) → 2 ≤ set.len (set_of ps) → IsNonempty (set_of ps)
some_member [] two = let none : set.len (set.empty {R = nat_cmp}) ≡ 0 = set.len-empty nat_cmp in absurd (omega (arith, two, none))
some_member (p ∷ ps) two = (p, (has-insert (set_of ps) p p).1 (inl refl))

pub own_groups : (parts : List Part) (w : PartSet) (t : GroupedTree) → IsGoodPartial parts w (partial_of t) → HasOwn (grouped_plan_of t) w
own_groups parts w (tree.Leaf p) good = subst (λ (s : PartSet). Has s p) (sym good) ((has-single p p).1 refl)
own_groups parts w (tree.Group group) good = subst IsNonempty (sym good.0) (some_member group.members good.1.two)
own_groups parts w (tree.Split' d p m q r) good =
    let a = parts_in (partial_of m) in
    let b = parts_in (partial_of r) in
    subst (HasOwn (taken_apart d (grouped_plan_of m) (grouped_plan_of r))) (sym good.0) (a, (b, (good.1, left_within a b, right_within a b, own_groups parts a m good.3, own_groups parts b r good.4)))
