-- The parts of a good plan, one at each leaf.
use Rattle.std.proofs.Common.{◌≡◌, ℕ, ◌+◌, ◌*◌, ◌<◌, ◌≤◌, List, ap, sym, subst, refl}
use Rattle.std.proofs.Common.{arith, inl, inr, rules}
use Rattle.std.specs.FinSet as set
use Rattle.std.specs.FinSet.{members}
use Rattle.std.specs.Cmp.{nat_cmp_total}
use Rattle.staat_model.specs.declared.assembly.Part.{Part}
use Rattle.staat_model.specs.declared.set.PartSet.{PartSet}
use Rattle.staat_model.specs.Plans.{Plan, leaf, split, parts_of, IsGood}
use Rattle.staat_model.specs.Sets.{AreApart, Has, single, below}
use Rattle.staat_model.proofs.SetBits.{has-below}
use Rattle.staat_model.proofs.SetMembers.{has-union, has-single, has-empty}
use Rattle.staat_model.proofs.SetSizes.{len_below, len_more}
use Rattle.staat_explode.specs.Sizes.{IsShiftable}
use Rattle.staat_explode.specs.Splits.{node_count}
use Rattle.staat_model.proofs.LeavingLemmas.{good_parts}

pub placeable : (parts : List Part) (n : ℕ) (w : PartSet) (plan : Plan) → IsGood parts w plan
    → ((p : ℕ) → Has w p → p < n) → IsShiftable n plan
placeable parts n w (leaf p) h small = small p (subst (λ (s : PartSet). Has s p) (sym h) ((has-single p p).1 refl))
placeable parts n w (split d moved rest) h small =
    let up : (p : ℕ) → Has (set.union (parts_of moved) (parts_of rest)) p → p < n =
    λ p k. small p (subst (λ (s : PartSet). Has s p) (sym h.0) k) in (
      h.2.moves,
      placeable parts n (parts_of moved) moved h.3 (λ p k. up p ((has-union (parts_of moved) (parts_of rest) p).1 (inl k))),
      placeable parts n (parts_of rest) rest h.4 (λ p k. up p ((has-union (parts_of moved) (parts_of rest) p).1 (inr k))),
    )

-- joined with others, a good plan's parts are as many more as it has leaves, which are as many as half its nodes
joined : (parts : List Part) (w : PartSet) (plan : Plan) (s : PartSet) → IsGood parts w plan
    → AreApart (parts_of plan) s → 2 * set.len (set.union (parts_of plan) s) ≡ node_count plan + 1 + 2 * set.len s
joined parts w (leaf p) s h apart =
    let same : set.union (single p) s ≡ set.insert s p = set.same_set nat_cmp_total set.nat_cmp-IsAntisymmetric _ _ (λ q. grind (members, rules)) in
    omega (arith, ap (λ (t : PartSet). set.len t) same, len_more s p (apart p ((has-single p p).1 refl)))
joined parts w (split d moved rest) s h apart =
    let m = parts_of moved in
    let r = parts_of rest in
    let first = joined parts r rest s h.4 (λ q a b. apart q ((has-union m r q).1 (inr a)) b) in
    let second = joined parts m moved (set.union r s) h.3 (λ q a b. elim ((has-union r s q).0 b) [ inl c ↦ h.1 q a c | inr c ↦ apart q ((has-union m r q).1 (inl a)) c ]) in
    let same : set.union (set.union m r) s ≡ set.union m (set.union r s) = set.same_set nat_cmp_total set.nat_cmp-IsAntisymmetric _ _ (λ q. grind (members, rules)) in
    omega (arith, ap (λ (t : PartSet). set.len t) same, first, second)

-- there are fewer nodes than twice the parts
pub few_nodes : (parts : List Part) (n : ℕ) (plan : Plan) → IsGood parts (below n) plan
    → node_count plan ≤ 2 * n
few_nodes parts n plan h =
    let all = joined parts (below n) plan set.empty h (λ q a b. has-empty q b) in
    let most : set.len (set.union (parts_of plan) set.empty) ≤ n = len_below n (set.union (parts_of plan) set.empty)
    (λ q k. elim ((has-union (parts_of plan) set.empty q).0 k) [
      | inl a ↦ (has-below n q).0 (subst (λ (s : PartSet). Has s q) (sym (good_parts parts (below n) plan h)) a)
      | inr b ↦ absurd (has-empty q b)
    ]) in
    omega (arith, all, most)

pub placeable_below : (parts : List Part) (n : ℕ) (plan : Plan) → IsGood parts (below n) plan
    → IsShiftable n plan
placeable_below parts n plan h = placeable parts n (below n) plan h (λ p k. (has-below n p).0 k)
