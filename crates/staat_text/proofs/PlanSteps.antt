-- A plan has fewer steps than parts.
use Rattle.std.proofs.Common.{◌≡◌, ◌∙◌, ◌⊎◌, inl, inr, ⊎_elim, ℕ, zero, suc, ◌+◌, ◌<◌, ◌≤◌, List, refl, sym, ap, subst, arith}
use Rattle.std.specs.FinSet as set
use Rattle.std.specs.Ordering.{nat_cmp}
use Rattle.staat_vec.specs.declared.vector.V3.{V3}
use Rattle.staat_model.specs.declared.set.PartSet.{PartSet}
use Rattle.staat_model.specs.Plans.{IsGood, Plan, leaf, parts_of, split}
use Rattle.staat_model.specs.Sets.{AreApart, Has, IsNonempty, IsSubset, single}
use Rattle.staat_model.proofs.SetMembers.{has-difference, has-empty, has-insert, has-single, has-union}
use Rattle.staat_model.proofs.SetSizes.{len-single, len_below, len_more}
use Rattle.staat_model.proofs.SetWords.{same_members}
use Rattle.staat_graph.proofs.Finite.{len_fewer, len_subset}
use Rattle.std.specs.Prelude.{Bool}
use Rattle.staat_model.specs.declared.assembly.Part.{Part}
use Rattle.staat_model.proofs.LeavingLemmas.{good_parts}
use Rattle.staat_model.proofs.OneOutcome.{IsOutcome-unique}
use Rattle.staat_text.specs.PlanTexts.{AreLeavesApart, HasLeaves, IsPlanText, plan_text, steps_of}
use Rattle.staat_model.proofs.RestrictLemmas.{nonempty_or}
use Rattle.staat_vec.proofs.Naturals.{same_or}

module _ (a b : PartSet) (p : ℕ) (h : Has a p) where
  abbrev less : PartSet
  less = set.difference a (single p)

  less_in : IsSubset less a
  less_in q m = ((has-difference a (single p) q).0 m).0

  less_out : Has less p → ⊥
  less_out m = ((has-difference a (single p) p).0 m).1 ((has-single p p).1 refl)

  back : set.insert less p ≡ a
  back = same_members (set.insert less p) a
      (λ q m. ⊎_elim (λ e. subst (Has a) (sym e) h) (less_in q) ((has-insert less p q).0 m))
      (λ q m. (has-insert less p q).1 (⊎_elim {C = (q ≡ p) ⊎ Has less q} (λ e. inl e) (λ ne. inr ((has-difference a (single p) q).1 (m, λ s. ne ((has-single p q).0 s)))) (same_or q p)))

  len_less : set.len a ≡ set.len less + 1
  len_less = ap set.len (sym back) ∙ len_more less p less_out

  joined_less : AreApart a b → set.len (set.union less b) < set.len (set.union a b)
  joined_less apart = len_fewer (set.union less b) (set.union a b) p
      (λ q m. (has-union a b q).1 (⊎_elim {C = Has a q ⊎ Has b q} (λ l. inl (less_in q l)) (λ r. inr r) ((has-union less b q).0 m)))
      ((has-union a b p).1 (inl h))
      (λ m. ⊎_elim {C = ⊥} less_out (apart p h) ((has-union less b p).0 m))

-- sets without a common member have no more members than their union
one_less : (n : ℕ) (a b : PartSet) → ((c : PartSet) → set.len c + 1 ≤ n → AreApart c b → set.len c + set.len b ≤ set.len (set.union c b)) → set.len a ≤ n → AreApart a b → IsNonempty a ⊎ ((q : ℕ) → Has a q → ⊥) → set.len a + set.len b ≤ set.len (set.union a b)
one_less n a b below le apart (inr none) =
    let e : set.len a ≡ 0 = ap set.len (same_members a set.empty (λ q m. absurd (none q m)) (λ q m. absurd (has-empty q m))) ∙ set.len-empty nat_cmp in
    let s : set.len b ≤ set.len (set.union a b) = len_subset b (set.union a b) (λ q m. (has-union a b q).1 (inr m)) in
    omega (arith, e, s)
one_less n a b below le apart (inl (p, h)) =
    let e : set.len a ≡ set.len (less a b p h) + 1 = len_less a b p h in
    let rest : set.len (less a b p h) + set.len b ≤ set.len (set.union (less a b p h) b) = below (less a b p h) (omega (arith, e, le)) (λ q m r. apart q (less_in a b p h q m) r) in
    let more = joined_less a b p h apart in
    omega (arith, e, rest, more)

pub len_within : (n : ℕ) (a b : PartSet) → set.len a ≤ n → AreApart a b → set.len a + set.len b ≤ set.len (set.union a b)
len_within zero a b le apart = one_less zero a b (λ c lt. absurd (omega (arith, lt))) le apart (nonempty_or a)
len_within (suc n) a b le apart = one_less (suc n) a b (λ c lt. len_within n c b (omega (arith, lt))) le apart (nonempty_or a)

pub steps_fewer : (plan : Plan) → AreLeavesApart plan → steps_of plan + 1 ≤ set.len (parts_of plan)
steps_fewer (leaf p) h = let e : set.len (single p) ≡ 1 = len-single p in omega (arith, e)
steps_fewer (split d m r) h =
    let a = steps_fewer m h.1 in
    let b = steps_fewer r h.2 in
    let c = len_within (set.len (parts_of m)) (parts_of m) (parts_of r) (omega arith) h.0 in
    omega (arith, a, b, c)

pub steps_small : (plan : Plan) → HasLeaves plan → steps_of plan < 1024
steps_small plan h =
    let a = steps_fewer plan h.apart in
    let b = len_below 1024 (parts_of plan) h.small in
    omega (arith, a, b)

-- ---- at a split

module _ (tree : Plan) (d : V3) (m r : Plan) (is : tree ≡ split d m r) (side : Plan) where
  pub moved_fewer : side ≡ m → steps_of side < steps_of tree
  moved_fewer same = let e : steps_of tree ≡ 1 + steps_of m + steps_of r = ap steps_of is in let k = ap steps_of same in omega (arith, e, k)

  pub rest_fewer : side ≡ r → steps_of side < steps_of tree
  rest_fewer same = let e : steps_of tree ≡ 1 + steps_of m + steps_of r = ap steps_of is in let k = ap steps_of same in omega (arith, e, k)

  moved_in : (p : ℕ) → Has (parts_of m) p → Has (parts_of tree) p
  moved_in p h = subst (λ (t : Plan). Has (parts_of t) p) (sym is) ((has-union (parts_of m) (parts_of r) p).1 (inl h))

  rest_in : (p : ℕ) → Has (parts_of r) p → Has (parts_of tree) p
  rest_in p h = subst (λ (t : Plan). Has (parts_of t) p) (sym is) ((has-union (parts_of m) (parts_of r) p).1 (inr h))

  pub moved_leaves : side ≡ m → HasLeaves tree → HasLeaves side
  moved_leaves same h = subst HasLeaves (sym same) (record { small = λ p in_m. h.small p (moved_in p in_m); apart = (subst AreLeavesApart is h.apart).1 })

  pub rest_leaves : side ≡ r → HasLeaves tree → HasLeaves side
  rest_leaves same h = subst HasLeaves (sym same) (record { small = λ p in_r. h.small p (rest_in p in_r); apart = (subst AreLeavesApart is h.apart).2 })

-- ---- of what is planned

pub one_text : (robust : Bool) (parts : List Part) (w : PartSet) (text other : List ℕ) → IsPlanText robust parts w text → IsPlanText robust parts w other → text ≡ other
one_text robust parts w text other a b = a.is ∙ ap plan_text (IsOutcome-unique robust parts a.outcome b.outcome) ∙ sym b.is

good_apart : (parts : List Part) (plan : Plan) (w : PartSet) → IsGood parts w plan → AreLeavesApart plan
good_apart parts (leaf p) w good = tt
good_apart parts (split d m r) w good = (good.1, good_apart parts m (parts_of m) good.3, good_apart parts r (parts_of r) good.4)

pub product_leaves : (parts : List Part) (plan : Plan) (w : PartSet) → ((p : ℕ) → Has w p → p < 1024) → IsGood parts w plan → HasLeaves plan
product_leaves parts plan w small good = record {
  small = λ p h. small p (subst (λ (u : PartSet). Has u p) (sym (good_parts parts w plan good)) h);
  apart = good_apart parts plan w good;
}

pub good_leaves : (parts : List Part) (plan : Plan) (w : PartSet) → ((p : ℕ) → Has w p → p < 32) → IsGood parts w plan → HasLeaves plan
good_leaves parts plan w small good = product_leaves parts plan w (λ p h. omega (arith, small p h)) good
