-- From sets that leave and their plans to a plan of the whole.
use Rattle.std.proofs.Common.{◌≡◌, ℕ, ◌+◌, ◌<◌, zero, suc, List, [], ◌∷◌, ◌++◌, ap, arith, get_or, length, map, refl, subst, sym, take, zero-add, ◌∙◌}
use Rattle.std.specs.Cmp.{nat_cmp_is}
use Rattle.std.specs.List.{AllByRecursion, range_with_len}
use Rattle.std.specs.declared.cmp.Ordering.TheVariants.{Less}
use Rattle.std.specs.List.Sorted.{IsStrictlySortedBy}
use Rattle.std.specs.Ordering.{nat_cmp}
use Rattle.std.proofs.lemmas.List.{map-append, take_more}
use Rattle.std.proofs.lemmas.List.Elements.{All-contains}
use Rattle.std.proofs.lemmas.List.FromFn.{get_or-range_with_len, length-range_with_len}
use Rattle.staat_vec.specs.declared.vector.V3.{V3}
use Rattle.staat_model.specs.declared.assembly.Part.{Part}
use Rattle.staat_model.specs.declared.set.PartSet.{PartSet}
use Rattle.staat_model.specs.declared.tree.Tree.{Tree}
use Rattle.staat_model.specs.Leaving.{AreGoodPlans, in_turn}
use Rattle.staat_model.specs.Plans.{IsGood, Plan, leaf, plan_of}
use Rattle.staat_model.specs.SetLists.{set_of}
use Rattle.staat_model.specs.Sets.{below}
use Rattle.staat_model.proofs.LeavingLemmas.{plans_in_turn_lemma}
use Rattle.staat_model.proofs.SetBits.{has-below}
use Rattle.staat_model.proofs.SetListings.{has-set_of}
use Rattle.staat_model.proofs.SetWords.{same_members}
use Rattle.staat_decide.specs.Peelings.{IsPeeling}
use Rattle.staat_decide.proofs.InTurn.{good_push}
use Rattle.staat_decide.proofs.Picked.{numbers_small}

pub leaf_good : (parts : List Part) (w : List ℕ) → length w ≡ 1 → IsGood parts (set_of w) (leaf (get_or w 0 0))
leaf_good parts [] e = absurd (omega (arith, e))
leaf_good parts (p ∷ []) e = refl
leaf_good parts (p ∷ q ∷ w) e = absurd (omega (arith, e))

pub good_more : (parts : List Part) (sets : List (List ℕ)) (trees : List Tree) (i : ℕ) (tree : Tree) → i < length sets
    → AreGoodPlans parts (map set_of (take i sets)) (map plan_of trees) → IsGood parts (set_of (get_or sets i [])) (plan_of tree)
    → AreGoodPlans parts (map set_of (take (i + 1) sets)) (map plan_of (trees ++ tree ∷ []))
good_more parts sets trees i tree lt are good =
    let front : map set_of (take (i + 1) sets) ≡ map set_of (take i sets) ++ set_of (get_or sets i []) ∷ [] =
    ap (map set_of) (take_more sets i [] lt) ∙ map-append set_of (take i sets) (get_or sets i [] ∷ []) in
    let plans : map plan_of (trees ++ tree ∷ []) ≡ map plan_of trees ++ plan_of tree ∷ [] = map-append plan_of trees (tree ∷ []) in
    subst (λ (ss : List PartSet). AreGoodPlans parts ss (map plan_of (trees ++ tree ∷ []))) (sym front)
    (subst (AreGoodPlans parts (map set_of (take i sets) ++ set_of (get_or sets i []) ∷ [])) (sym plans)
    (good_push parts (map set_of (take i sets)) (map plan_of trees) (set_of (get_or sets i [])) (plan_of tree) are good))

pub good_count : (parts : List Part) (sets : List (List ℕ)) (trees : List Tree) → AreGoodPlans parts (map set_of sets) (map plan_of trees)
    → length trees ≡ length sets
good_count parts [] [] are = refl
good_count parts [] (t ∷ trees) are = absurd are
good_count parts (s ∷ sets) [] are = absurd are
good_count parts (s ∷ sets) (t ∷ trees) are = let rest : length trees ≡ length sets = good_count parts sets trees are.1 in omega arith

pub good_whole : (parts : List Part) (d : V3) (w : List ℕ) (sets : List (List ℕ)) (trees : List Tree) (whole : Plan)
    → IsPeeling parts d w sets → AreGoodPlans parts (map set_of sets) (map plan_of trees)
    → ((plan : Plan) (plans : List Plan) → map plan_of trees ≡ plan ∷ plans → whole ≡ in_turn d plan plans)
    → IsGood parts (set_of w) whole
good_whole parts d w [] trees whole is are joins = let two = is.two in absurd (omega (arith, two))
good_whole parts d w (s ∷ sets) [] whole is are joins = absurd are
good_whole parts d w (s ∷ sets) (t ∷ trees) whole is are joins =
    let e : whole ≡ in_turn d (plan_of t) (map plan_of trees) = joins (plan_of t) (map plan_of trees) refl in
    subst (IsGood parts (set_of w)) (sym e)
    (subst (λ (u : PartSet). IsGood parts u (in_turn d (plan_of t) (map plan_of trees))) is.whole
    (plans_in_turn_lemma parts d (set_of s) (map set_of sets) (plan_of t) (map plan_of trees) is.order are))

-- ---- all parts

above_all : (b a n : ℕ) → b < a → AllByRecursion (λ z. nat_cmp b z ≡ Less) (range_with_len a n)
above_all b a zero lt = tt
above_all b a (suc n) lt = (sym (nat_cmp_is b a Less lt), above_all b (a + 1) n (omega (arith, lt)))

sorted_from : (a n : ℕ) → IsStrictlySortedBy nat_cmp (range_with_len a n)
unfolding IsStrictlySortedBy
sorted_from a zero = tt
sorted_from a (suc n) = (above_all a (a + 1) n (omega arith), sorted_from (a + 1) n)

pub numbers_sorted : (n : ℕ) → IsStrictlySortedBy nat_cmp (range_with_len 0 n)
numbers_sorted n = sorted_from 0 n

pub numbers_set : (n : ℕ) → set_of (range_with_len 0 n) ≡ below n
numbers_set n = same_members (set_of (range_with_len 0 n)) (below n)
    (λ p h. let c = (has-set_of (range_with_len 0 n) p).0 h in (has-below n p).1 (All-contains (λ q. q < n) (range_with_len 0 n) p (numbers_small n) c))
    (λ p h.
    let lt = (has-below n p).0 h in
    let long : length (range_with_len 0 n) ≡ n = length-range_with_len 0 n in
    let at : p < length (range_with_len 0 n) = omega (arith, long, lt) in
    (has-set_of (range_with_len 0 n) p).1 (p, at, get_or-range_with_len 0 n p p lt ∙ zero-add p))
