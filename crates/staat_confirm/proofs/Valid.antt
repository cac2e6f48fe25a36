-- What is good is called valid.
use Rattle.std.proofs.Common.{zero, suc, List, [], ◌∷◌, ◌++◌, length, refl, sym, subst, arith, All, ⊎_elim}
use Rattle.std.proofs.lemmas.List.Elements.{All-append, All-cons, All-head, All-nil, All-tail}
use Rattle.staat_model.specs.declared.assembly.Part.{Part}
use Rattle.staat_model.specs.declared.set.PartSet.{PartSet}
use Rattle.staat_model.specs.Plans.{IsGood, Plan, leaf, parts_of, split}
use Rattle.staat_model.specs.SetLists.{set_of}
use Rattle.staat_model.specs.Sets.{below}
use Rattle.staat_model.proofs.Members.{all_back, all_front}
use Rattle.staat_model.proofs.SetListings.{has-set_of}
use Rattle.staat_holds.specs.declared.grouped.Group.{Group as GroupValue}
use Rattle.staat_holds.specs.declared.grouped.GroupedTree.{GroupedTree}
use Rattle.staat_holds.specs.declared.grouped.GroupedTree as tree
use Rattle.staat_holds.specs.declared.hold.Hold.{Hold}
use Rattle.staat_holds.specs.Chains.{AllKeep, KeepsHoldRules, own_names}
use Rattle.staat_holds.specs.Partials.{HasShownGroups, HasTogether, IsGoodPartial, IsShownGroup, IsShownRest, partial_of, parts_in}
use Rattle.staat_short.specs.declared.short.ShortAnswer.TheVariants as answer
use Rattle.staat_short.specs.declared.short.ShortNode.TheVariants.{Leaf, Split, Group}
use Rattle.staat_short.specs.PlanNodes.{grouped_plan_of, plan_nodes, without_groups}
use Rattle.staat_short.specs.ShortTexts.{GroupedPlan, IsUngrouped, short_nodes_of}
use Rattle.staat_short.proofs.PlanTrees.{no_groups, one_tree}
use Rattle.staat_confirm.specs.declared.verdict.ShortVerdict.TheVariants.{ValidPlan, ValidRefusal}
use Rattle.staat_confirm.specs.Splits.{KeepsHolds}
use Rattle.staat_confirm.specs.ShortVerdicts.{IsGoodDownTo, IsShortVerdict, IsStuckGroup, KeepNodeRules, right_count}
use Rattle.staat_confirm.proofs.Apart.{clear_splits, members_once}
use Rattle.staat_vec.proofs.Options.{some_injective}

-- ---- plans

plan_down : (parts : List Part) (w : PartSet) (t : Plan) → IsGood parts w t → IsGoodDownTo parts w (without_groups t)
plan_down parts w (leaf p) good = good
plan_down parts w (split d m r) good = (parts_of m, (parts_of r, (good.0, good.1, good.2, plan_down parts (parts_of m) m good.3, plan_down parts (parts_of r) r good.4)))

plan_holds : (parts : List Part) (t : Plan) → All (KeepsHolds parts) (plan_nodes t)
plan_holds parts (leaf p) = All-cons (KeepsHolds parts) (Leaf p) [] tt (All-nil (KeepsHolds parts))
plan_holds parts (split d m r) = All-cons (KeepsHolds parts) (Split d) (plan_nodes m ++ plan_nodes r) tt (All-append (KeepsHolds parts) (plan_nodes m) (plan_nodes r) (plan_holds parts m) (plan_holds parts r))

rules_kept : (parts : List Part) (t : GroupedPlan) → All (KeepsHolds parts) (short_nodes_of t) → IsGoodDownTo parts (below (length parts)) t → KeepNodeRules parts (short_nodes_of t)
rules_kept parts t holds good = record { holds = holds; members = members_once parts t good; splits = clear_splits parts t (below (length parts)) good }

pub good_plan : (parts : List Part) (t : Plan) → IsGood parts (below (length parts)) t → IsShortVerdict parts (record { parts = length parts; answer = answer.Plan (plan_nodes t) }) ValidPlan
good_plan parts t good =
    let down = plan_down parts (below (length parts)) t good in
    let keep = rules_kept parts (without_groups t) (subst (All (KeepsHolds parts)) (one_tree t) (plan_holds parts t)) down in
    right_count refl (subst (KeepNodeRules parts) (sym (one_tree t)) keep, no_groups t)

-- ---- plans that end in groups

group_down : (parts : List Part) (group : GroupValue) → IsShownGroup parts group → Rattle.staat_model.specs.Plans.IsStuck parts (set_of group.members) → IsStuckGroup parts (set_of group.members) group.holds
group_down parts group shown stuck =
    let lists = shown.members in record {
      members = λ p. (λ h. lists.each p ((has-set_of group.members p).0 h), λ j. (has-set_of group.members p).1 (lists.all p j));
      stuck = stuck;
    }

tree_down : (parts : List Part) (w : PartSet) (t : GroupedTree) → IsGoodPartial parts w (partial_of t) → HasShownGroups parts t → IsGoodDownTo parts w (grouped_plan_of t)
tree_down parts w (tree.Leaf p) good shown = good
tree_down parts w (tree.Group group) good shown = subst (λ v. IsStuckGroup parts v group.holds) (sym good.0) (group_down parts group shown good.1)
tree_down parts w (tree.Split' d p m q r) good shown =
    let a = parts_in (partial_of m) in
    let b = parts_in (partial_of r) in
    (a, (b, (good.0, good.1, good.2, tree_down parts a m good.3 shown.0, tree_down parts b r good.4 shown.1)))

tree_holds : (parts : List Part) (t : GroupedTree) → HasShownGroups parts t → All (KeepsHolds parts) (short_nodes_of (grouped_plan_of t))
tree_holds parts (tree.Leaf p) shown = All-cons (KeepsHolds parts) (Leaf p) [] tt (All-nil (KeepsHolds parts))
tree_holds parts (tree.Group group) shown = All-cons (KeepsHolds parts) (Group group.holds) [] shown.keep (All-nil (KeepsHolds parts))
tree_holds parts (tree.Split' d p m q r) shown = All-cons (KeepsHolds parts) (Split d) (short_nodes_of (grouped_plan_of m) ++ short_nodes_of (grouped_plan_of r)) tt
    (All-append (KeepsHolds parts) (short_nodes_of (grouped_plan_of m)) (short_nodes_of (grouped_plan_of r)) (tree_holds parts m shown.0) (tree_holds parts r shown.1))

some_grouped : (t : GroupedTree) → HasTogether (partial_of t) → All IsUngrouped (short_nodes_of (grouped_plan_of t)) → ⊥
some_grouped (tree.Leaf p) has none = has
some_grouped (tree.Group group) has none = All-head IsUngrouped (Group group.holds) [] none
some_grouped (tree.Split' d p m q r) has none =
    let xs = short_nodes_of (grouped_plan_of m) in
    let ys = short_nodes_of (grouped_plan_of r) in
    let tail = All-tail IsUngrouped (Split d) (xs ++ ys) none in
    ⊎_elim {C = ⊥} (λ a. some_grouped m a (all_front IsUngrouped xs ys tail)) (λ b. some_grouped r b (all_back IsUngrouped xs ys tail)) has

pub shown_rest : (parts : List Part) (t : GroupedTree) → IsShownRest parts t → HasTogether (partial_of t) → IsShortVerdict parts (record { parts = length parts; answer = answer.Rest (short_nodes_of (grouped_plan_of t)) }) ValidRefusal
shown_rest parts t shown has =
    let down = tree_down parts (below (length parts)) t shown.good shown.groups in
    right_count refl (rules_kept parts (grouped_plan_of t) (tree_holds parts t shown.groups) down, some_grouped t has)

-- ---- one hold

one_keeps : (parts : List Part) (hold : Hold) → KeepsHoldRules parts (own_names (length parts)) hold → AllKeep parts (hold ∷ [])
one_keeps parts hold keep zero other lt at = subst (KeepsHoldRules parts (own_names (length parts))) (some_injective hold other at) keep
one_keeps parts hold keep (suc m) other lt at = absurd (omega (arith, lt))

pub kept_hold : (parts : List Part) (hold : Hold) → KeepsHoldRules parts (own_names (length parts)) hold → IsShortVerdict parts (record { parts = length parts; answer = answer.Stuck (hold ∷ []) }) ValidRefusal
kept_hold parts hold keep = right_count refl (one_keeps parts hold keep)
