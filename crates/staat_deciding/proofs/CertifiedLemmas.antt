-- The certificates of what a product comes to are in order and valid.
use Rattle.std.proofs.Common.{◌≡◌, ◌∙◌, inl, inr, true, false, List, [], ◌∷◌, ◌++◌, length, ap, ap₂, refl, subst, sym}
use Rattle.staat_model.specs.declared.assembly.Part.{Part}
use Rattle.staat_model.specs.Assemblies.{IsProduct}
use Rattle.staat_model.specs.Plans.{IsGood, Plan}
use Rattle.staat_model.specs.Sets.{below}
use Rattle.staat_holds.specs.declared.grouped.GroupedTree.{GroupedTree, Leaf, Group, Split'}
use Rattle.staat_holds.specs.declared.hold.Hold.{Hold}
use Rattle.staat_holds.specs.Chains.{KeepsHoldRules, own_names}
use Rattle.staat_holds.specs.Partials.{HasSmallDirections, HasTogether, IsOrderedHold, IsShownRest, partial_of}
use Rattle.staat_short.specs.declared.short.ShortAnswer.TheVariants as answer
use Rattle.staat_short.specs.declared.short.ShortCertificate.{ShortCertificate}
use Rattle.staat_short.specs.declared.short.ShortNode.{ShortNode}
use Rattle.staat_short.specs.declared.short.ShortNode.TheVariants as node
use Rattle.staat_short.specs.PlanNodes.{grouped_plan_of, plan_nodes}
use Rattle.staat_short.specs.ShortTexts.{short_nodes_of}
use Rattle.staat_short.proofs.ShownOrders.{plan_ordered, rest_ordered, stuck_ordered}
use Rattle.staat_short.proofs.TextSizes.{plan_short}
use Rattle.staat_confirm.proofs.Valid.{good_plan as valid_plan, kept_hold, shown_rest}
use Rattle.staat_deciding.specs.Certificates.{IsShownPlan, IsShownRefusal}
use Rattle.staat_deciding.proofs.PartialLemmas.{HasNoSet, good_plan, plan_in, small_directions}

-- the certificates that state how many parts there are
abbrev planned : List Part → List ShortNode → ShortCertificate
planned parts nodes = record { parts = length parts; answer = answer.Plan nodes }

abbrev stuck : List Part → List Hold → ShortCertificate
stuck parts holds = record { parts = length parts; answer = answer.Stuck holds }

abbrev rested : List Part → List ShortNode → ShortCertificate
rested parts nodes = record { parts = length parts; answer = answer.Rest nodes }

plan_shown : (parts : List Part) (plan : Plan) → IsProduct parts → IsGood parts (below (length parts)) plan → HasSmallDirections plan → IsShownPlan parts (planned parts (plan_nodes plan))
plan_shown parts plan product good small = record {
  order = plan_ordered parts product plan good small;
  few = plan_short parts plan product good small;
  valid = valid_plan parts plan good;
}

pub plan_is_shown : (parts : List Part) (plan : Plan) (nodes : List ShortNode) (c : ShortCertificate) → IsProduct parts → IsGood parts (below (length parts)) plan → HasSmallDirections plan → nodes ≡ plan_nodes plan → c ≡ planned parts nodes → IsShownPlan parts c
plan_is_shown parts plan nodes c product good small are is = subst (IsShownPlan parts) (sym (is ∙ ap (planned parts) are)) (plan_shown parts plan product good small)

pub hold_is_shown : (parts : List Part) (hold : Hold) (holds : List Hold) (c : ShortCertificate) → IsProduct parts → IsOrderedHold hold → KeepsHoldRules parts (own_names (length parts)) hold → holds ≡ hold ∷ [] → c ≡ stuck parts holds → IsShownRefusal false parts c
hold_is_shown parts hold holds c product ordered keeps are is = subst (IsShownRefusal false parts) (sym (is ∙ ap (stuck parts) are))
    (record { order = stuck_ordered parts product hold ordered keeps; valid = kept_hold parts hold keeps; kind = tt })

pub rest_is_shown : (parts : List Part) (tree : GroupedTree) (nodes : List ShortNode) (c : ShortCertificate) → IsProduct parts → IsShownRest parts tree → HasTogether (partial_of tree) → nodes ≡ short_nodes_of (grouped_plan_of tree) → c ≡ rested parts nodes → IsShownRefusal true parts c
rest_is_shown parts tree nodes c product shown some are is = subst (IsShownRefusal true parts) (sym (is ∙ ap (rested parts) are))
    (record { order = rest_ordered parts product tree shown; valid = shown_rest parts tree shown some; kind = tt })

same_nodes : (tree : GroupedTree) → HasNoSet (partial_of tree) → short_nodes_of (grouped_plan_of tree) ≡ plan_nodes (plan_in (partial_of tree))
same_nodes (Leaf p) none = refl
same_nodes (Group group) none = absurd (none tt)
same_nodes (Split' d p moved q rest) none =
    ap₂ (λ (a b : List ShortNode). node.Split d ∷ (a ++ b)) (same_nodes moved (λ h. none (inl h))) (same_nodes rest (λ h. none (inr h)))

pub whole_is_shown : (parts : List Part) (tree : GroupedTree) (nodes : List ShortNode) (c : ShortCertificate) → IsProduct parts → IsShownRest parts tree → HasNoSet (partial_of tree) → nodes ≡ short_nodes_of (grouped_plan_of tree) → c ≡ planned parts nodes → IsShownPlan parts c
whole_is_shown parts tree nodes c product shown none are is =
    let plan = plan_in (partial_of tree) in
    plan_is_shown parts plan nodes c product (good_plan parts (partial_of tree) (below (length parts)) none shown.good)
    (small_directions (partial_of tree) none shown.directions) (are ∙ same_nodes tree none) is
