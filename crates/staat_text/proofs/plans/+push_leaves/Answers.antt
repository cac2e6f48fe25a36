use Rattle.std.proofs.Common.{◌⊎◌, ◌↔◌, ℕ, Contains, ap}
use Rattle.std.proofs.lemmas.Result.{IfOk-weaker}
use Rattle.staat_model.specs.Plans.{parts_of, plan_of}
use Rattle.staat_model.specs.Sets.{Has}
use Rattle.staat_text.proofs.PlanLines.{leaf_added, sides_added}
use Rattle.staat_text.proofs.plans.+push_leaves.Goals as goal

pub returns-in_ok-push-in-Leaf : goal.returns-in_ok-push-in-Leaf
returns-in_ok-push-in-Leaf t c =
    leaf_added c.args.tree.now c.in-Leaf.p c.args.numbers.now.items c.push.new.self.items (ap plan_of c.in-Leaf.is) c.in_ok-push-in-Leaf.ensures.items

pub returns-in_ok-push_leaves-in-Split : goal.returns-in_ok-push_leaves-in-Split
returns-in_ok-push_leaves-in-Split t c =
    let old = c.args.numbers.now.items in
    let one = c.push_leaves.new.numbers.items in
    let two = c.push_leaves-in-Split.new.numbers.items in
    IfOk-weaker c.push_leaves-in-Split.result _ (λ _. (p : ℕ) → Contains two p ↔ (Contains old p ⊎ Has (parts_of (plan_of c.args.tree.now)) p))
    (λ _ last. sides_added c.args.tree.now c.in-Split.moved.value c.in-Split.rest.value c.deref.result.now c.deref-in-Split.result.now c.in-Split.d old one two
    (ap plan_of c.in-Split.is) c.deref.ensures c.deref-in-Split.ensures c.in_ok-push_leaves-in-Split.ensures last)
    c.push_leaves-in-Split.ensures
