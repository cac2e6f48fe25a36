use Rattle.std.proofs.Common.{◌≡◌, ◌+◌, ◌<◌, ◌∙◌, ℕ, List, ap, arith, length, subst, sym, true≢false}
use Rattle.std.specs.Ordering.{nat_cmp}
use Rattle.staat_vec.specs.Lists.{Lists}
use Rattle.staat_graph.specs.Rows.{IsMutualMark}
use Rattle.staat_graph.proofs.RowLemmas.{listed_next, listed_same, none_listed}
use Rattle.staat_graph.proofs.rows.group_of.Goals as goal
use Rattle.staat_graph.proofs.rows.group_of.Goals.{then-is_mutual+in_ok-push, else-is_mutual}

pub loop-q-init : goal.loop-q-init
loop-q-init c =
    let P : ℕ → Type 0 = IsMutualMark c.args.table.now c.args.p in
    subst (λ (xs : List ℕ). Lists nat_cmp (λ q. (q < 0) × P q) xs) (sym c.new-group.ensures.items) (none_listed P)

pub loop-q-preserved : goal.loop-q-preserved
loop-q-preserved c =
    let P : ℕ → Type 0 = IsMutualMark c.args.table.now c.args.p in
    let q = c.loop-q.q in
    let old = c.loop-q.group.items in
    elim c.if-is_mutual.branch [
      | then-is_mutual+in_ok-push w ↦ subst (λ (xs : List ℕ). Lists nat_cmp (λ k. (k < q + 1) × P k) xs)
          (sym (ap (λ v. v.items) w.group-is ∙ w.in_ok-push.ensures.items))
          (listed_next P q old c.loop-q.invariant (c.is_mutual.ensures.0 w.if-is_mutual.true))
      | else-is_mutual w ↦ subst (λ (xs : List ℕ). Lists nat_cmp (λ k. (k < q + 1) × P k) xs)
          (sym (ap (λ v. v.items) w.group-is))
          (listed_same P q old c.loop-q.invariant (λ h. true≢false (sym (c.is_mutual.ensures.1 h) ∙ w.if-is_mutual.false)))
    ]

pub returns : goal.returns
returns c =
    let P : ℕ → Type 0 = IsMutualMark c.args.table.now c.args.p in
    let e : c.loop-q.q ≡ length c.args.table.now = let a = c.loop-q.auto.q-end in let b = c.loop-q-test.false in omega (arith, a, b) in
    subst (λ n. Lists nat_cmp (λ k. (k < n) × P k) c.loop-q.group.items) e c.loop-q.invariant
