use Rattle.std.proofs.Common.{◌≡◌, ◌+◌, ◌∷◌, ◌++◌, [], ◌<◌, ◌≤◌, ◌∙◌, ℕ, Bool, List, ap, arith, get_or, length, subst, sym, true≢false}
use Rattle.std.specs.Ordering.{nat_cmp}
use Rattle.staat_vec.specs.Lists.{Lists}
use Rattle.staat_graph.specs.Rows.{IsMutualMark}
use Rattle.staat_graph.proofs.RowLemmas.{AreFirstGroups, all_listed, group_next, group_same, no_groups}
use Rattle.staat_graph.proofs.rows.row_groups.Goals as goal
use Rattle.staat_graph.proofs.rows.row_groups.Goals.{then-is_first+in_ok-push, else-is_first}

pub loop-p-preserved : goal.loop-p-preserved
loop-p-preserved c =
    let rows = c.args.rows.now in
    let table = c.in_ok-table.table.items in
    let p = c.loop-p.p in
    let old = c.loop-p.groups.items in
    let group = c.in_ok-group.group.items in
    let inside : p < length rows = omega (arith, c.loop-p-test.true, c.in_ok-table.ensures.count) in
    let lists : Lists nat_cmp (λ q. (q < length table) × IsMutualMark table p q) group =
    subst (λ (t : List (List Bool)). Lists nat_cmp (λ q. (q < length t) × IsMutualMark t p q) group) c.as_slice.ensures.value c.in_ok-group.ensures in
    elim c.if-is_first.branch [
      | then-is_first+in_ok-push w ↦ subst (λ (xs : List (List ℕ)). AreFirstGroups rows (p + 1) xs)
          (sym (ap (λ v. v.items) w.groups-is ∙ w.in_ok-push.ensures.items ∙ ap (λ (g : List ℕ). old ++ g ∷ []) w.from_vec.ensures))
          (group_next rows table p old group c.in_ok-table.ensures inside lists c.loop-p.invariant
          (subst (λ (xs : List ℕ). (0 < length xs) × (get_or xs 0 0 ≡ p)) c.as_slice-in-loop-p.ensures.value (c.is_first.ensures.0 w.if-is_first.true)))
      | else-is_first w ↦ subst (λ (xs : List (List ℕ)). AreFirstGroups rows (p + 1) xs)
          (sym (ap (λ v. v.items) w.groups-is))
          (group_same rows table p old group c.in_ok-table.ensures inside lists c.loop-p.invariant
          (λ h. true≢false (sym (c.is_first.ensures.1 (subst (λ (xs : List ℕ). (0 < length xs) × (get_or xs 0 0 ≡ p)) (sym c.as_slice-in-loop-p.ensures.value) h)) ∙ w.if-is_first.false)))
    ]

pub returns-clause-groups : goal.returns-clause-groups
returns-clause-groups c =
    let le : length c.args.rows.now ≤ c.loop-p.p = omega (arith, c.loop-p-test.false, c.in_ok-table.ensures.count) in
    all_listed c.args.rows.now c.loop-p.p c.loop-p.groups.items le c.loop-p.invariant

pub loop-p-init : goal.loop-p-init
loop-p-init c = subst (λ (xs : List (List ℕ)). AreFirstGroups c.args.rows.now 0 xs) (sym c.new-groups.ensures.items) (no_groups c.args.rows.now)
