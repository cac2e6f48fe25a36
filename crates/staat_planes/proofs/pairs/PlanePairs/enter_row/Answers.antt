use Rattle.std.proofs.Common.{◌≡◌, ◌∙◌, ◌++◌, ◌+◌, ◌<◌, ◌≤◌, ℕ, List, ap, arith, drop, length, sym, ⊎_elim}
use Rattle.std.specs.Prelude.{slice_index}
use Rattle.std.proofs.lemmas.Bool.{cases_lt}
use Rattle.std.proofs.lemmas.List.{drop_all, drop_more}
use Rattle.staat_vec.specs.declared.vector.V3.{V3}
use Rattle.staat_model.specs.Planes.{crossings, vertices}
use Rattle.staat_planes.specs.PairOrder.{numbers_of, plane_at, planes_at}
use Rattle.staat_planes.proofs.PairSteps.{count_is, nothing_left}
use Rattle.staat_planes.proofs.pairs.PlanePairs.enter_row.Goals.{else-self-via-then-self+else-self-2, else-self-via-else-self}
use Rattle.staat_planes.proofs.pairs.PlanePairs.enter_row.Goals as goal

-- the row at i has ended, and the next one is left whole
next_row : (planes : List V3) (ks : List ℕ) (i j : ℕ) → i < length ks → length ks ≤ j
    → crossings (plane_at planes (slice_index ks (i + 1))) (planes_at planes (drop (i + 1 + 1) ks)) ++ vertices (planes_at planes (drop (i + 1 + 1) ks))
    ≡ crossings (plane_at planes (slice_index ks i)) (planes_at planes (drop j ks)) ++ vertices (planes_at planes (drop (i + 1) ks))
next_row planes ks i j lt end =
    ⊎_elim
    (λ more. sym (ap (λ l. crossings (plane_at planes (slice_index ks i)) (planes_at planes l) ++ vertices (planes_at planes (drop (i + 1) ks))) (drop_all j ks end)
    ∙ ap (λ l. vertices (planes_at planes l)) (drop_more ks (i + 1) 0 more)))
    (λ last. nothing_left planes ks (i + 1) (i + 1 + 1) (omega arith) (omega arith) ∙ sym (nothing_left planes ks i j end last))
    (cases_lt (i + 1) (length ks))

pub returns-then-self-2-clause-left : goal.returns-then-self-2-clause-left
returns-then-self-2-clause-left c =
    let p = c.args.self.now in
    let long = count_is c.args.table.now.planes p c.requires in
    next_row c.args.table.now.planes (numbers_of p) p.first p.second (omega (arith, long, c.if-self-2.true)) (omega (arith, long, c.if-self.true))

pub returns-else-self-clause-end : goal.returns-else-self-clause-end
returns-else-self-clause-end c =
    elim c.else-self.branch [
      | else-self-via-then-self+else-self-2 w ↦ λ h. let le = w.if-self-2.false in omega (arith, le)
      | else-self-via-else-self w ↦ λ h. let lt = w.if-self.false in absurd (omega (arith, lt, h))
    ]
