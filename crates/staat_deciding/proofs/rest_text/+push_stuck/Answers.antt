use Rattle.std.proofs.Common.{◌≡◌, ◌<◌, ◌++◌, ap, arith, subst, sym}
use Rattle.std.specs.List.Sorted.{IsStrictlySortedBy}
use Rattle.std.specs.Ordering.{nat_cmp}
use Rattle.std.proofs.lemmas.Result.{IfOk-weaker}
use Rattle.staat_holds.specs.declared.grouped.GroupedTree.{GroupedTree}
use Rattle.staat_holds.specs.Partials.{PartialPlan, parted, partial_of}
use Rattle.staat_deciding.specs.RestTexts.{HasAscendingGroups, HasSmallParts, steps_in, stuck_lines}
use Rattle.staat_deciding.proofs.PartialLemmas.{moved_fewer, moved_small, rest_fewer, rest_small}
use Rattle.staat_deciding.proofs.RestLines.{group_small, stuck_written}
use Rattle.staat_deciding.proofs.rest_text.+push_stuck.Goals as goal

pub stuck_text-requires-clause-ascending : goal.stuck_text-requires-clause-ascending
stuck_text-requires-clause-ascending t c =
    subst (IsStrictlySortedBy nat_cmp) (sym c.as_slice.ensures) (subst (λ (x : GroupedTree). HasAscendingGroups x) c.in-Group.is c.requires.ascending)

pub stuck_text-requires-clause-small : goal.stuck_text-requires-clause-small
stuck_text-requires-clause-small t c =
    group_small (partial_of c.args.tree.now) c.in-Group.group.members c.as_slice.result.now (ap partial_of c.in-Group.is) c.as_slice.ensures c.requires.small

pub push_stuck-requires : goal.push_stuck-requires
push_stuck-requires t c =
    let is : partial_of c.args.tree.now ≡ parted c.in-Split.d (partial_of c.in-Split.moved.value) (partial_of c.in-Split.rest.value) = ap partial_of c.in-Split.is in
    let e : partial_of c.deref.result.now ≡ partial_of c.in-Split.moved.value = ap partial_of c.deref.ensures in
    let less : steps_in (partial_of c.deref.result.now) < steps_in (partial_of c.args.tree.now) = subst (λ (p : PartialPlan). steps_in p < steps_in (partial_of c.args.tree.now)) (sym e) (moved_fewer (partial_of c.args.tree.now) c.in-Split.d (partial_of c.in-Split.moved.value) (partial_of c.in-Split.rest.value) is) in
    let both = subst (λ (x : GroupedTree). HasAscendingGroups x) c.in-Split.is c.requires.ascending in
    (omega (arith, less, c.decreases), (subst HasSmallParts (sym e) (moved_small (partial_of c.args.tree.now) c.in-Split.d (partial_of c.in-Split.moved.value) (partial_of c.in-Split.rest.value) is c.requires.small), subst (λ (x : GroupedTree). HasAscendingGroups x) (sym c.deref.ensures) both.0))

pub push_stuck-requires-in-Split : goal.push_stuck-requires-in-Split
push_stuck-requires-in-Split t c =
    let is : partial_of c.args.tree.now ≡ parted c.in-Split.d (partial_of c.in-Split.moved.value) (partial_of c.in-Split.rest.value) = ap partial_of c.in-Split.is in
    let e : partial_of c.deref-in-Split.result.now ≡ partial_of c.in-Split.rest.value = ap partial_of c.deref-in-Split.ensures in
    let less : steps_in (partial_of c.deref-in-Split.result.now) < steps_in (partial_of c.args.tree.now) = subst (λ (p : PartialPlan). steps_in p < steps_in (partial_of c.args.tree.now)) (sym e) (rest_fewer (partial_of c.args.tree.now) c.in-Split.d (partial_of c.in-Split.moved.value) (partial_of c.in-Split.rest.value) is) in
    let both = subst (λ (x : GroupedTree). HasAscendingGroups x) c.in-Split.is c.requires.ascending in
    (omega (arith, less, c.decreases), (subst HasSmallParts (sym e) (rest_small (partial_of c.args.tree.now) c.in-Split.d (partial_of c.in-Split.moved.value) (partial_of c.in-Split.rest.value) is c.requires.small), subst (λ (x : GroupedTree). HasAscendingGroups x) (sym c.deref-in-Split.ensures) both.1))

pub returns-in_ok-push_stuck-in-Split : goal.returns-in_ok-push_stuck-in-Split
returns-in_ok-push_stuck-in-Split t c =
    IfOk-weaker c.push_stuck-in-Split.result _ (λ _. c.push_stuck-in-Split.new.text.items ≡ c.args.text.now.items ++ stuck_lines (partial_of c.args.tree.now))
    (λ _ last. stuck_written (partial_of c.args.tree.now) (partial_of c.in-Split.moved.value) (partial_of c.in-Split.rest.value) (partial_of c.deref.result.now) (partial_of c.deref-in-Split.result.now)
    c.in-Split.d c.args.text.now.items c.push_stuck.new.text.items c.push_stuck-in-Split.new.text.items (ap partial_of c.in-Split.is) (ap partial_of c.deref.ensures) (ap partial_of c.deref-in-Split.ensures)
    c.in_ok-push_stuck-in-Split.ensures last)
    c.push_stuck-in-Split.ensures
