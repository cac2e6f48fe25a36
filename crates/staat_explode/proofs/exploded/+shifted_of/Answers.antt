use Rattle.std.proofs.Common.{◌≡◌, ◌+◌, ◌*◌, length, All, ap, subst, sym, arith, ◌∙◌}
use Rattle.std.proofs.lemmas.Result.{err_from_is_err_and, MatchResult-weaker}
use Rattle.staat_model.specs.Plans.{plan_of, split}
use Rattle.staat_vec.specs.Vectors.{IsWithin}
use Rattle.staat_explode.specs.declared.grow.TheConstants.{FARTHEST}
use Rattle.staat_explode.specs.declared.shifted.Shifted.{Shifted}
use Rattle.staat_explode.specs.Shifts.{parted, shifted_of}
use Rattle.staat_explode.specs.Sizes.{IsShiftable, IsShifted}
use Rattle.staat_explode.specs.Splits.{AllNear, HasFar, IsTooFarAt, node_count}
use Rattle.staat_explode.proofs.Exploding.{refused_on, far_moved, far_rest, far_here, near_here, nodes_placed, all_placed}
use Rattle.staat_explode.proofs.exploded.+shifted_of.Goals as goal

pub returns-in_err-moved-in-Split : goal.returns-in_err-moved-in-Split
returns-in_err-moved-in-Split t c =
    let moved = plan_of c.deref.result.now in
    let rest = plan_of c.in-Split.rest.value in
    let whole : plan_of c.args.tree.now ≡ split c.in-Split.d moved rest = ap plan_of c.in-Split.is ∙ ap (λ m. split c.in-Split.d (plan_of m) rest) (sym c.deref.ensures) in
    let p = err_from_is_err_and c.from_residual-in_err-moved-in-Split.result c.from_residual-in_err-moved-in-Split.ensures.1 in
    rw (p.1, p.2, whole)
    (refused_on _ _ c.in_err-moved-in-Split.field-0.0 (far_moved c.args.boxes.now c.args.node c.in-Split.d moved rest) c.in_err-moved-in-Split.ensures)

pub returns-in_err-rest-in-Split : goal.returns-in_err-rest-in-Split
returns-in_err-rest-in-Split t c =
    let moved = plan_of c.deref.result.now in
    let rest = plan_of c.deref-in-Split.result.now in
    let whole : plan_of c.args.tree.now ≡ split c.in-Split.d moved rest =
    ap plan_of c.in-Split.is ∙ (λ i. split c.in-Split.d (plan_of (sym c.deref.ensures i)) (plan_of (sym c.deref-in-Split.ensures i))) in
    let ok = c.in_ok-moved-in-Split.ensures in
    let count : c.args.node + 2 * c.len.result ≡ c.args.node + 1 + node_count moved = omega (arith, ok.3, c.len.ensures) in
    let p = err_from_is_err_and c.from_residual-in_err-rest-in-Split.result c.from_residual-in_err-rest-in-Split.ensures.1 in
    rw (p.1, p.2, whole)
    (refused_on _ _ c.in_err-rest-in-Split.field-0.0
    (λ k h. far_rest c.args.boxes.now c.args.node c.in-Split.d moved rest k ok.2 (subst (λ n. IsTooFarAt c.args.boxes.now n rest k) count h))
    c.in_err-rest-in-Split.ensures)

pub returns-in_ok-rest-in-Split : goal.returns-in_ok-rest-in-Split
returns-in_ok-rest-in-Split t c =
    let moved = plan_of c.deref.result.now in
    let rest = plan_of c.deref-in-Split.result.now in
    let boxes = c.args.boxes.now in
    let whole : plan_of c.args.tree.now ≡ split c.in-Split.d moved rest =
    ap plan_of c.in-Split.is ∙ (λ i. split c.in-Split.d (plan_of (sym c.deref.ensures i)) (plan_of (sym c.deref-in-Split.ensures i))) in
    let ok = c.in_ok-moved-in-Split.ensures in
    let count : c.args.node + 2 * c.len.result ≡ c.args.node + 1 + node_count moved = omega (arith, ok.3, c.len.ensures) in
    let others = c.in_ok-rest-in-Split.ensures in
    let first : c.as_slice.result.now ≡ shifted_of boxes moved = c.as_slice.ensures.value ∙ ok.0 in
    let second : c.as_slice-in-Split.result.now ≡ shifted_of boxes rest = c.as_slice-in-Split.ensures.value ∙ others.0 in
    let near = subst (λ n. AllNear boxes n rest) count others.2 in
    let placeable = subst (IsShiftable (length boxes)) whole c.requires.plan in
    rw whole
    (MatchResult-weaker c.parted.result c.parted.ensures
    (λ ps h.
    let same : ps.items ≡ parted boxes c.in-Split.d (shifted_of boxes moved) (shifted_of boxes rest) = h.0 ∙ (λ i. parted boxes c.in-Split.d (first i) (second i)) in
    let all = subst (All (λ (p : Shifted). IsWithin FARTHEST p.by)) same h.1 in (
      same,
      subst (All (IsShifted (length boxes))) (sym same) (all_placed boxes (length boxes) (split c.in-Split.d moved rest) placeable all),
      near_here boxes c.args.node c.in-Split.d moved rest ok.2 near all,
      omega (arith, ap length same, nodes_placed boxes (split c.in-Split.d moved rest)),
    ))
    (λ e h. refused_on _ _ e (λ k far. far_here boxes c.args.node c.in-Split.d moved rest k ok.2 near (far.0, subst HasFar (λ i. parted boxes c.in-Split.d (first i) (second i)) far.1)) h))
