-- A set of parts has one chosen order.
use Rattle.std.proofs.Common.{◌≡◌, ◌≤◌, List, [], Contains, arith, ap, sym, ◌∙◌, subst, refl}
use Rattle.std.proofs.lemmas.List.Elements.{All-contains}
use Rattle.staat_vec.specs.Lists.{IsFirst}
use Rattle.staat_vec.proofs.Unique.{IsFirst-in, IsFirst-unique}
use Rattle.staat_model.specs.declared.assembly.Part.{Part}
use Rattle.staat_model.specs.declared.set.PartSet.{PartSet}
use Rattle.staat_model.specs.Planes.{vertices}
use Rattle.staat_model.proofs.OneTable.{ArePlanes-unique}
use Rattle.staat_linear.specs.declared.order.Leave.{Leave}
use Rattle.staat_linear.specs.declared.order.Order.{Order}
use Rattle.staat_linear.specs.declared.order.Order.TheVariants.{Whole}
use Rattle.staat_linear.specs.Orders.{HasNoLeave, IsChosen, IsLeave, LeavesAlong, LetsLeave, after, all_but, no_leave, one_part, then_on}
use Rattle.staat_model.proofs.OneOutcome.{one_alone, not_single}

module _ (parts : List Part) where
  leave_unique : (w : PartSet) (x y : Leave) → IsLeave parts w x → IsLeave parts w y → x ≡ y
  leave_unique w x y a b =
      let planes = ArePlanes-unique parts w a.planes b.planes a.planes_are b.planes_are in
      let d : x.d ≡ y.d = IsFirst-unique (LetsLeave parts w) (vertices b.planes) x.d y.d (subst (λ ps. IsFirst (LetsLeave parts w) (vertices ps) x.d) planes a.first) b.first in
      let le : x.part ≤ y.part = a.least y.part (subst (λ v. LeavesAlong parts w v y.part) (sym d) b.leaves) in
      let ge : y.part ≤ x.part = b.least x.part (subst (λ v. LeavesAlong parts w v x.part) d a.leaves) in
      let part : x.part ≡ y.part = omega (arith, le, ge) in
      λ i. record { part = part i; d = d i }

  no_leave_and_leave : (w : PartSet) (x : Leave) → HasNoLeave parts w → IsLeave parts w x → ⊥
  no_leave_and_leave w x a b =
      let planes = ArePlanes-unique parts w a.planes b.planes a.planes_are b.planes_are in
      let found = IsFirst-in (LetsLeave parts w) (vertices b.planes) x.d b.first in
      All-contains (λ v. LetsLeave parts w v → ⊥) (vertices a.planes) x.d a.none (subst (λ ps. Contains (vertices ps) x.d) (sym planes) found.0) found.1

  along : (w : PartSet) (x y : Leave) (o : Order) → x ≡ y → IsChosen parts (all_but w y.part) o → IsChosen parts (all_but w x.part) o
  along w x y o e = subst (λ (l : Leave). IsChosen parts (all_but w l.part) o) (sym e)

  -- a set has one chosen order
  pub IsChosen-unique : {w : PartSet} {o p : Order} → IsChosen parts w o → IsChosen parts w p → o ≡ p
  IsChosen-unique (one_part {p = p} e) (one_part {p = q} e') = ap (λ n. Whole [] n) (one_alone p q (sym e ∙ e'))
  IsChosen-unique (one_part {p = p} e) (no_leave two' none') = absurd (not_single _ p e two')
  IsChosen-unique (one_part {p = p} e) (then_on two' s' l' is') = absurd (not_single _ p e two')
  IsChosen-unique (no_leave two none) (one_part {p = q} e') = absurd (not_single _ q e' two)
  IsChosen-unique (no_leave two none) (no_leave two' none') = refl
  IsChosen-unique (no_leave two none) (then_on two' s' l' is') = absurd (no_leave_and_leave _ _ none s')
  IsChosen-unique (then_on two s l is) (one_part {p = q} e') = absurd (not_single _ q e' two)
  IsChosen-unique (then_on two s l is) (no_leave two' none') = absurd (no_leave_and_leave _ _ none' s)
  IsChosen-unique {w = w} (then_on {leave = x} {rest = xs} two s l is) (then_on {leave = y} {rest = ys} two' s' l' is') =
      let e : x ≡ y = leave_unique w x y s s' in
      let rest : xs ≡ ys = IsChosen-unique l (along w x y ys e l') in
      is ∙ (λ i. after (e i) (rest i)) ∙ sym is'
