use Rattle.std.proofs.Common.{◌≡◌, List, length, All, ap, subst, sym, arith, ◌∙◌, map}
use Rattle.std.specs.List.{range_with_len}
use Rattle.std.proofs.lemmas.Result.{err_from_is_err_and}
use Rattle.staat_vec.specs.Vectors.{IsWithin}
use Rattle.staat_model.specs.declared.assembly.Part.{Part}
use Rattle.staat_model.specs.Plans.{plan_of}
use Rattle.staat_explode.specs.declared.grow.TheConstants.{FARTHEST}
use Rattle.staat_explode.specs.declared.boxes.Bounds.{Bounds}
use Rattle.staat_explode.specs.Apart.{StandApart}
use Rattle.staat_explode.specs.Boxes.{boxes_of}
use Rattle.staat_explode.specs.Shifts.{shifted_of, shifts_of, vector_of_part}
use Rattle.staat_explode.specs.Sizes.{IsShiftable, IsShifted}
use Rattle.staat_explode.specs.Splits.{AllNear, AreSums, IsRefused, IsTooFarAt}
use Rattle.staat_explode.proofs.Leaves.{few_nodes, placeable_below}
use Rattle.staat_explode.proofs.Viewing.{sums, apart, all_near, boxes_length}
use Rattle.staat_explode.proofs.exploded.explode.Goals as goal

pub shifted_of-requires-clause-plan : goal.shifted_of-requires-clause-plan
shifted_of-requires-clause-plan c =
    let sound = c.args.sound.now in
    let plan = plan_of c.args.tree.now in
    let boxes = c.as_slice.ensures.value ∙ c.in_ok-boxes.ensures.boxes ∙ ap (λ (a : List Part). boxes_of a) c.assembly-assembly.ensures.assembly in
    subst (λ n. IsShiftable n plan) (sym (ap length boxes ∙ boxes_length sound)) (placeable_below sound (length sound) plan c.requires.good)

pub shifted_of-requires-clause-nodes : goal.shifted_of-requires-clause-nodes
shifted_of-requires-clause-nodes c =
    omega (arith, few_nodes c.args.sound.now (length c.args.sound.now) (plan_of c.args.tree.now) c.requires.good, c.parts-parts.ensures.assembly.at_most, ap length c.assembly-assembly.ensures.assembly)

pub returns-in_err-placed : goal.returns-in_err-placed
returns-in_err-placed c =
    let boxes = c.as_slice.ensures.value ∙ c.in_ok-boxes.ensures.boxes ∙ ap (λ (a : List Part). boxes_of a) c.assembly-assembly.ensures.assembly in
    let p = err_from_is_err_and c.from_residual-in_err-placed.result c.from_residual-in_err-placed.ensures.1 in
    rw (p.1, p.2)
    (record {
      exact = subst (λ (b : List Bounds). IsRefused (IsTooFarAt b 0 (plan_of c.args.tree.now)) c.in_err-placed.field-0.0) boxes c.in_err-placed.ensures;
      sums = tt;
      apart = tt;
      near = tt;
    })

pub returns : goal.returns
returns c =
    let sound = c.args.sound.now in
    let plan = plan_of c.args.tree.now in
    let same = c.assembly-assembly.ensures.assembly in
    let ok = c.in_ok-placed.ensures in
    let boxes : c.as_slice.result.now ≡ boxes_of sound = c.as_slice.ensures.value ∙ c.in_ok-boxes.ensures.boxes ∙ ap (λ (a : List Part). boxes_of a) same in
    let items = c.as_slice-2.ensures.value in
    let placed : c.as_slice-2.result.now ≡ shifted_of (boxes_of sound) plan = items ∙ ok.0 ∙ ap (λ (b : List Bounds). shifted_of b plan) boxes in
    let count : c.parts-parts.result ≡ length c.args.sound.now = c.parts-parts.ensures.count ∙ ap length same in
    let found = c.from_vec.ensures ∙ c.in_ok-shifts.ensures in
    let value : c.from_vec.result ≡ shifts_of c.args.sound.now (plan_of c.args.tree.now) = found ∙ (λ i. map (vector_of_part (placed i)) (range_with_len 0 (count i))) in
    record {
      exact = (value, subst (λ (b : List Bounds). AllNear b 0 plan) boxes ok.2);
      sums = subst (AreSums plan) (sym value) (sums sound plan c.requires.good);
      apart = subst (StandApart sound) (sym value) (apart sound plan c.requires.good);
      near = subst (All (IsWithin FARTHEST)) (sym found) (all_near _ c.parts-parts.result c.as_slice-2.result.now (subst (All (IsShifted (length c.as_slice.result.now))) (sym items) ok.1));
    }
