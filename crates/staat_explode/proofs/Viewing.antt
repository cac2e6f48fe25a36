-- What is said of the vectors that are found.
use Rattle.std.proofs.Common.{◌≡◌, ℕ, ◌<◌, Bool, true, false, List, map, length, All, sym, get_or}
use Rattle.std.proofs.Common.{subst, refl, ◌∙◌, arith}
use Rattle.std.specs.List.{range_with_len}
use Rattle.std.proofs.lemmas.List.{length-map}
use Rattle.std.proofs.lemmas.List.Elements.{All-contains}
use Rattle.staat_vec.specs.Vectors.{IsWithin}
use Rattle.staat_vec.proofs.ListLaws.{All-map}
use Rattle.staat_model.specs.declared.assembly.Part.{Part}
use Rattle.staat_model.specs.declared.set.PartSet.{PartSet}
use Rattle.staat_model.specs.Plans.{Plan, IsGood}
use Rattle.staat_model.specs.Sets.{Has, below}
use Rattle.staat_model.proofs.SetBits.{has-below}
use Rattle.staat_explode.specs.declared.shifted.Shifted.{Shifted}
use Rattle.staat_explode.specs.declared.grow.TheConstants.{FARTHEST}
use Rattle.staat_explode.specs.Apart.{AreParted, StandApart, moved_box}
use Rattle.staat_explode.specs.Boxes.{box_of, boxes_of, points_of}
use Rattle.staat_explode.specs.Shifts.{box_at, shifted_of, shifts_of, vector_of_part}
use Rattle.staat_explode.specs.Sizes.{IsShifted}
use Rattle.staat_explode.specs.Splits.{AreSums}
use Rattle.staat_explode.proofs.Leaves.{placeable_below}
use Rattle.staat_explode.proofs.Looking.{has_part, has_part-plan, no_vector, shift_is, stands}
use Rattle.staat_explode.proofs.Standing.{all_apart, parted_boxes}
use Rattle.staat_explode.proofs.Summing.{steps_of, vector_sum}
use Rattle.staat_model.proofs.LeavingLemmas.{good_parts}

module _ (parts : List Part) (plan : Plan) (good : IsGood parts (below (length parts)) plan) where
  pub sums : AreSums plan (shifts_of parts plan)
  sums = record {
    m = steps_of (boxes_of parts);
    each = λ part v e. (shift_is (shifted_of (boxes_of parts) plan) (length parts) part v e).0 ∙ vector_sum (boxes_of parts) parts (below (length parts)) 0 plan good part;
  }

  there_is : (part : ℕ) → part < length parts → has_part (shifted_of (boxes_of parts) plan) part ≡ true
  there_is part lt =
      has_part-plan (boxes_of parts) plan part ∙ subst (λ (s : PartSet). Has s part) (good_parts parts (below (length parts)) plan good) ((has-below (length parts) part).1 lt)

  pub apart : StandApart parts (shifts_of parts plan)
  apart p q v w ep eq differ =
      let placed = shifted_of (boxes_of parts) plan in
      let one = shift_is placed (length parts) p v ep in
      let two = shift_is placed (length parts) q w eq in
      let x : Shifted = record { part = p; by = vector_of_part placed p } in
      let y : Shifted = record { part = q; by = vector_of_part placed q } in
      let here = stands placed p (there_is p one.1) in
      let there = stands placed q (there_is q two.1) in
      let boxes = boxes_of parts in
      let all = parted_boxes boxes x y (all_apart boxes (length parts) plan (placeable_below parts (length parts) plan good) x y here there differ) in
      subst (λ t. AreParted (moved_box (box_at boxes p) v) (moved_box (box_at boxes q) t)) (sym two.0) (subst (λ t. AreParted (moved_box (box_at boxes p) t) (moved_box (box_at boxes q) (vector_of_part placed q))) (sym one.0) all)

vector_near : (n part : ℕ) (ps : List Shifted) → All (IsShifted n) ps
    → IsWithin FARTHEST (vector_of_part ps part)
vector_near n part ps all = go (has_part ps part) refl
  where
    go : (b : Bool) → has_part ps part ≡ b → IsWithin FARTHEST (vector_of_part ps part)
    go true e =
        (All-contains (IsShifted n) ps (record { part = part; by = vector_of_part ps part }) all (stands ps part e)).near
    go false e =
        subst (IsWithin FARTHEST) (sym (no_vector ps part e)) (record { x = omega arith; y = omega arith; z = omega arith })

pub all_near : (n count : ℕ) (ps : List Shifted) → All (IsShifted n) ps
    → All (IsWithin FARTHEST) (map (vector_of_part ps) (range_with_len 0 count))
all_near n count ps all =
    All-map (vector_of_part ps) (IsWithin FARTHEST) (range_with_len 0 count) (λ k d lt. vector_near n (get_or (range_with_len 0 count) k d) ps all)

pub boxes_length : (parts : List Part) → length (boxes_of parts) ≡ length parts
boxes_length parts = length-map parts (λ part. box_of (points_of part))
