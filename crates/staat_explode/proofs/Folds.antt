-- The least and the greatest of numbers, found from the first on.
use Rattle.std.proofs.Common.{◌≡◌, ℕ, ◌+◌, ◌<◌, ◌≤◌, subst}
use Rattle.std.proofs.Common.{append-nil, Option, Some, None, List, [], ◌∷◌, ◌++◌}
use Rattle.std.proofs.Common.{map, length, get_or, drop, take, ap, sym, refl, ◌∙◌, arith, ℤ, Bool, true, false, cond}
use Rattle.std.proofs.Common.{flat_map}
use Rattle.std.specs.Int.{int_max, int_min}
use Rattle.std.specs.List.{fold}
use Rattle.std.specs.Prelude.{int_lt, All, slice_get, option_map, option_and_then, unwrap_or}
use Rattle.std.proofs.lemmas.List.{drop_more, take_more, take_all, map_more}
use Rattle.std.proofs.lemmas.Option.{slice_get_within, get_or_from_slice_get}
use Rattle.staat_model.proofs.Places.{some_at}
use Rattle.staat_model.specs.declared.assembly.Part.{Part}
use Rattle.staat_model.specs.Assemblies.{piece_at, piece_count}
use Rattle.std.proofs.lemmas.Int.{clamps, ints}
use Rattle.std.proofs.lemmas.Grind.{flat_map-append}
use Rattle.std.proofs.lemmas.List.Sums.{fold-append}
use Rattle.staat_vec.specs.declared.vector.V3.{V3}
use Rattle.staat_vec.specs.declared.vector.TheConstants.{POINT}
use Rattle.staat_vec.specs.Vectors.{vector, IsWithin}
use Rattle.staat_explode.specs.Sizes.{AreBounds}
use Rattle.std.proofs.lemmas.List.Elements.{All-head, All-tail}
use Rattle.staat_explode.specs.declared.axis.Axis.{Axis}
use Rattle.staat_explode.specs.declared.axis.Axis.TheVariants.{X, Y, Z}
use Rattle.staat_explode.specs.declared.boxes.Bounds.{Bounds}
use Rattle.staat_explode.specs.declared.boxes.End.{End}
use Rattle.staat_explode.specs.declared.boxes.End.TheVariants.{High, Low}
use Rattle.staat_explode.specs.declared.shifted.Shifted.{Shifted}
use Rattle.staat_explode.specs.Boxes.{around, box_of, component, covering, further, pieces_of_part, points_at}
use Rattle.staat_explode.specs.Boxes.{points_of}
use Rattle.staat_explode.specs.Shifts.{end_along, extreme}
use Rattle.staat_model.proofs.PartCounts.{pieces_count}

same_either : {A : Type 0} (b : Bool) (x : A) → cond b x x ≡ x
same_either true x = refl
same_either false x = refl

same_further : (end : End) (z : ℤ) → further end z z ≡ z
same_further Low z = same_either (int_lt z z) z
same_further High z = same_either (int_lt z z) z

pub extreme_is : (boxes : List Bounds) (axis : Axis) (end : End) (ps : List Shifted) (d : Shifted) (z : ℤ)
    → 1 ≤ length ps → z ≡ end_along boxes axis end (get_or ps 0 d)
    → fold (further end) z (map (end_along boxes axis end) ps) ≡ extreme boxes axis end ps
unfolding extreme
extreme_is boxes axis end [] d z h e = absurd (omega arith)
extreme_is boxes axis end (p ∷ ps) d z h e =
    let y = end_along boxes axis end p in
    ap (λ a. fold (further end) a (map (end_along boxes axis end) ps)) (ap (λ x. further end x y) e ∙ same_further end y)

-- one more box
pub extreme_more : (boxes : List Bounds) (axis : Axis) (end : End) (ps : List Shifted) (k : ℕ) (d : Shifted)
    (x y r : ℤ) → k < length ps → y ≡ end_along boxes axis end (get_or ps k d) → r ≡ further end x y
    → fold (further end) r (map (end_along boxes axis end) (drop (k + 1) ps))
    ≡ fold (further end) x (map (end_along boxes axis end) (drop k ps))
extreme_more boxes axis end ps k d x y r lt at e =
    let along = end_along boxes axis end in
    ap (λ z. fold (further end) z (map along (drop (k + 1) ps))) (e ∙ ap (further end x) at)
    ∙ sym (ap (λ l. fold (further end) x (map along l)) (drop_more ps k d lt))

-- the box that covers a box and points, by its numbers
covered : (b : Bounds) (ps : List V3) → fold covering b ps ≡ record {
  low = vector (fold int_min b.low.x (map (component X) ps)) (fold int_min b.low.y (map (component Y) ps)) (fold int_min b.low.z (map (component Z) ps));
  high = vector (fold int_max b.high.x (map (component X) ps)) (fold int_max b.high.y (map (component Y) ps)) (fold int_max b.high.z (map (component Z) ps));
}
covered b [] = refl
covered b (p ∷ ps) = covered (covering b p) ps

pub box_is : (ps : List V3) (d : V3) → 1 ≤ length ps → fold covering (around (get_or ps 0 d)) ps ≡ box_of ps
unfolding box_of
box_is [] d h = absurd (omega arith)
box_is (p ∷ ps) d h = ap (λ b. fold covering b ps) once ∙ covered (around p) ps
  where
    once : covering (around p) p ≡ around p
    once = λ i. record {
      low = vector (same_further Low p.x i) (same_further Low p.y i) (same_further Low p.z i);
      high = vector (same_further High p.x i) (same_further High p.y i) (same_further High p.z i);
    }

-- ---- pieces

fold_pieces : (b : Bounds) (pieces : List (List V3)) (piece : List V3)
    → fold covering b (flat_map (λ p. p) (pieces ++ piece ∷ []))
    ≡ fold covering (fold covering b (flat_map (λ p. p) pieces)) piece
fold_pieces b pieces piece =
    ap (fold covering b) (flat_map-append (λ p. p) pieces (piece ∷ []) ∙ ap (λ l. flat_map (λ p. p) pieces
    ++ l) (append-nil piece)) ∙ fold-append covering b (flat_map (λ p. p) pieces) piece

-- the box with the points of one more piece
pub points_more : (parts : List Part) (a i : ℕ) (b : Bounds) (p : List V3) → piece_at parts a i ≡ Some p
    → fold covering b (flat_map (λ q. q) (take (i + 1) (pieces_of_part parts a)))
    ≡ fold covering (fold covering b (flat_map (λ q. q) (take i (pieces_of_part parts a)))) p
points_more parts a i b p is = go (slice_get parts a) is
  where
    go : (o : Option Part) → option_and_then (λ part. slice_get part.pieces i) o ≡ Some p
        → fold covering b (flat_map (λ q. q) (take (i + 1) (unwrap_or (option_map (λ part. part.pieces) o) [])))
        ≡ fold covering (fold covering b (flat_map (λ q. q) (take i (unwrap_or (option_map (λ part. part.pieces) o) [])))) p
    go None e = absurd cc
    go (Some part) e =
        ap (λ ps. fold covering b (flat_map (λ q. q) ps)) (take_more part.pieces i p (slice_get_within part.pieces i p e) ∙ ap (λ x. take i part.pieces ++ x ∷ []) (get_or_from_slice_get part.pieces i p p e))
        ∙ fold_pieces b (take i part.pieces) p

-- the first point of a part
pub first_point : (parts : List Part) (a : ℕ) (p : List V3) (d : V3) → piece_at parts a 0 ≡ Some p
    → 1 ≤ length p → (get_or p 0 d ≡ get_or (points_at parts a) 0 d) × (1 ≤ length (points_at parts a))
first_point parts a p d is some = go (slice_get parts a) is
  where
    head : (xs ys : List V3) → 1 ≤ length xs → (get_or xs 0 d ≡ get_or (xs ++ ys) 0 d)
        × (1 ≤ length (xs ++ ys))
    head [] ys h = absurd (omega arith)
    head (x ∷ xs) ys h = (refl, omega arith)

    at : (pieces : List (List V3)) → slice_get pieces 0 ≡ Some p
        → (get_or p 0 d ≡ get_or (flat_map (λ q. q) pieces) 0 d) × (1 ≤ length (flat_map (λ q. q) pieces))
    at [] e = absurd cc
    at (q ∷ qs) e = let same : q ≡ p =
        cc in subst (λ r. (get_or r 0 d ≡ get_or (q ++ flat_map (λ t. t) qs) 0 d)
        × (1 ≤ length (q ++ flat_map (λ t. t) qs))) same (head q (flat_map (λ t. t) qs) (rw same some))

    go : (o : Option Part) → option_and_then (λ part. slice_get part.pieces 0) o ≡ Some p
        → (get_or p 0 d ≡ get_or (flat_map (λ q. q) (unwrap_or (option_map (λ part. part.pieces) o) [])) 0 d)
        × (1 ≤ length (flat_map (λ q. q) (unwrap_or (option_map (λ part. part.pieces) o) [])))
    go None e = absurd cc
    go (Some part) e = at part.pieces e

pub part_box : (parts : List Part) (a n : ℕ) (p : List V3) (d : V3) → piece_at parts a 0 ≡ Some p
    → 1 ≤ length p → piece_count parts a ≤ n
    → fold covering (around (get_or p 0 d)) (flat_map (λ q. q) (take n (pieces_of_part parts a)))
    ≡ box_of (points_at parts a)
part_box parts a n p d is some all =
    let first = first_point parts a p d is some in
    ap (λ ps. fold covering (around (get_or p 0 d)) (flat_map (λ q. q) ps)) (take_all n (pieces_of_part parts a) (omega (arith, pieces_count (slice_get parts a))))
    ∙ ap (λ v. fold covering (around v) (points_at parts a)) first.0
    ∙ box_is (points_at parts a) d first.1

-- ---- sizes

covering_small : (b : Bounds) (p : V3) → AreBounds b → IsWithin POINT p → AreBounds (covering b p)
covering_small b p h k = record {
  low = record {
    x = omega (arith, ints, clamps, h.low.x, k.x);
    y = omega (arith, ints, clamps, h.low.y, k.y);
    z =
        omega (arith, ints, clamps, h.low.z, k.z);
  };
  high = record {
    x = omega (arith, ints, clamps, h.high.x, k.x);
    y = omega (arith, ints, clamps, h.high.y, k.y);
    z =
        omega (arith, ints, clamps, h.high.z, k.z);
  };
}

pub fold_small : (b : Bounds) (ps : List V3) → AreBounds b → All (IsWithin POINT) ps
    → AreBounds (fold covering b ps)
fold_small b [] h all = h
fold_small b (p ∷ ps) h all =
    fold_small (covering b p) ps (covering_small b p h (All-head (IsWithin POINT) p ps all)) (All-tail (IsWithin POINT) p ps all)

-- ---- parts

-- one more box
pub boxes_more : (parts : List Part) (a : ℕ) (boxes : List Bounds) → a < length parts → boxes
    ≡ map (λ part. box_of (points_of part)) (take a parts) → boxes ++ box_of (points_at parts a) ∷ []
    ≡ map (λ part. box_of (points_of part)) (take (a + 1) parts)
boxes_more parts a boxes lt e = go (some_at parts a lt)
  where
    go : (part : Part) × (slice_get parts a ≡ Some part) → boxes ++ box_of (points_at parts a) ∷ []
        ≡ map (λ part. box_of (points_of part)) (take (a + 1) parts)
    go (part, is) =
        (λ i. e i ++ box_of (flat_map (λ piece. piece) (unwrap_or (option_map (λ part. part.pieces) (is i)) [])) ∷ [])
        ∙ ap (λ x. map (λ part. box_of (points_of part)) (take a parts) ++ box_of (points_of x) ∷ []) (sym (get_or_from_slice_get parts a part part is))
        ∙ sym (map_more (λ part. box_of (points_of part)) parts a part lt)
