-- The products are assemblies of boxes.
use Rattle.std.proofs.Common.{◌≡◌, ◌∙◌, ℕ, zero, suc, ◌+◌, ◌*◌, ◌<◌, ◌≤◌, pos, neg_ℤ, ◌<ℤ◌, unsigned_abs, List, [], ◌∷◌, map, length, refl, ap, sym, subst, arith, lit≤, All}
use Rattle.std.specs.Prelude.{sum_by}
use Rattle.std.specs.List.{range_with_len}
use Rattle.std.proofs.lemmas.Int.{ints}
use Rattle.std.proofs.lemmas.List.Elements.{All-cons, All-from_recursion, All-map, All-nil, All-weaker}
use Rattle.std.proofs.lemmas.List.{length-map}
use Rattle.std.proofs.lemmas.List.FromFn.{length-map-range_with_len}
use Rattle.std.proofs.lemmas.List.Sums.{sum_by-cons}
use Rattle.staat_vec.specs.declared.vector.V3.{V3}
use Rattle.staat_vec.specs.declared.vector.TheConstants.{POINT}
use Rattle.staat_vec.specs.Vectors.{IsWithin, vector}
use Rattle.staat_model.specs.declared.assembly.Part.{Part}
use Rattle.staat_model.specs.Assemblies.{IsAssembly, IsPart}
use Rattle.staat_model.specs.Pieces.{IsPiece}
use Rattle.staat_samples.specs.Hulls.{box_corners}
use Rattle.staat_drill.specs.Products.{IsBox, core, cube_at, nested_boxes, row_of_cubes, slabs, part_of_boxes}
use Rattle.staat_drill.proofs.BoxLemmas.{box_piece}

pub cube_is_box : (k : ℕ) → k < 32 → IsBox (cube_at k)
cube_is_box k lt = record {
  x = omega (arith, ints);
  y = omega (arith, ints);
  z = omega (arith, ints);
  low = record { x = omega arith; y = omega arith; z = omega arith };
  high = record { x = omega arith; y = omega arith; z = omega arith };
}

pub core_is_box : IsBox core
core_is_box = record {
  x = omega (arith, ints);
  y = omega (arith, ints);
  z = omega (arith, ints);
  low = record { x = lit≤ tt; y = lit≤ tt; z = lit≤ tt };
  high = record { x = lit≤ tt; y = lit≤ tt; z = lit≤ tt };
}

-- the numbers of a box
record Reaches (k : ℕ) : Type 0 where
  near : pos k <ℤ pos (k + 1)
  across : neg_ℤ (pos (k + 1)) <ℤ pos (k + 1)
  behind : neg_ℤ (pos (k + 1)) <ℤ neg_ℤ (pos k)
  near_in : unsigned_abs (pos k) ≤ POINT
  far_in : unsigned_abs (neg_ℤ (pos (k + 1))) ≤ POINT
  behind_in : unsigned_abs (neg_ℤ (pos k)) ≤ POINT
  high : IsWithin POINT (vector (pos (k + 1)) (pos (k + 1)) (pos (k + 1)))
  low : IsWithin POINT (vector (neg_ℤ (pos (k + 1))) (neg_ℤ (pos (k + 1))) (neg_ℤ (pos (k + 1))))

lower : (k : ℕ) → 1 ≤ k → k ≤ 6 → Reaches k
lower k some few = record {
  near = omega (arith, ints);
  across = omega (arith, ints);
  behind = omega (arith, ints);
  near_in = omega arith;
  far_in = omega (arith, ints);
  behind_in = omega (arith, ints);
  high = record { x = omega arith; y = omega arith; z = omega arith };
  low = record { x = omega (arith, ints); y = omega (arith, ints); z = omega (arith, ints) };
}

pub slabs_are_boxes : (k : ℕ) → 1 ≤ k → k ≤ 6 → All IsBox (slabs k)
slabs_are_boxes k some few =
    let both = lower k some few in
    All-from_recursion IsBox (slabs k)
    (record { x = both.near; y = both.across; z = both.across; low = record { x = both.near_in; y = both.far_in; z = both.far_in }; high = both.high }, (record { x = both.behind; y = both.across; z = both.across; low = both.low; high = record { x = both.behind_in; y = both.high.y; z = both.high.z } }, (record { x = both.across; y = both.near; z = both.across; low = record { x = both.far_in; y = both.near_in; z = both.far_in }; high = both.high }, (record { x = both.across; y = both.behind; z = both.across; low = both.low; high = record { x = both.high.x; y = both.behind_in; z = both.high.z } }, (record { x = both.across; y = both.across; z = both.near; low = record { x = both.far_in; y = both.far_in; z = both.near_in }; high = both.high }, (record { x = both.across; y = both.across; z = both.behind; low = both.low; high = record { x = both.high.x; y = both.high.y; z = both.behind_in } }, tt))))))

-- ---- assemblies

is_part : (boxes : List (V3 × V3)) → 1 ≤ length boxes → All IsBox boxes → IsPart (part_of_boxes boxes)
is_part boxes some are = record {
  nonempty = subst (λ n. 1 ≤ n) (sym (length-map boxes (λ c. box_corners c.0 c.1))) some;
  pieces = All-map IsPiece (λ c. box_corners c.0 c.1) boxes (All-weaker IsBox (λ c. IsPiece (box_corners c.0 c.1)) box_piece boxes are);
}

cubes_are_parts : (a n : ℕ) → a + n ≤ 32 → All IsPart (map (λ k. part_of_boxes (cube_at k ∷ [])) (range_with_len a n))
cubes_are_parts a zero le = All-nil IsPart
cubes_are_parts a (suc n) le =
    All-cons IsPart (part_of_boxes (cube_at a ∷ [])) (map (λ k. part_of_boxes (cube_at k ∷ [])) (range_with_len (a + 1) n))
    (is_part (cube_at a ∷ []) (lit≤ tt) (All-cons IsBox (cube_at a) [] (cube_is_box a (omega arith)) (All-nil IsBox)))
    (cubes_are_parts (a + 1) n (omega arith))

boxes_are_parts : (a n : ℕ) → 1 ≤ a → a + n ≤ 7 → All IsPart (map (λ k. part_of_boxes (slabs k)) (range_with_len a n))
boxes_are_parts a zero some le = All-nil IsPart
boxes_are_parts a (suc n) some le =
    All-cons IsPart (part_of_boxes (slabs a)) (map (λ k. part_of_boxes (slabs k)) (range_with_len (a + 1) n))
    (is_part (slabs a) (lit≤ tt) (slabs_are_boxes a some (omega arith)))
    (boxes_are_parts (a + 1) n (omega arith) (omega arith))

-- where each part has so many pieces
count_by : (f : ℕ → Part) (m a n : ℕ) → ((k : ℕ) → length (f k).pieces ≡ m) → sum_by (λ part. length part.pieces) (map f (range_with_len a n)) ≡ n * m
count_by f m a zero each = omega arith
count_by f m a (suc n) each =
    let rest = count_by f m (a + 1) n each in
    let first = each a in
    sum_by-cons (λ (part : Part). length part.pieces) (f a) (map f (range_with_len (a + 1) n)) ∙ omega (arith, rest, first)

pub row_is_assembly : (n : ℕ) → 1 ≤ n → n ≤ 32 → IsAssembly (row_of_cubes n)
row_is_assembly n some few =
    let long = length-map-range_with_len (λ k. part_of_boxes (cube_at k ∷ [])) 0 n in
    let count = count_by (λ k. part_of_boxes (cube_at k ∷ [])) 1 0 n (λ k. refl) in
    record { at_least = omega (arith, long); at_most = omega (arith, long); each = cubes_are_parts 0 n (omega arith); pieces = omega (arith, count) }

pub nest_is_assembly : (n : ℕ) → 1 ≤ n → n ≤ 6 → IsAssembly (nested_boxes n)
nest_is_assembly n some few =
    let long = length-map-range_with_len (λ k. part_of_boxes (slabs k)) 1 n in
    let count = sum_by-cons (λ (part : Part). length part.pieces) (part_of_boxes (core ∷ [])) (map (λ k. part_of_boxes (slabs k)) (range_with_len 1 n)) ∙ ap (λ m. 1 + m) (count_by (λ k. part_of_boxes (slabs k)) 6 1 n (λ k. refl)) in
    record {
      at_least = omega (arith, long);
      at_most = omega (arith, long);
      each = All-cons IsPart (part_of_boxes (core ∷ [])) (map (λ k. part_of_boxes (slabs k)) (range_with_len 1 n)) (is_part (core ∷ []) (lit≤ tt) (All-cons IsBox core [] core_is_box (All-nil IsBox))) (boxes_are_parts 1 n (lit≤ tt) (omega arith));
      pieces = omega (arith, count);
    }
