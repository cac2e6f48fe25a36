-- The lines of the parts, one more at a time.
use Rattle.std.proofs.Common.{◌≡◌, ◌∙◌, refl, sym, ap, ap₂, arith, ℕ, ◌+◌, ◌<◌, List, [], ◌∷◌, ◌++◌, take, length, Option, Some, None, append-nil, append_assoc}
use Rattle.std.specs.Prelude.{slice_get, option_map, option_and_then, unwrap_or}
use Rattle.std.proofs.lemmas.List.{take_more, length-take-le, take_all}
use Rattle.std.proofs.lemmas.List.Sums.{sum_by_more}
use Rattle.std.proofs.lemmas.Option.{slice_get_within, get_or_from_slice_get}
use Rattle.staat_model.proofs.Places.{some_at}
use Rattle.staat_vec.specs.declared.vector.V3.{V3}
use Rattle.staat_model.specs.declared.assembly.Part.{Part}
use Rattle.staat_model.specs.Assemblies.{piece_at, piece_count}
use Rattle.staat_text.specs.Parts.{pieces_at, point_count, part_line, lines_from}
use Rattle.staat_model.proofs.PartCounts.{pieces_count}

-- the points of one more piece
pub points_more : (parts : List Part) (a i : ℕ) (p : List V3) → piece_at parts a i ≡ Some p → point_count (take (i + 1) (pieces_at parts a)) ≡ point_count (take i (pieces_at parts a)) + length p
points_more parts a i p is = go (slice_get parts a) is
  where
    go : (o : Option Part) → option_and_then (λ part. slice_get part.pieces i) o ≡ Some p → point_count (take (i + 1) (unwrap_or (option_map (λ part. part.pieces) o) [])) ≡ point_count (take i (unwrap_or (option_map (λ part. part.pieces) o) [])) + length p
    go None e = absurd cc
    go (Some part) e = sum_by_more length part.pieces i p (slice_get_within part.pieces i p e) ∙ ap (λ x. point_count (take i part.pieces) + length x) (get_or_from_slice_get part.pieces i p p e)

pub pieces_counted : (parts : List Part) (a : ℕ) → piece_count parts a ≡ length (pieces_at parts a)
pieces_counted parts a = pieces_count (slice_get parts a)

-- all points of a part
pub points_all : (parts : List Part) (a n : ℕ) → n ≡ piece_count parts a → point_count (take n (pieces_at parts a)) ≡ point_count (pieces_at parts a)
points_all parts a n e = ap point_count (take_all n (pieces_at parts a) (omega (arith, e, pieces_counted parts a)))

-- the line of one more part
lines_push : (k : ℕ) (parts : List Part) (part : Part) → lines_from k (parts ++ part ∷ []) ≡ lines_from k parts ++ part_line (k + length parts) part
lines_push k [] part = append-nil (part_line k part) ∙ ap (λ n. part_line n part) (omega arith)
lines_push k (first ∷ parts) part =
    ap (λ t. part_line k first ++ t) (lines_push (k + 1) parts part ∙ ap (λ n. lines_from (k + 1) parts ++ part_line n part) (omega arith))
    ∙ sym (append_assoc (part_line k first) (lines_from (k + 1) parts) (part_line (k + length (first ∷ parts)) part))

pub lines_more : (parts : List Part) (a : ℕ) (part : Part) → slice_get parts a ≡ Some part → lines_from 0 (take (a + 1) parts) ≡ lines_from 0 (take a parts) ++ part_line a part
lines_more parts a part is =
    let lt : a < length parts = slice_get_within parts a part is in
    ap (lines_from 0) (take_more parts a part lt ∙ ap (λ x. take a parts ++ x ∷ []) (get_or_from_slice_get parts a part part is))
    ∙ lines_push 0 (take a parts) part
    ∙ ap (λ n. lines_from 0 (take a parts) ++ part_line n part) (omega (arith, length-take-le a parts (omega arith)))

-- the lines so far, and the line of part a
pub at_line : (parts : List Part) (a n : ℕ) (so_far line : List ℕ) → a < n → n ≡ length parts → so_far ≡ lines_from 0 (take a parts) → ((part : Part) → slice_get parts a ≡ Some part → line ≡ part_line a part) → so_far ++ line ≡ lines_from 0 (take (a + 1) parts)
at_line parts a n so_far line lt e is has =
    let inside : a < length parts = omega (arith, lt, e) in
    go (slice_get parts a) refl inside
  where
    go : (o : Option Part) → slice_get parts a ≡ o → a < length parts → so_far ++ line ≡ lines_from 0 (take (a + 1) parts)
    go None none inside = absurd (past (slice_get parts a) none (some_at parts a inside))
      where
        past : (o : Option Part) → o ≡ None → (part : Part) × (o ≡ Some part) → ⊥
        past o n (part, s) = cc
    go (Some part) some inside = ap₂ (λ s l. s ++ l) is (has part some) ∙ sym (lines_more parts a part some)

-- all lines
pub all_lines : (parts : List Part) (n : ℕ) → n ≡ length parts → lines_from 0 (take n parts) ≡ lines_from 0 parts
all_lines parts n e = ap (lines_from 0) (take_all n parts (omega (arith, e)))
