-- Each part's vector is the sum of multiples of the directions of the splits that move it.
use Rattle.std.proofs.Common.{◌≡◌, ℕ, ◌+◌, Bool, true, false, List, [], ◌∷◌, ◌++◌, ap, sym, refl}
use Rattle.std.proofs.Common.{◌∙◌, arith}
use Rattle.std.specs.Prelude.{◌==◌, if◌then◌else◌}
use Rattle.std.specs.FinSet as set
use Rattle.std.specs.Cmp.{nat_cmp_total}
use Rattle.std.proofs.lemmas.Bool.{false_from_ne_true, or_parts}
use Rattle.std.proofs.lemmas.Int.{ints}
use Rattle.staat_vec.specs.declared.vector.V3.{V3}
use Rattle.staat_vec.specs.Vectors.{origin, plus, times}
use Rattle.staat_vec.proofs.VecRing.{same_vector}
use Rattle.staat_model.specs.declared.assembly.Part.{Part}
use Rattle.staat_model.specs.declared.set.PartSet.{PartSet}
use Rattle.staat_model.specs.Plans.{Plan, leaf, split, parts_of, IsGood}
use Rattle.staat_explode.specs.declared.boxes.Bounds.{Bounds}
use Rattle.staat_explode.specs.Shifts.{shifted_of, steps_apart, vector_of_part}
use Rattle.staat_explode.specs.Splits.{SplitAt, node_count, splits_from, step_of, sum_of}
use Rattle.staat_explode.proofs.Looking.{has_part-plan, vector_moved}
use Rattle.staat_vec.proofs.VectorLaws.{plus_origin, plus_assoc}

zero_plus : (v : V3) → plus origin v ≡ v
zero_plus v = same_vector _ _ (omega (arith, ints)) (omega (arith, ints)) (omega (arith, ints))

sum-append : (m : SplitAt → ℕ) (q : ℕ) (xs ys : List SplitAt) → sum_of m q (xs ++ ys)
    ≡ plus (sum_of m q xs) (sum_of m q ys)
sum-append m q [] ys = sym (zero_plus (sum_of m q ys))
sum-append m q (x ∷ xs) ys =
    ap (plus (step_of m q x)) (sum-append m q xs ys) ∙ plus_assoc (step_of m q x) (sum_of m q xs) (sum_of m q ys)

-- the split itself, and the sum over it and its two sides
abbrev this : ℕ → V3 → Plan → Plan → SplitAt
this node d moved rest = record { node = node; d = d; moved = moved; rest = rest }

sum-split : (m : SplitAt → ℕ) (q node : ℕ) (d : V3) (moved rest : Plan)
    → sum_of m q (splits_from node (split d moved rest))
    ≡ plus (sum_of m q (splits_from (node + 1) moved)) (plus (sum_of m q (splits_from (node + 1 + node_count moved) rest)) (step_of m q (this node d moved rest)))
sum-split m q node d moved rest =
    let others = splits_from (node + 1 + node_count moved) rest in
    sum-append m q (splits_from (node + 1) moved) (others ++ this node d moved rest ∷ [])
    ∙ ap (plus (sum_of m q (splits_from (node + 1) moved))) (sum-append m q others (this node d moved rest ∷ []) ∙ ap (plus (sum_of m q others)) (plus_origin (step_of m q (this node d moved rest))))

-- a part that a plan does not have is moved by none of its splits
sum-none : (m : SplitAt → ℕ) (q node : ℕ) (plan : Plan) → set.contains (parts_of plan) q ≡ false
    → sum_of m q (splits_from node plan) ≡ origin
sum-none m q node (leaf p) h = refl
sum-none m q node (split d moved rest) h =
    let parts = or_parts (set.contains (parts_of moved) q) (set.contains (parts_of rest) q) (sym (set.contains-union nat_cmp_total (parts_of moved) (parts_of rest) q) ∙ h) in
    let times_this = times (m (this node d moved rest)) d in
    let first = sum-none m q (node + 1) moved parts.0 in
    let second = sum-none m q (node + 1 + node_count moved) rest parts.1 in
    sum-split m q node d moved rest
    ∙ (λ i. plus (first i) (plus (second i) (if parts.0 i then times_this else origin)))
    ∙ zero_plus (plus origin origin)
    ∙ zero_plus origin

-- how often each split moves its parts
abbrev pub steps_of : List Bounds → SplitAt → ℕ
steps_of boxes s = steps_apart boxes s.d (shifted_of boxes s.moved) (shifted_of boxes s.rest)

pub vector_sum : (boxes : List Bounds) (parts : List Part) (w : PartSet) (node : ℕ) (plan : Plan)
    → IsGood parts w plan → (q : ℕ) → vector_of_part (shifted_of boxes plan) q
    ≡ sum_of (steps_of boxes) q (splits_from node plan)
vector_sum boxes parts w node (leaf p) h q = go (p == q)
  where
    go : (b : Bool) → (if b then origin else origin) ≡ origin
    go true = refl
    go false = refl
vector_sum boxes parts w node (split d moved rest) h q =
    let m = steps_of boxes in
    let first = vector_sum boxes parts (parts_of moved) (node + 1) moved h.3 q in
    let second = vector_sum boxes parts (parts_of rest) (node + 1 + node_count moved) rest h.4 q in
    vector_moved (m (this node d moved rest)) d (shifted_of boxes moved) (shifted_of boxes rest) q
    ∙ ap (λ (b : Bool). if b then plus (vector_of_part (shifted_of boxes moved) q) (times (m (this node d moved rest)) d) else vector_of_part (shifted_of boxes rest) q) (has_part-plan boxes moved q)
    ∙ go (set.contains (parts_of moved) q) refl first second
    ∙ sym (sum-split m q node d moved rest)
  where
    moved_sum : V3
    moved_sum = sum_of (steps_of boxes) q (splits_from (node + 1) moved)

    rest_sum : V3
    rest_sum = sum_of (steps_of boxes) q (splits_from (node + 1 + node_count moved) rest)

    step : V3
    step = times (steps_of boxes (this node d moved rest)) d

    go : (b : Bool) → set.contains (parts_of moved) q ≡ b
        → vector_of_part (shifted_of boxes moved) q ≡ moved_sum
        → vector_of_part (shifted_of boxes rest) q ≡ rest_sum
        → (if b then plus (vector_of_part (shifted_of boxes moved) q) step else vector_of_part (shifted_of boxes rest) q)
        ≡ plus moved_sum (plus rest_sum (if b then step else origin))
    go true e f g =
        let none = sum-none (steps_of boxes) q (node + 1 + node_count moved) rest (false_from_ne_true (set.contains (parts_of rest) q) (λ k. h.1 q e k)) in
        (λ i. plus (f i) step) ∙ ap (plus moved_sum) (sym (zero_plus step)) ∙ (λ i. plus moved_sum (plus (sym none i) step))
    go false e f g =
        let none = sum-none (steps_of boxes) q (node + 1) moved e in
        g ∙ sym (zero_plus (plus rest_sum origin) ∙ plus_origin rest_sum) ∙ (λ i. plus (sym none i) (plus rest_sum origin))
