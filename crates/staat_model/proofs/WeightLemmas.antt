-- Weights of two lists of points, and numbers for their differences.
use Rattle.std.proofs.Common.{◌≡◌, ℕ, suc, ◌+◌, ◌*◌, ◌≤◌, refl, sym, ap, subst, ◌∙◌, arith, pos, List, [], ◌∷◌, ◌++◌, length, map, All, sum, take, drop, replicate, take-append-drop, length-take-le, length-drop, length-append, mul-le-mul}
use Rattle.std.proofs.lemmas.List.{length-map, length-replicate, nil_from_length}
use Rattle.std.proofs.lemmas.List.Folds.{sum_by-replicate}
use Rattle.std.proofs.lemmas.List.Elements.{All-nil, All-cons, All-head, All-tail, All-weaker, All-map, All-append, All-take, All-drop}
use Rattle.staat_vec.specs.declared.vector.V3.{V3}
use Rattle.staat_vec.specs.Vectors.{plus, times, minus, origin}
use Rattle.staat_vec.proofs.Ring.{at, num, ◌⊕◌, ◌⊗◌}
use Rattle.staat_vec.proofs.VecRing.{plusE, minusE, timesE, originE, values, v0, v1, v2, v3, ring3}
use Rattle.staat_model.specs.Meeting.{AreWeights, mix, Meets}
use Rattle.staat_model.specs.Cones.{differences, IsReached}
use Rattle.staat_model.proofs.Mixes.{added, mix_scale, origin_plus}
use Rattle.staat_vec.proofs.ListLaws.{sum-cons}
use Rattle.staat_vec.proofs.VectorLaws.{plus_assoc}

mix-append : (xs ys : List ℕ) (vs ws : List V3) → length xs ≡ length vs → mix (xs ++ ys) (vs ++ ws) ≡ plus (mix xs vs) (mix ys ws)
mix-append [] ys [] ws e = origin_plus (mix ys ws)
mix-append (x ∷ xs) ys (v ∷ vs) ws e = ap (plus (times x v)) (mix-append xs ys vs ws (omega arith)) ∙ plus_assoc (times x v) (mix xs vs) (mix ys ws)
mix-append xs ys vs ws e = absurd (omega arith)

-- ---- one row: the numbers of the differences to one point p

row : (b : List ℕ) (qs : List V3) (p : V3) → length b ≡ length qs → mix b (map (λ q. minus q p) qs) ≡ minus (mix b qs) (times (sum b) p)
row [] [] p e = ring3 (values (p ∷ []) []) originE (minusE originE (timesE (num (pos 0)) v0)) (tt, tt, tt)
row (y ∷ b) (q ∷ qs) p e =
    ap (plus (times y (minus q p))) (row b qs p (omega arith))
    ∙ ring3 (values (q ∷ p ∷ mix b qs ∷ []) (pos y ∷ pos (sum b) ∷ []))
    (plusE (timesE (at 9) (minusE v0 v1)) (minusE v2 (timesE (at 10) v1)))
    (minusE (plusE (timesE (at 9) v0) v2) (timesE (at 9 ⊕ at 10) v1)) (tt, tt, tt)
    ∙ ap (λ s. minus (plus (times y q) (mix b qs)) (times s p)) (sym (sum-cons y b))
row b qs p e = absurd (omega arith)

-- ---- from weights to numbers: the product of each two weights

-- numbers of at least 1 for the differences, and what they add up to
record Numbers (a b : List ℕ) (ps qs : List V3) : Type 0 where
  ms : List ℕ
  are_weights : AreWeights ms (differences ps qs)
  is : mix ms (differences ps qs) ≡ minus (times (sum a) (mix b qs)) (times (sum b) (mix a ps))

numbers : (a b : List ℕ) (ps qs : List V3) → length a ≡ length ps → All (λ w. 1 ≤ w) a → AreWeights b qs → Numbers a b ps qs
numbers [] b [] qs e one w = record { ms = []; are_weights = record { one_each = refl; positive = All-nil (λ w. 1 ≤ w) }; is = ring3 (values (mix b qs ∷ []) (pos (sum b) ∷ [])) originE (minusE (timesE (num (pos 0)) v0) (timesE (at 3) originE)) (tt, tt, tt) }
numbers (x ∷ a) b (p ∷ ps) qs e one w =
    let rest = numbers a b ps qs (omega arith) (All-tail (λ w. 1 ≤ w) x a one) w in
    let first = map (λ y. x * y) b in
    let row_of = map (λ q. minus q p) qs in
    let same : length first ≡ length row_of = length-map b (λ y. x * y) ∙ w.one_each ∙ sym (length-map qs (λ q. minus q p)) in
    record {
      ms = first ++ rest.ms;
      are_weights = record {
        one_each = length-append first rest.ms ∙ (λ i. same i + rest.are_weights.one_each i) ∙ sym (length-append row_of (differences ps qs));
        positive = All-append (λ w. 1 ≤ w) first rest.ms
            (All-map (λ w. 1 ≤ w) (λ y. x * y) b (All-weaker (λ w. 1 ≤ w) (λ y. 1 ≤ x * y) (λ y le. mul-le-mul (All-head (λ w. 1 ≤ w) x a one) le) b w.positive))
            rest.are_weights.positive;
      };
      is = mix-append first rest.ms row_of (differences ps qs) same
          ∙ (λ i. plus ((mix_scale x b row_of ∙ ap (times x) (row b qs p w.one_each)) i) (rest.is i))
          ∙ ring3 (values (mix b qs ∷ p ∷ mix a ps ∷ []) (pos x ∷ pos (sum b) ∷ pos (sum a) ∷ []))
          (plusE (timesE (at 9) (minusE v0 (timesE (at 10) v1))) (minusE (timesE (at 11) v0) (timesE (at 10) v2)))
          (minusE (timesE (at 9 ⊕ at 11) v0) (timesE (at 10) (plusE (timesE (at 9) v1) v2))) (tt, tt, tt)
          ∙ ap (λ s. minus (times s (mix b qs)) (times (sum b) (plus (times x p) (mix a ps)))) (sym (sum-cons x a));
    }
numbers a b ps qs e one w = absurd (omega arith)

pub reached_from_meets : (ps qs : List V3) (d : V3) → Meets ps qs d → IsReached (differences ps qs) d
reached_from_meets ps qs d m =
    let r = m.meeting in
    let n = numbers r.a r.b ps qs r.a_weights.one_each r.a_weights.positive r.b_weights in
    record {
      weights = n.ms;
      are_weights = n.are_weights;
      t = sum r.a * m.t;
      is = n.is
          ∙ ap (λ w. minus (times (sum r.a) w) (times (sum r.b) (mix r.a ps))) (sym r.same_place)
          ∙ ap (λ s. minus (times (sum r.a) (plus (mix r.a ps) (times m.t d))) (times s (mix r.a ps))) (sym r.same_sum)
          ∙ ring3 (values (mix r.a ps ∷ d ∷ []) (pos (sum r.a) ∷ pos m.t ∷ [])) (minusE (timesE (at 6) (plusE v0 (timesE (at 7) v1))) (timesE (at 6) v0)) (timesE (at 6 ⊗ at 7) v1) (tt, tt, tt);
    }

-- ---- from numbers to weights: the sums of the rows and of the columns

mix-zeros : (vs : List V3) → mix (replicate (length vs) 0) vs ≡ origin
mix-zeros [] = refl
mix-zeros (v ∷ vs) = ap (plus (times 0 v)) (mix-zeros vs) ∙ ring3 (values (v ∷ []) []) (plusE (timesE (num (pos 0)) v0) originE) originE (tt, tt, tt)

-- weights of the two lists, as the numbers of their differences make them
record Split (ps qs : List V3) (ms : List ℕ) : Type 0 where
  a : List ℕ
  b : List ℕ
  length_a : length a ≡ length ps
  length_b : length b ≡ length qs
  same : sum a ≡ sum b
  is : mix ms (differences ps qs) ≡ minus (mix b qs) (mix a ps)
  positive_a : 1 ≤ length qs → All (λ w. 1 ≤ w) a
  positive_b : 1 ≤ length ps → All (λ w. 1 ≤ w) b

split_none : (qs : List V3) (ms : List ℕ) → length ms ≡ 0 → Split [] qs ms
split_none qs ms e = record {
  a = [];
  b = replicate (length qs) 0;
  length_a = refl;
  length_b = length-replicate (length qs) 0;
  same = omega (arith, sum_by-replicate (λ (n : ℕ). n) (length qs) 0);
  is = ap (λ ns. mix ns []) (nil_from_length ms e) ∙ ap (λ w. minus w origin) (sym (mix-zeros qs));
  positive_a = λ h. All-nil (λ w. 1 ≤ w);
  positive_b = λ h. absurd (omega arith);
}

pub some_sum : (xs : List ℕ) → 1 ≤ length xs → All (λ w. 1 ≤ w) xs → 1 ≤ sum xs
some_sum [] h g = absurd (omega arith)
some_sum (x ∷ xs) h g = let one = All-head (λ w. 1 ≤ w) x xs g in omega (arith, one, sum-cons x xs)

split_cons : (p : V3) (ps qs : List V3) (r s : List ℕ) → length r ≡ length qs → All (λ w. 1 ≤ w) r → Split ps qs s → Split (p ∷ ps) qs (r ++ s)
split_cons p ps qs r s l one t =
    let both = added r t.b (l ∙ sym t.length_b) in
    record {
      a = sum r ∷ t.a;
      b = both.zs;
      length_a = ap suc t.length_a;
      length_b = both.one_each ∙ l;
      same = sum-cons (sum r) t.a ∙ ap (λ n. sum r + n) t.same ∙ sym both.total;
      is = mix-append r s (map (λ q. minus q p) qs) (differences ps qs) (l ∙ sym (length-map qs (λ q. minus q p)))
          ∙ (λ i. plus (row r qs p l i) (t.is i))
          ∙ ring3 (values (mix r qs ∷ mix t.b qs ∷ times (sum r) p ∷ mix t.a ps ∷ []) []) (plusE (minusE v0 v2) (minusE v1 v3)) (minusE (plusE v0 v1) (plusE v2 v3)) (tt, tt, tt)
          ∙ ap (λ w. minus w (plus (times (sum r) p) (mix t.a ps))) (sym (both.mixed qs));
      positive_a = λ h. All-cons (λ w. 1 ≤ w) (sum r) t.a (some_sum r (omega arith) one) (t.positive_a h);
      positive_b = λ h. both.positive one;
    }

split : (ps qs : List V3) (ms : List ℕ) → length ms ≡ length (differences ps qs) → All (λ w. 1 ≤ w) ms → Split ps qs ms
split [] qs ms e one = split_none qs ms e
split (p ∷ ps) qs ms e one =
    let n = length qs in
    let long = length-append (map (λ q. minus q p) qs) (differences ps qs) in
    let same = length-map qs (λ q. minus q p) in
    let le : n ≤ length ms = omega (arith, e, long, same) in
    let r = take n ms in
    let s = drop n ms in
    let ls : length s ≡ length (differences ps qs) = length-drop n ms ∙ omega (arith, e, long, same) in
    subst (Split (p ∷ ps) qs) (take-append-drop n ms)
    (split_cons p ps qs r s (length-take-le n ms le) (All-take (λ w. 1 ≤ w) n ms one) (split ps qs s ls (All-drop (λ w. 1 ≤ w) n ms one)))

pub meets_from_reached : (ps qs : List V3) (d : V3) → 1 ≤ length ps → 1 ≤ length qs → IsReached (differences ps qs) d → Meets ps qs d
meets_from_reached ps qs d some_p some_q r =
    let s = split ps qs r.weights r.are_weights.one_each r.are_weights.positive in
    record {
      t = r.t;
      meeting = record {
        a = s.a;
        b = s.b;
        a_weights = record { one_each = s.length_a; positive = s.positive_a some_q };
        b_weights = record { one_each = s.length_b; positive = s.positive_b some_p };
        same_sum = s.same;
        same_place = ap (plus (mix s.a ps)) (sym r.is ∙ s.is) ∙ ring3 (values (mix s.a ps ∷ mix s.b qs ∷ []) []) (plusE v0 (minusE v1 v0)) v1 (tt, tt, tt);
      };
    }
