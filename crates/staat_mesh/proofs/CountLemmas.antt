-- The table of edges, one edge after another.
use Rattle.std.proofs.Common.{◌≡◌, ◌≢◌, ◌<◌, ◌+◌, ◌*◌, ◌==◌, ◌&&◌, ◌⊎◌, ℕ, true, false, cond, List, [], ◌∷◌, ◌++◌, length, set, inl, inr, refl, ap, sym, subst, ◌∙◌, arith, eq-eqb, ⊎_elim, get_or-set_other, get_or-set_same}
use Rattle.std.specs.Prelude.{count_by, min, replicate, slice_index}
use Rattle.std.proofs.lemmas.Bool.{cases_eq}
use Rattle.std.proofs.lemmas.List.Sums.{sum_by_push}
use Rattle.staat_limits.specs.declared.limits.TheConstants.{MOST_POINTS}
use Rattle.staat_mesh.specs.Counts.{Counts, cell, leads}
use Rattle.staat_vec.proofs.ListLaws.{slice_index-zeros}
use Rattle.staat_vec.proofs.Naturals.{eq_test_false}
use Rattle.staat_vec.proofs.Truth.{and_false}

-- ---- a table of nothing

pub counts_none : (n : ℕ) → Counts (replicate n 0) []
counts_none n i j hi hj = slice_index-zeros n (cell i j)

-- ---- one more edge

leads-same : (i j : ℕ) → leads i j (i, j) ≡ true
unfolding leads
leads-same i j = λ k. eq-eqb i i refl k && eq-eqb j j refl k

leads-other : (i j a b : ℕ) → (a ≢ i) ⊎ (b ≢ j) → leads i j (a, b) ≡ false
unfolding leads
leads-other i j a b (inl ne) = ap (λ t. t && (b == j)) (eq_test_false a i ne)
leads-other i j a b (inr ne) = ap (λ t. (a == i) && t) (eq_test_false b j ne) ∙ and_false (a == i)

-- places in the table
cell-first : (i j a b : ℕ) → j < MOST_POINTS → b < MOST_POINTS → cell i j ≡ cell a b → i ≡ a
cell-first i j a b hj hb e = omega arith

cell-second : (i j a b : ℕ) → j < MOST_POINTS → b < MOST_POINTS → cell i j ≡ cell a b → j ≡ b
cell-second i j a b hj hb e = omega arith

cell-within : (i j : ℕ) → i < MOST_POINTS → j < MOST_POINTS → cell i j < MOST_POINTS * MOST_POINTS
cell-within i j hi hj = omega arith

count_push : (i j : ℕ) (edges : List (ℕ × ℕ)) (e : ℕ × ℕ) → count_by (leads i j) (edges ++ e ∷ []) ≡ count_by (leads i j) edges + cond (leads i j e) 1 0
count_push i j edges e = sum_by_push (λ x. cond (leads i j x) 1 0) edges e

raised : (n c old new : ℕ) → old ≡ min 255 c → new ≡ min (old + 1) 255 → n ≡ c + 1 → new ≡ min 255 n
raised n c old new e f g = omega arith

counted_here : (table : List ℕ) (edges : List (ℕ × ℕ)) (a b new : ℕ) → a < MOST_POINTS → b < MOST_POINTS → length table ≡ MOST_POINTS * MOST_POINTS → Counts table edges → new ≡ min (slice_index table (cell a b) + 1) 255 → slice_index (set table (cell a b) new) (cell a b) ≡ min 255 (count_by (leads a b) (edges ++ (a, b) ∷ []))
counted_here table edges a b new ha hb long so_far e =
    get_or-set_same table (cell a b) new 0 (omega (arith, cell-within a b ha hb, long))
    ∙ raised (count_by (leads a b) (edges ++ (a, b) ∷ [])) (count_by (leads a b) edges) (slice_index table (cell a b)) new (so_far a b ha hb) e
    (count_push a b edges (a, b) ∙ ap (λ t. count_by (leads a b) edges + cond t 1 0) (leads-same a b))

counted_there : (table : List ℕ) (edges : List (ℕ × ℕ)) (i j a b new : ℕ) → i < MOST_POINTS → j < MOST_POINTS → b < MOST_POINTS → (a ≢ i) ⊎ (b ≢ j) → Counts table edges → slice_index (set table (cell a b) new) (cell i j) ≡ min 255 (count_by (leads i j) (edges ++ (a, b) ∷ []))
counted_there table edges i j a b new hi hj hb other so_far =
    let apart : cell i j ≢ cell a b = λ e. ⊎_elim (λ ne. ne (sym (cell-first i j a b hj hb e))) (λ ne. ne (sym (cell-second i j a b hj hb e))) other in
    let same : count_by (leads i j) (edges ++ (a, b) ∷ []) ≡ count_by (leads i j) edges = count_push i j edges (a, b) ∙ ap (λ t. count_by (leads i j) edges + cond t 1 0) (leads-other i j a b other) ∙ plus_zero (count_by (leads i j) edges) in
    get_or-set_other table (cell a b) (cell i j) new 0 apart ∙ so_far i j hi hj ∙ ap (min 255) (sym same)
  where
    plus_zero : (n : ℕ) → n + 0 ≡ n
    plus_zero n = omega arith

pub counts_more : (table : List ℕ) (edges : List (ℕ × ℕ)) (a b new : ℕ) → a < MOST_POINTS → b < MOST_POINTS → length table ≡ MOST_POINTS * MOST_POINTS → new ≡ min (slice_index table (cell a b) + 1) 255 → Counts table edges → Counts (set table (cell a b) new) (edges ++ (a, b) ∷ [])
counts_more table edges a b new ha hb long e so_far i j hi hj =
    ⊎_elim
    (λ first. ⊎_elim
    (λ second. subst (λ k. slice_index (set table (cell a b) new) (cell k j) ≡ min 255 (count_by (leads k j) (edges ++ (a, b) ∷ []))) first
    (subst (λ l. slice_index (set table (cell a b) new) (cell a l) ≡ min 255 (count_by (leads a l) (edges ++ (a, b) ∷ []))) second (counted_here table edges a b new ha hb long so_far e)))
    (λ ne. counted_there table edges i j a b new hi hj hb (inr ne) so_far)
    (cases_eq b j))
    (λ ne. counted_there table edges i j a b new hi hj hb (inl ne) so_far)
    (cases_eq a i)
