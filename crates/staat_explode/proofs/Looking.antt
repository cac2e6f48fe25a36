-- The vector of a part among those of a plan.
use Rattle.std.proofs.Common.{◌≡◌, ℕ, ◌+◌, ◌<◌, Bool, true, false, List, [], ◌∷◌, ◌++◌, map}
use Rattle.std.proofs.Common.{Contains, ap, sym, subst, refl, ◌∙◌, arith, Some}
use Rattle.std.specs.Prelude.{◌==◌, ◌||◌, slice_get, if◌then◌else◌}
use Rattle.std.specs.List.{list_any, range_with_len}
use Rattle.std.specs.FinSet as set
use Rattle.std.specs.Cmp.{nat_cmp_total}
use Rattle.std.proofs.lemmas.Bool.{false≢true}
use Rattle.std.proofs.lemmas.List.Folds.{list_any-append}
use Rattle.std.proofs.lemmas.List.FromFn.{get_or-map-range_with_len, length-map-range_with_len}
use Rattle.std.proofs.lemmas.List.FromFn.{map-range_with_len_more}
use Rattle.std.proofs.lemmas.Option.{slice_get_within, get_or_from_slice_get}
use Rattle.staat_vec.specs.declared.vector.V3.{V3}
use Rattle.staat_vec.specs.Vectors.{origin, plus, times}
use Rattle.staat_model.proofs.SetMembers.{has-single}
use Rattle.staat_model.specs.Sets.{single}
use Rattle.staat_model.specs.Plans.{Plan, leaf, split, parts_of}
use Rattle.staat_explode.specs.declared.boxes.Bounds.{Bounds}
use Rattle.staat_explode.specs.declared.shifted.Shifted.{Shifted}
use Rattle.staat_explode.specs.Shifts.{moved_on, shifted_of, steps_apart, vector_of_part}
use Rattle.staat_vec.proofs.Truth.{same_truth, or_false}
use Rattle.staat_vec.proofs.Naturals.{same_from_test}
use Rattle.staat_vec.proofs.Unique.{Contains-front}
use Rattle.staat_vec.proofs.ListLaws.{Contains-there}

pub shifts_more : (placed : List Shifted) (n : ℕ) (shifts : List V3) → shifts
    ≡ map (vector_of_part placed) (range_with_len 0 n) → shifts ++ vector_of_part placed n ∷ []
    ≡ map (vector_of_part placed) (range_with_len 0 (n + 1))
shifts_more placed n shifts e =
    ap (λ l. l ++ vector_of_part placed n ∷ []) e ∙ sym (map-range_with_len_more (vector_of_part placed) 0 n n (omega arith))

-- the vector in the list is that of the part
pub shift_is : (placed : List Shifted) (n part : ℕ) (v : V3)
    → slice_get (map (vector_of_part placed) (range_with_len 0 n)) part ≡ Some v
    → (v ≡ vector_of_part placed part) × (part < n)
shift_is placed n part v e =
    let within = slice_get_within (map (vector_of_part placed) (range_with_len 0 n)) part v e in
    let lt : part < n = omega (arith, length-map-range_with_len (vector_of_part placed) 0 n) in
    (sym (get_or_from_slice_get (map (vector_of_part placed) (range_with_len 0 n)) part v v e) ∙ get_or-map-range_with_len (vector_of_part placed) 0 n part part v lt (omega arith), lt)

-- ---- whether a list has the part

abbrev pub has_part : List Shifted → ℕ → Bool
has_part ps q = list_any (λ (p : Shifted). p.part == q) ps

has_part-moved : (m : ℕ) (d : V3) (xs : List Shifted) (q : ℕ) → has_part (map (moved_on m d) xs) q
    ≡ has_part xs q
has_part-moved m d [] q = refl
has_part-moved m d (x ∷ xs) q = ap (λ b. (x.part == q) || b) (has_part-moved m d xs q)

same_test : (p q : ℕ) → set.contains (single p) q ≡ (p == q)
same_test p q =
    same_truth (set.contains (single p) q) (p == q) (λ h. let e =
    (has-single p q).0 h in test p q (sym e)) (λ h. (has-single p q).1 (sym (same_from_test p q h)))
  where
    test : (a b : ℕ) → a ≡ b → (a == b) ≡ true
    test a b e = grind arith

-- a plan's list has the plan's parts
pub has_part-plan : (boxes : List Bounds) (plan : Plan) (q : ℕ) → has_part (shifted_of boxes plan) q
    ≡ set.contains (parts_of plan) q
has_part-plan boxes (leaf p) q = or_false (p == q) ∙ sym (same_test p q)
has_part-plan boxes (split d moved rest) q =
    let m = steps_apart boxes d (shifted_of boxes moved) (shifted_of boxes rest) in
    list_any-append (λ (p : Shifted). p.part == q) (map (moved_on m d) (shifted_of boxes moved)) (shifted_of boxes rest)
    ∙ (λ i. has_part-moved m d (shifted_of boxes moved) q i || has_part (shifted_of boxes rest) q)
    ∙ (λ i. has_part-plan boxes moved q i || has_part-plan boxes rest q i)
    ∙ sym (set.contains-union nat_cmp_total (parts_of moved) (parts_of rest) q)

-- a part that the list has stands in it with its vector
pub stands : (ps : List Shifted) (q : ℕ) → has_part ps q ≡ true
    → Contains ps (record { part = q; by = vector_of_part ps q })
stands [] q h = absurd (false≢true h)
stands (p ∷ ps) q h = go (p.part == q) refl h (stands ps q)
  where
    go : (b : Bool) → (p.part == q) ≡ b → (b || has_part ps q) ≡ true
        → (has_part ps q ≡ true → Contains ps (record { part = q; by = vector_of_part ps q }))
        → Contains (p ∷ ps) (record { part = q; by = if b then p.by else vector_of_part ps q })
    go true e k f =
        let same = same_from_test p.part q e in subst (λ n. Contains (p ∷ ps) (record {
          part =
              n;
          by = p.by;
        })) same (Contains-front p ps)
    go false e k f = Contains-there p (record { part = q; by = vector_of_part ps q }) ps (f k)

-- ---- after a split

pub vector_moved : (m : ℕ) (d : V3) (ms rs : List Shifted) (q : ℕ)
    → vector_of_part (map (moved_on m d) ms ++ rs) q
    ≡ (if has_part ms q then plus (vector_of_part ms q) (times m d) else vector_of_part rs q)
vector_moved m d [] rs q = refl
vector_moved m d (p ∷ ms) rs q = go (p.part == q) (vector_moved m d ms rs q)
  where
    go : (b : Bool) → vector_of_part (map (moved_on m d) ms ++ rs) q
        ≡ (if has_part ms q then plus (vector_of_part ms q) (times m d) else vector_of_part rs q)
        → (if b then plus p.by (times m d) else vector_of_part (map (moved_on m d) ms ++ rs) q)
        ≡ (if b || has_part ms q then plus (if b then p.by else vector_of_part ms q) (times m d) else vector_of_part rs q)
    go true e = refl
    go false e = e

pub no_vector : (ps : List Shifted) (q : ℕ) → has_part ps q ≡ false → vector_of_part ps q ≡ origin
no_vector [] q h = refl
no_vector (p ∷ ps) q h = go (p.part == q) h (no_vector ps q)
  where
    go : (b : Bool) → (b || has_part ps q) ≡ false → (has_part ps q ≡ false → vector_of_part ps q ≡ origin)
        → (if b then p.by else vector_of_part ps q) ≡ origin
    go true k f = absurd (false≢true (sym k))
    go false k f = f k
