-- A piece that is moved by a vector is a piece, and how its points are moved one after another.
use Rattle.std.proofs.Common.{◌≡◌, ◌↔◌, ⊎_elim, ℕ, false, zero, suc, ◌+◌, ◌<◌, ◌≤◌, arith, refl, sym, ap, subst, ◌∙◌, ℤ, ◌+ℤ◌, ◌<ℤ◌, List, [], ◌∷◌, length, get_or, All, Contains}
use Rattle.std.specs.Prelude.{IsTrue, slice_set}
use Rattle.std.specs.Cmp.{int_cmp_is, int_ranks}
use Rattle.std.specs.List.{AllByRecursion}
use Rattle.std.specs.List.Sorted.{IsStrictlySortedBy}
use Rattle.std.specs.Ordering.{MatchOrdering, int_cmp, ordering_then}
use Rattle.std.specs.declared.cmp.Ordering.{Ordering}
use Rattle.std.specs.declared.cmp.Ordering.TheVariants.{Less, Equal, Greater}
use Rattle.std.proofs.lemmas.Int.{ints}
use Rattle.std.proofs.lemmas.List.{length-map}
use Rattle.std.proofs.lemmas.List.Elements.{All-cons, All-contains, All-nil}
use Rattle.std.proofs.lemmas.Option.{slice_get-get_or}
use Rattle.staat_vec.specs.declared.vector.V3.{V3}
use Rattle.staat_vec.specs.declared.vector.TheConstants.{POINT}
use Rattle.staat_vec.specs.Vectors.{IsWithin, det, minus, origin, plus, vector_cmp}
use Rattle.staat_vec.proofs.Unique.{Contains-cases, Contains-front, Contains-later, Contains-nothing, from_place}
use Rattle.staat_vec.proofs.VecRing.{minusE, plusE, ring3, values, v0, v1, v2}
use Rattle.staat_model.specs.Pieces.{IsPiece, IsSolid}
use Rattle.staat_asm.specs.Placing.{IsPlaced, IsPlacedFar, shifted}
use Rattle.staat_vec.proofs.VectorLaws.{plus_origin}
use Rattle.staat_vec.proofs.Naturals.{le_or_lt}

-- ---- points

minus-shifted : (at a b : V3) → minus (plus b at) (plus a at) ≡ minus b a
minus-shifted at a b = ring3 (values (at ∷ a ∷ b ∷ []) []) (minusE (plusE v2 v0) (plusE v1 v0)) (minusE v2 v1) (tt, tt, tt)

int_shifted : (a b c : ℤ) → int_cmp (a +ℤ c) (b +ℤ c) ≡ int_cmp a b
int_shifted a b c = sym (int_cmp_is (a +ℤ c) (b +ℤ c) (int_cmp a b) (go (int_cmp a b) (int_ranks a b)))
  where
    go : (r : Ordering) → MatchOrdering r (a <ℤ b) (a ≡ b) (b <ℤ a) → MatchOrdering r ((a +ℤ c) <ℤ (b +ℤ c)) ((a +ℤ c) ≡ (b +ℤ c)) ((b +ℤ c) <ℤ (a +ℤ c))
    go Less h = omega (arith, ints)
    go Equal h = ap (λ x. x +ℤ c) h
    go Greater h = omega (arith, ints)

cmp_shifted : (at a b : V3) → vector_cmp (plus a at) (plus b at) ≡ vector_cmp a b
cmp_shifted at a b = λ i. ordering_then (int_shifted a.x b.x at.x i) (ordering_then (int_shifted a.y b.y at.y i) (int_shifted a.z b.z at.z i))

-- ---- lists

in_shifted : (at p : V3) (ps : List V3) → Contains ps p → Contains (shifted at ps) (plus p at)
in_shifted at p [] c = absurd (Contains-nothing p c)
in_shifted at p (q ∷ ps) c = ⊎_elim {C = Contains (shifted at (q ∷ ps)) (plus p at)}
    (λ e. subst (λ x. Contains (shifted at (q ∷ ps)) (plus x at)) (sym e) (Contains-front (plus q at) (shifted at ps)))
    (λ later. Contains-later (plus q at) (shifted at ps) (plus p at) (in_shifted at p ps later))
    (Contains-cases q ps p c)

less_shifted : (at p : V3) (ps : List V3) → AllByRecursion (λ q. vector_cmp p q ≡ Less) ps → AllByRecursion (λ q. vector_cmp (plus p at) q ≡ Less) (shifted at ps)
less_shifted at p [] s = tt
less_shifted at p (q ∷ ps) s = (cmp_shifted at p q ∙ s.0, less_shifted at p ps s.1)

shifted_ascends : (at : V3) (ps : List V3) → IsStrictlySortedBy vector_cmp ps → IsStrictlySortedBy vector_cmp (shifted at ps)
unfolding IsStrictlySortedBy
shifted_ascends at [] s = tt
shifted_ascends at (p ∷ ps) s = (less_shifted at p ps s.0, shifted_ascends at ps s.1)

shifted_solid : (at : V3) (ps : List V3) → IsSolid ps → IsSolid (shifted at ps)
shifted_solid at ps s = record {
  a = plus s.a at;
  b = plus s.b at;
  c = plus s.c at;
  e = plus s.e at;
  a_in = in_shifted at s.a ps s.a_in;
  b_in = in_shifted at s.b ps s.b_in;
  c_in = in_shifted at s.c ps s.c_in;
  e_in = in_shifted at s.e ps s.e_in;
  apart = λ z. s.apart (sym (λ i. det (minus-shifted at s.a s.b i) (minus-shifted at s.a s.c i) (minus-shifted at s.a s.e i)) ∙ z);
}

pub shifted_piece : (at : V3) (ps : List V3) → IsPiece ps → All (IsWithin POINT) (shifted at ps) → IsPiece (shifted at ps)
shifted_piece at ps is within = record {
  ascending = shifted_ascends at ps is.ascending;
  at_least = let e : length (shifted at ps) ≡ length ps = length-map ps (λ p. plus p at) in omega (arith, is.at_least, e);
  at_most = let e : length (shifted at ps) ≡ length ps = length-map ps (λ p. plus p at) in omega (arith, is.at_most, e);
  within = within;
  solid = shifted_solid at ps is.solid;
}

shifted-origin : (ps : List V3) → shifted origin ps ≡ ps
shifted-origin [] = refl
shifted-origin (p ∷ ps) = λ i. plus_origin p i ∷ shifted-origin ps i

pub placed_there : (at : V3) (ps : List V3) → IsPiece ps → at ≡ origin → IsPlaced at ps ps
placed_there at ps is e = let same : shifted at ps ≡ ps = ap (λ v. shifted v ps) e ∙ shifted-origin ps in record { is = sym same; within = subst (All (IsWithin POINT)) (sym same) is.within }

-- ---- one point after another

-- the list with its first k points moved
abbrev pub half_shifted : V3 → ℕ → List V3 → List V3
half_shifted at zero ps = ps
half_shifted at (suc k) [] = []
half_shifted at (suc k) (p ∷ ps) = plus p at ∷ half_shifted at k ps

half_at : (at : V3) (k : ℕ) (ps : List V3) (d : V3) → get_or (half_shifted at k ps) k d ≡ get_or ps k d
half_at at zero ps d = refl
half_at at (suc k) [] d = refl
half_at at (suc k) (p ∷ ps) d = half_at at k ps d

set_next : (at : V3) (k : ℕ) (ps : List V3) (d : V3) → k < length ps → slice_set (half_shifted at k ps) k (plus (get_or ps k d) at) ≡ half_shifted at (suc k) ps
set_next at k [] d lt = absurd (omega arith)
set_next at zero (p ∷ ps) d lt = refl
set_next at (suc k) (p ∷ ps) d lt = ap (λ l. plus p at ∷ l) (set_next at k ps d (omega arith))

length-half : (at : V3) (k : ℕ) (ps : List V3) → length (half_shifted at k ps) ≡ length ps
length-half at zero ps = refl
length-half at (suc k) [] = refl
length-half at (suc k) (p ∷ ps) = ap suc (length-half at k ps)

pub half_within : (at : V3) (k : ℕ) (ps now : List V3) (d : V3) → All (IsWithin POINT) ps → now ≡ half_shifted at k ps → k < length now → IsWithin POINT (get_or now k d)
half_within at k ps now d all e lt =
    let below : k < length ps = omega (arith, lt, ap length e, length-half at k ps) in
    subst (IsWithin POINT) (sym (ap (λ l. get_or l k d) e ∙ half_at at k ps d)) (All-contains (IsWithin POINT) ps (get_or ps k d) all (from_place ps k (get_or ps k d) (slice_get-get_or ps k d below)))

pub half_next : (at : V3) (k : ℕ) (ps now : List V3) (d v : V3) → now ≡ half_shifted at k ps → k < length now → v ≡ plus (get_or now k d) at → slice_set now k v ≡ half_shifted at (k + 1) ps
half_next at k ps now d v e lt is =
    let below : k < length ps = omega (arith, lt, ap length e, length-half at k ps) in
    let value : v ≡ plus (get_or ps k d) at = is ∙ ap (λ p. plus p at) (ap (λ l. get_or l k d) e ∙ half_at at k ps d) in
    let next : suc k ≡ k + 1 = omega arith in
    (λ i. slice_set (e i) k (value i)) ∙ set_next at k ps d below ∙ ap (λ m. half_shifted at m ps) next

pub half_whole : (at : V3) (k : ℕ) (ps : List V3) → length ps ≤ k → half_shifted at k ps ≡ shifted at ps
half_whole at zero [] le = refl
half_whole at zero (p ∷ ps) le = absurd (omega arith)
half_whole at (suc k) [] le = refl
half_whole at (suc k) (p ∷ ps) le = ap (λ l. plus p at ∷ l) (half_whole at k ps (omega arith))

pub half_end : (at : V3) (k : ℕ) (ps now : List V3) → now ≡ half_shifted at k ps → length now ≤ k → now ≡ shifted at ps
half_end at k ps now e le = e ∙ half_whole at k ps (omega (arith, le, ap length e, length-half at k ps))

-- ---- no point too far out

at_most : (a b : ℕ) → ((a ≤ b → ⊥) → ⊥) → a ≤ b
at_most a b f = ⊎_elim {C = a ≤ b} (λ le. le) (λ gt. absurd (f (λ le. omega (arith, le, gt)))) (le_or_lt a b)

decided : (v : V3) → ((IsWithin POINT v → ⊥) → ⊥) → IsWithin POINT v
decided v f = record { x = at_most _ _ (λ less. f (λ w. less w.x)); y = at_most _ _ (λ less. f (λ w. less w.y)); z = at_most _ _ (λ less. f (λ w. less w.z)) }

none_far : (at : V3) (ps : List V3) → (IsPlacedFar at ps → ⊥) → All (IsWithin POINT) (shifted at ps)
none_far at [] f = All-nil (IsWithin POINT)
none_far at (p ∷ ps) f =
    All-cons (IsWithin POINT) (plus p at) (shifted at ps)
    (decided (plus p at) (λ far. f (zero, p, omega arith, refl, far)))
    (none_far at ps (λ (k, q, lt, is, far). f (suc k, q, omega arith, is, far)))

pub shifted_within : (at : V3) (ps qs : List V3) → IsTrue false ↔ IsPlacedFar at qs → qs ≡ ps → All (IsWithin POINT) (shifted at ps)
shifted_within at ps qs told e = none_far at ps (λ far. let wrong : IsTrue false = told.1 (subst (IsPlacedFar at) (sym e) far) in cc)
