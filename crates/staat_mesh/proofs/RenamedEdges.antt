-- Lists whose members are renamed: their edges, and how many edges they have.
use Rattle.std.proofs.Common.{◌≡◌, ◌≢◌, ◌<◌, ◌+◌, ◌&&◌, ◌||◌, ◌==◌, ℕ, Bool, true, false, cond, Option, Some, List, [], ◌∷◌, ◌++◌, map, refl, ap, sym, ◌∙◌, arith}
use Rattle.std.specs.Prelude.{All, Contains, count_by}
use Rattle.std.specs.List.{cons_option, filter_map, flat_map, zip}
use Rattle.std.specs.Bool.{Decides}
use Rattle.std.specs.Ordering.{is_eq}
use Rattle.std.proofs.lemmas.Bool.Decides.{Decides-eqb, same_from_decides}
use Rattle.std.proofs.lemmas.List.{map-append}
use Rattle.std.proofs.lemmas.List.Elements.{All-head, All-tail}
use Rattle.std.proofs.lemmas.List.Sums.{sum_by-cons}
use Rattle.staat_vec.specs.declared.vector.V3.{V3}
use Rattle.staat_vec.specs.Vectors.{vector_cmp}
use Rattle.staat_vec.proofs.Comparisons.{from_is_eq}
use Rattle.staat_vec.proofs.VectorOrder.{vector_cmp-same, vector_exact}
use Rattle.staat_vec.proofs.Unique.{Contains-front, Contains-later}
use Rattle.staat_mesh.specs.Counts.{leads}
use Rattle.staat_mesh.specs.Edges.{edges, is_same, joins, rotated}

-- a pair renamed
abbrev pub both : {X Y : Type 0} → (X → Y) → X × X → Y × Y
both f e = (f e.0, f e.1)

zip-map : {X Y : Type 0} (f : X → Y) (xs ys : List X) → zip (map f xs) (map f ys) ≡ map (both f) (zip xs ys)
zip-map f [] ys = refl
zip-map f (x ∷ xs) [] = refl
zip-map f (x ∷ xs) (y ∷ ys) = ap (λ rest. (f x, f y) ∷ rest) (zip-map f xs ys)

rotated-map : {X Y : Type 0} (f : X → Y) (xs : List X) → rotated (map f xs) ≡ map f (rotated xs)
rotated-map f [] = refl
rotated-map f (x ∷ xs) = sym (map-append f xs (x ∷ []))

pub edges-map : {X Y : Type 0} (f : X → Y) (xs : List X) → edges (map f xs) ≡ map (both f) (edges xs)
unfolding edges
edges-map f xs = ap (zip (map f xs)) (rotated-map f xs) ∙ zip-map f xs (rotated xs)

pub filter_map-all : {X Y : Type 0} (f : X → Option Y) (g : X → Y) (xs : List X) → ((x : X) → Contains xs x → f x ≡ Some (g x)) → filter_map f xs ≡ map g xs
filter_map-all f g [] each = refl
filter_map-all f g (x ∷ xs) each =
    ap (λ o. cons_option o (filter_map f xs)) (each x (Contains-front x xs)) ∙ ap (λ ys. g x ∷ ys) (filter_map-all f g xs (λ y h. each y (Contains-later x xs y h)))

-- a list made face by face, where each face is renamed
pub flat_map-renamed : {A X Y : Type 0} (g : A → List Y) (h : A → List X) (f : X → Y) (xs : List A) → ((x : A) → Contains xs x → g x ≡ map f (h x)) → flat_map g xs ≡ map f (flat_map h xs)
flat_map-renamed g h f [] each = refl
flat_map-renamed g h f (x ∷ xs) each =
    (λ i. each x (Contains-front x xs) i ++ flat_map-renamed g h f xs (λ y k. each y (Contains-later x xs y k)) i) ∙ sym (map-append f (h x) (flat_map h xs))

-- ---- counts

-- when two positions are one
pub is_same-Decides : (p q : V3) → Decides (is_same p q) (p ≡ q)
is_same-Decides p q = (λ e. vector_exact p q (from_is_eq (vector_cmp p q) e), λ e. ap is_eq (ap (vector_cmp p) (sym e) ∙ vector_cmp-same p))

-- the names below a bound differ
abbrev pub IsInjective : ℕ → (ℕ → V3) → Type 0
IsInjective n at = (i j : ℕ) → i < n → j < n → at i ≡ at j → i ≡ j

same-names : (n : ℕ) (at : ℕ → V3) → IsInjective n at → (i j : ℕ) → i < n → j < n → is_same (at i) (at j) ≡ (i == j)
same-names n at injective i j hi hj =
    let exact : Decides (is_same (at i) (at j)) (i ≡ j) = (λ e. injective i j hi hj ((is_same-Decides (at i) (at j)).0 e), λ e. (is_same-Decides (at i) (at j)).1 (ap at e)) in
    same_from_decides (is_same (at i) (at j)) (i == j) exact (Decides-eqb i j)

joins-leads : (n : ℕ) (at : ℕ → V3) → IsInjective n at → (i j : ℕ) (e : ℕ × ℕ) → i < n → j < n → e.0 < n → e.1 < n → joins (at i) (at j) (both at e) ≡ (leads i j e || leads j i e)
unfolding joins leads
joins-leads n at injective i j e hi hj h0 h1 =
    let same : (k l : ℕ) → k < n → l < n → is_same (at k) (at l) ≡ (k == l) = same-names n at injective in
    λ t. (same e.0 i h0 hi t && same e.1 j h1 hj t) || (same e.0 j h0 hj t && same e.1 i h1 hi t)

not_both_ways : (i j : ℕ) (e : ℕ × ℕ) → i ≢ j → leads i j e ≡ true → leads j i e ≡ true → ⊥
unfolding leads
not_both_ways i j e ne h k = clash (e.0 == i) (e.1 == j) (e.0 == j) (e.1 == i) ((Decides-eqb e.0 i).0) ((Decides-eqb e.0 j).0) h k
  where
    clash : (a b c d : Bool) → (a ≡ true → e.0 ≡ i) → (c ≡ true → e.0 ≡ j) → (a && b) ≡ true → (c && d) ≡ true → ⊥
    clash true true true true p q h k = ne (sym (p refl) ∙ q refl)
    clash true true true false p q h k = cc
    clash true true false d p q h k = cc
    clash true false c d p q h k = cc
    clash false b c d p q h k = cc

cond-or : (a b : Bool) → (a ≡ true → b ≡ true → ⊥) → cond (a || b) 1 0 ≡ cond a 1 0 + cond b 1 0
cond-or true true h = absurd (h refl refl)
cond-or true false h = refl
cond-or false true h = refl
cond-or false false h = refl

-- the edges that join two positions are those that lead from one's number to the other's, either way
pub count_by-joins : (n : ℕ) (at : ℕ → V3) → IsInjective n at → (i j : ℕ) → i < n → j < n → i ≢ j → (es : List (ℕ × ℕ)) → All (λ e. (e.0 < n) × (e.1 < n)) es → count_by (joins (at i) (at j)) (map (both at) es) ≡ count_by (leads i j) es + count_by (leads j i) es
count_by-joins n at injective i j hi hj ne [] all = refl
count_by-joins n at injective i j hi hj ne (e ∷ es) all =
    let P : ℕ × ℕ → Type 0 = λ f. (f.0 < n) × (f.1 < n) in
    let below = All-head P e es all in
    let rest = count_by-joins n at injective i j hi hj ne es (All-tail P e es all) in
    let first : cond (joins (at i) (at j) (both at e)) 1 0 ≡ cond (leads i j e) 1 0 + cond (leads j i e) 1 0 = ap (λ b. cond b 1 0) (joins-leads n at injective i j e hi hj below.0 below.1) ∙ cond-or (leads i j e) (leads j i e) (not_both_ways i j e ne) in
    sum_by-cons (λ f. cond (joins (at i) (at j) f) 1 0) (both at e) (map (both at) es)
    ∙ added (cond (leads i j e) 1 0) (cond (leads j i e) 1 0) (count_by (leads i j) es) (count_by (leads j i) es) _ _ _ _ first rest (sum_by-cons (λ f. cond (leads i j f) 1 0) e es) (sum_by-cons (λ f. cond (leads j i f) 1 0) e es)
  where
    added : (a b c d x y p q : ℕ) → x ≡ a + b → y ≡ c + d → p ≡ a + c → q ≡ b + d → x + y ≡ p + q
    added a b c d x y p q e f g h = omega arith
