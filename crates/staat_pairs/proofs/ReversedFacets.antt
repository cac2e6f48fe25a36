-- The negatives of an ascending list in reverse order.
use Rattle.std.proofs.Common.{◌≡◌, inl, inr, ◌↔◌, ℕ, ◌-◌, ◌<◌, arith, ap, sym, ◌∙◌, subst, ℤ, pos, neg_ℤ, ◌<ℤ◌, List, [], ◌∷◌, ◌++◌, length, get_or, All, Contains, ⊎_elim}
use Rattle.std.specs.Prelude.{map, slice_get, Some}
use Rattle.std.specs.List.Sorted.{IsStrictlySortedBy}
use Rattle.std.specs.Ordering.{MatchOrdering, int_cmp, ordering_then}
use Rattle.std.specs.Cmp.{int_cmp_is, int_ranks}
use Rattle.std.specs.declared.cmp.Ordering.{Ordering}
use Rattle.std.specs.declared.cmp.Ordering.TheVariants.{Less, Equal, Greater}
use Rattle.std.proofs.lemmas.Int.{ints}
use Rattle.std.proofs.lemmas.List.{reverse-append, length-reverse, length-map, get_or-reverse, get_or-map}
use Rattle.std.proofs.lemmas.List.Elements.{All-contains, All-from_recursion, recursion_from_All, Contains-push, Contains-push_cases, Contains-append_left}
use Rattle.std.proofs.lemmas.Option.{slice_get-get_or}
use Rattle.staat_vec.specs.declared.vector.V3.{V3}
use Rattle.staat_vec.specs.Lists.{Lists}
use Rattle.staat_vec.specs.Vectors.{dot, negative, vector_cmp}
use Rattle.staat_vec.proofs.Canons.{negative-negative}
use Rattle.staat_vec.proofs.Ring.{ring}
use Rattle.staat_vec.proofs.Unique.{Contains-cases, Contains-front, Contains-later, Contains-nothing}
use Rattle.staat_vec.proofs.VecRing.{dotE, negativeE, values, v0, v1}
use Rattle.staat_model.proofs.Members.{All-from_members}
use Rattle.staat_model.proofs.Reversed.{opposite_facets_lemma}
use Rattle.staat_model.specs.Facets.{IsFacet}
use Rattle.staat_pairs.specs.Tables.{reversed_facets}

reversed-cons : (n : V3) (ns : List V3) → reversed_facets (n ∷ ns) ≡ reversed_facets ns ++ negative n ∷ []
reversed-cons n ns = reverse-append (negative n ∷ []) (map negative ns)

pub length-reversed : (ns : List V3) → length (reversed_facets ns) ≡ length ns
length-reversed ns = length-reverse (map negative ns) ∙ length-map ns negative

-- ---- members

pub in_reversed : (ns : List V3) (n : V3) → Contains ns n → Contains (reversed_facets ns) (negative n)
in_reversed [] n c = absurd (Contains-nothing n c)
in_reversed (m ∷ ns) n c = subst (λ l. Contains l (negative n)) (sym (reversed-cons m ns)) (elim (Contains-cases m ns n c) [
  | inl e ↦ subst (λ k. Contains (reversed_facets ns ++ negative m ∷ []) (negative k)) (sym e) (Contains-push (reversed_facets ns) (negative m))
  | inr later ↦ Contains-append_left (reversed_facets ns) (negative m ∷ []) (negative n) (in_reversed ns n later)
])

pub from_reversed : (ns : List V3) (n : V3) → Contains (reversed_facets ns) n → Contains ns (negative n)
from_reversed [] n c = absurd (Contains-nothing n c)
from_reversed (m ∷ ns) n c = elim (Contains-push_cases (reversed_facets ns) (negative m) n (subst (λ l. Contains l n) (reversed-cons m ns) c)) [
  | inl early ↦ Contains-later m ns (negative n) (from_reversed ns n early)
  | inr e ↦ subst (Contains (m ∷ ns)) (sym (negative-negative m) ∙ ap negative e) (Contains-front m ns)
]

pub All-reversed : (P : V3 → Type 0) (ns : List V3) → ((n : V3) → Contains ns n → P (negative n)) → All P (reversed_facets ns)
All-reversed P ns f = All-from_members P (reversed_facets ns) (λ n c. subst P (negative-negative n) (f (negative n) (from_reversed ns n c)))

pub All-from_reversed : (P : V3 → Type 0) (ns : List V3) → All P (reversed_facets ns) → (n : V3) → Contains ns n → P (negative n)
All-from_reversed P ns all n c = All-contains P (reversed_facets ns) (negative n) all (in_reversed ns n c)

pub reversed_at : (ns : List V3) (m : ℕ) (d : V3) → m < length ns → slice_get (reversed_facets ns) m ≡ Some (negative (get_or ns (length ns - 1 - m) d))
reversed_at ns m d lt =
    let long : m < length (map negative ns) = omega (arith, length-map ns negative) in
    let e : length (map negative ns) - 1 - m ≡ length ns - 1 - m = ap (λ k. k - 1 - m) (length-map ns negative) in
    let below : length ns - 1 - m < length ns = omega arith in
    slice_get-get_or (reversed_facets ns) m (negative d) (omega (arith, length-reversed ns))
    ∙ ap Some (get_or-reverse (map negative ns) m (negative d) long ∙ ap (λ k. get_or (map negative ns) k (negative d)) e ∙ get_or-map negative ns (length ns - 1 - m) d (negative d) below)

-- ---- order

int_reversed : (a b : ℤ) → int_cmp (neg_ℤ a) (neg_ℤ b) ≡ int_cmp b a
int_reversed a b = sym (int_cmp_is (neg_ℤ a) (neg_ℤ b) (int_cmp b a) (go (int_cmp b a) (int_ranks b a)))
  where
    go : (r : Ordering) → MatchOrdering r (b <ℤ a) (b ≡ a) (a <ℤ b) → MatchOrdering r (neg_ℤ a <ℤ neg_ℤ b) (neg_ℤ a ≡ neg_ℤ b) (neg_ℤ b <ℤ neg_ℤ a)
    go Less h = omega (arith, ints)
    go Equal h = ap neg_ℤ (sym h)
    go Greater h = omega (arith, ints)

pub cmp_reversed : (a b : V3) → vector_cmp (negative a) (negative b) ≡ vector_cmp b a
cmp_reversed a b = λ i. ordering_then (int_reversed a.x b.x i) (ordering_then (int_reversed a.y b.y i) (int_reversed a.z b.z i))

pub sorted_push : (xs : List V3) (y : V3) → IsStrictlySortedBy vector_cmp xs → ((x : V3) → Contains xs x → vector_cmp x y ≡ Less) → IsStrictlySortedBy vector_cmp (xs ++ y ∷ [])
unfolding IsStrictlySortedBy
sorted_push [] y s below = (tt, tt)
sorted_push (x ∷ xs) y s below = (
  recursion_from_All (λ z. vector_cmp x z ≡ Less) (xs ++ y ∷ []) (All-from_members (λ z. vector_cmp x z ≡ Less) (xs ++ y ∷ [])
      (λ z c. ⊎_elim {C = vector_cmp x z ≡ Less} (λ early. All-contains (λ w. vector_cmp x w ≡ Less) xs z (All-from_recursion (λ w. vector_cmp x w ≡ Less) xs s.0) early) (λ e. subst (λ w. vector_cmp x w ≡ Less) e (below x (Contains-front x xs))) (Contains-push_cases xs y z c))),
  sorted_push xs y s.1 (λ z c. below z (Contains-later x xs z c)),
)

pub reversed_ascends : (ns : List V3) → IsStrictlySortedBy vector_cmp ns → IsStrictlySortedBy vector_cmp (reversed_facets ns)
unfolding IsStrictlySortedBy
reversed_ascends [] s = tt
reversed_ascends (n ∷ ns) s =
    subst (IsStrictlySortedBy vector_cmp) (sym (reversed-cons n ns))
    (sorted_push (reversed_facets ns) (negative n) (reversed_ascends ns s.1)
    (λ x c. subst (λ z. vector_cmp z (negative n) ≡ Less) (negative-negative x) (cmp_reversed (negative x) n ∙ All-contains (λ z. vector_cmp n z ≡ Less) ns (negative x) (All-from_recursion (λ z. vector_cmp n z ≡ Less) ns s.0) (from_reversed ns x c))))

-- the facets of two pieces in the other order
pub reversed_lists : (p q ns : List V3) → Lists vector_cmp (IsFacet p q) ns → Lists vector_cmp (IsFacet q p) (reversed_facets ns)
reversed_lists p q ns lists = record {
  ascending = reversed_ascends ns lists.ascending;
  each = λ n c. (opposite_facets_lemma q p n).1 (lists.each (negative n) (from_reversed ns n c));
  all = λ n f. subst (Contains (reversed_facets ns)) (negative-negative n) (in_reversed ns (negative n) (lists.all (negative n) ((opposite_facets_lemma q p n).0 f)));
}

-- ---- directions

dot_both_ways : (n d : V3) → dot (negative n) d ≡ dot n (negative d)
dot_both_ways n d = ring (values (n ∷ d ∷ []) []) (dotE (negativeE v0) v1) (dotE v0 (negativeE v1)) tt

-- ahead of the reversed list is ahead of the list in the opposite direction
pub ahead_reversed : (ns : List V3) (d : V3) → All (λ n. pos 0 <ℤ dot n (negative d)) ns ↔ All (λ n. pos 0 <ℤ dot n d) (reversed_facets ns)
ahead_reversed ns d = (
  λ all. All-reversed (λ n. pos 0 <ℤ dot n d) ns (λ n c. subst (λ z. pos 0 <ℤ z) (sym (dot_both_ways n d)) (All-contains (λ n. pos 0 <ℤ dot n (negative d)) ns n all c)),
  λ all. All-from_members (λ n. pos 0 <ℤ dot n (negative d)) ns (λ n c. subst (λ z. pos 0 <ℤ z) (dot_both_ways n d) (All-from_reversed (λ n. pos 0 <ℤ dot n d) ns all n c)),
)
