-- Lists of vectors that ascend: places, members and ends.
use Rattle.std.specs.List.Sorted.{IsStrictlySortedBy, IsSortedBy, IsNonDecreasingBy, IsPartitionPoint}
use Rattle.std.specs.declared.cmp.Ordering.TheVariants.{Less, Equal, Greater}
use Rattle.std.proofs.Common.{List, [], arith, get_or, length, suc, ℕ, ◌<◌, ◌∷◌, ◌≡◌, add-one, ap, ◌∙◌, Contains, ⊎_elim, subst, refl, ◌≤◌, inl, inr, ◌⊎◌, sym}
use Rattle.staat_vec.specs.declared.vector.V3.{V3}
use Rattle.staat_vec.specs.Vectors.{vector_cmp, origin}
use Rattle.std.specs.Ordering.{is_lt, ordering_reverse, ordering_index, nat_cmp, is_eq}
use Rattle.staat_vec.proofs.VectorOrder.{vector_total, vector_exact, vector_cmp-same}
use Rattle.std.specs.Prelude.{Some, slice_get, map}
use Rattle.std.proofs.lemmas.Option.{slice_get-get_or}
use Rattle.std.proofs.lemmas.Bool.{cases_lt}
use Rattle.std.proofs.lemmas.List.Sorted.{searchable_from_sorted}
use Rattle.staat_vec.proofs.Unique.{Contains-front, Contains-later, Contains-cases, Contains-nothing}
use Rattle.staat_vec.proofs.ListLaws.{Contains-from_map, all_of}
use Rattle.staat_vec.proofs.Comparisons.{head_less, tail_sorted, from_is_eq}
use Rattle.std.proofs.lemmas.Map.Keys.{IsDistinct-from_sorted, Less-from_sorted, sorted_tail as tail}
use Rattle.std.proofs.lemmas.Cmp.{eq_by_cmp_equiv}
use Rattle.std.proofs.lemmas.Map.Made.{is_member-Decides, length-le_from_is_member}
use Rattle.std.specs.Bool.{Decides}

pub sorted_by : (vs : List V3) → IsStrictlySortedBy vector_cmp vs → IsSortedBy (λ a b. is_lt (vector_cmp a b)) vs
sorted_by vs sorted = λ k d low high.
    let up : vector_cmp (get_or vs k d) (get_or vs (suc k) d) ≡ Less = Less-from_sorted vector_cmp vs k (suc k) d sorted (omega arith) (omega arith) in
    rw add-one (ap is_lt (vector_total.antisymm (get_or vs (suc k) d) (get_or vs k d) ∙ ap ordering_reverse up))

pub sorted_tail : (g : V3) (gs : List V3) → IsStrictlySortedBy vector_cmp (g ∷ gs) → IsStrictlySortedBy vector_cmp gs
sorted_tail = tail vector_cmp

pub sorted_places : (xs : List V3) (i j : ℕ) → IsStrictlySortedBy vector_cmp xs → i < j → j < length xs → vector_cmp (get_or xs i origin) (get_or xs j origin) ≡ Less
sorted_places xs i j = Less-from_sorted vector_cmp xs i j origin

pub found_at : (vs : List V3) (v : V3) (n : ℕ) → n < length vs → ((d : V3) → vector_cmp (get_or vs n d) v ≡ Equal) → slice_get vs n ≡ Some v
found_at vs v n lt equal = slice_get-get_or vs n v lt ∙ ap Some (vector_exact (get_or vs n v) v (equal v))

pub not_found : (vs : List V3) (v : V3) (n : ℕ) → IsStrictlySortedBy vector_cmp vs → (IsNonDecreasingBy (λ q. ordering_index (vector_cmp q v)) vs → IsPartitionPoint (λ q. vector_cmp q v ≡ Less) (λ q. vector_cmp q v ≡ Greater) vs n) → Contains vs v → ⊥
not_found vs v n sorted split (k, lt, e) =
    let at : IsPartitionPoint (λ q. vector_cmp q v ≡ Less) (λ q. vector_cmp q v ≡ Greater) vs n = split (searchable_from_sorted vector_total (λ q. q) vs v (sorted_by vs sorted)) in
    let same : vector_cmp (get_or vs k v) v ≡ Equal = ap (λ q. vector_cmp q v) e ∙ vector_cmp-same v in
    ⊎_elim (λ below. let less = at.0 k v (omega arith) below in cc) (λ above. let greater = at.1 k v above lt in cc) (cases_lt k n)

pub picked_sorted : (f : ℕ → V3) (ks : List ℕ) → IsStrictlySortedBy nat_cmp ks → ((i j : ℕ) → Contains ks i → Contains ks j → i < j → vector_cmp (f i) (f j) ≡ Less) → IsStrictlySortedBy vector_cmp (map f ks)
unfolding IsStrictlySortedBy
picked_sorted f [] s h = tt
picked_sorted f (k ∷ ks) s h = (
  all_of (λ y. vector_cmp (f k) y ≡ Less) (map f ks) (λ y c. let m = Contains-from_map f ks y c in subst (λ z. vector_cmp (f k) z ≡ Less) m.2 (h k m.0 (Contains-front k ks) (Contains-later k ks m.0 m.1) (head_less k ks m.0 s m.1))),
  picked_sorted f ks (tail_sorted k ks s) (λ i j ci cj lt. h i j (Contains-later k ks i ci) (Contains-later k ks j cj) lt),
)

pub some_member : (xs : List V3) → 1 ≤ length xs → (x : V3) × Contains xs x
some_member [] h = absurd (omega arith)
some_member (x ∷ xs) h = (x, (0, omega arith, refl))

pub one_of_two : (a b x : V3) → Contains (a ∷ b ∷ []) x → (x ≡ a) ⊎ (x ≡ b)
one_of_two a b x c = ⊎_elim {C = (x ≡ a) ⊎ (x ≡ b)} (λ e. inl e) (λ later. ⊎_elim {C = (x ≡ a) ⊎ (x ≡ b)} (λ e. inr e) (λ none. absurd (Contains-nothing x none)) (Contains-cases b [] x later)) (Contains-cases a (b ∷ []) x c)

-- whether two vectors are the same
vectors_compared : (p q : V3) → Decides (is_eq (vector_cmp p q)) (p ≡ q)
vectors_compared p q = (λ e. vector_exact p q (from_is_eq (vector_cmp p q) e), λ e. ap is_eq (ap (vector_cmp p) (sym e) ∙ vector_cmp-same p))

-- different members of a list are no more than the list is long
pub length-le_from_contains : (points list : List V3) → IsStrictlySortedBy vector_cmp points → ((p : V3) → Contains points p → Contains list p) → length points ≤ length list
length-le_from_contains points list sorted within =
    length-le_from_is_member (eq_by_cmp_equiv vector_total) points list (IsDistinct-from_sorted vector_cmp points sorted)
    (λ p h. (is_member-Decides vectors_compared list p).1 (within p ((is_member-Decides vectors_compared points p).0 h)))
