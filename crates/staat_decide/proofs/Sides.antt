-- The sets that leave one after the other are sides: each has fewer parts than all together.
use Rattle.std.proofs.Common.{◌≡◌, ℕ, zero, suc, ◌<◌, ◌≤◌, ⊎_elim, inl, inr, All, List, [], ◌∷◌, Contains, arith, get_or, length, map, subst, sym}
use Rattle.std.specs.List.{AllByRecursion}
use Rattle.std.specs.List.Sorted.{IsStrictlySortedBy}
use Rattle.std.specs.Ordering.{nat_cmp}
use Rattle.std.specs.declared.cmp.Ordering.TheVariants.{Less}
use Rattle.staat_vec.specs.declared.vector.V3.{V3}
use Rattle.staat_vec.proofs.Unique.{Contains-cases, Contains-front, Contains-nothing}
use Rattle.staat_model.specs.declared.assembly.Part.{Part}
use Rattle.staat_model.specs.declared.set.PartSet.{PartSet}
use Rattle.staat_model.specs.SetLists.{AreAllApart, set_of, union_of}
use Rattle.staat_model.specs.Sets.{AreApart, Has}
use Rattle.staat_model.proofs.SetListings.{has-set_of}
use Rattle.staat_model.proofs.SetMembers.{has-union}
use Rattle.staat_decide.specs.Labels.{IsPartList}
use Rattle.staat_decide.specs.Peelings.{IsPeeling}
use Rattle.staat_vec.proofs.Comparisons.{above_first}
use Rattle.staat_vec.proofs.ListLaws.{Contains-there}

-- ---- ascending lists within others

-- what is within x and a list, and has nothing up to x, is within the list
behind : (x : ℕ) (xs s : List ℕ) → ((q : ℕ) → Contains s q → Contains (x ∷ xs) q) → ((q : ℕ) → Contains s q → x < q)
    → (q : ℕ) → Contains s q → Contains xs q
behind x xs s within above q c = ⊎_elim {C = Contains xs q}
    (λ e. let lt : x < q = above q c in absurd (omega (arith, lt, e)))
    (λ later. later)
    (Contains-cases x xs q (within q c))

-- where both begin alike the tail is within the tail
tails_within : (x y : ℕ) (w s : List ℕ) → AllByRecursion (λ z. nat_cmp y z ≡ Less) s
    → ((q : ℕ) → Contains (y ∷ s) q → Contains (x ∷ w) q) → y ≡ x → (q : ℕ) → Contains s q → Contains w q
tails_within x y w s ss within e =
    behind x w s (λ q c. within q (Contains-there y q s c)) (λ q c. subst (λ z. z < q) e (above_first y s ss q c))

-- and where not, all is
all_behind : (x y : ℕ) (w s : List ℕ) → AllByRecursion (λ z. nat_cmp x z ≡ Less) w
    → AllByRecursion (λ z. nat_cmp y z ≡ Less) s → ((q : ℕ) → Contains (y ∷ s) q → Contains (x ∷ w) q) → Contains w y
    → (q : ℕ) → Contains (y ∷ s) q → Contains w q
all_behind x y w s sw ss within later =
    let above : x < y = above_first x w sw y later in
    behind x w (y ∷ s) within (λ q c. ⊎_elim {C = x < q}
    (λ e. subst (λ z. x < z) (sym e) above)
    (λ c2. let more : y < q = above_first y s ss q c2 in omega (arith, above, more))
    (Contains-cases y s q c))

-- what the one list lacks is not its own first
not_first : (x y : ℕ) (w s : List ℕ) (p : ℕ) → y ≡ x → Contains (x ∷ w) p → (Contains (y ∷ s) p → ⊥) → Contains w p
not_first x y w s p e p_in out = ⊎_elim {C = Contains w p}
    (λ same. absurd (out (subst (Contains (y ∷ s)) (let f : y ≡ p = cc in f) (Contains-front y s))))
    (λ later. later)
    (Contains-cases x w p p_in)

pub no_longer : (w s : List ℕ) → IsStrictlySortedBy nat_cmp w → IsStrictlySortedBy nat_cmp s
    → ((q : ℕ) → Contains s q → Contains w q) → length s ≤ length w
unfolding IsStrictlySortedBy
no_longer w [] sw ss within = omega arith
no_longer [] (y ∷ s) sw ss within = absurd (Contains-nothing y (within y (Contains-front y s)))
no_longer (x ∷ w) (y ∷ s) sw ss within = ⊎_elim {C = length (y ∷ s) ≤ length (x ∷ w)}
    (λ e. let rest : length s ≤ length w = no_longer w s sw.1 ss.1 (tails_within x y w s ss.0 within e) in omega (arith, rest))
    (λ later. let rest : length (y ∷ s) ≤ length w = no_longer w (y ∷ s) sw.1 ss (all_behind x y w s sw.0 ss.0 within later) in omega (arith, rest))
    (Contains-cases x w y (within y (Contains-front y s)))

-- one that lacks a member is shorter
pub shorter : (w s : List ℕ) (p : ℕ) → IsStrictlySortedBy nat_cmp w → IsStrictlySortedBy nat_cmp s
    → ((q : ℕ) → Contains s q → Contains w q) → Contains w p → (Contains s p → ⊥) → length s < length w
unfolding IsStrictlySortedBy
shorter [] s p sw ss within p_in out = absurd (Contains-nothing p p_in)
shorter (x ∷ w) [] p sw ss within p_in out = omega arith
shorter (x ∷ w) (y ∷ s) p sw ss within p_in out = ⊎_elim {C = length (y ∷ s) < length (x ∷ w)}
    (λ e.
    let rest : length s < length w = shorter w s p sw.1 ss.1 (tails_within x y w s ss.0 within e) (not_first x y w s p e p_in out) (λ c. out (Contains-there y p s c)) in
    omega (arith, rest))
    (λ later. let rest : length (y ∷ s) ≤ length w = no_longer w (y ∷ s) sw.1 ss (all_behind x y w s sw.0 ss.0 within later) in omega (arith, rest))
    (Contains-cases x w y (within y (Contains-front y s)))

-- ---- sets that leave

in_union : (sets : List (List ℕ)) (i p : ℕ) → i < length sets → Contains (get_or sets i []) p
    → Has (union_of (map set_of sets)) p
in_union [] i p lt c = absurd (omega (arith, lt))
in_union (s ∷ sets) zero p lt c = (has-union (set_of s) (union_of (map set_of sets)) p).1 (inl ((has-set_of s p).1 c))
in_union (s ∷ sets) (suc i) p lt c =
    (has-union (set_of s) (union_of (map set_of sets)) p).1 (inr (in_union sets i p (omega (arith, lt)) c))

-- each part of one of the sets is one of w
pub set_within : (parts : List Part) (d : V3) (w : List ℕ) (sets : List (List ℕ)) (i : ℕ) → IsPeeling parts d w sets
    → i < length sets → (q : ℕ) → Contains (get_or sets i []) q → Contains w q
set_within parts d w sets i is lt q c =
    (has-set_of w q).0 (subst (λ (t : PartSet). Has t q) is.whole (in_union sets i q lt c))

at_place : (sets : List (List ℕ)) (j : ℕ) → j < length sets → Contains (map set_of sets) (set_of (get_or sets j []))
at_place [] j lt = absurd (omega (arith, lt))
at_place (s ∷ sets) zero lt = Contains-front (set_of s) (map set_of sets)
at_place (s ∷ sets) (suc j) lt = Contains-there (set_of s) (set_of (get_or sets j [])) (map set_of sets) (at_place sets j (omega (arith, lt)))

-- two of the sets have no part in common
apart_places : (sets : List (List ℕ)) (i j : ℕ) → AreAllApart (map set_of sets) → i < j → j < length sets
    → AreApart (set_of (get_or sets i [])) (set_of (get_or sets j []))
apart_places [] i j apart lt j_lt = absurd (omega (arith, j_lt))
apart_places (s ∷ sets) zero zero apart lt j_lt = absurd (omega (arith, lt))
apart_places (s ∷ sets) zero (suc j) apart lt j_lt = apart.0 (set_of (get_or sets j [])) (at_place sets j (omega (arith, j_lt)))
apart_places (s ∷ sets) (suc i) zero apart lt j_lt = absurd (omega (arith, lt))
apart_places (s ∷ sets) (suc i) (suc j) apart lt j_lt = apart_places sets i j apart.1 (omega (arith, lt)) (omega (arith, j_lt))

first_of : (s : List ℕ) → 1 ≤ length s → (p : ℕ) × Contains s p
first_of [] some = absurd (omega (arith, some))
first_of (p ∷ s) some = (p, Contains-front p s)

set_at : (sets : List (List ℕ)) (i : ℕ) → All IsPartList sets → i < length sets → IsPartList (get_or sets i [])
set_at sets i each lt = each i [] lt

-- each of the sets is shorter than w: another one has a part
pub set_shorter : (parts : List Part) (d : V3) (w : List ℕ) (sets : List (List ℕ)) (i : ℕ)
    → IsStrictlySortedBy nat_cmp w → IsPeeling parts d w sets → i < length sets → length (get_or sets i []) < length w
set_shorter parts d w sets zero sorted is lt =
    let two = is.two in
    let order = is.order in
    let lt1 : 1 < length sets = omega (arith, two) in
    let other = set_at sets 1 is.each lt1 in
    let own = set_at sets 0 is.each lt in
    let (p, p_in) = first_of (get_or sets 1 []) other.nonempty in
    shorter w (get_or sets 0 []) p sorted own.ascending (set_within parts d w sets 0 is lt) (set_within parts d w sets 1 is lt1 p p_in)
    (λ c. apart_places sets 0 1 order.apart (omega arith) lt1 p ((has-set_of (get_or sets 0 []) p).1 c) ((has-set_of (get_or sets 1 []) p).1 p_in))
set_shorter parts d w sets (suc i) sorted is lt =
    let order = is.order in
    let lt0 : 0 < length sets = omega (arith, lt) in
    let other = set_at sets 0 is.each lt0 in
    let own = set_at sets (suc i) is.each lt in
    let (p, p_in) = first_of (get_or sets 0 []) other.nonempty in
    shorter w (get_or sets (suc i) []) p sorted own.ascending (set_within parts d w sets (suc i) is lt) (set_within parts d w sets 0 is lt0 p p_in)
    (λ c. apart_places sets 0 (suc i) order.apart (omega arith) lt p ((has-set_of (get_or sets 0 []) p).1 p_in) ((has-set_of (get_or sets (suc i) []) p).1 c))
