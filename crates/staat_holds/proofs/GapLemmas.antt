-- The first vertex that has not a property, by one look at each crossing.
use Rattle.std.proofs.Common.{◌≡◌, ◌≢◌, inl, inr, ⊎_elim, ℕ, zero, suc, ◌+◌, ◌<◌, ◌≤◌, refl, sym, ap, subst, ◌∙◌, arith, List, [], ◌∷◌, ◌++◌, length, get_or, drop, All, Contains}
use Rattle.std.proofs.lemmas.List.Elements.{All-append, All-cons, All-head, All-nil, All-tail, Contains-append_cases}
use Rattle.std.specs.Prelude.{Bool, true, false, not, Option, None, Some, MatchOption}
use Rattle.std.specs.Option.{is_some}
use Rattle.staat_vec.specs.declared.vector.V3.{V3}
use Rattle.staat_vec.specs.Lists.{IsFirst}
use Rattle.staat_vec.specs.Primitives.{primitive}
use Rattle.staat_vec.specs.Vectors.{cross, negative, origin}
use Rattle.staat_model.specs.Planes.{crossings, vertices}
use Rattle.staat_model.proofs.Corners.{IsSame}
use Rattle.staat_model.proofs.PlaneLemmas.{NoneParallel, apart_behind}
use Rattle.staat_vec.proofs.ListLaws.{drop_end, Contains-there}
use Rattle.staat_vec.proofs.Unique.{Contains-front}

drop_at : {X : Type 0} (xs : List X) (k : ℕ) (d : X) → k < length xs → drop k xs ≡ get_or xs k d ∷ drop (k + 1) xs
drop_at [] k d lt = absurd (omega (arith, lt))
drop_at (x ∷ xs) zero d lt = refl
drop_at (x ∷ xs) (suc k) d lt = drop_at xs k d (omega (arith, lt)) ∙ ap (λ m. get_or xs k d ∷ drop m (x ∷ xs)) (let f : suc (k + 1) ≡ suc k + 1 = omega arith in f)

-- ---- planes of which no two are parallel

pub apart_at : (gs behind : List V3) (k : ℕ) (d : V3) → k < length gs → behind ≡ drop (k + 1) gs → NoneParallel gs → All (λ h. cross (get_or gs k d) h ≢ origin) behind
apart_at gs behind k d lt e apart = subst (All (λ h. cross (get_or gs k d) h ≢ origin)) (sym e) (subst NoneParallel (drop_at gs k d lt) (apart_behind gs k apart)).0

-- where a vertex comes from
pub record IsCrossingOf (gs : List V3) (v : V3) : Type 0 where
  pub g : V3
  pub h : V3
  pub g_in : Contains gs g
  pub h_in : Contains gs h
  pub apart : cross g h ≢ origin
  pub is : IsSame v (primitive (cross g h))

crossings_from : (g : V3) (hs : List V3) (v : V3) → All (λ h. cross g h ≢ origin) hs → Contains (crossings g hs) v → (h : V3) × Contains hs h × (cross g h ≢ origin) × IsSame v (primitive (cross g h))
crossings_from g [] v apart (k, lt, e) = absurd (omega (arith, lt))
crossings_from g (h ∷ hs) v apart (zero, lt, e) = (h, Contains-front h hs, All-head (λ h. cross g h ≢ origin) h hs apart, inl (sym e))
crossings_from g (h ∷ hs) v apart (suc zero, lt, e) = (h, Contains-front h hs, All-head (λ h. cross g h ≢ origin) h hs apart, inr (sym e))
crossings_from g (h ∷ hs) v apart (suc (suc k), lt, e) =
    let (q, listed, off, is) = crossings_from g hs v (All-tail (λ h. cross g h ≢ origin) h hs apart) (k, omega (arith, lt), e) in (q, Contains-there h q hs listed, off, is)

pub vertices_from : (gs : List V3) (v : V3) → NoneParallel gs → Contains (vertices gs) v → IsCrossingOf gs v
vertices_from [] v apart (k, lt, e) = absurd (omega (arith, lt))
vertices_from (g ∷ gs) v apart c = ⊎_elim {C = IsCrossingOf (g ∷ gs) v}
    (λ first. let (h, listed, off, is) = crossings_from g gs v apart.0 first in record { g = g; h = h; g_in = Contains-front g gs; h_in = Contains-there g h gs listed; apart = off; is = is })
    (λ later. let o = vertices_from gs v apart.1 later in record { g = o.g; h = o.h; g_in = Contains-there g o.g gs o.g_in; h_in = Contains-there g o.h gs o.h_in; apart = o.apart; is = o.is })
    (Contains-append_cases (crossings g gs) (vertices gs) v c)

-- ---- the first that has not P

module _ (P : V3 → Type 0) where
  abbrev pub Lacks : V3 → Type 0
  Lacks v = P v → ⊥

  pub first_not_all : (xs : List V3) (v : V3) → IsFirst Lacks xs v → All P xs → ⊥
  first_not_all [] v first all = first
  first_not_all (x ∷ xs) v (inl h) all = h.1 (All-head P x xs all)
  first_not_all (x ∷ xs) v (inr h) all = first_not_all xs v h.1 (All-tail P x xs all)

  -- what is asked of all is asked of those behind
  pub record IsBehind (whole behind : List V3) : Type 0 where
    pub all : All P behind → All P whole
    pub first : (v : V3) → IsFirst Lacks behind v → IsFirst Lacks whole v

  pub behind_whole : (whole : List V3) → IsBehind whole whole
  behind_whole whole = record { all = λ h. h; first = λ v h. h }

  front : (xs ys : List V3) (v : V3) → All P xs → IsFirst Lacks ys v → IsFirst Lacks (xs ++ ys) v
  front [] ys v all first = first
  front (x ∷ xs) ys v all first = inr ((λ lacks. lacks (All-head P x xs all)), front xs ys v (All-tail P x xs all) first)

  in_front : (xs ys : List V3) (v : V3) → IsFirst Lacks xs v → IsFirst Lacks (xs ++ ys) v
  in_front [] ys v first = absurd first
  in_front (x ∷ xs) ys v (inl h) = inl h
  in_front (x ∷ xs) ys v (inr h) = inr (h.0, in_front xs ys v h.1)

  -- the crossings of one plane

  pub crossing_next : (g d : V3) (hs : List V3) (k : ℕ) → k < length hs → P (primitive (cross g (get_or hs k d))) → P (negative (primitive (cross g (get_or hs k d))))
      → IsBehind (crossings g hs) (crossings g (drop k hs)) → IsBehind (crossings g hs) (crossings g (drop (k + 1) hs))
  crossing_next g d hs k lt has opposite b =
      let u = primitive (cross g (get_or hs k d)) in
      let rest = crossings g (drop (k + 1) hs) in
      let e = drop_at hs k d lt in record {
        all = λ all. b.all (subst (λ l. All P (crossings g l)) (sym e) (All-cons P u (negative u ∷ rest) has (All-cons P (negative u) rest opposite all)));
        first = λ v first. b.first v (subst (λ l. IsFirst Lacks (crossings g l) v) (sym e) (inr ((λ lacks. lacks has), inr ((λ lacks. lacks opposite), first))));
      }

  pub crossing_found : (g d : V3) (hs : List V3) (k : ℕ) (v : V3) → k < length hs → v ≡ primitive (cross g (get_or hs k d)) → Lacks v
      → IsBehind (crossings g hs) (crossings g (drop k hs)) → IsFirst Lacks (crossings g hs) v
  crossing_found g d hs k v lt is lacks b = b.first v (subst (λ l. IsFirst Lacks (crossings g l) v) (sym (drop_at hs k d lt)) (inl (is, subst Lacks is lacks)))

  pub crossing_end : (g : V3) (hs : List V3) (k : ℕ) → length hs ≤ k → IsBehind (crossings g hs) (crossings g (drop k hs)) → All P (crossings g hs)
  crossing_end g hs k le b = b.all (subst (λ l. All P (crossings g l)) (sym (drop_end hs k le)) (All-nil P))

  -- the vertices, plane by plane

  pub plane_next : (d : V3) (gs behind : List V3) (k : ℕ) → k < length gs → behind ≡ drop (k + 1) gs → All P (crossings (get_or gs k d) behind)
      → IsBehind (vertices gs) (vertices (drop k gs)) → IsBehind (vertices gs) (vertices (drop (k + 1) gs))
  plane_next d gs behind k lt e known b =
      let g = get_or gs k d in
      let at = drop_at gs k d lt in
      let all_here : All P (crossings g (drop (k + 1) gs)) = subst (λ l. All P (crossings g l)) e known in record {
        all = λ all. b.all (subst (λ l. All P (vertices l)) (sym at) (All-append P (crossings g (drop (k + 1) gs)) (vertices (drop (k + 1) gs)) all_here all));
        first = λ v first. b.first v (subst (λ l. IsFirst Lacks (vertices l) v) (sym at) (front (crossings g (drop (k + 1) gs)) (vertices (drop (k + 1) gs)) v all_here first));
      }

  pub plane_found : (d : V3) (gs behind : List V3) (k : ℕ) (v : V3) → k < length gs → behind ≡ drop (k + 1) gs → IsFirst Lacks (crossings (get_or gs k d) behind) v
      → IsBehind (vertices gs) (vertices (drop k gs)) → IsFirst Lacks (vertices gs) v
  plane_found d gs behind k v lt e first b =
      let g = get_or gs k d in
      b.first v (subst (λ l. IsFirst Lacks (vertices l) v) (sym (drop_at gs k d lt))
      (in_front (crossings g (drop (k + 1) gs)) (vertices (drop (k + 1) gs)) v (subst (λ l. IsFirst Lacks (crossings g l) v) e first)))

  pub plane_end : (gs : List V3) (k : ℕ) → length gs ≤ k → IsBehind (vertices gs) (vertices (drop k gs)) → All P (vertices gs)
  plane_end gs k le b = b.all (subst (λ l. All P (vertices l)) (sym (drop_end gs k le)) (All-nil P))

-- the first is the same where the property is
pub first_carried : (P Q : V3 → Type 0) → ((v : V3) → P v → Q v) → ((v : V3) → Q v → P v) → (xs : List V3) (v : V3) → IsFirst P xs v → IsFirst Q xs v
first_carried P Q f g [] v first = first
first_carried P Q f g (x ∷ xs) v (inl h) = inl (h.0, f x h.1)
first_carried P Q f g (x ∷ xs) v (inr h) = inr ((λ q. h.0 (g x q)), first_carried P Q f g xs v h.1)

-- ---- what an answer tells

pub told_none : (A : Type 0) (B : V3 → Type 0) (gap : Option V3) → gap ≡ None → MatchOption gap A B → A
told_none A B gap is tells = subst (λ o. MatchOption o A B) is tells

pub told_some : (A : Type 0) (B : V3 → Type 0) (gap : Option V3) (v : V3) → gap ≡ Some v → MatchOption gap A B → B v
told_some A B gap v is tells = subst (λ o. MatchOption o A B) is tells

pub told_by_test : (A : Type 0) (B : V3 → Type 0) (gap : Option V3) (is_none : Bool) → is_some gap ≡ not is_none → is_none ≡ true → MatchOption gap A B → A
told_by_test A B None is_none e known tells = tells
told_by_test A B (Some v) is_none e known tells = absurd (wrong (e ∙ ap not known))
  where
    wrong : true ≡ false → ⊥
    wrong h = cc
