-- How the lists of a core grow.
use Rattle.std.proofs.Common.{◌≡◌, ◌⊎◌, ⊎_elim, ◌∙◌, ℕ, ◌<◌, arith, ap, sym, subst, take, refl, get_or, List, [], ◌∷◌, ◌++◌, All, Contains, length}
use Rattle.std.proofs.lemmas.List.{append-nil, append_assoc, get_or_append_left}
use Rattle.std.proofs.lemmas.List.Elements.{All-contains, All-contains_itself, All-nil, All-weaker, Contains-append_left}
use Rattle.staat_vec.specs.declared.vector.V3.{V3}
use Rattle.staat_vec.specs.Primitives.{canon}
use Rattle.staat_model.specs.declared.assembly.Part.{Part}
use Rattle.staat_model.specs.declared.certificate.Arc.{Arc}
use Rattle.staat_model.proofs.Members.{All-from_members}
use Rattle.staat_model.specs.Planes.{axes}
use Rattle.staat_core.specs.Sources.{AreFacetsOf}
use Rattle.staat_core.specs.declared.cores.Core.{Core}
use Rattle.staat_core.specs.Cores.{StandIn, GoesOn, HasGrown, HasCanons, HasPlanesOf, HasRoom, IsCore, IsEmptyCore, core_pairs, core_planes}

pub goes_same : {X : Type 0} (xs ys : List X) → ys ≡ xs → GoesOn xs ys
goes_same xs ys e = record { more = []; is = e ∙ sym (append-nil xs) }

pub goes_further : {X : Type 0} (xs ys zs : List X) → GoesOn xs ys → GoesOn ys zs → GoesOn xs zs
goes_further xs ys zs a b = record { more = a.more ++ b.more; is = b.is ∙ (ap (λ l. l ++ b.more) a.is ∙ append_assoc xs a.more b.more) }

pub goes_one : {X : Type 0} (xs ys : List X) (x : X) → ys ≡ xs ++ x ∷ [] → GoesOn xs ys
goes_one xs ys x e = record { more = x ∷ []; is = e }

pub stays_in : {X : Type 0} (xs ys : List X) (x : X) → GoesOn xs ys → Contains xs x → Contains ys x
stays_in xs ys x g c = subst (λ l. Contains l x) (sym g.is) (Contains-append_left xs g.more x c)

pub same_place : {X : Type 0} (xs ys : List X) (k : ℕ) (x : X) → GoesOn xs ys → k < length xs → get_or ys k x ≡ get_or xs k x
same_place xs ys k x g lt = ap (λ l. get_or l k x) g.is ∙ get_or_append_left xs g.more x k lt

pub grows_not : (k : Core) → HasGrown k k
grows_not k = record { pairs = goes_same (core_pairs k) (core_pairs k) refl; planes = goes_same (core_planes k) (core_planes k) refl }

pub grows_further : (a b c : Core) → HasGrown a b → HasGrown b c → HasGrown a c
grows_further a b c f g = record {
  pairs = goes_further (core_pairs a) (core_pairs b) (core_pairs c) f.pairs g.pairs;
  planes = goes_further (core_planes a) (core_planes b) (core_planes c) f.planes g.planes;
}

-- ---- planes

pub canons_kept : (xs ys ns : List V3) → GoesOn xs ys → HasCanons xs ns → HasCanons ys ns
canons_kept xs ys ns g = All-weaker (λ n. Contains xs (canon n)) (λ n. Contains ys (canon n)) (λ n c. stays_in xs ys (canon n) g c) ns

pub planes_kept : (parts : List Part) (xs ys : List V3) (pairs : List Arc) → GoesOn xs ys → All (HasPlanesOf parts xs) pairs → All (HasPlanesOf parts ys) pairs
planes_kept parts xs ys pairs g = All-weaker (HasPlanesOf parts xs) (HasPlanesOf parts ys) kept pairs
  where
    kept : (pair : Arc) → HasPlanesOf parts xs pair → HasPlanesOf parts ys pair
    kept pair h = record {
      holds = record { p = h.holds.p; q = h.holds.q; p_is = h.holds.p_is; q_is = h.holds.q_is; holds = λ n f. stays_in xs ys (canon n) g (h.holds.holds n f) };
    }

pub axes_kept : (xs ys : List V3) → GoesOn xs ys → StandIn axes xs → StandIn axes ys
axes_kept xs ys g = All-weaker (Contains xs) (Contains ys) (λ n c. stays_in xs ys n g c) axes

pub axes_room : (k : Core) → length k.pairs ≡ 2016 → k.count ≡ 0 → length k.planes ≡ 96 → k.used ≡ 3 → core_planes k ≡ axes → HasRoom k
axes_room k long none room used e = record {
  long = long;
  few = omega (arith, none);
  room = room;
  most = omega (arith, used);
  axes = subst (StandIn axes) (sym e) (All-contains_itself axes);
}

-- ---- cores

-- the pairs that there were, and one more at most, whose planes are there
pub core_taken : (pairs : List Arc) (speaks : List Part → Type 0) (k m : Core) (pair : Arc) (facets : List V3) → IsCore pairs speaks k → Contains pairs pair → HasRoom m → GoesOn (core_planes k) (core_planes m)
    → ((parts : List Part) → speaks parts → AreFacetsOf parts pair facets) → ((x : Arc) → Contains (core_pairs m) x → Contains (core_pairs k) x ⊎ ((x ≡ pair) × HasCanons (core_planes m) facets)) → IsCore pairs speaks m
core_taken pairs speaks k m pair facets is listed room planes are each = record {
  room = room;
  among = All-from_members (Contains pairs) (core_pairs m) (λ x c. ⊎_elim (λ old. All-contains (Contains pairs) (core_pairs k) x is.among old) (λ new. subst (Contains pairs) (sym new.0) listed) (each x c));
  facets = λ parts sp. All-from_members (HasPlanesOf parts (core_planes m)) (core_pairs m) (λ x c. ⊎_elim
      (λ old. All-contains (HasPlanesOf parts (core_planes m)) (core_pairs k) x (planes_kept parts (core_planes k) (core_planes m) (core_pairs k) planes (is.facets parts sp)) old)
      (λ new. subst (HasPlanesOf parts (core_planes m)) (sym new.0) (has parts sp new.1)) (each x c));
}
  where
    has : (parts : List Part) → speaks parts → HasCanons (core_planes m) facets → HasPlanesOf parts (core_planes m) pair
    has parts sp put =
        let h = (are parts sp).holds in
        record { holds = record { p = h.p; q = h.q; p_is = h.p_is; q_is = h.q_is; holds = λ n f. All-contains (λ x. Contains (core_planes m) (canon x)) facets n put (h.holds.all n f) } }

-- a core without pairs is one for each source
pub core_empty : (pairs : List Arc) (speaks : List Part → Type 0) (k : Core) → IsEmptyCore k → IsCore pairs speaks k
core_empty pairs speaks k is =
    let none : core_pairs k ≡ [] = ap (λ n. take n k.pairs) is.none in record {
      room = is.room;
      among = subst (All (Contains pairs)) (sym none) (All-nil (Contains pairs));
      facets = λ parts sp. subst (All (HasPlanesOf parts (core_planes k))) (sym none) (All-nil (HasPlanesOf parts (core_planes k)));
    }
