-- What all pairs of pieces of a set of parts tell.
use Rattle.std.proofs.Common.{◌≡◌, ◌≢◌, ℕ, ◌<◌, inl, All, List, Contains, get_or, length, refl, subst, sym}
use Rattle.std.specs.List.Sorted.{IsStrictlySortedBy}
use Rattle.std.specs.Ordering.{nat_cmp}
use Rattle.std.specs.Prelude.{Option}
use Rattle.staat_vec.specs.declared.vector.V3.{V3}
use Rattle.staat_vec.specs.Vectors.{origin}
use Rattle.staat_vec.proofs.Unique.{IsFirst-in, from_place}
use Rattle.staat_model.specs.declared.assembly.Part.{Part}
use Rattle.staat_model.specs.declared.certificate.Arc.{Arc}
use Rattle.staat_model.specs.Assemblies.{piece_count}
use Rattle.staat_model.specs.Planes.{vertices}
use Rattle.staat_model.specs.Removal.{Blocks}
use Rattle.staat_model.specs.SetLists.{set_of}
use Rattle.staat_model.proofs.Places.{one_at_place}
use Rattle.staat_holds.specs.Chains.{own_names, places_of}
use Rattle.staat_holds.specs.Holds.{IsCorePair, IsFirstGap, IsOfNode, IsOfSomeNode, LeadsBetween}
use Rattle.staat_holds.specs.Reaching.{AllReach}
use Rattle.staat_decide.specs.declared.every.End.{End}
use Rattle.staat_decide.specs.Ends.{arc_between}
use Rattle.staat_decide.specs.Peelings.{IsHeldAlong}
use Rattle.staat_decide.proofs.Gaps.{no_gap}
use Rattle.staat_decide.proofs.Holdings.{of_own, own_of}
use Rattle.staat_model.proofs.PlanLemmas.{piece_within}

-- a part of one of the nodes stands in the list
in_list : (w : List ℕ) (count a : ℕ) → IsOfSomeNode (places_of w (own_names count)) (length w) a → Contains w a
in_list w count a h = from_place w h.node a (own_of w count h.node a h.is)

module _ (parts : List Part) (w : List ℕ) (pairs : List Arc) where
  pub all_listed : (ends : List End)
      → ((p i : ℕ) → Contains w p → i < piece_count parts p → Contains ends (record { part = p; piece = i }))
      → ((p q : End) → Contains ends p → Contains ends q
      → IsCorePair parts (places_of w (own_names (length parts))) (length w) (arc_between p q) → Contains pairs (arc_between p q))
      → (pair : Arc) → IsCorePair parts (places_of w (own_names (length parts))) (length w) pair → Contains pairs pair
  all_listed ends all each pair core =
      let pieces = core.pieces in
      let first = all pair.a pair.i (in_list w (length parts) pair.a core.first) pieces.i_in in
      let second = all pair.b pair.j (in_list w (length parts) pair.b core.second) pieces.j_in in
      each (record { part = pair.a; piece = pair.i }) (record { part = pair.b; piece = pair.j }) first second core

  module _ (within : All (λ p. p < length parts) w) (sorted : IsStrictlySortedBy nat_cmp w)
      (complete : (pair : Arc) → IsCorePair parts (places_of w (own_names (length parts))) (length w) pair → Contains pairs pair) where
    below : (i : ℕ) → i < length w → get_or w i 0 < length parts
    below i lt = within i 0 lt

    node : (i : ℕ) → i < length w → IsOfNode (places_of w (own_names (length parts))) i (get_or w i 0)
    node i lt = of_own w (length parts) i (get_or w i 0) sorted lt refl (below i lt)

    leads : (d : V3) (i j : ℕ) → i < length w → j < length w → Blocks parts d (get_or w i 0) (get_or w j 0)
        → LeadsBetween parts (places_of w (own_names (length parts))) pairs d i j
    leads d i j i_lt j_lt b =
        let m = b.meets in
        let a = get_or w i 0 in
        let c = get_or w j 0 in
        let pair : Arc = record { a = a; i = b.i; b = c; j = b.j } in
        let core : IsCorePair parts (places_of w (own_names (length parts))) (length w) pair = record {
          pieces = record { a_in = below i i_lt; i_in = piece_within parts a b.i m.p m.p_is; b_in = below j j_lt; j_in = piece_within parts c b.j m.q m.q_is };
          first = record { node = i; is = node i i_lt; few = i_lt };
          second = record { node = j; is = node j j_lt; few = j_lt };
          apart = λ k of_a of_c. b.different (one_at_place w k a c (own_of w (length parts) k a of_a) (own_of w (length parts) k c of_c));
        } in
        record { pair = pair; listed = inl (complete pair core); from = node i i_lt; to = node j j_lt; meets = m }

    pub never_held : (v : V3) → v ≢ origin
        → IsFirstGap parts (places_of w (own_names (length parts))) (length w) pairs v → IsHeldAlong parts v (set_of w) → ⊥
    never_held v moves gap held =
        let in' = IsFirst-in (λ d. AllReach (length w) (LeadsBetween parts (places_of w (own_names (length parts))) pairs d) → ⊥) (vertices gap.planes) v gap.first in
        no_gap parts v w (LeadsBetween parts (places_of w (own_names (length parts))) pairs v) moves sorted (leads v) held in'.1

-- the same for a list of places that is equal to this one
pub never_kept : (parts : List Part) (w : List ℕ) (pairs : List Arc) (places : List (Option ℕ))
    → All (λ p. p < length parts) w → IsStrictlySortedBy nat_cmp w → places ≡ places_of w (own_names (length parts))
    → ((pair : Arc) → IsCorePair parts places (length w) pair → Contains pairs pair)
    → (v : V3) → v ≢ origin → IsFirstGap parts places (length w) pairs v → IsHeldAlong parts v (set_of w) → ⊥
never_kept parts w pairs places within sorted are complete v moves gap held =
    never_held parts w pairs within sorted
    (λ pair core. complete pair (subst (λ (ps : List (Option ℕ)). IsCorePair parts ps (length w) pair) (sym are) core))
    v moves (subst (λ (ps : List (Option ℕ)). IsFirstGap parts ps (length w) pairs v) are gap) held

pub all_kept : (parts : List Part) (w : List ℕ) (pairs : List Arc) (nodes : List (Option ℕ)) (ends slice : List End)
    → nodes ≡ places_of w (own_names (length parts)) → slice ≡ ends
    → ((p i : ℕ) → Contains w p → i < piece_count parts p → Contains ends (record { part = p; piece = i }))
    → ((p q : End) → Contains slice p → Contains slice q → IsCorePair parts nodes (length w) (arc_between p q) → Contains pairs (arc_between p q))
    → (pair : Arc) → IsCorePair parts nodes (length w) pair → Contains pairs pair
all_kept parts w pairs nodes ends slice are same all each pair core =
    all_listed parts w pairs ends all
    (λ p q p_in q_in h. each p q (subst (λ (xs : List End). Contains xs p) (sym same) p_in) (subst (λ (xs : List End). Contains xs q) (sym same) q_in)
    (subst (λ (ps : List (Option ℕ)). IsCorePair parts ps (length w) (arc_between p q)) (sym are) h))
    pair (subst (λ (ps : List (Option ℕ)). IsCorePair parts ps (length w) pair) are core)

pub never_told : (parts : List Part) (w : List ℕ) (pairs : List Arc) (places first second : List (Option ℕ)) (third : List Arc)
    → All (λ p. p < length parts) w → IsStrictlySortedBy nat_cmp w → places ≡ places_of w (own_names (length parts))
    → first ≡ places → second ≡ places → third ≡ pairs
    → ((pair : Arc) → IsCorePair parts first (length w) pair → Contains pairs pair)
    → (v : V3) → v ≢ origin → IsFirstGap parts second (length w) third v → IsHeldAlong parts v (set_of w) → ⊥
never_told parts w pairs places first second third within sorted are e1 e2 e3 complete v moves gap held =
    never_kept parts w pairs places within sorted are
    (λ pair core. complete pair (subst (λ (ps : List (Option ℕ)). IsCorePair parts ps (length w) pair) (sym e1) core))
    v moves
    (subst (λ (ps : List (Option ℕ)). IsFirstGap parts ps (length w) pairs v) e2 (subst (λ (xs : List Arc). IsFirstGap parts second (length w) xs v) e3 gap))
    held
