-- What a survey of the vertices of a table's planes finds.
use Rattle.std.proofs.Common.{◌≡◌, ◌≢◌, ⊎_elim, ℕ, ◌+◌, ◌<◌, ◌≤◌, Bool, true, false, not, arith, ap, sym, subst, ◌∙◌, refl, List, [], ◌∷◌, ◌++◌, length, All, Contains}
use Rattle.std.specs.Prelude.{Some, slice_get}
use Rattle.std.specs.List.{AllByRecursion, dedup}
use Rattle.std.specs.List.Sorted.{IsPermutation, IsSortedByKey, IsStrictlySortedBy}
use Rattle.std.specs.Cmp.{IsTotalOrder}
use Rattle.std.specs.Ordering.{eq_by_cmp}
use Rattle.std.specs.declared.cmp.Ordering.{Ordering}
use Rattle.std.specs.declared.cmp.Ordering.TheVariants.{Less}
use Rattle.std.proofs.lemmas.Cmp.{eq_by_cmp_equiv}
use Rattle.std.proofs.lemmas.List.{map-append}
use Rattle.std.proofs.lemmas.List.Elements.{All-contains, All-push, All-weaker, Contains-append_cases, Contains-append_left, Contains-append_right, Contains-push}
use Rattle.std.proofs.lemmas.List.Kept.{Any-dedup, Contains-from_dedup, IsStrictlySortedBy-dedup}
use Rattle.std.proofs.lemmas.List.Sorted.{Contains-permutation, IsPermutation-sym}
use Rattle.std.proofs.lemmas.Option.{get_or_from_slice_get, slice_get_within}
use Rattle.staat_vec.specs.declared.vector.V3.{V3}
use Rattle.staat_vec.specs.Lists.{Lists}
use Rattle.staat_vec.specs.Primitives.{primitive}
use Rattle.staat_vec.specs.Vectors.{cross, negative, origin, vector_cmp}
use Rattle.staat_vec.proofs.Canons.{negative-negative}
use Rattle.staat_vec.proofs.Comparisons.{from_is_eq}
use Rattle.staat_vec.proofs.Primitives.{primitive-negative}
use Rattle.staat_vec.proofs.VectorOrder.{vector_exact, vector_total}
use Rattle.staat_vec.proofs.VecRing.{cross_self, cross_turned}
use Rattle.staat_model.specs.declared.assembly.Part.{Part}
use Rattle.staat_model.specs.declared.certificate.Witness.{Witness}
use Rattle.staat_model.specs.declared.set.PartSet.{PartSet}
use Rattle.staat_model.specs.Certify.{IsDirection}
use Rattle.staat_model.proofs.EndLemmas.{from_vertices}
use Rattle.staat_model.proofs.Members.{All-from_members}
use Rattle.staat_model.proofs.PlaneLemmas.{NoneParallel}
use Rattle.staat_pairs.specs.Tables.{AreTablePlanes, Table}
use Rattle.staat_certify.specs.declared.visit_list.Visit.{Visit}
use Rattle.staat_certify.specs.declared.visits.Found.{Found}
use Rattle.staat_certify.specs.Visits.{AreStillVisited, AreVisitedBelow, HasFound, HasGone, IsNamed, IsVisitedDirection, SortsVisits, visited_directions}
use Rattle.staat_ring.specs.declared.entry.Entry.{Entry}
use Rattle.staat_ring.specs.Rings.{Ring, crossing, facet_by}
use Rattle.staat_ring.specs.WholeCircles.{IsWholeCircle, vertex_at}
use Rattle.staat_planes.specs.PairOrder.{plane_at}
use Rattle.staat_ring.proofs.WholeCircles.{crossing_there}
use Rattle.staat_vec.proofs.ListLaws.{Contains-from_map, Contains-map, place_of}
use Rattle.staat_vec.proofs.Naturals.{lt_one_more_cases}

-- ---- one more visit

module _ (old new : List Visit) (visit : Visit) (is : new ≡ old ++ visit ∷ []) where
  pub all_more : (P : Visit → Type 0) → All P old → P visit → All P new
  all_more P before here = subst (All P) (sym is) (All-push P old visit before here)

  more_directions : visited_directions new ≡ visited_directions old ++ visit.d ∷ []
  more_directions = ap visited_directions is ∙ map-append (λ (v : Visit). v.d) old (visit ∷ [])

  pub still_visited : AreStillVisited old new
  still_visited v c = subst (λ (ds : List V3). Contains ds v) (sym more_directions) (Contains-append_left (visited_directions old) (visit.d ∷ []) v c)

  pub visited_here : Contains (visited_directions new) visit.d
  visited_here = subst (λ (ds : List V3). Contains ds visit.d) (sym more_directions) (Contains-push (visited_directions old) visit.d)

-- a number of the old list names the same witness in the new one
pub named_still : (parts : List Part) (w : PartSet) (old new : List Witness) (visited : List Visit) → ((k : ℕ) (x : Witness) → slice_get old k ≡ Some x → slice_get new k ≡ Some x) → All (IsNamed parts w old) visited → All (IsNamed parts w new) visited
named_still parts w old new visited kept before = All-weaker (IsNamed parts w old) (IsNamed parts w new)
    (λ visit names. record { witness = names.witness; witness_is = kept visit.number names.witness names.witness_is; is = names.is }) visited before

-- ---- where circles have been gone round

crossing_back : (planes : List V3) (b c : ℕ) (turned : Bool) → crossing planes b (record { plane = c; turned = not turned }) ≡ crossing planes c (record { plane = b; turned = turned })
crossing_back planes b c turned = go turned
  where
    u : V3
    u = primitive (cross (plane_at planes c) (plane_at planes b))

    back : primitive (cross (plane_at planes b) (plane_at planes c)) ≡ negative u
    back = ap primitive (cross_turned (plane_at planes b) (plane_at planes c)) ∙ primitive-negative (cross (plane_at planes c) (plane_at planes b))

    go : (t : Bool) → facet_by (not t) (primitive (cross (plane_at planes b) (plane_at planes c))) ≡ facet_by t u
    go false = ap negative back ∙ negative-negative u
    go true = back

module _ (planes : List V3) (version : ℕ) (visited : List Visit) (n : ℕ) (before : AreVisitedBelow planes version visited n) where
  -- a vertex through which a plane before that of the circle passes
  pub visited_earlier : (c : ℕ) (e : Entry) → n ≡ c → c < length planes → e.plane < c → IsVisitedDirection version visited (crossing planes c e)
  visited_earlier c e same small lt =
      subst (IsVisitedDirection version visited) (crossing_back planes e.plane c e.turned) (before e.plane c (not e.turned) (omega (arith, same, lt)) small (λ q. omega (arith, q, lt)))

  -- all directions
  pub all_visited : length planes ≤ n → NoneParallel planes → (d : V3) → IsDirection version planes d → Contains (visited_directions visited) d
  all_visited most apart d is =
      let f = from_vertices planes d apart is.vertex in
      let (i, at_g) = place_of planes f.g f.g_in in
      let (j, at_h) = place_of planes f.h f.h_in in
      let lt = slice_get_within planes i f.g at_g in
      let small = slice_get_within planes j f.h at_h in
      let g_is = get_or_from_slice_get planes i f.g origin at_g in
      let h_is = get_or_from_slice_get planes j f.h origin at_h in
      let ne : j ≢ i = λ q. f.independent (ap (λ z. cross z f.h) (sym g_is ∙ (ap (plane_at planes) (sym q) ∙ h_is)) ∙ cross_self f.h) in
      let u : primitive (cross (plane_at planes i) (plane_at planes j)) ≡ primitive (cross f.g f.h) = λ t. primitive (cross (g_is t) (h_is t)) in
      ⊎_elim {C = IsVisitedDirection version visited d}
      (λ e. subst (IsVisitedDirection version visited) (u ∙ sym e) (before i j false (omega (arith, lt, most)) small ne))
      (λ e. subst (IsVisitedDirection version visited) (ap negative u ∙ sym e) (before i j true (omega (arith, lt, most)) small ne))
      f.is
      is.canonical

-- what has been visited is so when the vertex at the next place has been, too
pub gone_more : (parts : List Part) (t : Table) (version : ℕ) (old new : Found) (r : Ring) (k : ℕ) → AreStillVisited old.visited new.visited
    → (AreVisitedBelow t.planes version new.visited r.plane → HasFound parts t version new r.plane) → IsVisitedDirection version new.visited (vertex_at t.planes r k)
    → HasGone parts t version old r k → HasGone parts t version new r (k + 1)
gone_more parts t version old new r k still found here gone = record {
  so_far = found (λ i j turned lt small ne canonical. still (crossing t.planes i (record { plane = j; turned = turned })) (gone.so_far.below i j turned lt small ne canonical));
  on = λ m lt. ⊎_elim {C = IsVisitedDirection version new.visited (vertex_at t.planes r m)}
      (λ less canonical. still (vertex_at t.planes r m) (gone.on m less canonical))
      (λ e. subst (λ k. IsVisitedDirection version new.visited (vertex_at t.planes r k)) (sym e) here)
      (lt_one_more_cases m k lt);
}

-- the circle has been gone round
pub gone_round : (parts : List Part) (t : Table) → AreTablePlanes t.planes → (r : Ring) → IsWholeCircle t.planes r → (version : ℕ) (found : Found) (n : ℕ) → length r.stops ≤ n
    → HasGone parts t version found r n → HasFound parts t version found (r.plane + 1)
gone_round parts t table r is version found n le gone = record {
  kept = gone.so_far.kept;
  keys_are = gone.so_far.keys_are;
  each = gone.so_far.each;
  named = gone.so_far.named;
  below = λ k j turned lt small ne. ⊎_elim {C = IsVisitedDirection version found.visited (crossing t.planes k (record { plane = j; turned = turned }))}
      (λ less. gone.so_far.below k j turned less small ne)
      (λ e.
      let (m, within, there) = crossing_there t.planes table r is j turned small (λ q. ne (q ∙ sym e)) in
      subst (IsVisitedDirection version found.visited) (there ∙ ap (λ c. crossing t.planes c (record { plane = j; turned = turned })) (sym e)) (gone.on m (omega (arith, within, le))))
      (lt_one_more_cases k r.plane lt);
}

-- ---- in the order of the directions

abbrev by_direction : Visit → Visit → Ordering
by_direction x y = vector_cmp x.d y.d

by_direction_total : IsTotalOrder by_direction
by_direction_total = record {
  antisymm = λ x y. vector_total.antisymm x.d y.d;
  trans = λ x y z. vector_total.trans x.d y.d z.d;
  congr = λ x y z. vector_total.congr x.d y.d z.d;
}

ascending_directions : (visited : List Visit) → IsStrictlySortedBy by_direction visited → IsStrictlySortedBy vector_cmp (visited_directions visited)
unfolding IsStrictlySortedBy
ascending_directions [] s = tt
ascending_directions (x ∷ xs) s = (each xs s.0, ascending_directions xs s.1)
  where
    each : (ys : List Visit) → AllByRecursion (λ y. by_direction x y ≡ Less) ys → AllByRecursion (λ d. vector_cmp x.d d ≡ Less) (visited_directions ys)
    each [] h = tt
    each (y ∷ ys) h = (h.0, each ys h.1)

abbrev pub same_direction : Visit → Visit → Bool
same_direction x y = eq_by_cmp vector_cmp x.d y.d

pub visits_sorted : (old moved new : List Visit) → IsPermutation old moved → IsSortedByKey (λ (v : Visit). v.d) vector_cmp moved → new ≡ dedup same_direction moved → SortsVisits old new
visits_sorted old moved new permuted sorted is = record {
  ascending = ascending_directions new (subst (IsStrictlySortedBy by_direction) (sym is) (IsStrictlySortedBy-dedup by_direction_total {E = same_direction} (λ x y. refl) moved sorted));
  each = λ visit c. Contains-permutation moved old visit (IsPermutation-sym old moved permuted) (Contains-from_dedup same_direction moved visit (subst (λ vs. Contains vs visit) is c));
  all = λ v c.
      let (x, x_in, x_is) = Contains-from_map (λ (v : Visit). v.d) old v c in
      let (k, y, lt, at, same) = Any-dedup (eq_by_cmp_equiv by_direction_total) moved x (Contains-permutation old moved x permuted x_in) in
      subst (Contains (visited_directions new)) (sym (vector_exact x.d y.d (from_is_eq (vector_cmp x.d y.d) same)) ∙ x_is)
      (Contains-map (λ (v : Visit). v.d) new y (subst (λ vs. Contains vs y) (sym is) (k, lt, at)));
}

-- the directions of the version, ascending
pub lists_all : (version : ℕ) (planes : List V3) (old new : List Visit) → SortsVisits old new → All (λ visit. IsDirection version planes visit.d) old → ((d : V3) → IsDirection version planes d → Contains (visited_directions old) d) → Lists vector_cmp (IsDirection version planes) (visited_directions new)
lists_all version planes old new sorts each all = record {
  ascending = sorts.ascending;
  each = λ d c. let (x, x_in, is) = Contains-from_map (λ (v : Visit). v.d) new d c in
      subst (IsDirection version planes) is (All-contains (λ visit. IsDirection version planes visit.d) old x each (sorts.each x x_in));
  all = λ d is. sorts.all d (all d is);
}

-- what holds of each visit still does
pub all_sorted : (P : Visit → Type 0) (old new : List Visit) → SortsVisits old new → All P old → All P new
all_sorted P old new sorts each = All-from_members P new (λ x c. All-contains P old x each (sorts.each x c))

-- the order in which the visits stood does not matter
pub sorts_exchanged : (xs ys new : List Visit) → SortsVisits (xs ++ ys) new → SortsVisits (ys ++ xs) new
sorts_exchanged xs ys new sorts = record {
  ascending = sorts.ascending;
  each = λ visit c. exchanged xs ys visit (sorts.each visit c);
  all = λ v c.
      let (x, x_in, is) = Contains-from_map (λ (v : Visit). v.d) (ys ++ xs) v c in
      sorts.all v (subst (Contains (visited_directions (xs ++ ys))) is (Contains-map (λ (v : Visit). v.d) (xs ++ ys) x (exchanged ys xs x x_in)));
}
  where
    exchanged : (xs ys : List Visit) (x : Visit) → Contains (xs ++ ys) x → Contains (ys ++ xs) x
    exchanged xs ys x c = ⊎_elim (Contains-append_right ys xs x) (Contains-append_left ys xs x) (Contains-append_cases xs ys x c)
