-- Free sides and the graph at a direction: the sides that are free are those that no arc leaves.
use Rattle.std.proofs.Common.{◌≢◌, ◌⊎◌, ℕ, List, sym, subst, inl, inr, ⊎_elim}
use Rattle.std.specs.FinSet as set
use Rattle.staat_vec.specs.declared.vector.V3.{V3}
use Rattle.staat_vec.specs.Vectors.{origin}
use Rattle.staat_model.specs.declared.assembly.Part.{Part}
use Rattle.staat_model.specs.declared.set.PartSet.{PartSet}
use Rattle.staat_model.specs.Outcomes.{ServesBy, IsMovedSideBy, IsMinimalBy}
use Rattle.staat_model.specs.Removal.{IsFreeBy}
use Rattle.staat_model.specs.Sets.{Has, IsSubset, IsNonempty}
use Rattle.staat_model.proofs.FreeSides.{member_or, subset_or}
use Rattle.staat_model.proofs.SetMembers.{has-difference}
use Rattle.staat_model.proofs.SetWords.{same_members}
use Rattle.staat_graph.specs.Blocking.{ShowsBlockingBy}
use Rattle.staat_graph.specs.Graphs.{HasArc, Walks, here, IsShut, IsSink, IsFirstSink, IsStrong}
use Rattle.staat_graph.proofs.Arcs.{arc_or}
use Rattle.staat_graph.proofs.Reaching.{reach_of, some_sink}
use Rattle.staat_graph.proofs.Walking.{stays, walk_ends, reach_shut}
use Rattle.staat_model.proofs.RestrictLemmas.{nonempty_or}

-- for any relation M of two pieces and a direction
module _ {M : List V3 → List V3 → V3 → Type 0} (parts : List Part) (d : V3) (w : PartSet) (rows : List ℕ) (moves : d ≢ origin)
    (shows : ShowsBlockingBy M parts d w rows) where
  abbrev R : ℕ → ℕ → Type 0
  R = HasArc rows

  pub shut_of_free : (s : PartSet) → IsSubset s w → IsFreeBy M parts s (set.difference w s) d → IsShut R w s
  shut_of_free s within free a b ha hb arc = ⊎_elim (λ h. h)
      (λ out. let block = (shows a b (within a ha) hb).0 arc in absurd (free.clear (record { a = a; i = block.i; b = b; j = block.j }) ha ((has-difference w s b).1 (hb, out)) block.meets))
      (member_or s b)

  pub free_of_shut : (s : PartSet) → IsSubset s w → IsShut R w s → IsFreeBy M parts s (set.difference w s) d
  free_of_shut s within shut = record {
    moves = moves;
    clear = λ arc ha hb meets.
        let t = (has-difference w s arc.b).0 hb in
        t.1 (shut arc.a arc.b ha t.0 ((shows arc.a arc.b (within arc.a ha) t.0).1 (record { i = arc.i; j = arc.j; different = λ e. t.1 (subst (Has s) e ha); meets = meets })));
  }

  -- a group that no arc leaves is free, and no side of it is
  pub minimal_of_sink : (s : PartSet) → IsSink R w s → IsMinimalBy M parts w d s
  minimal_of_sink s sink = record {
    nonempty = sink.group.nonempty;
    within = sink.group.within;
    free = free_of_shut s sink.group.within sink.shut;
    minimal = λ t side free.
        let inside : IsSubset t w = λ q h. sink.group.within q (side.within q h) in
        let shut = shut_of_free t inside free in
        let p = side.nonempty in
        side.proper (same_members t s side.within (λ q h. stays t shut p.1 (sink.group.linked p.0 q (side.within p.0 p.1) h)));
  }

  -- of a free side of which no side is free, each part reaches each other: what it reaches is free too
  linked : (s : PartSet) → IsMinimalBy M parts w d s → (a b : ℕ) → Has s a → Has s b → Walks R w a b
  linked s min a b ha hb =
      let shut = shut_of_free s min.within min.free in
      let (r, out) = reach_of R (arc_or rows) w a (min.within a ha) in
      let inside : IsSubset r s = λ q h. stays s shut ha (out.walks q h) in
      let free = free_of_shut r (λ q h. walk_ends (out.walks q h)) (reach_shut R w a r out) in
      ⊎_elim (λ all. out.walks b (all b hb))
      (λ more. absurd (min.minimal r (record {
        nonempty = (a, out.all a (here (min.within a ha)));
        within = inside;
        proper = λ e. more (λ q h. subst (λ (z : PartSet). Has z q) (sym e) h);
      }) free))
      (subset_or s r)

  pub sink_of_minimal : (s : PartSet) → IsMinimalBy M parts w d s → IsSink R w s
  sink_of_minimal s min =
      let shut = shut_of_free s min.within min.free in
      record {
        group = record { nonempty = min.nonempty; within = min.within; linked = linked s min; whole = λ a b ha m. stays s shut ha m.0 };
        shut = shut;
      }

  pub moved_of_first : (s : PartSet) → IsFirstSink R w s → IsMovedSideBy M parts w d s
  moved_of_first s first = record { is = minimal_of_sink s first.sink; least = first.least; has = first.has; first = λ t q min h. first.first t q (sink_of_minimal t min) h }

  pub first_of_moved : (s : PartSet) → IsMovedSideBy M parts w d s → IsFirstSink R w s
  first_of_moved s moved = record { sink = sink_of_minimal s moved.is; least = moved.least; has = moved.has; first = λ t q sink h. moved.first t q (minimal_of_sink t sink) h }

  pub weak_of_serves : ServesBy M parts w d → IsStrong R w → ⊥
  weak_of_serves serves strong =
      let side = serves.is_side in
      let p = side.nonempty in
      let shut = shut_of_free serves.side side.within serves.free in
      side.proper (same_members serves.side w side.within (λ q h. stays serves.side shut p.1 (strong p.0 q (side.within p.0 p.1) h)))

  serves_by : (s : PartSet) → IsSink R w s → (IsStrong R w → ⊥) → ServesBy M parts w d
  serves_by s sink weak = record {
    side = s;
    is_side = record {
      nonempty = sink.group.nonempty;
      within = sink.group.within;
      proper = λ e. weak (λ a b ha hb. sink.group.linked a b (subst (λ (z : PartSet). Has z a) (sym e) ha) (subst (λ (z : PartSet). Has z b) (sym e) hb));
    };
    free = free_of_shut s sink.group.within sink.shut;
  }

  pub serves_of_weak : (IsStrong R w → ⊥) → ServesBy M parts w d
  serves_of_weak weak = go (nonempty_or w)
    where
      go : IsNonempty w ⊎ ((q : ℕ) → Has w q → ⊥) → ServesBy M parts w d
      go (inl (p, h)) = let (s, sink) = some_sink R (arc_or rows) w p h in serves_by s sink weak
      go (inr none) = absurd (weak (λ a b ha hb. absurd (none a ha)))
