-- Stops of rings that are circles of a table's planes, and the steps to the first stop of a circle and of a crossing.
use Rattle.staat_ring.proofs.CircleStops as circle
use Rattle.std.proofs.Common.{◌≡◌, ◌≢◌, ◌⊎◌, inl, inr, ℕ, ◌+◌, ◌%◌, ◌<◌, ◌≤◌, arith, ap, sym, subst, ◌∙◌, List, [], ◌∷◌, length, All, Contains, true, false}
use Rattle.std.specs.Prelude.{Some, map, slice_get, Contains}
use Rattle.std.specs.Ordering.{nat_cmp}
use Rattle.std.specs.List.Sorted.{IsStrictlySortedBy}
use Rattle.std.proofs.lemmas.List.Elements.{All-contains}
use Rattle.std.proofs.lemmas.Option.{same_Some, slice_get-get_or, slice_get_within}
use Rattle.staat_vec.specs.declared.vector.V3.{V3}
use Rattle.staat_vec.specs.Vectors.{origin}
use Rattle.staat_vec.proofs.Unique.{Contains-cases, Contains-nothing, from_place}
use Rattle.staat_pairs.specs.Tables.{AreTablePlanes, IsTable, Table}
use Rattle.staat_ring.specs.declared.entry.Entry.{Entry}
use Rattle.staat_ring.specs.SignChanges.{with_stop_signs}
use Rattle.staat_ring.specs.Places.{IsStopAt, HasNode}
use Rattle.staat_ring.specs.Rings.{AreRings, IsRingOf, Ring, RingStop, crossing, linked_of, vertex_of, stop_of}
use Rattle.staat_ring.specs.CountedSigns.{Signed}
use Rattle.staat_ring.specs.Belonging.{HoldSigns, BelongTo}
use Rattle.staat_ring.proofs.Stops.{none_parallel}
use Rattle.staat_vec.proofs.Comparisons.{head_less, tail_sorted}
use Rattle.staat_vec.proofs.ListLaws.{Contains-map, Contains-from_map}
use Rattle.staat_ring.specs.Walked.{IsEntered, Walked}
use Rattle.staat_ring.proofs.SignAll.{belong_same, stop_signs_same}
use Rattle.std.proofs.lemmas.List.{length-map}

module _ (planes : List V3) (rings : List Ring) (out : List ℕ) (table : AreTablePlanes planes) (are : AreRings planes rings out) (c m : ℕ) (s : RingStop) (at : IsStopAt rings c m s) where
  ring_is : IsRingOf planes (linked_of rings) at.ring
  ring_is = All-contains (IsRingOf planes (linked_of rings)) rings at.ring are.each at.listed

  listed : Contains at.ring.stops s
  listed = from_place at.ring.stops m s at.is

  pub entry_small : (e : Entry) → Contains s.entries e → e.plane < length planes
  entry_small = circle.entry_small planes (linked_of rings) at.ring (none_parallel planes (linked_of rings) table) ring_is s listed

  pub entry_other : (e : Entry) → Contains s.entries e → e.plane ≢ c
  entry_other e ce q = circle.entry_other planes (linked_of rings) at.ring (none_parallel planes (linked_of rings) table) ring_is s listed e ce (q ∙ sym at.plane)

  pub entries_ascend : IsStrictlySortedBy nat_cmp (map (λ e. e.plane) s.entries)
  entries_ascend = circle.entries_ascend planes (linked_of rings) at.ring (none_parallel planes (linked_of rings) table) ring_is s listed

  pub few : (length s.entries ≤ length planes) × All (λ e. e.plane < length planes) s.entries
  few = circle.few planes (linked_of rings) at.ring (none_parallel planes (linked_of rings) table) ring_is s listed

  pub circle_small : c < length planes
  circle_small = subst (λ k. k < length planes) at.plane (circle.circle_small planes (linked_of rings) at.ring (none_parallel planes (linked_of rings) table) ring_is)

  pub some : 0 < length s.entries
  some = circle.some planes (linked_of rings) at.ring (none_parallel planes (linked_of rings) table) ring_is s listed

  pub vertex_some : vertex_of planes c s.entries ≢ origin
  vertex_some = subst (λ k. vertex_of planes k s.entries ≢ origin) at.plane (circle.vertex_some planes (linked_of rings) at.ring (none_parallel planes (linked_of rings) table) ring_is s listed)

  -- the next stop, and the signs there
  module _ (t : RingStop) (there : slice_get at.ring.stops ((m + 1) % length at.ring.stops) ≡ Some t) where
    pub next_at : IsStopAt rings c ((m + 1) % length at.ring.stops) t
    next_at = record { ring = at.ring; listed = at.listed; plane = at.plane; is = there }

    pub next_signs : (now : Signed) → length now.states ≡ length planes → HoldSigns planes (linked_of rings) now (vertex_of planes c s.entries) → HoldSigns planes (linked_of rings) (with_stop_signs false t.entries (with_stop_signs true s.entries now)) (vertex_of planes c t.entries)
    next_signs now size holds =
        subst (λ k. HoldSigns planes (linked_of rings) (with_stop_signs false t.entries (with_stop_signs true s.entries now)) (vertex_of planes k t.entries)) at.plane
        (circle.cross_signs planes (linked_of rings) at.ring (none_parallel planes (linked_of rings) table) ring_is s t m at.is there now size
        (subst (λ k. HoldSigns planes (linked_of rings) now (vertex_of planes k s.entries)) (sym at.plane) holds))

-- the vertex of a stop is that of its first entry
pub vertex_first : (planes : List V3) (c : ℕ) (es : List Entry) (e : Entry) → slice_get es 0 ≡ Some e → crossing planes c e ≡ vertex_of planes c es
vertex_first planes c [] e h = cc
vertex_first planes c (x ∷ es) e h = ap (crossing planes c) (sym (same_Some x e h))

-- ---- one ring for each plane

pub one_ring : (rings : List Ring) (r q : Ring) → IsStrictlySortedBy nat_cmp (linked_of rings) → Contains rings r → Contains rings q → r.plane ≡ q.plane → r ≡ q
one_ring [] r q s cr cq e = absurd (Contains-nothing r cr)
one_ring (x ∷ rings) r q s cr cq e = by (λ a b. one_ring rings r q (tail_sorted x.plane (linked_of rings) s) a b e) (Contains-cases x rings r cr) (Contains-cases x rings q cq)
  where
    by : (Contains rings r → Contains rings q → r ≡ q) → (r ≡ x) ⊎ Contains rings r → (q ≡ x) ⊎ Contains rings q → r ≡ q
    by rest (inl a) (inl b) = a ∙ sym b
    by rest (inl a) (inr b) = absurd (let lt = head_less x.plane (linked_of rings) q.plane s (Contains-map (λ r. r.plane) rings q b) in let p = ap (λ r. r.plane) a in omega (arith, lt, p, e))
    by rest (inr a) (inl b) = absurd (let lt = head_less x.plane (linked_of rings) r.plane s (Contains-map (λ r. r.plane) rings r a) in let p = ap (λ r. r.plane) b in omega (arith, lt, p, e))
    by rest (inr a) (inr b) = rest a b

pub one_stop : (rings : List Ring) (c m : ℕ) (s t : RingStop) → IsStrictlySortedBy nat_cmp (linked_of rings) → IsStopAt rings c m s → IsStopAt rings c m t → s ≡ t
one_stop rings c m s t sorted p q =
    let e = one_ring rings p.ring q.ring sorted p.listed q.listed (p.plane ∙ sym q.plane) in
    same_Some s t (sym p.is ∙ (ap (λ r. slice_get r.stops m) e ∙ q.is))

-- ---- the steps to the first stop of a circle, and of a crossing

module _ (t : Table) (rules : IsTable t) (rings : List Ring) (out : List ℕ) (are : AreRings t.planes rings out) (c : ℕ) (linked : Contains (linked_of rings) c) where
  ring_at : (r : Ring) × Contains rings r × (r.plane ≡ c)
  ring_at = Contains-from_map (λ r. r.plane) rings c linked

  abbrev first_at : (s : RingStop) × IsStopAt rings c 0 s
  first_at =
      let is = All-contains (IsRingOf t.planes (linked_of rings)) rings ring_at.0 are.each ring_at.1 in
      let lt : 0 < length ring_at.0.stops = subst (λ k. 0 < k) (length-map ring_at.0.stops (stop_of t.planes ring_at.0.plane)) (slice_get_within (map (stop_of t.planes ring_at.0.plane) ring_at.0.stops) 0 is.circle.first is.circle.first_is) in
      let d : RingStop = record { node = 0; entries = Rattle.std.proofs.Common.[] } in
      (Rattle.std.proofs.Common.get_or ring_at.0.stops 0 d, record { ring = ring_at.0; listed = ring_at.1; plane = ring_at.2; is = slice_get-get_or ring_at.0.stops 0 d lt })

  module _ (node : ℕ) (first : (s : RingStop) → IsStopAt rings c 0 s → node ≡ s.node) where
    pub first_node : HasNode rings c node
    first_node = record { place = 0; stop = first_at.0; at = first_at.1; is = sym (first first_at.0 first_at.1) }

    pub first_some : (m : ℕ) (s : RingStop) → IsStopAt rings c m s → s.node ≡ node → 0 < length s.entries
    first_some m s at is = some t.planes rings out rules.planes are c m s at

    pub first_circle : c < length t.planes
    first_circle = circle_small t.planes rings out rules.planes are c 0 first_at.0 first_at.1

    module _ (entry : Entry) (there : (m : ℕ) (s : RingStop) → IsStopAt rings c m s → s.node ≡ node → slice_get s.entries 0 ≡ Some entry) where
      entry_is : slice_get first_at.0.entries 0 ≡ Some entry
      entry_is = there 0 first_at.0 first_at.1 (sym (first first_at.0 first_at.1))

      pub first_entry_small : entry.plane < length t.planes
      first_entry_small = entry_small t.planes rings out rules.planes are c 0 first_at.0 first_at.1 entry (from_place first_at.0.entries 0 entry entry_is)

      pub first_entry_other : entry.plane ≢ c
      first_entry_other = entry_other t.planes rings out rules.planes are c 0 first_at.0 first_at.1 entry (from_place first_at.0.entries 0 entry entry_is)

      pub entered_first : (signs : Signed) (v d : V3) (crossed : ℕ) → v ≡ crossing t.planes c entry → d ≡ v → HoldSigns t.planes (linked_of rings) signs d → IsEntered t.planes rings (record { signs = signs; crossed = crossed; circle = c; place = 0; node = node; vertex = v })
      entered_first signs v d crossed e is holds = record {
        stop = first_at.0;
        at = first_at.1;
        node = sym (first first_at.0 first_at.1);
        vertex = e ∙ vertex_first t.planes c first_at.0.entries entry entry_is;
        signs = subst (HoldSigns t.planes (linked_of rings) signs) is holds;
      }

module _ (t : Table) (rules : IsTable t) (rings : List Ring) (out : List ℕ) (are : AreRings t.planes rings out) (now w : Walked) (view : w ≡ now) (made : BelongTo t now.signs) (entered : IsEntered t.planes rings now) where
  made_here : BelongTo t w.signs
  made_here = subst (λ (w : Walked). BelongTo t w.signs) (sym view) made

  here : IsEntered t.planes rings w
  here = subst (IsEntered t.planes rings) (sym view) entered

  pub few_for : (s : Signed) → length s.states ≡ length t.planes → (m : ℕ) (q : RingStop) → IsStopAt rings w.circle m q → (length q.entries ≤ length t.planes) × All (λ e. e.plane < length s.states) q.entries
  few_for s size m q at =
      let f = few t.planes rings out rules.planes are w.circle m q at in
      (f.0, subst (λ k. All (λ e. e.plane < k) q.entries) (sym size) f.1)

  pub first_few : (m : ℕ) (q : RingStop) → IsStopAt rings w.circle m q → q.node ≡ w.node → (length q.entries ≤ length t.planes) × All (λ e. e.plane < length w.signs.states) q.entries
  first_few m q at is = few_for w.signs made_here.states m q at

  pub circle_is : w.circle < length t.planes
  circle_is = circle_small t.planes rings out rules.planes are w.circle w.place here.stop here.at

  pub some_for : (node m : ℕ) (q : RingStop) → IsStopAt rings w.circle m q → q.node ≡ node → 0 < length q.entries
  some_for node m q at is = some t.planes rings out rules.planes are w.circle m q at

  module _ (mid : Signed) (left : (m : ℕ) (q : RingStop) → IsStopAt rings w.circle m q → q.node ≡ w.node → mid ≡ with_stop_signs true q.entries w.signs)
      (node place : ℕ) (next : (q : RingStop) → (at : IsStopAt rings w.circle w.place q) → q.node ≡ w.node → (r : RingStop) × (slice_get at.ring.stops ((w.place + 1) % length at.ring.stops) ≡ Some r) × (r.node ≡ node) × (place ≡ (w.place + 1) % length at.ring.stops)) where
    abbrev reached : RingStop
    reached = (next here.stop here.at here.node).0

    reached_at : IsStopAt rings w.circle ((w.place + 1) % length here.at.ring.stops) reached
    reached_at = next_at t.planes rings out rules.planes are w.circle w.place here.stop here.at reached (next here.stop here.at here.node).1

    reached_node : reached.node ≡ node
    reached_node = (next here.stop here.at here.node).2

    pub next_node : HasNode rings w.circle node
    next_node = record { place = (w.place + 1) % length here.at.ring.stops; stop = reached; at = reached_at; is = reached_node }

    mid_is : mid ≡ with_stop_signs true here.stop.entries w.signs
    mid_is = left w.place here.stop here.at here.node

    mid_size : length mid.states ≡ length t.planes
    mid_size = ap (λ s. length s.states) mid_is ∙ ((stop_signs_same true here.stop.entries w.signs).size ∙ made_here.states)

    pub second_few : (m : ℕ) (q : RingStop) → IsStopAt rings w.circle m q → q.node ≡ node → (length q.entries ≤ length t.planes) × All (λ e. e.plane < length mid.states) q.entries
    second_few m q at is = few_for mid mid_size m q at

    pub place_is : (q : RingStop) → (at : IsStopAt rings now.circle now.place q) → q.node ≡ now.node → place ≡ (now.place + 1) % length at.ring.stops
    place_is = subst (λ (x : Walked). (q : RingStop) → (at : IsStopAt rings x.circle x.place q) → q.node ≡ x.node → place ≡ (x.place + 1) % length at.ring.stops) view (λ q at is. (next q at is).3)

    module _ (entry : Entry) (first : (m : ℕ) (q : RingStop) → IsStopAt rings w.circle m q → q.node ≡ node → slice_get q.entries 0 ≡ Some entry) where
      entry_there : slice_get reached.entries 0 ≡ Some entry
      entry_there = first ((w.place + 1) % length here.at.ring.stops) reached reached_at reached_node

      pub entry_is_small : entry.plane < length t.planes
      entry_is_small = entry_small t.planes rings out rules.planes are w.circle ((w.place + 1) % length here.at.ring.stops) reached reached_at entry (from_place reached.entries 0 entry entry_there)

      pub entry_is_other : entry.plane ≢ w.circle
      entry_is_other = entry_other t.planes rings out rules.planes are w.circle ((w.place + 1) % length here.at.ring.stops) reached reached_at entry (from_place reached.entries 0 entry entry_there)

      module _ (end : Signed) (right : (m : ℕ) (q : RingStop) → IsStopAt rings w.circle m q → q.node ≡ node → end ≡ with_stop_signs false q.entries mid) (stand : V3) (stand_is : stand ≡ crossing t.planes w.circle entry) (crossed : ℕ) where
        end_is : end ≡ with_stop_signs false reached.entries (with_stop_signs true here.stop.entries w.signs)
        end_is = right ((w.place + 1) % length here.at.ring.stops) reached reached_at reached_node ∙ ap (with_stop_signs false reached.entries) mid_is

        vertex_is : stand ≡ vertex_of t.planes w.circle reached.entries
        vertex_is = stand_is ∙ vertex_first t.planes w.circle reached.entries entry entry_there

        pub made_end : BelongTo t end
        made_end = subst (BelongTo t) (sym end_is)
            (belong_same t (with_stop_signs true here.stop.entries w.signs) (with_stop_signs false reached.entries (with_stop_signs true here.stop.entries w.signs)) (stop_signs_same false reached.entries (with_stop_signs true here.stop.entries w.signs))
            (belong_same t w.signs (with_stop_signs true here.stop.entries w.signs) (stop_signs_same true here.stop.entries w.signs) made_here))

        pub entered_end : IsEntered t.planes rings (record { signs = end; crossed = crossed; circle = w.circle; place = place; node = node; vertex = stand })
        entered_end = record {
          stop = reached;
          at = subst (λ k. IsStopAt rings w.circle k reached) (sym (next here.stop here.at here.node).3) reached_at;
          node = reached_node;
          vertex = vertex_is;
          signs = subst (λ v. HoldSigns t.planes (linked_of rings) end v) (sym vertex_is) (subst (λ s. HoldSigns t.planes (linked_of rings) s (vertex_of t.planes w.circle reached.entries)) (sym end_is)
              (next_signs t.planes rings out rules.planes are w.circle w.place here.stop here.at reached (next here.stop here.at here.node).1 w.signs made_here.states
              (subst (λ v. HoldSigns t.planes (linked_of rings) w.signs v) here.vertex here.signs)));
        }
