-- What the walk finds at its vertex.
use Rattle.std.specs.{List.Sorted.IsStrictlySortedBy, Ordering.nat_cmp, Prelude.{Option, Some, map, slice_get}}
use Rattle.std.proofs.lemmas.Option.{same_Some}
use Rattle.std.proofs.Common.{◌≡◌, ◌≢◌, ◌↔◌, inl, inr, ⊎_elim, ℕ, ◌+◌, ◌<◌, ◌≤◌, arith, ap, sym, subst, ◌∙◌, List, [], ◌∷◌, length, Contains}
use Rattle.staat_vec.specs.{Lists.IsFirst, Vectors.origin, declared.vector.V3.V3}
use Rattle.staat_vec.proofs.{Comparisons.{head_less, tail_sorted}, ListLaws.Contains-map}
use Rattle.staat_vec.proofs.{Naturals.{le_from_not_lt, lt_one_more_cases}, Unique.{Contains-cases, IsFirst-in}}
use Rattle.staat_model.specs.{Outcomes.Serves, Removal.Blocks, declared.assembly.Part.Part}
use Rattle.staat_model.specs.declared.set.PartSet.{PartSet}
use Rattle.staat_graph.specs.{Blocking.ShowsBlocking, Graphs.{HasArc, IsFirstSink, IsStrong}}
use Rattle.staat_graph.proofs.Sides.{moved_of_first, serves_of_weak, weak_of_serves}
use Rattle.staat_pairs.specs.Tables.{AreTablePlanes}
use Rattle.staat_ring.specs.{Places.IsStopAt, Rings.{Ring, RingStop, vertex_of, AreRings}, Walked.{IsEntered, Walked}}
use Rattle.staat_ring.specs.declared.entry.Entry.{Entry}
use Rattle.staat_ring.proofs.{StopLemmas.{entries_ascend, entry_small, one_stop, vertex_some}, Strength.strong_same}
use Rattle.staat_plan.specs.RingSearches.{IsBest, IsLater, IsNoLater, IsServing, pair_key}
use Rattle.staat_plan.specs.declared.ring_step.Serving.{Serving}
use Rattle.staat_plan.proofs.RingPairs.{order_less}

-- of ascending entries the first beyond i comes before any other beyond i
pub first_least : (i : ℕ) (es : List Entry) (x e : Entry) → IsStrictlySortedBy nat_cmp (map (λ e. e.plane) es) → IsFirst (λ x. i < x.plane) es x → Contains es e → i < e.plane → pair_key x ≤ pair_key e
first_least i [] x e s h c lt = absurd h
first_least i (y ∷ es) x e s (inl h) c lt = ⊎_elim {C = pair_key x ≤ pair_key e}
    (λ q. subst (λ z. pair_key x ≤ pair_key z) (sym q) (let k = ap pair_key h.0 in omega (arith, k)))
    (λ later.
    let lt = head_less y.plane (map (λ e. e.plane) es) e.plane s (Contains-map (λ e. e.plane) es e later) in
    subst (λ z. pair_key z ≤ pair_key e) (sym h.0) (le_from_not_lt (pair_key y) (pair_key e)
    (λ less. order_less y.plane e.plane y.turned e.turned lt (omega (arith, less)))))
    (Contains-cases y es e c)
first_least i (y ∷ es) x e s (inr h) c lt = ⊎_elim {C = pair_key x ≤ pair_key e}
    (λ q. absurd (h.0 (subst (λ z. i < z.plane) q lt)))
    (λ later. first_least i es x e (tail_sorted y.plane (map (λ e. e.plane) es) s) h.1 later lt)
    (Contains-cases y es e c)

-- one stop more: what is found is right, no later than what was found before, and no later than what serves there
module _ {parts : List Part} {planes : List V3} {w : PartSet} {i : ℕ} {stops : List RingStop} {m : ℕ}
    {best : Option Serving} {s : RingStop} (is : IsBest parts planes w i stops m best) (at : slice_get stops m ≡ Some s)
  where
    pub one_more : (result : Option Serving)
        → ((f : Serving) → result ≡ Some f → (t : RingStop) × Contains stops t × IsServing parts planes w i t f)
        → ((h : Serving) → best ≡ Some h → IsNoLater result h.entry)
        → (Serves parts w (vertex_of planes i s.entries) → (e : Entry) → Contains s.entries e → i < e.plane
        → IsNoLater result e)
        → IsBest parts planes w i stops (m + 1) result
    one_more result right before here = record {
      right = right;
      least = λ k t e lt kt serves ce later. elim (lt_one_more_cases k m lt) [
        | inl low ↦ (
            let (h, is_h, le) = is.least k t e low kt serves ce later in
            let (f, is_f, less) = before h is_h in
            (f, is_f, omega (arith, le, less)))
        | inr same ↦ (
            let q : t ≡ s = same_Some t s (sym kt ∙ (ap (slice_get stops) same ∙ at)) in
            here (subst (λ (x : RingStop). Serves parts w (vertex_of planes i x.entries)) q serves) e
            (subst (λ (x : RingStop). Contains x.entries e) q ce) later)
      ];
    }

    -- what was found before is kept
    pub kept : (Serves parts w (vertex_of planes i s.entries) → (e : Entry) → Contains s.entries e → i < e.plane
        → IsNoLater best e)
        → IsBest parts planes w i stops (m + 1) best
    kept here = one_more best is.right (λ h e. (h, e, omega arith)) here

-- ---- at a vertex whose graph is known

module _ (parts : List Part) (planes : List V3) (w : PartSet) (i : ℕ) (s : RingStop) (rows : List ℕ) (moves : vertex_of planes i s.entries ≢ origin) (shows : ShowsBlocking parts (vertex_of planes i s.entries) w rows) where
  rows_strong : IsStrong (HasArc rows) w ↔ IsStrong (Blocks parts (vertex_of planes i s.entries)) w
  rows_strong = strong_same (HasArc rows) (Blocks parts (vertex_of planes i s.entries)) w shows

  pub strong_serves_not : IsStrong (Blocks parts (vertex_of planes i s.entries)) w → Serves parts w (vertex_of planes i s.entries) → ⊥
  strong_serves_not strong serves = weak_of_serves parts (vertex_of planes i s.entries) w rows moves shows serves (rows_strong.1 strong)

  pub right_is : (f : Serving) → (IsStrong (Blocks parts (vertex_of planes i s.entries)) w → ⊥) → IsFirst (λ x. i < x.plane) s.entries f.entry → IsFirstSink (HasArc rows) w f.moved → IsServing parts planes w i s f
  right_is f weak first sink =
      let h = IsFirst-in (λ x. i < x.plane) s.entries f.entry first in
      record {
        listed = h.0;
        later = h.1;
        serves = serves_of_weak parts (vertex_of planes i s.entries) w rows moves shows (λ strong. weak (rows_strong.0 strong));
        moved = moved_of_first parts (vertex_of planes i s.entries) w rows moves shows f.moved sink;
      }

-- ---- where the walk stands

-- the walk's vertex is that of the stop s of the circle i
pub record StandsAt (planes : List V3) (rings : List Ring) (w : Walked) (i : ℕ) (s : RingStop) : Type 0 where
  pub vertex : w.vertex ≡ vertex_of planes i s.entries
  pub moves : vertex_of planes i s.entries ≢ origin
  pub ascend : IsStrictlySortedBy nat_cmp (map (λ e. e.plane) s.entries)
  pub at : IsStopAt rings w.circle w.place s

module _ {planes : List V3} {rings : List Ring} {out : List ℕ} {w : Walked} {i : ℕ} (table : AreTablePlanes planes)
    (are : AreRings planes rings out) (circle : w.circle ≡ i)
    (entered : IsEntered planes rings w) where
  abbrev stop_at : IsStopAt rings i w.place entered.stop
  stop_at = subst (λ c. IsStopAt rings c w.place entered.stop) circle entered.at

  pub entry_placed : (f : Serving) → IsFirst (λ x. i < x.plane) entered.stop.entries f.entry
      → IsLater i (length planes) f
  entry_placed f first =
      let h = IsFirst-in (λ x. i < x.plane) entered.stop.entries f.entry first in
      record { later = h.1; small = entry_small planes rings out table are i w.place entered.stop stop_at f.entry h.0 }

  pub stands_at : (s : RingStop) → IsStopAt rings i w.place s → StandsAt planes rings w i s
  stands_at s at =
      let same = one_stop rings i w.place s entered.stop are.ascending at stop_at in record {
        vertex = entered.vertex ∙ (λ t. vertex_of planes (circle t) (sym same t).entries);
        moves = vertex_some planes rings out table are i w.place s at;
        ascend = entries_ascend planes rings out table are i w.place s at;
        at = subst (λ c. IsStopAt rings c w.place s) (sym circle) at;
      }
