-- Without a plane that is no axis, rings are the rings of the other linked planes.
use Rattle.std.proofs.Common.{◌≡◌, ◌≢◌, ◌⊎◌, inl, inr, ⊎_elim, ℕ, zero, suc, ◌+◌, ◌%◌, true, false, not, arith, ap, sym, subst, ◌∙◌, refl, List, ◌∷◌, length, All, Contains, pos, ◌*ℤ◌, ◌<ℤ◌, ◌<◌, ◌≤◌, [], cond, ◌++◌, get_or, length-append}
use Rattle.std.specs.Prelude.{◌==◌, Some, map, slice_get}
use Rattle.std.specs.List.{filter}
use Rattle.std.proofs.lemmas.Int.{ints}
use Rattle.std.proofs.lemmas.List.{length-map, get_or_append_left}
use Rattle.std.proofs.lemmas.List.Elements.{All-contains, Contains-append_left, Contains-push}
use Rattle.std.proofs.lemmas.Option.{same_Some, slice_get_within, slice_get-get_or}
use Rattle.staat_vec.specs.declared.vector.V3.{V3}
use Rattle.staat_vec.specs.Primitives.{primitive}
use Rattle.staat_vec.specs.Vectors.{cross, dot, negative, origin}
use Rattle.staat_vec.proofs.Primitives.{IsPrimitive-negative, IsPrimitive-some, primitive-is}
use Rattle.staat_model.specs.Circles.{IsLinked, IsNext, IsOnCircle, PassesThrough, Stop, IsAfter, axis_beside}
use Rattle.staat_ring.specs.Rings.{IsRingOf, Ring, RingStop, stop_of, vertex_of, linked_of, AreRings}
use Rattle.staat_ring.proofs.Stops.{AreLinkedApart, none_parallel}
use Rattle.staat_ring.proofs.CircleFromHalf.{crossing_turned}
use Rattle.staat_ring.proofs.CircleStops as circle
use Rattle.staat_ring.proofs.Steps.{turn, turnE, turn_same, Around, around_filter, whole, turn_is_side, on_plane, IsPoint, nothing_kept, still_after, NextBy}
use Rattle.staat_ring.specs.Without.{stays, other_than, ring_without, stop_without, rings_without}
use Rattle.staat_ring.proofs.WithoutLemmas.{filter_from, filter_in, leaves_by, stays_by, stays_has, Different, agree_without, different_filter, vertex_stays}
use Rattle.staat_vec.proofs.Truth.{false_true_clash}
use Rattle.staat_vec.proofs.Integers.{positive_not_zero, mul-zero_ℤ, other_factor_zero, zero_or}
use Rattle.staat_vec.proofs.Naturals.{apart_from_test, eq_test_false, zero_not_suc, suc_same, same_or}
use Rattle.staat_vec.proofs.Unique.{from_place, Contains-front}
use Rattle.staat_vec.proofs.ListLaws.{Contains-map, Contains-from_map, map_twice, place_in_map, map_at_place, place_of}
use Rattle.std.specs.Ordering.{nat_cmp}
use Rattle.std.proofs.lemmas.List.Kept.{IsStrictlySortedBy-filter}
use Rattle.staat_vec.specs.Lists.{Lists, ListsOnce}
use Rattle.staat_model.proofs.Members.{All-from_members}
use Rattle.staat_ring.proofs.RingLemmas.{map_filter, map_same}
use Rattle.staat_ring.proofs.HalfTurn.{axis_differs, some_normal, unit}
use Rattle.staat_vec.proofs.Ring.{num, ring}
use Rattle.staat_vec.proofs.VecRing.{negativeE, same_vector, v0, v1, values}
use Rattle.staat_model.specs.Planes.{axes}
use Rattle.staat_pairs.specs.Tables.{AreTablePlanes}

-- the linked planes but p
abbrev pub planes_without : ℕ → List ℕ → List ℕ
planes_without p linked = filter (λ k. not (k == p)) linked

-- of two vectors on one line neither is turned from the other
line_turn : (g q x y : V3) → (x ≡ q) ⊎ (x ≡ negative q) → (y ≡ q) ⊎ (y ≡ negative q) → turn g x y ≡ pos 0
line_turn g q x y (inl a) (inl b) = (λ i. turn g (a i) (b i)) ∙ turn_same g q
line_turn g q x y (inl a) (inr b) = (λ i. turn g (a i) (b i)) ∙ ring (values (g ∷ q ∷ []) []) (turnE v0 v1 (negativeE v1)) (num (pos 0)) tt
line_turn g q x y (inr a) (inl b) = (λ i. turn g (a i) (b i)) ∙ ring (values (g ∷ q ∷ []) []) (turnE v0 (negativeE v1) v1) (num (pos 0)) tt
line_turn g q x y (inr a) (inr b) = (λ i. turn g (a i) (b i)) ∙ turn_same g (negative q)

-- ---- each once

abbrev Once : {X : Type 0} → List X → Type 0
Once {X = X} xs = (k m : ℕ) (x : X) → slice_get xs k ≡ Some x → slice_get xs m ≡ Some x → k ≡ m

different_of_once : {X : Type 0} (f : X → V3) (xs : List X) → Once (map f xs) → Different f xs
different_of_once f [] h = tt
different_of_once f (x ∷ xs) h = (
  (λ y c e.
      let (k, at) = place_of xs y c in
      zero_not_suc k (h zero (suc k) (f x) refl (map_at_place f xs k y at ∙ ap (λ z. Some z) (sym e)))),
  different_of_once f xs (λ k m y p q. suc_same k m (h (suc k) (suc m) y p q)),
)

once_of_different : {X : Type 0} (f : X → V3) (xs : List X) → Different f xs → Once (map f xs)
once_of_different f [] h k m y p q = absurd (let lt = slice_get_within [] k y p in omega (arith, lt))
once_of_different f (x ∷ xs) h zero zero y p q = refl
once_of_different f (x ∷ xs) h zero (suc m) y p q = let (z, at, e) = place_in_map f xs m y q in absurd (h.0 z (from_place xs m z at) (same_Some (f x) y p ∙ sym e))
once_of_different f (x ∷ xs) h (suc k) zero y p q = let (z, at, e) = place_in_map f xs k y p in absurd (h.0 z (from_place xs k z at) (same_Some (f x) y q ∙ sym e))
once_of_different f (x ∷ xs) h (suc k) (suc m) y p q = ap suc (once_of_different f xs h.1 k m y p q)

-- ---- entries and planes

beside_small : (c : ℕ) → axis_beside c < 3
beside_small zero = omega arith
beside_small (suc c) = omega arith

-- ---- one ring

module _ (planes : List V3) (linked : List ℕ) (r : Ring) (p : ℕ) (apart : AreLinkedApart planes linked) (is : IsRingOf planes linked r)
    (axis : (v : V3) → v ≢ origin → dot is.circle.g v ≡ pos 0 → (a : ℕ) × (h : V3) × IsLinked planes linked a h × (a ≢ p) × (a ≢ r.plane) × (dot h v ≢ pos 0)) where
  abbrev g : V3
  g = is.circle.g

  abbrev c : ℕ
  c = r.plane

  abbrev vertex : RingStop → V3
  vertex s = vertex_of planes c s.entries

  abbrev Whole : V3 → Type 0
  Whole = IsOnCircle planes linked c g

  abbrev Kept : V3 → Type 0
  Kept = IsOnCircle planes (planes_without p linked) c g

  link_of : (j : ℕ) (h : V3) → IsLinked planes (planes_without p linked) j h → IsLinked planes linked j h × (j ≢ p)
  link_of j h l = let f = filter_from (λ k. not (k == p)) linked j l.listed in (record { listed = f.0; is = l.is }, apart_from_test j p f.1)

  link_back : (j : ℕ) (h : V3) → IsLinked planes linked j h → j ≢ p → IsLinked planes (planes_without p linked) j h
  link_back j h l ne = record { listed = filter_in (λ k. not (k == p)) linked j l.listed (ap not (eq_test_false j p ne)); is = l.is }

  abbrev kept_whole : (x : V3) → Kept x → Whole x
  kept_whole x k = record { other = k.other; h = k.h; other_is = (link_of k.other k.h k.other_is).0; different = k.different; is = k.is }

  point : (x : V3) → Whole x → IsPoint g x
  point x w = record {
    on = on_plane planes linked c g x apart is.circle.g_is w;
    primitive = (let u = (primitive-is (cross g w.h) (circle.flat planes linked r apart is x w)).primitive in
        ⊎_elim {C = Rattle.staat_vec.specs.Primitives.IsPrimitive x} (λ e. subst Rattle.staat_vec.specs.Primitives.IsPrimitive (sym e) u) (λ e. subst Rattle.staat_vec.specs.Primitives.IsPrimitive (sym e) (IsPrimitive-negative (primitive (cross g w.h)) u)) w.is);
  }

  -- some vertex that stays is not on the ray of v
  another : (v : V3) → Kept v → (k : V3) × Kept k × (turn g v k ≢ pos 0)
  another v kv =
      let pt = point v (kept_whole v kv) in
      let (a, h, ha, np, nc, some) = axis v (IsPrimitive-some v pt.primitive) pt.on in
      let u : V3 = cross g h in
      let f = apart.apart c a g h is.circle.g_is ha (λ q. nc (sym q)) in (
        primitive u,
        record { other = a; h = h; other_is = link_back a h ha np; different = nc; is = inl refl },
        λ z. positive_not_zero (dot g g) (some_normal g h f) (other_factor_zero (dot h v) (dot g g) some (sym (turn_is_side g h v pt.on) ∙ (whole g v u f ∙ (ap (λ t. pos (Rattle.staat_vec.specs.Primitives.content u) *ℤ t) z ∙ mul-zero_ℤ (pos (Rattle.staat_vec.specs.Primitives.content u)))))),
      )

  -- ---- stops and vertices

  abbrev stops : List Stop
  stops = map (stop_of planes c) r.stops

  pass : (s : RingStop) → Contains r.stops s → Lists nat_cmp (PassesThrough planes linked c (vertex s)) (map (λ e. e.plane) s.entries)
  pass s cs = circle.pass planes linked r apart is s cs

  whole_at : (s : RingStop) → Contains r.stops s → Whole (vertex s)
  whole_at s cs = circle.on_circle planes linked r apart is s cs

  kept_of_stays : (s : RingStop) → Contains r.stops s → stays p s ≡ true → Kept (vertex s)
  kept_of_stays s cs h =
      let (e, fe, ce, ne) = stays_has p s h in
      let q = (pass s cs).each e.plane (Contains-map (λ e. e.plane) s.entries e ce) in
      record { other = e.plane; h = q.h; other_is = link_back e.plane q.h q.linked_is ne; different = q.different; is = subst (λ v. (v ≡ primitive (cross g q.h)) ⊎ (v ≡ negative (primitive (cross g q.h)))) (circle.entry_vertex planes linked r apart is s e cs ce) (circle.crossing_on planes linked r apart is e q.h q.linked_is q.different).is }

  stays_of_kept : (s : RingStop) → Contains r.stops s → Kept (vertex s) → stays p s ≡ true
  stays_of_kept s cs k =
      let l = link_of k.other k.h k.other_is in
      let on = circle.on_other planes linked r apart is (vertex s) (kept_whole (vertex s) k) in
      let c' = (pass s cs).all k.other (record { h = k.h; linked_is = l.0; different = k.different; on = on }) in
      let (e, ce, ee) = Contains-from_map (λ e. e.plane) s.entries k.other c' in
      stays_by p s e ce (λ q. l.1 (sym ee ∙ q))

  left_is_not : (s : RingStop) → Contains r.stops s → stays p s ≡ false → Kept (vertex s) → ⊥
  left_is_not s cs h k = false_true_clash (stays p s) h (stays_of_kept s cs k)

  -- ---- two stops that leave are on one line

  on_line : (s : RingStop) → Contains r.stops s → stays p s ≡ false → (h : V3) × ((vertex s ≡ primitive (cross g h)) ⊎ (vertex s ≡ negative (primitive (cross g h)))) × (slice_get planes p ≡ Some h)
  on_line s cs h =
      let w = whole_at s cs in
      let z = circle.on_other planes linked r apart is (vertex s) w in
      let c' = (pass s cs).all w.other (record { h = w.h; linked_is = w.other_is; different = w.different; on = z }) in
      let (e, ce, ee) = Contains-from_map (λ e. e.plane) s.entries w.other c' in
      let same : w.other ≡ p = sym ee ∙ leaves_by p s h e ce in
      (w.h, w.is, subst (λ j. slice_get planes j ≡ Some w.h) same w.other_is.is)

  -- ---- the order

  abbrev R : RingStop → RingStop → Type 0
  R s t = Contains r.stops s × Contains r.stops t × NextBy Whole g (vertex s) (vertex t)

  abbrev S : RingStop → RingStop → Type 0
  S s t = NextBy Kept g (vertex s) (vertex t)

  gg : pos 0 <ℤ dot g g
  gg = some_normal g is.circle.axis (apart.apart c (axis_beside c) g is.circle.axis is.circle.g_is is.circle.axis_is (λ q. axis_differs c (sym q)))

  both_stay : (a b : RingStop) → stays p a ≡ true → stays p b ≡ true → R a b → S a b
  both_stay a b ka kb h = record { after = h.2.after; none = λ x kx. h.2.none x (kept_whole x kx) }

  one_leaves : (a u b : RingStop) → stays p a ≡ true → stays p u ≡ false → stays p b ≡ true → R a u → R u b → S a b
  one_leaves a u b ka ku kb x y =
      let kv = kept_of_stays a x.0 ka in
      let kw = kept_of_stays b y.1 kb in
      let (k, kk, other) = another (vertex a) kv in
      record {
        after = still_after g gg Whole Kept point (crossing_turned planes linked c g) (crossing_turned planes (planes_without p linked) c g) kept_whole (vertex a) (vertex u) (vertex b) k kv (whole_at u x.1) (left_is_not u x.1 ku) kw kk other x.2.after y.2.after x.2.none y.2.none;
        none = nothing_kept g gg Whole Kept point (crossing_turned planes linked c g) (crossing_turned planes (planes_without p linked) c g) kept_whole (vertex a) (vertex u) (vertex b) k kv (whole_at u x.1) (left_is_not u x.1 ku) kw kk other x.2.after y.2.after x.2.none y.2.none;
      }

  not_two : (u x : RingStop) → stays p u ≡ false → stays p x ≡ false → R u x → ⊥
  not_two u x ku kx h =
      let (a, wa, pa) = on_line u h.0 ku in
      let (b, wb, pb) = on_line x h.1 kx in
      let e : b ≡ a = same_Some b a (sym pb ∙ pa) in
      let z = line_turn g (primitive (cross g a)) (vertex u) (vertex x) wa
      (subst (λ y. (vertex x ≡ primitive (cross g y)) ⊎ (vertex x ≡ negative (primitive (cross g y)))) e wb) in
      positive_not_zero (turn g (vertex u) (vertex x)) h.2.after z

  around : Around R r.stops
  around k s t ks kt =
      let n = circle.next planes linked r apart is s t k ks kt in (
        from_place r.stops k s ks,
        from_place r.stops ((k + 1) % length r.stops) t kt,
        record {
          after = n.after;
          none = λ x wx a b.
              let (q, cq, eq) = Contains-from_map (λ s. s.vertex) stops x (is.circle.vertices.all x wx) in
              All-contains (λ y. IsAfter g (vertex s) y.vertex → IsAfter g y.vertex (vertex t) → ⊥) stops q n.nothing_between cq
              (subst (λ y. pos 0 <ℤ turn g (vertex s) y) (sym eq) a) (subst (λ y. pos 0 <ℤ turn g y (vertex t)) (sym eq) b);
        },
      )

  -- among the stops that stay, each is the next after the one before
  around_without : (first : RingStop) (rest : List RingStop) → r.stops ≡ first ∷ rest → stays p first ≡ true → Around S (first ∷ filter (stays p) rest)
  around_without first rest e kept = around_filter R S (stays p) both_stay one_leaves not_two first rest kept (subst (Around R) e around)

  -- ---- the ring without the plane

  module _ (no_axis : 3 ≤ p) (other : r.plane ≢ p) where
    abbrev kept : List RingStop
    kept = filter (stays p) r.stops

    abbrev left : List Stop
    left = map (stop_of planes c) (ring_without p r).stops

    -- their vertices are as before
    vertices_are : map (λ s. s.vertex) left ≡ map vertex kept
    vertices_are =
        map_twice (λ s. s.vertex) (stop_of planes c) (map (stop_without p) kept)
        ∙ (map_twice vertex (stop_without p) kept
        ∙ map_same (λ s. vertex (stop_without p s)) vertex kept (λ s cs. let f = filter_from (stays p) r.stops s cs in vertex_stays planes linked r p apart is s f.0 f.1))

    original : Once (map vertex r.stops)
    original = subst Once (map_twice (λ s. s.vertex) (stop_of planes c) r.stops) is.circle.vertices.once

    vertices_list : ListsOnce Kept (map vertex kept)
    vertices_list = record {
      each = λ v cv. let (s, cs, e) = Contains-from_map vertex kept v cv in let f = filter_from (stays p) r.stops s cs in subst Kept e (kept_of_stays s f.0 f.1);
      all = λ v k.
          let l = link_of k.other k.h k.other_is in
          let w : IsOnCircle planes linked c g v = record { other = k.other; h = k.h; other_is = l.0; different = k.different; is = k.is } in
          let (S, cS, eS) = Contains-from_map (λ s. s.vertex) (map (stop_of planes c) r.stops) v (is.circle.vertices.all v w) in
          let (s, cs, es) = Contains-from_map (stop_of planes c) r.stops S cS in
          let e : vertex s ≡ v = ap (λ x. x.vertex) es ∙ eS in
          subst (Contains (map vertex kept)) e (Contains-map vertex kept s (filter_in (stays p) r.stops s cs (stays_of_kept s cs (subst Kept (sym e) k))));
      once = once_of_different vertex kept (different_filter vertex (stays p) r.stops (different_of_once vertex r.stops original));
    }

    -- the first stop
    first_stop : (s : RingStop) × (rest : List RingStop) × (r.stops ≡ s ∷ rest)
    first_stop = go r.stops refl (slice_get_within (map (stop_of planes c) r.stops) 0 is.circle.first is.circle.first_is)
      where
        go : (xs : List RingStop) → r.stops ≡ xs → 0 < length (map (stop_of planes c) r.stops) → (s : RingStop) × (rest : List RingStop) × (r.stops ≡ s ∷ rest)
        go [] e lt = absurd (let l = length-map r.stops (stop_of planes c) in let z = ap length e in omega (arith, lt, l, z))
        go (s ∷ rest) e lt = (s, rest, e)

    abbrev head : RingStop
    head = first_stop.0

    head_in : Contains r.stops head
    head_in = subst (λ xs. Contains xs head) (sym first_stop.2) (Contains-front head first_stop.1)

    head_vertex : vertex head ≡ primitive (cross g is.circle.axis)
    head_vertex = ap (λ s. s.vertex) (same_Some (stop_of planes c head) is.circle.first (sym (subst (λ xs. slice_get (map (stop_of planes c) xs) 0 ≡ Some (stop_of planes c head)) (sym first_stop.2) refl) ∙ is.circle.first_is)) ∙ is.circle.start

    axis_stays : IsLinked planes (planes_without p linked) (axis_beside c) is.circle.axis
    axis_stays = link_back (axis_beside c) is.circle.axis is.circle.axis_is (λ e. absurd (let b = beside_small c in omega (arith, b, e, no_axis)))

    head_stays : stays p head ≡ true
    head_stays = stays_of_kept head head_in (record { other = axis_beside c; h = is.circle.axis; other_is = axis_stays; different = axis_differs c; is = inl head_vertex })

    kept_is : kept ≡ head ∷ filter (stays p) first_stop.1
    kept_is = ap (filter (stays p)) first_stop.2 ∙ ap (λ b. cond b (head ∷ filter (stays p) first_stop.1) (filter (stays p) first_stop.1)) head_stays

    -- the turning order
    next_kept : (k : ℕ) (s t : RingStop) → slice_get kept k ≡ Some s → slice_get kept ((k + 1) % length kept) ≡ Some t → NextBy Kept g (vertex s) (vertex t)
    next_kept = subst (λ xs. (k : ℕ) (s t : RingStop) → slice_get xs k ≡ Some s → slice_get xs ((k + 1) % length xs) ≡ Some t → NextBy Kept g (vertex s) (vertex t)) (sym kept_is)
        (around_without head first_stop.1 first_stop.2 head_stays)

    left_is : left ≡ map (λ s. stop_of planes c (stop_without p s)) kept
    left_is = map_twice (stop_of planes c) (stop_without p) kept

    turns_left : (k : ℕ) (s t : Stop) → slice_get left k ≡ Some s → slice_get left ((k + 1) % length left) ≡ Some t → IsNext g left s.vertex t.vertex
    turns_left k s t ks kt =
        let size : length left ≡ length kept = ap length left_is ∙ length-map kept (λ s. stop_of planes c (stop_without p s)) in
        let (a, ka, ea) = place_in_map (λ s. stop_of planes c (stop_without p s)) kept k s (subst (λ xs. slice_get xs k ≡ Some s) left_is ks) in
        let (b, kb, eb) = place_in_map (λ s. stop_of planes c (stop_without p s)) kept ((k + 1) % length left) t (subst (λ xs. slice_get xs ((k + 1) % length left) ≡ Some t) left_is kt) in
        let n = next_kept k a b ka (subst (λ m. slice_get kept ((k + 1) % m) ≡ Some b) size kb) in
        let fa = filter_from (stays p) r.stops a (from_place kept k a ka) in
        let fb = filter_from (stays p) r.stops b (from_place kept ((k + 1) % length left) b kb) in
        let va : vertex a ≡ s.vertex = sym (vertex_stays planes linked r p apart is a fa.0 fa.1) ∙ ap (λ x. x.vertex) ea in
        let vb : vertex b ≡ t.vertex = sym (vertex_stays planes linked r p apart is b fb.0 fb.1) ∙ ap (λ x. x.vertex) eb in
        let m : NextBy Kept g s.vertex t.vertex = subst (λ v. NextBy Kept g v t.vertex) va (subst (λ v. NextBy Kept g (vertex a) v) vb n) in
        record {
          after = m.after;
          nothing_between = All-from_members (λ x. IsAfter g s.vertex x.vertex → IsAfter g x.vertex t.vertex → ⊥) left (λ x cx. m.none x.vertex (vertices_list.each x.vertex (subst (λ vs. Contains vs x.vertex) vertices_are (Contains-map (λ s. s.vertex) left x cx))));
        }

    -- the planes through a stop
    through_left : All (λ s. Lists nat_cmp (PassesThrough planes (planes_without p linked) c s.vertex) s.through) left
    through_left = All-from_members (λ s. Lists nat_cmp (PassesThrough planes (planes_without p linked) c s.vertex) s.through) left (λ x cx.
        let (s, cs, es) = Contains-from_map (λ s. stop_of planes c (stop_without p s)) kept x (subst (λ xs. Contains xs x) left_is cx) in
        let f = filter_from (stays p) r.stops s cs in
        let v = vertex_stays planes linked r p apart is s f.0 f.1 in
        let q = pass s f.0 in
        subst (λ (y : Stop). Lists nat_cmp (PassesThrough planes (planes_without p linked) c y.vertex) y.through) es
        (subst (λ u. Lists nat_cmp (PassesThrough planes (planes_without p linked) c u) (map (λ e. e.plane) (filter (other_than p) s.entries))) (sym v)
        (subst (Lists nat_cmp (PassesThrough planes (planes_without p linked) c (vertex s))) (map_filter (λ e. e.plane) (λ k. not (k == p)) s.entries) (record {
          ascending = IsStrictlySortedBy-filter nat_cmp (λ k. not (k == p)) (map (λ e. e.plane) s.entries) q.ascending;
          each = λ k ck.
              let w = filter_from (λ k. not (k == p)) (map (λ e. e.plane) s.entries) k ck in
              let e = q.each k w.0 in
              record { h = e.h; linked_is = record { listed = filter_in (λ k. not (k == p)) linked k e.linked_is.listed w.1; is = e.linked_is.is }; different = e.different; on = e.on };
          all = λ k h.
              let w = filter_from (λ k. not (k == p)) linked k h.linked_is.listed in
              filter_in (λ k. not (k == p)) (map (λ e. e.plane) s.entries) k (q.all k (record { h = h.h; linked_is = record { listed = w.0; is = h.linked_is.is }; different = h.different; on = h.on })) w.1;
        }))))

    pub ring_stays : IsRingOf planes (planes_without p linked) (ring_without p r)
    ring_stays = record {
      circle = record {
        g = g;
        g_is = link_back c g is.circle.g_is other;
        vertices = subst (ListsOnce Kept) (sym vertices_are) vertices_list;
        axis = is.circle.axis;
        axis_is = axis_stays;
        first = stop_of planes c (stop_without p head);
        first_is = subst (λ xs. slice_get (map (stop_of planes c) (map (stop_without p) xs)) 0 ≡ Some (stop_of planes c (stop_without p head))) (sym kept_is) refl;
        start = vertex_stays planes linked r p apart is head head_in head_stays ∙ head_vertex;
        turns = turns_left;
        through = through_left;
      };
      agree = agree_without planes linked r p apart is;
    }

-- ---- all rings

module _ (planes : List V3) (table : AreTablePlanes planes) (linked : List ℕ) (all : (a : ℕ) → a < 3 → Contains linked a) (p : ℕ) (no_axis : 3 ≤ p) (c : ℕ) (g : V3) (g_is : IsLinked planes linked c g) where
  axis_at : (a : ℕ) → a < 3 → slice_get planes a ≡ Some (get_or axes a origin)
  axis_at a lt = slice_get-get_or planes a origin (let e = ap length table.is in let l = length-append axes table.others in omega (arith, e, l, lt)) ∙ ap (λ x. Some x) (ap (λ ps. get_or ps a origin) table.is ∙ get_or_append_left axes table.others origin a lt)

  by_axis : (a : ℕ) (lt : a < 3) (v : V3) → dot g v ≡ pos 0 → dot (get_or axes a origin) v ≢ pos 0 → (a : ℕ) × (h : V3) × IsLinked planes linked a h × (a ≢ p) × (a ≢ c) × (dot h v ≢ pos 0)
  by_axis a lt v on ne = (
    a,
    get_or axes a origin,
    record { listed = all a lt; is = axis_at a lt },
    (λ e. absurd (omega (arith, e, lt, no_axis))),
    (λ e. ne (ap (λ h. dot h v) (same_Some (get_or axes a origin) g (sym (axis_at a lt) ∙ (ap (slice_get planes) e ∙ g_is.is))) ∙ on)),
    ne,
  )

  -- an axis that is linked, stays, and does not pass through v
  pub off_axis : (v : V3) → v ≢ origin → dot g v ≡ pos 0 → (a : ℕ) × (h : V3) × IsLinked planes linked a h × (a ≢ p) × (a ≢ c) × (dot h v ≢ pos 0)
  off_axis v some on = by (zero_or (dot (unit 0) v)) (zero_or (dot (unit 1) v)) (zero_or (dot (unit 2) v))
    where
      by : (dot (unit 0) v ≡ pos 0) ⊎ (dot (unit 0) v ≢ pos 0) → (dot (unit 1) v ≡ pos 0) ⊎ (dot (unit 1) v ≢ pos 0) → (dot (unit 2) v ≡ pos 0) ⊎ (dot (unit 2) v ≢ pos 0) → (a : ℕ) × (h : V3) × IsLinked planes linked a h × (a ≢ p) × (a ≢ c) × (dot h v ≢ pos 0)
      by (inr nx) y z = by_axis 0 (omega arith) v on nx
      by (inl ex) (inr ny) z = by_axis 1 (omega arith) v on ny
      by (inl ex) (inl ey) (inr nz) = by_axis 2 (omega arith) v on nz
      by (inl ex) (inl ey) (inl ez) = absurd (some (same_vector v origin (omega (arith, ints, ex)) (omega (arith, ints, ey)) (omega (arith, ints, ez))))

pub linked_without : (p : ℕ) (rings : List Ring) → linked_of (rings_without p rings) ≡ planes_without p (linked_of rings)
linked_without p rings = map_twice (λ r. r.plane) (ring_without p) (filter (λ r. not (r.plane == p)) rings) ∙ sym (map_filter (λ r. r.plane) (λ k. not (k == p)) rings)

-- the law: what unlinking leaves are the rings of the planes that are left
pub rings_stay : (planes : List V3) (rings : List Ring) (out : List ℕ) (p : ℕ) → AreTablePlanes planes → AreRings planes rings out → 3 ≤ p → AreRings planes (rings_without p rings) (out ++ p ∷ [])
rings_stay planes rings out p table are no_axis = record {
  each = All-from_members (IsRingOf planes (linked_of (rings_without p rings))) (rings_without p rings) (λ q cq.
      let (r, cr, e) = Contains-from_map (ring_without p) (filter (λ r. not (r.plane == p)) rings) q cq in
      let f = filter_from (λ r. not (r.plane == p)) rings r cr in
      let is : IsRingOf planes (linked_of rings) r = All-contains (IsRingOf planes (linked_of rings)) rings r are.each f.0 in
      subst (IsRingOf planes (linked_of (rings_without p rings))) e
      (subst (λ ks. IsRingOf planes ks (ring_without p r)) (sym (linked_without p rings))
      (ring_stays planes (linked_of rings) r p (none_parallel planes (linked_of rings) table) is
      (off_axis planes table (linked_of rings) are.axes p no_axis r.plane is.circle.g is.circle.g_is)
      no_axis (apart_from_test r.plane p f.1))));
  ascending = subst (Rattle.std.specs.List.Sorted.IsStrictlySortedBy nat_cmp) (sym (linked_without p rings)) (IsStrictlySortedBy-filter nat_cmp (λ k. not (k == p)) (linked_of rings) are.ascending);
  axes = λ a lt. still a (λ e. absurd (omega (arith, e, lt, no_axis))) (are.axes a lt);
  all = λ k lt. ⊎_elim {C = Contains (linked_of (rings_without p rings)) k ⊎ Contains (out ++ p ∷ []) k}
      (λ linked. ⊎_elim {C = Contains (linked_of (rings_without p rings)) k ⊎ Contains (out ++ p ∷ []) k}
      (λ e. inr (subst (Contains (out ++ p ∷ [])) (sym e) (Contains-push out p)))
      (λ ne. inl (still k ne linked)) (same_or k p))
      (λ gone. inr (Contains-append_left out (p ∷ []) k gone)) (are.all k lt);
}
  where
    still : (k : ℕ) → k ≢ p → Contains (linked_of rings) k → Contains (linked_of (rings_without p rings)) k
    still k ne c = subst (λ ks. Contains ks k) (sym (linked_without p rings)) (filter_in (λ k. not (k == p)) (linked_of rings) k c (ap not (eq_test_false k p ne)))
