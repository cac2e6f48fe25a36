-- Stops of the circle of a plane among linked planes of a table, and the signs of planes from one to the next.
use Rattle.std.proofs.Common.{◌≡◌, ◌≢◌, ⊎_elim, ℕ, ◌<◌, ◌≤◌, arith, ap, sym, ◌∙◌, List, length, All, Contains, pos, ◌+◌, ◌%◌, Bool, true, false, subst, refl, ◌<ℤ◌, ◌⊎◌, inl, inr, ℤ, neg_ℤ, zero, suc, negsuc}
use Rattle.std.specs.Prelude.{map, Some, slice_get}
use Rattle.std.specs.Ordering.{nat_cmp}
use Rattle.std.specs.List.Sorted.{IsStrictlySortedBy}
use Rattle.std.proofs.lemmas.Int.{ints}
use Rattle.std.proofs.lemmas.List.{length-map}
use Rattle.std.proofs.lemmas.List.Elements.{All-contains}
use Rattle.std.proofs.lemmas.Map.Views.{length-le_from_below}
use Rattle.std.proofs.lemmas.Option.{slice_get_within, get_or_from_slice_get, same_Some}
use Rattle.staat_vec.specs.declared.vector.V3.{V3}
use Rattle.staat_vec.specs.Lists.{Lists}
use Rattle.staat_vec.specs.Primitives.{primitive}
use Rattle.staat_vec.specs.Vectors.{cross, dot, negative, origin, sign}
use Rattle.staat_vec.proofs.Canons.{negative-negative}
use Rattle.staat_vec.proofs.Primitives.{IsPrimitive-some, primitive-is}
use Rattle.staat_vec.proofs.Unique.{from_place}
use Rattle.staat_model.specs.Circles.{IsOnCircle, PassesThrough, Stop, IsLinked, IsNext, IsAfter}
use Rattle.staat_model.specs.Planes.{vertices}
use Rattle.staat_model.proofs.Members.{All-from_members}
use Rattle.staat_model.proofs.VertexLemmas.{in_vertices}
use Rattle.staat_ring.specs.declared.entry.Entry.{Entry}
use Rattle.staat_ring.specs.Rings.{IsRingOf, NameVertex, Ring, RingStop, crossing, facet_by, stop_of, vertex_of}
use Rattle.staat_ring.proofs.Stops.{AreLinkedApart, stop_there}
use Rattle.staat_ring.proofs.Steps.{primitive_on, negative_on, on_plane, side_is, turn, turn_back, turn_negative_left, turn_negative_right}
use Rattle.staat_vec.proofs.ListLaws.{place_of, Contains-map, Contains-from_map, contains_or}
use Rattle.staat_vec.proofs.VecRing.{dot_cross_right}
use Rattle.staat_vec.specs.declared.vector.Sign.TheVariants.{Zero}
use Rattle.staat_ring.specs.SignChanges.{stop_sign, with_stop_signs}
use Rattle.staat_ring.specs.CountedSigns.{Signed, state_at}
use Rattle.staat_ring.proofs.HalfTurn.{some_normal}
use Rattle.staat_ring.specs.Belonging.{HoldSigns}
use Rattle.staat_planes.specs.PairOrder.{plane_at}
use Rattle.staat_ring.proofs.SignAll.{stop_signs_other, stop_signs_same, stop_signs_there}
use Rattle.staat_vec.proofs.Signs.{negative_sign, positive_sign, zero_sign}
use Rattle.staat_vec.proofs.Naturals.{same_or}

self_negative : (a : ℤ) → a ≡ neg_ℤ a → a ≡ pos 0
self_negative a h = omega (arith, ints)

not_negative : (u : V3) → u ≢ origin → u ≢ negative u
not_negative u some e = some (λ i. record { x = self_negative u.x (ap (λ v. v.x) e) i; y = self_negative u.y (ap (λ v. v.y) e) i; z = self_negative u.z (ap (λ v. v.z) e) i })

one_way : (u : V3) (a b : Bool) → facet_by b u ≢ origin → facet_by a u ≡ facet_by b u → a ≡ b
one_way u true true some e = refl
one_way u true false some e = absurd (not_negative u some (sym e))
one_way u false true some e = absurd (not_negative (negative u) some (sym e ∙ sym (negative-negative u)))
one_way u false false some e = refl

pub record IsEntryAt (planes : List V3) (c : ℕ) (stops : List RingStop) (e : Entry) : Type 0 where
  pub place : ℕ
  pub stop : RingStop
  pub is : slice_get stops place ≡ Some stop
  pub listed : Contains stop.entries e
  pub vertex : vertex_of planes c stop.entries ≡ crossing planes c e

module _ (planes : List V3) (linked : List ℕ) (r : Ring) (apart : AreLinkedApart planes linked) (is : IsRingOf planes linked r) where
  abbrev c : ℕ
  c = r.plane

  abbrev g : V3
  g = is.circle.g

  abbrev stops : List Stop
  stops = map (stop_of planes c) r.stops

  pub circle_small : c < length planes
  circle_small = slice_get_within planes c g is.circle.g_is.is

  -- the vertex of a stop is that of each of its entries
  pub entry_vertex : (s : RingStop) (e : Entry) → Contains r.stops s → Contains s.entries e → crossing planes c e ≡ vertex_of planes c s.entries
  entry_vertex s e cs ce = All-contains (λ e. crossing planes c e ≡ vertex_of planes c s.entries) s.entries e (All-contains (NameVertex planes c) r.stops s is.agree cs) ce

  -- a crossing with another plane
  module _ (u : V3) (x : IsOnCircle planes linked c g u) where
    pub flat : cross g x.h ≢ origin
    flat = apart.apart c x.other g x.h is.circle.g_is x.other_is (λ q. x.different (sym q))

    pub on_other : dot x.h u ≡ pos 0
    on_other =
        let on = primitive_on x.h (cross g x.h) (dot_cross_right g x.h) flat in
        ⊎_elim {C = dot x.h u ≡ pos 0} (λ e. ap (dot x.h) e ∙ on) (λ e. ap (dot x.h) e ∙ negative_on x.h (primitive (cross g x.h)) on) x.is

    crossing_some : u ≢ origin
    crossing_some z =
        let p = IsPrimitive-some (primitive (cross g x.h)) (primitive-is (cross g x.h) flat).primitive in
        ⊎_elim {C = ⊥} (λ e. p (sym e ∙ z)) (λ e. p (sym (negative-negative (primitive (cross g x.h))) ∙ ap negative (sym e ∙ z))) x.is

  module _ (s : RingStop) (listed : Contains r.stops s) where
    here : Contains stops (stop_of planes c s)
    here = Contains-map (stop_of planes c) r.stops s listed

    abbrev v : V3
    v = vertex_of planes c s.entries

    pub on_circle : IsOnCircle planes linked c g v
    on_circle = is.circle.vertices.each v (Contains-map (λ s. s.vertex) stops (stop_of planes c s) here)

    on_it : dot g v ≡ pos 0
    on_it = on_plane planes linked c g v apart is.circle.g_is on_circle

    pub pass : Lists nat_cmp (PassesThrough planes linked c v) (map (λ e. e.plane) s.entries)
    pass = All-contains (λ s. Lists nat_cmp (PassesThrough planes linked c s.vertex) s.through) stops (stop_of planes c s) is.circle.through here

    pub entries_ascend : IsStrictlySortedBy nat_cmp (map (λ e. e.plane) s.entries)
    entries_ascend = pass.ascending

    small : (k : ℕ) → Contains (map (λ e. e.plane) s.entries) k → k < length planes
    small k ck = let p = pass.each k ck in slice_get_within planes k p.h p.linked_is.is

    pub entry_small : (e : Entry) → Contains s.entries e → e.plane < length planes
    entry_small e ce = small e.plane (Contains-map (λ e. e.plane) s.entries e ce)

    pub entry_other : (e : Entry) → Contains s.entries e → e.plane ≢ c
    entry_other e ce = (pass.each e.plane (Contains-map (λ e. e.plane) s.entries e ce)).different

    pub few : (length s.entries ≤ length planes) × All (λ e. e.plane < length planes) s.entries
    few = (
      (let l = length-le_from_below (length planes) (map (λ e. e.plane) s.entries) pass.ascending (All-from_members (λ k. k < length planes) (map (λ e. e.plane) s.entries) small) in
          let e = length-map s.entries (λ e. e.plane) in omega (arith, l, e)),
      All-from_members (λ e. e.plane < length planes) s.entries entry_small,
    )

    -- some plane passes through the stop
    pub some : 0 < length s.entries
    some =
        let x = on_circle in
        let c = pass.all x.other (record { h = x.h; linked_is = x.other_is; different = x.different; on = on_other v x }) in
        let f = Contains-from_map (λ e. e.plane) s.entries x.other c in
        let e = f.1 in omega (arith, e.1)

    -- a vertex is not the origin
    pub vertex_some : v ≢ origin
    vertex_some = crossing_some v on_circle

    -- it is one of the vertices of the planes
    pub vertex_listed : Contains (vertices planes) v
    vertex_listed = in_vertices planes g on_circle.h v (from_place planes c g is.circle.g_is.is) (from_place planes on_circle.other on_circle.h on_circle.other_is.is) (flat v on_circle) on_circle.is

  -- ---- the crossing with the plane of an entry

  module _ (e : Entry) (h : V3) (hi : IsLinked planes linked e.plane h) (ne : e.plane ≢ c) where
    crossing_is : (b : Bool) → e.turned ≡ b → crossing planes c e ≡ facet_by b (primitive (cross g h))
    crossing_is b q = λ i. facet_by (q i) (primitive (cross (get_or_from_slice_get planes c g origin is.circle.g_is.is i) (get_or_from_slice_get planes e.plane h origin hi.is i)))

    pub either_way : (b : Bool) → e.turned ≡ b → (crossing planes c e ≡ primitive (cross g h)) ⊎ (crossing planes c e ≡ negative (primitive (cross g h)))
    either_way false q = inl (crossing_is false q)
    either_way true q = inr (crossing_is true q)

    abbrev pub crossing_on : IsOnCircle planes linked c g (crossing planes c e)
    crossing_on = record { other = e.plane; h = h; other_is = hi; different = ne; is = either_way e.turned refl }

    -- it is a stop, which has the entry
    pub entry_there : IsEntryAt planes c r.stops e
    entry_there =
        let v : V3 = crossing planes c e in
        let (S, cS, eS) = Contains-from_map (λ s. s.vertex) stops v (is.circle.vertices.all v crossing_on) in
        let (s, cs, es) = Contains-from_map (stop_of planes c) r.stops S cS in
        let vs : vertex_of planes c s.entries ≡ v = ap (λ x. x.vertex) es ∙ eS in
        let (x, cx, ex) = Contains-from_map (λ e. e.plane) s.entries e.plane ((pass s cs).all e.plane (record { h = h; linked_is = hi; different = ne; on = ap (dot h) vs ∙ on_other v crossing_on })) in
        let u : V3 = primitive (cross (plane_at planes c) (plane_at planes e.plane)) in
        let t = one_way u x.turned e.turned (crossing_some v crossing_on) (sym (ap (λ k. facet_by x.turned (primitive (cross (plane_at planes c) (plane_at planes k)))) ex) ∙ (entry_vertex s x cs cx ∙ vs)) in
        let (k, at) = place_of r.stops s cs in
        let q : x ≡ e = λ i. record { plane = ex i; turned = t i } in
        record { place = k; stop = s; is = at; listed = subst (Contains s.entries) q cx; vertex = vs }

    -- where the entry leads from its stop
    leads : (s t : RingStop) → Contains r.stops s → Contains r.stops t → IsNext g stops (vertex_of planes c s.entries) (vertex_of planes c t.entries) → Contains s.entries e
        → stop_sign true e.turned ≡ sign (dot h (vertex_of planes c t.entries))
    leads s t cs ct n ce = by e.turned refl
      where
        w : V3
        w = vertex_of planes c t.entries

        at : (b : Bool) → e.turned ≡ b → pos 0 <ℤ turn g (facet_by b (primitive (cross g h))) w
        at b q = subst (λ v. pos 0 <ℤ turn g v w) (sym (entry_vertex s e cs ce) ∙ crossing_is b q) n.after

        v : V3
        v = primitive (cross g h)

        side : sign (turn g w v) ≡ sign (dot h w)
        side = let some = flat (crossing planes c e) crossing_on in side_is g h w (some_normal g h some) (on_it t ct) some

        by : (b : Bool) → e.turned ≡ b → stop_sign true e.turned ≡ sign (dot h w)
        by false q = ap (stop_sign true) q ∙ sym (negative_sign (turn g w v) (let h = at false q in let b = turn_back g w v in omega (arith, ints, h, b))) ∙ side
        by true q = ap (stop_sign true) q ∙ sym (positive_sign (turn g w v) (let h = at true q in let b = turn_back g w v in let n = turn_negative_left g v w in omega (arith, ints, h, b, n))) ∙ side

  -- ---- from one stop to the next, the signs of the planes through the two are all that changes

  module _ (s t : RingStop) (k : ℕ) (ks : slice_get r.stops k ≡ Some s) (kt : slice_get r.stops ((k + 1) % length r.stops) ≡ Some t) where
    left_in : Contains r.stops s
    left_in = from_place r.stops k s ks

    reached_in : Contains r.stops t
    reached_in = from_place r.stops ((k + 1) % length r.stops) t kt

    abbrev S : Stop
    S = stop_of planes c s

    abbrev T : Stop
    T = stop_of planes c t

    next_at : slice_get stops ((k + 1) % length stops) ≡ Some T
    next_at = subst (λ n. slice_get stops ((k + 1) % n) ≡ Some T) (sym (length-map r.stops (stop_of planes c))) (stop_there planes r ((k + 1) % length r.stops) t kt)

    pub next : IsNext g stops S.vertex T.vertex
    next = is.circle.turns k S T (stop_there planes r k s ks) next_at

    -- a plane through the stop reached
    reached_sign : (j : ℕ) (h : V3) → IsLinked planes linked j h → Contains T.through j → sign (dot h T.vertex) ≡ Zero
    reached_sign j h hi cj =
        let q = (pass t reached_in).each j cj in
        ap sign (ap (λ x. dot x T.vertex) (same_Some h q.h (sym hi.is ∙ q.linked_is.is)) ∙ q.on)

    -- a plane through neither keeps its sign, since its crossings do not lie between
    sign_stays : (j : ℕ) (h : V3) → IsLinked planes linked j h → j ≢ c → (Contains S.through j → ⊥) → (Contains T.through j → ⊥) → sign (dot h S.vertex) ≡ sign (dot h T.vertex)
    sign_stays j h hi ne ns nt = sym before ∙ agree (turn g S.vertex p) (turn g T.vertex p) left_off reached_off ahead behind ∙ after
      where
        apart_is : cross g h ≢ origin
        apart_is = apart.apart c j g h is.circle.g_is hi (λ q. ne (sym q))

        p : V3
        p = primitive (cross g h)

        before : sign (turn g S.vertex p) ≡ sign (dot h S.vertex)
        before = side_is g h S.vertex (some_normal g h apart_is) (on_it s left_in) apart_is

        after : sign (turn g T.vertex p) ≡ sign (dot h T.vertex)
        after = side_is g h T.vertex (some_normal g h apart_is) (on_it t reached_in) apart_is

        left_off : turn g S.vertex p ≢ pos 0
        left_off z = ns ((pass s left_in).all j (record { h = h; linked_is = hi; different = ne; on = zero_sign (dot h S.vertex) (sym before ∙ ap sign z) }))

        reached_off : turn g T.vertex p ≢ pos 0
        reached_off z = nt ((pass t reached_in).all j (record { h = h; linked_is = hi; different = ne; on = zero_sign (dot h T.vertex) (sym after ∙ ap sign z) }))

        between : (u : V3) → (u ≡ p) ⊎ (u ≡ negative p) → pos 0 <ℤ turn g S.vertex u → pos 0 <ℤ turn g u T.vertex → ⊥
        between u is_p a b =
            let (q, cq, e) = Contains-from_map (λ (q : Stop). q.vertex) stops u (is.circle.vertices.all u (record { other = j; h = h; other_is = hi; different = ne; is = is_p })) in
            All-contains (λ q. IsAfter g S.vertex q.vertex → IsAfter g q.vertex T.vertex → ⊥) stops q next.nothing_between cq (subst (λ x. pos 0 <ℤ turn g S.vertex x) (sym e) a) (subst (λ x. pos 0 <ℤ turn g x T.vertex) (sym e) b)

        ahead : pos 0 <ℤ turn g S.vertex p → turn g T.vertex p <ℤ pos 0 → ⊥
        ahead a b = between p (inl refl) a (let e = turn_back g p T.vertex in omega (arith, ints, b, e))

        behind : turn g S.vertex p <ℤ pos 0 → pos 0 <ℤ turn g T.vertex p → ⊥
        behind a b = between (negative p) (inr refl) (let e = turn_negative_right g S.vertex p in omega (arith, ints, a, e)) (let e = turn_negative_left g p T.vertex in let f = turn_back g p T.vertex in omega (arith, ints, b, e, f))

        agree : (a b : ℤ) → a ≢ pos 0 → b ≢ pos 0 → (pos 0 <ℤ a → b <ℤ pos 0 → ⊥) → (a <ℤ pos 0 → pos 0 <ℤ b → ⊥) → sign a ≡ sign b
        agree (pos zero) b na nb up down = absurd (na refl)
        agree (pos (suc a)) (pos zero) na nb up down = absurd (nb refl)
        agree (pos (suc a)) (pos (suc b)) na nb up down = refl
        agree (pos (suc a)) (negsuc b) na nb up down = absurd (up (omega (arith, ints)) (omega (arith, ints)))
        agree (negsuc a) (pos zero) na nb up down = absurd (nb refl)
        agree (negsuc a) (pos (suc b)) na nb up down = absurd (down (omega (arith, ints)) (omega (arith, ints)))
        agree (negsuc a) (negsuc b) na nb up down = refl

    -- the planes through the stop left and then those through the stop reached get the signs there
    pub cross_signs : (now : Signed) → length now.states ≡ length planes → HoldSigns planes linked now S.vertex → HoldSigns planes linked (with_stop_signs false t.entries (with_stop_signs true s.entries now)) T.vertex
    cross_signs now size holds j h hi = ⊎_elim {C = (state_at after.states j).sign ≡ sign (dot h T.vertex)} reached left_or (contains_or T.through j)
      where
        between : Signed
        between = with_stop_signs true s.entries now

        after : Signed
        after = with_stop_signs false t.entries between

        lt : j < length now.states
        lt = subst (λ n. j < n) (sym size) (slice_get_within planes j h hi.is)

        lt_between : j < length between.states
        lt_between = subst (λ n. j < n) (sym (stop_signs_same true s.entries now).size) lt

        reached : Contains T.through j → (state_at after.states j).sign ≡ sign (dot h T.vertex)
        reached cj =
            let m = Contains-from_map (λ e. e.plane) t.entries j cj in
            stop_signs_there false t.entries between j Zero lt_between (λ e ce q. refl) m.0 m.1 m.2 ∙ sym (reached_sign j h hi cj)

        not_reached : (Contains T.through j → ⊥) → (state_at after.states j).sign ≡ (state_at between.states j).sign
        not_reached none = stop_signs_other false t.entries between j (λ e ce q. none (subst (Contains T.through) q (Contains-map (λ e. e.plane) t.entries e ce)))

        left : (Contains T.through j → ⊥) → Contains S.through j → (state_at after.states j).sign ≡ sign (dot h T.vertex)
        left none cj =
            let m = Contains-from_map (λ e. e.plane) s.entries j cj in
            not_reached none ∙ stop_signs_there true s.entries now j (sign (dot h T.vertex)) lt
            (λ e ce q. leads e h (subst (λ i. IsLinked planes linked i h) (sym q) hi) (entry_other s left_in e ce) s t left_in reached_in next ce) m.0 m.1 m.2

        neither : (Contains T.through j → ⊥) → (Contains S.through j → ⊥) → (state_at after.states j).sign ≡ sign (dot h T.vertex)
        neither nt ns =
            not_reached nt ∙ (stop_signs_other true s.entries now j (λ e ce q. ns (subst (Contains S.through) q (Contains-map (λ e. e.plane) s.entries e ce)))
            ∙ (holds j h hi ∙ ⊎_elim {C = sign (dot h S.vertex) ≡ sign (dot h T.vertex)}
            (λ e.
            let same : h ≡ g = same_Some h g (sym hi.is ∙ (ap (slice_get planes) e ∙ is.circle.g_is.is)) in
            ap (λ x. sign (dot x S.vertex)) same ∙ (ap sign (on_it s left_in ∙ sym (on_it t reached_in)) ∙ ap (λ x. sign (dot x T.vertex)) (sym same)))
            (λ ne. sign_stays j h hi ne ns nt)
            (same_or j c)))

        left_or : (Contains T.through j → ⊥) → (state_at after.states j).sign ≡ sign (dot h T.vertex)
        left_or none = ⊎_elim {C = (state_at after.states j).sign ≡ sign (dot h T.vertex)} (left none) (neither none) (contains_or S.through j)
