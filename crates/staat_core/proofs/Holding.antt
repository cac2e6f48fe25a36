-- What a core that holds a set where planes cross says of other directions.
use Rattle.std.proofs.Common.{◌≡◌, ◌≢◌, ◌⊎◌, ⊎_elim, inl, inr, ℕ, ◌+◌, ◌<◌, ◌≤◌, ℤ, pos, ◌*ℤ◌, ◌<ℤ◌, ◌≤ℤ◌, arith, ap, sym, subst, ◌∙◌, refl, map, List, All, Contains, length}
use Rattle.std.specs.FinSet as set
use Rattle.std.proofs.lemmas.Bool.{cases_lt}
use Rattle.std.proofs.lemmas.List.{get_or_default, get_or_past, length-take-le}
use Rattle.std.proofs.lemmas.List.Elements.{All-contains, Contains-append_cases}
use Rattle.staat_vec.specs.declared.vector.V3.{V3}
use Rattle.staat_vec.specs.Primitives.{canon, primitive}
use Rattle.staat_vec.specs.Vectors.{cross, dot, negative, origin, vector}
use Rattle.staat_vec.proofs.Canons.{canon-negative, negative-negative}
use Rattle.staat_vec.proofs.Order.{not_positive_mul}
use Rattle.staat_vec.proofs.Primitives.{IsPrimitive-some, primitive-is, primitive-negative}
use Rattle.staat_vec.proofs.VecRing.{cross_self, cross_turned}
use Rattle.staat_vec.proofs.VectorLaws.{cross_origin}
use Rattle.staat_model.specs.declared.assembly.Part.{Part}
use Rattle.staat_model.specs.declared.certificate.Arc.{Arc}
use Rattle.staat_model.specs.declared.set.PartSet.{PartSet}
use Rattle.staat_model.specs.Assemblies.{HoldsAt, IsPart}
use Rattle.staat_model.specs.Cores.{HasCorePlanes, IsFreeInCore}
use Rattle.staat_model.specs.Facets.{IsFacet}
use Rattle.staat_model.specs.Planes.{axes}
use Rattle.staat_model.specs.Sets.{Has, IsSubset, single}
use Rattle.staat_model.proofs.CoreLemmas.{free_at_crossing_lemma, meets_towards}
use Rattle.staat_model.proofs.CornerLemmas.{dot_multiple}
use Rattle.staat_model.proofs.Corners.{HoldsAxes, IsCornerTowards, IsSame, corner_towards}
use Rattle.staat_model.proofs.Differences.{from_map}
use Rattle.staat_model.proofs.FreeSides.{member_or}
use Rattle.staat_model.proofs.GraphLemmas.{piece_in, positive_back}
use Rattle.staat_model.proofs.PieceFacets.{meets_by_facets_lemma}
use Rattle.staat_model.proofs.Reversed.{meets_opposite_lemma, opposite_facets_lemma}
use Rattle.staat_model.proofs.SetMembers.{has-difference, has-single}
use Rattle.staat_model.proofs.SetWords.{same_members}
use Rattle.staat_graph.specs.Graphs.{HasArc, IsShut}
use Rattle.staat_pairs.specs.Tables.{back}
use Rattle.staat_core.specs.declared.cores.Core.{Core}
use Rattle.staat_core.specs.declared.joins.Moving.{Moving}
use Rattle.staat_core.specs.declared.joins.Moving.TheVariants.{AnySide, OnePart}
use Rattle.staat_core.specs.Cores.{AreLeading, GoesOn, HasGrown, HasPlanesOf, HasRoom, HoldsAmongFirst, HoldsWhere, HoldsWithFirst, IsCore, core_pairs, core_planes, core_plane_at}
use Rattle.staat_core.specs.Moves.{HoldsMoves, IsHeldIn, IsMove}
use Rattle.staat_core.specs.Sources.{both_ways}
use Rattle.staat_core.proofs.Growing.{same_place}
use Rattle.staat_core.proofs.Leading.{first_way, second_way, ways_kept}
use Rattle.staat_model.proofs.OtherSides.{other_side, back_in}
use Rattle.staat_vec.proofs.Naturals.{lt_one_more_cases}
use Rattle.staat_vec.proofs.Options.{some_injective}

-- ---- the rest moves where the set does

rest_of_rest : (w s : PartSet) → IsSubset s w → set.difference w (set.difference w s) ≡ s
rest_of_rest w s within = same_members (set.difference w (set.difference w s)) s (back_in w s) (λ q h. (has-difference w (set.difference w s) q).1 (within q h, λ out. ((has-difference w s q).0 out).1 h))

pub single_within : (w : PartSet) (p : ℕ) → Has w p → IsSubset (single p) w
single_within w p has q h = subst (Has w) (sym ((has-single p q).0 h)) has

rest_moves : (moving : Moving) (w s : PartSet) → IsMove moving w s → IsMove moving w (set.difference w s)
rest_moves AnySide w s side = other_side w s side
rest_moves OnePart w s (p, has, inl e) = (p, has, inr (ap (set.difference w) e))
rest_moves OnePart w s (p, has, inr e) = (p, has, inl (ap (set.difference w) e ∙ rest_of_rest w (single p) (single_within w p has)))

-- ---- from a direction to its multiples and its opposite

positive_part : (k : ℕ) (x y : ℤ) → x ≡ pos k *ℤ y → pos 0 <ℤ x → pos 0 <ℤ y
positive_part k x y e h = positive_back y x (λ low. subst (λ z. z ≤ℤ pos 0) (sym e) (not_positive_mul k y low)) h

free_multiple : (parts : List Part) (core : List Arc) (s r : PartSet) (f : V3) → All IsPart parts → f ≢ origin → IsFreeInCore parts core s r (primitive f) → IsFreeInCore parts core s r f
free_multiple parts core s r f each some free arc listed a_in b_in m =
    let is_p = piece_in parts arc.a arc.i m.p each m.p_is in
    let is_q = piece_in parts arc.b arc.j m.q each m.q_is in
    let of = primitive-is f some in
    let at_f = (meets_by_facets_lemma m.p m.q f is_p is_q).0 m.holds in
    free arc listed a_in b_in (record {
      p = m.p;
      q = m.q;
      p_is = m.p_is;
      q_is = m.q_is;
      holds = (meets_by_facets_lemma m.p m.q (primitive f) is_p is_q).1 (λ n facet. positive_part of.factor (dot n f) (dot n (primitive f)) (dot_multiple n f (primitive f) of.factor of.multiple) (at_f n facet));
    })

turned_in : (pairs : List Arc) (arc : Arc) → Contains (both_ways pairs) arc → Contains (both_ways pairs) (back arc)
turned_in pairs arc c = elim (Contains-append_cases pairs (map back pairs) arc c) [
  | inl h ↦ second_way pairs arc h
  | inr h ↦ let x = from_map back pairs arc h in subst (λ y. Contains (both_ways pairs) (back y)) (sym x.2) (first_way pairs x.0 x.1)
]

free_turned : (parts : List Part) (pairs : List Arc) (w s : PartSet) (d : V3) → IsFreeInCore parts (both_ways pairs) s (set.difference w s) (negative d)
    → IsFreeInCore parts (both_ways pairs) (set.difference w s) (set.difference w (set.difference w s)) d
free_turned parts pairs w s d free arc listed a_in b_in m =
    free (back arc) (turned_in pairs arc listed) (back_in w s arc.b b_in) a_in
    (record { p = m.q; q = m.p; p_is = m.q_is; q_is = m.p_is; holds = (meets_opposite_lemma m.q m.p d).1 m.holds })

-- what does not move along f does not along its primitive vector or the opposite
held_same : (parts : List Part) (pairs : List Arc) (moving : Moving) (w s : PartSet) (f v : V3) → All IsPart parts → f ≢ origin → HoldsMoves parts (both_ways pairs) moving w f → IsSame v (primitive f) → IsMove moving w s
    → IsFreeInCore parts (both_ways pairs) s (set.difference w s) v → ⊥
held_same parts pairs moving w s f v each some held (inl e) moves free =
    held s moves (free_multiple parts (both_ways pairs) s (set.difference w s) f each some (subst (IsFreeInCore parts (both_ways pairs) s (set.difference w s)) e free))
held_same parts pairs moving w s f v each some held (inr e) moves free =
    let rest = set.difference w s in
    held rest (rest_moves moving w s moves)
    (free_multiple parts (both_ways pairs) rest (set.difference w rest) f each some (free_turned parts pairs w s (primitive f) (subst (IsFreeInCore parts (both_ways pairs) s rest) e free)))

-- ---- the planes of a core are there

pub few_planes : (k : Core) → HasRoom k → length (core_planes k) ≤ 96
few_planes k room =
    let most = room.most in
    let long = length-take-le k.used k.planes (let is = room.room in omega (arith, is, most)) in omega (arith, long, most)

module _ (parts : List Part) (pairs : List Arc) (speaks : List Part → Type 0) (k : Core) (is : IsCore pairs speaks k) (sp : speaks parts) where
  plane_of : (arc : Arc) (facet : V3) → Contains (core_pairs k) arc → HoldsAt parts arc (λ p q. IsFacet p q facet) → Contains (core_planes k) (canon facet)
  plane_of arc facet listed f =
      let h = (All-contains (HasPlanesOf parts (core_planes k)) (core_pairs k) arc (is.facets parts sp) listed).holds in
      let first : f.p ≡ h.p = some_injective f.p h.p (sym f.p_is ∙ h.p_is) in
      let second : f.q ≡ h.q = some_injective f.q h.q (sym f.q_is ∙ h.q_is) in
      h.holds facet (subst (λ x. IsFacet x h.q facet) first (subst (λ y. IsFacet f.p y facet) second f.holds))

  plane_back : (arc x : Arc) (facet : V3) → Contains (core_pairs k) x → arc ≡ back x → HoldsAt parts arc (λ p q. IsFacet p q facet) → Contains (core_planes k) (canon facet)
  plane_back arc x facet listed e f =
      let f' : HoldsAt parts (back x) (λ p q. IsFacet p q facet) = subst (λ (y : Arc). HoldsAt parts y (λ p q. IsFacet p q facet)) e f in
      subst (Contains (core_planes k)) (canon-negative facet (IsPrimitive-some facet f'.holds.primitive))
      (plane_of x (negative facet) listed (record { p = f'.q; q = f'.p; p_is = f'.q_is; q_is = f'.p_is; holds = (opposite_facets_lemma f'.p f'.q facet).0 f'.holds }))

  has_planes : HasCorePlanes parts (both_ways (core_pairs k)) (core_planes k)
  has_planes = record {
    has_axes = λ n c. All-contains (Contains (core_planes k)) axes n is.room.axes c;
    has_facets = λ n p. subst (Contains (core_planes k)) (sym p.is) (elim (Contains-append_cases (core_pairs k) (map back (core_pairs k)) p.arc p.listed) [
      | inl h ↦ plane_of p.arc p.facet h p.holds
      | inr h ↦ let x = from_map back (core_pairs k) p.arc h in plane_back p.arc x.0 p.facet x.1 x.2 p.holds
    ]);
  }

  plane_read : (h : V3) (c : Contains (core_planes k) h) → core_plane_at k c.0 ≡ h
  plane_read h c = get_or_default (core_planes k) c.0 origin h c.1 ∙ c.2

  pub held_on_plane : (moving : Moving) (w : PartSet) (g d : V3) → All IsPart parts → HoldsWithFirst parts k moving w g 96 → g ≢ origin → dot g d ≡ pos 0 → d ≢ origin → HoldsMoves parts (both_ways (core_pairs k)) moving w d
  held_on_plane moving w g d each held some on d_some s moves free =
      let at = free_at_crossing_lemma parts (both_ways (core_pairs k)) (core_planes k) g s (set.difference w s) d each has_planes some d_some on free in
      let c = at.crossing in
      let place = c.h_in in
      let here : HoldsWhere parts (core_pairs k) moving w g c.h = subst (HoldsWhere parts (core_pairs k) moving w g) (plane_read c.h place) (held place.0 (let lt = place.1 in omega (arith, lt, few_planes k is.room))) in
      held_same parts (core_pairs k) moving w s (cross g c.h) at.v each c.apart (here c.apart) c.is moves at.free

  has_axis : (n : V3) → Contains axes n → Contains (core_planes k) n
  has_axis n c = All-contains (Contains (core_planes k)) axes n is.room.axes c

  axes_are : HoldsAxes (core_planes k)
  axes_are = record {
    x = has_axis (vector (pos 1) (pos 0) (pos 0)) (0, omega arith, refl);
    y = has_axis (vector (pos 0) (pos 1) (pos 0)) (1, omega arith, refl);
    z = has_axis (vector (pos 0) (pos 0) (pos 1)) (2, omega arith, refl);
  }

order_or : (i j : ℕ) → (i < j) ⊎ (j < i) ⊎ (i ≡ j)
order_or i j = grind arith

turned_same : (v f e : V3) → e ≡ negative f → IsSame v (primitive e) → IsSame v (primitive f)
turned_same v f e turned (inl h) = inr (h ∙ (ap primitive turned ∙ primitive-negative f))
turned_same v f e turned (inr h) = inl (h ∙ (ap (λ x. negative (primitive x)) turned ∙ (ap negative (primitive-negative f) ∙ negative-negative (primitive f))))

module _ (parts : List Part) (pairs : List Arc) (speaks : List Part → Type 0) (k : Core) (is : IsCore pairs speaks k) (sp : speaks parts) where
  pub held_everywhere : (moving : Moving) (w : PartSet) (d : V3) (n : ℕ) → All IsPart parts → HoldsAmongFirst parts k moving w n → length (core_planes k) ≤ n → d ≢ origin → HoldsMoves parts (both_ways (core_pairs k)) moving w d
  held_everywhere moving w d n each held all some s moves free = go (order_or at_h.0 at_g.0)
    where
      corner : (v : V3) × IsCornerTowards (core_planes k) d v
      corner = corner_towards (core_planes k) d (axes_are parts pairs speaks k is sp) some

      v : V3
      v = corner.0

      c : IsCornerTowards (core_planes k) d v
      c = corner.1

      at_g : Contains (core_planes k) c.g
      at_g = c.g_in

      at_h : Contains (core_planes k) c.h
      at_h = c.h_in

      free_v : IsFreeInCore parts (both_ways (core_pairs k)) s (set.difference w s) v
      free_v arc listed a_in b_in m = free arc listed a_in b_in (meets_towards parts (both_ways (core_pairs k)) (core_planes k) d v arc each (has_planes parts pairs speaks k is sp) c.towards listed m)

      read_g : core_plane_at k at_g.0 ≡ c.g
      read_g = plane_read parts pairs speaks k is sp c.g at_g

      read_h : core_plane_at k at_h.0 ≡ c.h
      read_h = plane_read parts pairs speaks k is sp c.h at_h

      go : (at_h.0 < at_g.0) ⊎ (at_g.0 < at_h.0) ⊎ (at_h.0 ≡ at_g.0) → ⊥
      go (inl lt) =
          let here : HoldsWhere parts (core_pairs k) moving w c.g c.h = subst (λ x. HoldsWhere parts (core_pairs k) moving w x c.h) read_g (subst (HoldsWhere parts (core_pairs k) moving w (core_plane_at k at_g.0)) read_h (held at_g.0 (let small = at_g.1 in omega (arith, small, all)) at_h.0 lt)) in
          held_same parts (core_pairs k) moving w s (cross c.g c.h) v each c.independent (here c.independent) c.is moves free_v
      go (inr (inl lt)) =
          let apart : cross c.h c.g ≢ origin = λ e. c.independent (cross_turned c.g c.h ∙ ap negative e) in
          let here : HoldsWhere parts (core_pairs k) moving w c.h c.g = subst (λ x. HoldsWhere parts (core_pairs k) moving w x c.g) read_h (subst (HoldsWhere parts (core_pairs k) moving w (core_plane_at k at_h.0)) read_g (held at_h.0 (let small = at_h.1 in omega (arith, small, all)) at_g.0 lt)) in
          held_same parts (core_pairs k) moving w s (cross c.h c.g) v each apart (here apart) (turned_same v (cross c.h c.g) (cross c.g c.h) (cross_turned c.g c.h) c.is) moves free_v
      go (inr (inr e)) = c.independent (subst (λ x. cross x c.h ≡ origin) (sym read_h ∙ (ap (core_plane_at k) e ∙ read_g)) (cross_self c.h))

-- ---- a core that grows holds what it held

pub where_kept : (parts : List Part) (xs ys : List Arc) (moving : Moving) (w : PartSet) (g h : V3) → GoesOn xs ys → HoldsWhere parts xs moving w g h → HoldsWhere parts ys moving w g h
where_kept parts xs ys moving w g h more held apart s moves free = held apart s moves (λ arc listed a_in b_in m. free arc (ways_kept xs ys arc more listed) a_in b_in m)

module _ (parts : List Part) (k m : Core) (moving : Moving) (w : PartSet) (grows : HasGrown k m) where
  place_same : (i : ℕ) → i < length (core_planes k) → core_plane_at m i ≡ core_plane_at k i
  place_same i lt = same_place (core_planes k) (core_planes m) i origin grows.planes lt

  with_first_kept : (g : V3) (n : ℕ) → n ≤ length (core_planes k) → HoldsWithFirst parts k moving w g n → HoldsWithFirst parts m moving w g n
  with_first_kept g n small held i lt = subst (HoldsWhere parts (core_pairs m) moving w g) (sym (place_same i (omega (arith, lt, small)))) (where_kept parts (core_pairs k) (core_pairs m) moving w g (core_plane_at k i) grows.pairs (held i lt))

  pub with_first_more : (g h : V3) (n : ℕ) → n < length (core_planes k) → h ≡ core_plane_at k n → HoldsWithFirst parts k moving w g n → HoldsWhere parts (core_pairs m) moving w g h → HoldsWithFirst parts m moving w g (n + 1)
  with_first_more g h n small e before last i lt = ⊎_elim {C = HoldsWhere parts (core_pairs m) moving w g (core_plane_at m i)}
      (with_first_kept g n (omega (arith, small)) before i)
      (λ same. subst (HoldsWhere parts (core_pairs m) moving w g) (e ∙ (sym (place_same n small) ∙ ap (core_plane_at m) (sym same))) last)
      (lt_one_more_cases i n lt)

  pub among_more : (h : V3) (n : ℕ) → n < length (core_planes k) → h ≡ core_plane_at k n → HoldsAmongFirst parts k moving w n → HoldsWithFirst parts m moving w h n → HoldsAmongFirst parts m moving w (n + 1)
  among_more h n small e before last j lt = ⊎_elim {C = HoldsWithFirst parts m moving w (core_plane_at m j) j}
      (λ less. subst (λ x. HoldsWithFirst parts m moving w x j) (sym (place_same j (omega (arith, less, small)))) (with_first_kept (core_plane_at k j) j (omega (arith, less, small)) (before j less)))
      (λ same. subst (λ x. HoldsWithFirst parts m moving w (core_plane_at m x) x) (sym same) (subst (λ x. HoldsWithFirst parts m moving w x n) (e ∙ sym (place_same n small)) last))
      (lt_one_more_cases j n lt)

-- no plane crosses those behind the last
pub with_all : (parts : List Part) (k : Core) (moving : Moving) (w : PartSet) (g : V3) (m n : ℕ) → length (core_planes k) ≤ m → HoldsWithFirst parts k moving w g m → HoldsWithFirst parts k moving w g n
with_all parts k moving w g m n all held i lt = ⊎_elim {C = HoldsWhere parts (core_pairs k) moving w g (core_plane_at k i)} (held i)
    (λ past apart. absurd (apart (ap (cross g) (get_or_past (core_planes k) i origin (omega (arith, all, past))) ∙ (cross_turned g origin ∙ ap negative (cross_origin g)))))
    (cases_lt i m)

-- ---- where no arc is wanting

pub held_by_arcs : (parts : List Part) (pairs : List Arc) (moving : Moving) (w : PartSet) (d : V3) (rows : List ℕ) → AreLeading parts pairs d rows → IsHeldIn (HasArc rows) moving w → HoldsMoves parts (both_ways pairs) moving w d
held_by_arcs parts pairs moving w d rows leads held s moves free = held s moves shut
  where
    shut : IsShut (HasArc rows) w s
    shut a b a_in b_in arc = ⊎_elim {C = Has s b} (λ h. h)
        (λ out.
        let l = leads a b arc in
        absurd (free l.arc l.listed (subst (Has s) (sym l.from) a_in) (subst (Has (set.difference w s)) (sym l.to) ((has-difference w s b).1 (b_in, out))) l.meets))
        (member_or s b)
