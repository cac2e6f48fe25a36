-- The planes of facets and their numbers, as they are collected.
use Rattle.std.proofs.Common.{◌≡◌, ◌⊎◌, inl, inr, ⊎_elim, ◌↔◌, ℕ, ◌+◌, ◌<◌, ◌≤◌, ap, sym, subst, ◌∙◌, List, [], ◌∷◌, ◌++◌, length, get_or, take, All, Contains, map}
use Rattle.std.specs.Prelude.{Some, slice_get, slice_index}
use Rattle.std.proofs.lemmas.List.{length_push, take_all, take_more}
use Rattle.std.proofs.lemmas.List.Elements.{Contains-append_left, Contains-append_right, Contains-push, Contains-push_cases}
use Rattle.std.proofs.lemmas.Option.{get_or_from_slice_get, slice_get_within, slice_get-get_or}
use Rattle.staat_vec.specs.declared.vector.V3.{V3}
use Rattle.staat_vec.specs.Lists.{Lists}
use Rattle.staat_vec.specs.Primitives.{canon}
use Rattle.staat_vec.specs.Vectors.{origin, vector_cmp}
use Rattle.staat_vec.proofs.ListLaws.{get_front, map_at_place, map_length, push_cases, push_end, push_front}
use Rattle.staat_vec.proofs.Options.{some_injective}
use Rattle.staat_vec.proofs.Unique.{from_place}
use Rattle.staat_model.specs.Planes.{axes}
use Rattle.staat_model.proofs.GraphLemmas.{member_or_not}
use Rattle.staat_model.proofs.Members.{All-from_members}
use Rattle.staat_pairs.specs.PlaneNumbers.{AddsOther, AreAxesFirst, ArePlaneNumbers, AreOrdered, ArePlacesBy, IsAxisOrCanon, IsNormalListed}
use Rattle.staat_pairs.specs.Searches.{IsCanonOf}
use Rattle.staat_pairs.specs.Tabulating.{AreCollected}

-- ---- the normals that are listed

abbrev pub Collects : List V3 → List V3 → Type 0
Collects facets listed = (n : V3) → Contains listed n ↔ IsAxisOrCanon facets n

members_more : (old new : List V3) (facet : V3) (p : ℕ) → IsNormalListed old facet new p → (n : V3) → Contains new n ↔ (Contains old n ⊎ (n ≡ canon facet))
members_more old new facet p is n = (
  λ c. ⊎_elim {C = Contains old n ⊎ (n ≡ canon facet)} (λ same. inl (subst (λ l. Contains l n) same c))
      (λ pushed. ⊎_elim {C = Contains old n ⊎ (n ≡ canon facet)} (λ early. inl early) (λ last. inr (sym last)) (Contains-push_cases old (canon facet) n (subst (λ l. Contains l n) pushed c))) is.more,
  λ h. ⊎_elim {C = Contains new n}
      (λ c. ⊎_elim {C = Contains new n} (λ same. subst (λ l. Contains l n) (sym same) c) (λ pushed. subst (λ l. Contains l n) (sym pushed) (Contains-append_left old (canon facet ∷ []) n c)) is.more)
      (λ e. subst (Contains new) (sym e) (from_place new p (canon facet) is.there)) h,
)

push_collects : (facets old new : List V3) (facet : V3) (p : ℕ) → Collects facets old → IsNormalListed old facet new p → Collects (facets ++ facet ∷ []) new
push_collects facets old new facet p before is n =
    let more = members_more old new facet p is n in (
      λ c. ⊎_elim {C = IsAxisOrCanon (facets ++ facet ∷ []) n}
          (λ early. ⊎_elim {C = IsAxisOrCanon (facets ++ facet ∷ []) n} (λ axis. inl axis)
          (λ h. inr (record { facet = h.facet; listed = Contains-append_left facets (facet ∷ []) h.facet h.listed; is = h.is })) ((before n).0 early))
          (λ e. inr (record { facet = facet; listed = Contains-push facets facet; is = e })) (more.0 c),
      λ h. ⊎_elim {C = Contains new n} (λ axis. more.1 (inl ((before n).1 (inl axis))))
          (λ other. ⊎_elim {C = Contains new n}
          (λ early. more.1 (inl ((before n).1 (inr (record { facet = other.facet; listed = early; is = other.is })))))
          (λ same. more.1 (inr (other.is ∙ ap canon (sym same)))) (Contains-push_cases facets facet other.facet other.listed)) h,
    )

pub collects_more : (facets old new : List V3) (k p : ℕ) (d : V3) → k < length facets → Collects (take k facets) old → IsNormalListed old (get_or facets k d) new p → Collects (take (k + 1) facets) new
collects_more facets old new k p d lt before is =
    subst (λ l. Collects l new) (sym (take_more facets k d lt)) (push_collects (take k facets) old new (get_or facets k d) p before is)

pub collected : (facets listed : List V3) (k : ℕ) → length facets ≤ k → Collects (take k facets) listed → Collects facets listed
collected facets listed k le = subst (λ l. Collects l listed) (take_all k facets le)

-- ---- those that are no axes

-- the normals that are no axes
abbrev pub Keeps : List V3 → List V3 → Type 0
Keeps listed others = (n : V3) → Contains others n ↔ (Contains listed n × (Contains axes n → ⊥))

skip_axis : (listed others : List V3) (x : V3) → Contains axes x → Keeps listed others → Keeps (listed ++ x ∷ []) others
skip_axis listed others x axis before n = (
  λ c. let h = (before n).0 c in (Contains-append_left listed (x ∷ []) n h.0, h.1),
  λ h. ⊎_elim {C = Contains others n} (λ early. (before n).1 (early, h.1)) (λ same. absurd (h.1 (subst (Contains axes) same axis))) (Contains-push_cases listed x n h.0),
)

keep_other : (listed old new : List V3) (x : V3) → (Contains axes x → ⊥) → new ≡ old ++ x ∷ [] → Keeps listed old → Keeps (listed ++ x ∷ []) new
keep_other listed old new x other is before n = (
  λ c. ⊎_elim {C = Contains (listed ++ x ∷ []) n × (Contains axes n → ⊥)} (λ early. let h = (before n).0 early in (Contains-append_left listed (x ∷ []) n h.0, h.1))
      (λ same. (subst (Contains (listed ++ x ∷ [])) same (Contains-push listed x), subst (λ v. Contains axes v → ⊥) same other))
      (Contains-push_cases old x n (subst (λ l. Contains l n) is c)),
  λ h. subst (λ l. Contains l n) (sym is) (⊎_elim {C = Contains (old ++ x ∷ []) n} (λ early. Contains-append_left old (x ∷ []) n ((before n).1 (early, h.1)))
      (λ same. subst (Contains (old ++ x ∷ [])) same (Contains-push old x)) (Contains-push_cases listed x n h.0)),
)

pub keeps_more : (listed old new : List V3) (k : ℕ) (d : V3) → k < length listed → AddsOther (get_or listed k d) old new → Keeps (take k listed) old → Keeps (take (k + 1) listed) new
keeps_more listed old new k d lt adds before = subst (λ l. Keeps l new) (sym (take_more listed k d lt))
    (⊎_elim {C = Keeps (take k listed ++ get_or listed k d ∷ []) new}
    (λ skip. subst (Keeps (take k listed ++ get_or listed k d ∷ [])) (sym skip.1) (skip_axis (take k listed) old (get_or listed k d) skip.0 before))
    (λ keep. keep_other (take k listed) old new (get_or listed k d) keep.0 keep.1 before) adds)

pub kept_in_order : (listed others sorted : List V3) (k : ℕ) → length listed ≤ k → Keeps (take k listed) others → Lists vector_cmp (Contains others) sorted → Lists vector_cmp (λ n. Contains listed n × (Contains axes n → ⊥)) sorted
kept_in_order listed others sorted k le keeps lists =
    let whole : Keeps listed others = subst (λ l. Keeps l others) (take_all k listed le) keeps in
    record { ascending = lists.ascending; each = λ n c. (whole n).0 (lists.each n c); all = λ n h. lists.all n ((whole n).1 h) }

pub planes_collected : (facets listed planes : List V3) → Collects facets listed → AreOrdered listed planes → AreCollected facets planes
planes_collected facets listed planes collects order = record {
  others = order.others;
  others_are = record {
    ascending = order.others_are.ascending;
    each = λ n c. (let h = order.others_are.each n c in (⊎_elim {C = IsCanonOf facets n} (λ axis. absurd (h.1 axis)) (λ other. other) ((collects n).0 h.0), h.1));
    all = λ n h. order.others_are.all n ((collects n).1 (inr h.0), h.1);
  };
  is = order.is;
}

pub in_order_of : (listed planes : List V3) → AreOrdered listed planes → AreAxesFirst planes
in_order_of listed planes order = record { others = order.others; is = order.is; ascending = order.others_are.ascending }

-- an axis, or one of the others
pub all_ordered : (listed seen planes : List V3) → seen ≡ listed → AreOrdered listed planes → All (Contains planes) seen
all_ordered listed seen planes e order = All-from_members (Contains planes) seen (λ n c. among n (subst (λ l. Contains l n) e c))
  where
    among : (n : V3) → Contains listed n → Contains planes n
    among n c = subst (λ l. Contains l n) (sym order.is) (elim (member_or_not n axes) [
      | inl axis ↦ Contains-append_left axes order.others n axis
      | inr other ↦ Contains-append_right axes order.others n (order.others_are.all n (c, other))
    ])

-- ---- places

places_listed : (normal : V3 → V3) (old new vectors : List V3) (facet : V3) (p : ℕ) (places : List ℕ) → IsNormalListed old facet new p → ArePlacesBy normal old vectors places → ArePlacesBy normal new vectors places
places_listed normal old new vectors facet p places is before = record {
  count = before.count;
  each = λ m v at. (let (k, here, there) = before.each m v at in (
    k,
    here,
    ⊎_elim {C = slice_get new k ≡ Some (normal v)} (λ same. subst (λ l. slice_get l k ≡ Some (normal v)) (sym same) there)
        (λ pushed. subst (λ l. slice_get l k ≡ Some (normal v)) (sym pushed) (get_front old (canon facet ∷ []) k (normal v) there)) is.more,
  ));
}

push_place : (normal : V3 → V3) (normals vectors : List V3) (places : List ℕ) (v : V3) (p : ℕ) → ArePlacesBy normal normals vectors places → slice_get normals p ≡ Some (normal v) → ArePlacesBy normal normals (vectors ++ v ∷ []) (places ++ p ∷ [])
push_place normal normals vectors places v p before there = record {
  count = length_push places p ∙ ap (λ n. n + 1) before.count ∙ sym (length_push vectors v);
  each = λ m w at. ⊎_elim {C = (k : ℕ) × (slice_get (places ++ p ∷ []) m ≡ Some k) × (slice_get normals k ≡ Some (normal w))}
      (λ early. let (k, here, stands) = before.each m w early in (k, push_front places p k m here, stands))
      (λ last. (p, subst (λ n. slice_get (places ++ p ∷ []) n ≡ Some p) (before.count ∙ sym last.0) (push_end places p), subst (λ u. slice_get normals p ≡ Some (normal u)) last.1 there))
      (push_cases vectors v w m at);
}

pub places_more : (normal : V3 → V3) (normals vectors : List V3) (old new : List ℕ) (k p : ℕ) (d : V3) → k < length vectors → ArePlacesBy normal normals (take k vectors) old → slice_get normals p ≡ Some (normal (get_or vectors k d)) → new ≡ old ++ p ∷ [] → ArePlacesBy normal normals (take (k + 1) vectors) new
places_more normal normals vectors old new k p d lt before there is =
    subst (λ l. ArePlacesBy normal normals l new) (sym (take_more vectors k d lt)) (subst (ArePlacesBy normal normals (take k vectors ++ get_or vectors k d ∷ [])) (sym is) (push_place normal normals (take k vectors) old (get_or vectors k d) p before there))

pub facet_placed : (old new facets : List V3) (places more : List ℕ) (k p : ℕ) (d : V3) → k < length facets → ArePlaneNumbers old (take k facets) places → IsNormalListed old (get_or facets k d) new p → more ≡ places ++ p ∷ [] → ArePlaneNumbers new (take (k + 1) facets) more
facet_placed old new facets places more k p d lt before is e =
    places_more canon new facets places more k p d lt (places_listed canon old new (take k facets) (get_or facets k d) p places is before) is.there e

pub all_placed : (normal : V3 → V3) (normals vectors : List V3) (places : List ℕ) (k : ℕ) → length vectors ≤ k → ArePlacesBy normal normals (take k vectors) places → ArePlacesBy normal normals vectors places
all_placed normal normals vectors places k le = subst (λ l. ArePlacesBy normal normals l places) (take_all k vectors le)

-- the place of each facet's normal, and the number of the plane of each normal, give the number of each facet's plane
pub numbers_through : (listed planes facets : List V3) (places ranks numbers : List ℕ) → ArePlaneNumbers listed facets places → ArePlacesBy (λ n. n) planes listed ranks → numbers ≡ map (slice_index ranks) places → ArePlaneNumbers planes facets numbers
numbers_through listed planes facets places ranks numbers first second e = subst (ArePlaneNumbers planes facets) (sym e) (record {
  count = map_length (slice_index ranks) places ∙ first.count;
  each = λ m v at. (
      let (p, here, stands) = first.each m v at in
      let (r, there, is) = second.each p (canon v) stands in
      (r, map_at_place (slice_index ranks) places m p here ∙ ap Some (get_or_from_slice_get ranks p r 0 there), is));
})

pub places_within : (listed facets : List V3) (places ranks : List ℕ) → ArePlaneNumbers listed facets places → length ranks ≡ length listed → All (λ p. p < length ranks) places
places_within listed facets places ranks are e = All-from_members (λ p. p < length ranks) places (λ p c. within p c)
  where
    within : (p : ℕ) → Contains places p → p < length ranks
    within p (m, lt, at) =
        let there : slice_get places m ≡ Some p = slice_get-get_or places m p lt ∙ ap Some at in
        let facet : slice_get facets m ≡ Some (get_or facets m origin) = slice_get-get_or facets m origin (subst (λ n. m < n) are.count lt) in
        let (k, here, stands) = are.each m (get_or facets m origin) facet in
        let same : k ≡ p = some_injective k p (sym here ∙ there) in
        subst (λ n. p < n) (sym e) (subst (λ n. n < length listed) same (slice_get_within listed k (canon (get_or facets m origin)) stands))
