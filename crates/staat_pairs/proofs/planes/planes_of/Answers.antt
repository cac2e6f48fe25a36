use Rattle.std.proofs.Common.{◌≡◌, ℕ, Contains, ◌<◌, ◌∙◌, All, ap, length, map, subst, sym, List}
use Rattle.std.specs.Prelude.{slice_index}
use Rattle.staat_vec.specs.declared.vector.V3.{V3}
use Rattle.staat_pairs.specs.PlaneNumbers.{AreAxesFirst, AreOrdered, ArePlacesBy}
use Rattle.staat_pairs.proofs.PlaneNumbering.{all_ordered, in_order_of, numbers_through, places_within, planes_collected}
use Rattle.staat_pairs.proofs.planes.planes_of.Goals as goal

-- the planes are ordered, as they are seen
module _ (listed seen planes found : List V3) (e : seen ≡ listed) (f : found ≡ planes) (order : AreOrdered seen planes) where
  ordered : AreOrdered listed planes
  ordered = subst (λ l. AreOrdered l planes) e order

  order_of : AreAxesFirst found
  order_of = subst AreAxesFirst (sym f) (in_order_of listed planes ordered)

  all_there : (also : List V3) → also ≡ listed → All (Contains found) also
  all_there also g = subst (λ ps. All (Contains ps) also) (sym f) (all_ordered listed also planes g ordered)

  ranked : (also : List V3) (ranks : List ℕ) → also ≡ listed → ArePlacesBy (λ n. n) found also ranks → ArePlacesBy (λ n. n) planes listed ranks
  ranked also ranks g are = subst (λ ps. ArePlacesBy (λ n. n) ps listed ranks) f (subst (λ l. ArePlacesBy (λ n. n) found l ranks) g are)

pub numbers_among-requires-clause-order : goal.numbers_among-requires-clause-order
numbers_among-requires-clause-order c =
    order_of c.in_ok-collection.collection.listed.items c.as_slice.result.now c.in_ok-planes.planes.items c.as_slice-2.result.now c.as_slice.ensures.value c.as_slice-2.ensures.value c.in_ok-planes.ensures

pub numbers_among-requires-clause-there : goal.numbers_among-requires-clause-there
numbers_among-requires-clause-there c =
    all_there c.in_ok-collection.collection.listed.items c.as_slice.result.now c.in_ok-planes.planes.items c.as_slice-2.result.now c.as_slice.ensures.value c.as_slice-2.ensures.value c.in_ok-planes.ensures
    c.as_slice-3.result.now c.as_slice-3.ensures.value

pub at_places-requires : goal.at_places-requires
at_places-requires c =
    let listed = c.in_ok-collection.collection.listed.items in
    let places = c.in_ok-collection.collection.places.items in
    let ranks = c.in_ok-ranks.ranks.items in
    let all = places_within listed c.args.facets.now places ranks c.in_ok-collection.ensures.places (c.in_ok-ranks.ensures.count ∙ ap length c.as_slice-3.ensures.value) in
    subst (λ ps. All (λ p. p < length c.as_slice-4.result.now) ps) (sym c.as_slice-5.ensures.value) (subst (λ rs. All (λ p. p < length rs) places) (sym c.as_slice-4.ensures.value) all)

pub returns-clause-planes : goal.returns-clause-planes
returns-clause-planes c =
    let listed = c.in_ok-collection.collection.listed.items in
    planes_collected c.args.facets.now listed c.in_ok-planes.planes.items c.in_ok-collection.ensures.members (subst (λ l. AreOrdered l c.in_ok-planes.planes.items) c.as_slice.ensures.value c.in_ok-planes.ensures)

pub returns-clause-numbers : goal.returns-clause-numbers
returns-clause-numbers c =
    let listed = c.in_ok-collection.collection.listed.items in
    numbers_through listed c.in_ok-planes.planes.items c.args.facets.now c.in_ok-collection.collection.places.items c.in_ok-ranks.ranks.items c.in_ok-numbers.numbers.items c.in_ok-collection.ensures.places
    (ranked listed c.as_slice.result.now c.in_ok-planes.planes.items c.as_slice-2.result.now c.as_slice.ensures.value c.as_slice-2.ensures.value c.in_ok-planes.ensures
    c.as_slice-3.result.now c.in_ok-ranks.ranks.items c.as_slice-3.ensures.value c.in_ok-ranks.ensures)
    (c.in_ok-numbers.ensures ∙ (λ i. map (slice_index (c.as_slice-4.ensures.value i)) (c.as_slice-5.ensures.value i)))
