-- Which piece of a pair meets the other, and the graph of the pairs.
use Rattle.std.proofs.Common.{◌≡◌, ◌⊎◌, ⊎_elim, inl, inr, ℕ, pos, ◌<ℤ◌, arith, sym, subst, map, List, All, Contains}
use Rattle.std.proofs.lemmas.Int.{ints}
use Rattle.std.proofs.lemmas.List.Elements.{All-contains, All-weaker, Contains-append_cases, Contains-append_left, Contains-append_right}
use Rattle.staat_vec.specs.declared.vector.V3.{V3}
use Rattle.staat_vec.specs.Vectors.{dot, negative}
use Rattle.staat_vec.proofs.VecRing.{dot_negative}
use Rattle.staat_model.specs.declared.assembly.Part.{Part}
use Rattle.staat_model.specs.declared.certificate.Arc.{Arc}
use Rattle.staat_model.specs.Removal.{MeetsAlong}
use Rattle.staat_model.proofs.Differences.{from_map}
use Rattle.staat_model.proofs.GraphLemmas.{piece_in}
use Rattle.staat_model.proofs.Members.{All-from_members}
use Rattle.staat_model.proofs.Reversed.{meets_opposite_lemma}
use Rattle.staat_cone.proofs.WallLemmas.{meets_by_list}
use Rattle.staat_graph.specs.Graphs.{HasArc}
use Rattle.staat_pairs.specs.Tables.{back}
use Rattle.staat_core.specs.Cores.{AreLeading, GoesOn, LeadsAlong}
use Rattle.staat_core.specs.Sources.{AreFacetsOf, both_ways}
use Rattle.staat_core.proofs.Growing.{stays_in}
use Rattle.staat_vec.proofs.ListLaws.{Contains-map}

module _ (parts : List Part) (pair : Arc) (facets : List V3) (are : AreFacetsOf parts pair facets) where
  -- where d leads ahead of all facets, the first piece meets the second
  pub meets_ahead : (d : V3) → All (λ n. pos 0 <ℤ dot n d) facets → MeetsAlong parts d pair
  meets_ahead d ahead =
      let h = are.holds in record {
        p = h.p;
        q = h.q;
        p_is = h.p_is;
        q_is = h.q_is;
        holds = (meets_by_list h.p h.q facets d (piece_in parts pair.a pair.i h.p are.parts_are h.p_is) (piece_in parts pair.b pair.j h.q are.parts_are h.q_is) (λ n. (h.holds.each n, h.holds.all n))).1 ahead;
      }

  turned : (d n : V3) → dot n d <ℤ pos 0 → pos 0 <ℤ dot n (negative d)
  turned d n lt = let e = dot_negative n d in omega (arith, ints, e, lt)

  -- where it leads behind all, the second meets the first
  pub meets_behind : (d : V3) → All (λ n. dot n d <ℤ pos 0) facets → MeetsAlong parts d (back pair)
  meets_behind d behind =
      let m = meets_ahead (negative d) (All-weaker (λ n. dot n d <ℤ pos 0) (λ n. pos 0 <ℤ dot n (negative d)) (turned d) facets behind) in
      record { p = m.q; q = m.p; p_is = m.q_is; q_is = m.p_is; holds = (meets_opposite_lemma m.p m.q d).0 m.holds }

-- ---- the pairs in both orders

pub first_way : (pairs : List Arc) (pair : Arc) → Contains pairs pair → Contains (both_ways pairs) pair
first_way pairs pair c = Contains-append_left pairs (map back pairs) pair c

pub second_way : (pairs : List Arc) (pair : Arc) → Contains pairs pair → Contains (both_ways pairs) (back pair)
second_way pairs pair c = Contains-append_right pairs (map back pairs) (back pair) (Contains-map back pairs pair c)

-- more pairs, in both orders
pub ways_among : (xs ys : List Arc) (arc : Arc) → All (Contains ys) xs → Contains (both_ways xs) arc → Contains (both_ways ys) arc
ways_among xs ys arc all c = elim (Contains-append_cases xs (map back xs) arc c) [
  | inl h ↦ first_way ys arc (All-contains (Contains ys) xs arc all h)
  | inr h ↦ let x = from_map back xs arc h in subst (Contains (both_ways ys)) (sym x.2) (second_way ys x.0 (All-contains (Contains ys) xs x.0 all x.1))
]

pub ways_kept : (xs ys : List Arc) (arc : Arc) → GoesOn xs ys → Contains (both_ways xs) arc → Contains (both_ways ys) arc
ways_kept xs ys arc g = ways_among xs ys arc (All-from_members (Contains ys) xs (λ x h. stays_in xs ys x g h))

pub leading_kept : (parts : List Part) (xs ys : List Arc) (d : V3) (rows : List ℕ) → GoesOn xs ys → AreLeading parts xs d rows → AreLeading parts ys d rows
leading_kept parts xs ys d rows g leads a b h = let l = leads a b h in record { arc = l.arc; listed = ways_kept xs ys l.arc g l.listed; from = l.from; to = l.to; meets = l.meets }

-- one more arc in the graph
pub leads_more : (parts : List Part) (pairs : List Arc) (d : V3) (arc : Arc) (old new : List ℕ) → Contains (both_ways pairs) arc → MeetsAlong parts d arc
    → ((x y : ℕ) → HasArc new x y → HasArc old x y ⊎ ((x ≡ arc.a) × (y ≡ arc.b))) → AreLeading parts pairs d old → AreLeading parts pairs d new
leads_more parts pairs d arc old new listed meets more leads x y h =
    ⊎_elim {C = LeadsAlong parts pairs d x y} (λ before. leads x y before) (λ same. record { arc = arc; listed = listed; from = sym same.0; to = sym same.1; meets = meets }) (more x y h)
