use Rattle.std.proofs.Common.{◌≡◌, ℕ, ◌+◌, ◌*◌, ◌≤◌, min, arith, sym, subst, ◌∙◌, Contains, length}
use Rattle.std.proofs.Math.Nat.{mul-le-mul_right}
use Rattle.staat_vec.proofs.{ListLaws.Contains-from_map, Options.none_some, Truth.false_test_clash}
use Rattle.staat_ring.specs.{Rings.{Ring, linked_of, unlinked_of}, Stepping.count_below}
use Rattle.staat_ring.proofs.SignAll.{count_more, count_same}
use Rattle.staat_plan.specs.RingSearches.{IsBest, length_at}
use Rattle.staat_plan.proofs.RingGoing.{at_end, goes_on, length_has, nothing_yet, place_small, stop_in}
use Rattle.staat_plan.proofs.{RingLengths.{lengths_with, lengths_without}, RingStepLaw.{none_skip, step_or_none}}
use Rattle.staat_plan.proofs.ring_step.search.Goals as goal

-- ---- the plane is not linked

pub returns-then-not-is_linked-clause-steps : goal.returns-then-not-is_linked-clause-steps
returns-then-not-is_linked-clause-steps g c start h =
    let rings = c.args.rings.now.rings in
    let le = mul-le-mul_right (length rings) (count_same c.args.i (linked_of rings)) in omega (arith, h, le)

pub returns-then-not-is_linked-clause-crossed : goal.returns-then-not-is_linked-clause-crossed
returns-then-not-is_linked-clause-crossed g c start h =
    let same = lengths_without c.args.i c.args.rings.now.rings
    (λ l. false_test_clash c.is_linked.result c.if-not-is_linked.true (c.is_linked.ensures.1 l)) in
    omega (arith, h, same)

pub returns-then-not-is_linked-clause-step : goal.returns-then-not-is_linked-clause-step
returns-then-not-is_linked-clause-step g c parts made none =
    none_skip parts c.args.table.now.planes c.args.w (linked_of c.args.rings.now.rings) c.args.i
    (λ h. false_test_clash c.is_linked.result c.if-not-is_linked.true (c.is_linked.ensures.1 h)) none

-- ---- around the circle

pub stops-init : goal.stops-init
stops-init g c = record {
  made = c.enter.ensures.made;
  entered = c.enter.ensures.entered;
  circle = c.enter.ensures.circle;
  placed = λ h e. absurd (none_some h e);
  crossed = (let z = c.enter.ensures.place in let k = c.enter.ensures.counted in let e = c.enter.ensures.crossed in omega (arith, z, k, e));
  best = λ parts made r cr plane. nothing_yet c.enter.ensures.place;
}

counts : (old p : ℕ) {now next q : ℕ} → now ≡ min (old + p) 18446744073709551615
    → next ≡ min (now + 1) 18446744073709551615 → p + 1 ≡ q → next ≡ min (old + q) 18446744073709551615
counts old p e f h = omega arith

rounds : (start old new a b n : ℕ) → old ≤ start + a * n → new ≤ old + n → a + 1 ≤ b → new ≤ start + b * n
rounds start old new a b n h g e = grind arith

pub returns-then-not-cross-clause-steps : goal.returns-then-not-cross-clause-steps
returns-then-not-cross-clause-steps g c start h =
    let rings = c.args.rings.now.rings in
    let ks = linked_of rings in
    rounds start c.args.steps.now c.enter.new.steps (count_below c.args.i ks) (count_below (c.args.i + 1) ks) (length rings)
    h c.enter.ensures.steps (count_more c.args.i ks (c.is_linked.ensures.0 c.if-not-is_linked.false))

pub returns-then-not-cross-clause-crossed : goal.returns-then-not-cross-clause-crossed
returns-then-not-cross-clause-crossed g c start h =
    let rings = c.args.rings.now.rings in
    let (r, cr, plane) = Contains-from_map (λ (r : Ring). r.plane) rings c.args.i
    (c.is_linked.ensures.0 c.if-not-is_linked.false) in
    let e = at_end c.requires.rings.now.ascending c.stops.invariant.circle c.stops.invariant.entered r cr plane
    c.cross.ensures.place c.if-not-cross.true c.cross.ensures.back.1 in
    let with = lengths_with c.args.i rings r c.requires.rings.now.ascending cr plane in
    let now = counts c.args.walk.now.crossed c.stops.walk.place c.stops.invariant.crossed c.cross.ensures.crossed e in
    omega (arith, h, with, now)

pub returns-then-not-cross-clause-step : goal.returns-then-not-cross-clause-step
returns-then-not-cross-clause-step g c parts made none =
    let rings = c.args.rings.now.rings in
    let linked = c.is_linked.ensures.0 c.if-not-is_linked.false in
    let (r, cr, plane) = Contains-from_map (λ (r : Ring). r.plane) rings c.args.i linked in
    let e = at_end c.requires.rings.now.ascending c.stops.invariant.circle c.stops.invariant.entered r cr plane
    c.cross.ensures.place c.if-not-cross.true c.cross.ensures.back.1 in
    step_or_none parts c.args.table.now c.args.w c.len-len.ensures.rules rings (unlinked_of c.args.rings.now.unlinked)
    c.requires.rings.now made c.requires.set (c.requires.linked parts made) c.args.i r c.look-best.result cr plane
    (subst (λ m. IsBest parts c.args.table.now.planes c.args.w c.args.i r.stops m c.look-best.result) e
    (c.look-best.ensures.best parts made c.stops.invariant.entered.stop
    (stop_in c.requires.rings.now.ascending c.stops.invariant.circle c.stops.invariant.entered r cr plane)
    c.stops.invariant.entered.node (c.stops.invariant.best parts made r cr plane))) linked none

pub stops-smaller : goal.stops-smaller
stops-smaller g c =
    let rings = c.args.rings.now.rings in
    let (r, cr, plane) = Contains-from_map (λ (r : Ring). r.plane) rings c.args.i (c.is_linked.ensures.0 c.if-not-is_linked.false) in
    let e = goes_on c.requires.rings.now.ascending c.stops.invariant.circle c.stops.invariant.entered r cr plane
    c.cross.ensures.place c.if-not-cross.false c.cross.ensures.back.0 in
    let lt = place_small c.requires.rings.now.ascending c.stops.invariant.circle c.stops.invariant.entered r cr plane in
    let le = subst (λ k. length r.stops ≤ length_at k rings) plane (length_has rings r cr) in
    omega (arith, e, lt, le)

pub stops-preserved : goal.stops-preserved
stops-preserved g c =
    let rings = c.args.rings.now.rings in
    let goes : (r : Ring) → Contains rings r → r.plane ≡ c.args.i → c.cross.new.self.place ≡ c.stops.walk.place + 1 =
    λ r cr plane. goes_on c.requires.rings.now.ascending c.stops.invariant.circle c.stops.invariant.entered r cr plane
    c.cross.ensures.place c.if-not-cross.false c.cross.ensures.back.0 in
    let f = Contains-from_map (λ (r : Ring). r.plane) rings c.args.i (c.is_linked.ensures.0 c.if-not-is_linked.false) in
    record {
      made = c.cross.ensures.made;
      entered = c.cross.ensures.entered;
      circle = c.cross.ensures.circle ∙ c.stops.invariant.circle;
      placed = c.look-best.ensures.placed;
      crossed = counts c.args.walk.now.crossed c.stops.walk.place c.stops.invariant.crossed c.cross.ensures.crossed
          (sym (goes f.0 f.1 f.2));
      best = λ parts made r cr plane.
          subst (λ m. IsBest parts c.args.table.now.planes c.args.w c.args.i r.stops m c.look-best.result) (sym (goes r cr plane))
          (c.look-best.ensures.best parts made c.stops.invariant.entered.stop
          (stop_in c.requires.rings.now.ascending c.stops.invariant.circle c.stops.invariant.entered r cr plane)
          c.stops.invariant.entered.node (c.stops.invariant.best parts made r cr plane));
    }

pub look-best-requires-clause-linked : goal.look-best-requires-clause-linked
look-best-requires-clause-linked g c parts made k n at is = (c.requires.linked parts made k n at).1 is
