use Rattle.std.proofs.Common.{◌≡◌, ℕ, ◌+◌, ◌*◌, ◌<◌, ◌≤◌, min, arith, sym, subst, List, length, ⊎_elim}
use Rattle.std.proofs.{Math.Nat.mul-le-mul_right, lemmas.List.length-map}
use Rattle.std.specs.Prelude.{None, Some}
use Rattle.staat_vec.proofs.Naturals.{min_at_start, lt_or_le}
use Rattle.staat_ring.specs.{Rings.{unlinked_of, linked_of}, Stepping.count_below}
use Rattle.staat_ring.proofs.SignAll.{count_all}
use Rattle.staat_certify.proofs.SomeMember.{some_member}
use Rattle.staat_plan.specs.RingSearches.{lengths_below}
use Rattle.staat_plan.proofs.{RingLengths.{lengths_past, lengths_rise}, RingStepLaw.has_no_step}
use Rattle.staat_plan.proofs.StepLemmas.{none_if_stuck}
use Rattle.staat_plan.proofs.ring_step.part_step_rings.Goals as goal

pub loop-i-init : goal.loop-i-init
loop-i-init g c = record {
  all = c.len-i-end.ensures.is;
  made = c.requires.made;
  none = λ parts made h e ch ce lt. absurd (omega (arith, lt));
  steps = omega arith;
  crossed = min_at_start c.args.walk.now.crossed (lengths_below 0 c.args.rings.now.rings) 18446744073709551615 (lengths_past 0 c.args.rings.now.rings (λ r cr. omega arith));
}

in_all : (start now n k : ℕ) (ks : List ℕ) → length ks ≡ n → now ≤ start + count_below k ks * n → now ≤ start + n * n
in_all start now n k ks e h =
    let c = count_all k ks in
    let le : count_below k ks * n ≤ n * n = mul-le-mul_right n (omega (arith, c, e)) in
    omega (arith, le, h)

less_crossed : (old part all new top : ℕ) → part ≤ all → min (old + all) top ≤ new → min (old + part) top ≤ new
less_crossed old part all new top h e = omega arith

pub returns-in-Some-clause-steps : goal.returns-in-Some-clause-steps
returns-in-Some-clause-steps g c =
    let rings = c.args.rings.now.rings in
    in_all c.args.steps.now c.search.new.steps (length rings) (c.loop-i.i + 1) (linked_of rings)
    (length-map rings (λ r. r.plane)) (c.search.ensures.steps c.args.steps.now c.loop-i.invariant.steps)

pub returns-in-Some-clause-crossed : goal.returns-in-Some-clause-crossed
returns-in-Some-clause-crossed g c parts k made lt none =
    let rings = c.args.rings.now.rings in
    let serving = (c.in-Some.ensures.step parts made (c.loop-i.invariant.none parts made)).0 in
    ⊎_elim
    (λ before. absurd (none serving.ring serving.stop serving.listed (subst (λ j. j < k) (sym serving.plane) before)
    serving.on serving.serves))
    (λ le. less_crossed c.args.walk.now.crossed (lengths_below (k + 1) rings) (lengths_below (c.loop-i.i + 1) rings)
    c.search.new.walk.crossed 18446744073709551615 (lengths_rise (k + 1) (c.loop-i.i + 1) rings (omega (arith, le)))
    (c.search.ensures.crossed c.args.walk.now.crossed c.loop-i.invariant.crossed))
    (lt_or_le c.loop-i.i k)

pub returns-in-Some-clause-step : goal.returns-in-Some-clause-step
returns-in-Some-clause-step g c parts made =
    rw (c.step_of.ensures.moved, c.step_of.ensures.d)
    (c.in-Some.ensures.step parts made (c.loop-i.invariant.none parts made)).1

pub loop-i-preserved : goal.loop-i-preserved
loop-i-preserved g c = record {
  all = c.loop-i.invariant.all;
  made = c.search.ensures.made;
  none = λ parts made. c.in_default.ensures.step parts made (c.loop-i.invariant.none parts made);
  steps = c.search.ensures.steps c.args.steps.now c.loop-i.invariant.steps;
  crossed = c.search.ensures.crossed c.args.walk.now.crossed c.loop-i.invariant.crossed;
}

pub returns-clause-steps : goal.returns-clause-steps
returns-clause-steps g c =
    let rings = c.args.rings.now.rings in
    in_all c.args.steps.now c.loop-i.steps (length rings) c.loop-i.i (linked_of rings) (length-map rings (λ r. r.plane))
    c.loop-i.invariant.steps

pub returns-clause-crossed : goal.returns-clause-crossed
returns-clause-crossed g c parts k made lt none =
    let rings = c.args.rings.now.rings in
    let a = c.loop-i.invariant.all in
    let t = c.loop-i-test.false in
    less_crossed c.args.walk.now.crossed (lengths_below (k + 1) rings) (lengths_below c.loop-i.i rings)
    c.loop-i.walk.crossed 18446744073709551615 (lengths_rise (k + 1) c.loop-i.i rings (omega (arith, lt, a, t)))
    c.loop-i.invariant.crossed

pub returns-clause-step : goal.returns-clause-step
returns-clause-step g c parts made =
    let rings = c.args.rings.now.rings in
    has_no_step parts c.args.table.now c.args.w c.len-len.ensures.rules rings (unlinked_of c.args.rings.now.unlinked) c.requires.rings.now made c.requires.set (c.requires.linked parts made)
    (λ h e ch ce lt later. c.loop-i.invariant.none parts made h e ch ce (let a = c.loop-i.invariant.all in let t = c.loop-i-test.false in omega (arith, lt, a, t)) later)

pub returns-clause-stuck : goal.returns-clause-stuck
returns-clause-stuck g c parts made =
    none_if_stuck parts c.args.w None made.assembly c.requires.two (returns-clause-step g c parts made)

pub returns-in-Some-clause-stuck : goal.returns-in-Some-clause-stuck
returns-in-Some-clause-stuck g c parts made =
    none_if_stuck parts c.args.w (Some c.step_of.result) made.assembly c.requires.two
    (returns-in-Some-clause-step g c parts made)

pub search-requires-clause-some : goal.search-requires-clause-some
search-requires-clause-some g c = some_member c.args.w (let two = c.requires.two in omega (arith, two))
