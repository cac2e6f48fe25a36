use Rattle.std.proofs.Common.{◌≡◌, ◌≤ℤ◌, pos, refl, subst, sym, List, All}
use Rattle.std.proofs.lemmas.List.Elements.{All-contains, All-weaker}
use Rattle.staat_vec.specs.declared.vector.V3.{V3}
use Rattle.staat_vec.specs.declared.vector.TheConstants.{DIFF}
use Rattle.staat_vec.specs.Vectors.{IsWithin, dot}
use Rattle.staat_vec.proofs.Integers.{negative_nonneg_clash}
use Rattle.staat_model.specs.Cones.{IsAbove}
use Rattle.staat_cone.specs.Few.{IsDifferenceStep}
use Rattle.staat_cone.proofs.PairLemmas.{refused}
use Rattle.staat_cone.proofs.FewLemmas.{grown_dropped, grown_found, last, ready_violated}
use Rattle.staat_cone.proofs.few.settle.Goals as goal

pub returns-then-not-is_above-clause-grown : goal.returns-then-not-is_above-clause-grown
returns-then-not-is_above-clause-grown c =
    let few = c.args.few.now in
    grown_dropped c.args.p.now c.args.q.now few.members.items few.untested.items few.found.items c.args.n c.requires
    (λ up. refused c.is_above.result (IsAbove c.args.n c.as_slice.result.now) c.is_above.ensures c.if-not-is_above.true (subst (IsAbove c.args.n) (sym c.as_slice.ensures.value) up))

pub returns-in_ok-insert-in-Some-clause-grown : goal.returns-in_ok-insert-in-Some-clause-grown
returns-in_ok-insert-in-Some-clause-grown c =
    let few = c.args.few.now in
    c.in_ok-insert-in-Some.ensures.grown c.args.p.now c.args.q.now
    (ready_violated c.args.p.now c.args.q.now few.members.items few.untested.items few.found.items c.args.n c.requires c.in-Some.v c.in-Some.ensures.some)

pub returns-in_ok-push-in-None-clause-grown : goal.returns-in_ok-push-in-None-clause-grown
returns-in_ok-push-in-None-clause-grown c =
    let few = c.args.few.now in
    grown_found c.args.p.now c.args.q.now few.members.items few.untested.items few.found.items c.args.n c.requires c.push.new.self.items c.primitive_normal.result c.in-None.ensures.none c.primitive_normal.ensures c.in_ok-push-in-None.ensures.items

-- no difference lies behind a wall before all of the few, where they have all differences
pub returns-in_ok-insert-in-Some-clause-whole : goal.returns-in_ok-insert-in-Some-clause-whole
returns-in_ok-insert-in-Some-clause-whole c all =
    let few = c.args.few.now.members.items in
    let v = c.in-Some.v in
    let up = subst (IsAbove c.args.n) c.as_slice.ensures.value (c.is_above.ensures.0 c.if-not-is_above.false) in
    absurd {A = c.insert.new.self.untested.items ≡ c.args.few.now.untested.items} (negative_nonneg_clash (dot v c.args.n) c.in-Some.ensures.some.behind (All-contains (λ w. pos 0 ≤ℤ dot w c.args.n) few v up (all v c.in-Some.ensures.some.step.difference)))

members_within : (p q few vs : List V3) → vs ≡ few → All (IsDifferenceStep p q) few → All (IsWithin DIFF) vs
members_within p q few vs e h =
    subst (All (IsWithin DIFF)) (sym e) (All-weaker (IsDifferenceStep p q) (IsWithin DIFF) (λ v step. step.within) few h)

pub is_above-requires-clause-normal : goal.is_above-requires-clause-normal
is_above-requires-clause-normal c =
    (last _ _ _ c.args.few.now.untested.items _ c.args.n c.requires).within

pub is_above-requires-clause-vectors : goal.is_above-requires-clause-vectors
is_above-requires-clause-vectors c =
    members_within c.args.p.now c.args.q.now c.args.few.now.members.items c.as_slice.result.now c.as_slice.ensures.value c.requires.steps

pub violator-requires : goal.violator-requires
violator-requires c = record {
  normal = (last _ _ _ c.args.few.now.untested.items _ c.args.n c.requires).within;
}

pub insert-requires-clause-members : goal.insert-requires-clause-members
insert-requires-clause-members c =
    members_within c.args.p.now c.args.q.now c.args.few.now.members.items c.args.few.now.members.items refl c.requires.steps

pub primitive_normal-requires-clause-some : goal.primitive_normal-requires-clause-some
primitive_normal-requires-clause-some c =
    (last _ _ _ c.args.few.now.untested.items _ c.args.n c.requires).some

pub primitive_normal-requires-clause-normal : goal.primitive_normal-requires-clause-normal
primitive_normal-requires-clause-normal c =
    (last _ _ _ c.args.few.now.untested.items _ c.args.n c.requires).within
