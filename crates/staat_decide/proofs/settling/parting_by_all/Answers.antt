use Rattle.std.proofs.Common.{◌≢◌, length, refl, subst}
use Rattle.std.specs.Prelude.{IfSome, Option}
use Rattle.staat_vec.specs.declared.vector.V3.{V3}
use Rattle.staat_vec.specs.declared.vector.TheConstants.{DIRECTION}
use Rattle.staat_vec.specs.Vectors.{IsWithin, origin}
use Rattle.staat_holds.specs.Holds.{IsFirstGap, JoinsNodes}
use Rattle.staat_holds.proofs.GapLemmas.{told_none}
use Rattle.staat_decide.specs.Decided.{IsLeaving}
use Rattle.staat_decide.specs.declared.decision.Leaving.{Leaving}
use Rattle.staat_decide.proofs.AllPairs.{never_told}
use Rattle.staat_decide.proofs.Held.{none_is}
use Rattle.staat_decide.proofs.Holdings.{hold_told}
use Rattle.staat_decide.proofs.settling.parting_by_all.Goals as goal

pub returns-in-None : goal.returns-in-None
returns-in-None g c =
    let A = JoinsNodes c.args.scene.now.parts.now c.as_slice-2.result.now (length c.args.w.now) c.as_slice-3.result.now in
    hold_told c.args.scene.now.parts.now c.args.w.now c.in_ok-nodes-in-None.nodes c.in_ok-pairs.pairs.items c.from_vec-pairs.result c.in_ok-places.places.items
    c.as_slice.result.now c.as_slice-2.result.now c.in_ok-pairs.pairs.items c.as_slice-3.result.now
    c.requires.bodies.parts_are c.requires.members c.requires.ascending c.requires.two c.in_ok-places.ensures
    c.as_slice.ensures.value c.as_slice-2.ensures.value refl c.as_slice-3.ensures.value
    c.in_ok-pairs.ensures.right (told_none A (λ v. A → ⊥) c.in_ok-first_gap.field-0 c.in-None.is c.in_ok-first_gap.ensures.held)
    c.in_ok-nodes-in-None.ensures c.from_vec-pairs.ensures

pub unreachable-requires : goal.unreachable-requires
unreachable-requires g c =
    let d = c.in-Some.d in
    let size = subst (λ (o : Option V3). IfSome o (λ v. (v ≢ origin) × IsWithin DIRECTION v)) c.in-Some.is c.in_ok-first_gap.ensures.size in
    let first = subst (λ (o : Option V3). IfSome o (IsFirstGap c.args.scene.now.parts.now c.as_slice-2.result.now (length c.args.w.now) c.as_slice-3.result.now)) c.in-Some.is c.in_ok-first_gap.ensures.first in
    never_told c.args.scene.now.parts.now c.args.w.now c.in_ok-pairs.pairs.items c.in_ok-places.places.items c.as_slice.result.now c.as_slice-2.result.now c.as_slice-3.result.now
    c.requires.members c.requires.ascending c.in_ok-places.ensures c.as_slice.ensures.value c.as_slice-2.ensures.value c.as_slice-3.ensures.value
    c.in_ok-pairs.ensures.all d size.0 first (none_is c.in_ok-leaving_at-in-Some.field-0 c.in-None-2.is c.in_ok-leaving_at-in-Some.ensures.none)

pub leaving_at-requires : goal.leaving_at-requires
leaving_at-requires g c =
    let size = subst (λ (o : Option V3). IfSome o (λ v. (v ≢ origin) × IsWithin DIRECTION v)) c.in-Some.is c.in_ok-first_gap.ensures.size in
    record { bodies = c.requires.bodies; members = c.requires.members; ascending = c.requires.ascending; moves = size.0; size = size.1 }

pub returns : goal.returns
returns g c =
    subst (λ (o : Option Leaving). IfSome o (IsLeaving c.args.scene.now.parts.now c.args.w.now)) c.in-Some-2.is c.in_ok-leaving_at-in-Some.ensures.some
