use Rattle.std.proofs.Common.{◌≢◌, ℕ, List, sym, subst, All}
use Rattle.std.specs.Prelude.{MatchOption, Option, None, Some, IfSome}
use Rattle.std.proofs.lemmas.Result.{IfOk-weaker}
use Rattle.staat_vec.specs.declared.vector.V3.{V3}
use Rattle.staat_vec.specs.declared.vector.TheConstants.{DIRECTION}
use Rattle.staat_vec.specs.Lists.{IsFirst}
use Rattle.staat_vec.specs.Vectors.{IsWithin, origin}
use Rattle.staat_vec.proofs.Unique.{IsFirst-in}
use Rattle.staat_model.specs.Planes.{vertices}
use Rattle.staat_model.proofs.PlaneLemmas.{NoneParallel}
use Rattle.staat_holds.specs.declared.links.Link.{Link}
use Rattle.staat_holds.specs.Holds.{IsFirstGap, JoinsNodes}
use Rattle.staat_holds.specs.Links.{AreLinkPlanes, IsGap, IsJoined}
use Rattle.staat_holds.proofs.GapSizes.{gap_size}
use Rattle.staat_holds.proofs.HoldVertices.{first_gap_is, gap_not_held, joined_held, planes_apart}
use Rattle.staat_holds.proofs.judge.first_gap.Goals as goal

pub gap_among-requires-clause-apart : goal.gap_among-requires-clause-apart
gap_among-requires-clause-apart g c =
    let of_links = subst (λ (ls : List Link). AreLinkPlanes ls c.in_ok-planes.planes.items) c.as_slice.ensures c.in_ok-planes.ensures.planes in
    subst NoneParallel (sym c.as_slice-3.ensures.value) (planes_apart c.args.parts.now c.requires.parts c.args.nodes.now c.args.count c.args.core.now c.in_ok-links.links c.in_ok-links.ensures.are c.in_ok-planes.planes.items of_links)

told : (links : List Link) (count : ℕ) (planes : List V3) (gap : Option V3) (H : Type 0) (F : V3 → Type 0) → MatchOption gap (All (IsJoined links count) (vertices planes)) (IsFirst (IsGap links count) (vertices planes))
    → (All (IsJoined links count) (vertices planes) → H) → ((v : V3) → IsFirst (IsGap links count) (vertices planes) v → F v) → MatchOption gap H F
told links count planes None H F tells none some = none tells
told links count planes (Some v) H F tells none some = some v tells

known : (gap : Option V3) (H : Type 0) (F : V3 → Type 0) → MatchOption gap H F → IfSome gap F
known None H F tells = tt
known (Some v) H F tells = tells

pub returns-clause-held : goal.returns-clause-held
returns-clause-held g c =
    let parts = c.args.parts.now in
    let links = c.in_ok-links.links in
    let planes = c.in_ok-planes.planes.items in
    IfOk-weaker c.gap_among.result _ _ (λ gap found.
    let first = subst (λ (ls : List Link). MatchOption gap (All (IsJoined ls c.args.count) (vertices c.as_slice-3.result.now)) (IsFirst (IsGap ls c.args.count) (vertices c.as_slice-3.result.now))) c.as_slice-2.ensures found in
    let tells = subst (λ (ps : List V3). MatchOption gap (All (IsJoined links c.args.count) (vertices ps)) (IsFirst (IsGap links c.args.count) (vertices ps))) c.as_slice-3.ensures.value first in
    let of_links = subst (λ (ls : List Link). AreLinkPlanes ls planes) c.as_slice.ensures c.in_ok-planes.ensures.planes in
    told links c.args.count planes gap (JoinsNodes parts c.args.nodes.now c.args.count c.args.core.now) (λ v. JoinsNodes parts c.args.nodes.now c.args.count c.args.core.now → ⊥) tells
    (joined_held parts c.requires.parts c.args.nodes.now c.args.count c.args.core.now links c.in_ok-links.ensures.are planes of_links)
    (gap_not_held parts c.requires.parts c.args.nodes.now c.args.count c.args.core.now links c.in_ok-links.ensures.are planes of_links)) c.gap_among.ensures

pub returns-clause-first : goal.returns-clause-first
returns-clause-first g c =
    let parts = c.args.parts.now in
    let links = c.in_ok-links.links in
    let planes = c.in_ok-planes.planes.items in
    IfOk-weaker c.gap_among.result _ _ (λ gap found.
    let first = subst (λ (ls : List Link). MatchOption gap (All (IsJoined ls c.args.count) (vertices c.as_slice-3.result.now)) (IsFirst (IsGap ls c.args.count) (vertices c.as_slice-3.result.now))) c.as_slice-2.ensures found in
    let tells = subst (λ (ps : List V3). MatchOption gap (All (IsJoined links c.args.count) (vertices ps)) (IsFirst (IsGap links c.args.count) (vertices ps))) c.as_slice-3.ensures.value first in
    let of_links = subst (λ (ls : List Link). AreLinkPlanes ls planes) c.as_slice.ensures c.in_ok-planes.ensures.planes in
    known gap (JoinsNodes parts c.args.nodes.now c.args.count c.args.core.now) (IsFirstGap parts c.args.nodes.now c.args.count c.args.core.now)
    (told links c.args.count planes gap (JoinsNodes parts c.args.nodes.now c.args.count c.args.core.now) (IsFirstGap parts c.args.nodes.now c.args.count c.args.core.now) tells
    (joined_held parts c.requires.parts c.args.nodes.now c.args.count c.args.core.now links c.in_ok-links.ensures.are planes of_links)
    (first_gap_is parts c.requires.parts c.args.nodes.now c.args.count c.args.core.now links c.in_ok-links.ensures.are planes of_links))) c.gap_among.ensures

pub returns-clause-size : goal.returns-clause-size
returns-clause-size g c =
    let links = c.in_ok-links.links in
    let planes = c.in_ok-planes.planes.items in
    IfOk-weaker c.gap_among.result _ _ (λ gap found.
    let first = subst (λ (ls : List Link). MatchOption gap (All (IsJoined ls c.args.count) (vertices c.as_slice-3.result.now)) (IsFirst (IsGap ls c.args.count) (vertices c.as_slice-3.result.now))) c.as_slice-2.ensures found in
    let tells = subst (λ (ps : List V3). MatchOption gap (All (IsJoined links c.args.count) (vertices ps)) (IsFirst (IsGap links c.args.count) (vertices ps))) c.as_slice-3.ensures.value first in
    let of_links = subst (λ (ls : List Link). AreLinkPlanes ls planes) c.as_slice.ensures c.in_ok-planes.ensures.planes in
    let apart = planes_apart c.args.parts.now c.requires.parts c.args.nodes.now c.args.count c.args.core.now links c.in_ok-links.ensures.are planes of_links in
    known gap (All (IsJoined links c.args.count) (vertices planes)) (λ v. (v ≢ origin) × IsWithin DIRECTION v)
    (told links c.args.count planes gap (All (IsJoined links c.args.count) (vertices planes)) (λ v. (v ≢ origin) × IsWithin DIRECTION v) tells (λ all. all)
    (λ v is. let size = gap_size planes c.in_ok-planes.ensures.within apart v (IsFirst-in (IsGap links c.args.count) (vertices planes) v is).0 in (size.some, size.within)))) c.gap_among.ensures
