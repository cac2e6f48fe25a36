use Rattle.std.proofs.Common.{◌≡◌, ◌∙◌, ℕ, List, All, length, subst}
use Rattle.std.specs.Prelude.{Option}
use Rattle.staat_model.specs.declared.certificate.Arc.{Arc}
use Rattle.staat_holds.specs.Chains.{places_of}
use Rattle.staat_holds.specs.Holds.{IsCorePair, IsFirstGap, JoinsNodes}
use Rattle.staat_holds.proofs.FirstFailing.{bad_pair}
use Rattle.staat_holds.proofs.rules.broken_pairs.Goals as goal

pub returns-in-Some : goal.returns-in-Some
returns-in-Some g c =
    let hold = c.args.hold.now in
    let fails = bad_pair c.args.parts.now c.args.names.now c.as_slice.result.now hold.nodes c.as_slice-nodes.result.now hold.pairs c.as_slice-pairs.result.now c.in-Some.k
    c.as_slice-nodes.ensures c.as_slice-pairs.ensures (c.as_slice.ensures.value ∙ c.in_ok-places.ensures) c.in-Some.ensures in
    (c.requires.nodes, c.requires.two, fails)

-- what holds of the nodes, their places and the pairs as seen in other places
as_held : (P : List ℕ → List (Option ℕ) → List Arc → Type 0) (names nodes ns : List ℕ) (pairs ps : List Arc) (places : List (Option ℕ))
    → ns ≡ nodes → ps ≡ pairs → places ≡ places_of ns names → P ns places ps → P nodes (places_of nodes names) pairs
as_held P names nodes ns pairs ps places same_nodes same_pairs is held =
    subst (λ qs. P nodes (places_of nodes names) qs) same_pairs
    (subst (λ ms. P ms (places_of ms names) ps) same_nodes (subst (λ qs. P ns qs ps) is held))

pub returns : goal.returns
returns g c =
    let parts = c.args.parts.now in
    let hold = c.args.hold.now in
    let nodes = c.as_slice-nodes.result.now in
    let pairs = c.as_slice-pairs.result.now in
    let joins = rw c.in-None.is at c.in_ok-v.ensures.held in
    record {
      nodes = c.requires.nodes;
      two = c.requires.two;
      pairs = as_held (λ ns qs ps. All (IsCorePair parts qs (length ns)) ps) c.args.names.now hold.nodes nodes hold.pairs pairs c.as_slice.result.now
          c.as_slice-nodes.ensures c.as_slice-pairs.ensures (c.as_slice.ensures.value ∙ c.in_ok-places.ensures) c.in_default.ensures;
      joins = as_held (λ ns qs ps. JoinsNodes parts qs (length ns) ps) c.args.names.now hold.nodes nodes hold.pairs pairs c.as_slice-2.result.now
          c.as_slice-nodes.ensures c.as_slice-pairs.ensures (c.as_slice-2.ensures.value ∙ c.in_ok-places.ensures) joins;
    }

pub returns-in-Some-2 : goal.returns-in-Some-2
returns-in-Some-2 g c =
    let parts = c.args.parts.now in
    let hold = c.args.hold.now in
    let nodes = c.as_slice-nodes.result.now in
    let pairs = c.as_slice-pairs.result.now in
    let first = rw c.in-Some-2.is at c.in_ok-v.ensures.first in (
      c.requires.nodes,
      c.requires.two,
      as_held (λ ns qs ps. All (IsCorePair parts qs (length ns)) ps) c.args.names.now hold.nodes nodes hold.pairs pairs c.as_slice.result.now
          c.as_slice-nodes.ensures c.as_slice-pairs.ensures (c.as_slice.ensures.value ∙ c.in_ok-places.ensures) c.in_default.ensures,
      as_held (λ ns qs ps. IsFirstGap parts qs (length ns) ps c.in-Some-2.v) c.args.names.now hold.nodes nodes hold.pairs pairs c.as_slice-2.result.now
          c.as_slice-nodes.ensures c.as_slice-pairs.ensures (c.as_slice-2.ensures.value ∙ c.in_ok-places.ensures) first,
    )
