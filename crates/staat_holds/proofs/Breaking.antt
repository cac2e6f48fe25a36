-- A hold that breaks a rule does not keep the rules.
use Rattle.std.proofs.Common.{ℕ, List, length, arith}
use Rattle.staat_model.specs.declared.assembly.Part.{Part}
use Rattle.staat_model.proofs.Places.{place_within}
use Rattle.staat_holds.specs.declared.hold.BrokenHold.{BrokenHold}
use Rattle.staat_holds.specs.declared.hold.Hold.{Hold}
use Rattle.staat_holds.specs.declared.hold.HoldRule.{HoldRule}
use Rattle.staat_holds.specs.declared.hold.HoldRule.TheVariants.{BadPair, FewNodes, Gap, NoNode}
use Rattle.staat_holds.specs.Chains.{AllKeep, IsFirstBroken, IsFirstRule, IsHoldPair, IsName, KeepsHoldRules, names_before, places_of}
use Rattle.staat_holds.proofs.HoldVertices.{gap_not_joined}
use Rattle.staat_vec.proofs.ListLaws.{FailsFirst-some}

pub rule_breaks : (parts : List Part) (names : List ℕ) (hold : Hold) (rule : HoldRule) → IsFirstRule parts names hold rule → KeepsHoldRules parts names hold → ⊥
rule_breaks parts names hold (NoNode k) f keeps = FailsFirst-some (IsName names) hold.nodes k f keeps.nodes
rule_breaks parts names hold FewNodes f keeps = let few = f.1 in let two = keeps.two in absurd (omega (arith, few, two))
rule_breaks parts names hold (BadPair k) f keeps = FailsFirst-some (IsHoldPair parts names hold.nodes) hold.pairs k f.2 keeps.pairs
rule_breaks parts names hold (Gap v) f keeps = gap_not_joined parts (places_of hold.nodes names) (length hold.nodes) hold.pairs v f.3 keeps.joins

pub broken_breaks : (parts : List Part) (holds : List Hold) (broken : BrokenHold) → IsFirstBroken parts holds broken → AllKeep parts holds → ⊥
broken_breaks parts holds broken first keep =
    rule_breaks parts (names_before parts holds broken.hold) first.hold broken.rule first.rule
    (keep broken.hold first.hold (place_within holds broken.hold first.hold first.at) first.at)
