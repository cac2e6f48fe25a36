use Rattle.std.proofs.Common.{◌≤◌, All, List, length, subst, ℕ}
use Rattle.staat_vec.specs.Lists.{FailsFirst}
use Rattle.staat_holds.specs.Chains.{IsName}
use Rattle.staat_holds.proofs.NodeNames.{few_nodes}
use Rattle.staat_holds.proofs.rules.broken_rule.Goals as goal

pub returns-in-Some : goal.returns-in-Some
returns-in-Some g c = subst (λ (ns : List ℕ). FailsFirst (IsName c.args.names.now) ns c.in-Some.k) c.as_slice-nodes.ensures c.in-Some.ensures

pub broken_pairs-requires : goal.broken_pairs-requires
broken_pairs-requires g c =
    let nodes = subst (All (IsName c.args.names.now)) c.as_slice-nodes.ensures c.in_default.ensures in
    record {
      parts = c.requires.parts;
      nodes = nodes;
      two = subst (λ (ns : List ℕ). 2 ≤ length ns) c.as_slice-nodes.ensures c.if-nodes-lt2.false;
      few = few_nodes c.args.names.now c.args.hold.now.nodes c.requires.ascending nodes c.requires.few;
    }

pub returns : goal.returns
returns g c = c.broken_pairs.ensures
