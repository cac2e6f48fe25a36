-- A round: the merged product, and what a hold of some of its parts makes of the nodes.
use Rattle.std.proofs.Common.{◌≡◌, ℕ, ◌<◌, ◌≤◌, ◌^◌, List, length, map, sym, ap, subst, arith, All}
use Rattle.std.specs.List.Sorted.{IsStrictlySortedBy}
use Rattle.std.specs.Ordering.{nat_cmp}
use Rattle.std.proofs.lemmas.List.Elements.{All-weaker}
use Rattle.staat_model.specs.declared.assembly.Part.{Part}
use Rattle.staat_model.proofs.Members.{All-from_members}
use Rattle.staat_model.proofs.Places.{place_within, some_at}
use Rattle.staat_holds.specs.declared.hold.Hold.{Hold}
use Rattle.staat_holds.specs.Chains.{IsName, KeepsHoldRules, joined_name, names_after, own_names}
use Rattle.staat_holds.specs.Partials.{IsOrderedHold}
use Rattle.staat_holds.proofs.NodeNames.{few_nodes}
use Rattle.staat_decide.specs.Decided.{IsStuckHold}
use Rattle.staat_rest.specs.declared.merging.Origin.{Origin}
use Rattle.staat_rest.specs.Merging.{AreMerged}
use Rattle.staat_rest.specs.Nodes.{AreJoined, AreShown, IsNodeHold, NamesOnly, holds_of}
use Rattle.staat_rest.specs.Turning.{original_hold, original_nodes}
use Rattle.staat_rest.proofs.CountSteps.{names_below, names_less}
use Rattle.staat_rest.proofs.MergedHold.{hold_keeps, nodes_ascend, nodes_named, nodes_two}
use Rattle.staat_rest.proofs.MergedPieces.{merged_count}
use Rattle.staat_rest.proofs.NextNodes.{name_lost, names_back, next_shown}
use Rattle.staat_rest.proofs.NodeSteps.{holds_keep, name_is}
use Rattle.staat_vec.proofs.ListLaws.{place_of}

-- the same for lists that are equal to these
pub are_as : (parts : List Part) (now names heads heads_now : List ℕ) (origins origins_now : List (List Origin)) (merged merged_now : List Part)
    → now ≡ names → heads_now ≡ heads → origins_now ≡ origins → merged_now ≡ merged → AreMerged parts now heads origins merged → AreMerged parts names heads_now origins_now merged_now
are_as parts now names heads heads_now origins origins_now merged merged_now e f g h are =
    subst (λ (ns : List ℕ). AreMerged parts ns heads_now origins_now merged_now) e
    (subst (λ (hs : List ℕ). AreMerged parts now hs origins_now merged_now) (sym f)
    (subst (λ (os : List (List Origin)). AreMerged parts now heads os merged_now) (sym g)
    (subst (λ (ms : List Part). AreMerged parts now heads origins ms) (sym h) are)))

-- there is a merged part
pub some_merged : (parts : List Part) (names heads : List ℕ) (lists : List (List Hold)) (origins : List (List Origin)) (merged : List Part)
    → AreShown parts names lists → AreMerged parts names heads origins merged → 1 ≤ length parts → 1 ≤ length merged
some_merged parts names heads lists origins merged shown are some =
    let many = shown.many in
    let (n, of) = some_at names 0 (omega (arith, some, many)) in
    let (k, at) = place_of heads n (are.heads_are.all n (name_is names shown.names_are 0 n of)) in
    let lt = place_within heads k n at in
    let count = merged_count parts names heads origins merged are in
    omega (arith, lt, count)

-- and there are no more of them than parts
pub few_merged : (parts : List Part) (names heads : List ℕ) (lists : List (List Hold)) (origins : List (List Origin)) (merged : List Part)
    → AreShown parts names lists → AreMerged parts names heads origins merged → length parts < 2 ^ 32 → length merged < 2 ^ 32
few_merged parts names heads lists origins merged shown are few =
    let many = shown.many in
    let below = few_nodes names heads are.heads_are.ascending (All-from_members (IsName names) heads (λ n c. are.heads_are.each n c)) (omega (arith, few, many)) in
    let count = merged_count parts names heads origins merged are in
    omega (arith, below, count)

module _ (parts : List Part) (names heads : List ℕ) (lists : List (List Hold)) (origins : List (List Origin)) (merged : List Part)
    (shown : AreShown parts names lists) (are : AreMerged parts names heads origins merged)
    (hold turned : Hold) (stuck : IsStuckHold merged hold) (nodes : turned.nodes ≡ original_nodes heads hold.nodes)
    (ordered : (ps : List Part) (ns : List ℕ) → IsStrictlySortedBy nat_cmp (original_nodes heads hold.nodes) → KeepsHoldRules ps ns (original_hold heads origins hold) → IsOrderedHold turned)
    (keeps : (ps : List Part) (ns : List ℕ) → KeepsHoldRules ps ns (original_hold heads origins hold) → KeepsHoldRules ps ns turned) where
  turned_two : 2 ≤ length turned.nodes
  turned_two = let two = nodes_two parts names heads origins merged are hold stuck in let long = ap length nodes in omega (arith, two, long)

  turned_named : All (IsName names) turned.nodes
  turned_named = subst (All (IsName names)) (sym nodes) (nodes_named parts names heads origins merged are hold stuck)

  abbrev now : List ℕ
  now = names_after (own_names (length parts)) (holds_of lists turned.nodes)

  ascend : IsStrictlySortedBy nat_cmp (original_nodes heads hold.nodes)
  ascend = nodes_ascend parts names heads origins merged are hold stuck

  original_keeps : KeepsHoldRules parts now (original_hold heads origins hold)
  original_keeps =
      let only = (holds_keep parts names shown.many shown.names_are lists turned.nodes shown.each (subst (IsStrictlySortedBy nat_cmp) (sym nodes) ascend) turned_named).1 in
      hold_keeps parts names heads origins merged are hold stuck now (subst (λ ns. NamesOnly names ns now) nodes only)

  pub node_hold : IsNodeHold parts names lists turned
  node_hold = record { ordered = ordered parts now ascend original_keeps; two = turned_two; named = turned_named; keeps = keeps parts now original_keeps }

module _ (parts : List Part) (names : List ℕ) (lists : List (List Hold)) (shown : AreShown parts names lists) (hold : Hold) (is : IsNodeHold parts names lists hold) where
  pub hold_within : All (λ n. n < length lists) hold.nodes
  hold_within =
      let many = shown.many in
      let lists_many = shown.lists_many in
      All-weaker (IsName names) (λ n. n < length lists) (λ n named. let lt = place_within names n n named in omega (arith, lt, many, lists_many)) hold.nodes is.named

  pub round_next : (next : List ℕ) (new : List (List Hold)) → next ≡ map (joined_name hold.nodes) names → AreJoined lists hold new → AreShown parts next new
  round_next next new same joined =
      subst (λ ns. AreShown parts ns new) (sym same) (next_shown parts names lists hold shown is.ordered is.two is.named is.keeps new joined)

  pub round_less : (next : List ℕ) → next ≡ map (joined_name hold.nodes) names → names_below next (length parts) < names_below names (length parts)
  round_less next same =
      let (q, of, lost) = name_lost parts names lists hold shown is.ordered is.two is.named is.keeps in
      let lt = place_within names q q of in
      let many = shown.many in
      subst (λ ns. names_below ns (length parts) < names_below names (length parts)) (sym same)
      (names_less names (map (joined_name hold.nodes) names) (length parts) q (names_back parts names lists hold shown is.ordered is.two is.named is.keeps) (omega (arith, lt, many)) of lost)
