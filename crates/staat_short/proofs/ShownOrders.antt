-- The certificates of what is shown are within the bounds of their text, and in its orders.
use Rattle.std.proofs.Common.{◌≡◌, ℕ, ◌+◌, ◌*◌, ◌<◌, ◌≤◌, List, [], ◌∷◌, ◌++◌, length, map, take, inl, inr, refl, sym, subst, ◌∙◌, arith, All, Contains}
use Rattle.std.specs.Prelude.{flat_map}
use Rattle.std.proofs.lemmas.List.Elements.{All-append, All-cons, All-contains, All-map, All-nil}
use Rattle.std.proofs.lemmas.List.FromFn.{length-range_with_len}
use Rattle.staat_vec.specs.declared.vector.V3.{V3}
use Rattle.staat_vec.specs.declared.vector.TheConstants.{DIRECTION}
use Rattle.staat_model.specs.declared.assembly.Part.{Part}
use Rattle.staat_model.specs.declared.certificate.Arc.{Arc}
use Rattle.staat_model.specs.declared.set.PartSet.{PartSet}
use Rattle.staat_model.specs.Assemblies.{IsProduct}
use Rattle.staat_model.specs.Plans.{IsGood, Plan, leaf, parts_of, split}
use Rattle.staat_model.specs.Sets.{Has, IsSubset, below}
use Rattle.staat_model.proofs.Members.{All-from_members}
use Rattle.staat_model.proofs.PartCounts.{piece_count_small}
use Rattle.staat_model.proofs.Places.{place_within}
use Rattle.staat_model.proofs.SetBits.{has-below}
use Rattle.staat_model.proofs.SetMembers.{has-single, has-union}
use Rattle.staat_holds.specs.declared.grouped.Group.{Group as GroupValue}
use Rattle.staat_holds.specs.declared.grouped.GroupedTree.{GroupedTree}
use Rattle.staat_holds.specs.declared.grouped.GroupedTree as tree
use Rattle.staat_holds.specs.declared.hold.Hold.{Hold}
use Rattle.staat_holds.specs.Chains.{IsHoldPair, IsName, KeepsHoldRules, names_before, own_names}
use Rattle.staat_holds.specs.Partials.{HasShownGroups, HasSmallDirections, HasSmallSteps, IsGoodPartial, IsOrderedHold, IsShownGroup, IsShownRest, partial_of, parts_in}
use Rattle.staat_short.specs.declared.line.ShortLine.TheVariants as line
use Rattle.staat_short.specs.declared.short.ShortAnswer.{ShortAnswer}
use Rattle.staat_short.specs.declared.short.ShortAnswer.TheVariants as answer
use Rattle.staat_short.specs.declared.short.ShortNode.{ShortNode}
use Rattle.staat_short.specs.declared.short.ShortNode.TheVariants.{Leaf, Split, Group}
use Rattle.staat_short.specs.PlanNodes.{grouped_plan_of, plan_nodes, without_groups}
use Rattle.staat_short.specs.ShortLines.{IsShortLine}
use Rattle.staat_short.specs.ShortTexts.{AreHoldsInOrder, IsHoldInOrder, IsShortInOrder, IsShortNodeInOrder, lines_of_answer, lines_of_hold, lines_of_short_node, short_nodes_of}
use Rattle.staat_short.proofs.PlanSizes.{few_nodes, own_groups, own_parts}
use Rattle.staat_short.proofs.PlanTrees.{no_groups, one_tree}
use Rattle.staat_vec.proofs.ListLaws.{All-flat_map, place_of}
use Rattle.staat_holds.proofs.ChainSteps.{names_after_length}

-- ---- holds

-- the hold is in order, and keeps the rules with names for all parts
record IsShownHold (parts : List Part) (hold : Hold) : Type 0 where
  pub names : List ℕ
  pub as_many : length names ≡ length parts
  pub ordered : IsOrderedHold hold
  pub keeps : KeepsHoldRules parts names hold

before_many : (parts : List Part) (holds : List Hold) (k : ℕ) → length (names_before parts holds k) ≡ length parts
before_many parts holds k = names_after_length (own_names (length parts)) (take k holds) ∙ length-range_with_len 0 (length parts)

group_shown : (parts : List Part) (group : GroupValue) → IsShownGroup parts group → All (IsShownHold parts) group.holds
group_shown parts group shown = All-from_members (IsShownHold parts) group.holds (λ hold c.
    let (k, at) = place_of group.holds hold c in record {
      names = names_before parts group.holds k;
      as_many = before_many parts group.holds k;
      ordered = All-contains IsOrderedHold group.holds hold shown.ordered c;
      keeps = shown.keep k hold (place_within group.holds k hold at) at;
    })

module _ (parts : List Part) (product : IsProduct parts) where
  part_line : (hold : Hold) (shown : IsShownHold parts hold) (p : ℕ) → Contains hold.nodes p → IsShortLine (line.Part p)
  part_line hold shown p c =
      let named : IsName shown.names p = All-contains (IsName shown.names) hold.nodes p shown.keeps.nodes c in
      let lt = place_within shown.names p p named in
      let many = shown.as_many in
      let most = product.at_most in
      omega (arith, lt, many, most)

  pair_line : (hold : Hold) (shown : IsShownHold parts hold) (pair : Arc) → Contains hold.pairs pair → IsShortLine (line.Pair pair)
  pair_line hold shown pair c =
      let is : IsHoldPair parts shown.names hold.nodes pair = All-contains (IsHoldPair parts shown.names hold.nodes) hold.pairs pair shown.keeps.pairs c in
      let b = is.pieces.b_in in
      let i = is.pieces.i_in in
      let j = is.pieces.j_in in
      let most = product.at_most in
      let pieces = product.pieces in
      let of_a = piece_count_small parts pair.a in
      let of_b = piece_count_small parts pair.b in record {
        i = omega (arith, i, of_a, pieces);
        b = omega (arith, b, most);
        j = omega (arith, j, of_b, pieces);
        below = All-contains (λ (q : Arc). q.a < q.b) hold.pairs pair shown.ordered.lesser c;
      }

  hold_lines : (hold : Hold) → IsShownHold parts hold → All IsShortLine (lines_of_hold hold)
  hold_lines hold shown = All-cons IsShortLine line.Hold (map line.Part hold.nodes ++ map line.Pair hold.pairs) tt
      (All-append IsShortLine (map line.Part hold.nodes) (map line.Pair hold.pairs)
      (All-map IsShortLine line.Part hold.nodes (All-from_members (λ p. IsShortLine (line.Part p)) hold.nodes (part_line hold shown)))
      (All-map IsShortLine line.Pair hold.pairs (All-from_members (λ pair. IsShortLine (line.Pair pair)) hold.pairs (pair_line hold shown))))

  holds_lines : (holds : List Hold) → All (IsShownHold parts) holds → All IsShortLine (flat_map lines_of_hold holds)
  holds_lines holds shown = All-flat_map IsShortLine lines_of_hold holds (λ hold c. hold_lines hold (All-contains (IsShownHold parts) holds hold shown c))

  holds_order : (holds : List Hold) → 1 ≤ length holds → All (IsShownHold parts) holds → AreHoldsInOrder holds
  holds_order holds some shown = record {
    some = some;
    each = All-from_members IsHoldInOrder holds (λ hold c. let o = (All-contains (IsShownHold parts) holds hold shown c).ordered in record { nodes = o.nodes; pairs = o.pairs });
  }

  -- ---- nodes

  -- the lines of a node are within their bounds, and its holds in order
  record IsFormed (node : ShortNode) : Type 0 where
    pub lines : All IsShortLine (lines_of_short_node node)
    pub order : IsShortNodeInOrder node

  leaf_formed : (p : ℕ) → p < length parts → IsFormed (Leaf p)
  leaf_formed p lt = record {
    lines = All-cons IsShortLine (line.Leaf p) [] (let most = product.at_most in omega (arith, lt, most)) (All-nil IsShortLine);
    order = tt;
  }

  split_formed : (d : V3) → Rattle.staat_vec.specs.Vectors.IsWithin DIRECTION d → IsFormed (Split d)
  split_formed d small = record { lines = All-cons IsShortLine (line.Split d) [] small (All-nil IsShortLine); order = tt }

  group_formed : (group : GroupValue) → IsShownGroup parts group → IsFormed (Group group.holds)
  group_formed group shown =
      let holds = group_shown parts group shown in record {
        lines = All-cons IsShortLine line.Group (flat_map lines_of_hold group.holds) tt (holds_lines group.holds holds);
        order = holds_order group.holds shown.some holds;
      }

  tree_formed : (w : PartSet) (t : GroupedTree) → IsSubset w (below (length parts)) → IsGoodPartial parts w (partial_of t) → HasShownGroups parts t → HasSmallSteps (partial_of t) → All IsFormed (short_nodes_of (grouped_plan_of t))
  tree_formed w (tree.Leaf p) within good shown small = All-cons IsFormed (Leaf p) []
      (leaf_formed p ((has-below (length parts) p).0 (within p (subst (λ (s : PartSet). Has s p) (sym good) ((has-single p p).1 refl))))) (All-nil IsFormed)
  tree_formed w (tree.Group group) within good shown small = All-cons IsFormed (Group group.holds) [] (group_formed group shown) (All-nil IsFormed)
  tree_formed w (tree.Split' d p m q r) within good shown small =
      let a = parts_in (partial_of m) in
      let b = parts_in (partial_of r) in
      let inside : IsSubset (Rattle.std.specs.FinSet.union a b) (below (length parts)) = subst (λ s. IsSubset s (below (length parts))) good.0 within in
      All-cons IsFormed (Split d) (short_nodes_of (grouped_plan_of m) ++ short_nodes_of (grouped_plan_of r)) (split_formed d small.0)
      (All-append IsFormed (short_nodes_of (grouped_plan_of m)) (short_nodes_of (grouped_plan_of r))
      (tree_formed a m (λ x h. inside x ((has-union a b x).1 (inl h))) good.3 shown.0 small.1)
      (tree_formed b r (λ x h. inside x ((has-union a b x).1 (inr h))) good.4 shown.1 small.2))

  plan_formed : (w : PartSet) (t : Plan) → IsSubset w (below (length parts)) → IsGood parts w t → HasSmallDirections t → All IsFormed (plan_nodes t)
  plan_formed w (leaf p) within good small = All-cons IsFormed (Leaf p) []
      (leaf_formed p ((has-below (length parts) p).0 (within p (subst (λ (s : PartSet). Has s p) (sym good) ((has-single p p).1 refl))))) (All-nil IsFormed)
  plan_formed w (split d m r) within good small =
      let a = parts_of m in
      let b = parts_of r in
      let inside : IsSubset (Rattle.std.specs.FinSet.union a b) (below (length parts)) = subst (λ s. IsSubset s (below (length parts))) good.0 within in
      All-cons IsFormed (Split d) (plan_nodes m ++ plan_nodes r) (split_formed d small.0)
      (All-append IsFormed (plan_nodes m) (plan_nodes r)
      (plan_formed a m (λ x h. inside x ((has-union a b x).1 (inl h))) good.3 small.1)
      (plan_formed b r (λ x h. inside x ((has-union a b x).1 (inr h))) good.4 small.2))

  nodes_lines : (nodes : List ShortNode) → All IsFormed nodes → All IsShortLine (flat_map lines_of_short_node nodes)
  nodes_lines nodes formed = All-flat_map IsShortLine lines_of_short_node nodes (λ node c. (All-contains IsFormed nodes node formed c).lines)

  nodes_order : (nodes : List ShortNode) → All IsFormed nodes → All IsShortNodeInOrder nodes
  nodes_order nodes formed = All-from_members IsShortNodeInOrder nodes (λ node c. (All-contains IsFormed nodes node formed c).order)

  -- ---- certificates

  whole_lines : (a : ShortAnswer) → All IsShortLine (lines_of_answer a) → All IsShortLine (line.Title ∷ line.Parts (length parts) ∷ (lines_of_answer a ++ line.End ∷ []))
  whole_lines a lines = All-cons IsShortLine line.Title (line.Parts (length parts) ∷ (lines_of_answer a ++ line.End ∷ [])) tt
      (All-cons IsShortLine (line.Parts (length parts)) (lines_of_answer a ++ line.End ∷ []) (product.at_least, product.at_most)
      (All-append IsShortLine (lines_of_answer a) (line.End ∷ []) lines (All-cons IsShortLine line.End [] tt (All-nil IsShortLine))))

  pub plan_ordered : (t : Plan) → IsGood parts (below (length parts)) t → HasSmallDirections t → IsShortInOrder (record { parts = length parts; answer = answer.Plan (plan_nodes t) })
  plan_ordered t good small =
      let formed = plan_formed (below (length parts)) t (λ p h. h) good small in record {
        lines = whole_lines (answer.Plan (plan_nodes t)) (All-cons IsShortLine line.Plan (flat_map lines_of_short_node (plan_nodes t)) tt (nodes_lines (plan_nodes t) formed));
        answer = (
          record {
            tree = without_groups t;
            is = one_tree t;
            most = subst (λ l. length l + 1 ≤ 2 * length parts) (sym (one_tree t)) (few_nodes (length parts) (without_groups t) (own_parts parts (below (length parts)) t good));
            each = nodes_order (plan_nodes t) formed;
          },
          no_groups t,
        );
      }

  pub rest_ordered : (t : GroupedTree) → IsShownRest parts t → IsShortInOrder (record { parts = length parts; answer = answer.Rest (short_nodes_of (grouped_plan_of t)) })
  rest_ordered t shown =
      let nodes = short_nodes_of (grouped_plan_of t) in
      let formed = tree_formed (below (length parts)) t (λ p h. h) shown.good shown.groups shown.directions in record {
        lines = whole_lines (answer.Rest nodes) (All-cons IsShortLine line.Rest (flat_map lines_of_short_node nodes) tt (nodes_lines nodes formed));
        answer = record {
          tree = grouped_plan_of t;
          is = refl;
          most = few_nodes (length parts) (grouped_plan_of t) (own_groups parts (below (length parts)) t shown.good);
          each = nodes_order nodes formed;
        };
      }

  pub stuck_ordered : (hold : Hold) → IsOrderedHold hold → KeepsHoldRules parts (own_names (length parts)) hold → IsShortInOrder (record { parts = length parts; answer = answer.Stuck (hold ∷ []) })
  stuck_ordered hold ordered keeps =
      let shown : All (IsShownHold parts) (hold ∷ []) = All-cons (IsShownHold parts) hold []
      (record { names = own_names (length parts); as_many = length-range_with_len 0 (length parts); ordered = ordered; keeps = keeps }) (All-nil (IsShownHold parts)) in record {
        lines = whole_lines (answer.Stuck (hold ∷ [])) (All-cons IsShortLine line.Stuck (flat_map lines_of_hold (hold ∷ [])) tt (holds_lines (hold ∷ []) shown));
        answer = holds_order (hold ∷ []) (let le : 1 ≤ length (hold ∷ []) = omega arith in le) shown;
      }
