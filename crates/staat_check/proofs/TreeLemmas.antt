-- The splits of a plan, one tree after another.
use Rattle.std.proofs.Common.{◌≡◌, ℕ, suc, ◌+◌, ◌-◌, ◌^◌, ◌<◌, ◌≤◌, arith, refl, sym, ap, ap₂, subst, ◌∙◌, List, [], ◌∷◌, ◌++◌, length, drop, take, get_or, append_assoc, append-nil, length-append, All}
use Rattle.std.specs.Prelude.{MatchOption, None, Option, Some, sum_by}
use Rattle.std.specs.Option.{option_or}
use Rattle.std.specs.FinSet as set
use Rattle.std.proofs.lemmas.List.{take_all}
use Rattle.std.proofs.lemmas.List.Elements.{All-append, All-cons, All-head, All-nil, All-tail}
use Rattle.std.proofs.lemmas.List.Sums.{sum_by-append, sum_by-cons}
use Rattle.staat_vec.specs.declared.vector.V3.{V3}
use Rattle.staat_model.specs.declared.assembly.Part.{Part}
use Rattle.staat_model.specs.declared.certificate.Node.{Node}
use Rattle.staat_model.specs.declared.certificate.Node.TheVariants.{Leaf, Split}
use Rattle.staat_model.specs.declared.certificate.Sep.{Sep}
use Rattle.staat_model.specs.declared.set.PartSet.{PartSet}
use Rattle.staat_model.specs.declared.verdict.Reason.{Reason}
use Rattle.staat_model.specs.Certificates.{WalledPlan, walled_leaf, walled_split, nodes_of, walled_parts, AreAllLeaves, IsLeafAt, SplitHolds}
use Rattle.staat_model.specs.Reasons.{EntryHolds, IsSplitReason, IsTreeReason, SplitEntry, first_line, node_size, splits_of}
use Rattle.staat_model.specs.Sets.{single}
use Rattle.staat_model.proofs.Members.{all_back, all_front}
use Rattle.staat_model.proofs.OneReason.{broken_at}
use Rattle.staat_model.proofs.PlanLemmas.{has_leaf}
use Rattle.staat_model.proofs.WalledNodes.{nodes_some}
use Rattle.staat_model.proofs.WholeLemmas.{left_within, right_within}
use Rattle.staat_check.specs.Trees.{ArePartsOf, BeginsTree, BreaksFirst, IsFitNode, IsFitTree, IsJudgedTree, TellsReason}
use Rattle.staat_check.specs.Verdicts.{IsFitPlan}

-- ---- the first node

pub some_nodes : (parts : List Part) (nodes : List Node) (number line : ℕ) → BeginsTree parts nodes number line → 1 ≤ length nodes
some_nodes parts nodes number line h = omega (arith, ap length h.is, length-append (nodes_of h.tree) h.more, nodes_some h.tree)

pub first_node : (nodes : List Node) (node : Node) → 1 ≤ length nodes → node ≡ get_or nodes 0 node → nodes ≡ node ∷ take (length nodes - 1) (drop 1 nodes)
first_node [] node some is = absurd (omega arith)
first_node (x ∷ nodes) node some is =
    let less : suc (length nodes) - 1 ≡ length nodes = omega arith in
    let rest : nodes ≡ take (suc (length nodes) - 1) nodes = sym (ap (λ n. take n nodes) less ∙ take_all (length nodes) nodes (omega arith)) in
    λ i. sym is i ∷ rest i

-- the two trees behind a split
pub record AreSides (d : V3) (seps : List Sep) (behind : List Node) (t : WalledPlan) (more : List Node) : Type 0 where
  pub moved : WalledPlan
  pub rest : WalledPlan
  pub tree_is : t ≡ walled_split d seps moved rest
  pub behind_are : behind ≡ nodes_of moved ++ (nodes_of rest ++ more)

pub sides : (d : V3) (seps : List Sep) (nodes behind : List Node) (t : WalledPlan) (more : List Node) → nodes ≡ Split d seps ∷ behind → nodes ≡ nodes_of t ++ more → AreSides d seps behind t more
sides d seps nodes behind (walled_leaf p) more is e = absurd (let clash : Split d seps ∷ behind ≡ Leaf p ∷ more = sym is ∙ e in cc)
sides d seps nodes behind (walled_split d' seps' m r) more is e =
    let both : Split d seps ∷ behind ≡ Split d' seps' ∷ ((nodes_of m ++ nodes_of r) ++ more) = sym is ∙ e in
    let ds : d' ≡ d = cc in
    let walls : seps' ≡ seps = cc in
    let tail : behind ≡ (nodes_of m ++ nodes_of r) ++ more = cc in
    record { moved = m; rest = r; tree_is = λ i. walled_split (ds i) (walls i) m r; behind_are = tail ∙ append_assoc (nodes_of m) (nodes_of r) more }

split_size : (d : V3) (seps : List Sep) (m r : WalledPlan) → sum_by node_size (nodes_of (walled_split d seps m r)) ≡ 1 + length seps + (sum_by node_size (nodes_of m) + sum_by node_size (nodes_of r))
split_size d seps m r = sum_by-cons node_size (Split d seps) (nodes_of m ++ nodes_of r) ∙ ap (λ n. 1 + length seps + n) (sum_by-append node_size (nodes_of m) (nodes_of r))

-- the first reason, of a split or of those behind it
told_in_turn : (parts : List Part) (x : SplitEntry) (ms rs : List SplitEntry) (own first second : Option Reason) → MatchOption own (EntryHolds parts x) (IsSplitReason parts x) → TellsReason parts ms first → TellsReason parts rs second
    → TellsReason parts (x ∷ (ms ++ rs)) (option_or (option_or own first) second)
told_in_turn parts x ms rs (Some reason) first second here a b = record { before = []; split = x; behind = ms ++ rs; is = refl; hold = All-nil (EntryHolds parts); reason_is = here }
told_in_turn parts x ms rs None (Some reason) second here a b = record {
  before = x ∷ a.before;
  split = a.split;
  behind = a.behind ++ rs;
  is = ap (λ l. x ∷ l) (ap (λ l. l ++ rs) a.is ∙ append_assoc a.before (a.split ∷ a.behind) rs);
  hold = All-cons (EntryHolds parts) x a.before here a.hold;
  reason_is = a.reason_is;
}
told_in_turn parts x ms rs None None (Some reason) here a b = record {
  before = x ∷ (ms ++ b.before);
  split = b.split;
  behind = b.behind;
  is = ap (λ l. x ∷ l) (ap (λ l. ms ++ l) b.is ∙ sym (append_assoc ms b.before (b.split ∷ b.behind)));
  hold = All-cons (EntryHolds parts) x (ms ++ b.before) here (All-append (EntryHolds parts) ms b.before a b.hold);
  reason_is = b.reason_is;
}
told_in_turn parts x ms rs None None None here a b = All-cons (EntryHolds parts) x (ms ++ rs) here (All-append (EntryHolds parts) ms rs a b)

module _ (parts : List Part) (number line : ℕ) where
  -- the first node, and the numbers of the second, are within their bounds
  abbrev pub FirstFits : Node → Type 0
  FirstFits node = (number + 1 < 2 ^ 32) × (line + node_size node < 2 ^ 32) × IsFitNode node

  pub first_fits : (nodes behind : List Node) (node : Node) → nodes ≡ node ∷ behind → BeginsTree parts nodes number line → FirstFits node
  first_fits nodes behind node is h = go h.tree (sym is ∙ h.is) h.fit
    where
      go : (t : WalledPlan) → node ∷ behind ≡ nodes_of t ++ h.more → IsFitTree parts t number line → FirstFits node
      go (walled_leaf p) e fit = let same : Leaf p ≡ node = cc in subst FirstFits same (omega (arith, fit.few), omega (arith, fit.lines), All-head IsFitNode (Leaf p) [] fit.nodes)
      go (walled_split d seps m r) e fit =
          let same : Split d seps ≡ node = cc in
          subst FirstFits same (omega (arith, fit.few), omega (arith, fit.lines, split_size d seps m r), All-head IsFitNode (Split d seps) (nodes_of m ++ nodes_of r) fit.nodes)

  -- ---- a leaf

  pub leaf_judged : (nodes behind : List Node) (p : ℕ) (leaves : PartSet) → nodes ≡ Leaf p ∷ behind → leaves ≡ single p → (t : WalledPlan) (more : List Node) → nodes ≡ nodes_of t ++ more
      → (behind ≡ more) × IsJudgedTree parts t number line leaves (number + 1) (line + 1) None
  leaf_judged nodes behind p leaves is e (walled_leaf q) more f =
      let both : Leaf p ∷ behind ≡ Leaf q ∷ more = sym is ∙ f in
      let same : p ≡ q = cc in
      ((let rest : behind ≡ more = cc in rest), record { leaves_are = e ∙ ap single same; next_is = refl; line_is = refl; told = All-nil (EntryHolds parts) })
  leaf_judged nodes behind p leaves is e (walled_split d seps m r) more f =
      absurd (let clash : Leaf p ∷ behind ≡ Split d seps ∷ ((nodes_of m ++ nodes_of r) ++ more) = sym is ∙ f in cc)

  -- ---- a split

  module _ (d : V3) (seps : List Sep) (nodes behind : List Node) (is : nodes ≡ Split d seps ∷ behind) where
    abbrev MovedFits : WalledPlan → Type 0
    MovedFits m = IsFitTree parts m (number + 1) (line + 1 + length seps)

    fit_sides : (m r : WalledPlan) → IsFitTree parts (walled_split d seps m r) number line → MovedFits m × IsFitTree parts r (number + 1 + length (nodes_of m)) (line + 1 + length seps + sum_by node_size (nodes_of m))
    fit_sides m r h =
        let behind_fit = All-tail IsFitNode (Split d seps) (nodes_of m ++ nodes_of r) h.nodes in
        let count = length-append (nodes_of m) (nodes_of r) in
        let size = split_size d seps m r in (
          record {
            nodes = all_front IsFitNode (nodes_of m) (nodes_of r) behind_fit;
            parts_in = λ p has. h.parts_in p (left_within (walled_parts m) (walled_parts r) p has);
            few = omega (arith, h.few, count);
            lines = omega (arith, h.lines, size);
          },
          record {
            nodes = all_back IsFitNode (nodes_of m) (nodes_of r) behind_fit;
            parts_in = λ p has. h.parts_in p (right_within (walled_parts m) (walled_parts r) p has);
            few = omega (arith, h.few, count);
            lines = omega (arith, h.lines, size);
          },
        )

    pub split_fit : (h : BeginsTree parts nodes number line) → (s : AreSides d seps behind h.tree h.more) × IsFitTree parts (walled_split d seps s.moved s.rest) number line
    split_fit h = let s = sides d seps nodes behind h.tree h.more is h.is in (s, subst (λ t. IsFitTree parts t number line) s.tree_is h.fit)

    pub moved_begins : BeginsTree parts nodes number line → BeginsTree parts behind (number + 1) (line + 1 + length seps)
    moved_begins h = let (s, fit) = split_fit h in record { tree = s.moved; more = nodes_of s.rest ++ h.more; is = s.behind_are; fit = (fit_sides s.moved s.rest fit).0 }

    -- where the tree of the side that moves was judged
    module _ (leaves : PartSet) (after : List Node) (next next_line : ℕ) (first : Option Reason)
        (judged : (t : WalledPlan) (more : List Node) → behind ≡ nodes_of t ++ more → (after ≡ more) × IsJudgedTree parts t (number + 1) (line + 1 + length seps) leaves next next_line first) where
      -- the nodes behind it begin with a tree too, and are fewer
      pub rest_begins : BeginsTree parts nodes number line → BeginsTree parts after next next_line × (length after < length nodes)
      rest_begins h =
          let (s, fit) = split_fit h in
          let (after_is, moved) = judged s.moved (nodes_of s.rest ++ h.more) s.behind_are in
          let at = fit_sides s.moved s.rest fit in (
            record { tree = s.rest; more = h.more; is = after_is; fit = subst (λ k. IsFitTree parts s.rest k next_line) (sym moved.next_is) (subst (λ k. IsFitTree parts s.rest (number + 1 + length (nodes_of s.moved)) k) (sym moved.line_is) at.1) },
            omega (arith, ap length is, ap length s.behind_are, ap length after_is, length-append (nodes_of s.moved) (nodes_of s.rest ++ h.more)),
          )

      -- the sides have parts of the assembly
      pub parts_of_sides : (rest : PartSet) (last last_line : ℕ) (second : Option Reason) → ((t : WalledPlan) (more : List Node) → after ≡ nodes_of t ++ more → IsJudgedTree parts t next next_line rest last last_line second)
          → BeginsTree parts nodes number line → ArePartsOf parts leaves × ArePartsOf parts rest
      parts_of_sides rest last last_line second rest_judged h =
          let (s, fit) = split_fit h in
          let (after_is, moved) = judged s.moved (nodes_of s.rest ++ h.more) s.behind_are in
          let behind_it = rest_judged s.rest h.more after_is in
          let fits = fit_sides s.moved s.rest fit in
          (subst (ArePartsOf parts) (sym moved.leaves_are) fits.0.parts_in, subst (ArePartsOf parts) (sym behind_it.leaves_are) fits.1.parts_in)

      pub split_judged : (rest all : PartSet) (behind_all : List Node) (last last_line : ℕ) (own second whole : Option Reason)
          → ((t : WalledPlan) (more : List Node) → after ≡ nodes_of t ++ more → (behind_all ≡ more) × IsJudgedTree parts t next next_line rest last last_line second)
          → MatchOption own (SplitHolds parts leaves rest d seps) (IsSplitReason parts (record { node = number; line = line; moved = leaves; rest = rest; d = d; seps = seps }))
          → all ≡ set.union leaves rest → whole ≡ option_or (option_or own first) second
          → (t : WalledPlan) (more : List Node) → nodes ≡ nodes_of t ++ more → (behind_all ≡ more) × IsJudgedTree parts t number line all last last_line whole
      split_judged rest all behind_all last last_line own second whole rest_judged said all_is whole_is t more e =
          let s = sides d seps nodes behind t more is e in
          let (after_is, m) = judged s.moved (nodes_of s.rest ++ more) s.behind_are in
          let (more_is, r) = rest_judged s.rest more after_is in
          let here = subst (λ (x : SplitEntry). MatchOption own (EntryHolds parts x) (IsSplitReason parts x)) (λ i. record { node = number; line = line; moved = m.leaves_are i; rest = r.leaves_are i; d = d; seps = seps }) said in
          let later = subst (λ (l : List SplitEntry). TellsReason parts l second) (λ i. splits_of s.rest (m.next_is i) (m.line_is i)) r.told in (
            more_is,
            subst (λ u. IsJudgedTree parts u number line all last last_line whole) (sym s.tree_is) (record {
              leaves_are = all_is ∙ ap₂ set.union m.leaves_are r.leaves_are;
              next_is = omega (arith, m.next_is, r.next_is, length-append (nodes_of s.moved) (nodes_of s.rest));
              line_is = omega (arith, m.line_is, r.line_is, split_size d seps s.moved s.rest);
              told = subst (TellsReason parts (splits_of (walled_split d seps s.moved s.rest) number line)) (sym whole_is) (told_in_turn parts
                  (record { node = number; line = line; moved = walled_parts s.moved; rest = walled_parts s.rest; d = d; seps = seps }) (splits_of s.moved (number + 1) (line + 1 + length seps))
                  (splits_of s.rest (number + 1 + length (nodes_of s.moved)) (line + 1 + length seps + sum_by node_size (nodes_of s.moved))) own first second here m.told later);
            }),
          )

-- ---- a plan

pub plan_begins : (parts : List Part) (nodes : List Node) → (fit : IsFitPlan nodes) → AreAllLeaves (length parts) nodes → BeginsTree parts nodes 0 first_line
plan_begins parts nodes fit leaves = record {
  tree = fit.tree;
  more = [];
  is = fit.is ∙ sym (append-nil (nodes_of fit.tree));
  fit = record {
    nodes = subst (All IsFitNode) fit.is fit.fit;
    parts_in = λ p has. let (k, leaf) = has_leaf fit.tree p has in leaves.each k p (subst (λ l. IsLeafAt l k p) (sym fit.is) leaf);
    few = omega (arith, fit.few, ap length fit.is);
    lines = omega (arith, fit.lines, ap (sum_by node_size) fit.is);
  };
}

pub plan_told : (parts : List Part) (t : WalledPlan) (reason : Reason) → BreaksFirst parts (splits_of t 0 first_line) reason → IsTreeReason parts t reason
plan_told parts t reason b = broken_at parts t b.before b.behind b.split reason b.is b.hold b.reason_is
