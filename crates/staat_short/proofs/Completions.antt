-- Each certificate's lines may stand, and each front is that of a certificate.
use Rattle.std.proofs.Common.{◌≡◌, ◌++◌, ◌∷◌, ◌+◌, ◌*◌, ◌≤◌, ℕ, zero, suc, List, [], map, length, All, ap, sym, subst, refl, ◌∙◌, arith, append_assoc, append-nil, length-append}
use Rattle.std.specs.Prelude.{Option, Some, None, nat_le, flat_map}
use Rattle.std.specs.List.Sorted.{IsStrictlySortedBy}
use Rattle.std.specs.Ordering.{nat_cmp}
use Rattle.std.proofs.lemmas.Bool.{le-leb}
use Rattle.std.proofs.lemmas.List.Concat.{flat_map-cons}
use Rattle.std.proofs.lemmas.List.Elements.{All-cons, All-head, All-nil, All-tail}
use Rattle.std.proofs.lemmas.Grind.{flat_map-append}
use Rattle.staat_vec.specs.declared.vector.V3.{V3}
use Rattle.staat_model.specs.declared.certificate.Arc.{Arc}
use Rattle.staat_model.specs.Certificates.{arc_cmp}
use Rattle.staat_model.proofs.Members.{all_back, all_front}
use Rattle.staat_holds.specs.declared.hold.Hold.{Hold}
use Rattle.staat_cert.specs.Machine.{follows}
use Rattle.staat_cert.proofs.Formats.{in_turn, onward}
use Rattle.staat_cert.proofs.Lists.{all_one, length_one}
use Rattle.staat_short.specs.declared.stage.PlanKind.{PlanKind}
use Rattle.staat_short.specs.declared.stage.PlanKind.TheVariants as kind
use Rattle.staat_short.specs.declared.short.ShortNode.{ShortNode}
use Rattle.staat_short.specs.declared.short.ShortNode.TheVariants.{Leaf, Split, Group}
use Rattle.staat_short.specs.declared.short.ShortAnswer.{ShortAnswer}
use Rattle.staat_short.specs.declared.short.ShortAnswer.TheVariants as answer
use Rattle.staat_short.specs.declared.short.ShortCertificate.{ShortCertificate}
use Rattle.staat_short.specs.declared.line.ShortLine.{ShortLine}
use Rattle.staat_short.specs.declared.line.ShortLine.TheVariants as line
use Rattle.staat_short.specs.ShortLines.{IsShortLine}
use Rattle.staat_short.specs.ShortTexts.{GroupedPlan, part_alone, grouped, taken_apart, short_nodes_of, lines_of_hold, lines_of_short_node, short_lines, AreHoldsInOrder, IsAnswerInOrder, IsHoldInOrder, IsRestInOrder, IsShortInOrder, IsShortNodeInOrder, IsUngrouped}
use Rattle.staat_short.specs.Fronts.{Place, whole_answer, in_plan, Front, untitled, titled, counting, planning, holding, complete, holds_in, grouped_in, short_answer, after_leaf, after_split, after_group, after_end, front_after, after_lines}
use Rattle.staat_short.proofs.FrontLines.{follows_in, lines_good}
use Rattle.staat_vec.proofs.Options.{let_through}

-- ---- holds

abbrev open_hold : List ℕ → List Arc → Hold
open_hold nodes pairs = record { nodes = nodes; pairs = pairs }

parts_run : (n : ℕ) (place : Place) (holds : List Hold) (nodes more : List ℕ) → IsStrictlySortedBy nat_cmp (nodes ++ more) → after_lines (Some (holding n place holds (Some (open_hold nodes [])))) (map line.Part more) ≡ Some (holding n place holds (Some (open_hold (nodes ++ more) [])))
parts_run n place holds nodes [] h = ap (λ l. Some (holding n place holds (Some (open_hold l [])))) (sym (append-nil nodes))
parts_run n place holds nodes (p ∷ more) h =
    let regrouped : (nodes ++ p ∷ []) ++ more ≡ nodes ++ p ∷ more = append_assoc nodes (p ∷ []) more in
    onward front_after (holding n place holds (Some (open_hold nodes []))) (holding n place holds (Some (open_hold (nodes ++ p ∷ []) []))) (line.Part p) (map line.Part more) (let_through (follows nat_cmp nodes p) _ (follows_in nat_cmp nodes p more h))
    ∙ parts_run n place holds (nodes ++ p ∷ []) more (subst (IsStrictlySortedBy nat_cmp) (sym regrouped) h)
    ∙ ap (λ l. Some (holding n place holds (Some (open_hold l [])))) regrouped

pairs_run : (n : ℕ) (place : Place) (holds : List Hold) (nodes : List ℕ) (pairs more : List Arc) → IsStrictlySortedBy arc_cmp (pairs ++ more) → after_lines (Some (holding n place holds (Some (open_hold nodes pairs)))) (map line.Pair more) ≡ Some (holding n place holds (Some (open_hold nodes (pairs ++ more))))
pairs_run n place holds nodes pairs [] h = ap (λ l. Some (holding n place holds (Some (open_hold nodes l)))) (sym (append-nil pairs))
pairs_run n place holds nodes pairs (p ∷ more) h =
    let regrouped : (pairs ++ p ∷ []) ++ more ≡ pairs ++ p ∷ more = append_assoc pairs (p ∷ []) more in
    onward front_after (holding n place holds (Some (open_hold nodes pairs))) (holding n place holds (Some (open_hold nodes (pairs ++ p ∷ [])))) (line.Pair p) (map line.Pair more) (let_through (follows arc_cmp pairs p) _ (follows_in arc_cmp pairs p more h))
    ∙ pairs_run n place holds nodes (pairs ++ p ∷ []) more (subst (IsStrictlySortedBy arc_cmp) (sym regrouped) h)
    ∙ ap (λ l. Some (holding n place holds (Some (open_hold nodes l)))) regrouped

hold_runs : (n : ℕ) (place : Place) (holds : List Hold) (last : Option Hold) (hold : Hold) → IsHoldInOrder hold → after_lines (Some (holding n place holds last)) (lines_of_hold hold) ≡ Some (holding n place (holds_in holds last) (Some hold))
hold_runs n place holds last hold h =
    let all : List Hold = holds_in holds last in
    onward front_after (holding n place holds last) (holding n place all (Some (open_hold [] []))) line.Hold (map line.Part hold.nodes ++ map line.Pair hold.pairs) refl
    ∙ in_turn front_after (holding n place all (Some (open_hold [] []))) (holding n place all (Some (open_hold hold.nodes []))) (holding n place all (Some hold)) (map line.Part hold.nodes) (map line.Pair hold.pairs) (parts_run n place all [] hold.nodes h.nodes) (pairs_run n place all hold.nodes [] hold.pairs h.pairs)

-- holds that lead to these ones
record HoldsReach (n : ℕ) (place : Place) (s : Front) (ls : List ShortLine) (all : List Hold) : Type 0 where
  front : List Hold
  hold : Hold
  is : after_lines (Some s) ls ≡ Some (holding n place front (Some hold))
  all_are : front ++ hold ∷ [] ≡ all

holds_run : (n : ℕ) (place : Place) (more : List Hold) (holds : List Hold) (last : Option Hold) (hold : Hold) → All IsHoldInOrder (hold ∷ more) → HoldsReach n place (holding n place holds last) (flat_map lines_of_hold (hold ∷ more)) (holds_in holds last ++ hold ∷ more)
holds_run n place [] holds last hold h = record {
  front = holds_in holds last;
  hold = hold;
  is = ap (after_lines (Some (holding n place holds last))) (flat_map-cons lines_of_hold hold [] ∙ append-nil (lines_of_hold hold)) ∙ hold_runs n place holds last hold (All-head IsHoldInOrder hold [] h);
  all_are = refl;
}
holds_run n place (next ∷ more) holds last hold h =
    let all : List Hold = holds_in holds last in
    let rest = holds_run n place more all (Some hold) next (All-tail IsHoldInOrder hold (next ∷ more) h) in
    record {
      front = rest.front;
      hold = rest.hold;
      is = ap (after_lines (Some (holding n place holds last))) (flat_map-cons lines_of_hold hold (next ∷ more))
          ∙ in_turn front_after (holding n place holds last) (holding n place all (Some hold)) (holding n place rest.front (Some rest.hold)) (lines_of_hold hold) (flat_map lines_of_hold (next ∷ more)) (hold_runs n place holds last hold (All-head IsHoldInOrder hold (next ∷ more) h)) rest.is;
      all_are = rest.all_are ∙ append_assoc all (hold ∷ []) (next ∷ more);
    }

all_holds_run : (n : ℕ) (place : Place) (holds : List Hold) → AreHoldsInOrder holds → HoldsReach n place (holding n place [] None) (flat_map lines_of_hold holds) holds
all_holds_run n place [] h = absurd (omega (arith, h.some))
all_holds_run n place (hold ∷ more) h = holds_run n place more [] None hold h.each

-- ---- trees

-- lines that lead to the front, once a group is closed
record Reaches (s : Front) (ls : List ShortLine) (u : Front) : Type 0 where
  last : Front
  is : after_lines (Some s) ls ≡ Some last
  grouped_is : grouped_in last ≡ u

nodes_some : (t : GroupedPlan) → 1 ≤ length (short_nodes_of t)
nodes_some (part_alone p) = omega arith
nodes_some (grouped holds) = omega arith
nodes_some (taken_apart d m r) = omega arith

leaf_runs : (s : Front) (n : ℕ) (k : PlanKind) (nodes : List ShortNode) (wanted p : ℕ) → grouped_in s ≡ planning n k nodes (suc wanted) → front_after s (line.Leaf p) ≡ Some (planning n k (nodes ++ Leaf p ∷ []) wanted)
leaf_runs s n k nodes wanted p e = ap (λ x. after_leaf x p) e

split_runs : (s : Front) (n : ℕ) (k : PlanKind) (nodes : List ShortNode) (wanted : ℕ) (d : V3) → grouped_in s ≡ planning n k nodes (suc wanted) → length nodes + wanted + 4 ≤ 2 * n → front_after s (line.Split d) ≡ Some (planning n k (nodes ++ Split d ∷ []) (suc (suc wanted)))
split_runs s n k nodes wanted d e room = ap (λ x. after_split x d) e ∙ let_through (nat_le (length nodes + wanted + 4) (2 * n)) _ (le-leb _ _ room)

group_runs : (s : Front) (n : ℕ) (nodes : List ShortNode) (wanted : ℕ) → grouped_in s ≡ planning n kind.Rest nodes (suc wanted) → front_after s line.Group ≡ Some (holding n (in_plan nodes wanted) [] None)
group_runs s n nodes wanted e = ap after_group e

group_reaches : (s : Front) (n : ℕ) (k : PlanKind) (nodes : List ShortNode) (wanted : ℕ) (holds : List Hold) → grouped_in s ≡ planning n k nodes (suc wanted) → AreHoldsInOrder holds → (k ≡ kind.Plan → ⊥) → Reaches s (flat_map lines_of_short_node (Group holds ∷ [])) (planning n k (nodes ++ Group holds ∷ []) wanted)
group_reaches s n kind.Plan nodes wanted holds e h other = absurd (other refl)
group_reaches s n kind.Rest nodes wanted holds e h other =
    let all = all_holds_run n (in_plan nodes wanted) holds h in
    let last : Front = holding n (in_plan nodes wanted) all.front (Some all.hold) in
    record {
      last = last;
      is = ap (after_lines (Some s)) (flat_map-cons lines_of_short_node (Group holds) [] ∙ append-nil (line.Group ∷ flat_map lines_of_hold holds))
          ∙ onward front_after s (holding n (in_plan nodes wanted) [] None) line.Group (flat_map lines_of_hold holds) (group_runs s n nodes wanted e)
          ∙ all.is;
      grouped_is = ap (λ l. planning n kind.Rest (nodes ++ Group l ∷ []) wanted) all.all_are;
    }

tree_runs : (t : GroupedPlan) (s : Front) (n : ℕ) (k : PlanKind) (nodes : List ShortNode) (wanted : ℕ) → grouped_in s ≡ planning n k nodes (suc wanted) → length nodes + length (short_nodes_of t) + wanted + 1 ≤ 2 * n → All IsShortNodeInOrder (short_nodes_of t) → (k ≡ kind.Plan → All IsUngrouped (short_nodes_of t)) → Reaches s (flat_map lines_of_short_node (short_nodes_of t)) (planning n k (nodes ++ short_nodes_of t) wanted)
tree_runs (part_alone p) s n k nodes wanted e room h plain = record {
  last = planning n k (nodes ++ Leaf p ∷ []) wanted;
  is = ap (after_lines (Some s)) (flat_map-cons lines_of_short_node (Leaf p) []) ∙ onward front_after s (planning n k (nodes ++ Leaf p ∷ []) wanted) (line.Leaf p) [] (leaf_runs s n k nodes wanted p e);
  grouped_is = refl;
}
tree_runs (grouped holds) s n k nodes wanted e room h plain =
    group_reaches s n k nodes wanted holds e (All-head IsShortNodeInOrder (Group holds) [] h) (λ same. All-head IsUngrouped (Group holds) [] (plain same))
tree_runs (taken_apart d m r) s n k nodes wanted e room h plain =
    let here : List ShortNode = nodes ++ Split d ∷ [] in
    let both : List ShortNode = short_nodes_of m ++ short_nodes_of r in
    let counts = length-append (short_nodes_of m) (short_nodes_of r) in
    let forms = All-tail IsShortNodeInOrder (Split d) both h in
    let plains : k ≡ kind.Plan → All IsUngrouped both = λ same. All-tail IsUngrouped (Split d) both (plain same) in
    let fits : length nodes + wanted + 4 ≤ 2 * n = omega (arith, room, counts, nodes_some m, nodes_some r) in
    let split : Front = planning n k here (suc (suc wanted)) in
    let first = tree_runs m split n k here (suc wanted) refl (omega (arith, room, counts, nodes_some r, length_one nodes (Split d))) (all_front IsShortNodeInOrder (short_nodes_of m) (short_nodes_of r) forms) (λ same. all_front IsUngrouped (short_nodes_of m) (short_nodes_of r) (plains same)) in
    let second = tree_runs r first.last n k (here ++ short_nodes_of m) wanted first.grouped_is (omega (arith, room, counts, length_one nodes (Split d), length-append here (short_nodes_of m))) (all_back IsShortNodeInOrder (short_nodes_of m) (short_nodes_of r) forms) (λ same. all_back IsUngrouped (short_nodes_of m) (short_nodes_of r) (plains same)) in
    let ls : flat_map lines_of_short_node (Split d ∷ both) ≡ line.Split d ∷ (flat_map lines_of_short_node (short_nodes_of m) ++ flat_map lines_of_short_node (short_nodes_of r)) =
    flat_map-cons lines_of_short_node (Split d) both ∙ ap (λ l. line.Split d ∷ l) (flat_map-append lines_of_short_node (short_nodes_of m) (short_nodes_of r)) in
    let regrouped : (here ++ short_nodes_of m) ++ short_nodes_of r ≡ nodes ++ (Split d ∷ both) =
    append_assoc here (short_nodes_of m) (short_nodes_of r) ∙ append_assoc nodes (Split d ∷ []) both in
    record {
      last = second.last;
      is = ap (after_lines (Some s)) ls
          ∙ onward front_after s split (line.Split d) (flat_map lines_of_short_node (short_nodes_of m) ++ flat_map lines_of_short_node (short_nodes_of r)) (split_runs s n k nodes wanted d e fits)
          ∙ in_turn front_after split first.last second.last (flat_map lines_of_short_node (short_nodes_of m)) (flat_map lines_of_short_node (short_nodes_of r)) first.is second.is;
      grouped_is = second.grouped_is ∙ ap (λ l. planning n k l wanted) regrouped;
    }

-- ---- certificates

end_runs : (s : Front) (n : ℕ) (k : PlanKind) (nodes : List ShortNode) → grouped_in s ≡ planning n k nodes 0 → front_after s line.End ≡ Some (complete (record { parts = n; answer = short_answer k nodes }))
end_runs s n k nodes e = ap after_end e

plan_runs : (n : ℕ) (k : PlanKind) (nodes : List ShortNode) → IsRestInOrder n nodes → (k ≡ kind.Plan → All IsUngrouped nodes) → after_lines (Some (planning n k [] 1)) (flat_map lines_of_short_node nodes ++ line.End ∷ []) ≡ Some (complete (record { parts = n; answer = short_answer k nodes }))
plan_runs n k nodes h plain =
    let all : List ShortNode = short_nodes_of h.tree in
    let tree = tree_runs h.tree (planning n k [] 1) n k [] 0 refl (omega (arith, h.most, ap length h.is)) (subst (λ (l : List ShortNode). All IsShortNodeInOrder l) h.is h.each) (λ same. subst (λ (l : List ShortNode). All IsUngrouped l) h.is (plain same)) in
    ap (λ l. after_lines (Some (planning n k [] 1)) (flat_map lines_of_short_node l ++ line.End ∷ [])) h.is
    ∙ in_turn front_after (planning n k [] 1) tree.last (complete (record { parts = n; answer = short_answer k all })) (flat_map lines_of_short_node all) (line.End ∷ []) tree.is (onward front_after tree.last (complete (record { parts = n; answer = short_answer k all })) line.End [] (end_runs tree.last n k all tree.grouped_is))
    ∙ ap (λ l. Some (complete (record { parts = n; answer = short_answer k l }))) (sym h.is)

stuck_runs : (n : ℕ) (holds : List Hold) → AreHoldsInOrder holds → after_lines (Some (holding n whole_answer [] None)) (flat_map lines_of_hold holds ++ line.End ∷ []) ≡ Some (complete (record { parts = n; answer = answer.Stuck holds }))
stuck_runs n holds h =
    let all = all_holds_run n whole_answer holds h in
    in_turn front_after (holding n whole_answer [] None) (holding n whole_answer all.front (Some all.hold)) (complete (record { parts = n; answer = answer.Stuck holds })) (flat_map lines_of_hold holds) (line.End ∷ []) all.is (ap (λ l. Some (complete (record { parts = n; answer = answer.Stuck l }))) all.all_are)

-- each certificate's lines may stand
pub certificate_runs : (c : ShortCertificate) → IsShortInOrder c → after_lines (Some untitled) (short_lines c) ≡ Some (complete c)
certificate_runs c h = go c.parts c.answer h.answer
  where
    go : (n : ℕ) (a : ShortAnswer) → IsAnswerInOrder n a → after_lines (Some untitled) (short_lines (record { parts = n; answer = a })) ≡ Some (complete (record { parts = n; answer = a }))
    go n (answer.Plan nodes) k = plan_runs n kind.Plan nodes k.0 (λ same. k.1)
    go n (answer.Stuck holds) k = stuck_runs n holds k
    go n (answer.Rest nodes) k = plan_runs n kind.Rest nodes k (λ same. cc)

-- ---- how a front is completed

abbrev pub leaves : ℕ → List ShortLine
leaves zero = line.End ∷ []
leaves (suc k) = line.Leaf 0 ∷ leaves k

abbrev pub completion : Front → List ShortLine
completion untitled = line.Title ∷ line.Parts 1 ∷ line.Plan ∷ leaves 1
completion titled = line.Parts 1 ∷ line.Plan ∷ leaves 1
completion (counting n) = line.Plan ∷ leaves 1
completion (planning n k nodes wanted) = leaves wanted
completion (holding n whole_answer holds None) = line.Hold ∷ line.End ∷ []
completion (holding n whole_answer holds (Some hold)) = line.End ∷ []
completion (holding n (in_plan nodes wanted) holds None) = line.Hold ∷ leaves wanted
completion (holding n (in_plan nodes wanted) holds (Some hold)) = leaves wanted
completion (complete c) = []

leaves_run : (wanted : ℕ) (s : Front) (n : ℕ) (k : PlanKind) (nodes : List ShortNode) → grouped_in s ≡ planning n k nodes wanted → (c : ShortCertificate) × (after_lines (Some s) (leaves wanted) ≡ Some (complete c))
leaves_run zero s n k nodes e = (record { parts = n; answer = short_answer k nodes }, end_runs s n k nodes e)
leaves_run (suc wanted) s n k nodes e =
    let new : Front = planning n k (nodes ++ Leaf 0 ∷ []) wanted in
    let rest = leaves_run wanted new n k (nodes ++ Leaf 0 ∷ []) refl in
    (rest.0, onward front_after s new (line.Leaf 0) (leaves wanted) (leaf_runs s n k nodes wanted 0 e) ∙ rest.1)

pub completes : (s : Front) → (c : ShortCertificate) × (after_lines (Some s) (completion s) ≡ Some (complete c))
completes untitled = leaves_run 1 (planning 1 kind.Plan [] 1) 1 kind.Plan [] refl
completes titled = leaves_run 1 (planning 1 kind.Plan [] 1) 1 kind.Plan [] refl
completes (counting n) = leaves_run 1 (planning n kind.Plan [] 1) n kind.Plan [] refl
completes (planning n k nodes wanted) = leaves_run wanted (planning n k nodes wanted) n k nodes refl
completes (holding n whole_answer holds None) = (record { parts = n; answer = answer.Stuck (holds ++ open_hold [] [] ∷ []) }, refl)
completes (holding n whole_answer holds (Some hold)) = (record { parts = n; answer = answer.Stuck (holds ++ hold ∷ []) }, refl)
completes (holding n (in_plan nodes wanted) holds None) = leaves_run wanted (holding n (in_plan nodes wanted) holds (Some (open_hold [] []))) n kind.Rest (nodes ++ Group (holds ++ open_hold [] [] ∷ []) ∷ []) refl
completes (holding n (in_plan nodes wanted) holds (Some hold)) = leaves_run wanted (holding n (in_plan nodes wanted) holds (Some hold)) n kind.Rest (nodes ++ Group (holds ++ hold ∷ []) ∷ []) refl
completes (complete c) = (c, refl)

leaves_form : (k : ℕ) → All IsShortLine (leaves k)
leaves_form zero = all_one IsShortLine line.End tt
leaves_form (suc k) = All-cons IsShortLine (line.Leaf 0) (leaves k) (omega arith) (leaves_form k)

plan_form : All IsShortLine (line.Plan ∷ leaves 1)
plan_form = All-cons IsShortLine line.Plan (leaves 1) tt (leaves_form 1)

parts_form : All IsShortLine (line.Parts 1 ∷ line.Plan ∷ leaves 1)
parts_form = All-cons IsShortLine (line.Parts 1) (line.Plan ∷ leaves 1) (omega arith, omega arith) plan_form

pub completion_form : (s : Front) → All IsShortLine (completion s)
completion_form untitled = All-cons IsShortLine line.Title (line.Parts 1 ∷ line.Plan ∷ leaves 1) tt parts_form
completion_form titled = parts_form
completion_form (counting n) = plan_form
completion_form (planning n k nodes wanted) = leaves_form wanted
completion_form (holding n whole_answer holds None) = All-cons IsShortLine line.Hold (line.End ∷ []) tt (leaves_form 0)
completion_form (holding n whole_answer holds (Some hold)) = leaves_form 0
completion_form (holding n (in_plan nodes wanted) holds None) = All-cons IsShortLine line.Hold (leaves wanted) tt (leaves_form wanted)
completion_form (holding n (in_plan nodes wanted) holds (Some hold)) = leaves_form wanted
completion_form (complete c) = All-nil IsShortLine

-- lines that lead to a whole certificate are its own
pub complete_whole : (ls : List ShortLine) (c : ShortCertificate) → All IsShortLine ls → after_lines (Some untitled) ls ≡ Some (complete c) → IsShortInOrder c × (ls ≡ short_lines c)
complete_whole ls c f e =
    let good = lines_good ls untitled (complete c) f tt e in
    (record { lines = subst (λ (l : List ShortLine). All IsShortLine l) (sym good.1) f; answer = good.0 }, sym good.1)
