-- What may follow is the front of a certificate.
use Rattle.std.proofs.Common.{◌≡◌, ◌++◌, ◌∷◌, ◌+◌, ◌*◌, ◌≤◌, ℕ, zero, suc, true, List, [], map, length, All, ap, sym, subst, refl, ◌∙◌, arith, append_assoc, append-nil}
use Rattle.std.specs.Prelude.{Some, None, ◌&&◌, ◌==◌, nat_le, flat_map}
use Rattle.std.specs.Cmp.{IsTotalOrder}
use Rattle.std.specs.List.Sorted.{IsStrictlySortedBy}
use Rattle.std.specs.Ordering.{nat_cmp}
use Rattle.std.specs.declared.cmp.Ordering.{Ordering}
use Rattle.std.proofs.lemmas.Cmp.{nat_cmp_total}
use Rattle.std.proofs.lemmas.Bool.{leb-true}
use Rattle.std.proofs.lemmas.List.{map-append, map-id}
use Rattle.std.proofs.lemmas.List.Elements.{All-head, All-nil, All-push}
use Rattle.staat_vec.specs.declared.vector.V3.{V3}
use Rattle.staat_model.specs.declared.certificate.Arc.{Arc}
use Rattle.staat_model.specs.Certificates.{arc_cmp}
use Rattle.staat_model.proofs.Orders.{arc_total}
use Rattle.staat_model.proofs.Members.{all_back, all_front}
use Rattle.staat_holds.specs.declared.hold.Hold.{Hold}
use Rattle.staat_cert.specs.Machine.{follows}
use Rattle.staat_cert.proofs.Formats.{run_good}
use Rattle.staat_cert.proofs.Lists.{ascending_one, flat_one, follows_there, length_one}
use Rattle.staat_short.specs.declared.stage.PlanKind.{PlanKind}
use Rattle.staat_short.specs.declared.stage.PlanKind.TheVariants as kind
use Rattle.staat_short.specs.declared.short.ShortNode.{ShortNode}
use Rattle.staat_short.specs.declared.short.ShortNode.TheVariants.{Leaf, Split, Group}
use Rattle.staat_short.specs.declared.line.ShortLine.{ShortLine}
use Rattle.staat_short.specs.declared.line.ShortLine.TheVariants as line
use Rattle.staat_short.specs.ShortLines.{IsShortLine}
use Rattle.staat_short.specs.ShortTexts.{GroupedPlan, part_alone, grouped, taken_apart, short_nodes_of, lines_of_hold, lines_of_short_node, short_lines, AreHoldsInOrder, IsAnswerInOrder, IsHoldInOrder, IsShortNodeInOrder, IsUngrouped}
use Rattle.staat_short.specs.Fronts.{Place, whole_answer, in_plan, Front, untitled, titled, counting, planning, holding, complete, holds_in, grouped_in, short_answer, after_title, after_parts, after_kind, after_stuck, after_leaf, after_split, after_group, after_hold, after_part, after_pair, after_end, front_after, after_lines}
use Rattle.staat_vec.proofs.Truth.{and_split}
use Rattle.staat_vec.proofs.ListLaws.{length_test_nil}
use Rattle.staat_vec.proofs.Options.{some_injective}
use Rattle.std.proofs.lemmas.Option.{cond_some}

-- ---- ascending lists of what is compared itself

module _ {X : Type 0} (cmp : X → X → Ordering) where
  ascends_more : IsTotalOrder cmp → (xs : List X) (x : X) → IsStrictlySortedBy cmp xs → follows cmp xs x ≡ true → IsStrictlySortedBy cmp (xs ++ x ∷ [])
  ascends_more total xs x h e = subst (IsStrictlySortedBy cmp) (map-id (xs ++ x ∷ [])) (ascending_one cmp (λ y. y) total xs x (subst (IsStrictlySortedBy cmp) (sym (map-id xs)) h) e)

  pub follows_in : (xs : List X) (x : X) (ys : List X) → IsStrictlySortedBy cmp (xs ++ x ∷ ys) → follows cmp xs x ≡ true
  follows_in xs x ys h = follows_there cmp (λ y. y) xs x ys (subst (IsStrictlySortedBy cmp) (sym (map-id (xs ++ x ∷ ys))) h)

none_ascends : {X : Type 0} (cmp : X → X → Ordering) → IsStrictlySortedBy cmp []
unfolding IsStrictlySortedBy
none_ascends cmp = tt

-- ---- the lines that a front has read

abbrev pub kind_line : PlanKind → ShortLine
kind_line kind.Plan = line.Plan
kind_line kind.Rest = line.Rest

abbrev pub place_lines : ℕ → Place → List ShortLine → List ShortLine
place_lines n whole_answer ls = line.Title ∷ line.Parts n ∷ line.Stuck ∷ ls
place_lines n (in_plan nodes wanted) ls = line.Title ∷ line.Parts n ∷ line.Rest ∷ (flat_map lines_of_short_node nodes ++ line.Group ∷ ls)

abbrev pub lines_of_front : Front → List ShortLine
lines_of_front untitled = []
lines_of_front titled = line.Title ∷ []
lines_of_front (counting n) = line.Title ∷ line.Parts n ∷ []
lines_of_front (planning n k nodes wanted) = line.Title ∷ line.Parts n ∷ kind_line k ∷ flat_map lines_of_short_node nodes
lines_of_front (holding n place holds last) = place_lines n place (flat_map lines_of_hold (holds_in holds last))
lines_of_front (complete c) = short_lines c

place_more : (n : ℕ) (place : Place) (ls more : List ShortLine) → place_lines n place (ls ++ more) ≡ place_lines n place ls ++ more
place_more n whole_answer ls more = refl
place_more n (in_plan nodes wanted) ls more = ap (λ l. line.Title ∷ line.Parts n ∷ line.Rest ∷ l) (sym (append_assoc (flat_map lines_of_short_node nodes) (line.Group ∷ ls) more))

-- ---- good fronts

-- trees one after another
abbrev pub forest : List GroupedPlan → List ShortNode
forest [] = []
forest (t ∷ ts) = short_nodes_of t ++ forest ts

-- so many trees behind these nodes make a whole tree of them
abbrev pub IsOpenTree : List ShortNode → ℕ → Type 0
IsOpenTree nodes wanted = (ts : List GroupedPlan) → length ts ≡ wanted → (t : GroupedPlan) × (short_nodes_of t ≡ nodes ++ forest ts)

pub record IsGoodPlan (parts : ℕ) (k : PlanKind) (nodes : List ShortNode) (wanted : ℕ) : Type 0 where
  pub tree : IsOpenTree nodes wanted
  pub room : length nodes + wanted + 1 ≤ 2 * parts
  pub each : All IsShortNodeInOrder nodes
  pub ungrouped : k ≡ kind.Plan → All IsUngrouped nodes

abbrev pub IsGoodPlace : ℕ → Place → Type 0
IsGoodPlace n whole_answer = Unit {0}
IsGoodPlace n (in_plan nodes wanted) = IsGoodPlan n kind.Rest nodes (suc wanted)

abbrev pub IsGoodFront : Front → Type 0
IsGoodFront untitled = Unit {0}
IsGoodFront titled = Unit {0}
IsGoodFront (counting n) = 1 ≤ n
IsGoodFront (planning n k nodes wanted) = IsGoodPlan n k nodes wanted
IsGoodFront (holding n place holds last) = IsGoodPlace n place × All IsHoldInOrder (holds_in holds last)
IsGoodFront (complete c) = IsAnswerInOrder c.parts c.answer

record Follows (s : Front) (r : ShortLine) (t : Front) : Type 0 where
  good : IsGoodFront t
  lines : lines_of_front t ≡ lines_of_front s ++ r ∷ []

moved : (s : Front) (r : ShortLine) (t u : Front) → Some t ≡ Some u → Follows s r t → Follows s r u
moved s r t u e h = subst (λ (x : Front). Follows s r x) (some_injective t u e) h

-- ---- trees

-- a node without others below it
end_tree : (t : GroupedPlan) (node : ShortNode) → short_nodes_of t ≡ node ∷ [] → (nodes : List ShortNode) (k : ℕ) → IsOpenTree nodes (suc k) → IsOpenTree (nodes ++ node ∷ []) k
end_tree t node is nodes k h ts e =
    let all = h (t ∷ ts) (ap suc e) in
    (all.0, all.1 ∙ ap (λ l. nodes ++ (l ++ forest ts)) is ∙ sym (append_assoc nodes (node ∷ []) (forest ts)))

split_tree : (nodes : List ShortNode) (k : ℕ) (d : V3) → IsOpenTree nodes (suc k) → IsOpenTree (nodes ++ Split d ∷ []) (suc (suc k))
split_tree nodes k d h [] e = cc
split_tree nodes k d h (a ∷ []) e = absurd (omega arith)
split_tree nodes k d h (a ∷ b ∷ ts) e =
    let t = h (taken_apart d a b ∷ ts) (omega arith) in
    let regrouped : (Split d ∷ (short_nodes_of a ++ short_nodes_of b)) ++ forest ts ≡ Split d ∷ (short_nodes_of a ++ (short_nodes_of b ++ forest ts)) = ap (λ l. Split d ∷ l) (append_assoc (short_nodes_of a) (short_nodes_of b) (forest ts)) in
    (t.0, t.1 ∙ ap (λ l. nodes ++ l) regrouped ∙ sym (append_assoc nodes (Split d ∷ []) (forest (a ∷ b ∷ ts))))

no_more : (ts : List GroupedPlan) → length ts ≡ 1 → (t : GroupedPlan) × (short_nodes_of t ≡ [] ++ forest ts)
no_more [] e = cc
no_more (t ∷ []) e = (t, sym (append-nil (short_nodes_of t)))
no_more (t ∷ u ∷ ts) e = absurd (omega arith)

-- ---- a group that is closed

some_holds : (holds : List Hold) (hold : Hold) → All IsHoldInOrder (holds ++ hold ∷ []) → AreHoldsInOrder (holds ++ hold ∷ [])
some_holds holds hold h = record { some = omega (arith, length_one holds hold); each = h }

closed_good : (n : ℕ) (nodes : List ShortNode) (wanted : ℕ) (all : List Hold) → AreHoldsInOrder all → IsGoodPlan n kind.Rest nodes (suc wanted) → IsGoodPlan n kind.Rest (nodes ++ Group all ∷ []) wanted
closed_good n nodes wanted all holds h = record {
  tree = end_tree (grouped all) (Group all) refl nodes wanted h.tree;
  room = omega (arith, h.room, length_one nodes (Group all));
  each = All-push IsShortNodeInOrder nodes (Group all) h.each holds;
  ungrouped = λ k. cc;
}

group_good : (s : Front) → IsGoodFront s → IsGoodFront (grouped_in s)
group_good (holding n (in_plan nodes wanted) holds (Some hold)) h = closed_good n nodes wanted (holds ++ hold ∷ []) (some_holds holds hold h.1) h.0
group_good s h = h

group_lines : (s : Front) → lines_of_front (grouped_in s) ≡ lines_of_front s
group_lines (holding n (in_plan nodes wanted) holds (Some hold)) = ap (λ l. line.Title ∷ line.Parts n ∷ line.Rest ∷ l) (flat_one lines_of_short_node nodes (Group (holds ++ hold ∷ [])))
group_lines s = refl

behind_group : (s : Front) (r : ShortLine) (t : Front) → Follows (grouped_in s) r t → Follows s r t
behind_group s r t h = record { good = h.good; lines = h.lines ∙ ap (λ l. l ++ r ∷ []) (group_lines s) }

-- ---- what each line makes of a good front

title_good : (s t : Front) → IsGoodFront s → after_title s ≡ Some t → Follows s line.Title t
title_good untitled t h e = moved untitled line.Title titled t e (record { good = tt; lines = refl })
title_good s t h e = cc

parts_good : (s : Front) (n : ℕ) (t : Front) → 1 ≤ n → IsGoodFront s → after_parts s n ≡ Some t → Follows s (line.Parts n) t
parts_good titled n t f h e = moved titled (line.Parts n) (counting n) t e (record { good = f; lines = refl })
parts_good s n t f h e = cc

kind_good : (k : PlanKind) (s t : Front) → IsGoodFront s → after_kind k s ≡ Some t → Follows s (kind_line k) t
kind_good k (counting n) t h e = moved (counting n) (kind_line k) (planning n k [] 1) t e (record { good = record { tree = no_more; room = omega (arith, h); each = All-nil IsShortNodeInOrder; ungrouped = λ same. All-nil IsUngrouped }; lines = refl })
kind_good k s t h e = cc

stuck_good : (s t : Front) → IsGoodFront s → after_stuck s ≡ Some t → Follows s line.Stuck t
stuck_good (counting n) t h e = moved (counting n) line.Stuck (holding n whole_answer [] None) t e (record { good = (tt, All-nil IsHoldInOrder); lines = refl })
stuck_good s t h e = cc

leaf_good : (s : Front) (p : ℕ) (t : Front) → IsGoodFront s → after_leaf s p ≡ Some t → Follows s (line.Leaf p) t
leaf_good (planning n k nodes (suc wanted)) p t h e = moved (planning n k nodes (suc wanted)) (line.Leaf p) (planning n k (nodes ++ Leaf p ∷ []) wanted) t e (record {
  good = record {
    tree = end_tree (part_alone p) (Leaf p) refl nodes wanted h.tree;
    room = omega (arith, h.room, length_one nodes (Leaf p));
    each = All-push IsShortNodeInOrder nodes (Leaf p) h.each tt;
    ungrouped = λ same. All-push IsUngrouped nodes (Leaf p) (h.ungrouped same) tt;
  };
  lines = ap (λ l. line.Title ∷ line.Parts n ∷ kind_line k ∷ l) (flat_one lines_of_short_node nodes (Leaf p));
})
leaf_good s p t h e = cc

split_good : (s : Front) (d : V3) (t : Front) → IsGoodFront s → after_split s d ≡ Some t → Follows s (line.Split d) t
split_good (planning n k nodes (suc wanted)) d t h e =
    let new : Front = planning n k (nodes ++ Split d ∷ []) (suc (suc wanted)) in
    let test = cond_some (nat_le (length nodes + wanted + 4) (2 * n)) new t e in
    let fits : length nodes + wanted + 4 ≤ 2 * n = leb-true (length nodes + wanted + 4) (2 * n) test.0 in
    subst (λ (s : Front). Follows (planning n k nodes (suc wanted)) (line.Split d) s) test.1 (record {
      good = record {
        tree = split_tree nodes wanted d h.tree;
        room = omega (arith, fits, length_one nodes (Split d));
        each = All-push IsShortNodeInOrder nodes (Split d) h.each tt;
        ungrouped = λ same. All-push IsUngrouped nodes (Split d) (h.ungrouped same) tt;
      };
      lines = ap (λ l. line.Title ∷ line.Parts n ∷ kind_line k ∷ l) (flat_one lines_of_short_node nodes (Split d));
    })
split_good s d t h e = cc

group_begins : (s t : Front) → IsGoodFront s → after_group s ≡ Some t → Follows s line.Group t
group_begins (planning n kind.Rest nodes (suc wanted)) t h e = moved (planning n kind.Rest nodes (suc wanted)) line.Group (holding n (in_plan nodes wanted) [] None) t e (record { good = (h, All-nil IsHoldInOrder); lines = refl })
group_begins s t h e = cc

-- the lines of holds, the last of which has one line more
last_more : (n : ℕ) (place : Place) (holds : List Hold) (old new : Hold) (r : ShortLine) → lines_of_hold new ≡ lines_of_hold old ++ r ∷ [] → lines_of_front (holding n place holds (Some new)) ≡ lines_of_front (holding n place holds (Some old)) ++ r ∷ []
last_more n place holds old new r e =
    let before : List ShortLine = flat_map lines_of_hold holds in
    let longer : flat_map lines_of_hold (holds ++ new ∷ []) ≡ flat_map lines_of_hold (holds ++ old ∷ []) ++ r ∷ [] =
    flat_one lines_of_hold holds new ∙ ap (λ l. before ++ l) e ∙ sym (append_assoc before (lines_of_hold old) (r ∷ [])) ∙ ap (λ l. l ++ r ∷ []) (sym (flat_one lines_of_hold holds old)) in
    ap (place_lines n place) longer ∙ place_more n place (flat_map lines_of_hold (holds ++ old ∷ [])) (r ∷ [])

hold_good : (s t : Front) → IsGoodFront s → after_hold s ≡ Some t → Follows s line.Hold t
hold_good (holding n place holds last) t h e =
    let all : List Hold = holds_in holds last in
    let none : Hold = record { nodes = []; pairs = [] } in
    moved (holding n place holds last) line.Hold (holding n place all (Some none)) t e (record {
      good = (h.0, All-push IsHoldInOrder all none h.1 (record { nodes = none_ascends nat_cmp; pairs = none_ascends arc_cmp }));
      lines = ap (place_lines n place) (flat_one lines_of_hold all none) ∙ place_more n place (flat_map lines_of_hold all) (line.Hold ∷ []);
    })
hold_good s t h e = cc

-- the last hold, changed
last_changed : (holds : List Hold) (old new : Hold) → All IsHoldInOrder (holds ++ old ∷ []) → (IsHoldInOrder old → IsHoldInOrder new) → All IsHoldInOrder (holds ++ new ∷ [])
last_changed holds old new h f = All-push IsHoldInOrder holds new (all_front IsHoldInOrder holds (old ∷ []) h) (f (All-head IsHoldInOrder old [] (all_back IsHoldInOrder holds (old ∷ []) h)))

part_good : (s : Front) (p : ℕ) (t : Front) → IsGoodFront s → after_part s p ≡ Some t → Follows s (line.Part p) t
part_good (holding n place holds (Some hold)) p t h e =
    let new : Hold = record { nodes = hold.nodes ++ p ∷ []; pairs = hold.pairs } in
    let test = cond_some ((length hold.pairs == 0) && follows nat_cmp hold.nodes p) (holding n place holds (Some new)) t e in
    let tests = and_split _ _ test.0 in
    let none : hold.pairs ≡ [] = length_test_nil hold.pairs tests.0 in
    let added : map line.Part (hold.nodes ++ p ∷ []) ++ map line.Pair hold.pairs ≡ (map line.Part hold.nodes ++ map line.Pair hold.pairs) ++ line.Part p ∷ [] =
    ap (λ l. map line.Part (hold.nodes ++ p ∷ []) ++ map line.Pair l) none ∙ append-nil (map line.Part (hold.nodes ++ p ∷ [])) ∙ map-append line.Part hold.nodes (p ∷ [])
    ∙ ap (λ l. l ++ line.Part p ∷ []) (sym (append-nil (map line.Part hold.nodes))) ∙ ap (λ l. (map line.Part hold.nodes ++ map line.Pair l) ++ line.Part p ∷ []) (sym none) in
    subst (λ (s : Front). Follows (holding n place holds (Some hold)) (line.Part p) s) test.1 (record {
      good = (h.0, last_changed holds hold new h.1 (λ f. record { nodes = ascends_more nat_cmp nat_cmp_total hold.nodes p f.nodes tests.1; pairs = f.pairs }));
      lines = last_more n place holds hold new (line.Part p) (ap (λ l. line.Hold ∷ l) added);
    })
part_good s p t h e = cc

pair_good : (s : Front) (pair : Arc) (t : Front) → IsGoodFront s → after_pair s pair ≡ Some t → Follows s (line.Pair pair) t
pair_good (holding n place holds (Some hold)) pair t h e =
    let new : Hold = record { nodes = hold.nodes; pairs = hold.pairs ++ pair ∷ [] } in
    let test = cond_some (follows arc_cmp hold.pairs pair) (holding n place holds (Some new)) t e in
    let added : map line.Part hold.nodes ++ map line.Pair (hold.pairs ++ pair ∷ []) ≡ (map line.Part hold.nodes ++ map line.Pair hold.pairs) ++ line.Pair pair ∷ [] =
    ap (λ l. map line.Part hold.nodes ++ l) (map-append line.Pair hold.pairs (pair ∷ [])) ∙ sym (append_assoc (map line.Part hold.nodes) (map line.Pair hold.pairs) (line.Pair pair ∷ [])) in
    subst (λ (s : Front). Follows (holding n place holds (Some hold)) (line.Pair pair) s) test.1 (record {
      good = (h.0, last_changed holds hold new h.1 (λ f. record { nodes = f.nodes; pairs = ascends_more arc_cmp arc_total hold.pairs pair f.pairs test.0 }));
      lines = last_more n place holds hold new (line.Pair pair) (ap (λ l. line.Hold ∷ l) added);
    })
pair_good s pair t h e = cc

plan_in_order : (n : ℕ) (k : PlanKind) (nodes : List ShortNode) → IsGoodPlan n k nodes 0 → IsAnswerInOrder n (short_answer k nodes)
plan_in_order n kind.Plan nodes h =
    let t = h.tree [] refl in
    (record { tree = t.0; is = sym (t.1 ∙ append-nil nodes); most = omega (arith, h.room); each = h.each }, h.ungrouped refl)
plan_in_order n kind.Rest nodes h =
    let t = h.tree [] refl in
    record { tree = t.0; is = sym (t.1 ∙ append-nil nodes); most = omega (arith, h.room); each = h.each }

plan_lines : (n : ℕ) (k : PlanKind) (nodes : List ShortNode) → short_lines (record { parts = n; answer = short_answer k nodes }) ≡ lines_of_front (planning n k nodes 0) ++ line.End ∷ []
plan_lines n kind.Plan nodes = refl
plan_lines n kind.Rest nodes = refl

end_good : (s t : Front) → IsGoodFront s → after_end s ≡ Some t → Follows s line.End t
end_good (planning n k nodes zero) t h e = moved (planning n k nodes zero) line.End (complete (record { parts = n; answer = short_answer k nodes })) t e (record { good = plan_in_order n k nodes h; lines = plan_lines n k nodes })
end_good (holding n whole_answer holds (Some hold)) t h e = moved (holding n whole_answer holds (Some hold)) line.End _ t e (record { good = some_holds holds hold h.1; lines = refl })
end_good s t h e = cc

front_good : (s : Front) (r : ShortLine) (t : Front) → IsShortLine r → IsGoodFront s → front_after s r ≡ Some t → Follows s r t
front_good s line.Title t f h e = title_good s t h e
front_good s (line.Parts n) t f h e = parts_good s n t f.0 h e
front_good s line.Plan t f h e = kind_good kind.Plan s t h e
front_good s line.Stuck t f h e = stuck_good s t h e
front_good s line.Rest t f h e = kind_good kind.Rest s t h e
front_good s (line.Split d) t f h e = behind_group s (line.Split d) t (split_good (grouped_in s) d t (group_good s h) e)
front_good s (line.Leaf p) t f h e = behind_group s (line.Leaf p) t (leaf_good (grouped_in s) p t (group_good s h) e)
front_good s line.Group t f h e = behind_group s line.Group t (group_begins (grouped_in s) t (group_good s h) e)
front_good s line.Hold t f h e = hold_good s t h e
front_good s (line.Part p) t f h e = part_good s p t h e
front_good s (line.Pair pair) t f h e = pair_good s pair t h e
front_good s line.End t f h e = behind_group s line.End t (end_good (grouped_in s) t (group_good s h) e)

-- what lines lead to is good, and has read these lines
pub lines_good : (rs : List ShortLine) (s t : Front) → All IsShortLine rs → IsGoodFront s → after_lines (Some s) rs ≡ Some t → IsGoodFront t × (lines_of_front t ≡ lines_of_front s ++ rs)
lines_good = run_good front_after IsGoodFront lines_of_front IsShortLine (λ s r t f h e. let next = front_good s r t f h e in (next.good, next.lines))
