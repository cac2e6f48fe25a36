-- The plans that stand among nodes, and their members.
use Rattle.std.proofs.Common.{◌≡◌, ℕ, zero, suc, ◌+◌, ◌-◌, ◌<◌, ◌≤◌, List, [], ◌∷◌, ◌++◌, length, drop, set, get_or, ⊎_elim, refl, sym, ap, subst, ◌∙◌, arith, append_assoc, append-nil, length-append}
use Rattle.std.specs.Prelude.{Some, slice_get}
use Rattle.std.proofs.lemmas.Bool.{cases_eq}
use Rattle.std.proofs.lemmas.Option.{get_or_from_slice_get, slice_get-get_or}
use Rattle.staat_vec.specs.declared.vector.V3.{V3}
use Rattle.staat_model.specs.declared.assembly.Part.{Part}
use Rattle.staat_model.proofs.Places.{place_within}
use Rattle.staat_holds.specs.declared.hold.Hold.{Hold}
use Rattle.staat_short.specs.declared.short.ShortNode.{ShortNode}
use Rattle.staat_short.specs.declared.short.ShortNode.TheVariants.{Leaf, Split, Group}
use Rattle.staat_short.specs.ShortTexts.{GroupedPlan, part_alone, grouped, taken_apart, short_nodes_of}
use Rattle.staat_confirm.specs.Members.{IsMemberAt, IsMemberWithin, StandsAt}
use Rattle.staat_confirm.specs.Owners.{AreEndsFrom, AreOnePlan}
use Rattle.staat_confirm.proofs.Lists.{drop_head, drop_none, drop_past, drop_tail, get_within, set_there}
use Rattle.staat_vec.proofs.Options.{some_injective}
use Rattle.staat_vec.proofs.ListLaws.{get_drop, get_front, set_here}

-- ---- the plan that stands at a place is one alone

nodes_cancel : (t u : GroupedPlan) (xs ys : List ShortNode) → short_nodes_of t ++ xs ≡ short_nodes_of u ++ ys → (t ≡ u) × (xs ≡ ys)
nodes_cancel (part_alone p) (part_alone q) xs ys e = let same : p ≡ q = cc in let rest : xs ≡ ys = cc in (ap part_alone same, rest)
nodes_cancel (part_alone p) (grouped holds) xs ys e = cc
nodes_cancel (part_alone p) (taken_apart d m r) xs ys e = cc
nodes_cancel (grouped holds) (part_alone q) xs ys e = cc
nodes_cancel (grouped holds) (grouped others) xs ys e = let same : holds ≡ others = cc in let rest : xs ≡ ys = cc in (ap grouped same, rest)
nodes_cancel (grouped holds) (taken_apart d m r) xs ys e = cc
nodes_cancel (taken_apart d m r) (part_alone p) xs ys e = cc
nodes_cancel (taken_apart d m r) (grouped holds) xs ys e = cc
nodes_cancel (taken_apart d m r) (taken_apart d' m' r') xs ys e =
    let ds : d ≡ d' = cc in
    let behind : (short_nodes_of m ++ short_nodes_of r) ++ xs ≡ (short_nodes_of m' ++ short_nodes_of r') ++ ys = cc in
    let first = nodes_cancel m m' (short_nodes_of r ++ xs) (short_nodes_of r' ++ ys)
    (sym (append_assoc (short_nodes_of m) (short_nodes_of r) xs) ∙ behind ∙ append_assoc (short_nodes_of m') (short_nodes_of r') ys) in
    let second = nodes_cancel r r' xs ys first.1 in
    (λ i. taken_apart (ds i) (first.0 i) (second.0 i), second.1)

pub one_stands : (nodes : List ShortNode) (k : ℕ) (t u : GroupedPlan) → StandsAt nodes k t → StandsAt nodes k u → t ≡ u
one_stands nodes k t u a b = (nodes_cancel t u a.more b.more (sym a.is ∙ b.is)).0

-- ---- the sides of a split

pub moved_stands : (nodes : List ShortNode) (k : ℕ) (d : V3) (m r : GroupedPlan) → StandsAt nodes k (taken_apart d m r) → StandsAt nodes (k + 1) m
moved_stands nodes k d m r at = record {
  more = short_nodes_of r ++ at.more;
  is = drop_tail nodes k (Split d) ((short_nodes_of m ++ short_nodes_of r) ++ at.more) at.is ∙ append_assoc (short_nodes_of m) (short_nodes_of r) at.more;
}

pub rest_stands : (nodes : List ShortNode) (k : ℕ) (d : V3) (m r : GroupedPlan) → StandsAt nodes k (taken_apart d m r) → StandsAt nodes (k + 1 + length (short_nodes_of m)) r
unfolding moved_stands
rest_stands nodes k d m r at = record {
  more = at.more;
  is = drop_past nodes (k + 1) (short_nodes_of m) (short_nodes_of r ++ at.more) (moved_stands nodes k d m r at).is;
}

-- ---- the first node of a plan

pub split_first : (nodes : List ShortNode) (k : ℕ) (d : V3) (m r : GroupedPlan) → StandsAt nodes k (taken_apart d m r) → slice_get nodes k ≡ Some (Split d)
split_first nodes k d m r at = drop_head nodes k (Split d) ((short_nodes_of m ++ short_nodes_of r) ++ at.more) at.is

pub leaf_first : (nodes : List ShortNode) (k p : ℕ) → StandsAt nodes k (part_alone p) → slice_get nodes k ≡ Some (Leaf p)
leaf_first nodes k p at = drop_head nodes k (Leaf p) at.more at.is

pub group_first : (nodes : List ShortNode) (k : ℕ) (holds : List Hold) → StandsAt nodes k (grouped holds) → slice_get nodes k ≡ Some (Group holds)
group_first nodes k holds at = drop_head nodes k (Group holds) at.more at.is

pub stands_within : (nodes : List ShortNode) (k : ℕ) (t : GroupedPlan) → StandsAt nodes k t → k < length nodes
stands_within nodes k (part_alone p) at = place_within nodes k (Leaf p) (leaf_first nodes k p at)
stands_within nodes k (grouped holds) at = place_within nodes k (Group holds) (group_first nodes k holds at)
stands_within nodes k (taken_apart d m r) at = place_within nodes k (Split d) (split_first nodes k d m r at)

-- ---- some plan stands at each place

abbrev forest : List GroupedPlan → List ShortNode
forest [] = []
forest (t ∷ ts) = short_nodes_of t ++ forest ts

forest_from : (k : ℕ) (nodes : List ShortNode) (ts : List GroupedPlan) → nodes ≡ forest ts → (us : List GroupedPlan) × (drop k nodes ≡ forest us)
forest_from zero nodes ts e = (ts, e)
forest_from (suc k) [] ts e = ([], refl)
forest_from (suc k) (x ∷ nodes) [] e = cc
forest_from (suc k) (x ∷ nodes) (part_alone p ∷ ts) e = let tail : nodes ≡ forest ts = cc in forest_from k nodes ts tail
forest_from (suc k) (x ∷ nodes) (grouped holds ∷ ts) e = let tail : nodes ≡ forest ts = cc in forest_from k nodes ts tail
forest_from (suc k) (x ∷ nodes) (taken_apart d m r ∷ ts) e =
    let tail : nodes ≡ (short_nodes_of m ++ short_nodes_of r) ++ forest ts = cc in
    forest_from k nodes (m ∷ r ∷ ts) (tail ∙ append_assoc (short_nodes_of m) (short_nodes_of r) (forest ts))

pub some_stands : (nodes : List ShortNode) (k : ℕ) → AreOnePlan nodes → k < length nodes → (t : GroupedPlan) × StandsAt nodes k t
some_stands nodes k (t, e) lt = let (us, f) = forest_from k nodes (t ∷ []) (e ∙ sym (append-nil (short_nodes_of t))) in go us f
  where
    go : (us : List GroupedPlan) → drop k nodes ≡ forest us → (u : GroupedPlan) × StandsAt nodes k u
    go [] f = let le = drop_none nodes k f in absurd (omega (arith, le, lt))
    go (u ∷ us) f = (u, record { more = forest us; is = f })

-- the plan of the nodes stands at the first
pub whole_stands : (nodes : List ShortNode) (t : GroupedPlan) → nodes ≡ short_nodes_of t → StandsAt nodes 0 t
whole_stands nodes t e = record { more = []; is = e ∙ sym (append-nil (short_nodes_of t)) }

-- ---- ends

-- the two sides of the split at node k, and where they end
pub record SplitEnds (nodes : List ShortNode) (ends : List ℕ) (k : ℕ) (d : V3) : Type 0 where
  pub moved : GroupedPlan
  pub rest : GroupedPlan
  pub stands : StandsAt nodes k (taken_apart d moved rest)
  pub middle : slice_get ends (k + 1) ≡ Some (k + 1 + length (short_nodes_of moved))
  pub end : slice_get ends (k + 1 + length (short_nodes_of moved)) ≡ Some (k + 1 + length (short_nodes_of moved) + length (short_nodes_of rest))

pub split_ends : (nodes : List ShortNode) (ends : List ℕ) (k : ℕ) (d : V3) → AreOnePlan nodes → AreEndsFrom nodes (k + 1) ends → slice_get nodes k ≡ Some (Split d) → SplitEnds nodes ends k d
split_ends nodes ends k d one behind at = let (t, stands) = some_stands nodes k one (place_within nodes k (Split d) at) in go t stands
  where
    go : (t : GroupedPlan) → StandsAt nodes k t → SplitEnds nodes ends k d
    go (part_alone p) stands = let wrong : Some (Split d) ≡ Some (Leaf p) = sym at ∙ leaf_first nodes k p stands in absurd cc
    go (grouped holds) stands = let wrong : Some (Split d) ≡ Some (Group holds) = sym at ∙ group_first nodes k holds stands in absurd cc
    go (taken_apart d' m r) stands =
        let both : Some (Split d') ≡ Some (Split d) = sym (split_first nodes k d' m r stands) ∙ at in
        let same : d' ≡ d = cc in
        record {
          moved = m;
          rest = r;
          stands = subst (λ e. StandsAt nodes k (taken_apart e m r)) same stands;
          middle = behind (k + 1) m (omega arith) (moved_stands nodes k d' m r stands);
          end = behind (k + 1 + length (short_nodes_of m)) r (omega arith) (rest_stands nodes k d' m r stands);
        }

-- the length of the plan that stands at a split
pub split_length : (nodes : List ShortNode) (ends : List ℕ) (k : ℕ) (d : V3) (s : SplitEnds nodes ends k d) (t : GroupedPlan) → StandsAt nodes k t → length (short_nodes_of t) ≡ 1 + length (short_nodes_of s.moved) + length (short_nodes_of s.rest)
split_length nodes ends k d s t at =
    let same = one_stands nodes k t (taken_apart d s.moved s.rest) at s.stands in
    let both = length-append (short_nodes_of s.moved) (short_nodes_of s.rest) in
    ap (λ u. length (short_nodes_of u)) same ∙ (let e : suc (length (short_nodes_of s.moved ++ short_nodes_of s.rest)) ≡ 1 + length (short_nodes_of s.moved) + length (short_nodes_of s.rest) = omega (arith, both) in e)

-- a node that is no split is a plan by itself
pub node_length : (nodes : List ShortNode) (k : ℕ) (node : ShortNode) → slice_get nodes k ≡ Some node → ((d : V3) → node ≡ Split d → ⊥) → (t : GroupedPlan) → StandsAt nodes k t → length (short_nodes_of t) ≡ 1
node_length nodes k node at not (part_alone p) stands = refl
node_length nodes k node at not (grouped holds) stands = refl
node_length nodes k node at not (taken_apart d m r) stands = absurd (not d (some_injective node (Split d) (sym at ∙ split_first nodes k d m r stands)))

pub no_ends : (nodes : List ShortNode) (n : ℕ) (ends : List ℕ) → length nodes ≤ n → AreEndsFrom nodes n ends
no_ends nodes n ends le k t high at = let lt = stands_within nodes k t at in absurd (omega (arith, lt, le, high))

pub ends_next : (nodes : List ShortNode) (k end : ℕ) (ends : List ℕ) → k < length ends → AreEndsFrom nodes (k + 1) ends → ((t : GroupedPlan) → StandsAt nodes k t → end ≡ k + length (short_nodes_of t)) → AreEndsFrom nodes k (set ends k end)
ends_next nodes k end ends lt behind here m t le at = ⊎_elim {C = slice_get (set ends k end) m ≡ Some (m + length (short_nodes_of t))}
    (λ e. subst (λ j. slice_get (set ends k end) j ≡ Some (j + length (short_nodes_of t))) (sym e) (set_here ends k end lt ∙ ap Some (here t (subst (λ j. StandsAt nodes j t) e at))))
    (λ other. set_there ends k m end other ∙ behind m t (omega (arith, le, other)) at) (cases_eq m k)

-- ---- members of plans that stand among nodes

pub member_among : (parts : List Part) (nodes : List ShortNode) (k : ℕ) (t : GroupedPlan) (p : ℕ) → StandsAt nodes k t → IsMemberWithin parts t p → (m : ℕ) × (k ≤ m) × (m < k + length (short_nodes_of t)) × IsMemberAt parts nodes m p
member_among parts nodes k t p at (j, h) =
    let lt = place_within (short_nodes_of t) j h.node h.at in (
      k + j,
      omega arith,
      omega (arith, lt),
      record { node = h.node; at = sym (get_drop nodes k j) ∙ ap (λ l. slice_get l j) at.is ∙ get_front (short_nodes_of t) at.more j h.node h.at; member = h.member },
    )

pub member_within : (parts : List Part) (nodes : List ShortNode) (k : ℕ) (t : GroupedPlan) (m p : ℕ) → StandsAt nodes k t → k ≤ m → m < k + length (short_nodes_of t) → IsMemberAt parts nodes m p → IsMemberWithin parts t p
member_within parts nodes k t m p at low high h =
    let e : k + (m - k) ≡ m = omega (arith, low) in (
      m - k,
      record {
        node = h.node;
        at = get_within (short_nodes_of t) at.more (m - k) h.node (omega (arith, low, high)) (sym (ap (λ l. slice_get l (m - k)) at.is) ∙ get_drop nodes k (m - k) ∙ ap (slice_get nodes) e ∙ h.at);
        member = h.member;
      },
    )

-- the sides of a split, whose node was read
pub node_sides : (nodes : List ShortNode) (ends : List ℕ) (k : ℕ) (node : ShortNode) (d : V3) → AreOnePlan nodes → AreEndsFrom nodes (k + 1) ends → k < length nodes → node ≡ get_or nodes k node → node ≡ Split d → SplitEnds nodes ends k d
node_sides nodes ends k node d one behind lt is at = split_ends nodes ends k d one behind (slice_get-get_or nodes k node lt ∙ ap Some (sym is ∙ at))

pub middle_is : (nodes : List ShortNode) (ends : List ℕ) (k : ℕ) (d : V3) (s : SplitEnds nodes ends k d) → get_or ends (k + 1) 0 ≡ k + 1 + length (short_nodes_of s.moved)
middle_is nodes ends k d s = get_or_from_slice_get ends (k + 1) (k + 1 + length (short_nodes_of s.moved)) 0 s.middle

pub end_is : (nodes : List ShortNode) (ends : List ℕ) (k : ℕ) (d : V3) (s : SplitEnds nodes ends k d) → get_or ends (get_or ends (k + 1) 0) 0 ≡ k + 1 + length (short_nodes_of s.moved) + length (short_nodes_of s.rest)
unfolding middle_is
end_is nodes ends k d s = ap (λ i. get_or ends i 0) (middle_is nodes ends k d s) ∙ get_or_from_slice_get ends (k + 1 + length (short_nodes_of s.moved)) (k + 1 + length (short_nodes_of s.moved) + length (short_nodes_of s.rest)) 0 s.end

pub middle_within : (nodes : List ShortNode) (ends : List ℕ) (k : ℕ) (d : V3) (s : SplitEnds nodes ends k d) → (k + 1 < length ends) × (get_or ends (k + 1) 0 < length ends)
middle_within nodes ends k d s =
    let first = place_within ends (k + 1) (k + 1 + length (short_nodes_of s.moved)) s.middle in
    let second = place_within ends (k + 1 + length (short_nodes_of s.moved)) (k + 1 + length (short_nodes_of s.moved) + length (short_nodes_of s.rest)) s.end in
    (first, let e = middle_is nodes ends k d s in omega (arith, second, e))

pub some_nodes : (nodes : List ShortNode) → AreOnePlan nodes → 1 ≤ length nodes
some_nodes nodes (t, e) = let lt = stands_within nodes 0 t (whole_stands nodes t e) in omega (arith, lt)
