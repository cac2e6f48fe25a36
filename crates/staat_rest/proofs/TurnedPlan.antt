-- A plan of the merged product is one of the parts, down to the nodes that the merged parts stand for.
use Rattle.std.proofs.Common.{◌≡◌, ◌⊎◌, ◌↔◌, ℕ, ◌<◌, ◌≤◌, List, [], length, get_or, inl, inr, ⊎_elim, refl, sym, ap, subst, ◌∙◌, arith, All, Contains}
use Rattle.std.specs.Prelude.{Some, slice_get}
use Rattle.std.specs.FinSet as set
use Rattle.std.specs.List.Sorted.{IsStrictlySortedBy}
use Rattle.std.specs.Ordering.{nat_cmp}
use Rattle.std.proofs.lemmas.List.Elements.{All-weaker}
use Rattle.std.proofs.lemmas.Option.{slice_get-get_or}
use Rattle.staat_vec.specs.declared.vector.V3.{V3}
use Rattle.staat_vec.specs.declared.vector.TheConstants.{DIRECTION}
use Rattle.staat_vec.specs.Lists.{Lists}
use Rattle.staat_vec.specs.Vectors.{IsWithin}
use Rattle.staat_model.specs.declared.assembly.Part.{Part}
use Rattle.staat_model.specs.declared.set.PartSet.{PartSet}
use Rattle.staat_model.specs.Assemblies.{IsPart}
use Rattle.staat_model.specs.Plans.{IsGood, IsStuck, Plan, leaf, parts_of, split}
use Rattle.staat_model.specs.Removal.{IsFree}
use Rattle.staat_model.specs.SetLists.{set_of}
use Rattle.staat_model.specs.Sets.{AreApart, Has, below, single}
use Rattle.staat_model.proofs.Places.{place_within, some_at}
use Rattle.staat_model.proofs.SetBits.{has-below}
use Rattle.staat_model.proofs.SetListings.{has-set_of}
use Rattle.staat_model.proofs.SetMembers.{has-single, has-union}
use Rattle.staat_model.proofs.SetWords.{same_members}
use Rattle.staat_holds.specs.declared.grouped.Group.{Group as GroupValue}
use Rattle.staat_holds.specs.declared.grouped.GroupedTree.{GroupedTree, Leaf, Group, Split'}
use Rattle.staat_holds.specs.declared.hold.Hold.{Hold}
use Rattle.staat_holds.specs.Chains.{AllKeep, IsJoinedLast, IsName}
use Rattle.staat_holds.specs.Partials.{HasShownGroups, HasSmallDirections, HasSmallSteps, IsGoodPartial, IsOrderedHold, IsShownGroup, IsShownRest, partial_of, parts_in}
use Rattle.staat_holds.proofs.ChainLaw.{last_stuck}
use Rattle.staat_rest.specs.declared.merging.Origin.{Origin}
use Rattle.staat_rest.specs.Merging.{AreMerged}
use Rattle.staat_rest.specs.Nodes.{AreShown, IsInNode}
use Rattle.staat_rest.specs.Turning.{HasLeavesBelow, HaveLists, IsGroupOf, IsTurned}
use Rattle.staat_rest.proofs.MergedPieces.{merged_count, merged_from, one_head}
use Rattle.staat_rest.proofs.NameSteps.{keep_all}
use Rattle.staat_rest.proofs.NodeSteps.{name_is}
use Rattle.staat_vec.proofs.Unique.{from_place}
use Rattle.staat_vec.proofs.ListLaws.{place_of}
use Rattle.staat_vec.proofs.Options.{some_injective}

-- the part p belongs to a node for which a member of s stands
pub record IsStoodFor (names heads : List ℕ) (s : PartSet) (p : ℕ) : Type 0 where
  pub k : ℕ
  pub has : Has s k
  pub head : ℕ
  pub at : slice_get heads k ≡ Some head
  pub of : IsInNode names head p

-- t has exactly these parts
abbrev pub IsSpread : List ℕ → List ℕ → (s t : PartSet) → Type 0
IsSpread names heads s t = (p : ℕ) → Has t p ↔ IsStoodFor names heads s p

-- the lists of all nodes keep the rules
pub lists_keep : (parts : List Part) (names heads : List ℕ) (lists : List (List Hold)) → Lists nat_cmp (IsName names) heads → AreShown parts names lists → HaveLists parts heads lists
lists_keep parts names heads lists are shown n c =
    let named = are.each n c in
    let lt = place_within names n n named in
    let many = shown.many in
    let lists_many = shown.lists_many in
    (omega (arith, lt, many, lists_many), keep_all parts (get_or lists n []) (shown.each n named).keep)

module _ (parts : List Part) (names heads : List ℕ) (lists : List (List Hold)) (origins : List (List Origin)) (merged : List Part)
    (each : All IsPart parts) (shown : AreShown parts names lists) (are : AreMerged parts names heads origins merged) where
  -- all leaves are merged parts
  abbrev AreWithin : PartSet → Type 0
  AreWithin s = (k : ℕ) → Has s k → k < length heads

  head_at : (k : ℕ) → k < length heads → slice_get heads k ≡ Some (get_or heads k 0)
  head_at k lt = slice_get-get_or heads k 0 lt

  head_named : (k : ℕ) → k < length heads → IsName names (get_or heads k 0)
  head_named k lt = are.heads_are.each (get_or heads k 0) (from_place heads k (get_or heads k 0) (head_at k lt))

  one_leaf : (k p : ℕ) → Has (single k) p → p ≡ k
  one_leaf k p h = (has-single k p).0 h

  own_leaf : (k : ℕ) → Has (single k) k
  own_leaf k = (has-single k k).1 refl

  -- the parts of the node for which the leaf k stands
  leaf_spread : (k : ℕ) (t : PartSet) → k < length heads → ((p : ℕ) → Has t p ↔ IsInNode names (get_or heads k 0) p) → IsSpread names heads (single k) t
  leaf_spread k t lt is p = (
    λ h. record { k = k; has = own_leaf k; head = get_or heads k 0; at = head_at k lt; of = (is p).0 h },
    λ o.
        let e : o.k ≡ k = one_leaf k o.k o.has in
        let same : o.head ≡ get_or heads k 0 = some_injective o.head (get_or heads k 0) (sym (subst (λ m. slice_get heads m ≡ Some o.head) e o.at) ∙ head_at k lt) in
        (is p).1 (subst (λ n. IsInNode names n p) same o.of),
  )

  alone_spread : (k p : ℕ) → k < length heads → p ≡ get_or heads k 0 → get_or lists p [] ≡ [] → IsSpread names heads (single k) (single p)
  alone_spread k p lt is none = leaf_spread k (single p) lt (λ q. (
    λ h. let e : q ≡ get_or heads k 0 = (has-single p q).0 h ∙ is in subst (IsInNode names (get_or heads k 0)) (sym e) (head_named k lt),
    λ of. (has-single p q).1 ((shown.each (get_or heads k 0) (head_named k lt)).alone (subst (λ n. get_or lists n [] ≡ []) is none) q of ∙ sym is),
  ))

  group_spread : (k : ℕ) (group : GroupValue) → k < length heads → IsGroupOf parts (get_or lists (get_or heads k 0) []) group → IsSpread names heads (single k) (set_of group.members)
  group_spread k group lt is = leaf_spread k (set_of group.members) lt (λ q.
      let joined = (shown.each (get_or heads k 0) (head_named k lt)).joined is.some q in
      let listed = has-set_of group.members q in
      (λ h. joined.0 (is.members.each q (listed.0 h)), λ of. listed.1 (is.members.all q (joined.1 of))))

  union_spread : (a b s t : PartSet) → IsSpread names heads a s → IsSpread names heads b t → IsSpread names heads (set.union a b) (set.union s t)
  union_spread a b s t first second p = (
    λ h. ⊎_elim {C = IsStoodFor names heads (set.union a b) p}
        (λ in'. let o = (first p).0 in' in record { k = o.k; has = (has-union a b o.k).1 (inl o.has); head = o.head; at = o.at; of = o.of })
        (λ in'. let o = (second p).0 in' in record { k = o.k; has = (has-union a b o.k).1 (inr o.has); head = o.head; at = o.at; of = o.of })
        ((has-union s t p).0 h),
    λ o. (has-union s t p).1 (⊎_elim {C = Has s p ⊎ Has t p}
        (λ in'. inl ((first p).1 (record { k = o.k; has = in'; head = o.head; at = o.at; of = o.of })))
        (λ in'. inr ((second p).1 (record { k = o.k; has = in'; head = o.head; at = o.at; of = o.of })))
        ((has-union a b o.k).0 o.has)),
  )

  spread : (plan : Plan) (tree : GroupedTree) → AreWithin (parts_of plan) → IsTurned parts heads lists plan tree → IsSpread names heads (parts_of plan) (parts_in (partial_of tree))
  spread (leaf k) (Leaf p) within is = alone_spread k p (within k (own_leaf k)) is.0 is.1
  spread (leaf k) (Group group) within is = group_spread k group (within k (own_leaf k)) is
  spread (leaf k) (Split' d x moved y rest) within is = absurd is
  spread (split d moved rest) (Leaf p) within is = absurd is
  spread (split d moved rest) (Group group) within is = absurd is
  spread (split d moved rest) (Split' e x left y right) within is =
      union_spread (parts_of moved) (parts_of rest) (parts_in (partial_of left)) (parts_in (partial_of right))
      (spread moved left (λ k h. within k ((has-union (parts_of moved) (parts_of rest) k).1 (inl h))) is.1)
      (spread rest right (λ k h. within k ((has-union (parts_of moved) (parts_of rest) k).1 (inr h))) is.2)

  -- ---- steps

  apart_spread : (a b s t : PartSet) → IsSpread names heads a s → IsSpread names heads b t → AreApart a b → AreApart s t
  apart_spread a b s t first second apart p in_s in_t =
      let o = (first p).0 in_s in
      let q = (second p).0 in_t in
      let same : o.head ≡ q.head = some_injective o.head q.head (sym o.of ∙ q.of) in
      let e : o.k ≡ q.k = one_head names heads are.heads_are o.k q.k q.head (o.at ∙ ap Some same) q.at in
      apart q.k (subst (Has a) e o.has) q.has

  free_spread : (a b s t : PartSet) (d : V3) → IsSpread names heads a s → IsSpread names heads b t → IsFree merged a b d → IsFree parts s t d
  free_spread a b s t d first second free = record {
    moves = free.moves;
    clear = λ arc in_s in_t m.
        let o = (first arc.a).0 in_s in
        let q = (second arc.b).0 in_t in
        let (i, i_is) = merged_from parts names heads origins merged are arc.a arc.i o.head o.k m.p o.of o.at m.p_is in
        let (j, j_is) = merged_from parts names heads origins merged are arc.b arc.j q.head q.k m.q q.of q.at m.q_is in
        free.clear (record { a = o.k; i = i; b = q.k; j = j }) o.has q.has (record { p = m.p; q = m.q; p_is = i_is; q_is = j_is; holds = m.holds });
  }

  -- ---- groups

  group_shown : (k : ℕ) (group : GroupValue) → k < length heads → IsGroupOf parts (get_or lists (get_or heads k 0) []) group → IsShownGroup parts group
  group_shown k group lt is =
      let holds = get_or lists (get_or heads k 0) [] in
      let s = shown.each (get_or heads k 0) (head_named k lt) in record {
        some = subst (λ (hs : List Hold). 1 ≤ length hs) (sym is.holds_are) is.some;
        ordered = subst (λ (hs : List Hold). All IsOrderedHold hs) (sym is.holds_are) s.ordered;
        keep = subst (λ (hs : List Hold). AllKeep parts hs) (sym is.holds_are) (keep_all parts holds s.keep);
        members = subst (λ (hs : List Hold). Lists nat_cmp (IsJoinedLast parts hs) group.members) (sym is.holds_are) is.members;
      }

  group_stuck : (group : GroupValue) → IsShownGroup parts group → IsStuck parts (set_of group.members)
  group_stuck group is =
      last_stuck parts group.holds each (All-weaker IsOrderedHold (λ (hold : Hold). IsStrictlySortedBy nat_cmp hold.nodes) (λ hold o. o.nodes) group.holds is.ordered) is.keep (set_of group.members) is.some
      (λ p. (λ h. is.members.each p ((has-set_of group.members p).0 h), λ j. (has-set_of group.members p).1 (is.members.all p j)))

  pub groups : (plan : Plan) (tree : GroupedTree) → AreWithin (parts_of plan) → IsTurned parts heads lists plan tree → HasShownGroups parts tree
  groups (leaf k) (Leaf p) within is = tt
  groups (leaf k) (Group group) within is = group_shown k group (within k (own_leaf k)) is
  groups (leaf k) (Split' d x moved y rest) within is = absurd is
  groups (split d moved rest) (Leaf p) within is = absurd is
  groups (split d moved rest) (Group group) within is = absurd is
  groups (split d moved rest) (Split' e x left y right) within is = (
    groups moved left (λ k h. within k ((has-union (parts_of moved) (parts_of rest) k).1 (inl h))) is.1,
    groups rest right (λ k h. within k ((has-union (parts_of moved) (parts_of rest) k).1 (inr h))) is.2,
  )

  small : (plan : Plan) (tree : GroupedTree) → IsTurned parts heads lists plan tree → HasSmallDirections plan → HasSmallSteps (partial_of tree)
  small (leaf k) (Leaf p) is s = tt
  small (leaf k) (Group group) is s = tt
  small (leaf k) (Split' d x moved y rest) is s = absurd is
  small (split d moved rest) (Leaf p) is s = absurd is
  small (split d moved rest) (Group group) is s = absurd is
  small (split d moved rest) (Split' e x left y right) is s = (
    subst (λ (v : V3). IsWithin DIRECTION v) (sym is.0) s.0,
    small moved left is.1 s.1,
    small rest right is.2 s.2,
  )

  good : (plan : Plan) (tree : GroupedTree) (w : PartSet) → AreWithin (parts_of plan) → IsTurned parts heads lists plan tree → IsGood merged w plan → IsGoodPartial parts (parts_in (partial_of tree)) (partial_of tree)
  good (leaf k) (Leaf p) w within is g = refl
  good (leaf k) (Group group) w within is g = (refl, group_stuck group (group_shown k group (within k (own_leaf k)) is))
  good (leaf k) (Split' d x moved y rest) w within is g = absurd is
  good (split d moved rest) (Leaf p) w within is g = absurd is
  good (split d moved rest) (Group group) w within is g = absurd is
  good (split d moved rest) (Split' e x left y right) w within is g =
      let within_moved : AreWithin (parts_of moved) = λ k h. within k ((has-union (parts_of moved) (parts_of rest) k).1 (inl h)) in
      let within_rest : AreWithin (parts_of rest) = λ k h. within k ((has-union (parts_of moved) (parts_of rest) k).1 (inr h)) in
      let s = spread moved left within_moved is.1 in
      let t = spread rest right within_rest is.2 in
      let free = free_spread (parts_of moved) (parts_of rest) (parts_in (partial_of left)) (parts_in (partial_of right)) d s t g.2 in (
        refl,
        apart_spread (parts_of moved) (parts_of rest) (parts_in (partial_of left)) (parts_in (partial_of right)) s t g.1,
        subst (λ (v : V3). IsFree parts (parts_in (partial_of left)) (parts_in (partial_of right)) v) (sym is.0) free,
        good moved left (parts_of moved) within_moved is.1 g.3,
        good rest right (parts_of rest) within_rest is.2 g.4,
      )

  -- ---- all parts

  whole : (w : PartSet) (plan : Plan) → IsGood merged w plan → w ≡ parts_of plan
  whole w (leaf k) g = g
  whole w (split d moved rest) g = g.0

  leaves : (plan : Plan) → IsGood merged (below (length merged)) plan → AreWithin (parts_of plan)
  leaves plan g k h =
      let lt = (has-below (length merged) k).0 (subst (λ (w : PartSet). Has w k) (sym (whole (below (length merged)) plan g)) h) in
      let many = merged_count parts names heads origins merged are in
      omega (arith, lt, many)

  below_leaves : (plan : Plan) → AreWithin (parts_of plan) → HasLeavesBelow (length heads) plan
  below_leaves (leaf k) within = within k (own_leaf k)
  below_leaves (split d moved rest) within = (
    below_leaves moved (λ k h. within k ((has-union (parts_of moved) (parts_of rest) k).1 (inl h))),
    below_leaves rest (λ k h. within k ((has-union (parts_of moved) (parts_of rest) k).1 (inr h))),
  )

  pub leaves_within : (plan : Plan) → IsGood merged (below (length merged)) plan → HasLeavesBelow (length heads) plan
  leaves_within plan g = below_leaves plan (leaves plan g)

  all_parts : (plan : Plan) (t : PartSet) → IsGood merged (below (length merged)) plan → IsSpread names heads (parts_of plan) t → t ≡ below (length parts)
  all_parts plan t g is = same_members t (below (length parts))
      (λ p h. let o = (is p).0 h in let lt = place_within names p o.head o.of in let many = shown.many in (has-below (length parts) p).1 (omega (arith, lt, many)))
      (λ p h.
      let lt = (has-below (length parts) p).0 h in
      let many = shown.many in
      let (n, of) = some_at names p (omega (arith, lt, many)) in
      let (k, at) = place_of heads n (are.heads_are.all n (name_is names shown.names_are p n of)) in
      let k_lt = place_within heads k n at in
      let count = merged_count parts names heads origins merged are in
      let k_in = (has-below (length merged) k).1 (omega (arith, k_lt, count)) in
      (is p).1 (record { k = k; has = subst (λ (w : PartSet). Has w k) (whole (below (length merged)) plan g) k_in; head = n; at = at; of = of }))

  pub rest_shown : (plan : Plan) (tree : GroupedTree) → IsGood merged (below (length merged)) plan → HasSmallDirections plan → IsTurned parts heads lists plan tree → IsShownRest parts tree
  rest_shown plan tree g s is =
      let within = leaves plan g in
      let all = all_parts plan (parts_in (partial_of tree)) g (spread plan tree within is) in record {
        good = subst (λ (w : PartSet). IsGoodPartial parts w (partial_of tree)) all (good plan tree (below (length merged)) within is g);
        groups = groups plan tree within is;
        directions = small plan tree is s;
      }
