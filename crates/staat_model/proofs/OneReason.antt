-- A certificate has one reason at most, and none where it is valid.
use Rattle.std.proofs.Common.{◌≡◌, ℕ, ◌+◌, ◌<◌, List, [], ◌∷◌, ◌++◌, length, map, All, Contains, arith, ap, sym, ◌∙◌, refl, subst, inl, inr, append_assoc, append-nil}
use Rattle.std.specs.Prelude.{Some, slice_get, sum_by}
use Rattle.std.proofs.lemmas.List.Elements.{All-contains}
use Rattle.std.specs.Cmp.{nat_cmp_total}
use Rattle.std.specs.FinMap.{nat_cmp-IsAntisymmetric}
use Rattle.std.specs.Ordering.{nat_cmp}
use Rattle.staat_vec.specs.declared.vector.V3.{V3}
use Rattle.staat_model.specs.declared.assembly.Part.{Part}
use Rattle.staat_model.specs.declared.set.PartSet.{PartSet}
use Rattle.staat_model.specs.declared.certificate.Arc.{Arc}
use Rattle.staat_model.specs.declared.certificate.Dir.{Dir}
use Rattle.staat_model.specs.declared.certificate.Node.{Node}
use Rattle.staat_model.specs.declared.certificate.Witness.{Witness}
use Rattle.staat_model.specs.declared.certificate.Body.{Body}
use Rattle.staat_model.specs.declared.certificate.Body.TheVariants as body
use Rattle.staat_model.specs.declared.certificate.Certificate.{Certificate}
use Rattle.staat_model.specs.declared.verdict.Verdict.{Verdict}
use Rattle.staat_model.specs.declared.verdict.Verdict.TheVariants.{ValidPlan, ValidRefusal, Not}
use Rattle.staat_model.specs.declared.verdict.Reason.{Reason}
use Rattle.staat_model.specs.declared.verdict.Reason.TheVariants.{BadLeaves, BadSeparator, MissingSeparator, BadArc, BadTree, MissingDirection}
use Rattle.staat_model.specs.Certificates.{WalledPlan, walled_leaf, walled_split, nodes_of, arc_cmp, IsAcross, IsWall, SplitsHold, AreAllLeaves, PlanHolds, IsStuckSet, IsWitness, IsBlocked, IsListed, RefusalHolds}
use Rattle.staat_model.specs.Certificates as certificates
use Rattle.staat_vec.specs.Lists.{FailsFirst, IsFirst}
use Rattle.staat_model.specs.Planes.{vertices}
use Rattle.staat_model.specs.Reasons.{IsBadLeaf, HasMissingLeaf, IsLeafFault, bad_leaf, missing_leaf, IsSplitReason, zero_direction, bad_separator, missing_separator, EntryHolds, IsTreeReason, SplitEntry, splits_of, IsPlanReason, wrong_parts, bad_leaves, bad_split, IsNoStuckSet, IsRefusalReason, bad_stuck_set, bad_tree, bad_arc, missing_direction, IsVerdict}
use Rattle.staat_model.specs.Reasons as reasons
use Rattle.staat_model.proofs.OneTable.{ArePlanes-unique}
use Rattle.staat_model.proofs.Orders.{arc_total, arc_exact}
use Rattle.staat_model.proofs.Places.{one_at_place}
use Rattle.staat_model.proofs.SetBits.{has-below}
use Rattle.staat_model.proofs.SplitLists.{entries_hold, fails_behind}
use Rattle.staat_vec.proofs.Unique.{IsFirst-unique, IsFirst-in, IsLeast-unique}
use Rattle.staat_vec.proofs.Naturals.{trichotomy}
use Rattle.staat_vec.proofs.ListLaws.{FailsFirst-some}

-- ---- the first that fails

pub FailsFirst-unique : {X : Type 0} (P : X → Type 0) (xs : List X) (j k : ℕ) → FailsFirst P xs j → FailsFirst P xs k → j ≡ k
FailsFirst-unique P xs j k a b = elim (trichotomy j k) [
  | inl lt ↦ absurd (a.fails (b.before j a.x lt a.at))
  | inr other ↦ elim other [ inl e ↦ e | inr lt ↦ absurd (b.fails (a.before k b.x lt b.at)) ]
]

-- ---- the tree of nodes in preorder is one alone

nodes_cancel : (t u : WalledPlan) (xs ys : List Node) → nodes_of t ++ xs ≡ nodes_of u ++ ys → (t ≡ u) × (xs ≡ ys)
nodes_cancel (walled_leaf p) (walled_leaf q) xs ys e =
    let same : p ≡ q = cc in
    let rest : xs ≡ ys = cc in
    (ap walled_leaf same, rest)
nodes_cancel (walled_split d seps m r) (walled_split d' seps' m' r') xs ys e =
    let ds : d ≡ d' = cc in
    let walls : seps ≡ seps' = cc in
    let behind : (nodes_of m ++ nodes_of r) ++ xs ≡ (nodes_of m' ++ nodes_of r') ++ ys = cc in
    let first = nodes_cancel m m' (nodes_of r ++ xs) (nodes_of r' ++ ys) (sym (append_assoc (nodes_of m) (nodes_of r) xs) ∙ behind ∙ append_assoc (nodes_of m') (nodes_of r') ys) in
    let second = nodes_cancel r r' xs ys first.1 in
    (λ i. walled_split (ds i) (walls i) (first.0 i) (second.0 i), second.1)
nodes_cancel t u xs ys e = absurd cc

pub one_tree : (t u : WalledPlan) → nodes_of t ≡ nodes_of u → t ≡ u
one_tree t u e = (nodes_cancel t u [] [] (append-nil (nodes_of t) ∙ e ∙ sym (append-nil (nodes_of u)))).0

-- ---- leaves

no_bad_leaf : (n : ℕ) (nodes : List Node) (k : ℕ) → AreAllLeaves n nodes → IsBadLeaf n nodes k → ⊥
no_bad_leaf n nodes k all bad = elim bad.bad [
  | inl high ↦ (let low : bad.part < n = all.each k bad.part bad.leaf_is in absurd (omega arith))
  | inr twice ↦ (let same : twice.0 ≡ k = all.once twice.0 k bad.part twice.2 bad.leaf_is in absurd (omega (arith, twice.1)))
]

leaf_fault_some : (n : ℕ) (nodes : List Node) (k : ℕ) → IsLeafFault n nodes k → AreAllLeaves n nodes → ⊥
leaf_fault_some n nodes k (bad_leaf bad) all = no_bad_leaf n nodes k all bad.has
leaf_fault_some n nodes k (missing_leaf none missing e) all = let at = all.all missing.part missing.exists in missing.missing at.0 at.1

leaf_fault_unique : (n : ℕ) (nodes : List Node) (j k : ℕ) → IsLeafFault n nodes j → IsLeafFault n nodes k → j ≡ k
leaf_fault_unique n nodes j k (bad_leaf a) (bad_leaf b) = IsLeast-unique nat_cmp nat_cmp_total nat_cmp-IsAntisymmetric (IsBadLeaf n nodes) j k a b
leaf_fault_unique n nodes j k (bad_leaf a) (missing_leaf none m e) = absurd (none j a.has)
leaf_fault_unique n nodes j k (missing_leaf none m e) (bad_leaf b) = absurd (none k b.has)
leaf_fault_unique n nodes j k (missing_leaf none m e) (missing_leaf none' m' e') = e ∙ sym e'

-- ---- splits

module _ (parts : List Part) (split : SplitEntry) where
  pub split_reason_some : (x : Reason) → IsSplitReason parts split x → EntryHolds parts split → ⊥
  split_reason_some x (zero_direction zero e) h = h.moves zero
  split_reason_some x (bad_separator m ne first e) h = FailsFirst-some (IsWall parts split.moved split.rest split.d) split.seps m first h.walls
  split_reason_some x (missing_separator arc ne walls least e) h = least.has.1 (h.arcs.all arc least.has.0)

  split_reason_unique : (x y : Reason) → IsSplitReason parts split x → IsSplitReason parts split y → x ≡ y
  split_reason_unique x y (zero_direction zero e) (zero_direction zero' e') = e ∙ sym e'
  split_reason_unique x y (zero_direction zero e) (bad_separator m ne first e') = absurd (ne zero)
  split_reason_unique x y (zero_direction zero e) (missing_separator arc ne walls least e') = absurd (ne zero)
  split_reason_unique x y (bad_separator m ne first e) (zero_direction zero e') = absurd (ne zero)
  split_reason_unique x y (bad_separator m ne first e) (bad_separator m' ne' first' e') = e ∙ ap (λ k. BadSeparator (split.line + 1 + k)) (FailsFirst-unique (IsWall parts split.moved split.rest split.d) split.seps m m' first first') ∙ sym e'
  split_reason_unique x y (bad_separator m ne first e) (missing_separator arc ne' walls least e') = absurd (FailsFirst-some (IsWall parts split.moved split.rest split.d) split.seps m first walls)
  split_reason_unique x y (missing_separator arc ne walls least e) (zero_direction zero e') = absurd (ne zero)
  split_reason_unique x y (missing_separator arc ne walls least e) (bad_separator m ne' first e') = absurd (FailsFirst-some (IsWall parts split.moved split.rest split.d) split.seps m first walls)
  split_reason_unique x y (missing_separator arc ne walls least e) (missing_separator arc' ne' walls' least' e') =
      e ∙ ap (λ (a : Arc). MissingSeparator a.a a.i a.b a.j) (IsLeast-unique arc_cmp arc_total arc_exact (λ other. IsAcross parts split.moved split.rest other × (Contains (map (λ sep. sep.arc) split.seps) other → ⊥)) arc arc' least least') ∙ sym e'

-- the first split that breaks a rule, behind those that keep theirs
pub broken_at : (parts : List Part) (t : WalledPlan) (before more : List SplitEntry) (x : SplitEntry) (reason : Reason)
    → splits_of t 0 reasons.first_line ≡ before ++ x ∷ more → All (EntryHolds parts) before → IsSplitReason parts x reason
    → IsTreeReason parts t reason
broken_at parts t before more x reason is hold reason_is =
    let breaks = split_reason_some parts x reason reason_is in
    let first : (xs : List SplitEntry) → xs ≡ before ++ x ∷ more → (f : FailsFirst (EntryHolds parts) xs (length before)) × (f.x ≡ x) =
    λ xs e. subst (λ l. (f : FailsFirst (EntryHolds parts) l (length before)) × (f.x ≡ x)) (sym e)
    (fails_behind (EntryHolds parts) before more x hold breaks, refl) in
    let found = first (splits_of t 0 reasons.first_line) is in record {
      place = length before;
      first = found.0;
      reason_is = subst (λ (s : SplitEntry). IsSplitReason parts s reason) (sym found.1) reason_is;
    }

tree_reason_unique : (parts : List Part) (t : WalledPlan) (x y : Reason) → IsTreeReason parts t x → IsTreeReason parts t y → x ≡ y
tree_reason_unique parts t x y f g =
    let all = splits_of t 0 reasons.first_line in
    let place = FailsFirst-unique (EntryHolds parts) all f.place g.place f.first g.first in
    let same : f.first.x ≡ g.first.x = one_at_place all g.place f.first.x g.first.x (subst (λ k. slice_get all k ≡ Some f.first.x) place f.first.at) g.first.at in
    split_reason_unique parts g.first.x x y (subst (λ (s : SplitEntry). IsSplitReason parts s x) same f.reason_is) g.reason_is

-- ---- plans

plan_reason_some : (parts : List Part) (stated : ℕ) (nodes : List Node) (x : Reason) → IsPlanReason parts stated nodes x → PlanHolds parts stated nodes → ⊥
plan_reason_some parts stated nodes x (wrong_parts ne e) h = ne h.count
plan_reason_some parts stated nodes x (bad_leaves k count f e) h = leaf_fault_some (length parts) nodes k f h.leaves
plan_reason_some parts stated nodes x (bad_split t count leaves is f) h =
    let splits = subst (SplitsHold parts) (sym (one_tree t h.tree (sym is ∙ h.tree_is))) h.splits in
    FailsFirst-some (EntryHolds parts) (splits_of t 0 reasons.first_line) f.place f.first (entries_hold parts t 0 reasons.first_line splits)

plan_reason_unique : (parts : List Part) (stated : ℕ) (nodes : List Node) (x y : Reason) → IsPlanReason parts stated nodes x → IsPlanReason parts stated nodes y → x ≡ y
plan_reason_unique parts stated nodes x y (wrong_parts ne e) (wrong_parts ne' e') = e ∙ sym e'
plan_reason_unique parts stated nodes x y (wrong_parts ne e) (bad_leaves k count f e') = absurd (ne count)
plan_reason_unique parts stated nodes x y (wrong_parts ne e) (bad_split t count leaves is f) = absurd (ne count)
plan_reason_unique parts stated nodes x y (bad_leaves k count f e) (wrong_parts ne e') = absurd (ne count)
plan_reason_unique parts stated nodes x y (bad_leaves k count f e) (bad_leaves k' count' f' e') = e ∙ ap BadLeaves (leaf_fault_unique (length parts) nodes k k' f f') ∙ sym e'
plan_reason_unique parts stated nodes x y (bad_leaves k count f e) (bad_split t count' leaves is g) = absurd (leaf_fault_some (length parts) nodes k f leaves)
plan_reason_unique parts stated nodes x y (bad_split t count leaves is f) (wrong_parts ne e') = absurd (ne count)
plan_reason_unique parts stated nodes x y (bad_split t count leaves is f) (bad_leaves k count' g e') = absurd (leaf_fault_some (length parts) nodes k g leaves)
plan_reason_unique parts stated nodes x y (bad_split t count leaves is f) (bad_split u count' leaves' is' g) =
    tree_reason_unique parts u x y (subst (λ (v : WalledPlan). IsTreeReason parts v x) (one_tree t u (sym is ∙ is')) f) g

-- ---- refusals

no_stuck_set : (parts : List Part) (w : PartSet) → IsNoStuckSet parts w → IsStuckSet parts w → ⊥
no_stuck_set parts w (inl few) h = absurd (omega (arith, few, h.two))
no_stuck_set parts w (inr (p, has, high)) h = let low : p < length parts = (has-below (length parts) p).0 (h.within p has) in absurd (omega arith)

module _ (parts : List Part) (version stated : ℕ) (w : PartSet) (witnesses : List Witness) (dirs : List Dir) where
  refusal_reason_some : (x : Reason) → IsRefusalReason parts version stated w witnesses dirs x → RefusalHolds parts version stated w witnesses dirs → ⊥
  refusal_reason_some x (wrong_parts ne e) h = ne h.count
  refusal_reason_some x (bad_stuck_set count unfit e) h = no_stuck_set parts w unfit h.stuck_set
  refusal_reason_some x (bad_tree k count set_is first e) h = FailsFirst-some (IsWitness parts w) witnesses k first h.trees
  refusal_reason_some x (bad_arc m count set_is trees first e) h = FailsFirst-some (IsBlocked parts witnesses) dirs m first h.blocked
  refusal_reason_some x (missing_direction planes d count set_is trees blocked planes_are first e) h =
      let vs = vertices planes in
      let at = IsFirst-in (λ v. IsListed version dirs v → ⊥) vs d first in
      at.1 (All-contains (IsListed version dirs) vs d (subst (λ (ps : List V3). All (IsListed version dirs) (vertices ps)) (ArePlanes-unique parts w h.planes planes h.planes_are planes_are) h.all) at.0)

  refusal_reason_unique : (x y : Reason) → IsRefusalReason parts version stated w witnesses dirs x → IsRefusalReason parts version stated w witnesses dirs y → x ≡ y
  refusal_reason_unique x y (wrong_parts ne e) (wrong_parts ne' e') = e ∙ sym e'
  refusal_reason_unique x y (wrong_parts ne e) (bad_stuck_set count unfit e') = absurd (ne count)
  refusal_reason_unique x y (wrong_parts ne e) (bad_tree k count s f e') = absurd (ne count)
  refusal_reason_unique x y (wrong_parts ne e) (bad_arc m count s t f e') = absurd (ne count)
  refusal_reason_unique x y (wrong_parts ne e) (missing_direction ps d count s t b pa f e') = absurd (ne count)
  refusal_reason_unique x y (bad_stuck_set count unfit e) (wrong_parts ne e') = absurd (ne count)
  refusal_reason_unique x y (bad_stuck_set count unfit e) (bad_stuck_set count' unfit' e') = e ∙ sym e'
  refusal_reason_unique x y (bad_stuck_set count unfit e) (bad_tree k count' s f e') = absurd (no_stuck_set parts w unfit s)
  refusal_reason_unique x y (bad_stuck_set count unfit e) (bad_arc m count' s t f e') = absurd (no_stuck_set parts w unfit s)
  refusal_reason_unique x y (bad_stuck_set count unfit e) (missing_direction ps d count' s t b pa f e') = absurd (no_stuck_set parts w unfit s)
  refusal_reason_unique x y (bad_tree k count s f e) (wrong_parts ne e') = absurd (ne count)
  refusal_reason_unique x y (bad_tree k count s f e) (bad_stuck_set count' unfit e') = absurd (no_stuck_set parts w unfit s)
  refusal_reason_unique x y (bad_tree k count s f e) (bad_tree k' count' s' f' e') = e ∙ ap BadTree (FailsFirst-unique (IsWitness parts w) witnesses k k' f f') ∙ sym e'
  refusal_reason_unique x y (bad_tree k count s f e) (bad_arc m count' s' t g e') = absurd (FailsFirst-some (IsWitness parts w) witnesses k f t)
  refusal_reason_unique x y (bad_tree k count s f e) (missing_direction ps d count' s' t b pa g e') = absurd (FailsFirst-some (IsWitness parts w) witnesses k f t)
  refusal_reason_unique x y (bad_arc m count s t f e) (wrong_parts ne e') = absurd (ne count)
  refusal_reason_unique x y (bad_arc m count s t f e) (bad_stuck_set count' unfit e') = absurd (no_stuck_set parts w unfit s)
  refusal_reason_unique x y (bad_arc m count s t f e) (bad_tree k count' s' g e') = absurd (FailsFirst-some (IsWitness parts w) witnesses k g t)
  refusal_reason_unique x y (bad_arc m count s t f e) (bad_arc m' count' s' t' f' e') = e ∙ ap (λ k. BadArc (reasons.first_line + sum_by reasons.witness_size witnesses + k)) (FailsFirst-unique (IsBlocked parts witnesses) dirs m m' f f') ∙ sym e'
  refusal_reason_unique x y (bad_arc m count s t f e) (missing_direction ps d count' s' t' b pa g e') = absurd (FailsFirst-some (IsBlocked parts witnesses) dirs m f b)
  refusal_reason_unique x y (missing_direction ps d count s t b pa f e) (wrong_parts ne e') = absurd (ne count)
  refusal_reason_unique x y (missing_direction ps d count s t b pa f e) (bad_stuck_set count' unfit e') = absurd (no_stuck_set parts w unfit s)
  refusal_reason_unique x y (missing_direction ps d count s t b pa f e) (bad_tree k count' s' g e') = absurd (FailsFirst-some (IsWitness parts w) witnesses k g t)
  refusal_reason_unique x y (missing_direction ps d count s t b pa f e) (bad_arc m count' s' t' g e') = absurd (FailsFirst-some (IsBlocked parts witnesses) dirs m g b)
  refusal_reason_unique x y (missing_direction ps d count s t b pa f e) (missing_direction ps' d' count' s' t' b' pa' f' e') =
      e ∙ ap MissingDirection (IsFirst-unique (λ v. IsListed version dirs v → ⊥) (vertices ps') d d' (subst (λ (qs : List V3). IsFirst (λ v. IsListed version dirs v → ⊥) (vertices qs) d) (ArePlanes-unique parts w ps ps' pa pa') f) f') ∙ sym e'

-- ---- certificates

pub body_unique : (parts : List Part) (version stated : ℕ) (b : Body) (x y : Reason) → reasons.IsBodyReason parts version stated b x → reasons.IsBodyReason parts version stated b y → x ≡ y
body_unique parts version stated (body.Plan nodes) x y f g = plan_reason_unique parts stated nodes x y f g
body_unique parts version stated (body.Stuck w witnesses dirs) x y f g = refusal_reason_unique parts version stated w witnesses dirs x y f g

pub plan_body : (parts : List Part) (version stated : ℕ) (b : Body) (x : Reason) → reasons.IsBodyReason parts version stated b x → certificates.PlanBodyHolds parts stated b → ⊥
plan_body parts version stated (body.Plan nodes) x f h = plan_reason_some parts stated nodes x f h
plan_body parts version stated (body.Stuck w witnesses dirs) x f h = h

pub refusal_body : (parts : List Part) (version stated : ℕ) (b : Body) (x : Reason) → reasons.IsBodyReason parts version stated b x → certificates.RefusalBodyHolds parts version stated b → ⊥
refusal_body parts version stated (body.Plan nodes) x f h = h
refusal_body parts version stated (body.Stuck w witnesses dirs) x f h = refusal_reason_some parts version stated w witnesses dirs x f h

-- ---- verdicts

not_both : (parts : List Part) (stated version : ℕ) (b : Body) → certificates.PlanBodyHolds parts stated b → certificates.RefusalBodyHolds parts version stated b → ⊥
not_both parts stated version (body.Plan nodes) plan refusal = refusal
not_both parts stated version (body.Stuck w witnesses dirs) plan refusal = plan

pub IsVerdict-unique : (parts : List Part) (c : Certificate) (v u : Verdict) → IsVerdict parts c v → IsVerdict parts c u → v ≡ u
IsVerdict-unique parts c ValidPlan ValidPlan f g = refl
IsVerdict-unique parts c ValidPlan ValidRefusal f g = absurd (not_both parts c.parts c.version c.body f g)
IsVerdict-unique parts c ValidPlan (Not y) f g = absurd (plan_body parts c.version c.parts c.body y g f)
IsVerdict-unique parts c ValidRefusal ValidPlan f g = absurd (not_both parts c.parts c.version c.body g f)
IsVerdict-unique parts c ValidRefusal ValidRefusal f g = refl
IsVerdict-unique parts c ValidRefusal (Not y) f g = absurd (refusal_body parts c.version c.parts c.body y g f)
IsVerdict-unique parts c (Not x) ValidPlan f g = absurd (plan_body parts c.version c.parts c.body x f g)
IsVerdict-unique parts c (Not x) ValidRefusal f g = absurd (refusal_body parts c.version c.parts c.body x f g)
IsVerdict-unique parts c (Not x) (Not y) f g = ap Not (body_unique parts c.version c.parts c.body x y f g)
