-- The splits of a plan, one node after another.
use Rattle.std.proofs.Common.{◌≡◌, ◌≢◌, ◌↔◌, ℕ, ◌+◌, ◌<◌, ◌≤◌, List, length, get_or, ⊎_elim, refl, sym, ap, subst, ◌∙◌, arith, All, Contains}
use Rattle.std.specs.Prelude.{MatchOption, Option, None, Some, slice_get}
use Rattle.std.specs.Ordering.{nat_cmp}
use Rattle.std.proofs.lemmas.Bool.{cases_eq}
use Rattle.staat_vec.specs.declared.vector.V3.{V3}
use Rattle.staat_vec.specs.Lists.{IsLeast, Lists}
use Rattle.staat_vec.specs.Vectors.{origin}
use Rattle.staat_model.specs.declared.assembly.Part.{Part}
use Rattle.staat_model.specs.declared.certificate.Arc.{Arc}
use Rattle.staat_model.specs.Certificates.{arc_cmp}
use Rattle.staat_model.proofs.Members.{All-from_members}
use Rattle.staat_model.proofs.Places.{place_within}
use Rattle.staat_short.specs.declared.short.ShortNode.{ShortNode}
use Rattle.staat_short.specs.declared.short.ShortNode.TheVariants.{Split}
use Rattle.staat_short.specs.ShortTexts.{GroupedPlan, short_nodes_of, taken_apart}
use Rattle.staat_confirm.specs.declared.groups.BrokenGroup.{BrokenGroup}
use Rattle.staat_confirm.specs.declared.verdict.ShortReason.{ShortReason}
use Rattle.staat_confirm.specs.declared.verdict.ShortReason.TheVariants.{Meet, ZeroDirection}
use Rattle.staat_confirm.specs.Found.{FindsLeast, MeetsBetween}
use Rattle.staat_confirm.specs.Members.{IsMemberWithin, StandsAt}
use Rattle.staat_confirm.specs.Owners.{AreOwners, AreOwned, IsOwnedWithin, IsOwner}
use Rattle.staat_confirm.specs.Splits.{AreClearBefore, AreClearSplits, IsBrokenGroup, KeepsHolds, IsClearAt, IsUnclearAt, MeetsAcross, zero_way, pieces_meet}
use Rattle.staat_confirm.proofs.Least.{finds_same}
use Rattle.staat_confirm.proofs.Owning.{one_owner}
use Rattle.staat_confirm.proofs.Standing.{SplitEnds, end_is, middle_is, middle_within, member_among, member_within, moved_stands, one_stands, rest_stands, split_ends, split_first, stands_within}

pub read_ends : (parts : List Part) (nodes : List ShortNode) (owners : List (Option ℕ)) (ends : List ℕ) (k : ℕ) (d : V3) → AreOwned parts nodes owners ends → slice_get nodes k ≡ Some (Split d) → SplitEnds nodes ends k d
read_ends parts nodes owners ends k d read at = split_ends nodes ends k d read.fit.one (λ m plan le stands. read.ended m plan (omega arith) stands) at

-- ---- the two sides

pub listed_within : (parts : List Part) (nodes : List ShortNode) (owners : List (Option ℕ)) (from end : ℕ) (t : GroupedPlan) (xs : List ℕ) → AreOwners parts nodes (length nodes) owners → StandsAt nodes from t → end ≡ from + length (short_nodes_of t)
    → Lists nat_cmp (IsOwnedWithin owners from end) xs → (p : ℕ) → Contains xs p ↔ IsMemberWithin parts t p
listed_within parts nodes owners from end t xs are stands e lists p = (
  λ c. let o = lists.each p c in member_within parts nodes from t o.node p stands o.low (let h = o.high in omega (arith, h, e)) ((are.are p o.node).0 o.owner).1,
  λ h. let (m, low, high, is) = member_among parts nodes from t p stands h in
      lists.all p (record { node = m; owner = (are.are p m).1 (place_within nodes m is.node is.at, is); low = low; high = omega (arith, high, e) }),
)

pub listed_parts : (parts : List Part) (nodes : List ShortNode) (owners : List (Option ℕ)) (from end : ℕ) (xs : List ℕ) → AreOwners parts nodes (length nodes) owners → Lists nat_cmp (IsOwnedWithin owners from end) xs → All (λ p. p < length parts) xs
listed_parts parts nodes owners from end xs are lists = All-from_members (λ p. p < length parts) xs
    (λ p c. let o = lists.each p c in let within = place_within owners p (Some o.node) o.owner in let count = are.count in omega (arith, within, count))

pub listed_apart : (owners : List (Option ℕ)) (from middle end : ℕ) (xs ys : List ℕ) → Lists nat_cmp (IsOwnedWithin owners from middle) xs → Lists nat_cmp (IsOwnedWithin owners middle end) ys → All (λ a. All (λ b. b ≡ a → ⊥) ys) xs
listed_apart owners from middle end xs ys first second = All-from_members (λ a. All (λ b. b ≡ a → ⊥) ys) xs (λ a c. All-from_members (λ b. b ≡ a → ⊥) ys (λ b c' e.
    let o = first.each a c in
    let q = second.each b c' in
    let same = one_owner owners a o.node q.node o.owner (subst (λ p. IsOwner owners p q.node) e q.owner) in
    let high = o.high in
    let low = q.low in
    omega (arith, same, high, low)))

pub across : (parts : List Part) (nodes : List ShortNode) (ends : List ℕ) (k : ℕ) (d : V3) (s : SplitEnds nodes ends k d) (xs ys : List ℕ) (answer : Option Arc) → ((p : ℕ) → Contains xs p ↔ IsMemberWithin parts s.moved p) → ((p : ℕ) → Contains ys p ↔ IsMemberWithin parts s.rest p)
    → FindsLeast (MeetsBetween parts d xs ys) answer → (m r : GroupedPlan) → StandsAt nodes k (taken_apart d m r) → FindsLeast (MeetsAcross parts m r d) answer
across parts nodes ends k d s xs ys answer first second finds m r at =
    let same = one_stands nodes k (taken_apart d s.moved s.rest) (taken_apart d m r) s.stands at in
    let ms : s.moved ≡ m = cc in
    let rs : s.rest ≡ r = cc in
    let here : FindsLeast (MeetsAcross parts s.moved s.rest d) answer = finds_same (MeetsBetween parts d xs ys) (MeetsAcross parts s.moved s.rest d) answer
    (λ arc. (
      λ h. record { from = (first arc.a).0 h.from; to = (second arc.b).0 h.to; meets = h.meets },
      λ h. record { from = (first arc.a).1 h.from; to = (second arc.b).1 h.to; meets = h.meets },
    )) finds in
    subst (λ u. FindsLeast (MeetsAcross parts m u d) answer) rs (subst (λ u. FindsLeast (MeetsAcross parts u s.rest d) answer) ms here)

-- ---- one split

pub zero_at : (parts : List Part) (nodes : List ShortNode) (ends : List ℕ) (k : ℕ) (d : V3) → SplitEnds nodes ends k d → d ≡ origin → IsUnclearAt parts nodes k (ZeroDirection k)
zero_at parts nodes ends k d s e = zero_way s.moved s.rest (subst (λ v. StandsAt nodes k (taken_apart v s.moved s.rest)) e s.stands) refl

pub meets_at : (parts : List Part) (nodes : List ShortNode) (ends : List ℕ) (k : ℕ) (d : V3) (arc : Arc) → SplitEnds nodes ends k d → d ≢ origin → ((m r : GroupedPlan) → StandsAt nodes k (taken_apart d m r) → IsLeast arc_cmp (MeetsAcross parts m r d) arc)
    → IsUnclearAt parts nodes k (Meet arc.a arc.i arc.b arc.j k)
meets_at parts nodes ends k d arc s ne least = pieces_meet d s.moved s.rest arc s.stands ne (least s.moved s.rest s.stands) refl

pub clear_at : (parts : List Part) (nodes : List ShortNode) (k : ℕ) (d : V3) → slice_get nodes k ≡ Some (Split d) → d ≢ origin → ((m r : GroupedPlan) → StandsAt nodes k (taken_apart d m r) → (arc : Arc) → MeetsAcross parts m r d arc → ⊥) → IsClearAt parts nodes k
clear_at parts nodes k d at ne none d' m r stands =
    let both : Some (Split d') ≡ Some (Split d) = sym (split_first nodes k d' m r stands) ∙ at in
    let same : d ≡ d' = cc in
    subst (λ v. Rattle.staat_confirm.specs.Splits.IsClearSplit parts v m r) same (record { moves = ne; clear = none m r (subst (λ v. StandsAt nodes k (taken_apart v m r)) (sym same) stands) })

-- ---- one node more

pub clear_more : (parts : List Part) (nodes : List ShortNode) (k : ℕ) → AreClearBefore parts nodes k → IsClearAt parts nodes k → AreClearBefore parts nodes (k + 1)
clear_more parts nodes k before here m lt = ⊎_elim {C = IsClearAt parts nodes m} (λ e. subst (IsClearAt parts nodes) (sym e) here) (λ ne. before m (omega (arith, lt, ne))) (cases_eq m k)

pub clear_all : (parts : List Part) (nodes : List ShortNode) (k : ℕ) → length nodes ≤ k → AreClearBefore parts nodes k → AreClearSplits parts nodes
clear_all parts nodes k le before m lt = before m (omega (arith, le, lt))

-- ---- groups

pub group_told : (parts : List Part) (nodes : List ShortNode) (o : Option BrokenGroup) (group : BrokenGroup) → o ≡ Some group → MatchOption o (All (KeepsHolds parts) nodes) (λ g. IsBrokenGroup parts nodes g.node g.broken) → IsBrokenGroup parts nodes group.node group.broken
group_told parts nodes o group e h = subst (λ x. MatchOption x (All (KeepsHolds parts) nodes) (λ (g : BrokenGroup). IsBrokenGroup parts nodes g.node g.broken)) e h

-- an option, known by its variant

pub told_none : (parts : List Part) (nodes : List ShortNode) (k : ℕ) (o : Option ShortReason) → o ≡ None → MatchOption o (IsClearAt parts nodes k) (IsUnclearAt parts nodes k) → IsClearAt parts nodes k
told_none parts nodes k o e h = subst (λ x. MatchOption x (IsClearAt parts nodes k) (IsUnclearAt parts nodes k)) e h

pub told_some : (parts : List Part) (nodes : List ShortNode) (k : ℕ) (o : Option ShortReason) (r : ShortReason) → o ≡ Some r → MatchOption o (IsClearAt parts nodes k) (IsUnclearAt parts nodes k) → IsUnclearAt parts nodes k r
told_some parts nodes k o r e h = subst (λ x. MatchOption x (IsClearAt parts nodes k) (IsUnclearAt parts nodes k)) e h

-- ---- the answer of the search across a split

pub across_read : (parts : List Part) (nodes : List ShortNode) (owners : List (Option ℕ)) (ends : List ℕ) (k : ℕ) (d : V3) (middle end : ℕ) (moved rest xs ys : List ℕ) (answer : Option Arc) → AreOwned parts nodes owners ends → slice_get nodes k ≡ Some (Split d)
    → middle ≡ get_or ends (k + 1) 0 → end ≡ get_or ends middle 0 → xs ≡ moved → ys ≡ rest
    → Lists nat_cmp (IsOwnedWithin owners (k + 1) middle) moved → Lists nat_cmp (IsOwnedWithin owners middle end) rest
    → FindsLeast (MeetsBetween parts d xs ys) answer → (m r : GroupedPlan) → StandsAt nodes k (taken_apart d m r) → FindsLeast (MeetsAcross parts m r d) answer
across_read parts nodes owners ends k d middle end moved rest xs ys answer read at middle_e end_e xs_e ys_e first second finds =
    across parts nodes ends k d s moved rest answer
    (listed_within parts nodes owners (k + 1) middle s.moved moved read.owned (moved_stands nodes k d s.moved s.rest s.stands) middle_at first)
    (listed_within parts nodes owners middle end s.rest rest read.owned (subst (λ j. StandsAt nodes j s.rest) (sym middle_at) (rest_stands nodes k d s.moved s.rest s.stands)) end_at second)
    (subst (λ l. FindsLeast (MeetsBetween parts d moved l) answer) ys_e (subst (λ l. FindsLeast (MeetsBetween parts d l ys) answer) xs_e finds))
  where
    s : SplitEnds nodes ends k d
    s = read_ends parts nodes owners ends k d read at

    middle_at : middle ≡ k + 1 + length (short_nodes_of s.moved)
    middle_at = middle_e ∙ middle_is nodes ends k d s

    end_at : end ≡ middle + length (short_nodes_of s.rest)
    end_at =
        let a = end_e ∙ ap (λ i. get_or ends i 0) middle_e ∙ end_is nodes ends k d s in
        let b = middle_at in
        omega (arith, a, b)

-- ---- bounds

pub read_bounds : (parts : List Part) (nodes : List ShortNode) (owners : List (Option ℕ)) (ends : List ℕ) (k : ℕ) (d : V3) → AreOwned parts nodes owners ends → slice_get nodes k ≡ Some (Split d)
    → (k + 1 < length ends) × (get_or ends (k + 1) 0 < length ends) × (get_or ends (k + 1) 0 < length nodes)
read_bounds parts nodes owners ends k d read at =
    let s = read_ends parts nodes owners ends k d read at in
    let within = middle_within nodes ends k d s in
    let lt = stands_within nodes (k + 1 + length (short_nodes_of s.moved)) s.rest (rest_stands nodes k d s.moved s.rest s.stands) in
    let e = middle_is nodes ends k d s in
    (within.0, within.1, omega (arith, lt, e))

-- ---- along the direction to which it was turned

pub meets_turned : (parts : List Part) (nodes : List ShortNode) (ends : List ℕ) (k : ℕ) (d e : V3) (arc : Arc) (answer : Option Arc) → e ≡ d → answer ≡ Some arc → SplitEnds nodes ends k d → d ≢ origin
    → ((m r : GroupedPlan) → StandsAt nodes k (taken_apart e m r) → FindsLeast (MeetsAcross parts m r e) answer) → IsUnclearAt parts nodes k (Meet arc.a arc.i arc.b arc.j k)
meets_turned parts nodes ends k d e arc answer same is s ne finds =
    meets_at parts nodes ends k d arc s ne (λ m r at. subst (λ v. IsLeast arc_cmp (MeetsAcross parts m r v) arc) same
    (subst (FindsLeast (MeetsAcross parts m r e)) is (finds m r (subst (λ v. StandsAt nodes k (taken_apart v m r)) (sym same) at))))

pub clear_turned : (parts : List Part) (nodes : List ShortNode) (k : ℕ) (d e : V3) (answer : Option Arc) → e ≡ d → answer ≡ None → slice_get nodes k ≡ Some (Split d) → d ≢ origin
    → ((m r : GroupedPlan) → StandsAt nodes k (taken_apart e m r) → FindsLeast (MeetsAcross parts m r e) answer) → IsClearAt parts nodes k
clear_turned parts nodes k d e answer same is at ne finds =
    clear_at parts nodes k d at ne (λ m r stands arc h.
    let none : (x : Arc) → MeetsAcross parts m r e x → ⊥ = subst (FindsLeast (MeetsAcross parts m r e)) is (finds m r (subst (λ v. StandsAt nodes k (taken_apart v m r)) (sym same) stands)) in
    none arc (subst (λ v. MeetsAcross parts m r v arc) (sym same) h))
