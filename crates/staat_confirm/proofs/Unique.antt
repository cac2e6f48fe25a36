-- A certificate has one verdict.
use Rattle.std.proofs.Common.{◌≡◌, ℕ, ◌<◌, List, ◌++◌, length, ⊎_elim, refl, sym, ap, subst, ◌∙◌, arith, All, Contains}
use Rattle.std.specs.Prelude.{Some, slice_get}
use Rattle.std.specs.Cmp.{nat_cmp_total}
use Rattle.std.specs.FinMap.{nat_cmp-IsAntisymmetric}
use Rattle.std.specs.Ordering.{nat_cmp}
use Rattle.std.proofs.lemmas.List.Elements.{All-contains}
use Rattle.staat_vec.specs.declared.vector.V3.{V3}
use Rattle.staat_vec.specs.Lists.{IsFirst, IsLeast}
use Rattle.staat_vec.specs.Vectors.{origin, vector_cmp}
use Rattle.staat_vec.proofs.Unique.{IsFirst-unique, IsLeast-unique, Lists-unique, from_place}
use Rattle.staat_vec.proofs.VectorOrder.{vector_exact, vector_total}
use Rattle.staat_model.specs.declared.assembly.Part.{Part}
use Rattle.staat_model.specs.declared.certificate.Arc.{Arc}
use Rattle.staat_model.specs.Certificates.{arc_cmp}
use Rattle.staat_model.specs.Cores.{IsCorePlane}
use Rattle.staat_model.specs.Planes.{axes, vertices}
use Rattle.staat_model.proofs.Orders.{arc_exact, arc_total}
use Rattle.staat_holds.specs.declared.hold.BrokenHold.{BrokenHold}
use Rattle.staat_holds.specs.declared.hold.Hold.{Hold}
use Rattle.staat_holds.specs.declared.hold.HoldRule.{HoldRule}
use Rattle.staat_holds.specs.declared.hold.HoldRule.TheVariants.{BadPair, FewNodes, Gap, NoNode}
use Rattle.staat_holds.specs.Chains.{IsFirstBroken, IsFirstRule, IsHoldPair, IsName, names_before, places_of}
use Rattle.staat_holds.specs.Holds.{AreHoldPlanes, IsFirstGap, LeadsBetween}
use Rattle.staat_holds.specs.Reaching.{AllReach}
use Rattle.staat_holds.proofs.Breaking.{broken_breaks, rule_breaks}
use Rattle.staat_model.proofs.OneReason.{FailsFirst-unique}
use Rattle.staat_short.specs.declared.short.ShortNode.{ShortNode}
use Rattle.staat_short.specs.declared.short.ShortNode.TheVariants.{Leaf, Split, Group}
use Rattle.staat_short.specs.declared.short.ShortAnswer.{ShortAnswer}
use Rattle.staat_short.specs.declared.short.ShortAnswer.TheVariants as answer
use Rattle.staat_short.specs.declared.short.ShortCertificate.{ShortCertificate}
use Rattle.staat_short.specs.ShortTexts.{taken_apart}
use Rattle.staat_confirm.specs.declared.verdict.ShortReason.{ShortReason}
use Rattle.staat_confirm.specs.declared.verdict.ShortReason.TheVariants.{HoldBreaks, GroupBreaks, BadLeaves, Meet}
use Rattle.staat_confirm.specs.declared.verdict.ShortVerdict.{ShortVerdict}
use Rattle.staat_confirm.specs.declared.verdict.ShortVerdict.TheVariants.{ValidPlan, ValidRefusal, Not}
use Rattle.staat_confirm.specs.Members.{AreMembersOnce, IsBadMember, IsMemberFault, bad_member, missing_member}
use Rattle.staat_confirm.specs.Splits.{AreClearSplits, BreaksHolds, IsBrokenGroup, IsClearAt, IsUnclearAt, IsUnclearSplit, KeepsHolds, MeetsAcross, zero_way, pieces_meet}
use Rattle.staat_confirm.specs.ShortVerdicts.{IsAnswerVerdict, IsHoldsVerdict, IsNodesReason, IsNodesVerdict, IsShortVerdict, KeepNodeRules, group_breaks, bad_members, unclear_split, wrong_count, right_count}
use Rattle.staat_confirm.proofs.Standing.{one_stands, stands_within}
use Rattle.staat_vec.proofs.Naturals.{same_from_neither}
use Rattle.staat_vec.proofs.Options.{some_injective}
use Rattle.staat_vec.proofs.ListLaws.{FailsFirst-some}

-- ---- holds

planes_one : (parts : List Part) (core : List Arc) (ps qs : List V3) → AreHoldPlanes parts core ps → AreHoldPlanes parts core qs → ps ≡ qs
planes_one parts core ps qs a b =
    a.is ∙ ap (λ os. axes ++ os) (Lists-unique vector_cmp vector_total vector_exact (λ n. IsCorePlane parts core n × (Contains axes n → ⊥)) a.others b.others a.others_are b.others_are) ∙ sym b.is

gap_one : (parts : List Part) (nodes : _) (count : ℕ) (core : List Arc) (v w : V3) → IsFirstGap parts nodes count core v → IsFirstGap parts nodes count core w → v ≡ w
gap_one parts nodes count core v w a b =
    let same = planes_one parts core a.planes b.planes a.planes_are b.planes_are in
    let P : V3 → Type 0 = λ d. AllReach count (LeadsBetween parts nodes core d) → ⊥ in
    IsFirst-unique P (vertices b.planes) v w (subst (λ ps. IsFirst P (vertices ps) v) same a.first) b.first

rule_one : (parts : List Part) (names : List ℕ) (hold : Hold) (r s : HoldRule) → IsFirstRule parts names hold r → IsFirstRule parts names hold s → r ≡ s
rule_one parts names hold (NoNode k) (NoNode m) a b = ap NoNode (FailsFirst-unique (IsName names) hold.nodes k m a b)
rule_one parts names hold (NoNode k) FewNodes a b = absurd (FailsFirst-some (IsName names) hold.nodes k a b.0)
rule_one parts names hold (NoNode k) (BadPair m) a b = absurd (FailsFirst-some (IsName names) hold.nodes k a b.0)
rule_one parts names hold (NoNode k) (Gap v) a b = absurd (FailsFirst-some (IsName names) hold.nodes k a b.0)
rule_one parts names hold FewNodes (NoNode k) a b = absurd (FailsFirst-some (IsName names) hold.nodes k b a.0)
rule_one parts names hold FewNodes FewNodes a b = refl
rule_one parts names hold FewNodes (BadPair m) a b = let few = a.1 in let two = b.1 in absurd (omega (arith, few, two))
rule_one parts names hold FewNodes (Gap v) a b = let few = a.1 in let two = b.1 in absurd (omega (arith, few, two))
rule_one parts names hold (BadPair k) (NoNode m) a b = absurd (FailsFirst-some (IsName names) hold.nodes m b a.0)
rule_one parts names hold (BadPair k) FewNodes a b = let few = b.1 in let two = a.1 in absurd (omega (arith, few, two))
rule_one parts names hold (BadPair k) (BadPair m) a b = ap BadPair (FailsFirst-unique (IsHoldPair parts names hold.nodes) hold.pairs k m a.2 b.2)
rule_one parts names hold (BadPair k) (Gap v) a b = absurd (FailsFirst-some (IsHoldPair parts names hold.nodes) hold.pairs k a.2 b.2)
rule_one parts names hold (Gap v) (NoNode m) a b = absurd (FailsFirst-some (IsName names) hold.nodes m b a.0)
rule_one parts names hold (Gap v) FewNodes a b = let few = b.1 in let two = a.1 in absurd (omega (arith, few, two))
rule_one parts names hold (Gap v) (BadPair m) a b = absurd (FailsFirst-some (IsHoldPair parts names hold.nodes) hold.pairs m b.2 a.2)
rule_one parts names hold (Gap v) (Gap w) a b = ap Gap (gap_one parts (places_of hold.nodes names) (length hold.nodes) hold.pairs v w a.3 b.3)

broken_one : (parts : List Part) (holds : List Hold) (x y : BrokenHold) → IsFirstBroken parts holds x → IsFirstBroken parts holds y → x ≡ y
broken_one parts holds x y a b = λ i. record { hold = place i; rule = rule i }
  where
    place : x.hold ≡ y.hold
    place = same_from_neither x.hold y.hold
        (λ lt. rule_breaks parts (names_before parts holds x.hold) a.hold x.rule a.rule (b.before x.hold a.hold lt a.at))
        (λ lt. rule_breaks parts (names_before parts holds y.hold) b.hold y.rule b.rule (a.before y.hold b.hold lt b.at))

    hold : a.hold ≡ b.hold
    hold = some_injective a.hold b.hold (sym (subst (λ k. slice_get holds k ≡ Some a.hold) place a.at) ∙ b.at)

    rule : x.rule ≡ y.rule
    rule = rule_one parts (names_before parts holds y.hold) b.hold x.rule y.rule
        (subst (λ h. IsFirstRule parts (names_before parts holds y.hold) h x.rule) hold (subst (λ k. IsFirstRule parts (names_before parts holds k) a.hold x.rule) place a.rule)) b.rule

-- ---- groups

breaks_not : (parts : List Part) (node : ShortNode) (x : BrokenHold) → BreaksHolds parts node x → KeepsHolds parts node → ⊥
breaks_not parts (Leaf p) x b k = b
breaks_not parts (Split d) x b k = b
breaks_not parts (Group holds) x b k = broken_breaks parts holds x b k

breaks_one : (parts : List Part) (node : ShortNode) (x y : BrokenHold) → BreaksHolds parts node x → BreaksHolds parts node y → x ≡ y
breaks_one parts (Leaf p) x y a b = absurd a
breaks_one parts (Split d) x y a b = absurd a
breaks_one parts (Group holds) x y a b = broken_one parts holds x y a b

group_not : (parts : List Part) (nodes : List ShortNode) (k : ℕ) (x : BrokenHold) → IsBrokenGroup parts nodes k x → All (KeepsHolds parts) nodes → ⊥
group_not parts nodes k x g all = breaks_not parts g.node x g.breaks (All-contains (KeepsHolds parts) nodes g.node all (from_place nodes k g.node g.at))

group_one : (parts : List Part) (nodes : List ShortNode) (k m : ℕ) (x y : BrokenHold) → IsBrokenGroup parts nodes k x → IsBrokenGroup parts nodes m y → GroupBreaks k x ≡ GroupBreaks m y
group_one parts nodes k m x y a b = λ i. GroupBreaks (place i) (broken i)
  where
    place : k ≡ m
    place = same_from_neither k m (λ lt. breaks_not parts a.node x a.breaks (b.before k a.node lt a.at)) (λ lt. breaks_not parts b.node y b.breaks (a.before m b.node lt b.at))

    broken : x ≡ y
    broken = breaks_one parts b.node x y (subst (λ n. BreaksHolds parts n x) (some_injective a.node b.node (sym (subst (λ j. slice_get nodes j ≡ Some a.node) place a.at) ∙ b.at)) a.breaks) b.breaks

-- ---- members

bad_not : (parts : List Part) (nodes : List ShortNode) (k : ℕ) → IsBadMember parts nodes k → AreMembersOnce parts nodes → ⊥
bad_not parts nodes k bad once = ⊎_elim {C = ⊥}
    (λ high. let low = once.each k bad.part bad.member in omega (arith, high, low))
    (λ twice. let (m, lt, h) = twice in let e = once.once m k bad.part h bad.member in omega (arith, lt, e)) bad.bad

fault_not : (parts : List Part) (nodes : List ShortNode) (k : ℕ) → IsMemberFault parts nodes k → AreMembersOnce parts nodes → ⊥
fault_not parts nodes k (bad_member least) once = bad_not parts nodes k least.has once
fault_not parts nodes k (missing_member none missing e) once = let (m, h) = once.all missing.part missing.exists in missing.missing m h

fault_one : (parts : List Part) (nodes : List ShortNode) (k m : ℕ) → IsMemberFault parts nodes k → IsMemberFault parts nodes m → k ≡ m
fault_one parts nodes k m (bad_member a) (bad_member b) = IsLeast-unique nat_cmp nat_cmp_total nat_cmp-IsAntisymmetric (IsBadMember parts nodes) k m a b
fault_one parts nodes k m (bad_member a) (missing_member none h e) = absurd (none k a.has)
fault_one parts nodes k m (missing_member none h e) (bad_member b) = absurd (none m b.has)
fault_one parts nodes k m (missing_member none h e) (missing_member none' h' e') = e ∙ sym e'

-- ---- splits

unclear_within : (parts : List Part) (nodes : List ShortNode) (k : ℕ) (r : ShortReason) → IsUnclearAt parts nodes k r → k < length nodes
unclear_within parts nodes k r (zero_way m s at e) = stands_within nodes k (taken_apart origin m s) at
unclear_within parts nodes k r (pieces_meet d m s arc at ne least e) = stands_within nodes k (taken_apart d m s) at

unclear_not : (parts : List Part) (nodes : List ShortNode) (k : ℕ) (r : ShortReason) → IsUnclearAt parts nodes k r → IsClearAt parts nodes k → ⊥
unclear_not parts nodes k r (zero_way m s at e) clear = (clear origin m s at).moves refl
unclear_not parts nodes k r (pieces_meet d m s arc at ne least e) clear = (clear d m s at).clear arc least.has

unclear_one : (parts : List Part) (nodes : List ShortNode) (k : ℕ) (r s : ShortReason) → IsUnclearAt parts nodes k r → IsUnclearAt parts nodes k s → r ≡ s
unclear_one parts nodes k r s (zero_way m n at e) (zero_way m' n' at' e') = e ∙ sym e'
unclear_one parts nodes k r s (zero_way m n at e) (pieces_meet d m' n' arc at' ne least e') =
    let same = one_stands nodes k (taken_apart origin m n) (taken_apart d m' n') at at' in let zero : d ≡ origin = cc in absurd (ne zero)
unclear_one parts nodes k r s (pieces_meet d m n arc at ne least e) (zero_way m' n' at' e') =
    let same = one_stands nodes k (taken_apart origin m' n') (taken_apart d m n) at' at in let zero : d ≡ origin = cc in absurd (ne zero)
unclear_one parts nodes k r s (pieces_meet d m n x at ne a e) (pieces_meet d' m' n' y at' ne' b e') =
    let same = one_stands nodes k (taken_apart d m n) (taken_apart d' m' n') at at' in
    let ds : d ≡ d' = cc in
    let ms : m ≡ m' = cc in
    let ns : n ≡ n' = cc in
    let arcs : x ≡ y = IsLeast-unique arc_cmp arc_total arc_exact (MeetsAcross parts m' n' d') x y
    (subst (λ c. IsLeast arc_cmp (MeetsAcross parts m' n' c) x) ds (subst (λ u. IsLeast arc_cmp (MeetsAcross parts m' u d) x) ns (subst (λ u. IsLeast arc_cmp (MeetsAcross parts u n d) x) ms a))) b in
    e ∙ ap (λ (z : Arc). Meet z.a z.i z.b z.j k) arcs ∙ sym e'

split_not : (parts : List Part) (nodes : List ShortNode) (r : ShortReason) → IsUnclearSplit parts nodes r → AreClearSplits parts nodes → ⊥
split_not parts nodes r u clear = unclear_not parts nodes u.node r u.unclear (clear u.node (unclear_within parts nodes u.node r u.unclear))

split_one : (parts : List Part) (nodes : List ShortNode) (r s : ShortReason) → IsUnclearSplit parts nodes r → IsUnclearSplit parts nodes s → r ≡ s
split_one parts nodes r s a b =
    let place = same_from_neither a.node b.node (λ lt. unclear_not parts nodes a.node r a.unclear (b.before a.node lt)) (λ lt. unclear_not parts nodes b.node s b.unclear (a.before b.node lt)) in
    unclear_one parts nodes b.node r s (subst (λ k. IsUnclearAt parts nodes k r) place a.unclear) b.unclear

-- ---- nodes

nodes_not : (parts : List Part) (nodes : List ShortNode) (r : ShortReason) → IsNodesReason parts nodes r → KeepNodeRules parts nodes → ⊥
nodes_not parts nodes r (group_breaks k x g e) keep = group_not parts nodes k x g keep.holds
nodes_not parts nodes r (bad_members k all f e) keep = fault_not parts nodes k f keep.members
nodes_not parts nodes r (unclear_split all once u) keep = split_not parts nodes r u keep.splits

nodes_one : (parts : List Part) (nodes : List ShortNode) (r s : ShortReason) → IsNodesReason parts nodes r → IsNodesReason parts nodes s → r ≡ s
nodes_one parts nodes r s (group_breaks k x g e) (group_breaks k' x' g' e') = e ∙ group_one parts nodes k k' x x' g g' ∙ sym e'
nodes_one parts nodes r s (group_breaks k x g e) (bad_members k' all f e') = absurd (group_not parts nodes k x g all)
nodes_one parts nodes r s (group_breaks k x g e) (unclear_split all once u) = absurd (group_not parts nodes k x g all)
nodes_one parts nodes r s (bad_members k all f e) (group_breaks k' x g e') = absurd (group_not parts nodes k' x g all)
nodes_one parts nodes r s (bad_members k all f e) (bad_members k' all' f' e') = e ∙ ap BadLeaves (fault_one parts nodes k k' f f') ∙ sym e'
nodes_one parts nodes r s (bad_members k all f e) (unclear_split all' once u) = absurd (fault_not parts nodes k f once)
nodes_one parts nodes r s (unclear_split all once u) (group_breaks k x g e) = absurd (group_not parts nodes k x g all)
nodes_one parts nodes r s (unclear_split all once u) (bad_members k all' f e) = absurd (fault_not parts nodes k f once)
nodes_one parts nodes r s (unclear_split all once u) (unclear_split all' once' u') = split_one parts nodes r s u u'

nodes_verdict_one : (parts : List Part) (nodes : List ShortNode) (v u : ShortVerdict) → IsNodesVerdict parts nodes v → IsNodesVerdict parts nodes u → v ≡ u
nodes_verdict_one parts nodes ValidPlan ValidPlan a b = refl
nodes_verdict_one parts nodes ValidPlan ValidRefusal a b = absurd (b.1 a.1)
nodes_verdict_one parts nodes ValidPlan (Not s) a b = absurd (nodes_not parts nodes s b a.0)
nodes_verdict_one parts nodes ValidRefusal ValidPlan a b = absurd (a.1 b.1)
nodes_verdict_one parts nodes ValidRefusal ValidRefusal a b = refl
nodes_verdict_one parts nodes ValidRefusal (Not s) a b = absurd (nodes_not parts nodes s b a.0)
nodes_verdict_one parts nodes (Not r) ValidPlan a b = absurd (nodes_not parts nodes r a b.0)
nodes_verdict_one parts nodes (Not r) ValidRefusal a b = absurd (nodes_not parts nodes r a b.0)
nodes_verdict_one parts nodes (Not r) (Not s) a b = ap Not (nodes_one parts nodes r s a b)

holds_verdict_one : (parts : List Part) (holds : List Hold) (v u : ShortVerdict) → IsHoldsVerdict parts holds v → IsHoldsVerdict parts holds u → v ≡ u
holds_verdict_one parts holds ValidPlan u a b = absurd a
holds_verdict_one parts holds ValidRefusal ValidPlan a b = absurd b
holds_verdict_one parts holds ValidRefusal ValidRefusal a b = refl
holds_verdict_one parts holds ValidRefusal (Not s) a (x, first, e) = absurd (broken_breaks parts holds x first a)
holds_verdict_one parts holds (Not r) ValidPlan a b = absurd b
holds_verdict_one parts holds (Not r) ValidRefusal (x, first, e) b = absurd (broken_breaks parts holds x first b)
holds_verdict_one parts holds (Not r) (Not s) (x, a, e) (y, b, f) = ap Not (e ∙ ap HoldBreaks (broken_one parts holds x y a b) ∙ sym f)

answer_verdict_one : (parts : List Part) (c : ShortAnswer) (v u : ShortVerdict) → IsAnswerVerdict parts c v → IsAnswerVerdict parts c u → v ≡ u
answer_verdict_one parts (answer.Plan nodes) v u a b = nodes_verdict_one parts nodes v u a b
answer_verdict_one parts (answer.Stuck holds) v u a b = holds_verdict_one parts holds v u a b
answer_verdict_one parts (answer.Rest nodes) v u a b = nodes_verdict_one parts nodes v u a b

pub verdict_one : (parts : List Part) (c : ShortCertificate) (v u : ShortVerdict) → IsShortVerdict parts c v → IsShortVerdict parts c u → v ≡ u
verdict_one parts c v u (wrong_count ne e) (wrong_count ne' e') = e ∙ sym e'
verdict_one parts c v u (wrong_count ne e) (right_count is b) = absurd (ne is)
verdict_one parts c v u (right_count is a) (wrong_count ne e) = absurd (ne is)
verdict_one parts c v u (right_count is a) (right_count is' b) = answer_verdict_one parts c.answer v u a b
