-- The links of a core, their planes and their ways.
use Rattle.std.proofs.Common.{◌≡◌, ◌≢◌, ◌⊎◌, ◌↔◌, ℕ, zero, suc, ◌+◌, ◌<◌, ◌≤◌, List, [], ◌∷◌, ◌++◌, length, get_or, take, inl, inr, ⊎_elim, refl, sym, subst, ◌∙◌, arith, All, Contains}
use Rattle.std.specs.Prelude.{Bool, IsTrue, Option, Some}
use Rattle.std.proofs.lemmas.List.{take_all, take_more}
use Rattle.std.proofs.lemmas.List.Elements.{All-contains_itself, All-weaker, All-contains}
use Rattle.staat_vec.specs.declared.vector.V3.{V3}
use Rattle.staat_vec.specs.declared.vector.TheConstants.{NORMAL}
use Rattle.staat_vec.specs.Lists.{Lists}
use Rattle.staat_vec.specs.Vectors.{IsWithin, negative, origin, vector_cmp}
use Rattle.staat_vec.proofs.Primitives.{IsPrimitive-some}
use Rattle.staat_model.specs.declared.assembly.Part.{Part}
use Rattle.staat_model.specs.declared.certificate.Arc.{Arc}
use Rattle.staat_model.specs.Facets.{IsFacet}
use Rattle.staat_holds.specs.declared.links.Link.{Link}
use Rattle.staat_holds.specs.declared.ways.Way.{Way}
use Rattle.staat_holds.specs.Holds.{IsOfNode, IsOfSomeNode}
use Rattle.staat_holds.specs.Links.{AreLinks, HasLinkOther, HasOther, IsLinkAhead, IsLink, IsLinkOf, IsOther, LinkLeads, SomeLeads}
use Rattle.staat_holds.specs.VisitedNodes.{HasWay, IsWayWithin}
use Rattle.staat_holds.proofs.ListSteps.{Some', some_at, some_more}

-- ---- one link

pub same_node : (nodes : List (Option ℕ)) (a k m : ℕ) → IsOfNode nodes k a → IsOfNode nodes m a → k ≡ m
same_node nodes a k m first second = inner k m (sym first ∙ second)
  where
    inner : (k m : ℕ) → Some (Some k) ≡ Some (Some m) → k ≡ m
    inner k m e = cc

-- the node that a part belongs to is one of the first ones
pub node_few : (nodes : List (Option ℕ)) (count a k : ℕ) → IsOfSomeNode nodes count a → IsOfNode nodes k a → k < count
node_few nodes count a k some is = let e = same_node nodes a some.node k some.is is in subst (λ m. m < count) e some.few

pub none_zero : (p q facets : List V3) → Lists vector_cmp (IsFacet p q) facets → All (λ n. n ≢ origin) facets
none_zero p q facets lists = All-weaker (Contains facets) (λ n. n ≢ origin)
    (λ n c. let f = lists.each n c in IsPrimitive-some n f.primitive) facets (All-contains_itself facets)

-- ---- all links

links_push : (parts : List Part) (nodes : List (Option ℕ)) (core : List Arc) (links : List Link) (pair : Arc) (link : Link) → AreLinks parts nodes core links → IsLinkOf parts nodes pair link
    → AreLinks parts nodes (core ++ pair ∷ []) (links ++ link ∷ [])
links_push parts nodes [] [] pair link are is = (is, tt)
links_push parts nodes [] (l ∷ links) pair link are is = absurd are
links_push parts nodes (p ∷ core) [] pair link are is = absurd are
links_push parts nodes (p ∷ core) (l ∷ links) pair link are is = (are.0, links_push parts nodes core links pair link are.1 is)

pub links_more : (parts : List Part) (nodes : List (Option ℕ)) (core : List Arc) (i : ℕ) (links : List Link) (pair : Arc) (link : Link) → i < length core
    → AreLinks parts nodes (take i core) links → IsLinkOf parts nodes (get_or core i pair) link → AreLinks parts nodes (take (i + 1) core) (links ++ link ∷ [])
links_more parts nodes core i links pair link lt are is =
    subst (λ c. AreLinks parts nodes c (links ++ link ∷ [])) (sym (take_more core i pair lt)) (links_push parts nodes (take i core) links (get_or core i pair) link are is)

-- a link for each pair, and a pair for each link
pub link_for : (parts : List Part) (nodes : List (Option ℕ)) (core : List Arc) (links : List Link) (pair : Arc) → AreLinks parts nodes core links → Contains core pair → Some' (IsLinkOf parts nodes pair) links
link_for parts nodes [] links pair are (k, lt, e) = absurd (omega (arith, lt))
link_for parts nodes (p ∷ core) [] pair are c = absurd are
link_for parts nodes (p ∷ core) (l ∷ links) pair are (zero, lt, e) = (l, (zero, omega arith, refl), subst (λ a. IsLinkOf parts nodes a l) e are.0)
link_for parts nodes (p ∷ core) (l ∷ links) pair are (suc k, lt, e) =
    let (m, (j, at, is), h) = link_for parts nodes core links pair are.1 (k, omega (arith, lt), e) in (m, (suc j, omega (arith, at), is), h)

pub pair_for : (parts : List Part) (nodes : List (Option ℕ)) (core : List Arc) (links : List Link) (link : Link) → AreLinks parts nodes core links → Contains links link → Some' (λ pair. IsLinkOf parts nodes pair link) core
pair_for parts nodes core [] link are (k, lt, e) = absurd (omega (arith, lt))
pair_for parts nodes [] (l ∷ links) link are c = absurd are
pair_for parts nodes (p ∷ core) (l ∷ links) link are (zero, lt, e) = (p, (zero, omega arith, refl), subst (IsLinkOf parts nodes p) e are.0)
pair_for parts nodes (p ∷ core) (l ∷ links) link are (suc k, lt, e) =
    let (m, (j, at, is), h) = pair_for parts nodes core links link are.1 (k, omega (arith, lt), e) in (m, (suc j, omega (arith, at), is), h)

-- ---- their planes

pub planes_next : (old now next facets : List V3) (i : ℕ) (d : V3) → i < length facets → ((n : V3) → Contains next n ↔ (Contains now n ⊎ IsOther (get_or facets i d) n))
    → ((n : V3) → Contains now n ↔ (Contains old n ⊎ HasOther (take i facets) n)) → (n : V3) → Contains next n ↔ (Contains old n ⊎ HasOther (take (i + 1) facets) n)
planes_next old now next facets i d lt added so_far n =
    let more = some_at (λ f. IsOther f n) facets i d lt in (
      λ h. ⊎_elim {C = Contains old n ⊎ HasOther (take (i + 1) facets) n}
          (λ g. ⊎_elim {C = Contains old n ⊎ HasOther (take (i + 1) facets) n} (λ k. inl k) (λ k. inr (more.1 (inl k))) ((so_far n).0 g))
          (λ o. inr (more.1 (inr o)))
          ((added n).0 h),
      λ h. (added n).1 (⊎_elim {C = Contains now n ⊎ IsOther (get_or facets i d) n} (λ k. inl ((so_far n).1 (inl k)))
          (λ k. ⊎_elim {C = Contains now n ⊎ IsOther (get_or facets i d) n} (λ g. inl ((so_far n).1 (inr g))) (λ o. inr o) (more.0 k)) h),
    )

pub planes_end : (old now facets : List V3) (i : ℕ) → length facets ≤ i → ((n : V3) → Contains now n ↔ (Contains old n ⊎ HasOther (take i facets) n)) → (n : V3) → Contains now n ↔ (Contains old n ⊎ HasOther facets n)
planes_end old now facets i le so_far = subst (λ l. (n : V3) → Contains now n ↔ (Contains old n ⊎ HasOther l n)) (take_all i facets le) so_far

pub link_planes_next : (now next : List V3) (links : List Link) (i : ℕ) (link : Link) (facets : List V3) → i < length links → link ≡ get_or links i link → facets ≡ link.facets
    → ((n : V3) → Contains next n ↔ (Contains now n ⊎ HasOther facets n)) → ((n : V3) → Contains now n ↔ HasLinkOther (take i links) n) → (n : V3) → Contains next n ↔ HasLinkOther (take (i + 1) links) n
link_planes_next now next links i link facets lt is same added so_far n =
    let more = some_more (λ (l : Link). HasOther l.facets n) links i link lt is in (
      λ h. more.1 (⊎_elim {C = HasLinkOther (take i links) n ⊎ HasOther link.facets n} (λ g. inl ((so_far n).0 g)) (λ g. inr (subst (λ l. HasOther l n) same g)) ((added n).0 h)),
      λ h. (added n).1 (⊎_elim {C = Contains now n ⊎ HasOther facets n} (λ g. inl ((so_far n).1 g)) (λ g. inr (subst (λ l. HasOther l n) (sym same) g)) (more.0 h)),
    )

pub link_planes_end : (now planes : List V3) (links : List Link) (i : ℕ) → length links ≤ i → Lists vector_cmp (Contains now) planes → ((n : V3) → Contains now n ↔ HasLinkOther (take i links) n) → Lists vector_cmp (HasLinkOther links) planes
link_planes_end now planes links i le lists so_far =
    let e = take_all i links le in record {
      ascending = lists.ascending;
      each = λ n h. subst (λ l. HasLinkOther l n) e ((so_far n).0 (lists.each n h));
      all = λ n h. lists.all n ((so_far n).1 (subst (λ l. HasLinkOther l n) (sym e) h));
    }

pub all_in_order : (now planes : List V3) → Lists vector_cmp (Contains now) planes → All (IsWithin NORMAL) now → All (IsWithin NORMAL) planes
all_in_order now planes lists within = All-weaker (Contains planes) (IsWithin NORMAL) (λ n c. All-contains (IsWithin NORMAL) now n within (lists.each n c)) planes (All-contains_itself planes)

-- ---- their ways

pub both_ways : (d e : V3) (link : Link) (facets : List V3) (ahead back : Bool) (old now next : List Way) → facets ≡ link.facets → e ≡ negative d
    → IsTrue ahead ↔ IsLinkAhead (record { from = link.from; to = link.to; facets = facets }) d → IsTrue back ↔ IsLinkAhead (record { from = link.from; to = link.to; facets = facets }) e
    → ((x y : ℕ) → HasWay now x y ↔ (HasWay old x y ⊎ (IsTrue ahead × (link.from ≡ x) × (link.to ≡ y))))
    → ((x y : ℕ) → HasWay next x y ↔ (HasWay now x y ⊎ (IsTrue back × (link.to ≡ x) × (link.from ≡ y))))
    → (x y : ℕ) → HasWay next x y ↔ (HasWay old x y ⊎ LinkLeads d link x y)
both_ways d e link facets ahead back old now next same opposite is_ahead is_back first second x y =
    let goes : IsTrue ahead ↔ IsLinkAhead link d = subst (λ l. IsTrue ahead ↔ IsLinkAhead (record { from = link.from; to = link.to; facets = l }) d) same is_ahead in
    let returns : IsTrue back ↔ IsLinkAhead link (negative d) = subst (λ v. IsTrue back ↔ IsLinkAhead link v) opposite (subst (λ l. IsTrue back ↔ IsLinkAhead (record { from = link.from; to = link.to; facets = l }) e) same is_back) in (
      λ h. ⊎_elim {C = HasWay old x y ⊎ LinkLeads d link x y}
          (λ g. ⊎_elim {C = HasWay old x y ⊎ LinkLeads d link x y} (λ o. inl o) (λ t. inr (inl (goes.0 t.0, t.1, t.2))) ((first x y).0 g))
          (λ t. inr (inr (returns.0 t.0, t.1, t.2))) ((second x y).0 h),
      λ h. (second x y).1 (⊎_elim {C = HasWay now x y ⊎ (IsTrue back × (link.to ≡ x) × (link.from ≡ y))} (λ o. inl ((first x y).1 (inl o)))
          (λ l. ⊎_elim {C = HasWay now x y ⊎ (IsTrue back × (link.to ≡ x) × (link.from ≡ y))} (λ t. inl ((first x y).1 (inr (goes.1 t.0, t.1, t.2)))) (λ t. inr (returns.1 t.0, t.1, t.2)) l) h),
    )

pub ways_next : (d : V3) (links : List Link) (i : ℕ) (link : Link) (now next : List Way) → i < length links → link ≡ get_or links i link → ((x y : ℕ) → HasWay next x y ↔ (HasWay now x y ⊎ LinkLeads d link x y))
    → ((x y : ℕ) → HasWay now x y ↔ SomeLeads (take i links) d x y) → (x y : ℕ) → HasWay next x y ↔ SomeLeads (take (i + 1) links) d x y
ways_next d links i link now next lt is added so_far x y =
    let more = some_more (λ l. LinkLeads d l x y) links i link lt is in (
      λ h. more.1 (⊎_elim {C = SomeLeads (take i links) d x y ⊎ LinkLeads d link x y} (λ g. inl ((so_far x y).0 g)) (λ g. inr g) ((added x y).0 h)),
      λ h. (added x y).1 (⊎_elim {C = HasWay now x y ⊎ LinkLeads d link x y} (λ g. inl ((so_far x y).1 g)) (λ g. inr g) (more.0 h)),
    )

pub ways_end : (d : V3) (links : List Link) (i : ℕ) (ways : List Way) → length links ≤ i → ((x y : ℕ) → HasWay ways x y ↔ SomeLeads (take i links) d x y) → (x y : ℕ) → HasWay ways x y ↔ SomeLeads links d x y
ways_end d links i ways le so_far = subst (λ l. (x y : ℕ) → HasWay ways x y ↔ SomeLeads l d x y) (take_all i links le) so_far

-- ways of links lead between the first nodes
pub ways_within : (count : ℕ) (d : V3) (links : List Link) (ways : List Way) → All (IsLink count) links → ((x y : ℕ) → HasWay ways x y ↔ SomeLeads links d x y) → All (IsWayWithin count) ways
ways_within count d links ways are is = All-weaker (Contains ways) (IsWayWithin count) (λ way c. let (link, listed, leads) = (is way.from way.to).0 c in ends way link (All-contains (IsLink count) links link are listed) leads) ways (All-contains_itself ways)
  where
    ends : (way : Way) (link : Link) → IsLink count link → LinkLeads d link way.from way.to → IsWayWithin count way
    ends way link is (inl h) = record { from = subst (λ m. m < count) h.1 is.from; to = subst (λ m. m < count) h.2 is.to }
    ends way link is (inr h) = record { from = subst (λ m. m < count) h.1 is.to; to = subst (λ m. m < count) h.2 is.from }
