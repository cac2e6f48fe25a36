-- The certificate of an outcome is valid.
use Rattle.std.proofs.Common.{◌≡◌, ◌≢◌, pos, ◌<ℤ◌, ℕ, zero, suc, arith, refl, sym, ap, subst, ⊎_elim, List, [], ◌∷◌, length, map, All, Contains}
use Rattle.std.specs.Prelude.{Some, slice_get}
use Rattle.std.specs.FinSet as set
use Rattle.std.proofs.lemmas.List.Elements.{All-cons, All-contains, All-head, All-nil, All-tail, All-weaker}
use Rattle.staat_vec.specs.declared.vector.V3.{V3}
use Rattle.staat_vec.specs.Lists.{Lists}
use Rattle.staat_vec.specs.Vectors.{dot, origin, vector_cmp}
use Rattle.staat_vec.proofs.Primitives.{IsPrimitive-some}
use Rattle.staat_vec.proofs.Unique.{sorted_once}
use Rattle.staat_model.specs.declared.assembly.Part.{Part}
use Rattle.staat_model.specs.declared.set.PartSet.{PartSet}
use Rattle.staat_model.specs.declared.certificate.Arc.{Arc}
use Rattle.staat_model.specs.declared.certificate.Sep.{Sep}
use Rattle.staat_model.specs.declared.certificate.Dir.{Dir}
use Rattle.staat_model.specs.declared.certificate.Node.{Node}
use Rattle.staat_model.specs.declared.certificate.Node.TheVariants.{Leaf}
use Rattle.staat_model.specs.declared.certificate.Witness.{Witness}
use Rattle.staat_model.specs.declared.certificate.Body.{Body}
use Rattle.staat_model.specs.declared.certificate.Body.TheVariants as body
use Rattle.staat_model.specs.declared.certificate.Certificate.{Certificate}
use Rattle.staat_model.specs.Assemblies.{IsAssembly}
use Rattle.staat_model.specs.Facets.{IsFacet}
use Rattle.staat_model.specs.Meeting.{Meets}
use Rattle.staat_model.specs.Bridges.{IsTree}
use Rattle.staat_model.specs.Certificates.{WalledPlan, walled_leaf, walled_split, nodes_of, unwalled, walled_parts, arc_cmp, outward, inward, AreAllLeaves, HasLine, IsAcross, IsArcWithin, IsBlocked, IsBlocking, IsLeafAt, IsListed, IsStuckSet, IsValidPlan, IsValidRefusal, IsWall, IsWitness, PlanHolds, ReachesAll, RefusalHolds, SplitHolds, SplitsHold}
use Rattle.staat_model.specs.Certify.{AreLeastWalls, ArePlanNodes, HasLeastWalls, IsBodyOf, IsCertificateOf, IsFacetAway, IsLeastArc, IsRefusalOf, IsWitnessAt, NamesWitness}
use Rattle.staat_model.specs.Outcomes.{planned, stuck}
use Rattle.staat_model.specs.Plans.{IsGood, Plan}
use Rattle.staat_model.specs.Removal.{Blocks, MeetsAlong}
use Rattle.staat_model.specs.Sets.{Has, IsSubset, below, single}
use Rattle.staat_model.proofs.Differences.{from_map}
use Rattle.staat_model.proofs.GraphLemmas.{at_pieces}
use Rattle.staat_model.proofs.ListedVertices.{all_listed}
use Rattle.staat_model.proofs.Members.{All-from_members}
use Rattle.staat_model.proofs.Orders.{arc_exact, arc_total}
use Rattle.staat_model.proofs.PieceFacets.{meets_by_facets_lemma}
use Rattle.staat_model.proofs.Places.{one_at_place, place_cases, place_within}
use Rattle.staat_model.proofs.PlanLemmas.{has_leaf, held_across, leaf_has, no_leaf}
use Rattle.staat_model.proofs.PlaneLemmas.{planes_apart}
use Rattle.staat_model.proofs.SetBits.{has-below}
use Rattle.staat_model.proofs.SetMembers.{has-insert, has-single}
use Rattle.staat_model.proofs.LeavingLemmas.{good_parts}
use Rattle.staat_vec.proofs.ListLaws.{Contains-map, place_of}

-- ---- plans

-- the least facets are walls
split_holds : (parts : List Part) (s r : PartSet) (d : V3) (seps : List Sep) → d ≢ origin → AreLeastWalls parts s r d seps → SplitHolds parts s r d seps
split_holds parts s r d seps moves walls =
    let arcs = walls.arcs in
    record {
      moves = moves;
      walls = All-from_members (IsWall parts s r d) seps (λ sep c.
          let least = All-contains (λ (sep : Sep). Rattle.staat_vec.specs.Lists.IsLeast vector_cmp (IsFacetAway parts d sep.arc) sep.n) seps sep walls.least c in
          let facet = least.has.facet in
          record {
            across = arcs.each sep.arc (Contains-map (λ (sep : Sep). sep.arc) seps sep c);
            shown = record { p = facet.p; q = facet.q; p_is = facet.p_is; q_is = facet.q_is; holds = record { wall = IsPrimitive-some sep.n facet.holds.primitive; beyond = facet.holds.beyond; away = least.has.away } };
          });
      arcs = record { each = arcs.each; all = arcs.all; once = sorted_once arc_cmp arc_total arc_exact (map (λ sep. sep.arc) seps) arcs.ascending };
    }

splits_hold : (parts : List Part) (t : WalledPlan) (w : PartSet) → HasLeastWalls parts t → IsGood parts w (unwalled t) → SplitsHold parts t
splits_hold parts (walled_leaf p) w walls good = tt
splits_hold parts (walled_split d seps moved rest) w walls good =
    (split_holds parts (walled_parts moved) (walled_parts rest) d seps good.2.moves walls.0, splits_hold parts moved (walled_parts moved) walls.1 good.3, splits_hold parts rest (walled_parts rest) walls.2 good.4)

leaves_once : (parts : List Part) (t : WalledPlan) (w : PartSet) → IsGood parts w (unwalled t) → (k m p : ℕ) → IsLeafAt (nodes_of t) k p → IsLeafAt (nodes_of t) m p → k ≡ m
leaves_once parts (walled_leaf q) w good zero zero p a b = refl
leaves_once parts (walled_leaf q) w good (suc k) m p a b = cc
leaves_once parts (walled_leaf q) w good zero (suc m) p a b = cc
leaves_once parts (walled_split d seps moved rest) w good zero m p a b = absurd (no_leaf d seps p a)
leaves_once parts (walled_split d seps moved rest) w good (suc k) zero p a b = absurd (no_leaf d seps p b)
leaves_once parts (walled_split d seps moved rest) w good (suc k) (suc m) p a b = ap suc (⊎_elim
    (λ f. ⊎_elim
    (λ g. leaves_once parts moved (walled_parts moved) good.3 k m p f g)
    (λ (j, n, g). absurd (good.1 p (leaf_has moved k p f) (leaf_has rest j p g)))
    (place_cases (nodes_of moved) (nodes_of rest) m (Leaf p) b))
    (λ (i, n, f). ⊎_elim
    (λ g. absurd (good.1 p (leaf_has moved m p g) (leaf_has rest i p f)))
    (λ (j, l, g). let same : i ≡ j = leaves_once parts rest (walled_parts rest) good.4 i j p f g in omega (arith, n, l, same))
    (place_cases (nodes_of moved) (nodes_of rest) m (Leaf p) b))
    (place_cases (nodes_of moved) (nodes_of rest) k (Leaf p) a))

all_leaves : (parts : List Part) (t : WalledPlan) (n : ℕ) → IsGood parts (below n) (unwalled t) → AreAllLeaves n (nodes_of t)
all_leaves parts t n good =
    let e : below n ≡ walled_parts t = good_parts parts (below n) (unwalled t) good in
    record {
      each = λ k p f. (has-below n p).0 (subst (λ (s : PartSet). Has s p) (sym e) (leaf_has t k p f));
      all = λ p lt. has_leaf t p (subst (λ (s : PartSet). Has s p) e ((has-below n p).1 lt));
      once = leaves_once parts t (below n) good;
    }

plan_holds : (parts : List Part) (stated : ℕ) (plan : Plan) (nodes : List Node) → stated ≡ length parts → IsGood parts (below (length parts)) plan → ArePlanNodes parts plan nodes → PlanHolds parts stated nodes
plan_holds parts stated plan nodes e good are =
    let t = are.tree in
    let fits : IsGood parts (below (length parts)) (unwalled t) = subst (IsGood parts (below (length parts))) (sym are.plan_is) good in
    record { count = e; tree = t; tree_is = are.nodes_are; leaves = subst (AreAllLeaves (length parts)) (sym are.nodes_are) (all_leaves parts t (length parts) fits); splits = splits_hold parts t (below (length parts)) are.walls fits }

-- ---- witnesses

blocking : (parts : List Part) (d : V3) (arc : Arc) → IsAssembly parts → MeetsAlong parts d arc → IsBlocking parts d arc
blocking parts d arc is m = at_pieces parts arc (λ p q. Meets p q d) (λ p q. (n : V3) → IsFacet p q n → pos 0 <ℤ dot n d) is.each
    (λ p q p_is q_is is_p is_q meets. (meets_by_facets_lemma p q d is_p is_q).0 meets) m

module _ (parts : List Part) (w : PartSet) (d : V3) where
  -- the arcs of a tree join parts of the set
  arcs_within : (R : ℕ → ℕ → Type 0) (step : Arc → ℕ × ℕ) → ((x : Arc) → Has w (step x).0 → Has w (step x).1 → (step x).0 ≢ (step x).1 → MeetsAlong parts d x → IsArcWithin parts w x)
      → (reached : PartSet) (arcs : List Arc) → IsSubset reached w → IsTree R w reached (map step arcs) → All (IsLeastArc parts d) arcs → All (IsArcWithin parts w) arcs
  arcs_within R step joins reached [] within tree least = All-nil (IsArcWithin parts w)
  arcs_within R step joins reached (x ∷ arcs) within tree least =
      let bridge = tree.0.is in
      All-cons (IsArcWithin parts w) x arcs
      (joins x (within (step x).0 bridge.from_in) bridge.to_in (λ same. bridge.to_new (subst (Has reached) same bridge.from_in)) (All-head (IsLeastArc parts d) x arcs least).has.2)
      (arcs_within R step joins (set.insert reached (step x).1) arcs (λ q h. ⊎_elim (λ e. subst (Has w) (sym e) bridge.to_in) (within q) ((has-insert reached (step x).1 q).0 h)) tree.1 (All-tail (IsLeastArc parts d) x arcs least))

  arc_within : (x : Arc) → Has w x.a → Has w x.b → x.a ≢ x.b → MeetsAlong parts d x → IsArcWithin parts w x
  arc_within x a_in b_in apart m = record { across = held_across parts w w x a_in b_in m; different = apart }

  tree_reaches : (R : ℕ → ℕ → Type 0) (reached : PartSet) (pairs : List (ℕ × ℕ)) → IsTree R w reached pairs → ReachesAll w reached pairs
  tree_reaches R reached [] tree = tree
  tree_reaches R reached (pair ∷ pairs) tree = let bridge = tree.0.is in (bridge.from_in, bridge.to_in, bridge.to_new, tree_reaches R (set.insert reached pair.1) pairs tree.1)

  pub witness_holds : (witness : Witness) → IsWitnessAt parts w d witness → IsWitness parts w witness
  witness_holds witness at =
      let root_in : IsSubset (single at.root) w = λ q h. subst (Has w) (sym ((has-single at.root q).0 h)) at.root_is.has in
      record {
        outs = arcs_within (Blocks parts d) outward arc_within (single at.root) witness.outs root_in at.outs at.outs_least;
        ins = arcs_within (λ b a. Blocks parts d a b) inward (λ x b_in a_in apart. arc_within x a_in b_in (λ e. apart (sym e))) (single at.root) witness.ins root_in at.ins at.ins_least;
        root = at.root;
        root_is = at.root_is;
        outs_reach = tree_reaches (Blocks parts d) (single at.root) (map outward witness.outs) at.outs;
        ins_reach = tree_reaches (λ b a. Blocks parts d a b) (single at.root) (map inward witness.ins) at.ins;
      }

  pub witness_blocks : (witness : Witness) → IsAssembly parts → IsWitnessAt parts w d witness → All (IsBlocking parts d) witness.outs × All (IsBlocking parts d) witness.ins
  witness_blocks witness is at = (
    All-weaker (IsLeastArc parts d) (IsBlocking parts d) (λ arc least. blocking parts d arc is least.has.2) witness.outs at.outs_least,
    All-weaker (IsLeastArc parts d) (IsBlocking parts d) (λ arc least. blocking parts d arc is least.has.2) witness.ins at.ins_least,
  )

-- ---- refusals

refusal_holds : (parts : List Part) (version stated : ℕ) (w : PartSet) (witnesses : List Witness) (dirs : List Dir) → IsAssembly parts → stated ≡ length parts → IsStuckSet parts w → IsRefusalOf parts version w witnesses dirs → RefusalHolds parts version stated w witnesses dirs
refusal_holds parts version stated w witnesses dirs is e set_is are = record {
  count = e;
  stuck_set = set_is;
  trees = All-from_members (IsWitness parts w) witnesses tree;
  blocked = All-weaker (NamesWitness parts w witnesses) (IsBlocked parts witnesses) (λ dir named. let both = witness_blocks parts w dir.d named.witness is named.is in record { witness = named.witness; witness_is = named.witness_is; outs = both.0; ins = both.1 }) dirs are.each;
  planes = are.planes;
  planes_are = are.planes_are;
  all = all_listed version are.planes dirs (planes_apart parts w are.planes are.planes_are) are.directions.all;
}
  where
    -- each witness is used
    tree : (witness : Witness) → Contains witnesses witness → IsWitness parts w witness
    tree witness c =
        let place = place_of witnesses witness c in
        let used = from_map (λ (dir : Dir). dir.witness) dirs place.0 (are.by_first_use.used place.0 (place_within witnesses place.0 witness place.1)) in
        let named = All-contains (NamesWitness parts w witnesses) dirs used.0 are.each used.1 in
        let same : named.witness ≡ witness = one_at_place witnesses place.0 named.witness witness (subst (λ k. slice_get witnesses k ≡ Some named.witness) (sym used.2) named.witness_is) place.1 in
        subst (IsWitness parts w) same (witness_holds parts w used.0.d named.witness named.is)

-- ---- certificates

plan_body : (parts : List Part) (version stated : ℕ) (plan : Plan) (marks : _) (b : Body) → stated ≡ length parts → IsGood parts (below (length parts)) plan → IsBodyOf parts version (planned plan marks) b → Rattle.staat_model.specs.Certificates.PlanBodyHolds parts stated b
plan_body parts version stated plan marks (body.Plan nodes) e good are = plan_holds parts stated plan nodes e good are
plan_body parts version stated plan marks (body.Stuck w witnesses dirs) e good are = are

refusal_body : (parts : List Part) (version stated : ℕ) (w : PartSet) (b : Body) → IsAssembly parts → stated ≡ length parts → IsStuckSet parts w → IsBodyOf parts version (stuck w) b → Rattle.staat_model.specs.Certificates.RefusalBodyHolds parts version stated b
refusal_body parts version stated w (body.Plan nodes) is e set_is are = are
refusal_body parts version stated w (body.Stuck v witnesses dirs) is e set_is are = refusal_holds parts version stated v witnesses dirs is e (subst (IsStuckSet parts) (sym are.0) set_is) (subst (λ (u : PartSet). IsRefusalOf parts version u witnesses dirs) (sym are.0) are.1)

pub plan_certificate_valid : (parts : List Part) (version : ℕ) (plan : Plan) (marks : _) (c : Certificate) → IsGood parts (below (length parts)) plan → IsCertificateOf parts version (planned plan marks) c → IsValidPlan parts c
plan_certificate_valid parts version plan marks c good is = plan_body parts version c.parts plan marks c.body is.count good is.body

pub refusal_certificate_valid : (parts : List Part) (version : ℕ) (w : PartSet) (c : Certificate) → IsAssembly parts → IsStuckSet parts w → IsCertificateOf parts version (stuck w) c → IsValidRefusal parts c
refusal_certificate_valid parts version w c assembly set_is is =
    subst (λ v. Rattle.staat_model.specs.Certificates.RefusalBodyHolds parts v c.parts c.body) (sym is.version_is) (refusal_body parts version c.parts w c.body assembly is.count set_is is.body)
