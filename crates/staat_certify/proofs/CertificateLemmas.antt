-- The certificate of an outcome keeps its form and is valid.
use Rattle.std.specs.FinSet as set
use Rattle.staat_model.specs.declared.line.Line.TheVariants as line
use Rattle.staat_model.specs.declared.certificate.Body.TheVariants as body
use Rattle.std.proofs.Common.{◌≡◌, inl, inr, ⊎_elim, ℕ, ◌+◌, ◌*◌, ◌<◌, ◌≤◌, arith, refl, sym, subst, List, [], ◌++◌, length, length-append, map, All, suc, ap, ◌∷◌, Contains}
use Rattle.std.specs.Prelude.{flat_map}
use Rattle.std.proofs.lemmas.List.Elements.{All-append, All-cons, All-contains, All-map, All-nil, All-head, All-tail, All-weaker, Contains-append_cases}
use Rattle.staat_vec.specs.declared.vector.V3.{V3}
use Rattle.staat_vec.specs.declared.vector.TheConstants.{DIRECTION, NORMAL}
use Rattle.staat_vec.specs.Lists.{IsLeast}
use Rattle.staat_vec.specs.Vectors.{vector_cmp, IsWithin}
use Rattle.staat_cone.proofs.SourceSizes.{facet_within}
use Rattle.staat_model.specs.declared.assembly.Part.{Part}
use Rattle.staat_model.specs.declared.certificate.Arc.{Arc}
use Rattle.staat_model.specs.declared.certificate.Node.{Node}
use Rattle.staat_model.specs.declared.certificate.Node.TheVariants.{Leaf, Split}
use Rattle.staat_model.specs.declared.certificate.Sep.{Sep}
use Rattle.staat_limits.specs.declared.limits.TheConstants.{MOST_PARTS, LIST_LIMIT}
use Rattle.staat_model.specs.declared.set.PartSet.{PartSet}
use Rattle.staat_model.specs.Assemblies.{IsAssembly}
use Rattle.staat_model.specs.Certificates.{IsAcross, WalledPlan, nodes_of, unwalled, walled_leaf, walled_parts, walled_split, IsArcWithin, IsWitness, IsStuckSet, ReachesAll, inward, outward, RefusalHolds}
use Rattle.staat_model.specs.Certify.{AreLeastWalls, ArePlanNodes, HasLeastWalls, IsFacetAway, IsRefusalOf, IsBodyOf, IsCertificateOf}
use Rattle.staat_model.specs.Lines.{IsArcInBounds, IsInBounds}
use Rattle.staat_model.specs.Plans.{IsGood, Plan, leaf, parts_of, split}
use Rattle.staat_model.specs.Sets.{AreApart, Has, IsSubset, below, single}
use Rattle.staat_model.specs.Texts.{IsNodeInOrder, IsPlanInOrder, lines_of_node, IsRefusalInOrder, IsWitnessInOrder, lines_of_witness, lines_of_witnesses, IsWellFormed, lines_of, lines_of_body}
use Rattle.staat_model.proofs.PartCounts.{piece_count_small}
use Rattle.staat_model.proofs.SomePlanes.{part_there}
use Rattle.staat_model.proofs.GraphLemmas.{piece_is}
use Rattle.staat_model.proofs.Members.{All-from_members}
use Rattle.staat_model.proofs.SetBits.{has-below}
use Rattle.staat_model.proofs.SetMembers.{has-empty, has-single, has-union}
use Rattle.staat_model.proofs.SetSizes.{len_below, len-single, len_more}
use Rattle.staat_graph.proofs.Finite.{len_fewer}
use Rattle.staat_certify.specs.Plans.{AreWithin, HasPartNumbers}
use Rattle.staat_model.proofs.LeavingLemmas.{good_parts}
use Rattle.staat_vec.proofs.ListLaws.{All-flat_map, Contains-map}
use Rattle.std.proofs.lemmas.Cmp.{nat_eq_equiv}
use Rattle.std.proofs.lemmas.List.{length-map}
use Rattle.std.proofs.lemmas.Map.Steps.{le-length_from_below}
use Rattle.std.proofs.lemmas.Map.Views.{list_any-from_Contains}
use Rattle.staat_vec.specs.Primitives.{IsCanon}
use Rattle.staat_model.specs.declared.certificate.Dir.{Dir}
use Rattle.staat_model.specs.declared.certificate.Witness.{Witness}
use Rattle.staat_model.proofs.PlaneLemmas.{NoneParallel, planes_apart}
use Rattle.staat_certify.proofs.ListedLemmas.{few_directions, vertex_sized}
use Rattle.staat_certify.proofs.SomeMember.{some_member}
use Rattle.staat_vec.proofs.Canons.{IsWithin-canon}
use Rattle.staat_model.specs.declared.certificate.Body.{Body}
use Rattle.staat_model.specs.declared.certificate.Certificate.{Certificate}
use Rattle.staat_model.specs.declared.tree.Kind.{Kind}
use Rattle.staat_limits.specs.Versions.{IsVersion}
use Rattle.staat_model.specs.Outcomes.{Finding, planned, stuck}
use Rattle.staat_model.specs.Planes.{ArePlanes, IsFacetPlane, axes}
use Rattle.staat_model.proofs.OneTable.{ArePlanes-unique}
use Rattle.staat_model.proofs.StuckSets.{stuck_exists}
use Rattle.staat_model.proofs.ValidCertificates.{plan_certificate_valid, refusal_certificate_valid}
use Rattle.staat_planes.specs.declared.refusal.PlanesRefusal.TheVariants.{TooManyPlanes}
use Rattle.staat_planes.specs.Refusals.{IsPlanesRefusal}
use Rattle.staat_certify.specs.Certifying.{CanBeCertified, HasFewPlanes, IsValidFor}
use Rattle.staat_pairs.proofs.BuildLemmas.{axis_within}

-- ---- the parts of a plan

numbers_of : (plan : Plan) → ((p : ℕ) → Has (parts_of plan) p → p < MOST_PARTS) → HasPartNumbers plan
numbers_of (leaf p) small = small p ((has-single p p).1 refl)
numbers_of (split d moved rest) small = (
  numbers_of moved (λ p h. small p ((has-union (parts_of moved) (parts_of rest) p).1 (inl h))),
  numbers_of rest (λ p h. small p ((has-union (parts_of moved) (parts_of rest) p).1 (inr h))),
)

pub part_numbers : (parts : List Part) (plan : Plan) → IsAssembly parts → IsGood parts (below (length parts)) plan → HasPartNumbers plan
part_numbers parts plan is good = numbers_of plan (λ p h.
    let lt : p < length parts = (has-below (length parts) p).0 (subst (λ (s : PartSet). Has s p) (sym (good_parts parts (below (length parts)) plan good)) h) in
    omega (arith, lt, is.at_most))

-- ---- the number of nodes

-- each leaf adds a part, and as many fit into u beside s; there is one node less than twice as many
counted : (parts : List Part) (t : WalledPlan) (w s u : PartSet) → IsGood parts w (unwalled t) → IsSubset s u → IsSubset (walled_parts t) u → AreApart s (walled_parts t) → length (nodes_of t) + 1 + 2 * set.len s ≤ 2 * set.len u
counted parts (walled_leaf p) w s u good within own apart =
    let p_in = (has-single p p).1 refl in
    let lt = len_fewer s u p within (own p p_in) (λ h. apart p h p_in) in
    omega (arith, lt)
counted parts (walled_split d seps moved rest) w s u good within own apart =
    let m = walled_parts moved in
    let r = walled_parts rest in
    let one = counted parts moved m s (set.union s m) good.3 (λ q h. (has-union s m q).1 (inl h)) (λ q h. (has-union s m q).1 (inr h)) (λ q a b. apart q a ((has-union m r q).1 (inl b))) in
    let two = counted parts rest r (set.union s m) u good.4
    (λ q h. ⊎_elim (within q) (λ in_m. own q ((has-union m r q).1 (inl in_m))) ((has-union s m q).0 h))
    (λ q h. own q ((has-union m r q).1 (inr h)))
    (λ q a b. ⊎_elim (λ in_s. apart q in_s ((has-union m r q).1 (inr b))) (λ in_m. good.1 q in_m b) ((has-union s m q).0 a)) in
    omega (arith, one, two, length-append (nodes_of moved) (nodes_of rest))

few_nodes : (parts : List Part) (n : ℕ) (t : WalledPlan) → IsGood parts (below n) (unwalled t) → length (nodes_of t) + 1 ≤ 2 * n
few_nodes parts n t good =
    let nodes = counted parts t (below n) set.empty (below n) good (λ q none. absurd (has-empty q none))
    (λ q h. subst (λ (s : PartSet). Has s q) (sym (good_parts parts (below n) (unwalled t) good)) h) (λ q none b. has-empty q none) in
    let most : set.len (below n) ≤ n = len_below n (below n) (λ q h. (has-below n q).0 h) in
    omega (arith, nodes, most)

-- ---- bounds and orders of a plan

pub arc_formed : (parts : List Part) (s r : PartSet) (arc : Arc) → IsAssembly parts → IsAcross parts s r arc → IsArcInBounds arc
arc_formed parts s r arc is across =
    let a = part_there parts arc.a arc.i across.i_in in
    let b = part_there parts arc.b arc.j across.j_in in
    let i = piece_count_small parts arc.a in
    let j = piece_count_small parts arc.b in
    record {
      a = omega (arith, a, is.at_most);
      i = omega (arith, i, across.i_in, is.pieces);
      b = omega (arith, b, is.at_most);
      j = omega (arith, j, across.j_in, is.pieces);
    }

module _ (parts : List Part) (is : IsAssembly parts) where
  seps_formed : (s r : PartSet) (d : V3) (seps : List Sep) → AreLeastWalls parts s r d seps → All (λ sep. IsInBounds (line.Sep sep)) seps
  seps_formed s r d seps walls = All-from_members (λ sep. IsInBounds (line.Sep sep)) seps (λ sep c.
      let least = All-contains (λ (sep : Sep). IsLeast vector_cmp (IsFacetAway parts d sep.arc) sep.n) seps sep walls.least c in
      let facet = least.has.facet in (
        arc_formed parts s r sep.arc is (walls.arcs.each sep.arc (Contains-map (λ (sep : Sep). sep.arc) seps sep c)),
        facet_within facet.p facet.q sep.n (piece_is parts sep.arc.a sep.arc.i facet.p is facet.p_is) (piece_is parts sep.arc.b sep.arc.j facet.q is facet.q_is) facet.holds,
      ))

  nodes_formed : (t : WalledPlan) → HasLeastWalls parts t → AreWithin DIRECTION (unwalled t) → HasPartNumbers (unwalled t) → All (λ node. All IsInBounds (lines_of_node node)) (nodes_of t)
  nodes_formed (walled_leaf p) walls sized small = All-cons (λ node. All IsInBounds (lines_of_node node)) (Leaf p) [] (All-cons IsInBounds (line.Leaf p) [] small (All-nil IsInBounds)) (All-nil (λ node. All IsInBounds (lines_of_node node)))
  nodes_formed (walled_split d seps moved rest) walls sized small =
      All-cons (λ node. All IsInBounds (lines_of_node node)) (Split d seps) (nodes_of moved ++ nodes_of rest)
      (All-cons IsInBounds (line.Split d) (map line.Sep seps) sized.0 (All-map IsInBounds line.Sep seps (seps_formed (walled_parts moved) (walled_parts rest) d seps walls.0)))
      (All-append (λ node. All IsInBounds (lines_of_node node)) (nodes_of moved) (nodes_of rest) (nodes_formed moved walls.1 sized.1 small.0) (nodes_formed rest walls.2 sized.2 small.1))

  ordered : (t : WalledPlan) → HasLeastWalls parts t → All IsNodeInOrder (nodes_of t)
  ordered (walled_leaf p) walls = All-cons IsNodeInOrder (Leaf p) [] tt (All-nil IsNodeInOrder)
  ordered (walled_split d seps moved rest) walls =
      All-cons IsNodeInOrder (Split d seps) (nodes_of moved ++ nodes_of rest) walls.0.arcs.ascending
      (All-append IsNodeInOrder (nodes_of moved) (nodes_of rest) (ordered moved walls.1) (ordered rest walls.2))

  pub plan_lines : (plan : Plan) (nodes : List Node) → IsGood parts (below (length parts)) plan → AreWithin DIRECTION plan → ArePlanNodes parts plan nodes → All IsInBounds (flat_map lines_of_node nodes)
  plan_lines plan nodes good sized are =
      let t = are.tree in
      All-flat_map IsInBounds lines_of_node nodes (λ node c. All-contains (λ node. All IsInBounds (lines_of_node node)) nodes node (subst (All (λ node. All IsInBounds (lines_of_node node))) (sym are.nodes_are)
      (nodes_formed t are.walls (subst (AreWithin DIRECTION) (sym are.plan_is) sized) (subst HasPartNumbers (sym are.plan_is) (part_numbers parts plan is good)))) c)

  pub plan_in_order : (plan : Plan) (nodes : List Node) → IsGood parts (below (length parts)) plan → ArePlanNodes parts plan nodes → IsPlanInOrder (length parts) nodes
  plan_in_order plan nodes good are =
      let t = are.tree in record {
        tree = t;
        is = are.nodes_are;
        most = subst (λ (ns : List Node). length ns + 1 ≤ 2 * length parts) (sym are.nodes_are) (few_nodes parts (length parts) t (subst (IsGood parts (below (length parts))) (sym are.plan_is) good));
        each = subst (All IsNodeInOrder) (sym are.nodes_are) (ordered t are.walls);
      }

-- ---- bounds and orders of a refusal

-- each arc reaches a new part
reached_count : (w reached : PartSet) (pairs : List (ℕ × ℕ)) → ReachesAll w reached pairs → length pairs + set.len reached ≡ set.len w
reached_count w reached [] all = let e = ap set.len all in omega (arith, e)
reached_count w reached (pair ∷ pairs) all =
    let rest = reached_count w (set.insert reached pair.1) pairs all.3 in
    let more = len_more reached pair.1 all.2 in
    omega (arith, rest, more)

module _ (parts : List Part) (w : PartSet) (is : IsAssembly parts) (stuck_set : IsStuckSet parts w) where
  small : (p : ℕ) → Has w p → p < MOST_PARTS
  small p h = let lt : p < length parts = (has-below (length parts) p).0 (stuck_set.within p h) in omega (arith, lt, is.at_most)

  few_arcs : (root : ℕ) (f : Arc → ℕ × ℕ) (arcs : List Arc) → ReachesAll w (single root) (map f arcs) → length arcs < MOST_PARTS
  few_arcs root f arcs reach =
      let all = reached_count w (single root) (map f arcs) reach in
      let one = len-single root in
      let many = length-map arcs f in
      let most : set.len w ≤ MOST_PARTS = len_below MOST_PARTS w small in
      omega (arith, all, one, many, most)

  in_order : (witness : Witness) → IsWitness parts w witness → IsWitnessInOrder witness
  in_order witness holds = record { outs = few_arcs holds.root outward witness.outs holds.outs_reach; ins = few_arcs holds.root inward witness.ins holds.ins_reach }

  arcs_formed : (arcs : List Arc) → All (IsArcWithin parts w) arcs → All IsArcInBounds arcs
  arcs_formed arcs all = All-weaker (IsArcWithin parts w) IsArcInBounds (λ arc h. arc_formed parts w w arc is h.across) arcs all

  witness_lines : (k : ℕ) (witness : Witness) → k < LIST_LIMIT → IsWitness parts w witness → All IsInBounds (lines_of_witness k witness)
  witness_lines k witness lt holds =
      All-cons IsInBounds (line.Witness k) (map line.Out witness.outs ++ map line.In witness.ins) lt
      (All-append IsInBounds (map line.Out witness.outs) (map line.In witness.ins)
      (All-map IsInBounds line.Out witness.outs (arcs_formed witness.outs holds.outs))
      (All-map IsInBounds line.In witness.ins (arcs_formed witness.ins holds.ins)))

  witnesses_lines : (k : ℕ) (witnesses : List Witness) → k + length witnesses ≤ LIST_LIMIT → All (IsWitness parts w) witnesses → All IsInBounds (lines_of_witnesses k witnesses)
  witnesses_lines k [] few all = All-nil IsInBounds
  witnesses_lines k (x ∷ xs) few all =
      All-append IsInBounds (lines_of_witness k x) (lines_of_witnesses (suc k) xs)
      (witness_lines k x (omega arith) (All-head (IsWitness parts w) x xs all))
      (witnesses_lines (suc k) xs (omega arith) (All-tail (IsWitness parts w) x xs all))

  module _ (version : ℕ) (witnesses : List Witness) (dirs : List Dir) (refusal : IsRefusalOf parts version w witnesses dirs) (trees : All (IsWitness parts w) witnesses) (normals : All (IsWithin NORMAL) refusal.planes) (apart : NoneParallel refusal.planes) (few : length refusal.planes ≤ 1024) where
    dir_count : length dirs < LIST_LIMIT
    dir_count = let n = few_directions version refusal.planes (map (λ dir. dir.d) dirs) few refusal.directions in let e = length-map dirs (λ dir. dir.d) in omega (arith, n, e)

    witness_count : length witnesses < LIST_LIMIT
    witness_count =
        let uses = map (λ (dir : Dir). dir.witness) dirs in
        let le : length witnesses ≤ length uses = le-length_from_below uses (length witnesses) (λ q lt. list_any-from_Contains nat_eq_equiv q uses (refusal.by_first_use.used q lt)) in
        let e = length-map dirs (λ (dir : Dir). dir.witness) in
        let n = dir_count in
        omega (arith, le, e, n)

    named : (dir : Dir) → Contains dirs dir → dir.witness < length witnesses
    named dir c = All-contains (λ k. k < length witnesses) (map (λ (dir : Dir). dir.witness) dirs) dir.witness refusal.by_first_use.below (Contains-map (λ (dir : Dir). dir.witness) dirs dir c)

    dir_lines : All IsInBounds (map line.Dir dirs)
    dir_lines = All-map IsInBounds line.Dir dirs (All-from_members (λ dir. IsInBounds (line.Dir dir)) dirs (λ dir c.
        let d = refusal.directions.each dir.d (Contains-map (λ (dir : Dir). dir.d) dirs dir c) in
        let lt = named dir c in
        let n = witness_count in
        ((vertex_sized refusal.planes dir.d normals apart d.vertex).size, omega (arith, lt, n))))

    set_line : IsInBounds (line.Stuck w)
    set_line = (some_member w (let two = stuck_set.two in omega (arith, two)), λ p h. (has-below MOST_PARTS p).1 (small p h))

    pub refusal_lines : All IsInBounds (line.Stuck w ∷ (lines_of_witnesses 0 witnesses ++ map line.Dir dirs))
    refusal_lines = All-cons IsInBounds (line.Stuck w) (lines_of_witnesses 0 witnesses ++ map line.Dir dirs) set_line
        (All-append IsInBounds (lines_of_witnesses 0 witnesses) (map line.Dir dirs) (witnesses_lines 0 witnesses (let n = witness_count in omega (arith, n)) trees) dir_lines)

    pub refusal_in_order : IsRefusalInOrder version witnesses dirs
    refusal_in_order = record {
      witness_count = witness_count;
      dir_count = dir_count;
      each = All-weaker (IsWitness parts w) IsWitnessInOrder in_order witnesses trees;
      named = All-from_members (λ dir. dir.witness < length witnesses) dirs named;
      ascending = refusal.directions.ascending;
      canonical = λ two. All-from_members (λ dir. IsCanon dir.d) dirs (λ dir c. (refusal.directions.each dir.d (Contains-map (λ (dir : Dir). dir.d) dirs dir c)).canonical two);
    }

-- ---- the planes of a set

facet_plane_within : (parts : List Part) (w : PartSet) (n : V3) → IsAssembly parts → IsFacetPlane parts w n → IsWithin NORMAL n
facet_plane_within parts w n is plane =
    let h = plane.holds in
    subst (IsWithin NORMAL) (sym plane.is) (IsWithin-canon NORMAL plane.facet
    (facet_within h.p h.q plane.facet (piece_is parts plane.arc.a plane.arc.i h.p is h.p_is) (piece_is parts plane.arc.b plane.arc.j h.q is h.q_is) h.holds))

pub planes_within : (parts : List Part) (w : PartSet) (planes : List V3) → IsAssembly parts → ArePlanes parts w planes → All (IsWithin NORMAL) planes
planes_within parts w planes is are = All-from_members (IsWithin NORMAL) planes (λ n c. ⊎_elim {C = IsWithin NORMAL n}
    (λ axis. axis_within n axis)
    (λ other. facet_plane_within parts w n is (are.others_are.each n other).0)
    (Contains-append_cases axes are.others n (subst (λ l. Contains l n) are.is c)))

-- where the planes of a set are few, there are not too many
pub none_refused : (parts : List Part) (w : PartSet) (limit found : ℕ) → HasFewPlanes parts w limit → IsPlanesRefusal parts w limit (TooManyPlanes found) → ⊥
none_refused parts w limit found few many =
    let same : few.planes ≡ many.planes = ArePlanes-unique parts w few.planes many.planes few.planes_are many.planes_are in
    let le : length many.planes ≤ limit = subst (λ (ps : List V3). length ps ≤ limit) same few.few in
    omega (arith, le, many.count, many.many)

-- ---- both

-- the first two lines and the last
framed : (c : Certificate) → IsVersion c.version → IsInBounds (line.Parts c.parts) → All IsInBounds (lines_of_body c.body) → All IsInBounds (lines_of c)
framed c version parts lines =
    All-cons IsInBounds (line.Head c.version) (line.Parts c.parts ∷ (lines_of_body c.body ++ line.End ∷ [])) version
    (All-cons IsInBounds (line.Parts c.parts) (lines_of_body c.body ++ line.End ∷ []) parts
    (All-append IsInBounds (lines_of_body c.body) (line.End ∷ []) lines (All-cons IsInBounds line.End [] tt (All-nil IsInBounds))))

module _ (parts : List Part) (version stated : ℕ) (is : IsAssembly parts) (version_is : IsVersion version) (count : stated ≡ length parts) where
  count_line : IsInBounds (line.Parts stated)
  count_line = (omega (arith, count, is.at_least), omega (arith, count, is.at_most))

  plan_formed : (plan : Plan) (marks : List Kind) (b : Body) → CanBeCertified parts (planned plan marks) → IsBodyOf parts version (planned plan marks) b → IsWellFormed (record { version = version; parts = stated; body = b })
  plan_formed plan marks (body.Stuck v witnesses dirs) can are = absurd are
  plan_formed plan marks (body.Plan nodes) can are = record {
    lines = framed (record { version = version; parts = stated; body = body.Plan nodes }) version_is count_line (All-cons IsInBounds line.Plan _ tt (plan_lines parts is plan nodes can.0 can.1 are));
    body = subst (λ n. IsPlanInOrder n nodes) (sym count) (plan_in_order parts is plan nodes can.0 are);
  }

  refusal_formed : (w : PartSet) (b : Body) → CanBeCertified parts (stuck w) → IsBodyOf parts version (stuck w) b → IsWellFormed (record { version = version; parts = stated; body = b })
  refusal_formed w (body.Plan nodes) can are = absurd are
  refusal_formed w (body.Stuck v witnesses dirs) can are =
      let set_is = stuck_exists parts w can.0 in
      let holds : RefusalHolds parts version stated v witnesses dirs = refusal_certificate_valid parts version w (record { version = version; parts = stated; body = body.Stuck v witnesses dirs }) is set_is (record { version_is = refl; count = count; body = are }) in
      let refusal : IsRefusalOf parts version v witnesses dirs = subst (λ (u : PartSet). IsRefusalOf parts version u witnesses dirs) (sym are.0) are.1 in
      let planes_are : ArePlanes parts v refusal.planes = refusal.planes_are in
      let same : can.1.planes ≡ refusal.planes = ArePlanes-unique parts v can.1.planes refusal.planes (subst (λ (u : PartSet). ArePlanes parts u can.1.planes) (sym are.0) can.1.planes_are) planes_are in
      let few : length refusal.planes ≤ 1024 = subst (λ (ps : List V3). length ps ≤ 1024) same can.1.few in
      let normals = planes_within parts v refusal.planes is planes_are in
      let apart = planes_apart parts v refusal.planes planes_are in
      record {
        lines = framed (record { version = version; parts = stated; body = body.Stuck v witnesses dirs }) version_is count_line (refusal_lines parts v is holds.stuck_set version witnesses dirs refusal holds.trees normals apart few);
        body = refusal_in_order parts v is holds.stuck_set version witnesses dirs refusal holds.trees normals apart few;
      }

  pub formed : (finding : Finding) (b : Body) → CanBeCertified parts finding → IsBodyOf parts version finding b → IsWellFormed (record { version = version; parts = stated; body = b })
  formed (planned plan marks) b can are = plan_formed plan marks b can are
  formed (stuck w) b can are = refusal_formed w b can are

-- ---- validity

pub valid : (parts : List Part) (version : ℕ) (finding : Finding) (c : Certificate) → IsAssembly parts → CanBeCertified parts finding → IsCertificateOf parts version finding c → IsValidFor parts finding c
valid parts version (planned plan marks) c is can are = plan_certificate_valid parts version plan marks c can.0 are
valid parts version (stuck w) c is can are = refusal_certificate_valid parts version w c is (stuck_exists parts w can.0) are
