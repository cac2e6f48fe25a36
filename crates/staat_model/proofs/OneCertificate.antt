-- An outcome has one certificate.
use Rattle.std.proofs.Common.{◌≡◌, ℕ, ◌≤◌, List, [], ◌∷◌, map, length, All, arith, ap, sym, ◌∙◌, subst, refl}
use Rattle.std.proofs.lemmas.List.{length-map}
use Rattle.std.specs.Prelude.{Some, slice_get}
use Rattle.std.proofs.lemmas.List.Elements.{All-contains}
use Rattle.std.specs.FinSet as set
use Rattle.staat_vec.specs.declared.vector.V3.{V3}
use Rattle.staat_vec.specs.Vectors.{vector_cmp}
use Rattle.staat_model.specs.declared.assembly.Part.{Part}
use Rattle.staat_model.specs.declared.set.PartSet.{PartSet}
use Rattle.staat_model.specs.declared.certificate.Arc.{Arc}
use Rattle.staat_model.specs.declared.certificate.Sep.{Sep}
use Rattle.staat_model.specs.declared.certificate.Dir.{Dir}
use Rattle.staat_model.specs.declared.certificate.Witness.{Witness}
use Rattle.staat_model.specs.declared.certificate.Body.{Body}
use Rattle.staat_model.specs.declared.certificate.Body.TheVariants as body
use Rattle.staat_model.specs.declared.certificate.Certificate.{Certificate}
use Rattle.staat_model.specs.Bridges.{IsNextBridge, IsTree}
use Rattle.staat_model.specs.Certificates.{WalledPlan, walled_leaf, walled_split, nodes_of, unwalled, walled_parts, arc_cmp, inward, outward, IsAcross}
use Rattle.staat_model.specs.Certify.{IsFacetAway, AreLeastWalls, HasLeastWalls, IsLeastArc, IsWitnessAt, NamesWitness, IsDirection, IsRefusalOf, IsBodyOf, IsCertificateOf}
use Rattle.staat_vec.specs.Lists.{IsLeast}
use Rattle.staat_vec.specs.Lists as lists
use Rattle.staat_model.specs.Outcomes.{Finding, planned, stuck}
use Rattle.staat_model.specs.Plans.{Plan, parts_of}
use Rattle.staat_model.specs.Removal.{Blocks, MeetsAlong}
use Rattle.staat_model.specs.Sets.{Has, single}
use Rattle.staat_model.proofs.FirstUse.{StandForSame, same_numbers, same_values}
use Rattle.staat_model.proofs.Members.{known_by}
use Rattle.staat_model.proofs.OneTable.{ArePlanes-unique}
use Rattle.staat_vec.proofs.VectorOrder.{vector_exact, vector_total}
use Rattle.staat_model.proofs.Orders.{arc_exact, arc_total}
use Rattle.staat_model.proofs.Places.{one_at_place}
use Rattle.staat_vec.proofs.Unique.{IsLeast-unique, Lists-unique, from_place}
use Rattle.staat_vec.proofs.ListLaws.{place_in_map, map_at_place}

-- ---- plans

walls_unique : (parts : List Part) (s r : PartSet) (d : V3) (xs ys : List Sep) → AreLeastWalls parts s r d xs → AreLeastWalls parts s r d ys → xs ≡ ys
walls_unique parts s r d xs ys a b =
    known_by (λ sep. sep.arc) (λ sep. IsLeast vector_cmp (IsFacetAway parts d sep.arc) sep.n)
    (λ x y arcs f g i. record {
      arc = arcs i;
      n = IsLeast-unique vector_cmp vector_total vector_exact (IsFacetAway parts d y.arc) x.n y.n (subst (λ (a : Arc). IsLeast vector_cmp (IsFacetAway parts d a) x.n) arcs f) g i;
    })
    xs ys (Lists-unique arc_cmp arc_total arc_exact (IsAcross parts s r) (map (λ sep. sep.arc) xs) (map (λ sep. sep.arc) ys) a.arcs b.arcs) a.least b.least

walled_unique : (parts : List Part) (t u : WalledPlan) → unwalled t ≡ unwalled u → HasLeastWalls parts t → HasLeastWalls parts u → t ≡ u
walled_unique parts (walled_leaf p) (walled_leaf q) e f g = let same : p ≡ q = cc in ap walled_leaf same
walled_unique parts (walled_split d xs m r) (walled_split d' ys m' r') e f g =
    let ds : d ≡ d' = cc in
    let moved : unwalled m ≡ unwalled m' = cc in
    let rest : unwalled r ≡ unwalled r' = cc in
    let walls : AreLeastWalls parts (walled_parts m') (walled_parts r') d' xs =
    subst (λ (k : V3). AreLeastWalls parts (walled_parts m') (walled_parts r') k xs) ds
    (subst (λ (p : Plan). AreLeastWalls parts (walled_parts m') (parts_of p) d xs) rest
    (subst (λ (p : Plan). AreLeastWalls parts (parts_of p) (walled_parts r) d xs) moved f.0)) in
    let seps : xs ≡ ys = walls_unique parts (walled_parts m') (walled_parts r') d' xs ys walls g.0 in
    let m_is : m ≡ m' = walled_unique parts m m' moved f.1 g.1 in
    let r_is : r ≡ r' = walled_unique parts r r' rest f.2 g.2 in
    λ i. walled_split (ds i) (seps i) (m_is i) (r_is i)
walled_unique parts t u e f g = absurd cc

-- ---- trees of bridges

next_unique : (R : ℕ → ℕ → Type 0) (w reached : PartSet) (f t f' t' : ℕ) → IsNextBridge R w reached f t → IsNextBridge R w reached f' t' → (f ≡ f') × (t ≡ t')
next_unique R w reached f t f' t' a b =
    let low : t ≤ t' = a.least_to f' t' b.is in
    let high : t' ≤ t = b.least_to f t a.is in
    let to : t ≡ t' = omega arith in
    let there = subst (λ (k : ℕ). IsNextBridge R w reached f k) to a in
    let less : f ≤ f' = there.least_from f' b.is in
    let more : f' ≤ f = b.least_from f there.is in
    (omega arith, to)

tree_unique : (R : ℕ → ℕ → Type 0) (w reached : PartSet) (ps qs : List (ℕ × ℕ)) → IsTree R w reached ps → IsTree R w reached qs → ps ≡ qs
tree_unique R w reached [] [] a b = refl
tree_unique R w reached [] (q ∷ qs) a b = absurd (b.0.is.to_new (subst (λ (s : PartSet). Has s q.1) (sym a) b.0.is.to_in))
tree_unique R w reached (p ∷ ps) [] a b = absurd (a.0.is.to_new (subst (λ (s : PartSet). Has s p.1) (sym b) a.0.is.to_in))
tree_unique R w reached (p ∷ ps) (q ∷ qs) a b =
    let same = next_unique R w reached p.0 p.1 q.0 q.1 a.0 b.0 in
    let rest : ps ≡ qs = tree_unique R w (set.insert reached q.1) ps qs (subst (λ (k : ℕ). IsTree R w (set.insert reached k) ps) same.1 a.1) b.1 in
    λ i. (same.0 i, same.1 i) ∷ rest i

least_arc_unique : (parts : List Part) (d : V3) (x y : Arc) → x.a ≡ y.a → x.b ≡ y.b → IsLeastArc parts d x → IsLeastArc parts d y → x ≡ y
least_arc_unique parts d x y ea eb f g = IsLeast-unique arc_cmp arc_total arc_exact (λ other. (other.a ≡ x.a) × (other.b ≡ x.b) × MeetsAlong parts d other) x y f (record {
  has = (sym ea, sym eb, g.has.2);
  least = λ z h. g.least z (h.0 ∙ ea, h.1 ∙ eb, h.2);
})

-- the arcs of a tree are known by the parts that they join
arcs_unique : (parts : List Part) (w : PartSet) (d : V3) (R : ℕ → ℕ → Type 0) (step : Arc → ℕ × ℕ) → ((x y : Arc) → step x ≡ step y → (x.a ≡ y.a) × (x.b ≡ y.b))
    → (reached : PartSet) (xs ys : List Arc)
    → IsTree R w reached (map step xs) → IsTree R w reached (map step ys) → All (IsLeastArc parts d) xs → All (IsLeastArc parts d) ys → xs ≡ ys
arcs_unique parts w d R step joins reached xs ys a b =
    known_by step (IsLeastArc parts d) (λ x y e. least_arc_unique parts d x y (joins x y e).0 (joins x y e).1) xs ys (tree_unique R w reached (map step xs) (map step ys) a b)

-- ---- refusals

witness_unique : (parts : List Part) (w : PartSet) (d : V3) (x y : Witness) → IsWitnessAt parts w d x → IsWitnessAt parts w d y → x ≡ y
witness_unique parts w d x y a b =
    let low : a.root ≤ b.root = a.root_is.least b.root b.root_is.has in
    let high : b.root ≤ a.root = b.root_is.least a.root a.root_is.has in
    let roots : a.root ≡ b.root = omega arith in
    let outs : x.outs ≡ y.outs = arcs_unique parts w d (Blocks parts d) outward (λ x y e. (ap (λ (p : ℕ × ℕ). p.0) e, ap (λ (p : ℕ × ℕ). p.1) e)) (single b.root) x.outs y.outs
    (subst (λ (r : ℕ). IsTree (Blocks parts d) w (single r) (map outward x.outs)) roots a.outs) b.outs a.outs_least b.outs_least in
    let ins : x.ins ≡ y.ins = arcs_unique parts w d (λ p q. Blocks parts d q p) inward (λ x y e. (ap (λ (p : ℕ × ℕ). p.1) e, ap (λ (p : ℕ × ℕ). p.0) e)) (single b.root) x.ins y.ins
    (subst (λ (r : ℕ). IsTree (λ p q. Blocks parts d q p) w (single r) (map inward x.ins)) roots a.ins) b.ins a.ins_least b.ins_least in
    λ i. record { outs = outs i; ins = ins i }

dirs_same : (xs ys : List Dir) → map (λ dir. dir.d) xs ≡ map (λ dir. dir.d) ys → map (λ dir. dir.witness) xs ≡ map (λ dir. dir.witness) ys → xs ≡ ys
dirs_same [] [] e f = refl
dirs_same (x ∷ xs) (y ∷ ys) e f =
    let ds : x.d ≡ y.d = cc in
    let ws : x.witness ≡ y.witness = cc in
    let rest_d : map (λ dir. dir.d) xs ≡ map (λ dir. dir.d) ys = cc in
    let rest_w : map (λ dir. dir.witness) xs ≡ map (λ dir. dir.witness) ys = cc in
    let rest : xs ≡ ys = dirs_same xs ys rest_d rest_w in
    λ i. record { d = ds i; witness = ws i } ∷ rest i
dirs_same xs ys e f = absurd cc

refusal_unique : (parts : List Part) (version : ℕ) (w : PartSet) (ws xs : List Witness) (ds es : List Dir) → IsRefusalOf parts version w ws ds → IsRefusalOf parts version w xs es → (ws ≡ xs) × (ds ≡ es)
refusal_unique parts version w ws xs ds es a b =
    let planes : a.planes ≡ b.planes = ArePlanes-unique parts w a.planes b.planes a.planes_are b.planes_are in
    let directions : map (λ dir. dir.d) ds ≡ map (λ dir. dir.d) es = Lists-unique vector_cmp vector_total vector_exact (IsDirection version b.planes) (map (λ dir. dir.d) ds) (map (λ dir. dir.d) es) (subst (λ (ps : List V3). lists.Lists vector_cmp (IsDirection version ps) (map (λ dir. dir.d) ds)) planes a.directions) b.directions in
    let lengths : length (map (λ (dir : Dir). dir.witness) ds) ≡ length (map (λ (dir : Dir). dir.witness) es) = length-map ds (λ (dir : Dir). dir.witness) ∙ sym (length-map ds (λ (dir : Dir). dir.d)) ∙ ap length directions ∙ length-map es (λ (dir : Dir). dir.d) ∙ sym (length-map es (λ (dir : Dir). dir.witness)) in
    let same : StandForSame (map (λ dir. dir.witness) ds) (map (λ dir. dir.witness) es) ws xs = λ i k m at_k at_m.
    let x = place_in_map (λ (dir : Dir). dir.witness) ds i k at_k in
    let y = place_in_map (λ (dir : Dir). dir.witness) es i m at_m in
    let n = All-contains (NamesWitness parts w ws) ds x.0 a.each (from_place ds i x.0 x.1) in
    let o = All-contains (NamesWitness parts w xs) es y.0 b.each (from_place es i y.0 y.1) in
    let along : x.0.d ≡ y.0.d = one_at_place (map (λ dir. dir.d) es) i x.0.d y.0.d (ap (λ l. slice_get l i) (sym directions) ∙ map_at_place (λ (dir : Dir). dir.d) ds i x.0 x.1) (map_at_place (λ (dir : Dir). dir.d) es i y.0 y.1) in
    let one : n.witness ≡ o.witness = witness_unique parts w y.0.d n.witness o.witness (subst (λ (d : V3). IsWitnessAt parts w d n.witness) along n.is) o.is in
    (n.witness, subst (λ (j : ℕ). slice_get ws j ≡ Some n.witness) x.2 n.witness_is, subst (λ (j : ℕ). slice_get xs j ≡ Some n.witness) y.2 (o.witness_is ∙ ap Some (sym one))) in (
      same_values (map (λ dir. dir.witness) ds) (map (λ dir. dir.witness) es) ws xs lengths a.by_first_use b.by_first_use a.distinct b.distinct same,
      dirs_same ds es directions (same_numbers (map (λ dir. dir.witness) ds) (map (λ dir. dir.witness) es) ws xs lengths a.by_first_use b.by_first_use a.distinct b.distinct same),
    )

-- ---- certificates

body_unique : (parts : List Part) (version : ℕ) (f : Finding) (b c : Body) → IsBodyOf parts version f b → IsBodyOf parts version f c → b ≡ c
body_unique parts version (planned plan marks) (body.Plan xs) (body.Plan ys) g h = ap body.Plan (g.nodes_are ∙ ap nodes_of (walled_unique parts g.tree h.tree (g.plan_is ∙ sym h.plan_is) g.walls h.walls) ∙ sym h.nodes_are)
body_unique parts version (planned plan marks) (body.Plan xs) (body.Stuck w ws ds) g h = absurd h
body_unique parts version (planned plan marks) (body.Stuck w ws ds) c g h = absurd g
body_unique parts version (stuck v) (body.Plan xs) c g h = absurd g
body_unique parts version (stuck v) (body.Stuck w ws ds) (body.Plan ys) g h = absurd h
body_unique parts version (stuck v) (body.Stuck w ws ds) (body.Stuck u xs es) g h =
    let same = refusal_unique parts version v ws xs ds es g.1 h.1 in
    λ i. body.Stuck ((g.0 ∙ sym h.0) i) (same.0 i) (same.1 i)

pub IsCertificateOf-unique : (parts : List Part) (version : ℕ) (f : Finding) (b c : Certificate) → IsCertificateOf parts version f b → IsCertificateOf parts version f c → b ≡ c
IsCertificateOf-unique parts version f b c g h =
    let versions : b.version ≡ c.version = g.version_is ∙ sym h.version_is in
    let counts : b.parts ≡ c.parts = g.count ∙ sym h.count in
    let bodies : b.body ≡ c.body = body_unique parts version f b.body c.body g.body h.body in
    λ i. record { version = versions i; parts = counts i; body = bodies i }
