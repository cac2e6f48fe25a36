-- How long the text of the certificate of a plan is at most.
use Rattle.std.specs.List.{AllByRecursion, IsDistinct}
use Rattle.std.proofs.lemmas.Bool.Decides.{Decides-eqb}
use Rattle.std.proofs.lemmas.Map.Steps.{length-le_from_distinct_below}
use Rattle.std.proofs.lemmas.Map.Views.{Contains-from_any}
use Rattle.staat_vec.proofs.ListLaws.{Contains-from_map}
use Rattle.staat_vec.proofs.Naturals.{eqb_false, same_parts_of_64}
use Rattle.staat_model.specs.declared.certificate.Body.{Body}
use Rattle.staat_model.specs.Certify.{IsBodyOf, AreLeastWalls, HasLeastWalls, IsCertificateOf}
use Rattle.staat_model.specs.Texts.{IsWellFormed, lines_of, lines_of_node, text_of}
use Rattle.staat_model.proofs.LineTexts.{line_front, line_is, line_length}
use Rattle.staat_model.proofs.Members.{All-from_members}
use Rattle.staat_certify.proofs.CertificateLemmas.{formed}
use Rattle.std.proofs.Common.{◌≡◌, ◌∙◌, ℕ, zero, suc, ◌+◌, ◌*◌, ◌<◌, ◌≤◌, arith, false, eqb, refl, sym, ap, subst, List, [], ◌∷◌, ◌++◌, length, length-append, map, All, Contains}
use Rattle.std.specs.Prelude.{flat_map, sum_by}
use Rattle.std.specs.List.Sorted.{IsStrictlySortedBy}
use Rattle.std.specs.declared.cmp.Ordering.TheVariants.{Less}
use Rattle.std.proofs.lemmas.List.{length-map}
use Rattle.std.proofs.lemmas.List.Concat.{flat_map-cons}
use Rattle.std.proofs.lemmas.List.Elements.{All-append, All-contains, All-cons, All-head, All-nil, All-tail}
use Rattle.std.proofs.lemmas.List.Sums.{sum_by-cons}
use Rattle.staat_vec.specs.declared.vector.V3.{V3}
use Rattle.staat_vec.specs.declared.vector.TheConstants.{DIRECTION}
use Rattle.staat_vec.proofs.Unique.{Contains-front, Contains-later}
use Rattle.staat_limits.specs.Versions.{IsVersion}
use Rattle.staat_limits.specs.declared.limits.TheConstants.{TEXT_LIMIT}
use Rattle.staat_model.specs.declared.assembly.Part.{Part}
use Rattle.staat_model.specs.declared.certificate.Arc.{Arc}
use Rattle.staat_model.specs.declared.certificate.Body.TheVariants as body
use Rattle.staat_model.specs.declared.certificate.Certificate.{Certificate}
use Rattle.staat_model.specs.declared.certificate.Node.{Node}
use Rattle.staat_model.specs.declared.certificate.Node.TheVariants.{Leaf, Split}
use Rattle.staat_model.specs.declared.certificate.Sep.{Sep}
use Rattle.staat_model.specs.declared.line.Line.{Line}
use Rattle.staat_model.specs.declared.line.Line.TheVariants as line
use Rattle.staat_model.specs.declared.set.PartSet.{PartSet}
use Rattle.staat_model.specs.declared.tree.Kind.{Kind}
use Rattle.staat_model.specs.Assemblies.{IsAssembly, piece_count}
use Rattle.staat_model.specs.Certificates.{WalledPlan, arc_cmp, nodes_of, walled_leaf, walled_parts, walled_split}
use Rattle.staat_model.specs.Lines.{IsInBounds, line_text}
use Rattle.staat_model.specs.Outcomes.{planned}
use Rattle.staat_model.specs.Plans.{IsGood, Plan}
use Rattle.staat_model.specs.Sets.{below}
use Rattle.staat_certify.specs.Plans.{AreWithin}
use Rattle.staat_model.proofs.ArcOrder.{not_before_itself}

-- ---- lists that are joined

flat_long : {X Y : Type 0} (f : X → List Y) (k : ℕ) (xs : List X) → ((x : X) → Contains xs x → length (f x) ≤ k) → length (flat_map f xs) ≤ k * length xs
flat_long f k [] each = omega arith
flat_long f k (x ∷ xs) each =
    let one : length (f x) ≤ k = each x (Contains-front x xs) in
    let rest : length (flat_map f xs) ≤ k * length xs = flat_long f k xs (λ y c. each y (Contains-later x xs y c)) in
    let e : length (flat_map f (x ∷ xs)) ≡ length (f x) + length (flat_map f xs) = ap length (flat_map-cons f x xs) ∙ length-append (f x) (flat_map f xs) in
    omega (arith, one, rest, e)

-- ---- pieces, numbered through

number : List Part → ℕ → ℕ → ℕ
number [] a i = 0
number (p ∷ parts) zero i = i
number (p ∷ parts) (suc a) i = length p.pieces + number parts a i

number_small : (parts : List Part) (a i : ℕ) → i < piece_count parts a → number parts a i < sum_by (λ part. length part.pieces) parts
unfolding number
number_small [] a i lt = absurd (omega arith)
number_small (p ∷ parts) zero i lt = omega (arith, sum_by-cons (λ (part : Part). length part.pieces) p parts)
number_small (p ∷ parts) (suc a) i lt = let rest : number parts a i < sum_by (λ part. length part.pieces) parts = number_small parts a i lt in omega (arith, sum_by-cons (λ (part : Part). length part.pieces) p parts, rest)

-- pieces with one number are one
number_same : (parts : List Part) (a i b j : ℕ) → i < piece_count parts a → j < piece_count parts b → number parts a i ≡ number parts b j → (a ≡ b) × (i ≡ j)
unfolding number
number_same [] a i b j lt less e = absurd (omega arith)
number_same (p ∷ parts) zero i zero j lt less e = (refl, e)
number_same (p ∷ parts) zero i (suc b) j lt less e = absurd (omega (arith, lt, e))
number_same (p ∷ parts) (suc a) i zero j lt less e = absurd (omega (arith, less, e))
number_same (p ∷ parts) (suc a) i (suc b) j lt less e = let same = number_same parts a i b j lt less (omega (arith, e)) in (ap suc same.0, same.1)

-- ---- arcs have numbers of their own, so there are at most as many

abbrev HasPiecesOf : List Part → Arc → Type 0
HasPiecesOf parts arc = (arc.i < piece_count parts arc.a) × (arc.j < piece_count parts arc.b)

module _ (parts : List Part) (most : sum_by (λ part. length part.pieces) parts ≤ 64) where
  code : Arc → ℕ
  code arc = 64 * number parts arc.a arc.i + number parts arc.b arc.j

  code_small : (x : Arc) → HasPiecesOf parts x → code x < 4096
  unfolding code
  code_small x has = omega (arith, number_small parts x.a x.i has.0, number_small parts x.b x.j has.1, most)

  code_same : (x y : Arc) → HasPiecesOf parts x → HasPiecesOf parts y → code x ≡ code y → x ≡ y
  unfolding code
  code_same x y has_x has_y e =
      let low : number parts x.b x.j < 64 = omega (arith, number_small parts x.b x.j has_x.1, most) in
      let down : number parts y.b y.j < 64 = omega (arith, number_small parts y.b y.j has_y.1, most) in
      let both = same_parts_of_64 (number parts x.a x.i) (number parts x.b x.j) (number parts y.a y.i) (number parts y.b y.j) low down e in
      let first = number_same parts x.a x.i y.a y.i has_x.0 has_y.0 both.0 in
      let second = number_same parts x.b x.j y.b y.j has_x.1 has_y.1 both.1 in
      λ t. record { a = first.0 t; i = first.1 t; b = second.0 t; j = second.1 t }

  codes_apart : (x : Arc) (ys : List Arc) → HasPiecesOf parts x → All (HasPiecesOf parts) ys → AllByRecursion (λ y. arc_cmp x y ≡ Less) ys → AllByRecursion (λ n. eqb (code x) n ≡ false) (map code ys)
  codes_apart x [] has all after = tt
  codes_apart x (y ∷ ys) has all after = (
    eqb_false (code x) (code y) (λ e. not_before_itself x y after.0 (code_same x y has (All-head (HasPiecesOf parts) y ys all) e)),
    codes_apart x ys has (All-tail (HasPiecesOf parts) y ys all) after.1,
  )

  codes_distinct : (xs : List Arc) → All (HasPiecesOf parts) xs → IsStrictlySortedBy arc_cmp xs → IsDistinct eqb (map code xs)
  unfolding IsStrictlySortedBy IsDistinct
  codes_distinct [] all sorted = tt
  codes_distinct (x ∷ xs) all sorted = (codes_apart x xs (All-head (HasPiecesOf parts) x xs all) (All-tail (HasPiecesOf parts) x xs all) sorted.0, codes_distinct xs (All-tail (HasPiecesOf parts) x xs all) sorted.1)

  few_arcs : (xs : List Arc) → All (HasPiecesOf parts) xs → IsStrictlySortedBy arc_cmp xs → length xs ≤ 4096
  few_arcs xs all sorted =
      let few = length-le_from_distinct_below (map code xs) 4096 (codes_distinct xs all sorted)
      (λ q any. let (x, x_in, is) = Contains-from_map code xs q (Contains-from_any (λ x y e. (Decides-eqb x y).0 e) q (map code xs) any) in
      subst (λ n. n < 4096) is (code_small x (All-contains (HasPiecesOf parts) xs x all x_in))) in
      omega (arith, few, length-map xs code)

few_walls : (parts : List Part) (s r : PartSet) (d : V3) (seps : List Sep) → IsAssembly parts → AreLeastWalls parts s r d seps → length seps ≤ 4096
few_walls parts s r d seps is walls =
    let arcs : List Arc = map (λ sep. sep.arc) seps in
    let few = few_arcs parts is.pieces arcs (All-from_members (HasPiecesOf parts) arcs (λ x c. let h = walls.arcs.each x c in (h.i_in, h.j_in))) walls.arcs.ascending in
    omega (arith, few, length-map seps (λ (sep : Sep). sep.arc))

-- ---- the lines of a plan, of which each is in bounds

abbrev IsFewLines : Node → Type 0
IsFewLines node = length (lines_of_node node) ≤ 4097

node_lines : (parts : List Part) → IsAssembly parts → (t : WalledPlan) → HasLeastWalls parts t → All IsFewLines (nodes_of t)
node_lines parts is (walled_leaf p) walls = All-cons IsFewLines (Leaf p) [] (omega arith) (All-nil IsFewLines)
node_lines parts is (walled_split d seps moved rest) walls =
    let few = few_walls parts (walled_parts moved) (walled_parts rest) d seps is walls.0 in
    All-cons IsFewLines (Split d seps) (nodes_of moved ++ nodes_of rest) (omega (arith, few, length-map seps line.Sep))
    (All-append IsFewLines (nodes_of moved) (nodes_of rest) (node_lines parts is moved walls.1) (node_lines parts is rest walls.2))

-- ---- the text

pub plan_text_short : (parts : List Part) → IsAssembly parts → (version : ℕ) → IsVersion version → (plan : Plan) → IsGood parts (below (length parts)) plan → AreWithin DIRECTION plan
    → (marks : List Kind) (c : Certificate) → IsCertificateOf parts version (planned plan marks) c → length (text_of c) ≤ TEXT_LIMIT
plan_text_short parts is version versions plan good sized marks c of =
    subst (λ (x : Certificate). length (text_of x) ≤ TEXT_LIMIT) (λ i. record { version = sym of.version_is i; parts = c.parts; body = c.body })
    (go c.body of.body (formed parts version c.parts is versions of.count (planned plan marks) c.body (good, sized) of.body))
  where
    go : (b : Body) → IsBodyOf parts version (planned plan marks) b → IsWellFormed (record { version = version; parts = c.parts; body = b })
        → length (text_of (record { version = version; parts = c.parts; body = b })) ≤ TEXT_LIMIT
    go (body.Plan nodes) are form =
        let few : All IsFewLines nodes = subst (All IsFewLines) (sym are.nodes_are) (node_lines parts is are.tree are.walls) in
        let inner : List Line = flat_map lines_of_node nodes in
        let lines : List Line = lines_of (record { version = version; parts = c.parts; body = body.Plan nodes }) in
        let text : length (flat_map line_text lines) ≤ 128 * length lines = flat_long line_text 128 lines
        (λ l c. omega (arith, line_length l (All-contains IsInBounds lines l form.lines c), ap length (line_is l), length-append (line_front l) (10 ∷ []))) in
        let long : length lines ≡ 4 + length inner = omega (arith, length-append inner (line.End ∷ [])) in
        let many : length inner ≤ 4097 * length nodes = flat_long lines_of_node 4097 nodes (λ node n_in. All-contains IsFewLines nodes node few n_in) in
        omega (arith, text, long, many, form.body.most, of.count, is.at_most)
    go (body.Stuck w witnesses dirs) are form = absurd are
