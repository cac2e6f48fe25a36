-- A certificate is known by its lines, and its last line stands nowhere else.
use Rattle.std.proofs.Common.{◌≡◌, ◌≢◌, ℕ, suc, List, [], ◌∷◌, ◌++◌, map, get_or, All, ap, sym, refl, ◌∙◌, append_assoc}
use Rattle.std.specs.Prelude.{flat_map}
use Rattle.std.proofs.lemmas.List.Elements.{All-map}
use Rattle.staat_model.proofs.Members.{cut_once, known_by}
use Rattle.staat_model.specs.declared.certificate.Arc.{Arc}
use Rattle.staat_model.specs.declared.certificate.Dir.{Dir}
use Rattle.staat_model.specs.declared.certificate.Node.{Node}
use Rattle.staat_model.specs.declared.certificate.Node.TheVariants.{Leaf, Split}
use Rattle.staat_model.specs.declared.certificate.Witness.{Witness}
use Rattle.staat_model.specs.declared.certificate.Body.{Body}
use Rattle.staat_model.specs.declared.certificate.Body.TheVariants as body
use Rattle.staat_model.specs.declared.certificate.Certificate.{Certificate}
use Rattle.staat_model.specs.declared.line.Line.{Line}
use Rattle.staat_model.specs.declared.line.Line.TheVariants as line
use Rattle.staat_model.specs.Texts.{lines_of_node, lines_of_witnesses, lines_of_body, lines_of}

-- ---- lines of one kind

-- which kind of line may stand more than once in a row
abbrev kind : Line → ℕ
kind (line.Sep sep) = 1
kind (line.Out arc) = 2
kind (line.In arc) = 3
kind (line.Dir dir) = 4
kind l = 0

-- no line of this kind stands in front
abbrev Ends : ℕ → List Line → Type 0
Ends k [] = Unit {0}
Ends k (l ∷ ls) = kind l ≢ k

tails_of : {l m : Line} {p q : List Line} → l ∷ p ≡ m ∷ q → p ≡ q
tails_of e = cc

-- there is one way to cut the lines of a kind from what follows
kind_cut : {X : Type 0} (k : ℕ) (line_of : X → Line) → ((x y : X) → line_of x ≡ line_of y → x ≡ y) → ((x : X) → kind (line_of x) ≡ k)
    → (xs ys : List X) (p q : List Line) → Ends k p → Ends k q → map line_of xs ++ p ≡ map line_of ys ++ q → (xs ≡ ys) × (p ≡ q)
kind_cut k line_of one is xs ys p q c d e =
    let cuts = cut_once (λ l. kind l ≡ k) (Ends k) (λ l r ends same. ends same) (map line_of xs) (map line_of ys) p q (all xs) (all ys) c d e in
    (known_by line_of (λ x. Unit {0}) (λ x y same a b. one x y same) xs ys cuts.0 (λ i x lt. tt) (λ i x lt. tt), cuts.1)
  where
    all : (zs : List _) → All (λ l. kind l ≡ k) (map line_of zs)
    all zs = All-map (λ l. kind l ≡ k) line_of zs (λ i z lt. is (get_or zs i z))

-- ---- plans

-- the lines of the nodes, and what follows
abbrev after : List Node → List Line → List Line
after nodes p = flat_map lines_of_node nodes ++ line.End ∷ p

no_seps : (nodes : List Node) (p : List Line) → Ends 1 (after nodes p)
no_seps [] p = λ e. cc
no_seps (Leaf n ∷ nodes) p = λ e. cc
no_seps (Split d seps ∷ nodes) p = λ e. cc

nodes_same : (xs ys : List Node) (p q : List Line) → after xs p ≡ after ys q → (xs ≡ ys) × (p ≡ q)
nodes_same [] [] p q e = (refl, tails_of e)
nodes_same (Leaf n ∷ xs) (Leaf m ∷ ys) p q e =
    let same : n ≡ m = cc in
    let rest = nodes_same xs ys p q (tails_of e) in
    ((λ i. Leaf (same i) ∷ rest.0 i), rest.1)
nodes_same (Split d seps ∷ xs) (Split d' seps' ∷ ys) p q e =
    let same : d ≡ d' = cc in
    let cuts = kind_cut 1 line.Sep (λ x y f. cc) (λ x. refl) seps seps' (after xs p) (after ys q) (no_seps xs p) (no_seps ys q)
    (sym (append_assoc (map line.Sep seps) (flat_map lines_of_node xs) (line.End ∷ p)) ∙ tails_of e ∙ append_assoc (map line.Sep seps') (flat_map lines_of_node ys) (line.End ∷ q)) in
    let rest = nodes_same xs ys p q cuts.1 in
    ((λ i. Split (same i) (cuts.0 i) ∷ rest.0 i), rest.1)
nodes_same [] (Leaf m ∷ ys) p q e = absurd cc
nodes_same [] (Split d' seps' ∷ ys) p q e = absurd cc
nodes_same xs ys p q e = absurd cc

-- ---- refusals

-- after the witnesses
abbrev behind : List Dir → List Line → List Line
behind dirs p = map line.Dir dirs ++ line.End ∷ p

-- the lines of the witnesses, and what follows
abbrev trees : ℕ → List Witness → List Dir → List Line → List Line
trees k ws dirs p = lines_of_witnesses k ws ++ behind dirs p

no_outs : (ins : List Arc) (k : ℕ) (ws : List Witness) (dirs : List Dir) (p : List Line) → Ends 2 (map line.In ins ++ trees k ws dirs p)
no_outs (arc ∷ ins) k ws dirs p = λ e. cc
no_outs [] k (w ∷ ws) dirs p = λ e. cc
no_outs [] k [] (dir ∷ dirs) p = λ e. cc
no_outs [] k [] [] p = λ e. cc

no_ins : (k : ℕ) (ws : List Witness) (dirs : List Dir) (p : List Line) → Ends 3 (trees k ws dirs p)
no_ins k (w ∷ ws) dirs p = λ e. cc
no_ins k [] (dir ∷ dirs) p = λ e. cc
no_ins k [] [] p = λ e. cc

shape : (k : ℕ) (w : Witness) (ws : List Witness) (dirs : List Dir) (p : List Line) → trees k (w ∷ ws) dirs p ≡ line.Witness k ∷ (map line.Out w.outs ++ (map line.In w.ins ++ trees (suc k) ws dirs p))
shape k w ws dirs p =
    ap (λ l. line.Witness k ∷ l)
    (append_assoc (map line.Out w.outs ++ map line.In w.ins) (lines_of_witnesses (suc k) ws) (behind dirs p)
    ∙ append_assoc (map line.Out w.outs) (map line.In w.ins) (trees (suc k) ws dirs p))

trees_same : (k : ℕ) (ws xs : List Witness) (dirs es : List Dir) (p q : List Line) → trees k ws dirs p ≡ trees k xs es q → (ws ≡ xs) × (dirs ≡ es) × (p ≡ q)
trees_same k [] [] dirs es p q e =
    let cuts = kind_cut 4 line.Dir (λ x y f. cc) (λ x. refl) dirs es (line.End ∷ p) (line.End ∷ q) (λ f. cc) (λ f. cc) e in
    (refl, cuts.0, tails_of cuts.1)
trees_same k (w ∷ ws) (x ∷ xs) dirs es p q e =
    let outs = kind_cut 2 line.Out (λ x y f. cc) (λ x. refl) w.outs x.outs (map line.In w.ins ++ trees (suc k) ws dirs p) (map line.In x.ins ++ trees (suc k) xs es q)
    (no_outs w.ins (suc k) ws dirs p) (no_outs x.ins (suc k) xs es q) (tails_of (sym (shape k w ws dirs p) ∙ e ∙ shape k x xs es q)) in
    let ins = kind_cut 3 line.In (λ x y f. cc) (λ x. refl) w.ins x.ins (trees (suc k) ws dirs p) (trees (suc k) xs es q) (no_ins (suc k) ws dirs p) (no_ins (suc k) xs es q) outs.1 in
    let rest = trees_same (suc k) ws xs dirs es p q ins.1 in
    ((λ i. record { outs = outs.0 i; ins = ins.0 i } ∷ rest.0 i), rest.1, rest.2)
trees_same k [] (x ∷ xs) [] es p q e = absurd cc
trees_same k [] (x ∷ xs) (dir ∷ dirs) es p q e = absurd cc
trees_same k (w ∷ ws) [] dirs [] p q e = absurd cc
trees_same k (w ∷ ws) [] dirs (dir ∷ es) p q e = absurd cc

-- ---- certificates

body_same : (b c : Body) (p q : List Line) → lines_of_body b ++ line.End ∷ p ≡ lines_of_body c ++ line.End ∷ q → (b ≡ c) × (p ≡ q)
body_same (body.Plan xs) (body.Plan ys) p q e = let same = nodes_same xs ys p q (tails_of e) in (ap body.Plan same.0, same.1)
body_same (body.Stuck w ws dirs) (body.Stuck v xs es) p q e =
    let sets : w ≡ v = cc in
    let same = trees_same 0 ws xs dirs es p q
    (sym (append_assoc (lines_of_witnesses 0 ws) (map line.Dir dirs) (line.End ∷ p)) ∙ tails_of e ∙ append_assoc (lines_of_witnesses 0 xs) (map line.Dir es) (line.End ∷ q)) in
    ((λ i. body.Stuck (sets i) (same.0 i) (same.1 i)), same.2)
body_same b c p q e = absurd cc

-- a certificate is known by its lines
pub one_by_lines : (c d : Certificate) → lines_of c ≡ lines_of d → c ≡ d
one_by_lines c d e =
    let versions : c.version ≡ d.version = cc in
    let counts : c.parts ≡ d.parts = cc in
    let bodies = body_same c.body d.body [] [] (tails_of (tails_of e)) in
    λ i. record { version = versions i; parts = counts i; body = bodies.0 i }

-- no certificate's lines go on after another's
pub lines_end : (c d : Certificate) (r : Line) (rest : List Line) → lines_of d ≡ lines_of c ++ r ∷ rest → ⊥
lines_end c d r rest e =
    let bodies = body_same d.body c.body [] (r ∷ rest) (tails_of (tails_of e) ∙ append_assoc (lines_of_body c.body) (line.End ∷ []) (r ∷ rest)) in
    let nothing : [] ≡ r ∷ rest = bodies.1 in
    cc
