-- The groups of a graph are one list, so its text is one.
use Rattle.std.proofs.Common.{◌≡◌, ◌∙◌, ◌⊎◌, ℕ, ◌<◌, List, [], ◌∷◌, Contains, refl, sym, ap, ap₂, subst, arith, inl, inr}
use Rattle.staat_vec.specs.declared.vector.V3.{V3}
use Rattle.staat_model.specs.declared.set.PartSet.{PartSet}
use Rattle.staat_model.specs.Sets.{IsLeastOf, below}
use Rattle.staat_graph.specs.Graphs.{AreGroups, HasArc, InOrder}
use Rattle.staat_graph.proofs.Finite.{some_least}
use Rattle.staat_text.specs.GraphTexts.{IsGraphText, arcs_of, graph_text}
use Rattle.staat_vec.proofs.Unique.{Contains-cases, Contains-nothing, Contains-front}
use Rattle.staat_vec.proofs.ListLaws.{Contains-there}

-- each of the sets has a least part
abbrev HaveLeast : List PartSet → Type 0
HaveLeast xs = (s : PartSet) → Contains xs s → (p : ℕ) × IsLeastOf s p

abbrev AreIn : List PartSet → List PartSet → Type 0
AreIn xs ys = (s : PartSet) → Contains xs s → Contains ys s

same_first : (x y : PartSet) (xs ys : List PartSet) → InOrder (x ∷ xs) → InOrder (y ∷ ys) → HaveLeast (x ∷ xs) → HaveLeast (y ∷ ys) → (x ≡ y) ⊎ Contains ys x → (y ≡ x) ⊎ Contains xs y → x ≡ y
same_first x y xs ys o q f g (inl e) b = e
same_first x y xs ys o q f g (inr c) (inl e) = sym e
same_first x y xs ys o q f g (inr c) (inr d) =
    let (m, is_m) = f x (Contains-front x xs) in
    let (n, is_n) = g y (Contains-front y ys) in
    let one : n < m = q.0 x n m c is_n is_m in
    let two : m < n = o.0 y m n d is_m is_n in
    absurd (omega (arith, one, two))

-- what comes later is not the first
rest_in : (x y : PartSet) (xs ys : List PartSet) → x ≡ y → InOrder (x ∷ xs) → HaveLeast (x ∷ xs) → (s : PartSet) → Contains xs s → (s ≡ y) ⊎ Contains ys s → Contains ys s
rest_in x y xs ys e o f s c (inr d) = d
rest_in x y xs ys e o f s c (inl i) =
    let (m, is_m) = f x (Contains-front x xs) in
    let again : m < m = o.0 s m m c is_m (subst (λ (t : PartSet). IsLeastOf t m) (e ∙ sym i) is_m) in
    absurd (omega (arith, again))

same_lists : (xs ys : List PartSet) → InOrder xs → InOrder ys → HaveLeast xs → HaveLeast ys → AreIn xs ys → AreIn ys xs → xs ≡ ys
same_lists [] [] o q f g a b = refl
same_lists [] (y ∷ ys) o q f g a b = absurd (Contains-nothing y (b y (Contains-front y ys)))
same_lists (x ∷ xs) [] o q f g a b = absurd (Contains-nothing x (a x (Contains-front x xs)))
same_lists (x ∷ xs) (y ∷ ys) o q f g a b =
    let e : x ≡ y = same_first x y xs ys o q f g (Contains-cases y ys x (a x (Contains-front x xs))) (Contains-cases x xs y (b y (Contains-front y ys))) in
    ap₂ (λ s r. s ∷ r) e (same_lists xs ys o.1 q.1 (λ s c. f s (Contains-there x s xs c)) (λ s c. g s (Contains-there y s ys c))
    (λ s c. rest_in x y xs ys e o f s c (Contains-cases y ys s (a s (Contains-there x s xs c))))
    (λ s c. rest_in y x ys xs (sym e) q g s c (Contains-cases x xs s (b s (Contains-there y s ys c)))))

one_list_of_groups : (R : ℕ → ℕ → Type 0) (w : PartSet) (xs ys : List PartSet) → AreGroups R w xs → AreGroups R w ys → xs ≡ ys
one_list_of_groups R w xs ys a b = same_lists xs ys a.in_order b.in_order
    (λ s c. let g = a.each s c in some_least s g.nonempty.0 g.nonempty.1)
    (λ s c. let g = b.each s c in some_least s g.nonempty.0 g.nonempty.1)
    (λ s c. b.all s (a.each s c))
    (λ s c. a.all s (b.each s c))

pub one_text : (parts : ℕ) (d : V3) (rows text other : List ℕ) → IsGraphText parts d rows text → IsGraphText parts d rows other → text ≡ other
one_text parts d rows text other t u =
    t.is ∙ ap (graph_text d (arcs_of rows parts)) (one_list_of_groups (HasArc rows) (below parts) t.groups u.groups t.are u.are) ∙ sym u.is
