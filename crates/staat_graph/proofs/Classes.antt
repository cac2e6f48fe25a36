-- The groups of a set as a list, in order of their least part.
use Rattle.std.proofs.Common.{◌≡◌, ◌⊎◌, ℕ, zero, suc, ◌+◌, ◌<◌, ◌≤◌, List, [], ◌∷◌, ◌++◌, arith, sym, ◌∙◌, subst, refl, inl, inr, ⊎_elim, length}
use Rattle.std.specs.Prelude.{◌↔◌, Contains}
use Rattle.std.proofs.lemmas.List.Elements.{Contains-push, Contains-push_cases, Contains-append_left}
use Rattle.staat_model.specs.declared.set.PartSet.{PartSet}
use Rattle.staat_model.specs.Sets.{Has, IsNonempty, IsLeastOf}
use Rattle.staat_model.proofs.FreeSides.{member_or}
use Rattle.staat_graph.specs.Graphs.{HasArc, IsGroup, AreGroups, InOrder, IsStrong}
use Rattle.staat_graph.proofs.Arcs.{arc_or}
use Rattle.staat_graph.proofs.Finite.{some_least}
use Rattle.staat_graph.proofs.Reaching.{one_group, some_group}
use Rattle.staat_graph.proofs.Walking.{walk_ends}
use Rattle.staat_vec.proofs.Naturals.{lt_or_le, lt_one_more_cases}
use Rattle.staat_vec.proofs.Unique.{Contains-nothing}

pub one_least : (s : PartSet) (p q : ℕ) → IsLeastOf s p → IsLeastOf s q → p ≡ q
one_least s p q a b = let l : p ≤ q = a.least q b.has in let r : q ≤ p = b.least p a.has in omega (arith, l, r)

module _ (R : ℕ → ℕ → Type 0) (w : PartSet) where
  -- the groups with a part below n, in order
  pub record AreFirst (n : ℕ) (groups : List PartSet) : Type 0 where
    pub each : (s : PartSet) → Contains groups s → IsGroup R w s × ((p : ℕ) × (p < n) × IsLeastOf s p)
    pub all : (s : PartSet) (p : ℕ) → p < n → IsGroup R w s → Has s p → Contains groups s
    pub in_order : InOrder groups

  pub order_push : (groups : List PartSet) (s : PartSet) → InOrder groups → ((t : PartSet) (p q : ℕ) → Contains groups t → IsLeastOf t p → IsLeastOf s q → p < q) → InOrder (groups ++ s ∷ [])
  order_push [] s o f = ((λ t p q c a b. absurd (Contains-nothing t c)), tt)
  order_push (x ∷ groups) s o f = (
    (λ t p q c a b. ⊎_elim (λ m. o.0 t p q m a b) (λ e. f x p q (0, omega arith, refl) a (subst (λ z. IsLeastOf z q) (sym e) b)) (Contains-push_cases groups s t c)),
    order_push groups s o.1 (λ t p q c a b. f t p q (suc c.0, (let lt = c.1 in omega arith), c.2) a b),
  )

  pub first_none : AreFirst 0 []
  first_none = record { each = λ s c. absurd (Contains-nothing s c); all = λ s p lt. absurd (omega (arith, lt)); in_order = tt }

  -- where each group that holds n is listed
  pub first_same : (n : ℕ) (groups : List PartSet) → AreFirst n groups → ((s : PartSet) → IsGroup R w s → Has s n → Contains groups s) → AreFirst (n + 1) groups
  first_same n groups b own = record {
    each = λ s c. let e = b.each s c in (e.0, (e.1.0, (let lt = e.1.1 in omega arith), e.1.2));
    all = λ s p lt group h. ⊎_elim (λ l. b.all s p l group h) (λ e. own s group (subst (Has s) e h)) (lt_one_more_cases p n lt);
    in_order = b.in_order;
  }

  -- the group whose least part is n is added
  pub first_more : (n : ℕ) (groups : List PartSet) (s : PartSet) → AreFirst n groups → IsGroup R w s → IsLeastOf s n → AreFirst (n + 1) (groups ++ s ∷ [])
  first_more n groups s b group least = record {
    each = λ t c. ⊎_elim {C = IsGroup R w t × ((p : ℕ) × (p < n + 1) × IsLeastOf t p)} (λ m. let e = b.each t m in (e.0, (e.1.0, (let lt = e.1.1 in omega arith), e.1.2))) (λ e. subst (λ z. IsGroup R w z × ((p : ℕ) × (p < n + 1) × IsLeastOf z p)) e (group, (n, omega arith, least))) (Contains-push_cases groups s t c);
    all = λ t p lt is m. ⊎_elim (λ l. Contains-append_left groups (s ∷ []) t (b.all t p l is m)) (λ e. subst (Contains (groups ++ s ∷ [])) (one_group R w s t n group is least.has (subst (Has t) e m)) (Contains-push groups s)) (lt_one_more_cases p n lt);
    in_order = order_push groups s b.in_order (λ t p q c x y. let e = b.each t c in let ep : p ≡ e.1.0 = one_least t p e.1.0 x e.1.2 in let eq : q ≡ n = one_least s q n y least in let lt = e.1.1 in omega (arith, ep, eq, lt));
  }

  pub all_groups : (n : ℕ) (groups : List PartSet) → AreFirst n groups → ((q : ℕ) → Has w q → q < n) → AreGroups R w groups
  all_groups n groups b small = record {
    each = λ s c. (b.each s c).0;
    all = λ s group. b.all s group.nonempty.0 (small group.nonempty.0 (group.within group.nonempty.0 group.nonempty.1)) group group.nonempty.1;
    in_order = b.in_order;
  }

  -- beside those the parts of w that are in none of them
  pub record Below (n : ℕ) (groups : List PartSet) (rest : PartSet) : Type 0 where
    pub first : AreFirst n groups
    pub rest_in : (q : ℕ) → Has rest q → Has w q × ((s : PartSet) → Contains groups s → Has s q → ⊥)
    pub rest_all : (q : ℕ) → Has w q → ((s : PartSet) → Contains groups s → Has s q → ⊥) → Has rest q

  pub below_none : Below 0 [] w
  below_none = record { first = first_none; rest_in = λ q h. (h, λ s c. absurd (Contains-nothing s c)); rest_all = λ q h none. h }

  -- a part that is in a listed group, or not in w, adds none
  pub below_next : (n : ℕ) (groups : List PartSet) (rest : PartSet) → Below n groups rest → (Has rest n → ⊥) → Below (n + 1) groups rest
  below_next n groups rest b out = record { first = first_same n groups b.first own; rest_in = b.rest_in; rest_all = b.rest_all }
    where
      listed_or : (L : List PartSet) → ((t : PartSet) × Contains L t × Has t n) ⊎ ((t : PartSet) → Contains L t → Has t n → ⊥)
      listed_or [] = inr (λ t c h. Contains-nothing t c)
      listed_or (x ∷ L) = go (member_or x n) (listed_or L)
        where
          not_in : (Has x n → ⊥) → ((t : PartSet) → Contains L t → Has t n → ⊥) → (t : PartSet) → Contains (x ∷ L) t → Has t n → ⊥
          not_in lacks none t (zero, lt, is) h = lacks (subst (λ (z : PartSet). Has z n) (sym is) h)
          not_in lacks none t (suc k, lt, is) h = none t (k, omega arith, is) h

          go : Has x n ⊎ (Has x n → ⊥) → ((t : PartSet) × Contains L t × Has t n) ⊎ ((t : PartSet) → Contains L t → Has t n → ⊥) → ((t : PartSet) × Contains (x ∷ L) t × Has t n) ⊎ ((t : PartSet) → Contains (x ∷ L) t → Has t n → ⊥)
          go (inl h) rest = inl (x, (0, omega arith, refl), h)
          go (inr lacks) (inl t) = inl (t.0, (suc t.1.0, (let lt = t.1.1 in omega arith), t.1.2), t.2)
          go (inr lacks) (inr none) = inr (not_in lacks none)

      own : (s : PartSet) → IsGroup R w s → Has s n → Contains groups s
      own s group h = ⊎_elim {C = Contains groups s}
          (λ t. subst (Contains groups) (one_group R w t.0 s n (b.first.each t.0 t.1).0 group t.2 h) t.1)
          (λ none. absurd (out (b.rest_all n (group.within n h) none)))
          (listed_or groups)

  -- a part in none of them is the least of its group, which is added
  pub below_more : (n : ℕ) (groups : List PartSet) (rest more : PartSet) (s : PartSet) → Below n groups rest → Has rest n → IsGroup R w s → Has s n → ((q : ℕ) → (Has more q → Has rest q × (Has s q → ⊥)) × (Has rest q × (Has s q → ⊥) → Has more q)) → Below (n + 1) (groups ++ s ∷ []) more
  below_more n groups rest more s b h group own members =
      let new : Contains groups s → ⊥ = λ c. (b.rest_in n h).1 s c own in
      let least : IsLeastOf s n = record { has = own; least = λ q m. ⊎_elim (λ lt. absurd (new (b.first.all s q lt group m))) (λ le. le) (lt_or_le q n) } in
      record {
        first = first_more n groups s b.first group least;
        rest_in = λ q m. let t = (members q).0 m in ((b.rest_in q t.0).0, λ u c hu. ⊎_elim (λ k. (b.rest_in q t.0).1 u k hu) (λ e. t.1 (subst (λ (z : PartSet). Has z q) (sym e) hu)) (Contains-push_cases groups s u c));
        rest_all = λ q hw none. (members q).1 (b.rest_all q hw (λ u c. none u (Contains-append_left groups (s ∷ []) u c)), λ hs. none s (Contains-push groups s) hs);
      }

-- ---- one group

module _ (R : ℕ → ℕ → Type 0) (w : PartSet) (groups : List PartSet) (some : IsNonempty w) (are : AreGroups R w groups) where
  strong_group : IsStrong R w → IsGroup R w w
  strong_group strong = record { nonempty = some; within = λ q h. h; linked = strong; whole = λ a b ha m. walk_ends m.0 }

  one_left : (L : List PartSet) → InOrder L → ((s : PartSet) → Contains L s → s ≡ w) → Contains L w → (p : ℕ) → IsLeastOf w p → length L ≡ 1
  one_left [] o same has p least = absurd (let lt = has.1 in omega arith)
  one_left (x ∷ []) o same has p least = refl
  one_left (x ∷ y ∷ L) o same has p least =
      let ex : x ≡ w = same x (0, omega arith, refl) in
      let ey : y ≡ w = same y (1, omega arith, refl) in
      absurd (let lt : p < p = o.0 y p p (0, omega arith, refl) (subst (λ z. IsLeastOf z p) (sym ex) least) (subst (λ z. IsLeastOf z p) (sym ey) least) in omega arith)

  only_one : (L : List PartSet) → length L ≡ 1 → (s t : PartSet) → Contains L s → Contains L t → s ≡ t
  only_one [] e s t a b = absurd (omega arith)
  only_one (x ∷ y ∷ L) e s t a b = absurd (omega arith)
  only_one (x ∷ []) e s t (zero, la, ia) (zero, lb, ib) = sym ia ∙ ib
  only_one (x ∷ []) e s t (zero, la, ia) (suc k, lb, ib) = absurd (omega arith)
  only_one (x ∷ []) e s t (suc k, la, ia) b = absurd (omega arith)

  pub one_of_strong : IsStrong R w → length groups ≡ 1
  one_of_strong strong =
      let all : IsGroup R w w = strong_group strong in
      let (p, least) = some_least w some.0 some.1 in
      one_left groups are.in_order (λ s c. let g = are.each s c in let h = g.nonempty.1 in one_group R w s w g.nonempty.0 g all h (g.within g.nonempty.0 h)) (are.all w all) p least

  pub strong_of_one : ((a b : ℕ) → R a b ⊎ (R a b → ⊥)) → length groups ≡ 1 → IsStrong R w
  strong_of_one dec e a b ha hb =
      let (s, gs, in_s) = some_group R dec w a ha in
      let (t, gt, in_t) = some_group R dec w b hb in
      let same : t ≡ s = only_one groups e t s (are.all t gt) (are.all s gs) in
      gs.linked a b in_s (subst (λ (z : PartSet). Has z b) same in_t)

pub one_group_law : (rows : List ℕ) (w : PartSet) (groups : List PartSet) → IsNonempty w → AreGroups (HasArc rows) w groups → IsStrong (HasArc rows) w ↔ (length groups ≡ 1)
one_group_law rows w groups some are = (one_of_strong (HasArc rows) w groups some are, strong_of_one (HasArc rows) w groups some are (arc_or rows))
