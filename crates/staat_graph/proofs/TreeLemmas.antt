-- Lists of arcs by which a set grows.
use Rattle.std.proofs.Common.{◌≡◌, ◌⊎◌, ℕ, zero, suc, ◌≤◌, List, [], ◌∷◌, ◌++◌, arith, ap, sym, ◌∙◌, subst, refl, inl, inr, ⊎_elim, take, map}
use Rattle.std.specs.FinSet as set
use Rattle.staat_model.specs.declared.set.PartSet.{PartSet}
use Rattle.staat_model.specs.Sets.{Has, IsSubset, IsLeastOf, single}
use Rattle.staat_model.specs.Bridges.{IsBridge, IsNextBridge, IsTree, Back, swapped}
use Rattle.staat_model.proofs.FreeSides.{member_or}
use Rattle.staat_model.proofs.SetMembers.{has-insert, has-single}
use Rattle.staat_model.proofs.SetWords.{same_members}
use Rattle.staat_graph.specs.Graphs.{Walks, here, IsShut, IsStrong}
use Rattle.staat_graph.specs.Growing.{Grows, HasNoBridge, IsFrontier}
use Rattle.staat_graph.proofs.Walking.{joined, one_more, stays, turned_back}

pub union_insert : (s one u : PartSet) (p : ℕ) → ((q : ℕ) → (Has one q → q ≡ p) × (q ≡ p → Has one q)) → ((q : ℕ) → (Has u q → Has s q ⊎ Has one q) × (Has s q ⊎ Has one q → Has u q)) → u ≡ set.insert s p
union_insert s one u p single_is union_is = same_members u (set.insert s p)
    (λ q h. (has-insert s p q).1 (⊎_elim {C = (q ≡ p) ⊎ Has s q} (λ m. inr m) (λ m. inl ((single_is q).0 m)) ((union_is q).0 h)))
    (λ q h. (union_is q).1 (⊎_elim {C = Has s q ⊎ Has one q} (λ e. inr ((single_is q).1 e)) (λ m. inl m) ((has-insert s p q).0 h)))

pub swapped_twice : (arcs : List (ℕ × ℕ)) → map swapped (map swapped arcs) ≡ arcs
swapped_twice [] = refl
swapped_twice (x ∷ xs) = ap (λ ys. x ∷ ys) (swapped_twice xs)

pub take-swapped : (n : ℕ) (arcs : List (ℕ × ℕ)) → take n (map swapped arcs) ≡ map swapped (take n arcs)
take-swapped zero arcs = refl
take-swapped (suc n) [] = refl
take-swapped (suc n) (x ∷ xs) = ap (λ ys. swapped x ∷ ys) (take-swapped n xs)

module _ (R : ℕ → ℕ → Type 0) (w : PartSet) where
  pub grows_more : (a b c : PartSet) (xs : List (ℕ × ℕ)) (x : ℕ × ℕ) → Grows R w a xs b → IsNextBridge R w b x.0 x.1 → c ≡ set.insert b x.1 → Grows R w a (xs ++ x ∷ []) c
  grows_more a b c [] x e next is = (subst (λ s. IsNextBridge R w s x.0 x.1) (sym e) next, ap (λ s. set.insert s x.1) e ∙ sym is)
  grows_more a b c (y ∷ ys) x g next is = (g.0, grows_more (set.insert a y.1) b c ys x g.1 next is)

  pub grown_keeps : (a b : PartSet) (xs : List (ℕ × ℕ)) → Grows R w a xs b → IsSubset a b
  grown_keeps a b [] e q h = subst (λ (s : PartSet). Has s q) e h
  grown_keeps a b (x ∷ xs) g q h = grown_keeps (set.insert a x.1) b xs g.1 q ((has-insert a x.1 q).1 (inr h))

  -- to what a set grows, walks lead from a part from which walks lead to the set
  grown_walks : (from : ℕ) (a b : PartSet) (xs : List (ℕ × ℕ)) → Grows R w a xs b → ((q : ℕ) → Has a q → Walks R w from q) → (q : ℕ) → Has b q → Walks R w from q
  grown_walks from a b [] e walks q h = walks q (subst (λ (s : PartSet). Has s q) (sym e) h)
  grown_walks from a b (x ∷ xs) g walks q h =
      let step = g.0.is in
      grown_walks from (set.insert a x.1) b xs g.1 (λ p m. ⊎_elim (λ e. subst (Walks R w from) (sym e) (one_more (walks x.0 step.from_in) step.arc step.to_in)) (walks p) ((has-insert a x.1 p).0 m)) q h

  pub tree_walks : (root : ℕ) (b : PartSet) (xs : List (ℕ × ℕ)) → Has w root → Grows R w (single root) xs b → (q : ℕ) → Has b q → Walks R w root q
  tree_walks root b xs h g q m = grown_walks root (single root) b xs g (λ p own. subst (Walks R w root) (sym ((has-single root p).0 own)) (here h)) q m

  shut_of_none : (s : PartSet) → HasNoBridge R w s → IsShut R w s
  shut_of_none s none a b ha hb arc = ⊎_elim (λ h. h) (λ out. absurd (none a b (record { from_in = ha; to_in = hb; to_new = out; arc = arc }))) (member_or s b)

  -- a tree that grows no further reaches all of a strong set
  pub all_of_strong : (root : ℕ) (b : PartSet) (xs : List (ℕ × ℕ)) → Has w root → Grows R w (single root) xs b → HasNoBridge R w b → IsStrong R w → IsSubset w b
  all_of_strong root b xs h g none strong q m = stays b (shut_of_none b none) (grown_keeps (single root) b xs g root ((has-single root root).1 refl)) (strong root q h m)

  tree_of : (a b : PartSet) (xs : List (ℕ × ℕ)) → Grows R w a xs b → b ≡ w → IsTree R w a xs
  tree_of a b [] e is = e ∙ is
  tree_of a b (x ∷ xs) g is = (g.0, tree_of (set.insert a x.1) b xs g.1 is)

  pub tree_from_root : (root least : ℕ) (b : PartSet) (xs : List (ℕ × ℕ)) → Grows R w (single root) xs b → b ≡ w → IsLeastOf w root → IsLeastOf w least → IsTree R w (single least) xs
  tree_from_root root least b xs g is own other =
      let low : root ≤ least = own.least least other.has in
      let high : least ≤ root = other.least root own.has in
      let e : root ≡ least = omega arith in
      subst (λ p. IsTree R w (single p) xs) e (tree_of (single root) b xs g is)

  -- one more part is reached
  pub ahead_more : (s t one ahead more row : PartSet) (p : ℕ) → IsFrontier R w s ahead → ((q : ℕ) → (Has t q → Has s q ⊎ Has one q) × (Has s q ⊎ Has one q → Has t q)) → ((q : ℕ) → (Has one q → q ≡ p) × (q ≡ p → Has one q))
      → ((q : ℕ) → (Has more q → Has ahead q ⊎ Has row q) × (Has ahead q ⊎ Has row q → Has more q)) → ((q : ℕ) → (Has row q → R p q × Has w q) × (R p q × Has w q → Has row q)) → IsFrontier R w t more
  ahead_more s t one ahead more row p old t_is one_is more_is row_is =
      let own : Has t p = (t_is p).1 (inr ((one_is p).1 refl)) in
      record {
        within = λ q h. ⊎_elim (old.within q) (λ m. ((row_is q).0 m).1) ((more_is q).0 h);
        from = λ q h. ⊎_elim {C = (f : ℕ) × Has t f × R f q} (λ m. let f = old.from q m in (f.0, (t_is f.0).1 (inl f.1), f.2)) (λ m. (p, own, ((row_is q).0 m).0)) ((more_is q).0 h);
        all = λ f q hf hq r. (more_is q).1 (⊎_elim {C = Has ahead q ⊎ Has row q} (λ m. inl (old.all f q m hq r)) (λ m. inr ((row_is q).1 (subst (λ x. R x q) ((one_is f).0 m) r, hq))) ((t_is f).0 hf));
      }

-- a set of which each part is reached from one part and reaches it is strong
pub strong_by_trees : (R : ℕ → ℕ → Type 0) (w : PartSet) (root : ℕ) → ((q : ℕ) → Has w q → Walks R w root q) → ((q : ℕ) → Has w q → Walks (Back R) w root q) → IsStrong R w
strong_by_trees R w root outs ins a b ha hb = joined (turned_back (ins a ha)) (outs b hb)

-- in a graph with the same arcs a set grows alike
module _ (R S : ℕ → ℕ → Type 0) (there : (a b : ℕ) → R a b → S a b) (back : (a b : ℕ) → S a b → R a b) (w : PartSet) where
  bridge_carried : (s : PartSet) (f t : ℕ) → IsBridge R w s f t → IsBridge S w s f t
  bridge_carried s f t b = record { from_in = b.from_in; to_in = b.to_in; to_new = b.to_new; arc = there f t b.arc }

  bridge_back : (s : PartSet) (f t : ℕ) → IsBridge S w s f t → IsBridge R w s f t
  bridge_back s f t b = record { from_in = b.from_in; to_in = b.to_in; to_new = b.to_new; arc = back f t b.arc }

  pub grows_carried : (a b : PartSet) (xs : List (ℕ × ℕ)) → Grows R w a xs b → Grows S w a xs b
  grows_carried a b [] e = e
  grows_carried a b (x ∷ xs) g = (
    record {
      is = bridge_carried a x.0 x.1 g.0.is;
      least_to = λ f t h. g.0.least_to f t (bridge_back a f t h);
      least_from = λ f h. g.0.least_from f (bridge_back a f x.1 h);
    },
    grows_carried (set.insert a x.1) b xs g.1,
  )

  pub no_bridge_carried : (b : PartSet) → HasNoBridge R w b → HasNoBridge S w b
  no_bridge_carried b none f t h = none f t (bridge_back b f t h)
