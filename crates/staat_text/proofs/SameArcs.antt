-- Graphs with the same arcs among the parts have the same text.
use Rattle.std.proofs.Common.{◌≡◌, ◌∙◌, ◌↔◌, refl, sym, ap, ap₂, arith, ℕ, zero, suc, ◌+◌, ◌<◌, Bool, List, ◌∷◌, ◌++◌, map, cond}
use Rattle.std.specs.Prelude.{◌==◌, filter, flat_map}
use Rattle.std.specs.List.{range_with_len}
use Rattle.std.proofs.lemmas.Bool.{eq-eqb, eqb-true}
use Rattle.std.proofs.lemmas.List.Concat.{flat_map-cons}
use Rattle.staat_vec.specs.declared.vector.V3.{V3}
use Rattle.staat_vec.proofs.Truth.{same_truth}
use Rattle.staat_model.specs.declared.set.PartSet.{PartSet}
use Rattle.staat_model.specs.Sets.{Has, below}
use Rattle.staat_model.proofs.SetBits.{has-below}
use Rattle.staat_graph.specs.Graphs.{AreGroups, HasArc, IsGroup, Walks, here, along}
use Rattle.staat_text.specs.GraphTexts.{IsGraphText, arcs_from, arcs_of, graph_text, has_arc}
use Rattle.staat_text.proofs.OneGraphText.{one_text}

-- ---- walks and groups

start_in : {R : ℕ → ℕ → Type 0} {w : PartSet} {a b : ℕ} → Walks R w a b → Has w a
start_in (here h) = h
start_in (along b h arc rest) = h

module _ (R S : ℕ → ℕ → Type 0) (w : PartSet) (to : (a b : ℕ) → Has w a → Has w b → R a b → S a b) where
  walk_over : {a b : ℕ} → Walks R w a b → Walks S w a b
  walk_over (here h) = here h
  walk_over {a} (along b h arc rest) = along b h (to a b h (start_in rest) arc) (walk_over rest)

group_over : (R S : ℕ → ℕ → Type 0) (w s : PartSet) → ((a b : ℕ) → Has w a → Has w b → R a b → S a b) → ((a b : ℕ) → Has w a → Has w b → S a b → R a b) → IsGroup R w s → IsGroup S w s
group_over R S w s to from group = record {
  nonempty = group.nonempty;
  within = group.within;
  linked = λ a b a_in b_in. walk_over R S w to (group.linked a b a_in b_in);
  whole = λ a b a_in both. group.whole a b a_in (walk_over S R w from both.0, walk_over S R w from both.1);
}

groups_over : (R S : ℕ → ℕ → Type 0) (w : PartSet) (groups : List PartSet) → ((a b : ℕ) → Has w a → Has w b → R a b → S a b) → ((a b : ℕ) → Has w a → Has w b → S a b → R a b) → AreGroups R w groups → AreGroups S w groups
groups_over R S w groups to from are = record {
  each = λ s listed. group_over R S w s to from (are.each s listed);
  all = λ s group. are.all s (group_over S R w s from to group);
  in_order = are.in_order;
}

-- ---- lists of arcs

-- what holds of the numbers from a to before n
range_filter : (p q : ℕ → Bool) (a n : ℕ) → ((b : ℕ) → b < a + n → p b ≡ q b) → filter p (range_with_len a n) ≡ filter q (range_with_len a n)
range_filter p q a zero same = refl
range_filter p q a (suc n) same =
    ap₂ (λ (t : Bool) xs. cond t (a ∷ xs) xs) (same a (omega arith)) (range_filter p q (a + 1) n (λ b lt. same b (omega (arith, lt))))

range_flat : {X : Type 0} (f g : ℕ → List X) (a n : ℕ) → ((b : ℕ) → b < a + n → f b ≡ g b) → flat_map f (range_with_len a n) ≡ flat_map g (range_with_len a n)
range_flat f g a zero same = refl
range_flat f g a (suc n) same =
    flat_map-cons f a (range_with_len (a + 1) n) ∙ ap₂ (λ x y. x ++ y) (same a (omega arith)) (range_flat f g (a + 1) n (λ b lt. same b (omega (arith, lt)))) ∙ sym (flat_map-cons g a (range_with_len (a + 1) n))

same_bit : (x y : ℕ) → ((x ≡ 1) ↔ (y ≡ 1)) → (x == 1) ≡ (y == 1)
same_bit x y h = same_truth (x == 1) (y == 1) (λ e. eq-eqb y 1 (h.0 (eqb-true x 1 e))) (λ e. eq-eqb x 1 (h.1 (eqb-true y 1 e)))

pub same_arcs : (n : ℕ) (rows others : List ℕ) → ((a b : ℕ) → Has (below n) a → Has (below n) b → HasArc rows a b ↔ HasArc others a b) → arcs_of rows n ≡ arcs_of others n
same_arcs n rows others same =
    range_flat (arcs_from rows n) (arcs_from others n) 0 n
    (λ a a_lt. ap (map (λ b. (a, b))) (range_filter (has_arc rows a) (has_arc others a) 0 n (λ b b_lt. same_bit _ _ (same a b (inside a a_lt) (inside b b_lt)))))
  where
    inside : (a : ℕ) → a < 0 + n → Has (below n) a
    inside a lt = (has-below n a).1 (omega (arith, lt))

pub same_graph_text : (n : ℕ) (d : V3) (rows others text other : List ℕ) → ((a b : ℕ) → Has (below n) a → Has (below n) b → HasArc rows a b ↔ HasArc others a b) → IsGraphText n d rows text → IsGraphText n d others other → text ≡ other
same_graph_text n d rows others text other same t u = one_text n d others text other (record { groups = t.groups; are = groups; is = t.is ∙ ap (λ arcs. graph_text d arcs t.groups) (same_arcs n rows others same) }) u
  where
    groups : AreGroups (HasArc others) (below n) t.groups
    groups = groups_over (HasArc rows) (HasArc others) (below n) t.groups (λ a b a_in b_in. (same a b a_in b_in).0) (λ a b a_in b_in. (same a b a_in b_in).1) t.are
