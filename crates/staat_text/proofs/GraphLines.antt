-- The lines of a graph, one more at a time.
use Rattle.std.proofs.Common.{◌≡◌, ◌∙◌, ℕ, ◌+◌, ◌<◌, Bool, true, false, List, [], ◌∷◌, ◌++◌, refl, sym, ap, arith, append-nil, append_assoc, cond, get_or, length, take}
use Rattle.std.specs.Prelude.{map, filter, flat_map}
use Rattle.std.specs.List.{range_with_len}
use Rattle.std.proofs.lemmas.Bool.{eq-eqb, eqb-true, false≢true}
use Rattle.staat_vec.proofs.Truth.{same_truth}
use Rattle.std.proofs.lemmas.Grind.{flat_map-append}
use Rattle.std.proofs.lemmas.List.{flat_map_more, map-append, map-id, take_more}
use Rattle.std.proofs.lemmas.List.Elements.{filter-append}
use Rattle.std.proofs.lemmas.List.FromFn.{map-range_with_len_more}
use Rattle.staat_graph.specs.Graphs.{HasArc}
use Rattle.staat_text.specs.GraphTexts.{arcs_from, has_arc}

-- the text of one item more
pub text_more : {X : Type 0} (text_of : X → List ℕ) (xs : List X) (i : ℕ) (d : X) (old text new : List ℕ) → i < length xs
    → text ≡ old ++ flat_map text_of (take i xs) → new ≡ text ++ text_of (get_or xs i d)
    → new ≡ old ++ flat_map text_of (take (i + 1) xs)
text_more text_of xs i d old text new lt so_far is =
    is ∙ ap (λ t. t ++ text_of (get_or xs i d)) so_far ∙ flat_map_more text_of old (take i xs) (get_or xs i d)
    ∙ ap (λ l. old ++ flat_map text_of l) (sym (take_more xs i d lt))

-- ---- arcs

one_more : (n : ℕ) → range_with_len 0 (n + 1) ≡ range_with_len 0 n ++ n ∷ []
one_more n = sym (map-id (range_with_len 0 (n + 1))) ∙ map-range_with_len_more (λ x. x) 0 n n (omega arith) ∙ ap (λ l. l ++ n ∷ []) (map-id (range_with_len 0 n))

arc_is : (rows : List ℕ) (a b : ℕ) → HasArc rows a b → has_arc rows a b ≡ true
arc_is rows a b h = eq-eqb _ 1 h

arc_is_not : (rows : List ℕ) (a b : ℕ) → (HasArc rows a b → ⊥) → has_arc rows a b ≡ false
arc_is_not rows a b h = same_truth (has_arc rows a b) false (λ e. absurd (h (eqb-true _ 1 e))) (λ e. absurd (false≢true e))

abbrev arc_to : ℕ → ℕ → ℕ × ℕ
arc_to a b = (a, b)

-- the arcs from a to the parts before b + 1
arcs_more : (rows : List ℕ) (a b : ℕ) (t : Bool) → has_arc rows a b ≡ t → arcs_from rows (b + 1) a ≡ arcs_from rows b a ++ cond t ((a, b) ∷ []) []
arcs_more rows a b t e =
    ap (λ l. map (arc_to a) (filter (has_arc rows a) l)) (one_more b)
    ∙ ap (map (arc_to a)) (filter-append (has_arc rows a) (range_with_len 0 b) (b ∷ []))
    ∙ map-append (arc_to a) (filter (has_arc rows a) (range_with_len 0 b)) (filter (has_arc rows a) (b ∷ []))
    ∙ ap (λ l. arcs_from rows b a ++ l) (ap (λ u. map (arc_to a) (cond u (b ∷ []) [])) e ∙ either t)
  where
    either : (u : Bool) → map (arc_to a) (cond u (b ∷ []) []) ≡ cond u ((a, b) ∷ []) []
    either true = refl
    either false = refl

module _ (line_of : ℕ × ℕ → List ℕ) (rows : List ℕ) (a b : ℕ) (old text new : List ℕ) (so_far : text ≡ old ++ flat_map line_of (arcs_from rows b a)) where
  pub arc_written : HasArc rows a b → new ≡ text ++ line_of (a, b) → new ≡ old ++ flat_map line_of (arcs_from rows (b + 1) a)
  arc_written arc is =
      is ∙ ap (λ t. t ++ line_of (a, b)) so_far ∙ flat_map_more line_of old (arcs_from rows b a) (a, b)
      ∙ ap (λ arcs. old ++ flat_map line_of arcs) (sym (arcs_more rows a b true (arc_is rows a b arc)))

  pub arc_absent : (HasArc rows a b → ⊥) → new ≡ text → new ≡ old ++ flat_map line_of (arcs_from rows (b + 1) a)
  arc_absent none is =
      is ∙ so_far ∙ ap (λ arcs. old ++ flat_map line_of arcs) (sym (arcs_more rows a b false (arc_is_not rows a b none) ∙ append-nil (arcs_from rows b a)))

-- the arcs from the parts before a + 1
pub row_written : (line_of : ℕ × ℕ → List ℕ) (rows : List ℕ) (a parts : ℕ) (old text new : List ℕ) → text ≡ old ++ flat_map line_of (flat_map (arcs_from rows parts) (range_with_len 0 a))
    → new ≡ text ++ flat_map line_of (arcs_from rows parts a) → new ≡ old ++ flat_map line_of (flat_map (arcs_from rows parts) (range_with_len 0 (a + 1)))
row_written line_of rows a parts old text new so_far is =
    let before : List (ℕ × ℕ) = flat_map (arcs_from rows parts) (range_with_len 0 a) in
    let own : List (ℕ × ℕ) = arcs_from rows parts a in
    is ∙ ap (λ t. t ++ flat_map line_of own) so_far ∙ append_assoc old (flat_map line_of before) (flat_map line_of own)
    ∙ ap (λ l. old ++ l) (sym (flat_map-append line_of before own)
    ∙ ap (flat_map line_of) (flat_map_more (arcs_from rows parts) [] (range_with_len 0 a) a ∙ ap (flat_map (arcs_from rows parts)) (sym (one_more a))))
