use Rattle.std.proofs.Common.{◌≡◌, ℕ, zero, suc, ◌<◌, List, [], ◌∷◌, ◌++◌, add-one, arith, ap, refl, sym, ◌∙◌, drop, get_or, length, map, take}
use Rattle.std.specs.Prelude.{slice_set}
use Rattle.staat_model.specs.Bridges.{swapped}
use Rattle.staat_graph.proofs.trees.exchange_ends.Goals as goal

-- the list of which the first n arcs are exchanged
abbrev partly : ℕ → List (ℕ × ℕ) → List (ℕ × ℕ)
partly n arcs = map swapped (take n arcs) ++ drop n arcs

one_more : (arcs : List (ℕ × ℕ)) (n : ℕ) → n < length arcs → slice_set (partly n arcs) n (swapped (get_or (partly n arcs) n (0, 0))) ≡ partly (suc n) arcs
one_more [] n lt = absurd (omega arith)
one_more (x ∷ xs) zero lt = refl
one_more (x ∷ xs) (suc n) lt = ap (λ ys. swapped x ∷ ys) (one_more xs n (omega arith))

pub loop-arc-preserved : goal.loop-arc-preserved
loop-arc-preserved c =
    let arcs : List (ℕ × ℕ) = c.args.arcs.now in
    let n : ℕ = c.loop-arc.arc-index in
    let lt : n < length arcs = omega arith in
    let is : c.loop-arc.arcs ≡ partly n arcs = c.loop-arc.invariant in
    ap (λ ys. slice_set ys n (swapped (get_or ys n (0, 0)))) is ∙ one_more arcs n lt ∙ ap (λ k. partly k arcs) (sym (add-one n))
