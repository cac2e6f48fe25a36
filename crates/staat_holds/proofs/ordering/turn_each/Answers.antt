use Rattle.std.proofs.Common.{◌≡◌, ℕ, zero, suc, ◌<◌, List, [], ◌∷◌, ◌++◌, add-one, arith, ap, refl, sym, ◌∙◌, drop, get_or, length, map, take}
use Rattle.std.specs.Prelude.{slice_set}
use Rattle.staat_model.specs.declared.certificate.Arc.{Arc}
use Rattle.staat_holds.specs.Holds.{lesser_first}
use Rattle.staat_holds.proofs.ordering.turn_each.Goals as goal

-- the list of which the first n pairs are turned
abbrev partly : ℕ → List Arc → List Arc
partly n pairs = map lesser_first (take n pairs) ++ drop n pairs

abbrev no_pair : Arc
no_pair = record { a = 0; i = 0; b = 0; j = 0 }

one_more : (pairs : List Arc) (n : ℕ) → n < length pairs → slice_set (partly n pairs) n (lesser_first (get_or (partly n pairs) n no_pair)) ≡ partly (suc n) pairs
one_more [] n lt = absurd (omega arith)
one_more (x ∷ xs) zero lt = refl
one_more (x ∷ xs) (suc n) lt = ap (λ ys. lesser_first x ∷ ys) (one_more xs n (omega arith))

pub loop-pair-preserved : goal.loop-pair-preserved
loop-pair-preserved c =
    let pairs : List Arc = c.args.pairs.now in
    let n : ℕ = c.loop-pair.pair-index in
    let lt : n < length pairs = c.loop-pair-test.true in
    let is : c.loop-pair.pairs ≡ partly n pairs = c.loop-pair.invariant in
    ap (slice_set c.loop-pair.pairs n) c.lesser_first.ensures ∙ ap (λ ys. slice_set ys n (lesser_first (get_or ys n no_pair))) is
    ∙ one_more pairs n lt ∙ ap (λ k. partly k pairs) (sym (add-one n))
