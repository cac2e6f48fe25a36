-- The steps of the loops that make the command: a fold over what a map gives.
use Rattle.std.proofs.Common.{◌≡◌, ◌+◌, ◌<◌, ◌∙◌, ℕ, List, [], ◌∷◌, ap, fold, get_or, length, map, refl, sym, take}
use Rattle.std.proofs.lemmas.List.Sums.{fold_more}

pub fold-map : {X Y Z : Type 0} (step : Z → Y → Z) (f : X → Y) (a : Z) (xs : List X) → fold step a (map f xs) ≡ fold (λ z x. step z (f x)) a xs
fold-map step f a [] = refl
fold-map step f a (x ∷ xs) = fold-map step f (step a (f x)) xs

pub fold-map_more : {X Y Z : Type 0} (step : Z → Y → Z) (f : X → Y) (a : Z) (xs : List X) (i : ℕ) (d : X) → i < length xs
    → fold step a (map f (take (i + 1) xs)) ≡ step (fold step a (map f (take i xs))) (f (get_or xs i d))
fold-map_more step f a xs i d lt =
    fold-map step f a (take (i + 1) xs) ∙ fold_more (λ z x. step z (f x)) a xs i d lt
    ∙ ap (λ z. step z (f (get_or xs i d))) (sym (fold-map step f a (take i xs)))

pub fold-map_step : {X Y Z : Type 0} (step : Z → Y → Z) (f : X → Y) (a : Z) (xs : List X) (i : ℕ) (d : X) (so_far next : Z) → i < length xs
    → so_far ≡ fold step a (map f (take i xs)) → next ≡ step so_far (f (get_or xs i d))
    → next ≡ fold step a (map f (take (i + 1) xs))
fold-map_step step f a xs i d so_far next lt was is =
    is ∙ ap (λ z. step z (f (get_or xs i d))) was ∙ sym (fold-map_more step f a xs i d lt)
