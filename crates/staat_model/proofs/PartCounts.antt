-- No part has more pieces than all parts together.
use Rattle.std.proofs.Common.{ℕ, zero, suc, ◌≤◌, List, [], ◌∷◌, length, arith, None, Option, Some, refl, ◌≡◌, subst, sym, ◌<◌}
use Rattle.std.specs.List.{sum_by}
use Rattle.std.proofs.lemmas.List.Sums.{sum_by-cons}
use Rattle.staat_model.specs.declared.assembly.Part.{Part}
use Rattle.staat_model.specs.Assemblies.{piece_count, IsAssembly, IsPart}
use Rattle.std.specs.Prelude.{option_map, unwrap_or}
use Rattle.std.proofs.lemmas.List.Elements.{All-contains}
use Rattle.staat_vec.proofs.Unique.{from_place}
use Rattle.staat_model.proofs.Places.{some_at}

pub piece_count_small : (parts : List Part) (a : ℕ) → piece_count parts a ≤ sum_by (λ part. length part.pieces) parts
piece_count_small [] a = omega arith
piece_count_small (p ∷ ps) zero = omega (arith, sum_by-cons (λ (part : Part). length part.pieces) p ps)
piece_count_small (p ∷ ps) (suc a) = omega (arith, sum_by-cons (λ (part : Part). length part.pieces) p ps, piece_count_small ps a)

pub pieces_count : (o : Option Part) → unwrap_or (option_map (λ part. length part.pieces) o) 0 ≡ length (unwrap_or (option_map (λ part. part.pieces) o) [])
pieces_count None = refl
pieces_count (Some part) = refl

-- a part has a piece
pub piece_count_some : (parts : List Part) (a : ℕ) → IsAssembly parts → a < length parts → 1 ≤ piece_count parts a
piece_count_some parts a is lt =
    let (part, at) = some_at parts a lt in
    let whole : IsPart part = All-contains IsPart parts part is.each (from_place parts a part at) in
    subst (λ o. 1 ≤ unwrap_or (option_map (λ p. length p.pieces) o) 0) (sym at) whole.nonempty
