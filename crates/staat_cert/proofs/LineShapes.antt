-- Numbers by their places, and how they are read from the machine's type.
use Rattle.std.proofs.Common.{◌≡◌, ℕ, ℤ, List, [], ◌∷◌, arith, get_or, length, of_z, pos, refl, to_z}
use Rattle.std.specs.Int.{w128}
use Rattle.staat_cert.specs.LineReading.{arc_alone, arc_from, vector_alone, vector_from}

-- the number at a place is read from the machine's type as it is
abbrev pub Reads : List ℤ → ℕ → Type 0
Reads zs k = to_z w128 (of_z w128 (get_or zs k (pos 0))) ≡ get_or zs k (pos 0)

pub vector_by_places : (most : ℕ) (zs : List ℤ) → length zs ≡ 3 → vector_from most (get_or zs 0 (pos 0)) (get_or zs 1 (pos 0)) (get_or zs 2 (pos 0)) ≡ vector_alone most zs
unfolding vector_alone
vector_by_places most (x ∷ y ∷ z ∷ []) e = refl
vector_by_places most zs e = absurd (omega arith)

pub arc_by_places : (parts pieces : ℕ) (zs : List ℤ) → length zs ≡ 4 → arc_from parts pieces (get_or zs 0 (pos 0)) (get_or zs 1 (pos 0)) (get_or zs 2 (pos 0)) (get_or zs 3 (pos 0)) ≡ arc_alone parts pieces zs
unfolding arc_alone
arc_by_places parts pieces (a ∷ i ∷ b ∷ j ∷ []) e = refl
arc_by_places parts pieces zs e = absurd (omega arith)
