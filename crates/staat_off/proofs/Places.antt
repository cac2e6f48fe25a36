-- Places of a file and what is left of it from there on.
use Rattle.std.proofs.Common.{◌≡◌, ◌<◌, ◌≤◌, ℕ, zero, suc, List, [], ◌∷◌, length, drop, Some, None, refl, arith}
use Rattle.std.specs.Prelude.{slice_get}

-- the byte at a place is the first that is left from there on
pub byte_at : (file : List ℕ) (p b : ℕ) (bs : List ℕ) → drop p file ≡ b ∷ bs → (slice_get file p ≡ Some b) × (drop (suc p) file ≡ bs) × (p < length file)
byte_at [] zero b bs h = cc
byte_at [] (suc p) b bs h = cc
byte_at (x ∷ xs) zero b bs h = (cc, cc, omega arith)
byte_at (x ∷ xs) (suc p) b bs h =
    let there = byte_at xs p b bs h in
    (there.0, there.1, omega (arith, there.2))

-- where nothing is left, no byte stands at the place or behind it
pub no_byte : (file : List ℕ) (p : ℕ) → drop p file ≡ [] → (i : ℕ) → p ≤ i → slice_get file i ≡ None
no_byte [] p h i le = refl
no_byte (x ∷ xs) zero h i le = cc
no_byte (x ∷ xs) (suc p) h zero le = absurd (omega arith)
no_byte (x ∷ xs) (suc p) h (suc i) le = no_byte xs p h i (omega arith)

pub nothing_left : (file : List ℕ) (p : ℕ) → drop p file ≡ [] → length file ≤ p
nothing_left [] p h = omega arith
nothing_left (x ∷ xs) zero h = cc
nothing_left (x ∷ xs) (suc p) h = omega (arith, nothing_left xs p h)
