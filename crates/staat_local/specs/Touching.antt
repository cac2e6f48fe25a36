-- Which pieces touch: how far points lie along a vector, and marks for pairs of pieces.
use Rattle.std.specs.Prelude.{◌≡◌, ◌⊎◌, ◌↔◌, ℕ, ◌<◌, ℤ, ◌≤ℤ◌, Bool, false, List, All, Any, IsTrue}
use Rattle.std.specs.Prelude.{slice_index_or}
use Rattle.staat_vec.specs.declared.vector.V3.{V3}
use Rattle.staat_vec.specs.Vectors.{dot}
use Rattle.staat_model.specs.declared.assembly.Part.{Part}
use Rattle.staat_model.specs.declared.certificate.Arc.{Arc}
use Rattle.staat_model.specs.Assemblies.{HoldsAt}
use Rattle.staat_pairs.specs.Tables.{IsTableArc, Table, back, slot}
use Rattle.staat_local.specs.Contacts.{Contact}

-- the farthest of the points along n lies so far
pub record IsFarthest (n : V3) (points : List V3) (far : ℤ) : Type 0 where
  pub at : Any (λ p. dot p n ≡ far) points
  pub most : All (λ p. dot p n ≤ℤ far) points

-- ---- pairs of pieces that touch

-- the pair of pieces with this slot is marked
abbrev pub IsPairMarked : List Bool → ℕ → Type 0
IsPairMarked marks slot = IsTrue (slice_index_or marks slot false)

-- of the arcs of the table that R has, this way round or the other, those whose pieces touch are marked too
abbrev pub MarksTouching : List Part → Table → (Arc → Type 0) → List Bool → List Bool → Type 0
MarksTouching parts t R old new =
    (arc : Arc) → IsTableArc t arc → IsPairMarked new (slot t.pieces arc)
    ↔ (IsPairMarked old (slot t.pieces arc) ⊎ ((R arc ⊎ R (back arc)) × HoldsAt parts arc Contact))

-- those whose pieces touch are marked
abbrev pub AreMarks : List Part → Table → List Bool → Type 0
AreMarks parts t marks =
    (arc : Arc) → IsTableArc t arc → IsPairMarked marks (slot t.pieces arc) ↔ HoldsAt parts arc Contact

-- the arcs from piece i of the part a to one of the first n pieces of the part b
pub record IsFromPiece (a i b n : ℕ) (arc : Arc) : Type 0 where
  pub first : arc.a ≡ a
  pub piece : arc.i ≡ i
  pub second : arc.b ≡ b
  pub below : arc.j < n

-- the arcs from one of the first n pieces of the part a to a piece of the part b
pub record LinksParts (a b n : ℕ) (arc : Arc) : Type 0 where
  pub first : arc.a ≡ a
  pub second : arc.b ≡ b
  pub below : arc.i < n

-- the arcs from the part a to a greater one below n
pub record IsToGreater (a n : ℕ) (arc : Arc) : Type 0 where
  pub first : arc.a ≡ a
  pub order : arc.a < arc.b
  pub below : arc.b < n

-- the arcs from one of the parts below n to a greater one
pub record IsUpward (n : ℕ) (arc : Arc) : Type 0 where
  pub order : arc.a < arc.b
  pub below : arc.a < n
