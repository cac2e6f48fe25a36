-- Which vertices faces use.
use Rattle.std.specs.Prelude.{◌≡◌, ◌↔◌, ℕ, Bool, true, false, List, Any, Contains, slice_index_or}

-- the vertex is marked
abbrev pub IsMarked : List Bool → ℕ → Type 0
IsMarked marks vertex = slice_index_or marks vertex false ≡ true

-- the marked vertices are the corners of the faces
abbrev pub MarksCorners : List (List ℕ) → List Bool → Type 0
MarksCorners faces marks = (vertex : ℕ) → IsMarked marks vertex ↔ Any (λ face. Contains face vertex) faces
