-- Which parts block which along a direction.
use Rattle.std.specs.Prelude.{ℕ, ◌↔◌, List, Bool, IsTrue}
use Rattle.std.specs.List.{AllZip}
use Rattle.staat_vec.specs.declared.vector.V3.{V3}
use Rattle.staat_model.specs.declared.assembly.Part.{Part}
use Rattle.staat_model.specs.Removal.{Blocks}

-- for each part of w, in order, whether a blocks it along d
abbrev pub IsRow : List Part → V3 → List ℕ → ℕ → List Bool → Type 0
IsRow parts d w a row = AllZip (λ b answer. IsTrue answer ↔ Blocks parts d a b) w row

-- for each part of w, in order, which parts of w it blocks along d
abbrev pub AreBlockingRows : List Part → V3 → List ℕ → List (List Bool) → Type 0
AreBlockingRows parts d w rows = AllZip (IsRow parts d w) w rows
