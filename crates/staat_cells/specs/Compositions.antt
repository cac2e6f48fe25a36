-- Cells as they are listed, and cells composed of the first two cells on their borders.
use Rattle.std.specs.Prelude.{◌≡◌, ℕ, zero, suc, ◌+◌, ◌<◌, Bool, true, ◌&&◌, not, nat_eq}
use Rattle.std.specs.Prelude.{if◌then◌else◌, List, [], ◌∷◌, ◌++◌, All, length, slice_index_or}
use Rattle.staat_vec.specs.declared.vector.Sign.{Sign}
use Rattle.staat_vec.specs.Vectors.{origin, plus}
use Rattle.staat_model.specs.declared.tree.Kind.{Kind}
use Rattle.staat_model.specs.declared.tree.Kind.TheVariants.{Open}
use Rattle.staat_model.specs.Cells.{CellEntry}
use Rattle.staat_cells.specs.declared.cell.Cell.{Cell}
use Rattle.staat_cells.specs.declared.incidence.Incidence.{Incidence}
use Rattle.staat_cells.specs.Beside.{then_sign}

-- a cell as it is listed
abbrev pub entry_of : Cell → CellEntry
entry_of c = record { kind = c.kind; d = c.d; signs = c.signs }

-- at each plane the first sign, or the second where the first is zero
abbrev pub composed : List Sign → List Sign → List Sign
composed [] t = []
composed (x ∷ s) [] = []
composed (x ∷ s) (y ∷ t) = then_sign x y ∷ composed s t

-- the cell between two cells on its border
abbrev pub composed_cell : Kind → CellEntry → CellEntry → CellEntry
composed_cell kind a b = record { kind = kind; d = plus a.d b.d; signs = composed a.signs b.signs }

abbrev pub no_incidence : Incidence
no_incidence = record { a = 0; b = 0; c = 0; d = 0; of = 0 }

abbrev pub no_cell : CellEntry
no_cell = record { kind = Open; d = origin; signs = [] }

-- the incidences have the same signs
abbrev pub same_words : Incidence → Incidence → Bool
same_words x y = nat_eq x.a y.a && (nat_eq x.b y.b && (nat_eq x.c y.c && nat_eq x.d y.d))

-- no incidence of the same cell stands just before
abbrev pub begins_cell : List Incidence → ℕ → Bool
begins_cell incidences zero = true
begins_cell incidences (suc i) =
    not (same_words (slice_index_or incidences i no_incidence) (slice_index_or incidences (suc i) no_incidence))

-- the cell of the incidence at place i and of the one behind it
abbrev pub composed_at : Kind → List CellEntry → List Incidence → ℕ → CellEntry
composed_at kind lower incidences i =
    composed_cell kind (slice_index_or lower (slice_index_or incidences i no_incidence).of no_cell)
    (slice_index_or lower (slice_index_or incidences (i + 1) no_incidence).of no_cell)

-- what is told of the first places at which a cell begins
unfoldable pub told_up_to : {X : Type 0} → (ℕ → X) → List Incidence → ℕ → List X
told_up_to of incidences zero = []
told_up_to of incidences (suc i) =
    told_up_to of incidences i ++ (if begins_cell incidences i then of i ∷ [] else [])

-- the cells of the first incidences
abbrev pub composed_up_to : Kind → List CellEntry → List Incidence → ℕ → List CellEntry
composed_up_to kind lower incidences = told_up_to (composed_at kind lower incidences) incidences

-- the incidences at which a cell begins, of the first ones
abbrev pub begun_up_to : List Incidence → ℕ → List Incidence
begun_up_to incidences = told_up_to (λ i. slice_index_or incidences i no_incidence) incidences

-- each incidence is of a listed cell, and where a cell begins another incidence of it follows
pub record HavePairs (incidences : List Incidence) (count : ℕ) : Type 0 where
  pub listed : All (λ x. x.of < count) incidences
  pub follow : (i : ℕ) → i < length incidences → begins_cell incidences i ≡ true → i + 1 < length incidences

-- all lists of signs have one length
abbrev pub HaveEqualLengths : List Cell → Type 0
HaveEqualLengths cells = (n : ℕ) × All (λ c. length c.signs ≡ n) cells
