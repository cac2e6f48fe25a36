-- The first step along representatives of cells, list by list.
use Rattle.std.proofs.Common.{◌≡◌, ◌≢◌, inl, inr, ℕ, zero, suc, ◌<◌, ◌≤◌, false, true, if◌then◌else◌}
use Rattle.std.proofs.Common.{refl, sym, ap, subst, ◌∙◌, arith, List, [], ◌∷◌, ◌++◌, length}
use Rattle.std.proofs.{Common.{get_or, map, take, All}, lemmas.List.Elements.{All-append, All-head, All-nil, All-tail}}
use Rattle.std.specs.Prelude.{Option, Some}
use Rattle.std.specs.FinSet as set
use Rattle.staat_vec.specs.{Lists.IsFirst, Vectors.origin, declared.vector.V3.V3}
use Rattle.staat_vec.proofs.{ListLaws.{first_left, first_right}, Naturals.lt_suc_cases}
use Rattle.staat_model.specs.Cells.{AreCells, AreCellsOf, CellEntry, IsEntry, signs_of}
use Rattle.staat_model.specs.{Outcomes.{AreTries, HasNoStep, IsMovedSide, IsStep, Serves, try_cell}, Planes.ArePlanes}
use Rattle.staat_model.specs.{Plans.IsStuck, Sets.IsSubset, declared.assembly.Part.Part, declared.set.PartSet.PartSet}
use Rattle.staat_model.specs.{declared.tree.Kind.Kind, declared.tree.Kind.TheVariants.Open}
use Rattle.staat_model.proofs.{Members.{all_back, all_front}, OneTable.AreCellsOf-unique}
use Rattle.staat_pairs.specs.Tables.{AreTablePlanes, Table, WasMadeFrom}
use Rattle.staat_cells.specs.{Compositions.{begins_cell, composed_at, entry_of, told_up_to}, FirstCell.first_entry}
use Rattle.staat_cells.specs.{Skeletons.{IsComposedAt, IsSkeleton, opens_at, opens_before}, declared.cell.Cell.Cell}
use Rattle.staat_cells.specs.declared.skeleton.Skeleton.{Skeleton}
use Rattle.staat_cells.proofs.{LeastCell.first_listed, SomeCells.some_cells, TableRules.holds_axes}
use Rattle.staat_cells.proofs.WholeLists.{representative_in}
use Rattle.staat_plan.specs.{CellSteps.IsTableCell, Planning.{IsFirstOf, IsFoundAmong, IsStepOf}}
use Rattle.staat_plan.specs.declared.marked.Marked.{Marked}
use Rattle.staat_plan.proofs.{Fewer.{few_inside, few_of_table}, OutcomeSizes.table_planes}
use Rattle.staat_plan.proofs.{StepLemmas.{first_mapped, some_then, step_found}, Tries.{tries_decide_lemma, zero_alone}}

-- ---- cells of a table

-- the representative of a cell is not zero
pub cell_some : (planes : List V3) → AreTablePlanes planes → (kind : Kind) (c : CellEntry) → IsEntry planes kind c
    → c.d ≢ origin
cell_some planes are kind c e same =
    let cell = e.cell in
    cell.nonzero (zero_alone planes (holds_axes planes are) cell.d
    (ap (signs_of planes) (sym same) ∙ representative_in planes are kind c e ∙ sym cell.is))

-- a cell that is listed holds its representative
pub cell_in : (t : Table) → AreTablePlanes t.planes → (kind : Kind) (c : CellEntry) → IsEntry t.planes kind c
    → IsTableCell t c
cell_in t are kind c e = record {
  signs = representative_in t.planes are kind c e;
  some = cell_some t.planes are kind c e;
}

pub cells_in : (t : Table) → AreTablePlanes t.planes → (kind : Kind) (cells : List CellEntry)
    → AreCellsOf t.planes kind cells → All (IsTableCell t) cells
cells_in t are kind cells of k d lt = cell_in t are kind (get_or cells k d) (of.each k d lt)

-- ---- a list, cell by cell

first_at : {X : Type 0} (P : X → Type 0) (xs : List X) (k : ℕ) (x : X) → k < length xs → x ≡ get_or xs k x
    → All (λ y. P y → ⊥) (take k xs) → P x → IsFirst P xs x
first_at P [] k x lt is none p = absurd (omega (arith, lt))
first_at P (y ∷ ys) zero x lt is none p = inl (is, subst P is p)
first_at P (y ∷ ys) (suc k) x lt is none p = inr (
  All-head (λ y. P y → ⊥) y (take k ys) none,
  first_at P ys k x (omega (arith, lt)) is (All-tail (λ y. P y → ⊥) y (take k ys) none) p,
)

pub first_cell_at : (parts : List Part) (w : PartSet) (cells : List Cell) (k : ℕ) (c : Cell) (m : Marked)
    → k < length cells → c ≡ get_or cells k c → All (λ (x : Cell). Serves parts w x.d → ⊥) (take k cells)
    → IsFirstOf try_cell parts w (entry_of c ∷ []) m → IsFirstOf try_cell parts w (map entry_of cells) m
first_cell_at parts w cells k c m lt at none is = elim is.first [
  | inl here ↦ record {
    at = entry_of c;
    first = first_mapped entry_of (λ (x : CellEntry). Serves parts w x.d) cells c
        (first_at (λ (x : Cell). Serves parts w x.d) cells k c lt at none here.1);
    is = is.is ∙ ap try_cell here.0;
    moved = subst (λ (x : CellEntry). IsMovedSide parts w x.d m.step.moved) here.0 is.moved;
  }
  | inr none ↦ absurd none.1
]

-- ---- open cells, place by place

module _ (s : Skeleton) (P : CellEntry → Type 0) where
  pub at_all_places : (n : ℕ) → ((j : ℕ) → j < n → All P (opens_at s j)) → All P (opens_before s n)
  unfolding told_up_to
  at_all_places zero each = All-nil P
  at_all_places (suc n) each = All-append P (opens_before s n) (opens_at s n)
      (at_all_places n (λ j lt. each j (omega (arith, lt)))) (each n (omega arith))

  pub at_place : (n i : ℕ) → i < n → All P (opens_before s n) → All P (opens_at s i)
  unfolding told_up_to
  at_place zero i lt all = absurd (omega (arith, lt))
  at_place (suc n) i lt all = elim (lt_suc_cases i n lt) [
    | inl before ↦ at_place n i before (all_front P (opens_before s n) (opens_at s n) all)
    | inr here ↦ subst (λ k. All P (opens_at s k)) (sym here) (all_back P (opens_before s n) (opens_at s n) all)
  ]

first_at_place : (s : Skeleton) (P : CellEntry → Type 0) (n i : ℕ) (c : CellEntry) → i < n
    → ((j : ℕ) → j < i → All (λ x. P x → ⊥) (opens_at s j)) → IsFirst P (opens_at s i) c
    → IsFirst P (opens_before s n) c
unfolding told_up_to
first_at_place s P zero i c lt none first = absurd (omega (arith, lt))
first_at_place s P (suc n) i c lt none first = elim (lt_suc_cases i n lt) [
  | inl before ↦ first_left P (opens_before s n) (opens_at s n) c (first_at_place s P n i c before none first)
  | inr here ↦ first_right P (opens_before s n) (opens_at s n) c
      (at_all_places s (λ x. P x → ⊥) n (λ j less. none j (omega (arith, less, here))))
      (subst (λ k. IsFirst P (opens_at s k) c) here first)
]

pub first_open_at : (parts : List Part) (w : PartSet) (s : Skeleton) (n i : ℕ) (m : Marked) → i < n
    → ((j : ℕ) → j < i → All (λ (c : CellEntry). Serves parts w c.d → ⊥) (opens_at s j))
    → IsFirstOf try_cell parts w (opens_at s i) m → IsFirstOf try_cell parts w (opens_before s n) m
first_open_at parts w s n i m lt none is = record {
  at = is.at;
  first = first_at_place s (λ (c : CellEntry). Serves parts w c.d) n i is.at lt none is.first;
  is = is.is;
  moved = is.moved;
}

-- the open cell at a place, if one begins there
pub no_open : (s : Skeleton) (i : ℕ) → begins_cell s.incidences.items i ≡ false → opens_at s i ≡ []
no_open s i e = ap (λ j. if j then composed_at Open (map entry_of s.edges.items) s.incidences.items i ∷ [] else []) e

pub one_open : (s : Skeleton) (i : ℕ) (c : Cell)
    → IsComposedAt Open (map entry_of s.edges.items) s.incidences.items i c
    → opens_at s i ≡ entry_of c ∷ []
one_open s i c at = (λ j. if at.begins j then composed_at Open
    (map entry_of s.edges.items) s.incidences.items i ∷ [] else []) ∙ ap (λ x. x ∷ []) (sym at.is)

pub open_in : (t : Table) (s : Skeleton) (i : ℕ) (c : Cell) → AreTablePlanes t.planes → IsSkeleton t.planes s
    → i < length s.incidences.items
    → IsComposedAt Open (map entry_of s.edges.items) s.incidences.items i c → IsTableCell t (entry_of c)
open_in t s i c are whole lt at =
    let P = IsEntry t.planes Open in
    cell_in t are Open (entry_of c) (All-head P (entry_of c) []
    (subst (All P) (one_open s i c at) (at_place s P (length s.incidences.items) i lt whole.opens.each)))

-- ---- all cells

module _ (parts : List Part) (w : PartSet) (planes : List V3) (are : ArePlanes parts w planes)
    (cells : List CellEntry) (all : AreCells planes cells) where
  abbrev pub listed : List CellEntry
  listed = all.opens ++ all.edges ++ all.points

  pub cell_tries : AreTries true parts w (map try_cell listed)
  cell_tries = record {
    planes = planes;
    planes_are = are;
    opens = all.opens;
    edges = all.edges;
    points = all.points;
    opens_are = all.opens_are;
    edges_are = all.edges_are;
    points_are = all.points_are;
    is = refl;
  }

  pub cell_step_is : (found : Option Marked) → IsFoundAmong try_cell parts w listed found
      → IsStepOf true parts w found
  cell_step_is found is = step_found try_cell parts w true listed found cell_tries is

  -- the step into the first open cell is the first of all
  pub first_step_is : AreTablePlanes planes → (d : V3) (side : PartSet) → IsEntry planes Open (first_entry planes d)
      → Serves parts w d → IsMovedSide parts w d side → IsStep true parts w (try_cell (first_entry planes d)) side
  first_step_is rules d side entry serves moved =
      let (rest, opens_are) = first_listed planes rules d entry all.opens all.opens_are in
      let front : IsFirstOf try_cell parts w (first_entry planes d ∷ rest)
      (record { step = record { moved = side; d = d }; mark = Some Open }) =
      record { at = first_entry planes d; first = inl (refl, serves); is = refl; moved = moved } in
      let m : Marked = record { step = record { moved = side; d = d }; mark = Some Open } in
      cell_step_is (Some m) (some_then try_cell parts w (all.opens ++ all.edges) all.points m
      (some_then try_cell parts w all.opens all.edges m (subst (λ l. IsFirstOf try_cell parts w l m)
      (AreCellsOf-unique planes Open (first_entry planes d ∷ rest) all.opens opens_are all.opens_are) front)))

pub skeleton_step : (parts : List Part) (t : Table) (s : Skeleton) → WasMadeFrom parts t → IsSkeleton t.planes s
    → (found : Option Marked) → IsFoundAmong try_cell parts t.of
    (opens_before s (length s.incidences.items) ++ map entry_of s.edges.items ++ map entry_of s.points.items) found
    → IsStepOf true parts t.of found
skeleton_step parts t s made whole found =
    let opens = opens_before s (length s.incidences.items) in
    let edges = map entry_of s.edges.items in
    let points = map entry_of s.points.items in
    cell_step_is parts t.of t.planes made.planes (points ++ edges ++ opens) (record {
      points = points;
      edges = edges;
      opens = opens;
      points_are = whole.points;
      edges_are = whole.edges;
      opens_are = whole.opens;
      is = refl;
    }) found

-- a set that is stuck has no step in a robust plan
pub stuck_step : (parts : List Part) (t : Table) (w : PartSet) → WasMadeFrom parts t → IsSubset w t.of
    → length t.planes ≤ 256 → 2 ≤ set.len w → IsStuck parts w → HasNoStep true parts w
stuck_step parts t w made within most two stuck =
    let few = few_inside parts w t.of 256 256 (omega arith) within (few_of_table parts t 256 made most) in
    let are = few.planes_are in
    let (cells, all) = some_cells few.planes (table_planes parts made.assembly w few.planes are) few.few in
    let tries = cell_tries parts w few.planes are cells all in
    let list = map try_cell (listed parts w few.planes are cells all) in
    record {
      tries = list;
      tries_are = tries;
      none = (tries_decide_lemma true parts w list made.assembly two tries).0 stuck;
    }
