-- Loops that list incidences cell by cell, and those of a vertex plane by plane.
use Rattle.std.proofs.Common.{◌≡◌, ◌⊎◌, ◌↔◌, inl, inr, ℕ, ◌<◌, sym, ap, subst, ◌∙◌, arith, List, length, get_or, map}
use Rattle.std.proofs.Common.{◌≤◌, ⊎_elim, refl, [], ◌∷◌, ◌++◌, Contains}
use Rattle.std.proofs.lemmas.List.{get_or-map, length-map}
use Rattle.staat_vec.specs.declared.vector.V3.{V3}
use Rattle.staat_vec.specs.declared.vector.Sign.TheVariants.{Neg, Pos, Zero}
use Rattle.staat_model.specs.declared.tree.Kind.TheVariants.{Edge}
use Rattle.staat_model.specs.Cells.{signs_of, CellEntry, IsBorder}
use Rattle.staat_cells.specs.declared.cell.Cell.{Cell}
use Rattle.staat_cells.specs.declared.incidence.Incidence.{Incidence}
use Rattle.staat_cells.specs.Compositions.{entry_of, no_cell, no_incidence, composed}
use Rattle.staat_cells.specs.Packing.{incidence_cmp, incidence_of}
use Rattle.staat_cells.specs.Beside.{filled, beside}
use Rattle.staat_cells.specs.Stages.{cell_at, words_of, HaveSigns, IsEdgeIncidence}
use Rattle.staat_cells.specs.Stages.{IsOwnIncidence, IsIncidence, GrewByAll, IsBesideIncidence}
use Rattle.staat_cells.proofs.Growing.{Below, grown_both, grown_first, grown_same, none_below, through}
use Rattle.staat_planes.proofs.Gaining.{adds_nothing}
use Rattle.staat_vec.specs.Lists.{Lists}
use Rattle.std.proofs.lemmas.List.Elements.{Contains-append_left, Contains-push, Contains-push_cases}
use Rattle.staat_vec.specs.declared.vector.Sign.{Sign}
use Rattle.staat_vec.specs.Vectors.{cross, dot, negative, sign}
use Rattle.staat_vec.proofs.Unique.{Contains-front, Contains-nothing}
use Rattle.staat_cells.proofs.MadeUpCells.{composed_map}
use Rattle.staat_vec.proofs.ListLaws.{only_one}
use Rattle.staat_vec.proofs.Signs.{zero_sign}

pub entry_is : (cells : List Cell) (k : ℕ) (a : Cell) → k < length cells → a ≡ get_or cells k a → cell_at (map entry_of cells) k ≡ entry_of a
entry_is cells k a lt e = get_or-map entry_of cells k a no_cell lt ∙ ap entry_of (sym e)

pub listed_is : (cells : List Cell) (k : ℕ) → k < length cells → k < length (map entry_of cells)
listed_is cells k lt = let e = length-map cells entry_of in omega (arith, e)

pub listed_was : (cells : List Cell) (k : ℕ) → k < length (map entry_of cells) → k < length cells
listed_was cells k lt = let e = length-map cells entry_of in omega (arith, e)

-- ---- what is listed of one cell

-- x is the incidence of the cell at place k, with its own signs
abbrev pub IsOwnAt : List CellEntry → Incidence → ℕ → Type 0
IsOwnAt cells x k = x ≡ incidence_of (cell_at cells k).signs k

-- one of the two of the edge at place k
abbrev pub IsFilledAt : List CellEntry → Incidence → ℕ → Type 0
IsFilledAt cells x k = (x ≡ incidence_of (filled Neg (cell_at cells k).signs) k)
    ⊎ (x ≡ incidence_of (filled Pos (cell_at cells k).signs) k)

-- towards an edge that ends at the point at place k
abbrev pub IsEdgeAt : List V3 → List CellEntry → Incidence → ℕ → Type 0
IsEdgeAt planes cells x k = IsEdgeIncidence planes (cell_at cells k).d k x

-- ---- and of all

module _ (cells : List CellEntry) (n : ℕ) (all : n ≡ length cells) (x : Incidence) where
  listed : (k : ℕ) → k < n → x.of ≡ k → x.of < length cells
  listed k lt of = omega (arith, lt, of, all)

  pub own_all : Below (IsOwnAt cells x) n ↔ IsOwnIncidence cells x
  own_all = (
    λ (k, lt, e). let of : x.of ≡ k = ap (λ (s : Incidence). s.of) e in
        record { listed = listed k lt of; is = subst (IsOwnAt cells x) (sym of) e },
    λ o. (x.of, subst (λ m. x.of < m) (sym all) o.listed, o.is),
  )

  module _ (planes : List V3) (at : (k : ℕ) → k < length cells → (cell_at cells k).signs ≡ signs_of planes (cell_at cells k).d) where
    pub edges_all : Below (IsEdgeAt planes cells x) n ↔ IsIncidence planes Edge cells x
    edges_all = (λ (k, lt, e). from k lt e, to)
      where
        from : (k : ℕ) → k < n → IsEdgeAt planes cells x k → IsIncidence planes Edge cells x
        from k lt e =
            let of : x.of ≡ k = ap (λ (s : Incidence). s.of) e.is in
            let border = subst (λ s. IsBorder s e.signs) (sym (at k (subst (λ m. k < m) all lt))) e.border in
            record {
              signs = e.signs;
              under = record {
                cell = e.cell;
                by_count = e.edge;
                listed = listed k lt of;
                border = subst (λ m. IsBorder (cell_at cells m).signs e.signs) (sym of) border;
              };
              is = e.is ∙ ap (incidence_of e.signs) (sym of);
            }

        to : IsIncidence planes Edge cells x → Below (IsEdgeAt planes cells x) n
        to s =
            let u = s.under in (
              x.of,
              subst (λ m. x.of < m) (sym all) u.listed,
              record {
                signs = s.signs;
                cell = u.cell;
                edge = u.by_count;
                border = subst (λ t. IsBorder t s.signs) (at x.of u.listed) u.border;
                is = s.is;
              },
            )

pub lists_as : (P Q : Incidence → Type 0) (incidences : List Incidence) → ((x : Incidence) → P x ↔ Q x)
    → Lists incidence_cmp P incidences → Lists incidence_cmp Q incidences
lists_as P Q incidences same lists = record { ascending = lists.ascending; each = λ x c. (same x).0 (lists.each x c); all = λ x p. lists.all x ((same x).1 p) }

-- none where no cell was passed
pub grew_none : (F : Incidence → ℕ → Type 0) (new : List Incidence) → new ≡ [] → GrewByAll (λ x. Below (F x) 0) [] new
grew_none F new is = subst (GrewByAll (λ x. Below (F x) 0) []) (sym is) (λ x. adds_nothing (none_below (F x)))

-- what was listed of all cells, in order
pub sorted_all : (P : Incidence → Type 0) (F : Incidence → ℕ → Type 0) (found sorted : List Incidence) (k : ℕ)
    → GrewByAll (λ x. Below (F x) k) [] found → ((x : Incidence) → Below (F x) k ↔ P x)
    → Lists incidence_cmp (Contains found) sorted → Lists incidence_cmp P sorted
sorted_all P F found sorted k grew all = lists_as (Contains found) P sorted
    (λ x. grown_first (grown_same (grew x) (all x)) (Contains-nothing x))

-- what was listed of the first n of m cells
pub first_listed : (P : Incidence → Type 0) (F : Incidence → ℕ → Type 0) (found : List Incidence) (n m : ℕ) → n ≤ m
    → GrewByAll (λ x. Below (F x) n) [] found → ((x : Incidence) → Below (F x) m ↔ P x)
    → ((x : Incidence) (k : ℕ) → F x k → x.of ≡ k) → (x : Incidence) → Contains found x ↔ (P x × (x.of < n))
first_listed P F found n m le grew all of x = through (grown_first (grew x) (Contains-nothing x)) (from, to)
  where
    from : Below (F x) n → P x × (x.of < n)
    from (k, lt, f) = ((all x).0 (k, omega (arith, lt, le), f), subst (λ j. j < n) (sym (of x k f)) lt)

    to : P x × (x.of < n) → Below (F x) n
    to (p, lt) = let (k, past, f) = (all x).1 p in (k, subst (λ j. j < n) (of x k f) lt, f)

-- ---- incidences that stand where the cells do

module _ (cells : List Cell) (own : List Incidence) (have : HaveSigns (map entry_of cells) own) where
  pub own_place : (k : ℕ) → k < length cells → k < length own
  own_place k lt =
      let long = ap length have in
      omega (arith, lt, long, length-map own words_of, length-map cells entry_of, length-map (map entry_of cells) (λ (c : CellEntry). incidence_of c.signs 0))

  pub own_signs : (k : ℕ) → k < length cells
      → get_or own k no_incidence ≡ incidence_of (cell_at (map entry_of cells) k).signs (get_or own k no_incidence).of
  own_signs k lt =
      ap (λ (w : Incidence). record { a = w.a; b = w.b; c = w.c; d = w.d; of = (get_or own k no_incidence).of })
      (sym (get_or-map words_of own k no_incidence no_incidence (own_place k lt)) ∙ ap (λ l. get_or l k no_incidence) have
      ∙ get_or-map (λ (c : CellEntry). incidence_of c.signs 0) (map entry_of cells) k no_cell no_incidence (listed_is cells k lt))

  pub own_at : (k : ℕ) (a : Cell) → k < length cells → a ≡ get_or cells k a
      → get_or own k no_incidence ≡ incidence_of a.signs (get_or own k no_incidence).of
  own_at k a lt a_is = own_signs k lt
      ∙ ap (λ (c : CellEntry). incidence_of c.signs (get_or own k no_incidence).of) (entry_is cells k a lt a_is)

-- ---- lists that grow

pub grew_one : (old new : List Incidence) (a : Incidence) → new ≡ old ++ a ∷ [] → GrewByAll (λ x. x ≡ a) old new
grew_one old new a is x = (
  λ c. ⊎_elim {C = Contains old x ⊎ (x ≡ a)} (λ h. inl h) (λ e. inr (sym e)) (Contains-push_cases old a x (subst (λ l. Contains l x) is c)),
  λ h. subst (λ l. Contains l x) (sym is) (⊎_elim {C = Contains (old ++ a ∷ []) x} (λ c. Contains-append_left old (a ∷ []) x c)
      (λ e. subst (Contains (old ++ a ∷ [])) (sym e) (Contains-push old a)) h),
)

pub grew_pair : (P : Incidence → Type 0) (old new : List Incidence) (a b : Incidence) → new ≡ (old ++ a ∷ []) ++ b ∷ []
    → ((x : Incidence) → P x ↔ ((x ≡ a) ⊎ (x ≡ b))) → GrewByAll P old new
grew_pair P old new a b is two x = grown_both (grew_one old (old ++ a ∷ []) a refl x) (grew_one (old ++ a ∷ []) new b is x) (two x)

-- ---- the incidences on one plane

-- the incidence of v towards w, which is what it is
pub towards : (planes : List V3) (v : V3) (signs : List Sign) (w is : V3) (k : ℕ) (x : Incidence) → signs ≡ signs_of planes v
    → w ≡ is → x ≡ incidence_of (composed signs (signs_of planes w)) k → x ≡ incidence_of (beside planes v is) k
towards planes v signs w is k x own e made =
    made ∙ (λ i. incidence_of (composed (own i) (signs_of planes (e i))) k)
    ∙ ap (λ s. incidence_of s k) (composed_map (λ n. sign (dot n v)) (λ n. sign (dot n is)) planes)

pub incidences_on : (planes : List V3) (v m c : V3) (k : ℕ) (old new : List Incidence) (x y : Incidence) → sign (dot c v) ≡ Zero
    → x ≡ incidence_of (beside planes v (cross c m)) k → y ≡ incidence_of (beside planes v (negative (cross c m))) k
    → new ≡ (old ++ x ∷ []) ++ y ∷ [] → GrewByAll (IsBesideIncidence (c ∷ []) planes v m k) old new
incidences_on planes v m c k old new x y on x_is y_is is = grew_pair (IsBesideIncidence (c ∷ []) planes v m k) old new x y is
    (λ z. (from z, ⊎_elim (to z x (beside planes v (cross c m)) (inl refl) x_is) (to z y (beside planes v (negative (cross c m))) (inr refl) y_is)))
  where
    from : (z : Incidence) → IsBesideIncidence (c ∷ []) planes v m k z → (z ≡ x) ⊎ (z ≡ y)
    from z b =
        let o = b.beside in
        let same = only_one c o.c o.c_in in
        elim o.towards [
          | inl e ↦ inl (b.is ∙ ap (λ s. incidence_of s k) (e ∙ ap (λ g. beside planes v (cross g m)) same) ∙ sym x_is)
          | inr e ↦ inr (b.is ∙ ap (λ s. incidence_of s k) (e ∙ ap (λ g. beside planes v (negative (cross g m))) same) ∙ sym y_is)
        ]

    to : (z i : Incidence) (s : List Sign) → (s ≡ beside planes v (cross c m)) ⊎ (s ≡ beside planes v (negative (cross c m)))
        → i ≡ incidence_of s k → z ≡ i → IsBesideIncidence (c ∷ []) planes v m k z
    to z i s which i_is e = record { signs = s; beside = record { c = c; c_in = Contains-front c []; on = zero_sign (dot c v) on; towards = which }; is = e ∙ i_is }
