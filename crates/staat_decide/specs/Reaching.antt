-- Which places are reached along arcs or against them, and how they are marked.
use Rattle.std.specs.Prelude.{◌≡◌, ℕ, ◌+◌, ◌<◌, List, [], ◌∷◌, Bool, true, false, IsTrue, get_or}
use Rattle.std.specs.Prelude.{length}
use Rattle.staat_decide.specs.declared.reach.Way.{Way}
use Rattle.staat_decide.specs.declared.reach.Way.TheVariants.{Ahead, Back}

-- an arc leads from the place i to the place j
abbrev pub HasRowArc : List (List Bool) → ℕ → ℕ → Type 0
HasRowArc rows i j = IsTrue (get_or (get_or rows i []) j false)

-- the way leads from i to j: ahead along an arc, back against one
abbrev pub Leads : Way → List (List Bool) → ℕ → ℕ → Type 0
Leads Ahead rows i j = HasRowArc rows i j
Leads Back rows i j = HasRowArc rows j i

-- what has the place 0, and with each place those to which the way leads from it, has j
abbrev pub IsReachedPlace : Way → List (List Bool) → ℕ → Type 0
IsReachedPlace way rows j =
    (has : ℕ → Bool) → IsTrue (has 0)
    → ((i k : ℕ) → i < length rows → k < length rows → Leads way rows i k → IsTrue (has i)
    → IsTrue (has k))
    → IsTrue (has j)

abbrev pub AreAllReached : Way → List (List Bool) → Type 0
AreAllReached way rows = (j : ℕ) → j < length rows → IsReachedPlace way rows j

abbrev pub IsMarkedPlace : List Bool → ℕ → Type 0
IsMarkedPlace marks j = IsTrue (get_or marks j false)

-- the way leads from i to no place that is not marked
abbrev pub LeadsToMarked : Way → List (List Bool) → List Bool → ℕ → Type 0
LeadsToMarked way rows marks i = (j : ℕ) → j < length marks → Leads way rows i j → IsMarkedPlace marks j

-- it leads from no marked place to one that is not marked
abbrev pub IsClosedAlong : Way → List (List Bool) → List Bool → Type 0
IsClosedAlong way rows marks =
    (i : ℕ) → i < length marks → IsMarkedPlace marks i → LeadsToMarked way rows marks i

-- j is not marked, and the way leads there from a marked place
pub record IsNextPlace (way : Way) (rows : List (List Bool)) (marks : List Bool) (j : ℕ) : Type 0 where
  pub before : j < length marks
  pub fresh : get_or marks j true ≡ false
  pub i : ℕ
  pub from_before : i < length marks
  pub from : IsMarkedPlace marks i
  pub leads : Leads way rows i j

-- how many places are not marked
abbrev pub unmarked : List Bool → ℕ
unmarked [] = 0
unmarked (true ∷ marks) = unmarked marks
unmarked (false ∷ marks) = 1 + unmarked marks

-- there is a mark for each place, the place 0 is marked, and all that are marked are reached
pub record AreReached (way : Way) (rows : List (List Bool)) (marks : List Bool) : Type 0 where
  pub count : length marks ≡ length rows
  pub first : IsMarkedPlace marks 0
  pub each : (j : ℕ) → j < length marks → IsMarkedPlace marks j → IsReachedPlace way rows j

-- the label 0 for what leaves first: what is reached ahead, or what is not reached back
abbrev pub label_of : Way → Bool → ℕ
label_of Ahead true = 0
label_of Ahead false = 1
label_of Back true = 1
label_of Back false = 0
