-- What marks say of what is reached, and walks in two graphs with the same arcs.
use Rattle.std.proofs.Common.{◌≡◌, ◌↔◌, ℕ, zero, suc, ◌<◌, ◌≤◌, Bool, true, false, List, [], ◌∷◌, length, get_or, set, map, inl, inr, sym, ap, subst, ◌∙◌, arith, All, Contains}
use Rattle.std.specs.Prelude.{IsTrue, replicate}
use Rattle.std.proofs.lemmas.Bool.{cases_eq}
use Rattle.std.proofs.lemmas.List.{get_or-set_other, get_or-set_same, length-replicate, length-set}
use Rattle.std.proofs.lemmas.List.Elements.{All-contains, All-contains_itself, All-weaker}
use Rattle.staat_holds.specs.declared.ways.Way.{Way}
use Rattle.staat_holds.specs.VisitedNodes.{KeepsVisited, ReachesVisited, AreShut, HasWay, IsVisited, IsWayWithin, turned_way}
use Rattle.staat_holds.specs.Reaching.{AllReach, Reaches, here, along}
use Rattle.staat_holds.proofs.Marking.{get_or_same, reach_more}

pub joined : {R : ℕ → ℕ → Type 0} {x y z : ℕ} → Reaches R x y → Reaches R y z → Reaches R x z
joined here v = v
joined (along y r rest) v = along y r (joined rest v)

pub carried : {R S : ℕ → ℕ → Type 0} {x y : ℕ} → ((a b : ℕ) → R a b → S a b) → Reaches R x y → Reaches S x y
carried f here = here
carried f (along y r rest) = along y (f _ y r) (carried f rest)

pub back : {R S : ℕ → ℕ → Type 0} {x y : ℕ} → ((a b : ℕ) → R a b → S b a) → Reaches R x y → Reaches S y x
back f here = here
back f (along y r rest) = reach_more (back f rest) (f _ y r)

pub all_carried : {R S : ℕ → ℕ → Type 0} (count : ℕ) → ((a b : ℕ) → R a b ↔ S a b) → AllReach count R ↔ AllReach count S
all_carried count same = (
  λ all x y x_lt y_lt. carried (λ a b. (same a b).0) (all x y x_lt y_lt),
  λ all x y x_lt y_lt. carried (λ a b. (same a b).1) (all x y x_lt y_lt),
)

-- ---- ways turned round

pub way_turned : (ways : List Way) (x y : ℕ) → HasWay ways x y → HasWay (map turned_way ways) y x
way_turned [] x y (k, lt, e) = absurd (omega (arith, lt))
way_turned (w ∷ ways) x y (zero, lt, e) = (zero, omega arith, ap turned_way e)
way_turned (w ∷ ways) x y (suc k, lt, e) = let (m, at, is) = way_turned ways x y (k, omega (arith, lt), e) in (suc m, omega (arith, at), is)

pub way_back : (ways : List Way) (x y : ℕ) → HasWay (map turned_way ways) x y → HasWay ways y x
way_back [] x y (k, lt, e) = absurd (omega (arith, lt))
way_back (w ∷ ways) x y (zero, lt, e) = (zero, omega arith, ap turned_way e)
way_back (w ∷ ways) x y (suc k, lt, e) = let (m, at, is) = way_back ways x y (k, omega (arith, lt), e) in (suc m, omega (arith, at), is)

-- ---- from one node and back to it

pub all_by_first : (ways : List Way) (count : ℕ) → 1 ≤ count → ((k : ℕ) → k < count → Reaches (HasWay ways) 0 k) → ((k : ℕ) → k < count → Reaches (HasWay (map turned_way ways)) 0 k) → AllReach count (HasWay ways)
all_by_first ways count some out in' x y x_lt y_lt = joined (back (way_back ways) (in' x x_lt)) (out y y_lt)

pub back_by_all : (ways : List Way) (count : ℕ) → 1 ≤ count → AllReach count (HasWay ways) → (k : ℕ) → k < count → Reaches (HasWay (map turned_way ways)) 0 k
back_by_all ways count some all k lt = back (way_turned ways) (all k 0 lt (omega (arith, some)))

pub turned_within : (count : ℕ) (ways : List Way) → All (IsWayWithin count) ways → All (IsWayWithin count) (map turned_way ways)
turned_within count ways all = All-weaker (Contains (map turned_way ways)) (IsWayWithin count) (λ way c. let h = All-contains (IsWayWithin count) ways (turned_way way) all (way_back ways way.from way.to c) in record { from = h.to; to = h.from }) (map turned_way ways) (All-contains_itself (map turned_way ways))

-- ---- marks

unmarked : (n w : ℕ) → IsVisited (replicate n false) w → ⊥
unmarked zero w h = cc
unmarked (suc n) zero h = cc
unmarked (suc n) (suc w) h = unmarked n w h

-- the first node alone is visited
pub first_alone : (ways : List Way) (n : ℕ) → ReachesVisited ways 0 (set (replicate n false) 0 true)
first_alone ways n k h = elim (cases_eq k 0) [
  | inl e ↦ subst (Reaches (HasWay ways) 0) (sym e) here
  | inr ne ↦ absurd (unmarked n k (sym (get_or-set_other (replicate n false) 0 k true false ne) ∙ h))
]

-- what is reached from a node that is visited is visited, where ways lead from no visited node to another
pub shut_reaches : (ways : List Way) (marks : List Bool) {x k : ℕ} → AreShut ways marks → IsVisited marks x → Reaches (HasWay ways) x k → IsVisited marks k
shut_reaches ways marks shut h here = h
shut_reaches ways marks {x} shut h (along y r rest) =
    shut_reaches ways marks shut (All-contains (λ way. IsVisited marks way.from → IsVisited marks way.to) ways (record { from = x; to = y }) shut r h) rest

pub marks_tell : (ways : List Way) (count : ℕ) (marks : List Bool) → length marks ≡ count → IsVisited marks 0 → AreShut ways marks → ReachesVisited ways 0 marks
    → All IsTrue marks ↔ ((k : ℕ) → k < count → Reaches (HasWay ways) 0 k)
marks_tell ways count marks long first shut reached = (
  λ all k lt. reached k (all k false (omega (arith, long, lt))),
  λ reach k d lt. defaults k d lt (shut_reaches ways marks shut first (reach k (omega (arith, long, lt)))),
)
  where
    defaults : (k : ℕ) (d : Bool) → k < length marks → IsVisited marks k → IsTrue (get_or marks k d)
    defaults k d lt h = get_or_same marks k false d lt ∙ h

pub marks_begun : (ways : List Way) (count : ℕ) (begun marks now : List Bool) (answer : Bool) → 1 ≤ count → begun ≡ set (replicate count false) 0 true → length marks ≡ length begun → now ≡ marks
    → KeepsVisited begun marks → (ReachesVisited ways 0 begun → ReachesVisited ways 0 marks) → AreShut ways marks → IsTrue answer ↔ All IsTrue now → IsTrue answer ↔ ((k : ℕ) → k < count → Reaches (HasWay ways) 0 k)
marks_begun ways count begun marks now answer some is long same kept reached shut tells =
    let size : length begun ≡ count = ap length is ∙ length-set (replicate count false) 0 true ∙ length-replicate count false in
    let lt : 0 < length (replicate count false) = let e = length-replicate count false in omega (arith, e, some) in
    let first : IsVisited begun 0 = ap (λ l. get_or l 0 false) is ∙ get_or-set_same (replicate count false) 0 true false lt in
    let h = marks_tell ways count marks (long ∙ size) (kept 0 first) shut (reached (subst (ReachesVisited ways 0) (sym is) (first_alone ways count))) in
    let t = subst (λ l. IsTrue answer ↔ All IsTrue l) same tells in (
      λ yes. h.0 (t.0 yes),
      λ all. t.1 (h.1 all),
    )
