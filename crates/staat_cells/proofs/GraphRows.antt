-- Tests of a batch that are joined by threes, and the rows of the graph of a cell, batch by batch.
use Rattle.std.proofs.Common.{◌≡◌, ◌↔◌, inl, inr, refl, ℕ, ◌+◌, ◌*◌, ◌/◌, ◌%◌, ◌<◌, ◌≤◌, sym, subst, ◌∙◌, arith, List}
use Rattle.std.proofs.Common.{◌∷◌, [], ◌++◌, length, get_or, take, All, ◌⊎◌, replicate, Any, ◌≢◌, ◌^◌, eqb-true, Bool, true, false, true≢false, ap, ⊎_elim}
use mir.Val.{bool_byte}
use Rattle.std.specs.Prelude.{bit_or, nat_eq, not, slice_index, slice_set}
use Rattle.std.specs.Int.{bit_at, w32}
use Rattle.std.proofs.lemmas.List.{get_or_past, take_all, length-set}
use Rattle.std.proofs.lemmas.Nat.Bits.{bit_at-zero, bit_at_or}
use Rattle.staat_vec.specs.declared.vector.Sign.{Sign}
use Rattle.staat_vec.specs.declared.vector.Sign.TheVariants.{Neg, Zero, Pos}
use Rattle.staat_model.specs.Cells.{sign_place, signs_of}
use Rattle.staat_pairs.specs.Tables.{IsTable, Table, WasMadeFrom}
use Rattle.staat_cells.specs.declared.batches.Batch.{Batch}
use Rattle.staat_cells.specs.declared.batches.PlaneTest.{PlaneTest}
use Rattle.staat_cells.specs.declared.joined_batches.JoinedBatch.{JoinedBatch}
use Rattle.staat_cells.specs.declared.joined_batches.JoinedTest.{JoinedTest}
use Rattle.staat_cells.specs.HalfSpaces.{sign_at}
use Rattle.staat_cells.specs.CellGraphs.{HasArcsOf, IsArcAt, IsListedArc, ListsArcsOf, IsAheadBy, IsCellGraph}
use Rattle.staat_cells.specs.Batches.{HasConeAmong, HasPlanesUpTo, IsBatchArc, IsJoinedArc, IsLeft, IsLeftByAll}
use Rattle.staat_cells.specs.Batches.{joined_outside, no_test, outside_by, outside_together, place_of_three, HasLeft}
use Rattle.staat_cells.proofs.BatchCones.{set_bit}
use Rattle.staat_cells.proofs.Growing.{all_more, all_pushed, back, itself, through, with_both, grown_first}
use Rattle.staat_cells.proofs.Growing.{grown_same, grown_take}
use Rattle.staat_cells.proofs.Words.{place_small}
use Rattle.staat_vec.proofs.ListLaws.{any_default}
use Rattle.staat_vec.proofs.Naturals.{lt_or_le}
use Rattle.staat_vec.specs.declared.vector.V3.{V3}
use Rattle.staat_model.specs.declared.assembly.Part.{Part}
use Rattle.staat_graph.specs.Blocking.{ShowsBlocking}
use Rattle.staat_graph.specs.Graphs.{HasArc}
use Rattle.staat_graph.proofs.Arcs.{empty_graph, row_set}
use Rattle.staat_planes.specs.Tables.{IsAhead}
use Rattle.staat_planes.proofs.GraphLaw.{arcs_are_blocking, shows_blocking}
use Rattle.staat_cells.specs.declared.batches.ArcCones.{ArcCones}
use Rattle.staat_cells.proofs.PieceCones.{ahead_by_signs}
use Rattle.staat_planes.proofs.Gaining.{adds_nothing}

-- ---- three tests

-- the three digits of a place
place_digits : (a b c : ℕ) → a ≤ 2 → b ≤ 2 → c ≤ 2 → let i = 9 * a + 3 * b + c in
    (i < 27) × (i / 9 ≡ a) × (i / 3 % 3 ≡ b) × (i % 3 ≡ c)
place_digits a b c la lb lc = (omega arith, omega arith, omega arith, omega arith)

-- what three tests rule out together at the signs of which these are the three digits
abbrev pub word_of_digits : PlaneTest → PlaneTest → PlaneTest → ℕ → ℕ
word_of_digits x y z i = bit_or (bit_or (slice_index x.outside (i / 9)) (slice_index y.outside (i / 3 % 3)))
    (slice_index z.outside (i % 3))

pub words_are : (x y z : PlaneTest) (words : List ℕ)
    → ((i : ℕ) → i < 27 → slice_index words i ≡ word_of_digits x y z i)
    → (s t u : Sign) → slice_index words (place_of_three s t u) ≡ outside_together x y z s t u
words_are x y z words are s t u =
    let (lt, first, second, third) = place_digits (sign_place s) (sign_place t) (sign_place u)
    (place_small s) (place_small t) (place_small u) in
    are (place_of_three s t u) lt ∙ (λ i.
    bit_or (bit_or (slice_index x.outside (first i)) (slice_index y.outside (second i))) (slice_index z.outside (third i)))

-- a cone is left by two words together exactly where it is left by each
left_or : (x y j : ℕ) → IsLeft (bit_or x y) j ↔ (IsLeft x j × IsLeft y j)
left_or x y j =
    let e = bit_at_or x y j in
    (λ h. (omega (arith, e, h), omega (arith, e, h)), λ p. let a = p.0 in let b = p.1 in omega (arith, e, a, b))

pub three_left : (x y z : PlaneTest) (words : List ℕ)
    → ((s t u : Sign) → slice_index words (place_of_three s t u) ≡ outside_together x y z s t u)
    → (signs : List Sign) (j : ℕ)
    → IsLeft (joined_outside signs (record { first = x.plane; second = y.plane; third = z.plane; outside = words })) j
    ↔ ((IsLeft (outside_by signs x) j × IsLeft (outside_by signs y) j) × IsLeft (outside_by signs z) j)
three_left x y z words are signs j =
    subst (λ w. IsLeft w j ↔ ((IsLeft (outside_by signs x) j × IsLeft (outside_by signs y) j) × IsLeft (outside_by signs z) j))
    (sym (are (sign_at signs x.plane) (sign_at signs y.plane) (sign_at signs z.plane)))
    (through (left_or (bit_or (outside_by signs x) (outside_by signs y)) (outside_by signs z) j)
    (with_both (left_or (outside_by signs x) (outside_by signs y) j) (itself {A = IsLeft (outside_by signs z) j})))

-- ---- all tests

none_out_of : (signs : List Sign) (j : ℕ) → IsLeft (outside_by signs no_test) j
none_out_of signs j = by_sign (sign_at signs 0)
  where
    by_sign : (s : Sign) → bit_at (slice_index (0 ∷ 0 ∷ 0 ∷ []) (sign_place s)) j ≡ 0
    by_sign Neg = bit_at-zero j
    by_sign Zero = bit_at-zero j
    by_sign Pos = bit_at-zero j

-- one test more, which is none behind the last
one_more : (signs : List Sign) (tests : List PlaneTest) (k m j : ℕ) (t : PlaneTest) → t ≡ get_or tests k no_test → m ≡ k + 1
    → IsLeftByAll (outside_by signs) (take m tests) j ↔ (IsLeftByAll (outside_by signs) (take k tests) j × IsLeft (outside_by signs t) j)
one_more signs tests k m j t is next = elim (lt_or_le k (length tests)) [
  | inl lt ↦ subst (λ n. Left (take n tests) ↔ (Left (take k tests) × Own t)) (sym next)
      (all_more Own tests k t lt (is ∙ any_default tests k no_test t lt))
  | inr le ↦ let same : take m tests ≡ take k tests = take_all m tests (omega (arith, le, next)) ∙ sym (take_all k tests le) in (
    λ h. (subst Left same h, subst Own (sym (is ∙ get_or_past tests k no_test le)) (none_out_of signs j)),
    λ h. subst Left (sym same) h.0,
  )
]
  where
    Own : PlaneTest → Type 0
    Own x = IsLeft (outside_by signs x) j

    Left : List PlaneTest → Type 0
    Left l = IsLeftByAll (outside_by signs) l j

pub three_more : (tests : List PlaneTest) (i : ℕ) (old new : List JoinedTest) (x : JoinedTest) (p q r : PlaneTest)
    → new ≡ old ++ x ∷ [] → p ≡ get_or tests (3 * i) no_test → q ≡ get_or tests (3 * i + 1) no_test
    → r ≡ get_or tests (3 * i + 2) no_test
    → ((signs : List Sign) (j : ℕ) → IsLeft (joined_outside signs x) j ↔ ((IsLeft (outside_by signs p) j × IsLeft (outside_by signs q) j) × IsLeft (outside_by signs r) j))
    → ((signs : List Sign) (j : ℕ) → IsLeftByAll (joined_outside signs) old j ↔ IsLeftByAll (outside_by signs) (take (3 * i) tests) j)
    → (signs : List Sign) (j : ℕ) → IsLeftByAll (joined_outside signs) new j ↔ IsLeftByAll (outside_by signs) (take (3 * (i + 1)) tests) j
three_more tests i old new x p q r is p_is q_is r_is one before signs j =
    let first = one_more signs tests (3 * i) (3 * i + 1) j p p_is refl in
    let second = one_more signs tests (3 * i + 1) (3 * i + 2) j q q_is (omega arith) in
    let third = one_more signs tests (3 * i + 2) (3 * (i + 1)) j r r_is (omega arith) in
    through (all_pushed (λ t. IsLeft (joined_outside signs t) j) old new x is) (
      λ h. let own = (one signs j).0 h.1 in third.1 (second.1 (first.1 ((before signs j).0 h.0, own.0.0), own.0.1), own.1),
      λ h. let c = third.0 h in
          let b = second.0 c.0 in
          let a = first.0 b.0 in
          ((before signs j).1 a.0, (one signs j).1 ((a.1, b.1), c.1)),
    )

pub three_all : (tests : List PlaneTest) (i : ℕ) (found : List JoinedTest) → length tests ≤ 3 * i
    → ((signs : List Sign) (j : ℕ) → IsLeftByAll (joined_outside signs) found j ↔ IsLeftByAll (outside_by signs) (take (3 * i) tests) j)
    → (signs : List Sign) (j : ℕ) → IsLeftByAll (joined_outside signs) found j ↔ IsLeftByAll (outside_by signs) tests j
three_all tests i found le = subst (λ l. (signs : List Sign) (j : ℕ) → IsLeftByAll (joined_outside signs) found j ↔ IsLeftByAll (outside_by signs) l j) (take_all (3 * i) tests le)

-- ---- what the tests rule out

pub none_out : (signs : List Sign) (tests : List JoinedTest) (j : ℕ) → IsLeft 0 j ↔ IsLeftByAll (joined_outside signs) (take 0 tests) j
none_out signs tests j = (λ h k d lt. absurd (omega (arith, lt)), λ h. bit_at-zero j)

pub more_out : (signs : List Sign) (tests : List JoinedTest) (k found word : ℕ) (x : JoinedTest) → k < length tests
    → x ≡ get_or tests k x → word ≡ joined_outside signs x
    → ((j : ℕ) → IsLeft found j ↔ IsLeftByAll (joined_outside signs) (take k tests) j)
    → (j : ℕ) → IsLeft (bit_or found word) j ↔ IsLeftByAll (joined_outside signs) (take (k + 1) tests) j
more_out signs tests k found word x lt at is before j =
    through (left_or found word j) (through (with_both (before j) (subst (λ w. IsLeft word j ↔ IsLeft w j) is itself))
    (back (all_more (λ t. IsLeft (joined_outside signs t) j) tests k x lt at)))

pub all_out : (signs : List Sign) (tests : List JoinedTest) (k found : ℕ) → length tests ≤ k
    → ((j : ℕ) → IsLeft found j ↔ IsLeftByAll (joined_outside signs) (take k tests) j)
    → (j : ℕ) → IsLeft found j ↔ IsLeftByAll (joined_outside signs) tests j
all_out signs tests k found le =
    subst (λ l. (j : ℕ) → IsLeft found j ↔ IsLeftByAll (joined_outside signs) l j) (take_all k tests le)

pub more_planes : (tests : List JoinedTest) (k last new : ℕ) (x : JoinedTest) → k < length tests → x ≡ get_or tests k x
    → All (HasPlanesUpTo last) (take k tests) → last ≤ new → HasPlanesUpTo new x → All (HasPlanesUpTo new) (take (k + 1) tests)
more_planes tests k last new x lt at before le own =
    (all_more (HasPlanesUpTo new) tests k x lt at).1 (λ i d l. wider (before i d l), own)
  where
    wider : {t : JoinedTest} → HasPlanesUpTo last t → HasPlanesUpTo new t
    wider h =
        let a = h.first in
        let b = h.second in
        let c = h.third in
        record { first = omega (arith, a, le); second = omega (arith, b, le); third = omega (arith, c, le) }

-- ---- batches

pub joined_arc : (batch : Batch) (joined : JoinedBatch) → joined.arcs.items ≡ batch.arcs.items
    → ((signs : List Sign) (j : ℕ) → IsLeftByAll (joined_outside signs) joined.tests.items j ↔ IsLeftByAll (outside_by signs) batch.tests.items j)
    → (signs : List Sign) (a b : ℕ) → IsJoinedArc joined signs a b ↔ IsBatchArc batch signs a b
joined_arc batch joined arcs tests signs a b =
    subst (λ l. IsJoinedArc joined signs a b ↔ HasConeAmong l (IsLeftByAll (outside_by signs) batch.tests.items) a b) arcs (
      λ h. record { cone = h.cone; has = h.has; is_left = (tests signs h.cone).0 h.is_left },
      λ h. record { cone = h.cone; has = h.has; is_left = (tests signs h.cone).1 h.is_left },
    )

pub told : (t : Table) (batches : List Batch) (joined : List JoinedBatch) → IsTable t → ListsArcsOf t batches
    → ((signs : List Sign) (a b : ℕ) → IsArcAt joined signs a b ↔ IsListedArc batches signs a b) → HasArcsOf t joined
told t batches joined rules tells same =
    record { rules = rules; arcs = λ signs a b. through (same signs a b) (tells signs a b) }

-- ---- the arcs of a batch

-- the row with the arc to b, where a cone is left, as a word that is not 0 tells
pub row_with : (row b word : ℕ) (Left : Type 0) → b < 32 → (word ≢ 0) ↔ Left → (q : ℕ)
    → (bit_at (bit_or row (bool_byte (not (nat_eq word 0)) * 2 ^ b % 2 ^ 32)) q ≡ 1) ↔ ((bit_at row q ≡ 1) ⊎ ((q ≡ b) × Left))
row_with row b word Left lt left q = by (nat_eq word 0) refl
  where
    by : (none : Bool) → nat_eq word 0 ≡ none
        → (bit_at (bit_or row (bool_byte (not none) * 2 ^ b % 2 ^ 32)) q ≡ 1) ↔ ((bit_at row q ≡ 1) ⊎ ((q ≡ b) × Left))
    by true e =
        let clear : 0 * 2 ^ b % 2 ^ 32 ≡ 0 = omega arith in
        let same = ap (λ m. bit_at (bit_or row m) q) clear ∙ omega (arith, bit_at_or row 0 q, bit_at-zero q) in
        (λ h. inl (sym same ∙ h), ⊎_elim (λ h. same ∙ h) (λ p. absurd (left.1 p.1 (eqb-true word 0 e))))
    by false e = grown_same (set_bit w32 row b q lt)
        (λ at. (at, left.0 (λ z. true≢false (sym (ap (λ n. nat_eq n 0) z) ∙ e))), λ p. p.0)

-- these are parts with a cone that is not ruled out
abbrev pub IsArcLeft : ℕ → ℕ → ℕ → ArcCones → Type 0
IsArcLeft outside a b arc = (arc.a ≡ a) × (arc.b ≡ b) × HasLeft arc outside

-- the rows have grown by the parts with a cone that is not ruled out
pub record AddsLeft (outside : ℕ) (arcs : List ArcCones) (old new : List ℕ) : Type 0 where
  pub long : length old ≡ 32 → length new ≡ 32
  pub has : (a b : ℕ) → HasArc new a b ↔ (HasArc old a b ⊎ Any (IsArcLeft outside a b) arcs)

pub none_left : (outside : ℕ) (rows : List ℕ) → AddsLeft outside [] rows rows
none_left outside rows = record { long = λ e. e; has = λ a b. adds_nothing (λ p. let lt = p.2 in omega (arith, lt)) }

one_left : (outside word : ℕ) (x : ArcCones) (rows : List ℕ) → x.a < length rows
    → ((q : ℕ) → (bit_at word q ≡ 1) ↔ ((bit_at (slice_index rows x.a) q ≡ 1) ⊎ ((q ≡ x.b)
    × HasLeft x outside)))
    → (a b : ℕ) → HasArc (slice_set rows x.a word) a b ↔ (HasArc rows a b ⊎ IsArcLeft outside a b x)
one_left outside word x rows lt bits a = row_set rows x.a a word (λ p q. HasArc rows p q ⊎ IsArcLeft outside p q x) lt
    (λ q. grown_same (bits q) (λ p. (refl, sym p.0, p.1), λ p. (sym p.1, p.2)))
    (λ q ne. adds_nothing (λ p. ne (sym p.0)))

pub left_more : (outside word k : ℕ) (arcs : List ArcCones) (x : ArcCones) (old mid : List ℕ) → length old ≡ 32
    → k < length arcs → x ≡ get_or arcs k x → x.a < 32
    → ((q : ℕ) → (bit_at word q ≡ 1) ↔ ((bit_at (slice_index mid x.a) q ≡ 1) ⊎ ((q ≡ x.b)
    × HasLeft x outside)))
    → AddsLeft outside (take k arcs) old mid → AddsLeft outside (take (k + 1) arcs) old (slice_set mid x.a word)
left_more outside word k arcs x old mid is lt at small bits before = record {
  long = λ e. length-set mid x.a word ∙ before.long e;
  has = λ a b. grown_take (IsArcLeft outside a b) arcs k x lt at (before.has a b)
      (one_left outside word x mid (let e = before.long is in omega (arith, e, small)) bits a b);
}

pub batch_arcs : (batch : JoinedBatch) (signs : List Sign) (outside k : ℕ) (arcs : List ArcCones) (old new : List ℕ)
    → arcs ≡ batch.arcs.items → length arcs ≤ k
    → ((j : ℕ) → IsLeft outside j ↔ IsLeftByAll (joined_outside signs) batch.tests.items j)
    → AddsLeft outside (take k arcs) old new
    → (a b : ℕ) → HasArc new a b ↔ (HasArc old a b ⊎ IsJoinedArc batch signs a b)
batch_arcs batch signs outside k arcs old new arcs_are le ruled all a b = grown_same
    (subst (λ l. HasArc new a b ↔ (HasArc old a b ⊎ Any (IsArcLeft outside a b) l)) (take_all k arcs le ∙ arcs_are) (all.has a b)) (
      λ (i, x, lt, e, (a_is, b_is, (j, one, out))).
          record { cone = j; has = (i, x, lt, e, (a_is, b_is, one)); is_left = (ruled j).0 out },
      λ h. let (i, x, lt, e, (a_is, b_is, one)) = h.has in
          (i, x, lt, e, (a_is, b_is, (h.cone, one, (ruled h.cone).1 h.is_left))),
    )

-- ---- all batches

-- no rows have grown by the arcs of the first batches
abbrev pub HasArcsUpTo : List ℕ → List JoinedBatch → List Sign → ℕ → Type 0
HasArcsUpTo rows batches signs k = (a b : ℕ)
    → HasArc rows a b ↔ (HasArc (replicate 32 0) a b ⊎ IsArcAt (take k batches) signs a b)

pub graph_is : (t : Table) (batches : List JoinedBatch) (signs : List Sign) (rows : List ℕ) (k : ℕ)
    → length batches ≤ k
    → HasArcsUpTo rows batches signs k → HasArcsOf t batches
    → IsCellGraph t signs rows
graph_is t batches signs rows k le all tells a b =
    through (subst (λ l. HasArc rows a b ↔ IsArcAt l signs a b) (take_all k batches le)
    (grown_first (all a b) (empty_graph a b))) (tells.arcs signs a b)

-- the arcs by the signs of a direction are those at the direction
pub graph_at : (t : Table) (d : V3) (signs : List Sign) (rows : List ℕ) → IsTable t → IsCellGraph t signs rows
    → signs_of t.planes d ≡ signs
    → (a b : ℕ) → HasArc rows a b ↔ IsAhead t d a b
graph_at t d signs rows rules graph e a b =
    through (graph a b) (subst (λ s. IsAheadBy t s a b ↔ IsAhead t d a b) e (ahead_by_signs t d a b rules))

pub graph_shows : (t : Table) (parts : List Part) (d : V3) (signs : List Sign) (rows : List ℕ) → IsTable t
    → IsCellGraph t signs rows → WasMadeFrom parts t
    → signs_of t.planes d ≡ signs → ShowsBlocking parts d t.of rows
graph_shows t parts d signs rows rules graph made e =
    shows_blocking parts t d rows (arcs_are_blocking parts t d rows made (graph_at t d signs rows rules graph e))
