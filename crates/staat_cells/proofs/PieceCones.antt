-- The facets of two pieces by their planes, and the loops that list parts with the cones of their pieces.
use Rattle.std.proofs.Common.{◌≡◌, ◌≢◌, ◌↔◌, ℕ, zero, suc, ◌+◌, ◌≤◌, sym, ap, subst, ◌∙◌, ⊎_elim, arith, Contains}
use Rattle.std.proofs.Common.{pos, ◌<ℤ◌, List, [], ◌∷◌, ◌++◌, length, take, All, ◌*◌, ◌-◌, ◌/◌, ◌%◌, Any}
use Rattle.std.specs.Prelude.{Some, slice_get}
use Rattle.std.proofs.lemmas.List.{take_all}
use Rattle.std.proofs.lemmas.List.Elements.{All-contains}
use Rattle.staat_vec.specs.declared.vector.V3.{V3}
use Rattle.staat_vec.specs.declared.vector.Sign.{Sign}
use Rattle.staat_vec.specs.declared.vector.Sign.TheVariants.{Neg, Pos}
use Rattle.staat_vec.specs.Primitives.{canon}
use Rattle.staat_vec.specs.Vectors.{dot, negative, origin, sign}
use Rattle.staat_vec.proofs.Canons.{canon-either}
use Rattle.staat_vec.proofs.Primitives.{IsPrimitive-some}
use Rattle.staat_vec.proofs.VecRing.{cross_self, negative_dot}
use Rattle.staat_model.specs.Cells.{signs_of}
use Rattle.staat_cells.specs.declared.half_spaces.HalfSpace.{HalfSpace}
use Rattle.staat_cells.specs.HalfSpaces.{AreAhead, AreInside, IsInHalfSpace, IsSignAhead, sign_at}
use Rattle.staat_cells.specs.CellGraphs.{IsAheadBy, AddsArcs, AddsConesOf, ArePartsAhead, ListsArcsOf, IsArcInside}
use Rattle.staat_cells.specs.CellGraphs.{IsPairAhead, IsPairArc, IsPieceAhead}
use Rattle.staat_planes.specs.Tables.{IsAhead}
use Rattle.staat_pairs.specs.Searches.{arc_of}
use Rattle.staat_pairs.specs.Tables.{AreTablePlanes, IsTable, IsTableArc, IsTableFacet, Table, facets_of, pieces_of}
use Rattle.staat_model.specs.declared.certificate.Arc.{Arc}
use Rattle.staat_model.proofs.Decisions.{nat_or}
use Rattle.staat_model.proofs.Members.{All-from_members}
use Rattle.staat_cells.proofs.Growing.{all_pushed, back, through, with_both, Below, grown_first, grown_more}
use Rattle.staat_cells.proofs.Growing.{grown_same, none_below}
use Rattle.staat_vec.proofs.Integers.{opposite_positive_back, turned_negative}
use Rattle.staat_vec.proofs.ListLaws.{place_of, take_next}
use Rattle.staat_vec.proofs.Signs.{positive_sign, negative_sign, sign_positive, sign_negative}
use Rattle.staat_vec.proofs.VectorLaws.{some_square}
use Rattle.staat_cells.specs.declared.batches.Batch.{Batch}
use Rattle.staat_cells.specs.Batches.{IsBatch}
use Rattle.staat_planes.proofs.Gaining.{adds_nothing}

sign_there : (planes : List V3) (k : ℕ) (g d : V3) → slice_get planes k ≡ Some g
    → sign_at (signs_of planes d) k ≡ sign (dot g d)
sign_there [] k g d e = cc
sign_there (h ∷ planes) zero g d e = cc
sign_there (h ∷ planes) (suc k) g d e = sign_there planes k g d e

-- ---- the half-space of a facet

pub own_positive : (n : V3) → n ≢ origin → canon n ≡ n → sign (dot (canon n) n) ≡ Pos
own_positive n some same = ap (λ m. sign (dot m n)) same ∙ positive_sign (dot n n) (some_square n some)

pub own_negative : (n : V3) → n ≢ origin → canon n ≡ negative n → sign (dot (canon n) n) ≡ Neg
own_negative n some turned = ap (λ m. sign (dot m n)) turned
    ∙ negative_sign (dot (negative n) n) (turned_negative (dot n n) (dot (negative n) n) (negative_dot n n) (some_square n some))

-- a plane stands at one place
one_place : (planes : List V3) → AreTablePlanes planes → (k m : ℕ) (n : V3) → slice_get planes k ≡ Some n
    → slice_get planes m ≡ Some n → k ≡ m
one_place planes rules k m n at also = ⊎_elim {C = k ≡ m} (λ e. e)
    (λ ne. absurd (rules.apart k m n n at also ne (cross_self n))) (nat_or k m)

pub half_space_is : (planes : List V3) → AreTablePlanes planes → (n : V3) (k : ℕ) (t : Sign) → slice_get planes k ≡ Some (canon n)
    → sign (dot (canon n) n) ≡ t → (signs : List Sign)
    → IsInHalfSpace signs (record { plane = k; sign = t }) ↔ IsSignAhead planes signs n
half_space_is planes rules n k t at own signs = (
  λ h. record { plane = k; at = at; same = h ∙ sym own },
  λ h. ap (sign_at signs) (one_place planes rules k h.plane (canon n) at h.at) ∙ h.same ∙ own,
)

-- by the signs of a direction it is ahead of a facet exactly where it is ahead of it
ahead_by_sign : (planes : List V3) (rules : AreTablePlanes planes) (n d : V3) → IsTableFacet planes n
    → IsSignAhead planes (signs_of planes d) n ↔ (pos 0 <ℤ dot n d)
ahead_by_sign planes rules n d facet =
    let (k, at) = place_of planes (canon n) facet.plane in
    let some = IsPrimitive-some n facet.primitive in
    let there = sign_there planes k (canon n) d at in
    let m = negative n in
    ⊎_elim {C = IsSignAhead planes (signs_of planes d) n ↔ (pos 0 <ℤ dot n d)}
    (λ e. let here = there ∙ ap (λ g. sign (dot g d)) e in
    let half_space = half_space_is planes rules n k Pos at (own_positive n some e) (signs_of planes d) in (
      λ h. sign_positive (dot n d) (sym here ∙ half_space.1 h),
      λ up. half_space.0 (here ∙ positive_sign (dot n d) up),
    ))
    (λ e. let here = there ∙ ap (λ g. sign (dot g d)) e in
    let half_space = half_space_is planes rules n k Neg at (own_negative n some e) (signs_of planes d) in (
      λ h. opposite_positive_back (dot m d) (dot n d) (negative_dot n d) (sign_negative (dot m d) (sym here ∙ half_space.1 h)),
      λ up. half_space.0 (here ∙ negative_sign (dot m d) (turned_negative (dot n d) (dot m d) (negative_dot n d) up)),
    ))
    (canon-either n)

pub ahead_by_signs : (t : Table) (d : V3) (a b : ℕ) → IsTable t
    → IsAheadBy t (signs_of t.planes d) a b ↔ IsAhead t d a b
ahead_by_signs t d a b rules = (
  λ h. record { i = h.i; j = h.j; across = h.across; ahead = (each (arc_of a h.i b h.j) h.across).0 h.ahead },
  λ h. record { i = h.i; j = h.j; across = h.across; ahead = (each (arc_of a h.i b h.j) h.across).1 h.ahead },
)
  where
    BySign : V3 → Type 0
    BySign = IsSignAhead t.planes (signs_of t.planes d)

    Ahead : V3 → Type 0
    Ahead n = pos 0 <ℤ dot n d

    each : (arc : Arc) → IsTableArc t arc → All BySign (facets_of t arc) ↔ All Ahead (facets_of t arc)
    each arc across =
        let one : (n : V3) → Contains (facets_of t arc) n → BySign n ↔ Ahead n = λ n c. ahead_by_sign t.planes rules.planes n d
        (All-contains (IsTableFacet t.planes) (facets_of t arc) n (rules.facets arc across).each c) in (
          λ h. All-from_members Ahead (facets_of t arc) (λ n c. (one n c).0 (All-contains BySign (facets_of t arc) n h c)),
          λ h. All-from_members BySign (facets_of t arc) (λ n c. (one n c).1 (All-contains Ahead (facets_of t arc) n h c)),
        )

-- ---- facet by facet

pub no_facets : (planes facets : List V3) (cone : List HalfSpace) → cone ≡ [] → AreAhead planes (take 0 facets) cone
no_facets planes facets cone none signs =
    subst (λ l. AreInside signs l ↔ All (IsSignAhead planes signs) (take 0 facets)) (sym none)
    (λ i k e lt. absurd (omega (arith, lt)), λ i k e lt. absurd (omega (arith, lt)))

pub facet_more : (planes facets : List V3) (n : V3) (k : ℕ) (old new : List HalfSpace) (half_space : HalfSpace)
    → slice_get facets k ≡ Some n
    → ((signs : List Sign) → IsInHalfSpace signs half_space ↔ IsSignAhead planes signs n)
    → new ≡ old ++ half_space ∷ []
    → AreAhead planes (take k facets) old → AreAhead planes (take (k + 1) facets) new
facet_more planes facets n k old new half_space at ahead grown before signs =
    through (all_pushed (IsInHalfSpace signs) old new half_space grown) (through (with_both (before signs) (ahead signs))
    (back (all_pushed (IsSignAhead planes signs) (take k facets) (take (k + 1) facets) n (take_next facets k n at))))

pub facets_all : (planes facets : List V3) (k : ℕ) (cone : List HalfSpace) → length facets ≤ k
    → AreAhead planes (take k facets) cone → AreAhead planes facets cone
facets_all planes facets k cone le = subst (λ l. AreAhead planes l cone) (take_all k facets le)

-- ---- pieces

pub pieces_are : (t : Table) (a i b k : ℕ) (signs : List Sign) → pieces_of t b ≤ k
    → Below (λ j. IsPairAhead t a i b j signs) k ↔ IsPieceAhead t a b i signs
pieces_are t a i b k signs le = (
  λ (j, lt, (across, ahead)). record { j = j; across = across; ahead = ahead },
  λ h. (h.j, (let lt = h.across.j_is in omega (arith, lt, le)), (h.across, h.ahead)),
)

pub parts_are : (t : Table) (a b k : ℕ) (signs : List Sign) → pieces_of t a ≤ k
    → Below (λ i. IsPieceAhead t a b i signs) k ↔ IsAheadBy t signs a b
parts_are t a b k signs le = (
  λ (i, lt, h). record { i = i; j = h.j; across = h.across; ahead = h.ahead },
  λ h. (h.i, (let lt = h.across.i_is in omega (arith, lt, le)), record { j = h.j; across = h.across; ahead = h.ahead }),
)

-- ---- parts

-- the arcs of some number below k
abbrev pub BelowParts : (ℕ → List Sign → ℕ → ℕ → Type 0) → ℕ → List Sign → ℕ → ℕ → Type 0
BelowParts F k signs a b = Below (λ j. F j signs a b) k

pub below_none : (F : ℕ → List Sign → ℕ → ℕ → Type 0) (old : List Batch) → All IsBatch old
    → AddsArcs (BelowParts F 0) old old
below_none F old rules = record { arcs = λ signs a b. adds_nothing (none_below (λ j. F j signs a b)); batches = rules }

pub below_more : (F : ℕ → List Sign → ℕ → ℕ → Type 0) (k : ℕ) (old mid new : List Batch)
    → AddsArcs (BelowParts F k) old mid
    → AddsArcs (F k) mid new → AddsArcs (BelowParts F (k + 1)) old new
below_more F k old mid new p q = record {
  arcs = λ signs a b. grown_more (λ j. F j signs a b) k (p.arcs signs a b) (q.arcs signs a b);
  batches = q.batches;
}

pub all_listed : (t : Table) (k : ℕ) (new : List Batch) → IsTable t → 1024 ≤ k
    → AddsArcs (BelowParts (IsPairArc t) k) [] new → ListsArcsOf t new
all_listed t k new is le p signs a b = grown_first (grown_same (p.arcs signs a b) (from, to))
    (λ none. let lt = none.2 in omega (arith, lt))
  where
    from : BelowParts (IsPairArc t) k signs a b → IsAheadBy t signs a b
    from (n, lt, (e, f, h)) = subst (λ x. IsAheadBy t signs x b) (sym e) (subst (IsAheadBy t signs (n % 32)) (sym f) h)

    to : IsAheadBy t signs a b → BelowParts (IsPairArc t) k signs a b
    to h =
        let a_is = is.small a h.across.a_in in
        let b_is = is.small b h.across.b_in in
        let n = 32 * ((a + b) % 32) + a in
        let e : a ≡ n % 32 = omega (arith, a_is) in
        let f : b ≡ (n / 32 + 32 - n % 32) % 32 = omega (arith, a_is, b_is) in (
          n,
          omega (arith, a_is, le),
          (e, f, subst (λ x. IsAheadBy t signs x ((n / 32 + 32 - n % 32) % 32)) e (subst (IsAheadBy t signs a) f h)),
        )

-- ---- cones of two parts

pub pair_added : (t : Table) (a b : ℕ) (cones : List (List HalfSpace)) (old new : List Batch)
    → ((signs : List Sign) → Any (AreInside signs) cones ↔ IsAheadBy t signs a b)
    → AddsConesOf cones a b old new → AddsArcs (ArePartsAhead t a b) old new
pair_added t a b cones old new ahead added = record {
  arcs = λ signs x y. grown_same {P = Any (IsArcInside a b signs x y) cones} (added.arcs signs x y) (
    λ (k, cone, lt, at, (e, f, i)). (e, f, (ahead signs).0 (k, cone, lt, at, i)),
    λ (e, f, h). let (k, cone, lt, at, i) = (ahead signs).1 h in (k, cone, lt, at, (e, f, i)),
  );
  batches = added.batches;
}
