-- The least walls of a split, found arc by arc.
use Rattle.std.proofs.Common.{◌≡◌, ◌⊎◌, inl, inr, ⊎_elim, ℕ, suc, ◌+◌, ◌<◌, ◌≤◌, arith, refl, sym, ap, subst, ◌∙◌, List, [], ◌∷◌, ◌++◌, length, map, get_or, take, drop, pos, ◌<ℤ◌, All, Contains}
use Rattle.std.specs.Prelude.{Some}
use Rattle.std.specs.List.Sorted.{IsStrictlySortedBy}
use Rattle.std.specs.declared.cmp.Ordering.TheVariants.{Less}
use Rattle.std.proofs.lemmas.Int.{ints}
use Rattle.std.proofs.lemmas.List.{map-append, take-append-drop}
use Rattle.std.proofs.lemmas.List.Elements.{All-contains, All-from_recursion, All-nil, All-push, All-weaker, Contains-append_cases, Contains-append_left, Contains-push}
use Rattle.std.proofs.Math.Seq.{drop-cons}
use Rattle.staat_vec.specs.declared.vector.V3.{V3}
use Rattle.staat_vec.specs.Lists.{IsFirst, IsLeast, Lists}
use Rattle.staat_vec.specs.Vectors.{dot, vector_cmp}
use Rattle.staat_vec.proofs.ListLaws.{all_of, first_right, only_one}
use Rattle.staat_vec.proofs.Naturals.{lt_one_more_cases}
use Rattle.staat_vec.proofs.Options.{some_injective}
use Rattle.staat_vec.proofs.Unique.{Contains-cases, Contains-front, Contains-later, Contains-nothing, IsFirst-in}
use Rattle.staat_model.specs.declared.assembly.Part.{Part}
use Rattle.staat_model.specs.declared.certificate.Arc.{Arc}
use Rattle.staat_model.specs.declared.certificate.Sep.{Sep}
use Rattle.staat_model.specs.declared.set.PartSet.{PartSet}
use Rattle.staat_model.specs.Assemblies.{piece_at, piece_count}
use Rattle.staat_model.specs.Certificates.{IsAcross, arc_cmp}
use Rattle.staat_model.specs.Certify.{AreLeastWalls, IsFacetAway}
use Rattle.staat_model.specs.Facets.{IsFacet}
use Rattle.staat_model.specs.Meeting.{Meets}
use Rattle.staat_model.specs.Pieces.{IsPiece}
use Rattle.staat_model.specs.Sets.{Has}
use Rattle.staat_model.proofs.ArcOrder.{less_by_a, less_by_i, less_by_b, less_by_j}
use Rattle.staat_model.proofs.PieceFacets.{meets_by_facets_lemma}
use Rattle.staat_model.proofs.SomePlanes.{part_there}
use Rattle.staat_certify.specs.Walls.{AreWallsBefore, IsAway, IsArcBefore, IsBelowOr}

-- ---- the first facet that d does not lead ahead of

not_away : (d n : V3) → pos 0 <ℤ dot n d → IsAway d n → ⊥
not_away d n ahead away = omega (arith, ints)

pub first_found : (d : V3) (facets : List V3) (k : ℕ) (o : V3) → k < length facets → All (λ m. pos 0 <ℤ dot m d) (take k facets) → IsAway d (get_or facets k o) → IsFirst (IsAway d) facets (get_or facets k o)
first_found d facets k o lt ahead away =
    subst (λ l. IsFirst (IsAway d) l (get_or facets k o)) (ap (λ l. take k facets ++ l) (sym (drop-cons facets k o lt)) ∙ take-append-drop k facets)
    (first_right (IsAway d) (take k facets) (get_or facets k o ∷ drop (suc k) facets) (get_or facets k o)
    (All-weaker (λ m. pos 0 <ℤ dot m d) (λ m. IsAway d m → ⊥) (λ m up. not_away d m up) (take k facets) ahead) (inl (refl, away)))

-- the first of an ascending list is the least
first_before : (d : V3) (xs : List V3) (n y : V3) → IsStrictlySortedBy vector_cmp xs → IsFirst (IsAway d) xs n → Contains xs y → IsAway d y → (y ≡ n) ⊎ (vector_cmp n y ≡ Less)
unfolding IsStrictlySortedBy
first_before d [] n y sorted first c away = absurd first
first_before d (x ∷ xs) n y sorted (inl h) c away = ⊎_elim {C = (y ≡ n) ⊎ (vector_cmp n y ≡ Less)}
    (λ e. inl (e ∙ sym h.0))
    (λ later. inr (subst (λ z. vector_cmp z y ≡ Less) (sym h.0) (All-contains (λ z. vector_cmp x z ≡ Less) xs y (All-from_recursion (λ z. vector_cmp x z ≡ Less) xs sorted.0) later)))
    (Contains-cases x xs y c)
first_before d (x ∷ xs) n y sorted (inr h) c away = ⊎_elim {C = (y ≡ n) ⊎ (vector_cmp n y ≡ Less)}
    (λ e. absurd (h.0 (subst (IsAway d) e away)))
    (λ later. first_before d xs n y sorted.1 h.1 later away)
    (Contains-cases x xs y c)

-- the least facet of two pieces that d does not lead ahead of
abbrev pub IsLeastWall : List V3 → List V3 → V3 → V3 → Type 0
IsLeastWall p q d n = IsLeast vector_cmp (λ m. IsFacet p q m × IsAway d m) n

pub least_wall_is : (p q facets : List V3) (d n : V3) → Lists vector_cmp (IsFacet p q) facets → IsFirst (IsAway d) facets n → IsLeastWall p q d n
least_wall_is p q facets d n lists first = record {
  has = let f = IsFirst-in (IsAway d) facets n first in (lists.each n f.0, f.1);
  least = λ y h. first_before d facets n y lists.ascending first (lists.all y h.0) h.1;
}

pub some_away : (p q facets : List V3) (d : V3) → IsPiece p → IsPiece q → Lists vector_cmp (IsFacet p q) facets → All (λ n. pos 0 <ℤ dot n d) facets → Meets p q d
some_away p q facets d is_p is_q lists ahead = (meets_by_facets_lemma p q d is_p is_q).1 (λ n f. All-contains (λ m. pos 0 <ℤ dot m d) facets n ahead (lists.all n f))

-- ---- the wall of an arc

pub wall_away : (parts : List Part) (arc : Arc) (p q : List V3) (d n : V3) → piece_at parts arc.a arc.i ≡ Some p → piece_at parts arc.b arc.j ≡ Some q → IsLeastWall p q d n → IsLeast vector_cmp (IsFacetAway parts d arc) n
wall_away parts arc p q d n p_is q_is least = record {
  has = record { facet = record { p = p; q = q; p_is = p_is; q_is = q_is; holds = least.has.0 }; away = least.has.1 };
  least = λ y h.
      let f = h.facet in
      let first : f.p ≡ p = some_injective f.p p (sym f.p_is ∙ p_is) in
      let second : f.q ≡ q = some_injective f.q q (sym f.q_is ∙ q_is) in
      least.least y (subst (λ s. IsFacet s q y) first (subst (λ s. IsFacet f.p s y) second f.holds), h.away);
}

-- ---- the arcs before one

before_less : (x arc : Arc) → IsArcBefore arc.a arc.i arc.b arc.j x → arc_cmp x arc ≡ Less
before_less x arc (inl lt) = less_by_a x arc lt
before_less x arc (inr (e, inl lt)) = less_by_i x arc e lt
before_less x arc (inr (e, inr (f, inl lt))) = less_by_b x arc e f lt
before_less x arc (inr (e, inr (f, inr (g, lt)))) = less_by_j x arc e f g lt

before_or : (x arc : Arc) → IsArcBefore arc.a arc.i arc.b (arc.j + 1) x → IsArcBefore arc.a arc.i arc.b arc.j x ⊎ (x ≡ arc)
before_or x arc (inl lt) = inl (inl lt)
before_or x arc (inr (e, inl lt)) = inl (inr (e, inl lt))
before_or x arc (inr (e, inr (f, inl lt))) = inl (inr (e, inr (f, inl lt)))
before_or x arc (inr (e, inr (f, inr (g, lt)))) = ⊎_elim (λ less. inl (inr (e, inr (f, inr (g, less))))) (λ h. inr (λ t. record { a = e t; i = f t; b = g t; j = h t })) (lt_one_more_cases x.j arc.j lt)

below_mapped : (m n : ℕ) {P Q : Type 0} → (P → Q) → IsBelowOr m n P → IsBelowOr m n Q
below_mapped m n f (inl lt) = inl lt
below_mapped m n f (inr (e, p)) = inr (e, f p)

none_below : (m : ℕ) {P : Type 0} → (P → ⊥) → IsBelowOr m 0 P → ⊥
none_below m none (inl lt) = omega arith
none_below m none (inr (e, p)) = none p

next_up : (m n : ℕ) {P N : Type 0} → IsBelowOr m n P → IsBelowOr m (n + 1) N
next_up m n (inl lt) = inl (omega (arith, lt))
next_up m n (inr (e, p)) = inl (omega (arith, e))

next_down : (m n : ℕ) {P N : Type 0} → (N → ⊥) → (m ≡ n → P) → IsBelowOr m (n + 1) N → IsBelowOr m n P
next_down m n none here (inl lt) = ⊎_elim (λ less. inl less) (λ e. inr (e, here e)) (lt_one_more_cases m n lt)
next_down m n none here (inr (e, p)) = absurd (none p)

sorted_push : (xs : List Arc) (y : Arc) → IsStrictlySortedBy arc_cmp xs → ((x : Arc) → Contains xs x → arc_cmp x y ≡ Less) → IsStrictlySortedBy arc_cmp (xs ++ y ∷ [])
unfolding IsStrictlySortedBy
sorted_push [] y s below = (tt, tt)
sorted_push (x ∷ xs) y s below = (
  all_of (λ z. arc_cmp x z ≡ Less) (xs ++ y ∷ []) (λ z c. ⊎_elim
      (λ front. All-contains (λ z. arc_cmp x z ≡ Less) xs z (All-from_recursion (λ z. arc_cmp x z ≡ Less) xs s.0) front)
      (λ end. subst (λ z. arc_cmp x z ≡ Less) (sym (only_one y z end)) (below x (Contains-front x xs)))
      (Contains-append_cases xs (y ∷ []) z c)),
  sorted_push xs y s.1 (λ z c. below z (Contains-later x xs z c)),
)

-- ---- the walls of the arcs before one

module _ (parts : List Part) (s r : PartSet) (d : V3) where
  pub walls_none : (seps : List Sep) → seps ≡ [] → AreWallsBefore parts s r d 0 0 0 0 seps
  unfolding IsStrictlySortedBy
  walls_none seps none = subst (AreWallsBefore parts s r d 0 0 0 0) (sym none) (record {
    arcs = record {
      ascending = tt;
      each = λ x c. absurd (Contains-nothing x c);
      all = λ x p. absurd (none_below x.a (none_below x.i (none_below x.b (λ lt. omega arith))) p.1);
    };
    least = All-nil (λ (sep : Sep). IsLeast vector_cmp (IsFacetAway parts d sep.arc) sep.n);
  })

  -- one wall more
  pub walls_more : (arc : Arc) (n : V3) (old new : List Sep) → AreWallsBefore parts s r d arc.a arc.i arc.b arc.j old → IsAcross parts s r arc
      → IsLeast vector_cmp (IsFacetAway parts d arc) n → new ≡ old ++ record { arc = arc; n = n } ∷ []
      → AreWallsBefore parts s r d arc.a arc.i arc.b (arc.j + 1) new
  walls_more arc n old new before across least is =
      let arcs : List Arc = map (λ sep. sep.arc) old in
      let lists = before.arcs in
      subst (AreWallsBefore parts s r d arc.a arc.i arc.b (arc.j + 1)) (sym is) (record {
        arcs = subst (Lists arc_cmp After) (sym (map-append (λ (sep : Sep). sep.arc) old (record { arc = arc; n = n } ∷ []))) (record {
          ascending = sorted_push arcs arc lists.ascending (λ x c. before_less x arc (lists.each x c).1);
          each = λ x c. ⊎_elim {C = After x}
              (λ front. let p = lists.each x front in (p.0, below_mapped x.a arc.a (below_mapped x.i arc.i (below_mapped x.b arc.b (λ lt. omega (arith, lt)))) p.1))
              (λ end. subst After (sym (only_one arc x end)) (across, inr (refl, inr (refl, inr (refl, omega arith)))))
              (Contains-append_cases arcs (arc ∷ []) x c);
          all = λ x p. ⊎_elim {C = Contains (arcs ++ arc ∷ []) x}
              (λ less. Contains-append_left arcs (arc ∷ []) x (lists.all x (p.0, less)))
              (λ same. subst (Contains (arcs ++ arc ∷ [])) (sym same) (Contains-push arcs arc))
              (before_or x arc p.1);
        });
        least = All-push (λ (sep : Sep). IsLeast vector_cmp (IsFacetAway parts d sep.arc) sep.n) old (record { arc = arc; n = n }) before.least least;
      })
    where
      After : Arc → Type 0
      After x = IsAcross parts s r x × IsArcBefore arc.a arc.i arc.b (arc.j + 1) x

  -- the same arcs come before another
  walls_as : (a i b j a' i' b' j' : ℕ) (seps : List Sep) → AreWallsBefore parts s r d a i b j seps → ((x : Arc) → IsAcross parts s r x → IsArcBefore a i b j x → IsArcBefore a' i' b' j' x)
      → ((x : Arc) → IsAcross parts s r x → IsArcBefore a' i' b' j' x → IsArcBefore a i b j x) → AreWallsBefore parts s r d a' i' b' j' seps
  walls_as a i b j a' i' b' j' seps walls to from = let lists = walls.arcs in record {
    arcs = record { ascending = lists.ascending; each = λ x c. let p = lists.each x c in (p.0, to x p.0 p.1); all = λ x p. lists.all x (p.0, from x p.0 p.1) };
    least = walls.least;
  }

  -- all pieces of the part b, all parts, and all pieces of the part a
  pub next_b : (a i b j : ℕ) (seps : List Sep) → ((k : ℕ) → Has r b × (k < piece_count parts b) → k < j) → AreWallsBefore parts s r d a i b j seps → AreWallsBefore parts s r d a i (b + 1) 0 seps
  next_b a i b j seps all walls = walls_as a i b j a i (b + 1) 0 seps walls
      (λ x in_x. below_mapped x.a a (below_mapped x.i i (next_up x.b b)))
      (λ x in_x. below_mapped x.a a (below_mapped x.i i (next_down x.b b (λ lt. omega arith) (λ e. all x.j (subst (λ c. Has r c × (x.j < piece_count parts c)) e (in_x.b_in, in_x.j_in))))))

  pub next_i : (a i b : ℕ) (seps : List Sep) → length parts ≤ b → AreWallsBefore parts s r d a i b 0 seps → AreWallsBefore parts s r d a (i + 1) 0 0 seps
  next_i a i b seps all walls = walls_as a i b 0 a (i + 1) 0 0 seps walls
      (λ x in_x. below_mapped x.a a (next_up x.i i))
      (λ x in_x. below_mapped x.a a (next_down x.i i (none_below x.b (λ lt. omega arith)) (λ e. inl (omega (arith, part_there parts x.b x.j in_x.j_in, all)))))

  pub next_a : (a i : ℕ) (seps : List Sep) → ((k : ℕ) → Has s a × (k < piece_count parts a) → k < i) → AreWallsBefore parts s r d a i 0 0 seps → AreWallsBefore parts s r d (a + 1) 0 0 0 seps
  next_a a i seps all walls = walls_as a i 0 0 (a + 1) 0 0 0 seps walls
      (λ x in_x. next_up x.a a)
      (λ x in_x. next_down x.a a (none_below x.i (none_below x.b (λ lt. omega arith))) (λ e. inl (all x.i (subst (λ c. Has s c × (x.i < piece_count parts c)) e (in_x.a_in, in_x.i_in)))))

  pub all_walls : (a : ℕ) (seps : List Sep) → length parts ≤ a → AreWallsBefore parts s r d a 0 0 0 seps → AreLeastWalls parts s r d seps
  all_walls a seps all walls = let lists = walls.arcs in record {
    arcs = record { ascending = lists.ascending; each = λ x c. (lists.each x c).0; all = λ x p. lists.all x (p, inl (omega (arith, part_there parts x.a x.i p.i_in, all))) };
    least = walls.least;
  }
