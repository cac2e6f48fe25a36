-- How a direction leads past the facets of the pieces of two parts, in both orders at once.
use Rattle.std.proofs.Common.{◌≡◌, ◌↔◌, ◌⊎◌, inl, inr, ⊎_elim, ◌∙◌, ap, ℕ, ◌+◌, ◌<◌, ◌≤◌, pos, ◌<ℤ◌, arith, refl, subst, sym, Bool, List, All}
use Rattle.std.specs.Prelude.{IsTrue}
use Rattle.std.proofs.lemmas.List.Elements.{All-weaker}
use Rattle.std.specs.Prelude.{neg_ℤ}
use Rattle.staat_vec.specs.declared.vector.V3.{V3}
use Rattle.staat_vec.specs.Vectors.{dot, negative}
use Rattle.staat_vec.proofs.Divisors.{neg-neg}
use Rattle.staat_vec.proofs.Integers.{opposite_negative_back, opposite_positive_back}
use Rattle.staat_vec.proofs.VecRing.{dot_negative}
use Rattle.staat_model.specs.declared.certificate.Arc.{Arc}
use Rattle.staat_model.specs.Sets.{Has}
use Rattle.staat_pairs.specs.Searches.{arc_of}
use Rattle.staat_pairs.specs.Tables.{IsTableArc, Table, facets_of, pieces_of, reversed_facets}
use Rattle.staat_vec.proofs.Naturals.{lt_one_more_cases}
use Rattle.staat_planes.specs.declared.leads.Leads.{Leads}
use Rattle.staat_planes.specs.Tables.{IsAhead}
use Rattle.staat_pairs.proofs.ReversedFacets.{ahead_reversed}
use Rattle.staat_pairs.proofs.TableLemmas.{back_across}

-- ---- what leads behind the facets of two pieces leads ahead of those of the two in the other order

turned : (n d : V3) → (dot n d <ℤ pos 0) ↔ (pos 0 <ℤ dot n (negative d))
turned n d =
    let e = dot_negative n d in (
      opposite_positive_back (dot n d) (dot n (negative d)) (sym (neg-neg (dot n d)) ∙ ap neg_ℤ (sym e)),
      opposite_negative_back (dot n (negative d)) (dot n d) e,
    )

pub behind_turned : (ns : List V3) (d : V3) → All (λ n. dot n d <ℤ pos 0) ns ↔ All (λ n. pos 0 <ℤ dot n (negative d)) ns
behind_turned ns d = (
  All-weaker (λ n. dot n d <ℤ pos 0) (λ n. pos 0 <ℤ dot n (negative d)) (λ n. (turned n d).0) ns,
  All-weaker (λ n. pos 0 <ℤ dot n (negative d)) (λ n. dot n d <ℤ pos 0) (λ n. (turned n d).1) ns,
)

pub behind_reversed : (ns : List V3) (d : V3) → All (λ n. dot n d <ℤ pos 0) ns ↔ All (λ n. pos 0 <ℤ dot n d) (reversed_facets ns)
behind_reversed ns d = (
  λ all. (ahead_reversed ns d).0 ((behind_turned ns d).0 all),
  λ all. (behind_turned ns d).1 ((ahead_reversed ns d).1 all),
)

-- ---- the pieces of two parts, as far as they were looked at

-- those of the first m pieces of the one part, and the next one with the first n of the other
abbrev IsBefore : (m n i j : ℕ) → Type 0
IsBefore m n i j = (i < m) ⊎ ((i ≡ m) × (j < n))

-- whether some of these have P
abbrev IsFound : (ℕ → ℕ → Type 0) → (m n : ℕ) → Bool → Type 0
IsFound P m n r = IsTrue r ↔ ((i : ℕ) × (j : ℕ) × IsBefore m n i j × P i j)

one_found : (P : ℕ → ℕ → Type 0) (m n : ℕ) (old one new : Bool) → IsFound P m n old → IsTrue one ↔ P m n → IsTrue new ↔ (IsTrue old ⊎ IsTrue one) → IsFound P m (n + 1) new
one_found P m n old one new found here either = (
  λ t. ⊎_elim {C = (i : ℕ) × (j : ℕ) × IsBefore m (n + 1) i j × P i j}
      (λ o. let (i, j, before, p) = found.0 o in (i, j, ⊎_elim {C = IsBefore m (n + 1) i j} (λ lt. inl lt) (λ at. inr (at.0, let lt = at.1 in omega (arith, lt))) before, p))
      (λ o. (m, n, inr (refl, omega arith), here.0 o))
      (either.0 t),
  λ (i, j, before, p). either.1 (⊎_elim {C = IsTrue old ⊎ IsTrue one}
      (λ lt. inl (found.1 (i, j, inl lt, p)))
      (λ at. ⊎_elim {C = IsTrue old ⊎ IsTrue one} (λ lt. inl (found.1 (i, j, inr (at.0, lt), p))) (λ e. inr (here.1 (subst (λ k. P k n) at.0 (subst (P i) e p)))) (lt_one_more_cases j n at.1))
      before),
)

row_found : (P : ℕ → ℕ → Type 0) (m n : ℕ) (r : Bool) → IsFound P m n r → ((j : ℕ) → P m j → j < n) → IsFound P (m + 1) 0 r
row_found P m n r found few = (
  λ t. let (i, j, before, p) = found.0 t in (i, j, inl (⊎_elim {C = i < m + 1} (λ lt. omega (arith, lt)) (λ at. let e = at.0 in omega (arith, e)) before), p),
  λ (i, j, before, p). found.1 (
    i,
    j,
    ⊎_elim {C = IsBefore m n i j}
        (λ lt. ⊎_elim {C = IsBefore m n i j} (λ less. inl less) (λ e. inr (e, few j (subst (λ k. P k j) e p))) (lt_one_more_cases i m lt))
        (λ at. let none = at.1 in absurd (omega (arith, none))) before,
    p,
  ),
)

-- ---- arcs of a table

-- the pieces of an arc stand in the table, and d leads ahead of all their facets
record IsArcAhead (t : Table) (d : V3) (arc : Arc) : Type 0 where
  across : IsTableArc t arc
  ahead : All (λ n. pos 0 <ℤ dot n d) (facets_of t arc)

-- whether d leads ahead of all facets of some of the pieces of the parts a and b, and of some in the other order
pub record AreFound (t : Table) (d : V3) (a b m n : ℕ) (leads : Leads) : Type 0 where
  ahead : IsFound (λ i j. IsArcAhead t d (arc_of a i b j)) m n leads.ahead
  behind : IsFound (λ i j. IsArcAhead t d (arc_of b j a i)) m n leads.behind

module _ (t : Table) (d : V3) (a b : ℕ) where
  pub none_looked_at : (leads : Leads) → (IsTrue leads.ahead → ⊥) → (IsTrue leads.behind → ⊥) → AreFound t d a b 0 0 leads
  none_looked_at leads no_ahead no_behind = record { ahead = none leads.ahead no_ahead; behind = none leads.behind no_behind }
    where
      none : {P : ℕ → ℕ → Type 0} (r : Bool) → (IsTrue r → ⊥) → IsFound P 0 0 r
      none r out = (λ r_is. absurd (out r_is), λ (i, j, before, p). absurd (⊎_elim {C = ⊥} (λ lt. omega (arith, lt)) (λ at. let lt = at.1 in omega (arith, lt)) before))

  pub pair_looked_at : (i j : ℕ) (old one new : Leads) → AreFound t d a b i j old → Has t.of a → Has t.of b → a < b → i < pieces_of t a → j < pieces_of t b
      → IsTrue one.ahead ↔ All (λ n. pos 0 <ℤ dot n d) (facets_of t (arc_of a i b j)) → IsTrue one.behind ↔ All (λ n. pos 0 <ℤ dot n d) (facets_of t (arc_of b j a i))
      → IsTrue new.ahead ↔ (IsTrue old.ahead ⊎ IsTrue one.ahead) → IsTrue new.behind ↔ (IsTrue old.behind ⊎ IsTrue one.behind) → AreFound t d a b i (j + 1) new
  pair_looked_at i j old one new found a_in b_in lt i_is j_is is_ahead is_behind ahead behind =
      let across : IsTableArc t (arc_of a i b j) = record { a_in = a_in; b_in = b_in; different = λ e. omega (arith, lt, e); i_is = i_is; j_is = j_is } in
      record {
        ahead = one_found (λ i j. IsArcAhead t d (arc_of a i b j)) i j old.ahead one.ahead new.ahead found.ahead (λ r. record { across = across; ahead = is_ahead.0 r }, λ h. is_ahead.1 h.ahead) ahead;
        behind = one_found (λ i j. IsArcAhead t d (arc_of b j a i)) i j old.behind one.behind new.behind found.behind (λ r. record { across = back_across t (arc_of a i b j) across; ahead = is_behind.0 r }, λ h. is_behind.1 h.ahead) behind;
      }

  pub row_looked_at : (i n : ℕ) (leads : Leads) → AreFound t d a b i n leads → pieces_of t b ≤ n → AreFound t d a b (i + 1) 0 leads
  row_looked_at i n leads found all = record {
    ahead = row_found (λ i j. IsArcAhead t d (arc_of a i b j)) i n leads.ahead found.ahead (λ j h. let lt : j < pieces_of t b = h.across.j_is in omega (arith, lt, all));
    behind = row_found (λ i j. IsArcAhead t d (arc_of b j a i)) i n leads.behind found.behind (λ j h. let lt : j < pieces_of t b = h.across.i_is in omega (arith, lt, all));
  }

  -- where both are found, or all pieces were looked at
  pub all_looked_at : (m n : ℕ) (leads : Leads) → AreFound t d a b m n leads → (IsTrue leads.ahead × IsTrue leads.behind) ⊎ (pieces_of t a ≤ m) → (IsTrue leads.ahead ↔ IsAhead t d a b) × (IsTrue leads.behind ↔ IsAhead t d b a)
  all_looked_at m n leads found done = (
    (
      λ r. let (i, j, before, p) = found.ahead.0 r in record { i = i; j = j; across = p.across; ahead = p.ahead },
      λ h. ⊎_elim {C = IsTrue leads.ahead} (λ both. both.0)
          (λ all. found.ahead.1 (h.i, h.j, inl (let lt : h.i < pieces_of t a = h.across.i_is in omega (arith, lt, all)), record { across = h.across; ahead = h.ahead })) done,
    ),
    (
      λ r. let (i, j, before, p) = found.behind.0 r in record { i = j; j = i; across = p.across; ahead = p.ahead },
      λ h. ⊎_elim {C = IsTrue leads.behind} (λ both. both.1)
          (λ all. found.behind.1 (h.j, h.i, inl (let lt : h.j < pieces_of t a = h.across.j_is in omega (arith, lt, all)), record { across = h.across; ahead = h.ahead })) done,
    ),
  )
