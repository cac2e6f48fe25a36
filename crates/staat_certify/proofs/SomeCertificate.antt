-- A plan that takes parts apart has walls at each split, and so it has a certificate.
use Rattle.std.proofs.Common.{◌≡◌, ◌∙◌, inl, inr, ℕ, ◌<◌, arith, refl, sym, ap, subst, List, [], ◌∷◌, length, get_or, map, All, Contains, ℤ, pos, ◌≤ℤ◌, ◌<ℤ◌}
use Rattle.std.specs.Prelude.{Option, None, Some, option_and_then, option_map, slice_get, unwrap_or}
use Rattle.std.proofs.lemmas.Int.{by_lt_z}
use Rattle.std.proofs.lemmas.List.Elements.{All-cons, All-nil}
use Rattle.std.proofs.lemmas.Option.{slice_get-get_or}
use Rattle.staat_vec.specs.declared.vector.V3.{V3}
use Rattle.staat_vec.specs.Lists.{IsLeast, Lists}
use Rattle.staat_vec.specs.Vectors.{dot, vector_cmp}
use Rattle.staat_vec.proofs.Unique.{Contains-front, Contains-later}
use Rattle.staat_vec.proofs.VectorOrder.{vector_exact, vector_total}
use Rattle.staat_model.specs.declared.assembly.Part.{Part}
use Rattle.staat_model.specs.declared.certificate.Arc.{Arc}
use Rattle.staat_model.specs.declared.certificate.Body.TheVariants as body
use Rattle.staat_model.specs.declared.certificate.Certificate.{Certificate}
use Rattle.staat_model.specs.declared.certificate.Sep.{Sep}
use Rattle.staat_model.specs.declared.set.PartSet.{PartSet}
use Rattle.staat_model.specs.declared.tree.Kind.{Kind}
use Rattle.staat_model.specs.Assemblies.{IsAssembly, piece_at, piece_count}
use Rattle.staat_model.specs.Certificates.{IsAcross, WalledPlan, arc_cmp, nodes_of, unwalled, walled_leaf, walled_parts, walled_split}
use Rattle.staat_model.specs.Certify.{AreLeastWalls, HasLeastWalls, IsCertificateOf, IsFacetAway}
use Rattle.staat_model.specs.Meeting.{Meets}
use Rattle.staat_model.specs.Outcomes.{planned}
use Rattle.staat_model.specs.Pieces.{IsPiece}
use Rattle.staat_model.specs.Plans.{IsGood, Plan, leaf, parts_of, split}
use Rattle.staat_model.specs.Removal.{IsFree}
use Rattle.staat_model.proofs.Decisions.{le_or, least_or}
use Rattle.staat_model.proofs.GraphLemmas.{piece_is}
use Rattle.staat_model.proofs.Listings.{Listing, listing_sorted}
use Rattle.staat_model.proofs.Orders.{arc_exact, arc_total}
use Rattle.staat_model.proofs.PieceFacets.{meets_by_facets_lemma}
use Rattle.staat_model.proofs.SomePlanes.{arcs_listing, facets_listing}
use Rattle.staat_certify.specs.Walls.{IsAway}
use Rattle.staat_certify.proofs.WallLemmas.{IsLeastWall, wall_away}

-- ---- a wall for two pieces

above : (a : ℤ) → (a ≤ℤ pos 0 → ⊥) → pos 0 <ℤ a
above a not = by_lt_z {P = pos 0 <ℤ a} (pos 0) a (λ up. up) (λ down. absurd (not down))

some_wall : (p q : List V3) (d : V3) → IsPiece p → IsPiece q → (Meets p q d → ⊥) → (n : V3) × IsLeastWall p q d n
some_wall p q d is_p is_q apart = elim (least_or vector_cmp vector_total vector_exact (IsAway d) (λ n. le_or (dot n d) (pos 0)) facets.xs) [
  | inl t ↦ (t.x, record { has = (facets.from t.x t.listed, t.has); least = λ y h. t.least y (facets.all y h.0) h.1 })
  | inr none ↦ absurd (apart ((meets_by_facets_lemma p q d is_p is_q).1 (λ n f. above (dot n d) (none n (facets.all n f)))))
]
  where
    facets : Listing (Rattle.staat_model.specs.Facets.IsFacet p q)
    facets = facets_listing p q

some_piece : (parts : List Part) (a i : ℕ) → i < piece_count parts a → (p : List V3) × (piece_at parts a i ≡ Some p)
some_piece parts a i lt = go (slice_get parts a) refl
  where
    count : Option Part → ℕ
    count o = unwrap_or (option_map (λ part. length part.pieces) o) 0

    go : (o : Option Part) → slice_get parts a ≡ o → (p : List V3) × (piece_at parts a i ≡ Some p)
    go None e = absurd (let none : i < 0 = subst (λ o. i < count o) e lt in omega (arith, none))
    go (Some part) e =
        let small : i < length part.pieces = subst (λ o. i < count o) e lt in
        (get_or part.pieces i [], ap (λ o. option_and_then (λ (x : Part). slice_get x.pieces i) o) e ∙ slice_get-get_or part.pieces i [] small)

-- ---- the walls of a split

-- one with P for each of a list
pub chosen : {X Y : Type 0} (f : Y → X) (P : Y → Type 0) (xs : List X) → ((x : X) → Contains xs x → (y : Y) × (f y ≡ x) × P y) → (ys : List Y) × (map f ys ≡ xs) × All P ys
chosen f P [] each = ([], refl, All-nil P)
chosen f P (x ∷ xs) each =
    let (y, is, has) = each x (Contains-front x xs) in
    let (ys, are, all) = chosen f P xs (λ z c. each z (Contains-later x xs z c)) in
    (y ∷ ys, (λ i. is i ∷ are i), All-cons P y ys has all)

module _ (parts : List Part) (is : IsAssembly parts) where
  abbrev HasLeast : V3 → Sep → Type 0
  HasLeast d sep = IsLeast vector_cmp (IsFacetAway parts d sep.arc) sep.n

  arc_wall : (s r : PartSet) (d : V3) → IsFree parts s r d → (arc : Arc) → IsAcross parts s r arc → (n : V3) × IsLeast vector_cmp (IsFacetAway parts d arc) n
  arc_wall s r d free arc across =
      let (p, p_is) = some_piece parts arc.a arc.i across.i_in in
      let (q, q_is) = some_piece parts arc.b arc.j across.j_in in
      let (n, least) = some_wall p q d (piece_is parts arc.a arc.i p is p_is) (piece_is parts arc.b arc.j q is q_is)
      (λ meets. free.clear arc across.a_in across.b_in (record { p = p; q = q; p_is = p_is; q_is = q_is; holds = meets })) in
      (n, wall_away parts arc p q d n p_is q_is least)

  some_walls : (s r : PartSet) (d : V3) → IsFree parts s r d → (seps : List Sep) × AreLeastWalls parts s r d seps
  some_walls s r d free =
      let (arcs, lists) = listing_sorted arc_cmp arc_total arc_exact (arcs_listing parts s r) in
      let (seps, are, all) = chosen (λ (sep : Sep). sep.arc) (HasLeast d) arcs (λ x c. let (n, least) = arc_wall s r d free x (lists.each x c) in (record { arc = x; n = n }, refl, least)) in
      (seps, record { arcs = subst (Lists arc_cmp (IsAcross parts s r)) (sym are) lists; least = all })

  -- ---- the walls of a plan

  some_tree : (plan : Plan) (w : PartSet) → IsGood parts w plan → (t : WalledPlan) × (unwalled t ≡ plan) × HasLeastWalls parts t
  some_tree (leaf p) w good = (walled_leaf p, refl, tt)
  some_tree (split d moved rest) w good =
      let (m, m_is, m_walls) = some_tree moved (parts_of moved) good.3 in
      let (r, r_is, r_walls) = some_tree rest (parts_of rest) good.4 in
      let (seps, walls) = some_walls (parts_of moved) (parts_of rest) d good.2 in
      let placed : AreLeastWalls parts (walled_parts m) (walled_parts r) d seps =
      subst (λ (p : Plan). AreLeastWalls parts (parts_of p) (walled_parts r) d seps) (sym m_is)
      (subst (λ (p : Plan). AreLeastWalls parts (parts_of moved) (parts_of p) d seps) (sym r_is) walls) in
      (walled_split d seps m r, λ i. split d (m_is i) (r_is i), (placed, m_walls, r_walls))

  pub some_plan_certificate : (version : ℕ) (plan : Plan) (marks : List Kind) (w : PartSet) → IsGood parts w plan → (c : Certificate) × IsCertificateOf parts version (planned plan marks) c
  some_plan_certificate version plan marks w good =
      let (t, t_is, walls) = some_tree plan w good in (
        record { version = version; parts = length parts; body = body.Plan (nodes_of t) },
        record { version_is = refl; count = refl; body = record { tree = t; nodes_are = refl; plan_is = t_is; walls = walls } },
      )
