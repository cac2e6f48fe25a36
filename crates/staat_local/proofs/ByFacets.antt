-- Two pieces touch where some difference lies across all facets, and so where the sum of the facets keeps no two of their
-- points apart; they collide soon where they touch and meet.
use Rattle.std.proofs.Common.{◌≡◌, ◌↔◌, ◌⊎◌, inl, inr, refl, Bool, true, false, IsTrue, Any, ⊎_elim, ◌≢◌, sym, subst, ◌∙◌, arith, ℤ, pos, ◌+ℤ◌, ◌-ℤ◌, ◌*ℤ◌, ◌≤ℤ◌, ◌<ℤ◌, neg_ℤ, List, [], ◌∷◌, ◌≤◌, length, All, Contains}
use Rattle.std.specs.Prelude.{Some}
use Rattle.std.proofs.lemmas.Int.{ints, by_lt_z}
use Rattle.std.proofs.lemmas.List.Elements.{All-cons, All-contains, All-nil, All-weaker}
use Rattle.staat_vec.specs.declared.vector.V3.{V3}
use Rattle.staat_vec.specs.Lists.{Lists}
use Rattle.staat_vec.specs.Vectors.{cross, dot, minus, negative, origin, vector_cmp}
use Rattle.staat_vec.specs.Primitives.{primitive}
use Rattle.staat_vec.proofs.Order.{cancel_zero}
use Rattle.staat_vec.proofs.Primitives.{primitive-is}
use Rattle.staat_vec.proofs.VecRing.{dot_cross_left, dot_cross_right, negative_dot}
use Rattle.staat_model.specs.declared.assembly.Part.{Part}
use Rattle.staat_model.specs.declared.certificate.Arc.{Arc}
use Rattle.staat_model.specs.Assemblies.{HoldsAt, IsAssembly, piece_at}
use Rattle.staat_model.proofs.GraphLemmas.{piece_is}
use Rattle.staat_model.specs.Cones.{IsAbove, differences}
use Rattle.staat_model.specs.Facets.{IsFacet}
use Rattle.staat_model.specs.Meeting.{Meets}
use Rattle.staat_model.specs.Pieces.{IsPiece}
use Rattle.staat_model.proofs.Alternative.{IsSeparated, alternative}
use Rattle.staat_model.proofs.CornerLemmas.{above_primitive, dot_multiple}
use Rattle.staat_model.proofs.Decisions.{all_or, le_or, not_or}
use Rattle.staat_model.proofs.SomePlanes.{facets_listing}
use Rattle.staat_vec.proofs.ListLaws.{Contains-there}
use Rattle.staat_vec.proofs.Unique.{Contains-front, from_place}
use Rattle.staat_model.proofs.Differences.{in_differences}
use Rattle.staat_model.proofs.Edge.{edge_below}
use Rattle.staat_model.proofs.Members.{All-from_members}
use Rattle.staat_model.proofs.PieceFacets.{beyond_is_above, differences_are, from_cone_facet, piece_some, pieces_span}
use Rattle.staat_local.specs.Contacts.{Contact, Starts, total}
use Rattle.staat_local.specs.Touching.{IsFarthest}
use Rattle.staat_local.proofs.Contacts.{IsPastAt, contact_combined, meets_of_start, past_no_contact, past_no_start, soon_weights}
use Rattle.staat_local.proofs.Points.{all_level}
use Rattle.staat_vec.proofs.Integers.{product_zero}
use Rattle.staat_vec.proofs.VectorLaws.{dot_minus}
use Rattle.staat_vec.proofs.Options.{one_answer}

module _ (p q : List V3) (is_p : IsPiece p) (is_q : IsPiece q) where
  abbrev vs : List V3
  vs = differences p q

  facet_of : (g h : V3) → Contains vs g → Contains vs h → cross g h ≢ origin → IsAbove (cross g h) vs → IsFacet p q (primitive (cross g h))
  facet_of g h g_in h_in some above =
      let n = primitive (cross g h) in
      let r = primitive-is (cross g h) some in
      from_cone_facet p q vs n (differences_are p q) (record {
        primitive = r.primitive;
        above = above_primitive vs (cross g h) n r above;
        across = record {
          u = g;
          v = h;
          u_in = g_in;
          v_in = h_in;
          independent = some;
          u_on = cancel_zero r.factor (dot g n) r.positive (sym (dot_multiple g (cross g h) n r.factor r.multiple) ∙ dot_cross_left g h);
          v_on = cancel_zero r.factor (dot h n) r.positive (sym (dot_multiple h (cross g h) n r.factor r.multiple) ∙ dot_cross_right g h);
        };
      })

  -- a difference that lies across all facets: the pieces touch
  pub contact_across : (w : V3) → Contains vs w → ((n : V3) → IsFacet p q n → dot w n ≡ pos 0) → Contact p q
  contact_across w w_in across = ⊎_elim {C = Contact p q} (λ c. contact_combined p q w w_in c) (λ s. absurd (clash s)) (alternative vs (negative w))
    where
      clash : IsSeparated vs (negative w) → ⊥
      clash (x, up, low) =
          let (g, h, (g_in, h_in, some, above), side) = edge_below vs x (negative w) (pieces_span p q is_p is_q) up low in
          let n = primitive (cross g h) in
          let r = primitive-is (cross g h) some in
          let turned = negative_dot w (cross g h) in
          let multiple = dot_multiple w (cross g h) n r.factor r.multiple in
          let level = product_zero (pos r.factor) (dot w n) (across n (facet_of g h g_in h_in some above)) in
          omega (arith, ints, turned, multiple, level, side)

module _ (p q facets : List V3) (is_p : IsPiece p) (is_q : IsPiece q) (are : (n : V3) → Contains facets n ↔ IsFacet p q n) where
  -- no farther along their sum: across each of them
  pub contact_where_near : (a b : V3) → Contains p a → Contains q b → dot b (total facets) ≤ℤ dot a (total facets) → Contact p q
  contact_where_near a b a_in b_in near =
      let w = minus b a in
      let w_in : Contains (differences p q) (minus b a) = in_differences p q a b a_in b_in in
      let up : All (λ n. pos 0 ≤ℤ dot (minus b a) n) facets = All-from_members (λ n. pos 0 ≤ℤ dot (minus b a) n) facets
      (λ n n_in. All-contains (λ v. pos 0 ≤ℤ dot v n) (differences p q) (minus b a) (beyond_is_above p q (differences p q) n (differences_are p q) ((are n).0 n_in).beyond) w_in) in
      let low : dot (minus b a) (total facets) ≤ℤ pos 0 = (let e = dot_minus b a (total facets) in omega (arith, ints, e, near)) in
      contact_across p q is_p is_q w w_in (λ n f. All-contains (λ n. dot (minus b a) n ≡ pos 0) facets n (all_level (minus b a) facets up low) ((are n).1 f))

-- where all of q lies farther along some vector than all of p
past_where_far : (p q : List V3) (n : V3) (m : ℤ) → All (λ v. dot v n ≤ℤ m) p → ((b : V3) → Contains q b → dot b n ≤ℤ m → ⊥) → IsPastAt p q n m
past_where_far p q n m most far = record { first = most; second = All-from_members (λ v. (m +ℤ pos 1) ≤ℤ dot v n) q (λ v v_in. beyond (dot v n) (far v v_in)) }
  where
    beyond : (z : ℤ) → (z ≤ℤ m → ⊥) → (m +ℤ pos 1) ≤ℤ z
    beyond z not = by_lt_z {P = (m +ℤ pos 1) ≤ℤ z} m z (λ up. omega (arith, ints, up)) (λ low. absurd (not low))

-- ---- what starts to collide touches

-- a point that lies farthest along n
farthest : (n : V3) (p : List V3) → 1 ≤ length p → (m : V3) × Contains p m × All (λ v. dot v n ≤ℤ dot m n) p
farthest n [] some = absurd (omega arith)
farthest n (v ∷ []) some = (v, Contains-front v [], All-cons (λ w. dot w n ≤ℤ dot v n) v [] (omega (arith, ints)) (All-nil (λ w. dot w n ≤ℤ dot v n)))
farthest n (v ∷ u ∷ us) some =
    let (m, m_in, most) = farthest n (u ∷ us) (omega arith) in
    by_lt_z {P = (m : V3) × Contains (v ∷ u ∷ us) m × All (λ v. dot v n ≤ℤ dot m n) (v ∷ u ∷ us)} (dot m n) (dot v n)
    (λ up. (v, Contains-front v (u ∷ us), All-cons (λ w. dot w n ≤ℤ dot v n) v (u ∷ us) (omega (arith, ints)) (All-weaker (λ w. dot w n ≤ℤ dot m n) (λ w. dot w n ≤ℤ dot v n) (λ w h. omega (arith, ints, h, up)) (u ∷ us) most)))
    (λ low. (m, Contains-there v m (u ∷ us) m_in, All-cons (λ w. dot w n ≤ℤ dot m n) v (u ∷ us) low most))

contact_of_start : (p q : List V3) (d : V3) → IsPiece p → IsPiece q → Starts p q d → Contact p q
contact_of_start p q d is_p is_q starts =
    let some : 1 ≤ length p = piece_some p is_p in
    let facets = facets_listing p q in
    let n = total facets.xs in
    let (top, top_in, most) = farthest n p some in
    elim (all_or (λ b. dot b n ≤ℤ dot top n → ⊥) (λ b. not_or (le_or (dot b n) (dot top n))) q) [
      | inl far ↦ absurd (past_no_start p q n d (dot top n) some (past_where_far p q n (dot top n) most (λ b b_in. All-contains (λ b. dot b n ≤ℤ dot top n → ⊥) q b far b_in)) starts)
      | inr t ↦ (elim (le_or (dot t.1.x n) (dot top n)) [
        | inl near ↦ contact_where_near p q facets.xs is_p is_q (λ m. (facets.from m, facets.all m)) top t.1.x top_in (from_place q t.0 t.1.x t.1.at) near
        | inr off ↦ absurd (t.1.fails off)
      ])
    ]

pub starts_by_contact_lemma : (p q : List V3) (d : V3) → IsPiece p → IsPiece q → Starts p q d ↔ (Contact p q × Meets p q d)
starts_by_contact_lemma p q d is_p is_q = (
  (λ starts. (contact_of_start p q d is_p is_q starts, meets_of_start p q d starts)),
  λ both k one. soon_weights p q d k both.0 both.1,
)

-- ---- the two pieces of an arc

-- the sum of the facets tells whether they touch
pub touching_is : (parts : List Part) (facets p q : List V3) (arc : Arc) (n : V3) (far : ℤ) (near : Bool) → IsAssembly parts → HoldsAt parts arc (λ p q. Lists vector_cmp (IsFacet p q) facets)
    → piece_at parts arc.a arc.i ≡ Some p → piece_at parts arc.b arc.j ≡ Some q → n ≡ total facets
    → IsFarthest n p far → IsTrue near ↔ Any (λ v. dot v n ≤ℤ far) q → IsTrue near ↔ HoldsAt parts arc Contact
touching_is parts facets p q arc n far near is h p_is q_is sum reach test = (
  (λ t.
      let (k, b, lt, e, close) = test.0 t in
      let (i, a, low, f, at) = reach.at in record {
        p = p;
        q = q;
        p_is = p_is;
        q_is = q_is;
        holds = contact_where_near p q facets piece_p piece_q are a b (i, low, f) (k, lt, e)
            (subst (λ s. dot b s ≤ℤ dot a s) sum (subst (λ z. dot b n ≤ℤ z) (sym at) close));
      }),
  λ touch.
      let contact : Contact p q = subst (λ x. Contact x q) (one_answer (piece_at parts arc.a arc.i) touch.p p touch.p_is p_is) (subst (λ y. Contact touch.p y) (one_answer (piece_at parts arc.b arc.j) touch.q q touch.q_is q_is) touch.holds) in
      ⊎_elim {C = IsTrue near} (λ t. t)
      (λ off. absurd (past_no_contact p q n far (past_where_far p q n far reach.most (λ b b_in close. off (test.1 (b_in.0, b, b_in.1, b_in.2, close)))) contact))
      (true_or near),
)
  where
    piece_p : IsPiece p
    piece_p = piece_is parts arc.a arc.i p is p_is

    piece_q : IsPiece q
    piece_q = piece_is parts arc.b arc.j q is q_is

    true_or : (b : Bool) → IsTrue b ⊎ (IsTrue b → ⊥)
    true_or true = inl refl
    true_or false = inr (λ e. cc)

    are : (m : V3) → Contains facets m ↔ IsFacet p q m
    are m =
        let first : h.p ≡ p = one_answer (piece_at parts arc.a arc.i) h.p p h.p_is p_is in
        let second : h.q ≡ q = one_answer (piece_at parts arc.b arc.j) h.q q h.q_is q_is in
        subst (λ x. Contains facets m ↔ IsFacet x q m) first (subst (λ y. Contains facets m ↔ IsFacet h.p y m) second (h.holds.each m, h.holds.all m))
