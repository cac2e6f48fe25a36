-- A hold keeps the rules where its pairs are put in order.
use Rattle.std.proofs.Common.{◌≡◌, ◌≢◌, ◌⊎◌, ℕ, zero, suc, ◌<◌, Bool, true, false, ◌&&◌, List, [], ◌∷◌, map, inl, inr, ⊎_elim, refl, sym, ap, subst, ◌∙◌, arith, All, Contains}
use Rattle.std.specs.Prelude.{Option, cond, length, nat_lt}
use Rattle.std.specs.Ordering.{eq_by_cmp, is_eq, nat_cmp, ordering_then}
use Rattle.std.specs.declared.cmp.Ordering.{Ordering}
use Rattle.std.specs.Cmp.{IsEquivalence, tied_then, unsigned_tied}
use Rattle.std.proofs.lemmas.Bool.Decides.{nat_tests}
use Rattle.std.proofs.lemmas.Cmp.{eq_by_cmp_equiv}
use Rattle.std.proofs.lemmas.List.Elements.{All-contains}
use Rattle.staat_vec.specs.declared.vector.V3.{V3}
use Rattle.staat_vec.specs.Lists.{Lists}
use Rattle.staat_vec.specs.Vectors.{cross, negative, origin}
use Rattle.staat_vec.proofs.Canons.{canon-negative}
use Rattle.staat_vec.proofs.Primitives.{IsPrimitive-some}
use Rattle.staat_model.specs.declared.assembly.Part.{Part}
use Rattle.staat_model.specs.declared.certificate.Arc.{Arc}
use Rattle.staat_model.specs.Certificates.{arc_cmp}
use Rattle.staat_model.specs.Cores.{IsCorePlane}
use Rattle.staat_model.proofs.Members.{All-from_members}
use Rattle.staat_model.proofs.Orders.{arc_exact, arc_total}
use Rattle.staat_model.proofs.Reversed.{opposite_facets_lemma}
use Rattle.staat_model.specs.contracts.certificate.ArcPartialEq.TheImpl as impl
use Rattle.staat_motion.specs.Motions.{turned}
use Rattle.staat_holds.specs.Chains.{KeepsHoldRules, places_of}
use Rattle.staat_holds.specs.Holds.{HasPair, IsCorePair, IsHoldPlane, IsOfNode, JoinsNodes, LeadsBetween, lesser_first}
use Rattle.staat_holds.proofs.ReachLemmas.{carried}
use Rattle.staat_vec.proofs.Comparisons.{from_is_eq}

-- ---- arcs are told apart by their order

abbrev pub test : Arc → Arc → Bool
test x y = impl.ghosts.eq x y

pub ties : (x y : Arc) → test x y ≡ eq_by_cmp arc_cmp x y
ties x y =
    let eq : ℕ → ℕ → Bool = λ m n. is_eq (nat_cmp m n) in
    let j : Ordering = nat_cmp x.j y.j in
    let b : Ordering = ordering_then (nat_cmp x.b y.b) j in
    let i : Ordering = ordering_then (nat_cmp x.i y.i) b in
    (λ t. sym (unsigned_tied x.a y.a) t && (sym (unsigned_tied x.i y.i) t && (sym (unsigned_tied x.b y.b) t && sym (unsigned_tied x.j y.j) t)))
    ∙ ap (λ t. eq x.a y.a && (eq x.i y.i && t)) (tied_then (nat_cmp x.b y.b) j)
    ∙ ap (λ t. eq x.a y.a && t) (tied_then (nat_cmp x.i y.i) b)
    ∙ tied_then (nat_cmp x.a y.a) i

pub test_equivalence : IsEquivalence test
test_equivalence = let p : test ≡ eq_by_cmp arc_cmp = λ i x y. ties x y i in subst (λ F. IsEquivalence F) (sym p) (eq_by_cmp_equiv arc_total)

pub test_exact : (x y : Arc) → test x y ≡ true → x ≡ y
test_exact x y e = arc_exact x y (from_is_eq (arc_cmp x y) (sym (ties x y) ∙ e))

-- ---- the lesser part first

either_way : (b : Bool) (pair : Arc) → (cond b (turned pair) pair ≡ pair) ⊎ (cond b (turned pair) pair ≡ turned pair)
either_way true pair = inr refl
either_way false pair = inl refl

pub lesser_either : (pair : Arc) → (lesser_first pair ≡ pair) ⊎ (lesser_first pair ≡ turned pair)
unfolding lesser_first
lesser_either pair = either_way (nat_lt pair.b pair.a) pair

pub lesser_below : (pair : Arc) → pair.a ≢ pair.b → (lesser_first pair).a < (lesser_first pair).b
unfolding lesser_first
lesser_below pair ne = go (nat_lt pair.b pair.a) refl
  where
    less : (m n : ℕ) → nat_lt m n ≡ true → m < n
    less m n e = grind (arith, nat_tests)

    not_less : (m n : ℕ) → nat_lt m n ≡ false → n ≢ m → n < m
    not_less m n e other = grind (arith, nat_tests)

    go : (b : Bool) → nat_lt pair.b pair.a ≡ b → (cond b (turned pair) pair).a < (cond b (turned pair) pair).b
    go true e = less pair.b pair.a e
    go false e = not_less pair.b pair.a e ne

into_map : (pairs : List Arc) (pair : Arc) → Contains pairs pair → Contains (map lesser_first pairs) (lesser_first pair)
into_map [] pair (k, lt, e) = absurd (omega (arith, lt))
into_map (p ∷ pairs) pair (zero, lt, e) = (zero, omega arith, ap lesser_first e)
into_map (p ∷ pairs) pair (suc k, lt, e) = let (m, in', is) = into_map pairs pair (k, omega (arith, lt), e) in (suc m, omega (arith, in'), is)

from_map : (pairs : List Arc) (pair : Arc) → Contains (map lesser_first pairs) pair → (old : Arc) × Contains pairs old × (lesser_first old ≡ pair)
from_map [] pair (k, lt, e) = absurd (omega (arith, lt))
from_map (p ∷ pairs) pair (zero, lt, e) = (p, (zero, omega arith, refl), e)
from_map (p ∷ pairs) pair (suc k, lt, e) =
    let (old, (m, in', is), same) = from_map pairs pair (k, omega (arith, lt), e) in (old, (suc m, omega (arith, in'), is), same)

-- ---- the same pairs, in either order

-- each pair of the one list is in the other, in either order
pub record ArePairsOf (old new : List Arc) : Type 0 where
  pub from : (pair : Arc) → Contains new pair → HasPair old pair
  pub to : (pair : Arc) → Contains old pair → HasPair new pair

pub in_order_pairs : (old new : List Arc) → Lists arc_cmp (Contains (map lesser_first old)) new → ArePairsOf old new
in_order_pairs old new lists = record {
  from = λ pair c. let (p, listed, e) = from_map old pair (lists.each pair c) in ⊎_elim {C = HasPair old pair}
      (λ same. inl (subst (Contains old) (sym same ∙ e) listed))
      (λ back. inr (subst (λ q. Contains old (turned q)) (sym back ∙ e) listed))
      (lesser_either p);
  to = λ pair c. let d = lists.all (lesser_first pair) (into_map old pair c) in ⊎_elim {C = HasPair new pair}
      (λ same. inl (subst (Contains new) same d))
      (λ back. inr (subst (Contains new) back d))
      (lesser_either pair);
}

has_pair : (old new : List Arc) → ArePairsOf old new → (pair : Arc) → HasPair old pair → HasPair new pair
has_pair old new are pair has = ⊎_elim {C = HasPair new pair} (λ c. are.to pair c)
    (λ c. ⊎_elim {C = HasPair new pair} (λ d. inr d) (λ d. inl d) (are.to (turned pair) c)) has

-- ---- rules

core_turned : (parts : List Part) (nodes : List (Option ℕ)) (count : ℕ) (pair : Arc) → IsCorePair parts nodes count (turned pair) → IsCorePair parts nodes count pair
core_turned parts nodes count pair is = record {
  pieces = record { a_in = is.pieces.b_in; i_in = is.pieces.j_in; b_in = is.pieces.a_in; j_in = is.pieces.i_in };
  first = is.second;
  second = is.first;
  apart = λ k a b. is.apart k b a;
}

core_pairs : (parts : List Part) (nodes : List (Option ℕ)) (count : ℕ) (old new : List Arc) → ArePairsOf old new → All (IsCorePair parts nodes count) old → All (IsCorePair parts nodes count) new
core_pairs parts nodes count old new are all = All-from_members (IsCorePair parts nodes count) new (λ pair c. ⊎_elim {C = IsCorePair parts nodes count pair}
    (λ d. All-contains (IsCorePair parts nodes count) old pair all d)
    (λ d. core_turned parts nodes count pair (All-contains (IsCorePair parts nodes count) old (turned pair) all d)) (are.from pair c))

core_plane : (parts : List Part) (old new : List Arc) (n : V3) → ArePairsOf old new → IsCorePlane parts new n → IsCorePlane parts old n
core_plane parts old new n are p =
    let h = p.holds in
    let some : p.facet ≢ origin = IsPrimitive-some p.facet h.holds.primitive in
    ⊎_elim {C = IsCorePlane parts old n}
    (λ c. record { arc = p.arc; facet = p.facet; listed = c; holds = h; is = p.is })
    (λ c. record {
      arc = turned p.arc;
      facet = negative p.facet;
      listed = c;
      holds = record { p = h.q; q = h.p; p_is = h.q_is; q_is = h.p_is; holds = (opposite_facets_lemma h.p h.q p.facet).0 h.holds };
      is = p.is ∙ sym (canon-negative p.facet some);
    })
    (are.from p.arc p.listed)

hold_plane : (parts : List Part) (old new : List Arc) (n : V3) → ArePairsOf old new → IsHoldPlane parts new n → IsHoldPlane parts old n
hold_plane parts old new n are plane = ⊎_elim {C = IsHoldPlane parts old n} (λ axis. inl axis) (λ p. inr (core_plane parts old new n are p)) plane

leads : (parts : List Part) (nodes : List (Option ℕ)) (old new : List Arc) (d : V3) → ArePairsOf old new → (x y : ℕ) → LeadsBetween parts nodes old d x y → LeadsBetween parts nodes new d x y
leads parts nodes old new d are x y l = record { pair = l.pair; listed = has_pair old new are l.pair l.listed; from = l.from; to = l.to; meets = l.meets }

joins : (parts : List Part) (nodes : List (Option ℕ)) (count : ℕ) (old new : List Arc) → ArePairsOf old new → JoinsNodes parts nodes count old → JoinsNodes parts nodes count new
joins parts nodes count old new are held g h plane_g plane_h apart x y x_lt y_lt =
    carried (leads parts nodes old new (cross g h) are)
    (held g h (hold_plane parts old new g are plane_g) (hold_plane parts old new h are plane_h) apart x y x_lt y_lt)

pub same_rules : (parts : List Part) (names nodes : List ℕ) (old new : List Arc) → ArePairsOf old new → KeepsHoldRules parts names (record { nodes = nodes; pairs = old }) → KeepsHoldRules parts names (record { nodes = nodes; pairs = new })
same_rules parts names nodes old new are keep = record {
  nodes = keep.nodes;
  two = keep.two;
  pairs = core_pairs parts (places_of nodes names) (length nodes) old new are keep.pairs;
  joins = joins parts (places_of nodes names) (length nodes) old new are keep.joins;
}

-- ---- the parts of a pair differ

pub pair_apart : (parts : List Part) (nodes : List (Option ℕ)) (count : ℕ) (pair : Arc) → IsCorePair parts nodes count pair → pair.a ≢ pair.b
pair_apart parts nodes count pair is e = is.apart is.first.node is.first.is (subst (IsOfNode nodes is.first.node) e is.first.is)

pub lesser_parts : (parts : List Part) (nodes : List (Option ℕ)) (count : ℕ) (old new : List Arc) → All (IsCorePair parts nodes count) old → Lists arc_cmp (Contains (map lesser_first old)) new → All (λ (pair : Arc). pair.a < pair.b) new
lesser_parts parts nodes count old new all lists = All-from_members (λ (pair : Arc). pair.a < pair.b) new (λ pair c.
    let (p, listed, e) = from_map old pair (lists.each pair c) in
    subst (λ (q : Arc). q.a < q.b) e (lesser_below p (pair_apart parts nodes count p (All-contains (IsCorePair parts nodes count) old p all listed))))
