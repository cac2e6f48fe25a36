-- Which parts block which at a direction, and on the border of its cell.
use Rattle.std.proofs.Common.{◌≡◌, ◌≢◌, ◌↔◌, ◌∙◌, ℕ, zero, suc, refl, sym, subst, arith, ℤ, pos, negsuc, ◌≤ℤ◌, ◌<ℤ◌, ◌⊎◌, inl, inr, ⊎_elim, List, [], ◌∷◌, All, Contains}
use Rattle.std.specs.Prelude.{Some, slice_get}
use Rattle.std.proofs.lemmas.Int.{by_lt_z, ints}
use Rattle.std.proofs.lemmas.Option.{option_and_then_some}
use Rattle.std.proofs.lemmas.List.Elements.{All-contains, Contains-append_left, Contains-append_right}
use Rattle.staat_vec.specs.declared.vector.V3.{V3}
use Rattle.staat_vec.specs.declared.vector.Sign.{Sign}
use Rattle.staat_vec.specs.declared.vector.Sign.TheVariants.{Zero}
use Rattle.staat_vec.specs.Vectors.{dot, negative, sign, vector_cmp}
use Rattle.staat_vec.specs.Primitives.{canon}
use Rattle.staat_vec.proofs.VecRing.{negative_dot}
use Rattle.staat_vec.proofs.VectorOrder.{vector_exact, vector_total}
use Rattle.staat_vec.proofs.Canons.{canon-either}
use Rattle.staat_model.specs.declared.assembly.Part.{Part}
use Rattle.staat_model.specs.declared.set.PartSet.{PartSet}
use Rattle.staat_model.specs.declared.certificate.Arc.{Arc}
use Rattle.staat_model.specs.Pieces.{IsPiece}
use Rattle.staat_model.specs.Sets.{Has}
use Rattle.staat_model.specs.Assemblies.{HoldsAt, IsAssembly, IsPart, piece_at}
use Rattle.staat_model.specs.Facets.{IsFacet}
use Rattle.staat_model.specs.Meeting.{Meets}
use Rattle.staat_model.specs.Removal.{MeetsAlong, Blocks}
use Rattle.staat_model.specs.Planes.{ArePlanes, IsFacetPlane, axes}
use Rattle.staat_model.specs.Cells.{signs_of, IsBorder}
use Rattle.staat_model.proofs.Decisions.{contains_or}
use Rattle.staat_model.proofs.Corners.{IsTowards}
use Rattle.staat_model.proofs.PieceFacets.{meets_by_facets_lemma}
use Rattle.staat_model.proofs.Reversed.{meets_opposite_lemma}
use Rattle.staat_vec.proofs.Integers.{negative_nonneg_clash, opposite_nonpositive, opposite_nonneg, opposite_nonpositive_back, zero_nonneg, zero_nonpositive}
use Rattle.staat_vec.proofs.Unique.{from_place, Contains-front}
use Rattle.staat_vec.proofs.Signs.{negative_sign, positive_sign, sign_negative, sign_positive, zero_sign}
use Rattle.staat_vec.proofs.ListLaws.{Contains-there}

-- ---- the pieces of an assembly

-- however many parts there are
pub piece_in : (parts : List Part) (a i : ℕ) (p : List V3) → All IsPart parts → piece_at parts a i ≡ Some p → IsPiece p
piece_in parts a i p each e =
    option_and_then_some {P = IsPiece p} (λ part. slice_get part.pieces i) (slice_get parts a) p e
    (λ part at inside. let whole = All-contains IsPart parts part each (from_place parts a part at) in All-contains IsPiece part.pieces p whole.pieces (from_place part.pieces i p inside))

pub piece_is : (parts : List Part) (a i : ℕ) (p : List V3) → IsAssembly parts → piece_at parts a i ≡ Some p → IsPiece p
piece_is parts a i p is e = piece_in parts a i p is.each e

-- what follows of pieces from what holds of them follows at an arc
pub at_pieces : (parts : List Part) (arc : Arc) (R S : List V3 → List V3 → Type 0) → All IsPart parts
    → ((p q : List V3) → piece_at parts arc.a arc.i ≡ Some p → piece_at parts arc.b arc.j ≡ Some q → IsPiece p → IsPiece q → R p q → S p q)
    → HoldsAt parts arc R → HoldsAt parts arc S
at_pieces parts arc R S each f h = record {
  p = h.p;
  q = h.q;
  p_is = h.p_is;
  q_is = h.q_is;
  holds = f h.p h.q h.p_is h.q_is (piece_in parts arc.a arc.i h.p each h.p_is) (piece_in parts arc.b arc.j h.q each h.q_is) h.holds;
}

-- ---- the planes of a set hold each facet's

pub member_or_not : (x : V3) (xs : List V3) → Contains xs x ⊎ (Contains xs x → ⊥)
member_or_not x xs = contains_or vector_cmp vector_total vector_exact xs x

pub plane_in : (parts : List Part) (w : PartSet) (planes : List V3) (n : V3) → ArePlanes parts w planes → IsFacetPlane parts w n → Contains planes n
plane_in parts w planes n are wall =
    subst (λ gs. Contains gs n) (sym are.is)
    (⊎_elim (λ c. Contains-append_left axes are.others n c) (λ out. Contains-append_right axes are.others n (are.others_are.all n (wall, out))) (member_or_not n axes))

pub axis_in : (parts : List Part) (w : PartSet) (planes : List V3) (n : V3) → ArePlanes parts w planes → Contains axes n → Contains planes n
axis_in parts w planes n are c = subst (λ gs. Contains gs n) (sym are.is) (Contains-append_left axes are.others n c)

-- ---- signs and sides

same_up : (a b : ℤ) → sign a ≡ sign b → pos 0 ≤ℤ b → pos 0 ≤ℤ a
same_up a b e h = by_lt_z {P = pos 0 ≤ℤ a} a (pos 0) (λ low. absurd (negative_nonneg_clash b (sign_negative b (sym e ∙ negative_sign a low)) h)) (λ up. up)

same_down : (a b : ℤ) → sign a ≡ sign b → b ≤ℤ pos 0 → a ≤ℤ pos 0
same_down a b e h = by_lt_z {P = a ≤ℤ pos 0} (pos 0) a (λ high. let clash = sign_positive b (sym e ∙ positive_sign a high) in absurd (omega (arith, ints, h, clash))) (λ down. down)

-- on the border of d's cell each plane has v on d's side, or on it
pub border_at : (gs : List V3) (v d : V3) → IsBorder (signs_of gs v) (signs_of gs d) → (g : V3) → Contains gs g → (sign (dot g v) ≡ sign (dot g d)) ⊎ (sign (dot g v) ≡ Zero)
border_at [] v d b g (k, lt, e) = absurd (omega arith)
border_at (h ∷ gs) v d b g (zero, lt, e) = subst (λ z. (sign (dot z v) ≡ sign (dot z d)) ⊎ (sign (dot z v) ≡ Zero)) e b.0
border_at (h ∷ gs) v d b g (suc k, lt, e) = border_at gs v d b.1 g (k, omega arith, e)

-- so no plane has v on another side than d
pub towards_border : (gs : List V3) (d v : V3) → IsBorder (signs_of gs v) (signs_of gs d) → (g : V3) → Contains gs g → IsTowards d v g
towards_border gs d v b g c = elim (border_at gs v d b g c) [
  | inl same ↦ record { up = same_up (dot g v) (dot g d) same; down = same_down (dot g v) (dot g d) same }
  | inr none ↦ (let e = zero_sign (dot g v) none in record { up = λ u. zero_nonneg (dot g v) e; down = λ u. zero_nonpositive (dot g v) e })
]

sign_towards : (a b : ℤ) → (pos 0 ≤ℤ b → pos 0 ≤ℤ a) → (b ≤ℤ pos 0 → a ≤ℤ pos 0) → (sign a ≡ sign b) ⊎ (sign a ≡ Zero)
sign_towards (pos zero) b up down = inr refl
sign_towards (pos (suc n)) (pos (suc m)) up down = inl refl
sign_towards (negsuc n) (negsuc m) up down = inl refl
sign_towards (pos (suc n)) b up down = absurd (let h : pos (suc n) ≤ℤ pos 0 = down (omega (arith, ints)) in omega (arith, ints))
sign_towards (negsuc n) b up down = absurd (let h : pos 0 ≤ℤ negsuc n = up (omega (arith, ints)) in omega (arith, ints))

pub border_towards : (gs : List V3) (d v : V3) → ((g : V3) → Contains gs g → IsTowards d v g) → IsBorder (signs_of gs v) (signs_of gs d)
border_towards [] d v f = tt
border_towards (g ∷ gs) d v f = let t = f g (Contains-front g gs) in (sign_towards (dot g v) (dot g d) t.up t.down, border_towards gs d v (λ h c. f h (Contains-there g h gs c)))

-- the sides of a facet are those of its plane
pub facet_towards : (d v n : V3) → IsTowards d v (canon n) → IsTowards d v n
facet_towards d v n t = elim (canon-either n) [ inl e ↦ subst (IsTowards d v) e t | inr e ↦ opposite (subst (IsTowards d v) e t) ]
  where
    opposite : IsTowards d v (negative n) → IsTowards d v n
    opposite s = record {
      up = λ u. let low = s.down (opposite_nonpositive (dot (negative n) d) (dot n d) (negative_dot n d) u) in omega (arith, ints, low, negative_dot n v);
      down = λ u. opposite_nonpositive_back (dot (negative n) v) (dot n v) (negative_dot n v) (s.up (opposite_nonneg (dot (negative n) d) (dot n d) (negative_dot n d) u));
    }

-- ---- the graph on the border of a cell

pub positive_back : (a b : ℤ) → (a ≤ℤ pos 0 → b ≤ℤ pos 0) → pos 0 <ℤ b → pos 0 <ℤ a
positive_back a b f h = by_lt_z {P = pos 0 <ℤ a} (pos 0) a (λ up. up) (λ low. let down = f low in absurd (omega (arith, ints, down, h)))

-- what meets along v meets along d, if no facet's plane has v on another side than d
pub meets_where : (parts : List Part) (d v : V3) (arc : Arc) → All IsPart parts → ((n : V3) → HoldsAt parts arc (λ p q. IsFacet p q n) → IsTowards d v (canon n))
    → MeetsAlong parts v arc → MeetsAlong parts d arc
meets_where parts d v arc each towards m =
    at_pieces parts arc (λ p q. Meets p q v) (λ p q. Meets p q d) each
    (λ p q p_is q_is is_p is_q meets. (meets_by_facets_lemma p q d is_p is_q).1 (λ n f.
    let t = facet_towards d v n (towards n (record { p = p; q = q; p_is = p_is; q_is = q_is; holds = f })) in
    positive_back (dot n d) (dot n v) t.down ((meets_by_facets_lemma p q v is_p is_q).0 meets n f))) m

pub arc_from_border : (parts : List Part) (w : PartSet) (planes : List V3) (d v : V3) (arc : Arc) → IsAssembly parts → ArePlanes parts w planes → IsBorder (signs_of planes v) (signs_of planes d)
    → Has w arc.a → Has w arc.b → arc.a ≢ arc.b → MeetsAlong parts v arc → MeetsAlong parts d arc
arc_from_border parts w planes d v arc is are border a_in b_in apart m =
    meets_where parts d v arc is.each
    (λ n h. towards_border planes d v border (canon n) (plane_in parts w planes (canon n) are (record { arc = arc; facet = n; a_in = a_in; b_in = b_in; different = apart; is = refl; holds = h }))) m

-- what blocks on the border of a cell blocks in the cell
pub border_blocks_lemma : (parts : List Part) (w : PartSet) (planes : List V3) (d v : V3) → IsAssembly parts → ArePlanes parts w planes → IsBorder (signs_of planes v) (signs_of planes d)
    → (a b : ℕ) → Has w a → Has w b → Blocks parts v a b → Blocks parts d a b
border_blocks_lemma parts w planes d v is are border a b a_in b_in g =
    record { i = g.i; j = g.j; different = g.different; meets = arc_from_border parts w planes d v (record { a = a; i = g.i; b = b; j = g.j }) is are border a_in b_in g.different g.meets }

pub border_same : (ss : List Sign) → IsBorder ss ss
border_same [] = tt
border_same (s ∷ ss) = (inl refl, border_same ss)

pub cell_blocks_lemma : (parts : List Part) (w : PartSet) (planes : List V3) (d e : V3) → IsAssembly parts → ArePlanes parts w planes → signs_of planes d ≡ signs_of planes e
    → (a b : ℕ) → Has w a → Has w b → Blocks parts d a b ↔ Blocks parts e a b
cell_blocks_lemma parts w planes d e is are same a b a_in b_in = (
  border_blocks_lemma parts w planes e d is are (subst (λ s. IsBorder (signs_of planes d) s) same (border_same (signs_of planes d))) a b a_in b_in,
  border_blocks_lemma parts w planes d e is are (subst (λ s. IsBorder (signs_of planes e) s) (sym same) (border_same (signs_of planes e))) a b a_in b_in,
)

-- ---- the opposite direction

swap_arc : (parts : List Part) (d : V3) (a i b j : ℕ) → MeetsAlong parts (negative d) (record { a = a; i = i; b = b; j = j }) ↔ MeetsAlong parts d (record { a = b; i = j; b = a; j = i })
swap_arc parts d a i b j = (
  (λ m. record { p = m.q; q = m.p; p_is = m.q_is; q_is = m.p_is; holds = (meets_opposite_lemma m.p m.q d).0 m.holds }),
  λ m. record { p = m.q; q = m.p; p_is = m.q_is; q_is = m.p_is; holds = (meets_opposite_lemma m.q m.p d).1 m.holds },
)

pub opposite_blocks_lemma : (parts : List Part) (d : V3) (a b : ℕ) → Blocks parts (negative d) a b ↔ Blocks parts d b a
opposite_blocks_lemma parts d a b = (
  (λ g. record { i = g.j; j = g.i; different = λ e. g.different (sym e); meets = (swap_arc parts d a g.i b g.j).0 g.meets }),
  λ g. record { i = g.j; j = g.i; different = λ e. g.different (sym e); meets = (swap_arc parts d a g.j b g.i).1 g.meets },
)
