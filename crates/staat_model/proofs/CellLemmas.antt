-- The edges on the border of an open cell: there are two, and directions on two of them add up to one in the cell.
use Rattle.std.proofs.Common.{◌≡◌, ◌≢◌, ℕ, zero, suc, ◌+◌, ◌≤◌, refl, sym, ap, subst, ◌∙◌, arith, ℤ, pos, ◌+ℤ◌, ◌≤ℤ◌, ◌<ℤ◌, ◌⊎◌, inl, inr, ⊎_elim, cond, false, rules, List, [], ◌∷◌, All, Contains}
use Rattle.std.specs.Prelude.{count_by}
use Rattle.std.proofs.lemmas.Int.{ints, by_lt_z}
use Rattle.std.proofs.lemmas.List.Sums.{sum_by-cons}
use Rattle.std.proofs.lemmas.List.Elements.{All-contains}
use Rattle.staat_vec.specs.declared.vector.V3.{V3}
use Rattle.staat_vec.specs.declared.vector.Sign.{Sign}
use Rattle.staat_vec.specs.declared.vector.Sign.TheVariants.{Neg, Zero, Pos}
use Rattle.staat_vec.specs.Vectors.{dot, cross, plus, negative, origin, sign}
use Rattle.staat_vec.proofs.VecRing.{negative_dot}
use Rattle.staat_model.specs.declared.assembly.Part.{Part}
use Rattle.staat_model.specs.declared.set.PartSet.{PartSet}
use Rattle.staat_model.specs.Planes.{ArePlanes}
use Rattle.staat_model.specs.declared.tree.Kind.TheVariants.{Edge, Open}
use Rattle.staat_model.specs.Cones.{IsOnBorder}
use Rattle.staat_model.specs.Cells.{signs_of, is_zero, kind_of, kind_by_count, IsCell, IsBorder}
use Rattle.staat_model.specs.Borders.{HasTwoEdges}
use Rattle.staat_model.proofs.Members.{All-from_members}
use Rattle.staat_model.proofs.Corners.{Conditions, HoldsAxes, IsSame, conditions, cross_signs, have_axes, same_back}
use Rattle.staat_model.proofs.BorderLemmas.{borders_lemma}
use Rattle.staat_model.proofs.GraphLemmas.{border_at, border_same}
use Rattle.staat_model.proofs.FacetLemmas.{swap_zero}
use Rattle.staat_model.proofs.CornerLemmas.{axes_span}
use Rattle.staat_model.proofs.VertexLemmas.{same_some, holds_axes}
use Rattle.staat_model.proofs.PlaneLemmas.{NoneParallel, planes_apart}
use Rattle.staat_vec.proofs.Integers.{negative_nonpositive, positive_from_nonneg, zero_not_positive, opposite_negative_back, sum_zero, add-comm_ℤ}
use Rattle.staat_vec.proofs.Signs.{positive_sign, negative_sign, sign_positive, sign_negative, zero_sign}
use Rattle.staat_vec.proofs.VectorLaws.{dot_plus, dot_origin}
use Rattle.staat_vec.proofs.Unique.{Contains-front}
use Rattle.staat_vec.proofs.ListLaws.{Contains-there}

-- ---- how many planes pass through a cell

abbrev pub zeros : List Sign → ℕ
zeros s = count_by is_zero s

pub zeros-cons : (t : Sign) (s : List Sign) → zeros (t ∷ s) ≡ cond (is_zero t) 1 0 + zeros s
zeros-cons t s = sum_by-cons (λ x. cond (is_zero x) 1 0) t s

-- a sign other than zero
pub not_zero : (t : Sign) → t ≢ Zero → is_zero t ≡ false
not_zero Zero n = absurd (n refl)
not_zero t n = refl

pub zeros_off : (t : Sign) (ts : List Sign) → t ≢ Zero → zeros (t ∷ ts) ≡ zeros ts
zeros_off t ts n = zeros-cons t ts ∙ ap (λ b. cond b 1 0 + zeros ts) (not_zero t n) ∙ omega arith

pub zeros_on : (t : Sign) (ts : List Sign) → t ≡ Zero → zeros (t ∷ ts) ≡ 1 + zeros ts
zeros_on t ts e = zeros-cons t ts ∙ ap (λ t. cond (is_zero t) 1 0 + zeros ts) e

pub open_no_zero : (n : ℕ) → kind_by_count n ≡ Open → n ≡ 0
open_no_zero zero e = refl
open_no_zero (suc zero) e = cc
open_no_zero n e = cc

pub open_zeros : (s : List Sign) → kind_of s ≡ Open → zeros s ≡ 0
open_zeros s e = open_no_zero (zeros s) e

pub edge_zeros : (s : List Sign) → kind_of s ≡ Edge → zeros s ≡ 1
edge_zeros s e = go (zeros s) e
  where
    go : (n : ℕ) → kind_by_count n ≡ Edge → n ≡ 1
    go (suc zero) e = refl
    go n e = cc

-- ---- two edges on the border of a cell

-- at each plane one of the two has the cell's sign
abbrev pub Covers : List Sign → List Sign → List Sign → Type 0
Covers [] [] [] = Unit {0}
Covers (e ∷ es) (f ∷ fs) (s ∷ ss) = ((e ≡ s) ⊎ (f ≡ s)) × Covers es fs ss
Covers es fs ss = ⊥

border_strict : (es ss : List Sign) → zeros es ≡ 0 → IsBorder es ss → es ≡ ss
border_strict [] [] none b = refl
border_strict (Zero ∷ es) (s ∷ ss) none b = absurd (let c = zeros-cons Zero es in omega (arith, none, c))
border_strict (e ∷ es) (s ∷ ss) none b = λ i. ⊎_elim (λ h. h) (λ h. cc) b.0 i ∷ border_strict es ss (let c = zeros-cons e es in omega (arith, none, c)) b.1 i
border_strict es ss none b = absurd b

covers_left : (ss fs : List Sign) → IsBorder fs ss → Covers ss fs ss
covers_left [] [] b = tt
covers_left (s ∷ ss) (f ∷ fs) b = (inl refl, covers_left ss fs b.1)
covers_left ss fs b = absurd b

covers_right : (es ss : List Sign) → IsBorder es ss → Covers es ss ss
covers_right [] [] b = tt
covers_right (e ∷ es) (s ∷ ss) b = (inr refl, covers_right es ss b.1)
covers_right es ss b = absurd b

-- behind the one plane through a cell the signs are those of the cell on whose border it is
strict_behind : (e : Sign) (es ss : List Sign) → e ≡ Zero → zeros (e ∷ es) ≤ 1 → IsBorder es ss → es ≡ ss
strict_behind e es ss z most b = border_strict es ss (omega (arith, most, zeros_on e es z)) b

-- two cells on the border, each with at most one plane through it, are one, or cover the cell
covers_or_same : (es fs ss : List Sign) → zeros es ≤ 1 → zeros fs ≤ 1 → IsBorder es ss → IsBorder fs ss → Covers es fs ss ⊎ (es ≡ fs)
covers_or_same [] [] [] ce cf be bf = inr refl
covers_or_same (e ∷ es) (f ∷ fs) (s ∷ ss) ce cf be bf = go be.0 bf.0 (covers_or_same es fs ss (omega (arith, ce, zeros-cons e es)) (omega (arith, cf, zeros-cons f fs)) be.1 bf.1)
  where
    go : (e ≡ s) ⊎ (e ≡ Zero) → (f ≡ s) ⊎ (f ≡ Zero) → Covers es fs ss ⊎ (es ≡ fs) → Covers (e ∷ es) (f ∷ fs) (s ∷ ss) ⊎ (e ∷ es ≡ f ∷ fs)
    go (inl p) (inl q) (inl c) = inl (inl p, c)
    go (inl p) (inl q) (inr h) = inr (λ i. (p ∙ sym q) i ∷ h i)
    go (inl p) (inr q) ih = inl (inl p, subst (λ xs. Covers es xs ss) (sym (strict_behind f fs ss q cf bf.1)) (covers_right es ss be.1))
    go (inr p) (inl q) ih = inl (inr q, subst (λ xs. Covers xs fs ss) (sym (strict_behind e es ss p ce be.1)) (covers_left ss fs bf.1))
    go (inr p) (inr q) ih = inr (λ i. (p ∙ sym q) i ∷ (strict_behind e es ss p ce be.1 ∙ sym (strict_behind f fs ss q cf bf.1)) i)
covers_or_same es fs ss ce cf be bf = search rules

sum_positive : (a b : ℤ) → pos 0 <ℤ a → (pos 0 <ℤ b) ⊎ (b ≡ pos 0) → pos 0 <ℤ (a +ℤ b)
sum_positive a b h g = grind (arith, ints)

sum_negative : (a b : ℤ) → a <ℤ pos 0 → (b <ℤ pos 0) ⊎ (b ≡ pos 0) → (a +ℤ b) <ℤ pos 0
sum_negative a b h g = grind (arith, ints)

-- the sign of a sum of two numbers, one of the sign s and the other of it or 0
sum_sign : (a b : ℤ) (s : Sign) → sign a ≡ s → (sign b ≡ s) ⊎ (sign b ≡ Zero) → sign (a +ℤ b) ≡ s
sum_sign a b Pos p q = positive_sign (a +ℤ b) (sum_positive a b (sign_positive a p) (⊎_elim (λ h. inl (sign_positive b h)) (λ h. inr (zero_sign b h)) q))
sum_sign a b Neg p q = negative_sign (a +ℤ b) (sum_negative a b (sign_negative a p) (⊎_elim (λ h. inl (sign_negative b h)) (λ h. inr (zero_sign b h)) q))
sum_sign a b Zero p q = ap sign (sum_zero a b (zero_sign a p) (⊎_elim (λ h. zero_sign b h) (λ h. zero_sign b h) q))

pub sum_covers : (gs : List V3) (u v : V3) (ss : List Sign) → Covers (signs_of gs u) (signs_of gs v) ss → IsBorder (signs_of gs u) ss → IsBorder (signs_of gs v) ss → signs_of gs (plus u v) ≡ ss
sum_covers [] u v [] c bu bv = refl
sum_covers (g ∷ gs) u v (s ∷ ss) c bu bv = λ i. at_head c.0 i ∷ sum_covers gs u v ss c.1 bu.1 bv.1 i
  where
    at_head : (sign (dot g u) ≡ s) ⊎ (sign (dot g v) ≡ s) → sign (dot g (plus u v)) ≡ s
    at_head (inl e) = ap sign (dot_plus g u v) ∙ sum_sign (dot g u) (dot g v) s e bv.0
    at_head (inr e) = ap sign (dot_plus g u v ∙ add-comm_ℤ (dot g u) (dot g v)) ∙ sum_sign (dot g v) (dot g u) s e bu.0
sum_covers gs u v ss c bu bv = absurd c

-- directions on two different edges on the border of a cell add up to one in it
pub edges_add_up_lemma : (planes : List V3) (s e f : List Sign) (u v : V3) → kind_of e ≡ Edge → kind_of f ≡ Edge → IsBorder e s → IsBorder f s → e ≢ f → signs_of planes u ≡ e → signs_of planes v ≡ f → signs_of planes (plus u v) ≡ s
edges_add_up_lemma planes s e f u v ke kf be bf apart is_e is_f = elim (covers_or_same e f s (let z = edge_zeros e ke in omega (arith, z)) (let z = edge_zeros f kf in omega (arith, z)) be bf) [
  | inr same ↦ absurd (apart same)
  | inl c ↦ sum_covers planes u v s (subst (λ x. Covers x (signs_of planes v) s) (sym is_e) (subst (λ x. Covers e x s) (sym is_f) c)) (subst (λ x. IsBorder x s) (sym is_e) be) (subst (λ x. IsBorder x s) (sym is_f) bf)
]

-- ---- an open cell has two edges on its border

-- what is on the positive side of a condition, as d is, has d's sign at its plane
same_sign : (v g d y : V3) → IsSame v g → pos 0 <ℤ dot v d → pos 0 <ℤ dot v y → sign (dot g y) ≡ sign (dot g d)
same_sign v g d y (inl e) h k = positive_sign (dot g y) (subst (λ z. pos 0 <ℤ dot z y) e k) ∙ sym (positive_sign (dot g d) (subst (λ z. pos 0 <ℤ dot z d) e h))
same_sign v g d y (inr e) h k = negative_sign (dot g y) (below y k) ∙ sym (negative_sign (dot g d) (below d h))
  where
    below : (x : V3) → pos 0 <ℤ dot v x → dot g x <ℤ pos 0
    below x k = opposite_negative_back (dot v x) (dot g x) (ap (λ z. dot z x) e ∙ negative_dot g x) k

pub off_all : (gs : List V3) (d : V3) → zeros (signs_of gs d) ≡ 0 → (g : V3) → Contains gs g → sign (dot g d) ≢ Zero
off_all [] d none g (k, lt, e) z = absurd (omega arith)
off_all (h ∷ gs) d none g (zero, lt, e) z =
    omega (arith, none, zeros_on (sign (dot h d)) (signs_of gs d) (ap (λ v. sign (dot v d)) e ∙ z))
off_all (h ∷ gs) d none g (suc k, lt, e) z = off_all gs d (let c = zeros-cons (sign (dot h d)) (signs_of gs d) in omega (arith, none, c)) g (k, omega arith, e) z

border_from_same : (ss ts : List Sign) → ss ≡ ts → IsBorder ss ts
border_from_same ss ts e = subst (IsBorder ss) e (border_same ss)

module _ (d m y : V3) where
  -- y is strictly on d's side of each plane that is not parallel to m
  abbrev Sided : List V3 → Type 0
  Sided gs = (g : V3) → Contains gs g → sign (dot g d) ≢ Zero × ((cross g m ≢ origin) → sign (dot g y) ≡ sign (dot g d))

  strict_signs : (gs : List V3) → Sided gs → ((g : V3) → Contains gs g → cross g m ≢ origin) → (signs_of gs y ≡ signs_of gs d) × (zeros (signs_of gs y) ≡ 0)
  strict_signs [] sided off = (refl, refl)
  strict_signs (g ∷ gs) sided off =
      let (some, same) = sided g (Contains-front g gs) in
      let is = same (off g (Contains-front g gs)) in
      let rest = strict_signs gs (λ h c. sided h (Contains-there g h gs c)) (λ h c. off h (Contains-there g h gs c)) in
      ((λ i. is i ∷ rest.0 i), zeros_off (sign (dot g y)) (signs_of gs y) (λ z. some (sym is ∙ z)) ∙ rest.1)

  edge_signs : (gs : List V3) → Sided gs → NoneParallel gs → Contains gs m → dot m y ≡ pos 0 → IsBorder (signs_of gs y) (signs_of gs d) × (zeros (signs_of gs y) ≡ 1)
  edge_signs [] sided apart (k, lt, e) on = absurd (omega arith)
  edge_signs (g ∷ gs) sided (head, rest) (zero, lt, e) on =
      let zero_here : sign (dot g y) ≡ Zero = ap sign (ap (λ v. dot v y) e ∙ on) in
      let strict = strict_signs gs (λ h c. sided h (Contains-there g h gs c)) (λ h c z. All-contains (λ h. cross g h ≢ origin) gs h head c (swap_zero g h (ap (cross h) e ∙ z))) in
      ((inr zero_here, border_from_same (signs_of gs y) (signs_of gs d) strict.0), zeros_on (sign (dot g y)) (signs_of gs y) zero_here ∙ ap (λ n. 1 + n) strict.1)
  edge_signs (g ∷ gs) sided (head, rest) (suc k, lt, e) on =
      let inside : Contains gs m = (k, omega arith, e) in
      let (some, same) = sided g (Contains-front g gs) in
      let is = same (All-contains (λ h. cross g h ≢ origin) gs m head inside) in
      let tail = edge_signs gs (λ h c. sided h (Contains-there g h gs c)) rest inside on in
      ((inl is, tail.0), zeros_off (sign (dot g y)) (signs_of gs y) (λ z. some (sym is ∙ z)) ∙ tail.1)

pub kind_edge : (s : List Sign) → zeros s ≡ 1 → kind_of s ≡ Edge
kind_edge s e = ap kind_by_count e

module _ (planes : List V3) (d : V3) (axes : HoldsAxes planes) (apart : NoneParallel planes) (off : zeros (signs_of planes d) ≡ 0) where
  walls : Conditions d planes
  walls = conditions d planes

  -- the condition of a plane
  wall_of : (g : V3) → Contains planes g → (v : V3) × Contains walls.cs v × IsSame v g
  wall_of g c =
      by_lt_z {P = (v : V3) × Contains walls.cs v × IsSame v g} (dot g d) (pos 0)
      (λ low. (negative g, walls.down g c (negative_nonpositive (dot g d) low), inr refl))
      (λ high. (g, walls.up g c high, inl refl))

  inside : All (λ v. pos 0 <ℤ dot v d) walls.cs
  inside = All-from_members (λ v. pos 0 <ℤ dot v d) walls.cs (λ v c.
      let (g, g_in, same) = walls.only v c in
      positive_from_nonneg (dot v d) (All-contains (λ v. pos 0 ≤ℤ dot v d) walls.cs v walls.above c) (λ z. off_all planes d off g g_in (ap sign (same_back v g d same z))))

  on_side : (v g y : V3) → Contains walls.cs v → IsSame v g → pos 0 <ℤ dot v y → sign (dot g y) ≡ sign (dot g d)
  on_side v g y c same h = same_sign v g d y same (All-contains (λ v. pos 0 <ℤ dot v d) walls.cs v inside c) h

  -- the signs of a direction on one wall
  record Edges (g y : V3) : Type 0 where
    m : V3
    in_planes : Contains planes m
    zero_there : sign (dot m y) ≡ Zero
    -- what is strictly inside the wall has the cell's sign there
    agrees : (z : V3) → pos 0 <ℤ dot g z → sign (dot m z) ≢ Zero
    border : IsBorder (signs_of planes y) (signs_of planes d)
    one : zeros (signs_of planes y) ≡ 1

  edges : (g y : V3) → IsOnBorder walls.cs g y → Edges g y
  edges g y b =
      let (m, in_m, same) = walls.only g b.g_in in
      let on : dot m y ≡ pos 0 = same_back g m y same b.on in
      let (border, one) = edge_signs d m y planes (side_of m same) apart in_m on in
      record { m = m; in_planes = in_m; zero_there = ap sign on; agrees = λ z h q. off_all planes d off m in_m (sym (on_side g m z b.g_in same h) ∙ q); border = border; one = one }
    where
      side_of : (m : V3) → IsSame g m → Sided d m y planes
      side_of m same h c =
          let (v, v_in, is) = wall_of h c in (
            off_all planes d off h c,
            λ some. ⊎_elim
                (λ z. absurd (same_some (cross v g) (cross h m) (cross_signs v g h m is same) some z))
                (λ p. on_side v h y v_in is p)
                (All-contains (λ v. (cross v g ≡ origin) ⊎ (pos 0 <ℤ dot v y)) walls.cs v b.inside v_in),
          )

  some_from : (h y : V3) → pos 0 <ℤ dot h y → y ≢ origin
  some_from h y p e = zero_not_positive (dot h y) (ap (dot h) e ∙ dot_origin h) p

  two_edges : HasTwoEdges planes (signs_of planes d)
  two_edges =
      let b = borders_lemma walls.cs d (axes_span walls.cs (have_axes d planes walls axes)) inside in
      let e = edges b.g b.y b.y_on in
      let f = edges b.h b.z b.z_on in
      record {
        e = signs_of planes b.y;
        f = signs_of planes b.z;
        e_is = record { cell = record { d = b.y; nonzero = some_from b.h b.y b.y_inside; is = refl }; edge = kind_edge (signs_of planes b.y) e.one; border = e.border };
        f_is = record { cell = record { d = b.z; nonzero = some_from b.g b.z b.z_inside; is = refl }; edge = kind_edge (signs_of planes b.z) f.one; border = f.border };
        different = λ same. e.agrees b.z b.z_inside
            (⊎_elim (λ p. p ∙ e.zero_there) (λ p. p) (border_at planes b.z b.y (border_from_same (signs_of planes b.z) (signs_of planes b.y) (sym same)) e.m e.in_planes));
      }

-- an open cell has two edges on its border
pub two_edges_lemma : (planes : List V3) (s : List Sign) → HoldsAxes planes → NoneParallel planes → IsCell planes s → kind_of s ≡ Open → HasTwoEdges planes s
two_edges_lemma planes s axes apart cell open_kind = subst (HasTwoEdges planes) cell.is (two_edges planes cell.d axes apart (subst (λ t. zeros t ≡ 0) (sym cell.is) (open_zeros s open_kind)))

pub open_cell_lemma : (parts : List Part) (w : PartSet) (planes : List V3) (s : List Sign) → ArePlanes parts w planes → IsCell planes s → kind_of s ≡ Open → HasTwoEdges planes s
open_cell_lemma parts w planes s are = two_edges_lemma planes s (holds_axes parts w planes are) (planes_apart parts w planes are)
