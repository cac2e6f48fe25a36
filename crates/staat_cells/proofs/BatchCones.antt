-- Words of which each bit tells of a cone, and batches of cones, as one cone or its parts are added.
use Rattle.std.proofs.Common.{◌≡◌, ◌≢◌, ◌⊎◌, ◌↔◌, inl, inr, ⊎_elim, ℕ, ◌+◌, ◌-◌, ◌*◌, ◌%◌, ◌^◌, ◌<◌, ◌≤◌, min, sym}
use Rattle.std.proofs.Common.{ap, subst, ◌∙◌, arith, List, [], ◌∷◌, ◌++◌, length, get_or, take, refl, All}
use Rattle.std.specs.Prelude.{bit_and, bit_or, slice_index, slice_set, Some, slice_get}
use mir.Val.{bits}
use Rattle.std.specs.Int.{Width, bit_at, bit_not, trailing_zeros, w128}
use Rattle.std.proofs.lemmas.List.{take_all, get_or_push, length_push}
use Rattle.std.proofs.lemmas.Nat.{and_le_l}
use Rattle.std.proofs.lemmas.Nat.Bits.{bit_at-lt, bit_at-trailing_zeros, bit_at-zero, bit_at_above, bit_at_and}
use Rattle.std.proofs.lemmas.Nat.Bits.{bit_at_not, bit_at_set_other, bit_at_set_same}
use Rattle.staat_vec.specs.declared.vector.Sign.{Sign}
use Rattle.staat_vec.specs.declared.vector.Sign.TheVariants.{Neg, Zero, Pos}
use Rattle.staat_model.specs.Cells.{sign_place}
use Rattle.staat_cells.specs.declared.batches.PlaneTest.{PlaneTest}
use Rattle.staat_cells.specs.declared.half_spaces.HalfSpace.{HalfSpace}
use Rattle.staat_cells.specs.HalfSpaces.{AreInside, IsInHalfSpace, sign_at}
use Rattle.staat_cells.specs.Batches.{IsLeft, IsLeftByAll, outside_at, outside_by, AddsToBatch, AreInsideCone}
use Rattle.staat_cells.specs.Batches.{HasCone, HasConeAmong, HasParts, IsBatch, IsBatchArc}
use Rattle.staat_cells.proofs.Growing.{all_more, all_pushed, all_set, itself, through, with_both, any_pushed}
use Rattle.staat_cells.proofs.Growing.{any_set, grown_first, grown_same, turned}
use Rattle.staat_vec.proofs.Naturals.{lt_or_le, zero_not_one, same_or}
use Rattle.std.specs.declared.alloc.Global.{Global}
use Rattle.std.specs.declared.vec.Vec.{Vec}
use Rattle.std.proofs.lemmas.List.Elements.{All-push, All-set}
use Rattle.staat_model.proofs.Places.{one_at_place, place_within}
use Rattle.staat_cells.specs.declared.batches.ArcCones.{ArcCones}
use Rattle.staat_cells.specs.declared.batches.Batch.{Batch}
use Rattle.staat_cells.specs.CellGraphs.{AddsCone, HasConeRoom}
use Rattle.staat_vec.proofs.ListLaws.{push_cases, push_front, push_end}

-- ---- a bit more

pub set_bit : (w : Width) (x j k : ℕ) → j < bits w
    → (bit_at (bit_or x (1 * 2 ^ j % 2 ^ bits w)) k ≡ 1) ↔ ((bit_at x k ≡ 1) ⊎ (k ≡ j))
set_bit w x j k lt = ⊎_elim {C = (bit_at (bit_or x (1 * 2 ^ j % 2 ^ bits w)) k ≡ 1) ↔ ((bit_at x k ≡ 1) ⊎ (k ≡ j))}
    (λ e. (λ h. inr e, λ h. ap (bit_at (bit_or x (1 * 2 ^ j % 2 ^ bits w))) e ∙ bit_at_set_same w x j lt))
    (λ ne. let kept = bit_at_set_other w x j lt k ne in
    (λ h. inl (sym kept ∙ h), ⊎_elim (λ o. kept ∙ o) (λ e. absurd (ne e))))
    (same_or k j)

-- a bit that is set to no purpose of Q
pub clear_bit : (x j k : ℕ) (Q : Type 0) → j < 128 → (Q → ⊥)
    → (bit_at (bit_or x (1 * 2 ^ j % 2 ^ 128)) k ≡ 0) ↔ ((bit_at x k ≡ 0) × (k ≡ j → Q))
clear_bit x j k Q lt never = ⊎_elim {C = (bit_at (bit_or x (1 * 2 ^ j % 2 ^ 128)) k ≡ 0) ↔ ((bit_at x k ≡ 0)
    × (k ≡ j → Q))}
    (λ e. let one = ap (bit_at (bit_or x (1 * 2 ^ j % 2 ^ 128))) e ∙ bit_at_set_same w128 x j lt in
    (λ h. absurd (zero_not_one (bit_at (bit_or x (1 * 2 ^ j % 2 ^ 128)) k) h one), λ h. absurd (never (h.1 e))))
    (λ ne. let kept = bit_at_set_other w128 x j lt k ne in
    (λ h. (sym kept ∙ h, λ e. absurd (ne e)), λ h. kept ∙ h.0))
    (same_or k j)

-- what holds of the word of each side holds of the test
pub each_side : (P : Sign → ℕ → Type 0) (below on above : ℕ) → P Neg below → P Zero on → P Pos above
    → (t : Sign) → P t (slice_index (below ∷ on ∷ above ∷ []) (sign_place t))
each_side P below on above n z p Neg = n
each_side P below on above n z p Zero = z
each_side P below on above n z p Pos = p

-- ---- a half-space more

-- the tests have grown by what has Q of the cone j
abbrev pub AddsHalfSpaces : (List Sign → Type 0) → ℕ → List PlaneTest → List PlaneTest → Type 0
AddsHalfSpaces Q j old new = (signs : List Sign) (k : ℕ)
    → IsLeftByAll (outside_by signs) new k ↔ (IsLeftByAll (outside_by signs) old k × (k ≡ j → Q signs))

-- the test of a plane with the side s of the cone j
abbrev pub HasGrown : PlaneTest → PlaneTest → Sign → ℕ → Type 0
HasGrown old new s j = (t : Sign) (k : ℕ) → IsLeft (outside_at new t) k ↔ (IsLeft (outside_at old t) k × (k ≡ j → t ≡ s))

pub half_space_set : (tests : List PlaneTest) (half_space : HalfSpace) (j at : ℕ) (d x : PlaneTest) → at < length tests
    → d ≡ get_or tests at d → d.plane ≡ half_space.plane → x.plane ≡ d.plane → HasGrown d x half_space.sign j
    → AddsHalfSpaces (λ signs. IsInHalfSpace signs half_space) j tests (slice_set tests at x)
half_space_set tests half_space j at d x lt is plane same grown signs k =
    all_set (λ t. IsLeft (outside_at t (sign_at signs t.plane)) k) tests at d x (k ≡ j → IsInHalfSpace signs half_space) lt is
    (subst (λ n. IsLeft (outside_at x (sign_at signs n)) k
    ↔ (IsLeft (outside_at d (sign_at signs d.plane)) k × (k ≡ j → IsInHalfSpace signs half_space))) (sym same)
    (subst (λ n. IsLeft (outside_at x (sign_at signs d.plane)) k
    ↔ (IsLeft (outside_at d (sign_at signs d.plane)) k × (k ≡ j → sign_at signs n ≡ half_space.sign))) plane
    (grown (sign_at signs d.plane) k)))

pub half_space_pushed : (tests new : List PlaneTest) (half_space : HalfSpace) (j : ℕ) (x : PlaneTest) → x.plane ≡ half_space.plane
    → HasGrown (record { plane = half_space.plane; outside = 0 ∷ 0 ∷ 0 ∷ [] }) x half_space.sign j
    → new ≡ tests ++ x ∷ []
    → AddsHalfSpaces (λ signs. IsInHalfSpace signs half_space) j tests new
half_space_pushed tests new half_space j x same grown is signs k =
    through (all_pushed (λ t. IsLeft (outside_at t (sign_at signs t.plane)) k) tests new x is) (with_both itself own)
  where
    left : (t : Sign) → IsLeft (outside_at (record { plane = half_space.plane; outside = 0 ∷ 0 ∷ 0 ∷ [] }) t) k
    left Neg = bit_at-zero k
    left Zero = bit_at-zero k
    left Pos = bit_at-zero k

    own : IsLeft (outside_at x (sign_at signs x.plane)) k ↔ (k ≡ j → IsInHalfSpace signs half_space)
    own = subst (λ n. IsLeft (outside_at x (sign_at signs n)) k ↔ (k ≡ j → IsInHalfSpace signs half_space)) (sym same) (
      λ h. ((grown (sign_at signs half_space.plane) k).0 h).1,
      λ h. (grown (sign_at signs half_space.plane) k).1 (left (sign_at signs half_space.plane), h),
    )

pub no_half_spaces : (tests : List PlaneTest) (cone : List HalfSpace) (j : ℕ)
    → AddsHalfSpaces (λ signs. AreInside signs (take 0 cone)) j tests tests
no_half_spaces tests cone j signs k = (λ h. (h, λ e i d lt. absurd (omega (arith, lt))), λ h. h.0)

pub more_half_spaces : (cone : List HalfSpace) (x : HalfSpace) (i j : ℕ) (old mid new : List PlaneTest) → i < length cone
    → x ≡ get_or cone i x → AddsHalfSpaces (λ signs. AreInside signs (take i cone)) j old mid
    → AddsHalfSpaces (λ signs. IsInHalfSpace signs x) j mid new
    → AddsHalfSpaces (λ signs. AreInside signs (take (i + 1) cone)) j old new
more_half_spaces cone x i j old mid new lt at before one signs k =
    let more = all_more (IsInHalfSpace signs) cone i x lt at in (
      λ h. let last = (one signs k).0 h in
          let first = (before signs k).0 last.0 in
          (first.0, λ e. more.1 (first.1 e, last.1 e)),
      λ h. (one signs k).1 ((before signs k).1 (h.0, λ e. (more.0 (h.1 e)).0), λ e. (more.0 (h.1 e)).1),
    )

pub all_half_spaces : (cone : List HalfSpace) (i j : ℕ) (old new : List PlaneTest) → length cone ≤ i
    → AddsHalfSpaces (λ signs. AreInside signs (take i cone)) j old new
    → AddsHalfSpaces (λ signs. AreInside signs cone) j old new
all_half_spaces cone i j old new le h = subst (λ l. AddsHalfSpaces (λ signs. AreInside signs l) j old new) (take_all i cone
    le) h

-- ---- what is in one word and not in another

pub without_some : (x y : ℕ) → x < 2 ^ 128 → y < 2 ^ 128
    → (bit_and x (bit_not w128 y) ≢ 0) ↔ ((j : ℕ) × (bit_at x j ≡ 1) × (bit_at y j ≡ 0))
without_some x y x_fits y_fits = (from, to)
  where
    left : ℕ
    left = bit_and x (bit_not w128 y)

    bit : (j : ℕ) → j < 128 → bit_at left j ≡ min (bit_at x j) (1 - bit_at y j)
    bit j lt = bit_at_and x (bit_not w128 y) j ∙ ap (min (bit_at x j)) (bit_at_not w128 y j y_fits lt)

    from : left ≢ 0 → (j : ℕ) × (bit_at x j ≡ 1) × (bit_at y j ≡ 0)
    from some =
        let j = trailing_zeros w128 left in
        let fits : left < 2 ^ 128 = (let le = and_le_l x (bit_not w128 y) in omega (arith, le, x_fits)) in
        let lowest = bit_at-trailing_zeros w128 left (omega (arith, some)) fits in
        let e : min (bit_at x j) (1 - bit_at y j) ≡ 1 = sym (bit j lowest.0) ∙ lowest.1 in
        (j, omega (arith, e, bit_at-lt x j), omega (arith, e))

    to : ((j : ℕ) × (bit_at x j ≡ 1) × (bit_at y j ≡ 0)) → left ≢ 0
    to (j, one, none) z = zero_not_one (bit_at left j) (ap (λ n. bit_at n j) z ∙ bit_at-zero j)
        (bit j within ∙ omega (arith, one, none))
      where
        within : j < 128
        within = elim (lt_or_le j 128) [
          | inl lt ↦ lt
          | inr le ↦ absurd (zero_not_one (bit_at x j) (bit_at_above x 128 j x_fits le) one)
        ]

-- the arcs have grown by the cone j of the parts a and b
abbrev pub AddsArc : ℕ → ℕ → ℕ → List ArcCones → List ArcCones → Type 0
AddsArc a b j old new = (x y k : ℕ) → HasCone new x y k ↔ (HasCone old x y k ⊎ ((x ≡ a) × (y ≡ b)
    × (k ≡ j)))

-- the cones that are left of two parts, where only the cone j has come, which is left where Q holds
among_more : (old new : List ArcCones) (before after : ℕ → Type 0) (a b j x y : ℕ) (Q : Type 0) → AddsArc a b j old new
    → ((k : ℕ) → HasCone old x y k → before k ↔ after k) → after j ↔ Q
    → HasConeAmong new after x y ↔ (HasConeAmong old before x y ⊎ ((x ≡ a) × (y ≡ b) × Q))
among_more old new before after a b j x y Q adds same here = (from, to)
  where
    from : HasConeAmong new after x y → HasConeAmong old before x y ⊎ ((x ≡ a) × (y ≡ b) × Q)
    from h = ⊎_elim {C = HasConeAmong old before x y ⊎ ((x ≡ a) × (y ≡ b) × Q)}
        (λ o. inl (record { cone = h.cone; has = o; is_left = (same h.cone o).1 h.is_left }))
        (λ p. inr (p.0, p.1, here.0 (subst after p.2 h.is_left)))
        ((adds x y h.cone).0 h.has)

    to : HasConeAmong old before x y ⊎ ((x ≡ a) × (y ≡ b) × Q) → HasConeAmong new after x y
    to (inl h) = record { cone = h.cone; has = (adds x y h.cone).1 (inl h.has); is_left = (same h.cone h.has).0 h.is_left }
    to (inr (e, f, q)) = record { cone = j; has = (adds x y j).1 (inr (e, f, refl)); is_left = here.1 q }

-- ---- parts more

pub parts_batch : (old : Batch) (arcs : Vec ArcCones Global) (cone : List HalfSpace) (a b j : ℕ) → IsBatch old
    → slice_get old.cones.items j ≡ Some cone → All HasParts arcs.items → AddsArc a b j old.arcs.items arcs.items
    → AddsToBatch cone a b old (record { cones = old.cones; tests = old.tests; arcs = arcs })
parts_batch old arcs cone a b j rules at parts adds = record {
  batch = record {
    few = rules.few;
    tests = rules.tests;
    within = λ x y k h. ⊎_elim {C = k < length old.cones.items} (λ o. rules.within x y k o)
        (λ p. subst (λ n. n < length old.cones.items) (sym p.2) (place_within old.cones.items j cone at))
        ((adds x y k).0 h);
    parts = parts;
  };
  arcs = λ signs x y. among_more old.arcs.items arcs.items (IsLeftByAll (outside_by signs) old.tests.items)
      (IsLeftByAll (outside_by signs) old.tests.items) a b j x y (AreInside signs cone) adds (λ k o. itself) (
        λ left. (rules.tests signs j).0 left cone at,
        λ inside. (rules.tests signs j).1
            (λ o is. subst (AreInside signs) (one_at_place old.cones.items j cone o at is) inside),
      );
}

-- ---- a cone more

pub cone_batch : (old new : Batch) (cone : List HalfSpace) (a b j : ℕ) → IsBatch old → j ≡ length old.cones.items
    → length old.cones.items < 128 → new.cones.items ≡ old.cones.items ++ cone ∷ []
    → AddsHalfSpaces (λ signs. AreInside signs cone) j old.tests.items new.tests.items → All HasParts new.arcs.items
    → AddsArc a b j old.arcs.items new.arcs.items → AddsToBatch cone a b old new
cone_batch old new cone a b j rules last room cones_are half_spaces parts adds = record {
  batch = record {
    few = subst (λ l. length l ≤ 128) (sym cones_are) (let e = length_push old.cones.items cone in omega (
      arith,
      e,
      room,
    ));
    tests = λ signs k. (tested signs k, untested signs k);
    within = λ x y k h. subst (λ l. k < length l) (sym cones_are) (⊎_elim {C = k < length (old.cones.items ++
        cone ∷ [])}
        (λ o. let lt = rules.within x y k o in let e = length_push old.cones.items cone in omega (arith, e, lt))
        (λ p. let is = p.2 in let e = length_push old.cones.items cone in omega (arith, e, is, last))
        ((adds x y k).0 h));
    parts = parts;
  };
  arcs = λ signs x y. among_more old.arcs.items new.arcs.items (IsLeftByAll (outside_by signs) old.tests.items)
      (IsLeftByAll (outside_by signs) new.tests.items) a b j x y (AreInside signs cone) adds
      (λ k o. (
        λ left. (half_spaces signs k).1 (left, λ e. absurd (let lt = rules.within x y k o in omega (arith, lt, e, last))),
        λ left. ((half_spaces signs k).0 left).0,
      )) (
        λ left. ((half_spaces signs j).0 left).1 refl,
        λ inside. (half_spaces signs j).1 (
          (rules.tests signs j).1 (λ o is. absurd (let lt = place_within old.cones.items j o is in omega (arith, lt, last))),
          λ same. inside,
        ),
      );
}
  where
    tested : (signs : List Sign) (k : ℕ) → IsLeftByAll (outside_by signs) new.tests.items k
        → AreInsideCone signs new.cones.items k
    tested signs k h o at =
        let both = (half_spaces signs k).0 h in
        ⊎_elim {C = AreInside signs o} (λ e. (rules.tests signs k).0 both.0 o e)
        (λ p. subst (AreInside signs) p.1 (both.1 (p.0 ∙ sym last)))
        (push_cases old.cones.items cone o k (subst (λ l. slice_get l k ≡ Some o) cones_are at))

    untested : (signs : List Sign) (k : ℕ) → AreInsideCone signs new.cones.items k
        → IsLeftByAll (outside_by signs) new.tests.items k
    untested signs k all = (half_spaces signs k).1 (
      (rules.tests signs k).1 (λ o e. all o (subst (λ l. slice_get l k ≡ Some o) (sym cones_are)
          (push_front old.cones.items cone o k e))),
      λ e. all cone (subst (λ l. slice_get l k ≡ Some cone) (sym cones_are)
          (subst (λ n. slice_get (old.cones.items ++ cone ∷ []) n ≡ Some cone) (sym (e ∙ last))
          (push_end old.cones.items cone))),
    )

pub no_batch_arcs : (batch : Batch) → batch.arcs.items ≡ [] → (signs : List Sign) (x y : ℕ)
    → IsBatchArc batch signs x y
    → ⊥
no_batch_arcs batch none signs x y h =
    let (k, arc, lt, e, is) = h.has in
    let few : length batch.arcs.items ≡ 0 = ap length none in omega (arith, lt, few)

-- ---- all batches

pub batch_set : (batches : List Batch) (k : ℕ) (old new : Batch) (cone : List HalfSpace) (a b : ℕ) → k < length batches
    → old ≡ get_or batches k old → All IsBatch batches → AddsToBatch cone a b old new
    → AddsCone cone a b batches (slice_set batches k new)
batch_set batches k old new cone a b lt at rules added = record {
  arcs = λ signs x y. any_set (λ batch. IsBatchArc batch signs x y) batches k old new
      ((x ≡ a) × (y ≡ b) × AreInside signs cone) lt at (added.arcs signs x y);
  batches = All-set IsBatch batches k new added.batch rules;
}

-- an empty batch behind them
pub batch_empty : (batches grown : List Batch) (none : Batch) → none.cones.items ≡ [] → none.tests.items ≡ []
    → none.arcs.items ≡ [] → grown ≡ batches ++ none ∷ [] → All IsBatch batches → HasConeRoom batches grown
batch_empty batches grown none cones tests arcs is rules =
    subst (λ l. HasConeRoom batches l) (sym is) (record {
      some = omega (arith, long);
      room = λ d. subst (λ (b : Batch). length b.cones.items < 128) (sym (get_or_push batches none d
          (length (batches ++ none ∷ []) - 1) (omega (arith, long)))) (omega (arith, ap length cones));
      arcs = λ signs x y. grown_first
          (turned (any_pushed (λ b. IsBatchArc b signs x y) batches (batches ++ none ∷ []) none refl))
          (no_batch_arcs none arcs signs x y);
      batches = All-push IsBatch batches none rules (record {
        few = omega (arith, ap length cones);
        tests = λ signs j. (
          λ h cone at. absurd (let lt = place_within none.cones.items j cone at in omega (arith, lt, ap length cones)),
          λ h k d lt. absurd (omega (arith, lt, ap length tests)),
        );
        within = λ x y j h. absurd (let lt = h.2 in omega (arith, lt, ap length arcs));
        parts = λ k d lt. absurd (omega (arith, lt, ap length arcs));
      });
    })
  where
    long : length (batches ++ none ∷ []) ≡ length batches + 1
    long = length_push batches none

-- a cone more where no arc had come before
pub batch_room : (old mid new : List Batch) (cone : List HalfSpace) (a b : ℕ) → HasConeRoom old mid
    → AddsCone cone a b mid new → AddsCone cone a b old new
batch_room old mid new cone a b room adds = record {
  arcs = λ signs x y. turned (grown_same (turned (adds.arcs signs x y)) (room.arcs signs x y));
  batches = adds.batches;
}
