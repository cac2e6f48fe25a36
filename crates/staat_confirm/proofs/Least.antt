-- The least pair of pieces that meet, found number by number.
use Rattle.std.proofs.Common.{◌≡◌, ◌⊎◌, ◌↔◌, ℕ, ◌+◌, ◌<◌, ◌≤◌, List, length, get_or, take, inl, inr, ⊎_elim, refl, sym, ap, subst, ◌∙◌, arith, All, Contains}
use Rattle.std.specs.Prelude.{Any, Option, None, Some}
use Rattle.std.specs.List.Sorted.{IsStrictlySortedBy}
use Rattle.std.specs.Ordering.{nat_cmp}
use Rattle.std.specs.declared.cmp.Ordering.TheVariants.{Less}
use Rattle.std.proofs.lemmas.List.Elements.{All-contains}
use Rattle.staat_vec.specs.declared.vector.V3.{V3}
use Rattle.staat_vec.specs.Lists.{IsLeast}
use Rattle.staat_model.specs.declared.assembly.Part.{Part}
use Rattle.staat_model.specs.declared.certificate.Arc.{Arc}
use Rattle.staat_model.specs.Assemblies.{piece_count}
use Rattle.staat_model.specs.Certificates.{arc_cmp}
use Rattle.staat_model.specs.Removal.{Blocks, MeetsAlong}
use Rattle.staat_confirm.specs.Found.{FindsLeast, MeetsBetween, MeetsFrom, MeetsFromPiece, MeetsTo}
use Rattle.staat_confirm.proofs.Lists.{before_place, take_cases, take_end}
use Rattle.staat_model.proofs.ArcOrder.{less_by_a, less_by_i, less_by_b, less_by_j}
use Rattle.staat_model.proofs.PlanLemmas.{piece_within}
use Rattle.staat_vec.proofs.Naturals.{trichotomy}

-- ---- the least of those with one number is the least of all

pub least_at : (P Q : Arc → Type 0) (f : Arc → ℕ) (n : ℕ) (arc : Arc) → IsLeast arc_cmp Q arc → ((y : Arc) → Q y → P y) → ((y : Arc) → P y → f y ≡ n → Q y) → ((y : Arc) → P y → f y < n → ⊥) → ((y : Arc) → P y → n < f y → arc_cmp arc y ≡ Less)
    → IsLeast arc_cmp P arc
least_at P Q f n arc least to from below above = record {
  has = to arc least.has;
  least = λ y p. ⊎_elim {C = (y ≡ arc) ⊎ (arc_cmp arc y ≡ Less)} (λ lt. absurd (below y p lt))
      (λ r. ⊎_elim {C = (y ≡ arc) ⊎ (arc_cmp arc y ≡ Less)} (λ e. least.least y (from y p e)) (λ gt. inr (above y p gt)) r)
      (trichotomy (f y) n);
}

-- none with P has a number below k
abbrev pub NoneBelow : (Arc → Type 0) → (Arc → ℕ) → ℕ → Type 0
NoneBelow P f k = (arc : Arc) → P arc → f arc < k → ⊥

pub below_more : (P : Arc → Type 0) (f : Arc → ℕ) (k : ℕ) → NoneBelow P f k → ((arc : Arc) → P arc → f arc ≡ k → ⊥) → NoneBelow P f (k + 1)
below_more P f k none here arc p lt = ⊎_elim {C = ⊥} (λ less. none arc p less) (λ e. here arc p e) (last (f arc) lt)
  where
    last : (m : ℕ) → m < k + 1 → (m < k) ⊎ (m ≡ k)
    last m h = grind arith

-- none with P has a number among the first k of the list
abbrev pub NoneListed : (Arc → Type 0) → (Arc → ℕ) → List ℕ → ℕ → Type 0
NoneListed P f xs k = (arc : Arc) → P arc → Contains (take k xs) (f arc) → ⊥

pub listed_more : (P : Arc → Type 0) (f : Arc → ℕ) (xs : List ℕ) (k : ℕ) → k < length xs → NoneListed P f xs k → ((arc : Arc) → P arc → f arc ≡ get_or xs k 0 → ⊥) → NoneListed P f xs (k + 1)
listed_more P f xs k lt none here arc p c = ⊎_elim {C = ⊥} (λ old. none arc p old) (λ e. here arc p (sym e)) (take_cases xs k 0 (f arc) lt c)

pub listed_end : (P : Arc → Type 0) (f : Arc → ℕ) (xs : List ℕ) (k : ℕ) → length xs ≤ k → ((arc : Arc) → P arc → Contains xs (f arc)) → NoneListed P f xs k → (arc : Arc) → P arc → ⊥
listed_end P f xs k le listed none arc p = none arc p (take_end xs k (f arc) le (listed arc p))

pub listed_found : (P Q : Arc → Type 0) (f : Arc → ℕ) (xs : List ℕ) (k : ℕ) (arc : Arc) → IsStrictlySortedBy nat_cmp xs → k < length xs → NoneListed P f xs k → ((y : Arc) → P y → Contains xs (f y)) → IsLeast arc_cmp Q arc → ((y : Arc) → Q y → P y)
    → ((y : Arc) → P y → f y ≡ get_or xs k 0 → Q y) → ((y : Arc) → P y → get_or xs k 0 < f y → arc_cmp arc y ≡ Less) → IsLeast arc_cmp P arc
listed_found P Q f xs k arc sorted lt none listed least to from above =
    least_at P Q f (get_or xs k 0) arc least to from (λ y p less. none y p (before_place xs k (f y) sorted lt (listed y p) less)) above

-- an option, known by its variant

pub found_none : (P : Arc → Type 0) (answer : Option Arc) → answer ≡ None → FindsLeast P answer → (arc : Arc) → P arc → ⊥
found_none P answer e h = subst (FindsLeast P) e h

pub found_some : (P : Arc → Type 0) (answer : Option Arc) (arc : Arc) → answer ≡ Some arc → FindsLeast P answer → IsLeast arc_cmp P arc
found_some P answer arc e h = subst (FindsLeast P) e h

pub finds_same : (P Q : Arc → Type 0) (answer : Option Arc) → ((y : Arc) → P y ↔ Q y) → FindsLeast P answer → FindsLeast Q answer
finds_same P Q None same h = λ arc q. h arc ((same arc).1 q)
finds_same P Q (Some arc) same h = record { has = (same arc).0 h.has; least = λ y q. h.least y ((same y).1 q) }

-- ---- the four numbers

module _ (parts : List Part) (d : V3) where
  same_arc : (a i b j : ℕ) (y : Arc) → MeetsTo parts d a i b y → y.j ≡ j → y ≡ record { a = a; i = i; b = b; j = j }
  same_arc a i b j y p e = λ t. record { a = p.0 t; i = p.1 t; b = p.2 t; j = e t }

  pub to_found : (a i b j : ℕ) → NoneBelow (MeetsTo parts d a i b) (λ arc. arc.j) j → MeetsAlong parts d (record { a = a; i = i; b = b; j = j }) → IsLeast arc_cmp (MeetsTo parts d a i b) (record { a = a; i = i; b = b; j = j })
  to_found a i b j none meets =
      let x : Arc = record { a = a; i = i; b = b; j = j } in record {
        has = (refl, refl, refl, meets);
        least = λ y p. ⊎_elim {C = (y ≡ x) ⊎ (arc_cmp x y ≡ Less)} (λ lt. absurd (none y p lt))
            (λ r. ⊎_elim {C = (y ≡ x) ⊎ (arc_cmp x y ≡ Less)} (λ e. inl (same_arc a i b j y p e)) (λ gt. inr (less_by_j x y (sym p.0) (sym p.1) (sym p.2) gt)) r) (trichotomy y.j j);
      }

  pub to_more : (a i b j : ℕ) → NoneBelow (MeetsTo parts d a i b) (λ arc. arc.j) j → (MeetsAlong parts d (record { a = a; i = i; b = b; j = j }) → ⊥) → NoneBelow (MeetsTo parts d a i b) (λ arc. arc.j) (j + 1)
  to_more a i b j none not = below_more (MeetsTo parts d a i b) (λ arc. arc.j) j none (λ y p e. not (subst (MeetsAlong parts d) (same_arc a i b j y p e) p.3))

  pub to_end : (a i b j : ℕ) → piece_count parts b ≤ j → NoneBelow (MeetsTo parts d a i b) (λ arc. arc.j) j → (arc : Arc) → MeetsTo parts d a i b arc → ⊥
  to_end a i b j le none arc p =
      let lt = piece_within parts arc.b arc.j p.3.q p.3.q_is in
      let same : piece_count parts arc.b ≡ piece_count parts b = ap (piece_count parts) p.2 in
      none arc p (omega (arith, lt, same, le))

  pub piece_found : (a i : ℕ) (rest : List ℕ) (k : ℕ) (arc : Arc) → IsStrictlySortedBy nat_cmp rest → k < length rest → NoneListed (MeetsFromPiece parts d a i rest) (λ y. y.b) rest k
      → IsLeast arc_cmp (MeetsTo parts d a i (get_or rest k 0)) arc → Contains rest (get_or rest k 0) → IsLeast arc_cmp (MeetsFromPiece parts d a i rest) arc
  piece_found a i rest k arc sorted lt none least listed =
      listed_found (MeetsFromPiece parts d a i rest) (MeetsTo parts d a i (get_or rest k 0)) (λ y. y.b) rest k arc sorted lt none (λ y p. p.2) least
      (λ y q. (q.0, q.1, subst (Contains rest) (sym q.2) listed, q.3))
      (λ y p e. (p.0, p.1, e, p.3))
      (λ y p gt. let h = least.has in less_by_b arc y (h.0 ∙ sym p.0) (h.1 ∙ sym p.1) (let e = h.2 in omega (arith, e, gt)))

  pub piece_more : (a i : ℕ) (rest : List ℕ) (k : ℕ) → k < length rest → NoneListed (MeetsFromPiece parts d a i rest) (λ y. y.b) rest k → ((arc : Arc) → MeetsTo parts d a i (get_or rest k 0) arc → ⊥)
      → NoneListed (MeetsFromPiece parts d a i rest) (λ y. y.b) rest (k + 1)
  piece_more a i rest k lt none here = listed_more (MeetsFromPiece parts d a i rest) (λ y. y.b) rest k lt none (λ y p e. here y (p.0, p.1, e, p.3))

  pub piece_end : (a i : ℕ) (rest : List ℕ) (k : ℕ) → length rest ≤ k → NoneListed (MeetsFromPiece parts d a i rest) (λ y. y.b) rest k → (arc : Arc) → MeetsFromPiece parts d a i rest arc → ⊥
  piece_end a i rest k le none = listed_end (MeetsFromPiece parts d a i rest) (λ y. y.b) rest k le (λ y p. p.2) none

  pub from_found : (a i : ℕ) (rest : List ℕ) (arc : Arc) → NoneBelow (MeetsFrom parts d a rest) (λ y. y.i) i → IsLeast arc_cmp (MeetsFromPiece parts d a i rest) arc → IsLeast arc_cmp (MeetsFrom parts d a rest) arc
  from_found a i rest arc none least =
      least_at (MeetsFrom parts d a rest) (MeetsFromPiece parts d a i rest) (λ y. y.i) i arc least (λ y q. (q.0, q.2, q.3)) (λ y p e. (p.0, e, p.1, p.2)) none
      (λ y p gt. let h = least.has in less_by_i arc y (h.0 ∙ sym p.0) (let e = h.1 in omega (arith, e, gt)))

  pub from_more : (a i : ℕ) (rest : List ℕ) → NoneBelow (MeetsFrom parts d a rest) (λ y. y.i) i → ((arc : Arc) → MeetsFromPiece parts d a i rest arc → ⊥) → NoneBelow (MeetsFrom parts d a rest) (λ y. y.i) (i + 1)
  from_more a i rest none here = below_more (MeetsFrom parts d a rest) (λ y. y.i) i none (λ y p e. here y (p.0, e, p.1, p.2))

  pub from_end : (a i : ℕ) (rest : List ℕ) → piece_count parts a ≤ i → NoneBelow (MeetsFrom parts d a rest) (λ y. y.i) i → (arc : Arc) → MeetsFrom parts d a rest arc → ⊥
  from_end a i rest le none arc p =
      let lt = piece_within parts arc.a arc.i p.2.p p.2.p_is in
      let same : piece_count parts arc.a ≡ piece_count parts a = ap (piece_count parts) p.0 in
      none arc p (omega (arith, lt, same, le))

  -- a part that blocks none has no piece that meets one
  pub none_blocked : (a : ℕ) (rest : List ℕ) → All (λ b. b ≡ a → ⊥) rest → (Any (Blocks parts d a) rest → ⊥) → (arc : Arc) → MeetsFrom parts d a rest arc → ⊥
  none_blocked a rest other none arc (same, (k, lt, e), meets) =
      none (k, arc.b, lt, e, record { i = arc.i; j = arc.j; different = λ f. All-contains (λ b. b ≡ a → ⊥) rest arc.b other (k, lt, e) (sym f); meets = subst (MeetsAlong parts d) (λ t. record { a = same t; i = arc.i; b = arc.b; j = arc.j }) meets })

  pub between_found : (moved rest : List ℕ) (k : ℕ) (arc : Arc) → IsStrictlySortedBy nat_cmp moved → k < length moved → NoneListed (MeetsBetween parts d moved rest) (λ y. y.a) moved k
      → IsLeast arc_cmp (MeetsFrom parts d (get_or moved k 0) rest) arc → Contains moved (get_or moved k 0) → IsLeast arc_cmp (MeetsBetween parts d moved rest) arc
  between_found moved rest k arc sorted lt none least listed =
      listed_found (MeetsBetween parts d moved rest) (MeetsFrom parts d (get_or moved k 0) rest) (λ y. y.a) moved k arc sorted lt none (λ y p. p.from) least
      (λ y q. record { from = subst (Contains moved) (sym q.0) listed; to = q.1; meets = q.2 })
      (λ y p e. (e, p.to, p.meets))
      (λ y p gt. let h = least.has in less_by_a arc y (let e = h.0 in omega (arith, e, gt)))

  pub between_more : (moved rest : List ℕ) (k : ℕ) → k < length moved → NoneListed (MeetsBetween parts d moved rest) (λ y. y.a) moved k → ((arc : Arc) → MeetsFrom parts d (get_or moved k 0) rest arc → ⊥)
      → NoneListed (MeetsBetween parts d moved rest) (λ y. y.a) moved (k + 1)
  between_more moved rest k lt none here = listed_more (MeetsBetween parts d moved rest) (λ y. y.a) moved k lt none (λ y p e. here y (e, p.to, p.meets))

  pub between_end : (moved rest : List ℕ) (k : ℕ) → length moved ≤ k → NoneListed (MeetsBetween parts d moved rest) (λ y. y.a) moved k → (arc : Arc) → MeetsBetween parts d moved rest arc → ⊥
  between_end moved rest k le none = listed_end (MeetsBetween parts d moved rest) (λ y. y.a) moved k le (λ y p. p.from) none
