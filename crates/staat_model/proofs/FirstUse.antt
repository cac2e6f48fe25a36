-- There is one way to number values by first use.
use Rattle.std.proofs.Common.{◌≡◌, ℕ, zero, suc, ◌<◌, List, length, arith, ap, sym, ◌∙◌, inl, inr}
use Rattle.std.specs.Prelude.{Some, slice_get}
use Rattle.staat_model.specs.Certify.{NumbersByFirstUse}
use Rattle.staat_model.proofs.Places.{one_at_place, place_within, same_places, some_at}
use Rattle.staat_vec.proofs.Naturals.{lt_suc_cases, trichotomy}
use Rattle.staat_vec.proofs.ListLaws.{place_of}

-- a number below one in use was used before
used_below : (n : ℕ) (us : List ℕ) → NumbersByFirstUse n us → (k m q : ℕ) → slice_get us m ≡ Some k → q < k → (j : ℕ) × (j < m) × (slice_get us j ≡ Some q)
used_below n us o zero m q at lt = absurd (omega arith)
used_below n us o (suc k) m q at lt =
    let before = o.in_order k m at in
    elim (lt_suc_cases q k lt) [
      | inl less ↦ (let earlier = used_below n us o k before.0 q before.2 less in (earlier.0, omega (arith, before.1, earlier.1), earlier.2))
      | inr e ↦ (before.0, before.1, before.2 ∙ ap Some (sym e))
    ]

-- no element stands at two places
abbrev pub IsDistinct : {X : Type 0} → List X → Type 0
IsDistinct {X} xs = (k m : ℕ) (x : X) → slice_get xs k ≡ Some x → slice_get xs m ≡ Some x → k ≡ m

-- at each place the number of us in ws and that of vs in xs stand for one value
abbrev pub StandForSame : {X : Type 0} → List ℕ → List ℕ → List X → List X → Type 0
StandForSame {X} us vs ws xs = (i k m : ℕ) → slice_get us i ≡ Some k → slice_get vs i ≡ Some m → (x : X) × (slice_get ws k ≡ Some x) × (slice_get xs m ≡ Some x)

turned : {X : Type 0} (us vs : List ℕ) (ws xs : List X) → StandForSame us vs ws xs → StandForSame vs us xs ws
turned us vs ws xs same i k m a b = let s = same i m k b a in (s.0, s.2, s.1)

-- a lesser number in the second list is the same
lesser : {X : Type 0} (us vs : List ℕ) (ws xs : List X) → NumbersByFirstUse (length xs) vs → IsDistinct xs → StandForSame us vs ws xs
    → (i k m : ℕ) → ((j : ℕ) → j < i → slice_get vs j ≡ Some k → slice_get us j ≡ Some k) → slice_get us i ≡ Some k → slice_get vs i ≡ Some m → k < m → k ≡ m
lesser us vs ws xs o distinct same i k m before a b lt =
    let early = used_below (length xs) vs o m i k b lt in
    let there = same early.0 k k (before early.0 early.1 early.2) early.2 in
    let here = same i k m a b in
    let e = one_at_place ws k there.0 here.0 there.1 here.1 in
    distinct k m here.0 (there.2 ∙ ap Some e) here.2

module _ {X : Type 0} (us vs : List ℕ) (ws xs : List X) (lengths : length us ≡ length vs) (ou : NumbersByFirstUse (length ws) us) (ov : NumbersByFirstUse (length xs) vs) (dw : IsDistinct ws) (dx : IsDistinct xs) (same : StandForSame us vs ws xs) where
  same_below : (n i k m : ℕ) → i < n → slice_get us i ≡ Some k → slice_get vs i ≡ Some m → k ≡ m
  same_below zero i k m lt a b = absurd (omega arith)
  same_below (suc n) i k m lt a b = elim (trichotomy k m) [
    | inl less ↦ lesser us vs ws xs ov dx same i k m (λ j early at. let u = some_at us j (omega (arith, place_within us i k a)) in u.1 ∙ ap Some (same_below n j u.0 k (omega arith) u.1 at)) a b less
    | inr other ↦ elim other [
      | inl e ↦ e
      | inr more ↦ sym (lesser vs us xs ws ou dw (turned us vs ws xs same) i m k (λ j early at. let v = some_at vs j (omega (arith, place_within vs i m b)) in v.1 ∙ ap Some (sym (same_below n j m v.0 (omega arith) at v.1))) b a more)
    ]
  ]

  across : (i k : ℕ) → slice_get us i ≡ Some k → slice_get vs i ≡ Some k
  across i k a = let v = some_at vs i (omega (arith, place_within us i k a, lengths)) in v.1 ∙ ap Some (sym (same_below (suc i) i k v.0 (omega arith) a v.1))

  value_across : (k : ℕ) (x : X) → slice_get ws k ≡ Some x → slice_get xs k ≡ Some x
  value_across k x at =
      let named = place_of us k (ou.used k (place_within ws k x at)) in
      let there = same named.0 k k named.1 (across named.0 k named.1) in
      there.2 ∙ ap Some (one_at_place ws k there.0 x there.1 at)

module _ {X : Type 0} (us vs : List ℕ) (ws xs : List X) (lengths : length us ≡ length vs) (ou : NumbersByFirstUse (length ws) us) (ov : NumbersByFirstUse (length xs) vs) (dw : IsDistinct ws) (dx : IsDistinct xs) (same : StandForSame us vs ws xs) where
  pub same_numbers : us ≡ vs
  same_numbers = same_places us vs (across us vs ws xs lengths ou ov dw dx same) (across vs us xs ws (sym lengths) ov ou dx dw (turned us vs ws xs same))

  pub same_values : ws ≡ xs
  same_values = same_places ws xs (value_across us vs ws xs lengths ou ov dw dx same) (value_across vs us xs ws (sym lengths) ov ou dx dw (turned us vs ws xs same))
