-- The first element of a list that breaks a rule.
use Rattle.std.proofs.Common.{◌≡◌, ℕ, ◌+◌, ◌<◌, ◌≤◌, List, length, get_or, ⊎_elim, sym, subst, ◌∙◌, arith, All}
use Rattle.std.specs.Prelude.{Option, Some, slice_get}
use Rattle.std.proofs.lemmas.Bool.{cases_eq}
use Rattle.std.proofs.lemmas.Option.{slice_get-get_or}
use Rattle.staat_vec.specs.Lists.{FailsFirst}
use Rattle.staat_model.specs.declared.assembly.Part.{Part}
use Rattle.staat_model.specs.declared.certificate.Arc.{Arc}
use Rattle.staat_model.proofs.Members.{All-from_members}
use Rattle.staat_model.proofs.Places.{place_within}
use Rattle.staat_holds.specs.Chains.{IsHoldPair, places_of}
use Rattle.staat_holds.specs.Holds.{IsCorePair}
use Rattle.staat_vec.proofs.ListLaws.{place_of}
use Rattle.staat_vec.proofs.Options.{some_injective}

module _ {X : Type 0} (P : X → Type 0) (xs : List X) where
  -- the first k keep it
  abbrev pub KeepBefore : ℕ → Type 0
  KeepBefore k = (m : ℕ) (x : X) → m < k → slice_get xs m ≡ Some x → P x

  pub keep_more : (k : ℕ) (d : X) → k < length xs → KeepBefore k → P (get_or xs k d) → KeepBefore (k + 1)
  keep_more k d lt before keeps m x m_lt at = ⊎_elim {C = P x}
      (λ e. subst P (some_injective (get_or xs k d) x (sym (slice_get-get_or xs k d lt) ∙ subst (λ j. slice_get xs j ≡ Some x) e at)) keeps)
      (λ other. before m x (omega (arith, m_lt, other)) at) (cases_eq m k)

  pub fails_at : (k : ℕ) (d : X) → k < length xs → KeepBefore k → (P (get_or xs k d) → ⊥) → FailsFirst P xs k
  fails_at k d lt before fails = record { x = get_or xs k d; at = slice_get-get_or xs k d lt; fails = fails; before = before }

  pub keep_all : (k : ℕ) → length xs ≤ k → KeepBefore k → All P xs
  keep_all k le before = All-from_members P xs (λ x c. let (m, at) = place_of xs x c in let lt = place_within xs m x at in before m x (omega (arith, lt, le)) at)

-- the first bad pair of a hold, whose nodes and pairs are seen in other places
pub bad_pair : (parts : List Part) (names : List ℕ) (places : List (Option ℕ)) (nodes ns : List ℕ) (pairs ps : List Arc) (k : ℕ) → ns ≡ nodes → ps ≡ pairs → places ≡ places_of ns names
    → FailsFirst (IsCorePair parts places (length ns)) ps k → FailsFirst (IsHoldPair parts names nodes) pairs k
bad_pair parts names places nodes ns pairs ps k same_nodes same_pairs is fails =
    subst (λ qs. FailsFirst (IsHoldPair parts names nodes) qs k) same_pairs
    (subst (λ ms. FailsFirst (IsCorePair parts (places_of ms names) (length ms)) ps k) same_nodes
    (subst (λ qs. FailsFirst (IsCorePair parts qs (length ns)) ps k) is fails))
