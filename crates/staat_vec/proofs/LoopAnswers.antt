-- What a loop answers that goes over a list up to the first that has a property, or breaks a rule.
use Rattle.std.proofs.Common.{◌≡◌, ◌↔◌, refl, ℕ, ◌≤◌, ◌<◌, subst, sym, List, length, get_or, take, All}
use Rattle.std.specs.Prelude.{Any, IsTrue, Some, false, slice_get, true}
use Rattle.std.proofs.lemmas.Bool.{false≢true}
use Rattle.std.proofs.lemmas.List.{get_or_default}
use Rattle.staat_vec.proofs.ListLaws.{All-at, All-taken}

module _ {X : Type 0} (P : X → Type 0) (xs : List X) (k : ℕ) where
  pub not_all : (x : X) → slice_get xs k ≡ Some x → (P x → ⊥) → IsTrue false ↔ All P xs
  not_all x at fails = (λ t. absurd (false≢true t), λ all. absurd (fails (All-at P xs k x at all)))

  pub all_kept : length xs ≤ k → All P (take k xs) → IsTrue true ↔ All P xs
  all_kept le all = (λ t. All-taken P xs k le all, λ h. refl)

  pub one_has : (z : X) → k < length xs → P (get_or xs k z) → IsTrue true ↔ Any P xs
  one_has z lt here = (λ t. (k, get_or xs k z, lt, get_or_default xs k (get_or xs k z) z lt, here), λ any. refl)

  pub none_has : length xs ≤ k → All (λ x. P x → ⊥) (take k xs) → IsTrue false ↔ Any P xs
  none_has le none =
      (λ t. absurd (false≢true t), λ (i, x, lt, same, here). absurd (All-taken (λ x. P x → ⊥) xs k le none i x lt (subst P (sym same) here)))
