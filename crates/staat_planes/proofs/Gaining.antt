-- What holds after a step: what held before it, or what the step adds.
use Rattle.std.proofs.Common.{◌↔◌, ◌⊎◌, inl, inr, ⊎_elim}

pub adds_nothing : {Old Added : Type 0} → (Added → ⊥) → Old ↔ (Old ⊎ Added)
adds_nothing none = (λ o. inl o, λ h. ⊎_elim (λ o. o) (λ s. absurd (none s)) h)

pub adds_same : {New Old Added Same : Type 0} → New ↔ (Old ⊎ Added) → (Added → Same) → (Same → Added) → New ↔ (Old ⊎ Same)
adds_same step to from = (λ n. ⊎_elim (λ o. inl o) (λ s. inr (to s)) (step.0 n), λ h. step.1 (⊎_elim (λ o. inl o) (λ t. inr (from t)) h))

pub adds_both : {New Mid Old First Second : Type 0} → Mid ↔ (Old ⊎ First) → New ↔ (Mid ⊎ Second) → New ↔ (Old ⊎ (First ⊎ Second))
adds_both first second = (
  λ n. ⊎_elim (λ m. ⊎_elim (λ o. inl o) (λ s. inr (inl s)) (first.0 m)) (λ t. inr (inr t)) (second.0 n),
  λ h. second.1 (⊎_elim (λ o. inl (first.1 (inl o))) (λ added. ⊎_elim (λ s. inl (first.1 (inr s))) (λ t. inr t) added) h),
)
