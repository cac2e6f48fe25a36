-- The set of the numbers in a list has these members.
use Rattle.std.proofs.Common.{◌↔◌, inl, inr, ⊎_elim, ℕ, List, [], ◌∷◌, Contains}
use Rattle.staat_vec.proofs.Unique.{Contains-cases, Contains-nothing}
use Rattle.staat_model.specs.SetLists.{set_of}
use Rattle.staat_model.specs.Sets.{Has}
use Rattle.staat_model.proofs.SetMembers.{has-empty, has-insert}
use Rattle.staat_model.proofs.Members.{joined}

pub has-set_of : (ps : List ℕ) (p : ℕ) → Has (set_of ps) p ↔ Contains ps p
has-set_of [] p = ((λ h. absurd (has-empty p h)), (λ h. absurd (Contains-nothing p h)))
has-set_of (q ∷ rest) p = (
  λ h. joined q rest p (⊎_elim (λ e. inl e) (λ later. inr ((has-set_of rest p).0 later)) ((has-insert (set_of rest) q p).0 h)),
  λ h. (has-insert (set_of rest) q p).1 (⊎_elim (λ e. inl e) (λ later. inr ((has-set_of rest p).1 later)) (Contains-cases q rest p h)),
)
