-- The least arc, found number by number.
use Rattle.std.proofs.Common.{◌≡◌, inl, inr, ⊎_elim, ℕ, ◌+◌, ◌<◌, refl, sym, List}
use Rattle.staat_vec.specs.Lists.{IsLeast}
use Rattle.staat_model.specs.declared.assembly.Part.{Part}
use Rattle.staat_model.specs.declared.certificate.Arc.{Arc}
use Rattle.staat_model.specs.Certificates.{arc_cmp}
use Rattle.staat_asm.specs.Overlaps.{IsOverlap, IsOverlapWithPart}
use Rattle.staat_vec.proofs.Naturals.{trichotomy, lt_one_more_cases}
use Rattle.staat_model.proofs.ArcOrder.{less_by_j}

-- no arc with P has a number below k
abbrev pub NoneBelow : (Arc → Type 0) → (Arc → ℕ) → ℕ → Type 0
NoneBelow P number k = (arc : Arc) → P arc → number arc < k → ⊥

-- with the number k too, where no such arc is found
pub none_next : (P Q : Arc → Type 0) (number : Arc → ℕ) (k : ℕ) → NoneBelow P number k
    → ((arc : Arc) → P arc → number arc ≡ k → Q arc) → ((arc : Arc) → Q arc → ⊥) → NoneBelow P number (k + 1)
none_next P Q number k below is none arc p lt =
    ⊎_elim (λ less. below arc p less) (λ e. none arc (is arc p e)) (lt_one_more_cases (number arc) k lt)

-- ---- the order of arcs that differ in their last number alone

pub found : (parts : List Part) (a i b j : ℕ) → NoneBelow (IsOverlapWithPart parts a i b) (λ arc. arc.j) j → IsOverlap parts (record { a = a; i = i; b = b; j = j }) → IsLeast arc_cmp (IsOverlapWithPart parts a i b) (record { a = a; i = i; b = b; j = j })
found parts a i b j below is =
    let x : Arc = record { a = a; i = i; b = b; j = j } in
    record {
      has = (((is, refl), refl), refl);
      least = λ y p. ⊎_elim (λ h. absurd (below y p h)) (λ r. ⊎_elim (λ e. inl (λ t. record { a = p.0.0.1 t; i = p.0.1 t; b = p.1 t; j = e t })) (λ h. inr (less_by_j x y (sym p.0.0.1) (sym p.0.1) (sym p.1) h)) r) (trichotomy y.j j);
    }

-- ---- the pieces that an arc names are there
