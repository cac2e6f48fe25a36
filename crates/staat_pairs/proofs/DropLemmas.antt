-- Lists from a place on, for walks over lists and over pairs of planes.
use Rattle.std.proofs.Common.{◌≡◌, ◌≢◌, ℕ, zero, suc, ◌+◌, sym, ap, subst, ◌∙◌, arith, List, [], ◌∷◌, drop, All}
use Rattle.std.specs.Prelude.{Some, slice_get}
use Rattle.staat_vec.specs.declared.vector.V3.{V3}
use Rattle.staat_vec.specs.Vectors.{cross, origin}
use Rattle.staat_model.proofs.PlaneLemmas.{NoneParallel, apart_behind}

pub drop_at : {X : Type 0} (xs : List X) (k : ℕ) (x : X) → slice_get xs k ≡ Some x → drop k xs ≡ x ∷ drop (k + 1) xs
drop_at [] k x e = cc
drop_at (y ∷ xs) zero x e = let same : y ≡ x = cc in ap (λ z. z ∷ xs) same
drop_at (y ∷ xs) (suc k) x e = drop_at xs k x e ∙ ap (λ m. x ∷ drop m (y ∷ xs)) (let f : suc (k + 1) ≡ suc k + 1 = omega arith in f)

-- ---- planes of which no two are parallel

-- the plane at a place crosses each one behind it
pub apart_at : (gs behind : List V3) (k : ℕ) (g : V3) → slice_get gs k ≡ Some g → behind ≡ drop (k + 1) gs → NoneParallel gs → All (λ h. cross g h ≢ origin) behind
apart_at gs behind k g at e apart = subst (All (λ h. cross g h ≢ origin)) (sym e) (subst NoneParallel (drop_at gs k g at) (apart_behind gs k apart)).0
