-- Lists whose elements are related one by one.
use Rattle.std.proofs.Common.{◌≡◌, ℕ, zero, suc, ◌+◌, ◌<◌, List, [], ◌∷◌, ◌++◌, length, get_or, take, arith, ap, refl, sym, subst}
use Rattle.std.specs.List.{AllZip}
use Rattle.std.specs.Prelude.{Some, slice_get}
use Rattle.std.proofs.lemmas.List.{take_more}
use Rattle.staat_vec.proofs.Options.{some_injective}

pub zip_push : {X Y : Type 0} (R : X → Y → Type 0) (xs : List X) (ys : List Y) (x : X) (y : Y) → AllZip R xs ys → R x y → AllZip R (xs ++ x ∷ []) (ys ++ y ∷ [])
zip_push R [] [] x y z r = (r, tt)
zip_push R [] (b ∷ ys) x y z r = absurd z
zip_push R (a ∷ xs) [] x y z r = absurd z
zip_push R (a ∷ xs) (b ∷ ys) x y z r = (z.0, zip_push R xs ys x y z.1 r)

-- one more of each, as at a step of a loop
pub zip_more : {X Y : Type 0} (R : X → Y → Type 0) (xs : List X) (ys : List Y) (i : ℕ) (d : X) (y : Y) → i < length xs → AllZip R (take i xs) ys → R (get_or xs i d) y → AllZip R (take (i + 1) xs) (ys ++ y ∷ [])
zip_more R xs ys i d y lt z r = subst (λ l. AllZip R l (ys ++ y ∷ [])) (sym (take_more xs i d lt)) (zip_push R (take i xs) ys (get_or xs i d) y z r)

pub zip_length : {X Y : Type 0} (R : X → Y → Type 0) (xs : List X) (ys : List Y) → AllZip R xs ys → length xs ≡ length ys
zip_length R [] [] z = refl
zip_length R [] (y ∷ ys) z = absurd z
zip_length R (x ∷ xs) [] z = absurd z
zip_length R (x ∷ xs) (y ∷ ys) z = let rest : length xs ≡ length ys = zip_length R xs ys z.1 in omega arith

pub zip_at : {X Y : Type 0} (R : X → Y → Type 0) (xs : List X) (ys : List Y) (k : ℕ) (x : X) (y : Y) → AllZip R xs ys → slice_get xs k ≡ Some x → slice_get ys k ≡ Some y → R x y
zip_at R [] [] k x y z a b = cc
zip_at R [] (c ∷ ys) k x y z a b = absurd z
zip_at R (c ∷ xs) [] k x y z a b = absurd z
zip_at R (c ∷ xs) (e ∷ ys) zero x y z a b = subst (λ u. R u y) (some_injective c x a) (subst (R c) (some_injective e y b) z.0)
zip_at R (c ∷ xs) (e ∷ ys) (suc k) x y z a b = zip_at R xs ys k x y z.1 a b

-- what stands at a place of the second list has its own in the first
pub zip_back : {X Y : Type 0} (R : X → Y → Type 0) (xs : List X) (ys : List Y) (k : ℕ) (y : Y) → AllZip R xs ys → slice_get ys k ≡ Some y → (x : X) × (slice_get xs k ≡ Some x) × R x y
zip_back R [] [] k y z b = absurd cc
zip_back R [] (e ∷ ys) k y z b = absurd z
zip_back R (c ∷ xs) [] k y z b = absurd z
zip_back R (c ∷ xs) (e ∷ ys) zero y z b = (c, refl, subst (R c) (some_injective e y b) z.0)
zip_back R (c ∷ xs) (e ∷ ys) (suc k) y z b = zip_back R xs ys k y z.1 b

-- what is read at a place of both
pub zip_read : {X Y : Type 0} (R : X → Y → Type 0) (xs : List X) (ys : List Y) (k : ℕ) (x : X) (d : Y) → AllZip R xs ys → k < length xs → x ≡ get_or xs k x → R x (get_or ys k d)
zip_read R [] [] k x d z lt e = absurd (omega arith)
zip_read R [] (b ∷ ys) k x d z lt e = absurd z
zip_read R (a ∷ xs) [] k x d z lt e = absurd z
zip_read R (a ∷ xs) (b ∷ ys) zero x d z lt e = subst (λ u. R u b) (sym e) z.0
zip_read R (a ∷ xs) (b ∷ ys) (suc k) x d z lt e = zip_read R xs ys k x d z.1 (omega arith) e

-- the last of each
pub zip_unpush : {X Y : Type 0} (R : X → Y → Type 0) (xs : List X) (ys : List Y) (y : Y) → AllZip R xs (ys ++ y ∷ []) → (front : List X) × (x : X) × (xs ≡ front ++ x ∷ []) × AllZip R front ys × R x y
zip_unpush R [] [] y z = absurd z
zip_unpush R [] (b ∷ ys) y z = absurd z
zip_unpush R (a ∷ []) [] y z = ([], a, refl, tt, z.0)
zip_unpush R (a ∷ c ∷ xs) [] y z = absurd z.1
zip_unpush R (a ∷ xs) (b ∷ ys) y z =
    let (front, x, is, zs, r) = zip_unpush R xs ys y z.1 in
    (a ∷ front, x, ap (λ l. a ∷ l) is, (z.0, zs), r)
