-- Just beside a direction, on the way towards another one, all directions have one list of signs.
use Rattle.std.proofs.Common.{◌≡◌, ℕ, zero, suc, ◌+◌, ◌≤◌, max, refl, ap, subst, ◌∙◌, arith, ℤ, pos, negsuc, ◌+ℤ◌, ◌*ℤ◌, ◌<ℤ◌, unsigned_abs, ◌⊎◌, inl, inr, List, [], ◌∷◌, map, Contains, le_trans}
use Rattle.std.proofs.lemmas.Int.{ints}
use Rattle.staat_vec.specs.declared.vector.V3.{V3}
use Rattle.staat_vec.specs.declared.vector.Sign.{Sign}
use Rattle.staat_vec.specs.declared.vector.Sign.TheVariants.{Neg, Zero, Pos}
use Rattle.staat_vec.specs.Vectors.{dot, plus, times, sign}
use Rattle.staat_model.specs.Cells.{signs_of, IsBorder}
use Rattle.staat_cells.specs.Beside.{then_sign, beside}
use Rattle.staat_vec.proofs.VectorLaws.{dot_along}
use Rattle.staat_vec.proofs.Signs.{positive_sign, negative_sign}

-- ---- far enough along v

positive_lead : (a : ℕ) (q : ℤ) (l : ℕ) → unsigned_abs q + 1 ≤ l → pos 0 <ℤ (pos l *ℤ pos (suc a) +ℤ q)
positive_lead a (pos n) l h = omega (arith, ints)
positive_lead a (negsuc n) l h = omega (arith, ints)

negative_lead : (a : ℕ) (q : ℤ) (l : ℕ) → unsigned_abs q + 1 ≤ l → (pos l *ℤ negsuc a +ℤ q) <ℤ pos 0
negative_lead a (pos n) l h = omega (arith, ints)
negative_lead a (negsuc n) l h = omega (arith, ints)

no_lead : (q : ℤ) (l : ℕ) → pos l *ℤ pos 0 +ℤ q ≡ q
no_lead q l = omega (arith, ints)

-- the sign of l times p and q
lead : (p q : ℤ) (l : ℕ) → unsigned_abs q + 1 ≤ l → sign (pos l *ℤ p +ℤ q) ≡ then_sign (sign p) (sign q)
lead (pos zero) q l h = ap sign (no_lead q l)
lead (pos (suc a)) q l h = positive_sign (pos l *ℤ pos (suc a) +ℤ q) (positive_lead a q l h)
lead (negsuc a) q l h = negative_sign (pos l *ℤ negsuc a +ℤ q) (negative_lead a q l h)

far : (planes : List V3) (v w : V3) → (k : ℕ) × ((l : ℕ) → k ≤ l → signs_of planes (plus (times l v) w) ≡ beside planes v w)
far [] v w = (0, λ l le. refl)
far (n ∷ planes) v w =
    let (k, rest) = far planes v w in
    let size = unsigned_abs (dot n w) + 1 in
    (max k size, λ l le i. (ap sign (dot_along n v w l) ∙ lead (dot n v) (dot n w) l (le_trans (omega arith) le)) i ∷ rest l (le_trans (omega arith) le) i)

-- some direction has these signs
pub beside_is : (planes : List V3) (v w : V3) → (d : V3) × (signs_of planes d ≡ beside planes v w)
beside_is planes v w = let (k, rest) = far planes v w in (plus (times k v) w, rest k (omega arith))

-- ---- signs plane by plane

-- equal lists of signs are equal at each plane
pub at_plane : (f g : V3 → Sign) (gs : List V3) (n : V3) → map f gs ≡ map g gs → Contains gs n → f n ≡ g n
at_plane f g [] n e (k, lt, p) = absurd (omega arith)
at_plane f g (h ∷ gs) n e (zero, lt, p) = let head : f h ≡ g h = cc in subst (λ v. f v ≡ g v) p head
at_plane f g (h ∷ gs) n e (suc k, lt, p) = let rest : map f gs ≡ map g gs = cc in at_plane f g gs n rest (k, omega arith, p)

-- and are equal if they are at each plane
pub from_planes : (f g : V3 → Sign) (gs : List V3) → ((n : V3) → Contains gs n → f n ≡ g n) → map f gs ≡ map g gs
from_planes f g [] h = refl
from_planes f g (n ∷ gs) h = λ i. h n (0, omega arith, refl) i ∷ from_planes f g gs (λ m (k, lt, p). h m (suc k, omega arith, p)) i

pub border_at : (f g : V3 → Sign) (gs : List V3) (n : V3) → IsBorder (map f gs) (map g gs) → Contains gs n → (f n ≡ g n) ⊎ (f n ≡ Zero)
border_at f g [] n b (k, lt, e) = absurd (omega arith)
border_at f g (h ∷ gs) n b (zero, lt, e) = subst (λ z. (f z ≡ g z) ⊎ (f z ≡ Zero)) e b.0
border_at f g (h ∷ gs) n b (suc k, lt, e) = border_at f g gs n b.1 (k, omega arith, e)

pub border_from : (f g : V3 → Sign) (gs : List V3) → ((n : V3) → Contains gs n → (f n ≡ g n) ⊎ (f n ≡ Zero)) → IsBorder (map f gs) (map g gs)
border_from f g [] h = tt
border_from f g (n ∷ gs) h = (h n (0, omega arith, refl), border_from f g gs (λ m (k, lt, p). h m (suc k, omega arith, p)))

pub then_border : (s t : Sign) → (s ≡ then_sign s t) ⊎ (s ≡ Zero)
then_border Neg t = inl refl
then_border Zero t = inr refl
then_border Pos t = inl refl

-- v is on the border of what is beside it
pub beside_border : (planes : List V3) (v w : V3) → IsBorder (signs_of planes v) (beside planes v w)
beside_border planes v w = border_from (λ n. sign (dot n v)) (λ n. then_sign (sign (dot n v)) (sign (dot n w))) planes (λ n c. then_border (sign (dot n v)) (sign (dot n w)))
