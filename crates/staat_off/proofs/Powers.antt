-- Powers of ten, with none of them computed.
use Rattle.std.proofs.Common.{◌≡◌, ◌≢◌, ◌+◌, ◌-◌, ◌*◌, ◌/◌, ◌^◌, ◌<◌, ◌≤◌, ◌%◌, ℕ, zero, suc, ap, sym, ◌∙◌, arith, lit<}
use Rattle.std.proofs.Math.Nat.{pow-suc, mul_assoc, mul-div_cancel, mul-mod_left, mul-le-mul_left, pow-le-pow_right}
use Rattle.std.proofs.lemmas.Nat.{pow-add}

pub ten_pos : (k : ℕ) → 0 < 10 ^ k
ten_pos zero = lit< tt
ten_pos (suc k) = omega (arith, pow-suc 10 k, ten_pos k)

-- two powers behind a number are one
pub two_powers : (v a b : ℕ) → v * 10 ^ a * 10 ^ b ≡ v * 10 ^ (a + b)
two_powers v a b = mul_assoc v (10 ^ a) (10 ^ b) ∙ ap (λ p. v * p) (sym (pow-add 10 a b))

-- m with z zeros behind it, and the point moved by a to the left and by b to the right
pub value_at : (m z a b x : ℕ) → x + a ≡ z + b → (m * 10 ^ x) * 10 ^ a ≡ (m * 10 ^ z) * 10 ^ b
value_at m z a b x e = two_powers m x a ∙ ap (λ n. m * 10 ^ n) e ∙ sym (two_powers m z b)

cancel : (v w p : ℕ) → 0 < p → v * p ≡ w * p → v ≡ w
cancel v w p pos e = sym (mul-div_cancel v pos) ∙ ap (λ q. q / p) e ∙ mul-div_cancel w pos

-- one power less on either side
lowered : (m z a b v y : ℕ) → a ≡ suc y + (z + b) → v * 10 ^ a ≡ (m * 10 ^ z) * 10 ^ b → v * 10 ^ suc y ≡ m
lowered m z a b v y e h =
    let left : v * 10 ^ a ≡ (v * 10 ^ suc y) * 10 ^ (z + b) = ap (λ n. v * 10 ^ n) e ∙ sym (two_powers v (suc y) (z + b)) in
    cancel (v * 10 ^ suc y) m (10 ^ (z + b)) (ten_pos (z + b)) (sym left ∙ h ∙ two_powers m z b)

-- m does not end in 0, so no number serves where the point lies within it
pub no_value : (m z a b v : ℕ) → z + b < a → m % 10 ≢ 0 → v * 10 ^ a ≡ (m * 10 ^ z) * 10 ^ b → ⊥
no_value m z a b v lt e h =
    let y = a - (z + b) - 1 in
    let product : v * 10 ^ suc y ≡ m = lowered m z a b v y (omega arith) h in
    let tens : (v * 10 ^ y) * 10 ≡ m = mul_assoc v (10 ^ y) 10 ∙ ap (λ p. v * p) (sym (pow-suc 10 y)) ∙ product in
    e (ap (λ n. n % 10) (sym tens) ∙ mul-mod_left (v * 10 ^ y) 10)

-- six zeros or more make any number too big
pub many_zeros : (m x : ℕ) → 0 < m → 6 ≤ x → 1000000 ≤ m * 10 ^ x
many_zeros m x pos six =
    let power : 10 ^ 6 ≤ 10 ^ x = pow-le-pow_right {n = 10} (lit< tt) six in
    let least : 10 ^ x ≤ m * 10 ^ x = omega (arith, mul-le-mul_left (10 ^ x) pos) in
    omega arith
