-- Equations of whole numbers, proved by computing: an expression over variables is multiplied out into monomials, and one whose monomials all have the coefficient 0 is 0.
use Rattle.std.proofs.Common.{◌≡◌, ℕ, zero, suc, refl, sym, ap, ◌∙◌, arith, ℤ, pos, negsuc, ◌*◌, ◌+ℤ◌, ◌-ℤ◌, ◌*ℤ◌, neg_ℤ, Bool, true, false, cond, eqb, T, eqb→eq, List, [], ◌∷◌, ltb}
use Rattle.std.proofs.lemmas.Int.{ints}
use borrow.Author.Differences.{up, down, same_in, sum_is_lem, product_is}
use lib.IntN.{+ℤ_idl, +ℤ_idr, +ℤ_assoc, *ℤ_comm, +ℤ_invr, -ℤ-+ℤ_cancel}

-- ---- the laws of the ring

pub mul-add_ℤ : (a b c : ℤ) → a *ℤ (b +ℤ c) ≡ a *ℤ b +ℤ a *ℤ c
mul-add_ℤ a b c =
    let s = sum_is_lem b c in
    let x = ap (λ n. up a * n) s in
    let y = ap (λ n. down a * n) s in
    omega (arith, same_in, sum_is_lem, product_is)

pub add-mul_ℤ : (a b c : ℤ) → (a +ℤ b) *ℤ c ≡ a *ℤ c +ℤ b *ℤ c
add-mul_ℤ a b c = *ℤ_comm (a +ℤ b) c ∙ mul-add_ℤ c a b ∙ (λ i. *ℤ_comm c a i +ℤ *ℤ_comm c b i)

pub mul_assoc_ℤ : (a b c : ℤ) → (a *ℤ b) *ℤ c ≡ a *ℤ (b *ℤ c)
mul_assoc_ℤ a b c =
    let p = product_is a b in
    let q = product_is b c in
    let e1 = ap (λ n. n * up c) p.0 in
    let e2 = ap (λ n. n * down c) p.0 in
    let e3 = ap (λ n. n * up c) p.1 in
    let e4 = ap (λ n. n * down c) p.1 in
    let f1 = ap (λ n. up a * n) q.0 in
    let f2 = ap (λ n. down a * n) q.0 in
    let f3 = ap (λ n. up a * n) q.1 in
    let f4 = ap (λ n. down a * n) q.1 in
    omega (arith, same_in, product_is)

pub one-mul_ℤ : (a : ℤ) → pos 1 *ℤ a ≡ a
one-mul_ℤ a = omega (arith, ints)

pub zero-mul_ℤ : (a : ℤ) → pos 0 *ℤ a ≡ pos 0
zero-mul_ℤ a = omega (arith, ints)

pub add_left_comm_ℤ : (a b c : ℤ) → a +ℤ (b +ℤ c) ≡ b +ℤ (a +ℤ c)
add_left_comm_ℤ a b c = omega (arith, ints)

pub mul_left_comm_ℤ : (a b c : ℤ) → a *ℤ (b *ℤ c) ≡ b *ℤ (a *ℤ c)
mul_left_comm_ℤ a b c = sym (mul_assoc_ℤ a b c) ∙ ap (λ x. x *ℤ c) (*ℤ_comm a b) ∙ mul_assoc_ℤ b a c

-- ---- expressions

infixl 6 ◌⊕◌
infixl 6 ◌⊖◌
infixl 7 ◌⊗◌
pub data Ex : Type 0 where
  at : ℕ → Ex
  num : ℤ → Ex
  ◌⊕◌ : Ex → Ex → Ex
  ◌⊖◌ : Ex → Ex → Ex
  ◌⊗◌ : Ex → Ex → Ex
  opp : Ex → Ex

-- the value of a variable: 0 past the end
abbrev pub get : List ℤ → ℕ → ℤ
get [] n = pos 0
get (x ∷ xs) zero = x
get (x ∷ xs) (suc n) = get xs n

abbrev pub eval : List ℤ → Ex → ℤ
eval ρ (at n) = get ρ n
eval ρ (num k) = k
eval ρ (a ⊕ b) = eval ρ a +ℤ eval ρ b
eval ρ (a ⊖ b) = eval ρ a -ℤ eval ρ b
eval ρ (a ⊗ b) = eval ρ a *ℤ eval ρ b
eval ρ (opp a) = neg_ℤ (eval ρ a)

-- a monomial: its variables, ascending
abbrev pub same_mono : List ℕ → List ℕ → Bool
same_mono [] [] = true
same_mono [] (y ∷ ys) = false
same_mono (x ∷ xs) [] = false
same_mono (x ∷ xs) (y ∷ ys) = cond (eqb x y) (same_mono xs ys) false

abbrev pub ins : ℕ → List ℕ → List ℕ
ins x [] = x ∷ []
ins x (y ∷ ys) = elim (ltb x y) [ true ↦ x ∷ y ∷ ys | false ↦ y ∷ ins x ys ]

abbrev pub join : List ℕ → List ℕ → List ℕ
join [] n = n
join (x ∷ m) n = ins x (join m n)

abbrev pub put : ℤ → List ℕ → List (ℤ × List ℕ) → List (ℤ × List ℕ)
put c m [] = (c, m) ∷ []
put c m ((k, n) ∷ p) = elim (same_mono m n) [ true ↦ (c +ℤ k, m) ∷ p | false ↦ (k, n) ∷ put c m p ]

abbrev pub add_poly : List (ℤ × List ℕ) → List (ℤ × List ℕ) → List (ℤ × List ℕ)
add_poly [] q = q
add_poly (t ∷ p) q = put t.0 t.1 (add_poly p q)

abbrev pub scale_poly : ℤ → List ℕ → List (ℤ × List ℕ) → List (ℤ × List ℕ) → List (ℤ × List ℕ)
scale_poly c m [] r = r
scale_poly c m (t ∷ p) r = put (c *ℤ t.0) (join m t.1) (scale_poly c m p r)

abbrev pub mul_poly : List (ℤ × List ℕ) → List (ℤ × List ℕ) → List (ℤ × List ℕ)
mul_poly [] q = []
mul_poly (t ∷ p) q = scale_poly t.0 t.1 q (mul_poly p q)

abbrev pub norm : Ex → List (ℤ × List ℕ)
norm (at n) = (pos 1, n ∷ []) ∷ []
norm (num k) = (k, []) ∷ []
norm (a ⊕ b) = add_poly (norm a) (norm b)
norm (a ⊖ b) = add_poly (scale_poly (negsuc 0) [] (norm b) []) (norm a)
norm (a ⊗ b) = mul_poly (norm a) (norm b)
norm (opp a) = scale_poly (negsuc 0) [] (norm a) []

abbrev pub no_term : List (ℤ × List ℕ) → Bool
no_term [] = true
no_term ((pos zero, m) ∷ p) = no_term p
no_term ((pos (suc n), m) ∷ p) = false
no_term ((negsuc n, m) ∷ p) = false

-- ---- what they are worth
abbrev mono : List ℤ → List ℕ → ℤ
mono ρ [] = pos 1
mono ρ (x ∷ m) = get ρ x *ℤ mono ρ m

abbrev poly : List ℤ → List (ℤ × List ℕ) → ℤ
poly ρ [] = pos 0
poly ρ (t ∷ p) = t.0 *ℤ mono ρ t.1 +ℤ poly ρ p

same_mono_is : (m n : List ℕ) → T (same_mono m n) → m ≡ n
same_mono_is [] [] h = refl
same_mono_is [] (y ∷ ys) h = absurd h
same_mono_is (x ∷ xs) [] h = absurd h
same_mono_is (x ∷ xs) (y ∷ ys) h = go (eqb x y) (λ t. t) h (same_mono_is xs ys)
  where
    go : (b : Bool) → (T b → T (eqb x y)) → T (cond b (same_mono xs ys) false) → (T (same_mono xs ys) → xs ≡ ys) → x ∷ xs ≡ y ∷ ys
    go true e h ih = λ i. eqb→eq x y (e tt) i ∷ ih h i
    go false e h ih = absurd h

ins_step : (ρ : List ℤ) (x y : ℕ) (m k : List ℕ) → mono ρ k ≡ get ρ x *ℤ mono ρ m → (b : Bool) → mono ρ (elim b as (λ c. List ℕ) [ true ↦ x ∷ y ∷ m | false ↦ y ∷ k ]) ≡ get ρ x *ℤ (get ρ y *ℤ mono ρ m)
ins_step ρ x y m k ih true = refl
ins_step ρ x y m k ih false = ap (λ z. get ρ y *ℤ z) ih ∙ mul_left_comm_ℤ (get ρ y) (get ρ x) (mono ρ m)

ins_is : (ρ : List ℤ) (x : ℕ) (m : List ℕ) → mono ρ (ins x m) ≡ get ρ x *ℤ mono ρ m
ins_is ρ x [] = refl
ins_is ρ x (y ∷ m) = ins_step ρ x y m (ins x m) (ins_is ρ x m) (ltb x y)

join_is : (ρ : List ℤ) (m n : List ℕ) → mono ρ (join m n) ≡ mono ρ m *ℤ mono ρ n
join_is ρ [] n = sym (one-mul_ℤ (mono ρ n))
join_is ρ (x ∷ m) n = ins_is ρ x (join m n) ∙ ap (λ z. get ρ x *ℤ z) (join_is ρ m n) ∙ sym (mul_assoc_ℤ (get ρ x) (mono ρ m) (mono ρ n))

put_step : (ρ : List ℤ) (c : ℤ) (m : List ℕ) (k : ℤ) (n : List ℕ) (p q : List (ℤ × List ℕ)) → poly ρ q ≡ c *ℤ mono ρ m +ℤ poly ρ p
    → (b : Bool) → (T b → m ≡ n)
    → poly ρ (elim b as (λ c. List (ℤ × List ℕ)) [ true ↦ (c +ℤ k, m) ∷ p | false ↦ (k, n) ∷ q ]) ≡ c *ℤ mono ρ m +ℤ (k *ℤ mono ρ n +ℤ poly ρ p)
put_step ρ c m k n p q ih true e = ap (λ z. z +ℤ poly ρ p) (add-mul_ℤ c k (mono ρ m) ∙ ap (λ z. c *ℤ mono ρ m +ℤ k *ℤ mono ρ z) (e tt)) ∙ +ℤ_assoc (c *ℤ mono ρ m) (k *ℤ mono ρ n) (poly ρ p)
put_step ρ c m k n p q ih false e = ap (λ z. k *ℤ mono ρ n +ℤ z) ih ∙ add_left_comm_ℤ (k *ℤ mono ρ n) (c *ℤ mono ρ m) (poly ρ p)

put_is : (ρ : List ℤ) (c : ℤ) (m : List ℕ) (p : List (ℤ × List ℕ)) → poly ρ (put c m p) ≡ c *ℤ mono ρ m +ℤ poly ρ p
put_is ρ c m [] = refl
put_is ρ c m ((k, n) ∷ p) = put_step ρ c m k n p (put c m p) (put_is ρ c m p) (same_mono m n) (same_mono_is m n)

add_is : (ρ : List ℤ) (p q : List (ℤ × List ℕ)) → poly ρ (add_poly p q) ≡ poly ρ p +ℤ poly ρ q
add_is ρ [] q = sym (+ℤ_idl (poly ρ q))
add_is ρ (t ∷ p) q = put_is ρ t.0 t.1 (add_poly p q) ∙ ap (λ z. t.0 *ℤ mono ρ t.1 +ℤ z) (add_is ρ p q) ∙ sym (+ℤ_assoc (t.0 *ℤ mono ρ t.1) (poly ρ p) (poly ρ q))

-- (c * m) * (d * n), its factors moved
four : (c d x y : ℤ) → (c *ℤ d) *ℤ (x *ℤ y) ≡ (c *ℤ x) *ℤ (d *ℤ y)
four c d x y = mul_assoc_ℤ c d (x *ℤ y) ∙ ap (λ z. c *ℤ z) (mul_left_comm_ℤ d x y) ∙ sym (mul_assoc_ℤ c x (d *ℤ y))

scale_is : (ρ : List ℤ) (c : ℤ) (m : List ℕ) (p r : List (ℤ × List ℕ)) → poly ρ (scale_poly c m p r) ≡ (c *ℤ mono ρ m) *ℤ poly ρ p +ℤ poly ρ r
scale_is ρ c m [] r = sym (ap (λ z. z +ℤ poly ρ r) (*ℤ_comm (c *ℤ mono ρ m) (pos 0) ∙ zero-mul_ℤ (c *ℤ mono ρ m)) ∙ +ℤ_idl (poly ρ r))
scale_is ρ c m (t ∷ p) r =
    put_is ρ (c *ℤ t.0) (join m t.1) (scale_poly c m p r)
    ∙ (λ i. (c *ℤ t.0) *ℤ join_is ρ m t.1 i +ℤ scale_is ρ c m p r i)
    ∙ ap (λ z. z +ℤ ((c *ℤ mono ρ m) *ℤ poly ρ p +ℤ poly ρ r)) (four c t.0 (mono ρ m) (mono ρ t.1))
    ∙ sym (+ℤ_assoc ((c *ℤ mono ρ m) *ℤ (t.0 *ℤ mono ρ t.1)) ((c *ℤ mono ρ m) *ℤ poly ρ p) (poly ρ r))
    ∙ ap (λ z. z +ℤ poly ρ r) (sym (mul-add_ℤ (c *ℤ mono ρ m) (t.0 *ℤ mono ρ t.1) (poly ρ p)))

mul_is : (ρ : List ℤ) (p q : List (ℤ × List ℕ)) → poly ρ (mul_poly p q) ≡ poly ρ p *ℤ poly ρ q
mul_is ρ [] q = sym (zero-mul_ℤ (poly ρ q))
mul_is ρ (t ∷ p) q =
    scale_is ρ t.0 t.1 q (mul_poly p q)
    ∙ ap (λ z. (t.0 *ℤ mono ρ t.1) *ℤ poly ρ q +ℤ z) (mul_is ρ p q)
    ∙ sym (add-mul_ℤ (t.0 *ℤ mono ρ t.1) (poly ρ p) (poly ρ q))

first_power : (x : ℤ) → pos 1 *ℤ (x *ℤ pos 1) +ℤ pos 0 ≡ x
first_power x = +ℤ_idr (pos 1 *ℤ (x *ℤ pos 1)) ∙ one-mul_ℤ (x *ℤ pos 1) ∙ *ℤ_comm x (pos 1) ∙ one-mul_ℤ x

no_power : (x : ℤ) → x *ℤ pos 1 +ℤ pos 0 ≡ x
no_power x = +ℤ_idr (x *ℤ pos 1) ∙ *ℤ_comm x (pos 1) ∙ one-mul_ℤ x

turned : (x y : ℤ) → (negsuc 0 *ℤ pos 1) *ℤ y +ℤ pos 0 +ℤ x ≡ x -ℤ y
turned x y = omega (arith, ints)

opposite : (x : ℤ) → (negsuc 0 *ℤ pos 1) *ℤ x +ℤ pos 0 ≡ neg_ℤ x
opposite x = omega (arith, ints)

norm_is : (ρ : List ℤ) (a : Ex) → poly ρ (norm a) ≡ eval ρ a
norm_is ρ (at n) = first_power (get ρ n)
norm_is ρ (num k) = no_power k
norm_is ρ (a ⊕ b) = add_is ρ (norm a) (norm b) ∙ (λ i. norm_is ρ a i +ℤ norm_is ρ b i)
norm_is ρ (a ⊖ b) =
    add_is ρ (scale_poly (negsuc 0) [] (norm b) []) (norm a)
    ∙ ap (λ z. z +ℤ poly ρ (norm a)) (scale_is ρ (negsuc 0) [] (norm b) [])
    ∙ turned (poly ρ (norm a)) (poly ρ (norm b))
    ∙ (λ i. norm_is ρ a i -ℤ norm_is ρ b i)
norm_is ρ (a ⊗ b) = mul_is ρ (norm a) (norm b) ∙ (λ i. norm_is ρ a i *ℤ norm_is ρ b i)
norm_is ρ (opp a) = scale_is ρ (negsuc 0) [] (norm a) [] ∙ opposite (poly ρ (norm a)) ∙ ap neg_ℤ (norm_is ρ a)

no_term_is : (ρ : List ℤ) (p : List (ℤ × List ℕ)) → T (no_term p) → poly ρ p ≡ pos 0
no_term_is ρ [] h = refl
no_term_is ρ ((pos zero, m) ∷ p) h = ap (λ z. z +ℤ poly ρ p) (zero-mul_ℤ (mono ρ m)) ∙ +ℤ_idl (poly ρ p) ∙ no_term_is ρ p h
no_term_is ρ ((pos (suc n), m) ∷ p) h = absurd h
no_term_is ρ ((negsuc n, m) ∷ p) h = absurd h

pub from_zero : (x y : ℤ) → x -ℤ y ≡ pos 0 → x ≡ y
from_zero x y e = sym (-ℤ-+ℤ_cancel x y) ∙ ap (λ z. z +ℤ y) e ∙ +ℤ_idl y

-- a and b are equal at the values ρ, if multiplying out a - b leaves nothing: `ring ρ a b tt`
pub ring : (ρ : List ℤ) (a b : Ex) → T (no_term (norm (a ⊖ b))) → eval ρ a ≡ eval ρ b
ring ρ a b h = from_zero (eval ρ a) (eval ρ b) (sym (norm_is ρ (a ⊖ b)) ∙ no_term_is ρ (norm (a ⊖ b)) h)

same_gone : (k p q : ℤ) → p ≡ q → k *ℤ (p -ℤ q) ≡ pos 0
same_gone k p q e = ap (λ z. k *ℤ (z -ℤ q)) e ∙ ap (λ z. k *ℤ z) (+ℤ_invr q) ∙ *ℤ_comm k (pos 0) ∙ zero-mul_ℤ k

-- a and b are equal, if p and q are, and a - b is k times p - q
pub ring_by : (ρ : List ℤ) (a b k p q : Ex) → eval ρ p ≡ eval ρ q → T (no_term (norm (a ⊖ b ⊖ k ⊗ (p ⊖ q)))) → eval ρ a ≡ eval ρ b
ring_by ρ a b k p q e h =
    from_zero (eval ρ a) (eval ρ b)
    (from_zero (eval ρ (a ⊖ b)) (eval ρ (k ⊗ (p ⊖ q))) (sym (norm_is ρ (a ⊖ b ⊖ k ⊗ (p ⊖ q))) ∙ no_term_is ρ (norm (a ⊖ b ⊖ k ⊗ (p ⊖ q))) h)
    ∙ same_gone (eval ρ k) (eval ρ p) (eval ρ q) e)

-- the same by two equations
pub ring_by_two : (ρ : List ℤ) (a b k p q l r s : Ex) → eval ρ p ≡ eval ρ q → eval ρ r ≡ eval ρ s → T (no_term (norm (a ⊖ b ⊖ (k ⊗ (p ⊖ q) ⊕ l ⊗ (r ⊖ s))))) → eval ρ a ≡ eval ρ b
ring_by_two ρ a b k p q l r s e f h =
    from_zero (eval ρ a) (eval ρ b)
    (from_zero (eval ρ (a ⊖ b)) (eval ρ (k ⊗ (p ⊖ q) ⊕ l ⊗ (r ⊖ s))) (sym (norm_is ρ (a ⊖ b ⊖ (k ⊗ (p ⊖ q) ⊕ l ⊗ (r ⊖ s)))) ∙ no_term_is ρ (norm (a ⊖ b ⊖ (k ⊗ (p ⊖ q) ⊕ l ⊗ (r ⊖ s)))) h)
    ∙ (λ i. same_gone (eval ρ k) (eval ρ p) (eval ρ q) e i +ℤ same_gone (eval ρ l) (eval ρ r) (eval ρ s) f i))
