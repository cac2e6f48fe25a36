-- Expressions for vectors, in step with the operations on vectors: the ring tactic for equations of vectors and of their products.
use Rattle.std.proofs.Common.{◌≡◌, ℤ, pos, ◌*ℤ◌, neg_ℤ, List, [], ◌∷◌, T}
use Rattle.staat_vec.specs.declared.vector.V3.{V3}
use Rattle.staat_vec.specs.Vectors.{vector, origin, dot, cross, negative}
use Rattle.staat_vec.proofs.Ring.{Ex, at, num, ◌⊕◌, ◌⊖◌, ◌⊗◌, opp, eval, ring, norm, no_term}

-- a number of either sign times a vector; `times n v` is `scale (pos n) v`
abbrev pub scale : ℤ → V3 → V3
scale k a = vector (k *ℤ a.x) (k *ℤ a.y) (k *ℤ a.z)

-- vectors are equal where their components are
pub same_vector : (a b : V3) → a.x ≡ b.x → a.y ≡ b.y → a.z ≡ b.z → a ≡ b
same_vector a b p q r = λ i. record { x = p i; y = q i; z = r i }

-- ---- expressions

pub record VEx : Type 0 where
  pub x : Ex
  pub y : Ex
  pub z : Ex

abbrev pub vectorE : Ex → Ex → Ex → VEx
vectorE x y z = record { x = x; y = y; z = z }

abbrev pub originE : VEx
originE = vectorE (num (pos 0)) (num (pos 0)) (num (pos 0))

abbrev pub dotE : VEx → VEx → Ex
dotE a b = (a.x ⊗ b.x ⊕ a.y ⊗ b.y) ⊕ a.z ⊗ b.z

abbrev pub crossE : VEx → VEx → VEx
crossE a b = vectorE (a.y ⊗ b.z ⊖ a.z ⊗ b.y) (a.z ⊗ b.x ⊖ a.x ⊗ b.z) (a.x ⊗ b.y ⊖ a.y ⊗ b.x)

abbrev pub detE : VEx → VEx → VEx → Ex
detE a b c = dotE a (crossE b c)

abbrev pub plusE : VEx → VEx → VEx
plusE a b = vectorE (a.x ⊕ b.x) (a.y ⊕ b.y) (a.z ⊕ b.z)

abbrev pub minusE : VEx → VEx → VEx
minusE a b = vectorE (a.x ⊖ b.x) (a.y ⊖ b.y) (a.z ⊖ b.z)

abbrev pub negativeE : VEx → VEx
negativeE a = vectorE (opp a.x) (opp a.y) (opp a.z)

-- for `times` and for `scale`
abbrev pub timesE : Ex → VEx → VEx
timesE k a = vectorE (k ⊗ a.x) (k ⊗ a.y) (k ⊗ a.z)

-- the vectors and then the numbers of an equation, as one list of values
abbrev pub values : List V3 → List ℤ → List ℤ
values [] ks = ks
values (v ∷ vs) ks = v.x ∷ v.y ∷ v.z ∷ values vs ks

-- the first vector of `values`, the second and so on; with n vectors the first number is `at (3 * n)`
abbrev pub v0 : VEx
v0 = vectorE (at 0) (at 1) (at 2)

abbrev pub v1 : VEx
v1 = vectorE (at 3) (at 4) (at 5)

abbrev pub v2 : VEx
v2 = vectorE (at 6) (at 7) (at 8)

abbrev pub v3 : VEx
v3 = vectorE (at 9) (at 10) (at 11)

abbrev pub v4 : VEx
v4 = vectorE (at 12) (at 13) (at 14)

-- ---- equations of vectors

-- the value of an expression for a vector
abbrev pub eval3 : List ℤ → VEx → V3
eval3 ρ a = record { x = eval ρ a.x; y = eval ρ a.y; z = eval ρ a.z }

-- multiplying out leaves nothing in any component
abbrev pub Holds3 : VEx → VEx → Type 0
Holds3 a b = T (no_term (norm (a.x ⊖ b.x))) × T (no_term (norm (a.y ⊖ b.y))) × T (no_term (norm (a.z ⊖ b.z)))

-- an equation of vectors: `ring3 ρ a b (tt, tt, tt)`
pub ring3 : (ρ : List ℤ) (a b : VEx) → Holds3 a b → eval3 ρ a ≡ eval3 ρ b
ring3 ρ a b h = λ i. record { x = ring ρ a.x b.x h.0 i; y = ring ρ a.y b.y h.1 i; z = ring ρ a.z b.z h.2 i }

-- ---- identities that many proofs use

pub dot_comm : (a b : V3) → dot a b ≡ dot b a
dot_comm a b = ring (values (a ∷ b ∷ []) []) (dotE v0 v1) (dotE v1 v0) tt

pub dot_scale : (k : ℤ) (a b : V3) → dot a (scale k b) ≡ k *ℤ dot a b
dot_scale k a b = ring (values (a ∷ b ∷ []) (k ∷ [])) (dotE v0 (timesE (at 6) v1)) (at 6 ⊗ dotE v0 v1) tt

pub negative_dot : (a b : V3) → dot (negative a) b ≡ neg_ℤ (dot a b)
negative_dot a b = ring (values (a ∷ b ∷ []) []) (dotE (negativeE v0) v1) (opp (dotE v0 v1)) tt

pub dot_negative : (a b : V3) → dot a (negative b) ≡ neg_ℤ (dot a b)
dot_negative a b = ring (values (a ∷ b ∷ []) []) (dotE v0 (negativeE v1)) (opp (dotE v0 v1)) tt

pub dot_cross_left : (a b : V3) → dot a (cross a b) ≡ pos 0
dot_cross_left a b = ring (values (a ∷ b ∷ []) []) (dotE v0 (crossE v0 v1)) (num (pos 0)) tt

pub dot_cross_right : (a b : V3) → dot b (cross a b) ≡ pos 0
dot_cross_right a b = ring (values (a ∷ b ∷ []) []) (dotE v1 (crossE v0 v1)) (num (pos 0)) tt

pub cross_self : (a : V3) → cross a a ≡ origin
cross_self a = ring3 (values (a ∷ []) []) (crossE v0 v0) originE (tt, tt, tt)

pub cross_turned : (a b : V3) → cross a b ≡ negative (cross b a)
cross_turned a b = ring3 (values (a ∷ b ∷ []) []) (crossE v0 v1) (negativeE (crossE v1 v0)) (tt, tt, tt)
