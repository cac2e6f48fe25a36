-- The signs of the planes through a stop, and of all linked planes.
use Rattle.std.proofs.Common.{rules, ◌≡◌, ◌≢◌, ℕ, zero, suc, ◌+◌, ◌<◌, ◌≤◌, Bool, arith, ap, sym, subst, ◌∙◌, refl, List, [], ◌∷◌, length, drop, take, set, ◌⊎◌, inl, inr, ⊎_elim, Contains, length-set, get_or-set_same, get_or-set_other, cond, eq-eqb, get_or}
use Rattle.std.proofs.lemmas.Grind.{common_steps}
use Rattle.std.proofs.lemmas.Bool.Decides.{nat_tests}
use Rattle.std.specs.Prelude.{Some, slice_get, ◌==◌, nat_lt}
use Rattle.std.proofs.lemmas.Option.{get_or_from_slice_get, slice_get_within}
use Rattle.std.proofs.lemmas.List.{set_past}
use Rattle.staat_pairs.proofs.DropLemmas.{drop_at}
use Rattle.staat_ring.specs.declared.entry.Entry.{Entry}
use Rattle.std.proofs.Math.ListN.{drop_of_length-le}
use Rattle.staat_vec.specs.declared.vector.Sign.{Sign}
use Rattle.staat_vec.specs.Lists.{IsFirst}
use Rattle.staat_vec.proofs.Unique.{Contains-cases, Contains-front, Contains-later, Contains-nothing}
use Rattle.staat_pairs.specs.Tables.{Table}
use Rattle.staat_ring.specs.Belonging.{BelongTo}
use Rattle.staat_ring.specs.CountedSigns.{PlaneState, Signed, no_state, state_at}
use Rattle.staat_ring.specs.SignChanges.{with_sign, with_plane_sign, stop_sign, with_stop_signs}
use Rattle.staat_vec.proofs.Naturals.{lt_or_le, same_or}
use Rattle.std.proofs.lemmas.List.Sums.{sum_by-cons, count_by-le-length, get_or-le-sum_by}
use Rattle.staat_ring.specs.Pairs.{occurs}
use Rattle.staat_vec.specs.declared.vector.V3.{V3}
use Rattle.staat_vec.specs.Vectors.{dot, sign}
use Rattle.staat_model.specs.Circles.{IsLinked}
use Rattle.staat_ring.specs.Stepping.{count_below}

-- one entry more
pub stop_sign_next : (leaves : Bool) (es : List Entry) (i : ℕ) (e : Entry) (sign : Sign) (now new first : Signed) → slice_get es i ≡ Some e → sign ≡ stop_sign leaves e.turned → new ≡ with_plane_sign e.plane sign now → with_stop_signs leaves (drop i es) now ≡ first → with_stop_signs leaves (drop (i + 1) es) new ≡ first
stop_sign_next leaves es i e sign now new first at is set rest =
    ap (with_stop_signs leaves (drop (i + 1) es)) (set ∙ ap (λ s. with_plane_sign e.plane s now) is) ∙ (sym (ap (λ r. with_stop_signs leaves r now) (drop_at es i e at)) ∙ rest)

-- none left
pub stop_sign_end : (leaves : Bool) (es : List Entry) (i : ℕ) (now first : Signed) → length es ≤ i → with_stop_signs leaves (drop i es) now ≡ first → now ≡ first
stop_sign_end leaves es i now first past rest = sym (ap (λ r. with_stop_signs leaves r now) (drop_of_length-le es past)) ∙ rest

-- ---- what is kept

-- the same planes and pairs, whatever the signs
pub record SameLists (s t : Signed) : Type 0 where
  pub size : length s.states ≡ length t.states
  pub along : (k : ℕ) → (state_at s.states k).along ≡ (state_at t.states k).along
  pub against : (k : ℕ) → (state_at s.states k).against ≡ (state_at t.states k).against
  pub pairs : s.pairs ≡ t.pairs

pub same_itself : (s : Signed) → SameLists s s
same_itself s = record { size = refl; along = λ k. refl; against = λ k. refl; pairs = refl }

pub same_trans : (s t u : Signed) → SameLists s t → SameLists t u → SameLists s u
same_trans s t u p q = record { size = p.size ∙ q.size; along = λ k. p.along k ∙ q.along k; against = λ k. p.against k ∙ q.against k; pairs = p.pairs ∙ q.pairs }

-- what a plane keeps of what the change at a plane leaves
kept_at : {X : Type 0} (f : PlaneState → X) (states : List PlaneState) (k : ℕ) (sign : Sign) (j : ℕ) → ((s : PlaneState) → f (with_sign sign s) ≡ f s) → f (state_at (set states k (with_sign sign (state_at states k))) j) ≡ f (state_at states j)
kept_at {X = X} f states k sign j same = ⊎_elim {C = f (state_at (set states k (with_sign sign (state_at states k))) j) ≡ f (state_at states j)}
    (λ e. ⊎_elim {C = f (state_at (set states k (with_sign sign (state_at states k))) j) ≡ f (state_at states j)}
    (λ lt. ap (λ i. f (state_at (set states k (with_sign sign (state_at states k))) i)) e ∙ (ap f (get_or-set_same states k (with_sign sign (state_at states k)) no_state lt) ∙ (same (state_at states k) ∙ ap (λ i. f (state_at states i)) (sym e))))
    (λ le. ap (λ xs. f (state_at xs j)) (set_past states k (with_sign sign (state_at states k)) le))
    (lt_or_le k (length states)))
    (λ ne. ap f (get_or-set_other states k j (with_sign sign (state_at states k)) no_state ne))
    (same_or j k)

pub signed_same : (k : ℕ) (sign : Sign) (s : Signed) → SameLists (with_plane_sign k sign s) s
signed_same k sign s = grind (arith, common_steps, nat_tests, length-set, kept_at)

pub stop_signs_same : (leaves : Bool) (es : List Entry) (s : Signed) → SameLists (with_stop_signs leaves es s) s
stop_signs_same leaves [] s = same_itself s
stop_signs_same leaves (e ∷ es) s =
    let next : Signed = with_plane_sign e.plane (stop_sign leaves e.turned) s in
    same_trans (with_stop_signs leaves es next) next s (stop_signs_same leaves es next) (signed_same e.plane (stop_sign leaves e.turned) s)

-- signs that belong to a table still do
pub belong_same : (t : Table) (s u : Signed) → SameLists u s → BelongTo t s → BelongTo t u
belong_same t s u same to = search (rules, ⊎_elim)

-- ---- the signs

pub sign_of_set : (states : List PlaneState) (k : ℕ) (sign : Sign) → k < length states → (state_at (set states k (with_sign sign (state_at states k))) k).sign ≡ sign
sign_of_set states k sign lt = ap (λ s. s.sign) (get_or-set_same states k (with_sign sign (state_at states k)) no_state lt)

-- a plane through which no entry goes keeps its sign
pub stop_signs_other : (leaves : Bool) (es : List Entry) (s : Signed) (j : ℕ) → ((e : Entry) → Contains es e → e.plane ≢ j) → (state_at (with_stop_signs leaves es s).states j).sign ≡ (state_at s.states j).sign
stop_signs_other leaves [] s j none = refl
stop_signs_other leaves (e ∷ es) s j none =
    stop_signs_other leaves es (with_plane_sign e.plane (stop_sign leaves e.turned) s) j (λ x c. none x (Contains-later e es x c))
    ∙ ap (λ x. x.sign) (get_or-set_other s.states e.plane j (with_sign (stop_sign leaves e.turned) (state_at s.states e.plane)) no_state (λ q. none e (Contains-front e es) (sym q)))

-- one through which some entry goes gets the sign that all of them give
sign_given : (leaves : Bool) (es : List Entry) (s : Signed) (j : ℕ) (sign : Sign) → j < length s.states → ((e : Entry) → Contains es e → e.plane ≡ j → stop_sign leaves e.turned ≡ sign)
    → ((x : Entry) × Contains es x × (x.plane ≡ j)) ⊎ ((state_at s.states j).sign ≡ sign) → (state_at (with_stop_signs leaves es s).states j).sign ≡ sign
sign_given leaves [] s j sign lt all some = ⊎_elim {C = (state_at s.states j).sign ≡ sign} (λ (x, c, q). absurd (Contains-nothing x c)) (λ h. h) some
sign_given leaves (e ∷ es) s j sign lt all some =
    sign_given leaves es next j sign (subst (λ n. j < n) (sym (length-set s.states e.plane (with_sign (stop_sign leaves e.turned) (state_at s.states e.plane)))) lt) (λ y cy. all y (Contains-later e es y cy))
    (⊎_elim {C = Given} here (λ ne. ⊎_elim {C = Given} (there ne) (λ h. inr (ap (λ x. x.sign) (get_or-set_other s.states e.plane j (with_sign (stop_sign leaves e.turned) (state_at s.states e.plane)) no_state (λ q. ne (sym q))) ∙ h)) some) (same_or e.plane j))
  where
    next : Signed
    next = with_plane_sign e.plane (stop_sign leaves e.turned) s

    Given : Type 0
    Given = ((x : Entry) × Contains es x × (x.plane ≡ j)) ⊎ ((state_at next.states j).sign ≡ sign)

    here : e.plane ≡ j → Given
    here is = inr (ap (λ i. (state_at next.states i).sign) (sym is) ∙ (sign_of_set s.states e.plane (stop_sign leaves e.turned) (subst (λ i. i < length s.states) (sym is) lt) ∙ all e (Contains-front e es) is))

    there : e.plane ≢ j → (x : Entry) × Contains (e ∷ es) x × (x.plane ≡ j) → Given
    there ne (x, c, is) = ⊎_elim {C = Given} (λ q. absurd (ne (sym (ap (λ z. z.plane) q) ∙ is))) (λ l. inl (x, l, is)) (Contains-cases e es x c)

pub stop_signs_there : (leaves : Bool) (es : List Entry) (s : Signed) (j : ℕ) (sign : Sign) → j < length s.states → ((e : Entry) → Contains es e → e.plane ≡ j → stop_sign leaves e.turned ≡ sign) → (x : Entry) → Contains es x → x.plane ≡ j
    → (state_at (with_stop_signs leaves es s).states j).sign ≡ sign
stop_signs_there leaves es s j sign lt all x c is = sign_given leaves es s j sign lt all (inl (x, c, is))

-- ---- the first entry with a property

pub first_after : (P : Entry → Type 0) (es : List Entry) (i : ℕ) (e : Entry) → slice_get es i ≡ Some e → ((x : Entry) → Contains (take i es) x → P x → ⊥) → P e → IsFirst P es e
first_after P [] i e at none p = absurd (let lt = slice_get_within [] i e at in omega (arith, lt))
first_after P (x ∷ es) zero e at none p = let q : x ≡ e = get_or_from_slice_get (x ∷ es) zero e e at in inl (sym q, subst P (sym q) p)
first_after P (x ∷ es) (suc i) e at none p = inr (none x (Contains-front x (take i es)), first_after P es i e at (λ y c. none y (Contains-later x (take i es) y c)) p)

-- ---- all linked planes get their signs

abbrev pub Done : List V3 → List ℕ → V3 → Signed → ℕ → Type 0
Done planes linked d s k = (j : ℕ) (n : V3) → j < k → IsLinked planes linked j n → (state_at s.states j).sign ≡ sign (dot n d)

pub more_done : (planes : List V3) (linked : List ℕ) (d : V3) (now new : Signed) (k : ℕ) (sg : Sign) → k < length now.states → ((n : V3) → slice_get planes k ≡ Some n → sg ≡ sign (dot n d)) → new ≡ with_plane_sign k sg now → Done planes linked d now k → Done planes linked d new (k + 1)
more_done planes linked d now new k sg lt is set done j n small h = search (rules, ⊎_elim, get_or-set_other, sign_of_set, same_or)

pub same_done : (planes : List V3) (linked : List ℕ) (d : V3) (now : Signed) (k : ℕ) → (Contains linked k → ⊥) → Done planes linked d now k → Done planes linked d now (k + 1)
same_done planes linked d now k none done j n small h = ⊎_elim {C = (state_at now.states j).sign ≡ sign (dot n d)} (λ e. absurd (none (subst (Contains linked) e h.listed))) (λ ne. done j n (omega arith) h) (same_or j k)

count_next : (k : ℕ) (ps : List ℕ) → count_below (k + 1) ps ≡ count_below k ps + occurs k ps
unfolding count_below
count_next k [] = refl
count_next k (p ∷ ps) = omega (arith, count_next k ps, one_next p, sum_by-cons (λ p. cond (nat_lt p k) 1 0) p ps, sum_by-cons (λ p. cond (nat_lt p (k + 1)) 1 0) p ps, sum_by-cons (λ p. cond (p == k) 1 0) p ps)
  where
    one_next : (p : ℕ) → cond {A = ℕ} (nat_lt p (k + 1)) 1 0 ≡ cond (nat_lt p k) 1 0 + cond (p == k) 1 0
    one_next p = grind (arith, nat_tests)

pub count_same : (k : ℕ) (ps : List ℕ) → count_below k ps ≤ count_below (k + 1) ps
count_same k ps = omega (arith, count_next k ps)

pub count_more : (k : ℕ) (ps : List ℕ) → Contains ps k → count_below k ps + 1 ≤ count_below (k + 1) ps
count_more k ps (i, lt, e) =
    let some = get_or-le-sum_by (λ p. cond (p == k) 1 0) ps i k lt in
    let one = ap {B = ℕ} (λ b. cond b 1 0) (eq-eqb (get_or ps i k) k e) in
    omega (arith, count_next k ps, some, one)

pub count_all : (k : ℕ) (ps : List ℕ) → count_below k ps ≤ length ps
unfolding count_below
count_all k ps = count_by-le-length (λ p. nat_lt p k) ps
