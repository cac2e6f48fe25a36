-- A node is taken out and put back, or comes to the end of a chain; and the loops over the circles.
use Rattle.std.proofs.Common.{rules, ◌≡◌, ℕ, refl, sym, ap, ◌∙◌, List, [], ◌∷◌, Bool, true, false, get_or, set, if◌then◌else◌, ◌≢◌, ◌<◌, subst, ◌++◌, length, arith, suc, ◌+◌, ◌*◌, add-one, eq-eqb}
use Rattle.std.proofs.lemmas.List.{set-get_or, get_or-set_other, set-set}
use Rattle.staat_ring.specs.Links.{Links, unlink, relink, Arrays, take, give, take_all, give_all, is_bare, Chain, IsLinkedRing, Apart, Distinct, append}
use Rattle.std.specs.Prelude.{◌≢◌, slice_index, if◌then◌else◌}
use Rattle.std.proofs.lemmas.Grind.{get_or-set_at}
use Rattle.std.proofs.Math.ListN.{length-set}
use Rattle.staat_ring.specs.RingViews.{entries_on, entries_of}
use Rattle.staat_vec.proofs.Naturals.{eqb_false}

-- the neighbours of x are other nodes, and point back at it
pub record IsBetween (s : Links) (x : ℕ) : Type 0 where
  pub back : slice_index s.next (slice_index s.prev x) ≡ x
  pub forth : slice_index s.prev (slice_index s.next x) ≡ x
  pub left : x ≢ slice_index s.prev x
  pub right : x ≢ slice_index s.next x

-- the entry stands between two nodes, and so does its vertex where the entry is its last
pub record CanTake (e : ℕ) (a : Arrays) : Type 0 where
  pub entry : IsBetween a.vertices e
  pub vertex : is_bare (unlink e a.vertices) (slice_index a.home e) ≡ true
      → IsBetween a.circles (slice_index a.home e)

abbrev pub CanTakeAll : List ℕ → Arrays → Type 0
CanTakeAll [] a = Unit {0}
CanTakeAll (e ∷ es) a = CanTake e a × CanTakeAll es (take e a)

-- writing back what stood there
written_back : (l : List ℕ) (i i' u x : ℕ) → i' ≡ i → get_or l i 0 ≡ x → set (set l i u) i' x ≡ l
written_back l i i' u x e h = ap (λ k. set (set l i u) k x) e ∙ (set-set l i u x ∙ (ap (λ y. set l i y) (sym h) ∙ set-get_or l i 0))

pub relink-unlink : (x : ℕ) (s : Links) → IsBetween s x → relink x (unlink x s) ≡ s
relink-unlink x s h = search (rules, get_or-set_other, written_back)

circles_back : (b : Bool) (v : ℕ) (s : Links) → (b ≡ true → IsBetween s v) → (if b then relink v (if b then unlink v s else s) else (if b then unlink v s else s)) ≡ s
circles_back true v s h = relink-unlink v s (h refl)
circles_back false v s h = refl

pub give-take : (e : ℕ) (a : Arrays) → CanTake e a → give e (take e a) ≡ a
give-take e a h = search (rules, relink-unlink, circles_back)

pub give_all-take_all : (es : List ℕ) (a : Arrays) → CanTakeAll es a → give_all es (take_all es a) ≡ a
give_all-take_all [] a h = refl
give_all-take_all (e ∷ es) a h = ap (give e) (give_all-take_all es (take e a) h.1) ∙ give-take e a h.0

-- ---- a node comes to the end of a chain, and a node is taken out

-- the last node, or the one before the first
abbrev pub last_of : ℕ → List ℕ → ℕ
last_of a [] = a
last_of a (x ∷ xs) = last_of x xs

-- the first node, or the one after the last
abbrev pub first_of : List ℕ → ℕ → ℕ
first_of [] b = b
first_of (x ∷ xs) b = x

-- the word at k after the two writes, where neither is at k
pub kept : (l : List ℕ) (x u i w k : ℕ) → k ≢ x → k ≢ i → get_or (set (set l x u) i w) k 0 ≡ get_or l k 0
kept l x u i w k kx ki = get_or-set_other (set l x u) i k w 0 ki ∙ get_or-set_other l x k u 0 kx

first_write : (l : List ℕ) (x u i w : ℕ) → x ≢ i → x < length l → get_or (set (set l x u) i w) x 0 ≡ u
first_write l x u i w n lt = get_or-set_other (set l x u) i x w 0 n ∙ get_or-set_at l x x u 0 refl lt

second_write : (l : List ℕ) (x u i w k : ℕ) → k ≡ i → i < length l → get_or (set (set l x u) i w) k 0 ≡ w
second_write l x u i w k e lt = get_or-set_at (set l x u) i k w 0 e (let s = length-set l x u in omega arith)

abbrev two : Links → ℕ → ℕ → ℕ → Links
two s h x i = record { next = set (set s.next x h) i x; prev = set (set s.prev x i) h x }

pub apart_last : (x a : ℕ) (xs : List ℕ) → Apart x (a ∷ xs) → x ≢ last_of a xs
apart_last x a [] h = λ e. h.0 (sym e)
apart_last x a (y ∷ xs) h = apart_last x y xs h.1

pub chain_grows : (s : Links) (h x i a : ℕ) (xs : List ℕ) → i ≡ last_of a xs → x ≢ i → x ≢ h → x < length s.next → x < length s.prev → i < length s.next → h < length s.prev
    → Distinct (a ∷ xs) → Apart h xs → Apart x (a ∷ xs) → Chain s a xs h → Chain (two s h x i) a (xs ++ x ∷ []) h
chain_grows s h x i a [] ei xi xh ln lp li lh d ah ax c = (
  second_write s.next x h i x a (sym ei) li,
  (
    first_write s.prev x i h x xh lp ∙ ei,
    (first_write s.next x h i x xi ln, second_write s.prev x i h x h refl lh),
  ),
)
chain_grows s h x i a (y ∷ xs) ei xi xh ln lp li lh d ah ax c = (
  kept s.next x h i x a ax.0 (λ e. apart_last a y xs d.0 (e ∙ ei)) ∙ c.0,
  (
    kept s.prev x i h x y ax.1.0 ah.0 ∙ c.1.0,
    chain_grows s h x i y xs ei xi xh ln lp li lh d.1 ah.1 ax.1 c.1.1,
  ),
)

pub prev_last : (s : Links) (h a : ℕ) (xs : List ℕ) → Chain s a xs h → get_or s.prev h 0 ≡ last_of a xs
prev_last s h a [] c = c.1
prev_last s h a (y ∷ xs) c = prev_last s h y xs c.1.1

-- the ring has x at its end
pub ring-append : (s : Links) (h x : ℕ) (xs : List ℕ) → x < length s.next → x < length s.prev → get_or s.prev h 0 < length s.next → h < length s.prev
    → Distinct (h ∷ xs) → Apart x (h ∷ xs) → IsLinkedRing s h xs → IsLinkedRing (append h x s) h (xs ++ x ∷ [])
ring-append s h x xs ln lp li lh d ax c =
    let e = prev_last s h h xs c in
    chain_grows s h x (get_or s.prev h 0) h xs e (λ q. apart_last x h xs ax (q ∙ e)) (λ q. ax.0 (sym q)) ln lp li lh d d.0 ax c

-- links with one word written in each array
abbrev written : Links → ℕ → ℕ → ℕ → ℕ → Links
written s i u j w = record { next = set s.next i u; prev = set s.prev j w }

-- a chain stays where no word of it is written
pub chain_stays : (s : Links) (i u j w a : ℕ) (xs : List ℕ) (b : ℕ) → a ≢ i → Apart i xs → Apart j xs → b ≢ j → Chain s a xs b → Chain (written s i u j w) a xs b
chain_stays s i u j w a [] b ai ix jx bj h = (get_or-set_other s.next i a u 0 ai ∙ h.0, get_or-set_other s.prev j b w 0 bj ∙ h.1)
chain_stays s i u j w a (x ∷ xs) b ai ix jx bj h =
    (get_or-set_other s.next i a u 0 ai ∙ h.0, (get_or-set_other s.prev j x w 0 jx.0 ∙ h.1.0, chain_stays s i u j w x xs b ix.0 ix.1 jx.1 bj h.1.1))

-- the words of x are i and j, and those between which it stands name it
pub record IsAmid (s : Links) (x i j : ℕ) : Type 0 where
  pub prev : get_or s.prev x 0 ≡ i
  pub next : get_or s.next x 0 ≡ j
  pub back : get_or s.next i 0 ≡ x
  pub forth : get_or s.prev j 0 ≡ x

pub amid : (s : Links) (x a : ℕ) (l r : List ℕ) (b : ℕ) → Chain s a (l ++ x ∷ r) b → IsAmid s x (last_of a l) (first_of r b)
amid s x a [] [] b h = record { prev = h.1.0; next = h.1.1.0; back = h.0; forth = h.1.1.1 }
amid s x a [] (z ∷ r) b h = record { prev = h.1.0; next = h.1.1.0; back = h.0; forth = h.1.1.1.0 }
amid s x a (y ∷ l) r b h = amid s x y l r b h.1.1

apart-last : (a y : ℕ) (l r : List ℕ) → Apart a (y ∷ l ++ r) → last_of y l ≢ a
apart-last a y [] r h = h.0
apart-last a y (z ∷ l) r h = apart-last a z l r h.1

turned : (a b : ℕ) → a ≢ b → b ≢ a
turned a b h e = h (sym e)

pub apart-right : (x : ℕ) (l r : List ℕ) → Apart x (l ++ r) → Apart x r
apart-right x [] r h = h
apart-right x (y ∷ l) r h = apart-right x l r h.1

-- the first of r is a node of r or the end b
apart-first : (y : ℕ) (r : List ℕ) (b : ℕ) → Apart y r → b ≢ y → first_of r b ≢ y
apart-first y [] b h g = g
apart-first y (z ∷ r) b h g = h.0

pub removed : (s : Links) (x a : ℕ) (l r : List ℕ) (b i j : ℕ) → i ≡ last_of a l → j ≡ first_of r b → i < length s.next → j < length s.prev
    → Distinct (a ∷ l ++ x ∷ r) → Apart b (l ++ x ∷ r) → Chain s a (l ++ x ∷ r) b → Chain (written s i j j i) a (l ++ r) b
removed s x a [] [] b i j ei ej li lj d ab h =
    (get_or-set_at s.next i a j 0 (sym ei) li ∙ ej, get_or-set_at s.prev j b i 0 (sym ej) lj ∙ ei)
removed s x a [] (z ∷ r) b i j ei ej li lj d ab h = (
  get_or-set_at s.next i a j 0 (sym ei) li ∙ ej,
  (
    get_or-set_at s.prev j z i 0 (sym ej) lj ∙ ei,
    chain_stays s i j j i z r b (λ e. d.0.1.0 (e ∙ ei)) (subst (λ k. Apart k r) (sym ei) d.0.1.1) (subst (λ k. Apart k r) (sym ej) d.1.1.0) (λ e. ab.1.0 (sym (e ∙ ej))) h.1.1.1.1,
  ),
)
removed s x a (y ∷ l) r b i j ei ej li lj d ab h = (
  get_or-set_other s.next i a j 0 (λ e. apart-last a y l (x ∷ r) d.0 (sym (e ∙ ei))) ∙ h.0,
  (
    get_or-set_other s.prev j y i 0 (λ e. apart-first y r b (apart-right y l (x ∷ r) d.1.0).1 (turned y b ab.0) (sym (e ∙ ej))) ∙ h.1.0,
    removed s x y l r b i j ei ej li lj d.1 ab.1 h.1.1,
  ),
)

alone : (x a : ℕ) (l r : List ℕ) (b : ℕ) → Distinct (a ∷ l ++ x ∷ r) → Apart b (l ++ x ∷ r) → (x ≢ last_of a l) × (x ≢ first_of r b)
alone x a [] [] b d ab = (d.0.0, ab.0)
alone x a [] (z ∷ r) b d ab = (d.0.0, λ e. d.1.0.0 (sym e))
alone x a (y ∷ l) r b d ab = alone x y l r b d.1 ab.1

-- a node of a ring stands between its neighbours
pub between : (s : Links) (x a : ℕ) (l r : List ℕ) (b : ℕ) → Distinct (a ∷ l ++ x ∷ r) → Apart b (l ++ x ∷ r) → Chain s a (l ++ x ∷ r) b → IsBetween s x
between s x a l r b d ab h =
    let m = amid s x a l r b h in
    let n = alone x a l r b d ab in
    record { back = ap (λ k. get_or s.next k 0) m.prev ∙ m.back; forth = ap (λ k. get_or s.prev k 0) m.next ∙ m.forth; left = λ e. n.0 (e ∙ m.prev); right = λ e. n.1 (e ∙ m.next) }

-- each node's links are nodes
abbrev pub InRange : Links → ℕ → Type 0
InRange s x = (get_or s.prev x 0 < length s.next) × (get_or s.next x 0 < length s.prev)

-- unlink takes the node out of the list
pub ring-unlink : (s : Links) (x h : ℕ) (l r : List ℕ) → InRange s x → Distinct (h ∷ l ++ x ∷ r) → IsLinkedRing s h (l ++ x ∷ r) → IsLinkedRing (unlink x s) h (l ++ r)
ring-unlink s x h l r g d c = removed s x h l r h (get_or s.prev x 0) (get_or s.next x 0) (amid s x h l r h c).prev (amid s x h l r h c).next g.0 g.1 d d.0 c

-- ---- the loops over the circles

pub take_all-append : (xs ys : List ℕ) (a : Arrays) → take_all (xs ++ ys) a ≡ take_all ys (take_all xs a)
take_all-append [] ys a = refl
take_all-append (x ∷ xs) ys a = take_all-append xs ys (take x a)

pub give_all-append : (xs ys : List ℕ) (a : Arrays) → give_all (xs ++ ys) a ≡ give_all xs (give_all ys a)
give_all-append [] ys a = refl
give_all-append (x ∷ xs) ys a = ap (give x) (give_all-append xs ys a)

two_entries : (n p c : ℕ) → c ≢ p → entries_on n p c ≡ (2 * (c * n + p)) ∷ (2 * (c * n + p) + 1) ∷ []
two_entries n p c h = ap (λ b. if b then [] else (2 * (c * n + p)) ∷ (2 * (c * n + p) + 1) ∷ []) (eqb_false c p h)

no_entries : (n p c : ℕ) → c ≡ p → entries_on n p c ≡ []
no_entries n p c h = ap (λ b. if b then [] else (2 * (c * n + p)) ∷ (2 * (c * n + p) + 1) ∷ []) (eq-eqb c p h)

pub taken : (n p c e : ℕ) (a b : Arrays) → c ≢ p → e ≡ 2 * (c * n + p) → b ≡ take_all (entries_of n p c) a → take (e + 1) (take e b) ≡ take_all (entries_of n p (c + 1)) a
taken n p c e a b h ee eb = search (rules, add-one, take_all-append, two_entries)

pub skipped : (n p c : ℕ) (a b : Arrays) → c ≡ p → b ≡ take_all (entries_of n p c) a → b ≡ take_all (entries_of n p (c + 1)) a
skipped n p c a b h eb = search (rules, add-one, take_all-append, no_entries)

pub given : (n p c e : ℕ) (b t : Arrays) → c ≢ p → e ≡ 2 * (c * n + p) → give_all (entries_of n p (suc c)) b ≡ t → give_all (entries_of n p c) (give e (give (e + 1) b)) ≡ t
given n p c e b t h ee eb = search (rules, give_all-append, two_entries)

pub passed : (n p c : ℕ) (b t : Arrays) → c ≡ p → give_all (entries_of n p (suc c)) b ≡ t → give_all (entries_of n p c) b ≡ t
passed n p c b t h eb =
    sym (ap (λ l. give_all (entries_of n p c) (give_all l b)) (no_entries n p c h))
    ∙ (sym (give_all-append (entries_of n p c) (entries_on n p c) b) ∙ eb)
