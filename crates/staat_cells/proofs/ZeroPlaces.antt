-- The places of the zeros in signs: there the signs give way one after another, and there are the planes through a vertex.
use Rattle.std.proofs.Common.{◌≡◌, ◌⊎◌, inl, inr, ℕ, suc, ◌+◌, ◌<◌, ◌≤◌, true, false, refl, sym, ap, subst, ◌∙◌}
use Rattle.std.proofs.Common.{arith, add-one, append_assoc, drop-cons, List, [], ◌∷◌, ◌++◌, drop, get_or, length}
use Rattle.std.proofs.Common.{◌↔◌, ⊎_elim, zero, Bool, Contains}
use Rattle.std.proofs.lemmas.List.{drop_all, drop_more, get_or-map, length-map, length-set, get_or_default}
use Rattle.std.specs.Prelude.{if◌then◌else◌, slice_set}
use Rattle.staat_vec.specs.declared.vector.V3.{V3}
use Rattle.staat_vec.specs.Vectors.{dot, sign, origin}
use Rattle.staat_vec.specs.declared.vector.Sign.{Sign}
use Rattle.staat_vec.specs.declared.vector.Sign.TheVariants.{Neg, Pos, Zero}
use Rattle.staat_model.specs.Cells.{is_zero, signs_of}
use Rattle.staat_cells.specs.declared.incidence.Incidence.{Incidence}
use Rattle.staat_cells.specs.ZeroSigns.{IsZeroAt, zero_places}
use Rattle.staat_cells.specs.Compositions.{composed}
use Rattle.staat_cells.specs.Packing.{incidence_of}
use Rattle.staat_vec.proofs.ListLaws.{append_nothing, only_one}
use Rattle.std.proofs.lemmas.List.Elements.{Contains-get_or}
use Rattle.staat_vec.proofs.Unique.{Contains-cases, Contains-front, Contains-later, Contains-nothing}
use Rattle.staat_cells.specs.Stages.{IsBesideIncidence}
use Rattle.staat_cells.proofs.Growing.{Below}

-- ---- the zeros, one sign after another

-- what is left of the places, where k signs were passed
abbrev pub HasZerosTo : List Sign → ℕ → List ℕ → Type 0
HasZerosTo s k found = found ++ zero_places k (drop k s) ≡ zero_places 0 s

next_places : (s : List Sign) (k : ℕ) (d : Sign) → k < length s
    → zero_places k (drop k s) ≡ (if is_zero (get_or s k d) then k ∷ zero_places (k + 1)
    (drop (k + 1) s) else zero_places (k + 1) (drop (k + 1) s))
next_places s k d lt =
    ap (zero_places k) (drop-cons s k d lt)
    ∙ ap (λ n. if is_zero (get_or s k d) then k ∷ zero_places n (drop n s) else zero_places n (drop n s))
    (sym (add-one k))

module _ (s : List Sign) (k : ℕ) (found : List ℕ) (d : Sign) (lt : k < length s)
    (before : HasZerosTo s k found) where
  pub zero_found : (new : List ℕ) → is_zero (get_or s k d) ≡ true → new ≡ found ++ k ∷ []
      → HasZerosTo s (k + 1) new
  zero_found new z is =
      ap (λ l. l ++ zero_places (k + 1) (drop (k + 1) s)) is
      ∙ append_assoc found (k ∷ []) (zero_places (k + 1) (drop (k + 1) s))
      ∙ ap (λ b. found ++ (if b then k ∷ zero_places (k + 1) (drop (k + 1) s) else zero_places (k + 1)
      (drop (k + 1) s))) (sym z)
      ∙ ap (λ l. found ++ l) (sym (next_places s k d lt)) ∙ before

  pub other_found : is_zero (get_or s k d) ≡ false → HasZerosTo s (k + 1) found
  other_found z =
      ap (λ b. found ++ (if b then k ∷ zero_places (k + 1) (drop (k + 1) s) else zero_places (k + 1)
      (drop (k + 1) s))) (sym z)
      ∙ ap (λ l. found ++ l) (sym (next_places s k d lt)) ∙ before

pub all_found : (s : List Sign) (k : ℕ) (found : List ℕ) → length s ≤ k → HasZerosTo s k found
    → found ≡ zero_places 0 s
all_found s k found le has =
    sym (append_nothing found) ∙ ap (λ l. found ++ zero_places k l) (sym (drop_all k s le)) ∙ has

-- ---- the signs change at these places alone

-- Signs l are those of b, but for zeros at the places that are left, the first sign at place k. There b has the signs
-- of t.
abbrev pub IsLeftTo : ℕ → (l b t : List Sign) → List ℕ → Type 0
IsLeftTo k [] [] t left = left ≡ []
IsLeftTo k [] (y ∷ b) t left = ⊥
IsLeftTo k (x ∷ l) [] t left = ⊥
IsLeftTo k (x ∷ l) (y ∷ b) [] left = ⊥
IsLeftTo k (x ∷ l) (y ∷ b) (u ∷ t) left = ((x ≡ y) × IsLeftTo (suc k) l b t left)
    ⊎ ((x ≡ Zero) × (y ≡ u) × ((rest : List ℕ) × (left ≡ k ∷ rest) × IsLeftTo (suc k) l b t rest))

zeros_left : (k : ℕ) (s t : List Sign) → length s ≡ length t → IsLeftTo k s (composed s t) t (zero_places k s)
zeros_left k [] t e = refl
zeros_left k (x ∷ s) [] e = absurd (omega arith)
zeros_left k (Neg ∷ s) (u ∷ t) e = inl (refl, zeros_left (suc k) s t (omega arith))
zeros_left k (Zero ∷ s) (u ∷ t) e = inr (refl, refl, (zero_places (suc k) s, refl, zeros_left (suc k) s t (omega arith)))
zeros_left k (Pos ∷ s) (u ∷ t) e = inl (refl, zeros_left (suc k) s t (omega arith))

none_left : (k : ℕ) (l b t : List Sign) → IsLeftTo k l b t [] → l ≡ b
none_left k [] [] t h = refl
none_left k [] (y ∷ b) t h = absurd h
none_left k (x ∷ l) [] t h = absurd h
none_left k (x ∷ l) (y ∷ b) [] h = absurd h
none_left k (x ∷ l) (y ∷ b) (u ∷ t) (inl (e, h)) = λ i. e i ∷ none_left (suc k) l b t h i
none_left k (x ∷ l) (y ∷ b) (u ∷ t) (inr (z, f, (rest, e, h))) = cc

-- the first place that is left, and what is left once the sign there has given way
record IsNext (k : ℕ) (l b t : List Sign) (z : ℕ) (rest : List ℕ) : Type 0 where
  place : ℕ
  at : z ≡ k + place
  within : place < length l
  zero_at : IsZeroAt l place
  changed : (v : Sign) → v ≡ get_or t place Neg → IsLeftTo k (slice_set l place v) b t rest

next_left : (k : ℕ) (l b t : List Sign) (z : ℕ) (rest : List ℕ) → IsLeftTo k l b t (z ∷ rest) → IsNext k l b t z rest
next_left k [] [] t z rest h = cc
next_left k [] (y ∷ b) t z rest h = absurd h
next_left k (x ∷ l) [] t z rest h = absurd h
next_left k (x ∷ l) (y ∷ b) [] z rest h = absurd h
next_left k (x ∷ l) (y ∷ b) (u ∷ t) z rest (inl (e, h)) =
    let n = next_left (suc k) l b t z rest h in
    let at = n.at in
    let within = n.within in
    record { place = suc n.place; at = omega arith; within = omega arith; zero_at = n.zero_at; changed = λ v is. inl (e, n.changed v is) }
next_left k (x ∷ l) (y ∷ b) (u ∷ t) z rest (inr (e, f, (others, is, h))) =
    let here : z ≡ k = cc in
    let same : others ≡ rest = cc in
    record {
      place = 0;
      at = omega arith;
      within = omega arith;
      zero_at = e;
      changed = λ v v_is. inl (v_is ∙ sym f, subst (IsLeftTo (suc k) l b t) same h);
    }

-- ---- towards a direction

-- so many signs have given way to those of t, and so become b, but for zeros at the places that are left
pub record IsPatched (count : ℕ) (b t : List Sign) (x : Incidence) (of : ℕ) (places : List ℕ) : Type 0 where
  pub signs : List Sign
  pub is : x ≡ incidence_of signs of
  pub long : length signs ≡ count
  pub left : IsLeftTo 0 signs b t places

module _ (planes : List V3) (s : List Sign) (w : V3) (long : length s ≡ length planes) (x : Incidence) (of : ℕ)
    (zeros : List ℕ) where
  abbrev IsPatchedTo : Incidence → List ℕ → Type 0
  IsPatchedTo x left = IsPatched (length s) (composed s (signs_of planes w)) (signs_of planes w) x of left

  pub towards_none : zeros ≡ zero_places 0 s → x ≡ incidence_of s of → IsPatchedTo x (drop 0 zeros)
  towards_none are is = record {
    signs = s;
    is = is;
    long = refl;
    left = subst (IsLeftTo 0 s (composed s (signs_of planes w)) (signs_of planes w)) (sym are)
        (zeros_left 0 s (signs_of planes w) (long ∙ sym (length-map planes (λ n. sign (dot n w)))));
  }

  pub towards_all : (i : ℕ) → length zeros ≤ i → IsPatchedTo x (drop i zeros)
      → x ≡ incidence_of (composed s (signs_of planes w)) of
  towards_all i le h = h.is ∙ ap (λ l. incidence_of l of) (none_left 0 h.signs (composed s (signs_of planes w)) (signs_of planes w)
      (subst (IsLeftTo 0 h.signs (composed s (signs_of planes w)) (signs_of planes w)) (drop_all i zeros le) h.left))

  module _ (i : ℕ) (lt : i < length zeros) (before : IsPatchedTo x (drop i zeros)) where
    next : IsNext 0 before.signs (composed s (signs_of planes w)) (signs_of planes w) (get_or zeros i 0) (drop (i + 1) zeros)
    next = next_left 0 before.signs (composed s (signs_of planes w)) (signs_of planes w) (get_or zeros i 0) (drop (i + 1) zeros)
        (subst (IsLeftTo 0 before.signs (composed s (signs_of planes w)) (signs_of planes w)) (drop_more zeros i 0 lt) before.left)

    there : get_or zeros i 0 ≡ next.place
    there = let at = next.at in omega arith

    pub zero_within : get_or zeros i 0 < length s
    zero_within = let within = next.within in omega (arith, within, there, before.long)

    own : x ≡ incidence_of before.signs x.of
    own = before.is ∙ ap (incidence_of before.signs) (sym (ap (λ y. y.of) before.is))

    zero_at : IsZeroAt before.signs (get_or zeros i 0)
    zero_at = subst (IsZeroAt before.signs) (sym there) next.zero_at

    pub zero_changed : (new : Incidence) (v : Sign) (e : V3) → v ≡ sign (dot (get_or planes (get_or zeros i 0) e) w)
        → ((l : List Sign) → x ≡ incidence_of l x.of → length l ≡ length s → IsZeroAt l (get_or zeros i 0)
        → new ≡ incidence_of (slice_set l (get_or zeros i 0) v) x.of)
        → IsPatchedTo new (drop (i + 1) zeros)
    zero_changed new v e is change =
        let z = get_or zeros i 0 in record {
          signs = slice_set before.signs z v;
          is = change before.signs own before.long zero_at
              ∙ ap (incidence_of (slice_set before.signs z v)) (ap (λ y. y.of) before.is);
          long = length-set before.signs z v ∙ before.long;
          left = subst (λ m. IsLeftTo 0 (slice_set before.signs m v) (composed s (signs_of planes w)) (signs_of planes w) (drop (i + 1) zeros))
              (sym there) (next.changed v (is
              ∙ sym (get_or-map (λ n. sign (dot n w)) planes z e Neg (let within = zero_within in omega (arith, within, long)))
              ∙ ap (λ m. get_or (signs_of planes w) m Neg) there));
        }

-- ---- the places of zeros

pub zero_listed : (s : List Sign) (n k : ℕ) (d : Sign) → k < length s → is_zero (get_or s k d) ≡ true → Contains (zero_places n s) (n + k)
zero_listed [] n k d lt z = absurd (omega arith)
zero_listed (x ∷ s) n zero d lt z =
    subst (λ r. Contains (if r then n ∷ zero_places (suc n) s else zero_places (suc n) s) (n + 0)) (sym z)
    (subst (Contains (n ∷ zero_places (suc n) s)) (let e : n ≡ n + 0 = omega arith in e) (Contains-front n (zero_places (suc n) s)))
zero_listed (x ∷ s) n (suc k) d lt z =
    go (is_zero x) (subst (Contains (zero_places (suc n) s)) (let e : suc n + k ≡ n + suc k = omega arith in e) (zero_listed s (suc n) k d (omega arith) z))
  where
    go : (r : Bool) → Contains (zero_places (suc n) s) (n + suc k) → Contains (if r then n ∷ zero_places (suc n) s else zero_places (suc n) s) (n + suc k)
    go true later = Contains-later n (zero_places (suc n) s) (n + suc k) later
    go false later = later

-- j is the place of a zero, where the first sign is at place n
abbrev IsZeroFrom : List Sign → ℕ → ℕ → Type 0
IsZeroFrom s n j = (k : ℕ) × (j ≡ n + k) × (k < length s) × ((d : Sign) → get_or s k d ≡ Zero)

zero_behind : (x : Sign) (s : List Sign) (n j : ℕ) → IsZeroFrom s (suc n) j → IsZeroFrom (x ∷ s) n j
zero_behind x s n j (k, at, lt, is) = (suc k, omega (arith, at), omega (arith, lt), is)

zero_from : (s : List Sign) (n j : ℕ) → Contains (zero_places n s) j → IsZeroFrom s n j
zero_from [] n j c = absurd (Contains-nothing j c)
zero_from (Neg ∷ s) n j c = zero_behind Neg s n j (zero_from s (suc n) j c)
zero_from (Pos ∷ s) n j c = zero_behind Pos s n j (zero_from s (suc n) j c)
zero_from (Zero ∷ s) n j c = ⊎_elim {C = IsZeroFrom (Zero ∷ s) n j} (λ e. (0, omega (arith, e), omega arith, λ d. refl))
    (λ later. zero_behind Zero s n j (zero_from s (suc n) j later)) (Contains-cases n (zero_places (suc n) s) j c)

-- the place of a zero is that of a plane, which has its sign
pub zero_place : (planes : List V3) (v : V3) (ks : List ℕ) (j : ℕ) → ks ≡ zero_places 0 (signs_of planes v) → Contains ks j → j < length planes
zero_place planes v ks j is listed =
    let (k, at, lt, zero_at) = zero_from (signs_of planes v) 0 j (subst (λ zs. Contains zs j) is listed) in
    let long = length-map planes (λ n. sign (dot n v)) in
    omega (arith, at, lt, long)

pub zero_sign_there : (planes : List V3) (v : V3) (ks : List ℕ) (j : ℕ) → ks ≡ zero_places 0 (signs_of planes v) → Contains ks j → sign (dot (get_or planes j origin) v) ≡ Zero
zero_sign_there planes v ks j is listed =
    let (k, at, lt, zero_at) = zero_from (signs_of planes v) 0 j (subst (λ zs. Contains zs j) is listed) in
    let same : j ≡ k = omega (arith, at) in
    sym (get_or-map (λ n. sign (dot n v)) planes j origin Neg (zero_place planes v ks j is listed))
    ∙ ap (λ m. get_or (signs_of planes v) m Neg) same ∙ zero_at Neg

-- ---- all planes through the vertex

-- the incidence is on the plane at the i-th of the places of zeros
abbrev pub IsPassed : List V3 → V3 → V3 → ℕ → List ℕ → Incidence → ℕ → Type 0
IsPassed planes v m k ks x i = IsBesideIncidence (get_or planes (get_or ks i 0) origin ∷ []) planes v m k x

pub all_passed : (planes : List V3) (v m : V3) (k : ℕ) (ks : List ℕ) (i : ℕ) (x : Incidence) → i ≡ length ks
    → ks ≡ zero_places 0 (signs_of planes v)
    → Below (IsPassed planes v m k ks x) i ↔ IsBesideIncidence planes planes v m k x
all_passed planes v m k ks i x end is = (from, to)
  where
    from : Below (IsPassed planes v m k ks x) i → IsBesideIncidence planes planes v m k x
    from (j, lt, b) =
        let o = b.beside in
        let z = get_or ks j 0 in
        let z_in = Contains-get_or ks j 0 (omega (arith, lt, end)) in
        let c_in = subst (Contains planes) (sym (only_one (get_or planes z origin) o.c o.c_in))
        (Contains-get_or planes z origin (zero_place planes v ks z is z_in)) in
        record { signs = b.signs; beside = record { c = o.c; c_in = c_in; on = o.on; towards = o.towards }; is = b.is }

    to : IsBesideIncidence planes planes v m k x → Below (IsPassed planes v m k ks x) i
    to b =
        let o = b.beside in
        let (p, lt, at) = o.c_in in
        let here : get_or planes p origin ≡ o.c = get_or_default planes p origin o.c lt ∙ at in
        let value : get_or (signs_of planes v) p Neg ≡ Zero =
        get_or-map (λ n. sign (dot n v)) planes p origin Neg lt ∙ (λ i. sign (dot (here i) v)) ∙ ap sign o.on in
        let long = length-map planes (λ n. sign (dot n v)) in
        let listed = zero_listed (signs_of planes v) 0 p Neg (omega (arith, lt, long)) (ap is_zero value) in
        let (q, below, there) = subst (Contains ks) (let e : 0 + p ≡ p = omega arith in e) (subst (λ zs. Contains zs (0 + p)) (sym is) listed) in
        let plane : get_or planes (get_or ks q 0) origin ≡ o.c =
        ap (λ j. get_or planes j origin) (get_or_default ks q 0 p below ∙ there) ∙ here in (
          q,
          omega (arith, below, end),
          record {
            signs = b.signs;
            beside = record { c = o.c; c_in = subst (λ g. Contains (g ∷ []) o.c) (sym plane) (Contains-front o.c []); on = o.on; towards = o.towards };
            is = b.is;
          },
        )
