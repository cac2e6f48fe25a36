-- Marks of places, one after the other, and the labels that they give.
use Rattle.std.proofs.Common.{All, ◌≡◌, ℕ, zero, suc, ◌+◌, ◌<◌, ◌≤◌, ◌⊎◌, inl, inr, ⊎_elim, Bool, true, false, IsTrue, List, [], ◌∷◌, ◌++◌, arith, ap, get_or, length, map, refl, slice_set, subst, sym}
use Rattle.std.proofs.lemmas.Bool.{false≢true}
use Rattle.staat_decide.specs.declared.reach.Way.{Way}
use Rattle.staat_decide.specs.declared.reach.Way.TheVariants.{Ahead, Back}
use Rattle.staat_decide.specs.Labels.{KeepsOrder}
use Rattle.staat_decide.specs.Reaching.{AreReached, IsClosedAlong, IsMarkedPlace, IsNextPlace, IsReachedPlace, label_of, unmarked}

-- ---- one more place

pub count_push : (xs : List Bool) → length (xs ++ false ∷ []) ≡ length xs + 1
count_push [] = refl
count_push (x ∷ xs) = let e : length (xs ++ false ∷ []) ≡ length xs + 1 = count_push xs in omega (arith, e)

pub unmarked_push : (xs : List Bool) → unmarked (xs ++ false ∷ []) ≡ unmarked xs + 1
unmarked_push [] = refl
unmarked_push (true ∷ xs) = unmarked_push xs
unmarked_push (false ∷ xs) = let e : unmarked (xs ++ false ∷ []) ≡ unmarked xs + 1 = unmarked_push xs in omega (arith, e)

pub marked_front : (xs : List Bool) (j : ℕ) → IsMarkedPlace xs j → IsMarkedPlace (xs ++ false ∷ []) j
marked_front [] j h = absurd (false≢true h)
marked_front (x ∷ xs) zero h = h
marked_front (x ∷ xs) (suc j) h = marked_front xs j h

pub marked_push : (xs : List Bool) (j : ℕ) → IsMarkedPlace (xs ++ false ∷ []) j → IsMarkedPlace xs j
marked_push [] zero h = h
marked_push [] (suc j) h = h
marked_push (x ∷ xs) zero h = h
marked_push (x ∷ xs) (suc j) h = marked_push xs j h

-- ---- one more mark

pub unmarked_set : (xs : List Bool) (j : ℕ) → j < length xs → get_or xs j true ≡ false → unmarked (slice_set xs j true) + 1 ≡ unmarked xs
unmarked_set [] j lt e = absurd (omega (arith, lt))
unmarked_set (true ∷ xs) zero lt e = absurd (false≢true (sym e))
unmarked_set (false ∷ xs) zero lt e = omega arith
unmarked_set (true ∷ xs) (suc j) lt e = unmarked_set xs j (omega (arith, lt)) e
unmarked_set (false ∷ xs) (suc j) lt e = let h : unmarked (slice_set xs j true) + 1 ≡ unmarked xs = unmarked_set xs j (omega (arith, lt)) e in omega (arith, h)

length_set : (xs : List Bool) (j : ℕ) → length (slice_set xs j true) ≡ length xs
length_set [] j = refl
length_set (x ∷ xs) zero = refl
length_set (x ∷ xs) (suc j) = ap suc (length_set xs j)

kept : (xs : List Bool) (j k : ℕ) → IsMarkedPlace xs k → IsMarkedPlace (slice_set xs j true) k
kept [] j k h = h
kept (x ∷ xs) zero zero h = refl
kept (x ∷ xs) zero (suc k) h = h
kept (x ∷ xs) (suc j) zero h = h
kept (x ∷ xs) (suc j) (suc k) h = kept xs j k h

old_or : (xs : List Bool) (j k : ℕ) → IsMarkedPlace (slice_set xs j true) k → (k ≡ j) ⊎ IsMarkedPlace xs k
old_or [] j k h = inr h
old_or (x ∷ xs) zero zero h = inl refl
old_or (x ∷ xs) zero (suc k) h = inr h
old_or (x ∷ xs) (suc j) zero h = inr h
old_or (x ∷ xs) (suc j) (suc k) h = ⊎_elim {C = (suc k ≡ suc j) ⊎ IsMarkedPlace xs k} (λ e. inl (ap suc e)) (λ m. inr m) (old_or xs j k h)

pub reached_more : (way : Way) (rows : List (List Bool)) (marks : List Bool) (j : ℕ) → AreReached way rows marks → IsNextPlace way rows marks j → AreReached way rows (slice_set marks j true)
reached_more way rows marks j old n = record {
  count = let e : length (slice_set marks j true) ≡ length marks = length_set marks j in let f : length marks ≡ length rows = old.count in omega (arith, e, f);
  first = kept marks j 0 old.first;
  each = λ k lt m. ⊎_elim {C = IsReachedPlace way rows k}
      (λ e. subst (IsReachedPlace way rows) (sym e) here)
      (λ was. old.each k (let e : length (slice_set marks j true) ≡ length marks = length_set marks j in omega (arith, e, lt)) was)
      (old_or marks j k m);
}
  where
    here : IsReachedPlace way rows j
    here has root step =
        let same : length marks ≡ length rows = old.count in
        step n.i j (omega (arith, same, n.from_before)) (omega (arith, same, n.before)) n.leads (old.each n.i n.from_before n.from has root step)

pub all_marked : (xs : List Bool) → unmarked xs ≡ 0 → (j : ℕ) → j < length xs → IsMarkedPlace xs j
all_marked [] none j lt = absurd (omega (arith, lt))
all_marked (true ∷ xs) none zero lt = refl
all_marked (true ∷ xs) none (suc j) lt = all_marked xs none j (omega (arith, lt))
all_marked (false ∷ xs) none j lt = absurd (omega (arith, none))

-- ---- labels

pub label_at : (way : Way) (marks : List Bool) (j : ℕ) → j < length marks → get_or (map (label_of way) marks) j 0 ≡ label_of way (get_or marks j false)
label_at way [] j lt = absurd (omega (arith, lt))
label_at way (x ∷ xs) zero lt = refl
label_at way (x ∷ xs) (suc j) lt = label_at way xs j (omega (arith, lt))

pub label_small : (way : Way) (b : Bool) → label_of way b < 2
label_small Ahead true = omega arith
label_small Ahead false = omega arith
label_small Back true = omega arith
label_small Back false = omega arith

pub labels_small : (way : Way) (marks : List Bool) → All (λ l. l < 2) (map (label_of way) marks)
labels_small way [] j d lt = absurd (omega (arith, lt))
labels_small way (x ∷ xs) zero d lt = label_small way x
labels_small way (x ∷ xs) (suc j) d lt = labels_small way xs j d (omega (arith, lt))

pub labels_differ : (way : Way) → label_of way true ≡ label_of way false → ⊥
labels_differ Ahead e = absurd (omega (arith, e))
labels_differ Back e = absurd (omega (arith, e))

ahead_order : (a b : Bool) → (IsTrue a → IsTrue b) → label_of Ahead b ≤ label_of Ahead a
ahead_order true true f = omega arith
ahead_order true false f = absurd (false≢true (f refl))
ahead_order false true f = omega arith
ahead_order false false f = omega arith

back_order : (a b : Bool) → (IsTrue b → IsTrue a) → label_of Back b ≤ label_of Back a
back_order true true f = omega arith
back_order false true f = absurd (false≢true (f refl))
back_order true false f = omega arith
back_order false false f = omega arith

pub labels_count : (way : Way) (marks : List Bool) → length (map (label_of way) marks) ≡ length marks
labels_count way [] = refl
labels_count way (x ∷ xs) = ap suc (labels_count way xs)

pub keeps_order_by : (way : Way) (rows : List (List Bool)) (marks : List Bool) → IsClosedAlong way rows marks → KeepsOrder rows (map (label_of way) marks)
keeps_order_by way rows marks closed i i_lt j j_lt arc =
    let count : length (map (label_of way) marks) ≡ length marks = labels_count way marks in
    let i_in : i < length marks = omega (arith, count, i_lt) in
    let j_in : j < length marks = omega (arith, count, j_lt) in
    subst (λ l. l ≤ get_or (map (label_of way) marks) i 0) (sym (label_at way marks j j_in))
    (subst (λ l. label_of way (get_or marks j false) ≤ l) (sym (label_at way marks i i_in)) (by way closed i_in j_in))
  where
    by : (way : Way) → IsClosedAlong way rows marks → i < length marks → j < length marks → label_of way (get_or marks j false) ≤ label_of way (get_or marks i false)
    by Ahead shut i_in j_in = ahead_order (get_or marks i false) (get_or marks j false) (λ m. shut i i_in m j j_in arc)
    by Back shut i_in j_in = back_order (get_or marks i false) (get_or marks j false) (λ m. shut j j_in m i i_in arc)
