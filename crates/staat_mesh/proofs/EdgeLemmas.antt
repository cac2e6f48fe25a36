-- The edges of a polygon, corner by corner.
use Rattle.std.proofs.Common.{◌≡◌, ◌<◌, ◌≤◌, ◌+◌, ◌-◌, ◌⊎◌, ℕ, List, [], ◌∷◌, ◌++◌, length, take, get_or, Some, inl, inr, refl, ap, sym, subst, ◌∙◌, arith, add-one}
use Rattle.std.specs.Prelude.{All, min, slice_get, slice_index}
use Rattle.std.specs.List.{zip}
use Rattle.std.proofs.lemmas.List.{append-nil, append_assoc, get_or-append_right, get_or-map, get_or_append_left, length-append, length-map, take_all}
use Rattle.std.proofs.lemmas.List.Elements.{All-head, All-push, All-tail}
use Rattle.std.proofs.lemmas.Option.{slice_get-get_or}
use Rattle.std.proofs.lemmas.Slice.Zip.{get_or-zip, length-zip}
use Rattle.staat_mesh.specs.Counts.{Counts, numbered}
use Rattle.staat_mesh.specs.Edges.{edges, rotated}
use Rattle.staat_vec.proofs.Naturals.{min_same}
use Rattle.staat_vec.proofs.ListLaws.{take_next}

pub length-rotated : {X : Type 0} (xs : List X) → length (rotated xs) ≡ length xs
length-rotated [] = refl
length-rotated (x ∷ xs) = length-append xs (x ∷ []) ∙ add-one (length xs)

rotated-next : {X : Type 0} (xs : List X) (c : ℕ) (d : X) → c + 1 < length xs → get_or (rotated xs) c d ≡ get_or xs (c + 1) d
rotated-next [] c d lt = absurd (omega (arith, lt))
rotated-next (x ∷ xs) c d lt = rw add-one (get_or_append_left xs (x ∷ []) d c (omega (arith, lt)))

rotated-last : {X : Type 0} (xs : List X) (c : ℕ) (d : X) → c < length xs → length xs ≤ c + 1 → get_or (rotated xs) c d ≡ get_or xs 0 d
rotated-last [] c d lt le = absurd (omega (arith, lt))
rotated-last (x ∷ xs) c d lt le = let at : c ≡ length xs = omega (arith, lt, le) in rw at (get_or-append_right xs (x ∷ []) (length xs) (length xs) d refl (omega arith) ∙ ap (λ k. get_or (x ∷ []) k d) (nothing_left (length xs)))
  where
    nothing_left : (n : ℕ) → n - n ≡ 0
    nothing_left n = omega arith

-- the corner after that one
abbrev pub IsNext : ℕ → ℕ → ℕ → Type 0
IsNext corners c next = ((c + 1 < corners) × (next ≡ c + 1)) ⊎ ((corners ≤ c + 1) × (next ≡ 0))

rotated-at : {X : Type 0} (xs : List X) (c next : ℕ) (d : X) → c < length xs → IsNext (length xs) c next → get_or (rotated xs) c d ≡ get_or xs next d
rotated-at xs c next d lt (inl (more, e)) = rotated-next xs c d more ∙ ap (λ k. get_or xs k d) (sym e)
rotated-at xs c next d lt (inr (le, e)) = rotated-last xs c d lt le ∙ ap (λ k. get_or xs k d) (sym e)

pub length-edges : {X : Type 0} (xs : List X) → length (edges xs) ≡ length xs
unfolding edges
length-edges xs = length-zip xs (rotated xs) ∙ ap (min (length xs)) (length-rotated xs) ∙ min_same (length xs)

pub edge-at : {X : Type 0} (xs : List X) (c next : ℕ) (d : X) → c < length xs → IsNext (length xs) c next → slice_get (edges xs) c ≡ Some (get_or xs c d, get_or xs next d)
unfolding edges
edge-at xs c next d lt is =
    slice_get-get_or (zip xs (rotated xs)) c (d, d) (omega (arith, lt, length-edges xs))
    ∙ ap Some (get_or-zip xs (rotated xs) c (d, d) lt (omega (arith, lt, length-rotated xs)) ∙ ap (λ q. (get_or xs c d, q)) (rotated-at xs c next d lt is))

-- the edge of a face at a corner, by numbers
pub numbered-edge : (numbers face : List ℕ) (c next : ℕ) → c < length face → next < length face → IsNext (length face) c next → slice_get (edges (numbered numbers face)) c ≡ Some (slice_index numbers (slice_index face c), slice_index numbers (slice_index face next))
numbered-edge numbers face c next lt within is =
    let long : length (numbered numbers face) ≡ length face = length-map face (slice_index numbers) in
    edge-at (numbered numbers face) c next 0 (omega (arith, lt, long)) (subst (λ n. IsNext n c next) (sym long) is)
    ∙ (λ i. Some (get_or-map (slice_index numbers) face c 0 0 lt i, get_or-map (slice_index numbers) face next 0 0 within i))

-- ---- one more

-- the table counts what it did, and the first edges of the list
abbrev pub CountsFront : List ℕ → List ℕ → List (ℕ × ℕ) → ℕ → Type 0
CountsFront old new es i = (seen : List (ℕ × ℕ)) → Counts old seen → Counts new (seen ++ take i es)

pub front_none : (table : List ℕ) (es : List (ℕ × ℕ)) → CountsFront table table es 0
front_none table es seen h = subst (Counts table) (sym (append-nil seen)) h

pub front_more : (old table new : List ℕ) (es : List (ℕ × ℕ)) (i a b : ℕ) → slice_get es i ≡ Some (a, b) → ((seen : List (ℕ × ℕ)) → Counts table seen → Counts new (seen ++ (a, b) ∷ [])) → CountsFront old table es i → CountsFront old new es (i + 1)
front_more old table new es i a b e step so_far seen h =
    subst (Counts new) (append_assoc seen (take i es) ((a, b) ∷ []) ∙ ap (λ front. seen ++ front) (sym (take_next es i (a, b) e))) (step (seen ++ take i es) (so_far seen h))

pub front_all : (old new : List ℕ) (es : List (ℕ × ℕ)) (i : ℕ) → length es ≤ i → CountsFront old new es i → (seen : List (ℕ × ℕ)) → Counts old seen → Counts new (seen ++ es)
front_all old new es i le so_far seen h = subst (λ front. Counts new (seen ++ front)) (take_all i es le) (so_far seen h)

pub length-numbered-edges : (numbers face : List ℕ) → length (edges (numbered numbers face)) ≡ length face
length-numbered-edges numbers face = length-edges (numbered numbers face) ∙ length-map face (slice_index numbers)

All-rotated : {X : Type 0} (P : X → Type 0) (xs : List X) → All P xs → All P (rotated xs)
All-rotated P [] all = all
All-rotated P (x ∷ xs) all = All-push P xs x (All-tail P x xs all) (All-head P x xs all)

-- what holds of all corners holds of both ends of all edges
pub All-edges : {X : Type 0} (P : X → Type 0) (xs : List X) → All P xs → All (λ (e : X × X). P e.0 × P e.1) (edges xs)
unfolding edges
All-edges {X} P xs all = λ k d lt.
    let short : k < length xs = omega (arith, lt, length-zip xs (rotated xs)) in
    let short_turned : k < length (rotated xs) = omega (arith, lt, length-zip xs (rotated xs)) in
    subst (λ (e : X × X). P e.0 × P e.1) (sym (get_or-zip xs (rotated xs) k d short short_turned)) (all k d.0 short, All-rotated P xs all k d.1 short_turned)
