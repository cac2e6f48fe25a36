-- The rows of all parts, and those of some of them.
use Rattle.std.proofs.Common.{◌++◌, add-one, ap, take, ◌≡◌, ◌≢◌, ◌↔◌, ℕ, zero, suc, ◌+◌, ◌<◌, Bool, false, All, IsTrue, List, [], ◌∷◌, Contains, arith, get_or, length, map, subst, sym, zero-add, ◌∙◌}
use Rattle.std.specs.List.{AllZip, range_with_len}
use Rattle.std.proofs.lemmas.List.Elements.{All-contains}
use Rattle.std.proofs.lemmas.List.FromFn.{get_or-range_with_len, length-range_with_len}
use Rattle.staat_vec.specs.declared.vector.V3.{V3}
use Rattle.staat_model.specs.declared.assembly.Part.{Part}
use Rattle.staat_model.specs.Removal.{Blocks}
use Rattle.staat_motion.proofs.Zips.{zip_read}
use Rattle.staat_decide.specs.Arcs.{AreBlockingRows, IsRow}
use Rattle.staat_vec.specs.declared.vector.TheConstants.{DIRECTION}
use Rattle.staat_vec.specs.Vectors.{IsWithin, origin}
use Rattle.staat_decide.specs.declared.likely.AskedRows.{AskedRows}
use Rattle.staat_decide.specs.Asking.{AreAllRows, AreAskedRows}
use Rattle.staat_decide.specs.Reaching.{HasRowArc}
use Rattle.std.specs.Prelude.{IfSome, Option, Some}
use Rattle.std.proofs.lemmas.List.{map-append, take_more}
use Rattle.staat_decide.specs.Peelings.{IsPeeling}
use Rattle.staat_decide.proofs.Rows.{row_at, row_count, row_lengths}
use Rattle.staat_vec.proofs.Unique.{Contains-front}
use Rattle.staat_vec.proofs.ListLaws.{Contains-there, any_default}

-- ---- from the rows of all numbers

module _ (parts : List Part) (d : V3) (rows : List (List Bool)) (is : AreBlockingRows parts d (range_with_len 0 (length parts)) rows) where
  abbrev all : List ℕ
  all = range_with_len 0 (length parts)

  own : (i d : ℕ) → i < length parts → get_or all i d ≡ i
  own i d lt = get_or-range_with_len 0 (length parts) i d lt ∙ zero-add i

  arcs : (a b : ℕ) → a < length parts → b < length parts → HasRowArc rows a b ↔ Blocks parts d a b
  arcs a b a_lt b_lt =
      let count : length all ≡ length parts = length-range_with_len 0 (length parts) in
      let a_in : a < length all = omega (arith, count, a_lt) in
      let b_in : b < length all = omega (arith, count, b_lt) in
      let row : IsRow parts d all a (get_or rows a []) = subst (λ x. IsRow parts d all x (get_or rows a [])) (own a 0 a_lt) (row_at parts d all rows a is a_in) in
      zip_read (λ q answer. IsTrue answer ↔ Blocks parts d a q) all (get_or rows a []) b b false row b_in (sym (own b b b_lt))

  pub rows_of_all : AreAllRows parts d rows
  rows_of_all = record {
    count = row_count parts d all rows is ∙ length-range_with_len 0 (length parts);
    widths = λ k e lt. row_lengths parts d all rows is k e lt ∙ length-range_with_len 0 (length parts);
    arcs = arcs;
  }

-- ---- to those of some

zip_map : {X Y : Type 0} (R : X → Y → Type 0) (f : X → Y) (xs : List X) → ((x : X) → Contains xs x → R x (f x)) → AllZip R xs (map f xs)
zip_map R f [] h = tt
zip_map R f (x ∷ xs) h = (h x (Contains-front x xs), zip_map R f xs (λ y c. h y (Contains-there x y xs c)))

pub rows_of_some : (parts : List Part) (d : V3) (w : List ℕ) (rows : List (List Bool)) → AreAllRows parts d rows
    → All (λ p. p < length parts) w → AreBlockingRows parts d w (map (λ a. map (λ b. get_or (get_or rows a []) b false) w) w)
rows_of_some parts d w rows are within =
    zip_map (IsRow parts d w) (λ a. map (λ b. get_or (get_or rows a []) b false) w) w (λ a a_in.
    zip_map (λ b answer. IsTrue answer ↔ Blocks parts d a b) (λ b. get_or (get_or rows a []) b false) w (λ b b_in.
    are.arcs a b (All-contains (λ p. p < length parts) w a within a_in) (All-contains (λ p. p < length parts) w b within b_in)))

-- ---- what is asked

pub numbers_small : (n : ℕ) → All (λ p. p < n) (range_with_len 0 n)
numbers_small n k d lt =
    let long : length (range_with_len 0 n) ≡ n = length-range_with_len 0 n in
    let small : k < n = omega (arith, long, lt) in
    let e : get_or (range_with_len 0 n) k d ≡ k = get_or-range_with_len 0 n k d small ∙ zero-add k in
    omega (arith, e, small)

pub asked_is : (parts : List Part) (d e : V3) (numbers : List ℕ) (rows kept : List (List Bool)) → IsWithin DIRECTION d → d ≢ origin → e ≡ d
    → numbers ≡ range_with_len 0 (length parts) → kept ≡ rows → AreBlockingRows parts e numbers rows
    → AreAskedRows parts (record { d = d; rows = kept })
asked_is parts d e numbers rows kept size moves same is kept_is are = record {
  size = size;
  moves = moves;
  rows_are = subst (AreAllRows parts d) (sym kept_is) (rows_of_all parts d rows
      (subst (λ (v : V3). AreBlockingRows parts v (range_with_len 0 (length parts)) rows) same (subst (λ (xs : List ℕ). AreBlockingRows parts e xs rows) is are)));
}

pub picked_are : (parts : List Part) (asked : AskedRows) (w : List ℕ) (rows : List (List Bool)) → AreAskedRows parts asked
    → All (λ p. p < length parts) w
    → rows ≡ map (λ a. map (λ b. get_or (get_or asked.rows a []) b false) w) w → AreBlockingRows parts asked.d w rows
picked_are parts asked w rows is within e =
    subst (AreBlockingRows parts asked.d w) (sym e) (rows_of_some parts asked.d w asked.rows is.rows_are within)

-- ---- one after the other

pub range_more : (a n j : ℕ) → a + n ≡ j → range_with_len a (n + 1) ≡ range_with_len a n ++ j ∷ []
range_more a zero j e = let same : a ≡ j = omega (arith, e) in ap (λ (x : ℕ). x ∷ []) same
range_more a (suc n) j e =
    ap (range_with_len a) (add-one (suc n))
    ∙ ap (λ (xs : List ℕ). a ∷ xs) (ap (range_with_len (a + 1)) (sym (add-one n)) ∙ range_more (a + 1) n j (omega (arith, e)))

pub picked_more : (rows : List (List Bool)) (w : List ℕ) (picked next : List (List Bool)) (i : ℕ) (row kept some : List Bool)
    → i < length w → get_or w i 0 < length rows → row ≡ get_or rows (get_or w i 0) row → kept ≡ row
    → some ≡ map (λ b. get_or kept b false) w
    → picked ≡ map (λ a. map (λ b. get_or (get_or rows a []) b false) w) (take i w) → next ≡ picked ++ some ∷ []
    → next ≡ map (λ a. map (λ b. get_or (get_or rows a []) b false) w) (take (i + 1) w)
picked_more rows w picked next i row kept some lt in' at same is before push =
    let F : ℕ → List Bool = λ a. map (λ b. get_or (get_or rows a []) b false) w in
    let own : kept ≡ get_or rows (get_or w i 0) [] = same ∙ at ∙ any_default rows (get_or w i 0) row [] in' in
    let last : some ≡ F (get_or w i 0) = is ∙ ap (λ (r : List Bool). map (λ b. get_or r b false) w) own in
    push ∙ ap (λ (xs : List (List Bool)). xs ++ some ∷ []) before ∙ ap (λ (x : List Bool). map F (take i w) ++ x ∷ []) last
    ∙ sym (ap (map F) (take_more w i 0 lt) ∙ map-append F (take i w) (get_or w i 0 ∷ []))

pub kept_are : (parts : List Part) (asked : AskedRows) (w : List ℕ) (slice rows kept : List (List Bool)) → AreAskedRows parts asked
    → All (λ p. p < length parts) w → slice ≡ asked.rows
    → rows ≡ map (λ a. map (λ b. get_or (get_or slice a []) b false) w) w → kept ≡ rows → AreBlockingRows parts asked.d w kept
kept_are parts asked w slice rows kept is within same e kept_is =
    subst (AreBlockingRows parts asked.d w) (sym kept_is) (picked_are parts asked w rows is within
    (e ∙ ap (λ (rs : List (List Bool)). map (λ a. map (λ b. get_or (get_or rs a []) b false) w) w) same))

pub some_tells : (parts : List Part) (d : V3) (w : List ℕ) (rows : List (List Bool)) (answer : Option (List (List ℕ))) (sets : List (List ℕ))
    → answer ≡ Some sets
    → IfSome answer (λ ss. (ps : List Part) (e : V3) → e ≢ origin → AreBlockingRows ps e w rows → IsPeeling ps e w ss)
    → d ≢ origin → AreBlockingRows parts d w rows → IsPeeling parts d w sets
some_tells parts d w rows answer sets is tells moves are =
    let known : (ps : List Part) (e : V3) → e ≢ origin → AreBlockingRows ps e w rows → IsPeeling ps e w sets =
    subst (λ (o : Option (List (List ℕ))). IfSome o (λ ss. (ps : List Part) (e : V3) → e ≢ origin → AreBlockingRows ps e w rows → IsPeeling ps e w ss)) is tells in
    known parts d moves are
