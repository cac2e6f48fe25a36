-- What is read in the text of points and faces: those points and faces.
use Rattle.std.proofs.Common.{◌≡◌, ℕ, ◌+◌, ◌^◌, ◌<◌, ◌≤◌, Bool, true, List, []}
use Rattle.std.proofs.Common.{◌∷◌, ◌++◌, map, length, All, ap, sym, subst, refl, ◌∙◌, arith, decimal}
use Rattle.std.proofs.Common.{append-nil, ℤ, pos, unsigned_abs, Some, None, Ok, Err, append_assoc, flat_map}
use Rattle.std.specs.Prelude.{◌&&◌, nat_le, nat_lt, codes, if◌then◌else◌}
use Rattle.std.specs.Char.{is_ascii_digit}
use Rattle.std.specs.List.{list_all, prefix_len}
use Rattle.std.specs.Fmt.{signed_decimal}
use Rattle.std.specs.Str.Parse.{digits_value}
use Rattle.std.proofs.lemmas.Fmt.{length-decimal-le_wide}
use Rattle.std.proofs.lemmas.List.Elements.{All-head, All-tail}
use Rattle.staat_vec.specs.declared.vector.V3.{V3}
use Rattle.staat_vec.specs.declared.vector.TheConstants.{POINT}
use Rattle.staat_vec.specs.Vectors.{IsWithin}
use Rattle.staat_model.specs.Lines.{spaced}
use Rattle.staat_off.specs.declared.raw.Raw.{Raw}
use Rattle.staat_limits.specs.declared.limits.TheConstants.{MOST_COUNT}
use Rattle.staat_off.specs.declared.refusal.OffRefusal.{OffRefusal}
use Rattle.staat_off.specs.declared.refusal.OffRefusal.TheVariants.{BadCount, BadIndex, NoHeader}
use Rattle.staat_off.specs.Raws.{HasCorners, IsCounted, IsIndexed}
use Rattle.staat_off.specs.Readers.{Reader, ◌>>=◌, decided, many, refuse, resumed, return, value_in}
use Rattle.staat_off.specs.Coordinates.{coordinate_of}
use Rattle.staat_off.specs.Reading.{accepted, coordinate, corner_count, count, end, end_or_trailing, face, file}
use Rattle.staat_off.specs.Reading.{is_header, header, index, line_passed, point, reading, short_number, word}
use Rattle.staat_off.specs.Reading.{word_or_short}
use Rattle.staat_off.specs.Scan.{after_line, line_len, next_word}
use Rattle.staat_off.specs.Words.{Word, is_plain}
use Rattle.staat_explode.specs.Scenes.{face_line, numbers_line, off_text, point_line}
use Rattle.staat_explode.proofs.WordTexts.{IsPlainWord, coordinate_read, decimal_some, decimal_tested, no_word_left}
use Rattle.staat_explode.proofs.WordTexts.{plain_word, word_behind_blank, word_front}
use Rattle.std.proofs.lemmas.Bool.{and_from}
use Rattle.staat_vec.proofs.Naturals.{lt_test, le_test}
use Rattle.staat_vec.proofs.Decimals.{decimal_value}

-- from the bytes t a reader gives x and leaves u, wherever they stand in the file
abbrev Gets : {A : Type 0} → Reader A → List ℕ → A → List ℕ → Type 0
Gets r t x u =
    (at : ℕ) → (after : ℕ) × (r (record { bytes = t; at = at }) ≡ Ok (x, record { bytes = u; at = after }))

then_gets : {A B : Type 0} (r : Reader A) (next : A → Reader B) (t u v : List ℕ) (x : A) (y : B) → Gets r t x u
    → Gets (next x) u y v → Gets (r >>= next) t y v
then_gets r next t u v x y first second at =
    let p = first at in
    let q = second p.0 in
    (q.0, ap (λ z. resumed z next) p.1 ∙ q.1)

-- the same after a reader of nothing
passed_gets : {B : Type 0} (r : Reader (Unit {0})) (next : Reader B) (t u v : List ℕ) (y : B) → Gets r t tt u
    → Gets next u y v → Gets (r >>= (λ x. next)) t y v
passed_gets r next t u v y first second = then_gets r (λ x. next) t u v tt y first second

returned : {A : Type 0} (x : A) (t : List ℕ) → Gets (return x) t x t
returned x t at = (at, refl)

-- many values, from texts of which each holds one value more
many_gets : {A : Type 0} (r : Reader A) (text : List A → List ℕ) (P : A → Type 0)
    → ((x : A) (xs : List A) → P x → Gets r (text (x ∷ xs)) x (text xs)) → (xs : List A) → All P xs
    → Gets (many (length xs) r) (text xs) xs (text [])
unfolding many
many_gets r text P each [] all = returned [] (text [])
many_gets r text P each (x ∷ xs) all =
    then_gets r _ (text (x ∷ xs)) (text xs) (text []) x (x ∷ xs) (each x xs (All-head P x xs all))
    (then_gets (many (length xs) r) _ (text xs) (text []) (text []) xs (x ∷ xs)
    (many_gets r text P each xs (All-tail P x xs all)) (returned (x ∷ xs) (text [])))

-- what follows a word
abbrev IsParted : List ℕ → Type 0
IsParted s = prefix_len is_plain s ≡ 0

-- bytes that stand before a word and are passed over
abbrev IsPassed : List ℕ → Type 0
IsPassed g = (t : List ℕ) (at : ℕ) → next_word (record { bytes = g ++ t; at = at }) ≡ next_word (record { bytes = t; at = at + length g })

nothing : IsPassed []
nothing t at = let here : at ≡ at + 0 = omega arith in ap (λ k. next_word (record { bytes = t; at = k })) here

space : IsPassed (32 ∷ [])
space t at = word_behind_blank 32 t at refl refl

feed : IsPassed (10 ∷ [])
feed t at = word_behind_blank 10 t at refl refl

-- a word that is decided is read
field_gets : {A : Type 0} (f : Word → Reader A) (x : A) (g w s : List ℕ) → IsPassed g → IsPlainWord w → IsParted s
    → ((at : ℕ) → f (record { text = w; at = at }) ≡ return x) → Gets (word >>= f) (g ++ (w ++ s)) x s
unfolding word
field_gets {A = A} f x g w s passed h parted is at = (
  at + length g + length w,
  ap (λ found. resumed (word_or_short found.0 found.1) f) (passed (w ++ s) at ∙ word_front w s (at + length g) h.0 h.1 parted)
      ∙ ap (λ (r : Reader A). r (record { bytes = s; at = at + length g + length w })) (is (at + length g)),
)

-- ---- counts and indices

short_is : (n : ℕ) → n ≤ MOST_COUNT → short_number (decimal n) ≡ Some n
unfolding short_number
short_is n small =
    let wide : n < 10 ^ 64 = omega arith in
    let few = length-decimal-le_wide 7 n (omega arith) (omega arith) wide in
    let some = decimal_some n wide in
    tests (nat_lt 0 (length (decimal n))) (nat_le (length (decimal n)) 7) (list_all is_ascii_digit (decimal n)) (digits_value 10 (decimal n))
    (lt_test 0 (length (decimal n)) some) (le_test (length (decimal n)) 7 few) (decimal_tested n wide) (decimal_value n wide)
  where
    tests : (a b c : Bool) (v : ℕ) → a ≡ true → b ≡ true → c ≡ true → v ≡ n
        → (if a && (b && c) then Some v else None) ≡ Some n
    tests a b c v e f g h = grind arith

-- a number that passes a test is read
number_gets : (test : ℕ → Bool) (refusal : Word → OffRefusal) (g : List ℕ) (n : ℕ) (s : List ℕ)
    → IsPassed g → n ≤ MOST_COUNT → IsParted s → test n ≡ true
    → Gets (word >>= (λ w. accepted test (short_number w.text) (refusal w))) (g ++ (decimal n ++ s)) n s
number_gets test refusal g n s passed small parted passes =
    field_gets (λ w. accepted test (short_number w.text) (refusal w)) n g (decimal n) s passed (plain_word (pos n) (omega arith)) parted
    (λ at. ap (λ o. accepted test o (refusal (record { text = decimal n; at = at }))) (short_is n small)
    ∙ ap (λ (b : Bool). if b then return n else refuse (refusal (record { text = decimal n; at = at }))) passes)

count_gets : (g : List ℕ) (n : ℕ) (s : List ℕ) → IsPassed g → n ≤ MOST_COUNT → IsParted s
    → Gets count (g ++ (decimal n ++ s)) n s
unfolding count
count_gets g n s passed small parted = number_gets (λ n. nat_le n MOST_COUNT) (λ w. BadCount w.at) g n s passed small parted (le_test n MOST_COUNT small)

-- ---- coordinates

coordinate_gets : (g : List ℕ) (z : ℤ) (s : List ℕ) → IsPassed g → unsigned_abs z ≤ POINT → IsParted s
    → Gets (coordinate 0) (g ++ (signed_decimal z ++ s)) z s
unfolding coordinate
coordinate_gets g z s passed small parted =
    field_gets (λ w. decided (coordinate_of 0 w)) z g (signed_decimal z) s passed (plain_word z (omega arith)) parted (λ at. ap decided (coordinate_read z at small))

parted_spaced : (zs : List ℤ) (t : List ℕ) → IsParted (spaced zs ++ t)
parted_spaced [] t = refl
parted_spaced (z ∷ zs) t = refl

-- ---- points

point_gets : (p : V3) (t : List ℕ) → IsWithin POINT p → Gets (point 0) (10 ∷ (point_line p ++ t)) p (10 ∷ t)
unfolding point
point_gets p t small =
    let third : List ℕ = 10 ∷ t in
    let second : List ℕ = signed_decimal p.z ++ third in
    let first : List ℕ = signed_decimal p.y ++ (32 ∷ second) in
    let bytes : 10 ∷ (signed_decimal p.x
    ++ (32 ∷ (signed_decimal p.y ++ (32 ∷ (signed_decimal p.z ++ (10 ∷ t))))))
    ≡ 10 ∷ (point_line p ++ t) = simp append_assoc in
    subst (λ l. Gets (point 0) l p (10 ∷ t)) bytes
    (then_gets (coordinate 0) _ _ (32 ∷ first) (10 ∷ t) p.x p
    (coordinate_gets (10 ∷ []) p.x (32 ∷ first) feed small.x refl)
    (then_gets (coordinate 0) _ _ (32 ∷ second) (10 ∷ t) p.y p
    (coordinate_gets (32 ∷ []) p.y (32 ∷ second) space small.y refl)
    (then_gets (coordinate 0) _ _ third (10 ∷ t) p.z p
    (coordinate_gets (32 ∷ []) p.z third space small.z refl)
    (returned p (10 ∷ t)))))

points_get : (ps : List V3) (t : List ℕ) → All (IsWithin POINT) ps
    → Gets (many (length ps) (point 0)) (10 ∷ (flat_map point_line ps ++ t)) ps (10 ∷ t)
points_get ps t small = many_gets (point 0) (λ ps. 10 ∷ (flat_map point_line ps ++ t)) (IsWithin POINT)
    (λ p ps within. subst (λ l. Gets (point 0) (10 ∷ l) p (10 ∷ (flat_map point_line ps ++ t)))
    (sym (append_assoc (point_line p) (flat_map point_line ps) t))
    (point_gets p (flat_map point_line ps ++ t) within)) ps small

-- ---- faces

indices_get : (vertices : ℕ) (ks : List ℕ) (t : List ℕ) → vertices ≤ MOST_COUNT
    → All (λ k. k < vertices) ks
    → Gets (many (length ks) (index vertices)) (spaced (map pos ks) ++ t) ks (10 ∷ t)
unfolding index
indices_get vertices ks t small all = many_gets (index vertices) (λ ks. spaced (map pos ks) ++ t) (λ k. k < vertices)
    (λ k ks lt. subst (λ l. Gets (index vertices) (32 ∷ l) k (spaced (map pos ks) ++ t))
    (sym (append_assoc (decimal k) (spaced (map pos ks)) t))
    (number_gets (λ n. nat_lt n vertices) (λ w. BadIndex w.at) (32 ∷ []) k (spaced (map pos ks) ++ t) space (omega arith) (parted_spaced (map pos ks) t) (lt_test k vertices lt))) ks all

line_gets : (t : List ℕ) → Gets line_passed (10 ∷ t) tt t
unfolding after_line line_len
line_gets t at = (at + 1, refl)

-- what a face must be
pub record IsFaceOf (vertices : ℕ) (ks : List ℕ) : Type 0 where
  pub some : 1 ≤ length ks
  pub few : length ks ≤ MOST_COUNT
  pub corners : All (λ k. k < vertices) ks

face_gets : (vertices : ℕ) (g ks t : List ℕ) → IsPassed g → vertices ≤ MOST_COUNT → IsFaceOf vertices ks
    → Gets (face vertices) (g ++ (face_line ks ++ t)) ks t
unfolding face corner_count
face_gets vertices g ks t passed small h =
    let bytes : decimal (length ks) ++ (spaced (map pos ks) ++ t) ≡ face_line ks ++ t =
    sym (append_assoc (decimal (length ks)) (spaced (map pos ks)) t) in
    subst (λ l. Gets (face vertices) (g ++ l) ks t) bytes
    (then_gets corner_count _ _ (spaced (map pos ks) ++ t) t (length ks) ks
    (number_gets (λ n. nat_le 1 n && nat_le n MOST_COUNT) (λ w. BadCount w.at) g (length ks) (spaced (map pos ks) ++ t) passed h.few (parted_spaced (map pos ks) t)
    (and_from (nat_le 1 (length ks)) (nat_le (length ks) MOST_COUNT) (le_test 1 (length ks) h.some) (le_test (length ks) MOST_COUNT h.few)))
    (then_gets (many (length ks) (index vertices)) _ _ (10 ∷ t) t ks ks
    (indices_get vertices ks t small h.corners)
    (passed_gets line_passed (return ks) _ t t ks (line_gets t) (returned ks t))))

-- what is left behind the faces is passed over: where there is no face, the line feed of the last point
faces_get : (vertices : ℕ) (g : List ℕ) (fs : List (List ℕ)) → IsPassed g → vertices ≤ MOST_COUNT
    → All (IsFaceOf vertices) fs
    → (u : List ℕ) × IsPassed u × Gets (many (length fs) (face vertices)) (g ++ flat_map face_line fs) fs u
unfolding many
faces_get vertices g [] passed small all =
    (g, passed, subst (λ l. Gets {A = List (List ℕ)} (return []) l [] g) (sym (append-nil g)) (returned [] g))
faces_get vertices g (f ∷ fs) passed small all =
    let rest = faces_get vertices [] fs nothing small (All-tail (IsFaceOf vertices) f fs all) in (
      rest.0,
      rest.1,
      then_gets (face vertices) _ (g ++ (face_line f ++ flat_map face_line fs)) (flat_map face_line fs) rest.0 f (f ∷ fs)
          (face_gets vertices g f (flat_map face_line fs) passed small (All-head (IsFaceOf vertices) f fs all))
          (then_gets (many (length fs) (face vertices)) _ _ rest.0 rest.0 fs (f ∷ fs) rest.2 (returned (f ∷ fs) rest.0)),
    )

end_gets : (u : List ℕ) → IsPassed u → Gets end u tt []
unfolding end
end_gets u passed at = (
  at + length u,
  ap (λ found. end_or_trailing found.0 found.1) (ap (λ l. next_word (record { bytes = l; at = at })) (sym (append-nil u)) ∙ passed [] at ∙ no_word_left (at + length u)),
)

-- ---- the file

header_gets : (t : List ℕ) → Gets header (codes "OFF\n" ++ t) tt (10 ∷ t)
unfolding header
header_gets t at =
    (at + 3, ap (λ found. if is_header found.0 then Ok (tt, found.1) else Err NoHeader) (word_front (codes "OFF") (10 ∷ t) at refl (omega arith) refl))

faces_are : (raw : Raw) → IsIndexed raw → IsCounted raw → HasCorners raw
    → All (IsFaceOf (length raw.points)) raw.faces
faces_are raw indexed counted corners =
    λ k d lt. record { some = corners k d lt; few = counted.corners k d lt; corners = indexed.corners k d lt }

file_gets : (raw : Raw) → IsIndexed raw → IsCounted raw → HasCorners raw → Gets (file 0) (off_text raw) raw []
unfolding file off_text
file_gets raw indexed counted corners =
    let v = length raw.points in
    let f = length raw.faces in
    let faces : List ℕ = flat_map face_line raw.faces in
    let points : List ℕ = flat_map point_line raw.points ++ faces in
    let edges : List ℕ = decimal 0 ++ (10 ∷ points) in
    let others : List ℕ = decimal f ++ (32 ∷ edges) in
    let lists = faces_get v (10 ∷ []) raw.faces feed counted.points (faces_are raw indexed counted corners) in
    let bytes : codes "OFF\n" ++ (decimal v ++ (32 ∷ others)) ≡ codes "OFF\n"
    ++ (numbers_line (pos v) (pos f ∷ pos 0 ∷ []) ++ points) = simp append_assoc in
    subst (λ l. Gets (file 0) l raw []) bytes
    (passed_gets header _ _ (10 ∷ (decimal v ++ (32 ∷ others))) [] raw (header_gets (decimal v ++ (32 ∷ others)))
    (then_gets count _ _ (32 ∷ others) [] v raw (count_gets (10 ∷ []) v (32 ∷ others) feed counted.points refl)
    (then_gets count _ _ (32 ∷ edges) [] f raw (count_gets (32 ∷ []) f (32 ∷ edges) space counted.faces refl)
    (then_gets count _ _ (10 ∷ points) [] 0 raw (count_gets (32 ∷ []) 0 (10 ∷ points) space (omega arith) refl)
    (then_gets (many v (point 0)) _ _ (10 ∷ faces) [] raw.points raw (points_get raw.points faces indexed.within)
    (then_gets (many f (face v)) _ _ lists.0 [] raw.faces raw lists.2
    (passed_gets end _ _ [] [] raw (end_gets lists.0 lists.1)
    (returned raw []))))))))

-- reading the text gives the points and faces that were written
pub reading_again : (raw : Raw) → IsIndexed raw → IsCounted raw → HasCorners raw → reading 0 (off_text raw)
    ≡ Ok raw
unfolding reading
reading_again raw indexed counted corners = ap value_in (file_gets raw indexed counted corners 0).1
