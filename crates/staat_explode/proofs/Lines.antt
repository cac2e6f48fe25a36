-- The lines of the parts and of a scene, one more at a time.
use Rattle.std.proofs.Common.{◌≡◌, ℕ, zero, suc, ◌+◌, ◌<◌, ◌≤◌, List, [], ◌∷◌, ◌++◌}
use Rattle.std.proofs.Common.{take, drop, length, map, flat_map, get_or, All, ap, sym, subst, refl, ◌∙◌, arith, append-nil}
use Rattle.std.proofs.Common.{append_assoc, decimal, pos, Ok}
use Rattle.staat_model.specs.Lines.{spaced}
use Rattle.std.proofs.lemmas.List.{drop_more, take_more, take_all, length-take-le, length-map}
use Rattle.std.proofs.lemmas.List.Folds.{flat_map-map}
use Rattle.std.proofs.lemmas.List.Elements.{All-append, All-head, All-nil, All-tail, All-weaker}
use Rattle.std.proofs.lemmas.Grind.{flat_map-append}
use Rattle.std.proofs.Common.{length-append}
use Rattle.staat_vec.specs.declared.vector.V3.{V3}
use Rattle.staat_vec.specs.declared.vector.TheConstants.{POINT}
use Rattle.staat_vec.specs.Vectors.{IsWithin, plus}
use Rattle.staat_off.specs.Raws.{HasCorners, IsCounted, IsIndexed}
use Rattle.staat_off.specs.Reading.{reading}
use Rattle.staat_explode.specs.declared.scene.Solid.{Solid}
use Rattle.staat_explode.specs.declared.sheet.Sheet.{Sheet}
use Rattle.staat_explode.specs.Scenes.{corner_text, face_line, faces_behind, off_text, placed_points, count_of_points}
use Rattle.staat_explode.specs.Scenes.{point_line, points_of_scene, scene_of, shift_at}
use Rattle.staat_explode.specs.Sheets.{AddsText, Keeps}
use Rattle.staat_explode.specs.ShiftTexts.{shift_lines_from, shift_line}
use Rattle.staat_explode.proofs.Rereading.{reading_again}
use Rattle.staat_vec.proofs.ListLaws.{All-map}

lines_push : (k : ℕ) (vs : List V3) (v : V3) → shift_lines_from k (vs ++ v ∷ []) ≡ shift_lines_from k vs
    ++ shift_line (k + length vs) v
lines_push k [] v = append-nil (shift_line k v) ∙ ap (λ n. shift_line n v) (omega arith)
lines_push k (first ∷ vs) v =
    ap (λ t. shift_line k first
    ++ t) (lines_push (k + 1) vs v ∙ ap (λ n. shift_lines_from (k + 1) vs ++ shift_line n v) (omega arith))
    ∙ sym (append_assoc (shift_line k first) (shift_lines_from (k + 1) vs) (shift_line (k + length (first ∷ vs)) v))

pub lines_more : (vs : List V3) (k : ℕ) (d : V3) → k < length vs → shift_lines_from 0 (take (k + 1) vs)
    ≡ shift_lines_from 0 (take k vs) ++ shift_line k (get_or vs k d)
lines_more vs k d lt =
    ap (shift_lines_from 0) (take_more vs k d lt)
    ∙ lines_push 0 (take k vs) (get_or vs k d)
    ∙ ap (λ n. shift_lines_from 0 (take k vs)
    ++ shift_line n (get_or vs k d)) (omega (arith, length-take-le k vs (omega arith)))

-- ---- the corners of a scene's faces are the numbers of its points

abbrev AreBelow : ℕ → List ℕ → Type 0
AreBelow n ks = All (λ k. k < n) ks

raised : (before n m : ℕ) (ks : List ℕ) → before + n ≤ m → AreBelow n ks
    → AreBelow m (map (λ k. before + k) ks)
raised before n m ks le h =
    All-map (λ k. before + k) (λ k. k < m) ks (All-weaker (λ k. k < n) (λ k. before + k < m) (λ k lt. omega arith) ks h)

pub points_counted : (solids : List Solid) (shifts : List V3) → length (points_of_scene solids shifts)
    ≡ count_of_points solids
points_counted [] shifts = refl
points_counted (s ∷ ss) shifts =
    omega (arith, length-append (placed_points shifts s) (points_of_scene ss shifts), length-map s.raw.points (λ p. plus (plus p s.at) (shift_at shifts s.part)), points_counted ss shifts)

corners_below : (before m : ℕ) (solids : List Solid) → before + count_of_points solids ≤ m → All (λ s. IsIndexed s.raw) solids
    → All (AreBelow m) (faces_behind before solids)
corners_below before m [] le h = All-nil (AreBelow m)
corners_below before m (s ∷ ss) le h =
    let n = length s.raw.points in
    let raise : ℕ → ℕ = λ corner. before + corner in
    All-append (AreBelow m) (map (map raise) s.raw.faces) (faces_behind (before + n) ss)
    (All-map (map raise) (AreBelow m) s.raw.faces
    (All-weaker (AreBelow n) (λ ks. AreBelow m (map raise ks)) (λ ks a. raised before n m ks (omega arith) a) s.raw.faces (All-head (λ (t : Solid). IsIndexed t.raw) s ss h).corners))
    (corners_below (before + n) m ss (omega arith) (All-tail (λ (t : Solid). IsIndexed t.raw) s ss h))

pub scene_again : (solids : List Solid) (shifts : List V3) → All (λ s. IsIndexed s.raw) solids
    → All (IsWithin POINT) (points_of_scene solids shifts) → IsCounted (scene_of solids shifts)
    → HasCorners (scene_of solids shifts) → reading 0 (off_text (scene_of solids shifts))
    ≡ Ok (scene_of solids shifts)
scene_again solids shifts indexed small counted corners =
    reading_again (scene_of solids shifts) (record {
      within = small;
      corners = corners_below 0 (length (points_of_scene solids shifts)) solids (omega (arith, points_counted solids shifts)) indexed;
    }) counted corners

-- ---- a face's line

corners_spaced : (before : ℕ) (ks : List ℕ) → flat_map (λ corner. corner_text (before + corner)) ks ++ 10 ∷ []
    ≡ spaced (map pos (map (λ corner. before + corner) ks))
corners_spaced before [] = refl
corners_spaced before (k ∷ ks) =
    append_assoc (corner_text (before + k)) (flat_map (λ corner. corner_text (before + corner)) ks) (10 ∷ [])
    ∙ ap (λ l. corner_text (before + k) ++ l) (corners_spaced before ks)

pub corners_all : (before n : ℕ) (ks : List ℕ) → length ks ≤ n
    → (decimal (length ks) ++ flat_map (λ corner. corner_text (before + corner)) (take n ks)) ++ 10 ∷ []
    ≡ face_line (map (λ corner. before + corner) ks)
corners_all before n ks all =
    let text = flat_map (λ corner. corner_text (before + corner)) in
    ap (λ l. (decimal (length ks) ++ text l) ++ 10 ∷ []) (take_all n ks all)
    ∙ append_assoc (decimal (length ks)) (text ks) (10 ∷ [])
    ∙ ap (λ l. decimal (length ks) ++ l) (corners_spaced before ks)
    ∙ ap (λ m. decimal m ++ spaced (map pos (map (λ corner. before + corner) ks))) (sym (length-map ks (λ corner. before + corner)))

-- ---- lines behind lines

pub adds_none : (a : Sheet) → AddsText a a []
adds_none a text h = subst (Keeps a) (sym (append-nil text)) h

pub adds_then : (a b c : Sheet) (x y z : List ℕ) → x ++ y ≡ z → AddsText a b x → AddsText b c y → AddsText a c z
adds_then a b c x y z e first second text h =
    subst (Keeps c) (append_assoc text x y ∙ ap (λ r. text ++ r) e) (second (text ++ x) (first text h))

pub line_more : {X : Type 0} (line : X → List ℕ) (xs : List X) (i : ℕ) (d : X) → i < length xs
    → flat_map line (take i xs) ++ line (get_or xs i d) ≡ flat_map line (take (i + 1) xs)
line_more line xs i d lt =
    ap (λ l. flat_map line (take i xs) ++ l) (sym (append-nil (line (get_or xs i d))))
    ∙ sym (flat_map-append line (take i xs) (get_or xs i d ∷ []))
    ∙ ap (flat_map line) (sym (take_more xs i d lt))

-- ---- solids, one more at a time

shift_there : (shifts : List V3) (part : ℕ) (d : V3) → part < length shifts → get_or shifts part d
    ≡ shift_at shifts part
shift_there [] part d lt = absurd (omega arith)
shift_there (v ∷ vs) zero d lt = refl
shift_there (v ∷ vs) (suc n) d lt = shift_there vs n d (omega arith)

-- the solid at a place, before those that are left
left : (solids : List Solid) (i : ℕ) (s e : Solid) → i < length solids → s ≡ get_or solids i e
    → s ∷ drop (i + 1) solids ≡ drop i solids
left solids i s e lt at = ap (λ (t : Solid). t ∷ drop (i + 1) solids) at ∙ sym (drop_more solids i e lt)

pub points_left : (solids : List Solid) (i : ℕ) (s e : Solid) → i < length solids → s ≡ get_or solids i e
    → length s.raw.points + count_of_points (drop (i + 1) solids) ≡ count_of_points (drop i solids)
points_left solids i s e lt at = ap count_of_points (left solids i s e lt at)

pub faces_left : (before : ℕ) (solids : List Solid) (i : ℕ) (s e : Solid) → i < length solids → s ≡ get_or solids i e
    → length s.raw.faces + length (faces_behind (before + length s.raw.points) (drop (i + 1) solids))
    ≡ length (faces_behind before (drop i solids))
faces_left before solids i s e lt at =
    let own = map (map (λ corner. before + corner)) s.raw.faces in
    let rest = faces_behind (before + length s.raw.points) (drop (i + 1) solids) in
    omega (arith, length-append own rest, length-map s.raw.faces (map (λ corner. before + corner)), ap (λ l. length (faces_behind before l)) (left solids i s e lt at))

pub points_then : (shifts : List V3) (solids : List Solid) (i : ℕ) (s e : Solid) (d : V3) → i < length solids
    → s ≡ get_or solids i e → s.part < length shifts
    → flat_map (λ p. point_line (plus (plus p s.at) (get_or shifts s.part d))) s.raw.points
    ++ flat_map point_line (points_of_scene (drop (i + 1) solids) shifts)
    ≡ flat_map point_line (points_of_scene (drop i solids) shifts)
points_then shifts solids i s e d lt at part =
    let rest = points_of_scene (drop (i + 1) solids) shifts in
    ap (λ v. flat_map (λ p. point_line (plus (plus p s.at) v)) s.raw.points ++ flat_map point_line rest) (shift_there shifts s.part d part)
    ∙ ap (λ l. l ++ flat_map point_line rest) (sym (flat_map-map point_line (λ p. plus (plus p s.at) (shift_at shifts s.part)) s.raw.points))
    ∙ sym (flat_map-append point_line (placed_points shifts s) rest)
    ∙ ap (λ (l : List Solid). flat_map point_line (points_of_scene l shifts)) (left solids i s e lt at)

pub faces_then : (before : ℕ) (solids : List Solid) (i : ℕ) (s e : Solid) → i < length solids → s ≡ get_or solids i e
    → flat_map (λ face. face_line (map (λ corner. before + corner) face)) s.raw.faces
    ++ flat_map face_line (faces_behind (before + length s.raw.points) (drop (i + 1) solids))
    ≡ flat_map face_line (faces_behind before (drop i solids))
faces_then before solids i s e lt at =
    let rest = faces_behind (before + length s.raw.points) (drop (i + 1) solids) in
    ap (λ l. l ++ flat_map face_line rest) (sym (flat_map-map face_line (map (λ corner. before + corner)) s.raw.faces))
    ∙ sym (flat_map-append face_line (map (map (λ corner. before + corner)) s.raw.faces) rest)
    ∙ ap (λ (l : List Solid). flat_map face_line (faces_behind before l)) (left solids i s e lt at)
