-- The pieces of parts and their shadows, by their places.
use Rattle.std.proofs.Common.{◌≡◌, ◌∙◌, ◌↔◌, Bool, false, ℕ, zero, suc, ◌+◌, ◌<◌, ◌≤◌, All, Contains, List, [], ◌∷◌, length, get_or, below_more, ap, subst, sym, refl, arith}
use Rattle.std.specs.Prelude.{Any, IsTrue, Some, flat_map, slice_get}
use Rattle.std.specs.List.{AllZip}
use Rattle.std.proofs.lemmas.List.{get_or_default}
use Rattle.std.proofs.lemmas.List.Concat.{flat_map-cons}
use Rattle.std.proofs.lemmas.List.Elements.{All-cons, All-contains, All-contains_itself, All-head, All-nil, All-tail}
use Rattle.std.proofs.lemmas.Option.{get_or_from_slice_get, slice_get-get_or}
use Rattle.staat_vec.specs.declared.vector.V3.{V3}
use Rattle.staat_vec.specs.Vectors.{negative}
use Rattle.staat_model.specs.declared.assembly.Part.{Part}
use Rattle.staat_model.specs.declared.certificate.Arc.{Arc}
use Rattle.staat_model.specs.Assemblies.{HoldsAt, IsPart, piece_at, piece_count}
use Rattle.staat_model.specs.Facets.{IsFacet}
use Rattle.staat_model.specs.Meeting.{Meets}
use Rattle.staat_model.specs.Pieces.{IsPiece}
use Rattle.staat_model.specs.Removal.{Blocks, MeetsAlong}
use Rattle.staat_model.proofs.Members.{all_back, all_front}
use Rattle.staat_model.proofs.Places.{place_within}
use Rattle.staat_model.proofs.Reversed.{meets_opposite_lemma}
use Rattle.staat_motion.specs.declared.frame.Frame.{Frame}
use Rattle.staat_motion.specs.declared.shadow.Shadow.{Shadow}
use Rattle.staat_motion.specs.Motions.{HasFacets, HasBothPieces, HasShadows, IsMotion, Motion, IsMotionOf, pieces_of_body, points_of_body, shadow_at, shadow_count, turned}
use Rattle.staat_motion.specs.Shadows.{ArePartShadows, AreWholes, IsApartAlong, IsBody, IsSeenApart, IsShadow, IsWholeOf, part_points}
use Rattle.staat_motion.proofs.Walls.{apart_is, seen_never, seen_within}
use Rattle.staat_motion.proofs.Zips.{zip_back, zip_length}
use Rattle.staat_model.proofs.GraphLemmas.{piece_in as is_piece_at}
use Rattle.staat_vec.proofs.Options.{some_injective}

-- ---- one piece

pub piece_from_shadow : (f : Frame) (parts : List Part) (shadows : List (List Shadow)) (a i : ℕ) (s : Shadow) → ArePartShadows f parts shadows → shadow_at shadows a i ≡ Some s
    → (p : List V3) × (piece_at parts a i ≡ Some p) × IsShadow f p s
piece_from_shadow f [] [] a i s z e = absurd cc
piece_from_shadow f [] (ss ∷ shadows) a i s z e = absurd z
piece_from_shadow f (part ∷ parts) [] a i s z e = absurd z
piece_from_shadow f (part ∷ parts) (ss ∷ shadows) zero i s z e = zip_back (IsShadow f) part.pieces ss i s z.0 e
piece_from_shadow f (part ∷ parts) (ss ∷ shadows) (suc a) i s z e = piece_from_shadow f parts shadows a i s z.1 e

pub shadow_of_piece : (f : Frame) (parts : List Part) (shadows : List (List Shadow)) (a i : ℕ) (p : List V3) (s : Shadow) → ArePartShadows f parts shadows → piece_at parts a i ≡ Some p → shadow_at shadows a i ≡ Some s
    → IsShadow f p s
shadow_of_piece f parts shadows a i p s z is e =
    let (q, q_is, h) = piece_from_shadow f parts shadows a i s z e in
    subst (λ r. IsShadow f r s) (some_injective q p (sym q_is ∙ is)) h

-- ---- what is seen of two pieces

pub apart_at : (parts : List Part) (along : Motion) (arc : Arc) (s t : Shadow) (r : Bool) → IsMotion along.d along.frame → IsMotionOf parts along → shadow_at along.shadows arc.a arc.i ≡ Some s → shadow_at along.shadows arc.b arc.j ≡ Some t → IsTrue r ↔ IsApartAlong along.d s t
    → IsTrue r ↔ HoldsAt parts arc (λ p q. IsSeenApart along.frame p q along.d)
apart_at parts along arc s t r is made s_is t_is told = (
  (λ h.
      let (p, p_is, ps) = piece_from_shadow along.frame parts along.shadows arc.a arc.i s made.shadows s_is in
      let (q, q_is, qt) = piece_from_shadow along.frame parts along.shadows arc.b arc.j t made.shadows t_is in
      record { p = p; q = q; p_is = p_is; q_is = q_is; holds = (apart_is along.frame along.d p q s t is.across ps qt).0 (told.0 h) }),
  (λ at.
      let ps = shadow_of_piece along.frame parts along.shadows arc.a arc.i at.p s made.shadows at.p_is s_is in
      let qt = shadow_of_piece along.frame parts along.shadows arc.b arc.j at.q t made.shadows at.q_is t_is in
      told.1 ((apart_is along.frame along.d at.p at.q s t is.across ps qt).1 at.holds)),
)

pub apart_never : (parts : List Part) (along : Motion) (arc : Arc) → IsMotionOf parts along → HoldsAt parts arc (λ p q. IsSeenApart along.frame p q along.d) → MeetsAlong parts along.d arc → ⊥
apart_never parts along arc made seen meets =
    let p_same = some_injective meets.p seen.p (sym meets.p_is ∙ seen.p_is) in
    let q_same = some_injective meets.q seen.q (sym meets.q_is ∙ seen.q_is) in
    seen_never along.frame seen.p seen.q along.d (is_piece_at parts arc.a arc.i seen.p made.parts_are seen.p_is) seen.holds (subst (λ p. Meets p seen.q along.d) p_same (subst (λ q. Meets meets.p q along.d) q_same meets.holds))

-- ---- whole parts

whole_at : (f : Frame) (parts : List Part) (wholes : List Shadow) (a : ℕ) (w : Shadow) → AreWholes f parts wholes → slice_get wholes a ≡ Some w → IsShadow f (points_of_body parts a) w
whole_at f [] [] a w z e = absurd cc
whole_at f [] (u ∷ wholes) a w z e = absurd z
whole_at f (part ∷ parts) [] a w z e = absurd z
whole_at f (part ∷ parts) (u ∷ wholes) zero w z e = subst (IsShadow f (points_of_body (part ∷ parts) zero)) (some_injective u w e) z.0
whole_at f (part ∷ parts) (u ∷ wholes) (suc a) w z e = whole_at f parts wholes a w z.1 e

pub parts_apart_at : (parts : List Part) (along : Motion) (a b : ℕ) (s t : Shadow) (r : Bool) → IsMotion along.d along.frame → IsMotionOf parts along → slice_get along.wholes a ≡ Some s → slice_get along.wholes b ≡ Some t
    → IsTrue r ↔ IsApartAlong along.d s t → IsTrue r ↔ IsSeenApart along.frame (points_of_body parts a) (points_of_body parts b) along.d
parts_apart_at parts along a b s t r is made s_is t_is told =
    let law = apart_is along.frame along.d (points_of_body parts a) (points_of_body parts b) s t is.across
    (whole_at along.frame parts along.wholes a s made.wholes s_is) (whole_at along.frame parts along.wholes b t made.wholes t_is) in
    ((λ h. law.0 (told.0 h)), (λ h. told.1 (law.1 h)))

all_of_piece : (F : V3 → Type 0) (pieces : List (List V3)) (i : ℕ) (p : List V3) → All F (flat_map (λ q. q) pieces) → slice_get pieces i ≡ Some p → All F p
all_of_piece F [] i p all e = absurd cc
all_of_piece F (q ∷ pieces) zero p all e = subst (All F) (some_injective q p e) (all_front F q (flat_map (λ q. q) pieces) (subst (All F) (flat_map-cons (λ q. q) q pieces) all))
all_of_piece F (q ∷ pieces) (suc i) p all e = all_of_piece F pieces i p (all_back F q (flat_map (λ q. q) pieces) (subst (All F) (flat_map-cons (λ q. q) q pieces) all)) e

all_at : (F : V3 → Type 0) (parts : List Part) (a i : ℕ) (p : List V3) → All F (points_of_body parts a) → piece_at parts a i ≡ Some p → All F p
all_at F [] a i p all e = absurd cc
all_at F (part ∷ parts) zero i p all e = all_of_piece F part.pieces i p all e
all_at F (part ∷ parts) (suc a) i p all e = all_at F parts a i p all e

pub parts_never : (parts : List Part) (along : Motion) (a b : ℕ) → IsMotionOf parts along → IsSeenApart along.frame (points_of_body parts a) (points_of_body parts b) along.d → Blocks parts along.d a b → ⊥
parts_never parts along a b made seen blocked =
    let at = blocked.meets in
    let p_in = λ (x : V3) (h : Contains at.p x). All-contains (Contains (points_of_body parts a)) at.p x (all_at (Contains (points_of_body parts a)) parts a blocked.i at.p (All-contains_itself (points_of_body parts a)) at.p_is) h in
    let q_in = λ (x : V3) (h : Contains at.q x). All-contains (Contains (points_of_body parts b)) at.q x (all_at (Contains (points_of_body parts b)) parts b blocked.j at.q (All-contains_itself (points_of_body parts b)) at.q_is) h in
    seen_never along.frame at.p at.q along.d (is_piece_at parts a blocked.i at.p made.parts_are at.p_is)
    (seen_within along.frame (points_of_body parts a) (points_of_body parts b) at.p at.q along.d p_in q_in seen) at.holds

-- ---- a piece and a whole part

pub piece_apart_at : (parts : List Part) (along : Motion) (a i b : ℕ) (p : List V3) (s t : Shadow) (r : Bool) → IsMotion along.d along.frame → IsMotionOf parts along → piece_at parts a i ≡ Some p → shadow_at along.shadows a i ≡ Some s → slice_get along.wholes b ≡ Some t
    → IsTrue r ↔ IsApartAlong along.d s t → IsTrue r ↔ IsSeenApart along.frame p (points_of_body parts b) along.d
piece_apart_at parts along a i b p s t r is made p_is s_is t_is told =
    let law = apart_is along.frame along.d p (points_of_body parts b) s t is.across
    (shadow_of_piece along.frame parts along.shadows a i p s made.shadows p_is s_is) (whole_at along.frame parts along.wholes b t made.wholes t_is) in
    ((λ h. law.0 (told.0 h)), (λ h. told.1 (law.1 h)))

pub piece_never : (parts : List Part) (along : Motion) (arc : Arc) (meets : MeetsAlong parts along.d arc) → IsMotionOf parts along → IsSeenApart along.frame meets.p (points_of_body parts arc.b) along.d → ⊥
piece_never parts along arc meets made seen =
    let whole = points_of_body parts arc.b in
    let q_in = λ (x : V3) (h : Contains meets.q x). All-contains (Contains whole) meets.q x (all_at (Contains whole) parts arc.b arc.j meets.q (All-contains_itself whole) meets.q_is) h in
    seen_never along.frame meets.p meets.q along.d (is_piece_at parts arc.a arc.i meets.p made.parts_are meets.p_is)
    (seen_within along.frame meets.p whole meets.p meets.q along.d (λ x h. h) q_in seen) meets.holds

-- each part has a piece, so that it has a shadow
pub some_shadow : (f : Frame) (parts : List Part) (shadows : List (List Shadow)) → All IsPart parts → ArePartShadows f parts shadows → All (λ pieces. 1 ≤ length pieces) shadows
some_shadow f [] [] all z = All-nil (λ (pieces : List Shadow). 1 ≤ length pieces)
some_shadow f [] (s ∷ shadows) all z = absurd z
some_shadow f (part ∷ parts) [] all z = absurd z
some_shadow f (part ∷ parts) (s ∷ shadows) all z =
    let here = (All-head IsPart part parts all).nonempty in
    let same = zip_length (IsShadow f) part.pieces s z.0 in
    All-cons (λ (pieces : List Shadow). 1 ≤ length pieces) s shadows (omega (arith, here, same)) (some_shadow f parts shadows (All-tail IsPart part parts all) z.1)

pub wholes_are : (f : Frame) (parts : List Part) (shadows : List (List Shadow)) (wholes : List Shadow) → ArePartShadows f parts shadows → AllZip IsWholeOf shadows wholes → AreWholes f parts wholes
wholes_are f [] [] [] z w = tt
wholes_are f [] [] (u ∷ us) z w = absurd w
wholes_are f [] (s ∷ ss) us z w = absurd z
wholes_are f (part ∷ parts) [] us z w = absurd z
wholes_are f (part ∷ parts) (s ∷ ss) [] z w = absurd w
wholes_are f (part ∷ parts) (s ∷ ss) (u ∷ us) z w = (w.0 f part.pieces z.0, wholes_are f parts ss us z.1 w.1)

-- ---- counts

pub counts_are : (f : Frame) (parts : List Part) (shadows : List (List Shadow)) (a : ℕ) → ArePartShadows f parts shadows → piece_count parts a ≡ shadow_count shadows a
counts_are f [] [] a z = refl
counts_are f [] (ss ∷ shadows) a z = absurd z
counts_are f (part ∷ parts) [] a z = absurd z
counts_are f (part ∷ parts) (ss ∷ shadows) zero z = zip_length (IsShadow f) part.pieces ss z.0
counts_are f (part ∷ parts) (ss ∷ shadows) (suc a) z = counts_are f parts shadows a z.1

pub has_shadows : (parts : List Part) (along : Motion) (arc : Arc) → IsMotionOf parts along → HasBothPieces parts arc → HasShadows along arc
has_shadows parts along arc made has =
    let all = zip_length (λ (part : Part) (s : List Shadow). AllZip (IsShadow along.frame) part.pieces s) parts along.shadows made.shadows in
    let a_count = counts_are along.frame parts along.shadows arc.a made.shadows in
    let b_count = counts_are along.frame parts along.shadows arc.b made.shadows in record {
      a_in = omega (arith, has.a_in, all);
      i_in = omega (arith, has.i_in, a_count);
      b_in = omega (arith, has.b_in, all);
      j_in = omega (arith, has.j_in, b_count);
    }

-- ---- all pieces of a part

-- all points of a part are those of its pieces
points_are : (parts : List Part) (a : ℕ) (ps : List (List V3)) → pieces_of_body parts a ≡ Some ps → points_of_body parts a ≡ flat_map (λ p. p) ps
points_are [] a ps e = absurd cc
points_are (part ∷ parts) zero ps e = ap (λ (l : List (List V3)). flat_map (λ p. p) l) (some_injective part.pieces ps e)
points_are (part ∷ parts) (suc a) ps e = points_are parts a ps e

pub part_zip : (f : Frame) (parts : List Part) (shadows : List (List Shadow)) (a : ℕ) (ps : List (List V3)) (ss : List Shadow) → ArePartShadows f parts shadows → pieces_of_body parts a ≡ Some ps → slice_get shadows a ≡ Some ss
    → AllZip (IsShadow f) ps ss
part_zip f [] [] a ps ss z p s = absurd cc
part_zip f [] (t ∷ shadows) a ps ss z p s = absurd z
part_zip f (part ∷ parts) [] a ps ss z p s = absurd z
part_zip f (part ∷ parts) (t ∷ shadows) zero ps ss z p s = subst (λ u. AllZip (IsShadow f) u ss) (some_injective part.pieces ps p) (subst (AllZip (IsShadow f) part.pieces) (some_injective t ss s) z.0)
part_zip f (part ∷ parts) (t ∷ shadows) (suc a) ps ss z p s = part_zip f parts shadows a ps ss z.1 p s

pub body_at : (parts : List Part) (along : Motion) (a : ℕ) (ps : List (List V3)) (ss : List Shadow) (w : Shadow) → IsMotionOf parts along → pieces_of_body parts a ≡ Some ps → slice_get along.shadows a ≡ Some ss → slice_get along.wholes a ≡ Some w
    → IsBody along.frame ps ss w
body_at parts along a ps ss w made p s t = record {
  each = part_zip along.frame parts along.shadows a ps ss made.shadows p s;
  all = subst (λ (l : List V3). IsShadow along.frame l w) (points_are parts a ps p) (whole_at along.frame parts along.wholes a w made.wholes t);
}

piece_in : (parts : List Part) (a i : ℕ) (ps : List (List V3)) → pieces_of_body parts a ≡ Some ps → piece_at parts a i ≡ slice_get ps i
piece_in [] a i ps e = absurd cc
piece_in (part ∷ parts) zero i ps e = ap (λ l. slice_get l i) (some_injective part.pieces ps e)
piece_in (part ∷ parts) (suc a) i ps e = piece_in parts a i ps e

-- a part blocks another just where some piece of the one meets some piece of the other
pub blocks_is : (parts : List Part) (d : V3) (a b : ℕ) (ps qs : List (List V3)) → (a ≡ b → ⊥) → pieces_of_body parts a ≡ Some ps → pieces_of_body parts b ≡ Some qs
    → Any (λ p. Any (λ q. Meets p q d) qs) ps ↔ Blocks parts d a b
blocks_is parts d a b ps qs different p_at q_at = (
  (λ (i, p, i_lt, i_is, (j, q, j_lt, j_is, m)). record {
    i = i;
    j = j;
    different = different;
    meets = record {
      p = p;
      q = q;
      p_is = piece_in parts a i ps p_at ∙ slice_get-get_or ps i p i_lt ∙ ap Some i_is;
      q_is = piece_in parts b j qs q_at ∙ slice_get-get_or qs j q j_lt ∙ ap Some j_is;
      holds = m;
    };
  }),
  (λ h.
      let at = h.meets in
      let p_is : slice_get ps h.i ≡ Some at.p = sym (piece_in parts a h.i ps p_at) ∙ at.p_is in
      let q_is : slice_get qs h.j ≡ Some at.q = sym (piece_in parts b h.j qs q_at) ∙ at.q_is in (
        h.i,
        at.p,
        place_within ps h.i at.p p_is,
        get_or_from_slice_get ps h.i at.p at.p p_is,
        (h.j, at.q, place_within qs h.j at.q q_is, get_or_from_slice_get qs h.j at.q at.q q_is, at.holds),
      )),
)

-- what is seen apart from all points of some pieces meets none of them
pub apart_from_all : (f : Frame) (d : V3) (p : List V3) (qs : List (List V3)) → IsPiece p → IsSeenApart f p (flat_map (λ q. q) qs) d → Any (λ q. Meets p q d) qs → ⊥
apart_from_all f d p qs is_p seen (j, q, lt, e, m) =
    let whole = flat_map (λ q. q) qs in
    let q_is : slice_get qs j ≡ Some q = slice_get-get_or qs j q lt ∙ ap Some e in
    let q_in = λ (x : V3) (h : Contains q x). All-contains (Contains whole) q x (all_of_piece (Contains whole) qs j q (All-contains_itself whole) q_is) h in
    seen_never f p q d is_p (seen_within f p whole p q d (λ x h. h) q_in seen) m

-- ---- searches

-- what no element has, none has
pub none_any : {X : Type 0} (P : X → Type 0) (xs : List X) (n : ℕ) → n ≡ length xs → ((k : ℕ) (x : X) → k < n → get_or xs k x ≡ x → P x → ⊥) → IsTrue false ↔ Any P xs
none_any P xs n all none = ((λ t. absurd cc), (λ (k, x, lt, is, h). absurd (none k x (omega (arith, lt, all)) is h)))

-- one more element that does not have it
pub none_more : {X : Type 0} (P : X → Type 0) (xs : List X) (i : ℕ) (x : X) → i < length xs → x ≡ get_or xs i x → (P x → ⊥) → ((k : ℕ) (y : X) → k < i → get_or xs k y ≡ y → P y → ⊥) → (k : ℕ) (y : X) → k < i + 1 → get_or xs k y ≡ y → P y → ⊥
none_more P xs i x lt is not none k y =
    below_more (λ k. get_or xs k y ≡ y → P y → ⊥) i (λ k h. none k y h)
    (λ e h. not (subst P (sym e ∙ get_or_default xs i y x lt ∙ sym is) h)) k

-- what is known of two pieces is known of the arc
pub meets_at : (parts : List Part) (arc : Arc) (d : V3) (p q : List V3) (r : Bool) → piece_at parts arc.a arc.i ≡ Some p → piece_at parts arc.b arc.j ≡ Some q → IsTrue r ↔ Meets p q d → IsTrue r ↔ MeetsAlong parts d arc
meets_at parts arc d p q r p_is q_is told = (
  (λ h. record { p = p; q = q; p_is = p_is; q_is = q_is; holds = told.0 h }),
  (λ at.
      let p_same = some_injective at.p p (sym at.p_is ∙ p_is) in
      let q_same = some_injective at.q q (sym at.q_is ∙ q_is) in
      told.1 (subst (λ u. Meets u q d) p_same (subst (λ u. Meets at.p u d) q_same at.holds))),
)

-- what facets say of their pieces they say of the arc
pub facets_tell : (parts : List Part) (arc : Arc) (d : V3) (facets : List V3) (r : Bool) → All IsPart parts → ((p q : List V3) → IsPiece p → IsPiece q → ((n : V3) → Contains facets n ↔ IsFacet p q n) → IsTrue r ↔ Meets p q d)
    → HasFacets parts arc facets → IsTrue r ↔ MeetsAlong parts d arc
facets_tell parts arc d facets r all law at =
    meets_at parts arc d at.p at.q r at.p_is at.q_is
    (law at.p at.q (is_piece_at parts arc.a arc.i at.p all at.p_is) (is_piece_at parts arc.b arc.j at.q all at.q_is) (λ n. (at.holds.each n, at.holds.all n)))

pub turned_facets_tell : (parts : List Part) (arc : Arc) (d : V3) (facets : List V3) (r : Bool) → All IsPart parts → ((p q : List V3) → IsPiece p → IsPiece q → ((n : V3) → Contains facets n ↔ IsFacet p q n) → IsTrue r ↔ Meets p q (negative d))
    → HasFacets parts (turned arc) facets → IsTrue r ↔ MeetsAlong parts d arc
turned_facets_tell parts arc d facets r all law at =
    let told = law at.p at.q (is_piece_at parts arc.b arc.j at.p all at.p_is) (is_piece_at parts arc.a arc.i at.q all at.q_is) (λ n. (at.holds.each n, at.holds.all n)) in
    let other = meets_opposite_lemma at.p at.q d in
    meets_at parts arc d at.q at.p r at.q_is at.p_is ((λ t. other.0 (told.0 t)), (λ m. told.1 (other.1 m)))

pub parts_are : (parts : List Part) (along : Motion) → IsMotionOf parts along → length parts ≡ length along.shadows
parts_are parts along made = zip_length (λ (part : Part) (s : List Shadow). AllZip (IsShadow along.frame) part.pieces s) parts along.shadows made.shadows

-- each part has its own whole
pub wholes_count : (parts : List Part) (along : Motion) → IsMotionOf parts along → length parts ≡ length along.wholes
wholes_count parts along made = zip_length (λ (part : Part) (w : Shadow). IsShadow along.frame (part_points part) w) parts along.wholes made.wholes
