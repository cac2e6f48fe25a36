-- The definitions at small examples.
use Rattle.std.proofs.Common.{◌≡◌, ◌≢◌, ℕ, zero, suc, ◌+◌, ◌≤◌, ◌≤ℤ◌, Bool, true, List, [], ◌∷◌, map, length, All, Contains, ap, sym, subst, refl, rules, ℤ, pos, neg_ℤ, unsigned_abs, codes, lit<, lit≤, T, leb-true}
use Rattle.std.specs.Prelude.{Some, ◌&&◌, nat_le}
use Rattle.std.specs.List.Sorted.{IsStrictlySortedBy}
use Rattle.std.specs.List.{list_all}
use Rattle.std.specs.Int.Signed.{le_z}
use Rattle.std.proofs.lemmas.Fmt.{decimal_digit}
use Rattle.std.proofs.lemmas.List.Elements.{All-from_recursion, All-weaker}
use Rattle.std.proofs.lemmas.List.Sums.{AllPass-from_list_all}
use Rattle.staat_vec.specs.declared.vector.V3.{V3}
use Rattle.staat_vec.specs.declared.vector.TheConstants.{POINT}
use Rattle.staat_vec.specs.Vectors.{IsWithin, det, dot, minus, plus, vector, vector_cmp}
use Rattle.staat_vec.specs.Primitives.{primitive, content, canon}
use Rattle.staat_model.specs.declared.certificate.Node.TheVariants.{Leaf, Split}
use Rattle.staat_model.specs.declared.certificate.Body.TheVariants.{Plan}
use Rattle.staat_model.specs.declared.certificate.Certificate.{Certificate}
use Rattle.staat_model.specs.declared.line.Line.TheVariants as line
use Rattle.staat_model.specs.declared.assembly.Part.{Part}
use Rattle.staat_model.specs.Assemblies.{IsAssembly, IsPart, IsSound, piece_at}
use Rattle.staat_model.specs.Pieces.{IsPiece, IsSolid}
use Rattle.staat_model.specs.Meeting.{AreWeights, Meets}
use Rattle.staat_model.specs.Walls.{IsShown}
use Rattle.staat_model.specs.Planes.{axes, vertices}
use Rattle.staat_model.specs.Certificates.{walled_leaf}
use Rattle.staat_model.specs.Lines.{IsInBounds}
use Rattle.staat_limits.specs.Versions.{IsVersion}
use Rattle.staat_model.specs.Texts.{IsNodeInOrder, IsReading, IsWellFormed, lines_of, text_of, whole}
use Rattle.staat_model.proofs.WallLaws.{wall_keeps_apart}
use Rattle.staat_vec.proofs.Truth.{and_split}

abbrev pub v : ℤ → ℤ → ℤ → V3
v = vector

abbrev pub m : ℕ → ℤ
m n = neg_ℤ (pos n)

-- ---- vectors and vertices

fraction_reduced : primitive (v (pos 4) (m 6) (pos 0)) ≡ v (pos 2) (m 3) (pos 0)
unfolding primitive content
fraction_reduced = refl

already_primitive : primitive (v (m 2) (m 1) (m 1)) ≡ v (m 2) (m 1) (m 1)
unfolding primitive content
already_primitive = refl

turned_round : canon (v (pos 0) (m 2) (pos 3)) ≡ v (pos 0) (pos 2) (m 3)
unfolding canon
turned_round = refl

left_alone : canon (v (pos 0) (pos 0) (pos 5)) ≡ v (pos 0) (pos 0) (pos 5)
unfolding canon
left_alone = refl

-- the vertices of the three axes, in pair order
abbrev pub six : List V3
six = v (pos 0) (pos 0) (pos 1) ∷ v (pos 0) (pos 0) (m 1) ∷ v (pos 0) (m 1) (pos 0) ∷ v (pos 0) (pos 1) (pos 0) ∷ v (pos 1) (pos 0) (pos 0) ∷ v (m 1) (pos 0) (pos 0) ∷ []

pub axis_vertices : vertices axes ≡ six
unfolding primitive content
axis_vertices = refl

-- ---- two touching cubes

abbrev pub cube : List V3
cube = v (pos 0) (pos 0) (pos 0) ∷ v (pos 0) (pos 0) (pos 2) ∷ v (pos 0) (pos 2) (pos 0) ∷ v (pos 0) (pos 2) (pos 2) ∷ v (pos 2) (pos 0) (pos 0) ∷ v (pos 2) (pos 0) (pos 2) ∷ v (pos 2) (pos 2) (pos 0) ∷ v (pos 2) (pos 2) (pos 2) ∷ []

-- its neighbour in the direction of x
abbrev pub neighbour : List V3
neighbour = map (plus (v (pos 2) (pos 0) (pos 0))) cube

abbrev ones : List ℕ
ones = 1 ∷ 1 ∷ 1 ∷ 1 ∷ 1 ∷ 1 ∷ 1 ∷ 1 ∷ []

-- what a test shows of each element
pub by_test : {X : Type 0} (test : X → Bool) (P : X → Type 0) → ((x : X) → test x ≡ true → P x) → (xs : List X) → list_all test xs ≡ true → All P xs
by_test test P shows xs e = All-weaker (λ x. test x ≡ true) P shows xs (AllPass-from_list_all test xs e)

ones_are : (ps : List V3) → length ones ≡ length ps → AreWeights ones ps
ones_are ps e = record { one_each = e; positive = by_test (λ w. nat_le 1 w) (λ w. 1 ≤ w) (λ w h. leb-true 1 w h) ones refl }

-- the cube meets its neighbour along (1,0,0): their centers are at one place at the time 16/8
meets_ahead : Meets cube neighbour (v (pos 1) (pos 0) (pos 0))
meets_ahead = record {
  t = 16;
  meeting = record { a = ones; b = ones; a_weights = ones_are cube refl; b_weights = ones_are neighbour refl; same_sum = refl; same_place = refl };
}

-- four points in no plane make points solid
corner_solid : (ps : List V3) (a b c e : V3) → Contains ps a → Contains ps b → Contains ps c → Contains ps e → det (minus b a) (minus c a) (minus e a) ≢ pos 0 → IsSolid ps
corner_solid ps a b c e a_in b_in c_in e_in apart = record { a = a; b = b; c = c; e = e; a_in = a_in; b_in = b_in; c_in = c_in; e_in = e_in; apart = apart }

pub cube_solid : IsSolid cube
cube_solid = corner_solid cube (v (pos 0) (pos 0) (pos 0)) (v (pos 2) (pos 0) (pos 0)) (v (pos 0) (pos 2) (pos 0)) (v (pos 0) (pos 0) (pos 2))
    (0, lit< tt, refl) (4, lit< tt, refl) (2, lit< tt, refl) (1, lit< tt, refl) (λ h. cc)

-- whether the point keeps within the bound
abbrev keeps_within : ℕ → V3 → Bool
keeps_within bound p = nat_le (unsigned_abs p.x) bound && (nat_le (unsigned_abs p.y) bound && nat_le (unsigned_abs p.z) bound)

within_by_test : (bound : ℕ) (p : V3) → keeps_within bound p ≡ true → IsWithin bound p
within_by_test bound p e = let t = and_split _ _ e in let u = and_split _ _ t.1 in record { x = leb-true _ bound t.0; y = leb-true _ bound u.0; z = leb-true _ bound u.1 }

cube_ascends : IsStrictlySortedBy vector_cmp cube
unfolding IsStrictlySortedBy
cube_ascends = search rules

neighbour_ascends : IsStrictlySortedBy vector_cmp neighbour
unfolding IsStrictlySortedBy
neighbour_ascends = search rules

neighbour_solid : IsSolid neighbour
neighbour_solid = corner_solid neighbour (v (pos 2) (pos 0) (pos 0)) (v (pos 4) (pos 0) (pos 0)) (v (pos 2) (pos 2) (pos 0)) (v (pos 2) (pos 0) (pos 2))
    (0, lit< tt, refl) (4, lit< tt, refl) (2, lit< tt, refl) (1, lit< tt, refl) (λ h. cc)

pub cube_piece : IsPiece cube
cube_piece = record { ascending = cube_ascends; at_least = lit≤ tt; at_most = lit≤ tt; within = by_test (keeps_within POINT) (IsWithin POINT) (within_by_test POINT) cube refl; solid = cube_solid }

pub neighbour_piece : IsPiece neighbour
neighbour_piece = record { ascending = neighbour_ascends; at_least = lit≤ tt; at_most = lit≤ tt; within = by_test (keeps_within POINT) (IsWithin POINT) (within_by_test POINT) neighbour refl; solid = neighbour_solid }

-- one part of one piece is a sound assembly
pub one_part : (part : Part) (p : List V3) → part.pieces ≡ p ∷ [] → IsPiece p → IsAssembly (part ∷ [])
one_part part p e piece = record {
  at_least = lit≤ tt;
  at_most = lit≤ tt;
  each = All-from_recursion IsPart (part ∷ []) (record { nonempty = subst (λ (ps : List (List V3)). 1 ≤ length ps) (sym e) (lit≤ tt); pieces = subst (All IsPiece) (sym e) (All-from_recursion IsPiece (p ∷ []) (piece, tt)) }, tt);
  pieces = subst (λ (ps : List (List V3)). 0 + length ps ≤ 64) (sym e) (lit≤ tt);
}

pub one_part_sound : (part : Part) → IsSound (part ∷ [])
one_part_sound part arc different h = both_first arc.a arc.b different h.p_is h.q_is
  where
    both_first : (a b : ℕ) → a ≢ b → piece_at (part ∷ []) a arc.i ≡ Some h.p → piece_at (part ∷ []) b arc.j ≡ Some h.q → ⊥
    both_first zero zero ne e f = ne refl
    both_first zero (suc b) ne e f = cc
    both_first (suc a) b ne e f = cc

wall_between : IsShown cube neighbour (v (pos 0) (pos 0) (pos 1)) (v (pos 1) (pos 0) (pos 0))
wall_between = record {
  wall = λ h. let wrong : pos 1 ≡ pos 0 = ap (λ (n : V3). n.x) h in cc;
  beyond = by_test (λ a. list_all (λ b. le_z (pos 0) (dot (v (pos 1) (pos 0) (pos 0)) (minus b a))) neighbour) (λ a. All (λ b. pos 0 ≤ℤ dot (v (pos 1) (pos 0) (pos 0)) (minus b a)) neighbour)
      (λ a h. by_test (λ b. le_z (pos 0) (dot (v (pos 1) (pos 0) (pos 0)) (minus b a))) (λ b. pos 0 ≤ℤ dot (v (pos 1) (pos 0) (pos 0)) (minus b a)) (λ b g. record { le = subst T (sym g) tt }) neighbour h) cube refl;
  away = record { le = tt };
}

-- it does not meet it along (0,0,1)
never_above : Meets cube neighbour (v (pos 0) (pos 0) (pos 1)) → ⊥
never_above = wall_keeps_apart cube neighbour (v (pos 0) (pos 0) (pos 1)) (v (pos 1) (pos 0) (pos 0)) cube_solid wall_between

-- ---- the smallest certificate

abbrev pub smallest : ℕ → Certificate
smallest version = record { version = version; parts = 1; body = Plan (Leaf 0 ∷ []) }

smallest_lines : lines_of (smallest 1) ≡ line.Head 1 ∷ line.Parts 1 ∷ line.Plan ∷ line.Leaf 0 ∷ line.End ∷ []
smallest_lines = refl

smallest_text : text_of (smallest 1) ≡ codes "STAAT 1\nparts 1\nplan\nleaf 0\nend\n"
smallest_text = rw (decimal_digit 1 (lit< tt), decimal_digit 0 (lit< tt)) refl

pub smallest_form : (version : ℕ) → IsVersion version → IsWellFormed (smallest version)
smallest_form version is = record {
  lines = All-from_recursion IsInBounds (lines_of (smallest version)) (is, ((lit≤ tt, lit≤ tt), (tt, (lit< tt, (tt, tt)))));
  body = record { tree = walled_leaf 0; is = refl; most = lit≤ tt; each = All-from_recursion IsNodeInOrder (Leaf 0 ∷ []) (tt, tt) };
}

smallest_read : IsReading (codes "STAAT 1\nparts 1\nplan\nleaf 0\nend\n") (whole (smallest 1))
smallest_read = record { form = smallest_form 1 (lit≤ tt, lit≤ tt); is = sym smallest_text }

-- the plan that takes the two cubes apart, and its lines
abbrev two_cubes : Certificate
two_cubes = record {
  version = 1;
  parts = 2;
  body = Plan (Split (v (pos 0) (pos 0) (pos 1)) ((record { arc = record { a = 0; i = 0; b = 1; j = 0 }; n = v (pos 1) (pos 0) (pos 0) }) ∷ []) ∷ Leaf 0 ∷ Leaf 1 ∷ []);
}

two_cubes_lines : lines_of two_cubes ≡ line.Head 1 ∷ line.Parts 2 ∷ line.Plan ∷ line.Split (v (pos 0) (pos 0) (pos 1)) ∷ line.Sep (record { arc = record { a = 0; i = 0; b = 1; j = 0 }; n = v (pos 1) (pos 0) (pos 0) }) ∷ line.Leaf 0 ∷ line.Leaf 1 ∷ line.End ∷ []
two_cubes_lines = refl
