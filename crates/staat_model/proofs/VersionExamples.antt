-- The two versions of a certificate at small examples.
use Rattle.std.proofs.Common.{◌≡◌, ◌<◌, zero, suc, pos, negsuc, ap, List, [], ◌∷◌, map, All, arith, refl, inl, inr, subst, sym, rules, lit<, lit≤}
use Rattle.std.specs.Prelude.{Contains, codes}
use Rattle.std.specs.List.Sorted.{IsStrictlySortedBy}
use Rattle.std.proofs.lemmas.Fmt.{decimal_digit}
use Rattle.std.proofs.lemmas.List.Elements.{All-from_recursion, All-contains}
use Rattle.staat_vec.specs.declared.vector.V3.{V3}
use Rattle.staat_vec.specs.Vectors.{origin, vector_cmp}
use Rattle.staat_vec.specs.Primitives.{IsCanon}
use Rattle.staat_model.specs.declared.certificate.Dir.{Dir}
use Rattle.staat_model.specs.declared.certificate.Witness.{Witness}
use Rattle.staat_model.specs.Certificates.{HasLine, IsListed}
use Rattle.staat_model.specs.Certify.{IsDirection}
use Rattle.staat_limits.specs.Versions.{IsVersion}
use Rattle.staat_model.specs.Planes.{axes, vertices}
use Rattle.staat_model.specs.Texts.{IsReading, IsRefusalInOrder, IsWitnessInOrder, text_of, whole}
use Rattle.staat_model.proofs.Examples.{v, m, axis_vertices, six, smallest, smallest_form}

-- one of each two opposite vertices of the axes, ascending, each with the first witness
abbrev three : List Dir
three =
    record { d = v (pos 0) (pos 0) (pos 1); witness = 0 }
    ∷ record { d = v (pos 0) (pos 1) (pos 0); witness = 0 }
    ∷ record { d = v (pos 1) (pos 0) (pos 0); witness = 0 }
    ∷ []

-- a witness without arcs
abbrev bare : Witness
bare = record { outs = []; ins = [] }

-- ---- what is listed

-- in version 2 the three directions are enough for the six vertices: one of each pair has a line, the other its negative
six_listed : All (IsListed 2 three) (vertices axes)
six_listed = subst (All (IsListed 2 three)) (sym axis_vertices) (All-from_recursion (IsListed 2 three) six
    (inl (0, lit< tt, refl), (inr (refl, (0, lit< tt, refl)), (inr (refl, (1, lit< tt, refl)), (inl (1, lit< tt, refl), (inl (2, lit< tt, refl), (inr (refl, (2, lit< tt, refl)), tt)))))))

-- in version 1 they are not: none of them is the negative of the first
no_line : HasLine three (v (pos 0) (pos 0) (m 1)) → ⊥
no_line (zero, lt, e) = let wrong : pos 1 ≡ negsuc 0 = ap (λ (u : V3). u.z) e in cc
no_line (suc zero, lt, e) = let wrong : pos 0 ≡ negsuc 0 = ap (λ (u : V3). u.z) e in cc
no_line (suc (suc zero), lt, e) = let wrong : pos 0 ≡ negsuc 0 = ap (λ (u : V3). u.z) e in cc
no_line (suc (suc (suc k)), lt, e) = omega (arith, lt)

one_of_two_is_not_enough : IsListed 1 three (v (pos 0) (pos 0) (m 1)) → ⊥
one_of_two_is_not_enough (inl h) = no_line h
one_of_two_is_not_enough (inr (two, h)) = omega (arith, two)

-- ---- which directions a refusal has

direction_upwards : IsDirection 2 axes (v (pos 0) (pos 0) (pos 1))
direction_upwards = record {
  vertex = subst (λ us. Contains us (v (pos 0) (pos 0) (pos 1))) (sym axis_vertices) (0, lit< tt, refl);
  canonical = λ two. record { lt = tt };
}

not_positive : IsCanon (v (pos 0) (pos 0) (m 1)) → ⊥
not_positive h = h.lt

no_direction_downwards : IsDirection 2 axes (v (pos 0) (pos 0) (m 1)) → ⊥
no_direction_downwards h = not_positive (h.canonical refl)

-- ---- lists in order

ascend : IsStrictlySortedBy vector_cmp (map (λ dir. dir.d) three)
unfolding IsStrictlySortedBy
ascend = search rules

bare_in_order : IsWitnessInOrder bare
bare_in_order = record { outs = lit< tt; ins = lit< tt }

three_in_order : IsRefusalInOrder 2 (bare ∷ []) three
three_in_order = record {
  witness_count = lit< tt;
  dir_count = lit< tt;
  each = All-from_recursion IsWitnessInOrder (bare ∷ []) (bare_in_order, tt);
  named = All-from_recursion (λ dir. dir.witness < 1) three (lit< tt, (lit< tt, (lit< tt, tt)));
  ascending = ascend;
  canonical = λ two. All-from_recursion (λ dir. IsCanon dir.d) three (record { lt = tt }, (record { lt = tt }, (record { lt = tt }, tt)));
}

-- a line without a direction
abbrev nowhere : Dir
nowhere = record { d = origin; witness = 0 }

one_ascends : IsStrictlySortedBy vector_cmp (map (λ dir. dir.d) (nowhere ∷ []))
unfolding IsStrictlySortedBy
one_ascends = search rules

-- in version 1 it may stand
zero_in_order : IsRefusalInOrder 1 (bare ∷ []) (nowhere ∷ [])
zero_in_order = record {
  witness_count = lit< tt;
  dir_count = lit< tt;
  each = All-from_recursion IsWitnessInOrder (bare ∷ []) (bare_in_order, tt);
  named = All-from_recursion (λ dir. dir.witness < 1) (nowhere ∷ []) (lit< tt, tt);
  ascending = one_ascends;
  canonical = λ two. cc;
}

-- in version 2 it is refused, and so is a line with the negative of a canonical direction
only_canonical : (dir : Dir) → (IsCanon dir.d → ⊥) → IsRefusalInOrder 2 (bare ∷ []) (dir ∷ []) → ⊥
only_canonical dir not h = not (All-contains (λ x. IsCanon x.d) (dir ∷ []) dir (h.canonical refl) (0, lit< tt, refl))

zero_refused : IsRefusalInOrder 2 (bare ∷ []) (nowhere ∷ []) → ⊥
zero_refused = only_canonical nowhere (λ h. h.lt)

downwards_refused : IsRefusalInOrder 2 (bare ∷ []) (record { d = v (pos 0) (pos 0) (m 1); witness = 0 } ∷ []) → ⊥
downwards_refused = only_canonical (record { d = v (pos 0) (pos 0) (m 1); witness = 0 }) not_positive

-- ---- the smallest certificate of version 2

smallest_text : text_of (smallest 2) ≡ codes "STAAT 2\nparts 1\nplan\nleaf 0\nend\n"
smallest_text = rw (decimal_digit 2 (lit< tt), decimal_digit 1 (lit< tt), decimal_digit 0 (lit< tt)) refl

smallest_read : IsReading (codes "STAAT 2\nparts 1\nplan\nleaf 0\nend\n") (whole (smallest 2))
smallest_read = record { form = smallest_form 2 (lit≤ tt, lit≤ tt); is = sym smallest_text }

no_third_version : IsVersion 3 → ⊥
no_third_version h = omega (arith, h.1)
