-- Lists of signs as numbers, four words of up to 64 signs each, so that they are compared at once.
use Rattle.std.specs.Prelude.{ℕ, ◌+◌, ◌*◌, List, [], ◌∷◌, take, drop}
use Rattle.std.specs.Ordering.{nat_cmp, ordering_then}
use Rattle.std.specs.declared.cmp.Ordering.{Ordering}
use Rattle.staat_vec.specs.declared.vector.Sign.{Sign}
use Rattle.staat_model.specs.Cells.{sign_place}
use Rattle.staat_cells.specs.declared.incidence.Incidence.{Incidence}

-- the digits of the signs in base 4, after those of a
abbrev pub packed_after : ℕ → List Sign → ℕ
packed_after a [] = a
packed_after a (x ∷ s) = packed_after (a * 4 + sign_place x) s

-- the signs as digits in base 4
abbrev pub packed : List Sign → ℕ
packed s = packed_after 0 s

-- the signs s, and the number of the cell whose incidence it is
abbrev pub incidence_of : List Sign → ℕ → Incidence
incidence_of s k = record {
  a = packed (take 64 s);
  b = packed (take 64 (drop 64 s));
  c = packed (take 64 (drop 128 s));
  d = packed (take 64 (drop 192 s));
  of = k;
}

-- by the signs, then by the number
abbrev pub incidence_cmp : Incidence → Incidence → Ordering
incidence_cmp x y =
    ordering_then (nat_cmp x.a y.a) (ordering_then (nat_cmp x.b y.b)
    (ordering_then (nat_cmp x.c y.c) (ordering_then (nat_cmp x.d y.d) (nat_cmp x.of y.of))))
