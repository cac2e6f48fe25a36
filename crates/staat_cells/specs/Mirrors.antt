-- Incidences and those of the opposite cells, their mirror images: the numbers of both have the same sum.
use Rattle.std.specs.Prelude.{◌-◌, ℕ, List, if◌then◌else◌, map}
use Rattle.std.specs.Ordering.{is_lt}
use Rattle.staat_vec.specs.declared.vector.V3.{V3}
use Rattle.staat_vec.specs.declared.vector.Sign.TheVariants.{Pos}
use Rattle.staat_cells.specs.declared.incidence.Incidence.{Incidence}
use Rattle.staat_cells.specs.Packing.{incidence_cmp, incidence_of}

-- the sum for so many cells
abbrev pub mirror_sum : List V3 → ℕ → Incidence
mirror_sum planes count = incidence_of (map (λ n. Pos) planes) (count - 1)

-- what x leaves of the numbers of sum
abbrev pub mirrored : Incidence → Incidence → Incidence
mirrored sum x = record {
  a = sum.a - x.a;
  b = sum.b - x.b;
  c = sum.c - x.c;
  d = sum.d - x.d;
  of = sum.of - x.of;
}

-- the lesser of x and its mirror image
abbrev pub lesser : Incidence → Incidence → Incidence
lesser sum x = if is_lt (incidence_cmp x (mirrored sum x)) then x else mirrored sum x
