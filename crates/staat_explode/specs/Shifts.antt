-- How far the parts of a plan are moved apart.
use Rattle.std.specs.Prelude.{◌==◌, ◌⊎◌, ◌++◌, ℤ, pos, negsuc, zero, ◌+ℤ◌, ◌-ℤ◌}
use Rattle.std.specs.Prelude.{◌*ℤ◌, ◌<ℤ◌, ◌≤ℤ◌, int_lt, unsigned_abs, ℕ, List, [], ◌∷◌}
use Rattle.std.specs.Prelude.{map, length, slice_get, unwrap_or, if◌then◌else◌}
use Rattle.std.specs.Int.{div_ceil}
use Rattle.std.specs.List.{range_with_len}
use Rattle.staat_vec.specs.declared.vector.V3.{V3}
use Rattle.staat_vec.specs.Vectors.{origin, plus, times}
use Rattle.staat_model.specs.declared.assembly.Part.{Part}
use Rattle.staat_model.specs.Plans.{Plan, leaf, split}
use Rattle.staat_explode.specs.declared.axis.Axis.{Axis}
use Rattle.staat_explode.specs.declared.axis.Axis.TheVariants.{X, Y, Z}
use Rattle.staat_explode.specs.declared.boxes.Bounds.{Bounds}
use Rattle.staat_explode.specs.declared.boxes.End.{End}
use Rattle.staat_explode.specs.declared.boxes.End.TheVariants.{High, Low}
use Rattle.staat_explode.specs.declared.shifted.Shifted.{Shifted}
use Rattle.staat_explode.specs.Boxes.{boxes_of, component, furthest}

-- the axis, or the next where the number is 0
abbrev pub axis_or_next : ℤ → Axis → Axis → Axis
axis_or_next (pos zero) axis next = next
axis_or_next z axis next = axis

-- the first component that is not 0
abbrev pub axis_of : V3 → Axis
axis_of d = axis_or_next d.x X (axis_or_next d.y Y Z)

-- the box of a part
abbrev pub box_at : List Bounds → ℕ → Bounds
box_at boxes part = unwrap_or (slice_get boxes part) (record { low = origin; high = origin })

-- the number in a component of a part's box at the end, moved by the part's vector
abbrev pub end_along : List Bounds → Axis → End → Shifted → ℤ
end_along boxes axis Low p = component axis (box_at boxes p.part).low +ℤ component axis p.by
end_along boxes axis High p = component axis (box_at boxes p.part).high +ℤ component axis p.by

-- of all these boxes the number in a component that lies furthest to the end: the lowest or the highest
unfoldable pub extreme : List Bounds → Axis → End → List Shifted → ℤ
extreme boxes axis end ps = furthest end (map (end_along boxes axis end) ps)

abbrev pub lowest : List Bounds → Axis → List Shifted → ℤ
lowest boxes axis = extreme boxes axis Low

abbrev pub highest : List Bounds → Axis → List Shifted → ℤ
highest boxes axis = extreme boxes axis High

-- how far the moved parts have to go in a component until they are past the resting ones: up where the direction goes
-- up, and else down
abbrev pub gap_along : List Bounds → Axis → ℤ → List Shifted → List Shifted → ℤ
gap_along boxes axis step moved rest =
    if int_lt (pos 0) step
    then (highest boxes axis rest +ℤ pos 1) -ℤ lowest boxes axis moved
    else (highest boxes axis moved +ℤ pos 1) -ℤ lowest boxes axis rest

-- how many steps of a size make up a gap, at least; none where there is no gap
abbrev pub rounds : ℤ → ℕ → ℕ
rounds (pos gap) step = div_ceil gap step
rounds (negsuc gap) step = 0

-- how often the moved parts go on by d. That it is the least number that takes them past the resting ones is a law
unfoldable pub steps_apart : List Bounds → V3 → List Shifted → List Shifted → ℕ
steps_apart boxes d moved rest =
    let step = component (axis_of d) d in rounds (gap_along boxes (axis_of d) step moved rest) (unsigned_abs step)

-- the part, moved on by m * d
abbrev pub moved_on : ℕ → V3 → Shifted → Shifted
moved_on m d p = record { part = p.part; by = plus p.by (times m d) }

-- the moved parts go on along d until they are past the resting ones
abbrev pub parted : List Bounds → V3 → List Shifted → List Shifted → List Shifted
parted boxes d moved rest = map (moved_on (steps_apart boxes d moved rest) d) moved ++ rest

-- the parts of a plan with their vectors, in the order of the leaves
abbrev pub shifted_of : List Bounds → Plan → List Shifted
shifted_of boxes (leaf p) = record { part = p; by = origin } ∷ []
shifted_of boxes (split d moved rest) = parted boxes d (shifted_of boxes moved) (shifted_of boxes rest)

-- the vector of a part
abbrev pub vector_of_part : List Shifted → ℕ → V3
vector_of_part [] part = origin
vector_of_part (p ∷ ps) part = if p.part == part then p.by else vector_of_part ps part

-- the vector of each part, in the order of the parts
abbrev pub shifts_of : List Part → Plan → List V3
shifts_of parts plan = map (vector_of_part (shifted_of (boxes_of parts) plan)) (range_with_len 0 (length parts))

-- so many steps of d take the moved parts past the resting ones along the first component of d that is not 0
abbrev pub ArePast : List Bounds → V3 → List Shifted → List Shifted → ℕ → Type 0
ArePast boxes d moved rest m =
    let axis = axis_of d in
    ((pos 0 <ℤ component axis d)
    × ((highest boxes axis rest +ℤ pos 1) ≤ℤ (lowest boxes axis moved +ℤ (pos m *ℤ component axis d))))
    ⊎ ((component axis d <ℤ pos 0)
    × ((highest boxes axis moved +ℤ (pos m *ℤ component axis d)) ≤ℤ (lowest boxes axis rest -ℤ pos 1)))
