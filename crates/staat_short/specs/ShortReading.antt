-- The line that a word and numbers make.
use Rattle.std.specs.Prelude.{ℕ, ◌+◌, ℤ, nat_lt, List, codes}
use Rattle.std.specs.Prelude.{Option, Some, None, if◌then◌else◌, option_and_then, option_map}
use Rattle.std.specs.Str.{bytes_eq}
use Rattle.staat_vec.specs.declared.vector.TheConstants.{DIRECTION}
use Rattle.staat_limits.specs.declared.limits.TheConstants.{MOST_PRODUCT_PARTS, MOST_PRODUCT_PIECES}
use Rattle.staat_cert.specs.LineReading.{arc_alone, bare_from, natural_alone, positive_alone, vector_alone}
use Rattle.staat_short.specs.declared.line.ShortLine.{ShortLine}
use Rattle.staat_short.specs.declared.line.ShortLine.TheVariants as line

-- two pieces of parts of a product, that of the lower part first
unfoldable pub pair_from : List ℤ → Option ShortLine
pair_from zs =
    option_and_then (λ pair. if nat_lt pair.a pair.b then Some (line.Pair pair) else None)
    (arc_alone MOST_PRODUCT_PARTS MOST_PRODUCT_PIECES zs)

unfoldable pub short_line_from : List ℕ → List ℤ → Option ShortLine
short_line_from word zs =
    if bytes_eq word (codes "pair") then pair_from zs
    else if bytes_eq word (codes "part") then option_map line.Part (natural_alone MOST_PRODUCT_PARTS zs)
    else if bytes_eq word (codes "hold") then bare_from line.Hold zs
    else if bytes_eq word (codes "leaf") then option_map line.Leaf (natural_alone MOST_PRODUCT_PARTS zs)
    else if bytes_eq word (codes "split") then option_map line.Split (vector_alone DIRECTION zs)
    else if bytes_eq word (codes "group") then bare_from line.Group zs
    else if bytes_eq word (codes "end") then bare_from line.End zs
    else if bytes_eq word (codes "plan") then bare_from line.Plan zs
    else if bytes_eq word (codes "stuck") then bare_from line.Stuck zs
    else if bytes_eq word (codes "rest") then bare_from line.Rest zs
    else if bytes_eq word (codes "parts") then option_map line.Parts (positive_alone (MOST_PRODUCT_PARTS + 1) zs)
    else None
