-- What a list of words asks for: a function of the words, by what `clap` states of them.
use Rattle.std.specs.Prelude.{◌≡◌, ◌≢◌, ◌≤◌, ℕ, Bool, true, false, nat_le, nat_lt, List, length}
use Rattle.std.specs.Prelude.{Option, Some, None}
use Rattle.std.specs.Prelude.{Result, Ok, Err, IfSome, ◌&&◌, if◌then◌else◌, option_and_then, option_map}
use Rattle.std.specs.Prelude.{unwrap_or}
use Rattle.std.specs.Prelude.{codes, is_some, ⊤}
use Rattle.std.specs.Option.{option_map_or}
use Rattle.std.specs.Str.{bytes_eq}
use Rattle.clap.specs.Walk.{Row, Text, all_of, first_of}
use Rattle.staat_vec.specs.declared.vector.V3.{V3}
use Rattle.staat_vec.specs.declared.vector.TheConstants.{DIRECTION, NORMAL}
use Rattle.staat_vec.specs.Vectors.{IsWithin, origin}
use Rattle.staat_limits.specs.declared.limits.TheConstants.{MOST_DIGITS}
use Rattle.staat_limits.specs.declared.limits.TheConstants.{MOST_PARTS, MOST_PRODUCT_PARTS}
use Rattle.staat_limits.specs.Versions.{IsVersion}
use Rattle.staat_limits.specs.declared.limits.TheConstants.{MOST_BOXES}
use Rattle.staat_limits.specs.declared.limits.TheConstants.{LEAST_PLANES, MOST_CELL_PLANES, MOST_PLANES}
use Rattle.staat_number.specs.Numbers.{natural_within}
use Rattle.staat_words.specs.declared.request.Input.{Input}
use Rattle.staat_words.specs.declared.request.Input.TheVariants.{Manifest, Files}
use Rattle.staat_words.specs.declared.request.Asked.{Asked}
use Rattle.staat_words.specs.declared.request.PairRequest.{PairRequest}
use Rattle.staat_words.specs.declared.request.GraphRequest.{GraphRequest}
use Rattle.staat_words.specs.declared.request.PlanRequest.{PlanRequest}
use Rattle.staat_words.specs.declared.request.CellsRequest.{CellsRequest}
use Rattle.staat_words.specs.declared.request.CheckRequest.{CheckRequest}
use Rattle.staat_words.specs.declared.request.DecideRequest.{DecideRequest}
use Rattle.staat_words.specs.declared.request.ExplodeRequest.{ExplodeRequest}
use Rattle.staat_words.specs.declared.request.LinearRequest.{LinearRequest}
use Rattle.staat_words.specs.declared.request.LocalRequest.{LocalRequest}
use Rattle.staat_words.specs.declared.request.DrillProduct.{DrillProduct}
use Rattle.staat_words.specs.declared.request.DrillProduct.TheVariants.{Boxes, Cubes}
use Rattle.staat_words.specs.declared.request.Request.{Request}
use Rattle.staat_words.specs.declared.request.Request.TheVariants.{Pair, Look, Graph, Plan, Check, Cells}
use Rattle.staat_words.specs.declared.request.Request.TheVariants.{Drill, Explode, Linear, Local, Decide}
use Rattle.staat_words.specs.declared.request.Request.TheVariants.{Confirm, Blocks}
use Rattle.staat_words.specs.declared.request.RequestRefusal.{RequestRefusal}
use Rattle.staat_words.specs.declared.request.RequestRefusal.TheVariants.{Usage, OutOfMemory}
use Rattle.staat_words.specs.Spelled.{◌>>=◌, vector_within}
use Rattle.staat_words.specs.Command.{is_taken, matches}

-- `--digits`, 0 where it is not given
unfoldable pub digits_asked : List Row → Option ℕ
digits_asked rows = natural_within MOST_DIGITS (unwrap_or (first_of (codes "digits") rows) (codes "0"))

-- the vector that an option gives
unfoldable pub vector_in : Text → ℕ → List Row → Option V3
vector_in id most rows = option_and_then (vector_within most) (first_of id rows)

-- the number that a text spells, from the least one to the greatest one
abbrev pub number_within : ℕ → ℕ → Text → Option ℕ
number_within least most text = do
  n ← natural_within most text
  if nat_le least n then Some n else None

-- the number of planes that a text spells, where there may be so many at most
abbrev pub planes_within : ℕ → Text → Option ℕ
planes_within most text = number_within LEAST_PLANES most text

-- what `--planes` gives, as many as there may be where it is not given
abbrev pub planes_from : ℕ → Option Text → Option ℕ
planes_from most None = Some most
planes_from most (Some text) = planes_within most text

unfoldable pub planes_in : ℕ → List Row → Option ℕ
planes_in most rows = planes_from most (first_of (codes "planes") rows)

-- whether a flag is given
abbrev pub is_given : Text → List Row → Bool
is_given id rows = option_map_or (λ text. bytes_eq text (codes "true")) (first_of id rows) false

-- how many planes there may be: in a robust plan no more than those whose cells are listed
abbrev pub limit_of : Bool → ℕ → ℕ
limit_of robust planes = if robust && nat_lt MOST_CELL_PLANES planes then MOST_CELL_PLANES else planes

-- the version of certificates that a text spells
abbrev pub version_within : Text → Option ℕ
version_within text = number_within 1 2 text

-- which version a certificate has: what `--format` says, 2 where it is not given
abbrev pub version_from : Option Text → Option ℕ
version_from None = Some 2
version_from (Some text) = version_within text

-- the version of the certificate, if one is asked for; `--format` stands beside `--cert` alone
abbrev pub certificate_from : Bool → Option Text → Option (Option ℕ)
certificate_from true format = option_map Some (version_from format)
certificate_from false None = Some None
certificate_from false (Some format) = None

unfoldable pub certificate_in : List Row → Option (Option ℕ)
certificate_in rows = certificate_from (is_given (codes "cert") rows) (first_of (codes "format") rows)

-- the files, where there are some and at most so many
abbrev pub some_files : ℕ → List Text → Option Input
some_files most names =
    if nat_lt 0 (length names) && nat_le (length names) most then Some (Files names) else None

-- either a part list or files, of which there may be so many
abbrev pub input_from : ℕ → Option Text → Option (List Text) → Option Input
input_from most (Some name) names = if is_some names then None else Some (Manifest name)
input_from most None names = option_and_then (some_files most) names

unfoldable pub input_in : ℕ → List Row → Option Input
input_in most rows = input_from most (first_of (codes "manifest") rows) (all_of (codes "files") rows)

-- what is asked about, where there may be so many files
unfoldable pub asked_in : ℕ → List Row → Option Asked
asked_in most rows = do
  digits ← digits_asked rows
  input ← input_in most rows
  Some (record { digits = digits; input = input })

unfoldable pub pair_in : List Row → Option PairRequest
pair_in rows = do
  digits ← digits_asked rows
  along ← vector_in (codes "along") DIRECTION rows
  wall ← vector_in (codes "wall") NORMAL rows
  first ← first_of (codes "first") rows
  second ← first_of (codes "second") rows
  Some (record { digits = digits; along = along; wall = wall; first = first; second = second })

unfoldable pub graph_in : ℕ → List Row → Option GraphRequest
graph_in most rows = do
  asked ← asked_in most rows
  along ← vector_in (codes "along") DIRECTION rows
  Some (record { asked = asked; along = along })

abbrev pub plan_request : Asked → ℕ → Bool → Option ℕ → PlanRequest
plan_request asked planes robust certificate =
    record { asked = asked; planes = limit_of robust planes; robust = robust; certificate = certificate }

unfoldable pub plan_in : List Row → Option PlanRequest
plan_in rows = do
  asked ← asked_in MOST_PARTS rows
  planes ← planes_in MOST_PLANES rows
  certificate ← certificate_in rows
  Some (plan_request asked planes (is_given (codes "robust") rows) certificate)

-- a certificate's file, and what it is about, where there may be so many files
unfoldable pub check_in : ℕ → List Row → Option CheckRequest
check_in most rows = do
  asked ← asked_in most rows
  certificate ← first_of (codes "certificate") rows
  Some (record { asked = asked; certificate = certificate })

unfoldable pub cells_in : List Row → Option CellsRequest
cells_in rows = do
  asked ← asked_in MOST_PARTS rows
  planes ← planes_in MOST_CELL_PLANES rows
  Some (record { asked = asked; planes = planes })

-- the number from 1 to the greatest one that a text spells
abbrev pub count_within : ℕ → Text → Option ℕ
count_within most text = number_within 1 most text

-- the product of this kind and size
abbrev pub product_of : Text → Text → Option DrillProduct
product_of kind number =
    if bytes_eq kind (codes "row") then option_map Cubes (count_within MOST_PARTS number)
    else (if bytes_eq kind (codes "box") then option_map Boxes (count_within MOST_BOXES number) else None)

unfoldable pub drill_in : List Row → Option DrillProduct
drill_in rows = do
  kind ← first_of (codes "kind") rows
  number ← first_of (codes "number") rows
  product_of kind number

unfoldable pub explode_in : List Row → Option ExplodeRequest
explode_in rows = do
  asked ← asked_in MOST_PARTS rows
  planes ← planes_in MOST_PLANES rows
  Some (record { asked = asked; planes = planes; off = is_given (codes "off") rows })

unfoldable pub linear_in : List Row → Option LinearRequest
linear_in rows = do
  asked ← asked_in MOST_PARTS rows
  planes ← planes_in MOST_PLANES rows
  Some (record { asked = asked; planes = planes })

unfoldable pub local_in : List Row → Option LocalRequest
local_in rows = do
  asked ← asked_in MOST_PARTS rows
  planes ← planes_in MOST_PLANES rows
  Some (record { asked = asked; planes = planes })

unfoldable pub decide_in : List Row → Option DecideRequest
decide_in rows = do
  asked ← asked_in MOST_PRODUCT_PARTS rows
  Some (record { asked = asked; rest = is_given (codes "rest") rows; certificate = is_given (codes "cert") rows })

-- the request of a subcommand and its matches: a line for each command
unfoldable pub request_in : Option (Text × List Row) → Option Request
request_in None = None
request_in (Some found) =
    if bytes_eq found.0 (codes "pair") then option_map Pair (pair_in found.1)
    else (if bytes_eq found.0 (codes "look") then option_map Look (asked_in MOST_PARTS found.1)
    else (if bytes_eq found.0 (codes "graph") then option_map Graph (graph_in MOST_PARTS found.1)
    else (if bytes_eq found.0 (codes "plan") then option_map Plan (plan_in found.1)
    else (if bytes_eq found.0 (codes "check") then option_map Check (check_in MOST_PARTS found.1)
    else (if bytes_eq found.0 (codes "cells") then option_map Cells (cells_in found.1)
    else (if bytes_eq found.0 (codes "drill") then option_map Drill (drill_in found.1)
    else (if bytes_eq found.0 (codes "explode") then option_map Explode (explode_in found.1)
    else (if bytes_eq found.0 (codes "linear") then option_map Linear (linear_in found.1)
    else (if bytes_eq found.0 (codes "local") then option_map Local (local_in found.1)
    else (if bytes_eq found.0 (codes "decide") then option_map Decide (decide_in found.1)
    else (if bytes_eq found.0 (codes "confirm") then option_map Confirm (check_in MOST_PRODUCT_PARTS found.1)
    else (if bytes_eq found.0 (codes "blocks") then option_map Blocks (graph_in MOST_PRODUCT_PARTS found.1)
    else None))))))))))))

-- The request of the words: none is a usage fault.
unfoldable pub request : List Text → Option Request
request words = if is_taken words then request_in (matches words) else None

-- the answer is what the words ask for, or Usage where they ask for nothing; want of memory is free
abbrev pub ReadsWords : {X : Type 0} → Option X → Result X RequestRefusal → Type 0
ReadsWords asked (Ok answer) = asked ≡ Some answer
ReadsWords asked (Err Usage) = asked ≡ None
ReadsWords asked (Err OutOfMemory) = ⊤

-- a part list, or 1 to so many files
abbrev pub IsInputWithin : ℕ → Input → Type 0
IsInputWithin most (Manifest name) = ⊤
IsInputWithin most (Files names) = (1 ≤ length names) × (length names ≤ most)

-- how great the numbers of what is asked are at most, and that a direction is not zero
abbrev pub IsAskedWithin : ℕ → Asked → Type 0
IsAskedWithin most asked = (asked.digits ≤ MOST_DIGITS) × IsInputWithin most asked.input

-- the same of what is asked about an assembly
abbrev pub IsAsked : Asked → Type 0
IsAsked asked = IsAskedWithin MOST_PARTS asked

abbrev pub IsPairRequest : PairRequest → Type 0
IsPairRequest request =
    (request.digits ≤ MOST_DIGITS) × IsWithin DIRECTION request.along × IsWithin NORMAL request.wall ×
    (request.along ≢ origin)

abbrev pub IsGraphRequestWithin : ℕ → GraphRequest → Type 0
IsGraphRequestWithin most request =
    IsAskedWithin most request.asked × IsWithin DIRECTION request.along × (request.along ≢ origin)

abbrev pub IsGraphRequest : GraphRequest → Type 0
IsGraphRequest request = IsGraphRequestWithin MOST_PARTS request

-- the same of a product of any size
abbrev pub IsBlocksRequest : GraphRequest → Type 0
IsBlocksRequest request = IsGraphRequestWithin MOST_PRODUCT_PARTS request

abbrev pub IsPlanRequest : PlanRequest → Type 0
IsPlanRequest request =
    IsAsked request.asked × (LEAST_PLANES ≤ request.planes) × (request.planes ≤ MOST_PLANES) ×
    (request.robust ≡ true → request.planes ≤ MOST_CELL_PLANES) × IfSome request.certificate IsVersion

abbrev pub IsCellsRequest : CellsRequest → Type 0
IsCellsRequest request =
    IsAsked request.asked × (LEAST_PLANES ≤ request.planes) × (request.planes ≤ MOST_CELL_PLANES)

abbrev pub IsNamedProduct : DrillProduct → Type 0
IsNamedProduct (Cubes n) = (1 ≤ n) × (n ≤ MOST_PARTS)
IsNamedProduct (Boxes n) = (1 ≤ n) × (n ≤ MOST_BOXES)

abbrev pub IsExplodeRequest : ExplodeRequest → Type 0
IsExplodeRequest request =
    IsAsked request.asked × (LEAST_PLANES ≤ request.planes) × (request.planes ≤ MOST_PLANES)

abbrev pub IsLinearRequest : LinearRequest → Type 0
IsLinearRequest request =
    IsAsked request.asked × (LEAST_PLANES ≤ request.planes) × (request.planes ≤ MOST_PLANES)

abbrev pub IsLocalRequest : LocalRequest → Type 0
IsLocalRequest request =
    IsAsked request.asked × (LEAST_PLANES ≤ request.planes) × (request.planes ≤ MOST_PLANES)

-- the same of a request: a line for each command
abbrev pub HasBounds : Request → Type 0
HasBounds (Pair request) = IsPairRequest request
HasBounds (Look asked) = IsAsked asked
HasBounds (Graph request) = IsGraphRequest request
HasBounds (Plan request) = IsPlanRequest request
HasBounds (Check request) = IsAsked request.asked
HasBounds (Cells request) = IsCellsRequest request
HasBounds (Drill product) = IsNamedProduct product
HasBounds (Explode request) = IsExplodeRequest request
HasBounds (Linear request) = IsLinearRequest request
HasBounds (Local request) = IsLocalRequest request
HasBounds (Decide request) = IsAskedWithin MOST_PRODUCT_PARTS request.asked
HasBounds (Confirm request) = IsAskedWithin MOST_PRODUCT_PARTS request.asked
HasBounds (Blocks request) = IsBlocksRequest request
