-- The rules of a part list, in the order in which they are tested.
use Rattle.std.specs.Prelude.{◌+◌, ◌++◌, ◌&&◌, ℕ, Bool, not, nat_lt, nat_le, List, [], ◌∷◌, length}
use Rattle.std.specs.Prelude.{map, sum_by}
use Rattle.std.specs.Prelude.{Option, Some, None, is_some, Result, Ok, Err, if◌then◌else◌, codes, decimal}
use Rattle.std.specs.Str.{bytes_eq}
use Rattle.std.specs.List.{list_all, list_any}
use Rattle.serde_json.specs.Data.{Data}
use Rattle.serde_json.specs.Find.{as_object}
use Rattle.staat_manifest.specs.declared.refusal.ManifestRefusal.{ManifestRefusal}
use Rattle.staat_manifest.specs.declared.refusal.ManifestRefusal.TheVariants.{NotJson, BadShape, RepeatedName}
use Rattle.staat_manifest.specs.declared.refusal.ManifestRefusal.TheVariants.{NoPieces, TooManyParts, TooManyPieces}
use Rattle.staat_limits.specs.declared.limits.TheConstants.{MOST_PARTS, MOST_PIECES}
use Rattle.staat_manifest.specs.declared.listing.ListedPart.{ListedPart}
use Rattle.staat_manifest.specs.Listings.{listed}
use Rattle.staat_manifest.specs.Placements.{placement_of}
use Rattle.staat_manifest.specs.Values.{Text, array_at, has_only, json_of, name_of, parts_value, pieces_in, text_in}

-- what a rule says: nothing where it holds, and this refusal where it is broken
abbrev pub rule : Bool → ManifestRefusal → Option ManifestRefusal
rule holds refusal = if holds then None else Some refusal

-- what the first broken rule says
abbrev pub first_refusal : List (Option ManifestRefusal) → Option ManifestRefusal
first_refusal [] = None
first_refusal (None ∷ rules) = first_refusal rules
first_refusal (Some refusal ∷ rules) = Some refusal

-- ---- the whole value, which has at most so many parts

unfoldable pub whole_rules : ℕ → Data → List (Option ManifestRefusal)
whole_rules most_parts value =
    rule (is_some (as_object value)) (BadShape (codes "/"))
    ∷ rule (nat_lt 0 (length (parts_value value))) (BadShape (codes "/parts"))
    ∷ rule (has_only (codes "parts" ∷ []) value) (BadShape (codes "/"))
    ∷ rule (nat_le (length (parts_value value)) most_parts) TooManyParts
    ∷ []

-- ---- a part by itself

-- the path of part k
abbrev pub part_path : ℕ → Text
part_path k = codes "/parts/" ++ decimal k

-- the path of piece i of part k
abbrev pub piece_path : ℕ → ℕ → Text
piece_path k i = part_path k ++ codes "/pieces/" ++ decimal i

-- 1 to 255 bytes, none of them below 32
abbrev pub is_name : Text → Bool
is_name name = nat_lt 0 (length name) && (nat_le (length name) 255 && list_all (λ b. nat_le 32 b) name)

-- a text that is not empty
abbrev pub is_piece : Data → Bool
is_piece piece = nat_lt 0 (length (text_in piece))

-- the rules for the pieces of part k from piece i on
abbrev pub piece_rules : ℕ → ℕ → List Data → List (Option ManifestRefusal)
piece_rules k i [] = []
piece_rules k i (piece ∷ pieces) = rule (is_piece piece) (BadShape (piece_path k i)) ∷ piece_rules k (i + 1) pieces

-- the rules for part k by itself
unfoldable pub form_rules : ℕ → Data → List (Option ManifestRefusal)
form_rules k part =
    rule (is_some (as_object part)) (BadShape (part_path k))
    ∷ rule (is_name (name_of part)) (BadShape (part_path k ++ codes "/name"))
    ∷ rule (is_some (array_at (codes "pieces") part)) (BadShape (part_path k ++ codes "/pieces"))
    ∷ rule (is_some (placement_of part)) (BadShape (part_path k ++ codes "/at"))
    ∷ rule (has_only (codes "name" ∷ codes "pieces" ∷ codes "at" ∷ []) part) (BadShape (part_path k))
    ∷ rule (nat_lt 0 (length (pieces_in part))) (NoPieces k)
    ∷ piece_rules k 0 (pieces_in part)

-- ---- a part with those before it

-- the name is none of these
abbrev pub name_rule : List Text → Text → Option ManifestRefusal
name_rule names name = rule (not (list_any (bytes_eq name) names)) (RepeatedName name)

-- so many pieces in all are not too many
abbrev pub count_rule : ℕ → ℕ → Option ManifestRefusal
count_rule most_pieces count = rule (nat_le count most_pieces) TooManyPieces

-- the rules for a part that comes after these
abbrev pub joint_rules : ℕ → List ListedPart → ListedPart → List (Option ManifestRefusal)
joint_rules most_pieces earlier part =
    name_rule (map (λ other. other.name) earlier) part.name
    ∷ count_rule most_pieces (sum_by (λ other. length other.pieces) (earlier ++ part ∷ []))
    ∷ []

-- all rules for a part that comes after these
abbrev pub part_rules : ℕ → List ListedPart → Data → List (Option ManifestRefusal)
part_rules most_pieces earlier part =
    form_rules (length earlier) part ++ joint_rules most_pieces earlier (listed part)

-- the rules for all parts that come after these
abbrev pub rules_from : ℕ → List ListedPart → List Data → List (Option ManifestRefusal)
rules_from most_pieces earlier [] = []
rules_from most_pieces earlier (part ∷ later) =
    part_rules most_pieces earlier part ++ rules_from most_pieces (earlier ++ listed part ∷ []) later

-- ---- the answer

-- the parts, unless a rule is broken
abbrev pub unless_broken : Option ManifestRefusal → List ListedPart → Result (List ListedPart) ManifestRefusal
unless_broken None parts = Ok parts
unless_broken (Some refusal) parts = Err refusal

abbrev pub answer_of : (most_parts most_pieces : ℕ) → Option Data → Result (List ListedPart) ManifestRefusal
answer_of most_parts most_pieces None = Err NotJson
answer_of most_parts most_pieces (Some value) =
    unless_broken (first_refusal (whole_rules most_parts value ++ rules_from most_pieces [] (parts_value value)))
    (map listed (parts_value value))

-- the parts that the bytes list, or what the first broken rule says, where there may be so many parts and pieces
unfoldable pub part_list_within : (most_parts most_pieces : ℕ) → Text → Result (List ListedPart) ManifestRefusal
part_list_within most_parts most_pieces bytes = answer_of most_parts most_pieces (json_of bytes)

-- the same for as many parts and pieces as an assembly has
abbrev pub part_list : Text → Result (List ListedPart) ManifestRefusal
part_list bytes = part_list_within MOST_PARTS MOST_PIECES bytes
