-- What a part list reads of a JSON value.
use Rattle.std.specs.Prelude.{ℕ, Bool, List, [], ◌∷◌, Option, None, if◌then◌else◌, codes}
use Rattle.std.specs.Prelude.{option_and_then}
use Rattle.std.specs.Prelude.{option_map, unwrap_or}
use Rattle.std.specs.Str.{is_utf8, bytes_eq}
use Rattle.std.specs.List.{list_all, list_any}
use Rattle.serde_json.specs.Data.{Data, Items, no_items, item, Members, no_members, member}
use Rattle.serde_json.specs.Read.{read}
use Rattle.serde_json.specs.Find.{as_array, as_object, as_str, get}

abbrev pub Text : Type 0
Text = List ℕ

-- the JSON value that the bytes are, where they are one
unfoldable pub json_of : Text → Option Data
json_of bytes = if is_utf8 bytes then read bytes else None

-- ---- any value

abbrev pub list_of : Items → List Data
list_of no_items = []
list_of (item d ds) = d ∷ list_of ds

abbrev pub names_of : Members → List Text
names_of no_members = []
names_of (member name d ms) = name ∷ names_of ms

-- the text that the value is, and the empty text where it is none
abbrev pub text_in : Data → Text
text_in d = unwrap_or (as_str d) []

-- the text that the member is, and the empty text where it is none
abbrev pub text_at : Text → Data → Text
text_at name d = unwrap_or (option_and_then as_str (get name d)) []

-- the items of the member, where it is an array
abbrev pub array_at : Text → Data → Option (List Data)
array_at name d = option_map list_of (option_and_then as_array (get name d))

-- each member of the object has one of these names
abbrev pub has_only : List Text → Data → Bool
has_only names d =
    list_all (λ name. list_any (bytes_eq name) names) (unwrap_or (option_map names_of (as_object d)) [])

-- ---- the whole value and its parts

abbrev pub parts_value : Data → List Data
parts_value value = unwrap_or (array_at (codes "parts") value) []

abbrev pub name_of : Data → Text
name_of part = text_at (codes "name") part

abbrev pub pieces_in : Data → List Data
pieces_in part = unwrap_or (array_at (codes "pieces") part) []
