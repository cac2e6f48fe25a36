-- From serde_json's clauses to the values that a part list reads.
use Rattle.std.proofs.Common.{◌≡◌, ◌==◌, Bool, true, false, List, [], ◌∷◌, length, map, Some, None, refl, sym, ap, codes, string_bytes, Bor, ◌∙◌}
use Rattle.std.proofs.Common.{le_of_eq, pos_of_ne-zero}
use borrow.Author.Tests.{eqb-false, eqb-true, le-false, lt-true}
use Rattle.std.specs.Prelude.{String, ◌&&◌, ◌||◌, nat_lt}
use Rattle.std.proofs.lemmas.List.{length-map}
use Rattle.std.specs.Str.{IsUtf8, is_utf8, bytes_eq}
use Rattle.std.specs.List.{list_all, list_any}
use Rattle.std.specs.declared.alloc.Global.{Global}
use Rattle.std.proofs.lemmas.Str.{IsUtf8-from_is_utf8, is_utf8-from_IsUtf8}
use Rattle.serde_json.specs.Data.{Data}
use Rattle.serde_json.specs.Find.{as_array, as_object, get}
use Rattle.serde_json.specs.Read.{read}
use Rattle.serde_json.specs.View.{items_of, items_view, members_view, view}
use Rattle.serde_json.specs.declared.value.Value.{Value}
use Rattle.staat_vec.specs.Vectors.{origin}
use Rattle.staat_manifest.specs.Placements.{placement_of, three_in}
use Rattle.staat_manifest.specs.Values.{Text, array_at, has_only, json_of, list_of, names_of}

-- what was read is the value
pub json_from : (bytes : Text) (d : Data) → IsUtf8 bytes → read bytes ≡ Some d → json_of bytes ≡ Some d
unfolding json_of
json_from bytes d utf8 e = rw (is_utf8-from_IsUtf8 bytes utf8) e

-- there are values exactly where the slice of them is not empty
pub some_values : (vs : List Value) (r : Bool) → r ≡ (length vs == 0) → r ≡ false → nat_lt 0 (length (map view vs)) ≡ true
some_values vs r same is = sym (lt-true 0 _ (rw length-map (pos_of_ne-zero (eqb-false (length vs) 0 (sym same ∙ is)))))

pub no_values : (vs : List Value) (r : Bool) → r ≡ (length vs == 0) → r ≡ true → nat_lt 0 (length (map view vs)) ≡ false
no_values vs r same is = sym (le-false 0 _ (rw length-map (le_of_eq (eqb-true (length vs) 0 (sym same ∙ is)))))

-- where nothing was read, there is none
pub no_json : (bytes : Text) → (IsUtf8 bytes → read bytes ≡ None) → json_of bytes ≡ None
unfolding json_of
no_json bytes h = go (is_utf8 bytes) refl
  where
    go : (b : Bool) → is_utf8 bytes ≡ b → json_of bytes ≡ None
    go false e = rw e refl
    go true e = rw e (h (IsUtf8-from_is_utf8 bytes e))

listed_items : (ds : List Data) → list_of (items_of ds) ≡ ds
listed_items [] = refl
listed_items (d ∷ ds) = ap (λ xs. d ∷ xs) (listed_items ds)

-- the items of an array at a name, from the clauses of the steps to it
pub array_from : (name : Text) (d a : Data) (vs : List Value) → get name d ≡ Some a → as_array a ≡ Some (items_view vs) → array_at name d ≡ Some (map view vs)
array_from name d a vs e f = rw (e, f, listed_items (map view vs)) refl

-- a part is moved by the vector that the items of its member are
pub placed_by : (part at : Data) (vs : List Value) → get (codes "at") part ≡ Some at → as_array at ≡ Some (items_view vs) → placement_of part ≡ three_in (map view vs)
unfolding placement_of
placed_by part at vs e f = rw (e, f, listed_items (map view vs)) refl

-- a member that is no array is no vector
pub not_placed : (part at : Data) → get (codes "at") part ≡ Some at → as_array at ≡ None → placement_of part ≡ None
unfolding placement_of
not_placed part at e f = rw (e, f) refl

-- a part without the member stays where it is
pub not_moved : (part : Data) → get (codes "at") part ≡ None → placement_of part ≡ Some origin
unfolding placement_of
not_moved part e = rw e refl

pub ruleset placing = (placed_by, not_placed, not_moved)

-- a test of each name of a map is one of each name of the object
pub names_from : (p : Text → Bool) (es : List (String Global × Value)) → list_all (λ name. p (string_bytes name)) (map (λ e. e.0) es) ≡ list_all p (names_of (members_view es))
names_from p [] = refl
names_from p (e ∷ es) = ap (λ r. p (string_bytes e.0) && r) (names_from p es)

-- a test of each element, seen otherwise
pub any_seen : {X Y : Type 0} (p : Y → Bool) (f : X → Y) (xs : List X) → list_any (λ x. p (f x)) xs ≡ list_any p (map f xs)
any_seen p f [] = refl
any_seen p f (x ∷ xs) = ap (λ b. p (f x) || b) (any_seen p f xs)

-- each name of the map of an object is among these
pub only_from : (names : List (Bor Text)) (d : Data) (es : List (String Global × Value)) → Some (members_view es) ≡ as_object d → list_all (λ name. list_any (λ known. bytes_eq (string_bytes name) known.now) names) (map (λ e. e.0) es) ≡ has_only (map (λ s. s.now) names) d
only_from names d es is = rw (← is) ((λ i. list_all (λ name. any_seen (bytes_eq (string_bytes name)) (λ s. s.now) names i) (map (λ e. e.0) es)) ∙ names_from (λ name. list_any (bytes_eq name) (map (λ s. s.now) names)) es)
