-- A part list that is accepted keeps the bounds of a listing.
use Rattle.std.proofs.Common.{◌≡◌, ◌≢◌, ◌++◌, ◌∷◌, ◌<◌, ◌≤◌, ℕ, zero, suc, Bool, true, false, not, nat_le, nat_lt, List, [], map, length, get_or, slice_get, codes, Option, Some, None, Result, Ok, Err, refl, subst, sym, append_assoc, append-nil, arith}
use Rattle.std.specs.Prelude.{IfOk}
use Rattle.std.specs.List.{All, AllPairs, list_any, sum_by}
use Rattle.std.specs.Str.{bytes_eq}
use Rattle.std.proofs.lemmas.Bool.Decides.{nat_tests}
use Rattle.std.proofs.lemmas.List.{length-map, map_push}
use Rattle.std.proofs.lemmas.List.Elements.{All-nil, All-push}
use Rattle.std.proofs.lemmas.List.Folds.{list_any_at}
use Rattle.std.proofs.lemmas.List.Quantifiers.{all_pairs_push}
use Rattle.std.proofs.lemmas.Slice.Eq.{bytes_eq-Decides}
use Rattle.serde_json.specs.Data.{Data}
use Rattle.staat_manifest.specs.declared.refusal.ManifestRefusal.{ManifestRefusal}
use Rattle.staat_manifest.specs.declared.refusal.ManifestRefusal.TheVariants as refusal
use Rattle.staat_manifest.specs.declared.listing.ListedPart.{ListedPart}
use Rattle.staat_manifest.specs.Values.{Text, json_of, name_of, parts_value, pieces_in, text_in}
use Rattle.staat_manifest.specs.Answers.{AnswersList}
use Rattle.staat_manifest.specs.Listings.{IsListingWithin, listed}
use Rattle.staat_vec.specs.declared.vector.TheConstants.{POINT}
use Rattle.staat_vec.specs.Vectors.{IsWithin}
use Rattle.staat_manifest.proofs.PlacementLemmas.{at_within}
use Rattle.staat_manifest.specs.Rules.{part_path, unless_broken, answer_of, first_refusal, form_rules, joint_rules, part_list_within, rule, rules_from, whole_rules}

-- all of some rules hold, so these and those do
split : (rules others : List (Option ManifestRefusal)) → first_refusal (rules ++ others) ≡ None → (first_refusal rules ≡ None) × (first_refusal others ≡ None)
split [] others h = (refl, h)
split (None ∷ rules) others h = split rules others h
split (Some e ∷ rules) others h = cc

holds : (b : Bool) (e : ManifestRefusal) → rule b e ≡ None → b ≡ true
holds true e h = refl
holds false e h = cc

-- each of the rules holds
kept : (rules : List (Option ManifestRefusal)) (i : ℕ) (b : Bool) (e : ManifestRefusal) → first_refusal rules ≡ None → slice_get rules i ≡ Some (rule b e) → b ≡ true
kept [] i b e h at = cc
kept (None ∷ rules) zero b e h at = holds b e cc
kept (None ∷ rules) (suc i) b e h at = kept rules i b e h at
kept (Some d ∷ rules) i b e h at = cc

-- what holds of the parts so far
record IsGood (most : ℕ) (parts : List ListedPart) : Type 0 where
  each : All (λ part. 1 ≤ length part.pieces) parts
  placed : All (λ part. IsWithin POINT part.at) parts
  pieces : sum_by (λ part. length part.pieces) parts ≤ most
  names : AllPairs (λ a b. a ≢ b) (map (λ part. part.name) parts)

has_pieces : (k : ℕ) (part : Data) → first_refusal (form_rules k part) ≡ None → 1 ≤ length (listed part).pieces
unfolding form_rules
has_pieces k part h =
    let some : nat_lt 0 (length (pieces_in part)) ≡ true = kept (form_rules k part) 5 _ (refusal.NoPieces k) h refl in
    rw (length-map (pieces_in part) text_in) (grind (arith, nat_tests, some))

is_placed : (k : ℕ) (part : Data) → first_refusal (form_rules k part) ≡ None → IsWithin POINT (listed part).at
unfolding form_rules
is_placed k part h = at_within part (kept (form_rules k part) 3 _ (refusal.BadShape (part_path k ++ codes "/at")) h refl)

is_new : (names : List Text) (name : Text) → list_any (bytes_eq name) names ≡ false → (k : ℕ) (d : Text) → k < length names → get_or names k d ≢ name
is_new names name none k d lt same =
    let found : list_any (bytes_eq name) names ≡ true = list_any_at (bytes_eq name) names k d lt ((bytes_eq-Decides name (get_or names k d)).1 (sym same)) in
    cc

grown : (most : ℕ) (earlier : List ListedPart) (part : Data) → IsGood most earlier → first_refusal (form_rules (length earlier) part) ≡ None → first_refusal (joint_rules most earlier (listed part)) ≡ None → IsGood most (earlier ++ listed part ∷ [])
grown most earlier part good form joint =
    let new : not (list_any (bytes_eq (name_of part)) (map (λ other. other.name) earlier)) ≡ true = kept (joint_rules most earlier (listed part)) 0 _ (refusal.RepeatedName (name_of part)) joint refl in
    let none : list_any (bytes_eq (name_of part)) (map (λ other. other.name) earlier) ≡ false = grind (arith, new) in
    let few : nat_le (sum_by (λ other. length other.pieces) (earlier ++ listed part ∷ [])) most ≡ true = kept (joint_rules most earlier (listed part)) 1 _ refusal.TooManyPieces joint refl in
    record {
      each = All-push (λ (p : ListedPart). 1 ≤ length p.pieces) earlier (listed part) good.each (has_pieces (length earlier) part form);
      placed = All-push (λ (p : ListedPart). IsWithin POINT p.at) earlier (listed part) good.placed (is_placed (length earlier) part form);
      pieces = grind (arith, nat_tests, few);
      names = subst (λ (names : List Text). AllPairs (λ a b. a ≢ b) names) (sym (map_push (λ (p : ListedPart). p.name) earlier (listed part)))
          (all_pairs_push (λ (a b : Text). a ≢ b) (map (λ p. p.name) earlier) (name_of part) good.names (is_new (map (λ p. p.name) earlier) (name_of part) none));
    }

all_good : (most : ℕ) (earlier : List ListedPart) (parts : List Data) → IsGood most earlier → first_refusal (rules_from most earlier parts) ≡ None → IsGood most (earlier ++ map listed parts)
all_good most earlier [] good h = subst (IsGood most) (sym (append-nil earlier)) good
all_good most earlier (part ∷ later) good h =
    let parted = split (form_rules (length earlier) part ++ joint_rules most earlier (listed part)) (rules_from most (earlier ++ listed part ∷ []) later) h in
    let own = split (form_rules (length earlier) part) (joint_rules most earlier (listed part)) parted.0 in
    subst (IsGood most) (append_assoc earlier (listed part ∷ []) (map listed later)) (all_good most (earlier ++ listed part ∷ []) later (grown most earlier part good own.0 own.1) parted.1)

none_good : (most : ℕ) → IsGood most []
none_good most = record { each = All-nil (λ (p : ListedPart). 1 ≤ length p.pieces); placed = All-nil (λ (p : ListedPart). IsWithin POINT p.at); pieces = omega arith; names = λ i j d lt within. absurd (omega arith) }

is_listing : (most_parts most : ℕ) (value : Data) → first_refusal (whole_rules most_parts value ++ rules_from most [] (parts_value value)) ≡ None → IsListingWithin most_parts most (map listed (parts_value value))
unfolding whole_rules
is_listing most_parts most value h =
    let parted = split (whole_rules most_parts value) (rules_from most [] (parts_value value)) h in
    let some : nat_lt 0 (length (parts_value value)) ≡ true = kept (whole_rules most_parts value) 1 _ (refusal.BadShape (codes "/parts")) parted.0 refl in
    let few : nat_le (length (parts_value value)) most_parts ≡ true = kept (whole_rules most_parts value) 3 _ refusal.TooManyParts parted.0 refl in
    let good = all_good most [] (parts_value value) (none_good most) parted.1 in
    record {
      at_least = rw (length-map (parts_value value) listed) (grind (arith, nat_tests, some));
      at_most = rw (length-map (parts_value value) listed) (grind (arith, nat_tests, few));
      each = good.each;
      placed = good.placed;
      pieces = good.pieces;
      names = good.names;
    }

accepted : (most_parts most : ℕ) (broken : Option ManifestRefusal) (parts list : List ListedPart) → (broken ≡ None → IsListingWithin most_parts most parts) → unless_broken broken parts ≡ Ok list → IsListingWithin most_parts most list
accepted most_parts most None parts list h e =
    let same : parts ≡ list = cc in
    subst (IsListingWithin most_parts most) same (h refl)
accepted most_parts most (Some refusal) parts list h e = cc

of_value : (most_parts most : ℕ) (value : Option Data) (list : List ListedPart) → answer_of most_parts most value ≡ Ok list → IsListingWithin most_parts most list
of_value most_parts most None list e = cc
of_value most_parts most (Some value) list e = accepted most_parts most _ _ list (is_listing most_parts most value) e

-- what is accepted keeps the limits
pub within_limits : (most_parts most : ℕ) (bytes : Text) (result : Result (List ListedPart) ManifestRefusal) → AnswersList (part_list_within most_parts most bytes) result → IfOk result (IsListingWithin most_parts most)
unfolding part_list_within
within_limits most_parts most bytes (Ok list) e = of_value most_parts most (json_of bytes) list e
within_limits most_parts most bytes (Err refusal) e = tt
