-- Rules that are tested one after another, part by part.
use Rattle.std.proofs.Common.{◌≡◌, ◌++◌, ◌+◌, ◌∷◌, ◌<◌, ◌≤◌, ℕ, List, [], map, length, drop, take, get_or, Option, Some, None, Result, Ok, Err, ap, refl, subst, sym, ◌∙◌, arith}
use borrow.Author.Tests.{le-true, lt-false}
use Rattle.std.specs.List.{sum_by}
use Rattle.std.specs.Prelude.{IsErrAnd}
use Rattle.std.proofs.lemmas.List.{at_drop_more, drop_all, map_more, map_push, take_all}
use Rattle.std.proofs.lemmas.List.Sums.{sum_by-append}
use Rattle.serde_json.specs.Data.{Data}
use Rattle.serde_json.specs.View.{view}
use Rattle.serde_json.specs.declared.value.Value.{Value}
use Rattle.staat_manifest.specs.declared.refusal.ManifestRefusal.{ManifestRefusal}
use Rattle.staat_manifest.specs.declared.refusal.ManifestRefusal.TheVariants as refusal
use Rattle.staat_manifest.specs.declared.listing.ListedPart.{ListedPart}
use Rattle.staat_manifest.specs.Listings.{listed}
use Rattle.staat_manifest.specs.Values.{Text, parts_value}
use Rattle.staat_manifest.specs.Answers.{AnswersList, JudgesPart, RefusesPart}
use Rattle.staat_manifest.specs.Rules.{unless_broken, answer_of, count_rule, first_refusal, form_rules, joint_rules, name_rule, part_rules, rule, rules_from, whole_rules}

-- where these rules hold, the others decide
pub passed : (rules others : List (Option ManifestRefusal)) → first_refusal rules ≡ None → first_refusal (rules ++ others) ≡ first_refusal others
passed [] others h = refl
passed (None ∷ rules) others h = passed rules others h
passed (Some e ∷ rules) others h = cc

-- where one of these is broken, the others do not matter
pub stopped : (e : ManifestRefusal) (rules others : List (Option ManifestRefusal)) → first_refusal rules ≡ Some e → first_refusal (rules ++ others) ≡ Some e
stopped e [] others h = cc
stopped e (None ∷ rules) others h = stopped e rules others h
stopped e (Some d ∷ rules) others h = h

-- a refusal by some of the rules is one by all
pub passed_on : (e : ManifestRefusal) (some all : Option ManifestRefusal) (parts : List ListedPart) → ((d : ManifestRefusal) → some ≡ Some d → all ≡ Some d) → RefusesPart some e → AnswersList (unless_broken all parts) (Err e)
passed_on refusal.NotJson some all parts h j = ap (λ o. unless_broken o parts) (h _ j)
passed_on (refusal.BadShape path) some all parts h j = ap (λ o. unless_broken o parts) (h _ j)
passed_on (refusal.RepeatedName name) some all parts h j = ap (λ o. unless_broken o parts) (h _ j)
passed_on (refusal.NoPieces part) some all parts h j = ap (λ o. unless_broken o parts) (h _ j)
passed_on refusal.TooManyParts some all parts h j = ap (λ o. unless_broken o parts) (h _ j)
passed_on refusal.TooManyPieces some all parts h j = ap (λ o. unless_broken o parts) (h _ j)
passed_on refusal.OutOfMemory some all parts h j = tt

refused_too : (e : ManifestRefusal) (some all : Option ManifestRefusal) → ((d : ManifestRefusal) → some ≡ Some d → all ≡ Some d) → RefusesPart some e → RefusesPart all e
refused_too refusal.NotJson some all h j = h _ j
refused_too (refusal.BadShape path) some all h j = h _ j
refused_too (refusal.RepeatedName name) some all h j = h _ j
refused_too (refusal.NoPieces part) some all h j = h _ j
refused_too refusal.TooManyParts some all h j = h _ j
refused_too refusal.TooManyPieces some all h j = h _ j
refused_too refusal.OutOfMemory some all h j = tt

-- the same where the answer is no list
pub refused_by : {X : Type 0} (e : ManifestRefusal) (some all : Option ManifestRefusal) (r : Result X ManifestRefusal) → IsErrAnd r (λ f. f ≡ e) → ((d : ManifestRefusal) → some ≡ Some d → all ≡ Some d) → RefusesPart some e → JudgesPart all r
refused_by e some all (Ok x) fails h j = absurd fails
refused_by e some all (Err f) fails h j = subst (RefusesPart all) (sym fails) (refused_too e some all h j)

-- ---- a part with those before it

second : (first then : Option ManifestRefusal) → first ≡ None → first_refusal (first ∷ then ∷ []) ≡ then
second None None h = refl
second None (Some e) h = refl
second (Some d) then h = cc

module _ (most : ℕ) (earlier : List ListedPart) (part : ListedPart) (names : List Text) (count : ℕ) (named : names ≡ map (λ other. other.name) earlier) (counted : count ≡ sum_by (λ other. length other.pieces) earlier) where
  name : name_rule names part.name ≡ name_rule (map (λ other. other.name) earlier) part.name
  name = ap (λ others. name_rule others part.name) named

  -- the pieces are those of the others and its own
  pub total : sum_by (λ other. length other.pieces) (earlier ++ part ∷ []) ≡ count + length part.pieces
  total = sum_by-append (λ other. length other.pieces) earlier (part ∷ []) ∙ omega (arith, counted)

  -- its name is repeated
  pub name_repeated : (e : ManifestRefusal) → name_rule names part.name ≡ Some e → first_refusal (joint_rules most earlier part) ≡ Some e
  name_repeated e h = ap (λ r. first_refusal (r ∷ count_rule most (sum_by (λ other. length other.pieces) (earlier ++ part ∷ [])) ∷ [])) (sym name ∙ h)

  -- its name is new, so its pieces decide
  pub by_count : name_rule names part.name ≡ None → first_refusal (joint_rules most earlier part) ≡ count_rule most (count + length part.pieces)
  by_count h = second _ _ (sym name ∙ h) ∙ ap (count_rule most) total

pub count_over : (most count : ℕ) → most < count → count_rule most count ≡ Some refusal.TooManyPieces
count_over most count over = ap (λ holds. rule holds refusal.TooManyPieces) (sym (lt-false count most over))

pub count_within : (most count : ℕ) → count ≤ most → count_rule most count ≡ None
count_within most count within = ap (λ holds. rule holds refusal.TooManyPieces) (sym (le-true count most within))

-- ---- all rules for a part

module _ (most : ℕ) (earlier : List ListedPart) (value : Data) (k : ℕ) (number : k ≡ length earlier) where
  form : first_refusal (form_rules (length earlier) value) ≡ first_refusal (form_rules k value)
  form = ap (λ n. first_refusal (form_rules n value)) (sym number)

  -- the part breaks a rule by itself
  pub form_refuses : (e : ManifestRefusal) → first_refusal (form_rules k value) ≡ Some e → first_refusal (part_rules most earlier value) ≡ Some e
  form_refuses e h = stopped e (form_rules (length earlier) value) (joint_rules most earlier (listed value)) (form ∙ h)

  -- it breaks none by itself, so those decide that it has with the parts before it
  pub by_joint : first_refusal (form_rules k value) ≡ None → first_refusal (part_rules most earlier value) ≡ first_refusal (joint_rules most earlier (listed value))
  by_joint h = passed (form_rules (length earlier) value) (joint_rules most earlier (listed value)) (form ∙ h)

-- ---- the parts from part k on

-- what is listed of the values so far, with the next one
pub seen_more : {X : Type 0} (f : Data → X) (values : List Value) (k : ℕ) (v : Value) → k < length values → v ≡ get_or values k v → (so_far list : List X) → list ≡ so_far ++ f (view v) ∷ [] → so_far ≡ map f (map view (take k values)) → list ≡ map f (map view (take (k + 1) values))
seen_more f values k v more is so_far list grown same =
    grown ∙ ap (λ xs. xs ++ f (view v) ∷ []) same
    ∙ ap (λ x. map f (map view (take k values)) ++ f (view x) ∷ []) is
    ∙ sym (ap (map f) (map_more view values k v more) ∙ map_push f (map view (take k values)) (view (get_or values k v)))

module _ (most : ℕ) (earlier : List ListedPart) (values : List Value) (k : ℕ) (v : Value) (more : k < length values) (is : v ≡ get_or values k v) where
  -- the list with this part
  pub list_more : (list : List ListedPart) → list ≡ earlier ++ listed (view v) ∷ [] → earlier ≡ map listed (map view (take k values)) → list ≡ map listed (map view (take (k + 1) values))
  list_more list grown so_far = seen_more listed values k v more is earlier list grown so_far

  module _ (all : Option ManifestRefusal) (whole : first_refusal (rules_from most earlier (map view (drop k values))) ≡ all) where
    later : List (Option ManifestRefusal)
    later = rules_from most (earlier ++ listed (view v) ∷ []) (map view (drop (k + 1) values))

    here : first_refusal (part_rules most earlier (view v) ++ later) ≡ all
    unfolding later
    here =
        ap (λ x. first_refusal (rules_from most earlier (view x ∷ map view (drop (k + 1) values)))) is
        ∙ sym (at_drop_more (λ vs. first_refusal (rules_from most earlier (map view vs))) values k v more) ∙ whole

    -- the part breaks a rule
    pub part_refuses : (e : ManifestRefusal) → first_refusal (part_rules most earlier (view v)) ≡ Some e → all ≡ Some e
    part_refuses e h = sym here ∙ stopped e (part_rules most earlier (view v)) later h

    -- the part keeps its rules
    pub goes_on : first_refusal (part_rules most earlier (view v)) ≡ None → (list : List ListedPart) → list ≡ earlier ++ listed (view v) ∷ [] → first_refusal (rules_from most list (map view (drop (k + 1) values))) ≡ all
    unfolding later
    goes_on h list grown =
        ap (λ l. first_refusal (rules_from most l (map view (drop (k + 1) values)))) grown
        ∙ sym (passed (part_rules most earlier (view v)) later h) ∙ here

-- all parts keep their rules
pub all_listed : (most : ℕ) (values : List Value) (k : ℕ) (list : List ListedPart) → length values ≤ k → first_refusal (rules_from most list (map view (drop k values))) ≡ first_refusal (rules_from most [] (map view values)) → list ≡ map listed (map view (take k values)) → unless_broken (first_refusal (rules_from most [] (map view values))) (map listed (map view values)) ≡ Ok list
all_listed most values k list le rules is =
    ap (λ broken. unless_broken broken (map listed (map view values))) (sym rules ∙ ap (λ vs. first_refusal (rules_from most list (map view vs))) (drop_all k values le))
    ∙ ap Ok (sym (is ∙ ap (λ vs. map listed (map view vs)) (take_all k values le)))

-- ---- the whole

module _ (most_parts most : ℕ) (value : Data) where
  -- the whole value breaks a rule
  pub whole_refuses : (e : ManifestRefusal) → RefusesPart (first_refusal (whole_rules most_parts value)) e → AnswersList (answer_of most_parts most (Some value)) (Err e)
  whole_refuses e h = passed_on e _ _ _ (λ d. stopped d (whole_rules most_parts value) (rules_from most [] (parts_value value))) h

  -- the parts decide
  pub by_parts : first_refusal (whole_rules most_parts value) ≡ None → (parts : List Data) → parts ≡ parts_value value → answer_of most_parts most (Some value) ≡ unless_broken (first_refusal (rules_from most [] parts)) (map listed parts)
  by_parts h parts same =
      ap (λ o. unless_broken o (map listed (parts_value value))) (passed (whole_rules most_parts value) (rules_from most [] (parts_value value)) h)
      ∙ ap (λ ps. unless_broken (first_refusal (rules_from most [] ps)) (map listed ps)) (sym same)
