-- The names after holds that follow others, and the rules that these keep.
use Rattle.std.proofs.Common.{◌≡◌, ◌⊎◌, ℕ, zero, suc, List, [], ◌∷◌, ◌++◌, length, get_or, map, take, inl, inr, refl, sym, ap, subst, ◌∙◌}
use Rattle.std.specs.Prelude.{Option, None, Some, slice_get}
use Rattle.std.proofs.lemmas.Bool.{cases_eq}
use Rattle.std.proofs.lemmas.List.FromFn.{length-range_with_len}
use Rattle.staat_model.specs.declared.assembly.Part.{Part}
use Rattle.staat_holds.specs.declared.hold.Hold.{Hold}
use Rattle.staat_holds.specs.Chains.{AllKeep, KeepsHoldRules, joined_name, names_after, own_names}
use Rattle.staat_rest.specs.Nodes.{IsInNode, KeepFrom}
use Rattle.staat_vec.proofs.Options.{some_injective}

-- ---- names that are the parts' own

pub own_count : (count : ℕ) → length (own_names count) ≡ count
own_count count = length-range_with_len 0 count

-- ---- one list of holds after another

pub after_append : (names : List ℕ) (xs ys : List Hold) → names_after names (xs ++ ys) ≡ names_after (names_after names xs) ys
after_append names [] ys = refl
after_append names (h ∷ xs) ys = after_append (map (joined_name h.nodes) names) xs ys

pub keep_append : (parts : List Part) (names : List ℕ) (xs ys : List Hold) → KeepFrom parts names xs → KeepFrom parts (names_after names xs) ys → KeepFrom parts names (xs ++ ys)
keep_append parts names [] ys first second = second
keep_append parts names (h ∷ xs) ys first second = (first.0, keep_append parts (map (joined_name h.nodes) names) xs ys first.1 second)

keep_at : (parts : List Part) (names : List ℕ) (holds : List Hold) (m : ℕ) (hold : Hold) → KeepFrom parts names holds → slice_get holds m ≡ Some hold → KeepsHoldRules parts (names_after names (take m holds)) hold
keep_at parts names [] m hold keep at = absurd cc
keep_at parts names (h ∷ holds) zero hold keep at = subst (KeepsHoldRules parts names) (some_injective h hold at) keep.0
keep_at parts names (h ∷ holds) (suc m) hold keep at = keep_at parts (map (joined_name h.nodes) names) holds m hold keep.1 at

pub keep_all : (parts : List Part) (holds : List Hold) → KeepFrom parts (own_names (length parts)) holds → AllKeep parts holds
keep_all parts holds keep m hold lt at = keep_at parts (own_names (length parts)) holds m hold keep at

-- ---- whether a part belongs to a node

pub part_or : (names : List ℕ) (n p : ℕ) → IsInNode names n p ⊎ (IsInNode names n p → ⊥)
part_or names n p = go (slice_get names p) refl
  where
    some : (m : ℕ) → slice_get names p ≡ Some m → (m ≡ n) ⊎ (m ≡ n → ⊥) → IsInNode names n p ⊎ (IsInNode names n p → ⊥)
    some m is (inl e) = inl (is ∙ ap Some e)
    some m is (inr ne) = inr (λ h. ne (some_injective m n (sym is ∙ h)))

    go : (o : Option ℕ) → slice_get names p ≡ o → IsInNode names n p ⊎ (IsInNode names n p → ⊥)
    go None is = inr (λ h. let wrong : None ≡ Some n = sym is ∙ h in absurd cc)
    go (Some m) is = some m is (cases_eq m n)
