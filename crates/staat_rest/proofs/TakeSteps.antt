-- The holds of some nodes, taken one after the other.
use Rattle.std.proofs.Common.{◌≡◌, ℕ, zero, suc, ◌+◌, ◌<◌, List, [], ◌∷◌, ◌++◌, length, get_or, take, refl, sym, ap, subst, ◌∙◌, arith, Contains, append_assoc}
use Rattle.std.specs.List.Sorted.{IsStrictlySortedBy}
use Rattle.std.specs.Ordering.{nat_cmp}
use Rattle.std.proofs.lemmas.List.{append-nil, get_or-take, length-take, take_more}
use Rattle.std.proofs.lemmas.List.Elements.{Contains-append_left, Contains-push}
use Rattle.std.proofs.lemmas.Map.Keys.{below_from_sorted}
use Rattle.staat_holds.specs.declared.hold.Hold.{Hold}
use Rattle.staat_rest.specs.Nodes.{holds_of}

holds_push : (lists : List (List Hold)) (nodes : List ℕ) (n : ℕ) → holds_of lists (nodes ++ n ∷ []) ≡ holds_of lists nodes ++ get_or lists n []
holds_push lists [] n = append-nil (get_or lists n [])
holds_push lists (m ∷ nodes) n = ap (λ (l : List Hold). get_or lists m [] ++ l) (holds_push lists nodes n) ∙ sym (append_assoc (get_or lists m []) (holds_of lists nodes) (get_or lists n []))

-- a node does not stand before its place
pub not_before : (nodes : List ℕ) (i d : ℕ) → IsStrictlySortedBy nat_cmp nodes → i < length nodes → Contains (take i nodes) (get_or nodes i d) → ⊥
not_before nodes i d sorted lt (k, k_lt, e) =
    let few = length-take i nodes in
    let k_i : k < i = omega (arith, k_lt, few) in
    let front = get_or-take i nodes k (get_or nodes i d) k_i in
    let less = below_from_sorted nodes k i (get_or nodes i d) sorted k_i lt in
    let same : get_or nodes i (get_or nodes i d) ≡ get_or nodes i d = any nodes i lt in
    omega (arith, less, e, front, same)
  where
    any : (xs : List ℕ) (j : ℕ) → j < length xs → get_or xs j (get_or nodes i d) ≡ get_or xs j d
    any [] j lt = absurd (omega (arith, lt))
    any (x ∷ xs) zero lt = refl
    any (x ∷ xs) (suc j) lt = any xs j (omega (arith, lt))

pub taken_more : (lists now : List (List Hold)) (nodes : List ℕ) (i d : ℕ) (joined next holds : List Hold) → IsStrictlySortedBy nat_cmp nodes → i < length nodes
    → ((n : ℕ) → (Contains (take i nodes) n → ⊥) → get_or now n [] ≡ get_or lists n []) → holds ≡ get_or now (get_or nodes i d) [] → next ≡ joined ++ holds
    → joined ≡ holds_of lists (take i nodes) → next ≡ holds_of lists (take (i + 1) nodes)
taken_more lists now nodes i d joined next holds sorted lt others taken is before =
    let own : holds ≡ get_or lists (get_or nodes i d) [] = taken ∙ others (get_or nodes i d) (not_before nodes i d sorted lt) in
    is ∙ ap (λ (l : List Hold). l ++ holds) before ∙ ap (λ (l : List Hold). holds_of lists (take i nodes) ++ l) own
    ∙ sym (holds_push lists (take i nodes) (get_or nodes i d)) ∙ ap (holds_of lists) (sym (take_more nodes i d lt))

pub others_more : (lists now next : List (List Hold)) (nodes : List ℕ) (i d : ℕ) → i < length nodes
    → ((n : ℕ) → (n ≡ get_or nodes i d → ⊥) → get_or next n [] ≡ get_or now n [])
    → ((n : ℕ) → (Contains (take i nodes) n → ⊥) → get_or now n [] ≡ get_or lists n [])
    → (n : ℕ) → (Contains (take (i + 1) nodes) n → ⊥) → get_or next n [] ≡ get_or lists n []
others_more lists now next nodes i d lt changed before n off =
    let more = take_more nodes i d lt in
    changed n (λ e. off (subst (λ (l : List ℕ). Contains l n) (sym more) (subst (Contains (take i nodes ++ get_or nodes i d ∷ [])) (sym e) (Contains-push (take i nodes) (get_or nodes i d)))))
    ∙ before n (λ c. off (subst (λ (l : List ℕ). Contains l n) (sym more) (Contains-append_left (take i nodes) (get_or nodes i d ∷ []) n c)))

-- ---- lists with no holds

pub none_more : (lists next : List (List Hold)) (last : List Hold) → last ≡ [] → next ≡ lists ++ last ∷ [] → ((n : ℕ) → get_or lists n [] ≡ []) → (n : ℕ) → get_or next n [] ≡ []
none_more lists next last e is none n = ap (λ (l : List (List Hold)). get_or l n []) is ∙ go lists n none
  where
    go : (xs : List (List Hold)) (n : ℕ) → ((m : ℕ) → get_or xs m [] ≡ []) → get_or (xs ++ last ∷ []) n [] ≡ []
    go [] zero all = e
    go [] (suc n) all = refl
    go (x ∷ xs) zero all = all 0
    go (x ∷ xs) (suc n) all = go xs n (λ m. all (suc m))
