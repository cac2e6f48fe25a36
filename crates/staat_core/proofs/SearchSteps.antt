-- What a search over directions has found.
use Rattle.std.proofs.Common.{◌≡◌, ℕ, ◌+◌, ◌*◌, ◌≤◌, arith, ap, sym, subst, ◌∙◌, refl, List, [], ◌∷◌, ◌++◌, length, length-append, All}
use Rattle.std.proofs.lemmas.List.{append_assoc}
use Rattle.std.proofs.lemmas.List.Elements.{All-append, All-nil, All-weaker}
use Rattle.staat_vec.specs.declared.vector.V3.{V3}
use Rattle.staat_vec.specs.Lists.{IsFirst}
use Rattle.staat_vec.specs.Vectors.{negative}
use Rattle.staat_vec.proofs.ListLaws.{first_left, first_right}
use Rattle.staat_core.specs.declared.search.Search.{Search}
use Rattle.staat_core.specs.declared.search.Search.TheVariants.{First, Nothing, Undecided}
use Rattle.staat_core.specs.declared.search.Served.{Served}
use Rattle.staat_core.specs.VertexSearch.{AreManyPassed, ArePassed, IsFirstServed, IsFirstUnless}

-- what none of them is, none is that is less
pub passed_weaker : (P Q : V3 → Type 0) (vs left : List V3) → ((d : V3) → Q d → P d) → ArePassed P vs left → ArePassed Q vs left
passed_weaker P Q vs left less p = record {
  before = p.before;
  is = p.is;
  none = All-weaker (λ v. P v → ⊥) (λ v. Q v → ⊥) (λ v not q. not (less v q)) p.before p.none;
}

module _ (serves : V3 → Type 0) where
  abbrev Not : V3 → Type 0
  Not v = serves v → ⊥

  -- a row more of which none serves
  pub row_passed : (vs left later row : List V3) → (p : ArePassed serves vs left) → left ≡ row ++ later → All Not row → ArePassed serves vs later
  row_passed vs left later row p e none = record {
    before = p.before ++ row;
    is = p.is ∙ (ap (λ l. p.before ++ l) e ∙ sym (append_assoc p.before row later));
    none = All-append Not p.before row p.none none;
  }

  pub none_passed : (vs : List V3) → ArePassed serves vs vs
  none_passed vs = record { before = []; is = refl; none = All-nil Not }

  pub none_tried : (vs : List V3) → AreManyPassed serves vs vs 0
  none_tried vs = record { passed = none_passed vs; many = omega arith }

  -- a pair of which neither serves
  pub pair_tried : (vs later : List V3) (d : V3) → vs ≡ d ∷ negative d ∷ later → All Not (d ∷ negative d ∷ []) → AreManyPassed serves vs later 1
  pair_tried vs later d e none = record { passed = record { before = d ∷ negative d ∷ []; is = e; none = none }; many = omega arith }

  pub all_passed : (vs left : List V3) → ArePassed serves vs left → All Not left → All Not vs
  all_passed vs left p none = subst (All Not) (sym p.is) (All-append Not p.before left p.none none)

  -- some passed over after others were tried, and then a pair
  tried_then : (vs left mid later : List V3) (k : ℕ) → AreManyPassed serves vs left k → ArePassed serves left mid → AreManyPassed serves mid later 1 → AreManyPassed serves vs later (k + 1)
  unfolding row_passed
  tried_then vs left mid later k tried p pair =
      let both = row_passed vs left mid p.before tried.passed p.is p.none in
      let one = length-append tried.passed.before p.before in
      let all = length-append both.before pair.passed.before in
      let many = tried.many in let more = pair.many in
      record { passed = row_passed vs mid later pair.passed.before both pair.passed.is pair.passed.none; many = omega (arith, many, more, one, all) }

  module _ {F : Type 0} (finds : V3 → F → Type 0) where
    -- the first of those that are left that serves, where those before do not
    pub first_after : (vs left : List V3) (s : Served F) → ArePassed serves vs left → IsFirstServed serves finds left s → IsFirstServed serves finds vs s
    first_after vs left s p h = record {
      first = subst (λ l. IsFirst serves l s.d) (sym p.is) (first_right serves p.before left s.d p.none h.first);
      found_is = h.found_is;
    }

    -- the first of two directions that serves
    pub first_of_pair : (vs later : List V3) (d : V3) (s : Served F) → vs ≡ d ∷ negative d ∷ later → IsFirstServed serves finds (d ∷ negative d ∷ []) s → IsFirstServed serves finds vs s
    first_of_pair vs later d s e h = record {
      first = subst (λ l. IsFirst serves l s.d) (sym e) (first_left serves (d ∷ negative d ∷ []) later s.d h.first);
      found_is = h.found_is;
    }

    -- what is found at a pair is found of all, where some were passed over after others were tried
    pub found_then : (vs left mid later : List V3) (k : ℕ) (r : Search F) → AreManyPassed serves vs left k → ArePassed serves left mid
        → IsFirstUnless (AreManyPassed serves mid later 1) serves finds mid r → IsFirstUnless (AreManyPassed serves vs later (k + 1)) serves finds vs r
    found_then vs left mid later k (First s) tried p h = first_after vs mid s (row_passed vs left mid p.before tried.passed p.is p.none) h
    found_then vs left mid later k Nothing tried p h = all_passed vs mid (row_passed vs left mid p.before tried.passed p.is p.none) h
    found_then vs left mid later k Undecided tried p h = tried_then vs left mid later k tried p h

    -- the same with less that is so where it ends undecided
    pub unless_weaker : (Old New : Type 0) (vs : List V3) (r : Search F) → (Old → New) → IsFirstUnless Old serves finds vs r → IsFirstUnless New serves finds vs r
    unless_weaker Old New vs (First s) weaker h = h
    unless_weaker Old New vs Nothing weaker h = h
    unless_weaker Old New vs Undecided weaker h = weaker h

  -- so many directions stand there, if so many were passed
  pub so_many : (vs left : List V3) (pairs : ℕ) → AreManyPassed serves vs left pairs → 2 * pairs ≤ length vs
  so_many vs left pairs tried =
      let is = ap length tried.passed.is in
      let many = tried.many in omega (arith, is, many, length-append tried.passed.before left)
