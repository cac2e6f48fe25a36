-- One hold more of those that keep the rules.
use Rattle.std.proofs.Common.{◌≡◌, ℕ, zero, suc, ◌+◌, ◌<◌, ◌≤◌, ◌^◌, List, [], ◌∷◌, length, get_or, map, take, ⊎_elim, sym, ap, subst, ◌∙◌, arith}
use Rattle.std.specs.Prelude.{Option, None, Some, MatchOption, slice_get}
use Rattle.std.proofs.lemmas.Bool.{cases_eq}
use Rattle.std.proofs.lemmas.List.FromFn.{length-range_with_len}
use Rattle.staat_model.specs.declared.assembly.Part.{Part}
use Rattle.staat_holds.specs.declared.hold.Hold.{Hold}
use Rattle.staat_holds.specs.declared.hold.HoldRule.{HoldRule}
use Rattle.staat_holds.specs.Chains.{AllKeep, FirstKeep, IsFirstBroken, IsFirstRule, KeepsHoldRules, joined_name, names_after, names_before, own_names}
use Rattle.staat_vec.proofs.ListLaws.{map_length, place_is}
use Rattle.staat_vec.proofs.Options.{some_injective}

pub after_more : (names : List ℕ) (holds : List Hold) (k : ℕ) (hold : Hold) → slice_get holds k ≡ Some hold
    → names_after names (take (suc k) holds) ≡ map (joined_name hold.nodes) (names_after names (take k holds))
after_more names [] k hold at = cc
after_more names (h ∷ holds) zero hold at = ap (λ (g : Hold). map (joined_name g.nodes) names) (some_injective h hold at)
after_more names (h ∷ holds) (suc k) hold at = after_more (map (joined_name h.nodes) names) holds k hold at

pub keep_more : (parts : List Part) (holds : List Hold) (k : ℕ) (hold : Hold) → slice_get holds k ≡ Some hold → FirstKeep parts holds k → KeepsHoldRules parts (names_before parts holds k) hold → FirstKeep parts holds (k + 1)
keep_more parts holds k hold at before keeps m h lt at_m = ⊎_elim {C = KeepsHoldRules parts (names_before parts holds m) h}
    (λ e. subst (λ j. KeepsHoldRules parts (names_before parts holds j) h) (sym e)
    (subst (KeepsHoldRules parts (names_before parts holds k)) (some_injective hold h (sym at ∙ subst (λ j. slice_get holds j ≡ Some h) e at_m)) keeps))
    (λ other. before m h (omega (arith, lt, other)) at_m) (cases_eq m k)

-- ---- as many names as parts

pub names_after_length : (names : List ℕ) (holds : List Hold) → length (names_after names holds) ≡ length names
names_after_length names [] = λ i. length names
names_after_length names (hold ∷ holds) = names_after_length (map (joined_name hold.nodes) names) holds ∙ map_length (joined_name hold.nodes) names

pub few_names : (parts : List Part) (holds : List Hold) (k : ℕ) (names now : List ℕ) → now ≡ names → names ≡ names_before parts holds k → length parts < 2 ^ 32 → length now < 2 ^ 32
few_names parts holds k names now same is few =
    let long = ap length (same ∙ is) ∙ names_after_length (own_names (length parts)) (take k holds) ∙ length-range_with_len 0 (length parts) in
    omega (arith, long, few)

-- ---- a step of the loop

pub broken_at : (parts : List Part) (holds : List Hold) (k : ℕ) (hold : Hold) (names now : List ℕ) (rule : HoldRule) → now ≡ names → names ≡ names_before parts holds k → k < length holds → hold ≡ get_or holds k hold
    → FirstKeep parts holds k → IsFirstRule parts now hold rule → IsFirstBroken parts holds (record { hold = k; rule = rule })
broken_at parts holds k hold names now rule same is lt at before breaks = record {
  hold = hold;
  at = place_is holds k hold lt at;
  before = before;
  rule = subst (λ ns. IsFirstRule parts ns hold rule) (same ∙ is) breaks;
}

pub names_next : (parts : List Part) (holds : List Hold) (k : ℕ) (hold : Hold) (names now nodes next : List ℕ) → now ≡ names → names ≡ names_before parts holds k → nodes ≡ hold.nodes → k < length holds → hold ≡ get_or holds k hold
    → next ≡ map (joined_name nodes) now → next ≡ names_before parts holds (k + 1)
names_next parts holds k hold names now nodes next same is of_hold lt at joined =
    let more : suc k ≡ k + 1 = omega arith in
    joined ∙ ap (λ ns. map (joined_name ns) now) of_hold ∙ ap (map (joined_name hold.nodes)) (same ∙ is)
    ∙ sym (after_more (own_names (length parts)) holds k hold (place_is holds k hold lt at)) ∙ ap (λ j. names_after (own_names (length parts)) (take j holds)) more

pub keep_next : (parts : List Part) (holds : List Hold) (k : ℕ) (hold : Hold) (names now : List ℕ) → now ≡ names → names ≡ names_before parts holds k → k < length holds → hold ≡ get_or holds k hold
    → FirstKeep parts holds k → KeepsHoldRules parts now hold → FirstKeep parts holds (k + 1)
keep_next parts holds k hold names now same is lt at before keeps =
    keep_more parts holds k hold (place_is holds k hold lt at) before (subst (λ ns. KeepsHoldRules parts ns hold) (same ∙ is) keeps)

pub keep_end : (parts : List Part) (holds : List Hold) (k : ℕ) → length holds ≤ k → FirstKeep parts holds k → AllKeep parts holds
keep_end parts holds k le before m hold lt at = before m hold (omega (arith, lt, le)) at

-- ---- what an answer tells

pub tells_none : {X : Type 0} (A : Type 0) (B : X → Type 0) (answer : Option X) → answer ≡ None → MatchOption answer A B → A
tells_none A B answer is tells = subst (λ o. MatchOption o A B) is tells

pub tells_some : {X : Type 0} (A : Type 0) (B : X → Type 0) (answer : Option X) (x : X) → answer ≡ Some x → MatchOption answer A B → B x
tells_some A B answer x is tells = subst (λ o. MatchOption o A B) is tells
