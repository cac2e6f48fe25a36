-- Marks while ways are gone through.
use Rattle.std.proofs.Common.{◌≡◌, ◌⊎◌, ℕ, zero, suc, ◌+◌, ◌<◌, ◌≤◌, Bool, true, false, List, [], ◌∷◌, ◌++◌, length, get_or, take, inl, inr, ⊎_elim, refl, sym, ap, subst, ◌∙◌, arith, Contains}
use Rattle.std.proofs.lemmas.List.{take_more}
use Rattle.std.proofs.lemmas.List.Elements.{All-push}
use Rattle.std.specs.Prelude.{◌||◌}
use Rattle.staat_holds.specs.declared.ways.Way.{Way}
use Rattle.staat_holds.specs.VisitedNodes.{KeepsVisited, ReachesVisited, AreShut, HasWay, IsVisited, visited_count}
use Rattle.staat_holds.specs.Reaching.{Reaches, here, along}

-- an element is the same whatever stands for a missing one
pub get_or_same : {X : Type 0} (xs : List X) (k : ℕ) (d e : X) → k < length xs → get_or xs k e ≡ get_or xs k d
get_or_same [] k d e lt = absurd (omega (arith, lt))
get_or_same (x ∷ xs) zero d e lt = refl
get_or_same (x ∷ xs) (suc k) d e lt = get_or_same xs k d e (omega (arith, lt))

pub reach_more : {R : ℕ → ℕ → Type 0} {x y z : ℕ} → Reaches R x y → R y z → Reaches R x z
reach_more here r = along _ r here
reach_more (along y s rest) r = along y s (reach_more rest r)

-- the marks after the first ways
pub record Marks (ways : List Way) (i : ℕ) (old now : List Bool) (is_new : Bool) : Type 0 where
  pub long : length now ≡ length old
  pub kept : KeepsVisited old now
  pub reached : (x : ℕ) → ReachesVisited ways x old → ReachesVisited ways x now
  pub shut : is_new ≡ false → AreShut (take i ways) now
  pub more : is_new ≡ true → visited_count old < visited_count now
  pub most : visited_count old ≤ visited_count now

-- what one way does
pub record Step (way : Way) (old now : List Bool) (found : Bool) : Type 0 where
  pub long : length now ≡ length old
  pub kept : KeepsVisited old now
  pub only : (k : ℕ) → IsVisited now k → IsVisited old k ⊎ (IsVisited old way.from × (way.to ≡ k))
  pub same : found ≡ false → now ≡ old
  pub shut : found ≡ false → IsVisited old way.from → IsVisited old way.to
  pub more : found ≡ true → visited_count old < visited_count now

-- whether one of the two holds
pub record IsEither (a b c : Bool) : Type 0 where
  pub neither : c ≡ false → (a ≡ false) × (b ≡ false)
  pub some : c ≡ true → (a ≡ true) ⊎ (b ≡ true)

pub marks_begin : (ways : List Way) (marks : List Bool) → Marks ways 0 marks marks false
marks_begin ways marks = record {
  long = refl;
  kept = λ k h. h;
  reached = λ x h. h;
  shut = λ e k d lt. absurd (omega (arith, lt));
  more = λ e. absurd (wrong e);
  most = omega arith;
}
  where
    wrong : false ≡ true → ⊥
    wrong e = cc

pub either_or : (a b : Bool) → IsEither a b (a || b)
either_or true b = record { neither = λ e. absurd (wrong e); some = λ e. inl refl }
  where
    wrong : true ≡ false → ⊥
    wrong e = cc
either_or false b = record { neither = λ e. (refl, e); some = λ e. inr e }

pub marks_next : (ways : List Way) (i : ℕ) (d : Way) (old now next : List Bool) (was found is_new : Bool) → i < length ways
    → IsEither was found is_new → Step (get_or ways i d) now next found → Marks ways i old now was → Marks ways (i + 1) old next is_new
marks_next ways i d old now next was found is_new lt either step m = record {
  long = step.long ∙ m.long;
  kept = λ k h. step.kept k (m.kept k h);
  reached = λ x r k h. ⊎_elim {C = Reaches (HasWay ways) x k} (λ g. m.reached x r k g)
      (λ g. reach_more (m.reached x r way.from g.0) (subst (λ z. HasWay ways way.from z) g.1 member))
      (step.only k h);
  shut = λ e. let none = either.neither e in
      subst (λ ws. AreShut ws next) (sym (take_more ways i d lt))
      (subst (AreShut (take i ways ++ way ∷ [])) (sym (step.same none.1))
      (All-push (λ w. IsVisited now w.from → IsVisited now w.to) (take i ways) way (m.shut none.0) (step.shut none.1)));
  more = λ e. ⊎_elim {C = visited_count old < visited_count next} (λ t. let a = m.more t in let b = grown in omega (arith, a, b)) (λ t. let a = m.most in let b = step.more t in omega (arith, a, b)) (either.some e);
  most = let a = m.most in let b = grown in omega (arith, a, b);
}
  where
    way : Way
    way = get_or ways i d

    member : Contains ways way
    member = (i, lt, get_or_same ways i d way lt)

    by_test : (b : Bool) → found ≡ b → visited_count now ≤ visited_count next
    by_test true e = let a = step.more e in omega (arith, a)
    by_test false e = let a : visited_count next ≡ visited_count now = ap visited_count (step.same e) in omega (arith, a)

    grown : visited_count now ≤ visited_count next
    grown = by_test found refl
