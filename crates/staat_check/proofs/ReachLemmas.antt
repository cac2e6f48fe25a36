-- What is reached by arcs, one after another.
use Rattle.std.proofs.Common.{◌≡◌, ◌⊎◌, ◌↔◌, inl, inr, ⊎_elim, ℕ, ◌+◌, ◌≤◌, arith, sym, subst, List, length, map, drop, All, IsTrue}
use Rattle.std.specs.Prelude.{Bool, Some, slice_get}
use Rattle.std.specs.FinSet as set
use Rattle.staat_model.specs.declared.assembly.Part.{Part}
use Rattle.staat_model.specs.declared.certificate.Arc.{Arc}
use Rattle.staat_model.specs.declared.set.PartSet.{PartSet}
use Rattle.staat_model.specs.Certificates.{IsArcWithin, ReachesAll}
use Rattle.staat_model.specs.Sets.{Has, IsLeastOf, single}
use Rattle.staat_model.proofs.SetMembers.{has-insert, has-single, has-union}
use Rattle.staat_model.proofs.SetWords.{same_members}
use Rattle.staat_check.specs.Reaching.{ReachesNew}
use Rattle.staat_pairs.proofs.DropLemmas.{drop_at}
use Rattle.staat_vec.proofs.ListLaws.{drop_end}

pub union_single : (s one : PartSet) (p : ℕ) → one ≡ single p → set.union s one ≡ set.insert s p
union_single s one p e = same_members (set.union s one) (set.insert s p)
    (λ q h. (has-insert s p q).1 (⊎_elim {C = (q ≡ p) ⊎ Has s q} (λ a. inr a) (λ b. inl ((has-single p q).0 (subst (λ t. Has t q) e b))) ((has-union s one q).0 h)))
    (λ q h. (has-union s one q).1 (⊎_elim {C = Has s q ⊎ Has one q} (λ a. inr (subst (λ t. Has t q) (sym e) ((has-single p q).1 a))) (λ b. inl b) ((has-insert s p q).0 h)))

pub leads_by : (w reached : PartSet) (p q from to : ℕ) → p ≡ from → q ≡ to → ReachesNew w reached from to → ReachesNew w reached p q
leads_by w reached p q from to e f h = subst (λ n. ReachesNew w reached n q) (sym e) (subst (λ n. ReachesNew w reached from n) (sym f) h)

module _ (step : Arc → ℕ × ℕ) (w start : PartSet) (arcs : List Arc) where
  abbrev pub Whole : Type 0
  Whole = ReachesAll w start (map step arcs)

  pub reach_none : (first : PartSet) → first ≡ start → ReachesAll w first (map step (drop 0 arcs)) ↔ Whole
  reach_none first e = (λ h. subst (λ s. ReachesAll w s (map step arcs)) e h, λ h. subst (λ s. ReachesAll w s (map step arcs)) (sym e) h)

  pub reach_next : (k : ℕ) (arc : Arc) (old new : PartSet) → slice_get arcs k ≡ Some arc → ReachesNew w old (step arc).0 (step arc).1 → new ≡ set.insert old (step arc).1
      → ReachesAll w old (map step (drop k arcs)) ↔ Whole → ReachesAll w new (map step (drop (k + 1) arcs)) ↔ Whole
  reach_next k arc old new at leads e law = (
    λ h. law.0 (subst (λ l. ReachesAll w old (map step l)) (sym (drop_at arcs k arc at)) (leads.from_in, leads.to_in, leads.to_new, subst (λ s. ReachesAll w s (map step (drop (k + 1) arcs))) e h)),
    λ h. let whole = subst (λ l. ReachesAll w old (map step l)) (drop_at arcs k arc at) (law.1 h) in subst (λ s. ReachesAll w s (map step (drop (k + 1) arcs))) (sym e) whole.3,
  )

  pub reach_not : (k : ℕ) (arc : Arc) (old : PartSet) → slice_get arcs k ≡ Some arc → (ReachesNew w old (step arc).0 (step arc).1 → ⊥) → ReachesAll w old (map step (drop k arcs)) ↔ Whole → Whole → ⊥
  reach_not k arc old at stops law h = let whole = subst (λ l. ReachesAll w old (map step l)) (drop_at arcs k arc at) (law.1 h) in stops (record { from_in = whole.0; to_in = whole.1; to_new = whole.2 })

  pub reach_end : (k : ℕ) (old : PartSet) (answer : Bool) → length arcs ≤ k → IsTrue answer ↔ (old ≡ w) → ReachesAll w old (map step (drop k arcs)) ↔ Whole → IsTrue answer ↔ Whole
  reach_end k old answer le same law = (
    λ t. law.0 (subst (λ l. ReachesAll w old (map step l)) (sym (drop_end arcs k le)) (same.0 t)),
    λ h. same.1 (subst (λ l. ReachesAll w old (map step l)) (drop_end arcs k le) (law.1 h)),
  )

-- ---- from the least part, which is one

-- what is told of arcs
abbrev pub AreTree : List Part → (Arc → ℕ × ℕ) → PartSet → ℕ → List Arc → Type 0
AreTree parts step w p arcs = All (IsArcWithin parts w) arcs × ReachesAll w (single p) (map step arcs)

pub reach_as : (parts : List Part) (step : Arc → ℕ × ℕ) (w : PartSet) (p q : ℕ) (arcs others : List Arc) → IsLeastOf w p → IsLeastOf w q → arcs ≡ others → AreTree parts step w p arcs → AreTree parts step w q others
reach_as parts step w p q arcs others a b e h =
    let same : p ≡ q = omega (arith, a.least q b.has, b.least p a.has) in
    subst (λ n. AreTree parts step w n others) same (subst (AreTree parts step w p) e h)
