-- Where contacts hold a set of parts together, no side of it begins to move.
use Rattle.std.proofs.Common.{inl, inr, sym, subst, map, List, Bool, All, Contains}
use Rattle.std.proofs.lemmas.List.Elements.{All-contains, Contains-append_cases}
use Rattle.staat_vec.specs.declared.vector.V3.{V3}
use Rattle.staat_model.specs.declared.assembly.Part.{Part}
use Rattle.staat_model.specs.declared.certificate.Arc.{Arc}
use Rattle.staat_model.specs.declared.set.PartSet.{PartSet}
use Rattle.staat_model.specs.Assemblies.{HoldsAt}
use Rattle.staat_model.proofs.Differences.{from_map}
use Rattle.staat_pairs.specs.Tables.{Table, WasMadeFrom, back}
use Rattle.staat_core.specs.declared.joins.Moving.TheVariants.{AnySide}
use Rattle.staat_core.specs.Moves.{HoldsMoves}
use Rattle.staat_core.specs.Sources.{both_ways}
use Rattle.staat_local.specs.Beginnings.{Loosens}
use Rattle.staat_local.specs.Contacts.{Contact}
use Rattle.staat_local.specs.Tightness.{IsMarkedPair}
use Rattle.staat_local.specs.Touching.{AreMarks}
use Rattle.staat_local.proofs.Holding.{starts_at}
use Rattle.staat_local.proofs.TouchMarks.{contact_back}

module _ (parts : List Part) (t : Table) (marks : List Bool) (pairs : List Arc) (made : WasMadeFrom parts t) (are : AreMarks parts t marks) (all : All (IsMarkedPair t marks) pairs) where
  touches : (pair : Arc) → Contains pairs pair → HoldsAt parts pair Contact
  touches pair listed = let p = All-contains (IsMarkedPair t marks) pairs pair all listed in (are pair p.pair_is.across).0 p.marked

  both_touch : (arc : Arc) → Contains (both_ways pairs) arc → HoldsAt parts arc Contact
  both_touch arc listed = elim (Contains-append_cases pairs (map back pairs) arc listed) [
    | inl h ↦ touches arc h
    | inr h ↦ let x = from_map back pairs arc h in subst (λ (a : Arc). HoldsAt parts a Contact) (sym x.2) (contact_back parts x.0 (touches x.0 x.1))
  ]

  pub held_loosens_not : (w : PartSet) (d : V3) → HoldsMoves parts (both_ways pairs) AnySide w d → Loosens parts w d → ⊥
  held_loosens_not w d held loosens =
      let free = loosens.free in
      held loosens.side loosens.is_side (λ arc listed a_in b_in m. free.clear arc a_in b_in ((starts_at parts d arc made.assembly).1 (both_touch arc listed, m)))
