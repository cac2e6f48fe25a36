use Rattle.std.proofs.Common.{◌≡◌, ◌+◌, ◌-◌, ◌<◌, ◌↔◌, ℕ, All, List, arith, length, pos, ◌<ℤ◌, subst, sym}
use Rattle.std.proofs.lemmas.Option.{IfSome_then}
use Rattle.staat_vec.specs.declared.vector.V3.{V3}
use Rattle.staat_vec.specs.Vectors.{dot}
use Rattle.staat_model.specs.declared.assembly.Part.{Part}
use Rattle.staat_pairs.specs.Searches.{arc_of}
use Rattle.staat_pairs.specs.Tables.{IsTable, IsTableArc, Table, facets_of, pieces_of, slot}
use Rattle.staat_ring.specs.CountedSigns.{Signed}
use Rattle.staat_ring.specs.WholeCircles.{IsFull}
use Rattle.staat_certify.specs.Witnesses.{StandsAmong}
use Rattle.staat_certify.proofs.WitnessLemmas.{full_is_ahead}
use Rattle.staat_certify.proofs.vantage.Vantage.first_met.Goals as goal

-- the slots of the pieces of one part follow each other
module _ (parts : List Part) (t : Table) (s : Signed) (d : V3) (stands : StandsAmong parts t s d) (a i b from : ℕ)
    (is : from ≡ slot t.pieces (arc_of a i b 0)) (first : IsTableArc t (arc_of a i b 0)) where
  across : (j : ℕ) → j < pieces_of t b → IsTableArc t (arc_of a i b j)
  across j lt = record { a_in = first.a_in; b_in = first.b_in; different = first.different; i_is = first.i_is; j_is = lt }

  within : (j : ℕ) → j < pieces_of t b → from + j < length s.pairs
  within j lt = let h = (stands.made.all (arc_of a i b j) (across j lt)).within in omega (arith, is, h)

  full_is : IsTable t → (j : ℕ) → j < pieces_of t b → IsFull s (from + j) ↔ All (λ n. pos 0 <ℤ dot n d) (facets_of t (arc_of a i b j))
  full_is rules j lt =
      let e : slot t.pieces (arc_of a i b j) ≡ from + j = omega (arith, is) in
      subst (λ q. IsFull s q ↔ All (λ n. pos 0 <ℤ dot n d) (facets_of t (arc_of a i b j))) e (full_is_ahead parts t s d stands rules (arc_of a i b j) (across j lt))

pub first_full-requires : goal.first_full-requires
first_full-requires c =
    let least = c.pieces.ensures.least in
    let h = within c.args.self.now.sound.now c.args.self.now.table.now c.args.self.now.signs.now c.args.self.now.d c.requires.at c.args.a c.args.i c.args.b c.args.from c.requires.from
    c.requires.across (c.pieces.result - 1) (omega (arith, least, c.pieces.ensures.is)) in
    omega (arith, least, h)

pub returns-clause-ahead : goal.returns-clause-ahead
returns-clause-ahead c = IfSome_then c.first_full.result c.first_full.ensures.full (λ j full.
    (full_is c.args.self.now.sound.now c.args.self.now.table.now c.args.self.now.signs.now c.args.self.now.d c.requires.at c.args.a c.args.i c.args.b c.args.from c.requires.from
    c.requires.across c.set-set.ensures.rules j (subst (λ n. j < n) c.pieces.ensures.is full.0)).0 full.1)

pub returns-clause-first : goal.returns-clause-first
returns-clause-first c h e =
    let t = c.args.self.now.table.now in
    c.first_full.ensures.first h.j (subst (λ n. h.j < n) (sym c.pieces.ensures.is) h.across.j_is)
    ((full_is c.args.self.now.sound.now t c.args.self.now.signs.now c.args.self.now.d c.requires.at c.args.a c.args.i c.args.b c.args.from c.requires.from
    c.requires.across c.set-set.ensures.rules h.j h.across.j_is).1
    (subst (λ i. All (λ n. pos 0 <ℤ dot n c.args.self.now.d) (facets_of t (arc_of c.args.a i c.args.b h.j))) e h.ahead))
