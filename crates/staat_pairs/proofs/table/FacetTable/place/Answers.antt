use Rattle.std.proofs.Common.{◌≡◌, ◌<◌, ◌+◌, ℕ, List, Fits, ap, get_or, subst, arith}
use Rattle.std.specs.Int.{w32}
use Rattle.staat_limits.specs.declared.limits.TheConstants.{MOST_PIECES}
use Rattle.staat_model.specs.Sets.{Has}
use Rattle.staat_pairs.specs.KeptTables.{IsNumberedTable}
use Rattle.staat_pairs.specs.Tables.{Table, pieces_of, place}
use Rattle.staat_pairs.proofs.NumberingLemmas.{below_64}
use Rattle.staat_pairs.proofs.table.FacetTable.place.Goals as goal

-- the table as it is kept, and as it is seen
module _ (kept t : Table) (firsts numbers : List ℕ) (a i : ℕ) (e : kept ≡ t) (h : IsNumberedTable kept firsts numbers) (part : Has t.of a) where
  seen : IsNumberedTable t firsts numbers
  seen = subst (λ v. IsNumberedTable v firsts numbers) e h

  part_below : a < 32
  part_below = seen.table.small a part

  place_is : get_or firsts a 0 + i ≡ place t.pieces a i
  place_is = ap (λ n. n + i) (seen.starts a part_below)

  place_small : i < pieces_of t a → get_or firsts a 0 + i < MOST_PIECES
  place_small there = rw place_is (below_64 t.pieces a i seen.table.most there)

small_fits : (n : ℕ) → n < MOST_PIECES → Fits w32 n
small_fits n h = omega arith

pub bounds-self-inside-a : goal.bounds-self-inside-a
bounds-self-inside-a c =
    part_below _ c.args.self.now c.self.inside.firsts c.self.inside.numbers.items c.args.a c.args.i c.self.view_is c.self.invariant c.requires.part

pub overflow_add-result : goal.overflow_add-result
overflow_add-result c =
    small_fits _ (place_small _ c.args.self.now c.self.inside.firsts c.self.inside.numbers.items c.args.a c.args.i c.self.view_is c.self.invariant c.requires.part c.requires.piece)

pub returns-clause-is : goal.returns-clause-is
returns-clause-is c =
    place_is _ c.args.self.now c.self.inside.firsts c.self.inside.numbers.items c.args.a c.args.i c.self.view_is c.self.invariant c.requires.part

pub returns-clause-small : goal.returns-clause-small
returns-clause-small c =
    place_small _ c.args.self.now c.self.inside.firsts c.self.inside.numbers.items c.args.a c.args.i c.self.view_is c.self.invariant c.requires.part c.requires.piece
