use Rattle.std.proofs.Common.{◌≡◌, ◌∙◌, ◌+◌, ◌<◌, ℕ, ℤ, List, ap, drop, get_or, length, pos, arith, sym}
use Rattle.std.specs.Prelude.{None, Option, Some, option_and_then}
use Rattle.std.specs.FinSet as set
use Rattle.std.proofs.lemmas.Int.{ints, to_z-of_z}
use Rattle.std.proofs.lemmas.List.{at_drop_all, at_drop_more}
use Rattle.staat_model.specs.declared.set.PartSet.{PartSet}
use Rattle.staat_model.specs.Sets.{single}
use Rattle.staat_cert.specs.LineReading.{member_from, set_from}
use Rattle.staat_cert.proofs.LineShapes.{Reads}
use Rattle.staat_cert.proofs.line.set_of.Goals as goal

-- what one number more makes of the set
read_on : (zs : List ℤ) (i least : ℕ) (w : PartSet) (d : ℤ) (o : Option ℕ) (whole : Option PartSet) → i < length zs
    → o ≡ member_from least (get_or zs i d) → set_from least w (drop i zs) ≡ whole
    → option_and_then (λ p. set_from (p + 1) (set.union w (single p)) (drop (i + 1) zs)) o ≡ whole
read_on zs i least w d o whole lt is so_far =
    ap (option_and_then (λ p. set_from (p + 1) (set.union w (single p)) (drop (i + 1) zs))) is
    ∙ sym (at_drop_more (set_from least w) zs i d lt)
    ∙ so_far

pub returns : goal.returns
returns c =
    sym (at_drop_all (set_from c.numbers.least c.numbers.w) c.args.numbers.now c.numbers.z-index c.numbers-test.false)
    ∙ c.numbers.invariant

pub returns-in_err-p : goal.returns-in_err-p
returns-in_err-p c =
    let same : Reads c.args.numbers.now c.numbers.z-index = grind (arith, ints, to_z-of_z) in
    c.from_residual.ensures
    ∙ read_on c.args.numbers.now c.numbers.z-index c.numbers.least c.numbers.w (pos 0) None _ c.numbers-test.true
    (sym c.in_err-p.was ∙ rw same at c.part_of.ensures.is) c.numbers.invariant

pub numbers-preserved : goal.numbers-preserved
numbers-preserved c =
    let same : Reads c.args.numbers.now c.numbers.z-index = grind (arith, ints, to_z-of_z) in
    ap (λ s. set_from (c.in_ok-p.p + 1) s (drop (c.numbers.z-index + 1) c.args.numbers.now))
    (c.union-w.ensures.is ∙ ap (set.union c.numbers.w) c.single.ensures.is)
    ∙ read_on c.args.numbers.now c.numbers.z-index c.numbers.least c.numbers.w (pos 0) (Some c.in_ok-p.p) _ c.numbers-test.true
    (sym c.in_ok-p.was ∙ rw same at c.part_of.ensures.is) c.numbers.invariant
