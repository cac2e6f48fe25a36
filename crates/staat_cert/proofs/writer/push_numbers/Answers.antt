use Rattle.std.proofs.Common.{◌≡◌, ◌∙◌, ◌+◌, ◌<◌, ℕ, ℤ, List, ◌∷◌, ◌++◌, ap, append_assoc, drop, get_or, length, pos, arith, sym, to_z, of_z}
use Rattle.std.specs.Int.{w128}
use Rattle.std.proofs.lemmas.Int.{ints, to_z-of_z}
use Rattle.std.specs.Fmt.{signed_decimal}
use Rattle.std.proofs.lemmas.List.{at_drop_all, at_drop_more}
use Rattle.std.proofs.lemmas.Result.{IfOk-from_err}
use Rattle.staat_model.specs.Lines.{spaced}
use Rattle.staat_cert.proofs.writer.push_numbers.Goals as goal

-- with one number more
spaced_more : (out now whole : List ℕ) (numbers : List ℤ) (i : ℕ) (d : ℤ) → i < length numbers
    → now ≡ out ++ 32 ∷ signed_decimal (get_or numbers i d) → out ++ spaced (drop i numbers) ≡ whole
    → now ++ spaced (drop (i + 1) numbers) ≡ whole
spaced_more out now whole numbers i d lt is so_far =
    let rest = spaced (drop (i + 1) numbers) in
    ap (λ l. l ++ rest) is
    ∙ append_assoc out (32 ∷ signed_decimal (get_or numbers i d)) rest
    ∙ ap (λ l. out ++ l) (sym (at_drop_more spaced numbers i d lt))
    ∙ so_far

pub numbers-preserved : goal.numbers-preserved
numbers-preserved c =
    let same : to_z w128 (of_z w128 (get_or c.args.numbers.now c.numbers.z-index (pos 0))) ≡ get_or c.args.numbers.now c.numbers.z-index (pos 0) = grind (arith, ints, to_z-of_z) in
    spaced_more c.numbers.out.items c.push_spaced.new.out.items _ c.args.numbers.now c.numbers.z-index (pos 0) c.numbers-test.true (rw same at c.in_ok-push_spaced.ensures) c.numbers.invariant

pub returns-in_err-push : goal.returns-in_err-push
returns-in_err-push c = IfOk-from_err c.from_residual-in_err-push.result _ c.from_residual-in_err-push.ensures.0

pub returns-in_err-push_spaced : goal.returns-in_err-push_spaced
returns-in_err-push_spaced c = IfOk-from_err c.from_residual.result _ c.from_residual.ensures.0

pub returns : goal.returns
returns c =
    c.in_ok-push.ensures.items
    ∙ ap (λ l. c.numbers.out.items ++ l) (sym (at_drop_all spaced c.args.numbers.now c.numbers.z-index c.numbers-test.false))
    ∙ c.numbers.invariant
