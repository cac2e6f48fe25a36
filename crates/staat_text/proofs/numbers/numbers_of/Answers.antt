use Rattle.std.proofs.Common.{◌≡◌, ◌∙◌, ◌++◌, ◌∷◌, [], append-nil, true, false, ap, arith, subst, sym}
use Rattle.staat_model.specs.Lines.{members_from}
use Rattle.staat_text.proofs.PartNumbers.{number_next, numbers_of_word}
use Rattle.staat_text.proofs.numbers.numbers_of.Goals as goal
use Rattle.staat_text.proofs.numbers.numbers_of.Goals.{then-has+in_ok-push, else-has}

pub loop-p-preserved : goal.loop-p-preserved
loop-p-preserved c =
    let p = c.loop-p.p in
    elim c.if-has.branch [
      | then-has+in_ok-push w ↦ ap (λ v. v.items) w.numbers-is ∙ w.in_ok-push.ensures.items ∙ ap (λ l. l ++ p ∷ []) c.loop-p.invariant
          ∙ sym (number_next c.args.w p true (sym w.if-has.ensures))
      | else-has w ↦ ap (λ v. v.items) w.numbers-is ∙ c.loop-p.invariant ∙ sym (number_next c.args.w p false (sym w.if-has.ensures) ∙ append-nil (members_from 0 p c.args.w))
    ]

pub returns : goal.returns
returns c =
    let all : c.loop-p.p ≡ 32 = omega arith in
    numbers_of_word c.args.w c.loop-p.numbers.items c.bits-bits.ensures.small (c.loop-p.invariant ∙ ap (λ n. members_from 0 n c.args.w) all)
