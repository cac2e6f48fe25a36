use Rattle.std.proofs.Common.{subst, refl, ℕ, ◌≡◌, ◌↔◌, ◌⊎◌, ◌∙◌, ap}
use Rattle.staat_pairs.specs.Tables.{slot}
use Rattle.staat_local.specs.Touching.{IsPairMarked}
use Rattle.staat_local.proofs.TouchMarks.{marked_arc}
use Rattle.staat_local.proofs.touching.mark_arc.Goals as goal

pub returns-then-touch : goal.returns-then-touch
returns-then-touch c = marked_arc c.args.sound.now c.args.table.now c.slot.ensures.table c.args.arc c.args.marks.now c.mark.new.marks c.mark-then-touch.new.marks c.requires.across (c.if-touch.ensures.0 refl)
    (subst (λ k. (s : ℕ) → IsPairMarked c.mark.new.marks s ↔ (IsPairMarked c.args.marks.now s ⊎ (s ≡ k))) c.slot.ensures.is c.mark.ensures)
    (subst (λ k. (s : ℕ) → IsPairMarked c.mark-then-touch.new.marks s ↔ (IsPairMarked c.mark.new.marks s ⊎ (s ≡ k))) (c.slot-then-touch.ensures.is ∙ ap (slot c.args.table.now.pieces) c.back.ensures) c.mark-then-touch.ensures)
