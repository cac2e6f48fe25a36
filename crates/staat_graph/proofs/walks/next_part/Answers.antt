use Rattle.std.proofs.Common.{◌∙◌, ⊎_elim, inl, inr, sym}
use Rattle.std.proofs.lemmas.Bool.{false≢true, not-true}
use Rattle.staat_model.proofs.FreeSides.{member_or}
use Rattle.staat_graph.proofs.walks.next_part.Goals as goal
use Rattle.staat_graph.proofs.walks.next_part.Goals.{then-within, else-within}

pub returns-then-not-meets : goal.returns-then-not-meets
returns-then-not-meets c =
    elim c.if-within.branch [
      | then-within w ↦ inl (c.within.ensures.0 w.if-within.true)
      | else-within w ↦ inr (λ q h.
          let none = not-true w.meets.result (sym w.value-is ∙ c.if-not-meets.true) in
          ⊎_elim (λ m. m) (λ out. absurd (false≢true (sym none ∙ w.meets.ensures.1 (q, (c.without-todo.ensures.members q).1 (h, out), h)))) (member_or c.args.left q))
    ]
