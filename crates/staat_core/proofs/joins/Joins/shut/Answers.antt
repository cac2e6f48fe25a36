use Rattle.std.proofs.Common.{ℕ, ⊎_elim, inl, inr, None, Option, Some, subst, sym}
use Rattle.std.specs.Prelude.{IfNone}
use Rattle.staat_model.specs.declared.set.PartSet.{PartSet}
use Rattle.staat_model.specs.Sets.{Has}
use Rattle.staat_graph.specs.Graphs.{HasArc, IsShut}
use Rattle.staat_core.specs.declared.joins.Moving.TheVariants.{OnePart}
use Rattle.staat_core.specs.Moves.{IsHeldIn, MovesPart}
use Rattle.staat_core.proofs.joins.Joins.shut.Goals as goal

none_then : {A : Type 0} (o : Option A) (P Q : Type 0) → (P → Q) → IfNone o P → IfNone o Q
none_then None P Q f h = f h
none_then (Some x) P Q f h = tt

none_held : (R : ℕ → ℕ → Type 0) (w : PartSet) → ((p : ℕ) → Has w p → MovesPart R w p → ⊥) → IsHeldIn R OnePart w
none_held R w none s (p, p_in, is) shut = none p p_in (⊎_elim (λ e. inl (subst (IsShut R w) e shut)) (λ e. inr (subst (IsShut R w) e shut)) is)

pub returns-in-OnePart : goal.returns-in-OnePart
returns-in-OnePart c =
    let R = HasArc c.args.self.now.ahead.rows in
    subst (λ m. IfNone c.shut_part.result (IsHeldIn R m c.args.w)) (sym c.in-OnePart.is)
    (none_then c.shut_part.result _ _ (none_held R c.args.w) c.shut_part.ensures)
