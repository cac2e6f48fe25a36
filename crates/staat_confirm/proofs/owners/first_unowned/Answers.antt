use Rattle.std.proofs.Common.{ℕ, ◌∙◌, arith, sym, ap, subst, ⊎_elim}
use Rattle.std.specs.Prelude.{Some}
use Rattle.std.proofs.lemmas.Bool.{cases_eq}
use Rattle.std.proofs.lemmas.Option.{slice_get-get_or}
use Rattle.staat_confirm.specs.Owners.{IsOwner}
use Rattle.staat_confirm.proofs.owners.first_unowned.Goals as goal

pub loop-p-preserved : goal.loop-p-preserved
loop-p-preserved c = λ q lt. ⊎_elim {C = (k : ℕ) × IsOwner c.args.owners.now q k}
    (λ e. subst (λ p. (k : ℕ) × IsOwner c.args.owners.now p k) (sym e) (c.in-Some.field-0, slice_get-get_or c.args.owners.now c.loop-p.p _ c.loop-p-test.true ∙ ap Some c.in-Some.is))
    (λ ne. c.loop-p.invariant q (omega (arith, lt, ne))) (cases_eq q c.loop-p.p)
