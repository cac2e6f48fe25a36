use Rattle.std.proofs.Common.{◌≡◌, ◌++◌, ◌∙◌, List, ap, subst, sym}
use Rattle.staat_certify.specs.declared.visit_list.Visit.{Visit}
use Rattle.staat_certify.specs.Visits.{SortsVisits}
use Rattle.staat_certify.proofs.VisitLemmas.{sorts_exchanged}
use Rattle.staat_certify.proofs.visit_list.VisitList.sort.Goals as goal

pub returns : goal.returns
returns c =
    let short = c.self.inside.short.items in
    let great = c.self.inside.great.items in
    let moved = c.add_short.new.great.items in
    let is : moved ≡ great ++ short = c.in_ok-add_short.ensures ∙ ap (λ (vs : List Visit). great ++ vs) c.as_slice.ensures.value in
    let new = c.sort_great.new.visits.items in
    let sorted : SortsVisits (great ++ short) new = subst (λ (vs : List Visit). SortsVisits vs new) is c.sort_great.ensures in
    let whole : SortsVisits c.args.self.now new = subst (λ (vs : List Visit). SortsVisits vs new) c.self.view_is (sorts_exchanged great short new sorted) in
    subst (λ (vs : List Visit). SortsVisits c.args.self.now (vs ++ new)) (sym c.clear.ensures.items) whole
