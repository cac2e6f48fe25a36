use Rattle.std.proofs.Common.{◌≡◌, ◌∙◌, ◌++◌, ℕ, ◌<◌, Bool, true, false, List, ap, drop, get_or, length, refl, sym, subst, take, arith}
use Rattle.std.specs.Prelude.{◌&&◌, ◌||◌}
use Rattle.std.proofs.lemmas.List.{get_or_read, take_at}
use Rattle.staat_vec.proofs.Truth.{or_false}
use Rattle.staat_graph.specs.Rows.{LeadsOn}
use Rattle.staat_graph.proofs.rows.Marks.lead_on.Goals as goal

joined : (k : ℕ) (through old new : List Bool) → get_or old k false ≡ true → length new ≡ length old → ((j : ℕ) → get_or new j false ≡ (get_or old j false || get_or through j false)) → LeadsOn k through old new
joined k through old new e count marks = record { count = count; marks = λ j. marks j ∙ ap (λ b. get_or old j false || (b && get_or through j false)) (sym e) }

same : (k : ℕ) (through old : List Bool) → get_or old k false ≡ false → LeadsOn k through old old
same k through old e = record { count = refl; marks = λ j. sym (ap (λ b. get_or old j false || (b && get_or through j false)) e ∙ or_false (get_or old j false)) }

pub returns-then-index : goal.returns-then-index
returns-then-index c =
    let k = c.args.k in
    let items = c.self.inside.marks.items in
    let new = c.join.new.marks in
    let inside : k < length items = subst (λ (xs : List Bool). k < length xs) (sym c.self.view_is) c.requires.place in
    let mark = sym (get_or_read items k c.index.result.now inside c.index.ensures false) ∙ c.if-index.true in
    let long : length new ≡ length items = c.join.ensures.count ∙ ap length c.as_mut_slice.ensures.value in
    let cut = take_at new (drop (length new) items) c.self.inside.marks.len (omega (arith, long, c.self.inside.marks.ok.0)) in
    let leads = joined k c.args.through.now items new mark long (λ j. c.join.ensures.marks j ∙ ap (λ xs. get_or xs j false || get_or c.args.through.now j false) c.as_mut_slice.ensures.value) in
    subst (λ xs. LeadsOn k c.args.through.now xs (take c.self.inside.marks.len (new ++ drop (length new) items))) c.self.view_is
    (subst (LeadsOn k c.args.through.now items) (sym cut) leads)

pub returns-else-index : goal.returns-else-index
returns-else-index c =
    let k = c.args.k in
    let items = c.self.inside.marks.items in
    let inside : k < length items = subst (λ (xs : List Bool). k < length xs) (sym c.self.view_is) c.requires.place in
    let mark = sym (get_or_read items k c.index.result.now inside c.index.ensures false) ∙ c.if-index.false in
    subst (λ xs. LeadsOn k c.args.through.now xs xs) c.self.view_is (same k c.args.through.now items mark)
