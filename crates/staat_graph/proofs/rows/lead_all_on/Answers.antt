use Rattle.std.proofs.Common.{◌≡◌, ◌∙◌, ℕ, ◌+◌, ◌<◌, ◌≤◌, Bool, List, [], ap, below_more, get_or, le_refl, length, set, subst, sym, arith}
use Rattle.std.proofs.lemmas.List.{get_or_read, get_or-set_other, get_or-set_same}
use Rattle.staat_graph.specs.Rows.{IsSquare, LeadsOn}
use Rattle.staat_graph.proofs.rows.lead_all_on.Goals as goal

module _ (k i : ℕ) (through : List Bool) (start now : List (List Bool)) (row : List Bool) where
  done_more : i < length now → ((m : ℕ) → m < i → LeadsOn k through (get_or start m []) (get_or now m [])) → LeadsOn k through (get_or start i []) row → (m : ℕ) → m < i + 1 → LeadsOn k through (get_or start m []) (get_or (set now i row) m [])
  done_more inside done here =
      below_more (λ m. LeadsOn k through (get_or start m []) (get_or (set now i row) m [])) i
      (λ m lt. subst (LeadsOn k through (get_or start m [])) (sym (get_or-set_other now i m row [] (λ e. omega arith))) (done m lt))
      (subst (LeadsOn k through (get_or start i [])) (sym (get_or-set_same now i row [] inside)) here)

  rest_more : ((m : ℕ) → i ≤ m → get_or now m [] ≡ get_or start m []) → (m : ℕ) → i + 1 ≤ m → get_or (set now i row) m [] ≡ get_or start m []
  rest_more rest m le = get_or-set_other now i m row [] (λ e. omega arith) ∙ rest m (omega arith)

row_length : (start now : List (List Bool)) (i : ℕ) (row : List Bool) → IsSquare start → i < length start → length now ≡ length start → row ≡ get_or now i row → get_or now i [] ≡ get_or start i [] → length row ≡ length start
row_length start now i row square inside count is kept =
    ap length (get_or_read now i row (omega arith) is [] ∙ kept) ∙ square i [] inside

pub lead_on-requires-clause-count : goal.lead_on-requires-clause-count
lead_on-requires-clause-count c =
    let k = c.args.k in
    let i = c.loop-i.i in
    let start = c.args.table.now.items in
    let inside : i < length start = omega arith in
    let through = c.as_slice-in-loop-i.ensures ∙ c.in_ok-through.ensures ∙ c.as_slice.ensures ∙ get_or_read start k c.index.result.now c.requires.place c.index.ensures [] in
    ap length through ∙ c.requires.square k [] c.requires.place ∙ sym (row_length c.args.table.now.items c.loop-i.table.items c.loop-i.i c.index_mut.result.now c.requires.square inside c.loop-i.invariant.count c.index_mut.ensures.value (c.loop-i.invariant.rest c.loop-i.i (le_refl c.loop-i.i)))

pub lead_on-requires-clause-place : goal.lead_on-requires-clause-place
lead_on-requires-clause-place c =
    let inside : c.loop-i.i < length c.args.table.now.items = omega arith in
    subst (λ n. c.args.k < n) (sym (row_length c.args.table.now.items c.loop-i.table.items c.loop-i.i c.index_mut.result.now c.requires.square inside c.loop-i.invariant.count c.index_mut.ensures.value (c.loop-i.invariant.rest c.loop-i.i (le_refl c.loop-i.i)))) c.requires.place
