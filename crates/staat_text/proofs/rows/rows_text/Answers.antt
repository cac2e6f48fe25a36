use Rattle.std.proofs.Common.{List, ℕ, ◌≤◌, All, arith, subst, sym}
use Rattle.staat_graph.specs.Rows.{AreAscendingBelow}
use Rattle.staat_text.proofs.rows.rows_text.Goals as goal

all_small : (n : ℕ) (groups : List (List ℕ)) → n ≤ 1024 → All (AreAscendingBelow n) groups → All (AreAscendingBelow 1024) groups
all_small n groups le are i d lt =
    let own = are i d lt in
    record { ascending = own.ascending; small = λ k e k_lt. let small = own.small k e k_lt in omega (arith, small, le) }

pub push_groups-requires : goal.push_groups-requires
push_groups-requires c =
    subst (λ (groups : List (List ℕ)). All (AreAscendingBelow 1024) groups) (sym c.as_slice.ensures.value)
    (all_small _ c.in_ok-groups.groups.items c.requires.few c.in_ok-groups.ensures.numbers)
