use Rattle.std.proofs.Common.{◌≡◌, ◌+◌, ◌++◌, ℕ, List, [], take, drop}
use Rattle.std.specs.List.{list_any}
use Rattle.std.specs.Str.{bytes_eq}
use Rattle.desk_page.specs.Twice.{stands_in, twice_from}
use Rattle.desk_page.specs.inner.Twice.{keys_in}
use Rattle.desk_page.proofs.twice.put_rows.Given as goal

-- what is still to be added, and what is known of the messages so far
abbrev pub invariant-loop-at : goal.invariant-loop-at
invariant-loop-at l = record {
  written : l.fn.out ++ twice_from [] 1 l.rows ≡ l.out ++ twice_from (keys_in (take l.at l.rows)) (l.at + 1) (drop l.at l.rows);
  known : (key : List ℕ) → list_any (λ k. bytes_eq key k.now) l.known.keys ≡ stands_in (keys_in (take l.at l.rows)) key;
}
