use Rattle.std.proofs.Common.{◌≡◌, ◌+◌, ℕ, List, [], ◌∷◌, ◌++◌, All, take, get_or, subst, rules, arith, ap, sym, ◌∙◌}
use Rattle.std.proofs.lemmas.List.Elements.{All-push}
use Rattle.acct_locks.specs.Holdings.{Holding, purse_at, purses_from}
use Rattle.acct_locks.proofs.Places.{pair_at-next}
use Rattle.acct_locks.proofs.Opening.{purses_more}
use Rattle.acct_locks.proofs.loose.Loose.of_pairs.Goals as goal

pub next_purse-purse-requires-clause-pair : goal.next_purse-purse-requires-clause-pair
next_purse-purse-requires-clause-pair c =
    let i = c.loop-pair.invariant in
    rw (i.pairs, i.at) (pair_at-next c.deref-pair-items.result.now c.loop-pair.pair-index (0, 0) (omega arith))

pub loop-pair-preserved : goal.loop-pair-preserved
loop-pair-preserved c =
    let i = c.loop-pair.invariant in
    let e = c.next_purse-purse.ensures in
    let t = c.in_ok-seat_table.seat_table.shared.table_id in
    let at = c.loop-pair.pair-index in
    let pairs = c.deref-pair-items.result.now in
    record {
      at = omega arith;
      table = e.book.0 ∙ i.table;
      is_book = e.book.1;
      empty = e.book.2;
      pairs = e.book.3 ∙ i.pairs;
      away = e.book.4;
      purses = c.in_ok-push.ensures.items
          ∙ ap (λ (hs : List Holding). hs ++ c.next_purse-purse.result ∷ []) i.purses
          ∙ ap (λ (h : Holding). purses_from t 1 (take at pairs) ++ h ∷ []) (e.purse ∙ ap (λ (n : ℕ). purse_at t n (get_or pairs at (0, 0))) (let n : c.loop-pair.number + 1 ≡ 1 + at = omega (arith, i.at) in n))
          ∙ sym (purses_more t 1 at pairs (0, 0) (omega arith));
      many = search rules;
      of_table = subst (All (λ (p : Holding). p.table ≡ c.in_ok-seat_table.seat_table.shared.table_id)) (sym c.in_ok-push.ensures.items) (All-push (λ (p : Holding). p.table ≡ c.in_ok-seat_table.seat_table.shared.table_id) c.loop-pair.purses.items c.next_purse-purse.result i.of_table (ap (λ (h : Holding). h.table) e.purse));
    }
