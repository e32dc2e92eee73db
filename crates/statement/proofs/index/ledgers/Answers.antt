use Rattle.std.proofs.Common.{◌≡◌, ℕ, ◌+◌, ◌-◌, List, [], ◌∷◌, ◌++◌, map, take, Some, sym, ap, ◌∙◌, subst}
use Rattle.std.specs.Prelude.{All, slice_get}
use Rattle.std.proofs.lemmas.List.{map-append}
use Rattle.std.proofs.lemmas.List.Elements.{All-append}
use Rattle.day_model.specs.declared.account.Account.{Account}
use Rattle.day_model.specs.Chart.{HasCode, accounts_of}
use Rattle.statement.specs.Index.{ledger_with}
use Rattle.statement.specs.declared.ledger.Ledger.{Ledger}
use Rattle.statement.proofs.Adding.{all-one}
use Rattle.statement.proofs.Prefixes.{take-next}
use Rattle.statement.proofs.index.ledgers.Goals as goal

one_more : (xs : List Account) (n : ℕ) (a : Account) (made new : List Ledger) (l : Ledger) → made ≡ map (λ account. ledger_with account []) (take n xs) → slice_get xs (n + 1 - 1) ≡ Some a
    → l ≡ ledger_with a [] → new ≡ made ++ l ∷ [] → new ≡ map (λ account. ledger_with account []) (take (n + 1) xs)
one_more xs n a made new l so_far at is added =
    added ∙ (λ i. so_far i ++ is i ∷ []) ∙ sym (map-append (λ (account : Account). ledger_with account []) (take n xs) (a ∷ [])) ∙ ap (map (λ account. ledger_with account [])) (sym (take-next xs n a at))

codes_more : (xs : List Account) (n : ℕ) (a : Account) → All HasCode (take n xs) → slice_get xs (n + 1 - 1) ≡ Some a → HasCode a → All HasCode (take (n + 1) xs)
codes_more xs n a so_far at code = subst (All HasCode) (sym (take-next xs n a at)) (All-append HasCode (take n xs) (a ∷ []) so_far (all-one HasCode a code))

pub loop-n-preserved : goal.loop-n-preserved
loop-n-preserved c = (
  one_more (accounts_of c.args.a.now) c.loop-n.n c.get.result.now c.loop-n.ledgers.items c.push.new.self.items c.in_ok-new.field-0 c.loop-n.invariant.0 c.get.ensures.value c.in_ok-new.ensures.value c.in_ok-push.ensures.items,
  codes_more (accounts_of c.args.a.now) c.loop-n.n c.get.result.now c.loop-n.invariant.1 c.get.ensures.value c.in_ok-new.ensures.code,
)
