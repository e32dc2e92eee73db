-- The movements of entries, and the balance after them.
use Rattle.std.proofs.Common.{◌≡◌, ℕ, List, [], ◌∷◌, ◌++◌, map, Some, refl, sym, ap, ◌∙◌, arith, pos, ◌+ℤ◌, ◌-ℤ◌, ℤ, append_assoc}
use Rattle.std.proofs.lemmas.Int.{ints}
use Rattle.std.proofs.lemmas.List.{append-nil}
use Rattle.day_model.specs.Balance.{balance_of}
use Rattle.day_model.specs.Chart.{Chart, account_at}
use Rattle.day_model.specs.declared.account.Account.{Account}
use Rattle.day_model.specs.declared.entry.Entry.{Entry}
use Rattle.day_model.specs.declared.pay.Leg.{Leg}
use Rattle.statement.specs.Index.{movement_of, movements_from, movements_of}
use Rattle.statement.specs.inner.Index.{last_balance}
use Rattle.statement.specs.Legs.{legs_on}
use Rattle.statement.specs.declared.movement.Movement.{Movement}
use Rattle.statement.proofs.Legs.{unmoved}

pub last-append : (balance : ℤ) (front back : List Movement) → last_balance balance (front ++ back) ≡ last_balance (last_balance balance front) back
last-append balance [] back = refl
last-append balance (movement ∷ front) back = last-append movement.balance front back

module _ (chart : Chart) (n : ℕ) where
  -- entries one after the other
  pub moves-append : (before front back : List Entry) → movements_from chart n before (front ++ back) ≡ movements_from chart n before front ++ movements_from chart n (before ++ front) back
  moves-append before [] back = ap (λ (es : List Entry). movements_from chart n es back) (sym (append-nil before))
  moves-append before (entry ∷ front) back =
      let here : List Movement = map (movement_of chart n before entry) (legs_on n entry) in
      let there : List Movement = movements_from chart n (before ++ entry ∷ []) front in
      ap (λ (ms : List Movement). here ++ ms) (moves-append (before ++ entry ∷ []) front back ∙ ap (λ (es : List Entry). there ++ movements_from chart n es back) (append_assoc before (entry ∷ []) front))
      ∙ sym (append_assoc here there (movements_from chart n (before ++ entry ∷ front) back))

  -- after an entry each of its movements has the balance after it
  legs-last : (before : List Entry) (entry : Entry) (legs : List Leg) → last_balance (balance_of chart (before ++ entry ∷ []) n) (map (movement_of chart n before entry) legs) ≡ balance_of chart (before ++ entry ∷ []) n
  legs-last before entry [] = refl
  legs-last before entry (leg ∷ legs) = legs-last before entry legs

  entry-legs : (before : List Entry) (entry : Entry) (legs : List Leg) → legs_on n entry ≡ legs → last_balance (balance_of chart before n) (map (movement_of chart n before entry) legs) ≡ balance_of chart (before ++ entry ∷ []) n
  entry-legs before entry [] none = sym (unmoved chart before entry n none)
  entry-legs before entry (leg ∷ legs) some = legs-last before entry legs

  pub entry-last : (before : List Entry) (entry : Entry) → last_balance (balance_of chart before n) (map (movement_of chart n before entry) (legs_on n entry)) ≡ balance_of chart (before ++ entry ∷ []) n
  entry-last before entry = entry-legs before entry (legs_on n entry) refl

  -- the balance after all movements of entries
  pub last-of : (before entries : List Entry) → last_balance (balance_of chart before n) (movements_from chart n before entries) ≡ balance_of chart (before ++ entries) n
  last-of before [] = ap (λ (es : List Entry). balance_of chart es n) (sym (append-nil before))
  last-of before (entry ∷ entries) =
      let here : List Movement = map (movement_of chart n before entry) (legs_on n entry) in
      let there : List Movement = movements_from chart n (before ++ entry ∷ []) entries in
      last-append (balance_of chart before n) here there
      ∙ ap (λ (b : ℤ). last_balance b there) (entry-last before entry)
      ∙ last-of (before ++ entry ∷ []) entries
      ∙ ap (λ (es : List Entry). balance_of chart es n) (append_assoc before (entry ∷ []) entries)

opens : (o : ℤ) → (o +ℤ pos 0) -ℤ pos 0 ≡ o
opens o = grind (arith, ints)

pub opening-is : (chart : Chart) (n : ℕ) (account : Account) → account_at chart n ≡ Some account → balance_of chart [] n ≡ account.opening
opening-is chart n account e = rw e (opens account.opening)

-- the balance of an account after all its movements
pub last-balance : (chart : Chart) (n : ℕ) (account : Account) (entries : List Entry) → account_at chart n ≡ Some account → last_balance account.opening (movements_of chart n entries) ≡ balance_of chart entries n
last-balance chart n account entries e =
    ap (λ (b : ℤ). last_balance b (movements_of chart n entries)) (sym (opening-is chart n account e)) ∙ last-of chart n [] entries
