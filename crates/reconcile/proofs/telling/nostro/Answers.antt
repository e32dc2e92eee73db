use Rattle.std.proofs.Common.{◌≡◌, List, ℕ, Some, None, sym, ◌∙◌, ap}
use Rattle.day_model.specs.Chart.{accounts_of, has_id, number_of_first}
use Rattle.day_model.proofs.laws.Places.{listed}
use Rattle.reconcile.proofs.Nostro.{nostro-none, nostro-other, nostro-some}
use Rattle.reconcile.proofs.telling.nostro.Goals as goal

pub returns-in_err-n-clause-value : goal.returns-in_err-n-clause-value
returns-in_err-n-clause-value c =
    let accounts = accounts_of c.args.a.now in
    let none : number_of_first (has_id c.args.s.now.account) accounts ≡ None =
    ap (λ (id : List ℕ). number_of_first (has_id id) accounts) (sym c.bytes.ensures) ∙ sym c.find.ensures ∙ c.in_err-n.was in
    c.from_residual.ensures ∙ sym (nostro-none c.args.a.now c.args.s.now none)

pub get-requires : goal.get-requires
get-requires c =
    let accounts = accounts_of c.args.a.now in
    let found : number_of_first (has_id c.args.s.now.account) accounts ≡ Some c.in_ok-n.n =
    ap (λ (id : List ℕ). number_of_first (has_id id) accounts) (sym c.bytes.ensures) ∙ sym c.find.ensures ∙ c.in_ok-n.was in
    listed (has_id c.args.s.now.account) c.args.a.now c.in_ok-n.n found

pub returns-then-not-is_of_statement-clause-value : goal.returns-then-not-is_of_statement-clause-value
returns-then-not-is_of_statement-clause-value c =
    let accounts = accounts_of c.args.a.now in
    let found : number_of_first (has_id c.args.s.now.account) accounts ≡ Some c.in_ok-n.n =
    ap (λ (id : List ℕ). number_of_first (has_id id) accounts) (sym c.bytes.ensures) ∙ sym c.find.ensures ∙ c.in_ok-n.was in
    sym (nostro-other c.args.a.now c.args.s.now c.in_ok-n.n c.get.result.now found c.get.ensures.value (sym c.is_of_statement.ensures ∙ c.if-not-is_of_statement.true))

pub returns-clause-value : goal.returns-clause-value
returns-clause-value c =
    let accounts = accounts_of c.args.a.now in
    let found : number_of_first (has_id c.args.s.now.account) accounts ≡ Some c.in_ok-n.n =
    ap (λ (id : List ℕ). number_of_first (has_id id) accounts) (sym c.bytes.ensures) ∙ sym c.find.ensures ∙ c.in_ok-n.was in
    sym (nostro-some c.args.a.now c.args.s.now c.in_ok-n.n c.get.result.now found c.get.ensures.value (sym c.is_of_statement.ensures ∙ c.if-not-is_of_statement.false))

pub returns-clause-listed : goal.returns-clause-listed
returns-clause-listed c =
    let accounts = accounts_of c.args.a.now in
    let found : number_of_first (has_id c.args.s.now.account) accounts ≡ Some c.in_ok-n.n =
    ap (λ (id : List ℕ). number_of_first (has_id id) accounts) (sym c.bytes.ensures) ∙ sym c.find.ensures ∙ c.in_ok-n.was in
    listed (has_id c.args.s.now.account) c.args.a.now c.in_ok-n.n found
