use Rattle.std.proofs.Common.{◌≡◌, ◌≤◌, ◌∙◌, ◌++◌, ◌∷◌, [], ap, sym, refl, arith, length, map, true, rules}
use Rattle.std.specs.Result.{is_ok}
use Rattle.std.proofs.lemmas.List.{length-map}
use Rattle.std.proofs.lemmas.List.Elements.{All-nil, All-push}
use Rattle.csv.specs.Records.{fields_of}
use Rattle.ref_tables.specs.Accounts.{account_of}
use Rattle.ref_tables.proofs.laws.Entered.{enters, refuses, all-entered, length-entered, row-at, starts}
use Rattle.ref_tables.proofs.accounts.enter_rows.Goals as goal

pub loop-row-init : goal.loop-row-init
loop-row-init c = record { entered = rw c.new-accounts.ensures.items (starts _ _ _); few_decimals = rw c.new-accounts.ensures.items (All-nil (λ a. a.decimals ≤ 4)) }

pub read_row-requires-clause-few : goal.read_row-requires-clause-few
read_row-requires-clause-few c =
    let before : c.loop-row.row-index ≤ length (map fields_of c.args.rows.now) = simp length-map (omega arith) in
    let many = length-entered c.loop-row.invariant.entered before in
    rw c.as_slice.ensures.value (omega (arith, many))

pub loop-row-preserved : goal.loop-row-preserved
loop-row-preserved c =
    let row = fields_of c.row-item.result in
    let place = row-at fields_of c.args.rows.now c.loop-row.row-index c.row-item.result c.row-item.is c.loop-row-test.true in
    let sound = rw c.as_slice.ensures.value at c.in-Ok.ensures.sound in
    let good : is_ok c.push.result ≡ true = search rules in
    let items = rw good at c.push.ensures.items in
    let added : c.push.new.self.items ≡ c.loop-row.accounts.items ++ account_of c.args.t.now row ∷ [] = items ∙ ap (λ a. c.loop-row.accounts.items ++ a ∷ []) c.in-Ok.ensures.value in
    record {
      entered = enters c.loop-row.invariant.entered row place.0 place.1 _ sound added;
      few_decimals = rw items (All-push (λ a. a.decimals ≤ 4) c.loop-row.accounts.items c.in-Ok.account c.loop-row.invariant.few_decimals c.in-Ok.ensures.few);
    }

pub returns-in-Err-clause-bad : goal.returns-in-Err-clause-bad
returns-in-Err-clause-bad c =
    let place = row-at fields_of c.args.rows.now c.loop-row.row-index c.row-item.result c.row-item.is c.loop-row-test.true in
    let read = rw c.as_slice.ensures.value at c.in-Err.ensures.bad in
    let told = refuses c.loop-row.invariant.entered (fields_of c.row-item.result) place.0 place.1 c.in-Err.why read in
    let many : c.len.result ≡ length c.loop-row.accounts.items = c.len.ensures ∙ sym c.as_slice.ensures.len ∙ ap length c.as_slice.ensures.value in
    rw (c.bad.ensures, many, told) refl

pub returns-clause-ok : goal.returns-clause-ok
returns-clause-ok c =
    let all = all-entered c.loop-row.invariant.entered (simp length-map c.loop-row-test.false) in
    (all.0, all.1, c.loop-row.invariant.few_decimals)
