use Rattle.std.proofs.Common.{List, ℕ, ◌∙◌, subst, sym}
use Rattle.std.proofs.lemmas.Result.{err_from_is_err_and}
use Rattle.jrn_book.specs.inner.Reading.{RefusesHead, RefusesRecords}
use Rattle.jrn_book.proofs.Found.{refused_first}
use Rattle.jrn_book.proofs.Growing.{all_from_head}
use Rattle.jrn_book.proofs.reading.read_records.Goals as goal

pub returns-in_err-accounts-in-len1-up-clause-fault : goal.returns-in_err-accounts-in-len1-up-clause-fault
returns-in_err-accounts-in-len1-up-clause-fault c =
    let p = err_from_is_err_and c.from_residual.result c.from_residual.ensures.1 in
    let v = c.args.version in
    let fault = c.in_err-accounts-in-len1-up.field-0.0 in
    rw (p.1, p.2)
    (refused_first v c.args.records.now c.head-item.result fault c.in-len1-up.len_at_least c.head-item.is
    (subst (λ (b : List ℕ). RefusesHead v b fault) c.bytes.ensures c.in_err-accounts-in-len1-up.ensures.fault))

pub returns-in_err-read_items-in-len1-up-clause-fault : goal.returns-in_err-read_items-in-len1-up-clause-fault
returns-in_err-read_items-in-len1-up-clause-fault c =
    let p = err_from_is_err_and c.from_residual-in_err-read_items-in-len1-up.result c.from_residual-in_err-read_items-in-len1-up.ensures.1 in
    let v = c.args.version in
    let fault = c.in_err-read_items-in-len1-up.field-0.0 in
    let past = c.in_ok-past-in-len1-up.past in
    let found = c.in_ok-accounts-in-len1-up.ensures.found in
    let head = sym c.bytes.ensures ∙ found.1 in
    rw (p.1, p.2)
    (subst (λ (rs : List (List ℕ)). RefusesRecords v rs fault)
    (all_from_head v c.args.records.now c.head-item.result c.in_ok-accounts-in-len1-up.accounts past.accounts past.history c.in-len1-up.len_at_least c.head-item.is found.0 head
    c.in_ok-past-in-len1-up.ensures.accounts c.in_ok-past-in-len1-up.ensures.history)
    c.in_err-read_items-in-len1-up.ensures.fault)
