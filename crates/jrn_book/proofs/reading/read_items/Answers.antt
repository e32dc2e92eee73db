use Rattle.std.proofs.Common.{◌≡◌, ℕ, ◌+◌, ◌-◌, ◌^◌, List, length, ap, ◌∙◌, refl, subst}
use Rattle.std.specs.Prelude.{min, Err}
use Rattle.jrn_codec.specs.declared.fault.EntryFault.{EntryFault}
use Rattle.jrn_book.specs.Opening.{IsNoNext}
use Rattle.jrn_book.specs.Reading.{IsReadNext, ReadsRecord}
use Rattle.jrn_book.proofs.Growing.{one_more_read, refused_next}
use Rattle.jrn_book.proofs.reading.read_items.Goals as goal

pub returns-in-Err-NoEntry-clause-fault : goal.returns-in-Err-NoEntry-clause-fault
returns-in-Err-NoEntry-clause-fault c = λ small.
    let v = c.args.version in
    let old = c.loop-next.past in
    let refused = subst (λ (f : EntryFault). ReadsRecord v old c.bytes.result.now (Err f) c.read_next.new.self) c.in-Err-NoEntry.field-0-is c.in-Err-NoEntry.ensures in
    refused_next v c.args.past.now c.args.records.now c.loop-next.next-index c.loop-next.at old c.loop-next.invariant c.next-item.result c.loop-next-test.true c.next-item.is
    (subst (IsNoNext v old.accounts old.history) c.bytes.ensures refused.0) _ refl small

pub loop-next-preserved : goal.loop-next-preserved
loop-next-preserved c =
    let v = c.args.version in
    let old = c.loop-next.past in
    let r = c.next-item.result in
    let added : IsReadNext v old r c.read_next.new.self = subst (λ (b : List ℕ). IsReadNext v old b c.read_next.new.self) c.bytes.ensures c.in-Ok.ensures in
    let sum : c.saturating_add-at.result ≡ min (c.loop-next.at + (5 + length r)) (2 ^ 64 - 1) =
    c.saturating_add-at.ensures ∙ ap (λ n. min (c.loop-next.at + n) (2 ^ 64 - 1)) (c.size.ensures ∙ ap (λ (b : List ℕ). 5 + length b) c.bytes-in-Ok.ensures) in
    one_more_read v c.args.past.now c.args.records.now c.loop-next.next-index c.loop-next.at old c.loop-next.invariant r c.loop-next-test.true c.next-item.is c.read_next.new.self c.saturating_add-at.result added sum
