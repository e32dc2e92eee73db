use Rattle.std.proofs.Common.{◌≡◌, ◌∙◌, ◌≤◌, ◌++◌, ◌∷◌, ℕ, All, List, ap, length, subst, sym}
use Rattle.std.proofs.lemmas.List.Elements.{All-cons}
use Rattle.jrn_book.specs.Journal.{all_records, item_records}
use Rattle.jrn_codec.specs.Header.{head_bytes}
use Rattle.jrn_codec.proofs.laws.Records.{few_in_head}
use Rattle.standby.specs.Packets.{packets_of}
use Rattle.corr_top.proofs.JournalRecords.{short_enough}
use Rattle.corr_top.proofs.shipping.ship.Goals as goal

pub packets-requires-clause-short : goal.packets-requires-clause-short
packets-requires-clause-short c =
    let head : c.bytes.result.now ≡ head_bytes c.args.a.now = c.bytes.ensures ∙ c.in_ok-put_head.ensures.ok ∙ ap (λ (t : List ℕ). t ++ head_bytes c.args.a.now) c.in_ok-head.ensures in
    let short = subst (λ (l : List (List ℕ)). All (λ r. length r ≤ 1048576) l) (sym c.as_slice.ensures.value) c.in_ok-records.ensures.few in
    short_enough (c.bytes.result.now ∷ c.as_slice.result.now)
    (All-cons (λ (r : List ℕ). length r ≤ 1048576) c.bytes.result.now c.as_slice.result.now (subst (λ (h : List ℕ). length h ≤ 1048576) (sym head) (few_in_head _ c.requires.journal.head)) short)

pub returns : goal.returns
returns c =
    let head : c.bytes.result.now ≡ head_bytes c.args.a.now = c.bytes.ensures ∙ c.in_ok-put_head.ensures.ok ∙ ap (λ (t : List ℕ). t ++ head_bytes c.args.a.now) c.in_ok-head.ensures in
    let all : c.as_slice-2.result.now ≡ packets_of (all_records c.args.a.now c.args.h.now.entries) c.args.from c.args.until =
    c.as_slice-2.ensures.value
    ∙ c.in_ok-packets.ensures
    ∙ ap (λ (r : List (List ℕ)). packets_of (c.bytes.result.now ∷ r) c.args.from c.args.until) (c.as_slice.ensures.value ∙ c.in_ok-records.ensures.value)
    ∙ ap (λ (h : List ℕ). packets_of (h ∷ item_records c.args.a.now c.args.h.now.entries) c.args.from c.args.until) head in
    rw (sym all) c.joined.ensures
