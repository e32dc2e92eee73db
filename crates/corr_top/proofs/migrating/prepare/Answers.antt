use Rattle.std.proofs.Common.{◌∙◌, ◌≤◌, ◌<◌, ◌^◌, ◌++◌, List, ℕ, ap, length, subst, sym}
use Rattle.std.proofs.lemmas.List.Elements.{All-cons}
use Rattle.jrn_codec.specs.Header.{head_bytes}
use Rattle.jrn_file.specs.Journal.{journal_bytes}
use Rattle.corr_top.proofs.CarriedOver.{entries_alone, short_head, small_file}
use Rattle.corr_top.proofs.migrating.prepare.Goals as goal

pub returns-clause-records : goal.returns-clause-records
returns-clause-records c = c.in_ok-records.ensures.value ∙ sym (entries_alone c.args.a.now c.args.h.now.entries c.requires)

pub returns-clause-short : goal.returns-clause-short
returns-clause-short c =
    let head = c.in_ok-put_head.ensures.ok ∙ ap (λ (t : List ℕ). t ++ head_bytes c.args.a.now) c.in_ok-head.ensures in
    All-cons (λ r. length r ≤ 1048576) _ c.in_ok-records.records.items (subst (λ (h : List ℕ). length h ≤ 1048576) (sym head) (short_head c.args.a.now c.args.h.now.entries c.requires)) c.in_ok-records.ensures.few

pub returns-clause-size : goal.returns-clause-size
returns-clause-size c =
    let head = c.in_ok-put_head.ensures.ok ∙ ap (λ (t : List ℕ). t ++ head_bytes c.args.a.now) c.in_ok-head.ensures in
    subst (λ (h : List ℕ). length (journal_bytes h c.in_ok-records.records.items) < 2 ^ 64) (sym head)
    (small_file c.args.a.now c.args.h.now.entries c.requires c.in_ok-records.records.items c.in_ok-records.ensures.value c.in_ok-records.ensures.few)
