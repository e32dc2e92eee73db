use Rattle.std.proofs.Common.{◌∙◌, Global, Vec, ap, subst}
use Rattle.mt950.specs.declared.page.Page950.{Page950}
use Rattle.corr_top.specs.declared.received.Read.{Read}
use Rattle.corr_top.specs.declared.received.Read.TheVariants as read
use Rattle.corr_top.specs.inner.Reconcile.{CanBeTold}
use Rattle.corr_top.proofs.Collected.{judged_here, other_more, page_more}
use Rattle.corr_top.proofs.received.collect.Goals.{in-Page+in_ok-push-in-Page, in-Other+in_ok-put_other_line-in-Other}
use Rattle.corr_top.proofs.received.collect.Goals as goal

pub loop-at-preserved : goal.loop-at-preserved
loop-at-preserved c =
    let chart = c.args.a.now in
    let entries = c.args.h.now.entries in
    let t = c.args.tables.now in
    let messages = c.args.messages.now in
    let old = c.args.report.now in
    let l = c.loop-at in
    let m = c.index-messages-at.result in
    let judged = c.in_ok-page.ensures in
    elim c.match-branch-2.branch [
      | in-Page+in_ok-push-in-Page w ↦
          let here = judged_here chart entries t messages old l.at c.home.result.now c.bytes.result.now m c.in_ok-page.field-0 (read.Page w.in-Page.page) judged.value w.in-Page.is c.home.ensures c.bytes.ensures.bytes c.index-messages-at.is in
          rw w.report-is (page_more chart entries t messages old l.at m l.report l.pages.items c.match-branch-2.pages.items w.in-Page.page c.loop-at-test.true l.invariant here
          (subst (λ (r : Read). CanBeTold r) w.in-Page.is judged.sound) (ap (λ (v : Vec Page950 Global). v.items) w.pages-is ∙ w.in_ok-push-in-Page.ensures.items))
      | in-Other+in_ok-put_other_line-in-Other w ↦
          let here = judged_here chart entries t messages old l.at c.home.result.now c.bytes.result.now m c.in_ok-page.field-0 (read.Other w.in-Other.why) judged.value w.in-Other.is c.home.ensures c.bytes.ensures.bytes c.index-messages-at.is in
          rw w.pages-is (other_more chart entries t messages old l.at m l.report c.match-branch-2.report l.pages.items w.in-Other.why c.loop-at-test.true l.invariant here
          (w.report-is ∙ w.in_ok-put_other_line-in-Other.ensures))
    ]
