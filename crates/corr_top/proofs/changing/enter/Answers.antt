use Rattle.std.proofs.Common.{◌≡◌, ◌∙◌, ℕ, List, ap, inl, length}
use Rattle.day_model.specs.declared.entry.Entry.{Entry}
use Rattle.jrn_file.specs.File.{disk_of, end_of}
use Rattle.corr_top.specs.Stops.{status_of_change}
use Rattle.corr_top.proofs.AccountChanges.{unentered}
use Rattle.corr_top.proofs.changing.enter.Goals as goal

pub returns-in-Err-change_opened-clause-gives : goal.returns-in-Err-change_opened-clause-gives
returns-in-Err-change_opened-clause-gives g c =
    let past = c.args.past.now in
    let what = c.args.what.now in
    let stop = c.in-Err-change_opened in
    let e = stop.ensures in
    let count : c.len.result ≡ length past.history = c.len.ensures.count ∙ ap (λ (h : List Entry). length h) c.history.ensures.value in
    inl (
      stop.fault,
      c.change_status.ensures ∙ ap (λ (n : ℕ). status_of_change what n stop.fault) count,
      unentered g.D.Disk (disk_of c.args.file) stop.disk past.accounts past.history what g.met.D.Disk.only_now (end_of c.args.file) stop.fault c.requires.settled.place e.shows e.untouched e.any_moment,
    )
