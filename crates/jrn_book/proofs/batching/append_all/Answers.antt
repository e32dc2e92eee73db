use Rattle.std.proofs.Common.{◌≡◌, ◌∙◌, ◌-◌, ℕ, All, List, [], ◌∷◌, ◌++◌, length, take, drop, IsOk, OnOk, Result, Ok, Err, ap, arith, subst, sym}
use Rattle.std.proofs.lemmas.List.{length-drop, take_all}
use Rattle.corr_disk.specs.Disk.{LeavesOnly}
use Rattle.day_model.specs.declared.entry.Entry.{Entry}
use Rattle.jrn_file.specs.File.{IsSettled, disk_of}
use Rattle.jrn_file.specs.Journal.{IsBeforeOrAll}
use Rattle.jrn_codec.specs.Record.{IsEntry, entry_bytes}
use Rattle.jrn_book.specs.inner.Drafting.{gated_records, records_of}
use Rattle.jrn_book.proofs.Gated.{are_frames, first_of_some}
use Rattle.jrn_book.proofs.batching.append_all.Goals as goal

on_ok : {X E : Type 0} (r : Result X E) (P : Type 0) → IsOk r → OnOk r P → P
on_ok (Ok x) P is p = p
on_ok (Err e) P is p = absurd (cc)

pub append_all-requires-clause-frames : goal.append_all-requires-clause-frames
append_all-requires-clause-frames g c =
    let bs = c.bytes.result.now in
    let r = c.requires.frames in
    let pushed : c.push.new.self.bytes ≡ c.args.frames.now.bytes ++ 0 ∷ [] = on_ok c.push.result _ (c.push.ensures.succeeds (omega (arith, c.requires.room))) c.push.ensures.ok in
    let cut : take (length bs - 1) (drop 1 bs) ≡ drop 1 bs = take_all (length bs - 1) (drop 1 bs) (omega (arith, length-drop 1 bs)) in
    let whole : bs ≡ gated_records (r.0 ∷ r.1) ++ 0 ∷ [] = c.bytes.ensures ∙ pushed ∙ ap (λ (l : List ℕ). l ++ 0 ∷ []) r.2 in
    (entry_bytes r.0, records_of r.1, are_frames r.0 r.1 bs (take (length bs - 1) (drop 1 bs)) whole cut r.3)

pub returns-in-Ok-clause-ok : goal.returns-in-Ok-clause-ok
returns-in-Ok-clause-ok g c = λ head records entries settled is written.
    let bs = c.bytes.result.now in
    let r = c.requires.frames in
    let pushed : c.push.new.self.bytes ≡ c.args.frames.now.bytes ++ 0 ∷ [] = on_ok c.push.result _ (c.push.ensures.succeeds (omega (arith, c.requires.room))) c.push.ensures.ok in
    let cut : take (length bs - 1) (drop 1 bs) ≡ drop 1 bs = take_all (length bs - 1) (drop 1 bs) (omega (arith, length-drop 1 bs)) in
    let some = first_of_some entries r.0 r.1 c.args.frames.now.bytes is r.2 in
    let whole : bs ≡ gated_records (some.0 ∷ some.1) ++ 0 ∷ [] = c.bytes.ensures ∙ pushed ∙ ap (λ (l : List ℕ). l ++ 0 ∷ []) (is ∙ ap gated_records some.2) in
    let frames = are_frames some.0 some.1 bs (take (length bs - 1) (drop 1 bs)) whole cut (subst (All IsEntry) some.2 written) in
    subst (λ (l : List Entry). IsSettled g.D.Disk.honest g.D.Disk.reads g.D.Disk.may_leave c.append_all.new.self head (records ++ records_of l)) (sym some.2) (c.in-Ok.ensures.ok head records (entry_bytes some.0) (records_of some.1) settled frames)

pub returns-in-Ok-clause-any_moment : goal.returns-in-Ok-clause-any_moment
returns-in-Ok-clause-any_moment g c = λ head records entries settled is written honest.
    let bs = c.bytes.result.now in
    let r = c.requires.frames in
    let pushed : c.push.new.self.bytes ≡ c.args.frames.now.bytes ++ 0 ∷ [] = on_ok c.push.result _ (c.push.ensures.succeeds (omega (arith, c.requires.room))) c.push.ensures.ok in
    let cut : take (length bs - 1) (drop 1 bs) ≡ drop 1 bs = take_all (length bs - 1) (drop 1 bs) (omega (arith, length-drop 1 bs)) in
    let some = first_of_some entries r.0 r.1 c.args.frames.now.bytes is r.2 in
    let whole : bs ≡ gated_records (some.0 ∷ some.1) ++ 0 ∷ [] = c.bytes.ensures ∙ pushed ∙ ap (λ (l : List ℕ). l ++ 0 ∷ []) (is ∙ ap gated_records some.2) in
    let frames = are_frames some.0 some.1 bs (take (length bs - 1) (drop 1 bs)) whole cut (subst (All IsEntry) some.2 written) in
    subst (λ (l : List Entry). LeavesOnly g.D.Disk.moment g.D.Disk.left_since (disk_of c.args.file.now) (disk_of c.append_all.new.self) (IsBeforeOrAll head records (records_of l))) (sym some.2) (c.append_all.ensures.any_moment head records (entry_bytes some.0) (records_of some.1) settled frames honest)

pub returns-in-Err-DiskFault-clause-any_moment : goal.returns-in-Err-DiskFault-clause-any_moment
returns-in-Err-DiskFault-clause-any_moment g c = λ head records entries settled is written honest.
    let bs = c.bytes.result.now in
    let r = c.requires.frames in
    let pushed : c.push.new.self.bytes ≡ c.args.frames.now.bytes ++ 0 ∷ [] = on_ok c.push.result _ (c.push.ensures.succeeds (omega (arith, c.requires.room))) c.push.ensures.ok in
    let cut : take (length bs - 1) (drop 1 bs) ≡ drop 1 bs = take_all (length bs - 1) (drop 1 bs) (omega (arith, length-drop 1 bs)) in
    let some = first_of_some entries r.0 r.1 c.args.frames.now.bytes is r.2 in
    let whole : bs ≡ gated_records (some.0 ∷ some.1) ++ 0 ∷ [] = c.bytes.ensures ∙ pushed ∙ ap (λ (l : List ℕ). l ++ 0 ∷ []) (is ∙ ap gated_records some.2) in
    let frames = are_frames some.0 some.1 bs (take (length bs - 1) (drop 1 bs)) whole cut (subst (All IsEntry) some.2 written) in
    subst (λ (l : List Entry). LeavesOnly g.D.Disk.moment g.D.Disk.left_since (disk_of c.args.file.now) (disk_of c.append_all.new.self) (IsBeforeOrAll head records (records_of l))) (sym some.2) (c.append_all.ensures.any_moment head records (entry_bytes some.0) (records_of some.1) settled frames honest)
