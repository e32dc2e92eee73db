use Rattle.std.proofs.Common.{◌≡◌, ◌∙◌, ◌≤ℤ◌, ℕ, ◌+◌, ◌<◌, ◌≤◌, All, List, [], ◌∷◌, ◌++◌, length, None, Err, ap, append_assoc, arith, inl, inr, length-append, refl, rules, subst, sym, ⊎_elim}
use Rattle.std.specs.Prelude.{unwrap_or}
use Rattle.std.proofs.Math.Seq.{take-append_seam}
use Rattle.std.proofs.lemmas.Int.{ints}
use Rattle.corr_text.specs.First.{first_of}
use Rattle.corr_disk.specs.Disk.{most_disk_bytes}
use Rattle.day_model.specs.declared.pay.Leg.{Leg}
use Rattle.day_model.specs.declared.entry.Entry.{Entry}
use Rattle.day_model.specs.declared.entry.Outcome.{Outcome}
use Rattle.day_model.specs.declared.entry.Outcome.TheVariants.{Booked}
use Rattle.day_model.specs.Balance.{leg_tests, outcome_of}
use Rattle.day_model.specs.Chart.{accounts_of}
use Rattle.day_model.specs.Next.{entry_of}
use Rattle.day_model.specs.Totals.{HasTotals, Pair, booked_legs}
use Rattle.day_model.proofs.laws.Histories.{entry_fits}
use Rattle.day_model.proofs.laws.Pairs.{booked_listed}
use Rattle.day_model.proofs.laws.Slices.{push_last}
use Rattle.jrn_codec.specs.Record.{entry_bytes}
use Rattle.jrn_book.specs.Answers.{Answer, AnswerShows, IsFull, need_of}
use Rattle.jrn_book.specs.declared.answer.CommitFault.{CommitFault}
use Rattle.jrn_book.specs.Batches.{gate_of}
use Rattle.jrn_book.specs.inner.Drafting.{IsDrafted}
use Rattle.jrn_book.specs.inner.Index.{place_in}
use Rattle.jrn_book.specs.Journal.{file_of}
use Rattle.jrn_book.proofs.Drafted.{draft_legal, draft_more, end_is, end_small, latest_all}
use Rattle.jrn_book.proofs.Entering.{next_new, place_of}
use Rattle.jrn_book.proofs.laws.Sizes.{file_more, no_longer}
use Rattle.jrn_book.proofs.drafting.draft_new.Goals as goal

pub overflow_add-end : goal.overflow_add-end
overflow_add-end c =
    let small = end_small c.args.a.now c.args.h.now.entries c.args.day c.args.draft.now.entries.items c.args.draft.now.frames.bytes c.args.index.now.references c.args.pairs.now.items c.args.start
    c.requires.legal.changes.by_now c.requires.drafted c.requires.start c.ranges.start.fits in
    omega (arith, small, ap length c.bytes.ensures)

pub returns-in_err-find_room-clause-shows : goal.returns-in_err-find_room-clause-shows
returns-in_err-find_room-clause-shows c = λ at_open now.
    let chart = c.args.a.now in
    let h = c.args.h.now.entries in
    let es = c.args.draft.now.entries.items in
    let all = h ++ es in
    let p = c.args.p in
    let day = c.args.day in
    let drafted = c.requires.drafted in
    let e : Entry = record { pay = p; day = day; outcome = c.decide_by_pairs-outcome.result } in
    let totals = subst (λ (ps : List Pair). HasTotals ps (length (accounts_of chart)) all) (sym c.as_slice.ensures.value) drafted.totals in
    let outcome : c.decide_by_pairs-outcome.result ≡ outcome_of chart all p =
    c.decide_by_pairs-outcome.ensures.value all drafted.legal totals ∙ ap (λ (ls : List Leg). unwrap_or (first_of (leg_tests chart all 1 ls)) Booked) c.as_slice-2.ensures in
    let is : e ≡ entry_of chart all p day = ap (λ (o : Outcome). record { pay = p; day = day; outcome = o }) outcome in
    let count : c.len.result + c.len-2.result ≡ length all = omega (arith, c.len.ensures.count, c.len-2.ensures, c.args.draft.now.entries.ok.0, length-append h es) in
    let place = end_is chart h day es c.args.draft.now.frames.bytes c.args.index.now.references c.args.pairs.now.items c.args.start c.requires.legal.changes.by_now drafted c.requires.start in
    let gate : c.args.start + length c.bytes.result.now ≡ gate_of chart all = omega (arith, place, ap length c.bytes.ensures) in
    let need : c.record_len-size.result + 6 ≡ need_of chart all p day = omega (arith, c.record_len-size.ensures.len, ap (λ (x : Entry). length (entry_bytes x)) is) in
    let fault = c.in_err-find_room.ensures.fault in
    let answer : c.from_residual.result ≡ Err c.in_err-find_room.field-0.0 = search rules in
    let full : IsFull all (c.args.start + length c.bytes.result.now) (c.record_len-size.result + 6) =
    ⊎_elim (λ (most : c.len.result + c.len-2.result ≡ 100000). inl (sym count ∙ most)) (λ (past : most_disk_bytes < (c.args.start + length c.bytes.result.now) + (c.record_len-size.result + 6)). inr past) fault.1 in
    subst (λ (x : Answer). AnswerShows chart all p day (gate_of chart all) None at_open now now x) (sym (answer ∙ ap (λ (x : CommitFault). Err x) fault.0))
    (refl, c.requires.new, count, gate, need, full, refl)

pub add-requires-clause-listed : goal.add-requires-clause-listed
add-requires-clause-listed c =
    let chart = c.args.a.now in
    let h = c.args.h.now.entries in
    let es = c.args.draft.now.entries.items in
    let all = h ++ es in
    let p = c.args.p in
    let day = c.args.day in
    let drafted = c.requires.drafted in
    let e : Entry = record { pay = p; day = day; outcome = c.decide_by_pairs-outcome.result } in
    let totals = subst (λ (ps : List Pair). HasTotals ps (length (accounts_of chart)) all) (sym c.as_slice.ensures.value) drafted.totals in
    let outcome : c.decide_by_pairs-outcome.result ≡ outcome_of chart all p =
    c.decide_by_pairs-outcome.ensures.value all drafted.legal totals ∙ ap (λ (ls : List Leg). unwrap_or (first_of (leg_tests chart all 1 ls)) Booked) c.as_slice-2.ensures in
    let is : e ≡ entry_of chart all p day = ap (λ (o : Outcome). record { pay = p; day = day; outcome = o }) outcome in
    let count : c.len.result + c.len-2.result ≡ length all = omega (arith, c.len.ensures.count, c.len-2.ensures, c.args.draft.now.entries.ok.0, length-append h es) in
    let place = end_is chart h day es c.args.draft.now.frames.bytes c.args.index.now.references c.args.pairs.now.items c.args.start c.requires.legal.changes.by_now drafted c.requires.start in
    let gate : c.args.start + length c.bytes.result.now ≡ gate_of chart all = omega (arith, place, ap length c.bytes.ensures) in
    let need : c.record_len-size.result + 6 ≡ need_of chart all p day = omega (arith, c.record_len-size.ensures.len, ap (λ (x : Entry). length (entry_bytes x)) is) in
    let room = c.in_ok-find_room.ensures.room in
    let few : length all < 100000 = omega (arith, room.0, count) in
    let same : day.0 ≤ℤ day.0 = omega (arith, ints) in
    let latest = latest_all h es day c.requires.latest drafted.days same in
    let legal = draft_legal chart h day es c.args.draft.now.frames.bytes c.args.index.now.references c.args.pairs.now.items p e drafted is c.requires.fits latest few c.requires.new in
    let listed = booked_listed chart (all ++ e ∷ []) e (length all) legal (push_last all e) in
    subst (λ (n : ℕ). All (λ (leg : Leg). (1 ≤ leg.account.0) × (leg.account.0 ≤ n)) (booked_legs e)) (sym drafted.totals.size) listed

pub add-requires-clause-fits : goal.add-requires-clause-fits
add-requires-clause-fits c =
    let chart = c.args.a.now in
    let h = c.args.h.now.entries in
    let es = c.args.draft.now.entries.items in
    let all = h ++ es in
    let p = c.args.p in
    let day = c.args.day in
    let drafted = c.requires.drafted in
    let e : Entry = record { pay = p; day = day; outcome = c.decide_by_pairs-outcome.result } in
    let totals = subst (λ (ps : List Pair). HasTotals ps (length (accounts_of chart)) all) (sym c.as_slice.ensures.value) drafted.totals in
    let outcome : c.decide_by_pairs-outcome.result ≡ outcome_of chart all p =
    c.decide_by_pairs-outcome.ensures.value all drafted.legal totals ∙ ap (λ (ls : List Leg). unwrap_or (first_of (leg_tests chart all 1 ls)) Booked) c.as_slice-2.ensures in
    let is : e ≡ entry_of chart all p day = ap (λ (o : Outcome). record { pay = p; day = day; outcome = o }) outcome in
    let count : c.len.result + c.len-2.result ≡ length all = omega (arith, c.len.ensures.count, c.len-2.ensures, c.args.draft.now.entries.ok.0, length-append h es) in
    let place = end_is chart h day es c.args.draft.now.frames.bytes c.args.index.now.references c.args.pairs.now.items c.args.start c.requires.legal.changes.by_now drafted c.requires.start in
    let gate : c.args.start + length c.bytes.result.now ≡ gate_of chart all = omega (arith, place, ap length c.bytes.ensures) in
    let need : c.record_len-size.result + 6 ≡ need_of chart all p day = omega (arith, c.record_len-size.ensures.len, ap (λ (x : Entry). length (entry_bytes x)) is) in
    let room = c.in_ok-find_room.ensures.room in
    let few : length all < 100000 = omega (arith, room.0, count) in
    let same : day.0 ≤ℤ day.0 = omega (arith, ints) in
    let latest = latest_all h es day c.requires.latest drafted.days same in
    let legal = draft_legal chart h day es c.args.draft.now.frames.bytes c.args.index.now.references c.args.pairs.now.items p e drafted is c.requires.fits latest few c.requires.new in
    entry_fits chart (all ++ e ∷ []) e (length all) c.args.pairs.now.items legal (push_last all e)
    (subst (λ (l : List Entry). HasTotals c.args.pairs.now.items (length (accounts_of chart)) l) (sym (take-append_seam all (e ∷ []))) drafted.totals)

pub add-requires-clause-new : goal.add-requires-clause-new
add-requires-clause-new c =
    let all = c.args.h.now.entries ++ c.args.draft.now.entries.items in
    ap (place_in c.args.p.mir.0) c.requires.drafted.references_are ∙ place_of c.args.p.mir all ∙ c.requires.new

pub add-requires-clause-bytes : goal.add-requires-clause-bytes
add-requires-clause-bytes c =
    let longer = no_longer (record { pay = c.args.p; day = c.args.day; outcome = c.decide_by_pairs-outcome.result }) in
    omega (arith, longer, c.requires.bytes)

pub returns-clause-drafted : goal.returns-clause-drafted
returns-clause-drafted c =
    let chart = c.args.a.now in
    let h = c.args.h.now.entries in
    let es = c.args.draft.now.entries.items in
    let all = h ++ es in
    let p = c.args.p in
    let day = c.args.day in
    let drafted = c.requires.drafted in
    let e : Entry = record { pay = p; day = day; outcome = c.decide_by_pairs-outcome.result } in
    let totals = subst (λ (ps : List Pair). HasTotals ps (length (accounts_of chart)) all) (sym c.as_slice.ensures.value) drafted.totals in
    let outcome : c.decide_by_pairs-outcome.result ≡ outcome_of chart all p =
    c.decide_by_pairs-outcome.ensures.value all drafted.legal totals ∙ ap (λ (ls : List Leg). unwrap_or (first_of (leg_tests chart all 1 ls)) Booked) c.as_slice-2.ensures in
    let is : e ≡ entry_of chart all p day = ap (λ (o : Outcome). record { pay = p; day = day; outcome = o }) outcome in
    let count : c.len.result + c.len-2.result ≡ length all = omega (arith, c.len.ensures.count, c.len-2.ensures, c.args.draft.now.entries.ok.0, length-append h es) in
    let place = end_is chart h day es c.args.draft.now.frames.bytes c.args.index.now.references c.args.pairs.now.items c.args.start c.requires.legal.changes.by_now drafted c.requires.start in
    let gate : c.args.start + length c.bytes.result.now ≡ gate_of chart all = omega (arith, place, ap length c.bytes.ensures) in
    let need : c.record_len-size.result + 6 ≡ need_of chart all p day = omega (arith, c.record_len-size.ensures.len, ap (λ (x : Entry). length (entry_bytes x)) is) in
    let room = c.in_ok-find_room.ensures.room in
    let few : length all < 100000 = omega (arith, room.0, count) in
    let same : day.0 ≤ℤ day.0 = omega (arith, ints) in
    let latest = latest_all h es day c.requires.latest drafted.days same in
    let legal = draft_legal chart h day es c.args.draft.now.frames.bytes c.args.index.now.references c.args.pairs.now.items p e drafted is c.requires.fits latest few c.requires.new in
    let added = c.add.ensures in
    let file = file_more chart all e drafted.legal.changes.by_now in
    let fits : length (file_of chart (all ++ e ∷ [])) ≤ most_disk_bytes = omega (arith, file, room.1, place, ap length c.bytes.ensures, c.record_len-size.ensures.len) in
    let more = draft_more chart h day es c.args.draft.now.frames.bytes c.args.index.now.references c.args.pairs.now.items p e drafted is legal added.written fits in
    subst (λ (x : List Entry × (List ℕ × (List (List ℕ) × List Pair))). IsDrafted chart h day x.0 x.1.0 x.1.1.0 x.1.1.1) (λ i. (sym added.entries i, (sym added.frames i, (sym added.index i, sym added.pairs i)))) more

pub returns-clause-history : goal.returns-clause-history
returns-clause-history c =
    let chart = c.args.a.now in
    let h = c.args.h.now.entries in
    let es = c.args.draft.now.entries.items in
    let all = h ++ es in
    let p = c.args.p in
    let day = c.args.day in
    let drafted = c.requires.drafted in
    let e : Entry = record { pay = p; day = day; outcome = c.decide_by_pairs-outcome.result } in
    let totals = subst (λ (ps : List Pair). HasTotals ps (length (accounts_of chart)) all) (sym c.as_slice.ensures.value) drafted.totals in
    let outcome : c.decide_by_pairs-outcome.result ≡ outcome_of chart all p =
    c.decide_by_pairs-outcome.ensures.value all drafted.legal totals ∙ ap (λ (ls : List Leg). unwrap_or (first_of (leg_tests chart all 1 ls)) Booked) c.as_slice-2.ensures in
    let is : e ≡ entry_of chart all p day = ap (λ (o : Outcome). record { pay = p; day = day; outcome = o }) outcome in
    let count : c.len.result + c.len-2.result ≡ length all = omega (arith, c.len.ensures.count, c.len-2.ensures, c.args.draft.now.entries.ok.0, length-append h es) in
    let place = end_is chart h day es c.args.draft.now.frames.bytes c.args.index.now.references c.args.pairs.now.items c.args.start c.requires.legal.changes.by_now drafted c.requires.start in
    let gate : c.args.start + length c.bytes.result.now ≡ gate_of chart all = omega (arith, place, ap length c.bytes.ensures) in
    let need : c.record_len-size.result + 6 ≡ need_of chart all p day = omega (arith, c.record_len-size.ensures.len, ap (λ (x : Entry). length (entry_bytes x)) is) in
    ap (λ (l : List Entry). h ++ l) c.add.ensures.entries ∙ sym (append_assoc h es (e ∷ [])) ∙ ap (λ (x : Entry). all ++ x ∷ []) is ∙ sym (next_new chart all p day c.requires.new)

pub returns-clause-shows : goal.returns-clause-shows
returns-clause-shows c = λ at_open now.
    let chart = c.args.a.now in
    let h = c.args.h.now.entries in
    let es = c.args.draft.now.entries.items in
    let all = h ++ es in
    let p = c.args.p in
    let day = c.args.day in
    let drafted = c.requires.drafted in
    let e : Entry = record { pay = p; day = day; outcome = c.decide_by_pairs-outcome.result } in
    let totals = subst (λ (ps : List Pair). HasTotals ps (length (accounts_of chart)) all) (sym c.as_slice.ensures.value) drafted.totals in
    let outcome : c.decide_by_pairs-outcome.result ≡ outcome_of chart all p =
    c.decide_by_pairs-outcome.ensures.value all drafted.legal totals ∙ ap (λ (ls : List Leg). unwrap_or (first_of (leg_tests chart all 1 ls)) Booked) c.as_slice-2.ensures in
    let is : e ≡ entry_of chart all p day = ap (λ (o : Outcome). record { pay = p; day = day; outcome = o }) outcome in
    let count : c.len.result + c.len-2.result ≡ length all = omega (arith, c.len.ensures.count, c.len-2.ensures, c.args.draft.now.entries.ok.0, length-append h es) in
    let place = end_is chart h day es c.args.draft.now.frames.bytes c.args.index.now.references c.args.pairs.now.items c.args.start c.requires.legal.changes.by_now drafted c.requires.start in
    let gate : c.args.start + length c.bytes.result.now ≡ gate_of chart all = omega (arith, place, ap length c.bytes.ensures) in
    let need : c.record_len-size.result + 6 ≡ need_of chart all p day = omega (arith, c.record_len-size.ensures.len, ap (λ (x : Entry). length (entry_bytes x)) is) in
    let room = c.in_ok-find_room.ensures.room in
    (refl, c.requires.new, record { entries = omega (arith, room.0, count); bytes = omega (arith, room.1, gate, need) }, omega (arith, count), outcome, refl)

pub returns-clause-left : goal.returns-clause-left
returns-clause-left c =
    let longer = no_longer (record { pay = c.args.p; day = c.args.day; outcome = c.decide_by_pairs-outcome.result }) in
    let left = c.add.ensures.left in
    (left.0, omega (arith, longer, left.1))
