use Rattle.std.proofs.Common.{◌≡◌, ◌∙◌, ◌-◌, List, ◌++◌, length, Some, ap, arith, slice_get, sym}
use Rattle.day_model.specs.declared.entry.Entry.{Entry}
use Rattle.day_model.specs.Next.{entered_at, has_mir}
use Rattle.day_model.proofs.laws.Places.{position_from-within}
use Rattle.jrn_book.specs.Batches.{gate_of}
use Rattle.jrn_book.specs.inner.Index.{place_in}
use Rattle.jrn_book.proofs.Drafted.{repeat_leaves, repeat_shows}
use Rattle.jrn_book.proofs.Entering.{place_of}
use Rattle.jrn_book.proofs.drafting.draft_one.Goals as goal

pub entry_at-requires-clause-from_one : goal.entry_at-requires-clause-from_one
entry_at-requires-clause-from_one c =
    let all = c.args.h.now.entries ++ c.args.draft.now.entries.items in
    let mir = c.args.p.mir in
    let entered : entered_at mir all ≡ Some c.in-Some.place =
    sym (place_of mir all) ∙ ap (place_in mir.0) (sym c.requires.drafted.references_are) ∙ sym c.place.ensures ∙ c.in-Some.is in
    (position_from-within (has_mir mir) 1 c.in-Some.place all entered).0

pub entry_at-requires-clause-there : goal.entry_at-requires-clause-there
entry_at-requires-clause-there c =
    let all = c.args.h.now.entries ++ c.args.draft.now.entries.items in
    let mir = c.args.p.mir in
    let entered : entered_at mir all ≡ Some c.in-Some.place =
    sym (place_of mir all) ∙ ap (place_in mir.0) (sym c.requires.drafted.references_are) ∙ sym c.place.ensures ∙ c.in-Some.is in
    let slices : c.args.h.now.entries ++ c.as_slice.result.now ≡ all = ap (λ (l : List Entry). c.args.h.now.entries ++ l) c.as_slice.ensures.value in
    let within = position_from-within (has_mir mir) 1 c.in-Some.place all entered in
    omega (arith, within.1, ap length slices)

pub draft_new-requires-clause-new : goal.draft_new-requires-clause-new
draft_new-requires-clause-new c =
    let all = c.args.h.now.entries ++ c.args.draft.now.entries.items in
    let mir = c.args.p.mir in
    sym (place_of mir all) ∙ ap (place_in mir.0) (sym c.requires.drafted.references_are) ∙ sym c.place.ensures ∙ c.in-None.is

pub returns-in-Some-clause-history : goal.returns-in-Some-clause-history
returns-in-Some-clause-history c =
    let all = c.args.h.now.entries ++ c.args.draft.now.entries.items in
    let mir = c.args.p.mir in
    let entered : entered_at mir all ≡ Some c.in-Some.place =
    sym (place_of mir all) ∙ ap (place_in mir.0) (sym c.requires.drafted.references_are) ∙ sym c.place.ensures ∙ c.in-Some.is in
    let slices : c.args.h.now.entries ++ c.as_slice.result.now ≡ all = ap (λ (l : List Entry). c.args.h.now.entries ++ l) c.as_slice.ensures.value in
    let there : slice_get all (c.in-Some.place - 1) ≡ Some c.entry_at.result.now = sym (ap (λ (l : List Entry). slice_get l (c.in-Some.place - 1)) slices) ∙ c.entry_at.ensures in
    let it = c.repeat.ensures all entered there in
    (repeat_leaves c.args.a.now all c.args.p c.args.day c.repeat.result it).0

pub returns-in-Some-clause-shows : goal.returns-in-Some-clause-shows
returns-in-Some-clause-shows c = λ at_open now.
    let all = c.args.h.now.entries ++ c.args.draft.now.entries.items in
    let mir = c.args.p.mir in
    let entered : entered_at mir all ≡ Some c.in-Some.place =
    sym (place_of mir all) ∙ ap (place_in mir.0) (sym c.requires.drafted.references_are) ∙ sym c.place.ensures ∙ c.in-Some.is in
    let slices : c.args.h.now.entries ++ c.as_slice.result.now ≡ all = ap (λ (l : List Entry). c.args.h.now.entries ++ l) c.as_slice.ensures.value in
    let there : slice_get all (c.in-Some.place - 1) ≡ Some c.entry_at.result.now = sym (ap (λ (l : List Entry). slice_get l (c.in-Some.place - 1)) slices) ∙ c.entry_at.ensures in
    let it = c.repeat.ensures all entered there in
    repeat_shows c.args.a.now all c.args.p c.args.day (gate_of c.args.a.now all) at_open now c.repeat.result it

pub returns-in-Some-clause-tried : goal.returns-in-Some-clause-tried
returns-in-Some-clause-tried c =
    let all = c.args.h.now.entries ++ c.args.draft.now.entries.items in
    let mir = c.args.p.mir in
    let entered : entered_at mir all ≡ Some c.in-Some.place =
    sym (place_of mir all) ∙ ap (place_in mir.0) (sym c.requires.drafted.references_are) ∙ sym c.place.ensures ∙ c.in-Some.is in
    let slices : c.args.h.now.entries ++ c.as_slice.result.now ≡ all = ap (λ (l : List Entry). c.args.h.now.entries ++ l) c.as_slice.ensures.value in
    let there : slice_get all (c.in-Some.place - 1) ≡ Some c.entry_at.result.now = sym (ap (λ (l : List Entry). slice_get l (c.in-Some.place - 1)) slices) ∙ c.entry_at.ensures in
    let it = c.repeat.ensures all entered there in
    (repeat_leaves c.args.a.now all c.args.p c.args.day c.repeat.result it).1
