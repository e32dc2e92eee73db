-- The report of replies, where they stand among what was served.
use Rattle.std.proofs.Common.{◌≡◌, ℕ, ◌+◌, ◌<◌, ◌≤◌, All, List, ◌∷◌, ◌++◌, Result, Ok, Err, length, get_or, drop, take, sym, ap, ◌∙◌, subst, arith, append_assoc}
use Rattle.std.specs.Prelude.{IfOk}
use Rattle.std.proofs.lemmas.List.{drop-map, drop_all, drop_more, get_or-map, length-map, take-map}
use Rattle.std.proofs.lemmas.List.Elements.{All-drop, All-get_or, All-take}
use Rattle.std.proofs.lemmas.Option.{get_or_from_slice_get}
use Rattle.day_model.specs.declared.entry.Entry.{Entry}
use Rattle.day_model.specs.declared.reply.Reply.{Reply}
use Rattle.day_model.specs.Chart.{Chart}
use Rattle.corr_report.specs.Lines.{numbered}
use Rattle.corr_report.specs.Report.{NamesPlace, count_line, reply_line, report_end, report_of}
use Rattle.corr_report.specs.Totals.{total_lines}
use Rattle.corr_top.specs.declared.desk.Served.{Served}
use Rattle.corr_top.specs.declared.desk.Served.TheVariants as served
use Rattle.corr_top.specs.inner.Serving.{are_replies}
use Rattle.corr_top.specs.inner.Sides.{AreLinesOf, HaveReplies}
use Rattle.corr_top.proofs.Adding.{numbered_done, numbered_next}
use Rattle.corr_top.proofs.Batches.{get_there}
use Rattle.corr_top.proofs.SideBySide.{numbered_cut}

-- the reply that was made, or this one
abbrev reply_or : Reply → Served → Reply
reply_or other (served.Reply told) = told
reply_or other (served.Full entries end need) = other
reply_or other (served.Stopped why) = other

-- what was made of a message, where each has a reply
pub has_reply : (made : List Served) (replies : List Reply) (at : ℕ) (d : Served) → made ≡ are_replies replies → at < length made
    → (told : Reply) × (get_or made at d ≡ served.Reply told) × (told ≡ get_or replies at told)
has_reply made replies at d is within =
    let same : length made ≡ length replies = ap length is ∙ length-map replies served.Reply in
    let r = get_there replies at (omega (arith, within, same)) in
    let here : get_or replies at r.0 ≡ r.0 = get_or_from_slice_get replies at r.0 r.0 r.1 in
    let reads : get_or made at d ≡ served.Reply (get_or replies at r.0) = ap (λ (xs : List Served). get_or xs at d) is ∙ get_or-map served.Reply replies at r.0 d (omega (arith, within, same)) in (
      r.0,
      reads ∙ ap served.Reply here,
      sym here,
    )

-- the reply that stands there
reply_is : (made : List Served) (replies : List Reply) (at : ℕ) (d : Served) (told : Reply) → made ≡ are_replies replies → at < length made → get_or made at d ≡ served.Reply told → told ≡ get_or replies at told
reply_is made replies at d told is within there =
    let r = has_reply made replies at d is within in
    let same : r.0 ≡ told = ap (reply_or told) (sym r.1 ∙ there) in
    subst (λ (t : Reply). t ≡ get_or replies at t) same r.2

-- it names a place of the history where all do
pub names_its : (entries : List Entry) (made : List Served) (replies : List Reply) (at : ℕ) (d : Served) (told : Reply) → made ≡ are_replies replies → All (NamesPlace entries) replies → at < length made → get_or made at d ≡ served.Reply told
    → NamesPlace entries told
names_its entries made replies at d told is all within there =
    let same : length made ≡ length replies = ap length is ∙ length-map replies served.Reply in
    subst (NamesPlace entries) (sym (reply_is made replies at d told is within there)) (All-get_or (NamesPlace entries) replies at told (omega (arith, within, same)) all)

-- ---- one after another

-- the lines of the replies ahead of a place stand in the text, and those of the others are to be added
abbrev pub IsReportedTo : Chart → List Entry → List Served → ℕ → ℕ → List ℕ → Type 0
IsReportedTo chart entries made first at out = (replies : List Reply) → made ≡ are_replies replies
    → numbered (reply_line chart entries) first replies ≡ out ++ numbered (reply_line chart entries) (first + at) (drop at replies)

-- a line more
pub reported_next : (chart : Chart) (entries : List Entry) (made : List Served) (first at : ℕ) (out more : List ℕ) (d : Served) (told : Reply) → at < length made → get_or made at d ≡ served.Reply told
    → more ≡ out ++ reply_line chart entries (first + at) told → IsReportedTo chart entries made first at out → IsReportedTo chart entries made first (at + 1) more
reported_next chart entries made first at out more d told within there added so_far replies is =
    let same : length made ≡ length replies = ap length is ∙ length-map replies served.Reply in
    let next : drop at replies ≡ told ∷ drop (at + 1) replies = drop_more replies at told (omega (arith, within, same)) ∙ ap (λ (r : Reply). r ∷ drop (at + 1) replies) (sym (reply_is made replies at d told is within there)) in
    let number : first + at + 1 ≡ first + (at + 1) = omega arith in
    numbered_next (reply_line chart entries) (first + at) (numbered (reply_line chart entries) first replies) out more told (drop at replies) (drop (at + 1) replies) next (so_far replies is) added
    ∙ ap (λ (n : ℕ). more ++ numbered (reply_line chart entries) n (drop (at + 1) replies)) number

-- after the last one these are the lines
pub reported_lines : (chart : Chart) (entries : List Entry) (made : List Served) (first at : ℕ) (out : List ℕ) → length made ≤ at → IsReportedTo chart entries made first at out → AreLinesOf chart entries made first out
reported_lines chart entries made first at out past so_far replies is =
    let same : length made ≡ length replies = ap length is ∙ length-map replies served.Reply in
    numbered_done (reply_line chart entries) (first + at) (numbered (reply_line chart entries) first replies) out (drop at replies) (drop_all at replies (omega (arith, past, same))) (so_far replies is)

-- with the end of the report it is whole
pub reported_all : (chart : Chart) (entries : List Entry) (made : List Served) (lines whole : List ℕ) → AreLinesOf chart entries made 1 lines → whole ≡ lines ++ report_end chart entries (length made)
    → (replies : List Reply) → made ≡ are_replies replies → whole ≡ report_of chart entries replies
reported_all chart entries made lines whole are_lines ended replies is =
    let same : length made ≡ length replies = ap length is ∙ length-map replies served.Reply in
    ended ∙ ap (λ (l : List ℕ). l ++ report_end chart entries (length made)) (are_lines replies is) ∙ ap (λ (n : ℕ). numbered (reply_line chart entries) 1 replies ++ report_end chart entries n) same
    ∙ sym (append_assoc (numbered (reply_line chart entries) 1 replies) (count_line (length replies) (length entries)) (total_lines chart entries))

-- ---- side by side

pub replies_ahead : (entries : List Entry) (made : List Served) (n : ℕ) (ahead : List Served) → ahead ≡ take n made → HaveReplies entries made → HaveReplies entries ahead
replies_ahead entries made n ahead is have =
    record { replies = take n have.replies; are = is ∙ ap (take n) have.are ∙ take-map served.Reply n have.replies; names = All-take (NamesPlace entries) n have.replies have.names }

pub replies_after : (entries : List Entry) (made : List Served) (n : ℕ) (after : List Served) → after ≡ drop n made → HaveReplies entries made → HaveReplies entries after
replies_after entries made n after is have =
    record { replies = drop n have.replies; are = is ∙ ap (drop n) have.are ∙ drop-map served.Reply n have.replies; names = All-drop (NamesPlace entries) n have.replies have.names }

-- the lines of some replies, and then of the others
lines_joined : (chart : Chart) (entries : List Entry) (made : List Served) (first n : ℕ) (front back : List ℕ) → n ≤ length made
    → AreLinesOf chart entries (take n made) first front → AreLinesOf chart entries (drop n made) (first + n) back → AreLinesOf chart entries made first (front ++ back)
lines_joined chart entries made first n front back within f b replies is =
    let same : length made ≡ length replies = ap length is ∙ length-map replies served.Reply in
    let ahead : take n made ≡ are_replies (take n replies) = ap (take n) is ∙ take-map served.Reply n replies in
    let after : drop n made ≡ are_replies (drop n replies) = ap (drop n) is ∙ drop-map served.Reply n replies in
    ap (λ (l : List ℕ). l ++ back) (f (take n replies) ahead) ∙ ap (λ (l : List ℕ). numbered (reply_line chart entries) first (take n replies) ++ l) (b (drop n replies) after)
    ∙ sym (numbered_cut (reply_line chart entries) first n replies (omega (arith, within, same)))

-- the same of texts that were put together, if there was memory
pub lines_both : {E : Type 0} (chart : Chart) (entries : List Entry) (made ahead after : List Served) (first n : ℕ) (front back : List ℕ) (both : Result (List ℕ) E) → n ≤ length made → ahead ≡ take n made → after ≡ drop n made
    → AreLinesOf chart entries ahead first front → AreLinesOf chart entries after (first + n) back → IfOk both (λ text. text ≡ front ++ back) → IfOk both (AreLinesOf chart entries made first)
lines_both chart entries made ahead after first n front back (Ok text) within ahead_is after_is f b is =
    subst (AreLinesOf chart entries made first) (sym is)
    (lines_joined chart entries made first n front back within (subst (λ (m : List Served). AreLinesOf chart entries m first front) ahead_is f) (subst (λ (m : List Served). AreLinesOf chart entries m (first + n) back) after_is b))
lines_both chart entries made ahead after first n front back (Err e) within ahead_is after_is f b is = tt
