-- The pages and the lines of received messages, message by message.
use Rattle.std.proofs.Common.{◌≡◌, ℕ, ◌+◌, ◌<◌, ◌≤◌, List, [], ◌∷◌, ◌++◌, length, length-append, get_or, drop, sym, ap, ◌∙◌, arith, append_assoc}
use Rattle.std.specs.Prelude.{All}
use Rattle.std.proofs.lemmas.List.{append-nil, drop_all, drop_more}
use Rattle.std.proofs.lemmas.List.Elements.{All-push}
use Rattle.corr_ids.specs.declared.bic.Bic.{Bic}
use Rattle.day_model.specs.declared.entry.Entry.{Entry}
use Rattle.day_model.specs.Chart.{Chart}
use Rattle.corr_report.specs.Lines.{numbered}
use Rattle.corr_report.specs.Report.{reply_line}
use Rattle.fin_contents.specs.Writing.{IsReadable}
use Rattle.mt950.specs.declared.page.Page950.{Page950}
use Rattle.mt950.specs.Page.{mt950_of}
use Rattle.ref_tables.specs.Seen.{Tables}
use Rattle.corr_top.specs.declared.received.Read.{Read}
use Rattle.corr_top.specs.declared.received.Read.TheVariants as read
use Rattle.corr_top.specs.declared.message.NoPay.{NoPay}
use Rattle.corr_top.specs.Message.{reply_for}
use Rattle.corr_top.specs.Reconcile.{all_received, other_line, other_lines, pages_in, read_from}
use Rattle.corr_top.specs.inner.Reconcile.{Collects}

module _ (chart : Chart) (entries : List Entry) (t : Tables) (messages : List (List ℕ)) (old : List ℕ) where
  -- what the messages from the next one on are
  abbrev rest_from : ℕ → List Read
  rest_from at = all_received chart.home t (drop at messages)

  -- after some messages: what is still to be added and to be found, and what the pages so far are
  pub record HasCollected (at : ℕ) (out : List ℕ) (pages : List Page950) : Type 0 where
    pub told : old ++ other_lines chart entries (all_received chart.home t messages) ≡ out ++ numbered (other_line chart entries) (at + 1) (rest_from at)
    pub found : pages_in (all_received chart.home t messages) ≡ pages ++ pages_in (rest_from at)
    pub joined : All (IsReadable mt950_of) pages
    pub few : length pages ≤ at

  next_is : (at : ℕ) (d : List ℕ) (r : Read) → at < length messages → r ≡ read_from chart.home t (get_or messages at d) → rest_from at ≡ r ∷ rest_from (at + 1)
  next_is at d r within is = ap (λ (ms : List (List ℕ)). all_received chart.home t ms) (drop_more messages at d within) ∙ ap (λ (s : Read). s ∷ rest_from (at + 1)) (sym is)

  -- what was judged is what the next message is
  pub judged_here : (at : ℕ) (bank : Bic) (bs m : List ℕ) (judged r : Read) → judged ≡ read_from bank t bs → judged ≡ r → bank ≡ chart.home → bs ≡ m → m ≡ get_or messages at m
      → r ≡ read_from chart.home t (get_or messages at m)
  judged_here at bank bs m judged r value is home bytes there =
      sym is ∙ (value ∙ (ap (λ (b : Bic). read_from b t bs) home ∙ ap (λ (x : List ℕ). read_from chart.home t x) (bytes ∙ there)))

  -- a message that is no page adds its line
  pub other_more : (at : ℕ) (d : List ℕ) (out new : List ℕ) (pages : List Page950) (why : NoPay) → at < length messages → HasCollected at out pages
      → read.Other why ≡ read_from chart.home t (get_or messages at d) → new ≡ out ++ reply_line chart entries (at + 1) (reply_for why) → HasCollected (at + 1) new pages
  other_more at d out new pages why within before is line =
      let next = next_is at d (read.Other why) within is in
      let rest = numbered (other_line chart entries) (at + 1 + 1) (rest_from (at + 1)) in
      record {
        told = before.told ∙ (ap (λ (rs : List Read). out ++ numbered (other_line chart entries) (at + 1) rs) next
            ∙ (sym (append_assoc out (reply_line chart entries (at + 1) (reply_for why)) rest) ∙ ap (λ (bs : List ℕ). bs ++ rest) (sym line)));
        found = before.found ∙ ap (λ (rs : List Read). pages ++ pages_in rs) next;
        joined = before.joined;
        few = omega (arith, before.few);
      }

  -- a page is collected
  pub page_more : (at : ℕ) (d : List ℕ) (out : List ℕ) (pages new : List Page950) (page : Page950) → at < length messages → HasCollected at out pages
      → read.Page page ≡ read_from chart.home t (get_or messages at d) → IsReadable mt950_of page → new ≡ pages ++ page ∷ [] → HasCollected (at + 1) out new
  page_more at d out pages new page within before is readable pushed =
      let next = next_is at d (read.Page page) within is in
      let long = length-append pages (page ∷ []) in
      rw pushed (record {
        told = before.told ∙ ap (λ (rs : List Read). out ++ numbered (other_line chart entries) (at + 1) rs) next;
        found = before.found ∙ (ap (λ (rs : List Read). pages ++ pages_in rs) next ∙ sym (append_assoc pages (page ∷ []) (pages_in (rest_from (at + 1)))));
        joined = All-push (IsReadable mt950_of) pages page before.joined readable;
        few = omega (arith, long, before.few);
      })

  -- at the end all is added, and all pages are found
  pub all_collected : (at : ℕ) (out : List ℕ) (pages : List Page950) → length messages ≤ at → HasCollected at out pages → Collects chart entries t messages old out pages
  all_collected at out pages past had =
      let none = drop_all at messages past in (
        sym (had.told ∙ (ap (λ (ms : List (List ℕ)). out ++ numbered (other_line chart entries) (at + 1) (all_received chart.home t ms)) none ∙ append-nil out)),
        sym (had.found ∙ (ap (λ (ms : List (List ℕ)). pages ++ pages_in (all_received chart.home t ms)) none ∙ append-nil pages)),
      )
