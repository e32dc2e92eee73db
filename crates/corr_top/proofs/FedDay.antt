-- The batches of a feed, served over books that were closed: what stands of their messages.
use Rattle.std.proofs.Common.{◌≡◌, ℕ, All, Bool, true, List, length, map, Result, Ok, Err, refl, ◌∙◌, arith}
use Rattle.std.specs.Prelude.{IfOk}
use Rattle.std.specs.Global.{Vec}
use Rattle.std.proofs.lemmas.List.{length-map}
use Rattle.corr_books.specs.Closing.{Closes}
use Rattle.corr_books.specs.Opening.{Opening}
use Rattle.corr_books.specs.Passes.{AreNew}
use Rattle.corr_books.specs.Stand.{entries_of}
use Rattle.day_model.specs.Chart.{AreBy}
use Rattle.day_model.specs.declared.entry.Entry.{Entry}
use Rattle.day_model.specs.declared.pay.Pay.{Pay}
use Rattle.front_word.specs.Known.{PassKnows}
use Rattle.work_pool.specs.Fed.{AreFed}
use Rattle.corr_top.specs.declared.batching.Made.{Made}
use Rattle.corr_top.specs.declared.message.NoPay.{NoPay}
use Rattle.corr_top.specs.inner.Batching.{all_made, messages_in}
use Rattle.corr_top.specs.Booking.{EntersFront, IsEnteredOn}
use Rattle.corr_top.specs.Message.{pays_in}
use Rattle.corr_top.specs.inner.Serving.{AreServedInOrder, AreTold, starting}
use Rattle.corr_top.specs.inner.Workers.{Worker}
use Rattle.corr_top.proofs.Batches.{HaveServed}
use Rattle.corr_top.proofs.Batched.{messages_served}
use Rattle.corr_top.proofs.FedJobs.{all_fed, there}
use Rattle.corr_top.proofs.FedWorkers.{ServesBatch, fed_added, fed_front}
use Rattle.corr_top.proofs.Workers.{Serving, passes_of, told_of, turn_of}

module _ (o : Opening) (reading : List ℕ → Result Pay NoPay) (batches : List (List (List ℕ))) (news : List PassKnows) (after : List Worker) (history : List Entry) (faults : ℕ) (new : AreNew o news) (closes : Closes o history faults (passes_of after)) (ended : Bool) {E : Type 0}
    (replies : Result (Vec Made) E) (fed : AreFed (ServesBatch o reading batches) (map starting news) batches ended after replies) where
  abbrev messages : List (List ℕ)
  messages = messages_in batches

  -- each pass comes back
  pub all_back : length after ≡ length news
  all_back = fed.passes ∙ length-map news starting

  pub each_added : All (IsEnteredOn o.day (pays_in (map reading messages))) (entries_of closes.log)
  each_added = fed_added o reading batches news after history faults new closes fed.lists fed.one_each fed.passes fed.served

  pub entered_front : AreBy (length o.base) o.accounts → o.made ≡ 1 → EntersFront o.accounts o.base (pays_in (map reading messages)) o.day history
  entered_front by one =
      fed_front o reading batches news after history faults new closes fed.lists fed.one_each fed.passes fed.served by one
      (λ list first i a at. let e = fed.in_turn (length-map news starting ∙ new.count ∙ one) 0 i a (there (ServesBatch o reading batches) fed.lists 0 i list a first at) in omega (arith, e))

  done_if : (r : Result (Vec Made) E) → AreFed (ServesBatch o reading batches) (map starting news) batches ended after r → IfOk r (λ rs. HaveServed (Serving o reading messages) (map starting news) messages after (all_made rs.items))
  done_if (Ok rs) all = messages_served o reading (map starting news) after batches messages refl rs.items (all_fed (ServesBatch o reading batches) (map starting news) batches ended after rs all)
  done_if (Err e) all = tt

  pub told_all : IfOk replies (λ rs. AreTold o history (map reading messages) (all_made rs.items))
  told_all = told_of o reading messages (λ rs. all_made rs.items) news (map starting news) after refl history faults new closes replies (done_if replies fed)

  pub in_order : AreBy (length o.base) o.accounts → IfOk replies (λ rs. o.made ≡ 1 → AreServedInOrder o history (map reading messages) (all_made rs.items))
  in_order by = turn_of o reading messages (λ rs. all_made rs.items) news (map starting news) after refl history faults new closes by replies (done_if replies fed)

  -- where there are replies the feed has ended
  pub at_end : IfOk replies (λ _. ended ≡ true)
  at_end = end_if replies fed
    where
      end_if : (r : Result (Vec Made) E) → AreFed (ServesBatch o reading batches) (map starting news) batches ended after r → IfOk r (λ _. ended ≡ true)
      end_if (Ok rs) all = all.told.at_end
      end_if (Err e) all = tt
