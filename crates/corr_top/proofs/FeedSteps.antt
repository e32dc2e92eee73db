-- The feed of a message file, from one step to the next.
use Rattle.std.proofs.Common.{◌≡◌, ℕ, ◌≤◌, All, Bool, true, false, List, [], ◌∷◌, ◌++◌, drop, length, length-append, take, Option, inl, inr, sym, ap, ◌∙◌, subst, arith}
use Rattle.std.specs.Prelude.{sum}
use Rattle.std.proofs.lemmas.List.Elements.{All-append, All-drop, All-take}
use mathlib.Core.Bool.{true≢false}
use Rattle.corr_io.specs.declared.source.Source as sources
use Rattle.fin_frame.specs.Pieces.{at_places}
use Rattle.fin_frame.specs.Shown.{ShowWhole}
use Rattle.fin_frame.specs.Shown.ShowWhole.{none as whole_none, some as whole_some}
use Rattle.corr_top.specs.declared.stream.MessageFile.{MessageFile}
use Rattle.corr_top.specs.declared.stream.Stage.TheVariants as stage
use Rattle.corr_top.specs.declared.cutting.FileStop.{FileStop}
use Rattle.corr_top.specs.inner.Batching.{IsShort}
use Rattle.corr_top.specs.inner.Fed.{IsFed}
use Rattle.corr_top.specs.inner.Stream.{AreShown, IsStreamOf, batches_of, messages_so_far}
use Rattle.corr_top.proofs.MessageFiles.{all-short, short-messages}
use Rattle.corr_top.proofs.OwnedBatches.{batches_end, batches_stay, places_slice}
use Rattle.corr_top.proofs.Replying.{all_one}
use Rattle.corr_top.proofs.StreamSteps.{shown_at}

-- ---- messages are short

whole_short : {bytes : List ℕ} {messages : List (List ℕ)} → ShowWhole bytes messages → All IsShort messages
whole_short whole_none = λ k d within. absurd (omega arith)
whole_short (whole_some file message rest messages front is over) = All-append IsShort messages (message ∷ []) (short-messages front) (all_one IsShort message is.1)

found_short : (left : Option (List ℕ)) (faults : ℕ) (now : Option (List ℕ)) (count : ℕ) (bytes : List ℕ) (messages : List (List ℕ)) → AreShown left faults now count bytes messages → All IsShort messages
found_short left faults now count bytes messages (inl whole) = all-short bytes messages whole.2
found_short left faults now count bytes messages (inr shown) = whole_short shown.1

module _ {S : Type 0} (source : sources.Ghosts S) (left : Option (List ℕ)) (faults : ℕ) where
  pub messages_short : (f : MessageFile S) → IsStreamOf source left faults f → All IsShort (messages_so_far f)
  messages_short f is = found_short left faults (source.left f.source) (source.faults f.source) f.text (messages_so_far f) (shown_at source left faults f f.stage is.at)

  pub slice_short : (f : MessageFile S) → IsStreamOf source left faults f → (m n : ℕ) → All IsShort (at_places f.text (take n (drop m f.places.items)))
  slice_short f is m n =
      subst (λ (ms : List (List ℕ)). All IsShort ms) (sym (places_slice f.text m n f.places.items))
      (All-take IsShort n (drop m (messages_so_far f)) (All-drop IsShort m (messages_so_far f) (messages_short f is)))

  -- ---- more was found, and nothing given

  module _ (f g : MessageFile S) (sizes : List ℕ) (given : ℕ) (found : List (List ℕ)) (more : messages_so_far g ≡ messages_so_far f ++ found) where
    pub given_stay : (over : Bool) → IsFed source left faults (record { file = f; sizes = sizes; over = over }) given → batches_of sizes (messages_so_far g) ≡ batches_of sizes (messages_so_far f)
    given_stay over fed = ap (batches_of sizes) more ∙ batches_stay sizes (messages_so_far f) found fed.is.within

    still_within : sum sizes ≤ length (messages_so_far f) → sum sizes ≤ length (messages_so_far g)
    still_within within = let long = ap length more in let both = length-append (messages_so_far f) found in omega (arith, within, long, both)

    pub fed_on : (over : Bool) → over ≡ false → IsFed source left faults (record { file = f; sizes = sizes; over = over }) given → IsStreamOf source left faults g → IsFed source left faults (record { file = g; sizes = sizes; over = over }) given
    fed_on over unended fed is = record {
      is = record { stream = is; within = still_within fed.is.within };
      count = fed.count;
      ended = λ is_over. absurd (true≢false (sym is_over ∙ unended));
    }

    -- and the file stopped
    pub fed_stopped : (over : Bool) → IsFed source left faults (record { file = f; sizes = sizes; over = over }) given → IsStreamOf source left faults g → ((stop : FileStop) × (g.stage ≡ stage.Stopped stop)) → IsFed source left faults (record { file = g; sizes = sizes; over = true }) given
    fed_stopped over fed is stopped = record {
      is = record { stream = is; within = still_within fed.is.within };
      count = fed.count;
      ended = λ _. inr stopped;
    }

  -- ---- a batch more was given

  pub one_given : (f : MessageFile S) (sizes : List ℕ) (given n : ℕ) (over : Bool) → IsFed source left faults (record { file = f; sizes = sizes; over = over }) given
      → batches_of (sizes ++ n ∷ []) (messages_so_far f) ≡ batches_of sizes (messages_so_far f) ++ at_places f.text (take n (drop given f.places.items)) ∷ []
  one_given f sizes given n over fed =
      let slice : at_places f.text (take n (drop given f.places.items)) ≡ take n (drop (sum sizes) (messages_so_far f)) = places_slice f.text given n f.places.items ∙ ap (λ (k : ℕ). take n (drop k (messages_so_far f))) fed.count in
      batches_end sizes n (messages_so_far f) ∙ (λ i. batches_of sizes (messages_so_far f) ++ sym slice i ∷ [])
