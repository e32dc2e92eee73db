-- The message file as a stream: what is known of it while it is read in pieces, cut, and given in batches.
use Rattle.std.specs.Prelude.{◌≡◌, ◌⊎◌, ℕ, ◌+◌, ◌≤◌, All, Bool, false, true, List, [], ◌∷◌, ◌++◌, Option, drop, length, take, vec_capacity, vec_len}
use Rattle.std.specs.Io.KnownBytes.{Consumes}
use Rattle.corr_io.specs.declared.source.Source as sources
use Rattle.corr_text.specs.Faults.{Rose}
use Rattle.fin_frame.specs.Pieces.{HasTakenFile, IsPlaceIn, at_places}
use Rattle.fin_frame.specs.Shown.{ShowWhole}
use Rattle.fin_frame.specs.Whole.{is_led}
use Rattle.corr_top.specs.declared.cutting.FileStop.{FileStop}
use Rattle.corr_top.specs.declared.cutting.FileStop.TheVariants as file
use Rattle.corr_top.specs.declared.stream.MessageFile.{MessageFile}
use Rattle.corr_top.specs.declared.stream.Stage.{Stage}
use Rattle.corr_top.specs.declared.stream.Stage.TheVariants as stage
use Rattle.corr_top.specs.MessageFile.{IsMessageFile, StopsCutting, most_message_bytes, most_messages}
use Rattle.corr_top.specs.Reading.{IsRead}
use Rattle.corr_top.specs.inner.Reading.{chunk_bytes}

-- the most messages that are looked for in a piece, more than can stand there
abbrev pub most_found : ℕ
most_found = 32768

-- the messages that were found so far
abbrev pub messages_so_far : {S : Type 0} → MessageFile S → List (List ℕ)
messages_so_far f = at_places f.text f.places.items

-- messages in batches of these sizes
abbrev pub batches_of : List ℕ → List (List ℕ) → List (List (List ℕ))
batches_of [] messages = []
batches_of (n ∷ sizes) messages = take n messages ∷ batches_of sizes (drop n messages)

-- these bytes are the first that were read of a source: all, but for some last ones for which there was no memory
pub record HasFirst (before after : Option (List ℕ)) (bytes : List ℕ) : Type 0 where
  pub lost : List ℕ
  pub taken : Consumes before after (bytes ++ lost)
  pub short : length (bytes ++ lost) ≤ most_message_bytes + 1

-- the bytes that were read are the whole file, of these messages, and its source didn't fail; or they show that these, its first ones, are
-- whole
abbrev pub AreShown : Option (List ℕ) → ℕ → Option (List ℕ) → ℕ → List ℕ → List (List ℕ) → Type 0
AreShown left faults left_now faults_now bytes messages =
    (IsRead most_message_bytes left left_now bytes × (faults_now ≡ faults) × IsMessageFile bytes messages)
    ⊎ (HasFirst left left_now bytes × ShowWhole bytes messages)

-- how the file stops, where its source had this left and this count of faults at first: the source failed; it was read whole, or past
-- its limit, and is no message file; or memory ran out
abbrev pub StopsStream : Option (List ℕ) → ℕ → Option (List ℕ) → ℕ → List ℕ → FileStop → Type 0
StopsStream left faults left_now faults_now bytes (file.Fault then now) = (then ≡ faults) × (now ≡ faults_now) × Rose then now
StopsStream left faults left_now faults_now bytes (file.TooLarge count messages) =
    IsRead most_message_bytes left left_now bytes × (faults_now ≡ faults) × StopsCutting bytes (file.TooLarge count messages)
StopsStream left faults left_now faults_now bytes (file.Framing at) = IsRead most_message_bytes left left_now bytes × (faults_now ≡ faults) × StopsCutting bytes (file.Framing at)
StopsStream left faults left_now faults_now bytes file.Memory = faults_now ≡ faults

-- the stage of a file that was cut as far as it was read: to its end, or not
abbrev pub stage_at : Bool → Stage
stage_at true = stage.Whole
stage_at false = stage.Going

-- why a file has stopped: for want of memory, if it hadn't
abbrev pub stop_at : Stage → FileStop
stop_at stage.Going = file.Memory
stop_at stage.Whole = file.Memory
stop_at (stage.Stopped stop) = stop

-- what was cut of it is as it was
pub record IsSameCut {S : Type 0} (old new : MessageFile S) : Type 0 where
  pub taken : new.taken ≡ old.taken
  pub cutter : new.cutter ≡ old.cutter
  pub places : new.places ≡ old.places
  pub chunk : vec_len new.chunk ≡ vec_len old.chunk
  pub room : vec_capacity new.found ≡ vec_capacity old.found

module _ {S : Type 0} (source : sources.Ghosts S) (left : Option (List ℕ)) (faults : ℕ) where
  -- its text was read of the source, which didn't fail
  pub record IsReadOn (f : MessageFile S) : Type 0 where
    pub read : Consumes left (source.left f.source) f.text
    pub kept : source.faults f.source ≡ faults

  -- its text was read of the source, which didn't fail, and shows that the messages that were found are whole
  pub record HasFound (f : MessageFile S) : Type 0 where
    pub read : Consumes left (source.left f.source) f.text
    pub kept : source.faults f.source ≡ faults
    pub shown : ShowWhole f.text (messages_so_far f)
    pub few : length f.places.items ≤ most_messages
    pub places : All (IsPlaceIn (length f.text)) f.places.items
    pub chunk : vec_len f.chunk ≡ chunk_bytes
    pub room : most_found ≤ vec_capacity f.found

  -- it is being read: these bytes were, the source didn't fail, and what they show to be whole was cut
  pub record IsGoing (f : MessageFile S) : Type 0 where
    pub read : Consumes left (source.left f.source) f.text
    pub kept : source.faults f.source ≡ faults
    pub short : length f.text ≤ most_message_bytes
    pub within : f.taken ≤ length f.text
    pub cut : HasTakenFile f.cutter (take f.taken f.text) (messages_so_far f)
    pub led : f.cutter.apart ≡ false → is_led (drop f.taken f.text) ≡ true

  -- it was read to its end, and is these messages
  pub record IsEnded (f : MessageFile S) : Type 0 where
    pub read : IsRead most_message_bytes left (source.left f.source) f.text
    pub kept : source.faults f.source ≡ faults
    pub are : IsMessageFile f.text (messages_so_far f)

  -- it stopped, behind messages that stand whole
  pub record HasStopped (f : MessageFile S) (stop : FileStop) : Type 0 where
    pub stops : StopsStream left faults (source.left f.source) (source.faults f.source) f.text stop
    pub shown : AreShown left faults (source.left f.source) (source.faults f.source) f.text (messages_so_far f)

  abbrev pub IsAtStage : MessageFile S → Stage → Type 0
  IsAtStage f stage.Going = IsGoing f
  IsAtStage f stage.Whole = IsEnded f
  IsAtStage f (stage.Stopped stop) = HasStopped f stop

  -- what is known of it at each moment
  pub record IsStreamOf (f : MessageFile S) : Type 0 where
    pub at : IsAtStage f f.stage
    pub few : length f.places.items ≤ most_messages
    pub places : All (IsPlaceIn (length f.text)) f.places.items
    pub chunk : vec_len f.chunk ≡ chunk_bytes
    pub room : most_found ≤ vec_capacity f.found
