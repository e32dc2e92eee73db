-- What the feed of a message file has given.
use Rattle.std.specs.Prelude.{◌≡◌, ◌⊎◌, ℕ, ◌≤◌, Bool, true, List, Option, length, sum}
use Rattle.corr_io.specs.declared.source.Source as sources
use Rattle.corr_top.specs.declared.cutting.FileStop.{FileStop}
use Rattle.corr_top.specs.declared.stream.MessageFile.{MessageFile}
use Rattle.corr_top.specs.declared.stream.Stage.TheVariants as stage
use Rattle.corr_top.specs.inner.Stream.{IsStreamOf, messages_so_far}

-- a feed: its file, how many messages each batch has that it gave, and whether it has ended
pub record Fed (S : Type 0) : Type 0 where
  pub file : MessageFile S
  pub sizes : List ℕ
  pub over : Bool

-- it has ended: the file was read to its end, and all its messages were given; or the file stopped
abbrev pub IsOver : {S : Type 0} → Fed S → Type 0
IsOver f = ((f.file.stage ≡ stage.Whole) × (sum f.sizes ≡ length (messages_so_far f.file))) ⊎ ((stop : FileStop) × (f.file.stage ≡ stage.Stopped stop))

-- its file is one whose source had this left and this count of faults at first, and no more was given than was found there
pub record IsStreamFrom {S : Type 0} (source : sources.Ghosts S) (left : Option (List ℕ)) (faults : ℕ) (f : Fed S) : Type 0 where
  pub stream : IsStreamOf source left faults f.file
  pub within : sum f.sizes ≤ length (messages_so_far f.file)

-- so it is with a feed that gave so many
pub record IsFed {S : Type 0} (source : sources.Ghosts S) (left : Option (List ℕ)) (faults : ℕ) (f : Fed S) (given : ℕ) : Type 0 where
  pub is : IsStreamFrom source left faults f
  pub count : given ≡ sum f.sizes
  pub ended : f.over ≡ true → IsOver f
