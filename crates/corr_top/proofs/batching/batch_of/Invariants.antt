use Rattle.std.proofs.Common.{◌≡◌, ◌*◌, ◌≤◌, length, take, vec_capacity}
use Rattle.fin_frame.specs.File.{most_bytes}
use Rattle.fin_frame.specs.Pieces.{at_places}
use Rattle.corr_top.specs.inner.Batching.{AreInText}
use Rattle.corr_top.proofs.batching.batch_of.Given as goal

-- so many messages were put into the text
abbrev pub invariant-loop-message : goal.invariant-loop-message
invariant-loop-message g l = record {
  put : at_places l.text l.places.items ≡ take l.message-index l.messages;
  within : AreInText l.text l.places.items;
  small : length l.text ≤ most_bytes * length l.places.items;
  count : length l.places.items ≡ l.message-index;
  room : length l.messages ≤ vec_capacity l.places;
}
