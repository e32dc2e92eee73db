-- The records of a journal with one more.
use Rattle.std.proofs.Common.{◌≡◌, ℕ, List, [], ◌∷◌, ◌++◌, sym, ap, ◌∙◌}
use Rattle.std.specs.Prelude.{map}
use Rattle.day_model.specs.declared.entry.Entry.{Entry}
use Rattle.day_model.specs.Chart.{Chart}
use Rattle.day_model.specs.Items.{items_from}
use Rattle.jrn_codec.specs.Header.{IsHead, head_bytes}
use Rattle.jrn_codec.specs.Items.{item_bytes}
use Rattle.jrn_book.specs.declared.version.Version.TheVariants.{Two}
use Rattle.jrn_book.specs.Journal.{item_records}
use Rattle.jrn_book.proofs.laws.Items.{head_with, item_records_with}
use Rattle.standby.specs.Held.{ComesNext, Held, IsHeld, journal, nothing, records_of}

-- a new journal has no item
pub no_items : (chart : Chart) (history : List Entry) → IsHead chart → history ≡ [] → item_records chart history ≡ []
no_items chart history head none = λ i. map item_bytes (items_from 0 (head.unchanged i) (none i))

-- the records of what is held with one more
pub records_next : (held next : Held) (r : List ℕ) → IsHeld held → ComesNext held r next → records_of next ≡ records_of held ++ r ∷ []
records_next nothing nothing r good comes = absurd comes
records_next (journal c h) nothing r good comes = absurd comes
records_next nothing (journal c h) r good comes = λ i. sym comes.1 i ∷ no_items c h comes.0 comes.2 i
records_next (journal c h) (journal d k) r good comes =
    let heads : head_bytes d ≡ head_bytes c = ap head_bytes comes.3 ∙ head_with Two c h comes.0 in
    let records : item_records d k ≡ item_records c h ++ r ∷ [] =
    (λ i. item_records (comes.3 i) (comes.4 i)) ∙ item_records_with c h comes.0 good.legal ∙ ap (λ (x : List ℕ). item_records c h ++ x ∷ []) (sym comes.2) in
    λ i. heads i ∷ records i
