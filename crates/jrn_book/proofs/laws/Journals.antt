-- A journal without items.
use Rattle.std.proofs.Common.{All, List, [], sym, subst}
use Rattle.std.proofs.lemmas.List.Elements.{All-nil}
use Rattle.day_model.specs.declared.change.Change.{Change}
use Rattle.day_model.specs.declared.change.Item.TheVariants.{Changed}
use Rattle.day_model.specs.Changes.{all_changed}
use Rattle.day_model.specs.Chart.{Chart, HasCode}
use Rattle.day_model.proofs.laws.Growth.{empty_is_legal}
use Rattle.jrn_codec.specs.Header.{IsHead}
use Rattle.jrn_codec.specs.Record.{IsEntry}
use Rattle.jrn_book.specs.declared.version.Version.{Version}
use Rattle.jrn_book.specs.Journal.{IsJournalIn}
use Rattle.jrn_book.specs.Versions.{HasBytes}

-- what has a header is that of a journal of it and nothing more
pub empty_journal : (version : Version) (chart : Chart) → IsHead chart → IsJournalIn version chart []
empty_journal version chart head =
    let none = head.unchanged in
    record {
      head = subst (λ (cs : List Change). IsHead (record chart { changes = cs })) none head;
      book = head.book;
      codes = subst (λ (cs : List Change). All HasCode (all_changed cs chart.first)) (sym none) head.codes;
      changes = subst (λ (cs : List Change). All (λ c. HasBytes version (Changed c.what)) cs) (sym none) (All-nil (λ (c : Change). HasBytes version (Changed c.what)));
      entries = All-nil IsEntry;
      legal = empty_is_legal chart none;
    }
