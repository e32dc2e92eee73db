-- A record is of one value, and short.
use Rattle.std.proofs.Common.{◌≡◌, ℕ, ◌+◌, ◌*◌, ◌≤◌, List, length, Option, Some, None, Ok, Err, refl, sym, ap, ◌∙◌, arith}
use Rattle.day_model.specs.declared.change.Item.{Item}
use Rattle.day_model.specs.declared.change.Item.TheVariants.{Entered, Changed}
use Rattle.day_model.specs.declared.change.What.{What}
use Rattle.day_model.specs.declared.change.What.TheVariants.{Opened, Limits}
use Rattle.day_model.specs.declared.entry.Entry.{Entry}
use Rattle.day_model.specs.Chart.{Chart}
use Rattle.day_model.specs.Legal.{IsInForm}
use Rattle.day_model.specs.Shape.{HasShape}
use Rattle.jrn_codec.specs.declared.fault.EntryFault.TheVariants as faults
use Rattle.jrn_codec.specs.Record.{IsEntry, entry_bytes, entry_bytes_1}
use Rattle.jrn_codec.specs.Header.{IsHead, head_bytes, head_bytes_1, headed_bytes, version, version_1}
use Rattle.jrn_codec.specs.Change.{IsWhat, NumberFits, change_bytes}
use Rattle.jrn_codec.specs.Items.{IsItem, item_bytes}
use Rattle.jrn_codec.specs.inner.RecordReading.{entry_read}
use Rattle.jrn_codec.proofs.Changes as changes
use Rattle.jrn_codec.proofs.Entries as entries
use Rattle.jrn_codec.proofs.Heads as heads
use Rattle.jrn_codec.proofs.Lengths.{change_short, entry_short, entry_within, head_short}
use Rattle.std.proofs.lemmas.Option.{same_Some}

-- ---- one value

-- reading the record decides which entry it is
read_once : (d e : Entry) (bytes : List ℕ) (read : Option Entry) → entry_read bytes ≡ read → IsEntry d → IsEntry e → bytes ≡ entry_bytes_1 d → bytes ≡ entry_bytes_1 e → d ≡ e
read_once d e bytes (Some x) is hd he id ie = sym (entries.is_only bytes (Ok x) is d hd id) ∙ entries.is_only bytes (Ok x) is e he ie
read_once d e bytes None is hd he id ie = absurd (entries.is_only bytes (Err faults.NoEntry) is d hd id)

-- two entries with one record of version 1 are one
pub one_entry_1 : (d e : Entry) → IsEntry d → IsEntry e → entry_bytes_1 d ≡ entry_bytes_1 e → d ≡ e
one_entry_1 d e hd he same = read_once d e (entry_bytes_1 d) (entry_read (entry_bytes_1 d)) refl hd he refl same

-- two entries with one record are one
pub one_entry : (d e : Entry) → IsEntry d → IsEntry e → entry_bytes d ≡ entry_bytes e → d ≡ e
one_entry d e hd he same = one_entry_1 d e hd he (cc same)

-- two changes with one record are one
pub one_change : (v w : What) → IsWhat v → IsWhat w → change_bytes v ≡ change_bytes w → v ≡ w
one_change v w hv hw same = changes.is_only (change_bytes v) v w (changes.read_again (change_bytes v) v hv refl) hw same

-- no record is of an entry and of a change
pub apart : (e : Entry) (what : What) → entry_bytes e ≡ change_bytes what → ⊥
apart e (Opened account) same = absurd (cc same)
apart e (Limits n floor ceil) same = absurd (cc same)

-- two items with one record are one
pub one_item : (a b : Item) → IsItem a → IsItem b → item_bytes a ≡ item_bytes b → a ≡ b
one_item (Entered d) (Entered e) ha hb same = ap (λ (x : Entry). Entered x) (one_entry d e ha hb same)
one_item (Changed v) (Changed w) ha hb same = ap (λ (x : What). Changed x) (one_change v w ha hb same)
one_item (Entered e) (Changed w) ha hb same = absurd (apart e w same)
one_item (Changed w) (Entered e) ha hb same = absurd (apart e w (sym same))

-- two books with one header of a version are one
one_headed : (version : List ℕ) (a b : Chart) → length version ≡ 6 → IsHead a → IsHead b → headed_bytes version a ≡ headed_bytes version b → a ≡ b
one_headed version a b six ha hb same =
    same_Some a b (sym (heads.read_again version (headed_bytes version a) a six ha refl) ∙ heads.read_again version (headed_bytes version a) b six hb same)

-- two books with one header are one
pub one_head : (a b : Chart) → IsHead a → IsHead b → head_bytes a ≡ head_bytes b → a ≡ b
one_head a b ha hb same = one_headed version a b refl ha hb same

-- and with one header of version 1
pub one_head_1 : (a b : Chart) → IsHead a → IsHead b → head_bytes_1 a ≡ head_bytes_1 b → a ≡ b
one_head_1 a b ha hb same = one_headed version_1 a b refl ha hb same

-- ---- writing

-- a change that has a record may be written
pub may_write : (what : What) → IsWhat what → IsInForm what × NumberFits what
may_write (Opened account) is = (is.formed, tt)
may_write (Limits n floor ceil) is = (tt, omega (arith, is.0))

-- ---- lengths

-- a record has the bytes of its text, 25 an order, and 178 more at most
pub record_within : (e : Entry) → HasShape e.pay → length (entry_bytes e) ≤ length e.pay.text + length e.pay.orders * 25 + 178
record_within e h = entry_within e h

-- the longest record: a text of 32,768 bytes, 255 orders and what else there is
pub short_record : (e : Entry) → HasShape e.pay → length (entry_bytes e) ≤ 39321
short_record e h = entry_short e h

-- so it is no longer than a record of a journal may be
pub few_bytes : (e : Entry) → HasShape e.pay → length (entry_bytes e) ≤ 1048576
few_bytes e h = omega (arith, entry_short e h)

-- nor is that of an item
pub few_in_item : (item : Item) → IsItem item → length (item_bytes item) ≤ 1048576
few_in_item (Entered e) is = few_bytes e is.pay
few_in_item (Changed what) is = omega (arith, change_short what is)

-- nor is a header
pub few_in_head : (chart : Chart) → IsHead chart → length (head_bytes chart) ≤ 1048576
few_in_head chart h = omega (arith, head_short version chart refl h)
