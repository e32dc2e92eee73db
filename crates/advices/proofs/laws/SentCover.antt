-- The cover of a transfer that is sent on is read of its fields: its 56a stands with 57a, as that of the transfer did.
use Rattle.std.proofs.Common.{◌≡◌, ℕ, false, List, [], Option, Some, None, Ok, refl}
use Rattle.std.specs.Prelude.{codes, find, is_none, is_some}
use Rattle.corr_text.specs.First.{first_of}
use Rattle.corr_ids.specs.declared.bic.Bic.{Bic}
use Rattle.corr_money.specs.declared.amount.Amount.{Amount}
use Rattle.ref_tables.specs.Seen.{Tables}
use Rattle.fin_fields.specs.declared.field.Field.{Field}
use Rattle.fin_layout.specs.Order.{places_from}
use Rattle.fin_contents.specs.Parties.{known_party_of}
use Rattle.fin_contents.specs.declared.value.Value.{Value}
use Rattle.mt103.specs.Message.{content_test as content_103, field_tests as tests_103, mt103_of}
use Rattle.mt103.specs.Order.{order_103}
use Rattle.mt103.specs.declared.message.Mt103.{Mt103}
use Rattle.mt103_rules.specs.Rules.{all_rules}
use Rattle.mt202cov.specs.Message.{content_test, field_tests, mt202cov_of}
use Rattle.mt202cov.specs.Order.{order_202}
use Rattle.mt202cov.specs.declared.message.Mt202Cov.{Mt202Cov}
use Rattle.day_model.specs.declared.pay.Skip.{Skip}
use Rattle.day_model.specs.declared.pay.Skip.TheVariants.{Keep, Mid, Both}
use Rattle.advices.specs.Fields.{is_named}
use Rattle.advices.specs.Transfer.{account_bank, intermediary}
use Rattle.advices.proofs.laws.CoverSays.{cover-reads, lacks}
use Rattle.advices.proofs.laws.Covers.{cover_segs}
use Rattle.advices.proofs.laws.Finding.{copied-at}
use Rattle.advices.proofs.laws.Fitted.{IsPartedInto, row}
use Rattle.advices.proofs.laws.Said.{at_place, first, first-some, option-there}
use Rattle.advices.proofs.laws.Parted.{parted-at}
use Rattle.advices.proofs.laws.TransferRules.{c81-of}
use Rattle.advices.proofs.laws.TransferSays.{read-says}

-- whatever is passed on, 56a stands with 57a where it did
pub lacks-passed : (skip : Skip) (fs : List Field) → lacks (find (is_named 56 (codes "ACD")) fs) (find (is_named 57 (codes "ABCD")) fs) ≡ false
    → lacks (first (intermediary skip fs)) (first (account_bank skip fs)) ≡ false
lacks-passed Keep fs e = rw (first-some (find (is_named 56 (codes "ACD")) fs), first-some (find (is_named 57 (codes "ABCD")) fs)) e
lacks-passed Mid fs e = refl
lacks-passed Both fs e = refl

pub none-there : {A B : Type 0} (o : Option A) (p : Option B) → is_some o ≡ is_some p → is_none o ≡ is_none p
none-there None None e = refl
none-there None (Some y) e = absurd (cc e)
none-there (Some x) None e = absurd (cc e)
none-there (Some x) (Some y) e = refl

module _ (t : Tables) (fs : List Field) (reference related : List ℕ) (v : Value) (ordered : Amount) (end : Bic) (skip : Skip) (f52 : Field)
    (sent : List Field)
    (none : first_of (tests_103 t fs) ≡ None) (pass : first_of (field_tests t sent) ≡ None)
    (p : IsPartedInto order_202 (content_test t) sent (cover_segs fs reference related v ordered end skip f52))
    (m : Mt103) (read : mt103_of t fs ≡ Ok m) where
  abbrev segs : List (List Field)
  segs = cover_segs fs reference related v ordered end skip f52

  abbrev held : List ℕ
  held = places_from order_202 0 sent

  -- the transfer that came had 57a where it had 56a
  had : (sender receiver : Bic) → first_of (all_rules sender receiver t m) ≡ None
      → lacks (find (is_named 56 (codes "ACD")) fs) (find (is_named 57 (codes "ABCD")) fs) ≡ false
  had sender receiver rules =
      let s = read-says t fs m read in
      let found = places_from order_103 0 fs in
      let one = option-there fs found 13 (known_party_of t) m.p56 s.p56 in
      let two = none-there m.p57 (at_place fs found 14) (option-there fs found 14 (known_party_of t) m.p57 s.p57) in
      let at_56 = copied-at order_103 (content_103 t) fs none 56 (codes "ACD") 13 refl in
      let at_57 = copied-at order_103 (content_103 t) fs none 57 (codes "ABCD") 14 refl in
      let kept : lacks (at_place fs found 13) (at_place fs found 14) ≡ false = rw (← one, ← two) (c81-of t sender receiver m rules) in
      rw (at_56, at_57) kept

  pub sent-cover-reads : (sender receiver : Bic) → first_of (all_rules sender receiver t m) ≡ None → (n : Mt202Cov) × (mt202cov_of t sent ≡ Ok n)
  sent-cover-reads sender receiver rules =
      let a = parted-at order_202 row (content_test t) sent segs p 7 [] refl in
      let b = parted-at order_202 row (content_test t) sent segs p 13 (intermediary skip fs) refl in
      let c = parted-at order_202 row (content_test t) sent segs p 14 (account_bank skip fs) refl in
      cover-reads t sent pass (rw a refl) (rw (b, c) (lacks-passed skip fs (had sender receiver rules)))
