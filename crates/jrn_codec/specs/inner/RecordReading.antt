-- Reading an entry from all of the bytes.
use Rattle.std.specs.Prelude.{ℕ, ◌==◌, ◌&&◌, not, Bool, List, length, Option, Some, None, nat_le, int_le, pos, if◌then◌else◌}
use Rattle.std.specs.List.{list_all}
use Rattle.std.specs.Int.{w16, w32, w64}
use Rattle.corr_text.specs.declared.set.Set.TheVariants.{X}
use Rattle.corr_text.specs.Sets.{is_in}
use Rattle.corr_text.specs.Slashes.{has_stray_slash}
use Rattle.corr_ids.specs.Day.{◌>>=◌}
use Rattle.corr_ids.specs.Mir.{mir_of}
use Rattle.corr_ids.specs.Uetr.{uetr_of}
use Rattle.corr_ids.specs.declared.bic.Bic.{Bic}
use Rattle.corr_ids.specs.declared.day.Day.{Day}
use Rattle.corr_ids.specs.declared.mir.Mir.{Mir}
use Rattle.corr_ids.specs.declared.uetr.Uetr.{Uetr}
use Rattle.day_model.specs.Chart.{most_accounts}
use Rattle.day_model.specs.declared.pay.Side.{Side}
use Rattle.day_model.specs.declared.pay.Side.TheVariants.{Debit, Credit}
use Rattle.day_model.specs.declared.pay.Mt.{Mt}
use Rattle.day_model.specs.declared.pay.Mt.TheVariants.{Transfer, Cover}
use Rattle.day_model.specs.declared.pay.Quote.{Quote}
use Rattle.day_model.specs.declared.pay.Quote.TheVariants.{Ours, Theirs}
use Rattle.day_model.specs.declared.pay.Leg.{Leg}
use Rattle.day_model.specs.declared.pay.Skip.{Skip}
use Rattle.day_model.specs.declared.pay.Skip.TheVariants.{Keep, Mid, Both}
use Rattle.day_model.specs.declared.pay.Order.{Order}
use Rattle.day_model.specs.declared.pay.Order.TheVariants as order
use Rattle.day_model.specs.declared.entry.Outcome.{Outcome}
use Rattle.day_model.specs.declared.entry.Outcome.TheVariants.{Booked, Unfunded}
use Rattle.day_model.specs.declared.entry.Entry.{Entry}
use Rattle.day_model.specs.Fit.{are_legs}
use Rattle.day_model.specs.Shape.{most_text}
use Rattle.jrn_codec.specs.declared.entry.Stamp.{Stamp}
use Rattle.jrn_codec.specs.declared.entry.Fate.{Fate}
use Rattle.jrn_codec.specs.inner.Reading.{byte_at, number_at, signed_at, spelled_at, mark_at, bic_at, optional_at, short_at, long_at, listed_at}

-- the type of a message by its mark
abbrev pub mt_of : ℕ → Option Mt
mt_of mark = if mark == 1 then Some Transfer else if mark == 2 then Some Cover else None

-- a side by its mark
abbrev pub side_of : ℕ → Option Side
side_of mark = if mark == 0 then Some Debit else if mark == 1 then Some Credit else None

-- which fields are left out, by the mark
abbrev pub skip_marked : ℕ → Option Skip
skip_marked mark = if mark == 0 then Some Keep else if mark == 1 then Some Mid else if mark == 2 then Some Both else None

-- a day of the century
abbrev pub in_century : Day → Bool
in_century day = int_le (pos 3652) day.0 && int_le day.0 (pos 40176)

-- a reference that another bank may have given
abbrev pub is_reference : List ℕ → Bool
is_reference text = nat_le 1 (length text) && nat_le (length text) 16 && list_all (is_in X) text && not (has_stray_slash text)

-- one of at most 1,000 accounts
abbrev pub is_account_number : ℕ → Bool
is_account_number n = nat_le 1 n && nat_le n most_accounts

-- one of so many legs
abbrev pub is_leg_number : ℕ → ℕ → Bool
is_leg_number legs n = nat_le 1 n && nat_le n legs

-- a reference, and its bytes
abbrev pub mir_at : List ℕ → Option (Mir × List ℕ)
mir_at bytes = spelled_at 28 mir_of bytes

-- the reference of a payment
abbrev pub uetr_at : List ℕ → Option (Uetr × List ℕ)
uetr_at bytes = spelled_at 36 uetr_of bytes

-- a day of the century
unfoldable pub day_at : List ℕ → Option (Day × List ℕ)
day_at bytes = do
  n ← signed_at w32 bytes
  if in_century (record { 0 = n.0 }) then Some (record { 0 = n.0 }, n.1) else None

-- the leg that failed and the balance of its account
unfoldable pub unfunded_at : List ℕ → Option (Outcome × List ℕ)
unfunded_at bytes = do
  leg ← byte_at bytes
  balance ← signed_at w64 leg.1
  Some (Unfunded leg.0 balance.0, balance.1)

-- an outcome after its mark
unfoldable pub outcome_at : List ℕ → Option (Outcome × List ℕ)
outcome_at bytes = do
  mark ← byte_at bytes
  if mark.0 == 0 then Some (Booked, mark.1) else if mark.0 == 1 then unfunded_at mark.1 else None

-- another bank's reference
unfoldable pub theirs_at : List ℕ → Option (Quote × List ℕ)
theirs_at bytes = do
  text ← short_at bytes
  if is_reference text.0 then Some (Theirs text.0, text.1) else None

-- the number of our order
unfoldable pub ours_at : List ℕ → Option (Quote × List ℕ)
ours_at bytes = do
  k ← byte_at bytes
  Some (Ours k.0, k.1)

-- a quote after its mark
unfoldable pub quote_at : List ℕ → Option (Quote × List ℕ)
quote_at bytes = do
  mark ← byte_at bytes
  if mark.0 == 0 then theirs_at mark.1 else if mark.0 == 1 then ours_at mark.1 else None

-- a leg of these parts
abbrev pub leg_with : ℕ → Side → ℕ → Quote → Leg
leg_with account side amount quote = record { account = record { 0 = account }; side = side; amount = record { 0 = amount }; quote = quote }

-- a leg on one of at most 1,000 accounts
unfoldable pub leg_at : List ℕ → Option (Leg × List ℕ)
leg_at bytes = do
  account ← number_at w16 bytes
  side ← mark_at side_of account.1
  amount ← number_at w64 side.1
  quote ← quote_at amount.1
  if is_account_number account.0 then Some (leg_with account.0 side.0 amount.0 quote.0, quote.1) else None

-- what a transfer adds
unfoldable pub transfer_at : List ℕ → Option (Order × List ℕ)
transfer_at bytes = do
  to ← bic_at bytes
  skip ← mark_at skip_marked to.1
  via ← optional_at bic_at skip.1
  Some (order.Transfer to.0 skip.0 via.0, via.1)

-- what a cover adds
unfoldable pub cover_at : List ℕ → Option (Order × List ℕ)
cover_at bytes = do
  to ← bic_at bytes
  end ← bic_at to.1
  skip ← mark_at skip_marked end.1
  Some (order.Cover to.0 end.0 skip.0, skip.1)

-- what a cover that is passed on adds
unfoldable pub pass_at : List ℕ → Option (Order × List ℕ)
pass_at bytes = do
  to ← bic_at bytes
  skip ← mark_at skip_marked to.1
  Some (order.Pass to.0 skip.0, skip.1)

-- a bank and one of so many legs
unfoldable pub noticed_at : ℕ → List ℕ → Option ((Bic × ℕ) × List ℕ)
noticed_at legs bytes = do
  to ← bic_at bytes
  leg ← byte_at to.1
  if is_leg_number legs leg.0 then Some ((to.0, leg.0), leg.1) else None

-- what a notice of a debit adds
unfoldable pub debit_at : ℕ → List ℕ → Option (Order × List ℕ)
debit_at legs bytes = do
  notice ← noticed_at legs bytes
  Some (order.Debit notice.0.0 notice.0.1, notice.1)

-- what a notice of a credit adds
unfoldable pub credit_at : ℕ → List ℕ → Option (Order × List ℕ)
credit_at legs bytes = do
  notice ← noticed_at legs bytes
  Some (order.Credit notice.0.0 notice.0.1, notice.1)

-- an order of a kind, 1 to 5
abbrev pub kind_at : ℕ → ℕ → List ℕ → Option (Order × List ℕ)
kind_at legs kind bytes =
    if kind == 1 then transfer_at bytes
    else if kind == 2 then cover_at bytes
    else if kind == 3 then pass_at bytes
    else if kind == 4 then debit_at legs bytes
    else if kind == 5 then credit_at legs bytes
    else None

-- an order of a pay with so many legs
unfoldable pub order_at : ℕ → List ℕ → Option (Order × List ℕ)
order_at legs bytes = do
  kind ← byte_at bytes
  kind_at legs kind.0 kind.1

-- which message it was
unfoldable pub stamp_at : List ℕ → Option (Stamp × List ℕ)
stamp_at bytes = do
  mir ← mir_at bytes
  mt ← mark_at mt_of mir.1
  uetr ← optional_at uetr_at mt.1
  Some (record { mir = mir.0; mt = mt.0; uetr = uetr.0 }, uetr.1)

-- when it was entered, its value date, and what became of it
unfoldable pub fate_at : List ℕ → Option (Fate × List ℕ)
fate_at bytes = do
  day ← day_at bytes
  value ← day_at day.1
  outcome ← outcome_at value.1
  Some (record { day = day.0; value = value.0; outcome = outcome.0 }, outcome.1)

-- legs and text are those of a pay, and nothing follows
abbrev pub is_whole_pay : List Leg → List ℕ → List ℕ → Bool
is_whole_pay legs text rest = are_legs legs && nat_le (length text) most_text && (length rest == 0)

-- an entry with these parts
abbrev pub entry_with : Stamp → Fate → List Leg → List Order → List ℕ → Entry
entry_with stamp fate legs orders text = record {
  pay = record { mir = stamp.mir; mt = stamp.mt; uetr = stamp.uetr; text = text; value = fate.value; legs = legs; orders = orders };
  day = fate.day;
  outcome = fate.outcome;
}

-- the entry that all of the bytes spell
unfoldable pub entry_read : List ℕ → Option Entry
entry_read bytes = do
  stamp ← stamp_at bytes
  fate ← fate_at stamp.1
  legs ← listed_at leg_at fate.1
  orders ← listed_at (order_at (length legs.0)) legs.1
  text ← long_at orders.1
  if is_whole_pay legs.0 text.0 text.1 then Some (entry_with stamp.0 fate.0 legs.0 orders.0 text.0) else None
