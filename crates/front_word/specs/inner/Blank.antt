-- An entry of no payment, which stands for the entry of an opening that has no name.
use Rattle.std.specs.Prelude.{[], None, pos}
use Rattle.day_model.specs.declared.pay.Mt.TheVariants.{Transfer}
use Rattle.day_model.specs.declared.pay.Pay.{Pay}
use Rattle.day_model.specs.declared.entry.Entry.{Entry}
use Rattle.day_model.specs.declared.entry.Outcome.TheVariants.{Booked}
use Rattle.front_word.specs.declared.view.Act.{Act}

-- a pay of nothing
abbrev pub blank_pay : Pay
blank_pay = record { mir = record { 0 = [] }; mt = Transfer; uetr = None; text = []; value = record { 0 = pos 0 }; legs = []; orders = [] }

-- its entry
abbrev pub blank_entry : Entry
blank_entry = record { pay = blank_pay; day = record { 0 = pos 0 }; outcome = Booked }

-- that entry, of no pass
abbrev pub blank_act : Act
blank_act = record { by = 0; entry = blank_entry }
