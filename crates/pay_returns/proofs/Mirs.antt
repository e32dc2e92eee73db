-- The reference of a return meets its grammar.
use Rattle.std.proofs.Common.{◌≡◌, ℕ, ◌≤◌, ◌==◌, ◌&&◌, Bool, true, cond, List, [], ◌∷◌, ◌++◌, length, take, drop, Some, None, refl, sym, ap, ◌∙◌, arith, append_assoc, length-append}
use Rattle.std.specs.Prelude.{codes, is_some}
use Rattle.std.specs.Char.{is_ascii_digit, is_ascii_uppercase}
use Rattle.std.specs.List.{list_all}
use Rattle.std.proofs.lemmas.Bool.{and_from, and_parts, eq-eqb, eqb-true}
use Rattle.std.proofs.lemmas.List.{append-nil, drop-drop, drop_at, take_at}
use Rattle.corr_text.specs.Digits.{padded}
use Rattle.corr_text.specs.Sets.{is_c_byte}
use Rattle.corr_text.proofs.laws.Number.{length-padded}
use Rattle.corr_ids.specs.Address.{address_of, bank_of, is_lt}
use Rattle.corr_ids.specs.Bic.{IsBic}
use Rattle.corr_ids.specs.Day.{day_of}
use Rattle.corr_ids.specs.Mir.{IsMir, is_mir, sender_of, sender_text}
use Rattle.corr_ids.specs.declared.address.LtAddress.{LtAddress}
use Rattle.corr_ids.specs.declared.bic.Bic.{Bic}
use Rattle.corr_ids.specs.declared.mir.Mir.{Mir}
use Rattle.corr_ids.proofs.laws.Spelling.{lt-form, some_if, terminal-again}
use Rattle.advices.proofs.laws.Bytes.{padded-digits}
use Rattle.pay_returns.specs.Opposite.{return_mir}

-- its date is one of the calendar
date-form : is_some (day_of (codes "800101")) ≡ true
unfolding day_of
date-form = refl

grouped : (date head branch number : List ℕ) → date ++ head ++ branch ++ number ≡ date ++ ((head ++ branch) ++ number)
grouped date head branch number = ap (λ (front : List ℕ). front ++ number) (append_assoc date head branch) ∙ append_assoc date (head ++ branch) number

module _ (home : Bic) (place : ℕ) (is : IsBic home) (small : place ≤ 100000) where
  abbrev mir : Mir
  mir = return_mir home place

  -- the terminal of the home bank
  abbrev terminal : LtAddress
  terminal = record { head = home.head; lt = 82; branch = home.branch }

  abbrev address : List ℕ
  address = home.head ++ 82 ∷ home.branch

  abbrev number : List ℕ
  number = padded 10 place

  address-form : is_lt address ≡ true
  address-form = lt-form terminal (terminal-again home 82 is refl)

  address-long : length address ≡ 12
  unfolding is_lt
  address-long =
      let both = and_parts ((length address == 12) && list_all is_ascii_uppercase (take 6 address)) (list_all is_c_byte (drop 6 address)) address-form in
      eqb-true (length address) 12 (and_parts (length address == 12) (list_all is_ascii_uppercase (take 6 address)) both.0).0

  number-long : length number ≡ 10
  number-long = length-padded 10 place (omega arith) (omega (arith, small)) (omega (arith, small))

  -- the date, the address, the number
  parts : mir.0 ≡ codes "800101" ++ (address ++ number)
  parts = grouped (codes "800101") home.head (82 ∷ home.branch) number

  pub mir_long : length mir.0 ≡ 28
  mir_long =
      let six : length (codes "800101") ≡ 6 = refl in
      let whole = length-append (codes "800101") (address ++ number) in
      let rest = length-append address number in
      ap length parts ∙ omega (arith, whole, rest, six, address-long, number-long)

  -- so are its pieces, one before another
  pub pieces_long : length (codes "800101" ++ (home.head ++ (82 ∷ (home.branch ++ (number ++ []))))) ≡ 28
  pieces_long =
      ap (λ (end : List ℕ). length (codes "800101" ++ (home.head ++ (82 ∷ (home.branch ++ end))))) (append-nil number)
      ∙ ap (λ (rest : List ℕ). length (codes "800101" ++ rest)) (sym (append_assoc home.head (82 ∷ home.branch) number))
      ∙ ap length (sym parts)
      ∙ mir_long

  date : take 6 mir.0 ≡ codes "800101"
  date = ap (take 6) parts ∙ take_at (codes "800101") (address ++ number) 6 refl

  after-date : drop 6 mir.0 ≡ address ++ number
  after-date = ap (drop 6) parts ∙ drop_at (codes "800101") (address ++ number) 6 refl

  sender : sender_text mir.0 ≡ address
  sender = ap (take 12) after-date ∙ take_at address number 12 address-long

  last : drop 18 mir.0 ≡ number
  last = sym (drop-drop 12 6 mir.0) ∙ ap (drop 12) after-date ∙ drop_at address number 12 address-long

  form : is_mir mir.0 ≡ true
  unfolding is_mir
  form =
      let long : (length mir.0 == 28) ≡ true = eq-eqb (length mir.0) 28 mir_long in
      let day : is_some (day_of (take 6 mir.0)) ≡ true = ap (λ (bs : List ℕ). is_some (day_of bs)) date ∙ date-form in
      let from : is_lt (sender_text mir.0) ≡ true = ap is_lt sender ∙ address-form in
      let digits : list_all is_ascii_digit (drop 18 mir.0) ≡ true = ap (list_all is_ascii_digit) last ∙ padded-digits 10 place (omega (arith, small)) (omega arith) in
      and_from ((length mir.0 == 28) && is_some (day_of (take 6 mir.0)) && is_lt (sender_text mir.0)) (list_all is_ascii_digit (drop 18 mir.0))
      (and_from ((length mir.0 == 28) && is_some (day_of (take 6 mir.0))) (is_lt (sender_text mir.0))
      (and_from (length mir.0 == 28) (is_some (day_of (take 6 mir.0))) long day) from) digits

  pub return-is-mir : IsMir mir
  return-is-mir = ap (λ (b : Bool). cond b (Some mir) None) form

  -- its sender is the home bank
  pub sender-head : (bank_of (sender_of mir)).head ≡ home.head
  sender-head =
      let same : address_of address ≡ terminal = (some_if (is_lt address) (address_of address) terminal (terminal-again home 82 is refl)).1 in
      ap (take 8) sender ∙ ap (λ (a : LtAddress). a.head) same
