-- A transfer that is sent on is read of its fields, and breaks no rule.
use Rattle.std.proofs.Common.{◌≡◌, ℕ, Bool, true, false, List, [], ◌∷◌, ◌++◌, slice_get, Option, Some, None, Result, Ok, refl, sym, ap, ◌∙◌, subst, inl, inr}
use Rattle.std.specs.Prelude.{codes, filter, find, is_some, option_to_list, IfSome}
use Rattle.corr_text.specs.First.{first_of}
use Rattle.corr_text.specs.declared.fault.Code.{Code}
use Rattle.corr_ids.specs.Bic.{IsBic}
use Rattle.corr_ids.specs.declared.bic.Bic.{Bic}
use Rattle.corr_money.specs.declared.amount.Amount.{Amount}
use Rattle.corr_money.specs.declared.amount.Ccy.{Ccy}
use Rattle.ref_tables.specs.Seen.{Tables, has_head}
use Rattle.fin_fields.specs.declared.field.Field.{Field}
use Rattle.fin_layout.specs.Contents.{all_from, in_option}
use Rattle.fin_layout.specs.Order.{field_in, places_from}
use Rattle.fin_layout.proofs.laws.Fine.{all-hold}
use Rattle.fin_parties.specs.declared.party.Party.{Party}
use Rattle.fin_parties.specs.declared.party.Party.TheVariants as party
use Rattle.fin_contents.specs.Money.{ccy_amount_of, rate_of, value_of}
use Rattle.fin_contents.specs.Parties.{known_party_of}
use Rattle.fin_contents.specs.Writing.{ccy_amount_field, some_field, value_field}
use Rattle.fin_contents.specs.declared.value.Value.{Value}
use Rattle.fin_contents.proofs.laws.Said.{stand}
use Rattle.mt103.specs.Codes.{charge_of, instr_of, is_charged, operation_of}
use Rattle.mt103.specs.Instructions.{d98, e46}
use Rattle.mt103.specs.Message.{content_test, field_tests, mt103_of}
use Rattle.mt103.specs.Order.{order_103}
use Rattle.mt103.specs.declared.instruction.Instr.{Instr}
use Rattle.mt103.specs.declared.message.Mt103.{Mt103}
use Rattle.mt103.proofs.laws.Passed.{instructions-pass}
use Rattle.mt103_rules.specs.Parties.{is_bare_b, is_d}
use Rattle.mt103_rules.specs.Rules.{all_rules}
use Rattle.day_model.specs.declared.pay.Skip.{Skip}
use Rattle.day_model.specs.declared.pay.Skip.TheVariants.{Keep, Mid, Both}
use Rattle.advices.specs.Fields.{bank_field, copied, copied_all, is_named}
use Rattle.advices.specs.Transfer.{account_bank, passed_instructions, intermediary, is_there, or_amount, ordered_amount, taken_fields}
use Rattle.advices.proofs.laws.Banks.{bank-read}
use Rattle.advices.proofs.laws.Copies.{each-says}
use Rattle.advices.proofs.laws.Finding.{agree, any-field, copied-at, tells_from}
use Rattle.advices.proofs.laws.Fitted.{IsPartedInto, row}
use Rattle.advices.proofs.laws.Instructions.{staying, stays, together}
use Rattle.advices.proofs.laws.Origin.{found-read}
use Rattle.advices.proofs.laws.Said.{all_said, at_place, both-said, chosen-said, first, first-some, ok_of, option-said, option-there, said_in, same-option, same-place, some_first}
use Rattle.advices.proofs.laws.TransferRules.{IsOrdered, IsSentOn, kept_56, kept_57, rules-kept}
use Rattle.advices.proofs.laws.TransferSays.{TransferSays, contents-fine, contents-say, read-fine, read-says}
use Rattle.advices.proofs.laws.Transfers.{form-53, transfer_segs}
use Rattle.advices.proofs.laws.Parted.{parted-at, parted-said}
use Rattle.advices.proofs.laws.Values.{ChargeReads}

-- ---- single places

pub first-there : (s : List Field) → is_some (first s) ≡ is_there s
first-there [] = refl
first-there (f ∷ s) = refl

-- 56a and 57a by what is passed on
pub first-56 : (read : Field → Result Party Code) (skip : Skip) (fs : List Field) (o : Option Party)
    → o ≡ said_in read (find (is_named 56 (codes "ACD")) fs) → said_in read (first (intermediary skip fs)) ≡ kept_56 skip o
first-56 read Keep fs o e = ap (said_in read) (first-some (find (is_named 56 (codes "ACD")) fs)) ∙ sym e
first-56 read Mid fs o e = refl
first-56 read Both fs o e = refl

pub first-57 : (read : Field → Result Party Code) (skip : Skip) (fs : List Field) (o : Option Party)
    → o ≡ said_in read (find (is_named 57 (codes "ABCD")) fs) → said_in read (first (account_bank skip fs)) ≡ kept_57 skip o
first-57 read Keep fs o e = ap (said_in read) (first-some (find (is_named 57 (codes "ABCD")) fs)) ∙ sym e
first-57 read Mid fs o e = ap (said_in read) (first-some (find (is_named 57 (codes "ABCD")) fs)) ∙ sym e
first-57 read Both fs o e = refl

-- the bank that covers it is named by its BIC
via-said : (t : Tables) (via : Option Bic) (x : Option Party) → IfSome via (λ b. IsBic b × (has_head t b.head ≡ true))
    → x ≡ said_in (known_party_of t) (first (some_field (bank_field 53) via)) → (is_d x ≡ false) × (is_bare_b x ≡ false)
via-said t None x is e = rw e (refl, refl)
via-said t (Some b) x is e =
    let same : x ≡ Some (party.A None b) = e ∙ ap (λ (r : Result Party Code). ok_of r) (bank-read t 53 b form-53 is.0 is.1) in
    rw same (refl, refl)

-- 33B as it came, or what was ordered
ordered-on : (t : Tables) (a : Amount) (ccy : Ccy) (o : Option Field) (came sent : Option Amount) → a.ccy ≡ ccy
    → ccy_amount_of t (ccy_amount_field 33 (Some 66) a) ≡ Ok a → came ≡ said_in (ccy_amount_of t) o → is_some came ≡ is_some o
    → sent ≡ said_in (ccy_amount_of t) (first (or_amount a (some_field (λ f. f) o))) → IsOrdered ccy came sent
ordered-on t a ccy None came sent in_ccy made c some e = record {
  amount = a;
  there = e ∙ ap (λ (r : Result Amount Code). ok_of r) made;
  same = inr (c, in_ccy);
}
ordered-on t a ccy (Some f) came sent in_ccy made c some e = go came refl some
  where
    go : (x : Option Amount) → came ≡ x → is_some x ≡ true → IsOrdered ccy came sent
    go None h is = absurd (cc is)
    go (Some b) h is = record { amount = b; there = e ∙ sym c ∙ h; same = inl h }

-- our own charge
charge-said : (t : Tables) (charge : Option Amount) → ChargeReads t charge
    → all_said (ccy_amount_of t) (some_field (ccy_amount_field 71 (Some 70)) charge) ≡ option_to_list charge
charge-said t None made = refl
charge-said t (Some a) made = ap (λ (r : Result Amount Code). some_first (ok_of r) []) made

-- ---- the whole

module _ (t : Tables) (fs : List Field) (reference : List ℕ) (v : Value) (ordered : Amount) (charge : Option Amount) (skip : Skip) (via : Option Bic)
    (f52 : Field) (sent : List Field)
    (none : first_of (field_tests t fs) ≡ None) (pass : first_of (field_tests t sent) ≡ None)
    (p : IsPartedInto order_103 (content_test t) sent (transfer_segs fs reference v ordered charge skip via f52))
    (four : value_of t (value_field v) ≡ Ok v) (made : ccy_amount_of t (ccy_amount_field 33 (Some 66) ordered) ≡ Ok ordered)
    (charge_reads : ChargeReads t charge)
    (via_is : IfSome via (λ b. IsBic b × (has_head t b.head ≡ true)))
    (m : Mt103) (read : mt103_of t fs ≡ Ok m) (ccy : v.amount.ccy ≡ m.amount.ccy) (ordered_ccy : ordered.ccy ≡ m.amount.ccy)
    (bears : IfSome charge (λ a. is_charged m.charge ≡ true)) where
  abbrev segs : List (List Field)
  segs = transfer_segs fs reference v ordered charge skip via f52

  abbrev found : List ℕ
  found = places_from order_103 0 fs

  abbrev held : List ℕ
  held = places_from order_103 0 sent

  here : (k : ℕ) (s : List Field) → slice_get segs k ≡ Some s → at_place sent held k ≡ first s
  here k s e = parted-at order_103 row (content_test t) sent segs p k s e

  -- the field of a name in the one that came
  came : (tag : ℕ) (letters : List ℕ) (k : ℕ) → tells_from tag letters k 0 order_103 ≡ true → find (is_named tag letters) fs ≡ at_place fs found k
  came tag letters k tells = copied-at order_103 (content_test t) fs none tag letters k tells

  -- a field that is taken over stands at its place again
  again : (tag : ℕ) (letters : List ℕ) (k : ℕ) → slice_get segs k ≡ Some (copied tag letters fs) → tells_from tag letters k 0 order_103 ≡ true
      → at_place sent held k ≡ at_place fs found k
  again tag letters k e tells = here k (copied tag letters fs) e ∙ first-some (find (is_named tag letters) fs) ∙ came tag letters k tells

  -- fields that pass a test just where they stand at a place
  chosen : {A : Type 0} (tag : ℕ) (letters : List ℕ) (k : ℕ) (read : Field → Result A Code) (xs : List A) → tells_from tag letters k 0 order_103 ≡ true
      → all_from fs k read 0 found fs ≡ Ok xs → xs ≡ all_said read (copied_all (is_named tag letters) fs)
  chosen tag letters k read xs tells e =
      let hold = all-hold order_103 (content_test t) fs none in
      chosen-said fs k read (is_named tag letters) 0 found fs xs
      (agree tag letters k order_103 found fs tells (stand order_103 (λ _. Unit {0}) 0 fs (any-field fs))) hold.whole e

  module _ (n : Mt103) (c : TransferSays t fs m) (d : TransferSays t sent n) where
    has_56 : is_there (intermediary skip fs) ≡ is_some n.p56
    has_56 =
        sym (first-there (intermediary skip fs)) ∙ sym (ap (λ (o : Option Field). is_some o) (here 13 (intermediary skip fs) refl))
        ∙ sym (option-there sent held 13 (known_party_of t) n.p56 d.p56)

    has_57 : is_there (account_bank skip fs) ≡ is_some n.p57
    has_57 =
        sym (first-there (account_bank skip fs)) ∙ sym (ap (λ (o : Option Field). is_some o) (here 14 (account_bank skip fs) refl))
        ∙ sym (option-there sent held 14 (known_party_of t) n.p57 d.p57)

    instrs-on : n.instrs ≡ filter (stays (is_some n.p56) (is_some n.p57)) m.instrs
    instrs-on =
        let left = parted-said order_103 row (content_test t) sent segs p 3 (passed_instructions skip fs) instr_of n.instrs (λ f. refl) refl d.instrs in
        let all = chosen 23 (codes "E") 3 instr_of m.instrs refl c.instrs in
        let some =
        staying (is_there (intermediary skip fs)) (is_there (account_bank skip fs)) fs
        (each-says order_103 (content_test t) fs none 23 (codes "E") (3 ∷ []) instr_of refl ((λ f. refl), tt)) in
        left ∙ some ∙ ap (filter (stays (is_there (intermediary skip fs)) (is_there (account_bank skip fs)))) (sym all)
        ∙ ap (λ (b : Bool). filter (stays b (is_there (account_bank skip fs))) m.instrs) has_56
        ∙ ap (λ (b : Bool). filter (stays (is_some n.p56) b) m.instrs) has_57

    -- what was taken off before, and then our own charge
    taken-on : n.taken ≡ m.taken ++ option_to_list charge
    taken-on =
        let came = copied_all (is_named 71 (codes "F")) fs in
        let own = some_field (ccy_amount_field 71 (Some 70)) charge in
        let before = chosen 71 (codes "F") 18 (ccy_amount_of t) m.taken refl c.taken in
        parted-said order_103 row (content_test t) sent segs p 18 (taken_fields charge fs) (ccy_amount_of t) n.taken (λ f. refl) refl d.taken
        ∙ both-said (ccy_amount_of t) came own
        ∙ ap (λ (xs : List Amount). xs ++ all_said (ccy_amount_of t) own) (sym before)
        ∙ ap (λ (xs : List Amount). m.taken ++ xs) (charge-said t charge charge_reads)

    -- what 32A says is what was written
    moved-on : n.amount.ccy ≡ m.amount.ccy
    moved-on =
        let f = found-read order_103 sent 5 (value_of t) (field_in sent held 5) d.value d.moved in
        let at : Some f.0 ≡ Some (value_field v) = sym f.1 ∙ here 5 (value_field v ∷ []) refl in
        let same : f.0 ≡ value_field v = cc at in
        let says : ok_of (value_of t (value_field v)) ≡ Some d.value =
        ap (λ (g : Field). ok_of (value_of t g)) (sym same) ∙ ap (λ (r : Result Value Code). ok_of r) f.2 in
        let is : Some v ≡ Some d.value = sym (ap (λ (r : Result Value Code). ok_of r) four) ∙ says in
        let value : v ≡ d.value = cc is in
        sym (ap (λ (a : Amount). a.ccy) d.amount) ∙ sym (ap (λ (w : Value). w.amount.ccy) value) ∙ ccy

    party-on : (k : ℕ) (s : List Field) (x : Option Party) → slice_get segs k ≡ Some s → in_option sent held k (known_party_of t) ≡ Ok x
        → x ≡ said_in (known_party_of t) (first s)
    party-on k s x e says = option-said sent held k (known_party_of t) x says ∙ ap (said_in (known_party_of t)) (here k s e)

    sent-on : IsSentOn skip charge m n
    sent-on =
        let o = c.ordered in
        let banks = via-said t via n.p53 via_is (party-on 10 (some_field (bank_field 53) via) n.p53 refl d.p53) in
        record {
          op = same-place order_103 order_103 fs sent found held 2 2 operation_of m.op n.op c.op d.op (again 23 (codes "B") 2 refl refl);
          instrs = instrs-on;
          ccy = moved-on;
          ordered =
              ordered-on t ordered m.amount.ccy (find (is_named 33 (codes "B")) fs) m.ordered n.ordered ordered_ccy made
              (option-said fs found 6 (ccy_amount_of t) m.ordered o ∙ ap (said_in (ccy_amount_of t)) (sym (came 33 (codes "B") 6 refl)))
              (option-there fs found 6 (ccy_amount_of t) m.ordered o ∙ ap (λ (f : Option Field). is_some f) (sym (came 33 (codes "B") 6 refl)))
              (option-said sent held 6 (ccy_amount_of t) n.ordered d.ordered ∙ ap (said_in (ccy_amount_of t)) (here 6 (ordered_amount ordered fs) refl));
          rate = same-option fs sent found held 7 7 rate_of m.rate n.rate c.rate d.rate (again 36 (codes " ") 7 refl refl);
          by_name = banks.0;
          by_place = banks.1;
          p54 = party-on 11 [] n.p54 refl d.p54;
          p55 = party-on 12 [] n.p55 refl d.p55;
          p56 = party-on 13 (intermediary skip fs) n.p56 refl d.p56
              ∙ first-56 (known_party_of t) skip fs m.p56
              (option-said fs found 13 (known_party_of t) m.p56 c.p56 ∙ ap (said_in (known_party_of t)) (sym (came 56 (codes "ACD") 13 refl)));
          p57 = party-on 14 (account_bank skip fs) n.p57 refl d.p57
              ∙ first-57 (known_party_of t) skip fs m.p57
              (option-said fs found 14 (known_party_of t) m.p57 c.p57 ∙ ap (said_in (known_party_of t)) (sym (came 57 (codes "ABCD") 14 refl)));
          payee = same-place order_103 order_103 fs sent found held 15 15 (known_party_of t) m.payee n.payee c.payee d.payee
              (again 59 (codes " AF") 15 refl refl);
          charge =
              same-place order_103 order_103 fs sent found held 17 17 charge_of m.charge n.charge c.charge d.charge (again 71 (codes "A") 17 refl refl);
          taken = taken-on;
          bears = bears;
          given = same-option fs sent found held 19 19 (ccy_amount_of t) m.given n.given c.given d.given (again 71 (codes "G") 19 refl refl);
        }

  pub transfer-reads : (sender receiver from to : Bic) → first_of (all_rules sender receiver t m) ≡ None
      → (n : Mt103) × (mt103_of t sent ≡ Ok n) × (first_of (all_rules from to t n) ≡ None)
  transfer-reads sender receiver from to rules =
      let says = contents-fine t sent pass in
      let on = sent-on says.0 (read-says t fs m read) (contents-say t sent says.0 says.1) in
      let stand = together (stays (is_some says.0.p56) (is_some says.0.p57)) m.instrs (instructions-pass t fs m read) in
      let kept : first_of (e46 says.0.instrs ∷ d98 says.0.instrs ∷ []) ≡ None =
      subst (λ (xs : List Instr). first_of (e46 xs ∷ d98 xs ∷ []) ≡ None) (sym on.instrs) stand in
      (says.0, read-fine t sent pass says.0 says.1 kept, rules-kept skip charge m says.0 on t sender receiver from to rules)
