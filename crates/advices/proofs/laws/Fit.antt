-- The fields of each message may stand in a text.
use Rattle.std.proofs.Common.{ℕ, ◌≤◌, Bool, true, false, cond, List, [], ◌∷◌, ◌++◌, Option, Some, None, refl, arith}
use Rattle.std.specs.Prelude.{codes, find, take, drop, IfSome}
use Rattle.std.specs.List.{All, AllByRecursion, flat_map}
use Rattle.std.proofs.lemmas.List.{take-append-drop}
use Rattle.corr_ids.specs.Bic.{IsBic, bic_text}
use Rattle.corr_ids.specs.declared.bic.Bic.{Bic}
use Rattle.corr_money.specs.declared.amount.Amount.{Amount}
use Rattle.fin_fields.specs.declared.field.Field.{Field}
use Rattle.fin_fields.specs.Writing.{IsField}
use Rattle.fin_layout.specs.Segments.{joined}
use Rattle.fin_contents.specs.declared.value.Value.{Value}
use Rattle.fin_contents.specs.Writing.{IsHeading, ccy_amount_field, ccy_amount_text, line_field, lines_field, some_field, value_field}
use Rattle.fin_contents.proofs.laws.Bytes.{all-of-x}
use Rattle.fin_contents.proofs.laws.Fit.{kept-fit, line-fit}
use Rattle.fin_contents.proofs.laws.Placed.{Each, each-append, each-joined, each-of, all-of}
use Rattle.corr_ids.specs.Day.{yymmdd_of}
use Rattle.day_model.specs.declared.pay.Mt.{Mt}
use Rattle.day_model.specs.declared.pay.Mt.TheVariants.{Transfer, Cover}
use Rattle.day_model.specs.declared.pay.Skip.{Skip}
use Rattle.day_model.specs.declared.pay.Skip.TheVariants.{Keep, Mid, Both}
use Rattle.advices.specs.declared.received.Received.{Received}
use Rattle.advices.specs.Advice.{credit_fields, debit_fields}
use Rattle.advices.specs.Cover.{cover_fields, covered_fields, covering_fields}
use Rattle.advices.specs.Fields.{bank_field, copied, copied_all, copied_as, is_named, kept}
use Rattle.advices.specs.Pass.{pass_fields, passed_fields}
use Rattle.advices.specs.Received.{fields_for_52, first_fields, or_bank, ordering, sequence_a, sequence_b}
use Rattle.advices.specs.Transfer.{account_bank, detail_fields, intermediary, is_passed_on, is_there, or_amount, ordered_amount, party_fields, taken_fields, term_fields, transfer_fields}
use Rattle.advices.specs.inner.Spelled.{IsReceivedWhole, IsMoved, IsPlain, IsWritableAmount}
use Rattle.advices.proofs.laws.Bytes.{bic-plain, ccy_amount-plain, day-plain, joined-plain}

-- ---- fields that are copied

found-one : (P : Field → Type 0) (write : Field → Field) (f : Field) (o : Option Field) (b : Bool) → P (write f)
    → AllByRecursion P (some_field write o) → AllByRecursion P (some_field write (cond b (Some f) o))
found-one P write f o true here later = (here, tt)
found-one P write f o false here later = later

-- what holds of each field holds of the first that passes a test
found-each : (P : Field → Type 0) (test : Field → Bool) (write : Field → Field) (fs : List Field) → ((f : Field) → P f → P (write f))
    → AllByRecursion P fs → AllByRecursion P (some_field write (find test fs))
found-each P test write [] also all = tt
found-each P test write (f ∷ fs) also all = found-one P write f (find test fs) (test f) (also f all.0) (found-each P test write fs also all.1)

kept-one : (P : Field → Type 0) (f : Field) (more : List Field) (b : Bool) → P f → AllByRecursion P more → AllByRecursion P (cond b (f ∷ []) [] ++ more)
kept-one P f more true here later = (here, later)
kept-one P f more false here later = later

-- and of all that pass one
kept-each : (P : Field → Type 0) (test : Field → Bool) (fs : List Field) → AllByRecursion P fs → AllByRecursion P (flat_map (kept test) fs)
kept-each P test [] all = tt
kept-each P test (f ∷ fs) all = kept-one P f (flat_map (kept test) fs) (test f) all.0 (kept-each P test fs all.1)

-- what holds of each of two lists holds of both together
pub both-each : (P : Field → Type 0) (front back : List Field) → AllByRecursion P front → AllByRecursion P back → AllByRecursion P (front ++ back)
both-each P [] back p q = q
both-each P (f ∷ fs) back p q = (p.0, both-each P fs back p.1 q)

-- fields that may stand in a text
abbrev pub AreFit : List Field → Type 0
AreFit fs = AllByRecursion IsField fs

front-fit : (front back : List Field) → AreFit (front ++ back) → AreFit front
front-fit [] back h = tt
front-fit (f ∷ front) back h = (h.0, front-fit front back h.1)

back-fit : (front back : List Field) → AreFit (front ++ back) → AreFit back
back-fit [] back h = h
back-fit (f ∷ front) back h = back-fit front back h.1

taken-fit : (n : ℕ) (fs : List Field) → AreFit fs → AreFit (take n fs)
taken-fit n fs all = front-fit (take n fs) (drop n fs) (rw (take-append-drop n fs) all)

dropped-fit : (n : ℕ) (fs : List Field) → AreFit fs → AreFit (drop n fs)
dropped-fit n fs all = back-fit (take n fs) (drop n fs) (rw (take-append-drop n fs) all)

pub copied-fit : (tag : ℕ) (letters : List ℕ) (fs : List Field) → AreFit fs → AreFit (copied tag letters fs)
copied-fit tag letters fs all = found-each IsField (is_named tag letters) (λ f. f) fs (λ f is. is) all

copied_all-fit : (test : Field → Bool) (fs : List Field) → AreFit fs → AreFit (copied_all test fs)
copied_all-fit test fs all = kept-each IsField test fs all

copied_as-fit : (tag other : ℕ) (fs : List Field) → other ≤ 99 → AreFit fs → AreFit (copied_as tag other fs)
copied_as-fit tag other fs two all =
    found-each IsField (is_named tag (codes " ")) (λ f. lines_field other None f.lines) fs
    (λ f is. kept-fit other None f f.lines (record { two_digits = two; capital = tt }) refl is) all

-- ---- fields that are made new

-- one line of X
made : (tag : ℕ) (letter : Option ℕ) (line : List ℕ) → IsHeading tag letter → IsPlain line → AreFit (line_field tag letter line ∷ [])
made tag letter line h plain = (line-fit tag letter line h (all-of-x line plain), tt)

bank-fit : (tag : ℕ) (bic : Bic) → tag ≤ 99 → IsBic bic → AreFit (bank_field tag bic ∷ [])
bank-fit tag bic two is = made tag (Some 65) (bic_text bic) (record { two_digits = two; capital = refl }) (bic-plain bic is)

value-made : (v : Value) → IsMoved v → AreFit (value_field v ∷ [])
value-made v is =
    made 32 (Some 65) (yymmdd_of v.day ++ ccy_amount_text v.amount) (record { two_digits = omega arith; capital = refl })
    (joined-plain (yymmdd_of v.day) (ccy_amount_text v.amount) (day-plain v.day is.day) (ccy_amount-plain v.amount is.amount))

-- ---- parts

-- the fields of a message that was cut
cut-fit : (r : Received) → IsReceivedWhole r → AreFit r.fields
cut-fit r s = each-of IsField r.fields s.fields

for_52-fit : (mt : Mt) (fs : List Field) → AreFit fs → AreFit (fields_for_52 mt fs)
for_52-fit Transfer fs all = all
for_52-fit Cover fs all = taken-fit (first_fields fs) fs all

or_bank-fit : (bic : Bic) (fs : List Field) → IsBic bic → AreFit fs → AreFit (or_bank bic fs)
or_bank-fit bic [] is all = bank-fit 52 bic (omega arith) is
or_bank-fit bic (f ∷ fs) is all = all

ordering-fit : (r : Received) → IsReceivedWhole r → AreFit (ordering r)
ordering-fit r s =
    or_bank-fit r.sender (copied 52 (codes "AD") (fields_for_52 r.mt r.fields)) s.sender
    (copied-fit 52 (codes "AD") (fields_for_52 r.mt r.fields) (for_52-fit r.mt r.fields (cut-fit r s)))

intermediary-fit : (skip : Skip) (fs : List Field) → AreFit fs → AreFit (intermediary skip fs)
intermediary-fit Keep fs all = copied-fit 56 (codes "ACD") fs all
intermediary-fit Mid fs all = tt
intermediary-fit Both fs all = tt

account_bank-fit : (skip : Skip) (fs : List Field) → AreFit fs → AreFit (account_bank skip fs)
account_bank-fit Keep fs all = copied-fit 57 (codes "ABCD") fs all
account_bank-fit Mid fs all = copied-fit 57 (codes "ABCD") fs all
account_bank-fit Both fs all = tt

or_amount-fit : (a : Amount) (fs : List Field) → IsWritableAmount a → AreFit fs → AreFit (or_amount a fs)
or_amount-fit a [] is all = made 33 (Some 66) (ccy_amount_text a) (record { two_digits = omega arith; capital = refl }) (ccy_amount-plain a is)
or_amount-fit a (f ∷ fs) is all = all

ordered-fit : (a : Amount) (fs : List Field) → IsWritableAmount a → AreFit fs → AreFit (ordered_amount a fs)
ordered-fit a fs is all = or_amount-fit a (copied 33 (codes "B") fs) is (copied-fit 33 (codes "B") fs all)

charge-fit : (charge : Option Amount) → IfSome charge IsWritableAmount → AreFit (some_field (ccy_amount_field 71 (Some 70)) charge)
charge-fit None is = tt
charge-fit (Some a) is = made 71 (Some 70) (ccy_amount_text a) (record { two_digits = omega arith; capital = refl }) (ccy_amount-plain a is)

charges-fit : (charge : Option Amount) (fs : List Field) → IfSome charge IsWritableAmount → AreFit fs → AreFit (taken_fields charge fs)
charges-fit charge fs is all =
    both-each IsField (copied_all (is_named 71 (codes "F")) fs) (some_field (ccy_amount_field 71 (Some 70)) charge)
    (copied_all-fit (is_named 71 (codes "F")) fs all) (charge-fit charge is)

via-fit : (via : Option Bic) → IfSome via IsBic → AreFit (some_field (bank_field 53) via)
via-fit None is = tt
via-fit (Some bic) is = bank-fit 53 bic (omega arith) is

no-letter : (tag : ℕ) → tag ≤ 99 → IsHeading tag None
no-letter tag two = record { two_digits = two; capital = tt }

-- ---- messages

term-fit : (fs : List Field) (reference : List ℕ) (v : Value) (ordered : Amount) (skip : Skip) → AreFit fs → IsPlain reference → IsMoved v
    → IsWritableAmount ordered → Each IsField (term_fields fs reference v ordered skip)
term-fit fs reference v ordered skip all plain is spelled = (
  made 20 None reference (no-letter 20 (omega arith)) plain,
  (
    copied-fit 23 (codes "B") fs all,
    (
      copied_all-fit (is_passed_on (is_there (intermediary skip fs)) (is_there (account_bank skip fs))) fs all,
      (
        copied-fit 26 (codes "T") fs all,
        (value-made v is, (ordered-fit ordered fs spelled all, (copied-fit 36 (codes " ") fs all, tt))),
      ),
    ),
  ),
)

party-fit : (r : Received) (skip : Skip) (via : Option Bic) → IsReceivedWhole r → IfSome via IsBic → Each IsField (party_fields r skip via)
party-fit r skip via s is = (
  copied-fit 50 (codes "AFK") r.fields (cut-fit r s),
  (
    ordering-fit r s,
    (
      via-fit via is,
      (
        intermediary-fit skip r.fields (cut-fit r s),
        (account_bank-fit skip r.fields (cut-fit r s), (copied-fit 59 (codes " AF") r.fields (cut-fit r s), tt)),
      ),
    ),
  ),
)

detail-fit : (charge : Option Amount) (fs : List Field) → IfSome charge IsWritableAmount → AreFit fs → Each IsField (detail_fields charge fs)
detail-fit charge fs is all = (
  copied-fit 70 (codes " ") fs all,
  (
    copied-fit 71 (codes "A") fs all,
    (
      charges-fit charge fs is all,
      (copied-fit 71 (codes "G") fs all, (copied-fit 72 (codes " ") fs all, (copied-fit 77 (codes "B") fs all, tt))),
    ),
  ),
)

pub transfer-fit : (r : Received) (reference : List ℕ) (v : Value) (ordered : Amount) (charge : Option Amount) (skip : Skip) (via : Option Bic)
    → IsReceivedWhole r → IsPlain reference → IsMoved v → IsWritableAmount ordered → IfSome charge IsWritableAmount → IfSome via IsBic
    → All IsField (transfer_fields r reference v ordered charge skip via)
unfolding transfer_fields
transfer-fit r reference v ordered charge skip via s plain is spelled taken to =
    each-joined IsField (term_fields r.fields reference v ordered skip ++ party_fields r skip via ++ detail_fields charge r.fields)
    (each-append IsField (term_fields r.fields reference v ordered skip ++ party_fields r skip via) (detail_fields charge r.fields)
    (each-append IsField (term_fields r.fields reference v ordered skip) (party_fields r skip via)
    (term-fit r.fields reference v ordered skip (cut-fit r s) plain is spelled) (party-fit r skip via s to))
    (detail-fit charge r.fields taken (cut-fit r s)))

covered-fit : (r : Received) (ordered : Amount) (skip : Skip) → IsReceivedWhole r → IsWritableAmount ordered → Each IsField (covered_fields r ordered skip)
covered-fit r ordered skip s spelled = (
  copied-fit 50 (codes "AFK") r.fields (cut-fit r s),
  (
    ordering-fit r s,
    (
      intermediary-fit skip r.fields (cut-fit r s),
      (
        account_bank-fit skip r.fields (cut-fit r s),
        (
          copied-fit 59 (codes " AF") r.fields (cut-fit r s),
          (
            copied-fit 70 (codes " ") r.fields (cut-fit r s),
            (copied-fit 72 (codes " ") r.fields (cut-fit r s), (ordered-fit ordered r.fields spelled (cut-fit r s), tt)),
          ),
        ),
      ),
    ),
  ),
)

pub cover-fit : (r : Received) (reference related : List ℕ) (v : Value) (ordered : Amount) (end : Bic) (skip : Skip) → IsReceivedWhole r
    → IsPlain reference → IsPlain related → IsMoved v → IsWritableAmount ordered → IsBic end
    → All IsField (cover_fields r reference related v ordered end skip)
unfolding cover_fields
cover-fit r reference related v ordered end skip s plain other is spelled to =
    each-joined IsField (covering_fields reference related v end ++ covered_fields r ordered skip)
    (each-append IsField (covering_fields reference related v end) (covered_fields r ordered skip) (
      made 20 None reference (no-letter 20 (omega arith)) plain,
      (made 21 None related (no-letter 21 (omega arith)) other, (value-made v is, (bank-fit 58 end (omega arith) to, tt))),
    )
    (covered-fit r ordered skip s spelled))

both-fit : (front back : List Field) → All IsField front → AreFit back → All IsField (front ++ back)
both-fit front back p q = all-of IsField (front ++ back) (both-each IsField front back (each-of IsField front p) q)

passed-fit : (r : Received) (first : List Field) (reference : List ℕ) (v : Value) (skip : Skip) → IsReceivedWhole r → AreFit first → IsPlain reference
    → IsMoved v → Each IsField (passed_fields r first reference v skip)
passed-fit r first reference v skip s all plain is = (
  made 20 None reference (no-letter 20 (omega arith)) plain,
  (
    copied-fit 21 (codes " ") first all,
    (
      value-made v is,
      (
        ordering-fit r s,
        (
          intermediary-fit skip first all,
          (account_bank-fit skip first all, (copied-fit 58 (codes "AD") first all, (copied-fit 72 (codes " ") first all, tt))),
        ),
      ),
    ),
  ),
)

pub pass-fit : (r : Received) (reference : List ℕ) (v : Value) (skip : Skip) → IsReceivedWhole r → IsPlain reference → IsMoved v
    → All IsField (pass_fields r reference v skip)
unfolding pass_fields
pass-fit r reference v skip s plain is =
    both-fit (joined (passed_fields r (sequence_a r.fields) reference v skip)) (sequence_b r.fields)
    (each-joined IsField (passed_fields r (sequence_a r.fields) reference v skip)
    (passed-fit r (sequence_a r.fields) reference v skip s (taken-fit (first_fields r.fields) r.fields (cut-fit r s)) plain is))
    (dropped-fit (first_fields r.fields) r.fields (cut-fit r s))

pub debit-fit : (r : Received) (reference account : List ℕ) (v : Value) → IsReceivedWhole r → IsPlain reference → IsPlain account → IsMoved v
    → All IsField (debit_fields r reference account v)
unfolding debit_fields
debit-fit r reference account v s plain id is =
    each-joined IsField ((line_field 20 None reference ∷ []) ∷ copied_as 20 21 r.fields ∷ (line_field 25 None account ∷ []) ∷ (value_field v ∷ []) ∷ []) (
      made 20 None reference (no-letter 20 (omega arith)) plain,
      (copied_as-fit 20 21 r.fields (omega arith) (cut-fit r s), (made 25 None account (no-letter 25 (omega arith)) id, (value-made v is, tt))),
    )

pub credit-fit : (r : Received) (reference account : List ℕ) (v : Value) → IsReceivedWhole r → IsPlain reference → IsPlain account → IsMoved v
    → All IsField (credit_fields r reference account v)
unfolding credit_fields
credit-fit r reference account v s plain id is =
    each-joined IsField
    ((line_field 20 None reference ∷ []) ∷ copied 21 (codes " ") r.fields ∷ (line_field 25 None account ∷ []) ∷ (value_field v ∷ []) ∷ ordering r ∷ []) (
      made 20 None reference (no-letter 20 (omega arith)) plain,
      (
        copied-fit 21 (codes " ") r.fields (cut-fit r s),
        (made 25 None account (no-letter 25 (omega arith)) id, (value-made v is, (ordering-fit r s, tt))),
      ),
    )
