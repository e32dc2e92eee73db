-- What is read is the record of an entry, and each entry's record is read.
use Rattle.std.proofs.Common.{◌≡◌, ℕ, ◌<◌, ◌≤◌, ◌^◌, ◌==◌, ◌&&◌, true, cond, List, [], ◌∷◌, ◌++◌, length, All, Option, Some, None, Result, Ok, Err, refl, sym, ap, subst, ◌∙◌, append_assoc, arith}
use Rattle.std.specs.Prelude.{IfOk, IfSome, nat_le, option_and_then}
use Rattle.std.specs.List.{AllByRecursion}
use Rattle.std.proofs.lemmas.Bool.{eqb-true}
use Rattle.std.proofs.lemmas.Option.{same_Some}
use Rattle.std.proofs.lemmas.List.{append-nil, nil_from_length}
use Rattle.std.proofs.lemmas.List.Elements.{All-from_recursion, recursion_from_All}
use Rattle.corr_ids.specs.Mir.{IsMir}
use Rattle.corr_ids.specs.Uetr.{IsUetr}
use Rattle.corr_ids.specs.Day.{InCentury}
use Rattle.corr_ids.specs.declared.mir.Mir.{Mir}
use Rattle.corr_ids.specs.declared.uetr.Uetr.{Uetr}
use Rattle.corr_ids.specs.declared.day.Day.{Day}
use Rattle.day_model.specs.declared.pay.Mt.{Mt}
use Rattle.day_model.specs.declared.pay.Leg.{Leg}
use Rattle.day_model.specs.declared.pay.Order.{Order}
use Rattle.day_model.specs.declared.entry.Outcome.{Outcome}
use Rattle.day_model.specs.declared.entry.Entry.{Entry}
use Rattle.day_model.specs.Fit.{are_legs}
use Rattle.day_model.specs.Shape.{HasShape, IsLeg, IsOrder}
use Rattle.jrn_codec.specs.declared.entry.Stamp.{Stamp}
use Rattle.jrn_codec.specs.declared.entry.Fate.{Fate}
use Rattle.jrn_codec.specs.declared.fault.EntryFault.{EntryFault}
use Rattle.jrn_codec.specs.declared.fault.EntryFault.TheVariants as faults
use Rattle.jrn_codec.specs.Answers.{IsGiven}
use Rattle.jrn_codec.specs.inner.Answers.{AnswersRead}
use Rattle.jrn_codec.specs.Spelling.{optional_bytes, listed_bytes, long_bytes}
use Rattle.jrn_codec.specs.Record.{IsEntry, IsOutcome, mt_mark, day_bytes, outcome_bytes, stamp_bytes, fate_bytes, leg_bytes, order_bytes, entry_bytes_1}
use Rattle.jrn_codec.specs.inner.Reading.{mark_at, optional_at, listed_at, long_at}
use Rattle.jrn_codec.specs.inner.RecordReading.{mt_of, uetr_at, day_at, outcome_at, leg_at, order_at, stamp_at, fate_at, is_whole_pay, entry_with, entry_read}
use Rattle.jrn_codec.proofs.Fields.{IsBytes, IsField, step, resume, tested, joined5}
use Rattle.jrn_codec.proofs.Parts.{mark_field, optional_field, listed_field, long_field}
use Rattle.jrn_codec.proofs.Marks.{mt_marks}
use Rattle.jrn_codec.proofs.Identifiers.{mir_field, uetr_field, day_field}
use Rattle.jrn_codec.proofs.Legs.{FitsLeg, few_legs, legs_fit, outcome_field, leg_field, both, le_true, true_le}
use Rattle.jrn_codec.proofs.Orders.{order_field}

-- ---- which message it was

mt_field : IsField (λ (x : Mt). mt_mark x ∷ []) (mark_at mt_of) (λ (x : Mt). Unit {0})
mt_field = mark_field mt_mark mt_of mt_marks

maybe_uetr_field : IsField (optional_bytes (λ (u : Uetr). u.0)) (optional_at uetr_at) (λ (uetr : Option Uetr). IfSome uetr IsUetr)
maybe_uetr_field = optional_field uetr_field

abbrev stamped : Stamp → List ℕ
stamped stamp = stamp_bytes stamp.mir stamp.mt stamp.uetr

abbrev IsStamp : Stamp → Type 0
IsStamp stamp = IsMir stamp.mir × IfSome stamp.uetr IsUetr

abbrev stamp_uetr : Mir → Mt → Option Uetr × List ℕ → Option (Stamp × List ℕ)
stamp_uetr mir mt uetr = Some (record { mir = mir; mt = mt; uetr = uetr.0 }, uetr.1)

abbrev stamp_mt : Mir → Mt × List ℕ → Option (Stamp × List ℕ)
stamp_mt mir mt = option_and_then (stamp_uetr mir mt.0) (optional_at uetr_at mt.1)

abbrev stamp_mir : Mir × List ℕ → Option (Stamp × List ℕ)
stamp_mir mir = option_and_then (stamp_mt mir.0) (mark_at mt_of mir.1)

stamp_takes : (bytes : List ℕ) (stamp : Stamp) (rest : List ℕ) → IsBytes bytes → stamp_at bytes ≡ Some (stamp, rest) → (bytes ≡ stamped stamp ++ rest) × IsStamp stamp
unfolding stamp_at stamp_bytes
stamp_takes bytes stamp rest b e =
    let mir = step mir_field stamp_mir bytes (stamp, rest) b e in
    let mt = step mt_field (stamp_mt mir.value) mir.rest (stamp, rest) mir.bytes_on mir.on in
    let uetr = step maybe_uetr_field (stamp_uetr mir.value mt.value) mt.rest (stamp, rest) mt.bytes_on mt.on in
    let made : Stamp = record { mir = mir.value; mt = mt.value; uetr = uetr.value } in
    let on = mir.parts ∙ ap (λ (s : List ℕ). mir.value.0 ++ s) (mt.parts ∙ ap (λ (s : List ℕ). mt_mark mt.value ∷ s) uetr.parts) in
    let whole : bytes ≡ stamped made ++ uetr.rest = on ∙ simp append_assoc in
    subst (λ (x : Stamp × List ℕ). (bytes ≡ stamped x.0 ++ x.1) × IsStamp x.0) (same_Some (made, uetr.rest) (stamp, rest) uetr.on) (whole, (mir.fits, uetr.fits))

stamp_again : (stamp : Stamp) (rest : List ℕ) → IsStamp stamp → stamp_at (stamped stamp ++ rest) ≡ Some (stamp, rest)
unfolding stamp_at stamp_bytes
stamp_again stamp rest fits =
    let uetr : List ℕ = optional_bytes (λ (u : Uetr). u.0) stamp.uetr ++ rest in
    let regrouped : stamped stamp ++ rest ≡ stamp.mir.0 ++ (mt_mark stamp.mt ∷ uetr) = simp append_assoc in
    ap stamp_at regrouped
    ∙ resume mir_field stamp_mir stamp.mir (mt_mark stamp.mt ∷ uetr) (Some (stamp, rest)) fits.0
    (resume mt_field (stamp_mt stamp.mir) stamp.mt uetr (Some (stamp, rest)) tt
    (resume maybe_uetr_field (stamp_uetr stamp.mir stamp.mt) stamp.uetr rest (Some (stamp, rest)) fits.1 refl))

stamp_field : IsField stamped stamp_at IsStamp
stamp_field = record { takes = stamp_takes; again = stamp_again }

-- ---- what became of it

abbrev fated : Fate → List ℕ
fated fate = fate_bytes fate.day fate.value fate.outcome

abbrev IsFate : Fate → Type 0
IsFate fate = InCentury fate.day × InCentury fate.value × IsOutcome fate.outcome

abbrev fate_outcome : Day → Day → Outcome × List ℕ → Option (Fate × List ℕ)
fate_outcome day value outcome = Some (record { day = day; value = value; outcome = outcome.0 }, outcome.1)

abbrev fate_value : Day → Day × List ℕ → Option (Fate × List ℕ)
fate_value day value = option_and_then (fate_outcome day value.0) (outcome_at value.1)

abbrev fate_day : Day × List ℕ → Option (Fate × List ℕ)
fate_day day = option_and_then (fate_value day.0) (day_at day.1)

fate_takes : (bytes : List ℕ) (fate : Fate) (rest : List ℕ) → IsBytes bytes → fate_at bytes ≡ Some (fate, rest) → (bytes ≡ fated fate ++ rest) × IsFate fate
unfolding fate_at fate_bytes
fate_takes bytes fate rest b e =
    let day = step day_field fate_day bytes (fate, rest) b e in
    let value = step day_field (fate_value day.value) day.rest (fate, rest) day.bytes_on day.on in
    let outcome = step outcome_field (fate_outcome day.value value.value) value.rest (fate, rest) value.bytes_on value.on in
    let made : Fate = record { day = day.value; value = value.value; outcome = outcome.value } in
    let on = day.parts ∙ ap (λ (s : List ℕ). day_bytes day.value ++ s) (value.parts ∙ ap (λ (s : List ℕ). day_bytes value.value ++ s) outcome.parts) in
    let whole : bytes ≡ fated made ++ outcome.rest = on ∙ simp append_assoc in
    subst (λ (x : Fate × List ℕ). (bytes ≡ fated x.0 ++ x.1) × IsFate x.0) (same_Some (made, outcome.rest) (fate, rest) outcome.on) (whole, (day.fits, value.fits, outcome.fits))

fate_again : (fate : Fate) (rest : List ℕ) → IsFate fate → fate_at (fated fate ++ rest) ≡ Some (fate, rest)
unfolding fate_at fate_bytes
fate_again fate rest fits =
    let outcome : List ℕ = outcome_bytes fate.outcome ++ rest in
    let regrouped : fated fate ++ rest ≡ day_bytes fate.day ++ (day_bytes fate.value ++ outcome) = simp append_assoc in
    ap fate_at regrouped
    ∙ resume day_field fate_day fate.day (day_bytes fate.value ++ outcome) (Some (fate, rest)) fits.0
    (resume day_field (fate_value fate.day) fate.value outcome (Some (fate, rest)) fits.1
    (resume outcome_field (fate_outcome fate.day fate.value) fate.outcome rest (Some (fate, rest)) fits.2 refl))

fate_field : IsField fated fate_at IsFate
fate_field = record { takes = fate_takes; again = fate_again }

-- ---- the whole entry

weaker : {A : Type 0} (P Q : A → Type 0) → ((x : A) → P x → Q x) → (xs : List A) → AllByRecursion P xs → AllByRecursion Q xs
weaker P Q f [] h = tt
weaker P Q f (x ∷ xs) h = (f x h.0, weaker P Q f xs h.1)

abbrev entry_text : Stamp → Fate → List Leg → List Order → List ℕ × List ℕ → Option Entry
entry_text stamp fate legs orders text = cond (is_whole_pay legs text.0 text.1) (Some (entry_with stamp fate legs orders text.0)) None

abbrev entry_orders : Stamp → Fate → List Leg → List Order × List ℕ → Option Entry
entry_orders stamp fate legs orders = option_and_then (entry_text stamp fate legs orders.0) (long_at orders.1)

abbrev entry_legs : Stamp → Fate → List Leg × List ℕ → Option Entry
entry_legs stamp fate legs = option_and_then (entry_orders stamp fate legs.0) (listed_at (order_at (length legs.0)) legs.1)

abbrev entry_fate : Stamp → Fate × List ℕ → Option Entry
entry_fate stamp fate = option_and_then (entry_legs stamp fate.0) (listed_at leg_at fate.1)

abbrev entry_stamp : Stamp × List ℕ → Option Entry
entry_stamp stamp = option_and_then (entry_fate stamp.0) (fate_at stamp.1)

record WholeParts (legs : List Leg) (text rest : List ℕ) : Type 0 where
  legs_are : are_legs legs ≡ true
  short : length text ≤ 32768
  ended : rest ≡ []

whole_parts : (legs : List Leg) (text rest : List ℕ) → is_whole_pay legs text rest ≡ true → WholeParts legs text rest
whole_parts legs text rest e =
    let a = both (are_legs legs && nat_le (length text) 32768) (length rest == 0) e in
    let c = both (are_legs legs) (nat_le (length text) 32768) a.0 in
    record { legs_are = c.0; short = le_true (length text) 32768 c.1; ended = nil_from_length rest (eqb-true (length rest) 0 a.1) }

entry_takes : (bytes : List ℕ) (e : Entry) → IsBytes bytes → entry_read bytes ≡ Some e → IsEntry e × (bytes ≡ entry_bytes_1 e)
unfolding entry_read
entry_takes bytes e b read =
    let stamp = step stamp_field entry_stamp bytes e b read in
    let fate = step fate_field (entry_fate stamp.value) stamp.rest e stamp.bytes_on stamp.on in
    let legs = step (listed_field leg_field) (entry_legs stamp.value fate.value) fate.rest e fate.bytes_on fate.on in
    let orders = step (listed_field (order_field (length legs.value))) (entry_orders stamp.value fate.value legs.value) legs.rest e legs.bytes_on legs.on in
    let text = step long_field (entry_text stamp.value fate.value legs.value orders.value) orders.rest e orders.bytes_on orders.on in
    let t = tested (is_whole_pay legs.value text.value text.rest) (entry_with stamp.value fate.value legs.value orders.value text.value) e text.on in
    let w = whole_parts legs.value text.value text.rest t.0 in
    let made : Entry = entry_with stamp.value fate.value legs.value orders.value text.value in
    let last : orders.rest ≡ long_bytes text.value = text.parts ∙ ap (λ (s : List ℕ). long_bytes text.value ++ s) w.ended ∙ append-nil (long_bytes text.value) in
    let on = stamp.parts ∙ ap (λ (s : List ℕ). stamped stamp.value ++ s) (fate.parts ∙ ap (λ (s : List ℕ). fated fate.value ++ s)
    (legs.parts ∙ ap (λ (s : List ℕ). listed_bytes leg_bytes legs.value ++ s) (orders.parts ∙ ap (λ (s : List ℕ). listed_bytes order_bytes orders.value ++ s) last))) in
    let whole : bytes ≡ entry_bytes_1 made = on ∙ joined5 (stamped stamp.value) (fated fate.value) (listed_bytes leg_bytes legs.value) (listed_bytes order_bytes orders.value) (long_bytes text.value) in
    let each_leg : All IsLeg legs.value = All-from_recursion IsLeg legs.value (weaker FitsLeg IsLeg (λ leg h. h.0) legs.value legs.fits.1) in
    let each_order : All (IsOrder (length legs.value)) orders.value = All-from_recursion (IsOrder (length legs.value)) orders.value orders.fits.1 in
    let shape : HasShape made.pay = record {
      mir = stamp.fits.0;
      uetr = stamp.fits.1;
      text = w.short;
      value = fate.fits.1;
      legs = w.legs_are;
      each_leg = each_leg;
      few_orders = omega (arith, orders.fits.0);
      each_order = each_order;
    } in
    subst (λ (x : Entry). IsEntry x × (bytes ≡ entry_bytes_1 x)) t.1 (record { pay = shape; day = fate.fits.0; outcome = fate.fits.2 }, whole)

entry_again : (e : Entry) → IsEntry e → entry_read (entry_bytes_1 e) ≡ Some e
unfolding entry_read
entry_again e h =
    let stamp : Stamp = record { mir = e.pay.mir; mt = e.pay.mt; uetr = e.pay.uetr } in
    let fate : Fate = record { day = e.day; value = e.pay.value; outcome = e.outcome } in
    let text : List ℕ = long_bytes e.pay.text ++ [] in
    let orders : List ℕ = listed_bytes order_bytes e.pay.orders ++ text in
    let legs : List ℕ = listed_bytes leg_bytes e.pay.legs ++ orders in
    let lists : List ℕ = listed_bytes leg_bytes e.pay.legs ++ listed_bytes order_bytes e.pay.orders in
    let regrouped : entry_bytes_1 e ≡ stamped stamp ++ (fated fate ++ legs) =
    ap (λ (s : List ℕ). (stamped stamp ++ fated fate) ++ (lists ++ s)) (sym (append-nil (long_bytes e.pay.text))) ∙ sym (joined5 (stamped stamp) (fated fate) (listed_bytes leg_bytes e.pay.legs) (listed_bytes order_bytes e.pay.orders) text) in
    let few : length e.pay.text < 2 ^ 32 = omega (arith, h.pay.text) in
    let whole : is_whole_pay e.pay.legs e.pay.text [] ≡ true = rw (h.pay.legs, true_le (length e.pay.text) 32768 h.pay.text) refl in
    ap entry_read regrouped
    ∙ resume stamp_field entry_stamp stamp (fated fate ++ legs) (Some e) (h.pay.mir, h.pay.uetr)
    (resume fate_field (entry_fate stamp) fate legs (Some e) (h.day, h.pay.value, h.outcome)
    (resume (listed_field leg_field) (entry_legs stamp fate) e.pay.legs orders (Some e) (omega (arith, few_legs e.pay.legs h.pay.legs), legs_fit e.pay.legs h.pay.legs h.pay.each_leg)
    (resume (listed_field (order_field (length e.pay.legs))) (entry_orders stamp fate e.pay.legs) e.pay.orders text (Some e) (omega (arith, h.pay.few_orders), recursion_from_All (IsOrder (length e.pay.legs)) e.pay.orders h.pay.each_order)
    (resume long_field (entry_text stamp fate e.pay.legs e.pay.orders) e.pay.text [] (Some e) few
    (rw whole refl)))))

-- ---- what the reader answers

pub is_found : (bytes : List ℕ) (r : Result Entry EntryFault) → IsBytes bytes → AnswersRead (λ e. e) r (entry_read bytes) → IfOk r (λ e. IsEntry e × (bytes ≡ entry_bytes_1 e))
is_found bytes (Ok e) b given = entry_takes bytes e b given
is_found bytes (Err e) b given = tt

is_read : (e : Entry) (r : Result Entry EntryFault) → AnswersRead (λ x. x) r (Some e) → IsGiven e r
is_read e (Ok x) given = sym (same_Some e x given)
is_read e (Err faults.NoEntry) given = absurd cc
is_read e (Err faults.Memory) given = tt

pub is_only : (bytes : List ℕ) (r : Result Entry EntryFault) → AnswersRead (λ e. e) r (entry_read bytes) → (e : Entry) → IsEntry e → bytes ≡ entry_bytes_1 e → IsGiven e r
is_only bytes r given e h is = is_read e r (subst (λ (o : Option Entry). AnswersRead (λ x. x) r o) (ap entry_read is ∙ entry_again e h) given)
