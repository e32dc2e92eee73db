-- Where a payment stands, and the leg that failed, of an entry that is unfunded.
use Rattle.std.proofs.Common.{◌≡◌, ℕ, ◌-◌, ◌<◌, ◌≤◌, ℤ, Bool, true, false, List, Option, Some, None, get_or, length, sym, ap, ◌∙◌, subst, arith}
use Rattle.std.specs.Prelude.{option_and_then, slice_get, if◌then◌else◌}
use Rattle.std.proofs.lemmas.Option.{slice_get-get_or}
use Rattle.day_model.specs.Chart.{Chart}
use Rattle.day_model.specs.Legal.{IsLegal}
use Rattle.day_model.specs.Next.{entered_at, has_mir}
use Rattle.day_model.specs.Same.{is_same_pay, reply_at, reply_to}
use Rattle.day_model.specs.declared.entry.Entry.{Entry}
use Rattle.day_model.specs.declared.entry.Outcome.{Outcome}
use Rattle.day_model.specs.declared.entry.Outcome.TheVariants as outcome
use Rattle.day_model.specs.declared.pay.Leg.{Leg}
use Rattle.day_model.specs.declared.pay.Pay.{Pay}
use Rattle.day_model.specs.declared.reply.Reply.TheVariants.{Entered, Conflict as Conflicts}
use Rattle.day_model.proofs.laws.Fitting.{Sound, fitting, leg_sound}
use Rattle.day_model.proofs.laws.Fronts.{fits_now}
use Rattle.day_model.proofs.laws.Places.{position_from-within}
use Rattle.corr_report.specs.inner.Outcomes.{NamesLeg}
use Rattle.corr_report.proofs.laws.FailingLeg.{names_leg}
use Rattle.desk_page.specs.Row.{entered_as, failed_at, standing_by, standing_of}
use Rattle.desk_page.specs.declared.row.Standing.{Standing}
use Rattle.desk_page.specs.declared.row.Standing.TheVariants.{Conflict, New, Unfunded}

module _ (chart : Chart) (entries : List Entry) (place : ℕ) (e : Entry) (k : ℕ) (balance : ℤ) (legal : IsLegal chart entries)
    (at : slice_get entries (place - 1) ≡ Some e) (is : e.outcome ≡ outcome.Unfunded k balance) where
  -- it is one of the legs
  pub named : (1 ≤ k) × (k ≤ length e.pay.legs)
  named = subst (NamesLeg (length e.pay.legs)) is (names_leg chart entries (place - 1) e legal at)

  module _ (legs : List Leg) (leg : Leg) (same : legs ≡ e.pay.legs) (lt : k - 1 < length legs) (item : leg ≡ get_or legs (k - 1) leg) where
    there : slice_get e.pay.legs (k - 1) ≡ Some leg
    there = subst (λ (ls : List Leg). slice_get ls (k - 1) ≡ Some leg) same (slice_get-get_or legs (k - 1) leg lt ∙ ap (λ (l : Leg). Some l) (sym item))

    pub stands : Unfunded place leg.account leg.side leg.amount ≡ entered_as place (slice_get entries (place - 1))
    stands =
        sym (ap (λ (x : Option Entry). entered_as place x) at ∙ ap (λ (o : Outcome). standing_of place e.pay.legs o) is ∙ ap (λ (l : Option Leg). failed_at place l) there)

    pub sound : Sound chart leg
    sound = leg_sound chart e.pay.legs (k - 1) leg (fitting chart e.pay.legs (fits_now chart entries (place - 1) e legal at)) there

-- ---- a payment, by the place at which its reference is entered

abbrev by_place : List Entry → Pay → Option ℕ → Standing
by_place entries pay at = standing_by entries (option_and_then (λ place. reply_at pay place (slice_get entries (place - 1))) at)

-- at none
pub stands_new : (entries : List Entry) (pay : Pay) → None ≡ entered_at pay.mir entries → New ≡ standing_by entries (reply_to pay entries)
stands_new entries pay none = ap (by_place entries pay) none

module _ (entries : List Entry) (pay : Pay) (place : ℕ) (at : Some place ≡ entered_at pay.mir entries) where
  -- the place is one of the history's
  pub within : (1 ≤ place) × (place ≤ length entries)
  within =
      let bounds = position_from-within (has_mir pay.mir) 1 place entries (sym at) in
      (bounds.0, omega (arith, bounds.1))

  module _ (e : Entry) (there : slice_get entries (place - 1) ≡ Some e) where
    replied : reply_to pay entries ≡ Some (if is_same_pay pay e.pay then Entered pay.mir place else Conflicts pay.mir place)
    replied = ap (λ (o : Option ℕ). option_and_then (λ n. reply_at pay n (slice_get entries (n - 1))) o) (sym at) ∙ ap (λ (o : Option Entry). reply_at pay place o) there

    -- its entry is the same
    pub stands_entered : is_same_pay pay e.pay ≡ true → entered_as place (slice_get entries (place - 1)) ≡ standing_by entries (reply_to pay entries)
    stands_entered same =
        sym (ap (standing_by entries) (replied ∙ ap (λ (b : Bool). Some (if b then Entered pay.mir place else Conflicts pay.mir place)) same))

    -- it isn't
    pub stands_against : is_same_pay pay e.pay ≡ false → Conflict place ≡ standing_by entries (reply_to pay entries)
    stands_against other =
        sym (ap (standing_by entries) (replied ∙ ap (λ (b : Bool). Some (if b then Entered pay.mir place else Conflicts pay.mir place)) other))
