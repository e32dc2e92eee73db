-- When two pays are equal in all their parts.
use Rattle.std.specs.Prelude.{◌≡◌, ◌↔◌, ◌==◌, ◌&&◌, Bool, true, false, List, [], ◌∷◌, Option, Some, None, IsTrue}
use Rattle.std.specs.Ordering.{int_eq}
use Rattle.std.specs.Str.{bytes_eq}
use Rattle.corr_ids.specs.declared.bic.Bic.{Bic}
use Rattle.day_model.specs.Fit.{is_side}
use Rattle.day_model.specs.Same.{is_mt, is_same_uetr}
use Rattle.day_model.specs.declared.pay.Leg.{Leg}
use Rattle.day_model.specs.declared.pay.Mt.TheVariants.{Cover}
use Rattle.day_model.specs.declared.pay.Order.{Order}
use Rattle.day_model.specs.declared.pay.Order.TheVariants as order
use Rattle.day_model.specs.declared.pay.Pay.{Pay}
use Rattle.day_model.specs.declared.pay.Quote.{Quote}
use Rattle.day_model.specs.declared.pay.Quote.TheVariants.{Ours, Theirs}
use Rattle.day_model.specs.declared.pay.Skip.{Skip}
use Rattle.day_model.specs.declared.pay.Skip.TheVariants.{Both, Keep, Mid}

-- two quotes are the same
abbrev pub is_quote : Quote → Quote → Bool
is_quote (Theirs a) (Theirs b) = bytes_eq a b
is_quote (Ours j) (Ours k) = j == k
is_quote (Theirs a) (Ours k) = false
is_quote (Ours j) (Theirs b) = false

-- two legs are the same
abbrev pub is_leg : Leg → Leg → Bool
is_leg a b = (a.account.0 == b.account.0) && is_side a.side b.side && (a.amount.0 == b.amount.0) && is_quote a.quote b.quote

-- two banks are the same
abbrev pub is_bank : Bic → Bic → Bool
is_bank a b = bytes_eq a.head b.head && bytes_eq a.branch b.branch

-- both banks are there and the same, or neither is there
abbrev pub is_bank_or_none : Option Bic → Option Bic → Bool
is_bank_or_none (Some a) (Some b) = is_bank a b
is_bank_or_none None None = true
is_bank_or_none _ _ = false

-- two orders leave out the same
abbrev pub is_skip : Skip → Skip → Bool
is_skip Keep Keep = true
is_skip Mid Mid = true
is_skip Both Both = true
is_skip _ _ = false

-- two orders are the same
abbrev pub is_order : Order → Order → Bool
is_order (order.Transfer to skip via) (order.Transfer bank other mid) = is_bank to bank && is_skip skip other && is_bank_or_none via mid
is_order (order.Cover to end skip) (order.Cover bank last other) = is_bank to bank && is_bank end last && is_skip skip other
is_order (order.Pass to skip) (order.Pass bank other) = is_bank to bank && is_skip skip other
is_order (order.Debit to leg) (order.Debit bank other) = is_bank to bank && (leg == other)
is_order (order.Credit to leg) (order.Credit bank other) = is_bank to bank && (leg == other)
is_order _ _ = false

-- two lists have the same elements in the same order
abbrev pub are_all : {A : Type 0} → (A → A → Bool) → List A → List A → Bool
are_all same [] [] = true
are_all same [] (y ∷ ys) = false
are_all same (x ∷ xs) [] = false
are_all same (x ∷ xs) (y ∷ ys) = same x y && are_all same xs ys

-- two pays are equal in all their parts
abbrev pub is_equal : Pay → Pay → Bool
is_equal p q =
    bytes_eq p.mir.0 q.mir.0
    && is_mt p.mt q.mt
    && is_same_uetr p.uetr q.uetr
    && bytes_eq p.text q.text
    && int_eq p.value.0 q.value.0
    && are_all is_leg p.legs q.legs
    && are_all is_order p.orders q.orders

-- the test of equality decides it
abbrev pub EqualDecides : Type 0
EqualDecides = (p q : Pay) → IsTrue (is_equal p q) ↔ (p ≡ q)
